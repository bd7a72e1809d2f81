-- the first step of a vacuum, and one at a block
use Rattle.std.proofs.Common.{◌≡◌, ◌≢◌, ℕ, ◌+◌, List, length, Option, Some, refl, sym, ap, subst, ◌∙◌}
use Rattle.std.specs.Prelude.{slice_set}
use Rattle.block_model.specs.declared.reply.Point.TheVariants as points
use Rattle.store_layout.specs.DiskLayout.{DiskLayout}
use Rattle.page_layout.specs.PageContents.{Slot}
use Rattle.page_locks.specs.declared.did.Did.{Did}
use Rattle.page_locks.specs.declared.did.Did.TheVariants as did
use Rattle.page_locks.specs.LockHolders.{LockState}
use Rattle.page_locks.specs.RightHolders.{right_of}
use Rattle.page_map.specs.PageMap.{PageMap}
use Rattle.heap_rows.specs.HeapBlocks.{HasBlocks}
use Rattle.index_contents.specs.IndexContents.{contents}
use Rattle.vacuum_core.specs.DeadRows.{DropsFrom}
use Rattle.vacuum_core.specs.declared.standing.Course.{Course}
use Rattle.vacuum_core.specs.declared.standing.Standing.{Standing}
use Rattle.vacuum_core.specs.declared.standing.Standing.TheVariants as standings
use Rattle.vacuum_core.specs.Vacuums.{Begins, ComesTo, LacksRight, PrunesBlock, VacuumDoes, VacuumState, answer_at, state_of, step_of}

module _ (layout : DiskLayout) (pages paged : PageMap) (locks : LockState) (rights righted : List (Option ℕ)) (actor table : ℕ) (a : VacuumState) (blocks : List (List Slot)) (same : paged ≡ pages) (begins : a.standing ≡ standings.Begins) (has : HasBlocks layout pages a.table blocks) where
  -- another actor has the summarise lock
  pub lacks_right : (by : ℕ) → table ≡ a.table → right_of rights table ≡ Some by → by ≢ actor → righted ≡ rights
      → (x : List (List Slot)) × HasBlocks layout paged a.table x × VacuumDoes (step_of layout pages paged locks rights righted actor blocks x) a a (did.NoRight by)
  lacks_right by at held other stays = (
    blocks,
    subst (λ (p : PageMap). HasBlocks layout p a.table blocks) (sym same) has,
    LacksRight by begins (ap (λ (t : ℕ). right_of rights t) (sym at) ∙ held) other (record { pages = same; blocks = refl; rights = stays }),
  )

  -- it takes the lock, and comes to the first block or page
  pub takes_right : (extent room dead_room : ℕ) (indexes : List ℕ) (course : Course) (next : Standing) (answer : Did) → state_of table indexes course room dead_room ≡ a → extent ≡ length blocks
      → ((n : ℕ) → right_of rights table ≡ Some n → n ≡ actor) → righted ≡ slice_set rights table (Some actor) → ComesTo layout pages indexes extent 0 next → answer ≡ answer_at points.Right next
      → (x : List (List Slot)) × HasBlocks layout paged a.table x
      × VacuumDoes (step_of layout pages paged locks rights righted actor blocks x) a (state_of table indexes (record { standing = next; extent = extent; rows = 0; unnamed = 0 }) room dead_room) answer
  takes_right extent room dead_room indexes course next answer view count free taken comes is =
      subst (λ (z : VacuumState). (x : List (List Slot)) × HasBlocks layout paged z.table x
      × VacuumDoes (step_of layout pages paged locks rights righted actor blocks x) z (state_of table indexes (record { standing = next; extent = extent; rows = 0; unnamed = 0 }) room dead_room) answer) view (
        blocks,
        subst (λ (p : PageMap). HasBlocks layout p table blocks) (sym same) (subst (λ (z : VacuumState). HasBlocks layout pages z.table blocks) (sym view) has),
        subst (λ (d : Did). VacuumDoes (step_of layout pages paged locks rights righted actor blocks blocks) (state_of table indexes course room dead_room) (state_of table indexes (record { standing = next; extent = extent; rows = 0; unnamed = 0 }) room dead_room) d) (sym is)
            (subst (λ (n : ℕ). VacuumDoes (step_of layout pages paged locks rights righted actor blocks blocks) (state_of table indexes course room dead_room) (state_of table indexes (record { standing = next; extent = n; rows = 0; unnamed = 0 }) room dead_room) (answer_at points.Right next)) (sym count)
            (Begins next (ap (λ (z : VacuumState). z.standing) view ∙ begins) (record { free = free; taken = taken; pages = same; blocks = refl }) (subst (λ (n : ℕ). ComesTo layout pages indexes n 0 next) count comes))),
      )

-- rows of its block are dropped
pub prunes_rows : (layout : DiskLayout) (pages paged : PageMap) (locks : LockState) (rights : List (Option ℕ)) (actor table block count room dead_room room_then dead_then : ℕ) (a : VacuumState) (blocks after : List (List Slot)) (indexes : List ℕ) (course : Course) (next : Standing) (answer : Did)
    → state_of table indexes course room dead_room ≡ a → a.standing ≡ standings.Prunes block → HasBlocks layout paged table after → DropsFrom blocks after block count → ((index : ℕ) → contents layout paged index ≡ contents layout pages index)
    → ComesTo layout pages indexes course.extent (block + 1) next → answer ≡ answer_at points.Prune next → room_then ≡ room → dead_then ≡ dead_room
    → (x : List (List Slot)) × HasBlocks layout paged a.table x
    × VacuumDoes (step_of layout pages paged locks rights rights actor blocks x) a (state_of table indexes (record { standing = next; extent = course.extent; rows = course.rows + count; unnamed = course.unnamed }) room_then dead_then) answer
prunes_rows layout pages paged locks rights actor table block count room dead_room room_then dead_then a blocks after indexes course next answer view at has drops same comes is room_is dead_is =
    subst (λ (z : VacuumState). (x : List (List Slot)) × HasBlocks layout paged z.table x
    × VacuumDoes (step_of layout pages paged locks rights rights actor blocks x) z (state_of table indexes (record { standing = next; extent = course.extent; rows = course.rows + count; unnamed = course.unnamed }) room_then dead_then) answer) view (
      after,
      has,
      subst (λ (d : Did). VacuumDoes (step_of layout pages paged locks rights rights actor blocks after) (state_of table indexes course room dead_room) (state_of table indexes (record { standing = next; extent = course.extent; rows = course.rows + count; unnamed = course.unnamed }) room_then dead_then) d) (sym is)
          (subst (λ (n : ℕ). VacuumDoes (step_of layout pages paged locks rights rights actor blocks after) (state_of table indexes course room dead_room) (state_of table indexes (record { standing = next; extent = course.extent; rows = course.rows + count; unnamed = course.unnamed }) n dead_then) (answer_at points.Prune next)) (sym room_is)
          (subst (λ (n : ℕ). VacuumDoes (step_of layout pages paged locks rights rights actor blocks after) (state_of table indexes course room dead_room) (state_of table indexes (record { standing = next; extent = course.extent; rows = course.rows + count; unnamed = course.unnamed }) room n) (answer_at points.Prune next)) (sym dead_is)
          (PrunesBlock block count next (ap (λ (z : VacuumState). z.standing) view ∙ at) drops same refl comes))),
    )
