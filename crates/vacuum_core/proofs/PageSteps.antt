-- a step of a vacuum at a page of an index
use Rattle.std.proofs.Common.{◌≡◌, inl, inr, ℕ, zero, suc, ◌+◌, ◌<◌, List, [], ◌∷◌, length, Option, Some, refl, sym, ap, subst, ◌∙◌, arith}
use Rattle.std.specs.Prelude.{drop, slice_get, slice_index_or}
use Rattle.std.proofs.lemmas.Option.{none-some}
use Rattle.block_model.specs.declared.reply.Point.TheVariants as points
use Rattle.disk_trait.specs.Told.{Told}
use Rattle.store_layout.specs.DiskLayout.{DiskLayout}
use Rattle.page_layout.specs.PageContents.{HasSlots, IsUnstarted, Slot}
use Rattle.page_locks.specs.declared.did.Did.{Did}
use Rattle.page_locks.specs.declared.did.Did.TheVariants as did
use Rattle.page_locks.specs.declared.held.Held.{Held}
use Rattle.page_locks.specs.LockChanges.{IsAnothers, IsFreeFor, page_of}
use Rattle.page_locks.specs.LockHolders.{LockState, holder}
use Rattle.page_map.specs.Keeps.{Keeps, Tells}
use Rattle.page_map.specs.PageMap.{PageMap, View, block_at}
use Rattle.coverage.specs.Counts.{HasGone, IsCountOf}
use Rattle.heap_rows.specs.HeapBlocks.{HasBlocks, slots_of}
use Rattle.heap_rows.specs.Heaps.{form_at, relation_of as table_relation}
use Rattle.index_contents.specs.Calls.{leaves_then}
use Rattle.index_contents.specs.IndexChanges.{LeavesOtherPages, LeavesOthers}
use Rattle.index_contents.specs.IndexContents.{IndexContents, contents, relation_of}
use Rattle.index_contents.specs.PageLaws.{leaves_others}
use Rattle.vacuum_core.specs.declared.standing.Course.{Course}
use Rattle.vacuum_core.specs.declared.standing.Standing.{Standing}
use Rattle.vacuum_core.specs.declared.standing.Standing.TheVariants as standings
use Rattle.vacuum_core.specs.NextPages.{IsNextIn}
use Rattle.vacuum_core.specs.SweptPages.{IsUnnamedAt, SweepsPage}
use Rattle.vacuum_core.specs.Vacuums.{Sweeps, SweepsPageOf, VacuumDoes, VacuumState, Waits, answer_at, standing_at, state_of, step_of}
use Rattle.vacuum_core.proofs.Counting.{counts_alike}

at_place : (l : List ℕ) (at x : ℕ) → at < length l → x ≡ slice_index_or l at x → (slice_get l at ≡ Some x) × (slice_index_or l at 0 ≡ x)
at_place [] at x low is = absurd (omega (arith, low))
at_place (y ∷ l) zero x low is = (ap Some (sym is), sym is)
at_place (y ∷ l) (suc at) x low is = at_place l at x (omega (arith, low)) is

-- the number that is read at a place of a list stands there
pub named_by : (l m : List ℕ) (from at x : ℕ) → l ≡ m → at < length m → from ≡ at → x ≡ slice_index_or l from x → (slice_get m at ≡ Some x) × (slice_index_or m at 0 ≡ x)
named_by l m from at x same low place is =
    at_place m at x low (subst (λ (k : List ℕ). x ≡ slice_index_or k at x) same (subst (λ (n : ℕ). x ≡ slice_index_or l n x) place is))

-- as many tuples have gone as are unnamed
pub count_gone : (c d : IndexContents) (block count : ℕ) → SweepsPage c d block → IsCountOf (λ k. IsUnnamedAt c (record { block = block; slot = k })) count
    → IsCountOf (λ k. HasGone (c.bytes (record { block = block; slot = k })) (d.bytes (record { block = block; slot = k }))) count
count_gone c d block count swept counted =
    counts_alike (λ (k : ℕ). IsUnnamedAt c (record { block = block; slot = k })) (λ (k : ℕ). HasGone (c.bytes (record { block = block; slot = k })) (d.bytes (record { block = block; slot = k }))) count
    (λ k unnamed. (λ none. none-some unnamed.0 (sym none ∙ unnamed.1), swept.gone (record { block = block; slot = k }) refl unnamed))
    (λ k gone. elim (swept.others (record { block = block; slot = k })) [
      | inl same ↦ absurd (gone.0 (sym same ∙ gone.1))
      | inr is ↦ is.1
    ]) counted

-- where the pages of a heap stay, so do its blocks
pub heap_stays : (layout : DiskLayout) (pages paged : PageMap) (table : ℕ) (blocks : List (List Slot)) → ((block : ℕ) → block_at paged (table_relation table) block ≡ block_at pages (table_relation table) block)
    → HasBlocks layout pages table blocks → HasBlocks layout paged table blocks
heap_stays layout pages paged table blocks same has = record {
  within = has.within;
  started = λ block low. subst (λ (p : List ℕ). HasSlots (form_at layout table) p (slots_of blocks block)) (sym (same block)) (has.started block low);
  unstarted = λ block past low. subst IsUnstarted (sym (same block)) (has.unstarted block past low);
}

-- the page is swept by a call behind one that changed nothing
module _ {D : Type 0} (told : D → Told) (index block : ℕ) (v0 v1 v2 : View D) (kept : Keeps told v0 v1) (leaves : LeavesOtherPages told (record { relation = relation_of v1.layout index; block = block }) v1 v2) where
  pub page_leaves : LeavesOtherPages told (page_of (relation_of v0.layout index) block) v0 v2
  page_leaves = leaves_then told (page_of (relation_of v0.layout index) block) v0 v1 v2 kept (subst (λ (l : DiskLayout). LeavesOtherPages told (page_of (relation_of l index) block) v1 v2) kept.leaves.layout leaves)

  pub index_leaves : LeavesOthers told index v0 v2
  index_leaves = leaves_others told index (page_of (relation_of v0.layout index) block) v0 v2 refl page_leaves

  heap_apart : (table : ℕ) → table < length v0.layout.schema.tables → Tells told v0 → (b : ℕ) → block_at v2.pages (table_relation table) b ≡ block_at v0.pages (table_relation table) b
  heap_apart table there tells b = index_leaves.pages tells (record { relation = table_relation table; block = b }) (λ same. absurd (omega (arith, same, there)))

  pub blocks_then : (table : ℕ) (blocks : List (List Slot)) → table < length v0.layout.schema.tables → Tells told v0 → HasBlocks v0.layout v0.pages table blocks → HasBlocks v0.layout v2.pages table blocks
  blocks_then table blocks there tells has = heap_stays v0.layout v0.pages v2.pages table blocks (heap_apart table there tells) has

  pub swept_then : (Tells told v1 → SweepsPage (contents v1.layout v1.pages index) (contents v1.layout v2.pages index) block) → Tells told v0 → SweepsPage (contents v0.layout v0.pages index) (contents v0.layout v2.pages index) block
  swept_then swept tells =
      subst (λ (l : DiskLayout). SweepsPage (contents l v0.pages index) (contents l v2.pages index) block) kept.leaves.layout
      (subst (λ (p : PageMap). SweepsPage (contents v1.layout p index) (contents v1.layout v2.pages index) block) (kept.pages tells) (swept (kept.leaves.tells ∙ tells)))

  pub counted_then : (count : ℕ) → (Tells told v1 → IsCountOf (λ k. IsUnnamedAt (contents v1.layout v1.pages index) (record { block = block; slot = k })) count) → Tells told v0
      → IsCountOf (λ k. IsUnnamedAt (contents v0.layout v0.pages index) (record { block = block; slot = k })) count
  counted_then count counted tells =
      subst (λ (l : DiskLayout). IsCountOf (λ k. IsUnnamedAt (contents l v0.pages index) (record { block = block; slot = k })) count) kept.leaves.layout
      (subst (λ (p : PageMap). IsCountOf (λ k. IsUnnamedAt (contents v1.layout p index) (record { block = block; slot = k })) count) (kept.pages tells) (counted (kept.leaves.tells ∙ tells)))

  -- so it is a sweep of a step
  pub step_sweeps : (locks : LockState) (rights : List (Option ℕ)) (actor count : ℕ) (blocks : List (List Slot)) → IsFreeFor (holder locks) actor (page_of (relation_of v0.layout index) block)
      → (Tells told v1 → SweepsPage (contents v1.layout v1.pages index) (contents v1.layout v2.pages index) block)
      → (Tells told v1 → IsCountOf (λ k. IsUnnamedAt (contents v1.layout v1.pages index) (record { block = block; slot = k })) count) → Tells told v0
      → Sweeps (step_of v0.layout v0.pages v2.pages locks rights rights actor blocks blocks) index block count
  step_sweeps locks rights actor count blocks free swept counted tells = record {
    free = free;
    swept = swept_then swept tells;
    counted = count_gone (contents v0.layout v0.pages index) (contents v0.layout v2.pages index) block count (swept_then swept tells) (counted_then count counted tells);
    others = λ other apart. index_leaves.indexes tells other apart;
    blocks = refl;
    rights = refl;
  }

-- another actor holds the lock of its page
pub waits_page : (layout : DiskLayout) (pages : PageMap) (locks : LockState) (rights : List (Option ℕ)) (actor at block index : ℕ) (a : VacuumState) (blocks : List (List Slot)) (held : Held) → a.standing ≡ standings.Sweeps at block → slice_get a.indexes at ≡ Some index
    → HasBlocks layout pages a.table blocks → held.page ≡ page_of (relation_of layout index) block → IsAnothers (holder locks) actor (page_of (relation_of layout index) block) held.by
    → (x : List (List Slot)) × HasBlocks layout pages a.table x × VacuumDoes (step_of layout pages pages locks rights rights actor blocks x) a a (did.Blocked held)
waits_page layout pages locks rights actor at block index a blocks held is there has page another =
    (blocks, has, Waits at block index held is there page another (record { pages = refl; blocks = refl; rights = refl }))

-- tuples of its page are dropped
pub sweeps_page : (layout : DiskLayout) (pages paged : PageMap) (locks : LockState) (rights : List (Option ℕ)) (actor table at block index count room dead_room : ℕ) (a : VacuumState) (blocks : List (List Slot)) (indexes : List ℕ) (course : Course) (next : Option (ℕ × ℕ))
    (standing : Standing) (answer : Did) → state_of table indexes course room dead_room ≡ a → a.standing ≡ standings.Sweeps at block → slice_get indexes at ≡ Some index → HasBlocks layout paged table blocks
    → Sweeps (step_of layout pages paged locks rights rights actor blocks blocks) index block count → IsNextIn layout pages (drop at indexes) at (block + 1) next → standing ≡ standing_at next → answer ≡ answer_at points.Sweep standing
    → (x : List (List Slot)) × HasBlocks layout paged a.table x
    × VacuumDoes (step_of layout pages paged locks rights rights actor blocks x) a (state_of table indexes (record { standing = standing; extent = course.extent; rows = course.rows; unnamed = course.unnamed + count }) room dead_room) answer
sweeps_page layout pages paged locks rights actor table at block index count room dead_room a blocks indexes course next standing answer view is there has swept comes stands answers =
    subst (λ (z : VacuumState). (x : List (List Slot)) × HasBlocks layout paged z.table x
    × VacuumDoes (step_of layout pages paged locks rights rights actor blocks x) z (state_of table indexes (record { standing = standing; extent = course.extent; rows = course.rows; unnamed = course.unnamed + count }) room dead_room) answer) view (
      blocks,
      has,
      subst (λ (d : Did). VacuumDoes (step_of layout pages paged locks rights rights actor blocks blocks) (state_of table indexes course room dead_room) (state_of table indexes (record { standing = standing; extent = course.extent; rows = course.rows; unnamed = course.unnamed + count }) room dead_room) d) (sym answers)
          (subst (λ (q : Standing). VacuumDoes (step_of layout pages paged locks rights rights actor blocks blocks) (state_of table indexes course room dead_room) (state_of table indexes (record { standing = q; extent = course.extent; rows = course.rows; unnamed = course.unnamed + count }) room dead_room) (answer_at points.Sweep q)) (sym stands)
          (SweepsPageOf at block index count next (ap (λ (z : VacuumState). z.standing) view ∙ is) there swept comes)),
    )
