-- what a step of a vacuum's cleaning makes of its table, in a place that the store shows
use Rattle.std.proofs.Common.{◌≡◌, ◌≢◌, ◌⊎◌, inl, inr, ℕ, ◌<◌, List, length, Option, Some, refl, sym, subst, ◌∙◌}
use Rattle.std.specs.Prelude.{◌↔◌, IsTrue}
use Rattle.block_model.specs.declared.reply.Point.{Point}
use Rattle.block_model.specs.declared.reply.Point.TheVariants as points
use Rattle.block_model.specs.declared.row.Row.{Row}
use Rattle.page_layout.specs.PageContents.{Slot}
use Rattle.page_locks.specs.declared.did.Did.{Did}
use Rattle.page_locks.specs.declared.did.Did.TheVariants as did
use Rattle.page_locks.specs.RightHolders.{right_of}
use Rattle.heap_rows.specs.HeapBlocks.{HasBlocks}
use Rattle.store_layout.specs.declared.statement.Statement.TheVariants as statements
use Rattle.transactions.specs.ShowsDatabase.{ShowsDatabase}
use Rattle.coverage.specs.Machines.{ShownTable, table_state}
use Rattle.coverage.specs.Table.{Prunes, Resting, Task}
use Rattle.index_steps.specs.ShownRows.{rows_in, shown_by}
use Rattle.vacuum_core.specs.declared.standing.Standing.{Standing}
use Rattle.vacuum_core.specs.declared.standing.Standing.TheVariants as standings
use Rattle.vacuum_core.specs.TableSteps.{IsFirstWithin, IsSpared, VacuumGoes, account_by, has_gone, task_at, task_of}
use Rattle.vacuum_core.specs.Vacuums.{Begins, IsUnderWay, LacksRight, PrunesBlock as PrunesItsBlock, SweepsPageOf, VacuumDoes, VacuumState, VacuumStep, Waits, answer_at, standing_at}
use Rattle.script_semantics.specs.Beginnings as beginnings
use Rattle.script_semantics.specs.DeadRows.{IsDead}
use Rattle.script_semantics.specs.Place.{Place, database_at, new_hand}
use Rattle.script_semantics.specs.StatementSteps.{MakesAt, course_of}
use Rattle.session_parts.specs.RowsFollow.{RowsFollow}
use Rattle.session_parts.specs.declared.hand.Cleaning.{Cleaning}
use Rattle.session_parts.specs.declared.hand.Hand.TheVariants as hands
use Rattle.session_parts.specs.Leaving.{SeenSlotsStay}
use Rattle.session_parts.specs.ShowsPlace.{IsPlaceOf}
use Rattle.session_parts.specs.StoreStates.{ShownStore, hand_in}
use Rattle.session_maintenance.proofs.GoneRows.{does_dead}
use Rattle.session_maintenance.proofs.CleaningAt.{at_task, here, kept_here, pages_show, u, w}
use Rattle.session_maintenance.proofs.CleaningSteps.{MadeHere, turned}

-- ---- the name of a step

abbrev pub point_at : Standing → Point
point_at standings.Begins = points.Right
point_at (standings.Prunes block) = points.Prune
point_at (standings.Sweeps at block) = points.Sweep
point_at standings.Done = points.Right

-- a step that is made has this name
abbrev pub IsNamed : Point → Did → Type 0
IsNamed name (did.Moved point) = point ≡ name
IsNamed name (did.Finished point) = point ≡ name
IsNamed name answer = Unit {0}

names : (name : Point) (next : Standing) → IsNamed name (answer_at name next)
names name standings.Begins = refl
names name (standings.Prunes block) = refl
names name (standings.Sweeps at block) = refl
names name standings.Done = refl

named_at : (standing other : Standing) (next : Standing) → standing ≡ other → IsNamed (point_at standing) (answer_at (point_at other) next)
named_at standing other next is = subst (λ (q : Standing). IsNamed (point_at q) (answer_at (point_at other) next)) (sym is) (names (point_at other) next)

pub is_named : (step : VacuumStep) (a b : VacuumState) (answer : Did) → VacuumDoes step a b answer → IsNamed (point_at a.standing) answer
is_named step a _ _ (LacksRight by is held other stays) = tt
is_named step a _ _ (Begins next is takes comes) = named_at a.standing standings.Begins next is
is_named step a _ _ (PrunesItsBlock block count next is drops indexes rights comes) = named_at a.standing (standings.Prunes block) next is
is_named step a _ _ (SweepsPageOf at block index count next is there sweeps comes) = named_at a.standing (standings.Sweeps at block) (standing_at next) is
is_named step a _ _ (Waits at block index held is there page anothers stays) = tt

-- it enters nothing
enters_none : (standing : Standing) (point : Point) (p : Place) (n table : ℕ) → point ≡ point_at standing
    → MakesAt point p n (new_hand (statements.Vacuum table)) (course_of p (new_hand (statements.Vacuum table)))
enters_none standing point p n table is = subst (λ (x : Point). MakesAt x p n (new_hand (statements.Vacuum table)) (course_of p (new_hand (statements.Vacuum table)))) (sym is) (named standing)
  where
    named : (q : Standing) → MakesAt (point_at q) p n (new_hand (statements.Vacuum table)) (course_of p (new_hand (statements.Vacuum table)))
    named standings.Begins = refl
    named (standings.Prunes block) = refl
    named (standings.Sweeps place block) = refl
    named standings.Done = refl

-- ---- by where it stands

pub is_busy : (b : VacuumState) (standing : Standing) → IsUnderWay standing → task_at b standing ≢ Resting
is_busy b standings.Begins way = absurd way
is_busy b (standings.Prunes block) way = λ is. cc
is_busy b (standings.Sweeps at block) way = λ is. cc
is_busy b standings.Done way = absurd way

pub is_begun : (standing : Standing) → IsUnderWay standing → standing ≢ standings.Begins
is_begun standings.Begins way = absurd way
is_begun (standings.Prunes block) way = λ is. cc
is_begun (standings.Sweeps at block) way = λ is. cc
is_begun standings.Done way = absurd way

pub is_left : (standing : Standing) → IsUnderWay standing → standing ≢ standings.Done
is_left standings.Begins way = absurd way
is_left (standings.Prunes block) way = λ is. cc
is_left (standings.Sweeps at block) way = λ is. cc
is_left standings.Done way = absurd way

-- ---- the step

-- What stays where its table's heap has these blocks then: the database of the journal, and what others see; and exactly the dead rows of its block have gone.
pub record StillShown (old new : ShownStore) (n : ℕ) (c : Cleaning) (had : hand_in old.hands n ≡ Some (hands.Cleans c)) (below : c.vacuum.table < length old.layout.schema.tables) (p : Place) (shown : IsPlaceOf old p) (now : List (List Slot)) : Type 0 where
  pub database : ShowsDatabase old.layout new.pages old.transactions (database_at p)
  pub rows : RowsFollow old.layout old.pages new.pages old.transactions
  pub slots : SeenSlotsStay n old (u old n c had below p shown).task shown.database.stored (here old n c had below p shown).blocks now
  pub spared : IsSpared n (pages_show old n c had below p shown) (shown_by old.layout new.pages old.locks c.vacuum.table now) (u old n c had below p shown)
  pub dead : (extent next : ℕ) → (u old n c had below p shown).task n ≡ Prunes extent next → (k : ℕ)
      → IsTrue (has_gone (rows_in c.vacuum.table (here old n c had below p shown).blocks next k) (rows_in c.vacuum.table now next k))
      ↔ ((r : Row) × (rows_in c.vacuum.table (here old n c had below p shown).blocks next k ≡ Some r) × IsDead p r.id)

module _ (old new : ShownStore) (n : ℕ) (c : Cleaning) (had : hand_in old.hands n ≡ Some (hands.Cleans c)) (below : c.vacuum.table < length old.layout.schema.tables) (p : Place) (shown : IsPlaceOf old p) (now : List (List Slot))
    (has : HasBlocks old.layout new.pages c.vacuum.table now) (still : StillShown old new n c had below p shown now) (left : c.vacuum.standing ≢ standings.Done) where
  abbrev shown_then : ShownTable
  shown_then = shown_by old.layout new.pages old.locks c.vacuum.table now

  abbrev Own : Task → Type 0
  Own between = ((u old n c had below p shown).task n ≢ Resting) ⊎ beginnings.Begins p n (w old n c had below p shown) (statements.Vacuum c.vacuum.table) between

  own_by : (standing : Standing) → c.vacuum.standing ≡ standing → (between : Task) → IsFirstWithin standing (length (here old n c had below p shown).blocks) between → Own between
  own_by standings.Begins is between first = inr first
  own_by (standings.Prunes block) is between first = inl (λ rests. is_busy c.vacuum c.vacuum.standing (subst IsUnderWay (sym is) tt) (sym (at_task old n c had below p shown) ∙ rests))
  own_by (standings.Sweeps at block) is between first = inl (λ rests. is_busy c.vacuum c.vacuum.standing (subst IsUnderWay (sym is) tt) (sym (at_task old n c had below p shown) ∙ rests))
  own_by standings.Done is between first = absurd (left is)

  pub made_so : (b : VacuumState) (point : Point) (count : ℕ) (held : Option ℕ)
      → VacuumGoes n (pages_show old n c had below p shown) shown_then (right_of old.rights c.vacuum.table) held (task_of c.vacuum) (task_of b) point (account_by c.vacuum.standing count) c.vacuum.standing
      → point ≡ point_at c.vacuum.standing → held ≡ right_of new.rights c.vacuum.table
      → (made : MadeHere old new n c had below p shown point) × (made.after ≡ task_of b) × (made.account ≡ account_by c.vacuum.standing count)
  made_so b point count held goes named right =
      let lock = (here old n c had below p shown).lock in
      let at = at_task old n c had below p shown in
      let kept = kept_here old n c had below p shown in
      let it = goes.0 (u old n c had below p shown) at lock kept still.spared in
      let first = goes.1 (u old n c had below p shown) at lock kept still.spared in
      let does = does_dead p n (w old n c had below p shown) (table_state shown_then (turned n (Some n) it.2 it.0 (u old n c had below p shown))) point (account_by c.vacuum.standing count) still.spared still.dead it.3 in (
        record {
          now = now;
          has = has;
          database = still.database;
          rows = still.rows;
          slots = still.slots;
          account = account_by c.vacuum.standing count;
          between = it.2;
          after = task_of b;
          held = held;
          unnamed = it.0;
          does = does.does;
          dead = does.dead;
          settles = it.4;
          own = own_by c.vacuum.standing refl it.2 first;
          enters = enters_none c.vacuum.standing point p n c.vacuum.table named;
          right = right;
        },
        refl,
        refl,
      )
