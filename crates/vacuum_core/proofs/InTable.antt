-- each step of a vacuum, as what came of it in its table
use Rattle.std.proofs.Common.{◌≡◌, ◌≢◌, ◌⊎◌, inl, inr, ℕ, suc, ◌+◌, ◌<◌, Bool, List, length, Option, None, Some, refl, sym, ap, subst, ◌∙◌, arith}
use Rattle.std.specs.Prelude.{◌↔◌, IsTrue, drop, slice_get}
use Rattle.std.proofs.lemmas.Bool.{cases_eq, cases_lt, false≢true}
use Rattle.std.proofs.lemmas.Option.{none-some, slice_get_within}
use Rattle.block_model.specs.declared.place.Place.{Place}
use Rattle.block_model.specs.declared.place.Spot.{Spot}
use Rattle.block_model.specs.declared.reply.Point.{Point}
use Rattle.block_model.specs.declared.reply.Point.TheVariants as points
use Rattle.block_model.specs.declared.row.Row.{Row}
use Rattle.page_layout.specs.PageContents.{Slot}
use Rattle.page_locks.specs.declared.did.Did.{Did}
use Rattle.page_locks.specs.declared.did.Did.TheVariants as did
use Rattle.page_locks.specs.declared.held.Held.{Held}
use Rattle.page_locks.specs.LockChanges.{IsAnothers, page_of}
use Rattle.page_locks.specs.LockHolders.{holder}
use Rattle.page_locks.specs.RightHolders.{right_of}
use Rattle.page_map.specs.PageMap.{PageMap}
use Rattle.coverage.specs.Counts.{AreRowsGone, AreTuplesGone, HasGone}
use Rattle.coverage.specs.IndexPart.{IndexPart, SweepMakes}
use Rattle.coverage.specs.IndexView.{IndexView}
use Rattle.coverage.specs.Knowing.{Knows}
use Rattle.coverage.specs.Statements.{Holding, Statement, building_of, loose_of}
use Rattle.coverage.specs.Accounts.{Account}
use Rattle.coverage.specs.InOneIndex.{DoesAt, index_with, with_index, with_unnamed}
use Rattle.coverage.specs.Machines.{IsFewer, ShownTable, Unseen, table_state, task_turned}
use Rattle.coverage.specs.Table.{Index, Prunes, Resting, Sweeps, SweepsFrom, Task, TableState, index_view_at, pick, seen_by}
use Rattle.coverage.specs.TableCovered.{IsMaintenance, IsTableKept}
use Rattle.coverage.specs.TablePoints.{PageLock, SummariseLock, waits_for}
use Rattle.coverage.specs.TableSteps.{IsBlocked, PrunesBlock, Settles, SummariseLockHeld, SweepWaits, TakesLock, TaskTurns, Vacuum}
use Rattle.index_contents.specs.IndexContents.{IndexContents, contents, relation_of}
use Rattle.index_steps.specs.IndexTuples.{IndexShape, contents_of, index_at, shape_of}
use Rattle.index_steps.specs.ShownIndex.{Shows, lock_in, shown_part, tuple_in_place}
use Rattle.index_steps.specs.ShownRows.{row_in, rows_in}
use Rattle.index_steps.specs.ShownTable.{indexes_of, shown_at}
use Rattle.heap_rows.specs.RowPlaces.{slot_at}
use Rattle.vacuum_core.specs.declared.standing.Standing.{Standing}
use Rattle.vacuum_core.specs.declared.standing.Standing.TheVariants as standings
use Rattle.vacuum_core.specs.DeadRows.{DropsFrom}
use Rattle.vacuum_core.specs.NextPages.{IsNextIn}
use Rattle.vacuum_core.specs.TableSteps.{DoesInTable, HasCounted, IsFirstWithin, IsSpared, VacuumDid, VacuumGoes, account_by, has_gone, lock_turned, shown_after, shown_before, task_at, task_of, unnamed_turned, waits_at}
use Rattle.vacuum_core.specs.Vacuums.{Begins, ComesTo, IsVacuumOf, LacksRight, SameIndexes, StandsWell, SweepsPageOf, TakesRight, VacuumDoes, VacuumState, VacuumStep, Waits, answer_at, standing_at}
use Rattle.vacuum_core.specs.Vacuums.{PrunesBlock as StepPrunes, Sweeps as StepSweeps}
use Rattle.vacuum_core.proofs.Counting.{counts_alike}
use Rattle.vacuum_core.proofs.Settling.{ShowsIndexes, pick_other, pick_same}
use Rattle.vacuum_core.proofs.SweptIndex.{fewer_unnamed, sweep_makes, tuples_gone, unnamed_after}
use Rattle.vacuum_core.proofs.Tables.{Ascending, IndexHere, OtherIndexes, SweepsLaw, held_behind, locked_by, same_shown, settles_blocks, settles_pages, shown_one, shows_indexes, task_behind}

-- what it is of the vacuum where this is where it stands
standing_as : (Q : VacuumState → Type 0) (a : VacuumState) (standing : Standing) → a.standing ≡ standing → Q (record a { standing = standing }) → Q a
standing_as Q a standing is proof = subst Q (λ j. record a { standing = sym is j }) proof

-- rows that have gone from their slots
row_gone : (table : ℕ) (before after : Slot) → HasGone before after ↔ HasGone (row_in table before) (row_in table after)
row_gone table before after = (to before after, from before after)
  where
    to : (a b : Slot) → HasGone a b → HasGone (row_in table a) (row_in table b)
    to None b gone = absurd (gone.0 refl)
    to (Some row) b gone = (λ none. none-some _ (sym none), ap (row_in table) gone.1)

    from : (a b : Slot) → HasGone (row_in table a) (row_in table b) → HasGone a b
    from None b gone = absurd (gone.0 refl)
    from (Some row) None gone = (λ none. none-some row (sym none), refl)
    from (Some row) (Some now) gone = absurd (none-some _ (sym gone.1))

same_kept : (o : Option Row) → IsTrue (has_gone o o) → ⊥
same_kept None is = false≢true is
same_kept (Some r) is = false≢true is

then_none : (before after : Option Row) → IsTrue (has_gone before after) → after ≡ None
then_none None after is = absurd (false≢true is)
then_none (Some r) None is = refl
then_none (Some r) (Some q) is = absurd (false≢true is)

kept_or_gone : (table : ℕ) (before after : Slot) → after ≡ None → (row_in table after ≡ row_in table before) ⊎ IsTrue (has_gone (row_in table before) (row_in table after))
kept_or_gone table None after none = inl (ap (row_in table) none)
kept_or_gone table (Some row) after none = inr (subst (λ (x : Slot). IsTrue (has_gone (row_in table (Some row)) (row_in table x))) (sym none) refl)

-- where no row goes, none has to be spared
pub none_spared : (s : ℕ) (old new : ShownTable) (u : Unseen) → ((b k : ℕ) → new.row b k ≡ old.row b k) → IsSpared s old new u
none_spared s old new u same n b k other gone either = same_kept (old.row b k) (subst (λ (o : Option Row). IsTrue (has_gone (old.row b k) o)) (same b k) gone)

-- the session turns from one task to another
turned : (s : ℕ) (old new : ShownTable) (u : Unseen) (held : Option ℕ) (unnamed : ℕ → Spot → Bool) (before after : Task) → u.task s ≡ before → TaskTurns s (table_state old u) (table_state new (lock_turned held (task_turned s after (unnamed_turned unnamed u)))) before after
turned s old new u held unnamed before after was = record {
  was = was;
  now = pick_same s after (u.task s);
  others = λ n. elim (cases_eq n s) [
    | inl is ↦ inl is
    | inr other ↦ inr (pick_other n s after (u.task n) other)
  ];
}

-- the answer tells whether it goes on
answered : (s : ℕ) (old new : ShownTable) (held : Option ℕ) (a : VacuumState) (q : Standing) (extent rows unnamed count : ℕ) (point : Point)
    → HasCounted a.standing a (record a { standing = q; extent = extent; rows = rows; unnamed = unnamed }) count
    → VacuumGoes s old new held (held_behind s (length a.indexes) q) (task_of a) (task_behind (length a.indexes) extent q) point (account_by a.standing count) a.standing
    → VacuumDid s old new held a (record a { standing = q; extent = extent; rows = rows; unnamed = unnamed }) (answer_at point q)
answered s old new held a standings.Begins extent rows unnamed count point counted goes = (count, counted, goes)
answered s old new held a (standings.Prunes block) extent rows unnamed count point counted goes = (count, counted, goes)
answered s old new held a (standings.Sweeps at block) extent rows unnamed count point counted goes = (count, counted, goes)
answered s old new held a standings.Done extent rows unnamed count point counted goes = (count, counted, goes)

abbrev IsBegun : Standing → Type 0
IsBegun standings.Begins = ⊥
IsBegun standing = Unit {0}

begun_apart : (standing : Standing) → IsBegun standing → standing ≡ standings.Begins → ⊥
begun_apart standing begun is = subst (λ (q : Standing). IsBegun q) is begun

-- a later step isn't the first one
not_first : (standing this : Standing) → standing ≡ this → IsBegun this → (blocks : ℕ) (within : Task) → IsFirstWithin standing blocks within
not_first standing this is begun blocks within = subst (λ (q : Standing). IsFirstWithin q blocks within) (sym is) (by_case this begun)
  where
    by_case : (q : Standing) → IsBegun q → IsFirstWithin q blocks within
    by_case standings.Begins begun = absurd begun
    by_case (standings.Prunes block) begun = tt
    by_case (standings.Sweeps at block) begun = tt
    by_case standings.Done begun = tt

module _ (sweeps : SweepsLaw) (here : IndexHere) (others : OtherIndexes) (ascending : Ascending) (step : VacuumStep) (a : VacuumState) (of : a.indexes ≡ indexes_of step.layout a.table) where
  abbrev s : ℕ
  s = step.actor

  abbrev table : ℕ
  table = a.table

  abbrev old : ShownTable
  old = shown_before step a.table

  abbrev new : ShownTable
  new = shown_after step a.table

  counted_there : length (indexes_of step.layout a.table) ≡ length a.indexes
  counted_there = ap (length {A = ℕ}) (sym of)

  listed_there : (at n : ℕ) → slice_get a.indexes at ≡ Some n → slice_get (indexes_of step.layout a.table) at ≡ Some n
  listed_there at n is = ap (λ (l : List ℕ). slice_get l at) (sym of) ∙ is

  -- the indexes that the table shows after the step have pages of the kinds from before it
  shows_after : (u : Unseen) → IsTableKept (table_state old u) → ((n p : ℕ) → (contents step.layout step.paged n).pages.kind p ≡ (contents step.layout step.pages n).pages.kind p)
      → (z : Unseen) → ShowsIndexes (table_state new z) step.layout step.pages a.indexes
  shows_after u kept kinds z =
      subst (λ (l : List ℕ). ShowsIndexes (table_state new z) step.layout step.pages l) (sym of)
      (shows_indexes step.layout step.pages step.locks a.table step.blocks u kept (table_state new z) refl
      (λ at n p is. ap (λ (o : Option ℕ). (shown_at step.layout step.paged step.locks o).pages.kind p) is ∙ kinds n p))

  module _ (standing : a.standing ≡ standings.Begins) where
    at_rest : (u : Unseen) → u.task s ≡ task_of a → u.task s ≡ Resting
    at_rest u task = task ∙ ap (task_at a) standing

    lacks_right : (by : ℕ) → right_of step.rights table ≡ Some by → by ≢ s → DoesInTable step a a (did.NoRight by)
    lacks_right by held other = (
      λ u task lock kept. subst (λ (t : Task). (blocked : IsBlocked (table_state old u) s t) × (waits_for (table_state old u) s t blocked ≡ SummariseLock)) (sym (ap (task_at a) standing))
          (SummariseLockHeld by (lock ∙ held) other, refl),
      held,
      other,
      refl,
    )

    nobody : (u : Unseen) → u.task s ≡ Resting → IsTableKept (table_state old u) → ((n : ℕ) → u.summarise_lock ≡ Some n → n ≡ s) → (held : Option ℕ) → u.summarise_lock ≡ held → u.summarise_lock ≡ None
    nobody u rests kept free None is = is
    nobody u rests kept free (Some n) is =
        let own : u.summarise_lock ≡ Some s = is ∙ ap Some (free n is) in
        absurd (subst (λ (t : Task). IsMaintenance t) rests ((kept.summarise_lock s).0 own))

    begins : (next : Standing) → TakesRight step table → ComesTo step.layout step.pages a.indexes (length step.blocks) 0 next
        → DoesInTable step a (record a { standing = next; extent = length step.blocks; rows = 0; unnamed = 0 }) (answer_at points.Right next)
    begins next right comes =
        answered s old new (right_of step.rights table) a next (length step.blocks) 0 0 0 points.Right
        (subst (λ (q : Standing). HasCounted q a (record a { standing = next; extent = length step.blocks; rows = 0; unnamed = 0 }) 0) (sym standing) (refl, refl)) (
          (λ u task lock kept spared.
              let rests = at_rest u task in
              let first : Task = Prunes (length step.blocks) 0 in
              let same_blocks : length step.blocked ≡ length step.blocks = ap (length {A = List Slot}) right.blocks in (
                u.unnamed,
                (λ i x is. is),
                first,
                subst (λ (q : Standing). DoesAt s (table_state old u) (table_state new (lock_turned (Some s) (task_turned s first u))) points.Right (account_by q 0)) (sym standing)
                    (record {
                      does = TakesLock first Vacuum (turned s old new u (Some s) u.unnamed Resting first rests)
                          (nobody u rests kept (λ n is. right.free n (sym lock ∙ is)) u.summarise_lock refl) refl
                          (record { layout = record { indexes = refl; rows_per_page = refl; heap_limit = refl }; blocks = same_blocks; row = λ b k. ap (λ (l : List (List Slot)). rows_in table l b k) right.blocks; counts = λ t. refl })
                          (record { index = λ i. same_shown step.layout step.pages step.paged step.locks (u.unnamed i) (λ n. ap (λ (p : PageMap). contents step.layout p n) right.pages) (slice_get (indexes_of step.layout table) i) });
                      point_is = refl;
                      adds = λ x y is. is;
                    }),
                settles_blocks s new u step.layout step.pages a.indexes counted_there (λ t. shows_after u kept (λ n p. ap (λ (m : PageMap). (contents step.layout m n).pages.kind p) right.pages) (lock_turned (Some s) (task_turned s t u)))
                    (length step.blocks) 0 next comes,
              )),
          (λ u task lock kept spared. subst (λ (q : Standing). IsFirstWithin q (length step.blocks) (Prunes (length step.blocks) 0)) (sym standing) refl),
        )

  module _ (block : ℕ) (standing : a.standing ≡ standings.Prunes block) (below : block < a.extent) (count : ℕ) (drops : DropsFrom step.blocks step.blocked block count) (same : SameIndexes step) where
    at_block : (u : Unseen) → u.task s ≡ task_of a → u.task s ≡ Prunes a.extent block
    at_block u task = task ∙ ap (task_at a) standing

    abbrev dropped : ℕ → ℕ → Bool
    dropped b k = has_gone (old.row b k) (new.row b k)

    row_after : (b k : ℕ) → (new.row b k ≡ old.row b k) ⊎ IsTrue (dropped b k)
    row_after b k = elim (drops.slots (record { block = b; slot = k })) [
      | inl kept ↦ inl (ap (row_in table) kept)
      | inr gone ↦ kept_or_gone table (slot_at step.blocks (record { block = b; slot = k })) (slot_at step.blocked (record { block = b; slot = k })) gone.1
    ]

    only_there : (b k : ℕ) → IsTrue (dropped b k) → b ≡ block
    only_there b k is = elim (drops.slots (record { block = b; slot = k })) [
      | inl kept ↦ absurd (same_kept (old.row b k) (subst (λ (o : Option Row). IsTrue (has_gone (old.row b k) o)) (ap (row_in table) kept) is))
      | inr gone ↦ gone.0
    ]

    rows_gone : AreRowsGone old.row new.row block count
    rows_gone = counts_alike (λ (k : ℕ). HasGone (slot_at step.blocks (record { block = block; slot = k })) (slot_at step.blocked (record { block = block; slot = k })))
        (λ (k : ℕ). HasGone (old.row block k) (new.row block k)) count
        (λ k. (row_gone table (slot_at step.blocks (record { block = block; slot = k })) (slot_at step.blocked (record { block = block; slot = k }))).0)
        (λ k. (row_gone table (slot_at step.blocks (record { block = block; slot = k })) (slot_at step.blocked (record { block = block; slot = k }))).1) drops.counted

    prunes : (next : Standing) → ComesTo step.layout step.pages a.indexes a.extent (block + 1) next
        → DoesInTable step a (record a { standing = next; rows = a.rows + count }) (answer_at points.Prune next)
    prunes next comes =
        answered s old new (right_of step.rights table) a next a.extent (a.rows + count) a.unnamed count points.Prune
        (subst (λ (q : Standing). HasCounted q a (record a { standing = next; rows = a.rows + count }) count) (sym standing) (refl, refl)) (
          (λ u task lock kept spared.
              let at = at_block u task in
              let behind : Task = Prunes a.extent (block + 1) in
              let held : u.summarise_lock ≡ Some s = locked_by s old u (Prunes a.extent block) tt at kept in
              let e : suc block ≡ block + 1 = omega arith in (
                u.unnamed,
                (λ i x is. is),
                behind,
                subst (λ (q : Standing). DoesAt s (table_state old u) (table_state new (lock_turned (Some s) (task_turned s behind u))) points.Prune (account_by q count)) (sym standing)
                    (subst (λ (n : ℕ). DoesAt s (table_state old u) (table_state new (lock_turned (Some s) (task_turned s (Prunes a.extent n) u))) points.Prune (account_by (standings.Prunes block) count)) e
                    (record {
                      does = PrunesBlock a.extent block dropped below (λ n b k other is either. spared n b k other is either)
                          (turned s old new u (Some s) u.unnamed (Prunes a.extent block) (Prunes a.extent (suc block)) at)
                          (record {
                            layout = record { indexes = refl; rows_per_page = refl; heap_limit = refl };
                            on = only_there;
                            gone = λ b k is. then_none (old.row b k) (new.row b k) is;
                            rows = row_after;
                            blocks = drops.blocks;
                            counts = λ t. refl;
                            indexes = record { index = λ i. same_shown step.layout step.pages step.paged step.locks (u.unnamed i) same (slice_get (indexes_of step.layout table) i) };
                            summarise_lock = sym held;
                          });
                      point_is = refl;
                      adds = λ x y is. (count, rows_gone, is);
                    })),
                settles_blocks s new u step.layout step.pages a.indexes counted_there (λ t. shows_after u kept (λ n p. ap (λ (c : IndexContents). c.pages.kind p) (same n)) (lock_turned (Some s) (task_turned s t u)))
                    a.extent (block + 1) next comes,
              )),
          (λ u task lock kept spared. not_first a.standing (standings.Prunes block) standing tt (length step.blocks) (Prunes a.extent (block + 1))),
        )

  module _ (at block index : ℕ) (standing : a.standing ≡ standings.Sweeps at block) (is_there : slice_get a.indexes at ≡ Some index) where
    at_page : (u : Unseen) → u.task s ≡ task_of a → u.task s ≡ Sweeps at block
    at_page u task = task ∙ ap (task_at a) standing

    is_listed : slice_get (indexes_of step.layout table) at ≡ Some index
    is_listed = listed_there at index is_there

    inside : at < length (indexes_of step.layout table)
    inside = slice_get_within (indexes_of step.layout table) at index is_listed

    abbrev shape : IndexShape
    shape = shape_of step.layout index

    waits : (held : Held) → held.page ≡ page_of (relation_of step.layout index) block → IsAnothers (holder step.locks) s (page_of (relation_of step.layout index) block) held.by → DoesInTable step a a (did.Blocked held)
    waits held page another = (
      λ u task lock kept.
          let lock_is : (old.index at).lock block ≡ Some held.by = ap (λ (o : Option ℕ). (shown_at step.layout step.pages step.locks o).lock block) is_listed ∙ another.0 in
          let number : block ≡ held.page.block = ap (λ (p : Place). p.block) (sym page) in
          subst (λ (q : Standing). (blocked : IsBlocked (table_state old u) s (task_at a q)) × (waits_for (table_state old u) s (task_at a q) blocked ≡ waits_at q held.page.block)) (sym standing)
          (SweepWaits at block (held.by, lock_is, another.1), ap (PageLock at) number),
      refl,
    )

    module _ (count : ℕ) (swept : StepSweeps step index block count) (u : Unseen) (task : u.task s ≡ Sweeps at block) (kept : IsTableKept (table_state old u)) where
      abbrev w : TableState
      w = table_state old u

      abbrev view_of : Option ℕ → IndexView
      view_of o = record {
        contents = (shown_at step.layout step.pages step.locks o).contents;
        pages_per_range = (shown_at step.layout step.pages step.locks o).pages_per_range;
        blocks = length step.blocks;
        row = rows_in table step.blocks;
        entry = (shown_at step.layout step.pages step.locks o).entry;
        tuple = (shown_at step.layout step.pages step.locks o).tuple;
        pages = (shown_at step.layout step.pages step.locks o).pages;
        lock = (shown_at step.layout step.pages step.locks o).lock;
        summarise_lock = u.summarise_lock;
        building = λ m. building_of (seen_by at (u.task m));
        loose = λ m. loose_of (seen_by at (u.task m));
        unnamed = u.unnamed at;
      }

      shows_here : Shows shape (contents step.layout step.pages index) (lock_in step.layout step.locks index) (index_view_at at w)
      shows_here = subst (λ (o : Option ℕ). Shows shape (contents step.layout step.pages index) (lock_in step.layout step.locks index) (view_of o)) (sym is_listed)
          (record { contents = refl; entry = λ range. refl; tuple = λ x. refl; pages = refl; lock = λ page. refl })

      holds : Knows (index_view_at at w) s Holding
      holds = subst (λ (q : Statement). Knows (index_view_at at w) s q) (ap (seen_by at) task) ((kept.indexes at inside).knows s)

      abbrev unnamed_then : Spot → Bool
      unnamed_then = unnamed_after (u.unnamed at) (contents step.layout step.paged index)

      abbrev part : IndexPart
      part = shown_part shape (contents step.layout step.paged index) (lock_in step.layout step.locks index) unnamed_then

      abbrev these : ℕ → Spot → Bool
      these i = pick i at unnamed_then (u.unnamed i)

      fewer_in_all : IsFewer u.unnamed these
      fewer_in_all i x is = elim (cases_eq i at) [
        | inl same ↦
            subst (λ (m : ℕ). IsTrue (these m x) → IsTrue (u.unnamed m x)) (sym same)
            (λ now. fewer_unnamed (u.unnamed at) (contents step.layout step.paged index) x (subst (λ (f : Spot → Bool). IsTrue (f x)) (pick_same at unnamed_then (u.unnamed at)) now)) is
        | inr apart ↦ subst (λ (f : Spot → Bool). IsTrue (f x)) (pick_other i at unnamed_then (u.unnamed i) apart) is
      ]

      tuples : AreTuplesGone (w.index at).tuple part.tuple block count
      tuples = subst (λ (o : Option ℕ). AreTuplesGone (shown_at step.layout step.pages step.locks o).tuple part.tuple block count) (sym is_listed)
          (tuples_gone shape (contents step.layout step.pages index) (contents step.layout step.paged index) block count swept.counted)

      makes : SweepMakes s block (index_view_at at w) part
      makes = sweep_makes shape (contents step.layout step.pages index) (contents step.layout step.paged index) (lock_in step.layout step.locks index) s block (index_view_at at w) shows_here (kept.indexes at inside).sound
          swept.free holds.1 swept.swept

      apart_numbers : (i m : ℕ) → i ≢ at → slice_get (indexes_of step.layout table) i ≡ Some m → m ≢ index
      apart_numbers i m apart is same = elim (cases_lt i at) [
        | inl less ↦ (let low = ascending step.layout table i at m index less is is_listed in absurd (omega (arith, low, same)))
        | inr past ↦ (let low = ascending step.layout table at i index m (omega (arith, past, apart)) is_listed is in absurd (omega (arith, low, same)))
      ]

      by_number : (i : ℕ) → i ≢ at → (o : Option ℕ) → slice_get (indexes_of step.layout table) i ≡ o → shown_one step.layout step.pages step.locks (u.unnamed i) o ≡ shown_one step.layout step.paged step.locks (u.unnamed i) o
      by_number i apart None is = refl
      by_number i apart (Some m) is = λ j. shown_at_by (sym (swept.others m (apart_numbers i m apart is)) j)
        where
          shown_at_by : IndexContents → Index
          shown_at_by c = record {
            contents = contents_of (shape_of step.layout m);
            pages_per_range = (index_at step.layout m).pages_per_range;
            autosummarize = (index_at step.layout m).auto;
            entry = c.entry;
            tuple = tuple_in_place (shape_of step.layout m) c;
            pages = c.pages;
            lock = lock_in step.layout step.locks m;
            unnamed = u.unnamed i;
          }

      at_here : index_with part (w.index at) ≡ shown_one step.layout step.paged step.locks unnamed_then (slice_get (indexes_of step.layout table) at)
      at_here = subst (λ (o : Option ℕ). index_with part (shown_one step.layout step.pages step.locks (u.unnamed at) o) ≡ shown_one step.layout step.paged step.locks unnamed_then o) (sym is_listed) refl

      index_is : (next : Task) (i : ℕ) → (with_index at part s next w).index i ≡ shown_one step.layout step.paged step.locks (these i) (slice_get (indexes_of step.layout table) i)
      index_is next i = elim (cases_eq i at) [
        | inl same ↦
            subst (λ (m : ℕ). (with_index at part s next w).index m ≡ shown_one step.layout step.paged step.locks (these m) (slice_get (indexes_of step.layout table) m)) (sym same)
            (here at s part next w ∙ at_here
            ∙ ap (λ (f : Spot → Bool). shown_one step.layout step.paged step.locks f (slice_get (indexes_of step.layout table) at)) (sym (pick_same at unnamed_then (u.unnamed at))))
        | inr apart ↦
            others at s i part next w apart ∙ by_number i apart (slice_get (indexes_of step.layout table) i) refl
            ∙ ap (λ (f : Spot → Bool). shown_one step.layout step.paged step.locks f (slice_get (indexes_of step.layout table) i)) (sym (pick_other i at unnamed_then (u.unnamed i) apart))
      ]

      abbrev after : Task → TableState
      after next = table_state new (lock_turned (Some s) (task_turned s next (unnamed_turned these u)))

      table_is : (next : Task) → with_index at part s next w ≡ after next
      table_is next = λ j. record w {
        index = λ i. index_is next i j;
        blocks = length (sym swept.blocks j);
        row = rows_in table (sym swept.blocks j);
        summarise_lock = locked_by s old u (Sweeps at block) tt task kept j;
        task = λ m. pick m s next (u.task m);
      }

      kinds_stay : (n p : ℕ) → (contents step.layout step.paged n).pages.kind p ≡ (contents step.layout step.pages n).pages.kind p
      kinds_stay n p = elim (cases_eq n index) [
        | inl same ↦ subst (λ (m : ℕ). (contents step.layout step.paged m).pages.kind p ≡ (contents step.layout step.pages m).pages.kind p) (sym same) (elim (swept.swept.turns.kinds p) [
          | inl at_page ↦ ap (contents step.layout step.paged index).pages.kind at_page ∙ swept.swept.turns.now ∙ ap (contents step.layout step.pages index).pages.kind (sym at_page)
          | inr stays ↦ stays
        ])
        | inr other ↦ ap (λ (c : IndexContents). c.pages.kind p) (swept.others n other)
      ]

      does_there : DoesAt s w (after (SweepsFrom at (block + 1))) points.Sweep (with_unnamed count)
      does_there =
          let e : suc block ≡ block + 1 = omega arith in
          subst (λ (n : ℕ). DoesAt s w (after (SweepsFrom at n)) points.Sweep (with_unnamed count)) e
          (subst (λ (z : TableState). DoesAt s w z points.Sweep (with_unnamed count)) (table_is (SweepsFrom at (suc block))) (sweeps s at block w part count inside task makes tuples))

      settles_there : (next : Option (ℕ × ℕ)) → IsNextIn step.layout step.pages (drop at a.indexes) at (block + 1) next
          → Settles s (after (SweepsFrom at (block + 1))) (table_state new (lock_turned (held_behind s (length a.indexes) (standing_at next)) (task_turned s (task_behind (length a.indexes) 0 (standing_at next)) (unnamed_turned these u))))
      settles_there next comes =
          settles_pages s new (unnamed_turned these u) step.layout step.pages a.indexes counted_there (λ t. shows_after u kept kinds_stay (lock_turned (Some s) (task_turned s t (unnamed_turned these u))))
          at (block + 1) next (slice_get_within a.indexes at index is_there) comes

    -- a page's extent doesn't matter
    task_same : (next : Option (ℕ × ℕ)) (extent : ℕ) → task_behind (length a.indexes) 0 (standing_at next) ≡ task_behind (length a.indexes) extent (standing_at next)
    task_same None extent = refl
    task_same (Some next) extent = refl

    sweeps_there : (count : ℕ) (next : Option (ℕ × ℕ)) → StepSweeps step index block count → IsNextIn step.layout step.pages (drop at a.indexes) at (block + 1) next
        → DoesInTable step a (record a { standing = standing_at next; unnamed = a.unnamed + count }) (answer_at points.Sweep (standing_at next))
    sweeps_there count next swept comes =
        answered s old new (right_of step.rights table) a (standing_at next) a.extent a.rows (a.unnamed + count) count points.Sweep
        (subst (λ (q : Standing). HasCounted q a (record a { standing = standing_at next; unnamed = a.unnamed + count }) count) (sym standing) (refl, refl)) (
          (λ u task lock kept spared.
              let on = at_page u task in (
                these count swept u on kept,
                fewer_in_all count swept u on kept,
                SweepsFrom at (block + 1),
                subst (λ (q : Standing). DoesAt s (table_state old u) (after count swept u on kept (SweepsFrom at (block + 1))) points.Sweep (account_by q count)) (sym standing) (does_there count swept u on kept),
                subst (λ (t : Task). Settles s (after count swept u on kept (SweepsFrom at (block + 1))) (table_state new (lock_turned (held_behind s (length a.indexes) (standing_at next)) (task_turned s t (unnamed_turned (these count swept u on kept) u)))))
                    (task_same next a.extent) (settles_there count swept u on kept next comes),
              )),
          (λ u task lock kept spared. not_first a.standing (standings.Sweeps at block) standing tt (length step.blocks) (SweepsFrom at (block + 1))),
        )

pub does_in_table : SweepsLaw → IndexHere → OtherIndexes → Ascending → (step : VacuumStep) (a b : VacuumState) (answer : Did) → IsVacuumOf step.layout a → VacuumDoes step a b answer → DoesInTable step a b answer
does_in_table sweeps here others ascending step a _ _ of (LacksRight by is held other same) = lacks_right sweeps here others ascending step a of.indexes is by held other
does_in_table sweeps here others ascending step a _ _ of (Begins next is right comes) = begins sweeps here others ascending step a of.indexes is next right comes
does_in_table sweeps here others ascending step a _ _ of (StepPrunes block count next is drops same rights comes) =
    let well : StandsWell step.layout a (standings.Prunes block) = subst (λ (q : Standing). StandsWell step.layout a q) is of.stands in
    prunes sweeps here others ascending step a of.indexes block is well.0 count drops same next comes
does_in_table sweeps here others ascending step a _ _ of (SweepsPageOf at block index count next is there swept comes) = sweeps_there sweeps here others ascending step a of.indexes at block index is there count next swept comes
does_in_table sweeps here others ascending step a _ _ of (Waits at block index held is there page another same) = waits sweeps here others ascending step a of.indexes at block index is there held page another

-- so the session's account tells what was dropped
pub tells_counts : (standing : Standing) (a b : VacuumState) (count : ℕ) (account : Account) → HasCounted standing a b count → ((standing ≡ standings.Begins → ⊥) → (account.rows ≡ a.rows) × (account.unnamed ≡ a.unnamed))
    → ((account_by standing count account).rows ≡ b.rows) × ((account_by standing count account).unnamed ≡ b.unnamed)
tells_counts standings.Begins a b count account counted told = (sym counted.0, sym counted.1)
tells_counts (standings.Prunes block) a b count account counted told =
    let was = told (begun_apart (standings.Prunes block) tt) in
    (ap (λ (n : ℕ). n + count) was.0 ∙ sym counted.0, was.1 ∙ sym counted.1)
tells_counts (standings.Sweeps at block) a b count account counted told =
    let was = told (begun_apart (standings.Sweeps at block) tt) in
    (was.0 ∙ sym counted.0, ap (λ (n : ℕ). n + count) was.1 ∙ sym counted.1)
tells_counts standings.Done a b count account counted told = absurd counted
