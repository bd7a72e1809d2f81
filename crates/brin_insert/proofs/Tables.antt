-- a step in an index, as one of the table
use Rattle.std.proofs.Common.{◌≡◌, ◌≢◌, inl, inr, ℕ, zero, suc, ◌<◌, List, length, Option, None, Some, refl, sym, ap, subst, ◌∙◌, arith}
use Rattle.std.specs.Prelude.{slice_get}
use Rattle.std.proofs.lemmas.Bool.{cases_eq}
use Rattle.std.proofs.lemmas.Option.{slice_get_within}
use Rattle.block_model.specs.declared.reply.Point.{Point}
use Rattle.block_model.specs.declared.row.Row.{Row}
use Rattle.page_locks.specs.LockChanges.{page_of}
use Rattle.page_locks.specs.LockHolders.{holder}
use Rattle.coverage.specs.IndexPart.{IndexPart, InsertMakes}
use Rattle.coverage.specs.IndexView.{IndexView}
use Rattle.coverage.specs.Knowing.{Knows, LocksNone}
use Rattle.coverage.specs.PageOrder.{KnowsPages}
use Rattle.coverage.specs.Statements.{OnIndex, Empty, Idle, Inserting}
use Rattle.range_tuple.specs.TupleBytes.{tuple_bytes}
use Rattle.coverage.specs.InOneIndex.{DoesAt, index_with, with_index}
use Rattle.coverage.specs.Machines.{ShownTable, Unseen, table_state, task_turned}
use Rattle.coverage.specs.Table.{Inserts, Reaches, Task, TableState, index_view_at, inserting_of, on_index_by, pick, seen_by}
use Rattle.coverage.specs.TableCovered.{IsTableKept}
use Rattle.range_tuple.specs.Tuples.{Tuple}
use Rattle.index_contents.specs.IndexContents.{contents, relation_of}
use Rattle.index_steps.specs.IndexTuples.{IndexShape, shape_of}
use Rattle.index_steps.specs.ShownIndex.{lock_in, shown_part}
use Rattle.brin_insert.specs.declared.stage.Stage.{Stage}
use Rattle.brin_insert.specs.declared.stage.Stage.TheVariants as stages
use Rattle.brin_insert.specs.InsertSteps.{on_index, statement_in}
use Rattle.index_steps.specs.ShownTable.{indexes_of, shown_at, shown_table}
use Rattle.brin_insert.specs.TableSteps.{StepsInIndex, Stores, task_after}
use Rattle.index_steps.proofs.TableIndexes.{apart_numbers, ranged, same_one, shown_one, shows_here}

-- an insert that is at one index locks no page of another
locks_none : (v : IndexView) (s b k : ℕ) (r : Row) (i at : ℕ) (on : OnIndex) → i ≢ at → Knows v s (inserting_of b k r (on_index_by i at on)) → LocksNone v.lock s
locks_none v s b k r zero zero on apart knows = absurd (apart refl)
locks_none v s b k r zero (suc at) on apart knows = knows.0
locks_none v s b k r (suc i) zero on apart knows = knows.2
locks_none v s b k r (suc i) (suc at) on apart knows = locks_none v s b k r i at on (λ same. apart (ap suc same)) knows

-- what the laws of tables say of a step in one index
abbrev pub InsertGoes : Type 0
InsertGoes = (s b k : ℕ) (r : Row) (at : ℕ) (w : TableState) (p : IndexPart) (old new : OnIndex) (point : Point) → at < w.indexes → w.task s ≡ Inserts b k r at old
    → InsertMakes s b k r (index_view_at at w) p old (Inserting b k r new) point → DoesAt s w (with_index at p s (Inserts b k r at new) w) point (λ account. account)

abbrev pub InsertCompletes : Type 0
InsertCompletes = (s b k : ℕ) (r : Row) (at : ℕ) (w : TableState) (p : IndexPart) (old : OnIndex) (point : Point) → at < w.indexes → w.task s ≡ Inserts b k r at old
    → InsertMakes s b k r (index_view_at at w) p old Idle point → DoesAt s w (with_index at p s (Reaches b k r (suc at)) w) point (λ account. account)

abbrev pub IndexHere : Type 0
IndexHere = (at s : ℕ) (p : IndexPart) (task : Task) (w : TableState) → (with_index at p s task w).index at ≡ index_with p (w.index at)

abbrev pub OtherIndexes : Type 0
OtherIndexes = (at s i : ℕ) (p : IndexPart) (task : Task) (w : TableState) → i ≢ at → (with_index at p s task w).index i ≡ w.index i

abbrev pub InsertKnows : Type 0
InsertKnows = (s b k : ℕ) (r : Row) (at : ℕ) (w : TableState) (on : OnIndex) → IsTableKept w → at < w.indexes → w.task s ≡ Inserts b k r at on
    → Knows (index_view_at at w) s (Inserting b k r on) × KnowsPages (index_view_at at w) s (Inserting b k r on)

module _ (goes : InsertGoes) (completes : InsertCompletes) (here : IndexHere) (others : OtherIndexes) (knows : InsertKnows)
    (store : Stores) (table rows_per_page blocks at n s b k : ℕ) (row : ℕ → ℕ → Option Row) (r : Row) (stage next : Stage) (copied after : List ℕ) (t v : Tuple) (point : Point)
    (there : slice_get (indexes_of store.layout table) at ≡ Some n) (steps : StepsInIndex store n s b r stage next copied after t v point)
    (u : Unseen) where
  abbrev numbers : List ℕ
  numbers = indexes_of store.layout table

  abbrev shape : IndexShape
  shape = shape_of store.layout n

  abbrev old : ShownTable
  old = shown_table store.layout store.pages store.locks table rows_per_page blocks row

  abbrev new : ShownTable
  new = shown_table store.layout store.paged store.locked table rows_per_page blocks row

  abbrev w : TableState
  w = table_state old u

  abbrev part : IndexPart
  part = shown_part shape (contents store.layout store.paged n) (lock_in store.layout store.locked n) (u.unnamed at)

  at_here : index_with part (w.index at) ≡ shown_one store.layout store.paged store.locked (u.unnamed at) (slice_get numbers at)
  at_here = subst (λ (o : Option ℕ). index_with part (shown_one store.layout store.pages store.locks (u.unnamed at) o) ≡ shown_one store.layout store.paged store.locked (u.unnamed at) o) (sym there) refl

  module _ (on : OnIndex) (task : u.task s ≡ Inserts b k r at on) (kept : IsTableKept w) where
    locks_free : (i m : ℕ) → i ≢ at → slice_get numbers i ≡ Some m → (page : ℕ) → holder store.locks (page_of (relation_of store.layout m) page) ≢ Some s
    locks_free i m apart is page locked =
        let known : Knows (index_view_at i w) s (inserting_of b k r (on_index_by i at on)) = subst (λ (q : Task). Knows (index_view_at i w) s (seen_by i q)) task ((kept.indexes i (slice_get_within numbers i m is)).knows s) in
        locks_none (index_view_at i w) s b k r i at on apart known page (ap (λ (o : Option ℕ). (shown_at store.layout store.pages store.locks o).lock page) is ∙ locked)

    by_number : (i : ℕ) → i ≢ at → (o : Option ℕ) → slice_get numbers i ≡ o → shown_one store.layout store.pages store.locks (u.unnamed i) o ≡ shown_one store.layout store.paged store.locked (u.unnamed i) o
    by_number i apart None is = refl
    by_number i apart (Some m) is =
        let other : m ≢ n = apart_numbers store.layout table i at n m apart is there in
        same_one store.layout store.pages store.paged store.locks store.locked (u.unnamed i) m (steps.others m other)
        (λ page. steps.locks.elsewhere (page_of (relation_of store.layout m) page) (λ same. other (omega (arith, same))) (locks_free i m apart is page))

    index_is : (next_task : Task) (i : ℕ) → (with_index at part s next_task w).index i ≡ shown_one store.layout store.paged store.locked (u.unnamed i) (slice_get numbers i)
    index_is next_task i = elim (cases_eq i at) [
      | inl same ↦ subst (λ (m : ℕ). (with_index at part s next_task w).index m ≡ shown_one store.layout store.paged store.locked (u.unnamed m) (slice_get numbers m)) (sym same) (here at s part next_task w ∙ at_here)
      | inr apart ↦ others at s i part next_task w apart ∙ by_number i apart (slice_get numbers i) refl
    ]

    table_is : (next_task : Task) → with_index at part s next_task w ≡ table_state new (task_turned s next_task u)
    table_is next_task = λ j. record w { index = λ i. index_is next_task i j; task = λ m. pick m s next_task (u.task m) }

  module _ (task : u.task s ≡ Inserts b k r at (on_index shape stage copied (tuple_bytes t))) (kept : IsTableKept w) where
    below : at < length numbers
    below = slice_get_within numbers at n there

    made : InsertMakes s b k r (index_view_at at w) part (on_index shape stage copied (tuple_bytes t)) (statement_in shape b k r next after (tuple_bytes v)) point
    made = steps.makes b k (index_view_at at w) (ranged store.layout store.pages store.locks table rows_per_page blocks row at n there u b) (shows_here store.layout store.pages store.locks table rows_per_page blocks row at n there u) (knows s b k r at w (on_index shape stage copied (tuple_bytes t)) kept below task).0

    by_next : (stage_after : Stage) → InsertMakes s b k r (index_view_at at w) part (on_index shape stage copied (tuple_bytes t)) (statement_in shape b k r stage_after after (tuple_bytes v)) point
        → DoesAt s w (with_index at part s (task_after store.layout n b k r at stage_after after (tuple_bytes v)) w) point (λ account. account)
    by_next stages.Map makes = goes s b k r at w part (on_index shape stage copied (tuple_bytes t)) Empty point below task makes
    by_next (stages.Copy x) makes = goes s b k r at w part (on_index shape stage copied (tuple_bytes t)) (on_index shape (stages.Copy x) after (tuple_bytes v)) point below task makes
    by_next (stages.Swap x) makes = goes s b k r at w part (on_index shape stage copied (tuple_bytes t)) (on_index shape (stages.Swap x) after (tuple_bytes v)) point below task makes
    by_next (stages.Set x y) makes = goes s b k r at w part (on_index shape stage copied (tuple_bytes t)) (on_index shape (stages.Set x y) after (tuple_bytes v)) point below task makes
    by_next (stages.Drop x) makes = goes s b k r at w part (on_index shape stage copied (tuple_bytes t)) (on_index shape (stages.Drop x) after (tuple_bytes v)) point below task makes
    by_next stages.Complete makes = completes s b k r at w part (on_index shape stage copied (tuple_bytes t)) point below task makes

    pub does_in_table : DoesAt s w (table_state new (task_turned s (task_after store.layout n b k r at next after (tuple_bytes v)) u)) point (λ account. account)
    does_in_table = subst (λ (z : TableState). DoesAt s w z point (λ account. account)) (table_is (on_index shape stage copied (tuple_bytes t)) task kept (task_after store.layout n b k r at next after (tuple_bytes v))) (by_next next made)
