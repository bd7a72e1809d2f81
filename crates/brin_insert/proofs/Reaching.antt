-- an insert that comes to an index, or is complete
use Rattle.std.proofs.Common.{◌≡◌, ℕ, zero, suc, ◌≤◌, ◌<◌, Bool, true, false, List, [], ◌∷◌, length, Option, None, Some, refl, sym, ap, subst, ◌∙◌, arith}
use Rattle.std.specs.Prelude.{slice_get}
use Rattle.std.specs.Option.{option_map}
use Rattle.std.proofs.lemmas.List.{length-map}
use Rattle.std.proofs.lemmas.Option.{none-some, slice_get-map, slice_get_within}
use Rattle.block_model.specs.declared.place.Spot.{Spot}
use Rattle.block_model.specs.declared.reply.Point.{Point}
use Rattle.block_model.specs.declared.row.Row.{Row}
use Rattle.store_layout.specs.DiskLayout.{DiskLayout}
use Rattle.page_layout.specs.PageContents.{Slot}
use Rattle.page_map.specs.PageMap.{PageMap}
use Rattle.page_locks.specs.declared.did.Did.{Did}
use Rattle.page_locks.specs.LockHolders.{LockState}
use Rattle.range_tuple.specs.TupleBytes.{tuple_bytes}
use Rattle.coverage.specs.Statements.{Empty}
use Rattle.coverage.specs.GoingOn.{IsInserting}
use Rattle.coverage.specs.Machines.{ShownIndex, ShownTable, Unseen, table_state, task_turned}
use Rattle.coverage.specs.Table.{Asks, Task, Resting, Reaches, Inserts}
use Rattle.coverage.specs.TableCovered.{IsTableKept}
use Rattle.coverage.specs.TableSteps.{Settles}
use Rattle.index_steps.specs.IndexTuples.{shape_of}
use Rattle.brin_insert.specs.declared.insert.Insert.{Insert}
use Rattle.brin_insert.specs.declared.stage.Stage.{Stage}
use Rattle.brin_insert.specs.declared.stage.Stage.TheVariants as stages
use Rattle.brin_insert.specs.InsertAnswers.{AccountsCome, DoesWith, InsertDid, InsertGoesTo, IsLeftBy}
use Rattle.brin_insert.specs.InsertHands.{InsertHand}
use Rattle.brin_insert.specs.InsertSteps.{IsAtWork, on_index}
use Rattle.brin_insert.specs.Inserts.{AsksIn, HasReached, HasStepAt, HasStepLeft, IsAtWorkIn, numbers_in, task_at, task_in, task_of, work_of}
use Rattle.index_steps.specs.ShownRows.{shown_by}
use Rattle.index_steps.specs.ShownTable.{indexes_of, shown_at}
use Rattle.brin_insert.proofs.Tasks.{left_with, task_asks, task_is}
use Rattle.brin_insert.proofs.Turning.{AsksShown, comes_to_ask, comes_to_index, goes_by, is_complete}

past_end : {X : Type 0} (xs : List X) (i : ℕ) → slice_get xs i ≡ None → length xs ≤ i
past_end [] i none = omega arith
past_end (x ∷ xs) zero none = absurd (none-some x (sym none))
past_end (x ∷ xs) (suc i) none = omega (arith, past_end xs i none)

module _ (layout : DiskLayout) (paged : PageMap) (locked : LockState) (s place : ℕ) (before : Task) (shown : ShownTable) (new : Insert) (r : Row) (x : Spot) (point : Point) (blocks : List (List Slot)) (at : ℕ)
    (row_is : new.row ≡ r) (placed : new.place ≡ Some x) (at_is : new.at ≡ at) (numbers : numbers_in new.works.items ≡ indexes_of layout r.table) (asks : new.asking ≡ true → AsksIn layout x (work_of new)) (plain : new.asking ≡ false → AsksIn layout x (work_of new) → ⊥) (inside : at ≤ length (indexes_of layout r.table))
    (does : (u : Unseen) → u.task s ≡ before → IsTableKept (table_state shown u)
    → DoesWith s (table_state shown u) (table_state (shown_by layout paged locked r.table blocks) (task_turned s (Reaches x.block x.slot r at) u)) point (AccountsCome s shown before)) where
  abbrev now : ShownTable
  now = shown_by layout paged locked r.table blocks

  abbrev between : Task
  between = Reaches x.block x.slot r at

  many : length new.works.items ≡ length (indexes_of layout r.table)
  many = sym (length-map new.works.items (λ (h : InsertHand). h.index)) ∙ ap length numbers

  comes : (after : Task) → task_of layout new ≡ after → ((u : Unseen) → Settles s (table_state now (task_turned s between u)) (table_state now (task_turned s after u))) → InsertGoesTo s shown now before (task_of layout new) point
  comes after is settles = goes_by s shown now before between (task_of layout new) point does
      (λ u. subst (λ (t : Task). Settles s (table_state now (task_turned s between u)) (table_state now (task_turned s t u))) (sym is) (settles u))

  module _ (none : work_of new ≡ None) where
    rests : task_of layout new ≡ Resting
    rests = ap (λ (o : Option Spot). task_at layout new o) placed ∙ ap (λ (o : Option InsertHand). task_in layout x new.row new.at new.copied o new.asking) none

    all : at ≡ now.indexes
    all = let past : length new.works.items ≤ new.at = past_end new.works.items new.at none in omega (arith, past, many, inside, at_is)

    completes : InsertGoesTo s shown now before (task_of layout new) point
    completes = comes Resting rests (λ u. is_complete s now u x.block x.slot r at all)

  module _ (hand : InsertHand) (got : work_of new ≡ Some hand) (begun : hand.stage ≡ stages.Map) where
    number : slice_get (indexes_of layout r.table) at ≡ Some hand.index
    number =
        ap (λ (l : List ℕ). slice_get l at) (sym numbers) ∙ slice_get-map (λ (h : InsertHand). h.index) new.works.items at
        ∙ ap (λ (i : ℕ). option_map (λ (h : InsertHand). h.index) (slice_get new.works.items i)) (sym at_is) ∙ ap (option_map (λ (h : InsertHand). h.index)) got

    -- the index as it is shown
    shown_is : (P : ShownIndex → Type 0) → P (shown_at layout paged locked (Some hand.index)) → P (now.index at)
    shown_is P there = subst (λ (o : Option ℕ). P (shown_at layout paged locked o)) (sym number) there

    shown_back : (P : ShownIndex → Type 0) → P (now.index at) → P (shown_at layout paged locked (Some hand.index))
    shown_back P there = subst (λ (o : Option ℕ). P (shown_at layout paged locked o)) number there

    below : at < length (indexes_of layout r.table)
    below = slice_get_within (indexes_of layout r.table) at hand.index number

    module _ (silent : new.asking ≡ false) where
      inserts : task_of layout new ≡ Inserts x.block x.slot r at Empty
      inserts =
          task_is layout new x hand placed got silent
          ∙ ap (λ (q : Row). Inserts x.block x.slot q new.at (on_index (shape_of layout hand.index) hand.stage new.copied (tuple_bytes hand.widened))) row_is
          ∙ ap (λ (i : ℕ). Inserts x.block x.slot r i (on_index (shape_of layout hand.index) hand.stage new.copied (tuple_bytes hand.widened))) at_is
          ∙ ap (λ (q : Stage). Inserts x.block x.slot r at (on_index (shape_of layout hand.index) q new.copied (tuple_bytes hand.widened))) begun

      goes_on : InsertGoesTo s shown now before (task_of layout new) point
      goes_on = comes (Inserts x.block x.slot r at Empty) inserts
          (λ u. comes_to_index s now u x.block x.slot r at below
          (λ asks_there. plain silent (subst (λ (o : Option InsertHand). AsksIn layout x o) (sym got) (shown_back (λ i. AsksShown i x.block x.slot) asks_there))))

      inserting : IsInserting (task_of layout new)
      inserting = subst (λ (t : Task). IsInserting t) (sym inserts) tt

    module _ (wants : new.asking ≡ true) where
      is_asking : task_of layout new ≡ Asks x.block x.slot r at
      is_asking =
          task_asks layout new x hand placed got wants
          ∙ ap (λ (q : Row). Asks x.block x.slot q new.at) row_is
          ∙ ap (λ (i : ℕ). Asks x.block x.slot r i) at_is

      goes_to_ask : InsertGoesTo s shown now before (task_of layout new) point
      goes_to_ask = comes (Asks x.block x.slot r at) is_asking
          (λ u. comes_to_ask s now u x.block x.slot r at below
          (shown_is (λ i. AsksShown i x.block x.slot) (subst (λ (o : Option InsertHand). AsksIn layout x o) got (asks wants))))

      asking_still : IsInserting (task_of layout new)
      asking_still = subst (λ (t : Task). IsInserting t) (sym is_asking) tt

    goes : (asking : Bool) → new.asking ≡ asking → InsertGoesTo s shown now before (task_of layout new) point × IsInserting (task_of layout new)
    goes true wants = (goes_to_ask wants, asking_still wants)
    goes false silent = (goes_on silent, inserting silent)

  pub reaches : (answer : Did) → HasReached point answer (work_of new) → InsertDid s place shown now before (task_of layout new) answer
  reaches answer reached = by_work (work_of new) refl reached
    where
      by_work : (o : Option InsertHand) → work_of new ≡ o → HasReached point answer o → InsertDid s place shown now before (task_of layout new) answer
      by_work None none is = subst (λ (d : Did). InsertDid s place shown now before (task_of layout new) d) (sym is) (completes none, rests none)
      by_work (Some hand) got is = subst (λ (d : Did). InsertDid s place shown now before (task_of layout new) d) (sym is.0) (goes hand got is.1 new.asking refl)

-- it has a step left there, or is complete
pub left_by : (insert : Insert) (x : Spot) (point : Point) (answer : Did) → insert.place ≡ Some x → HasReached point answer (work_of insert) → IsLeftBy insert answer
left_by insert x point answer placed reached = by_work (work_of insert) refl reached
  where
    by_work : (o : Option InsertHand) → work_of insert ≡ o → HasReached point answer o → IsLeftBy insert answer
    by_work None none is =
        subst (λ (d : Did). IsLeftBy insert d) (sym is) (λ (left : HasStepLeft insert).
        subst IsAtWorkIn none (subst (λ (p : Option Spot). HasStepAt p (work_of insert)) placed left))
    by_work (Some hand) got is = subst (λ (d : Did). IsLeftBy insert d) (sym is.0) (left_with insert.place insert.works.items insert.at x hand placed got (subst (λ (q : Stage). IsAtWork q) (sym is.1) tt))
