-- an insert's work in the index that it is at
use Rattle.std.proofs.Common.{◌≡◌, ℕ, ◌+◌, ◌/◌, ◌<◌, ◌≤◌, Bool, true, false, All, List, length, set, get_or, Option, None, Some, refl, sym, ap, subst, ◌∙◌, arith, length-set, get_or-set_same}
use Rattle.std.specs.Prelude.{slice_get}
use Rattle.std.specs.Vec.{vec_capacity}
use Rattle.std.specs.Option.{option_map}
use Rattle.std.proofs.lemmas.List.{length-map}
use Rattle.std.proofs.lemmas.List.Elements.{All-get_or, All-set}
use Rattle.std.proofs.lemmas.Option.{get_or_from_slice_get, same_Some, slice_get-get_or, slice_get-map, slice_get_within}
use Rattle.std.proofs.Math.Seq.{map-set_same}
use Rattle.block_model.specs.declared.place.Spot.{Spot}
use Rattle.block_model.specs.declared.reply.Point.{Point}
use Rattle.block_model.specs.declared.row.Row.{Row}
use Rattle.store_layout.specs.DiskLayout.{DiskLayout}
use Rattle.page_layout.specs.RowBytes.{HaveKinds}
use Rattle.page_map.specs.PageMap.{PageMap}
use Rattle.page_locks.specs.declared.did.Did.{Did}
use Rattle.page_locks.specs.LockHolders.{LockState}
use Rattle.heap_rows.specs.Heaps.{kinds_at}
use Rattle.range_tuple.specs.TupleBytes.{tuple_bytes}
use Rattle.range_tuple.specs.Tuples.{parts_of}
use Rattle.coverage.specs.Statements.{OnIndex}
use Rattle.coverage.specs.Table.{Asks, Inserts, Task}
use Rattle.index_steps.specs.IndexTuples.{TakesValues, classes_of, index_at, shape_of}
use Rattle.brin_insert.specs.declared.insert.Insert.{Insert}
use Rattle.brin_insert.specs.declared.stage.Stage.{Stage}
use Rattle.brin_insert.specs.declared.stage.Stage.TheVariants as stages
use Rattle.brin_insert.specs.InsertHands.{InsertHand}
use Rattle.brin_insert.specs.InsertSteps.{IsAtWork, on_index}
use Rattle.brin_insert.specs.Inserts.{AsksAt, AsksIn, HasReached, HasStepAt, HasStepLeft, IsAsking, IsAtWorkIn, IsDroppedFew, IsInsertFor, IsOfIndexes, IsOfItsIndex, numbers_in, task_at, task_in, task_of, work_of}
use Rattle.index_steps.specs.ShownRows.{ShowsKept}
use Rattle.index_steps.specs.ShownTable.{indexes_of}

-- it has work there, so it is at an index
pub work_within : (works : List InsertHand) (at : ℕ) → IsAtWorkIn (slice_get works at) → at < length works
work_within works at left = by_work (slice_get works at) refl left
  where
    by_work : (o : Option InsertHand) → slice_get works at ≡ o → IsAtWorkIn o → at < length works
    by_work None none left = absurd left
    by_work (Some hand) is left = slice_get_within works at hand is

-- the work that an element of the list is
pub got_there : (works : List InsertHand) (at : ℕ) (hand : InsertHand) → at < length works → hand ≡ get_or works at hand → slice_get works at ≡ Some hand
got_there works at hand below is = slice_get-get_or works at hand below ∙ ap Some (sym is)

pub got_set : (works : List InsertHand) (at : ℕ) (hand : InsertHand) → at < length works → slice_get (set works at hand) at ≡ Some hand
got_set works at hand below =
    let long : length (set works at hand) ≡ length works = length-set works at hand in
    slice_get-get_or (set works at hand) at hand (omega (arith, long, below)) ∙ ap Some (get_or-set_same works at hand hand below)

-- the insert's task, by the work
pub task_is : (layout : DiskLayout) (insert : Insert) (x : Spot) (hand : InsertHand) → insert.place ≡ Some x → work_of insert ≡ Some hand → insert.asking ≡ false
    → task_of layout insert ≡ Inserts x.block x.slot insert.row insert.at (on_index (shape_of layout hand.index) hand.stage insert.copied (tuple_bytes hand.widened))
task_is layout insert x hand placed got silent =
    ap (λ (o : Option Spot). task_at layout insert o) placed ∙ ap (λ (o : Option InsertHand). task_in layout x insert.row insert.at insert.copied o insert.asking) got
    ∙ ap (λ (b : Bool). task_in layout x insert.row insert.at insert.copied (Some hand) b) silent

pub task_asks : (layout : DiskLayout) (insert : Insert) (x : Spot) (hand : InsertHand) → insert.place ≡ Some x → work_of insert ≡ Some hand → insert.asking ≡ true → task_of layout insert ≡ Asks x.block x.slot insert.row insert.at
task_asks layout insert x hand placed got wants =
    ap (λ (o : Option Spot). task_at layout insert o) placed ∙ ap (λ (o : Option InsertHand). task_in layout x insert.row insert.at insert.copied o insert.asking) got
    ∙ ap (λ (b : Bool). task_in layout x insert.row insert.at insert.copied (Some hand) b) wants

-- the index that the work is in
pub number_there : (layout : DiskLayout) (insert : Insert) (at : ℕ) (hand : InsertHand) → IsInsertFor layout insert → slice_get insert.works.items at ≡ Some hand → slice_get (indexes_of layout insert.row.table) at ≡ Some hand.index
number_there layout insert at hand made got =
    ap (λ (l : List ℕ). slice_get l at) (sym made.numbers) ∙ slice_get-map (λ (h : InsertHand). h.index) insert.works.items at ∙ ap (option_map (λ (h : InsertHand). h.index)) got

pub tuple_there : (layout : DiskLayout) (insert : Insert) (at : ℕ) (hand : InsertHand) → IsInsertFor layout insert → slice_get insert.works.items at ≡ Some hand → IsOfItsIndex layout hand
tuple_there layout insert at hand made got =
    subst (λ (h : InsertHand). IsOfItsIndex layout h) (get_or_from_slice_get insert.works.items at hand hand got) (All-get_or (IsOfItsIndex layout) insert.works.items at hand (slice_get_within insert.works.items at hand got) made.tuples)

-- work in the same index takes its place
module _ (works : List InsertHand) (at : ℕ) (hand next : InsertHand) (got : slice_get works at ≡ Some hand) (same : next.index ≡ hand.index) where
  pub same_numbers : numbers_in (set works at next) ≡ numbers_in works
  same_numbers = map-set_same (λ (h : InsertHand). h.index) works at next hand (same ∙ sym (ap (λ (h : InsertHand). h.index) (get_or_from_slice_get works at hand hand got)))

  pub tuples_then : (layout : DiskLayout) → IsOfItsIndex layout next → All (IsOfItsIndex layout) works → All (IsOfItsIndex layout) (set works at next)
  tuples_then layout own all = All-set (IsOfItsIndex layout) works at next own all

-- the work of an insert that has a step left, once its row is put
pub work_there : (insert : Insert) (x : Spot) (hand : InsertHand) → insert.place ≡ Some x → HasStepLeft insert → hand ≡ get_or insert.works.items insert.at hand → work_of insert ≡ Some hand
work_there insert x hand placed left is =
    got_there insert.works.items insert.at hand (work_within insert.works.items insert.at (subst (λ (o : Option Spot). HasStepAt o (work_of insert)) placed left)) is

pub is_at_work : (insert : Insert) (x : Spot) (hand : InsertHand) → insert.place ≡ Some x → HasStepLeft insert → work_of insert ≡ Some hand → IsAtWork hand.stage
is_at_work insert x hand placed left got = subst (λ (o : Option InsertHand). IsAtWorkIn o) got (subst (λ (o : Option Spot). HasStepAt o (work_of insert)) placed left)

pub left_with : (place : Option Spot) (works : List InsertHand) (at : ℕ) (x : Spot) (hand : InsertHand) → place ≡ Some x → slice_get works at ≡ Some hand → IsAtWork hand.stage → HasStepAt place (slice_get works at)
left_with place works at x hand placed got work = subst (λ (o : Option Spot). HasStepAt o (slice_get works at)) (sym placed) (subst (λ (o : Option InsertHand). IsAtWorkIn o) (sym got) work)

-- the insert is for its table still
module _ (layout : DiskLayout) (old new : Insert) (made : IsInsertFor layout old) (same : new.row ≡ old.row) (asks : new.asking ≡ true → IsAsking layout new) (room : length new.works.items ≤ vec_capacity new.dropped)
    (few : IsDroppedFew new.place new.asking new.at (length new.dropped.items)) (same_dropped : new.dropped.items ≡ old.dropped.items) where
  pub made_then : numbers_in new.works.items ≡ numbers_in old.works.items → All (IsOfItsIndex layout) new.works.items → IsInsertFor layout new
  made_then numbers tuples = record {
    table = subst (λ (r : Row). r.table < length layout.schema.tables) (sym same) made.table;
    kinds = subst (λ (r : Row). HaveKinds (kinds_at layout r.table) r.values) (sym same) made.kinds;
    taken = subst (λ (r : Row). (at n : ℕ) → slice_get (indexes_of layout r.table) at ≡ Some n → TakesValues (shape_of layout n) r.values) (sym same) made.taken;
    numbers = numbers ∙ made.numbers ∙ ap (λ (r : Row). indexes_of layout r.table) (sym same);
    tuples = tuples;
    asks = asks;
    room = room;
    few = few;
    named = subst (λ (l : List (ℕ × ℕ)). All (IsOfIndexes (length layout.schema.indexes)) l) (sym same_dropped) made.named;
  }

  -- with other work in the same index
  pub made_with : (hand next : InsertHand) → slice_get old.works.items old.at ≡ Some hand → next.index ≡ hand.index → IsOfItsIndex layout next → new.works.items ≡ set old.works.items old.at next → IsInsertFor layout new
  made_with hand next got same_index own works =
      made_then (ap numbers_in works ∙ same_numbers old.works.items old.at hand next got same_index)
      (subst (λ (l : List InsertHand). All (IsOfItsIndex layout) l) (sym works) (tuples_then old.works.items old.at hand next got same_index layout own made.tuples))

-- the tuple is of the same index still
pub own_then : (layout : DiskLayout) (hand next : InsertHand) → next.index ≡ hand.index → parts_of next.widened.columns ≡ parts_of hand.widened.columns → IsOfItsIndex layout hand → IsOfItsIndex layout next
own_then layout hand next same columns own = columns ∙ own ∙ ap (λ (n : ℕ). classes_of (shape_of layout n)) (sym same)

-- the insert is at the task that it was at
pub task_stays : (layout : DiskLayout) (old new : Insert) (x : Spot) (hand next : InsertHand) → old.place ≡ Some x → new.place ≡ Some x → new.row ≡ old.row → new.at ≡ old.at → work_of old ≡ Some hand → work_of new ≡ Some next
    → old.asking ≡ false → new.asking ≡ false → next.index ≡ hand.index → next.stage ≡ hand.stage
    → on_index (shape_of layout hand.index) hand.stage new.copied (tuple_bytes next.widened) ≡ on_index (shape_of layout hand.index) hand.stage old.copied (tuple_bytes hand.widened)
    → task_of layout new ≡ task_of layout old
task_stays layout old new x hand next placed still row at got found silent silent_too index stage on =
    task_is layout new x next still found silent_too
    ∙ ap (λ (r : Row). Inserts x.block x.slot r new.at (on_index (shape_of layout next.index) next.stage new.copied (tuple_bytes next.widened))) row
    ∙ ap (λ (i : ℕ). Inserts x.block x.slot old.row i (on_index (shape_of layout next.index) next.stage new.copied (tuple_bytes next.widened))) at
    ∙ ap (λ (n : ℕ). Inserts x.block x.slot old.row old.at (on_index (shape_of layout n) next.stage new.copied (tuple_bytes next.widened))) index
    ∙ ap (λ (q : Stage). Inserts x.block x.slot old.row old.at (on_index (shape_of layout hand.index) q new.copied (tuple_bytes next.widened))) stage
    ∙ ap (λ (h : OnIndex). Inserts x.block x.slot old.row old.at h) on
    ∙ sym (task_is layout old x hand placed got silent)

-- the range of its row in the index
pub range_is : (layout other : DiskLayout) (n m b range : ℕ) → range ≡ b / (index_at other m).pages_per_range → other ≡ layout → m ≡ n → range ≡ b / (index_at layout n).pages_per_range
range_is layout other n m b range is same at =
    is ∙ ap (λ (l : DiskLayout). b / (index_at l m).pages_per_range) same ∙ ap (λ (k : ℕ). b / (index_at layout k).pages_per_range) at

-- what pages and locks show, with the insert at this stage
pub kept_at : (layout : DiskLayout) (pages : PageMap) (locks : LockState) (s : ℕ) (insert : Insert) (x : Spot) (hand : InsertHand) (stage : Stage) → insert.place ≡ Some x → work_of insert ≡ Some hand → insert.asking ≡ false → hand.stage ≡ stage
    → ShowsKept layout pages locks s insert.row.table (task_of layout insert)
    → ShowsKept layout pages locks s insert.row.table (Inserts x.block x.slot insert.row insert.at (on_index (shape_of layout hand.index) stage insert.copied (tuple_bytes hand.widened)))
kept_at layout pages locks s insert x hand stage placed got silent is shows =
    subst (λ (t : Task). ShowsKept layout pages locks s insert.row.table t)
    (task_is layout insert x hand placed got silent ∙ ap (λ (q : Stage). Inserts x.block x.slot insert.row insert.at (on_index (shape_of layout hand.index) q insert.copied (tuple_bytes hand.widened))) is)
    shows

-- the index that any work of the table's is in
pub index_there : (layout : DiskLayout) (table : ℕ) (works : List InsertHand) (at : ℕ) (hand : InsertHand) → numbers_in works ≡ indexes_of layout table → slice_get works at ≡ Some hand → slice_get (indexes_of layout table) at ≡ Some hand.index
index_there layout table works at hand numbers got =
    ap (λ (l : List ℕ). slice_get l at) (sym numbers) ∙ slice_get-map (λ (h : InsertHand). h.index) works at ∙ ap (option_map (λ (h : InsertHand). h.index)) got

-- it asks where its next index is one that it asks in
pub comes_asking : (layout : DiskLayout) (insert : Insert) (x : Spot) (point : Point) (answer : Did) → insert.place ≡ Some x → HasReached point answer (work_of insert) → AsksIn layout x (work_of insert) → IsAsking layout insert
comes_asking layout insert x point answer placed reached asks = by_work (work_of insert) refl reached asks
  where
    by_work : (o : Option InsertHand) → work_of insert ≡ o → HasReached point answer o → AsksIn layout x o → IsAsking layout insert
    by_work None none reached asks = absurd asks
    by_work (Some hand) got reached asks = record { spot = x; hand = hand; placed = placed; work = got; begun = reached.1; asks = asks }

-- so many requests are few there
pub few_at : (place : Option Spot) (x : Spot) (asking : Bool) (at n : ℕ) → place ≡ Some x → n ≤ at → IsDroppedFew place asking at n
few_at place x asking at n placed few = subst (λ (o : Option Spot). IsDroppedFew o asking at n) (sym placed) (by_asking asking)
  where
    by_asking : (b : Bool) → IsDroppedFew (Some x) b at n
    by_asking true = few
    by_asking false = omega (arith, few)

pub few_then : (place : Option Spot) (x : Spot) (at n : ℕ) → place ≡ Some x → n ≤ at + 1 → IsDroppedFew place false at n
few_then place x at n placed few = subst (λ (o : Option Spot). IsDroppedFew o false at n) (sym placed) few

pub few_was : (place : Option Spot) (x : Spot) (asking : Bool) (at n : ℕ) → place ≡ Some x → asking ≡ false → IsDroppedFew place asking at n → n ≤ at + 1
few_was place x asking at n placed silent few = subst (λ (b : Bool). IsDroppedFew (Some x) b at n) silent (subst (λ (o : Option Spot). IsDroppedFew o asking at n) placed few)

pub none_was : (place : Option Spot) (asking : Bool) (at n : ℕ) → place ≡ None → IsDroppedFew place asking at n → n ≡ 0
none_was place asking at n none few = subst (λ (o : Option Spot). IsDroppedFew o asking at n) none few

-- as much work as there was
pub as_many : (works others : List InsertHand) → numbers_in works ≡ numbers_in others → length works ≡ length others
as_many works others same = sym (length-map works (λ (h : InsertHand). h.index)) ∙ ap length same ∙ length-map others (λ (h : InsertHand). h.index)

pub few_asking : (place : Option Spot) (x : Spot) (asking : Bool) (at n : ℕ) → place ≡ Some x → asking ≡ true → IsDroppedFew place asking at n → n ≤ at
few_asking place x asking at n placed wants few = subst (λ (b : Bool). IsDroppedFew (Some x) b at n) wants (subst (λ (o : Option Spot). IsDroppedFew o asking at n) placed few)

-- where it has to ask, its work there has begun, and its row is at the first place of a range
pub asking_there : (layout : DiskLayout) (insert : Insert) (x : Spot) (hand : InsertHand) → IsAsking layout insert → insert.place ≡ Some x → work_of insert ≡ Some hand → (hand.stage ≡ stages.Map) × AsksAt layout hand.index x
asking_there layout insert x hand asking placed got =
    let same_hand : asking.hand ≡ hand = same_Some asking.hand hand (sym asking.work ∙ got) in
    let same_spot : asking.spot ≡ x = same_Some asking.spot x (sym asking.placed ∙ placed) in (
      subst (λ (h : InsertHand). h.stage ≡ stages.Map) same_hand asking.begun,
      subst (λ (y : Spot). AsksAt layout hand.index y) same_spot (subst (λ (h : InsertHand). AsksAt layout h.index asking.spot) same_hand asking.asks),
    )
