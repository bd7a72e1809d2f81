-- what calls found and made of an index, as what a step of a summarise did
use Rattle.std.proofs.Common.{◌≡◌, ℕ, ◌+◌, ◌*◌, ◌≤◌, ◌<◌, min, true, false, List, length, Option, None, Some, refl, sym, ap, subst, ◌∙◌}
use Rattle.block_model.specs.declared.place.Spot.{Spot}
use Rattle.block_model.specs.declared.reply.Point.TheVariants as points
use Rattle.page_locks.specs.declared.did.Did.TheVariants as did
use Rattle.page_locks.specs.declared.held.Held.{Held}
use Rattle.range_tuple.specs.TupleBytes.{tuple_bytes}
use Rattle.range_tuple.specs.Tuples.{Tuple, parts_of, restarted}
use Rattle.coverage.specs.IndexView.{Building, IndexTuple, IndexView, Pages, Passing, IsPastMap, placeholder_length}
use Rattle.coverage.specs.Knowing.{LocksNone}
use Rattle.coverage.specs.Statements.{rows_added, HasNoMoreRows}
use Rattle.coverage.specs.Steps.{ReadsIndex}
use Rattle.coverage.specs.Verdicts.{Full, PutVerdict, Waits}
use Rattle.coverage.specs.Waiting.{FinalWaits, IsPhaseFull, PlaceFull, PlaceWaits}
use Rattle.index_contents.specs.IndexContents.{IndexContents}
use Rattle.index_steps.specs.declared.placing.Placed.{Placed}
use Rattle.index_steps.specs.declared.placing.Placed.TheVariants as placed
use Rattle.index_steps.specs.declared.swapping.Swapped.TheVariants as swaps
use Rattle.index_steps.specs.declared.moves.Move.{Move}
use Rattle.index_steps.specs.declared.moves.Move.TheVariants as moves
use Rattle.index_steps.specs.declared.moves.MoveStep.{MoveStep}
use Rattle.index_steps.specs.declared.moves.MoveStep.TheVariants as steps
use Rattle.index_steps.specs.Moves.{Comes, MoveMakes}
use Rattle.summarise_core.specs.declared.work.Work.{Work}
use Rattle.summarise_core.specs.SummariseCalled.{after_move, stage_of_move}
use Rattle.summarise_core.specs.Works.{hand_of}
use Rattle.index_steps.specs.IndexTuples.{IndexShape, classes_of, final_union, seen}
use Rattle.index_steps.specs.MoveEnds.{DropsIn, SetsIn}
use Rattle.index_steps.specs.PlaceAnswers.{NamesIn, PlaceMakes}
use Rattle.index_steps.specs.Readings.{IsReadAs, ShowsGone, ShowsTuple}
use Rattle.index_steps.specs.ShownIndex.{Shows, shown_part}
use Rattle.index_steps.specs.SwapAnswers.{SwapMakes, view_after}
use Rattle.index_steps.specs.declared.growth_stage.Stage.TheVariants as growth
use Rattle.index_steps.specs.GrowthSteps.{phase_of as growth_phase}
use Rattle.summarise_core.specs.declared.range_stage.Stage.TheVariants as stages
use Rattle.summarise_core.specs.ShownHeap.{Heap, ShowsHeap}
use Rattle.summarise_core.specs.SummariseHands.{SummariseHand}
use Rattle.summarise_core.specs.SummariseSteps.{Stepped, SummariseAt}
use Rattle.summarise_core.proofs.Seen.{empty_there, seen_sort, united_there}
use Rattle.summarise_core.proofs.Stepping.{again, copies, drops, found, gone, is_final, look_gone, looks, looks_again, moves as moves_on, names, no_entry, passes, puts_new, reads_extent, sets, swaps as swaps_in}

-- a summarise at a range
abbrev pub at_hand : IndexContents → (ℕ → Option ℕ) → SummariseHand → SummariseAt
at_hand c lock hand = record { pages = c; lock = lock; hand = hand }

-- what is so while the growth stands before a page, is so of a growth that does
pub at_rest : (Q : SummariseHand → Type 0) (hand : SummariseHand) → hand.growth.stage ≡ growth.Judge → Q (record hand { growth = record hand.growth { stage = growth.Judge } }) → Q hand
at_rest Q hand rests proof = subst Q (λ j. record hand { growth = record hand.growth { stage = sym rests j } }) proof

-- what the actor reads of the index stays
abbrev pub Reads : IndexShape → (c d : IndexContents) (lock : ℕ → Option ℕ) (s : ℕ) → Type 0
Reads shape c d lock s = (w : IndexView) → Shows shape c lock w → LocksNone w.lock s → (building : ℕ → Option Building) (loose : ℕ → Option Spot) → ReadsIndex s w (view_after shape d lock w building loose)

module _ (shape : IndexShape) (heap : Heap) (s range : ℕ) (c d : IndexContents) (lock : ℕ → Option ℕ) (hand : SummariseHand) (reads : Reads shape c d lock s) where
  pub is_named : (copied : List ℕ) (x : Spot) → c.entry range ≡ Some x
      → Stepped shape heap s range (at_hand c lock (record hand { stage = stages.Map })) (at_hand d lock (record hand { stage = stages.Tuple x; copied = copied })) (did.Moved points.Map)
  is_named copied x is = ((0, (λ w shows rows its knows pages. (w.unnamed, (λ x is. is), looks s range w (shown_part shape d lock w.unnamed) (reads w shows knows.1) x (shows.entry range ∙ is))), refl), tt)

  pub is_unnamed : (copied : List ℕ) → hand.growth.stage ≡ growth.Judge → c.entry range ≡ None
      → Stepped shape heap s range (at_hand c lock (record hand { stage = stages.Map })) (at_hand d lock (record hand { stage = stages.Place; copied = copied })) (did.Moved points.Map)
  is_unnamed copied rests is = at_rest (λ (h : SummariseHand). Stepped shape heap s range (at_hand c lock (record h { stage = stages.Map })) (at_hand d lock (record h { stage = stages.Place; copied = copied })) (did.Moved points.Map)) hand rests
      ((0, (λ w shows rows its knows pages. (w.unnamed, (λ x is. is), no_entry s range w (shown_part shape d lock w.unnamed) (reads w shows knows.1) (shows.entry range ∙ is) its)), refl), tt)

  pub has_gone : (copied : List ℕ) (united : Tuple) (x : Spot) → ShowsGone shape c range x
      → Stepped shape heap s range (at_hand c lock (record hand { stage = stages.Tuple x })) (at_hand d lock (record hand { stage = stages.Map; copied = copied; united = united })) (did.Moved points.Tuple)
  has_gone copied united x none = ((0, (λ w shows rows its knows pages. (w.unnamed, (λ x is. is), look_gone s range w (shown_part shape d lock w.unnamed) (reads w shows knows.1.0) x (none lock w shows))), refl), tt)

  pub is_taken_up : (bytes : List ℕ) (t : Tuple) (x : Spot) → ShowsTuple shape c range x bytes → IsReadAs shape bytes t → t.placeholder ≡ true
      → Stepped shape heap s range (at_hand c lock (record hand { stage = stages.Tuple x })) (at_hand d lock (record hand { stage = stages.Extent; copied = bytes; united = t })) (did.Moved points.Tuple)
  is_taken_up bytes t x there read flag =
      ((0, (λ w shows rows its knows pages. (w.unnamed, (λ x is. is), found s range w (shown_part shape d lock w.unnamed) (reads w shows knows.1.0) x (seen shape bytes) (there lock w shows) (seen_sort shape bytes t read ∙ flag))), refl), tt)

  pub had_final : (bytes : List ℕ) (t : Tuple) (x : Spot) → ShowsTuple shape c range x bytes → IsReadAs shape bytes t → t.placeholder ≡ false
      → Stepped shape heap s range (at_hand c lock (record hand { stage = stages.Tuple x })) (at_hand d lock (record hand { stage = stages.Had; copied = bytes; united = t })) (did.Finished points.Tuple)
  had_final bytes t x there read final =
      ((0, (λ w shows rows its knows pages. (w.unnamed, (λ x is. is), is_final s range w (shown_part shape d lock w.unnamed) (reads w shows knows.1.0) x (seen shape bytes) (there lock w shows) (seen_sort shape bytes t read ∙ final))), refl), tt)

  pub extent_is : (t u : Tuple) (extent first : ℕ) → parts_of t.columns ≡ classes_of shape → u ≡ restarted range t → extent ≡ min (length heap.blocks) ((range + 1) * heap.pages_per_range) → first ≡ range * heap.pages_per_range
      → Stepped shape heap s range (at_hand c lock (record hand { stage = stages.Extent })) (at_hand d lock (record hand { stage = stages.Pass; extent = extent; next = first; running = u })) (did.Moved points.Extent)
  extent_is t u extent first of started is at = (
    (
      0,
      (
          λ w shows rows its knows pages. (
            w.unnamed,
            (λ x is. is),
            reads_extent s range w (shown_part shape d lock w.unnamed) (reads w shows knows.1.0) extent first (seen shape (tuple_bytes u)) (empty_there shape c lock w range t u shows of started)
                (is ∙ ap (λ (n : ℕ). min n ((range + 1) * heap.pages_per_range)) (sym rows.blocks) ∙ ap (λ (n : ℕ). min w.blocks ((range + 1) * n)) (sym rows.pages_per_range))
                (at ∙ ap (λ (n : ℕ). range * n) (sym rows.pages_per_range)),
          )),
      refl,
    ),
    tt,
  )

  pub has_passed : (block slots : ℕ) (t u : Tuple) → block < hand.extent
      → ((w : IndexView) → Shows shape c lock w → ShowsHeap heap w → HasNoMoreRows (w.row block) slots × (seen shape (tuple_bytes u) ≡ rows_added w.contents (w.row block) slots (seen shape (tuple_bytes t))))
      → Stepped shape heap s range (at_hand c lock (record hand { stage = stages.Pass; next = block; running = t })) (at_hand d lock (record hand { stage = stages.Pass; next = block + 1; running = u })) (did.Moved points.Pass)
  has_passed block slots t u below made = (
    (
      0,
      (
          λ w shows rows its knows pages. (w.unnamed, (λ x is. is), passes s range w (shown_part shape d lock w.unnamed) (reads w shows knows.1.0) hand.extent block slots (seen shape (tuple_bytes t)) (seen shape (tuple_bytes u)) below (made w shows rows).0 (made w shows rows).1)),
      refl,
    ),
    tt,
  )

  pub is_named_again : (copied : List ℕ) (x : Spot) → hand.extent ≤ hand.next → c.entry range ≡ Some x
      → Stepped shape heap s range (at_hand c lock (record hand { stage = stages.Pass })) (at_hand d lock (record hand { stage = stages.Copy x; copied = copied })) (did.Moved points.Map)
  is_named_again copied x all is = (
    (
      0,
      (
          λ w shows rows its knows pages. (w.unnamed, (λ x is. is), looks_again s range w (shown_part shape d lock w.unnamed) (reads w shows knows.1.0) hand.extent hand.next (seen shape (tuple_bytes hand.running)) all x (shows.entry range ∙ is))),
      refl,
    ),
    tt,
  )

  pub has_left : (copied : List ℕ) (united : Tuple) (x : Spot) → ShowsGone shape c range x
      → Stepped shape heap s range (at_hand c lock (record hand { stage = stages.Copy x })) (at_hand d lock (record hand { stage = stages.Pass; copied = copied; united = united })) (did.Moved points.Copy)
  has_left copied united x none = (
    (
      0,
      (
          λ w shows rows its knows pages. (w.unnamed, (λ x is. is), gone s range w (shown_part shape d lock w.unnamed) (reads w shows knows.1.0.0) hand.extent hand.next (seen shape (tuple_bytes hand.running)) pages.3 x (none lock w shows))),
      refl,
    ),
    tt,
  )

  pub is_united : (bytes : List ℕ) (t u running : Tuple) (x : Spot) → ShowsTuple shape c range x bytes → IsReadAs shape bytes t → IsReadAs shape (tuple_bytes running) running → u ≡ final_union running t
      → Stepped shape heap s range (at_hand c lock (record hand { stage = stages.Copy x; running = running })) (at_hand d lock (record hand { stage = stages.Swap x; copied = bytes; running = running; united = u })) (did.Moved points.Copy)
  is_united bytes t u running x there read read_too is = (
    (
      0,
      (
          λ w shows rows its knows pages. (
            w.unnamed,
            (λ x is. is),
            copies s range w (shown_part shape d lock w.unnamed) (reads w shows knows.1.0.0) hand.extent hand.next (seen shape (tuple_bytes running)) pages.3 x (seen shape bytes) (seen shape (tuple_bytes u)) (there lock w shows)
                (united_there shape c lock w bytes (tuple_bytes running) t running u shows read read_too is),
          )),
      refl,
    ),
    tt,
  )

module _ (shape : IndexShape) (heap : Heap) (s range : ℕ) (c d : IndexContents) (lock locked : ℕ → Option ℕ) (hand : SummariseHand) where
  -- a placeholder is put, or its page or the map's is another's
  module _ (t u : Tuple) (of : parts_of t.columns ≡ classes_of shape) (started : u ≡ restarted range t) (rests : hand.growth.stage ≡ growth.Judge) (long : IsPastMap c.pages range → ⊥) where
    not_past : (w : IndexView) → Shows shape c lock w → IsPastMap w.pages range → ⊥
    not_past w shows = subst (λ (pages : Pages). IsPastMap pages range → ⊥) (sym shows.pages) long

    pub is_put : (y : Spot) → PlaceMakes shape c d lock locked s range (seen shape (tuple_bytes u)) (placed.Put y)
        → Stepped shape heap s range (at_hand c lock (record hand { stage = stages.Place })) (at_hand d locked (record hand { stage = stages.Name y; united = u })) (did.Moved points.Put)
    is_put y makes = at_rest (λ (h : SummariseHand). Stepped shape heap s range (at_hand c lock (record h { stage = stages.Place })) (at_hand d locked (record h { stage = stages.Name y; united = u })) (did.Moved points.Put)) hand rests (
      (
        0,
        (
            λ w shows rows its knows pages.
            let made = makes w shows knows.1.0 in
            (w.unnamed, (λ x is. is), puts_new s range w (shown_part shape d locked w.unnamed) y (seen shape (tuple_bytes u)) (empty_there shape c lock w range t u shows of started) (not_past w shows) made.0 made.1 made.2)),
        refl,
      ),
      tt,
    )

    -- as long as the placeholder is
    as_long : (w : IndexView) → Shows shape c lock w → length (seen shape (tuple_bytes u)).bytes ≡ placeholder_length w range
    as_long w shows = ap (λ (v : IndexTuple). length v.bytes) (empty_there shape c lock w range t u shows of started)

    pub waits_to_put : (held : Held) → PlaceMakes shape c d lock locked s range (seen shape (tuple_bytes u)) (placed.Waits held)
        → Stepped shape heap s range (at_hand c lock (record hand { stage = stages.Place })) (at_hand d locked (record hand { stage = stages.Place; united = u })) (did.Blocked held)
    waits_to_put held makes = at_rest (λ (h : SummariseHand). Stepped shape heap s range (at_hand c lock (record h { stage = stages.Place })) (at_hand d locked (record h { stage = stages.Place; united = u })) (did.Blocked held)) hand rests (
      (λ w shows rows knows. PlaceWaits held.page.block (not_past w shows) (subst (λ (n : ℕ). PutVerdict w s range n (Waits held.page.block)) (as_long w shows) (makes w shows knows.1.0))),
      refl,
      refl,
    )

    pub full_to_put : (w : IndexView) (number : ℕ) → Shows shape c lock w → PutVerdict w s range (length (seen shape (tuple_bytes u)).bytes) (Full number) → IsPhaseFull w s range (growth_phase shape hand.growth) number
    full_to_put w number shows verdict = at_rest (λ (h : SummariseHand). IsPhaseFull w s range (growth_phase shape h.growth) number) hand rests (PlaceFull number (not_past w shows) (subst (λ (n : ℕ). PutVerdict w s range n (Full number)) (as_long w shows) verdict))

  pub is_placed : (y : Spot) → NamesIn shape c d lock locked s range y
      → Stepped shape heap s range (at_hand c lock (record hand { stage = stages.Name y })) (at_hand d locked (record hand { stage = stages.Extent })) (did.Moved points.Set)
  is_placed y named =
      ((0, (λ w shows rows its knows pages. (w.unnamed, (λ x is. is), names s range w (shown_part shape d locked w.unnamed) y (named w shows).0 (named w shows).1)), refl), tt)

  -- the final tuple takes the placeholder's place
  module _ (x : Spot) (copied : List ℕ) (united : Tuple) where
    pub in_place : SwapMakes shape c d lock locked s range x (seen shape copied) (seen shape (tuple_bytes united)) swaps.InPlace
        → Stepped shape heap s range (at_hand c lock (record hand { stage = stages.Swap x; copied = copied; united = united })) (at_hand d locked (record hand { stage = stages.Made; copied = copied; united = united })) (did.Finished points.Swap)
    in_place makes = (
      (
        1,
        (
            λ w shows rows its knows pages.
            let made = makes w shows knows.1.0.0 in
            (w.unnamed, (λ x is. is), swaps_in s range w (shown_part shape d locked w.unnamed) (Passing hand.extent hand.next (seen shape (tuple_bytes hand.running))) x (seen shape copied) (seen shape (tuple_bytes united)) made.0 made.1)),
        refl,
      ),
      tt,
    )

    pub lost : SwapMakes shape c d lock locked s range x (seen shape copied) (seen shape (tuple_bytes united)) swaps.Differs
        → Stepped shape heap s range (at_hand c lock (record hand { stage = stages.Swap x; copied = copied; united = united })) (at_hand d locked (record hand { stage = stages.Pass; copied = copied; united = united })) (did.Moved points.Again)
    lost makes = (
      (
        0,
        (
            λ w shows rows its knows pages.
            let made = makes w shows knows.1.0.0 in
            (w.unnamed, (λ x is. is), again s range w (shown_part shape d locked w.unnamed) made.1 hand.extent hand.next (seen shape (tuple_bytes hand.running)) pages.3 x (seen shape copied) (seen shape (tuple_bytes united)) made.0)),
        refl,
      ),
      tt,
    )

    pub waits_to_swap : (held : Held) → SwapMakes shape c d lock locked s range x (seen shape copied) (seen shape (tuple_bytes united)) (swaps.Waits held)
        → Stepped shape heap s range (at_hand c lock (record hand { stage = stages.Swap x; copied = copied; united = united })) (at_hand d locked (record hand { stage = stages.Swap x; copied = copied; united = united })) (did.Blocked held)
    waits_to_swap held makes = (
      (
          λ w shows rows knows.
          FinalWaits held.page.block (Passing hand.extent hand.next (seen shape (tuple_bytes hand.running))) x (seen shape copied) (seen shape (tuple_bytes united)) (makes w shows knows.1.0.0)
          ),
      refl,
      refl,
    )

    pub put_elsewhere : (y : Spot) → SwapMakes shape c d lock locked s range x (seen shape copied) (seen shape (tuple_bytes united)) (swaps.Moves y)
        → Stepped shape heap s range (at_hand c lock (record hand { stage = stages.Swap x; copied = copied; united = united })) (at_hand d locked (record hand { stage = stages.Set x y; copied = copied; united = united })) (did.Moved points.Put)
    put_elsewhere y makes = (
      (
        0,
        (
            λ w shows rows its knows pages.
            let made = makes w shows knows.1.0.0 in
            (w.unnamed, (λ x is. is), moves_on s range w (shown_part shape d locked w.unnamed) hand.extent hand.next (seen shape (tuple_bytes hand.running)) x y (seen shape copied) (seen shape (tuple_bytes united)) pages.3 made.0 made.1 made.2)),
        refl,
      ),
      tt,
    )

  pub is_dropped : (x : Spot) → DropsIn shape c d lock locked s x
      → Stepped shape heap s range (at_hand c lock (record hand { stage = stages.Drop x })) (at_hand d locked (record hand { stage = stages.Made })) (did.Finished points.Drop)
  is_dropped x dropped = ((0, (λ w shows rows its knows pages. (w.unnamed, (λ x is. is), drops s range w (shown_part shape d locked w.unnamed) x (dropped w shows))), refl), tt)

pub is_set : (shape : IndexShape) (heap : Heap) (s range : ℕ) (c d : IndexContents) (lock : ℕ → Option ℕ) (hand : SummariseHand) (x y : Spot) → SetsIn shape c d range y
    → Stepped shape heap s range (at_hand c lock (record hand { stage = stages.Set x y })) (at_hand d lock (record hand { stage = stages.Drop x })) (did.Moved points.Set)
is_set shape heap s range c d lock hand x y named = (
  (
    1,
    (
        λ w shows rows its knows pages. (
          w.unnamed,
          (λ x is. is),
          sets s range w (shown_part shape d lock w.unnamed) (Passing hand.extent hand.next (seen shape (tuple_bytes hand.running))) x y (seen shape hand.copied) (seen shape (tuple_bytes hand.united))
              (named lock w shows s) (λ page. sym (shows.lock page)),
        )),
    refl,
  ),
  tt,
)

-- each step of the move
pub step_by : (shape : IndexShape) (heap : Heap) (s range : ℕ) (c d : IndexContents) (lock locked : ℕ → Option ℕ) (work : Work) (move : Move) (step : MoveStep) → Comes move step
    → MoveMakes shape c d lock locked s range (seen shape work.copied) (seen shape (tuple_bytes work.united)) move step
    → Stepped shape heap s range (at_hand c lock (hand_of (stage_of_move move) work)) (at_hand d locked (hand_of (after_move move step).0 work)) (after_move move step).1
step_by shape heap s range c d lock locked work (moves.Swap x) steps.InPlace comes makes = in_place shape heap s range c d lock locked (hand_of (stages.Swap x) work) x work.copied work.united makes
step_by shape heap s range c d lock locked work (moves.Swap x) steps.Differs comes makes = lost shape heap s range c d lock locked (hand_of (stages.Swap x) work) x work.copied work.united makes
step_by shape heap s range c d lock locked work (moves.Swap x) (steps.Waits held) comes makes = waits_to_swap shape heap s range c d lock locked (hand_of (stages.Swap x) work) x work.copied work.united held makes
step_by shape heap s range c d lock locked work (moves.Swap x) (steps.Put from y) comes makes =
    subst (λ (z : Spot). Stepped shape heap s range (at_hand c lock (hand_of (stages.Swap x) work)) (at_hand d locked (hand_of (stages.Set z y) work)) (did.Moved points.Put)) (sym comes)
    (put_elsewhere shape heap s range c d lock locked (hand_of (stages.Swap x) work) x work.copied work.united y makes)
step_by shape heap s range c d lock locked work (moves.Set x y) (steps.Named from) comes makes =
    subst (λ (z : Spot). Stepped shape heap s range (at_hand c lock (hand_of (stages.Set x y) work)) (at_hand d locked (hand_of (stages.Drop z) work)) (did.Moved points.Set)) (sym comes)
    (subst (λ (l : ℕ → Option ℕ). Stepped shape heap s range (at_hand c lock (hand_of (stages.Set x y) work)) (at_hand d l (hand_of (stages.Drop x) work)) (did.Moved points.Set)) (sym makes.0) (is_set shape heap s range c d lock (hand_of (stages.Set x y) work) x y makes.1))
step_by shape heap s range c d lock locked work (moves.Drop x) steps.Dropped comes makes = is_dropped shape heap s range c d lock locked (hand_of (stages.Drop x) work) x makes
step_by shape heap s range c d lock locked work move step comes makes = absurd comes

-- a put of these bytes is one of those that they are
pub placed_as : (shape : IndexShape) (s range : ℕ) (c d : IndexContents) (lock locked : ℕ → Option ℕ) (one bytes : List ℕ) (made : Placed) → one ≡ bytes
    → PlaceMakes shape c d lock locked s range (seen shape one) made → PlaceMakes shape c d lock locked s range (seen shape bytes) made
placed_as shape s range c d lock locked one bytes made is makes = subst (λ (b : List ℕ). PlaceMakes shape c d lock locked s range (seen shape b) made) is makes
