-- Where a statement lacks a page for what it has to put, it has no step.
use Rattle.std.proofs.Common.{◌≡◌, ⊎_elim, ℕ, ◌≤◌, ◌<◌, Some, None, length, sym, ◌∙◌, subst, arith, zero, suc}
use Rattle.std.proofs.Math.Nat.{not-le_of_lt}
use Rattle.block_model.specs.declared.row.Row.{Row}
use Rattle.block_model.specs.declared.place.Spot.{Spot}
use Rattle.coverage.specs.IndexView.{IndexTuple, Emptying, IndexView, range_of_block, next_map_page, placeholder_length}
use Rattle.std.specs.Prelude.{refl}
use Rattle.coverage.specs.Verdicts.{Verdict, Differs, Fits, Puts, Full, OnStarted, PageHasRoom, PutVerdict, NoTarget, SwapVerdict, SwapMoves}
use Rattle.coverage.specs.Rooms.{bytes_of}
use Rattle.coverage.proofs.Numbers.{lt_or_ge}
use Rattle.coverage.specs.Statements.{OnIndex, Copied, Phase, Statement, loose_in, loose_at}
use Rattle.coverage.specs.Steps.{InsertStep, SummariseStep}
use Rattle.coverage.specs.Waiting.{IsNextTuple, IsInsertEnded, EndsBefore, EndsFull, IsPhaseFull, FinalFull, PlaceFull, MapFull, EvacuateFull}
use Rattle.coverage.proofs.Verdicts.{put_once, swap_once}
use Rattle.coverage.proofs.NextSteps.{next_once, named_or_not}
use Rattle.coverage.proofs.OneOutcome.{NextOnIndex, Changed, Moved, NextInsert, GoesOn, Swapped, NextGrowth, MovesNext, SweepsNext, Turns, NextPhase, Lengthens}
use Rattle.coverage.proofs.OneOutcome.{Places, Unites, SwapsFinal, insert_next, summarise_next}

abbrev IsFull : Verdict → Type 0
IsFull (Full number) = Unit
IsFull verdict = ⊥

module _ (w : IndexView) (s range number : ℕ) where
  full_fits : (x : Spot) (old new : IndexTuple) → SwapVerdict w s range x old new (Full number) → SwapVerdict w s range x old new Fits → ⊥
  full_fits x old new full fits = subst IsFull (swap_once w s range x old new (Full number) Fits full fits) tt

  full_judged : (x : Spot) (old new : IndexTuple) (h : OnIndex) → SwapVerdict w s range x old new (Full number) → NextOnIndex w s range (Copied x old new) h → ⊥
  full_judged x old new _ full (Changed _ _ _ differs) = subst IsFull (swap_once w s range x old new (Full number) Differs full differs) tt
  full_judged x old new _ full (Moved _ y _ _ puts) = subst IsFull (swap_once w s range x old new (Full number) (Puts y) full puts) tt

  full_grows : (x : Spot) (t : IndexTuple) (new : Phase) → IsNextTuple w.tuple (next_map_page w.pages) x t → w.entry t.range ≡ Some x
      → PutVerdict w s t.range (length t.bytes) (Full number) → NextGrowth w s Emptying new → ⊥
  full_grows x t _ next named full (MovesNext x' y t' next' named' verdict) =
      let same = next_once w (next_map_page w.pages) x x' t t' next next' in
      subst IsFull (put_once w s t.range (length t.bytes) (Full number) (Puts y) full
      (subst (λ (u : IndexTuple). PutVerdict w s u.range (length u.bytes) (Puts y)) (sym same.1) verdict)) tt
  full_grows x t _ next named full (SweepsNext x' t' next' unnamed) = named_or_not w (next_map_page w.pages) x x' t t' next next' named unnamed
  full_grows x t _ next named full (Turns none) = none x t next

phase_full : (w : IndexView) (s range number : ℕ) (phase : Phase) (e : Statement) → IsPhaseFull w s range phase number → NextPhase w s range phase e → ⊥
phase_full w s range number _ _ (FinalFull _ _ x old new full) (Unites _ _ _ _ h all next) = full_judged w s range number x old new h full next
phase_full w s range number _ _ (FinalFull _ _ x old new full) (SwapsFinal _ _ _ _ fits) = full_fits w s range number x old new full fits
phase_full w s range number _ _ (PlaceFull _ long full) (Lengthens kind new grows growth) = long grows.short
phase_full w s range number _ _ (PlaceFull _ long full) (Places y long' verdict) =
    subst IsFull (put_once w s range (placeholder_length w range) (Full number) (Puts y) full verdict) tt
phase_full w s range _ _ _ (MapFull past limit) (Lengthens kind new grows growth) = not-le_of_lt grows.below limit
phase_full w s range _ _ _ (MapFull past limit) (Places y long verdict) = long past
phase_full w s range number _ _ (EvacuateFull _ x t grows next named free full) (Lengthens kind new grows' growth) =
    full_grows w s range number x t new next named full (subst (λ l. NextGrowth w s l new) (sym grows'.is ∙ grows.is) growth)
phase_full w s range number _ _ (EvacuateFull _ x t grows next named free full) (Places y long verdict) = long grows.short

pub summarise_full : (w v : IndexView) (s range number : ℕ) (phase : Phase) (e : Statement) → IsPhaseFull w s range phase number → SummariseStep s range w v phase e → ⊥
summarise_full w v s range number phase e full step = phase_full w s range number phase e full (summarise_next s range w v phase e step)

insert_next_full : (w : IndexView) (s b k number : ℕ) (r : Row) (x : Spot) (old new : IndexTuple) (e : Statement)
    → SwapVerdict w s (range_of_block w b) x old new (Full number) → NextInsert w s b k r (Copied x old new) e → ⊥
insert_next_full w s b k number r x old new _ full (GoesOn _ h next) = full_judged w s (range_of_block w b) number x old new h full next
insert_next_full w s b k number r x old new _ full (Swapped _ _ _ fits) = full_fits w s (range_of_block w b) number x old new full fits

pub insert_full : (w v : IndexView) (s b k number : ℕ) (r : Row) (x : Spot) (old new : IndexTuple) (e : Statement)
    → SwapVerdict w s (range_of_block w b) x old new (Full number) → InsertStep s b k r w v (Copied x old new) e → ⊥
insert_full w v s b k number r x old new e full step = insert_next_full w s b k number r x old new e full (insert_next s b k r w v (Copied x old new) e step)

-- the number of a full answer is that of all pages that there may be
pub full_put : (w : IndexView) (s range need number : ℕ) → PutVerdict w s range need (Full number) → number ≡ w.pages.limit
full_put w s range need _ (NoTarget none) = refl

pub full_swap : (w : IndexView) (s range number : ℕ) (x : Spot) (old new : IndexTuple) → SwapVerdict w s range x old new (Full number)
    → number ≡ w.pages.limit
full_swap w s range number x old new (SwapMoves _ free here must puts) = full_put w s range (length new.bytes) number puts

-- where a page has room for the tuple, no put of it is full
pub room_not_full : (w : IndexView) (s range need number p : ℕ) → PageHasRoom w.pages (bytes_of w.tuple) need p → PutVerdict w s range need (Full number) → ⊥
room_not_full w s range need _ p has (NoTarget none) = below (suc p) p (omega arith) has
  where
    below : (n i : ℕ) → i < n → PageHasRoom w.pages (bytes_of w.tuple) need i → ⊥
    below zero i less has = absurd (omega (arith, less))
    below (suc n) i less has = none i (OnStarted (has, λ q its. ⊎_elim (λ (lower : q < i). absurd (below n q (omega (arith, less, lower)) its)) (λ (above : i ≤ q). above) (lt_or_ge q i)))

pub room_not_full_swap : (w : IndexView) (s range number p : ℕ) (x : Spot) (old new : IndexTuple) → PageHasRoom w.pages (bytes_of w.tuple) (length new.bytes) p → SwapVerdict w s range x old new (Full number) → ⊥
room_not_full_swap w s range number p x old new has (SwapMoves _ free here must puts) = room_not_full w s range (length new.bytes) number p has puts

pub full_phase : (w : IndexView) (s range number : ℕ) (phase : Phase) → IsPhaseFull w s range phase number → number ≡ w.pages.limit
full_phase w s range number _ (FinalFull _ p x old new full) = full_swap w s range number x old new full
full_phase w s range number _ (PlaceFull _ long full) = full_put w s range (placeholder_length w range) number full
full_phase w s range _ _ (MapFull past limit) = refl
full_phase w s range number _ (EvacuateFull _ x t grows next named free full) = full_put w s t.range (length t.bytes) number full

-- who lacks a page has no tuple loose
pub ended_loose : (w : IndexView) (s b : ℕ) (on_index : OnIndex) → IsInsertEnded w s b on_index → loose_in on_index ≡ None
ended_loose w s b _ EndsBefore = refl
ended_loose w s b _ (EndsFull number x old new full) = refl

pub full_loose : (w : IndexView) (s range number : ℕ) (phase : Phase) → IsPhaseFull w s range phase number → loose_at phase ≡ None
full_loose w s range number _ (FinalFull _ p x old new full) = refl
full_loose w s range _ _ _ = refl
