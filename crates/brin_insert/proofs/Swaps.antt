-- what a step of the move made, as one of the insert
use Rattle.std.proofs.Common.{◌≡◌, ℕ, List, [], ◌∷◌, Option, refl, sym, subst}
use Rattle.block_model.specs.declared.place.Spot.{Spot}
use Rattle.block_model.specs.declared.reply.Point.TheVariants as points
use Rattle.block_model.specs.declared.row.Row.{Row}
use Rattle.page_locks.specs.declared.did.Did.TheVariants as did
use Rattle.page_locks.specs.declared.held.Held.{Held}
use Rattle.coverage.specs.IndexPart.{with_part}
use Rattle.coverage.specs.IndexView.{map_page_of}
use Rattle.coverage.specs.Knowing.{LocksThese}
use Rattle.coverage.specs.Steps.{SetsEntry}
use Rattle.coverage.specs.Verdicts.{Differs, Fits, Puts, SwapVerdict}
use Rattle.index_contents.specs.IndexContents.{IndexContents}
use Rattle.index_steps.specs.declared.moves.Move.{Move}
use Rattle.index_steps.specs.declared.moves.Move.TheVariants as moves
use Rattle.index_steps.specs.declared.moves.MoveStep.{MoveStep}
use Rattle.index_steps.specs.declared.moves.MoveStep.TheVariants as steps
use Rattle.index_steps.specs.declared.swapping.Swapped.TheVariants as swaps
use Rattle.index_steps.specs.IndexTuples.{IndexShape, seen}
use Rattle.index_steps.specs.MoveEnds.{DropsIn, SetsIn}
use Rattle.index_steps.specs.Moves.{Comes, MoveMakes}
use Rattle.index_steps.specs.ShownIndex.{shown_part}
use Rattle.index_steps.specs.SwapAnswers.{SwapMakes}
use Rattle.brin_insert.specs.declared.stage.Stage.{Stage}
use Rattle.brin_insert.specs.declared.stage.Stage.TheVariants as stages
use Rattle.brin_insert.specs.InsertCalled.{after_move, stage_of_move}
use Rattle.brin_insert.specs.InsertSteps.{InsertAt, Stepped}
use Rattle.brin_insert.proofs.Stepping.{again, drops, moves as moves_on, sets, swaps as swaps_in}

-- an insert at a stage
abbrev pub at_stage : IndexContents → (ℕ → Option ℕ) → (copied widened : List ℕ) → Stage → InsertAt
at_stage c lock copied widened stage = record { pages = c; lock = lock; stage = stage; copied = copied; widened = widened }

module _ (shape : IndexShape) (s range : ℕ) (r : Row) (c d : IndexContents) (lock locked : ℕ → Option ℕ) (x : Spot) (copied widened : List ℕ) where
  pub in_place : SwapMakes shape c d lock locked s range x (seen shape copied) (seen shape widened) swaps.InPlace
      → Stepped shape s range r (at_stage c lock copied widened (stages.Swap x)) (at_stage d locked copied widened stages.Complete) (did.Finished points.Swap)
  in_place makes = (
    λ b k w ranged shows knows.
        let made = makes w shows knows.2.0 in
        swaps_in s b k r w (shown_part shape d locked w.unnamed) x (seen shape copied) (seen shape widened) (subst (λ (m : ℕ). SwapVerdict w s m x (seen shape copied) (seen shape widened) Fits) (sym ranged) made.0) made.1,
    refl,
  )

  pub lost : SwapMakes shape c d lock locked s range x (seen shape copied) (seen shape widened) swaps.Differs
      → Stepped shape s range r (at_stage c lock copied widened (stages.Swap x)) (at_stage d locked copied widened stages.Map) (did.Moved points.Again)
  lost makes = (
    λ b k w ranged shows knows.
        let made = makes w shows knows.2.0 in
        again s b k r w (shown_part shape d locked w.unnamed) made.1 x (seen shape copied) (seen shape widened) (subst (λ (m : ℕ). SwapVerdict w s m x (seen shape copied) (seen shape widened) Differs) (sym ranged) made.0),
    tt,
  )

  pub waits : (held : Held) → SwapMakes shape c d lock locked s range x (seen shape copied) (seen shape widened) (swaps.Waits held)
      → Stepped shape s range r (at_stage c lock copied widened (stages.Swap x)) (at_stage d locked copied widened (stages.Swap x)) (did.Blocked held)
  waits held makes = (λ b k w ranged shows knows. makes w shows knows.2.0, refl, refl, refl)

  pub put_elsewhere : (y : Spot) → SwapMakes shape c d lock locked s range x (seen shape copied) (seen shape widened) (swaps.Moves y)
      → Stepped shape s range r (at_stage c lock copied widened (stages.Swap x)) (at_stage d locked copied widened (stages.Set x y)) (did.Moved points.Put)
  put_elsewhere y makes = (
    λ b k w ranged shows knows.
        let made = makes w shows knows.2.0 in
        moves_on s b k r w (shown_part shape d locked w.unnamed) x y (seen shape copied) (seen shape widened) (subst (λ (m : ℕ). SwapVerdict w s m x (seen shape copied) (seen shape widened) (Puts y)) (sym ranged) made.0) made.1
        (subst (λ (m : ℕ). LocksThese locked s (x.block ∷ y.block ∷ map_page_of m ∷ [])) (sym ranged) made.2),
    tt,
  )

  pub is_set : (y : Spot) → locked ≡ lock → SetsIn shape c d range y → Stepped shape s range r (at_stage c lock copied widened (stages.Set x y)) (at_stage d locked copied widened (stages.Drop x)) (did.Moved points.Set)
  is_set y same named = subst (λ (l : ℕ → Option ℕ). Stepped shape s range r (at_stage c lock copied widened (stages.Set x y)) (at_stage d l copied widened (stages.Drop x)) (did.Moved points.Set)) (sym same) (
    λ b k w ranged shows knows.
        sets s b k r w (shown_part shape d lock w.unnamed) x y (seen shape copied) (seen shape widened)
        (λ building loose. subst (λ (m : ℕ). SetsEntry s w (with_part w (shown_part shape d lock w.unnamed) building loose) m y) (sym ranged) (named lock w shows s building loose)) (λ page. sym (shows.lock page)),
    tt,
  )

  pub is_dropped : DropsIn shape c d lock locked s x → Stepped shape s range r (at_stage c lock copied widened (stages.Drop x)) (at_stage d locked copied widened stages.Complete) (did.Finished points.Drop)
  is_dropped gone = (λ b k w ranged shows knows. drops s b k r w (shown_part shape d locked w.unnamed) x (gone w shows), refl)

-- each of these
pub step_by : (shape : IndexShape) (s range : ℕ) (r : Row) (c d : IndexContents) (lock locked : ℕ → Option ℕ) (copied widened : List ℕ) (move : Move) (step : MoveStep) → Comes move step
    → MoveMakes shape c d lock locked s range (seen shape copied) (seen shape widened) move step
    → Stepped shape s range r (at_stage c lock copied widened (stage_of_move move)) (at_stage d locked copied widened (after_move move step).0) (after_move move step).1
step_by shape s range r c d lock locked copied widened (moves.Swap x) steps.InPlace comes makes = in_place shape s range r c d lock locked x copied widened makes
step_by shape s range r c d lock locked copied widened (moves.Swap x) steps.Differs comes makes = lost shape s range r c d lock locked x copied widened makes
step_by shape s range r c d lock locked copied widened (moves.Swap x) (steps.Waits held) comes makes = waits shape s range r c d lock locked x copied widened held makes
step_by shape s range r c d lock locked copied widened (moves.Swap x) (steps.Put from y) comes makes =
    subst (λ (z : Spot). Stepped shape s range r (at_stage c lock copied widened (stages.Swap x)) (at_stage d locked copied widened (stages.Set z y)) (did.Moved points.Put)) (sym comes) (put_elsewhere shape s range r c d lock locked x copied widened y makes)
step_by shape s range r c d lock locked copied widened (moves.Set x y) (steps.Named from) comes makes =
    subst (λ (z : Spot). Stepped shape s range r (at_stage c lock copied widened (stages.Set x y)) (at_stage d locked copied widened (stages.Drop z)) (did.Moved points.Set)) (sym comes) (is_set shape s range r c d lock locked x copied widened y makes.0 makes.1)
step_by shape s range r c d lock locked copied widened (moves.Drop x) steps.Dropped comes makes = is_dropped shape s range r c d lock locked x copied widened makes
step_by shape s range r c d lock locked copied widened move step comes makes = absurd comes
