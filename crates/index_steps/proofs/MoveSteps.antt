-- what came of a step of a move
use Rattle.std.proofs.Common.{◌≡◌, ℕ, ◌≤◌, List, None, refl, ap, arith}
use Rattle.std.specs.Prelude.{Ok}
use Rattle.block_model.specs.declared.place.Spot.{Spot}
use Rattle.disk_trait.specs.Told.{Told}
use Rattle.page_map.specs.Keeps.{Tells}
use Rattle.page_map.specs.PageMap.{PageMap, View}
use Rattle.page_locks.specs.LockCounts.{locks_of}
use Rattle.page_locks.specs.LockHolders.{LockState, holder}
use Rattle.heap_rows.specs.Survives.{Survives}
use Rattle.index_contents.specs.IndexChanges.{LeavesOthers}
use Rattle.index_contents.specs.IndexContents.{contents, relation_of}
use Rattle.index_contents.specs.KeepsOrder.{KeepsOrder}
use Rattle.index_steps.specs.declared.moves.Move.{Move}
use Rattle.index_steps.specs.declared.moves.Move.TheVariants as moves
use Rattle.index_steps.specs.declared.moves.MoveStep.{MoveStep}
use Rattle.index_steps.specs.declared.swapping.Swapped.{Swapped}
use Rattle.index_steps.specs.declared.swapping.Swapped.TheVariants as swaps
use Rattle.index_steps.specs.declared.swapping.Within.{Within}
use Rattle.index_steps.specs.IndexTuples.{seen, shape_of}
use Rattle.index_steps.specs.Moves.{Comes, GivesBy, MoveBlocked, MoveCalled, MoveMakes, held_after, held_to_move, of_swap, taken_to_move}
use Rattle.index_steps.specs.ShownIndex.{lock_in}
use Rattle.index_steps.specs.SwapAnswers.{LeavesLocks, LocksAfter, PagesAfter, SwapMakes, TakesAtMost, WaitsFor}

module _ {D : Type 0} (told : D → Told) (at : Within) (copied widened : List ℕ) (old new : View D) (before after : LockState) where
  abbrev Makes : Move → MoveStep → Type 0
  Makes move step = MoveMakes (shape_of old.layout at.index) (contents old.layout old.pages at.index) (contents old.layout new.pages at.index) (lock_in old.layout before at.index) (lock_in old.layout after at.index) at.actor at.range
      (seen (shape_of old.layout at.index) copied) (seen (shape_of old.layout at.index) widened) move step

  -- a step that is done, or that waits
  pub move_done : (move : Move) (step : MoveStep) → Comes move step → (Tells told old → Makes move step) → MoveBlocked told at.index at.actor old new before after step → LeavesOthers told at.index old new → KeepsOrder told at.index old new
      → LeavesLocks (holder before) (holder after) (relation_of old.layout at.index) at.actor → TakesAtMost (taken_to_move move) before after at.actor → (GivesBy step → locks_of after at.actor ≡ 0)
      → (locks_of before at.actor ≤ held_to_move move → locks_of after at.actor ≤ held_after step) → Survives told (λ (passed : PageMap). passed ≡ old.pages) old new
      → (old.failed ≡ None) × (new.failed ≡ None) × ((told old.disk).faults ≤ (told new.disk).faults) → MoveCalled told at move copied widened old new before after (Ok step)
  move_done move step comes makes blocked others order locks counts given own survives outcome = record {
    comes = comes;
    makes = makes;
    blocked = blocked;
    full = tt;
    others = others;
    order = order;
    locks = locks;
    at_full = tt;
    counts = counts;
    given = given;
    own = own;
    kept = tt;
    survives = survives;
    names = tt;
    outcome = outcome;
  }

  module _ (x : Spot) where
    pub swap_comes : (swapped : Swapped) → Comes (moves.Swap x) (of_swap x swapped)
    swap_comes swaps.InPlace = tt
    swap_comes swaps.Differs = tt
    swap_comes (swaps.Waits held) = tt
    swap_comes (swaps.Moves y) = refl

    pub swap_makes : (swapped : Swapped) → SwapMakes (shape_of old.layout at.index) (contents old.layout old.pages at.index) (contents old.layout new.pages at.index) (lock_in old.layout before at.index) (lock_in old.layout after at.index) at.actor at.range x
        (seen (shape_of old.layout at.index) copied) (seen (shape_of old.layout at.index) widened) swapped → Makes (moves.Swap x) (of_swap x swapped)
    swap_makes swaps.InPlace makes = makes
    swap_makes swaps.Differs makes = makes
    swap_makes (swaps.Waits held) makes = makes
    swap_makes (swaps.Moves y) makes = makes

    pub swap_blocked : (swapped : Swapped) → WaitsFor old.layout before at.index at.actor swapped → LocksAfter (holder before) (holder after) (relation_of old.layout at.index) at.actor at.range x before after swapped → PagesAfter told old new swapped
        → MoveBlocked told at.index at.actor old new before after (of_swap x swapped)
    swap_blocked swaps.InPlace waits same pages = tt
    swap_blocked swaps.Differs waits same pages = tt
    swap_blocked (swaps.Waits held) waits same pages = (waits, same, pages)
    swap_blocked (swaps.Moves y) waits same pages = tt

    pub swap_gives : (swapped : Swapped) → GivesBy (of_swap x swapped) → ⊥
    swap_gives swaps.InPlace gives = gives
    swap_gives swaps.Differs gives = gives
    swap_gives (swaps.Waits held) gives = gives
    swap_gives (swaps.Moves y) gives = gives

    still_none : after ≡ before → locks_of before at.actor ≤ 0 → locks_of after at.actor ≤ 0
    still_none same none =
        let is : locks_of after at.actor ≡ locks_of before at.actor = ap (λ (l : LockState). locks_of l at.actor) same in
        omega (arith, is, none)

    pub swap_owns : (swapped : Swapped) → LocksAfter (holder before) (holder after) (relation_of old.layout at.index) at.actor at.range x before after swapped → TakesAtMost 3 before after at.actor
        → locks_of before at.actor ≤ 0 → locks_of after at.actor ≤ held_after (of_swap x swapped)
    swap_owns swaps.InPlace same takes none = still_none same none
    swap_owns swaps.Differs same takes none = still_none same none
    swap_owns (swaps.Waits held) same takes none = still_none same none
    swap_owns (swaps.Moves y) locks takes none = omega (arith, takes.adds.own, none)
