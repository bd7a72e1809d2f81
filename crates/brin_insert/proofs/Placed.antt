-- where an insert's row stands after a step
use Rattle.std.proofs.Common.{◌≡◌, ℕ, List, Option, None, Some, sym, subst, ◌∙◌}
use Rattle.block_model.specs.declared.place.Spot.{Spot}
use Rattle.store_layout.specs.DiskLayout.{DiskLayout}
use Rattle.page_layout.specs.PageContents.{Slot}
use Rattle.heap_rows.specs.RowPlaces.{place_for}
use Rattle.heap_rows.specs.RowPut.{IsSpotOf}
use Rattle.block_model.specs.declared.reply.Point.{Point}
use Rattle.page_locks.specs.declared.did.Did.{Did}
use Rattle.brin_insert.specs.InsertAnswers.{StandsPlaced, TakesFirstPlace, TakesPlaceWithin, WaitsForNoRow}
use Rattle.brin_insert.specs.InsertHands.{InsertHand}
use Rattle.brin_insert.specs.Inserts.{HasReached}

-- a row that is put
pub placed_first : (was now : Option Spot) (x : Spot) → was ≡ None → now ≡ Some x → StandsPlaced was now
placed_first was now x none is = subst (λ (o : Option Spot). StandsPlaced o now) (sym none) (x, is)

pub first_free : (layout : DiskLayout) (was now : Option Spot) (x : Spot) (blocks : List (List Slot)) → was ≡ None → now ≡ Some x → place_for layout.sizes.heap_blocks blocks ≡ Some x → TakesFirstPlace layout was now blocks
first_free layout was now x blocks none is free = subst (λ (o : Option Spot). TakesFirstPlace layout o now blocks) (sym none) (free ∙ sym is)

pub first_within : (layout : DiskLayout) (table : ℕ) (was now : Option Spot) (x : Spot) → was ≡ None → now ≡ Some x → IsSpotOf layout table x → TakesPlaceWithin layout table was now
first_within layout table was now x none is within = subst (λ (o : Option Spot). TakesPlaceWithin layout table o now) (sym none) (subst (λ (o : Option Spot). TakesPlaceWithin layout table None o) (sym is) within)

-- a row that stands
pub placed_still : (was now : Option Spot) (x : Spot) → was ≡ Some x → now ≡ was → StandsPlaced was now
placed_still was now x is same = subst (λ (o : Option Spot). StandsPlaced o now) (sym is) (same ∙ is)

pub not_first : (layout : DiskLayout) (was now : Option Spot) (x : Spot) (blocks : List (List Slot)) → was ≡ Some x → TakesFirstPlace layout was now blocks
not_first layout was now x blocks is = subst (λ (o : Option Spot). TakesFirstPlace layout o now blocks) (sym is) tt

pub not_within : (layout : DiskLayout) (table : ℕ) (was now : Option Spot) (x : Spot) → was ≡ Some x → TakesPlaceWithin layout table was now
not_within layout table was now x is = subst (λ (o : Option Spot). TakesPlaceWithin layout table o now) (sym is) tt

-- the step that puts it waits for nothing
pub waits_not : (was : Option Spot) (point : Point) (answer : Did) (work : Option InsertHand) → was ≡ None → HasReached point answer work → WaitsForNoRow was answer
waits_not was point answer None none is = subst (λ (o : Option Spot). WaitsForNoRow o answer) (sym none) (subst (λ (d : Did). WaitsForNoRow None d) (sym is) tt)
waits_not was point answer (Some hand) none is = subst (λ (o : Option Spot). WaitsForNoRow o answer) (sym none) (subst (λ (d : Did). WaitsForNoRow None d) (sym is.0) tt)

pub waits_later : (was : Option Spot) (x : Spot) (answer : Did) → was ≡ Some x → WaitsForNoRow was answer
waits_later was x answer is = subst (λ (o : Option Spot). WaitsForNoRow o answer) (sym is) tt
