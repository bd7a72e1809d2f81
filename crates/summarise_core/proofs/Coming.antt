-- a summarise that comes to its next range, or is done
use Rattle.std.proofs.Common.{◌≡◌, ℕ, ◌+◌, ◌*◌, ◌≤◌, ◌<◌, List, length, Option, Some, refl, sym, ap, subst, ◌∙◌, arith}
use Rattle.std.specs.Prelude.{slice_set}
use Rattle.std.proofs.lemmas.Nat.{mul-le}
use Rattle.block_model.specs.declared.reply.Point.{Point}
use Rattle.store_layout.specs.DiskLayout.{DiskLayout}
use Rattle.page_layout.specs.PageContents.{Slot}
use Rattle.page_locks.specs.declared.did.Did.{Did}
use Rattle.page_locks.specs.LockHolders.{LockState}
use Rattle.page_locks.specs.RightHolders.{right_of}
use Rattle.page_map.specs.PageMap.{PageMap}
use Rattle.page_locks.specs.declared.did.Did.TheVariants as did
use Rattle.summarise_core.specs.declared.course.Course.{Course}
use Rattle.summarise_core.specs.declared.course.Standing.{Standing}
use Rattle.summarise_core.specs.declared.course.Standing.TheVariants as standings
use Rattle.index_steps.specs.declared.growth_stage.Stage.{Stage as GrowthStage}
use Rattle.summarise_core.specs.declared.range_stage.Stage.{Stage}
use Rattle.summarise_core.specs.declared.range_stage.Stage.TheVariants as stages
use Rattle.summarise_core.specs.declared.wish.Wish.{Wish}
use Rattle.summarise_core.specs.declared.wish.Wish.TheVariants as wishes
use Rattle.summarise_core.specs.StageLocks.{held_at, taken_at}
use Rattle.summarise_core.specs.SummariseHands.{IsHandOf, SummariseHand, begun}
use Rattle.summarise_core.specs.SummariseSteps.{IsAtWork, IsDone, made_at}
use Rattle.summarise_core.specs.Summarises.{ComesTo, GivesBy, GoesOver, IsExactNow, IsSummariseOf, NoneIsLeft, RangeIsNext, SummariseState, TakesRight, after_range, at_first, first_of, held_by, held_in, in_range_of, state_of, step_of, taken_by, taken_in}

-- the first block of a range that it goes over is below the extent, and so is the range
pub over_below : (wish : Wish) (in_range extent range : ℕ) → 0 < in_range → GoesOver wish in_range extent range → range * in_range < extent
over_below wishes.New in_range extent range some goes = goes
over_below (wishes.Block block) in_range extent range some goes = goes.1
over_below wishes.Complete in_range extent range some goes = omega (arith, some, goes)

pub range_below : (wish : Wish) (in_range extent range : ℕ) → 0 < in_range → GoesOver wish in_range extent range → range < extent
range_below wish in_range extent range some goes =
    let first : range * in_range < extent = over_below wish in_range extent range some goes in
    let least : range * 1 ≤ range * in_range = mul-le range 1 range in_range (omega arith) (omega (arith, some)) in
    omega (arith, first, least)

abbrev IsThere : Standing → Type 0
IsThere standings.AtRange = Unit {0}
IsThere standing = ⊥

-- where it is done it is at no range
pub done_apart : standings.Done ≡ standings.AtRange → ⊥
done_apart is = subst (λ (q : Standing). IsThere q) (sym is) tt

pub begins_apart : standings.Begins ≡ standings.AtRange → ⊥
begins_apart is = subst (λ (q : Standing). IsThere q) (sym is) tt

-- it is one of its index still
pub comes_well : (layout : DiskLayout) (in_range : ℕ) (a b : SummariseState) (point : Point) (answer : Did) → in_range ≡ in_range_of layout a.index → 0 < in_range → a.index < length layout.schema.indexes → IsHandOf layout a.index a.hand
    → a.extent ≤ layout.sizes.heap_blocks → layout.sizes.heap_blocks ≤ 131072 → a.made ≤ a.range → a.made ≤ 131072 → ComesTo in_range a point b answer → IsSummariseOf layout b
comes_well layout in_range a _ point _ per some index hand extent few made small (RangeIsNext goes) = record {
  index = index;
  hand = record { running = hand.running; united = hand.united; room = hand.room; extent = hand.extent; growth = hand.growth };
  extent = extent;
  few = small;
  at_range = λ at. (
    subst (λ (n : ℕ). GoesOver a.wish n a.extent a.range) per goes,
    made,
    omega (arith, range_below a.wish in_range a.extent a.range some goes, extent, few),
    tt,
  );
}
comes_well layout in_range a _ point _ per some index hand extent few made small (NoneIsLeft lacks) =
    record { index = index; hand = hand; extent = extent; few = small; at_range = λ at. absurd (done_apart at) }

-- it is still one of its index with other work in hand at the range
pub stays_well : (layout : DiskLayout) (a : SummariseState) (hand : SummariseHand) → IsSummariseOf layout a → IsHandOf layout a.index hand → IsAtWork hand.stage → IsSummariseOf layout (record a { hand = hand })
stays_well layout a hand of own work = record {
  index = of.index;
  hand = own;
  extent = of.extent;
  few = of.few;
  at_range = λ at. let was = of.at_range at in (was.0, was.1, was.2, work);
}

-- what it has of its next range is exact, since it has nothing, and it holds no page lock
pub comes_exact : (layout : DiskLayout) (blocks : List (List Slot)) (in_range : ℕ) (a b : SummariseState) (point : Point) (answer : Did) → ComesTo in_range a point b answer → IsExactNow layout blocks b
comes_exact layout blocks in_range a _ point _ (RangeIsNext goes) = λ at. tt
comes_exact layout blocks in_range a _ point _ (NoneIsLeft lacks) = λ at. absurd (done_apart at)

pub comes_free : (in_range : ℕ) (a b : SummariseState) (point : Point) (answer : Did) → ComesTo in_range a point b answer → held_by b ≡ 0
comes_free in_range a _ point _ (RangeIsNext goes) = refl
comes_free in_range a _ point _ (NoneIsLeft lacks) = refl

-- it comes to its range, with work begun there; or no range is left
pub comes_next : (in_range index : ℕ) (course : Course) (hand next : SummariseHand) (point : Point) → GoesOver course.wish in_range course.extent course.range → next ≡ begun hand
    → ComesTo in_range (state_of index course hand) point (state_of index (record course { standing = standings.AtRange }) next) (did.Moved point)
comes_next in_range index course hand next point goes is =
    subst (λ (h : SummariseHand). ComesTo in_range (state_of index course hand) point (state_of index (record course { standing = standings.AtRange }) h) (did.Moved point)) (sym is) (RangeIsNext goes)

pub comes_last : (in_range index : ℕ) (course : Course) (hand : SummariseHand) (point : Point) → (GoesOver course.wish in_range course.extent course.range → ⊥)
    → ComesTo in_range (state_of index course hand) point (state_of index (record course { standing = standings.Done }) hand) (did.Finished point)
comes_last in_range index course hand point lacks = NoneIsLeft lacks

-- it begins with the first range, where it takes the summarise lock
pub comes_first : (layout : DiskLayout) (in_range index extent range : ℕ) (blocks : List (List Slot)) (course : Course) (hand : SummariseHand) (point : Point) (b : SummariseState) (answer : Did) → in_range ≡ in_range_of layout index → extent ≡ length blocks → range ≡ first_of course.wish in_range
    → ComesTo in_range (state_of index (record course { extent = extent; range = range; made = 0 }) hand) point b answer → ComesTo (in_range_of layout index) (at_first layout (length blocks) (state_of index course hand)) point b answer
comes_first layout in_range index extent range blocks course hand point b answer each count first comes =
    let place : range ≡ first_of course.wish (in_range_of layout index) = first ∙ ap (λ (n : ℕ). first_of course.wish n) each in
    subst (λ (m : ℕ). ComesTo (in_range_of layout index) (state_of index (record course { extent = length blocks; range = m; made = 0 }) hand) point b answer) place
    (subst (λ (e : ℕ). ComesTo (in_range_of layout index) (state_of index (record course { extent = e; range = range; made = 0 }) hand) point b answer) count
    (subst (λ (n : ℕ). ComesTo n (state_of index (record course { extent = extent; range = range; made = 0 }) hand) point b answer) each comes))

pub takes_right : (layout : DiskLayout) (pages : PageMap) (locks : LockState) (rights righted : List (Option ℕ)) (actor own table : ℕ) (blocks : List (List Slot)) → own ≡ table → ((n : ℕ) → right_of rights own ≡ Some n → n ≡ actor)
    → righted ≡ slice_set rights own (Some actor) → TakesRight (step_of layout pages pages locks locks rights righted actor blocks) table
takes_right layout pages locks rights righted actor own table blocks same free taken = record {
  free = subst (λ (t : ℕ). (n : ℕ) → right_of rights t ≡ Some n → n ≡ actor) same free;
  taken = taken ∙ ap (λ (t : ℕ). slice_set rights t (Some actor)) same;
  pages = refl;
  locks = refl;
}

-- and goes on with the one behind its range
pub comes_behind : (layout : DiskLayout) (in_range index made range : ℕ) (course : Course) (hand work : SummariseHand) (point : Point) (b : SummariseState) (answer : Did) → in_range ≡ in_range_of layout index → made ≡ course.made + made_at hand.stage → range ≡ course.range + 1
    → ComesTo in_range (state_of index (record course { made = made; range = range }) hand) point b answer → ComesTo (in_range_of layout index) (after_range (state_of index course work) hand) point b answer
comes_behind layout in_range index made range course hand work point b answer each count next comes =
    subst (λ (m : ℕ). ComesTo (in_range_of layout index) (state_of index (record course { made = course.made + made_at hand.stage; range = m }) hand) point b answer) next
    (subst (λ (k : ℕ). ComesTo (in_range_of layout index) (state_of index (record course { made = k; range = range }) hand) point b answer) count
    (subst (λ (n : ℕ). ComesTo n (state_of index (record course { made = made; range = range }) hand) point b answer) each comes))

-- where it begins it has no page lock
pub begins_given : (a : SummariseState) (n : ℕ) → a.standing ≡ standings.Begins → GivesBy a → n ≡ 0
begins_given a n begins gives = absurd (begins_apart (sym begins ∙ gives.0))

pub begins_own : (a b : SummariseState) (n : ℕ) → a.standing ≡ standings.Begins → held_by b ≡ 0 → n ≤ held_by a → n ≤ held_by b
begins_own a b n begins none few = let own : held_by a ≡ 0 = ap (λ (q : Standing). held_in a q) begins in omega (arith, own, none, few)

-- at a range it takes, has and gives those of its work
module _ (a : SummariseState) (at : a.standing ≡ standings.AtRange) where
  pub taken_is : taken_by a ≡ taken_at a.hand.growth.stage a.hand.stage
  taken_is = ap (λ (q : Standing). taken_in a q) at

  pub held_is : held_by a ≡ held_at a.hand.growth.stage a.hand.stage
  held_is = ap (λ (q : Standing). held_in a q) at

-- a range that is done holds no page lock
pub done_free : (growth : GrowthStage) (stage : Stage) → IsDone stage → held_at growth stage ≡ 0
done_free growth stages.Had done = refl
done_free growth stages.Made done = refl
done_free growth stage done = absurd done
