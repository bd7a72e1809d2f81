-- the locks of an insert, by the stage of its next step
use Rattle.std.proofs.Common.{◌≡◌, ℕ, ◌≤◌, List, Option, None, Some, refl, sym, ap, subst, ◌∙◌, arith}
use Rattle.std.specs.Prelude.{slice_get}
use Rattle.std.proofs.lemmas.Option.{none-some, same_Some}
use Rattle.block_model.specs.declared.place.Spot.{Spot}
use Rattle.page_locks.specs.LockCounts.{locks_of}
use Rattle.page_locks.specs.LockHolders.{LockState}
use Rattle.index_steps.specs.SwapAnswers.{TakesAtMost}
use Rattle.brin_insert.specs.declared.insert.Insert.{Insert}
use Rattle.brin_insert.specs.declared.stage.Stage.{Stage}
use Rattle.brin_insert.specs.declared.stage.Stage.TheVariants as stages
use Rattle.brin_insert.specs.InsertHands.{InsertHand}
use Rattle.brin_insert.specs.InsertLocks.{held_by, stage_at, stage_of, taken_by}
use Rattle.brin_insert.specs.Inserts.{work_of}
use Rattle.brin_insert.specs.StageLocks.{held_at, taken_at}

-- the stage of an insert that is at an index
pub stage_there : (place : Option Spot) (works : List InsertHand) (at : ℕ) (x : Spot) (hand : InsertHand) → place ≡ Some x → slice_get works at ≡ Some hand → stage_at place (slice_get works at) ≡ Some hand.stage
stage_there place works at x hand placed got = ap (λ (p : Option Spot). stage_at p (slice_get works at)) placed ∙ ap (λ (o : Option InsertHand). stage_at (Some x) o) got

-- and none, before its row is put
pub no_stage : (insert : Insert) → insert.place ≡ None → stage_of insert ≡ None
no_stage insert none = ap (λ (p : Option Spot). stage_at p (work_of insert)) none

pub no_stage_drops : (insert : Insert) (x : Spot) → insert.place ≡ None → stage_of insert ≡ Some (stages.Drop x) → ⊥
no_stage_drops insert x none is = none-some (stages.Drop x) (sym (no_stage insert none) ∙ is)

pub none_held : (insert : Insert) (locks : LockState) (s m : ℕ) → insert.place ≡ None → locks_of locks s ≤ held_by (stage_of insert) → locks_of locks s ≤ m
none_held insert locks s m none few =
    let is : held_by (stage_of insert) ≡ 0 = ap held_by (no_stage insert none) in
    omega (arith, is, few)

-- what it takes and has there
pub taken_there : (insert : Insert) (old new : LockState) (s : ℕ) (x : Spot) (hand : InsertHand) → insert.place ≡ Some x → work_of insert ≡ Some hand → TakesAtMost (taken_at hand.stage) old new s → TakesAtMost (taken_by (stage_of insert)) old new s
taken_there insert old new s x hand placed got counts =
    subst (λ (o : Option Stage). TakesAtMost (taken_by o) old new s) (sym (stage_there insert.place insert.works.items insert.at x hand placed got)) counts

pub held_there : (place : Option Spot) (works : List InsertHand) (at : ℕ) (x : Spot) (hand : InsertHand) → place ≡ Some x → slice_get works at ≡ Some hand → held_by (stage_at place (slice_get works at)) ≡ held_at hand.stage
held_there place works at x hand placed got = ap held_by (stage_there place works at x hand placed got)

-- it goes on in the index
pub own_there : (place : Option Spot) (works after : List InsertHand) (at : ℕ) (x : Spot) (hand next : InsertHand) (old new : LockState) (s : ℕ) → place ≡ Some x → slice_get works at ≡ Some hand → slice_get after at ≡ Some next
    → (locks_of old s ≤ held_at hand.stage → locks_of new s ≤ held_at next.stage) → locks_of old s ≤ held_by (stage_at place (slice_get works at)) → locks_of new s ≤ held_by (stage_at place (slice_get after at))
own_there place works after at x hand next old new s placed got found own few =
    let was : held_by (stage_at place (slice_get works at)) ≡ held_at hand.stage = held_there place works at x hand placed got in
    let is : held_by (stage_at place (slice_get after at)) ≡ held_at next.stage = held_there place after at x next placed found in
    let had : locks_of old s ≤ held_at hand.stage = omega (arith, was, few) in
    let has : locks_of new s ≤ held_at next.stage = own had in
    omega (arith, is, has)

-- the index is complete
pub own_complete : (place : Option Spot) (works : List InsertHand) (at : ℕ) (x : Spot) (hand : InsertHand) (next : Stage) (old new : LockState) (s n : ℕ) → place ≡ Some x → slice_get works at ≡ Some hand → next ≡ stages.Complete
    → (locks_of old s ≤ held_at hand.stage → locks_of new s ≤ held_at next) → locks_of old s ≤ held_by (stage_at place (slice_get works at)) → locks_of new s ≤ n
own_complete place works at x hand next old new s n placed got complete own few =
    let was : held_by (stage_at place (slice_get works at)) ≡ held_at hand.stage = held_there place works at x hand placed got in
    let none : held_at next ≡ 0 = ap held_at complete in
    let had : locks_of old s ≤ held_at hand.stage = omega (arith, was, few) in
    let has : locks_of new s ≤ held_at next = own had in
    omega (arith, none, has)

-- a move ends with the drop of its old tuple
pub given_there : (place : Option Spot) (works : List InsertHand) (at : ℕ) (x y : Spot) (hand : InsertHand) (new : LockState) (s : ℕ) → place ≡ Some x → slice_get works at ≡ Some hand
    → ((z : Spot) → hand.stage ≡ stages.Drop z → locks_of new s ≡ 0) → stage_at place (slice_get works at) ≡ Some (stages.Drop y) → locks_of new s ≡ 0
given_there place works at x y hand new s placed got given is =
    given y (same_Some hand.stage (stages.Drop y) (sym (stage_there place works at x hand placed got) ∙ is))
