use Rattle.std.proofs.Common.{◌≡◌, ℕ, ◌+◌, ◌≤◌, refl, sym, ap, subst, ◌∙◌, arith}
use Rattle.store_layout.specs.DiskLayout.{DiskLayout}
use Rattle.index_steps.specs.SwapAnswers.{TakesAtMost}
use Rattle.summarise_core.specs.declared.range_stage.Stage.{Stage}
use Rattle.summarise_core.specs.StageLocks.{held_at, taken_at}
use Rattle.summarise_core.specs.SummariseSteps.{IsAtWork, made_at}
use Rattle.summarise_core.specs.Summarises.{EndsRange, GoesOn, Waits, held_by, in_range_of, state_of, taken_by}
use Rattle.summarise_core.proofs.Coming.{comes_behind, comes_well, done_free, held_is, stays_well, taken_is}
use Rattle.summarise_core.proofs.summarise.go_on.Goals as goal

pub returns-in-Ok-Moved-clause-does : goal.returns-in-Ok-Moved-clause-does
returns-in-Ok-Moved-clause-does g c = λ tells blocks has rights.
    let came = rw c.in-Ok-Moved.field-0-is at c.in-Ok-Moved.ensures.stepped in
    GoesOn c.step.new.self c.in-Ok-Moved.point c.requires.at (came tells blocks has) refl

pub returns-in-Ok-Blocked-clause-does : goal.returns-in-Ok-Blocked-clause-does
returns-in-Ok-Blocked-clause-does g c = λ tells blocks has rights.
    let came = rw c.in-Ok-Blocked.field-0-is at c.in-Ok-Blocked.ensures.stepped in
    Waits c.step.new.self c.in-Ok-Blocked.held c.requires.at (came tells blocks has) refl

pub returns-in-Ok-Moved-clause-of : goal.returns-in-Ok-Moved-clause-of
returns-in-Ok-Moved-clause-of g c =
    let stands = rw c.in-Ok-Moved.field-0-is at c.in-Ok-Moved.ensures.stands in
    stays_well c.args.pages.now.layout (state_of c.args.index c.args.course.now c.args.work.now) c.step.new.self c.requires.of c.step.ensures.of stands

pub returns-in-Ok-Blocked-clause-of : goal.returns-in-Ok-Blocked-clause-of
returns-in-Ok-Blocked-clause-of g c =
    let stands = rw c.in-Ok-Blocked.field-0-is at c.in-Ok-Blocked.ensures.stands in
    stays_well c.args.pages.now.layout (state_of c.args.index c.args.course.now c.args.work.now) c.step.new.self c.requires.of c.step.ensures.of (subst (λ (q : Stage). IsAtWork q) (sym stands.1) (c.requires.of.at_range c.requires.at).3)

pub returns-in-Err-clause-of : goal.returns-in-Err-clause-of
returns-in-Err-clause-of g c =
    stays_well c.args.pages.now.layout (state_of c.args.index c.args.course.now c.args.work.now) c.step.new.self c.requires.of c.step.ensures.of (subst (λ (q : Stage). IsAtWork q) (sym c.in-Err.ensures.stays.0) (c.requires.of.at_range c.requires.at).3)

pub returns-in-Ok-Moved-clause-exact : goal.returns-in-Ok-Moved-clause-exact
returns-in-Ok-Moved-clause-exact g c = λ tells blocks has. record { keeps = λ exact at. c.in-Ok-Moved.ensures.exact tells blocks has (exact at) }

pub returns-in-Ok-Blocked-clause-exact : goal.returns-in-Ok-Blocked-clause-exact
returns-in-Ok-Blocked-clause-exact g c = λ tells blocks has. record { keeps = λ exact at. c.in-Ok-Blocked.ensures.exact tells blocks has (exact at) }

pub step-requires-clause-locks : goal.step-requires-clause-locks
step-requires-clause-locks g c = λ some.
    let a = state_of c.args.index c.args.course.now c.args.work.now in
    let taken : taken_by a ≡ taken_at c.args.work.now.growth.stage c.args.work.now.stage = taken_is a c.requires.at in
    let room = c.requires.locks (omega (arith, some, taken)) in
    omega (arith, taken, room)

pub returns-in-Ok-Moved-clause-given : goal.returns-in-Ok-Moved-clause-given
returns-in-Ok-Moved-clause-given g c = λ gives. c.in-Ok-Moved.ensures.given gives.1

pub returns-in-Ok-Moved-clause-own : goal.returns-in-Ok-Moved-clause-own
returns-in-Ok-Moved-clause-own g c = λ few.
    let was : held_by (state_of c.args.index c.args.course.now c.args.work.now) ≡ held_at c.args.work.now.growth.stage c.args.work.now.stage = held_is (state_of c.args.index c.args.course.now c.args.work.now) c.requires.at in
    let is : held_by (state_of c.args.index c.args.course.now c.step.new.self) ≡ held_at c.step.new.self.growth.stage c.step.new.self.stage = held_is (state_of c.args.index c.args.course.now c.step.new.self) c.requires.at in
    let left = c.in-Ok-Moved.ensures.own (omega (arith, few, was)) in
    omega (arith, left, is)

pub returns-in-Ok-Blocked-clause-given : goal.returns-in-Ok-Blocked-clause-given
returns-in-Ok-Blocked-clause-given g c = λ gives. c.in-Ok-Blocked.ensures.given gives.1

pub returns-in-Ok-Blocked-clause-own : goal.returns-in-Ok-Blocked-clause-own
returns-in-Ok-Blocked-clause-own g c = λ few.
    let was : held_by (state_of c.args.index c.args.course.now c.args.work.now) ≡ held_at c.args.work.now.growth.stage c.args.work.now.stage = held_is (state_of c.args.index c.args.course.now c.args.work.now) c.requires.at in
    let is : held_by (state_of c.args.index c.args.course.now c.step.new.self) ≡ held_at c.step.new.self.growth.stage c.step.new.self.stage = held_is (state_of c.args.index c.args.course.now c.step.new.self) c.requires.at in
    let left = c.in-Ok-Blocked.ensures.own (omega (arith, few, was)) in
    omega (arith, left, is)

pub returns-then-come_to-clause-given : goal.returns-then-come_to-clause-given
returns-then-come_to-clause-given g c = λ gives. c.in-Ok-Finished.ensures.given gives.1

pub returns-then-come_to-clause-own : goal.returns-then-come_to-clause-own
returns-then-come_to-clause-own g c = λ few.
    let was : held_by (state_of c.args.index c.args.course.now c.args.work.now) ≡ held_at c.args.work.now.growth.stage c.args.work.now.stage = held_is (state_of c.args.index c.args.course.now c.args.work.now) c.requires.at in
    let stands = rw c.in-Ok-Finished.field-0-is at c.in-Ok-Finished.ensures.stands in
    let none = done_free c.step.new.self.growth.stage c.step.new.self.stage stands in
    let left = c.in-Ok-Finished.ensures.own (omega (arith, few, was)) in
    omega (arith, left, none)

pub returns-else-come_to-clause-given : goal.returns-else-come_to-clause-given
returns-else-come_to-clause-given g c = λ gives. c.in-Ok-Finished.ensures.given gives.1

pub returns-else-come_to-clause-own : goal.returns-else-come_to-clause-own
returns-else-come_to-clause-own g c = λ few.
    let was : held_by (state_of c.args.index c.args.course.now c.args.work.now) ≡ held_at c.args.work.now.growth.stage c.args.work.now.stage = held_is (state_of c.args.index c.args.course.now c.args.work.now) c.requires.at in
    let stands = rw c.in-Ok-Finished.field-0-is at c.in-Ok-Finished.ensures.stands in
    let none = done_free c.step.new.self.growth.stage c.step.new.self.stage stands in
    let left = c.in-Ok-Finished.ensures.own (omega (arith, few, was)) in
    omega (arith, left, none)

pub returns-in-Ok-Moved-clause-counts : goal.returns-in-Ok-Moved-clause-counts
returns-in-Ok-Moved-clause-counts g c = subst (λ (n : ℕ). TakesAtMost n c.args.locks.now c.step.new.locks c.args.actor) (sym (taken_is (state_of c.args.index c.args.course.now c.args.work.now) c.requires.at)) c.step.ensures.counts

pub returns-in-Ok-Blocked-clause-counts : goal.returns-in-Ok-Blocked-clause-counts
returns-in-Ok-Blocked-clause-counts g c = subst (λ (n : ℕ). TakesAtMost n c.args.locks.now c.step.new.locks c.args.actor) (sym (taken_is (state_of c.args.index c.args.course.now c.args.work.now) c.requires.at)) c.step.ensures.counts

pub returns-in-Err-clause-counts : goal.returns-in-Err-clause-counts
returns-in-Err-clause-counts g c = subst (λ (n : ℕ). TakesAtMost n c.args.locks.now c.step.new.locks c.args.actor) (sym (taken_is (state_of c.args.index c.args.course.now c.args.work.now) c.requires.at)) c.step.ensures.counts

pub returns-then-come_to-clause-counts : goal.returns-then-come_to-clause-counts
returns-then-come_to-clause-counts g c = subst (λ (n : ℕ). TakesAtMost n c.args.locks.now c.step.new.locks c.args.actor) (sym (taken_is (state_of c.args.index c.args.course.now c.args.work.now) c.requires.at)) c.step.ensures.counts

pub returns-else-come_to-clause-counts : goal.returns-else-come_to-clause-counts
returns-else-come_to-clause-counts g c = subst (λ (n : ℕ). TakesAtMost n c.args.locks.now c.step.new.locks c.args.actor) (sym (taken_is (state_of c.args.index c.args.course.now c.args.work.now) c.requires.at)) c.step.ensures.counts

pub returns-then-come_to-clause-does : goal.returns-then-come_to-clause-does
returns-then-come_to-clause-does g c = λ tells blocks has rights.
    let store = c.args.pages.now in
    let each : c.blocks_a_range-in_range.result ≡ in_range_of store.layout c.args.index = c.blocks_a_range-in_range.ensures.number ∙ ap (λ (l : DiskLayout). in_range_of l c.args.index) c.layout-layout.ensures in
    let came = rw c.in-Ok-Finished.field-0-is at c.in-Ok-Finished.ensures.stepped in
    let made : c.from.result ≡ made_at c.step.new.self.stage = c.from.ensures ∙ c.made_at.ensures.number ∙ ap made_at c.stage.ensures in
    EndsRange c.step.new.self c.in-Ok-Finished.point _ _ c.requires.at (came tells blocks has) refl
    (comes_behind store.layout c.blocks_a_range-in_range.result c.args.index (c.args.course.now.made + c.from.result) (c.args.course.now.range + 1) c.args.course.now c.step.new.self c.args.work.now c.in-Ok-Finished.point _ _ each (ap (λ (n : ℕ). c.args.course.now.made + n) made) refl
    (c.come_to.ensures.next c.if-come_to.true c.args.index c.in-Ok-Finished.point))

pub returns-then-come_to-clause-of : goal.returns-then-come_to-clause-of
returns-then-come_to-clause-of g c =
    let store = c.args.pages.now in
    let was = c.requires.of.at_range c.requires.at in
    let each : c.blocks_a_range-in_range.result ≡ in_range_of store.layout c.args.index = c.blocks_a_range-in_range.ensures.number ∙ ap (λ (l : DiskLayout). in_range_of l c.args.index) c.layout-layout.ensures in
    let few : store.layout.sizes.heap_blocks ≤ 131072 = subst (λ (l : DiskLayout). l.sizes.heap_blocks ≤ 131072) c.layout-layout.ensures c.known.ensures.sizes.few_heap_blocks in
    let one : c.from.result ≤ 1 = omega (arith, c.from.ensures, c.made_at.ensures.few) in
    comes_well store.layout c.blocks_a_range-in_range.result (state_of c.args.index (record c.args.course.now { made = c.args.course.now.made + c.from.result; range = c.args.course.now.range + 1 }) c.step.new.self) _ c.in-Ok-Finished.point _ each c.blocks_a_range-in_range.ensures.some c.requires.of.index c.step.ensures.of c.requires.of.extent few (omega (arith, was.1, one)) (omega (arith, was.1, was.2, one))
    (c.come_to.ensures.next c.if-come_to.true c.args.index c.in-Ok-Finished.point)

pub returns-else-come_to-clause-does : goal.returns-else-come_to-clause-does
returns-else-come_to-clause-does g c = λ tells blocks has rights.
    let store = c.args.pages.now in
    let each : c.blocks_a_range-in_range.result ≡ in_range_of store.layout c.args.index = c.blocks_a_range-in_range.ensures.number ∙ ap (λ (l : DiskLayout). in_range_of l c.args.index) c.layout-layout.ensures in
    let came = rw c.in-Ok-Finished.field-0-is at c.in-Ok-Finished.ensures.stepped in
    let made : c.from.result ≡ made_at c.step.new.self.stage = c.from.ensures ∙ c.made_at.ensures.number ∙ ap made_at c.stage.ensures in
    EndsRange c.step.new.self c.in-Ok-Finished.point _ _ c.requires.at (came tells blocks has) refl
    (comes_behind store.layout c.blocks_a_range-in_range.result c.args.index (c.args.course.now.made + c.from.result) (c.args.course.now.range + 1) c.args.course.now c.step.new.self c.args.work.now c.in-Ok-Finished.point _ _ each (ap (λ (n : ℕ). c.args.course.now.made + n) made) refl
    (c.come_to.ensures.last c.if-come_to.false c.args.index c.in-Ok-Finished.point))

pub returns-else-come_to-clause-of : goal.returns-else-come_to-clause-of
returns-else-come_to-clause-of g c =
    let store = c.args.pages.now in
    let was = c.requires.of.at_range c.requires.at in
    let each : c.blocks_a_range-in_range.result ≡ in_range_of store.layout c.args.index = c.blocks_a_range-in_range.ensures.number ∙ ap (λ (l : DiskLayout). in_range_of l c.args.index) c.layout-layout.ensures in
    let few : store.layout.sizes.heap_blocks ≤ 131072 = subst (λ (l : DiskLayout). l.sizes.heap_blocks ≤ 131072) c.layout-layout.ensures c.known.ensures.sizes.few_heap_blocks in
    let one : c.from.result ≤ 1 = omega (arith, c.from.ensures, c.made_at.ensures.few) in
    comes_well store.layout c.blocks_a_range-in_range.result (state_of c.args.index (record c.args.course.now { made = c.args.course.now.made + c.from.result; range = c.args.course.now.range + 1 }) c.step.new.self) _ c.in-Ok-Finished.point _ each c.blocks_a_range-in_range.ensures.some c.requires.of.index c.step.ensures.of c.requires.of.extent few (omega (arith, was.1, one)) (omega (arith, was.1, was.2, one))
    (c.come_to.ensures.last c.if-come_to.false c.args.index c.in-Ok-Finished.point)

pub returns-then-come_to-clause-exact : goal.returns-then-come_to-clause-exact
returns-then-come_to-clause-exact g c = λ tells blocks has. record { keeps = λ exact. c.come_to.ensures.exact c.args.pages.now.layout blocks c.args.index }

pub returns-else-come_to-clause-exact : goal.returns-else-come_to-clause-exact
returns-else-come_to-clause-exact g c = λ tells blocks has. record { keeps = λ exact. c.come_to.ensures.exact c.args.pages.now.layout blocks c.args.index }

pub returns-in-Ok-Moved-clause-undamaged : goal.returns-in-Ok-Moved-clause-undamaged
returns-in-Ok-Moved-clause-undamaged g c = λ tells damage. c.in-Ok-Moved.ensures.undamaged tells damage.1

pub returns-in-Ok-Blocked-clause-undamaged : goal.returns-in-Ok-Blocked-clause-undamaged
returns-in-Ok-Blocked-clause-undamaged g c = λ tells damage. c.in-Ok-Blocked.ensures.undamaged tells damage.1

pub returns-then-come_to-clause-undamaged : goal.returns-then-come_to-clause-undamaged
returns-then-come_to-clause-undamaged g c = λ tells damage. c.in-Ok-Finished.ensures.undamaged tells damage.1

pub returns-else-come_to-clause-undamaged : goal.returns-else-come_to-clause-undamaged
returns-else-come_to-clause-undamaged g c = λ tells damage. c.in-Ok-Finished.ensures.undamaged tells damage.1
