use Rattle.std.proofs.Common.{◌≡◌, ◌≤◌, refl, sym, subst, arith}
use Rattle.disk_trait.specs.Told.{Told}
use Rattle.page_locks.specs.declared.did.Did.{Did}
use Rattle.page_locks.specs.declared.did.Did.TheVariants as did
use Rattle.page_locks.specs.LockCounts.{locks_of}
use Rattle.page_locks.specs.LockHolders.{LockState, holder}
use Rattle.page_map.specs.Keeps.{Tells}
use Rattle.page_map.specs.PageMap.{View}
use Rattle.page_store.specs.SurvivesLaws.{survives_still}
use Rattle.index_contents.specs.IndexContents.{relation_of}
use Rattle.index_contents.specs.OrderLaws.{order_kept}
use Rattle.index_steps.specs.LockLaws.{same_apart, takes_none}
use Rattle.index_steps.specs.SwapAnswers.{TakesAtMost}
use Rattle.summarise_core.specs.declared.desummarise_stage.Stage.{Stage}
use Rattle.summarise_core.specs.declared.desummarise_stage.Stage.TheVariants as stages
use Rattle.summarise_core.specs.Desummarises.{DamageAt, GivesAt, IsAtWork, RightAnswers, StageDoes, StandsAfter, StaysWithoutRight, Works, held_at, step_of, table_of, taken_at}
use Rattle.summarise_core.proofs.desummarise_steps.step_in.Goals as goal

-- a step at its range doesn't lack the summarise lock
has_right : {D : Type 0} (told : D → Told) (old new : View D) (before after : LockState) (was now : Stage) (answer : Did) → IsAtWork was → StandsAfter was now answer → StaysWithoutRight told old new before after answer
has_right told old new before after was now (did.Moved point) work stands = tt
has_right told old new before after was now (did.Finished point) work stands = tt
has_right told old new before after was now (did.Blocked held) work stands = tt
has_right told old new before after was now (did.NoRight by) work stands = absurd (subst IsAtWork stands.0 work)

pub returns-in-Ok-clause-does : goal.returns-in-Ok-clause-does
returns-in-Ok-clause-does g c = λ tells blocks.
    subst (λ (q : Stage). StageDoes (step_of c.args.pages.now.layout c.args.pages.now.pages c.args.pages.now.pages c.args.locks.now c.args.locks.now c.args.rights.now c.take_right.new.rights c.args.at.actor blocks) c.args.at.index c.args.at.range q c.in-Ok.done.0 c.in-Ok.done.1) (sym c.in-Right.is)
    (c.in-Ok.ensures.does c.args.locks.now blocks)

pub returns-in-Ok-clause-stands : goal.returns-in-Ok-clause-stands
returns-in-Ok-clause-stands g c = subst (λ (q : Stage). StandsAfter q c.in-Ok.done.0 c.in-Ok.done.1) (sym c.in-Right.is) c.in-Ok.ensures.stands

pub returns-in-Ok-clause-right : goal.returns-in-Ok-clause-right
returns-in-Ok-clause-right g c = subst (λ (q : Stage). RightAnswers (table_of c.args.pages.now.layout c.args.at.index) c.args.at.actor c.args.rights.now c.take_right.new.rights q c.in-Ok.done.1) (sym c.in-Right.is) c.in-Ok.ensures.right

pub returns-in-Ok-clause-own : goal.returns-in-Ok-clause-own
returns-in-Ok-clause-own g c =
    subst (λ (q : Stage). locks_of c.args.locks.now c.args.at.actor ≤ held_at q → locks_of c.args.locks.now c.args.at.actor ≤ held_at c.in-Ok.done.0) (sym c.in-Right.is)
    (λ few. let none = c.in-Ok.ensures.own in omega (arith, few, none))

pub returns-in-Ok-clause-given : goal.returns-in-Ok-clause-given
returns-in-Ok-clause-given g c = subst (λ (q : Stage). GivesAt q → locks_of c.args.locks.now c.args.at.actor ≡ 0) (sym c.in-Right.is) (λ never. absurd never)

pub returns-in-Ok-clause-undamaged : goal.returns-in-Ok-clause-undamaged
returns-in-Ok-clause-undamaged g c =
    subst (λ (q : Stage). Tells g.D.Disk.told c.args.pages.now → DamageAt c.args.pages.now.layout c.args.pages.now.pages c.args.at.index c.args.at.range q → ⊥) (sym c.in-Right.is) (λ tells damage. damage)

pub returns-in-Ok-clause-counts : goal.returns-in-Ok-clause-counts
returns-in-Ok-clause-counts g c = takes_none (taken_at c.args.stage) c.args.locks.now c.args.at.actor

pub returns-in-Ok-clause-locks : goal.returns-in-Ok-clause-locks
returns-in-Ok-clause-locks g c = same_apart (relation_of c.args.pages.now.layout c.args.at.index) c.args.at.actor (holder c.args.locks.now)

pub returns-in-Ok-clause-survives : goal.returns-in-Ok-clause-survives
returns-in-Ok-clause-survives g c = survives_still g.D.Disk.told c.args.pages.now c.take_right.ensures.still

pub returns-in-Err-clause-counts : goal.returns-in-Err-clause-counts
returns-in-Err-clause-counts g c = takes_none (taken_at c.args.stage) c.args.locks.now c.args.at.actor

pub returns-in-Err-clause-locks : goal.returns-in-Err-clause-locks
returns-in-Err-clause-locks g c = same_apart (relation_of c.args.pages.now.layout c.args.at.index) c.args.at.actor (holder c.args.locks.now)

pub returns-in-Err-clause-survives : goal.returns-in-Err-clause-survives
returns-in-Err-clause-survives g c = survives_still g.D.Disk.told c.args.pages.now c.take_right.ensures.still

pub returns-in-Ok-look-clause-does : goal.returns-in-Ok-look-clause-does
returns-in-Ok-look-clause-does g c = λ tells blocks.
    subst (λ (q : Stage). StageDoes (step_of c.args.pages.now.layout c.args.pages.now.pages c.look.new.pages.pages c.args.locks.now c.args.locks.now c.args.rights.now c.args.rights.now c.args.at.actor blocks) c.args.at.index c.args.at.range q c.in-Ok-look.done.0 c.in-Ok-look.done.1) (sym c.in-Map.is)
    (Works c.in-Ok-look.done.0 c.in-Ok-look.done.1 tt (c.in-Ok-look.ensures.stepped tells c.args.locks.now) refl)

pub returns-in-Ok-look-clause-stands : goal.returns-in-Ok-look-clause-stands
returns-in-Ok-look-clause-stands g c = subst (λ (q : Stage). StandsAfter q c.in-Ok-look.done.0 c.in-Ok-look.done.1) (sym c.in-Map.is) c.in-Ok-look.ensures.stands

pub returns-in-Ok-look-clause-right : goal.returns-in-Ok-look-clause-right
returns-in-Ok-look-clause-right g c = subst (λ (q : Stage). RightAnswers (table_of c.args.pages.now.layout c.args.at.index) c.args.at.actor c.args.rights.now c.args.rights.now q c.in-Ok-look.done.1) (sym c.in-Map.is) refl

pub returns-in-Ok-look-clause-own : goal.returns-in-Ok-look-clause-own
returns-in-Ok-look-clause-own g c =
    subst (λ (q : Stage). locks_of c.args.locks.now c.args.at.actor ≤ held_at q → locks_of c.args.locks.now c.args.at.actor ≤ held_at c.in-Ok-look.done.0) (sym c.in-Map.is)
    (λ few. let none = c.in-Ok-look.ensures.own in omega (arith, few, none))

pub returns-in-Ok-look-clause-given : goal.returns-in-Ok-look-clause-given
returns-in-Ok-look-clause-given g c = subst (λ (q : Stage). GivesAt q → locks_of c.args.locks.now c.args.at.actor ≡ 0) (sym c.in-Map.is) (λ never. absurd never)

pub returns-in-Ok-look-clause-undamaged : goal.returns-in-Ok-look-clause-undamaged
returns-in-Ok-look-clause-undamaged g c =
    subst (λ (q : Stage). Tells g.D.Disk.told c.args.pages.now → DamageAt c.args.pages.now.layout c.args.pages.now.pages c.args.at.index c.args.at.range q → ⊥) (sym c.in-Map.is) c.in-Ok-look.ensures.undamaged

pub returns-in-Ok-look-clause-counts : goal.returns-in-Ok-look-clause-counts
returns-in-Ok-look-clause-counts g c = takes_none (taken_at c.args.stage) c.args.locks.now c.args.at.actor

pub returns-in-Ok-look-clause-locks : goal.returns-in-Ok-look-clause-locks
returns-in-Ok-look-clause-locks g c = same_apart (relation_of c.args.pages.now.layout c.args.at.index) c.args.at.actor (holder c.args.locks.now)

pub returns-in-Ok-look-clause-order : goal.returns-in-Ok-look-clause-order
returns-in-Ok-look-clause-order g c = order_kept g.D.Disk.told c.args.at.index c.args.pages.now c.look.new.pages c.look.ensures.kept

pub returns-in-Err-look-clause-counts : goal.returns-in-Err-look-clause-counts
returns-in-Err-look-clause-counts g c = takes_none (taken_at c.args.stage) c.args.locks.now c.args.at.actor

pub returns-in-Err-look-clause-locks : goal.returns-in-Err-look-clause-locks
returns-in-Err-look-clause-locks g c = same_apart (relation_of c.args.pages.now.layout c.args.at.index) c.args.at.actor (holder c.args.locks.now)

pub returns-in-Err-look-clause-order : goal.returns-in-Err-look-clause-order
returns-in-Err-look-clause-order g c = order_kept g.D.Disk.told c.args.at.index c.args.pages.now c.look.new.pages c.look.ensures.kept

pub returns-in-Ok-clear-clause-does : goal.returns-in-Ok-clear-clause-does
returns-in-Ok-clear-clause-does g c = λ tells blocks.
    subst (λ (q : Stage). StageDoes (step_of c.args.pages.now.layout c.args.pages.now.pages c.clear.new.pages.pages c.args.locks.now c.clear.new.locks c.args.rights.now c.args.rights.now c.args.at.actor blocks) c.args.at.index c.args.at.range q c.in-Ok-clear.done.0 c.in-Ok-clear.done.1) (sym c.in-Clear.is)
    (Works c.in-Ok-clear.done.0 c.in-Ok-clear.done.1 tt (c.in-Ok-clear.ensures.stepped tells) refl)

pub returns-in-Ok-clear-clause-stands : goal.returns-in-Ok-clear-clause-stands
returns-in-Ok-clear-clause-stands g c = subst (λ (q : Stage). StandsAfter q c.in-Ok-clear.done.0 c.in-Ok-clear.done.1) (sym c.in-Clear.is) c.in-Ok-clear.ensures.stands

pub returns-in-Ok-clear-clause-right : goal.returns-in-Ok-clear-clause-right
returns-in-Ok-clear-clause-right g c = subst (λ (q : Stage). RightAnswers (table_of c.args.pages.now.layout c.args.at.index) c.args.at.actor c.args.rights.now c.args.rights.now q c.in-Ok-clear.done.1) (sym c.in-Clear.is) refl

pub returns-in-Ok-clear-clause-own : goal.returns-in-Ok-clear-clause-own
returns-in-Ok-clear-clause-own g c =
    subst (λ (q : Stage). locks_of c.args.locks.now c.args.at.actor ≤ held_at q → locks_of c.clear.new.locks c.args.at.actor ≤ held_at c.in-Ok-clear.done.0) (sym c.in-Clear.is)
    c.in-Ok-clear.ensures.own

pub returns-in-Ok-clear-clause-given : goal.returns-in-Ok-clear-clause-given
returns-in-Ok-clear-clause-given g c = subst (λ (q : Stage). GivesAt q → locks_of c.clear.new.locks c.args.at.actor ≡ 0) (sym c.in-Clear.is) (λ never. absurd never)

pub returns-in-Ok-clear-clause-undamaged : goal.returns-in-Ok-clear-clause-undamaged
returns-in-Ok-clear-clause-undamaged g c =
    subst (λ (q : Stage). Tells g.D.Disk.told c.args.pages.now → DamageAt c.args.pages.now.layout c.args.pages.now.pages c.args.at.index c.args.at.range q → ⊥) (sym c.in-Clear.is) (λ tells damage. damage)

pub returns-in-Ok-clear-clause-counts : goal.returns-in-Ok-clear-clause-counts
returns-in-Ok-clear-clause-counts g c = subst (λ (q : Stage). TakesAtMost (taken_at q) c.args.locks.now c.clear.new.locks c.args.at.actor) (sym c.in-Clear.is) c.clear.ensures.counts

pub returns-in-Err-clear-clause-counts : goal.returns-in-Err-clear-clause-counts
returns-in-Err-clear-clause-counts g c = subst (λ (q : Stage). TakesAtMost (taken_at q) c.args.locks.now c.clear.new.locks c.args.at.actor) (sym c.in-Clear.is) c.clear.ensures.counts

pub returns-in-Ok-drop_cleared-clause-does : goal.returns-in-Ok-drop_cleared-clause-does
returns-in-Ok-drop_cleared-clause-does g c = λ tells blocks.
    subst (λ (q : Stage). StageDoes (step_of c.args.pages.now.layout c.args.pages.now.pages c.drop_cleared.new.pages.pages c.args.locks.now c.drop_cleared.new.locks c.args.rights.now c.args.rights.now c.args.at.actor blocks) c.args.at.index c.args.at.range q c.in-Ok-drop_cleared.done.0 c.in-Ok-drop_cleared.done.1) (sym c.in-Drop.is)
    (Works c.in-Ok-drop_cleared.done.0 c.in-Ok-drop_cleared.done.1 tt (c.in-Ok-drop_cleared.ensures.stepped tells) refl)

pub returns-in-Ok-drop_cleared-clause-stands : goal.returns-in-Ok-drop_cleared-clause-stands
returns-in-Ok-drop_cleared-clause-stands g c = subst (λ (q : Stage). StandsAfter q c.in-Ok-drop_cleared.done.0 c.in-Ok-drop_cleared.done.1) (sym c.in-Drop.is) c.in-Ok-drop_cleared.ensures.stands

pub returns-in-Ok-drop_cleared-clause-right : goal.returns-in-Ok-drop_cleared-clause-right
returns-in-Ok-drop_cleared-clause-right g c = subst (λ (q : Stage). RightAnswers (table_of c.args.pages.now.layout c.args.at.index) c.args.at.actor c.args.rights.now c.args.rights.now q c.in-Ok-drop_cleared.done.1) (sym c.in-Drop.is) refl

pub returns-in-Ok-drop_cleared-clause-own : goal.returns-in-Ok-drop_cleared-clause-own
returns-in-Ok-drop_cleared-clause-own g c =
    subst (λ (q : Stage). locks_of c.args.locks.now c.args.at.actor ≤ held_at q → locks_of c.drop_cleared.new.locks c.args.at.actor ≤ held_at c.in-Ok-drop_cleared.done.0) (sym c.in-Drop.is)
    (λ few. c.in-Ok-drop_cleared.ensures.own)

pub returns-in-Ok-drop_cleared-clause-given : goal.returns-in-Ok-drop_cleared-clause-given
returns-in-Ok-drop_cleared-clause-given g c = subst (λ (q : Stage). GivesAt q → locks_of c.drop_cleared.new.locks c.args.at.actor ≡ 0) (sym c.in-Drop.is) (λ gives. c.in-Ok-drop_cleared.ensures.given)

pub returns-in-Ok-drop_cleared-clause-undamaged : goal.returns-in-Ok-drop_cleared-clause-undamaged
returns-in-Ok-drop_cleared-clause-undamaged g c =
    subst (λ (q : Stage). Tells g.D.Disk.told c.args.pages.now → DamageAt c.args.pages.now.layout c.args.pages.now.pages c.args.at.index c.args.at.range q → ⊥) (sym c.in-Drop.is) (λ tells damage. damage)

pub returns-in-Ok-drop_cleared-clause-counts : goal.returns-in-Ok-drop_cleared-clause-counts
returns-in-Ok-drop_cleared-clause-counts g c = subst (λ (q : Stage). TakesAtMost (taken_at q) c.args.locks.now c.drop_cleared.new.locks c.args.at.actor) (sym c.in-Drop.is) c.drop_cleared.ensures.counts

pub returns-in-Err-drop_cleared-clause-counts : goal.returns-in-Err-drop_cleared-clause-counts
returns-in-Err-drop_cleared-clause-counts g c = subst (λ (q : Stage). TakesAtMost (taken_at q) c.args.locks.now c.drop_cleared.new.locks c.args.at.actor) (sym c.in-Drop.is) c.drop_cleared.ensures.counts

pub returns-in-Ok-clause-no_right : goal.returns-in-Ok-clause-no_right
returns-in-Ok-clause-no_right g c = c.in-Ok.ensures.no_right c.args.locks.now

pub returns-in-Ok-look-clause-no_right : goal.returns-in-Ok-look-clause-no_right
returns-in-Ok-look-clause-no_right g c = has_right g.D.Disk.told c.args.pages.now c.look.new.pages c.args.locks.now c.args.locks.now stages.Map c.in-Ok-look.done.0 c.in-Ok-look.done.1 tt c.in-Ok-look.ensures.stands

pub returns-in-Ok-clear-clause-no_right : goal.returns-in-Ok-clear-clause-no_right
returns-in-Ok-clear-clause-no_right g c =
    has_right g.D.Disk.told c.args.pages.now c.clear.new.pages c.args.locks.now c.clear.new.locks (stages.Clear c.in-Clear.spot) c.in-Ok-clear.done.0 c.in-Ok-clear.done.1 tt c.in-Ok-clear.ensures.stands

pub returns-in-Ok-drop_cleared-clause-no_right : goal.returns-in-Ok-drop_cleared-clause-no_right
returns-in-Ok-drop_cleared-clause-no_right g c =
    has_right g.D.Disk.told c.args.pages.now c.drop_cleared.new.pages c.args.locks.now c.drop_cleared.new.locks (stages.Drop c.in-Drop.from) c.in-Ok-drop_cleared.done.0 c.in-Ok-drop_cleared.done.1 tt c.in-Ok-drop_cleared.ensures.stands
