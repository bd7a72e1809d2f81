use Rattle.std.proofs.Common.{◌≡◌, ℕ, inl, refl, subst}
use Rattle.std.proofs.lemmas.Bool.{false≢true}
use Rattle.disk_trait.specs.Memory.{told_by_memory}
use Rattle.brin_app.specs.declared.top.Task.TheVariants.{Init}
use Rattle.brin_app.specs.Holding.{StaysStore}
use Rattle.rerun.proofs.Turning.{asks_new, empty_sure, holds_alone}
use Rattle.rerun.proofs.making.new_store.Goals as goal

pub brin_main-status-requires-clause-image : goal.brin_main-status-requires-clause-image
brin_main-status-requires-clause-image g c κs within stored = absurd (c.in_ok-disk.ensures.new stored)

pub brin_main-status-requires-clause-faults : goal.brin_main-status-requires-clause-faults
brin_main-status-requires-clause-faults g c κs within threads = absurd (c.in_ok-disk.ensures.alone threads)

pub brin_main-status-requires-clause-given : goal.brin_main-status-requires-clause-given
brin_main-status-requires-clause-given g c κs within honest = absurd (false≢true honest)

pub returns-clause-store : goal.returns-clause-store
returns-clause-store g c =
    let done : c.brin_main-status.result.0 ≡ 0 = c.if-status-ne-DONE.false in
    let asked = c.in_ok-disk.ensures.asked in
    let alone = c.in_ok-disk.ensures.alone in
    subst (λ (status : ℕ). StaysStore status (told_by_memory c.brin_main-status.result.1)) done ((holds_alone c.brin_main-status.ensures.holds_on alone).made asked.0 (asks_new asked.1 alone) (inl done) refl)

pub returns-clause-empty : goal.returns-clause-empty
returns-clause-empty g c = λ layout init.
    let done : c.brin_main-status.result.0 ≡ 0 = c.if-status-ne-DONE.false in
    let asked = c.in_ok-disk.ensures.asked in
    let alone = c.in_ok-disk.ensures.alone in
    empty_sure c.brin_main-status.result.0 layout _ _ (c.brin_main-status.ensures.script_output (Init layout) init).1 ((holds_alone c.brin_main-status.ensures.holds_on alone).made asked.0 (asks_new asked.1 alone) (inl done) refl) done refl
