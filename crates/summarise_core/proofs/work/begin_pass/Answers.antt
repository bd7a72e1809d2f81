use Rattle.summarise_core.specs.declared.range_stage.Stage.TheVariants as stages
use Rattle.summarise_core.specs.Works.{hand_of}
use Rattle.std.proofs.Common.{ℕ}
use Rattle.page_locks.specs.declared.did.Did.{Did}
use Rattle.page_store.specs.SurvivesLaws.{survives_still}
use Rattle.index_steps.proofs.Refusals.{same_keeps}
use Rattle.summarise_core.specs.declared.range_stage.Stage.{Stage}
use Rattle.index_steps.proofs.Onward.{fault_too}
use Rattle.summarise_core.proofs.work.begin_pass.Goals as goal

pub returns-in-Ok-clause-stepped : goal.returns-in-Ok-clause-stepped
returns-in-Ok-clause-stepped g c = λ tells blocks has locks. c.in-Ok.ensures.stepped tells blocks has locks (hand_of stages.Extent c.args.work.now)

pub returns-in-Ok-clause-exact : goal.returns-in-Ok-clause-exact
returns-in-Ok-clause-exact g c = λ tells blocks has before. c.in-Ok.ensures.exact tells blocks has

pub returns-in-Ok-clause-reads : goal.returns-in-Ok-clause-reads
returns-in-Ok-clause-reads g c =
    let store = c.args.pages.now in
    record { kept = same_keeps g.D.Disk.told store; survives = survives_still g.D.Disk.told store c.read_extent.ensures.stays; never_blocked = tt; of_store = tt; names = tt; outcome = c.in-Ok.ensures.outcome }

pub returns-in-Err-clause-reads : goal.returns-in-Err-clause-reads
returns-in-Err-clause-reads g c =
    let store = c.args.pages.now in
    record {
      kept = same_keeps g.D.Disk.told store;
      survives = survives_still g.D.Disk.told store c.read_extent.ensures.stays;
      never_blocked = tt;
      of_store = c.in-Err.ensures.of_store;
      names = c.in-Err.ensures.at;
      outcome = fault_too (ℕ × ℕ) (Stage × Did) g.D.Disk.told _ _ store store c.in-Err.fault (λ cause tells. absurd (cause tells)) c.in-Err.ensures.outcome;
    }
