use Rattle.std.proofs.Common.{Err, ap, sym, subst}
use Rattle.brin_app.specs.WantedSizes.{IsWantedSize}
use Rattle.brin_app.proofs.WantedDisk.{no_task_size, task_size}
use Rattle.brin_app.proofs.wanted.wanted_size.Goals as goal

pub returns-in-Ok : goal.returns-in-Ok
returns-in-Ok c = subst (IsWantedSize c.args.words.now) (sym c.size_for.ensures) (task_size c.args.words.now c.in-Ok.task c.in-Ok.ensures.asked c.in-Ok.ensures.alone)

pub returns-in-Err-Usage : goal.returns-in-Err-Usage
returns-in-Err-Usage c = no_task_size c.args.words.now (c.in-Err-Usage.ensures.nothing (ap Err c.in-Err-Usage.field-0-is))
