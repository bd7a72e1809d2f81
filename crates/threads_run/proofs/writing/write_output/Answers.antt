use Rattle.std.proofs.lemmas.Result.{on_err_weaker}
use Rattle.threads_run.proofs.WrittenParts.{on_err, part_behind, part_of_more}
use Rattle.threads_run.proofs.writing.write_output.Goals as goal

pub returns-in_err-write_all-clause-part : goal.returns-in_err-write_all-clause-part
returns-in_err-write_all-clause-part g c = on_err c.from_residual.result _ (part_of_more _ _ c.args.unread.now _ c.in_err-write_all.ensures.part)

pub returns-clause-part : goal.returns-clause-part
returns-clause-part g c = on_err_weaker c.write_said.result (part_behind _ _ _ c.args.unread.now _ c.in_ok-write_all.ensures.all) c.write_said.ensures.part
