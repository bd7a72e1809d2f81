use Rattle.bitmap_scan.proofs.Stepping.{ends, goes, replies, steps}
use Rattle.bitmap_scan.proofs.laws.a_scan_steps_in_its_table.Goals as goal

pub returns-clause-goes : goal.returns-clause-goes
returns-clause-goes c = λ s shown u account after point stepped. goes s shown u account after point stepped

pub returns-clause-ends : goal.returns-clause-ends
returns-clause-ends c = λ s shown u account after point next stepped onward. ends s shown u account after point next stepped onward

pub returns-clause-replies : goal.returns-clause-replies
returns-clause-replies c = λ s shown u account after point stepped nothing. replies s shown u account after point stepped nothing

pub returns-clause-steps : goal.returns-clause-steps
returns-clause-steps c = λ s shown u account next point to. steps s shown u account next point to
