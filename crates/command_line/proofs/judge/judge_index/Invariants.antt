use Rattle.command_line.proofs.Judging.{NoTable}
use Rattle.command_line.proofs.judge.judge_index.Given as goal

-- no earlier word is the index's table
abbrev pub invariant-words : goal.invariant-words
invariant-words l = NoTable l.autos l.words l.earlier l.index.table.now
