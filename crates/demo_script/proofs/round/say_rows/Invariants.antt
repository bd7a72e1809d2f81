use Rattle.std.proofs.Common.{◌+◌, ◌-◌, ◌*◌, ◌≤◌}
use Rattle.demo_script.proofs.Progress.{RowsSoFar}
use Rattle.demo_script.proofs.round.say_rows.Given as goal

abbrev pub invariant-rows : goal.invariant-rows
invariant-rows g l = record {
  so_far : RowsSoFar g.A.Answerer.answers l.seed l.first l.count l.fn.busy l.fn.answerer l.answerer l.row (l.first + l.count - l.row) l.busy l.inserted;
  few : l.inserted ≤ 4 * (l.row - l.first);
}
