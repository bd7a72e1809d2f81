use Rattle.std.proofs.Common.{◌-◌, ◌*◌, ◌≤◌}
use Rattle.demo_script.specs.Conversation.{rounds_of}
use Rattle.demo_script.proofs.Progress.{RoundsSoFar}
use Rattle.demo_script.proofs.round.say_rounds.Given as goal

abbrev pub invariant-rounds : goal.invariant-rounds
invariant-rounds g l = record {
  so_far : RoundsSoFar g.A.Answerer.answers l.seed l.rows (rounds_of l.rows) l.fn.answerer l.answerer l.round (rounds_of l.rows - l.round) l.inserted;
  few : l.inserted ≤ 2000 * l.round;
}
