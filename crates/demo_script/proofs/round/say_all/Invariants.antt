use Rattle.std.proofs.Common.{◌≤◌, drop}
use Rattle.demo_script.proofs.LineParts.{LinesSoFar, texts_of}
use Rattle.demo_script.proofs.round.say_all.Given as goal

abbrev pub invariant-lines : goal.invariant-lines
invariant-lines g l = record {
  so_far : LinesSoFar g.A.Answerer.answers (texts_of l.lines) l.fn.answerer l.answerer (texts_of (drop l.line-index l.lines)) l.inserted;
  few : l.inserted ≤ l.line-index;
}
