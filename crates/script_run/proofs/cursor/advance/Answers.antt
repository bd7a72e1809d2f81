use Rattle.std.proofs.Common.{◌≡◌, ◌∙◌, sym, ap, [], refl}
use Rattle.std.proofs.KnownBytes.{Consumes-nil}
use Rattle.script_run.specs.declared.end.Stage.TheVariants.{Open, Ended, Spent}
use Rattle.script_run.specs.Reading.{beyond}
use Rattle.script_run.specs.Buffered.{reading, held}
use Rattle.script_run.proofs.Hands.{answers_line, answers_last}
use Rattle.script_run.proofs.Steps.{stays, none_ready}
use Rattle.script_run.proofs.cursor.advance.Goals as goal

pub returns-in-Some-clause-answers : goal.returns-in-Some-clause-answers
returns-in-Some-clause-answers g c =
    answers_line (reading c.args.buffer.now c.args.cursor.now) c.args.buffer.now c.args.cursor.now (g.S.Source.left c.args.source.now) (g.S.Source.left c.args.source.now) [] (Consumes-nil (g.S.Source.left c.args.source.now)) (stays (reading c.args.buffer.now c.args.cursor.now))
    c.in-Some.at c.hand_out.result c.hand_out.new.cursor c.in-Some.ensures refl c.hand_out.ensures.span c.hand_out.ensures.rest

pub returns-in-Open-clause-waiting : goal.returns-in-Open-clause-waiting
returns-in-Open-clause-waiting g c = λ some. absurd (some (none_ready c.args.cursor.now.stage (held c.args.buffer.now c.args.cursor.now) (λ ended. let no : Open ≡ Ended = sym c.in-Open.is ∙ ended in cc) c.in_default.ensures))

pub returns-in-Ended-clause-answers : goal.returns-in-Ended-clause-answers
returns-in-Ended-clause-answers g c =
    answers_last (reading c.args.buffer.now c.args.cursor.now) c.args.buffer.now c.args.cursor.now (g.S.Source.left c.args.source.now) (g.S.Source.left c.args.source.now) [] (Consumes-nil (g.S.Source.left c.args.source.now)) (stays (reading c.args.buffer.now c.args.cursor.now))
    c.last_line.result c.last_line.new.cursor c.requires c.in_default.ensures c.in-Ended.is c.last_line.ensures

pub returns-in-Spent-clause-answers : goal.returns-in-Spent-clause-answers
returns-in-Spent-clause-answers g c = (
  [],
  [],
  Consumes-nil (g.S.Source.left c.args.source.now),
  ap beyond (sym c.in-Spent.is),
  stays (reading c.args.buffer.now c.args.cursor.now),
  none_ready c.args.cursor.now.stage (held c.args.buffer.now c.args.cursor.now) (λ ended. let no : Spent ≡ Ended = sym c.in-Spent.is ∙ ended in cc) c.in_default.ensures,
  c.in-Spent.is,
  c.requires.spent c.in-Spent.is,
  refl,
)
