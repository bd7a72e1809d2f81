use Rattle.std.proofs.Common.{◌≡◌, List, ap, ◌∙◌, subst}
use Rattle.std.specs.Prelude.{IfOk}
use Rattle.std.proofs.lemmas.Result.{IfOk-weaker}
use Rattle.plain_script.specs.HeldScripts.{HeldScript}
use Rattle.plain_script.specs.KeptLines.{lines_kept}
use Rattle.plain_script.specs.SessionLines.{numbers_of}
use Rattle.plain_script.specs.declared.kept.ScriptLine.{ScriptLine}
use Rattle.plain_script.proofs.Taking.{numbers_left}
use Rattle.plain_script.proofs.script_lines.ScriptLines.lines_of_session.Goals as goal

pub returns : goal.returns
returns c =
    subst (λ (h : HeldScript). IfOk c.numbers_of.result (λ numbers. numbers ≡ numbers_of c.args.session h.script.lines)) c.self.view_is
    (IfOk-weaker c.numbers_of.result (λ numbers. numbers ≡ numbers_of c.args.session (lines_kept c.as_slice.result.now))
    (λ numbers. numbers ≡ numbers_of c.args.session (lines_kept c.self.inside.whole.value.items))
    (λ numbers e. e ∙ ap (λ (xs : List ScriptLine). numbers_of c.args.session (lines_kept xs)) c.as_slice.ensures.value
    ∙ numbers_left c.self.inside.whole.value.items c.self.inside.lines.items c.args.session c.self.invariant)
    c.numbers_of.ensures)
