use Rattle.std.proofs.Common.{◌≡◌, List, length, sym, ap, ◌∙◌, subst, arith}
use Rattle.store_layout.specs.StatementFits.{IsStatementFor}
use Rattle.plain_script.specs.Gathering.{Gathered, IsGathered}
use Rattle.plain_script.specs.declared.kept.ScriptSession.{ScriptSession}
use Rattle.plain_script.proofs.Counting.{same_many}
use Rattle.plain_script.proofs.Gathered.{gathered_more}
use Rattle.plain_script.proofs.ListLemmas.{back_whole}
use Rattle.plain_script.proofs.gatherer.Gatherer.keep.Goals as goal

pub invariant_of-self-2 : goal.invariant_of-self-2
invariant_of-self-2 c =
    let made = c.make_session.new.sessions in
    let now = c.keep_line.new.sessions in
    let many : length made.items ≡ made.len = omega (arith, made.ok) in
    let fits = subst (λ (g : Gathered). IsStatementFor g.schema c.args.statement) (sym c.self.view_is) c.requires in
    subst (λ (s : List ScriptSession). IsGathered c.self.inside.layout.now.schema s c.keep_line.new.lines.items)
    (sym (back_whole now made.items made.len (same_many now c.as_mut_slice.result.now c.in_ok-keep_line.ensures.names ∙ ap length c.as_mut_slice.ensures.value) many))
    (gathered_more c.self.inside.layout.now.schema c.self.inside.sessions.items now c.self.inside.lines.items c.keep_line.new.lines.items c.number_of-number.result c.args.statement c.self.invariant fits
    c.in_ok-keep_line.ensures.lines c.in_ok-keep_line.ensures.counted)
