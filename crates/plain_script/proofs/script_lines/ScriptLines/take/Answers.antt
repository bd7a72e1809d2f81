use Rattle.std.proofs.Common.{◌≡◌, List, length, map, cond, set, false, sym, ap, ◌∙◌, subst, arith}
use Rattle.std.specs.Prelude.{IfNone, IfSome, slice_get, Some, true}
use Rattle.std.specs.Option.{is_some}
use Rattle.store_layout.specs.declared.statement.Statement.{Statement}
use Rattle.plain_script.specs.HeldScripts.{HeldScript, IsLineOf}
use Rattle.plain_script.specs.KeptLines.{IsHeld, TakesOut, is_there}
use Rattle.plain_script.specs.declared.kept.ScriptLine.{ScriptLine}
use Rattle.plain_script.proofs.ListLemmas.{back_whole}
use Rattle.plain_script.proofs.Taking.{held_still, held_then, none_taken, taken, taken_length, was_there}
use Rattle.plain_script.proofs.script_lines.ScriptLines.take.Goals as goal

pub invariant_of-self : goal.invariant_of-self
invariant_of-self c =
    let kept = c.self.inside.lines.items in
    let now = c.take_out.new.lines in
    let out : TakesOut kept now c.args.session c.args.number c.args.rank c.take_out.result =
    subst (λ (xs : List ScriptLine). TakesOut xs now c.args.session c.args.number c.args.rank c.take_out.result) c.as_mut_slice.ensures.value c.take_out.ensures in
    let many : length kept ≡ c.self.inside.lines.len = omega (arith, c.self.inside.lines.ok) in
    subst (IsHeld c.self.inside.whole.value.items) (sym (back_whole now kept c.self.inside.lines.len (taken_length kept now c.args.session c.args.number c.args.rank c.take_out.result out) many))
    (held_then c.self.inside.whole.value.items kept c.self.invariant now c.args.session c.args.number c.args.rank c.take_out.result out)

pub returns-clause-taken : goal.returns-clause-taken
returns-clause-taken c =
    let kept = c.self.inside.lines.items in
    let now = c.take_out.new.lines in
    let out : TakesOut kept now c.args.session c.args.number c.args.rank c.take_out.result =
    subst (λ (xs : List ScriptLine). TakesOut xs now c.args.session c.args.number c.args.rank c.take_out.result) c.as_mut_slice.ensures.value c.take_out.ensures in
    subst (λ (h : HeldScript). IfSome c.take_out.result (λ statement. IsLineOf h.script.lines c.args.session c.args.number c.args.rank statement)) c.self.view_is
    (taken c.self.inside.whole.value.items kept c.self.invariant now c.args.session c.args.number c.args.rank c.take_out.result out)

pub returns-clause-there : goal.returns-clause-there
returns-clause-there c =
    let kept = c.self.inside.lines.items in
    let now = c.take_out.new.lines in
    let out : TakesOut kept now c.args.session c.args.number c.args.rank c.take_out.result =
    subst (λ (xs : List ScriptLine). TakesOut xs now c.args.session c.args.number c.args.rank c.take_out.result) c.as_mut_slice.ensures.value c.take_out.ensures in
    subst (λ (h : HeldScript). IfSome c.take_out.result (λ _. slice_get h.held c.args.number ≡ Some true)) c.self.view_is
    (was_there c.self.inside.whole.value.items kept c.self.invariant now c.args.session c.args.number c.args.rank c.take_out.result out)

pub returns-clause-held : goal.returns-clause-held
returns-clause-held c =
    let kept = c.self.inside.lines.items in
    let now = c.take_out.new.lines in
    let out : TakesOut kept now c.args.session c.args.number c.args.rank c.take_out.result =
    subst (λ (xs : List ScriptLine). TakesOut xs now c.args.session c.args.number c.args.rank c.take_out.result) c.as_mut_slice.ensures.value c.take_out.ensures in
    let many : length kept ≡ c.self.inside.lines.len = omega (arith, c.self.inside.lines.ok) in
    ap (map is_there) (back_whole now kept c.self.inside.lines.len (taken_length kept now c.args.session c.args.number c.args.rank c.take_out.result out) many)
    ∙ held_still c.self.inside.whole.value.items kept c.self.invariant now c.args.session c.args.number c.args.rank c.take_out.result out
    ∙ ap (λ (h : HeldScript). cond (is_some c.take_out.result) (set h.held c.args.number false) h.held) c.self.view_is

pub returns-clause-none : goal.returns-clause-none
returns-clause-none c =
    let kept = c.self.inside.lines.items in
    let now = c.take_out.new.lines in
    let out : TakesOut kept now c.args.session c.args.number c.args.rank c.take_out.result =
    subst (λ (xs : List ScriptLine). TakesOut xs now c.args.session c.args.number c.args.rank c.take_out.result) c.as_mut_slice.ensures.value c.take_out.ensures in
    subst
    (λ (h : HeldScript).
    IfNone c.take_out.result ((statement : Statement) → IsLineOf h.script.lines c.args.session c.args.number c.args.rank statement → slice_get h.held c.args.number ≡ Some false))
    c.self.view_is
    (none_taken c.self.inside.whole.value.items kept c.self.invariant now c.args.session c.args.number c.args.rank c.take_out.result out)
