use Rattle.std.proofs.Common.{◌+◌, List, Some, slice_index_or, slice_set, refl, sym, ap, ◌∙◌, subst, arith}
use Rattle.plain_script.specs.KeptLines.{AreCounted}
use Rattle.plain_script.specs.declared.kept.ScriptLine.{ScriptLine}
use Rattle.plain_script.specs.declared.kept.ScriptSession.{ScriptSession}
use Rattle.plain_script.proofs.Counting.{count_at, counted_below, counted_more, names_set}
use Rattle.plain_script.proofs.kept.keep_line.Goals as goal

pub one_more-requires : goal.one_more-requires
one_more-requires c =
    let below = counted_below c.args.sessions.now c.args.lines.now.items c.args.number c.index-sessions-number.result c.requires.there c.requires.counted in
    omega (arith, below.1, c.args.lines.now.ok, c.in_ok-push.ensures.len, c.len.ensures)

pub returns-clause-counted : goal.returns-clause-counted
returns-clause-counted c =
    let line : ScriptLine = record { session = c.args.number; rank = (slice_index_or c.args.sessions.now c.args.number c.index-sessions-number.result).lines; statement = Some c.args.statement } in
    let session : ScriptSession = record { name = (slice_index_or c.args.sessions.now c.args.number c.index-sessions-number-2.result).name; lines = c.one_more.result } in
    subst (λ (items : List ScriptLine). AreCounted (slice_set c.args.sessions.now c.args.number session) items) (sym c.in_ok-push.ensures.items)
    (counted_more c.args.sessions.now c.args.lines.now.items line session c.requires.there c.requires.counted
    (c.one_more.ensures ∙ ap (λ k. k + 1) (sym (count_at c.args.sessions.now c.args.number c.index-sessions-number.result c.requires.there))))

pub returns-clause-names : goal.returns-clause-names
returns-clause-names c =
    let session : ScriptSession = record { name = (slice_index_or c.args.sessions.now c.args.number c.index-sessions-number-2.result).name; lines = c.one_more.result } in
    names_set c.args.sessions.now c.args.number session c.index-sessions-number-2.result refl
