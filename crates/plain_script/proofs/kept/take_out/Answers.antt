use Rattle.std.proofs.Common.{◌<◌, length, arith}
use Rattle.std.proofs.lemmas.List.{set-get_or}
use Rattle.plain_script.proofs.Taking.{no_rank, no_session, taken_out}
use Rattle.plain_script.proofs.kept.take_out.Goals as goal

pub returns-then-line-session : goal.returns-then-line-session
returns-then-line-session c =
    let within : c.args.number < length c.args.lines.now = omega (arith, c.if-number-lines.false) in (
      set-get_or c.args.lines.now c.args.number c.index-lines-number.result,
      (λ statement e. no_session c.args.lines.now c.args.session c.args.number c.args.rank c.index-lines-number.result statement within c.if-line-session.true e),
    )

pub returns-then-line-rank : goal.returns-then-line-rank
returns-then-line-rank c =
    let within : c.args.number < length c.args.lines.now = omega (arith, c.if-number-lines.false) in (
      set-get_or c.args.lines.now c.args.number c.index-lines-number.result,
      (λ statement e. no_rank c.args.lines.now c.args.session c.args.number c.args.rank c.index-lines-number.result statement within c.if-line-rank.true e),
    )

pub returns : goal.returns
returns c =
    let within : c.args.number < length c.args.lines.now = omega (arith, c.if-number-lines.false) in
    taken_out c.args.lines.now c.args.session c.args.number c.args.rank c.index-lines-number.result within c.if-line-session.false c.if-line-rank.false c.take.result c.take.new.self c.take.ensures.value
    c.take.ensures.after
