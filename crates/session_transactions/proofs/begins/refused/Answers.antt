use Rattle.std.proofs.Common.{ap, ◌∙◌}
use Rattle.tx_table.specs.TxState.{TxState}
use Rattle.session_transactions.proofs.Stopping.{passes_nothing}
use Rattle.session_transactions.proofs.Beginning.{refused_as, the_begin_laws}
use Rattle.session_transactions.proofs.begins.refused.Goals as goal

pub returns : goal.returns
returns g c =
    let laws = c.laws_of_transactions.ensures in
    let r = refused_as g.D.Disk.told (the_begin_laws laws.sessions laws.begin_unseen laws.begun laws.rows) c.args.parts.now c.args.session c.args.numbers c.requires.fit c.requires.ready c.status_name.result c.next-number.result c.release.new.self
    c.status_name.ensures (c.next-number.ensures ∙ ap (λ (t : TxState). t.next) c.tx.ensures) c.requires.spent c.release.ensures.entries c.release.ensures.promised in
    record { steps = r.steps; fit = r.fit; others = r.others; stays = r.stays; cause = r.cause; survives = passes_nothing g.D.Disk.told c.args.parts.now.pages c.known.ensures.stays }
