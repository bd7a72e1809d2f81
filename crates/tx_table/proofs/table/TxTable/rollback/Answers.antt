use Rattle.std.proofs.Common.{[], ◌∷◌, arith}
use Rattle.snapshot_core.specs.declared.statuses.Status.TheVariants.{RolledBack}
use Rattle.tx_table.specs.TxState.{IsOwn}
use Rattle.tx_table.proofs.Stores.{all_one, one_some, over_all, rolled_back_used, started_of}
use Rattle.tx_table.proofs.table.TxTable.rollback.Goals as goal

pub set_status-requires-clause-number : goal.set_status-requires-clause-number
set_status-requires-clause-number g c = omega (arith, c.requires.own.given, c.requires.over.within)

pub set_status-requires-clause-started : goal.set_status-requires-clause-started
set_status-requires-clause-started g c = started_of g.D.Disk.told c.args.self.now c.args.pages.now c.args.t c.requires.over c.requires.own.given c.requires.begun

pub returns-clause-over : goal.returns-clause-over
returns-clause-over g c =
    let told = g.D.Disk.told in
    let old = c.args.pages.now in
    let new = c.set_status.new.pages in
    over_all told c.args.self.now old new (c.args.t ∷ []) RolledBack c.requires.over c.set_status.ensures.rest.leaves (all_one (IsOwn c.args.self.now) c.args.t c.requires.own) rolled_back_used
    (one_some told old new c.args.t RolledBack c.set_status.result c.set_status.ensures.set c.set_status.ensures.kept)
