use Rattle.std.proofs.Common.{Option, List, sym, ap, ◌∙◌}
use Rattle.snapshot_core.specs.declared.sessions.Open.{Open}
use Rattle.snapshot_core.specs.StoredVersions.{transaction_of}
use Rattle.snapshot_core.specs.declared.statuses.Status.TheVariants.{Committed}
use Rattle.transactions.specs.Sessions.{committed_by}
use Rattle.transactions.specs.TransactionsState.{TransactionsState}
use Rattle.transactions.proofs.Calls.{failed_does, no_part}
use Rattle.transactions.proofs.transactions.Transactions.commit.Goals as goal

pub returns-in-Ok-clause-database : goal.returns-in-Ok-clause-database
returns-in-Ok-clause-database g c =
    failed_does g.D.Disk.told c.args.pages.now c.rollback.new.pages c.args.self.now c.rollback.new.self c.args.session c.open_of.result.now
    (ap (λ (t : TransactionsState). transaction_of t.opens c.args.session) (sym c.self.view_is) ∙ ap (λ (os : List (Option Open)). transaction_of os c.args.session) (sym c.as_slice.ensures.value) ∙ c.open_of.ensures)
    c.if-open_of.true c.in-Ok.ensures.database

pub returns-in-Ok-clause-survives : goal.returns-in-Ok-clause-survives
returns-in-Ok-clause-survives g c = λ o was. no_part g.D.Disk.told c.args.pages.now c.rollback.new.pages (committed_by o) Committed c.in-Ok.ensures.survives

pub returns-in-Err-clause-survives : goal.returns-in-Err-clause-survives
returns-in-Err-clause-survives g c = λ o was. no_part g.D.Disk.told c.args.pages.now c.rollback.new.pages (committed_by o) Committed c.in-Err.ensures.survives
