use Rattle.std.proofs.Common.{refl, subst, sym}
use Rattle.std.specs.Option.{IsSome}
use Rattle.snapshot_core.specs.SessionChanges.{failed_open}
use Rattle.snapshot_core.specs.StoredVersions.{transaction_of}
use Rattle.transactions.specs.TransactionsState.{TransactionsState}
use Rattle.transactions.proofs.Calls.{changed_open}
use Rattle.transactions.proofs.transactions.Transactions.fail.Goals as goal

pub invariant_of-self : goal.invariant_of-self
invariant_of-self c =
    changed_open c.self.inside.tx c.self.inside.sessions.items c.fail_open.new.sessions.items c.args.session failed_open (λ o. refl) c.self.invariant
    (subst (λ (t : TransactionsState). IsSome (transaction_of t.opens c.args.session)) (sym c.self.view_is) c.requires) c.fail_open.ensures
