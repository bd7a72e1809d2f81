use Rattle.std.proofs.Common.{◌+◌, ◌<◌, ◌^◌, refl, subst, sym}
use Rattle.std.specs.Option.{IsSome}
use Rattle.snapshot_core.specs.declared.sessions.Open.{Open}
use Rattle.snapshot_core.specs.SessionChanges.{with_next_k}
use Rattle.snapshot_core.specs.StoredVersions.{transaction_of}
use Rattle.transactions.specs.TransactionsState.{TransactionsState}
use Rattle.transactions.proofs.Calls.{changed_open, some_and}
use Rattle.transactions.proofs.transactions.Transactions.count_row.Goals as goal

pub invariant_of-self : goal.invariant_of-self
invariant_of-self c =
    changed_open c.self.inside.tx c.self.inside.sessions.items c.count_row.new.sessions.items c.args.session (λ (o : Open). with_next_k o (o.next_k + 1)) (λ o. refl) c.self.invariant
    (subst (λ (t : TransactionsState). IsSome (transaction_of t.opens c.args.session)) (sym c.self.view_is) (some_and (transaction_of c.args.self.now.opens c.args.session) (λ (o : Open). o.next_k + 1 < 2 ^ 32) c.requires)) c.count_row.ensures
