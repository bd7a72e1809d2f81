use Rattle.std.proofs.Common.{◌≡◌, ◌/◌, ℕ, refl}
use Rattle.snapshot_core.specs.declared.statuses.Status.TheVariants.{Begun}
use Rattle.tx_table.specs.Statuses.{status_of}
use Rattle.tx_table.specs.TxState.{IsOwn}
use Rattle.tx_table.proofs.Stores.{all_one}
use Rattle.tx_table.proofs.table.TxTable.commit.Goals as goal

pub commit_all-requires-clause-own : goal.commit_all-requires-clause-own
commit_all-requires-clause-own g c = all_one (IsOwn c.args.self.now) c.args.t c.requires.own

pub commit_all-requires-clause-begun : goal.commit_all-requires-clause-begun
commit_all-requires-clause-begun g c = λ tells statuses has. all_one (λ (t : ℕ). status_of statuses t ≡ Begun) c.args.t (c.requires.begun tells statuses has)

pub commit_all-requires-clause-page : goal.commit_all-requires-clause-page
commit_all-requires-clause-page g c = (c.args.t / 32640, all_one (λ (t : ℕ). t / 32640 ≡ c.args.t / 32640) c.args.t refl)
