use Rattle.brin_insert.proofs.Asked.{shown_by_accounts}
use Rattle.brin_insert.proofs.laws.an_ask_is_of_the_accounts.Goals as goal

pub returns : goal.returns
returns c = λ layout request queue queued dropped after entry s a one asked is queue_is dropped_is. shown_by_accounts layout request queue queued dropped after s a one is queue_is dropped_is entry asked
