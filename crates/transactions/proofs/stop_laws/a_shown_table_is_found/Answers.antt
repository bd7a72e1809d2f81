use Rattle.transactions.proofs.FoundAtStop.{found_shown}
use Rattle.transactions.proofs.stop_laws.a_shown_table_is_found.Goals as goal

pub returns-clause-found : goal.returns-clause-found
returns-clause-found c = found_shown

pub returns-clause-shown : goal.returns-clause-shown
returns-clause-shown c = λ layout pages t s table found shows. c.one_table_is_found.ensures layout pages s.table table (found_shown layout pages t s shows) found
