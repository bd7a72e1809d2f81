use Rattle.vacuum_core.proofs.Spared.{is_spared}
use Rattle.vacuum_core.proofs.law_table.a_kept_table_takes_a_vacuum.Goals as goal

pub returns-clause-heap : goal.returns-clause-heap
returns-clause-heap c = λ layout pages locks s table task shows. record { blocks = shows.blocks; has = shows.has }

pub returns-clause-spared : goal.returns-clause-spared
returns-clause-spared c = λ layout pages paged locks locked s table block by blocks blocked u drops watched n b k other gone wants.
    is_spared by s table block blocks blocked u drops watched n b k other gone wants
