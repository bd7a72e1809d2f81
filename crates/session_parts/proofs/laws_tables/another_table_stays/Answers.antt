use Rattle.session_parts.proofs.Tables.{another_table_stays, rests_in_others}
use Rattle.session_parts.proofs.laws_tables.another_table_stays.Goals as goal

pub returns-clause-rests : goal.returns-clause-rests
returns-clause-rests c = rests_in_others

pub returns-clause-stays : goal.returns-clause-stays
returns-clause-stays c = another_table_stays
