use Rattle.summarise_core.proofs.Calls.{calls_end, vacuums_end}
use Rattle.summarise_core.proofs.summarise_laws.a_summarise_ends_alone.Goals as goal

pub returns-clause-complete : goal.returns-clause-complete
returns-clause-complete c = λ s calls at tuples shown u run task kept few.
    vacuums_end c.table_stays_covered.ensures.kept s c.summarises_end.ensures.vacuums calls at tuples shown u run task kept few

pub returns-clause-summarise : goal.returns-clause-summarise
returns-clause-summarise c = λ s calls at range tuples shown job phase u run is task kept few.
    calls_end c.table_stays_covered.ensures.kept s c.summarises_end.ensures.summarises calls at range tuples shown job phase u run is task kept few
