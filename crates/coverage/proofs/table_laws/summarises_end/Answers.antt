use Rattle.coverage.proofs.SummariseEnds.{summarise_within}
use Rattle.coverage.proofs.VacuumEnds.{vacuum_within}
use Rattle.coverage.proofs.table_laws.summarises_end.Goals as goal

pub returns : goal.returns
returns c = record {
  summarises = λ s n at range tuples w job phase kept was is has alone. summarise_within s n at range tuples w job phase kept was is has alone;
  vacuums = λ s n at tuples w kept was has alone. vacuum_within s n at tuples w kept was has alone;
}
