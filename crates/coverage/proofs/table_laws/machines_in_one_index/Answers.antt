use Rattle.coverage.proofs.MachinesIn.{insert_steps_in, maintain_steps_in, insert_knows, maintain_knows}
use Rattle.coverage.proofs.table_laws.machines_in_one_index.Goals as goal

pub returns : goal.returns
returns c = record { insert = insert_steps_in; maintain = maintain_steps_in; insert_knows = insert_knows; maintain_knows = maintain_knows }
