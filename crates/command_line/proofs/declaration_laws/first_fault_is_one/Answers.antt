use Rattle.command_line.proofs.FirstFaults.{first_fault_once}
use Rattle.command_line.proofs.declaration_laws.first_fault_is_one.Goals as goal

pub returns : goal.returns
returns c autos words word at other place f g = first_fault_once autos words word at other place f g
