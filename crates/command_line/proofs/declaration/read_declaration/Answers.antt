use Rattle.command_line.proofs.WordLemmas.{read_reads, stops_leaves, stops_there}
use Rattle.command_line.proofs.declaration.read_declaration.Goals as goal

pub overflow_sub-result : goal.overflow_sub-result
overflow_sub-result c = stops_leaves c.args.autos c.args.text.now c.in-Err.left.now c.in-Err.ensures

pub returns-in-Ok : goal.returns-in-Ok
returns-in-Ok c = read_reads c.args.autos c.args.kept c.args.wanted.now c.args.text.now c.in-Ok.declaration c.in-Ok.field-0-1.now c.in-Ok.ensures.0 c.in-Ok.ensures.1 c.in-Ok.ensures.2

pub returns-in-Err : goal.returns-in-Err
returns-in-Err c = stops_there c.args.autos c.args.text.now c.in-Err.left.now c.in-Err.ensures
