use Rattle.std.proofs.Common.{rules, FitsSigned}
use Rattle.std.specs.Int.{w64}
use Rattle.page_layout.proofs.Numbers.{written-signed}
use Rattle.page_layout.proofs.Columns.{int_column}
use Rattle.page_layout.proofs.column.write_column.Goals as goal

pub returns-in-Int-clause-written : goal.returns-in-Int-clause-written
returns-in-Int-clause-written c =
    let fits : FitsSigned w64 c.in-Int.number = search rules in
    int_column c.args.kind c.args.value.now c.in-Int.number c.args.out.now c.put_i64.new.bytes c.in-Int.is c.requires.kind (written-signed c.in-Int.number c.args.out.now c.put_i64.new.bytes fits c.put_i64.ensures.put)
