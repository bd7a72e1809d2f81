use Rattle.std.proofs.Common.{◌≡◌, true, arith}
use Rattle.block_model.specs.Names.{is_lower}
use Rattle.value_text.specs.TextReading.{begins}
use Rattle.command_line.proofs.NameReading.{name_at_count, name_at_none, read_is_named}
use Rattle.command_line.proofs.name.name.Goals as goal

pub returns-clause-read : goal.returns-clause-read
returns-clause-read c =
    let b : begins is_lower c.args.text.now ≡ true = cc in
    name_at_count c.args.text.now c.split_at.result.0.now c.split_at.result.1.now c.min.result b (omega arith) c.split_at.ensures.front c.split_at.ensures.back

pub returns-clause-named : goal.returns-clause-named
returns-clause-named c =
    let b : begins is_lower c.args.text.now ≡ true = cc in
    let k = name_at_count c.args.text.now c.split_at.result.0.now c.split_at.result.1.now c.min.result b (omega arith) c.split_at.ensures.front c.split_at.ensures.back in
    read_is_named c.args.text.now c.split_at.result.0.now c.split_at.result.1.now k

pub returns-then-not-begins_name-clause-read : goal.returns-then-not-begins_name-clause-read
returns-then-not-begins_name-clause-read c = name_at_none c.args.text.now (cc)
