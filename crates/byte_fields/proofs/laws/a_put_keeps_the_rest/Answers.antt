use Rattle.byte_fields.specs.Fields.{field-apart, length-put}
use Rattle.byte_fields.proofs.laws.a_put_keeps_the_rest.Goals as goal

pub returns-clause-length : goal.returns-clause-length
returns-clause-length c = length-put c.args.bytes.now c.args.at c.args.width c.args.value c.requires.within

pub returns-clause-field : goal.returns-clause-field
returns-clause-field c =
    field-apart c.args.bytes.now c.args.at c.args.width c.args.value c.args.from c.args.long c.requires.within c.requires.apart
