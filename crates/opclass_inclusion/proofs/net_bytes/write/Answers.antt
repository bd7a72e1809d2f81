use Rattle.std.proofs.Common.{ap, ◌∙◌, drop, ◌++◌}
use Rattle.opclass_inclusion.specs.NetEncoding.{field_bytes, fields_of}
use Rattle.opclass_inclusion.specs.declared.net_bytes.NetFields.{NetFields}
use Rattle.opclass_inclusion.proofs.NetReading.{length-fields, written}
use Rattle.opclass_inclusion.proofs.net_bytes.write.Goals as goal

pub returns-clause-size : goal.returns-clause-size
returns-clause-size c = length-fields (fields_of c.args.s.now)

pub returns-clause-written : goal.returns-clause-written
returns-clause-written c =
    written c.fields_of-fields.result c.args.out.now c.put_u32.new.bytes c.requires.room c.put_u32.ensures.put
    ∙ ap (λ (f : NetFields). field_bytes f ++ drop 7 c.args.out.now) c.fields_of-fields.ensures
