use Rattle.std.proofs.Common.{rules, FitsSigned, ap, ◌∙◌, drop, ◌++◌}
use Rattle.std.specs.Int.{w64}
use Rattle.opclass_inclusion.specs.SpanEncoding.{field_bytes, fields_of}
use Rattle.opclass_inclusion.specs.declared.span_bytes.SpanFields.{SpanFields}
use Rattle.opclass_inclusion.proofs.SpanReading.{length-fields, written}
use Rattle.opclass_inclusion.proofs.span_bytes.write.Goals as goal

pub returns-clause-size : goal.returns-clause-size
returns-clause-size c = length-fields (fields_of c.args.s.now)

pub returns-clause-written : goal.returns-clause-written
returns-clause-written c =
    let fields = c.fields_of-fields.result in
    let fits : FitsSigned w64 fields.lower = search rules in
    let also : FitsSigned w64 fields.upper = search rules in
    written fields c.args.out.now c.put_i64.new.bytes c.put_i64-2.new.bytes c.requires.room fits also c.put_i64.ensures.put c.put_i64-2.ensures.put
    ∙ ap (λ (f : SpanFields). field_bytes f ++ drop 18 c.args.out.now) c.fields_of-fields.ensures
