use Rattle.std.proofs.Common.{subst}
use Rattle.opclass_inclusion.specs.Faults.{IsFirstFault}
use Rattle.opclass_inclusion.specs.SpanEncoding.{field_bytes, fields_of}
use Rattle.opclass_inclusion.specs.SpanFaults.{fault_in, field_end, field_fault, fields_in}
use Rattle.opclass_inclusion.specs.SpanHulls.{IsSummary}
use Rattle.opclass_inclusion.specs.SpanReading.{from_fields, read_of}
use Rattle.opclass_inclusion.specs.declared.span_bytes.SpanFields.{SpanFields}
use Rattle.opclass_inclusion.proofs.Reading.{fault_read, read_whole}
use Rattle.opclass_inclusion.proofs.SpanReading.{read_again}
use Rattle.opclass_inclusion.proofs.span_bytes.read.Goals as goal

pub returns-clause-read : goal.returns-clause-read
returns-clause-read c =
    let bytes = c.args.bytes.now in
    let found = c.summary_in.result in
    let first : IsFirstFault (field_fault (fields_in bytes)) field_end found = subst (λ (f : SpanFields). IsFirstFault (field_fault f) field_end found) c.fields_in.ensures.fields c.summary_in.ensures.fault in
    read_whole IsSummary fields_of field_bytes read_of read_again bytes 18 c.fields_in.result (field_fault (fields_in bytes)) field_end found c.whole.result
    c.fields_in.ensures.whole (fault_read (fault_in bytes) (from_fields (fields_in bytes))) c.summary_in.ensures.found first c.whole.ensures.found c.whole.ensures.size c.whole.ensures.place
