-- the summary of ranges that bytes encode, or where they go wrong
use Rattle.std.specs.Prelude.{ℕ, nat_lt, ◌==◌, ◌||◌, if◌then◌else◌, List, None, Some, Result}
use Rattle.block_model.specs.Ranges.{Empty, Between}
use Rattle.opclass_inclusion.specs.Faults.{read_unless}
use Rattle.opclass_inclusion.specs.SpanFaults.{fault_in, fields_in, lower_is_infinite, upper_is_infinite}
use Rattle.opclass_inclusion.specs.declared.span_bytes.SpanFields.{SpanFields}
use Rattle.opclass_inclusion.specs.declared.span_summary.SpanSummary.{SpanSummary}

-- the summary of fields in form
abbrev pub from_fields : SpanFields → SpanSummary
from_fields f = record {
  empty_added = (f.flags == 1) || (f.flags == 3);
  hull =
      if nat_lt f.flags 2 then Empty
      else Between (if lower_is_infinite f.shape then None else Some f.lower) (if upper_is_infinite f.shape then None else Some f.upper);
}

abbrev pub read_of : List ℕ → Result SpanSummary ℕ
read_of bytes = read_unless (fault_in bytes) (from_fields (fields_in bytes))
