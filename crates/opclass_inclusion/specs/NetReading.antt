-- the summary of networks that bytes encode, or where they go wrong
use Rattle.std.specs.Prelude.{ℕ, ◌==◌, if◌then◌else◌, List, Result}
use Rattle.opclass_inclusion.specs.Faults.{read_unless}
use Rattle.opclass_inclusion.specs.NetFaults.{fault_in, fields_in}
use Rattle.opclass_inclusion.specs.declared.net_bytes.NetFields.{NetFields}
use Rattle.opclass_inclusion.specs.declared.net_summary.NetSummary.{NetSummary}
use Rattle.opclass_inclusion.specs.declared.net_summary.NetSummary.TheVariants.{NothingYet, Unmergeable, Hull}

-- the summary of fields in form
abbrev pub from_fields : NetFields → NetSummary
from_fields f = if f.flags == 0 then NothingYet else if f.flags == 1 then Unmergeable else Hull (record { family = f.family; prefix = f.prefix; address = f.address })

abbrev pub read_of : List ℕ → Result NetSummary ℕ
read_of bytes = read_unless (fault_in bytes) (from_fields (fields_in bytes))
