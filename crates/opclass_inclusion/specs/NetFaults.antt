-- which bytes encode no summary of networks, and where the fault is
use Rattle.std.specs.Prelude.{ℕ, suc, ◌-◌, ◌%◌, ◌^◌, nat_lt, nat_le, ◌==◌, Bool, not, if◌then◌else◌, List, length, slice_index, Option, None, Some}
use Rattle.byte_fields.specs.Fields.{field_at, number_of}
use Rattle.opclass_inclusion.specs.Faults.{placed}
use Rattle.opclass_inclusion.specs.declared.net_bytes.NetFields.{NetFields}

-- flags say one thing at most
abbrev pub has_network : NetFields → Bool
has_network f = f.flags == 2

-- of a network the family is 4, the prefix is 32 at most, and no bit is set past it; what is absent is 0
abbrev pub family_in_form : NetFields → Bool
family_in_form f = f.family == (if has_network f then 4 else 0)

abbrev pub prefix_in_form : NetFields → Bool
prefix_in_form f = if has_network f then nat_le f.prefix 32 else f.prefix == 0

abbrev pub address_in_form : NetFields → Bool
address_in_form f = if has_network f then f.address % 2 ^ (32 - f.prefix) == 0 else f.address == 0

-- the place of the first field that is out of form
abbrev pub field_fault : NetFields → Option ℕ
field_fault f =
    if nat_lt 2 f.flags then Some 0
    else if not (family_in_form f) then Some 1
    else if not (prefix_in_form f) then Some 2
    else if not (address_in_form f) then Some 3
    else None

-- where the field that begins at a place ends
abbrev pub field_end : ℕ → ℕ
field_end at = if at == 3 then 7 else suc at

-- the fields of the bytes; one that isn't whole counts as 0
abbrev pub fields_in : List ℕ → NetFields
fields_in bytes = record {
  flags = slice_index bytes 0;
  family = slice_index bytes 1;
  prefix = slice_index bytes 2;
  address = if nat_lt (length bytes) 7 then 0 else number_of (field_at bytes 3 4);
}

-- the first field out of form of 7 bytes
abbrev pub fault_in : List ℕ → Option ℕ
fault_in bytes = placed (length bytes) 7 field_end (field_fault (fields_in bytes))
