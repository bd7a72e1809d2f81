-- the bytes of a summary of networks
use Rattle.std.specs.Prelude.{ℕ, List, ◌∷◌}
use Rattle.std.specs.Int.{bytes_high_first}
use Rattle.opclass_inclusion.specs.declared.net_bytes.NetFields.{NetFields}
use Rattle.opclass_inclusion.specs.declared.net_summary.NetSummary.{NetSummary}
use Rattle.opclass_inclusion.specs.declared.net_summary.NetSummary.TheVariants.{NothingYet, Unmergeable, Hull}

-- 4 bytes of an address, the highest first
unfoldable pub address_bytes : ℕ → List ℕ
address_bytes n = bytes_high_first 4 n

-- Bit 0 of the flags says that the summary is unmergeable, and bit 1 that there is a network. The network follows: its
-- family, prefix and address. They are zeros where there is none.
abbrev pub fields_of : NetSummary → NetFields
fields_of NothingYet = record { flags = 0; family = 0; prefix = 0; address = 0 }
fields_of Unmergeable = record { flags = 1; family = 0; prefix = 0; address = 0 }
fields_of (Hull u) = record { flags = 2; family = u.family; prefix = u.prefix; address = u.address }

-- 7 bytes: 1 of flags, 1 of the family, 1 of the prefix, and 4 of the address
abbrev pub field_bytes : NetFields → List ℕ
field_bytes f = f.flags ∷ f.family ∷ f.prefix ∷ address_bytes f.address

abbrev pub bytes_of : NetSummary → List ℕ
bytes_of s = field_bytes (fields_of s)
