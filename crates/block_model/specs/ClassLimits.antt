-- the kinds and parameters of operator classes
use Rattle.std.specs.Prelude.{ℕ, ◌%◌, ◌==◌, nat_le, Bool, true, false, ◌&&◌, List}
use Rattle.block_model.specs.declared.value.Kind.{Kind}
use Rattle.block_model.specs.declared.value.Kind.TheVariants as kinds
use Rattle.block_model.specs.declared.schema.Class.{Class}
use Rattle.block_model.specs.declared.schema.Class.TheVariants as classes
use Rattle.block_model.specs.declared.schema.Column.{Column}
use Rattle.block_model.specs.declared.schema.Part.{Part}
use Rattle.block_model.specs.IndexedColumns.{kind_at}

-- both ends belong to it
abbrev pub is_within : ℕ → ℕ → ℕ → Bool
is_within low high n = nat_le low n && nat_le n high

-- minmax and multi are classes of int8, inclusion of int8range and inet, bloom of int8 and inet
abbrev pub takes_kind : Class → Kind → Bool
takes_kind classes.MinMax kinds.Int = true
takes_kind classes.MinMax kind = false
takes_kind (classes.Multi limit) kinds.Int = true
takes_kind (classes.Multi limit) kind = false
takes_kind classes.Inclusion kinds.Int = false
takes_kind classes.Inclusion kind = true
takes_kind (classes.Bloom bits hashes) kinds.Span = false
takes_kind (classes.Bloom bits hashes) kind = true

-- multi keeps 8 to 256 values; bloom has 64 to 16384 bits, a multiple of 8, and 1 to 16 hashes
abbrev pub has_lawful_parameters : Class → Bool
has_lawful_parameters classes.MinMax = true
has_lawful_parameters (classes.Multi limit) = is_within 8 256 limit
has_lawful_parameters classes.Inclusion = true
has_lawful_parameters (classes.Bloom bits hashes) = is_within 64 16384 bits && (bits % 8 == 0) && is_within 1 16 hashes

-- one indexed column's class
abbrev pub class_is_lawful : List Column → Part → Bool
class_is_lawful columns part = takes_kind part.class (kind_at columns part.column) && has_lawful_parameters part.class
