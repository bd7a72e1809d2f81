-- laws of how many bytes a row has
use Rattle.std.proofs.Common.{◌*◌, ◌≤◌, List, [], ◌∷◌, length, map, arith}
use Rattle.std.specs.Prelude.{sum_by}
use Rattle.std.proofs.lemmas.List.{length-map}
use Rattle.std.proofs.lemmas.List.Sums.{sum_by-cons}
use Rattle.block_model.specs.RowSize.{row_size, value_size}
use Rattle.block_model.specs.declared.schema.Column.{Column}
use Rattle.block_model.specs.declared.value.Kind.{Kind}
use Rattle.block_model.specs.declared.value.Kind.TheVariants as kinds
use Rattle.page_layout.specs.declared.format.TheConstants.{MAX_ROW}

-- no value has more bytes than a range
pub size_small : (kind : Kind) → value_size kind ≤ 17
size_small kinds.Int = omega arith
size_small kinds.Span = omega arith
size_small kinds.Net = omega arith

pub sizes_small : (ks : List Kind) → sum_by value_size ks ≤ 17 * length ks
sizes_small [] = omega arith
sizes_small (k ∷ ks) = omega (arith, sum_by-cons value_size k ks, size_small k, sizes_small ks)

-- a row has at most eight of them
pub small_row : (columns : List Column) → length columns ≤ 8 → row_size (map (λ c. c.kind) columns) ≤ MAX_ROW
small_row columns few = omega (arith, sizes_small (map (λ (c : Column). c.kind) columns), length-map {A = Column} {B = Kind})
