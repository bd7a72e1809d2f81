use Rattle.std.proofs.Common.{rules, ◌≡◌, ℕ, ◌≤◌, ◌<◌, ◌/◌, List, [], ◌∷◌, length, map, arith}
use Rattle.std.specs.Prelude.{sum_by}
use Rattle.std.proofs.lemmas.List.{length-map}
use Rattle.std.proofs.lemmas.List.Sums.{sum_by-cons}
use Rattle.block_model.specs.declared.schema.Column.{Column}
use Rattle.block_model.specs.declared.value.Kind.{Kind}
use Rattle.block_model.specs.declared.value.Kind.TheVariants as kinds
use Rattle.block_model.specs.RowSize.{row_size, value_size}
use Rattle.block_model.proofs.sizes.most_rows.Goals as goal

-- each column takes a byte at least
all_take_bytes : (ks : List Kind) → length ks ≤ sum_by value_size ks
all_take_bytes [] = omega arith
all_take_bytes (kinds.Int ∷ ks) = omega (arith, sum_by-cons value_size kinds.Int ks, all_take_bytes ks)
all_take_bytes (kinds.Span ∷ ks) = omega (arith, sum_by-cons value_size kinds.Span ks, all_take_bytes ks)
all_take_bytes (kinds.Net ∷ ks) = omega (arith, sum_by-cons value_size kinds.Net ks, all_take_bytes ks)

none_fits : (size : ℕ) → 8160 < size → 0 ≡ 8160 / size
none_fits size beyond = grind (arith)

pub returns-then-columns-gt-PAGE_ROOM : goal.returns-then-columns-gt-PAGE_ROOM
returns-then-columns-gt-PAGE_ROOM c =
    let kinds = map (λ (k : Column). k.kind) c.args.columns.now in
    let many : 8160 < length c.args.columns.now = search rules in
    none_fits (row_size kinds) (omega (arith, all_take_bytes kinds, length-map c.args.columns.now (λ (k : Column). k.kind), many))
