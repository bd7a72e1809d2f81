use Rattle.std.proofs.Common.{◌≡◌, ℕ, ◌+◌, ◌<◌, ◌≤◌, List, [], ◌∷◌, ◌++◌, length, map, take, set, get_or, length-take, ap, sym, subst, ◌∙◌, arith}
use Rattle.std.proofs.lemmas.List.{length-map, map_more, take_all}
use Rattle.block_model.specs.declared.schema.Column.{Column}
use Rattle.block_model.specs.declared.value.Kind.{Kind}
use Rattle.block_model.specs.declared.value.Kind.TheVariants.{Int}
use Rattle.block_model.specs.Padded.{IsPadded, padded, padded_next, is_padded}
use Rattle.block_model.proofs.value.Kinds.of.Goals as goal

abbrev kind_of : Column → Kind
kind_of c = c.kind

-- the kind of one more column
one_more : (columns : List Column) (at : ℕ) (slots : List Kind) (column : Column) → at < length columns → length columns ≤ 8 → column ≡ get_or columns at column → slots ≡ padded 8 Int (map kind_of (take at columns)) → set slots at column.kind ≡ padded 8 Int (map kind_of (take (at + 1) columns))
one_more columns at slots column inside few is h =
    let front = map kind_of (take at columns) in
    let len : length front ≡ at = length-map (take at columns) kind_of ∙ (let e : length (take at columns) ≡ at = omega (arith, length-take at columns) in e) in
    (λ i. set (h i) (sym len i) column.kind)
    ∙ padded_next 8 Int front column.kind (omega (arith, len))
    ∙ ap (λ (c : Column). padded 8 Int (front ++ c.kind ∷ [])) is
    ∙ ap (padded 8 Int) (sym (map_more kind_of columns at column inside))

pub loop-at-preserved : goal.loop-at-preserved
loop-at-preserved c =
    one_more c.args.columns.now c.loop-at.at c.loop-at.slots c.index-columns-at.result c.loop-at-test.true c.requires c.index-columns-at.is c.loop-at.invariant

all_of : (columns : List Column) (at : ℕ) (slots : List Kind) → length columns ≤ 8 → length columns ≤ at → slots ≡ padded 8 Int (map kind_of (take at columns)) → IsPadded 8 Int slots (length columns)
all_of columns at slots few end h =
    subst (IsPadded 8 Int slots) (length-map columns kind_of)
    (is_padded 8 Int (map kind_of columns) slots (omega (arith, length-map columns kind_of, few)) (h ∙ ap (λ (l : List Column). padded 8 Int (map kind_of l)) (take_all at columns end)))

pub invariant_of-result : goal.invariant_of-result
invariant_of-result c = all_of c.args.columns.now c.loop-at.at c.loop-at.slots c.requires c.loop-at-test.false c.loop-at.invariant
