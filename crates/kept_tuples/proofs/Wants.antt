-- what conditions want of a minmax column, gathered
use Rattle.std.proofs.Common.{◌≡◌, ℕ, suc, ℤ, ◌+◌, ◌<◌, ◌==◌, Bool, true, false, not, cond, ◌&&◌, ◌||◌, List, [], ◌∷◌, ◌++◌, length, take, get_or, eqb-true, refl, sym, ap, ◌∙◌, arith}
use Rattle.std.specs.Prelude.{int_le}
use Rattle.std.specs.List.{list_all}
use Rattle.std.specs.Int.{int_max, int_min}
use Rattle.std.proofs.Math.Bool.{and_assoc, and-true, or-true}
use Rattle.std.proofs.lemmas.Bool.{false_from_ne_true}
use Rattle.std.proofs.lemmas.Int.{ints, clamps}
use Rattle.std.proofs.lemmas.List.{take_more}
use Rattle.std.proofs.lemmas.List.Folds.{list_all-append}
use Rattle.block_model.specs.declared.row.Cond.{Cond}
use Rattle.block_model.specs.declared.value.Op.{Op}
use Rattle.block_model.specs.declared.value.Op.TheVariants.{IsNull, NotNull}
use Rattle.opclass_any.specs.AnyClass.{consistent}
use Rattle.opclass_minmax.specs.Bounds.{Between}
use Rattle.opclass_minmax.specs.Consistent.{condition_holds}
use Rattle.range_tuple.specs.GatheredKeys.{asks_for_nulls, asks_for_values, is_not_null, is_null}
use Rattle.range_tuple.specs.Keeps.{column_allows, comparisons, keeps}
use Rattle.opclass_api.specs.Conditions.{compares}
use Rattle.opclass_api.specs.NumberBounds.{key_holds}
use Rattle.range_tuple.proofs.AskingColumns.{allows_asked}
use Rattle.kept_tuples.specs.MinMaxTuples.{minmax_column, minmax_tuple}
use Rattle.kept_tuples.specs.Wanted.{allows, allows_on, both, may_have}
use Rattle.kept_tuples.specs.declared.wanted.Wanted.{Wanted}

-- ---- tests

nulls_last : (h n x v : Bool) → (h && (x && ((not n || h) && (not v || true)))) ≡ (x && (h && (not v || true)))
nulls_last true n x v = ap (λ (b : Bool). x && (b && (not v || true))) (or-true (not n))
nulls_last false n true v = refl
nulls_last false n false v = refl

some_or_all : (holds : Cond → Bool) (asked : List Cond) → ((length asked == 0) || list_all holds asked) ≡ list_all holds asked
some_or_all holds [] = refl
some_or_all holds (c ∷ asked) = ap (λ (b : Bool). b || list_all holds (c ∷ asked)) (false_from_ne_true (suc (length asked) == 0) (λ same. omega (arith, eqb-true (suc (length asked)) 0 same)))

-- ---- the conditions in turn are what is gathered of them

module _ (place : ℕ) (nulls : Bool) (least greatest : ℤ) where
  abbrev holds : Cond → Bool
  holds = condition_holds (Between least greatest)

  abbrev gathered : List Cond → Bool → Bool → Bool
  gathered asked n v = list_all holds asked && ((not n || nulls) && (not v || true))

  one_more : (c : Cond) (asked : List Cond) (n v on : Bool) (op : Op) → c.op ≡ op
      → ((not on || allows nulls least greatest op c.key) && gathered asked n v) ≡ gathered (cond (on && compares op) (c ∷ asked) asked) ((on && is_null op) || n) ((on && is_not_null op) || v)
  one_more c asked n v false op is = refl
  one_more c asked n v true IsNull is = nulls_last nulls n (list_all holds asked) v
  one_more c asked n v true NotNull is = ap (λ (b : Bool). list_all holds asked && ((not n || nulls) && b)) (or-true (not v))
  one_more c asked n v true op is =
      ap (λ (o : Op). key_holds least greatest o c.key && gathered asked n v) (sym is) ∙ sym (and_assoc (holds c) (list_all holds asked) ((not n || nulls) && (not v || true)))

  each_allowed : (conds : List Cond) → list_all (allows_on place nulls least greatest) conds ≡ gathered (comparisons place conds) (asks_for_nulls place conds) (asks_for_values place conds)
  each_allowed [] = refl
  each_allowed (c ∷ conds) =
      ap (λ (b : Bool). allows_on place nulls least greatest c && b) (each_allowed conds)
      ∙ one_more c (comparisons place conds) (asks_for_nulls place conds) (asks_for_values place conds) (c.column == place) c.op refl

allowed : (place : ℕ) (nulls : Bool) (least greatest : ℤ) (conds : List Cond)
    → column_allows conds (minmax_column place nulls least greatest) ≡ gathered place nulls least greatest (comparisons place conds) (asks_for_nulls place conds) (asks_for_values place conds)
unfolding consistent
allowed place true least greatest conds =
    allows_asked (minmax_column place true least greatest) conds (comparisons place conds) (asks_for_nulls place conds) (asks_for_values place conds) (record { comparisons_on = refl; nulls_asked = refl; values_asked = refl })
    ∙ ap (λ (b : Bool). b && ((not (asks_for_nulls place conds) || true) && (not (asks_for_values place conds) || true))) (some_or_all (condition_holds (Between least greatest)) (comparisons place conds))
allowed place false least greatest conds =
    allows_asked (minmax_column place false least greatest) conds (comparisons place conds) (asks_for_nulls place conds) (asks_for_values place conds) (record { comparisons_on = refl; nulls_asked = refl; values_asked = refl })
    ∙ ap (λ (b : Bool). b && ((not (asks_for_nulls place conds) || false) && (not (asks_for_values place conds) || true))) (some_or_all (condition_holds (Between least greatest)) (comparisons place conds))

-- a tuple of that column keeps conditions where it allows each
pub keeps_is : (place range : ℕ) (nulls : Bool) (least greatest : ℤ) (conds : List Cond) → list_all (allows_on place nulls least greatest) conds ≡ keeps (minmax_tuple place range nulls least greatest) conds
keeps_is place range nulls least greatest conds =
    each_allowed place nulls least greatest conds
    ∙ sym (allowed place nulls least greatest conds)
    ∙ sym (and-true (column_allows conds (minmax_column place nulls least greatest)))

-- one condition more
pub allows_more : (place : ℕ) (nulls : Bool) (least greatest : ℤ) (conds : List Cond) (at : ℕ) (c : Cond) → at < length conds → c ≡ get_or conds at c
    → list_all (allows_on place nulls least greatest) (take (at + 1) conds) ≡ (list_all (allows_on place nulls least greatest) (take at conds) && allows_on place nulls least greatest c)
allows_more place nulls least greatest conds at c below is =
    ap (list_all (allows_on place nulls least greatest)) (take_more conds at c below ∙ ap (λ (d : Cond). take at conds ++ d ∷ []) (sym is))
    ∙ list_all-append (allows_on place nulls least greatest) (take at conds) (c ∷ [])
    ∙ ap (λ (b : Bool). list_all (allows_on place nulls least greatest) (take at conds) && b) (and-true (allows_on place nulls least greatest c))

-- ---- what both want

swap : (a b c d : Bool) → ((a && b) && (c && d)) ≡ ((a && c) && (b && d))
swap false b c d = refl
swap true true c d = refl
swap true false true d = refl
swap true false false d = refl

none_of : (m n : Bool) → not (m || n) ≡ (not m && not n)
none_of true n = refl
none_of false n = refl

nulls_of : (h m n : Bool) → (h || not (m || n)) ≡ ((h || not m) && (h || not n))
nulls_of true m n = refl
nulls_of false m n = none_of m n

below_least : (l a b : ℤ) → int_le l (int_min a b) ≡ (int_le l a && int_le l b)
below_least l a b = grind (arith, ints, clamps)

above_greatest : (a b g : ℤ) → int_le (int_max a b) g ≡ (int_le a g && int_le b g)
above_greatest a b g = grind (arith, ints, clamps)

-- what both want is in a column where each finds what it wants
pub may_have_both : (v w : Wanted) (nulls : Bool) (least greatest : ℤ) → may_have (both v w) nulls least greatest ≡ (may_have v nulls least greatest && may_have w nulls least greatest)
may_have_both v w nulls least greatest =
    (λ i. none_of v.none w.none i && (nulls_of nulls v.nulls w.nulls i && (below_least least v.greatest w.greatest i && above_greatest v.least w.least greatest i)))
    ∙ ap (λ (b : Bool). (not v.none && not w.none) && (((nulls || not v.nulls) && (nulls || not w.nulls)) && b)) (swap (int_le least v.greatest) (int_le least w.greatest) (int_le v.least greatest) (int_le w.least greatest))
    ∙ ap (λ (b : Bool). (not v.none && not w.none) && b) (swap (nulls || not v.nulls) (nulls || not w.nulls) (int_le least v.greatest && int_le v.least greatest) (int_le least w.greatest && int_le w.least greatest))
    ∙ swap (not v.none) (not w.none) ((nulls || not v.nulls) && (int_le least v.greatest && int_le v.least greatest)) ((nulls || not w.nulls) && (int_le least w.greatest && int_le w.least greatest))
