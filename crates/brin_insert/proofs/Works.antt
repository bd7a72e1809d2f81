-- work in one index after the other of a table
use Rattle.std.proofs.Common.{◌≡◌, ◌≢◌, ℕ, ◌+◌, ◌<◌, ◌≤◌, All, List, [], ◌∷◌, ◌++◌, length, take, get_or, sym, ap, subst, ◌∙◌}
use Rattle.std.proofs.lemmas.List.{get_or_default, map_push, take_all}
use Rattle.std.proofs.lemmas.List.Elements.{All-push}
use Rattle.block_model.specs.declared.schema.Index.{Index}
use Rattle.store_layout.specs.DiskLayout.{DiskLayout}
use Rattle.range_tuple.specs.Tuples.{parts_of}
use Rattle.index_steps.specs.IndexTuples.{classes_of, index_at, no_index, shape_of}
use Rattle.brin_insert.specs.InsertHands.{InsertHand}
use Rattle.brin_insert.specs.Inserts.{IsOfItsIndex, numbers_in}
use Rattle.index_steps.specs.ShownTable.{indexes_of, numbers_from}
use Rattle.brin_insert.proofs.Numbers.{number_joins, number_stays_out}

module _ (layout : DiskLayout) (table i : ℕ) (index : Index) (below : i < length layout.schema.indexes) (is : index ≡ index_at layout i) (works : List InsertHand) (numbers : numbers_in works ≡ numbers_from table 0 (take i layout.schema.indexes)) where
  there : index ≡ get_or layout.schema.indexes i index
  there = is ∙ get_or_default layout.schema.indexes i no_index index below

  -- an index of the table has work of its own
  pub joins : index.table ≡ table → (new : List InsertHand) (work : InsertHand) → work.index ≡ i → new ≡ works ++ work ∷ [] → numbers_in new ≡ numbers_from table 0 (take (i + 1) layout.schema.indexes)
  joins own new work at pushed =
      ap numbers_in pushed
      ∙ map_push (λ (h : InsertHand). h.index) works work
      ∙ ap (λ (l : List ℕ). l ++ work.index ∷ []) numbers
      ∙ ap (λ (m : ℕ). numbers_from table 0 (take i layout.schema.indexes) ++ m ∷ []) at
      ∙ sym (number_joins table i layout.schema.indexes index below there own)

  -- one of another table has none
  pub stays_out : index.table ≢ table → numbers_in works ≡ numbers_from table 0 (take (i + 1) layout.schema.indexes)
  stays_out other = numbers ∙ sym (number_stays_out table i layout.schema.indexes index below there other)

pub tuples_join : (layout : DiskLayout) (i : ℕ) (works new : List InsertHand) (work : InsertHand) → work.index ≡ i → parts_of work.widened.columns ≡ classes_of (shape_of layout i) → new ≡ works ++ work ∷ [] → All (IsOfItsIndex layout) works → All (IsOfItsIndex layout) new
tuples_join layout i works new work at own pushed all =
    subst (λ (l : List InsertHand). All (IsOfItsIndex layout) l) (sym pushed) (All-push (IsOfItsIndex layout) works work all (own ∙ ap (λ (n : ℕ). classes_of (shape_of layout n)) (sym at)))

pub all_numbers : (layout : DiskLayout) (table n : ℕ) → length layout.schema.indexes ≤ n → numbers_from table 0 (take n layout.schema.indexes) ≡ indexes_of layout table
unfolding indexes_of
all_numbers layout table n all = ap (numbers_from table 0) (take_all n layout.schema.indexes all)
