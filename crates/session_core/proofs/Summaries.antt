-- the summaries of a table's indexes, one after the other
use Rattle.std.proofs.Common.{◌≡◌, ◌≢◌, ℕ, suc, ◌+◌, ◌<◌, Bool, List, [], ◌∷◌, ◌++◌, cond, drop, drop-cons, get_or, length, map, sym, ap, subst, ◌∙◌, arith, append_assoc}
use Rattle.std.proofs.lemmas.Bool.{eq-eqb, ne_eqb}
use Rattle.std.proofs.lemmas.List.{map-append}
use Rattle.block_model.specs.declared.schema.Index.{Index}
use Rattle.summarise_core.specs.Summarises.{SummariseState}
use Rattle.index_steps.specs.ShownTable.{numbers_from}

abbrev pub numbers_of : List SummariseState → List ℕ
numbers_of summaries = map (λ (a : SummariseState). a.index) summaries

-- so far these are the numbers of the table's indexes, but for those among the indexes from that number on
abbrev pub AreSoFar : (table number at : ℕ) → List Index → List SummariseState → Type 0
AreSoFar table number at indexes summaries = numbers_of summaries ++ numbers_from table number (drop at indexes) ≡ numbers_from table 0 indexes

module _ (table number at : ℕ) (indexes : List Index) (item : Index) (within : at < length indexes) (is : item ≡ get_or indexes at item) where
  abbrev rest : List ℕ
  rest = numbers_from table (number + 1) (drop (suc at) indexes)

  one_on : suc at ≡ at + 1
  one_on = omega arith

  next : drop at indexes ≡ item ∷ drop (suc at) indexes
  next = drop-cons indexes at item within ∙ ap (λ (i : Index). i ∷ drop (suc at) indexes) (sym is)

  pub so_far_more : (summaries : List SummariseState) (one : SummariseState) → item.table ≡ table → one.index ≡ number → AreSoFar table number at indexes summaries → AreSoFar table (number + 1) (at + 1) indexes (summaries ++ one ∷ [])
  so_far_more summaries one its named before = subst (λ (n : ℕ). AreSoFar table (number + 1) n indexes (summaries ++ one ∷ [])) one_on (
      ap (λ (l : List ℕ). l ++ rest) (map-append (λ (a : SummariseState). a.index) summaries (one ∷ []))
      ∙ append_assoc (numbers_of summaries) (one.index ∷ []) rest
      ∙ ap (λ (n : ℕ). numbers_of summaries ++ n ∷ rest) named
      ∙ ap (λ (l : List ℕ). numbers_of summaries ++ l) (sym (ap (numbers_from table number) next ∙ ap (λ (b : Bool). cond b (number ∷ rest) rest) (eq-eqb item.table table its)))
      ∙ before)

  pub so_far_skipped : (summaries : List SummariseState) → item.table ≢ table → AreSoFar table number at indexes summaries → AreSoFar table (number + 1) (at + 1) indexes summaries
  so_far_skipped summaries other before = subst (λ (n : ℕ). AreSoFar table (number + 1) n indexes summaries) one_on (
      ap (λ (l : List ℕ). numbers_of summaries ++ l) (sym (ap (numbers_from table number) next ∙ ap (λ (b : Bool). cond b (number ∷ rest) rest) (ne_eqb item.table table other)))
      ∙ before)
