-- The rows of a block that are added to a tuple of an index are included by it, and it is one of the index still.
use Rattle.std.proofs.Common.{◌≡◌, ⊎_elim, ℕ, ◌≤◌, ◌<◌, Option, Some, None, sym, ◌∙◌, ap, subst, zero, suc}
use Rattle.std.specs.Prelude.{IsTrue}
use Rattle.std.proofs.lemmas.Option.{same_Some, none-some}
use Rattle.std.proofs.Math.Nat.{not-suc-le-zero}
use Rattle.block_model.specs.declared.row.Row.{Row}
use Rattle.coverage.specs.IndexView.{IndexTuple, Contents, IsFormed}
use Rattle.coverage.specs.Changes.{IsWithin}
use Rattle.coverage.specs.Statements.{AreLawful, row_added, rows_added, HasNoMoreRows}
use Rattle.coverage.proofs.Numbers.{lt_or_ge, last_or_below}

module _ (contents : Contents) (lawful : AreLawful contents) (row : ℕ → Option Row) where
  one_formed : (o : Option Row) (t : IndexTuple) → IsFormed contents t → IsFormed contents (row_added contents o t)
  one_formed None t formed = formed
  one_formed (Some q) t formed = (lawful.added q t formed).0

  -- a tuple of the index stays one
  pub rows_formed : (n : ℕ) (t : IndexTuple) → IsFormed contents t → IsFormed contents (rows_added contents row n t)
  rows_formed zero t formed = formed
  rows_formed (suc n) t formed = one_formed (row n) (rows_added contents row n t) (rows_formed n t formed)

  one_wider : (o : Option Row) (t : IndexTuple) → IsFormed contents t → IsWithin t.includes (row_added contents o t).includes
  one_wider None t formed r has = has
  one_wider (Some q) t formed r has = (lawful.added q t formed).1.wider r has

  pub rows_wider : (n : ℕ) (t : IndexTuple) → IsFormed contents t → IsWithin t.includes (rows_added contents row n t).includes
  rows_wider zero t formed r has = has
  rows_wider (suc n) t formed r has = one_wider (row n) (rows_added contents row n t) (rows_formed n t formed) r (rows_wider n t formed r has)

  one_has : (o : Option Row) (t : IndexTuple) (r : Row) → IsFormed contents t → o ≡ Some r → IsTrue ((row_added contents o t).includes r)
  one_has None t r formed is = absurd (none-some _ is)
  one_has (Some q) t r formed is = subst (λ p. IsTrue ((contents.added q t).includes p)) (same_Some _ _ is) (lawful.added q t formed).1.row

  below_has : (n : ℕ) (t : IndexTuple) (k : ℕ) (r : Row) → IsFormed contents t → k < n → row k ≡ Some r → IsTrue ((rows_added contents row n t).includes r)
  below_has zero t k r formed below is = absurd (not-suc-le-zero below)
  below_has (suc n) t k r formed below is = ⊎_elim
      (λ (at : k ≡ n). one_has (row n) (rows_added contents row n t) r (rows_formed n t formed) (ap row (sym at) ∙ is))
      (λ (less : k < n). one_wider (row n) (rows_added contents row n t) (rows_formed n t formed) r (below_has n t k r formed less is))
      (last_or_below k n below)

  pub rows_has : (n : ℕ) (t : IndexTuple) → IsFormed contents t → HasNoMoreRows row n → (k : ℕ) (r : Row) → row k ≡ Some r
      → IsTrue ((rows_added contents row n t).includes r)
  rows_has n t formed none k r is = ⊎_elim
      (λ (less : k < n). below_has n t k r formed less is)
      (λ (more : n ≤ k). absurd (none-some _ (sym (none k more) ∙ is)))
      (lt_or_ge k n)
