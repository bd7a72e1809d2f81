-- Tuples that the map doesn't name.
use Rattle.std.proofs.Common.{◌≡◌, ◌⊎◌, inl, inr, ℕ, Bool, true, false, not, ◌&&◌, eqb, eqb-true, eq-eqb, Option, None, Some, refl, ap, ◌∙◌}
use Rattle.std.specs.Prelude.{IsTrue}
use Rattle.std.proofs.lemmas.Bool.{and_parts, false≢true}
use Rattle.block_model.specs.declared.place.Spot.{Spot}
use Rattle.coverage.specs.IndexView.{IndexTuple}

abbrev pub names : Spot → Option Spot → Bool
names x None = false
names x (Some y) = eqb y.block x.block && eqb y.slot x.slot

names_it : (x : Spot) (o : Option Spot) → names x o ≡ true → o ≡ Some x
names_it x None is = absurd (false≢true is)
names_it x (Some y) is =
    let parts = and_parts (eqb y.block x.block) (eqb y.slot x.slot) is in
    λ i. Some (record { block = eqb-true y.block x.block parts.0 i; slot = eqb-true y.slot x.slot parts.1 i })

pub is_named : (x : Spot) → names x (Some x) ≡ true
is_named x = λ i. eq-eqb x.block x.block refl i && eq-eqb x.slot x.slot refl i

-- a tuple stands there, and the entry of its range names another place, or none
abbrev pub is_unnamed : (ℕ → Option Spot) → Option IndexTuple → Spot → Bool
is_unnamed entry None x = false
is_unnamed entry (Some t) x = not (names x (entry t.range))

pub named_or_not : (entry : ℕ → Option Spot) (o : Option IndexTuple) (x : Spot) (t : IndexTuple) → o ≡ Some t → (entry t.range ≡ Some x) ⊎ IsTrue (is_unnamed entry o x)
named_or_not entry o x t here = go (names x (entry t.range)) refl
  where
    go : (b : Bool) → names x (entry t.range) ≡ b → (entry t.range ≡ Some x) ⊎ IsTrue (is_unnamed entry o x)
    go true is = inl (names_it x (entry t.range) is)
    go false is = inr (ap (λ (o : Option IndexTuple). is_unnamed entry o x) here ∙ ap not is)
