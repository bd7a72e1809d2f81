-- choices by tests
use Rattle.std.proofs.Common.{◌≡◌, ◌≢◌, Bool, true, false, cond, ◌&&◌, ℕ, Option, None, Some, Ordering, refl, sym, ap, ◌∙◌, ◌⊎◌, inl, inr, T, eqb, eq-eqb}
use Rattle.std.specs.declared.cmp.Ordering.TheVariants.{Less, Equal, Greater}
use Rattle.std.specs.Ordering.{nat_cmp, eq_by_cmp, is_eq, is_lt}
use Rattle.std.specs.Cmp.{Equal-is, nat_cmp_total, eq_by_cmp_equiv}
use Rattle.std.proofs.lemmas.Bool.{true≢false}
use Rattle.std.proofs.lemmas.Map.Entries.{option_filter}
use Rattle.std.proofs.lemmas.Map.Lookups.{exact_unsigned}
use Rattle.block_model.specs.declared.row.RowId.{RowId}
use Rattle.block_model.specs.TableState.{id_cmp, ids_exact}

-- which of two was chosen
pub chosen : {X : Type 0} (b : Bool) (x y : X) (o : Option X) → cond b (Some x) o ≡ Some y → ((b ≡ true) × (x ≡ y)) ⊎ ((b ≡ false) × (o ≡ Some y))
chosen true x y o e = inl (refl, cc)
chosen false x y o e = inr (refl, e)

pub chosen_none : {X : Type 0} (b : Bool) (y : X) (o : Option X) → cond b None o ≡ Some y → (b ≡ false) × (o ≡ Some y)
chosen_none true y o e = absurd (cc)
chosen_none false y o e = (refl, e)

pub none_of : {X : Type 0} (o : Option X) → ((x : X) → o ≡ Some x → ⊥) → o ≡ None
none_of None h = refl
none_of (Some x) h = absurd (h x refl)

-- a test matters only where there is a value
pub same_filtered : {X : Type 0} (p p' : X → Bool) (o : Option X) → ((x : X) → o ≡ Some x → p x ≡ p' x) → option_filter p o ≡ option_filter p' o
same_filtered p p' None h = refl
same_filtered p p' (Some x) h = ap (λ b. cond b (Some x) None) (h x refl)

-- a lesser one isn't equal
pub lesser_apart : (o : Ordering) → T (is_lt o) → is_eq o ≡ false
lesser_apart Less h = refl
lesser_apart Equal h = absurd h
lesser_apart Greater h = refl

pub same_id : (a b : RowId) → eq_by_cmp id_cmp a b ≡ true → a ≡ b
same_id a b e = ids_exact a b ((Equal-is (id_cmp a b)).0 e)

pub same_number : (a b : ℕ) → eq_by_cmp nat_cmp a b ≡ true → a ≡ b
same_number a b e = exact_unsigned a b ((Equal-is (nat_cmp a b)).0 e)

-- numbers that the test tells apart differ
pub other_number : (a b : ℕ) → eq_by_cmp nat_cmp a b ≡ false → a ≢ b
other_number a b e same = true≢false (sym ((eq_by_cmp_equiv nat_cmp_total).refl b) ∙ ap (λ n. eq_by_cmp nat_cmp n b) (sym same) ∙ e)

pub other_number_eqb : (a b : ℕ) → eqb a b ≡ false → a ≢ b
other_number_eqb a b e same = true≢false (sym (eq-eqb a b same) ∙ e)

-- two facts at once
pub both : (a b : Bool) → T a → T b → T (a && b)
both true b p q = q
both false b p q = p

pub first_of_both : (a b : Bool) → T (a && b) → T a
first_of_both true b p = tt
first_of_both false b p = p

pub second_of_both : (a b : Bool) → T (a && b) → T b
second_of_both true b p = p
second_of_both false b p = absurd p
