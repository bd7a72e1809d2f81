-- Ids in order, and the same ones, are one list.
use Rattle.std.proofs.Common.{◌≡◌, inl, inr, ⊎_elim, ◌<◌, List, [], ◌∷◌, sym, ◌∙◌, subst, arith}
use Rattle.std.specs.Prelude.{refl}
use Rattle.block_model.specs.declared.row.RowId.{RowId}
use Rattle.coverage.specs.RowOrder.{IsBefore, IsAmong, AreInOrder}

-- two ids aren't each before the other
before_once : (a b : RowId) → IsBefore a b → IsBefore b a → ⊥
before_once a b one two = ⊎_elim
    (λ (less : a.t < b.t). elim two [ inl more ↦ omega arith | inr same ↦ omega (arith, less, same.0) ])
    (λ (same : (a.t ≡ b.t) × (a.k < b.k)). elim two [ inl more ↦ omega (arith, more, same.0) | inr back ↦ omega (arith, same.1, back.1) ])
    one

not_before : (a : RowId) → IsBefore a a → ⊥
not_before a before = before_once a a before before

module _ (id : RowId) (rest : List RowId) (order : AreInOrder (id ∷ rest)) where
  -- the first isn't among those behind it
  first_once : (a : RowId) → IsAmong rest a → a ≡ id → ⊥
  first_once a among is = not_before id (order.0 id (subst (IsAmong rest) is among))

-- the firsts of two such lists with the same ids are one
firsts_same : (a b : RowId) (l m : List RowId) → AreInOrder (a ∷ l) → AreInOrder (b ∷ m) → IsAmong (b ∷ m) a → IsAmong (a ∷ l) b → a ≡ b
firsts_same a b l m one two a_in b_in = ⊎_elim
    (λ (is : a ≡ b). is)
    (λ (behind : IsAmong m a). elim b_in [ inl is ↦ sym is | inr behind' ↦ absurd (before_once a b (one.0 b behind') (two.0 a behind)) ])
    a_in

-- without the firsts they have the same ids
rests_in : (a : RowId) (l : List RowId) (b : RowId) (m : List RowId) → AreInOrder (a ∷ l) → a ≡ b
    → ((id : RowId) → IsAmong (a ∷ l) id → IsAmong (b ∷ m) id) → (id : RowId) → IsAmong l id → IsAmong m id
rests_in a l b m order same all id among = elim (all id (inr among)) [ inl is ↦ absurd (first_once a l order id among (is ∙ sym same)) | inr behind ↦ behind ]

pub one_order : (l m : List RowId) → AreInOrder l → AreInOrder m → ((id : RowId) → IsAmong l id → IsAmong m id) → ((id : RowId) → IsAmong m id → IsAmong l id)
    → l ≡ m
one_order [] [] one two to back = refl
one_order [] (b ∷ m) one two to back = absurd (back b (inl refl))
one_order (a ∷ l) [] one two to back = absurd (to a (inl refl))
one_order (a ∷ l) (b ∷ m) one two to back =
    let same = firsts_same a b l m one two (to a (inl refl)) (back b (inl refl)) in
    let more = one_order l m one.1 two.1 (rests_in a l b m one same to) (rests_in b m a l two (sym same) back) in
    λ i. same i ∷ more i
