-- of two fronts of a journal one goes on to the other
use Rattle.std.proofs.Common.{◌≡◌, ◌⊎◌, inl, inr, List, [], ◌∷◌, ◌++◌, refl, sym}
use Rattle.block_model.specs.declared.request.Entry.{Entry}

pub record IsPast (short long behind rest : List Entry) : Type 0 where
  pub entry : Entry
  pub more : List Entry
  pub reaches : short ++ entry ∷ more ≡ long
  pub next : rest ≡ entry ∷ (more ++ behind)

pub fronts : (a b c d : List Entry) → a ++ b ≡ c ++ d → ((more : List Entry) × (a ++ more ≡ c) × (b ≡ more ++ d)) ⊎ IsPast c a b d
fronts [] b c d same = inl (c, refl, same)
fronts (x ∷ a) b [] d same = inr (record { entry = x; more = a; reaches = refl; next = sym same })
fronts (x ∷ a) b (y ∷ c) d same =
    let head : x ≡ y = cc in
    let tail : a ++ b ≡ c ++ d = cc in
    elim (fronts a b c d tail) [
      | inl on ↦ inl (on.0, λ i. head i ∷ on.1 i, on.2)
      | inr past ↦ inr (record { entry = past.entry; more = past.more; reaches = λ i. sym head i ∷ past.reaches i; next = past.next })
    ]
