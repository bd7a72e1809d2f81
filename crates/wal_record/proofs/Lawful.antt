-- Readings that give back exactly what a spelling spells.
use Rattle.std.proofs.Common.{◌≡◌, ◌⊎◌, inl, inr, ℕ, zero, suc, Bool, true, false, cond, List, [], ◌∷◌, ◌++◌, Option, Some, None, refl, sym, ap, subst, ◌∙◌, append_assoc, arith}
use Rattle.byte_fields.specs.Fields.{AreBytes}
use Rattle.wal_record.specs.Reading.{◌>>=◌, mapped, both}

-- the value of a step that gave one
pub bind_some : {A B : Type 0} (o : Option A) (f : A → Option B) (y : B) → (o >>= f) ≡ Some y → (x : A) × (o ≡ Some x) × (f x ≡ Some y)
bind_some (Some x) f y e = (x, refl, e)
bind_some None f y e = absurd cc

-- a step or the one behind it gave none
pub bind_none : {A B : Type 0} (o : Option A) (f : A → Option B) → (o >>= f) ≡ None → (o ≡ None) ⊎ ((x : A) × (o ≡ Some x) × (f x ≡ None))
bind_none (Some x) f e = inr (x, refl, e)
bind_none None f e = inl refl

-- a test that didn't end the reading
pub guard_some : {A : Type 0} (b : Bool) (x y : A) → cond b None (Some x) ≡ Some y → (b ≡ false) × (x ≡ y)
guard_some true x y e = absurd cc
guard_some false x y e = (refl, cc)

pub guard_none : {A : Type 0} (b : Bool) (x : A) → cond b None (Some x) ≡ None → b ≡ true
guard_none true x e = refl
guard_none false x e = absurd cc

pub some_is : {A : Type 0} (x y : A) → Some x ≡ Some y → x ≡ y
some_is x y e = cc

-- bytes of bytes are bytes
pub AreBytes-rest : (front rest : List ℕ) → AreBytes (front ++ rest) → AreBytes rest
AreBytes-rest [] rest small = small
AreBytes-rest (b ∷ front) rest small = AreBytes-rest front rest (λ i. small (suc i))

pub AreBytes-front : (front rest : List ℕ) → AreBytes (front ++ rest) → AreBytes front
AreBytes-front [] rest small i = omega arith
AreBytes-front (b ∷ front) rest small zero = small zero
AreBytes-front (b ∷ front) rest small (suc i) = AreBytes-front front rest (λ j. small (suc j)) i

-- What is read is spelled at the front of the bytes, what is spelled there is read, and bytes from which nothing is read begin
-- a spelling.
pub record Lawful (A : Type 0) (spell : A → List ℕ) (Is : A → Type 0) (read : List ℕ → Option (A × List ℕ)) : Type 0 where
  pub takes : (l : List ℕ) (a : A) (rest : List ℕ) → AreBytes l → read l ≡ Some (a, rest) → Is a × (l ≡ spell a ++ rest)
  pub again : (a : A) (rest : List ℕ) → Is a → read (spell a ++ rest) ≡ Some (a, rest)
  pub grows : (l : List ℕ) → AreBytes l → read l ≡ None → (a : A) × Is a × (rest : List ℕ) × (spell a ≡ l ++ rest)

none_inner : {A B : Type 0} (o : Option A) (f : A → B) → (o >>= λ x. Some (f x)) ≡ None → o ≡ None
none_inner (Some x) f e = absurd cc
none_inner None f e = refl

abbrev behind : {A B : Type 0} → A → B × List ℕ → (A × B) × List ℕ
behind a y = ((a, y.0), y.1)

-- a value in place of one that isn't there at all, or what there is of it
both_grows : (A B : Type 0) (sa : A → List ℕ) (sb : B → List ℕ) (IsA : A → Type 0) (IsB : B → Type 0) (ra : List ℕ → Option (A × List ℕ)) (rb : List ℕ → Option (B × List ℕ))
    → Lawful A sa IsA ra → Lawful B sb IsB rb → rb [] ≡ None → (l : List ℕ) → AreBytes l
    → (ra l ≡ None) ⊎ ((x : A × List ℕ) × (ra l ≡ Some x) × ((rb x.1 >>= λ y. Some (behind x.0 y)) ≡ None))
    → (p : A × B) × (IsA p.0 × IsB p.1) × (rest : List ℕ) × (sa p.0 ++ sb p.1 ≡ l ++ rest)
both_grows A B sa sb IsA IsB ra rb a b empty l small (inl none) =
    let first = a.grows l small none in
    let second = b.grows [] (λ i. omega arith) empty in
    ((first.0, second.0), (first.1, second.1), first.2 ++ sb second.0, ap (λ (t : List ℕ). t ++ sb second.0) first.3 ∙ append_assoc l first.2 (sb second.0))
both_grows A B sa sb IsA IsB ra rb a b empty l small (inr some) =
    let first = a.takes l some.0.0 some.0.1 small some.1 in
    let bytes : AreBytes some.0.1 = AreBytes-rest (sa some.0.0) some.0.1 (subst (λ (t : List ℕ). AreBytes t) first.1 small) in
    let second = b.grows some.0.1 bytes (none_inner (rb some.0.1) (behind some.0.0) some.2) in (
      (some.0.0, second.0),
      (first.0, second.1),
      second.2,
      ap (λ (t : List ℕ). sa some.0.0 ++ t) second.3 ∙ sym (append_assoc (sa some.0.0) some.0.1 second.2) ∙ ap (λ (t : List ℕ). t ++ second.2) (sym first.1),
    )

-- one value, and another behind it
pub both_law : (A B : Type 0) (sa : A → List ℕ) (sb : B → List ℕ) (IsA : A → Type 0) (IsB : B → Type 0) (ra : List ℕ → Option (A × List ℕ)) (rb : List ℕ → Option (B × List ℕ))
    → Lawful A sa IsA ra → Lawful B sb IsB rb → rb [] ≡ None → Lawful (A × B) (λ p. sa p.0 ++ sb p.1) (λ p. IsA p.0 × IsB p.1) (both ra rb)
both_law A B sa sb IsA IsB ra rb a b empty = record {
  takes = λ l p rest small e.
      let x = bind_some (ra l) (λ x. rb x.1 >>= λ y. Some ((x.0, y.0), y.1)) (p, rest) e in
      let y = bind_some (rb x.0.1) (λ y. Some ((x.0.0, y.0), y.1)) (p, rest) x.2 in
      let ta = a.takes l x.0.0 x.0.1 small x.1 in
      let tb = b.takes x.0.1 y.0.0 y.0.1 (AreBytes-rest (sa x.0.0) x.0.1 (subst (λ (t : List ℕ). AreBytes t) ta.1 small)) y.1 in
      let parts : l ≡ (sa x.0.0 ++ sb y.0.0) ++ y.0.1 = ta.1 ∙ ap (λ (t : List ℕ). sa x.0.0 ++ t) tb.1 ∙ sym (append_assoc (sa x.0.0) (sb y.0.0) y.0.1) in
      subst (λ (q : (A × B) × List ℕ). (IsA q.0.0 × IsB q.0.1) × (l ≡ (sa q.0.0 ++ sb q.0.1) ++ q.1)) (some_is ((x.0.0, y.0.0), y.0.1) (p, rest) y.2) ((ta.0, tb.0), parts);
  again = λ p rest fits.
      ap (both ra rb) (append_assoc (sa p.0) (sb p.1) rest) ∙ rw (a.again p.0 (sb p.1 ++ rest) fits.0, b.again p.1 rest fits.1) refl;
  grows = λ l small e. both_grows A B sa sb IsA IsB ra rb a b empty l small (bind_none (ra l) (λ x. rb x.1 >>= λ y. Some ((x.0, y.0), y.1)) e);
}

-- what is read is a value's image
pub mapped_takes : (A C : Type 0) (s : A → List ℕ) (Is : A → Type 0) (r : List ℕ → Option (A × List ℕ)) (f : A → C) → Lawful A s Is r
    → (l : List ℕ) (c : C) (rest : List ℕ) → AreBytes l → mapped f r l ≡ Some (c, rest) → (a : A) × Is a × (l ≡ s a ++ rest) × (f a ≡ c)
mapped_takes A C s Is r f law l c rest small e =
    let x = bind_some (r l) (λ x. Some (f x.0, x.1)) (c, rest) e in
    let t = law.takes l x.0.0 x.0.1 small x.1 in
    let same = some_is (f x.0.0, x.0.1) (c, rest) x.2 in
    (x.0.0, t.0, t.1 ∙ ap (λ (q : C × List ℕ). s x.0.0 ++ q.1) same, ap (λ (q : C × List ℕ). q.0) same)

pub mapped_again : (A C : Type 0) (s : A → List ℕ) (Is : A → Type 0) (r : List ℕ → Option (A × List ℕ)) (f : A → C) → Lawful A s Is r
    → (a : A) (rest : List ℕ) → Is a → mapped f r (s a ++ rest) ≡ Some (f a, rest)
mapped_again A C s Is r f law a rest fits = rw (law.again a rest fits) refl

abbrev image : {A C : Type 0} → (A → C) → A × List ℕ → C × List ℕ
image f x = (f x.0, x.1)

pub mapped_grows : (A C : Type 0) (s : A → List ℕ) (Is : A → Type 0) (r : List ℕ → Option (A × List ℕ)) (f : A → C) → Lawful A s Is r
    → (l : List ℕ) → AreBytes l → mapped f r l ≡ None → (a : A) × Is a × (rest : List ℕ) × (s a ≡ l ++ rest)
mapped_grows A C s Is r f law l small e = law.grows l small (none_inner (r l) (image f) e)
