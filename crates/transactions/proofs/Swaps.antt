-- One part of a list that another takes the place of, and the lists of lists that it stands in.
use Rattle.std.proofs.Common.{◌≡◌, ◌≢◌, ℕ, zero, suc, ◌+◌, ◌<◌, ◌≤◌, inl, inr, List, [], ◌∷◌, ◌++◌, map, length, get_or, set, refl, sym, ap, ◌∙◌, arith, length-set}
use Rattle.std.specs.List.{flat_map, range_with_len}
use Rattle.std.proofs.lemmas.Bool.{cases_eq}
use Rattle.std.proofs.lemmas.List.{append_assoc, get_or-set_same, get_or-set_other}
use Rattle.std.proofs.lemmas.List.FromFn.{fill_by_all, get_or-map-range_with_len, length-map-range_with_len}

-- the second list has one part where the first has another
pub record Swaps {X : Type 0} (p q old new : List X) : Type 0 where
  pub front : List X
  pub back : List X
  pub was : old ≡ front ++ (p ++ back)
  pub is : new ≡ front ++ (q ++ back)

behind_it : {X : Type 0} (p front back more l : List X) → l ≡ front ++ (p ++ back) → l ++ more ≡ front ++ (p ++ (back ++ more))
behind_it p front back more l e = ap (λ k. k ++ more) e ∙ append_assoc front (p ++ back) more ∙ ap (λ k. front ++ k) (append_assoc p back more)

before_it : {X : Type 0} (p front back more l : List X) → l ≡ front ++ (p ++ back) → more ++ l ≡ (more ++ front) ++ (p ++ back)
before_it p front back more l e = ap (λ k. more ++ k) e ∙ sym (append_assoc more front (p ++ back))

-- a change of one list is one of all of them
pub swaps_in : {X A : Type 0} (f : A → List X) (p q : List X) (l : List A) (n : ℕ) (d x : A) → n < length l → Swaps p q (f (get_or l n d)) (f x) → Swaps p q (flat_map f l) (flat_map f (set l n x))
swaps_in f p q [] n d x below s = absurd (omega arith)
swaps_in f p q (y ∷ ys) zero d x below s = record {
  front = s.front;
  back = s.back ++ flat_map f ys;
  was = behind_it p s.front s.back (flat_map f ys) (f y) s.was;
  is = behind_it q s.front s.back (flat_map f ys) (f x) s.is;
}
swaps_in f p q (y ∷ ys) (suc n) d x below s =
    let rest = swaps_in f p q ys n d x (omega arith) s in
    record {
      front = f y ++ rest.front;
      back = rest.back;
      was = before_it p rest.front rest.back (f y) (flat_map f ys) rest.was;
      is = before_it q rest.front rest.back (f y) (flat_map f (set ys n x)) rest.is;
    }

-- a list by places, of which one changes
pub set_at_place : {X : Type 0} (f g : ℕ → X) (n t : ℕ) (d : X) → t < n → ((k : ℕ) → k ≢ t → g k ≡ f k) → map g (range_with_len 0 n) ≡ set (map f (range_with_len 0 n)) t (g t)
set_at_place f g n t d below others =
    let l = map f (range_with_len 0 n) in
    let long : length l ≡ n = length-map-range_with_len f 0 n in
    sym (fill_by_all g (set l t (g t)) n d (length-set l t (g t) ∙ long) (λ k low.
    elim (cases_eq k t) [
      | inl same ↦ ap (λ (k : ℕ). get_or (set l t (g t)) k d) same ∙ get_or-set_same l t (g t) d (omega arith) ∙ ap g (sym same)
      | inr ne ↦ get_or-set_other l t k (g t) d ne ∙ get_or-map-range_with_len f 0 n k k d low (omega arith) ∙ sym (others k ne)
    ]))

-- lists by places that have none
none_between : {X : Type 0} (f : ℕ → List X) (s n : ℕ) → ((k : ℕ) → k < n → f (s + k) ≡ []) → flat_map f (range_with_len s n) ≡ []
none_between f s zero none = refl
none_between f s (suc n) none =
    let here : s ≡ s + 0 = omega arith in
    let first : f s ≡ [] = ap f here ∙ none 0 (omega arith) in
    let rest = none_between f (s + 1) n (λ k low. let next : (s + 1) + k ≡ s + suc k = omega arith in ap f next ∙ none (suc k) (omega arith)) in
    λ i. first i ++ rest i

-- lists by places that are those of the elements of a list, and behind them none
pub by_elements : {X A : Type 0} (f : ℕ → List X) (g : A → List X) (d : A) (l : List A) (s n : ℕ) → length l ≤ n → ((k : ℕ) → k < length l → f (s + k) ≡ g (get_or l k d)) → ((k : ℕ) → length l ≤ k → k < n → f (s + k) ≡ [])
    → flat_map f (range_with_len s n) ≡ flat_map g l
by_elements f g d [] s n few same none = none_between f s n (λ k low. none k (omega arith) low)
by_elements f g d (x ∷ xs) s zero few same none = absurd (omega arith)
by_elements f g d (x ∷ xs) s (suc n) few same none =
    let here : s ≡ s + 0 = omega arith in
    let first : f s ≡ g x = ap f here ∙ same 0 (omega arith) in
    let rest = by_elements f g d xs (s + 1) n (omega arith)
    (λ k low. let next : (s + 1) + k ≡ s + suc k = omega arith in ap f next ∙ same (suc k) (omega arith))
    (λ k past low. let next : (s + 1) + k ≡ s + suc k = omega arith in ap f next ∙ none (suc k) (omega arith) (omega arith)) in
    λ i. first i ++ rest i
