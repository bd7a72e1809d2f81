-- how many locks an actor holds
use Rattle.std.proofs.Common.{◌≡◌, ◌≢◌, ◌==◌, ℕ, zero, suc, ◌+◌, ◌*◌, ◌<◌, ◌≤◌, Bool, true, false, cond, not, List, [], ◌∷◌, map, length, filter, count_by, Some, None, refl, sym, ap, ◌∙◌, subst, inl, inr, ⊎_elim, arith, suc-mul}
use Rattle.std.specs.declared.cmp.Ordering.{Ordering}
use Rattle.std.specs.declared.cmp.Ordering.TheVariants.{Less, Equal, Greater}
use Rattle.std.specs.Ordering.{eq_by_cmp, is_eq}
use Rattle.std.specs.FinMap.{get, insert, entries, values, empty, len, find, put, entries-insert, get-entries, len-empty, len-entries}
use Rattle.std.specs.FinMap.Entries.{by_order}
use Rattle.std.proofs.lemmas.List.{length-map}
use Rattle.std.proofs.lemmas.List.Sums.{sum_by-cons}
use Rattle.std.proofs.lemmas.List.Filters.{length-filter_both}
use Rattle.std.proofs.lemmas.List.Sums.{length-filter}
use Rattle.std.proofs.lemmas.Bool.{cond-true, cond-false, cases_Bool, eq-eqb, ne_eqb, cases_order, not-true}
use Rattle.block_model.specs.declared.place.Place.{Place}
use Rattle.block_model.specs.NumberMaps.{none_Some, same_Some}
use Rattle.page_locks.specs.declared.held.Held.{Held}
use Rattle.page_locks.specs.LockHolders.{Holders, place_cmp, places_total}
use Rattle.page_locks.specs.HeldLocks.{AreApart, found, holders_of}
use Rattle.page_locks.proofs.Places.{same_place, ties_itself}
use Rattle.page_locks.proofs.Entries.{held_in_map}

-- ---- counts in lists

abbrev pub one : Bool → ℕ
one b = cond b 1 0

pub count-cons : {X : Type 0} (p : X → Bool) (x : X) (xs : List X) → count_by p (x ∷ xs) ≡ one (p x) + count_by p xs
count-cons p x xs = sum_by-cons (λ y. one (p y)) x xs

-- a filter leaves at most as many
pub count_filter_le : {X : Type 0} (p q : X → Bool) (xs : List X) → count_by p (filter q xs) ≤ count_by p xs
count_filter_le p q [] = omega arith
count_filter_le p q (x ∷ xs) = elim (q x) as (λ (b : Bool). count_by p (cond b (x ∷ filter q xs) (filter q xs)) ≤ count_by p (x ∷ xs)) [
  | true ↦ omega (arith, count-cons p x xs, count-cons p x (filter q xs), count_filter_le p q xs)
  | false ↦ omega (arith, count-cons p x xs, count_filter_le p q xs)
]

-- and as many, where it keeps what is counted
pub count_filter_same : {X : Type 0} (p q : X → Bool) → ((x : X) → p x ≡ true → q x ≡ true) → (xs : List X) → count_by p (filter q xs) ≡ count_by p xs
count_filter_same p q keeps [] = refl
count_filter_same p q keeps (x ∷ xs) = elim (cases_Bool (p x)) [
  | inl passes ↦ ap (λ (b : Bool). count_by p (cond b (x ∷ filter q xs) (filter q xs))) (keeps x passes) ∙ count-cons p x (filter q xs) ∙ ap (λ (n : ℕ). one (p x) + n) (count_filter_same p q keeps xs) ∙ sym (count-cons p x xs)
  | inr fails ↦
      let skip : count_by p (x ∷ xs) ≡ count_by p xs = omega (arith, count-cons p x xs, ap one fails) in
      elim (q x) as (λ (b : Bool). count_by p (cond b (x ∷ filter q xs) (filter q xs)) ≡ count_by p (x ∷ xs)) [
        | true ↦ omega (arith, skip, count-cons p x (filter q xs), ap one fails, count_filter_same p q keeps xs)
        | false ↦ count_filter_same p q keeps xs ∙ sym skip
      ]
]

-- and none, where it keeps nothing that is counted
pub count_filter_none : {X : Type 0} (p q : X → Bool) → ((x : X) → q x ≡ true → p x ≡ false) → (xs : List X) → count_by p (filter q xs) ≡ 0
count_filter_none p q lacks [] = refl
count_filter_none p q lacks (x ∷ xs) = elim (cases_Bool (q x)) [
  | inl stays ↦ ap (λ (b : Bool). count_by p (cond b (x ∷ filter q xs) (filter q xs))) stays ∙ omega (arith, count-cons p x (filter q xs), ap one (lacks x stays), count_filter_none p q lacks xs)
  | inr goes ↦ ap (λ (b : Bool). count_by p (cond b (x ∷ filter q xs) (filter q xs))) goes ∙ count_filter_none p q lacks xs
]

-- ---- counts of a map's values

abbrev holds : ℕ → ℕ → Bool
holds a n = n == a

abbrev values_in : List (Place × ℕ) → List ℕ
values_in es = map (λ (e : Place × ℕ). e.1) es

put_counted : (p : ℕ → Bool) (k : Place) (v : ℕ) (es : List (Place × ℕ)) → find place_cmp k es ≡ None → count_by p (values_in (put place_cmp k v es)) ≡ one (p v) + count_by p (values_in es)
put_counted p k v [] none = count-cons p v []
put_counted p k v (e ∷ es) none =
    elim (place_cmp k e.0) as (λ (r : Ordering). cond (is_eq r) (Some e.1) (find place_cmp k es) ≡ None → count_by p (values_in (by_order r ((k, v) ∷ e ∷ es) ((e.0, v) ∷ es) (e ∷ put place_cmp k v es))) ≡ one (p v) + count_by p (values_in (e ∷ es))) [
      | Less ↦ λ _. count-cons p v (values_in (e ∷ es))
      | Equal ↦ λ n. absurd (none_Some e.1 (sym n))
      | Greater ↦ λ n. omega (arith, count-cons p e.1 (values_in (put place_cmp k v es)), count-cons p e.1 (values_in es), put_counted p k v es n)
    ] none

no_values : {X : Type 0} (xs : List X) → length xs ≡ 0 → xs ≡ []
no_values [] e = refl
no_values (x ∷ xs) e = absurd (omega (arith, e))

abbrev pub held_by : Holders → ℕ → ℕ
held_by m a = count_by (λ n. n == a) (values m)

-- a page more
pub insert_counted : (m : Holders) (k : Place) (v a : ℕ) → get m k ≡ None → held_by (insert m k v) a ≡ one (v == a) + held_by m a
insert_counted m k v a none = ap (λ (es : List (Place × ℕ)). count_by (holds a) (values_in es)) (entries-insert places_total m k v) ∙ put_counted (holds a) k v (entries m) (sym (get-entries m k) ∙ none)

pub empty_counted : (a : ℕ) → held_by empty a ≡ 0
empty_counted a =
    ap (λ (es : List (Place × ℕ)). count_by (holds a) (values_in es)) (no_values (entries (empty {X = ℕ} {R = place_cmp})) (sym (len-entries (empty {X = ℕ} {R = place_cmp})) ∙ len-empty place_cmp ℕ))

-- the locks of an actor in the map are its locks in the list
pub counted_listed : (held : List Held) (a : ℕ) → AreApart held → held_by (holders_of held) a ≡ count_by (λ (x : Held). x.by == a) held
counted_listed [] a apart = empty_counted a
counted_listed (x ∷ held) a apart =
    insert_counted (holders_of held) x.page x.by a (held_in_map held x.page ∙ apart.0)
    ∙ ap (λ (n : ℕ). one (x.by == a) + n) (counted_listed held a apart.1)
    ∙ sym (count-cons (λ (y : Held). y.by == a) x held)

-- who holds nothing has no locks
pub none_counted : (held : List Held) (a : ℕ) → AreApart held → ((q : Place) → found held q ≢ Some a) → count_by (λ (x : Held). x.by == a) held ≡ 0
none_counted [] a apart none = refl
none_counted (x ∷ held) a apart none =
    let other : (x.by == a) ≡ false = ne_eqb x.by a (λ (is : x.by ≡ a). none x.page (cond-true (eq_by_cmp place_cmp x.page x.page) (Some x.by) (found held x.page) (ties_itself x.page) ∙ ap Some is)) in
    let rest : (q : Place) → found held q ≢ Some a = λ q is. elim (cases_Bool (eq_by_cmp place_cmp q x.page)) [
      | inl t ↦ none_Some a (sym apart.0 ∙ ap (found held) (sym (same_place q x.page t)) ∙ is)
      | inr f ↦ none q (cond-false (eq_by_cmp place_cmp q x.page) (Some x.by) (found held q) f ∙ is)
    ] in
    omega (arith, count-cons (λ (y : Held). y.by == a) x held, ap one other, none_counted held a apart.1 rest)

-- and who has no locks holds nothing
pub counted_none : (held : List Held) (a : ℕ) (q : Place) → count_by (λ (x : Held). x.by == a) held ≡ 0 → found held q ≢ Some a
counted_none [] a q none is = none_Some a is
counted_none (x ∷ held) a q none is = elim (cases_Bool (eq_by_cmp place_cmp q x.page)) [
  | inl t ↦
      let own : x.by ≡ a = same_Some x.by a (sym (cond-true (eq_by_cmp place_cmp q x.page) (Some x.by) (found held q) t) ∙ is) in
      omega (arith, none, count-cons (λ (y : Held). y.by == a) x held, ap one (eq-eqb x.by a own))
  | inr f ↦ counted_none held a q (omega (arith, none, count-cons (λ (y : Held). y.by == a) x held)) (sym (cond-false (eq_by_cmp place_cmp q x.page) (Some x.by) (found held q) f) ∙ is)
]

-- ---- few numbers, each a few times

pub few_numbers : (n k : ℕ) (xs : List ℕ) → ((a : ℕ) → n ≤ a → count_by (holds a) xs ≡ 0) → ((a : ℕ) → count_by (holds a) xs ≤ k) → length xs ≤ n * k
few_numbers zero k [] none few = omega arith
few_numbers zero k (x ∷ xs) none few = absurd (omega (arith, none x (omega arith), count-cons (holds x) x xs, ap one (eq-eqb x x refl)))
few_numbers (suc n) k xs none few =
    let rest : List ℕ = filter (λ x. not (holds n x)) xs in
    let rest_none : (a : ℕ) → n ≤ a → count_by (holds a) rest ≡ 0 = λ a above. elim (cases_order n a) [
      | inl is ↦ subst (λ (b : ℕ). count_by (holds b) rest ≡ 0) is (count_filter_none (holds n) (λ x. not (holds n x)) (λ (x : ℕ) (keeps : not (holds n x) ≡ true). not-true (holds n x) keeps) xs)
      | inr either ↦ omega (arith, count_filter_le (holds a) (λ x. not (holds n x)) xs, none a (⊎_elim (λ (lt : n < a). omega (arith, lt)) (λ (lt : a < n). omega (arith, lt, above)) either))
    ] in
    let rest_few : (a : ℕ) → count_by (holds a) rest ≤ k = λ a. omega (arith, few a, count_filter_le (holds a) (λ x. not (holds n x)) xs) in
    omega (arith, few n, few_numbers n k rest rest_none rest_few, length-filter_both (holds n) (λ x. not (holds n x)) (λ _. refl) xs, length-filter (holds n) xs, suc-mul n k)

-- and so few locks
pub few_held : (m : Holders) (n k : ℕ) → ((a : ℕ) → n ≤ a → held_by m a ≡ 0) → ((a : ℕ) → held_by m a ≤ k) → len m ≤ n * k
few_held m n k none few = omega (arith, len-entries m, length-map (entries m) (λ (e : Place × ℕ). e.1), few_numbers n k (values m) none few)
