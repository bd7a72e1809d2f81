-- maps as lists of items, each of which has a key, in order of the keys
use Rattle.std.proofs.Common.{◌≡◌, ℕ, suc, ◌+◌, ◌-◌, ◌<◌, ◌≤◌, Bool, true, false, not, cond, ◌||◌, T, List, [], ◌∷◌, ◌++◌, map, length, take, drop, get_or, set, refl, sym, ap, ◌∙◌, subst, add-one, arith}
use Rattle.std.specs.declared.cmp.Ordering.{Ordering}
use Rattle.std.specs.declared.cmp.Ordering.TheVariants.{Equal}
use Rattle.std.specs.Prelude.{Option, None}
use Rattle.std.specs.List.{filter, list_any}
use Rattle.std.specs.Ordering.{eq_by_cmp, is_eq}
use Rattle.std.specs.Cmp.{IsTotalOrder, Equal-is}
use Rattle.std.specs.FinMap as maps
use Rattle.std.specs.FinMap.{FinMap, IsAntisymmetric, entries, get, find, put, from_sorted, is_sorted, values, retain_keys, remove, contains_key, empty, same_map, same_entries_map, entries_sorted, entries-insert, entries-from_sorted, get-entries, get-remove, get-retain_keys, len-entries, empty_of_len, contains_key-keys}
use Rattle.std.specs.FinMap.Entries.{where_key, by_order, find-where_key, is_sorted-where_key, is_sorted-put, same_entries}
use Rattle.std.proofs.lemmas.List.{set_split, map-append, drop_more, drop_all}
use Rattle.std.proofs.lemmas.Cmp.{eq_by_cmp_equiv}

test_of : (b : Bool) → b ≡ true → T b
test_of b e = subst T (sym e) tt

true_of : (b : Bool) → T b → b ≡ true
true_of true h = refl
true_of false h = absurd h

pub tied : (o : Ordering) → is_eq o ≡ true → o ≡ Equal
tied o e = (Equal-is o).0 e

-- a test answers alike at keys that tie
pub alike : {K : Type 0} (R : K → K → Ordering) → IsAntisymmetric R → (p : K → Bool) (q x : K) → R q x ≡ Equal → p x ≡ p q
alike R same p q x t = sym (ap p (same q x t))

swapped_not : {X : Type 0} (b : Bool) (x y : Option X) → cond (not b) x y ≡ cond b y x
swapped_not true x y = refl
swapped_not false x y = refl

module _ {K X : Type 0} (R : K → K → Ordering) where
  pub entries_listed : (es : List (K × X)) → is_sorted R es ≡ true → entries (from_sorted {R = R} es) ≡ es
  entries_listed es h = entries-from_sorted R es (test_of (is_sorted R es) h)

  pub none_listed : from_sorted {X = X} {R = R} [] ≡ empty
  none_listed = empty_of_len (from_sorted []) (len-entries (from_sorted []) ∙ ap length (entries-from_sorted R [] tt))

  pub get_listed : (es : List (K × X)) (q : K) → is_sorted R es ≡ true → get (from_sorted {R = R} es) q ≡ find R q es
  get_listed es q h = get-entries (from_sorted es) q ∙ ap (find R q) (entries_listed es h)

  -- a put is an insert
  pub sorted_put : IsTotalOrder R → (es es' : List (K × X)) (k : K) (v : X) → is_sorted R es ≡ true → es' ≡ put R k v es → is_sorted R es' ≡ true
  sorted_put o es es' k v h e = ap (is_sorted R) e ∙ true_of _ (is_sorted-put R o k v es (test_of (is_sorted R es) h))

  pub insert_listed : IsTotalOrder R → (es es' : List (K × X)) (k : K) (v : X) → is_sorted R es ≡ true → es' ≡ put R k v es → from_sorted {R = R} es' ≡ maps.insert (from_sorted es) k v
  insert_listed o es es' k v h e = same_entries_map _ _ (entries_listed es' (sorted_put o es es' k v h e) ∙ e ∙ ap (put R k v) (sym (entries_listed es h)) ∙ sym (entries-insert o (from_sorted es) k v))

  -- a filter keeps the keys that pass
  pub sorted_filter : (p : K → Bool) (es es' : List (K × X)) → is_sorted R es ≡ true → es' ≡ where_key R p es → is_sorted R es' ≡ true
  sorted_filter p es es' h e = ap (is_sorted R) e ∙ true_of _ (is_sorted-where_key R p es (test_of (is_sorted R es) h))

  pub entries_retained : IsTotalOrder R → IsAntisymmetric R → (m : FinMap R X) (p : K → Bool) → entries (retain_keys m p) ≡ where_key R p (entries m)
  entries_retained o same m p = same_entries R o same _ _ (entries_sorted (retain_keys m p)) (is_sorted-where_key R p (entries m) (entries_sorted m)) (λ q.
      sym (get-entries (retain_keys m p) q) ∙ get-retain_keys m p q (alike R same p q) ∙ ap (λ f. cond (p q) f None) (get-entries m q)
      ∙ sym (find-where_key R p q (alike R same p q) (entries m)))

  pub retain_listed : IsTotalOrder R → IsAntisymmetric R → (p : K → Bool) (es es' : List (K × X)) → is_sorted R es ≡ true → es' ≡ where_key R p es → from_sorted {R = R} es' ≡ retain_keys (from_sorted es) p
  retain_listed o same p es es' h e = same_entries_map _ _ (entries_listed es' (sorted_filter p es es' h e) ∙ e ∙ ap (where_key R p) (sym (entries_listed es h)) ∙ sym (entries_retained o same (from_sorted es) p))

  -- to remove a key is to keep the others
  pub remove_is_retain : IsTotalOrder R → IsAntisymmetric R → (m : FinMap R X) (k : K) → remove m k ≡ retain_keys m (λ x. not (eq_by_cmp R k x))
  remove_is_retain o same m k = same_map o same _ _ (λ q.
      get-remove o m k q ∙ ap (λ b. cond b None (get m q)) ((eq_by_cmp_equiv o).symm q k) ∙ sym (swapped_not (eq_by_cmp R k q) (get m q) None)
      ∙ sym (get-retain_keys m (λ x. not (eq_by_cmp R k x)) q (alike R same (λ x. not (eq_by_cmp R k x)) q)))

  pub remove_listed : IsTotalOrder R → IsAntisymmetric R → (k : K) (es es' : List (K × X)) → is_sorted R es ≡ true → es' ≡ where_key R (λ x. not (eq_by_cmp R k x)) es → from_sorted {R = R} es' ≡ remove (from_sorted es) k
  remove_listed o same k es es' h e = retain_listed o same _ es es' h e ∙ sym (remove_is_retain o same (from_sorted es) k)

-- a test of mapped items
pub any_mapped : {A B : Type 0} (q : B → Bool) (f : A → B) (xs : List A) → list_any (λ a. q (f a)) xs ≡ list_any q (map f xs)
any_mapped q f [] = refl
any_mapped q f (a ∷ xs) = ap (λ b. q (f a) || b) (any_mapped q f xs)

-- ---- items with keys
module _ {A K X : Type 0} (R : K → K → Ordering) (key : A → K × X) where
  pub filter_keyed : (p : K → Bool) (xs : List A) → map key (filter (λ a. p (key a).0) xs) ≡ where_key R p (map key xs)
  filter_keyed p [] = refl
  filter_keyed p (a ∷ xs) = elim (p (key a).0) as (λ b. map key (cond b (a ∷ filter (λ a. p (key a).0) xs) (filter (λ a. p (key a).0) xs)) ≡ cond b (key a ∷ where_key R p (map key xs)) (where_key R p (map key xs))) [
    | true ↦ ap (λ l. key a ∷ l) (filter_keyed p xs)
    | false ↦ filter_keyed p xs
  ]

  pub has_keyed : (q : K) (xs : List A) → is_sorted R (map key xs) ≡ true → list_any (λ a. eq_by_cmp R q (key a).0) xs ≡ contains_key (from_sorted {R = R} (map key xs)) q
  has_keyed q xs h = any_mapped (λ (e : K × X). eq_by_cmp R q e.0) key xs ∙ any_mapped (eq_by_cmp R q) (λ (e : K × X). e.0) (map key xs) ∙ ap (λ es. list_any (eq_by_cmp R q) (map (λ (e : K × X). e.0) es)) (sym (entries_listed R (map key xs) h)) ∙ sym (contains_key-keys (from_sorted (map key xs)) q)

  -- a put where the first key ties
  put_at : (k : K) (v : X) (a : A) (xs : List A) → R k (key a).0 ≡ Equal → put R k v (map key (a ∷ xs)) ≡ ((key a).0, v) ∷ map key xs
  put_at k v a xs e = ap (λ o. by_order o ((k, v) ∷ key a ∷ map key xs) (((key a).0, v) ∷ map key xs) (key a ∷ put R k v (map key xs))) e

  -- an item with the key of the new one gives way to it
  pub put_in_place : IsAntisymmetric R → (at : ℕ) (x new : A) (xs : List A) → at < length xs → x ≡ get_or xs at x → R (key new).0 (key x).0 ≡ Equal
      → put R (key new).0 (key new).1 (map key xs) ≡ map key (take at xs) ++ put R (key new).0 (key new).1 (map key (drop at xs)) → map key (set xs at new) ≡ put R (key new).0 (key new).1 (map key xs)
  put_in_place same at x new xs h is tied before =
      let rest : drop at xs ≡ x ∷ drop (at + 1) xs = drop_more xs at x h ∙ ap (λ y. y ∷ drop (at + 1) xs) (sym is) in
      let here : put R (key new).0 (key new).1 (map key (drop at xs)) ≡ key new ∷ map key (drop (at + 1) xs) =
      ap (λ l. put R (key new).0 (key new).1 (map key l)) rest ∙ put_at (key new).0 (key new).1 x (drop (at + 1) xs) tied ∙ ap (λ k. (k, (key new).1) ∷ map key (drop (at + 1) xs)) (sym (same (key new).0 (key x).0 tied)) in
      ap (map key) (set_split xs at new h) ∙ map-append key (take at xs) (new ∷ drop (suc at) xs)
      ∙ ap (λ k. map key (take at xs) ++ key new ∷ map key (drop k xs)) (sym (add-one at))
      ∙ sym (before ∙ ap (λ l. map key (take at xs) ++ l) here)

unkeyed : {K X : Type 0} (key : X → K) (xs : List X) → map (λ (e : K × X). e.1) (map (λ (x : X). (key x, x)) xs) ≡ xs
unkeyed key [] = refl
unkeyed key (x ∷ xs) = ap (λ l. x ∷ l) (unkeyed key xs)

-- each item is the value at its key
pub values_listed : {K X : Type 0} (R : K → K → Ordering) (key : X → K) (xs : List X) → is_sorted R (map (λ (x : X). (key x, x)) xs) ≡ true → values (from_sorted {R = R} (map (λ (x : X). (key x, x)) xs)) ≡ xs
values_listed {K} {X} R key xs h = ap (map (λ (e : K × X). e.1)) (entries_listed R (map (λ (x : X). (key x, x)) xs) h) ∙ unkeyed key xs

-- ---- a list from its end
module _ {A K X : Type 0} (R : K → K → Ordering) (key : A → K × X) (p : K → Bool) where
  one_more : (xs : List A) (at : ℕ) (x : A) → 0 < at → at ≤ length xs → x ≡ get_or xs (at - 1) x → drop (at - 1) xs ≡ x ∷ drop at xs
  one_more xs at x some h is = drop_more xs (at - 1) x (omega arith) ∙ ap (λ y. y ∷ drop (at - 1 + 1) xs) (sym is) ∙ ap (λ k. x ∷ drop k xs) (omega arith)

  pub kept_here : (xs : List A) (at : ℕ) (x : A) → 0 < at → at ≤ length xs → x ≡ get_or xs (at - 1) x → p (key x).0 ≡ true → where_key R p (map key (drop (at - 1) xs)) ≡ key x ∷ where_key R p (map key (drop at xs))
  kept_here xs at x some h is passes = ap (λ l. where_key R p (map key l)) (one_more xs at x some h is) ∙ ap (λ b. cond b (key x ∷ where_key R p (map key (drop at xs))) (where_key R p (map key (drop at xs)))) passes

  pub left_out_here : (xs : List A) (at : ℕ) (x : A) → 0 < at → at ≤ length xs → x ≡ get_or xs (at - 1) x → p (key x).0 ≡ false → where_key R p (map key (drop (at - 1) xs)) ≡ where_key R p (map key (drop at xs))
  left_out_here xs at x some h is fails = ap (λ l. where_key R p (map key l)) (one_more xs at x some h is) ∙ ap (λ b. cond b (key x ∷ where_key R p (map key (drop at xs))) (where_key R p (map key (drop at xs)))) fails

  pub none_kept_yet : (xs : List A) → where_key R p (map key (drop (length xs) xs)) ≡ []
  none_kept_yet xs = ap (λ l. where_key R p (map key l)) (drop_all (length xs) xs (omega arith))
