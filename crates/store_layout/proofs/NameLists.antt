-- lists of names: whether one is among them, and whether they are distinct
use Rattle.std.proofs.Common.{◌≡◌, Bool, true, false, not, ◌&&◌, ◌||◌, List, [], ◌∷◌, ◌++◌, map, refl, ap, ◌∙◌}
use Rattle.std.specs.List.{list_any, list_all}
use Rattle.std.proofs.lemmas.List.Folds.{list_any-append}
use Rattle.store_layout.specs.Limits.{are_distinct}

any_mapped : {X Y : Type 0} (p : Y → Bool) (f : X → Y) (xs : List X) → list_any p (map f xs) ≡ list_any (λ x. p (f x)) xs
any_mapped p f [] = refl
any_mapped p f (x ∷ xs) = ap (λ b. p (f x) || b) (any_mapped p f xs)

-- a name is among the one list or the other
pub any_of_both : {X Y K : Type 0} (p : K → Bool) (f : X → K) (g : Y → K) (xs : List X) (ys : List Y)
    → list_any p (map f xs ++ map g ys) ≡ (list_any (λ x. p (f x)) xs || list_any (λ y. p (g y)) ys)
any_of_both p f g xs ys =
    list_any-append p (map f xs) (map g ys) ∙ ap (λ b. b || list_any p (map g ys)) (any_mapped p f xs)
    ∙ ap (λ b. list_any (λ x. p (f x)) xs || b) (any_mapped p g ys)

distinct_mapped : {X K : Type 0} (equal : K → K → Bool) (f : X → K) (xs : List X)
    → are_distinct equal (map f xs) ≡ are_distinct (λ a b. equal (f a) (f b)) xs
distinct_mapped equal f [] = refl
distinct_mapped equal f (x ∷ xs) =
    ap (λ b. not b && are_distinct equal (map f xs)) (any_mapped (equal (f x)) f xs)
    ∙ ap (λ b. not (list_any (λ y. equal (f x) (f y)) xs) && b) (distinct_mapped equal f xs)

and_true : (b : Bool) → b ≡ (b && true)
and_true true = refl
and_true false = refl

sort_out : (a b d e l : Bool) → (not (a || b) && ((d && e) && l)) ≡ (((not a && d) && e) && (not b && l))
sort_out true b d e l = refl
sort_out false true true true l = refl
sort_out false true true false l = refl
sort_out false true false e l = refl
sort_out false false d e l = refl

-- two lists have distinct names where each has, and they share none
pub distinct_in_both : {X Y K : Type 0} (equal : K → K → Bool) (f : X → K) (g : Y → K) (xs : List X) (ys : List Y)
    → are_distinct equal (map f xs ++ map g ys)
    ≡ ((are_distinct (λ a b. equal (f a) (f b)) xs && are_distinct (λ a b. equal (g a) (g b)) ys)
    && list_all (λ x. not (list_any (λ y. equal (f x) (g y)) ys)) xs)
distinct_in_both equal f g [] ys = distinct_mapped equal g ys ∙ and_true (are_distinct (λ a b. equal (g a) (g b)) ys)
distinct_in_both equal f g (x ∷ xs) ys =
    ap (λ b. not b && are_distinct equal (map f xs ++ map g ys)) (any_of_both (equal (f x)) f g xs ys)
    ∙ ap (λ b. not (list_any (λ z. equal (f x) (f z)) xs || list_any (λ y. equal (f x) (g y)) ys) && b) (distinct_in_both equal f g xs ys)
    ∙ sort_out (list_any (λ z. equal (f x) (f z)) xs) (list_any (λ y. equal (f x) (g y)) ys)
    (are_distinct (λ a b. equal (f a) (f b)) xs) (are_distinct (λ a b. equal (g a) (g b)) ys)
    (list_all (λ z. not (list_any (λ y. equal (f z) (g y)) ys)) xs)
