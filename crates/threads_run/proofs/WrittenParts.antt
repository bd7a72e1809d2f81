-- what a sink has taken of bytes that are written one after the other
use Rattle.std.proofs.Common.{arith, ◌≡◌, ℕ, ◌+◌, ◌<◌, min, List, [], ◌∷◌, ◌++◌, length, take, drop, get_or, Option, sym, ap, subst, ◌∙◌, append-nil}
use Rattle.std.specs.List.{flat_map}
use Rattle.std.specs.Prelude.{Result, Ok, Err, OnErr}
use Rattle.std.proofs.lemmas.Grind.{flat_map-append}
use Rattle.std.proofs.lemmas.List.{take-append-drop, take-append-le, take_all, take_min, take_more}
use Rattle.std.proofs.Math.Seq.{take-append-add}
use Rattle.std.proofs.KnownBytes.{Appends-trans}
use Rattle.std.specs.Io.KnownBytes.{Appends}
use Rattle.io_traits.specs.Written.{AppendsPart}

pub part_of_more : (a b : Option (List ℕ)) (x z : List ℕ) → AppendsPart a b x → AppendsPart a b (x ++ z)
part_of_more a b x z part =
    let n = min part.0 (length x) in
    (n, subst (Appends a b) (sym (take-append-le n x z (omega arith) ∙ take_min part.0 x)) part.1)

pub whole_is_part : (a b : Option (List ℕ)) (x : List ℕ) → Appends a b x → AppendsPart a b x
whole_is_part a b x whole = (length x, subst (Appends a b) (sym (take_all (length x) x (omega arith))) whole)

pub part_behind : (a b c : Option (List ℕ)) (x y : List ℕ) → Appends a b x → AppendsPart b c y → AppendsPart a c (x ++ y)
part_behind a b c x y whole part = (length x + part.0, subst (Appends a c) (sym (take-append-add x y part.0)) (Appends-trans a b c x (take part.0 y) whole part.1))

-- ---- texts one after the other

-- the texts so far, and that of the next entry
pub one_text_more : {X : Type 0} (f : X → List ℕ) (xs : List X) (i : ℕ) (x : X) → i < length xs → x ≡ get_or xs i x → flat_map f (take (i + 1) xs) ≡ flat_map f (take i xs) ++ f x
one_text_more f xs i x l is =
    ap (flat_map f) (take_more xs i x l) ∙ flat_map-append f (take i xs) (get_or xs i x ∷ []) ∙ ap (λ t. flat_map f (take i xs) ++ t) (append-nil (f (get_or xs i x)) ∙ ap f (sym is))

-- a front of the texts up to the next entry's is one of all
pub part_of_texts : {X : Type 0} (f : X → List ℕ) (a b c : Option (List ℕ)) (xs : List X) (i : ℕ) (x : X) → i < length xs → x ≡ get_or xs i x
    → Appends a b (flat_map f (take i xs)) → AppendsPart b c (f x) → AppendsPart a c (flat_map f xs)
part_of_texts f a b c xs i x l is whole part =
    let all : flat_map f xs ≡ (flat_map f (take i xs) ++ f x) ++ flat_map f (drop (i + 1) xs) =
    ap (flat_map f) (sym (take-append-drop (i + 1) xs)) ∙ flat_map-append f (take (i + 1) xs) (drop (i + 1) xs) ∙ ap (λ t. t ++ flat_map f (drop (i + 1) xs)) (one_text_more f xs i x l is) in
    subst (AppendsPart a c) (sym all) (part_of_more a c (flat_map f (take i xs) ++ f x) (flat_map f (drop (i + 1) xs)) (part_behind a b c (flat_map f (take i xs)) (f x) whole part))

-- what holds in any case holds of a failure
pub on_err : {T E : Type 0} (result : Result T E) (P : Type 0) → P → OnErr result P
on_err (Ok x) P p = tt
on_err (Err e) P p = p
