-- The texts of int8range are what is read as them.
use Rattle.std.proofs.Common.{◌≡◌, ◌≢◌, ℕ, Bool, true, false, cond, ◌==◌, List, [], ◌∷◌, ◌++◌, codes, Result, Ok, Err, Option, Some, None, refl, sym, ap, ◌∙◌, append_assoc, ◌⊎◌, inl, inr, arith}
use Rattle.std.specs.Prelude.{IfSome}
use Rattle.std.specs.List.{list_all}
use Rattle.std.proofs.lemmas.Bool.Decides.{eqb_tells}
use Rattle.std.proofs.lemmas.Bool.{and_parts, or_parts, or_right}
use Rattle.block_model.specs.Names.{is_digit}
use Rattle.block_model.specs.declared.value.Kind.TheVariants as kinds
use Rattle.value_text.specs.IntTexts.{NumberText, IsNumber, number_bytes}
use Rattle.value_text.specs.RangeTexts.{BoundText, IsBound, side_bytes, lower_bytes, upper_bytes, bounds_bytes}
use Rattle.value_text.specs.ValueTexts.{ValueText, NoNumber, Bounds, IsTextOf, bytes_of}
use Rattle.value_text.specs.TextReading.{Reading, mapped, both, begins, choice, nothing, byte_at, word_at}
use Rattle.value_text.specs.Reading.{is_minus, is_sign_or_digit, signed_at, side_at, bracket_at, lower_at, upper_at, bounds_at, range_at}
use Rattle.value_text.proofs.Lawful.{Obeys, Lawful, both_lawful, mapped_lawful, choice_lawful, nothing_lawful, same_lawful, byte_lawful, word_lawful, both_read, mapped_read, choice_first, choice_second}
use Rattle.value_text.proofs.NumberReading.{number_lawful, number_complete}

abbrev IsSide : Option NumberText → Type 0
IsSide side = IfSome side IsNumber

side_lawful : Lawful side_at side_bytes IsSide
unfolding side_at
side_lawful =
    same_lawful side_at (choice is_sign_or_digit (mapped Some signed_at) (nothing None)) side_bytes IsSide (λ bytes. refl)
    (choice_lawful is_sign_or_digit (mapped Some signed_at) (nothing None) side_bytes IsSide
    (mapped_lawful Some signed_at number_bytes side_bytes IsNumber IsSide (λ n i. (i, refl)) number_lawful)
    (nothing_lawful None side_bytes IsSide tt refl))

module _ (square round : ℕ) where
  abbrev bracket : Bool → List ℕ
  bracket inclusive = cond inclusive (square ∷ []) (round ∷ [])

  abbrev Bracketed : ℕ → List ℕ → Type 0
  Bracketed c cs = (answer : Result (Bool × List ℕ) (List ℕ)) × Obeys (bracket_at square round) bracket (λ i. Unit {0}) (c ∷ cs) answer

  abbrev chosen : ℕ → List ℕ → Bool → Bool → Result (Bool × List ℕ) (List ℕ)
  chosen c cs first second = cond first (Ok (true, cs)) (cond second (Ok (false, cs)) (Err (c ∷ cs)))

  bracket_second : (c : ℕ) (cs : List ℕ) → (c == square) ≡ false → ((c == round) ≡ true) × (c ≡ round) ⊎ ((c == round) ≡ false) × (c ≢ round) → Bracketed c cs
  bracket_second c cs off (inl t) = (
    Ok (false, cs),
    record {
      front = c ∷ [];
      is = ap (λ b. chosen c cs b (c == round)) off ∙ ap (chosen c cs false) t.0;
      whole = refl;
      same = λ x rest more e. ap (λ b. chosen c (x ∷ more) b (c == round)) off ∙ ap (chosen c (x ∷ more) false) t.0;
      judged = (tt, ap (λ n. n ∷ []) t.1);
    },
  )
  bracket_second c cs off (inr t) = (
    Err (c ∷ cs),
    record {
      front = [];
      is = ap (λ b. chosen c cs b (c == round)) off ∙ ap (chosen c cs false) t.0;
      whole = refl;
      same = λ x rest more e. let d : c ≡ x = cc in
          ap (bracket_at square round) (ap (λ n. n ∷ more) (sym d)) ∙ ap (λ b. chosen c more b (c == round)) off ∙ ap (chosen c more false) t.0 ∙ ap (λ n. Err (n ∷ more)) d;
      judged = (true, square ∷ [], tt, refl);
    },
  )

  bracket_first : (c : ℕ) (cs : List ℕ) → ((c == square) ≡ true) × (c ≡ square) ⊎ ((c == square) ≡ false) × (c ≢ square) → Bracketed c cs
  bracket_first c cs (inl t) = (
    Ok (true, cs),
    record {
      front = c ∷ [];
      is = ap (λ b. chosen c cs b (c == round)) t.0;
      whole = refl;
      same = λ x rest more e. ap (λ b. chosen c (x ∷ more) b (c == round)) t.0;
      judged = (tt, ap (λ n. n ∷ []) t.1);
    },
  )
  bracket_first c cs (inr t) = bracket_second c cs t.0 (eqb_tells c round)

  bracket_lawful : Lawful (bracket_at square round) bracket (λ i. Unit {0})
  bracket_lawful [] = (Err [], record { front = []; is = refl; whole = refl; same = λ x rest more e. cc; judged = (true, square ∷ [], tt, refl) })
  bracket_lawful (c ∷ cs) = bracket_first c cs (eqb_tells c square)

abbrev lower_bound : Bool × Option NumberText → BoundText
lower_bound x = record { number = x.1; inclusive = x.0 }

abbrev upper_bound : Option NumberText × Bool → BoundText
upper_bound x = record { number = x.0; inclusive = x.1 }

lower_lawful : Lawful lower_at lower_bytes IsBound
unfolding lower_at
lower_lawful =
    same_lawful lower_at (mapped lower_bound (both (bracket_at 91 40) side_at)) lower_bytes IsBound (λ bytes. refl)
    (mapped_lawful lower_bound (both (bracket_at 91 40) side_at) (λ x. bracket 91 40 x.0 ++ side_bytes x.1) lower_bytes (λ x. Unit {0} × IsSide x.1) IsBound (λ a i. (i.1, refl))
    (both_lawful (bracket_at 91 40) side_at (bracket 91 40) side_bytes (λ i. Unit {0}) IsSide None tt (bracket_lawful 91 40) side_lawful))

upper_lawful : Lawful upper_at upper_bytes IsBound
unfolding upper_at
upper_lawful =
    same_lawful upper_at (mapped upper_bound (both side_at (bracket_at 93 41))) upper_bytes IsBound (λ bytes. refl)
    (mapped_lawful upper_bound (both side_at (bracket_at 93 41)) (λ x. side_bytes x.0 ++ bracket 93 41 x.1) upper_bytes (λ x. IsSide x.0 × Unit {0}) IsBound (λ a i. (i.0, refl))
    (both_lawful side_at (bracket_at 93 41) side_bytes (bracket 93 41) IsSide (λ i. Unit {0}) true tt side_lawful (bracket_lawful 93 41)))

abbrev comma : Reading (Unit {0} × BoundText)
comma bytes = both (byte_at 44) upper_at bytes

abbrev pair_of : BoundText × (Unit {0} × BoundText) → ValueText
pair_of x = Bounds x.0 x.1.1

-- no number, with round brackets
open_bound : BoundText
open_bound = record { number = None; inclusive = false }

open_is : IsBound open_bound
unfolding open_bound
open_is = tt

bounds-lawful : Lawful bounds_at bytes_of (IsTextOf kinds.Span)
unfolding bounds_at
bounds-lawful =
    same_lawful bounds_at (mapped pair_of (both lower_at (both (byte_at 44) upper_at))) bytes_of (IsTextOf kinds.Span) (λ bytes. refl)
    (mapped_lawful pair_of (both lower_at (both (byte_at 44) upper_at)) (λ x. lower_bytes x.0 ++ ((44 ∷ []) ++ upper_bytes x.1.1)) bytes_of (λ x. IsBound x.0 × (Unit {0} × IsBound x.1.1)) (IsTextOf kinds.Span)
    (λ a i. ((i.0, i.1.1), append_assoc (lower_bytes a.0) (codes ",") (upper_bytes a.1.1)))
    (both_lawful lower_at (both (byte_at 44) upper_at) lower_bytes (λ x. (44 ∷ []) ++ upper_bytes x.1) IsBound (λ x. Unit {0} × IsBound x.1) (tt, open_bound) (tt, open_is) lower_lawful
    (both_lawful (byte_at 44) upper_at (λ x. 44 ∷ []) upper_bytes (λ x. Unit {0}) IsBound open_bound open_is (byte_lawful 44) upper_lawful)))

abbrev is_e : ℕ → Bool
is_e c = c == 101

abbrev empty_at : Reading ValueText
empty_at bytes = mapped (λ (x : Unit {0}). NoNumber) (word_at (codes "empty")) bytes

pub range_lawful : Lawful range_at bytes_of (IsTextOf kinds.Span)
range_lawful =
    choice_lawful is_e empty_at bounds_at bytes_of (IsTextOf kinds.Span)
    (mapped_lawful (λ x. NoNumber) (word_at (codes "empty")) (λ x. codes "empty") bytes_of (λ x. Unit {0}) (IsTextOf kinds.Span) (λ a i. (tt, refl)) (word_lawful (codes "empty")))
    bounds-lawful

no_digit : (rest : List ℕ) → begins is_sign_or_digit rest ≡ false → begins is_digit rest ≡ false
no_digit [] h = refl
no_digit (c ∷ cs) h = (or_parts (is_minus c) (is_digit c) h).1

abbrev signed : Bool → List ℕ → NumberText
signed b ds = record { negative = b; digits = ds }

number_begins : (b : Bool) (ds rest : List ℕ) → IsNumber (signed b ds) → begins is_sign_or_digit (number_bytes (signed b ds) ++ rest) ≡ true
number_begins true ds rest h = refl
number_begins false [] rest h = absurd (omega (arith, h.some))
number_begins false (d ∷ ds) rest h = or_right (is_minus d) (is_digit d) (and_parts (is_digit d) (list_all is_digit ds) h.digits).0

side_complete : (side : Option NumberText) (rest : List ℕ) → IsSide side → begins is_sign_or_digit rest ≡ false → side_at (side_bytes side ++ rest) ≡ Ok (side, rest)
unfolding side_at
side_complete None rest i e = choice_second is_sign_or_digit (mapped Some signed_at) (nothing None) rest e
side_complete (Some n) rest i e =
    choice_first is_sign_or_digit (mapped Some signed_at) (nothing None) (number_bytes n ++ rest) (number_begins n.negative n.digits rest i)
    ∙ mapped_read Some signed_at (number_bytes n ++ rest) (n, rest) (number_complete n rest i (no_digit rest e))

lower_read : (i : Bool) (side : Option NumberText) (rest : List ℕ) → IsSide side → begins is_sign_or_digit rest ≡ false
    → lower_at (lower_bytes (lower_bound (i, side)) ++ rest) ≡ Ok (lower_bound (i, side), rest)
unfolding lower_at
lower_read true side rest s e = mapped_read lower_bound (both (bracket_at 91 40) side_at) (91 ∷ (side_bytes side ++ rest)) ((true, side), rest)
    (both_read (bracket_at 91 40) side_at (91 ∷ (side_bytes side ++ rest)) (true, side_bytes side ++ rest) (side, rest) refl (side_complete side rest s e))
lower_read false side rest s e = mapped_read lower_bound (both (bracket_at 91 40) side_at) (40 ∷ (side_bytes side ++ rest)) ((false, side), rest)
    (both_read (bracket_at 91 40) side_at (40 ∷ (side_bytes side ++ rest)) (false, side_bytes side ++ rest) (side, rest) refl (side_complete side rest s e))

upper_read : (i : Bool) (side : Option NumberText) (rest : List ℕ) → IsSide side
    → upper_at (side_bytes side ++ (bracket 93 41 i ++ rest)) ≡ Ok (upper_bound (side, i), rest)
unfolding upper_at
upper_read true side rest s = mapped_read upper_bound (both side_at (bracket_at 93 41)) (side_bytes side ++ 93 ∷ rest) ((side, true), rest)
    (both_read side_at (bracket_at 93 41) (side_bytes side ++ 93 ∷ rest) (side, 93 ∷ rest) (true, rest) (side_complete side (93 ∷ rest) s refl) refl)
upper_read false side rest s = mapped_read upper_bound (both side_at (bracket_at 93 41)) (side_bytes side ++ 41 ∷ rest) ((side, false), rest)
    (both_read side_at (bracket_at 93 41) (side_bytes side ++ 41 ∷ rest) (side, 41 ∷ rest) (false, rest) (side_complete side (41 ∷ rest) s refl) refl)

bounds_read : (lower upper : BoundText) (rest : List ℕ) → IsBound lower → IsBound upper
    → bounds_at (lower_bytes lower ++ 44 ∷ (side_bytes upper.number ++ (bracket 93 41 upper.inclusive ++ rest))) ≡ Ok (Bounds lower upper, rest)
unfolding bounds_at
bounds_read lower upper rest l u =
    let behind : List ℕ = side_bytes upper.number ++ (bracket 93 41 upper.inclusive ++ rest) in
    mapped_read pair_of (both lower_at (both (byte_at 44) upper_at)) (lower_bytes lower ++ 44 ∷ behind) ((lower, (tt, upper)), rest)
    (both_read lower_at (both (byte_at 44) upper_at) (lower_bytes lower ++ 44 ∷ behind) (lower, 44 ∷ behind) ((tt, upper), rest)
    (lower_read lower.inclusive lower.number (44 ∷ behind) l refl)
    (both_read (byte_at 44) upper_at (44 ∷ behind) (tt, behind) (upper, rest) refl (upper_read upper.inclusive upper.number rest u)))

bounds_begin : (i : Bool) (side : Option NumberText) (rest : List ℕ) → begins is_e (lower_bytes (lower_bound (i, side)) ++ rest) ≡ false
bounds_begin true side rest = refl
bounds_begin false side rest = refl

regrouped : (lower upper : BoundText) (rest : List ℕ)
    → bounds_bytes lower upper ++ rest ≡ lower_bytes lower ++ 44 ∷ (side_bytes upper.number ++ (bracket 93 41 upper.inclusive ++ rest))
regrouped lower upper rest =
    append_assoc (lower_bytes lower ++ codes ",") (upper_bytes upper) rest
    ∙ append_assoc (lower_bytes lower) (codes ",") (upper_bytes upper ++ rest)
    ∙ ap (λ l. lower_bytes lower ++ 44 ∷ l) (append_assoc (side_bytes upper.number) (bracket 93 41 upper.inclusive) rest)

-- the texts of ranges are read
pub empty_complete : (rest : List ℕ) → range_at (codes "empty" ++ rest) ≡ Ok (NoNumber, rest)
empty_complete rest = refl

pub bounds-complete : (lower upper : BoundText) (rest : List ℕ) → IsBound lower → IsBound upper → range_at (bounds_bytes lower upper ++ rest) ≡ Ok (Bounds lower upper, rest)
bounds-complete lower upper rest l u =
    ap range_at (regrouped lower upper rest)
    ∙ choice_second is_e empty_at bounds_at (lower_bytes lower ++ 44 ∷ (side_bytes upper.number ++ (bracket 93 41 upper.inclusive ++ rest)))
    (bounds_begin lower.inclusive lower.number (44 ∷ (side_bytes upper.number ++ (bracket 93 41 upper.inclusive ++ rest))))
    ∙ bounds_read lower upper rest l u
