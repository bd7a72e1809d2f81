-- A number, digit by digit, capped at each.
use Rattle.std.proofs.Common.{◌≡◌, ◌∙◌, ◌<◌, ◌≤◌, ◌+◌, ◌-◌, ◌*◌, ◌^◌, sym, ap, ℕ, min, [], ◌∷◌, length, drop, get_or, true, false, true≢false, ◌==◌, ◌&&◌, arith}
use Rattle.std.proofs.Math.ListN.{drop_of_length-le}
use Rattle.std.proofs.lemmas.Bool.Decides.{nat_tests}
use Rattle.std.specs.List.{list_all}
use Rattle.std.proofs.lemmas.List.{at_drop_more}
use Rattle.block_model.specs.Names.{is_digit}
use Rattle.command_line.specs.CommandWords.{Text, digits_from, is_number, number_of}

-- one digit more keeps what is alike when capped
alike_more : (a b d : ℕ) → min a (2 ^ 32 - 1) ≡ min b (2 ^ 32 - 1) → min (10 * a + d) (2 ^ 32 - 1) ≡ min (10 * b + d) (2 ^ 32 - 1)
alike_more a b d e = omega arith

digits_alike : (a b : ℕ) (cs : Text) → min a (2 ^ 32 - 1) ≡ min b (2 ^ 32 - 1) → min (digits_from a cs) (2 ^ 32 - 1) ≡ min (digits_from b cs) (2 ^ 32 - 1)
digits_alike a b [] e = e
digits_alike a b (c ∷ cs) e = digits_alike (10 * a + (c - 48)) (10 * b + (c - 48)) cs (alike_more a b (c - 48) e)

-- the capped number of the digits so far, one digit on
pub digit_more : (ds : Text) (n i d next : ℕ) → i < length ds → min (digits_from n (drop i ds)) (2 ^ 32 - 1) ≡ number_of ds
    → min next (2 ^ 32 - 1) ≡ min (10 * n + (get_or ds i d - 48)) (2 ^ 32 - 1) → min (digits_from next (drop (i + 1) ds)) (2 ^ 32 - 1) ≡ number_of ds
digit_more ds n i d next inside e same =
    digits_alike next (10 * n + (get_or ds i d - 48)) (drop (i + 1) ds) same
    ∙ sym (at_drop_more (λ cs. min (digits_from n cs) (2 ^ 32 - 1)) ds i d inside) ∙ e

is_digit_true : (c : ℕ) → 48 ≤ c → c ≤ 57 → is_digit c ≡ true
is_digit_true c low high = grind (arith, nat_tests)

-- one digit more is passed
pub digit_passed : (ds : Text) (i d : ℕ) → i < length ds → 48 ≤ get_or ds i d → get_or ds i d ≤ 57 → list_all is_digit (drop i ds) ≡ list_all is_digit ds
    → list_all is_digit (drop (i + 1) ds) ≡ list_all is_digit ds
digit_passed ds i d inside low high e =
    sym (at_drop_more (list_all is_digit) ds i d inside ∙ ap (λ b. b && list_all is_digit (drop (i + 1) ds)) (is_digit_true (get_or ds i d) low high)) ∙ e

-- all digits were passed
pub all_passed : (ds : Text) (i : ℕ) → (length ds == 0) ≡ false → length ds ≤ i → list_all is_digit (drop i ds) ≡ list_all is_digit ds → is_number ds ≡ true
all_passed [] i some past e = absurd (true≢false some)
all_passed (c ∷ cs) i some past e = sym e ∙ ap (list_all is_digit) (drop_of_length-le (c ∷ cs) past)

pub number_done : (ds : Text) (n i : ℕ) → n ≤ 2 ^ 32 - 1 → length ds ≤ i → min (digits_from n (drop i ds)) (2 ^ 32 - 1) ≡ number_of ds → n ≡ number_of ds
number_done ds n i small past e =
    let whole : min n (2 ^ 32 - 1) ≡ number_of ds = sym (ap (λ cs. min (digits_from n cs) (2 ^ 32 - 1)) (drop_of_length-le ds past)) ∙ e in
    let same : n ≡ min n (2 ^ 32 - 1) = omega arith in
    same ∙ whole
