-- The texts of inet are what is read as them.
use Rattle.std.proofs.Common.{◌≡◌, ◌≢◌, ℕ, ◌+◌, ◌-◌, ◌*◌, ◌/◌, ◌%◌, ◌^◌, ◌<◌, ◌≤◌, nat_le, Bool, true, false, cond, ◌&&◌, ◌==◌, List, [], ◌∷◌, ◌++◌, codes, decimal, Result, Ok, Err, Option, Some, None, refl, sym, ap, ◌∙◌, append_assoc, append-nil, ◌⊎◌, inl, inr, arith}
use Rattle.std.specs.Prelude.{IfSome}
use Rattle.std.proofs.lemmas.Bool.{leb-true, le-leb, and_parts}
use Rattle.std.proofs.lemmas.Bool.Decides.{eqb_tells}
use Rattle.std.proofs.lemmas.Fmt.{decimal_digit, decimal_step, decimal_by_steps}
use Rattle.block_model.specs.Names.{is_digit}
use Rattle.value_text.specs.NetTexts.{NetText, IsNet, prefix_bytes, net_bytes}
use Rattle.value_text.specs.TextReading.{mapped, both, begins, choice, nothing, byte_at}
use Rattle.value_text.specs.Reading.{grown, decimal_at, pointed_at, prefix_at, ending_at, front_at, whole_net, net_at}
use Rattle.value_text.proofs.Lawful.{Obeys, Lawful, both_lawful, mapped_lawful, choice_lawful, nothing_lawful, same_lawful, byte_lawful, both_read, mapped_read}

digit_range : (c : ℕ) → is_digit c ≡ true → (48 ≤ c) × (c ≤ 57)
digit_range c h = let p = and_parts (nat_le 48 c) (nat_le c 57) h in (leb-true 48 c p.0, leb-true c 57 p.1)

is_a_digit : (n : ℕ) → n < 10 → is_digit (48 + n) ≡ true
is_a_digit n h = ap (λ b. b && nat_le (48 + n) 57) (le-leb 48 (48 + n) (omega arith)) ∙ le-leb (48 + n) 57 (omega arith)

abbrev next : ℕ → ℕ → ℕ
next n c = 10 * n + (c - 48)

abbrev goes_on : ℕ → ℕ → ℕ → Bool
goes_on limit n c = is_digit c && nat_le (next n c) limit

-- one digit more
decimal_next : (n c : ℕ) → 0 < n → is_digit c ≡ true → next n c < 2 ^ 64 → decimal (next n c) ≡ decimal n ++ c ∷ []
decimal_next n c some digit small =
    let r = digit_range c digit in
    let high : next n c / 10 ≡ n = omega arith in
    let low : 48 + next n c % 10 ≡ c = omega arith in
    decimal_step (next n c) (omega arith) small ∙ ap (λ m. decimal m ++ (48 + next n c % 10) ∷ []) high ∙ ap (λ m. decimal n ++ m ∷ []) low

-- what a number that grows takes of the bytes, and what it is then
record Grows (limit n : ℕ) (bytes : List ℕ) (g : ℕ × List ℕ) : Type 0 where
  more : List ℕ
  whole : bytes ≡ more ++ g.1
  number : decimal g.0 ≡ decimal n ++ more
  within : g.0 ≤ limit
  same : (x : ℕ) (rest later : List ℕ) → g.1 ≡ x ∷ rest → grown limit n (more ++ x ∷ later) ≡ (g.0, x ∷ later)

abbrev ends : ℕ → List ℕ → ℕ × List ℕ
ends n bytes = (n, bytes)

grows_step : (limit n c : ℕ) (cs : List ℕ) (b : Bool) → goes_on limit n c ≡ b → 0 < n → n ≤ limit → limit < 2 ^ 64
    → (0 < next n c → next n c ≤ limit → Grows limit (next n c) cs (grown limit (next n c) cs))
    → Grows limit n (c ∷ cs) (cond b (grown limit (next n c) cs) (ends n (c ∷ cs)))
grows_step limit n c cs true e some within small h =
    let p = and_parts (is_digit c) (nat_le (next n c) limit) e in
    let fits : next n c ≤ limit = leb-true (next n c) limit p.1 in
    let g = h (omega arith) fits in
    record {
      more = c ∷ g.more;
      whole = ap (λ l. c ∷ l) g.whole;
      number = g.number ∙ ap (λ l. l ++ g.more) (decimal_next n c some p.0 (omega arith)) ∙ append_assoc (decimal n) (c ∷ []) g.more;
      within = g.within;
      same = λ x rest later k. ap (λ b. cond b (grown limit (next n c) (g.more ++ x ∷ later)) (ends n (c ∷ (g.more ++ x ∷ later)))) e ∙ g.same x rest later k;
    }
grows_step limit n c cs false e some within small h = record {
  more = [];
  whole = refl;
  number = sym (append-nil (decimal n));
  within = within;
  same = λ x rest later k. let d : c ≡ x = cc in ap (λ b. cond b (grown limit (next n x) later) (ends n (x ∷ later))) (ap (goes_on limit n) (sym d) ∙ e);
}

grows : (limit n : ℕ) (bytes : List ℕ) → 0 < n → n ≤ limit → limit < 2 ^ 64 → Grows limit n bytes (grown limit n bytes)
grows limit n [] some within small = record { more = []; whole = refl; number = sym (append-nil (decimal n)); within = within; same = λ x rest later k. cc }
grows limit n (c ∷ cs) some within small =
    grows_step limit n c cs (goes_on limit n c) refl some within small (λ s w. grows limit (next n c) cs s w small)

abbrev Decimal : Type 0
Decimal = Result (ℕ × List ℕ) (List ℕ)

module _ (limit : ℕ) (low : 9 ≤ limit) (small : limit < 2 ^ 64) where
  abbrev digit_first : ℕ → List ℕ → Bool → Bool → Decimal
  digit_first c cs zero digit = cond zero (Ok (0, cs)) (cond digit (Ok (grown limit (c - 48) cs)) (Err (c ∷ cs)))

  abbrev Reads : ℕ → List ℕ → Type 0
  Reads c cs = (answer : Decimal) × Obeys (decimal_at limit) decimal (λ n. n ≤ limit) (c ∷ cs) answer

  first_step : (c : ℕ) (cs : List ℕ) (b : Bool) → is_digit c ≡ b → (c == 48) ≡ false → c ≢ 48 → Reads c cs
  unfolding decimal_at
  first_step c cs true e off other =
      let r = digit_range c e in
      let some : 0 < c - 48 = omega arith in
      let g = grows limit (c - 48) cs some (omega arith) small in
      let digit : decimal (c - 48) ≡ c ∷ [] = decimal_digit (c - 48) (omega arith) ∙ ap (λ m. m ∷ []) (let k : 48 + (c - 48) ≡ c = omega arith in k) in (
        Ok (grown limit (c - 48) cs),
        record {
          front = c ∷ g.more;
          is = ap (λ b. digit_first c cs b (is_digit c)) off ∙ ap (digit_first c cs false) e;
          whole = ap (λ l. c ∷ l) g.whole;
          same = λ x rest later k. ap (λ b. digit_first c (g.more ++ x ∷ later) b (is_digit c)) off ∙ ap (digit_first c (g.more ++ x ∷ later) false) e ∙ ap Ok (g.same x rest later k);
          judged = (g.within, sym (g.number ∙ ap (λ l. l ++ g.more) digit));
        },
      )
  first_step c cs false e off other = (
    Err (c ∷ cs),
    record {
      front = [];
      is = ap (λ b. digit_first c cs b (is_digit c)) off ∙ ap (digit_first c cs false) e;
      whole = refl;
      same = λ x rest later k. let d : c ≡ x = cc in
          ap (decimal_at limit) (ap (λ n. n ∷ later) (sym d)) ∙ ap (λ b. digit_first c later b (is_digit c)) off ∙ ap (digit_first c later false) e ∙ ap (λ n. Err (n ∷ later)) d;
      judged = (0, decimal 0, omega arith, refl);
    },
  )

  zero_step : (c : ℕ) (cs : List ℕ) → ((c == 48) ≡ true) × (c ≡ 48) ⊎ ((c == 48) ≡ false) × (c ≢ 48) → Reads c cs
  unfolding decimal_at
  zero_step c cs (inl t) = (
    Ok (0, cs),
    record {
      front = c ∷ [];
      is = ap (λ b. digit_first c cs b (is_digit c)) t.0;
      whole = refl;
      same = λ x rest later k. ap (λ b. digit_first c (x ∷ later) b (is_digit c)) t.0;
      judged = (omega arith, ap (λ n. n ∷ []) t.1 ∙ sym (decimal_digit 0 (omega arith)));
    },
  )
  zero_step c cs (inr t) = first_step c cs (is_digit c) refl t.0 t.1

  pub decimal_lawful : Lawful (decimal_at limit) decimal (λ n. n ≤ limit)
  unfolding decimal_at
  decimal_lawful [] = (Err [], record { front = []; is = refl; whole = refl; same = λ x rest later k. cc; judged = (0, decimal 0, omega arith, refl) })
  decimal_lawful (c ∷ cs) = zero_step c cs (eqb_tells c 48)

  grown_end : (n : ℕ) (rest : List ℕ) → begins is_digit rest ≡ false → grown limit n rest ≡ (n, rest)
  grown_end n [] e = refl
  grown_end n (c ∷ cs) e = ap (λ b. cond (b && nat_le (next n c) limit) (grown limit (next n c) cs) (ends n (c ∷ cs))) e

  abbrev GrowsTo : ℕ → List ℕ → Type 0
  GrowsTo n ds = 0 < n → n ≤ limit → (rest : List ℕ) → decimal_at limit (ds ++ rest) ≡ Ok (grown limit n rest)

  one_digit : (n : ℕ) → n < 10 → GrowsTo n ((48 + n) ∷ [])
  unfolding decimal_at
  one_digit n h some within rest =
      let off : ((48 + n) == 48) ≡ false = grind (arith, eqb_tells (48 + n) 48) in
      let back : (48 + n) - 48 ≡ n = omega arith in
      ap (λ b. digit_first (48 + n) rest b (is_digit (48 + n))) off ∙ ap (digit_first (48 + n) rest false) (is_a_digit n h) ∙ ap (λ m. Ok (grown limit m rest)) back

  more_digits : (n : ℕ) (ds : List ℕ) → 10 ≤ n → GrowsTo (n / 10) ds → GrowsTo n (ds ++ (48 + n % 10) ∷ [])
  more_digits n ds h ih some within rest =
      let d : ℕ = 48 + n % 10 in
      let back : next (n / 10) d ≡ n = omega arith in
      let fits : nat_le (next (n / 10) d) limit ≡ true = le-leb (next (n / 10) d) limit (omega arith) in
      let on : goes_on limit (n / 10) d ≡ true = ap (λ b. b && nat_le (next (n / 10) d) limit) (is_a_digit (n % 10) (omega arith)) ∙ fits in
      ap (decimal_at limit) (append_assoc ds (d ∷ []) rest) ∙ ih (omega arith) (omega arith) (d ∷ rest)
      ∙ ap (λ b. Ok (cond b (grown limit (next (n / 10) d) rest) (ends (n / 10) (d ∷ rest)))) on
      ∙ ap (λ m. Ok (grown limit m rest)) back

  positive_complete : (n : ℕ) (rest : List ℕ) → 0 < n → n ≤ limit → begins is_digit rest ≡ false → decimal_at limit (decimal n ++ rest) ≡ Ok (n, rest)
  positive_complete n rest some within e =
      decimal_by_steps GrowsTo one_digit more_digits n (omega arith) some within rest ∙ ap Ok (grown_end n rest e)

  zero_complete : (rest : List ℕ) → decimal_at limit (decimal 0 ++ rest) ≡ Ok (0, rest)
  unfolding decimal_at
  zero_complete rest = ap (λ l. decimal_at limit (l ++ rest)) (decimal_digit 0 (omega arith))

  -- a number within the limit, behind which no digit stands, is read
  pub decimal_complete : (n : ℕ) (rest : List ℕ) → n ≤ limit → begins is_digit rest ≡ false → decimal_at limit (decimal n ++ rest) ≡ Ok (n, rest)
  decimal_complete n rest within e = elim (eqb_tells n 0) as (λ x. decimal_at limit (decimal n ++ rest) ≡ Ok (n, rest)) [
    | inl t ↦ ap (λ m. decimal_at limit (decimal m ++ rest)) t.1 ∙ zero_complete rest ∙ ap (λ m. Ok (m, rest)) (sym t.1)
    | inr t ↦ positive_complete n rest (omega arith) within e
  ]

nine : 9 ≤ 255
nine = omega arith

byte_small : 255 < 2 ^ 64
byte_small = omega arith

nine_bits : 9 ≤ 32
nine_bits = omega arith

bits_small : 32 < 2 ^ 64
bits_small = omega arith

abbrev IsByte : ℕ → Type 0
IsByte n = n ≤ 255

abbrev IsPrefix : Option ℕ → Type 0
IsPrefix p = IfSome p (λ bits. bits ≤ 32)

abbrev pointed_bytes : ℕ → List ℕ
pointed_bytes n = decimal n ++ codes "."

abbrev number_of_pointed : ℕ × Unit {0} → ℕ
number_of_pointed x = x.0

pointed_lawful : Lawful pointed_at pointed_bytes IsByte
unfolding pointed_at
pointed_lawful =
    same_lawful pointed_at (mapped number_of_pointed (both (decimal_at 255) (byte_at 46))) pointed_bytes IsByte (λ bytes. refl)
    (mapped_lawful number_of_pointed (both (decimal_at 255) (byte_at 46)) (λ x. decimal x.0 ++ 46 ∷ []) pointed_bytes (λ x. IsByte x.0 × Unit {0}) IsByte (λ a i. (i.0, refl))
    (both_lawful (decimal_at 255) (byte_at 46) decimal (λ x. 46 ∷ []) IsByte (λ x. Unit {0}) tt tt (decimal_lawful 255 nine byte_small) (byte_lawful 46)))

abbrev is_slash : ℕ → Bool
is_slash c = c == 47

abbrev prefix_of : Unit {0} × ℕ → Option ℕ
prefix_of x = Some x.1

prefix_lawful : Lawful prefix_at prefix_bytes IsPrefix
unfolding prefix_at
prefix_lawful =
    same_lawful prefix_at (choice is_slash (mapped prefix_of (both (byte_at 47) (decimal_at 32))) (nothing None)) prefix_bytes IsPrefix (λ bytes. refl)
    (choice_lawful is_slash (mapped prefix_of (both (byte_at 47) (decimal_at 32))) (nothing None) prefix_bytes IsPrefix
    (mapped_lawful prefix_of (both (byte_at 47) (decimal_at 32)) (λ x. (47 ∷ []) ++ decimal x.1) prefix_bytes (λ x. Unit {0} × (x.1 ≤ 32)) IsPrefix (λ a i. (i.1, refl))
    (both_lawful (byte_at 47) (decimal_at 32) (λ x. 47 ∷ []) decimal (λ x. Unit {0}) (λ n. n ≤ 32) 9 nine_bits (byte_lawful 47) (decimal_lawful 32 nine_bits bits_small)))
    (nothing_lawful None prefix_bytes IsPrefix tt refl))

abbrev ending_bytes : ℕ × Option ℕ → List ℕ
ending_bytes x = decimal x.0 ++ prefix_bytes x.1

abbrev IsEnding : ℕ × Option ℕ → Type 0
IsEnding x = IsByte x.0 × IsPrefix x.1

ending_lawful : Lawful ending_at ending_bytes IsEnding
unfolding ending_at
ending_lawful =
    same_lawful ending_at (both (decimal_at 255) prefix_at) ending_bytes IsEnding (λ bytes. refl)
    (both_lawful (decimal_at 255) prefix_at decimal prefix_bytes IsByte IsPrefix None tt (decimal_lawful 255 nine byte_small) prefix_lawful)

abbrev front_bytes : ℕ × (ℕ × ℕ) → List ℕ
front_bytes x = pointed_bytes x.0 ++ (pointed_bytes x.1.0 ++ pointed_bytes x.1.1)

abbrev AreBytes : ℕ × (ℕ × ℕ) → Type 0
AreBytes x = IsByte x.0 × (IsByte x.1.0 × IsByte x.1.1)

front_lawful : Lawful front_at front_bytes AreBytes
unfolding front_at
front_lawful =
    same_lawful front_at (both pointed_at (both pointed_at pointed_at)) front_bytes AreBytes (λ bytes. refl)
    (both_lawful pointed_at (both pointed_at pointed_at) pointed_bytes (λ x. pointed_bytes x.0 ++ pointed_bytes x.1) IsByte (λ x. IsByte x.0 × IsByte x.1) (9, 9) (nine, nine) pointed_lawful
    (both_lawful pointed_at pointed_at pointed_bytes pointed_bytes IsByte IsByte 9 nine pointed_lawful pointed_lawful))

-- the bytes of an address, one part behind another
net_grouped : (n : NetText) → net_bytes n ≡ front_bytes (n.first, (n.second, n.third)) ++ ending_bytes (n.fourth, n.prefix)
net_grouped n = simp append_assoc

whole_is : (x : (ℕ × (ℕ × ℕ)) × (ℕ × Option ℕ)) → AreBytes x.0 × IsEnding x.1 → IsNet (whole_net x) × (net_bytes (whole_net x) ≡ front_bytes x.0 ++ ending_bytes x.1)
whole_is x i = (record { first = i.0.0; second = i.0.1.0; third = i.0.1.1; fourth = i.1.0; prefix = i.1.1 }, net_grouped (whole_net x))

pub net_lawful : Lawful net_at net_bytes IsNet
unfolding net_at
net_lawful =
    same_lawful net_at (mapped whole_net (both front_at ending_at)) net_bytes IsNet (λ bytes. refl)
    (mapped_lawful whole_net (both front_at ending_at) (λ x. front_bytes x.0 ++ ending_bytes x.1) net_bytes (λ x. AreBytes x.0 × IsEnding x.1) IsNet whole_is
    (both_lawful front_at ending_at front_bytes ending_bytes AreBytes IsEnding (9, None) (nine, tt) front_lawful ending_lawful))

pointed_read : (n : ℕ) (rest : List ℕ) → IsByte n → pointed_at (pointed_bytes n ++ rest) ≡ Ok (n, rest)
unfolding pointed_at
pointed_read n rest i =
    ap pointed_at (append_assoc (decimal n) (codes ".") rest)
    ∙ mapped_read number_of_pointed (both (decimal_at 255) (byte_at 46)) (decimal n ++ 46 ∷ rest) ((n, tt), rest)
    (both_read (decimal_at 255) (byte_at 46) (decimal n ++ 46 ∷ rest) (n, 46 ∷ rest) (tt, rest) (decimal_complete 255 nine byte_small n (46 ∷ rest) i refl) refl)

prefix_no_digit : (p : Option ℕ) → begins is_digit (prefix_bytes p) ≡ false
prefix_no_digit None = refl
prefix_no_digit (Some bits) = refl

prefix_read : (p : Option ℕ) → IsPrefix p → prefix_at (prefix_bytes p) ≡ Ok (p, [])
unfolding prefix_at
prefix_read None i = refl
prefix_read (Some bits) i =
    mapped_read prefix_of (both (byte_at 47) (decimal_at 32)) (47 ∷ decimal bits) ((tt, bits), [])
    (both_read (byte_at 47) (decimal_at 32) (47 ∷ decimal bits) (tt, decimal bits) (bits, []) refl
    (ap (decimal_at 32) (sym (append-nil (decimal bits))) ∙ decimal_complete 32 nine_bits bits_small bits [] i refl))

ending_read : (x : ℕ × Option ℕ) → IsEnding x → ending_at (ending_bytes x) ≡ Ok (x, [])
unfolding ending_at
ending_read x i =
    both_read (decimal_at 255) prefix_at (ending_bytes x) (x.0, prefix_bytes x.1) (x.1, [])
    (decimal_complete 255 nine byte_small x.0 (prefix_bytes x.1) i.0 (prefix_no_digit x.1)) (prefix_read x.1 i.1)

front_read : (x : ℕ × (ℕ × ℕ)) (rest : List ℕ) → AreBytes x → front_at (front_bytes x ++ rest) ≡ Ok (x, rest)
unfolding front_at
front_read x rest i =
    let second : List ℕ = pointed_bytes x.1.0 ++ (pointed_bytes x.1.1 ++ rest) in
    let grouped : front_bytes x ++ rest ≡ pointed_bytes x.0 ++ second =
    append_assoc (pointed_bytes x.0) (pointed_bytes x.1.0 ++ pointed_bytes x.1.1) rest ∙ ap (λ l. pointed_bytes x.0 ++ l) (append_assoc (pointed_bytes x.1.0) (pointed_bytes x.1.1) rest) in
    ap (both pointed_at (both pointed_at pointed_at)) grouped
    ∙ both_read pointed_at (both pointed_at pointed_at) (pointed_bytes x.0 ++ second) (x.0, second) (x.1, rest) (pointed_read x.0 second i.0)
    (both_read pointed_at pointed_at second (x.1.0, pointed_bytes x.1.1 ++ rest) (x.1.1, rest) (pointed_read x.1.0 (pointed_bytes x.1.1 ++ rest) i.1.0) (pointed_read x.1.1 rest i.1.1))

-- a text of an address is read
pub net_complete : (n : NetText) → IsNet n → net_at (net_bytes n) ≡ Ok (n, [])
unfolding net_at
net_complete n i =
    let front : ℕ × (ℕ × ℕ) = (n.first, (n.second, n.third)) in
    let ending : ℕ × Option ℕ = (n.fourth, n.prefix) in
    ap (mapped whole_net (both front_at ending_at)) (net_grouped n)
    ∙ mapped_read whole_net (both front_at ending_at) (front_bytes front ++ ending_bytes ending) ((front, ending), [])
    (both_read front_at ending_at (front_bytes front ++ ending_bytes ending) (front, ending_bytes ending) (ending, [])
    (front_read front (ending_bytes ending) (i.first, (i.second, i.third))) (ending_read ending (i.fourth, i.prefix)))
