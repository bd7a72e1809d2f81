-- positions that are set, one after the other
use Rattle.std.proofs.Common.{◌≡◌, ℕ, zero, suc, ◌+◌, ◌<◌, nat_lt, ltb-true, lt-ltb, Option, None, Some, Bool, true, false, ◌||◌, ◌==◌, List, [], ◌∷◌, map, fold, length, set, inl, inr, refl, sym, ap, ◌∙◌, subst, arith, true≢false, length-set, get_or-set_same, get_or-set_other, eq-eqb, ne_eqb, mod-lt}
use Rattle.std.specs.List.{list_all, list_any, range_with_len}
use Rattle.std.proofs.Math.Bool.{or_assoc, or-false}
use Rattle.std.proofs.lemmas.Bool.{cases_eq, cases_lt, and_parts, and_from, or_left, or_right}
use Rattle.std.proofs.lemmas.List.{set-get_or, get_or_past}
use Rattle.std.proofs.lemmas.List.FromFn.{map-range_with_len_more}
use Rattle.std.proofs.lemmas.List.Sums.{fold-append}
use Rattle.block_model.specs.declared.value.Value.{Value}
use Rattle.opclass_bloom.specs.Bits.{is_set, with_position, with_value, united}
use Rattle.opclass_bloom.specs.Includes.{has_all, Includes}
use Rattle.opclass_bloom.specs.Parameters.{Parameters}
use Rattle.opclass_bloom.specs.Positions.{positions, positions_by, position, hash_of, words_of}

-- each position is one of so many
abbrev pub within : ℕ → List ℕ → Bool
within bits qs = list_all (λ q. nat_lt q bits) qs

-- each position that is set in one summary is set in another
abbrev pub Kept : List Bool → List Bool → Type 0
Kept s t = (q : ℕ) → is_set s q ≡ true → is_set t q ≡ true

pub length-with_positions : (qs : List ℕ) (s : List Bool) → length (fold with_position s qs) ≡ length s
length-with_positions [] s = refl
length-with_positions (q ∷ qs) s = length-with_positions qs (with_position s q) ∙ length-set s q true

only_one_set : (s : List Bool) (q r : ℕ) → q < length s → is_set (with_position s r) q ≡ (is_set s q || (r == q))
only_one_set s q r small = elim (cases_eq r q) [
  | inl same ↦ rw same (get_or-set_same s q true false small ∙ sym (or_right (is_set s q) (q == q) (eq-eqb q q refl)))
  | inr other ↦ get_or-set_other s r q true false (λ same. other (sym same)) ∙ sym (ap (λ (b : Bool). is_set s q || b) (ne_eqb r q other) ∙ or-false (is_set s q))
]

-- the positions of a list are set, and no other
pub only_these_set : (qs : List ℕ) (s : List Bool) (q : ℕ) → q < length s → is_set (fold with_position s qs) q ≡ (is_set s q || list_any (λ r. r == q) qs)
only_these_set [] s q small = sym (or-false (is_set s q))
only_these_set (r ∷ qs) s q small =
    let long : q < length (with_position s r) = rw (length-set s r true) small in
    only_these_set qs (with_position s r) q long ∙ ap (λ (b : Bool). b || list_any (λ r. r == q) qs) (only_one_set s q r small) ∙ or_assoc (is_set s q) (r == q) (list_any (λ r. r == q) qs)

-- one more of the positions of a hash
pub one_more : (f : ℕ → ℕ) (s : List Bool) (i : ℕ) → fold with_position s (map f (range_with_len 0 (i + 1))) ≡ with_position (fold with_position s (map f (range_with_len 0 i))) (f i)
one_more f s i =
    ap (λ (qs : List ℕ). fold with_position s qs) (map-range_with_len_more f 0 i i (omega arith)) ∙ fold-append with_position s (map f (range_with_len 0 i)) (f i ∷ [])

-- a position that is set is one of the summary's
set_within : (s : List Bool) (q : ℕ) → is_set s q ≡ true → q < length s
set_within s q is = elim (cases_lt q (length s)) [ inl small ↦ small | inr past ↦ absurd (true≢false (sym is ∙ get_or_past s q false past)) ]

pub kept_by_positions : (qs : List ℕ) (s : List Bool) → Kept s (fold with_position s qs)
kept_by_positions qs s q is = only_these_set qs s q (set_within s q is) ∙ or_left (is_set s q) (list_any (λ r. r == q) qs) is

-- where all are set, setting them changes nothing
pub already_set : (qs : List ℕ) (s : List Bool) → list_all (is_set s) qs ≡ true → fold with_position s qs ≡ s
already_set [] s all = refl
already_set (q ∷ qs) s all =
    let both = and_parts (is_set s q) (list_all (is_set s) qs) all in
    let same : with_position s q ≡ s = ap (λ (b : Bool). set s q b) (sym both.0) ∙ set-get_or s q false in
    ap (λ (t : List Bool). fold with_position t qs) same ∙ already_set qs s both.1

pub all_kept : (qs : List ℕ) (s t : List Bool) → Kept s t → list_all (is_set s) qs ≡ true → list_all (is_set t) qs ≡ true
all_kept [] s t kept all = refl
all_kept (q ∷ qs) s t kept all =
    let both = and_parts (is_set s q) (list_all (is_set s) qs) all in
    and_from (is_set t q) (list_all (is_set t) qs) (kept q both.0) (all_kept qs s t kept both.1)

-- all positions are set afterwards
pub all_set : (qs : List ℕ) (s : List Bool) → within (length s) qs ≡ true → list_all (is_set (fold with_position s qs)) qs ≡ true
all_set [] s small = refl
all_set (q ∷ qs) s small =
    let both = and_parts (nat_lt q (length s)) (within (length s) qs) small in
    let first = with_position s q in
    let there : is_set first q ≡ true = get_or-set_same s q true false (ltb-true q (length s) both.0) in
    and_from (is_set (fold with_position first qs) q) (list_all (is_set (fold with_position first qs)) qs) (kept_by_positions qs first q there)
    (all_set qs first (subst (λ (n : ℕ). within n qs ≡ true) (sym (length-set s q true)) both.1))

-- the positions of a value are those of the summary
positions_within : (bits hash : ℕ) (places : List ℕ) → 0 < bits → within bits (map (position bits hash) places) ≡ true
unfolding position
positions_within bits hash [] some = refl
positions_within bits hash (i ∷ places) some = and_from _ _ (lt-ltb _ bits (mod-lt _ some)) (positions_within bits hash places some)

all_within : (p : Parameters) (hash : Option ℕ) → 0 < p.bits → within p.bits (positions_by p hash) ≡ true
all_within p None some = refl
all_within p (Some hash) some = positions_within p.bits hash (range_with_len 0 p.hashes) some

pub hash_set : (p : Parameters) (s : List Bool) (hash : Option ℕ) → 0 < p.bits → length s ≡ p.bits → list_all (is_set (fold with_position s (positions_by p hash))) (positions_by p hash) ≡ true
hash_set p s hash some long = all_set (positions_by p hash) s (subst (λ (n : ℕ). within n (positions_by p hash) ≡ true) (sym long) (all_within p hash some))

pub length-with_value : (p : Parameters) (s : List Bool) (v : Value) → length (with_value p s v) ≡ length s
unfolding with_value
length-with_value p s v = length-with_positions (positions p v) s

-- a value sets the positions of its hash
pub with_value_is : (p : Parameters) (s : List Bool) (v : Value) (hash : Option ℕ) → hash ≡ hash_of (words_of v) → with_value p s v ≡ fold with_position s (positions_by p hash)
unfolding with_value positions
with_value_is p s v hash is = rw is refl

pub has_all_is : (p : Parameters) (s : List Bool) (v : Value) (hash : Option ℕ) → hash ≡ hash_of (words_of v) → has_all p s v ≡ list_all (is_set s) (positions_by p hash)
unfolding has_all positions
has_all_is p s v hash is = rw is refl

pub still_included : (p : Parameters) (s t : List Bool) (v : Value) → Kept s t → Includes p s v → Includes p t v
unfolding has_all
still_included p s t v kept included = (included.0, all_kept (positions p v) s t kept included.1)

-- a position is set in the union where it is in one of the two
pub either_set : (s t : List Bool) (q : ℕ) → is_set (united s t) q ≡ (is_set s q || is_set t q)
either_set [] t q = refl
either_set (b ∷ s) [] q = sym (or-false (is_set (b ∷ s) q))
either_set (b ∷ s) (c ∷ t) zero = refl
either_set (b ∷ s) (c ∷ t) (suc q) = either_set s t q

pub length-united : (s t : List Bool) → length t ≡ length s → length (united s t) ≡ length s
length-united [] t long = long
length-united (b ∷ s) [] long = refl
length-united (b ∷ s) (c ∷ t) long = ap suc (length-united s t (omega (arith, long)))

pub kept_by_union : (s t : List Bool) → Kept s (united s t)
kept_by_union s t q is = either_set s t q ∙ or_left (is_set s q) (is_set t q) is

pub others_by_union : (s t : List Bool) → Kept t (united s t)
others_by_union s t q is = either_set s t q ∙ or_right (is_set s q) (is_set t q) is
