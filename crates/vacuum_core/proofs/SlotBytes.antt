-- slots of two bytes each
use Rattle.std.proofs.Common.{◌≡◌, ◌⊎◌, inl, inr, ℕ, suc, ◌+◌, ◌*◌, ◌/◌, ◌%◌, ◌≤◌, ◌<◌, ◌&&◌, ◌==◌, Bool, true, false, List, [], ◌∷◌, ◌++◌, length, get_or, set, nat_le, nat_lt, refl, sym, ap, ◌∙◌, arith}
use Rattle.std.specs.Prelude.{None}
use Rattle.std.specs.Int.{bytes_high_first}
use Rattle.std.proofs.lemmas.Bool.{and_parts, cases_eq, cases_lt, eqb-false, eqb-true, false≢true, le-leb, leb-true, lt-ltb, ltb-true}
use Rattle.std.proofs.lemmas.List.{get_or-set_other, get_or-set_same, get_or_past, set_past}
use Rattle.index_layout.specs.IndexPages.{Slot}
use Rattle.index_layout.specs.IndexWrites.{are_ascending, dropped}
use Rattle.vacuum_core.specs.SweptPages.{IsListed}

both : (a b : Bool) → a ≡ true → b ≡ true → (a && b) ≡ true
both a b one two = ap (λ (x : Bool). x && b) one ∙ two

two_bytes : (slot : ℕ) → slot < 65536 → slot / 256 % 256 * 256 + slot % 256 ≡ slot
two_bytes slot small = omega arith

-- the parts of such a list
record Ascends (least count high low : ℕ) (slots : List ℕ) : Type 0 where
  from : least ≤ high * 256 + low
  below : high * 256 + low < count
  rest : are_ascending (high * 256 + low + 1) count slots ≡ true

parts_of : (least count high low : ℕ) (slots : List ℕ) → are_ascending least count (high ∷ low ∷ slots) ≡ true → Ascends least count high low slots
unfolding are_ascending
parts_of least count high low slots is =
    let n = high * 256 + low in
    let outer = and_parts (nat_le least n && nat_lt n count) (are_ascending (n + 1) count slots) is in
    let inner = and_parts (nat_le least n) (nat_lt n count) outer.0 in
    record { from = leb-true least n inner.0; below = ltb-true n count inner.1; rest = outer.1 }

made_of : (least count high low : ℕ) (slots : List ℕ) → Ascends least count high low slots → are_ascending least count (high ∷ low ∷ slots) ≡ true
unfolding are_ascending
made_of least count high low slots parts =
    let n = high * 256 + low in
    both (nat_le least n && nat_lt n count) (are_ascending (n + 1) count slots) (both (nat_le least n) (nat_lt n count) (le-leb least n parts.from) (lt-ltb n count parts.below)) parts.rest

not_odd : (least count high : ℕ) → are_ascending least count (high ∷ []) ≡ true → ⊥
unfolding are_ascending
not_odd least count high is = false≢true is

none_ascend : (least count : ℕ) → are_ascending least count [] ≡ true
unfolding are_ascending
none_ascend least count = refl

pub none_listed : (count : ℕ) → are_ascending 0 count [] ≡ true
none_listed count = none_ascend 0 count

-- the slots are below a greater count, too
pub ascends_below : (least mid count : ℕ) (slots : List ℕ) → mid ≤ count → are_ascending least mid slots ≡ true → are_ascending least count slots ≡ true
ascends_below least mid count [] low is = none_ascend least count
ascends_below least mid count (high ∷ []) low is = absurd (not_odd least mid high is)
ascends_below least mid count (high ∷ small ∷ slots) low is =
    let parts = parts_of least mid high small slots is in
    made_of least count high small slots (record { from = parts.from; below = omega (arith, parts.below, low); rest = ascends_below (high * 256 + small + 1) mid count slots low parts.rest })

-- one more comes behind them
pushed : (least mid count high low : ℕ) (slots : List ℕ) → least ≤ mid → mid ≤ high * 256 + low → high * 256 + low < count → are_ascending least mid slots ≡ true → are_ascending least count (slots ++ high ∷ low ∷ []) ≡ true
pushed least mid count high low [] small from below is = made_of least count high low [] (record { from = omega (arith, small, from); below = below; rest = none_ascend (high * 256 + low + 1) count })
pushed least mid count high low (first ∷ []) small from below is = absurd (not_odd least mid first is)
pushed least mid count high low (first ∷ second ∷ slots) small from below is =
    let parts = parts_of least mid first second slots is in
    made_of least count first second (slots ++ high ∷ low ∷ []) (record {
      from = parts.from;
      below = omega (arith, parts.below, from, below);
      rest = pushed (first * 256 + second + 1) mid count high low slots (omega (arith, parts.below)) from below parts.rest;
    })

pub pushes : (slot : ℕ) (slots : List ℕ) → slot < 65536 → are_ascending 0 slot slots ≡ true → are_ascending 0 (slot + 1) (slots ++ bytes_high_first 2 slot) ≡ true
pushes slot slots small is =
    let e = two_bytes slot small in
    pushed 0 slot (slot + 1) (slot / 256 % 256) (slot % 256) slots (omega arith) (omega (arith, e)) (omega (arith, e)) is

-- a listed one is below the count
pub listed_below : (least count n : ℕ) (slots : List ℕ) → are_ascending least count slots ≡ true → IsListed slots n → n < count
listed_below least count n [] is listed = absurd listed
listed_below least count n (high ∷ []) is listed = absurd listed
listed_below least count n (high ∷ low ∷ slots) is listed =
    let parts = parts_of least count high low slots is in
    elim listed [
      | inl here ↦ omega (arith, here, parts.below)
      | inr later ↦ listed_below (high * 256 + low + 1) count n slots parts.rest later
    ]

-- what is listed then
still_listed : (n high low : ℕ) (slots : List ℕ) → IsListed slots n → IsListed (slots ++ high ∷ low ∷ []) n
still_listed n high low [] listed = absurd listed
still_listed n high low (first ∷ []) listed = absurd listed
still_listed n high low (first ∷ second ∷ slots) listed = elim listed [
  | inl here ↦ inl here
  | inr later ↦ inr (still_listed n high low slots later)
]

now_listed : (least count n high low : ℕ) (slots : List ℕ) → are_ascending least count slots ≡ true → n ≡ high * 256 + low → IsListed (slots ++ high ∷ low ∷ []) n
now_listed least count n high low [] is at = inl at
now_listed least count n high low (first ∷ []) is at = absurd (not_odd least count first is)
now_listed least count n high low (first ∷ second ∷ slots) is at = inr (now_listed (first * 256 + second + 1) count n high low slots (parts_of least count first second slots is).rest at)

only_listed : (least count n high low : ℕ) (slots : List ℕ) → are_ascending least count slots ≡ true → IsListed (slots ++ high ∷ low ∷ []) n → IsListed slots n ⊎ (n ≡ high * 256 + low)
only_listed least count n high low [] is listed = elim listed [
  | inl here ↦ inr here
  | inr none ↦ absurd none
]
only_listed least count n high low (first ∷ []) is listed = absurd (not_odd least count first is)
only_listed least count n high low (first ∷ second ∷ slots) is listed = elim listed [
  | inl here ↦ inl (inl here)
  | inr later ↦ elim (only_listed (first * 256 + second + 1) count n high low slots (parts_of least count first second slots is).rest later) [
    | inl among ↦ inl (inr among)
    | inr last ↦ inr last
  ]
]

pub keeps_listed : (n slot : ℕ) (slots : List ℕ) → IsListed slots n → IsListed (slots ++ bytes_high_first 2 slot) n
keeps_listed n slot slots listed = still_listed n (slot / 256 % 256) (slot % 256) slots listed

pub lists_slot : (count slot : ℕ) (slots : List ℕ) → slot < 65536 → are_ascending 0 count slots ≡ true → IsListed (slots ++ bytes_high_first 2 slot) slot
lists_slot count slot slots small is = now_listed 0 count slot (slot / 256 % 256) (slot % 256) slots is (sym (two_bytes slot small))

pub lists_only : (count n slot : ℕ) (slots : List ℕ) → slot < 65536 → are_ascending 0 count slots ≡ true → IsListed (slots ++ bytes_high_first 2 slot) n → IsListed slots n ⊎ (n ≡ slot)
lists_only count n slot slots small is listed = elim (only_listed 0 count n (slot / 256 % 256) (slot % 256) slots is listed) [
  | inl among ↦ inl among
  | inr last ↦ inr (last ∙ two_bytes slot small)
]

-- the slots that are free then
set_free : (list : List Slot) (n : ℕ) → get_or (set list n None) n None ≡ None
set_free list n = elim (cases_lt n (length list)) [
  | inl within ↦ get_or-set_same list n None None within
  | inr past ↦ ap (λ (l : List Slot). get_or l n None) (set_past list n None past) ∙ get_or_past list n None past
]

stays_free : (list : List Slot) (slots : List ℕ) (n : ℕ) → get_or list n None ≡ None → get_or (dropped list slots) n None ≡ None
unfolding dropped
stays_free list [] n free = free
stays_free list (high ∷ []) n free = free
stays_free list (high ∷ low ∷ slots) n free = stays_free (set list (high * 256 + low) None) slots n (elim (cases_eq n (high * 256 + low)) [
  | inl same ↦ ap (λ (k : ℕ). get_or (set list (high * 256 + low) None) k None) same ∙ set_free list (high * 256 + low)
  | inr other ↦ get_or-set_other list (high * 256 + low) n None None other ∙ free
])

pub drops_listed : (list : List Slot) (slots : List ℕ) (n : ℕ) → IsListed slots n → get_or (dropped list slots) n None ≡ None
unfolding dropped
drops_listed list [] n listed = absurd listed
drops_listed list (high ∷ []) n listed = absurd listed
drops_listed list (high ∷ low ∷ slots) n listed = elim listed [
  | inl here ↦ stays_free (set list (high * 256 + low) None) slots n (ap (λ (k : ℕ). get_or (set list (high * 256 + low) None) k None) here ∙ set_free list (high * 256 + low))
  | inr later ↦ drops_listed (set list (high * 256 + low) None) slots n later
]

pub keeps_unlisted : (list : List Slot) (slots : List ℕ) (n : ℕ) → (IsListed slots n → ⊥) → get_or (dropped list slots) n None ≡ get_or list n None
unfolding dropped
keeps_unlisted list [] n none = refl
keeps_unlisted list (high ∷ []) n none = refl
keeps_unlisted list (high ∷ low ∷ slots) n none =
    keeps_unlisted (set list (high * 256 + low) None) slots n (λ later. none (inr later)) ∙ get_or-set_other list (high * 256 + low) n None None (λ same. none (inl same))

-- a list that isn't empty has a slot
pub some_listed : (count : ℕ) (slots : List ℕ) → are_ascending 0 count slots ≡ true → (slots ≡ [] → ⊥) → (n : ℕ) × IsListed slots n
some_listed count [] is some = absurd (some refl)
some_listed count (high ∷ []) is some = absurd (not_odd 0 count high is)
some_listed count (high ∷ low ∷ slots) is some = (high * 256 + low, inl refl)

-- whether the list is empty, by its length
pub none_there : (slots : List ℕ) (empty : Bool) → empty ≡ (length slots == 0) → empty ≡ true → slots ≡ []
none_there [] empty is holds = refl
none_there (slot ∷ slots) empty is holds = let e = eqb-true (suc (length slots)) 0 (sym is ∙ holds) in absurd (omega (arith, e))

pub some_there : (slots : List ℕ) (empty : Bool) → empty ≡ (length slots == 0) → empty ≡ false → slots ≡ [] → ⊥
some_there slots empty is fails none = eqb-false (length slots) 0 (sym is ∙ fails) (ap (length {A = ℕ}) none)
