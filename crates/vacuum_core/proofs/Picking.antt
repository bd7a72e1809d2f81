-- the slots of rows that are picked
use Rattle.std.proofs.Common.{◌≡◌, ◌⊎◌, inl, inr, ℕ, zero, suc, ◌+◌, ◌≤◌, Bool, true, false, List, [], ◌∷◌, ◌++◌, length, get_or, refl, sym, ap, subst, ◌∙◌, arith}
use Rattle.std.specs.Prelude.{All, None, Some}
use Rattle.std.proofs.lemmas.List.{append-nil, append_assoc, length-append}
use Rattle.std.proofs.lemmas.List.Elements.{All-cons, All-nil}
use Rattle.std.proofs.lemmas.Option.{none-some, same_Some}
use Rattle.page_layout.specs.PageContents.{Slot}
use Rattle.page_layout.specs.RowBytes.{StoredRow}
use Rattle.heap_rows.specs.DroppedRows.{AreAscending}
use Rattle.heap_rows.specs.StoredRows.{SlotsAscend, row_of, stored_from}
use Rattle.heap_rows.specs.declared.rows.Stored.{Stored}
use Rattle.vacuum_core.specs.DeadRows.{AddsAtMost, IsPicked, Living, dead_slots, is_dead, listed}

-- some of the first rows are picked; so they are with the next one, or without it
pub picks_next : (slots more : List ℕ) (row : Stored) (rest rows : List Stored) → ((m : List ℕ) → IsPicked m (row ∷ rest) → IsPicked (slots ++ m) rows) → IsPicked more rest → IsPicked ((slots ++ row.slot ∷ []) ++ more) rows
picks_next slots more row rest rows so_far picked =
    subst (λ (l : List ℕ). IsPicked l rows) (sym (append_assoc slots (row.slot ∷ []) more)) (so_far (row.slot ∷ more) (inr (more, refl, picked)))

pub passes_next : (slots more : List ℕ) (row : Stored) (rest rows : List Stored) → ((m : List ℕ) → IsPicked m (row ∷ rest) → IsPicked (slots ++ m) rows) → IsPicked more rest → IsPicked (slots ++ more) rows
passes_next slots more row rest rows so_far picked = so_far more (inl picked)

-- they are no more than the rows
pub few_picked : (slots : List ℕ) (rows : List Stored) → IsPicked slots rows → length slots ≤ length rows
few_picked slots [] none = let e = ap (length {A = ℕ}) none in omega (arith, e)
few_picked slots (row ∷ rows) picked = elim picked [
  | inl passed ↦ let few = few_picked slots rows passed in omega (arith, few)
  | inr first ↦ let e = ap (length {A = ℕ}) first.1 in let few = few_picked first.0 rows first.2 in omega (arith, e, few)
]

lower_least : (least more count : ℕ) (slots : List ℕ) → least ≤ more → AreAscending more count slots → AreAscending least count slots
lower_least least more count [] low ascend = tt
lower_least least more count (slot ∷ slots) low ascend = (omega (arith, low, ascend.0), ascend.1, ascend.2)

-- and ascend as the rows do
pub picked_ascend : (least count : ℕ) (slots : List ℕ) (rows : List Stored) → IsPicked slots rows → SlotsAscend least count rows → AreAscending least count slots
picked_ascend least count slots [] none ascend = subst (AreAscending least count) (sym none) tt
picked_ascend least count slots (row ∷ rows) picked ascend = elim picked [
  | inl passed ↦ lower_least least (row.slot + 1) count slots (omega (arith, ascend.0)) (picked_ascend (row.slot + 1) count slots rows passed ascend.2)
  | inr first ↦ subst (AreAscending least count) (sym first.1) (ascend.0, ascend.1, picked_ascend (row.slot + 1) count first.0 rows first.2 ascend.2)
]

-- each is the slot of a row
pub picked_used : (P : ℕ → Type 0) (n : ℕ) (list : List Slot) (slots : List ℕ) → ((i : ℕ) (row : StoredRow) → get_or list i None ≡ Some row → P (n + i)) → IsPicked slots (stored_from n list) → All P slots
unfolding stored_from
picked_used P n [] slots each none = subst (All P) (sym none) (All-nil P)
picked_used P n (None ∷ list) slots each picked =
    picked_used P (n + 1) list slots (λ i row is. let e : n + suc i ≡ n + 1 + i = omega arith in subst P e (each (suc i) row is)) picked
picked_used P n (Some row ∷ list) slots each picked =
    let later : (i : ℕ) (r : StoredRow) → get_or list i None ≡ Some r → P (n + 1 + i) = λ i r is. let e : n + suc i ≡ n + 1 + i = omega arith in subst P e (each (suc i) r is) in
    elim picked [
      | inl passed ↦ picked_used P (n + 1) list slots later passed
      | inr first ↦
          let here : P n = (let e : n + 0 ≡ n = omega arith in subst P e (each 0 row refl)) in
          subst (All P) (sym first.1) (All-cons P n first.0 here (picked_used P (n + 1) list first.0 later first.2))
    ]

-- so it is with the next one judged
pub judged_picks : (slots after more : List ℕ) (row : Stored) (rest rows : List Stored) → AddsAtMost row.slot slots after → ((m : List ℕ) → IsPicked m (row ∷ rest) → IsPicked (slots ++ m) rows) → IsPicked more rest → IsPicked (after ++ more) rows
judged_picks slots after more row rest rows added so_far picked = elim added [
  | inl one ↦ subst (λ (l : List ℕ). IsPicked (l ++ more) rows) (sym one) (picks_next slots more row rest rows so_far picked)
  | inr none ↦ subst (λ (l : List ℕ). IsPicked (l ++ more) rows) (sym none) (passes_next slots more row rest rows so_far picked)
]

pub one_more_at_most : (slot : ℕ) (before after : List ℕ) → AddsAtMost slot before after → length after ≤ length before + 1
one_more_at_most slot before after added = elim added [
  | inl one ↦ (let e = ap (length {A = ℕ}) one in omega (arith, e, length-append before (slot ∷ [])))
  | inr none ↦ (let e = ap (length {A = ℕ}) none in omega (arith, e))
]

-- the dead ones, with the next row judged
first_judged : (b : Bool) (slot : ℕ) (slots : List ℕ) → listed b slot slots ≡ listed b slot [] ++ slots
first_judged true slot slots = refl
first_judged false slot slots = refl

pub judges_next : (by : Living) (row : Stored) (rest : List Stored) (slots after all : List ℕ) → after ≡ slots ++ dead_slots by (row ∷ []) → slots ++ dead_slots by (row ∷ rest) ≡ all → after ++ dead_slots by rest ≡ all
unfolding dead_slots
judges_next by row rest slots after all added so_far =
    ap (λ (l : List ℕ). l ++ dead_slots by rest) added
    ∙ append_assoc slots (listed (is_dead by (row_of row)) row.slot []) (dead_slots by rest)
    ∙ sym (ap (λ (l : List ℕ). slots ++ l) (first_judged (is_dead by (row_of row)) row.slot (dead_slots by rest))) ∙ so_far

pub one_dead : (by : Living) (row : Stored) (slots after : List ℕ) (b : Bool) → b ≡ is_dead by (row_of row) → b ≡ true → after ≡ slots ++ row.slot ∷ [] → after ≡ slots ++ dead_slots by (row ∷ [])
unfolding dead_slots
one_dead by row slots after b is dead added = added ∙ ap (λ (x : Bool). slots ++ listed x row.slot []) (sym dead ∙ is)

pub none_dead : (by : Living) (row : Stored) (slots : List ℕ) (b : Bool) → b ≡ is_dead by (row_of row) → b ≡ false → slots ≡ slots ++ dead_slots by (row ∷ [])
unfolding dead_slots
none_dead by row slots b is alive = sym (append-nil slots) ∙ ap (λ (x : Bool). slots ++ listed x row.slot []) (sym alive ∙ is)

-- the number is one of these
abbrev pub IsAmong : List ℕ → ℕ → Type 0
IsAmong [] n = ⊥
IsAmong (first ∷ more) n = (n ≡ first) ⊎ IsAmong more n

among_listed : (b : Bool) (slot n : ℕ) (slots : List ℕ) → IsAmong slots n → IsAmong (listed b slot slots) n
among_listed true slot n slots among = inr among
among_listed false slot n slots among = among

-- each dead row is listed, and no other
pub dead_listed : (by : Living) (n i : ℕ) (list : List Slot) (row : StoredRow) → get_or list i None ≡ Some row → is_dead by row ≡ true → IsAmong (dead_slots by (stored_from n list)) (n + i)
unfolding stored_from dead_slots
dead_listed by n i [] row is dead = absurd (none-some row is)
dead_listed by n zero (None ∷ list) row is dead = absurd (none-some row is)
dead_listed by n zero (Some first ∷ list) row is dead =
    let same : first ≡ row = same_Some first row is in
    let at : n + 0 ≡ n = omega arith in
    subst (λ (b : Bool). IsAmong (listed b n (dead_slots by (stored_from (n + 1) list))) (n + 0)) (sym (ap (is_dead by) same ∙ dead)) (inl at)
dead_listed by n (suc i) (None ∷ list) row is dead = let e : n + 1 + i ≡ n + suc i = omega arith in subst (IsAmong (dead_slots by (stored_from (n + 1) list))) e (dead_listed by (n + 1) i list row is dead)
dead_listed by n (suc i) (Some first ∷ list) row is dead =
    let e : n + 1 + i ≡ n + suc i = omega arith in
    among_listed (is_dead by first) n (n + suc i) (dead_slots by (stored_from (n + 1) list)) (subst (IsAmong (dead_slots by (stored_from (n + 1) list))) e (dead_listed by (n + 1) i list row is dead))

-- a row in this slot is dead
abbrev pub IsDeadAt : Living → (n m : ℕ) → List Slot → Type 0
IsDeadAt by n m list = (i : ℕ) × (m ≡ n + i) × ((row : StoredRow) × (get_or list i None ≡ Some row) × (is_dead by row ≡ true))

behind : (by : Living) (n m : ℕ) (slot : Slot) (list : List Slot) → IsDeadAt by (n + 1) m list → IsDeadAt by n m (slot ∷ list)
behind by n m slot list at = (suc at.0, (let e = at.1 in omega (arith, e)), at.2)

dead_by_test : (by : Living) (n m : ℕ) (row : StoredRow) (list : List Slot) → (IsAmong (dead_slots by (stored_from (n + 1) list)) m → IsDeadAt by (n + 1) m list) → (b : Bool) → is_dead by row ≡ b
    → IsAmong (listed b n (dead_slots by (stored_from (n + 1) list))) m → IsDeadAt by n m (Some row ∷ list)
dead_by_test by n m row list found true dead here = elim here [
  | inl is ↦ (0, (let e : n ≡ n + 0 = omega arith in is ∙ e), (row, refl, dead))
  | inr later ↦ behind by n m (Some row) list (found later)
]
dead_by_test by n m row list found false alive later = behind by n m (Some row) list (found later)

pub listed_dead : (by : Living) (n m : ℕ) (list : List Slot) → IsAmong (dead_slots by (stored_from n list)) m → IsDeadAt by n m list
unfolding stored_from dead_slots
listed_dead by n m [] among = absurd among
listed_dead by n m (None ∷ list) among = behind by n m None list (listed_dead by (n + 1) m list among)
listed_dead by n m (Some row ∷ list) among = dead_by_test by n m row list (listed_dead by (n + 1) m list) (is_dead by row) refl among
