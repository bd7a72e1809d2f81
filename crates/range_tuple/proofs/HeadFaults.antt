-- the fields before the summaries, in form or not
use Rattle.std.proofs.Common.{◌≡◌, ℕ, zero, suc, ◌+◌, ◌*◌, ◌-◌, ◌/◌, ◌<◌, ◌≤◌, ◌==◌, min, Bool, true, false, not, cond, ◌&&◌, Option, None, Some, List, [], ◌∷◌, length, drop, refl, sym, ap, ◌∙◌, subst, arith, inl, inr, add-one}
use Rattle.std.specs.Prelude.{nat_lt, slice_index}
use Rattle.std.specs.List.{list_all}
use Rattle.std.proofs.lemmas.Bool.{and_cases, and_from, cases_lt, eq-eqb, eqb-false, false≢true, le-ltb, lt-ltb, ltb-false, ne_eqb, or_parts}
use Rattle.std.proofs.lemmas.List.{get_or-drop, length-drop}
use Rattle.std.proofs.lemmas.List.Folds.{list_all-map, list_all_more}
use Rattle.range_tuple.specs.NullStates.{number_of, has_values}
use Rattle.range_tuple.specs.TupleBytes.{state_number, states_bytes}
use Rattle.range_tuple.specs.TupleFaults.{are_nothing, earlier, first, head_fault, in_turn, is_wrong_length, is_zero, length_at, length_is_wrong, missing, place_of, says_empty, state_at, state_is_wrong, wrong_flags, wrong_length, wrong_state}
use Rattle.range_tuple.specs.Tuples.{IndexedColumn, has_nothing}
use Rattle.range_tuple.specs.declared.state.NullState.{NullState}
use Rattle.range_tuple.specs.declared.state.NullState.TheVariants.{Nothing, Nulls, Values, Both}

-- ---- the first number that passes a test

earlier_none : (o : Option ℕ) (b : Bool) (n : ℕ) → earlier o b n ≡ None → (o ≡ None) × (b ≡ false)
earlier_none None false n is = (refl, refl)
earlier_none None true n is = cc
earlier_none (Some k) b n is = cc

none_earlier : (o : Option ℕ) (b : Bool) (n : ℕ) → o ≡ None → b ≡ false → earlier o b n ≡ None
none_earlier None false n none fails = refl
none_earlier None true n none fails = cc
none_earlier (Some k) b n none fails = cc

-- where none passes, each fails
pub first_none : (test : ℕ → Bool) (n : ℕ) → first test n ≡ None → (k : ℕ) → k < n → test k ≡ false
first_none test zero is k below = absurd (omega (arith, below))
first_none test (suc n) is k below =
    let parts = earlier_none (first test n) (test n) n is in
    elim (cases_lt k n) [
      | inl lt ↦ first_none test n parts.0 k lt
      | inr le ↦ let same : k ≡ n = omega arith in ap test same ∙ parts.1
    ]

pub none_first : (test : ℕ → Bool) (n : ℕ) → ((k : ℕ) → k < n → test k ≡ false) → first test n ≡ None
none_first test zero each = refl
none_first test (suc n) each = none_earlier (first test n) (test n) n (none_first test n (λ k below. each k (omega (arith, below)))) (each n (omega arith))

earlier_some : (o : Option ℕ) (b : Bool) (n k : ℕ) → o ≡ Some k → earlier o b n ≡ Some k
earlier_some None b n k is = cc
earlier_some (Some j) b n k is = is

-- one that passes, none below it doing so, is the first below any bound above it
pub first_some : (test : ℕ → Bool) (k n : ℕ) → first test k ≡ None → test k ≡ true → k < n → first test n ≡ Some k
first_some test k zero none is below = absurd (omega (arith, below))
first_some test k (suc n) none is below =
    elim (cases_lt k n) [
      | inl lt ↦ earlier_some (first test n) (test n) n k (first_some test k n none is lt)
      | inr le ↦
          let same : n ≡ k = omega arith in
          subst (λ (m : ℕ). earlier (first test m) (test m) m ≡ Some k) (sym same) (λ i. earlier (none i) (is i) k)
    ]

-- ---- fields in turn

turn_parts : (o p : Option ℕ) → in_turn o p ≡ None → (o ≡ None) × (p ≡ None)
turn_parts None p is = (refl, is)
turn_parts (Some k) p is = cc

none_turn : (o p : Option ℕ) → o ≡ None → p ≡ None → in_turn o p ≡ None
none_turn None p none next = next
none_turn (Some k) p none next = cc

cond_none : (b : Bool) (x : ℕ) → cond b (Some x) None ≡ None → b ≡ false
cond_none true x is = cc
cond_none false x is = refl

none_cond : (b : Bool) (x : ℕ) → b ≡ false → cond b (Some x) None ≡ None
none_cond true x is = absurd (false≢true (sym is))
none_cond false x is = refl

place_none : (from width : ℕ) (o : Option ℕ) → place_of from width o ≡ None → o ≡ None
place_none from width None is = refl
place_none from width (Some k) is = cc

-- ---- the fields before the summaries are in form

pub record IsHeadInForm (count : ℕ) (bytes : List ℕ) : Type 0 where
  pub long : 5 + 3 * count ≤ length bytes
  pub flags : slice_index bytes 4 ≤ 3
  pub states : (k : ℕ) → k < count → state_is_wrong count bytes k ≡ false
  pub lengths : (k : ℕ) → k < count → length_is_wrong count bytes k ≡ false

pub in_form : (count : ℕ) (bytes : List ℕ) → head_fault count bytes ≡ None → IsHeadInForm count bytes
unfolding head_fault wrong_state wrong_length
in_form count bytes none =
    let one = turn_parts (missing 5 bytes) _ none in
    let two = turn_parts (wrong_flags bytes) _ one.1 in
    let three = turn_parts (wrong_state count bytes) _ two.1 in
    let four = turn_parts (missing (5 + count) bytes) _ three.1 in
    let five = turn_parts (wrong_length count bytes) _ four.1 in
    let long : 5 + 3 * count ≤ length bytes = ltb-false (length bytes) (5 + 3 * count) (cond_none _ (length bytes) five.1) in
    record {
      long = long;
      flags = ltb-false 3 (slice_index bytes 4) (cond_none _ 4 two.0);
      states = λ k below. first_none (state_is_wrong count bytes) (min count (length bytes - 5)) (place_none 5 1 _ three.0) k (omega (arith, below, long));
      lengths = λ k below. first_none (length_is_wrong count bytes) (min count ((length bytes - (5 + count)) / 2)) (place_none (5 + count) 2 _ five.0) k (omega (arith, below, long));
    }

pub from_form : (count : ℕ) (bytes : List ℕ) → IsHeadInForm count bytes → head_fault count bytes ≡ None
unfolding head_fault wrong_state wrong_length
from_form count bytes form =
    let enough : (size : ℕ) → size ≤ length bytes → missing size bytes ≡ None = λ size le. none_cond _ (length bytes) (le-ltb (length bytes) size le) in
    let placed : (from width : ℕ) (o : Option ℕ) → o ≡ None → place_of from width o ≡ None = λ from width o is. ap (place_of from width) is in
    none_turn _ _ (enough 5 (omega (arith, form.long)))
    (none_turn _ _ (none_cond _ 4 (le-ltb 3 (slice_index bytes 4) form.flags))
    (none_turn _ _ (placed 5 1 _ (none_first (state_is_wrong count bytes) (min count (length bytes - 5)) (λ k below. form.states k (omega (arith, below)))))
    (none_turn _ _ (enough (5 + count) (omega (arith, form.long)))
    (none_turn _ _ (placed (5 + count) 2 _ (none_first (length_is_wrong count bytes) (min count ((length bytes - (5 + count)) / 2)) (λ k below. form.lengths k (omega (arith, below)))))
    (enough (5 + 3 * count) form.long)))))

-- what a state in form is
pub state_small : (count : ℕ) (bytes : List ℕ) (k : ℕ) → state_is_wrong count bytes k ≡ false → state_at bytes k ≤ 3
unfolding state_is_wrong
state_small count bytes k right = ltb-false 3 (state_at bytes k) (or_parts _ _ right).0

-- the length of a state in form
wrong_of_values : (state size : ℕ) (b : Bool) → nat_lt 1 state ≡ b → cond b (is_zero size) (not (is_zero size)) ≡ false → (b ≡ true → 0 < size) × (b ≡ false → size ≡ 0)
wrong_of_values state zero true is right = absurd (false≢true (sym right))
wrong_of_values state (suc n) true is right = (λ t. omega arith, λ f. absurd (false≢true (sym f)))
wrong_of_values state zero false is right = (λ t. absurd (false≢true t), λ f. refl)
wrong_of_values state (suc n) false is right = absurd (false≢true (sym right ∙ ap not (ne_eqb (suc n) 0 (λ zero. omega (arith, zero)))))

values_above : (s : NullState) → nat_lt 1 (number_of s) ≡ has_values s
values_above Nothing = refl
values_above Nulls = refl
values_above Values = refl
values_above Both = refl

pub length_agrees : (count : ℕ) (bytes : List ℕ) (k : ℕ) (s : NullState) (size : ℕ) → length_is_wrong count bytes k ≡ false → number_of s ≡ state_at bytes k → size ≡ length_at count bytes k → (has_values s ≡ true → 0 < size) × (has_values s ≡ false → size ≡ 0)
unfolding length_is_wrong
length_agrees count bytes k s size right state is =
    let kind : nat_lt 1 (state_at bytes k) ≡ has_values s = ap (nat_lt 1) (sym state) ∙ values_above s in
    let both = wrong_of_values (state_at bytes k) (length_at count bytes k) (nat_lt 1 (state_at bytes k)) refl right in
    (λ some. omega (arith, is, both.0 (kind ∙ some)), λ none. is ∙ both.1 (kind ∙ none))

pub right_length : (count : ℕ) (bytes : List ℕ) (k : ℕ) (s : NullState) (size : ℕ) → number_of s ≡ state_at bytes k → size ≡ length_at count bytes k → (has_values s ≡ true → 0 < size) → (has_values s ≡ false → size ≡ 0) → length_is_wrong count bytes k ≡ false
unfolding length_is_wrong
right_length count bytes k s size state is values none =
    subst (λ (n : ℕ). is_wrong_length n (length_at count bytes k) ≡ false) state
    (subst (λ (n : ℕ). is_wrong_length (number_of s) n ≡ false) is
    (subst (λ (b : Bool). cond b (is_zero size) (not (is_zero size)) ≡ false) (sym (values_above s)) (by_kind (has_values s) values none)))
  where
    by_kind : (b : Bool) → (b ≡ true → 0 < size) → (b ≡ false → size ≡ 0) → cond b (is_zero size) (not (is_zero size)) ≡ false
    by_kind true values none = ne_eqb size 0 (λ zero. omega (arith, values refl, zero))
    by_kind false values none = ap not (eq-eqb size 0 (none refl))

-- ---- the empty flag

pub zero_is_nothing : (column : IndexedColumn) (s : NullState) → s ≡ column.state → is_zero (number_of s) ≡ has_nothing column
zero_is_nothing column Nothing is = rw (← is) refl
zero_is_nothing column Nulls is = rw (← is) refl
zero_is_nothing column Values is = rw (← is) refl
zero_is_nothing column Both is = rw (← is) refl

-- the states of columns are all 0 exactly where nothing was added in any
pub nothing_by_states : (columns : List IndexedColumn) → list_all is_zero (states_bytes columns) ≡ list_all has_nothing columns
nothing_by_states columns = list_all-map is_zero state_number columns ∙ same columns
  where
    same : (columns : List IndexedColumn) → list_all (λ column. is_zero (state_number column)) columns ≡ list_all has_nothing columns
    same [] = refl
    same (column ∷ columns) = λ i. zero_is_nothing column column.state refl i && same columns i

all_zero_up_to : (bytes : List ℕ) (n : ℕ) → 5 + n ≤ length bytes → ((k : ℕ) → k < n → state_at bytes k ≡ 0) → are_nothing bytes n ≡ true
all_zero_up_to bytes zero within each = refl
all_zero_up_to bytes (suc n) within each =
    ap (λ (m : ℕ). are_nothing bytes m) (sym (add-one n))
    ∙ list_all_more is_zero (drop 5 bytes) n 0 (omega (arith, within, length-drop 5 bytes))
    ∙ and_from _ _ (all_zero_up_to bytes n (omega (arith, within)) (λ k below. each k (omega (arith, below)))) (eq-eqb _ 0 (get_or-drop 5 bytes n 0 ∙ each n (omega arith)))

-- where the states are in form, they are all 0 exactly where the flags say so
nothing_by : (count : ℕ) (bytes : List ℕ) (b : Bool) → says_empty bytes ≡ b → 0 < count → IsHeadInForm count bytes → are_nothing bytes count ≡ b
unfolding state_is_wrong
nothing_by count bytes true says some form =
    all_zero_up_to bytes count (omega (arith, form.long))
    (λ k below.
    let second : cond (says_empty bytes) (nat_lt 0 (state_at bytes k)) (are_nothing bytes (k + 1) && (k + 1 == count)) ≡ false = (or_parts _ _ (form.states k below)).1 in
    let at : nat_lt 0 (state_at bytes k) ≡ false = sym (ap (λ (b : Bool). cond b (nat_lt 0 (state_at bytes k)) (are_nothing bytes (k + 1) && (k + 1 == count))) says) ∙ second in
    let small : state_at bytes k ≤ 0 = ltb-false 0 (state_at bytes k) at in
    omega (arith, small))
nothing_by count bytes false says some form =
    let k = count - 1 in
    let last : k + 1 ≡ count = omega arith in
    let second : cond (says_empty bytes) (nat_lt 0 (state_at bytes k)) (are_nothing bytes (k + 1) && (k + 1 == count)) ≡ false = (or_parts _ _ (form.states k (omega arith))).1 in
    let at : (are_nothing bytes (k + 1) && (k + 1 == count)) ≡ false = sym (ap (λ (b : Bool). cond b (nat_lt 0 (state_at bytes k)) (are_nothing bytes (k + 1) && (k + 1 == count))) says) ∙ second in
    elim (and_cases _ _ at) [
      | inl none ↦ ap (are_nothing bytes) (sym last) ∙ none
      | inr other ↦ absurd (eqb-false (k + 1) count other last)
    ]

pub nothing_is_said : (count : ℕ) (bytes : List ℕ) → 0 < count → IsHeadInForm count bytes → are_nothing bytes count ≡ says_empty bytes
nothing_is_said count bytes some form = nothing_by count bytes (says_empty bytes) refl some form

-- ---- the fields judged one after the other

pub first_step : (test : ℕ → Bool) (k : ℕ) → first test k ≡ None → test k ≡ false → first test (k + 1) ≡ None
first_step test k none fails = ap (first test) (add-one k) ∙ none_earlier (first test k) (test k) k none fails

pub nothing_step : (bytes : List ℕ) (k : ℕ) → 5 + k < length bytes → are_nothing bytes (k + 1) ≡ (are_nothing bytes k && is_zero (state_at bytes k))
nothing_step bytes k within =
    list_all_more is_zero (drop 5 bytes) k 0 (omega (arith, within, length-drop 5 bytes)) ∙ ap (λ (n : ℕ). are_nothing bytes k && is_zero n) (get_or-drop 5 bytes k 0)

pub state_found : (count : ℕ) (bytes : List ℕ) (k : ℕ) → first (state_is_wrong count bytes) k ≡ None → state_is_wrong count bytes k ≡ true → k < min count (length bytes - 5) → Some (5 + k) ≡ wrong_state count bytes
unfolding wrong_state
state_found count bytes k none wrong below =
    let place : 5 + k ≡ 5 + 1 * k = omega arith in
    ap Some place ∙ sym (ap (place_of 5 1) (first_some (state_is_wrong count bytes) k (min count (length bytes - 5)) none wrong below))

pub no_state_found : (count : ℕ) (bytes : List ℕ) (k : ℕ) → k ≡ min count (length bytes - 5) → first (state_is_wrong count bytes) k ≡ None → None ≡ wrong_state count bytes
unfolding wrong_state
no_state_found count bytes k end none = sym (ap (place_of 5 1) (ap (first (state_is_wrong count bytes)) (sym end) ∙ none))

pub length_found : (count : ℕ) (bytes : List ℕ) (k : ℕ) → first (length_is_wrong count bytes) k ≡ None → length_is_wrong count bytes k ≡ true → k < min count ((length bytes - (5 + count)) / 2) → Some (5 + count + 2 * k) ≡ wrong_length count bytes
unfolding wrong_length
length_found count bytes k none wrong below =
    sym (ap (place_of (5 + count) 2) (first_some (length_is_wrong count bytes) k (min count ((length bytes - (5 + count)) / 2)) none wrong below))

pub no_length_found : (count : ℕ) (bytes : List ℕ) (k : ℕ) → k ≡ min count ((length bytes - (5 + count)) / 2) → first (length_is_wrong count bytes) k ≡ None → None ≡ wrong_length count bytes
unfolding wrong_length
no_length_found count bytes k end none = sym (ap (place_of (5 + count) 2) (ap (first (length_is_wrong count bytes)) (sym end) ∙ none))

turn_some : (o p : Option ℕ) (at : ℕ) → o ≡ Some at → in_turn o p ≡ Some at
turn_some None p at is = cc
turn_some (Some k) p at is = is

turn_on : (o p : Option ℕ) → o ≡ None → in_turn o p ≡ p
turn_on None p is = refl
turn_on (Some k) p is = cc

missing_is : (size : ℕ) (bytes : List ℕ) → length bytes < size → missing size bytes ≡ Some (length bytes)
missing_is size bytes short = ap (λ (b : Bool). cond b (Some (length bytes)) None) (lt-ltb (length bytes) size short)

enough : (size : ℕ) (bytes : List ℕ) → size ≤ length bytes → missing size bytes ≡ None
enough size bytes long = none_cond _ (length bytes) (le-ltb (length bytes) size long)

pub head_short : (count : ℕ) (bytes : List ℕ) → length bytes < 5 → head_fault count bytes ≡ Some (length bytes)
unfolding head_fault
head_short count bytes short = turn_some (missing 5 bytes) _ (length bytes) (missing_is 5 bytes short)

pub head_flags : (count : ℕ) (bytes : List ℕ) → 5 ≤ length bytes → 3 < slice_index bytes 4 → head_fault count bytes ≡ Some 4
unfolding head_fault
head_flags count bytes long wrong =
    turn_on (missing 5 bytes) _ (enough 5 bytes long) ∙ turn_some (wrong_flags bytes) _ 4 (ap (λ (b : Bool). cond b (Some 4) None) (lt-ltb 3 (slice_index bytes 4) wrong))

-- the states, and what stands behind them
states_on : (count : ℕ) (bytes : List ℕ) → 5 ≤ length bytes → slice_index bytes 4 ≤ 3 → head_fault count bytes ≡ in_turn (wrong_state count bytes) (in_turn (missing (5 + count) bytes) (in_turn (wrong_length count bytes) (missing (5 + 3 * count) bytes)))
unfolding head_fault
states_on count bytes long flags =
    turn_on (missing 5 bytes) _ (enough 5 bytes long) ∙ turn_on (wrong_flags bytes) _ (none_cond _ 4 (le-ltb 3 (slice_index bytes 4) flags))

pub head_state : (count : ℕ) (bytes : List ℕ) (at : ℕ) → 5 ≤ length bytes → slice_index bytes 4 ≤ 3 → wrong_state count bytes ≡ Some at → head_fault count bytes ≡ Some at
head_state count bytes at long flags wrong = states_on count bytes long flags ∙ turn_some (wrong_state count bytes) _ at wrong

pub head_few_states : (count : ℕ) (bytes : List ℕ) → 5 ≤ length bytes → slice_index bytes 4 ≤ 3 → wrong_state count bytes ≡ None → length bytes < 5 + count → head_fault count bytes ≡ Some (length bytes)
head_few_states count bytes long flags none short =
    states_on count bytes long flags ∙ turn_on (wrong_state count bytes) _ none ∙ turn_some (missing (5 + count) bytes) _ (length bytes) (missing_is (5 + count) bytes short)

-- the lengths, and the end of the bytes
lengths_on : (count : ℕ) (bytes : List ℕ) → 5 + count ≤ length bytes → slice_index bytes 4 ≤ 3 → wrong_state count bytes ≡ None → head_fault count bytes ≡ in_turn (wrong_length count bytes) (missing (5 + 3 * count) bytes)
lengths_on count bytes long flags none =
    states_on count bytes (omega (arith, long)) flags ∙ turn_on (wrong_state count bytes) _ none ∙ turn_on (missing (5 + count) bytes) _ (enough (5 + count) bytes long)

pub head_length : (count : ℕ) (bytes : List ℕ) (at : ℕ) → 5 + count ≤ length bytes → slice_index bytes 4 ≤ 3 → wrong_state count bytes ≡ None → wrong_length count bytes ≡ Some at → head_fault count bytes ≡ Some at
head_length count bytes at long flags none wrong = lengths_on count bytes long flags none ∙ turn_some (wrong_length count bytes) _ at wrong

pub head_few_lengths : (count : ℕ) (bytes : List ℕ) → 5 + count ≤ length bytes → slice_index bytes 4 ≤ 3 → wrong_state count bytes ≡ None → wrong_length count bytes ≡ None → length bytes < 5 + 3 * count → head_fault count bytes ≡ Some (length bytes)
head_few_lengths count bytes long flags none right short = lengths_on count bytes long flags none ∙ turn_on (wrong_length count bytes) _ right ∙ missing_is (5 + 3 * count) bytes short

pub head_right : (count : ℕ) (bytes : List ℕ) → 5 + 3 * count ≤ length bytes → slice_index bytes 4 ≤ 3 → wrong_state count bytes ≡ None → wrong_length count bytes ≡ None → head_fault count bytes ≡ None
head_right count bytes long flags none right = lengths_on count bytes (omega (arith, long)) flags none ∙ turn_on (wrong_length count bytes) _ right ∙ enough (5 + 3 * count) bytes long
