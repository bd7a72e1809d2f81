-- conditions that are gathered by column
use Rattle.std.proofs.Common.{◌≡◌, ℕ, ◌+◌, ◌-◌, ◌<◌, ◌≤◌, Bool, true, false, cond, ◌&&◌, All, List, [], ◌∷◌, ◌++◌, ◌==◌, take, drop, length, get_or, set, inl, inr, refl, sym, ap, ◌∙◌, subst, arith}
use Rattle.std.specs.List.{filter, list_any, slice_range}
use Rattle.block_model.specs.declared.row.Cond.{Cond}
use Rattle.opclass_api.specs.Conditions.{compares}
use Rattle.range_tuple.specs.GatheredKeys.{IsAsked, IsGathered}
use Rattle.range_tuple.specs.Keeps.{comparisons}
use Rattle.range_tuple.specs.declared.scan_keys.ColumnKeys.{ColumnKeys}
use Rattle.std.proofs.Math.Seq.{drop-append_seam, take-append_seam}
use Rattle.std.proofs.lemmas.Bool.{false≢true, false_from_ne_true, and_parts, or_cases, or_left, or_right, eq-eqb, eqb-true}
use Rattle.std.proofs.lemmas.List.Folds.{list_any-append, list_any_kept, list_any_more}
use Rattle.std.proofs.lemmas.List.{append-nil, append_assoc, length-append, length-take-le, take_all, take_more_set, take-take, take-append-drop, drop-take}
use Rattle.std.proofs.lemmas.List.Elements.{All-weaker, filter-append, filter_more}
use Rattle.std.proofs.lemmas.List.Sums.{length-filter, count_by-le-length}

kept_in : {X : Type 0} (x : X) (ps qs rs : List X) (p q r : Bool) → (p ≡ true → r ≡ true) → (q ≡ true → (r ≡ true) × (p ≡ false)) → length ps + length qs ≤ length rs → length (cond p (x ∷ ps) ps) + length (cond q (x ∷ qs) qs) ≤ length (cond r (x ∷ rs) rs)
kept_in x ps qs rs true true r first second le = absurd (false≢true (sym (second refl).1))
kept_in x ps qs rs true false true first second le = omega (arith, le)
kept_in x ps qs rs true false false first second le = absurd (false≢true (first refl))
kept_in x ps qs rs false true true first second le = omega (arith, le)
kept_in x ps qs rs false true false first second le = absurd (false≢true (second refl).0)
kept_in x ps qs rs false false true first second le = omega (arith, le)
kept_in x ps qs rs false false false first second le = le

-- what passes one of two tests, but not both, passes a third
pub two_in_one : {X : Type 0} (p q r : X → Bool) → ((x : X) → p x ≡ true → r x ≡ true) → ((x : X) → q x ≡ true → (r x ≡ true) × (p x ≡ false)) → (xs : List X) → length (filter p xs) + length (filter q xs) ≤ length (filter r xs)
two_in_one p q r first second [] = omega arith
two_in_one p q r first second (x ∷ xs) = kept_in x (filter p xs) (filter q xs) (filter r xs) (p x) (q x) (r x) (first x) (second x) (two_in_one p q r first second xs)

-- what passes is no more than all
pub filtered_few : {X : Type 0} (p : X → Bool) (xs : List X) → length (filter p xs) ≤ length xs
filtered_few p xs = omega (arith, length-filter p xs, count_by-le-length p xs)

-- what passes among the first is no more than what passes among all
pub filtered_front : {X : Type 0} (p : X → Bool) (xs : List X) (i : ℕ) → length (filter p (take i xs)) ≤ length (filter p xs)
filtered_front p xs i =
    let e : length (filter p xs) ≡ length (filter p (take i xs)) + length (filter p (drop i xs)) =
    ap (λ ys. length (filter p ys)) (sym (take-append-drop i xs)) ∙ ap length (filter-append p (take i xs) (drop i xs)) ∙ length-append (filter p (take i xs)) (filter p (drop i xs)) in
    omega (arith, e)

range_of_front : {X : Type 0} (xs : List X) (a b : ℕ) → a ≤ b → slice_range xs a b ≡ drop a (take b xs)
range_of_front xs a b le =
    let width : a + (b - a) ≡ b = omega (arith, le) in
    sym (ap (λ n. drop a (take n xs)) (sym width) ∙ drop-take a (b - a) xs)

-- a part of the front that two lists share
pub same_range : {X : Type 0} (xs ys : List X) (n a b : ℕ) → take n xs ≡ take n ys → a ≤ b → b ≤ n → slice_range xs a b ≡ slice_range ys a b
same_range xs ys n a b same le within =
    range_of_front xs a b le ∙ ap (drop a) (sym (take-take b n xs within) ∙ ap (take b) same ∙ take-take b n ys within) ∙ sym (range_of_front ys a b le)

-- what stands behind a front
pub range_behind : {X : Type 0} (xs front more : List X) (a b : ℕ) → take b xs ≡ front ++ more → length front ≡ a → a ≤ b → slice_range xs a b ≡ more
range_behind xs front more a b is size le = range_of_front xs a b le ∙ ap (drop a) is ∙ ap (λ n. drop n (front ++ more)) (sym size) ∙ drop-append_seam front more

-- the front stays
pub front_stays : {X : Type 0} (xs ys more : List X) (a b : ℕ) → take b xs ≡ take a ys ++ more → a ≤ length ys → a ≤ b → take a xs ≡ take a ys
front_stays xs ys more a b is within le =
    sym (take-take a b xs le) ∙ ap (take a) is ∙ ap (λ n. take n (take a ys ++ more)) (sym (length-take-le a ys within)) ∙ take-append_seam (take a ys) more

-- one element more that passes
pub one_passes : {X : Type 0} (p : X → Bool) (xs : List X) (i : ℕ) (x : X) → i < length xs → x ≡ get_or xs i x → p x ≡ true → filter p (take (i + 1) xs) ≡ filter p (take i xs) ++ x ∷ []
one_passes p xs i x within is passes =
    filter_more p xs i x within ∙ ap (λ y. filter p (take i xs) ++ cond (p y) (y ∷ []) []) (sym is) ∙ ap (λ b. filter p (take i xs) ++ cond b (x ∷ []) []) passes

-- one that doesn't
pub one_fails : {X : Type 0} (p : X → Bool) (xs : List X) (i : ℕ) (x : X) → i < length xs → x ≡ get_or xs i x → p x ≡ false → filter p (take (i + 1) xs) ≡ filter p (take i xs)
one_fails p xs i x within is fails =
    filter_more p xs i x within ∙ ap (λ y. filter p (take i xs) ++ cond (p y) (y ∷ []) []) (sym is) ∙ ap (λ b. filter p (take i xs) ++ cond b (x ∷ []) []) fails ∙ append-nil (filter p (take i xs))

-- there is room for it
pub room_for_one : {X : Type 0} (p : X → Bool) (xs : List X) (i : ℕ) (x : X) → i < length xs → x ≡ get_or xs i x → p x ≡ true → length (filter p (take i xs)) < length (filter p xs)
room_for_one p xs i x within is passes =
    omega (arith, filtered_front p xs (i + 1), ap length (one_passes p xs i x within is passes), length-append (filter p (take i xs)) (x ∷ []))

-- it is written behind those before it
pub one_written : {X : Type 0} (p : X → Bool) (xs out front : List X) (i end : ℕ) (x : X) → i < length xs → x ≡ get_or xs i x → p x ≡ true → end < length out → take end out ≡ front ++ filter p (take i xs) → take (end + 1) (set out end x) ≡ front ++ filter p (take (i + 1) xs)
one_written p xs out front i end x within is passes room so_far =
    take_more_set out end x room ∙ ap (λ ys. ys ++ x ∷ []) so_far ∙ append_assoc front (filter p (take i xs)) (x ∷ []) ∙ ap (λ ys. front ++ ys) (sym (one_passes p xs i x within is passes))

-- a condition is on the column
abbrev pub is_on_one : ℕ → List Cond → Bool
is_on_one place conds = list_any (λ cond. cond.column == place) conds

abbrev pub asked_among : List Cond → ℕ → Cond → Bool
asked_among conds n c = is_on_one c.column (take n conds)

-- a condition on one column more: its comparisons have room
pub room_more : (conds : List Cond) (at end : ℕ) (x : Cond) → at < length conds → x ≡ get_or conds at x → is_on_one x.column (take at conds) ≡ false → end ≤ length (filter (asked_among conds at) conds) → end + length (comparisons x.column conds) ≤ length (filter (asked_among conds (at + 1)) conds)
room_more conds at end x within is fresh room =
    let on : Cond → Bool = λ cond. (cond.column == x.column) && compares cond.op in
    let more = two_in_one (asked_among conds at) on (asked_among conds (at + 1))
    (λ c asked. list_any_kept (λ cond. cond.column == c.column) conds at asked)
    (λ c both.
    let same = eqb-true c.column x.column (and_parts (c.column == x.column) (compares c.op) both).0 in
    let there : (get_or conds at x).column == c.column ≡ true = eq-eqb (get_or conds at x).column c.column (ap (λ (cond : Cond). cond.column) (sym is) ∙ sym same) in
    (list_any_more (λ cond. cond.column == c.column) conds at x within ∙ or_right _ _ there, ap (λ (n : ℕ). is_on_one n (take at conds)) same ∙ fresh))
    conds in
    omega (arith, room, more)

-- one on a column that was asked before
pub room_same : (conds : List Cond) (at end : ℕ) → end ≤ length (filter (asked_among conds at) conds) → end ≤ length (filter (asked_among conds (at + 1)) conds)
room_same conds at end room =
    let more = two_in_one (asked_among conds at) (λ c. false) (asked_among conds (at + 1)) (λ c asked. list_any_kept (λ cond. cond.column == c.column) conds at asked) (λ c never. absurd (false≢true never)) conds in
    omega (arith, room, more)

-- each column that is asked has keys, one more too
pub all_more : (conds : List Cond) (at : ℕ) (x : Cond) (has : ℕ → Bool) → at < length conds → x ≡ get_or conds at x → ((place : ℕ) → is_on_one place (take at conds) ≡ true → has place ≡ true) → has x.column ≡ true → (place : ℕ) → is_on_one place (take (at + 1) conds) ≡ true → has place ≡ true
all_more conds at x has within is before there place asked =
    elim (or_cases _ _ (sym (list_any_more (λ cond. cond.column == place) conds at x within) ∙ asked)) [
      | inl old ↦ before place old
      | inr new ↦ ap has (sym (eqb-true x.column place (ap (λ (cond : Cond). cond.column == place) is ∙ new))) ∙ there
    ]

-- the keys of a column whose comparisons stand before a place
abbrev pub IsBefore : List Cond → List Cond → ℕ → ColumnKeys → Type 0
IsBefore conds gathered end keys = (keys.end ≤ end) × IsGathered conds gathered keys

-- what was gathered stays where more is written behind it
pub gathered_stays : (conds old new : List Cond) (n end : ℕ) → take n new ≡ take n old → n ≤ length new → n ≤ end → (keys : List ColumnKeys) → All (IsBefore conds old n) keys → All (IsBefore conds new end) keys
gathered_stays conds old new n end same long le keys each =
    All-weaker (IsBefore conds old n) (IsBefore conds new end)
    (λ k before.
    let g = before.1 in (
      omega (arith, before.0, le),
      record {
        in_order = g.in_order;
        within = omega (arith, before.0, long);
        asked = subst (λ (asked : List Cond). IsAsked k.column conds asked k.nulls k.values) (same_range old new n k.first k.end (sym same) g.in_order before.0) g.asked;
      },
    ))
    keys each

-- columns with keys have them still beside one more, which has its own
pub keys_kept : (columns : List ColumnKeys) (k : ColumnKeys) (place : ℕ) → list_any (λ j. j.column == place) columns ≡ true → list_any (λ j. j.column == place) (columns ++ k ∷ []) ≡ true
keys_kept columns k place had = list_any-append (λ j. j.column == place) columns (k ∷ []) ∙ or_left _ _ had

pub keys_added : (columns : List ColumnKeys) (k : ColumnKeys) (place : ℕ) → k.column ≡ place → list_any (λ j. j.column == place) (columns ++ k ∷ []) ≡ true
keys_added columns k place same = list_any-append (λ j. j.column == place) columns (k ∷ []) ∙ or_right _ _ (or_left _ _ (eq-eqb k.column place same))

-- a column without keys isn't asked
pub none_without_keys : (conds : List Cond) (at : ℕ) (columns : List ColumnKeys) → length conds ≤ at → ((place : ℕ) → is_on_one place (take at conds) ≡ true → list_any (λ k. k.column == place) columns ≡ true) → (place : ℕ) → list_any (λ k. k.column == place) columns ≡ false → is_on_one place conds ≡ false
none_without_keys conds at columns past before place none =
    false_from_ne_true (is_on_one place conds) (λ asked. false≢true (sym none ∙ before place (ap (is_on_one place) (take_all at conds past) ∙ asked)))
