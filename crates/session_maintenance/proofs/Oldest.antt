-- the snapshots of the open transactions, and the oldest one
use Rattle.std.proofs.Common.{◌≡◌, ◌⊎◌, inl, inr, ℕ, zero, suc, ◌<◌, ◌≤◌, eqb, eq-eqb, eqb-true, ◌&&◌, ◌==◌, Bool, true, false, List, [], ◌∷◌, ◌++◌, length, Option, None, Some, refl, sym, ap, subst, ◌∙◌, arith}
use Rattle.std.specs.Prelude.{IsTrue, nat_lt, if◌then◌else◌}
use Rattle.std.specs.List.{AllByRecursion, list_all, list_any}
use Rattle.std.proofs.lemmas.Bool.{and_from, and_parts, false_from_ne_true, ltb-false, ltb-true, or_cases, or_parts, true_from_ne_false, true≢false}
use Rattle.std.proofs.lemmas.Cmp.{nat_eq_equiv}
use Rattle.std.proofs.lemmas.Map.Keys.{IsDistinct-cons}
use Rattle.std.proofs.lemmas.Map.Made.{length-le_from_is_member}
use Rattle.block_model.specs.declared.request.Entry.{Entry}
use Rattle.block_model.specs.DatabaseState.{DatabaseState}
use Rattle.block_model.specs.SerialRun.{serial_run, serial_run-append}
use Rattle.snapshot_core.specs.declared.snapshots.Snapshot.{Snapshot}
use Rattle.snapshot_core.specs.declared.sessions.Open.{Open}
use Rattle.snapshot_core.specs.OldestOpen.{is_earlier, oldest_from, oldest_of, older}
use Rattle.snapshot_core.specs.StoredVersions.{transaction_of}
use Rattle.snapshot_core.specs.Visibility.{had_ended, was_active}
use Rattle.script_semantics.specs.DeadRows.{HasEnded}
use Rattle.script_semantics.specs.Numbers.{NumbersRise}
use Rattle.script_semantics.specs.Openings.{NoneOpen}
use Rattle.script_semantics.specs.Views.{view_front}
use Rattle.script_semantics.proofs.Fronts.{view_splits}
use Rattle.script_semantics.proofs.Splits.{fronts}
use Rattle.session_parts.specs.FrontsStand.{IsTakenOf}
use Rattle.session_parts.proofs.Snapshots.{has_ended}
use Rattle.session_maintenance.specs.DeadToAll.{oldest_snapshots, snapshot_in, snapshots_of}

-- ---- all snapshots

pub all_snapshots : (os : List (Option Open)) (test : Snapshot → Bool) → ((n : ℕ) (o : Open) → transaction_of os n ≡ Some o → test o.snapshot ≡ true) → list_all test (snapshots_of os) ≡ true
all_snapshots [] test each = refl
all_snapshots (None ∷ os) test each = all_snapshots os test (λ n o was. each (suc n) o was)
all_snapshots (Some o ∷ os) test each = and_from (test o.snapshot) (list_all test (snapshots_of os)) (each 0 o refl) (all_snapshots os test (λ n o was. each (suc n) o was))

pub each_snapshot : (os : List (Option Open)) (test : Snapshot → Bool) → list_all test (snapshots_of os) ≡ true → (n : ℕ) (o : Open) → transaction_of os n ≡ Some o → test o.snapshot ≡ true
each_snapshot [] test all n o was = absurd (cc)
each_snapshot (None ∷ os) test all zero o was = absurd (cc)
each_snapshot (None ∷ os) test all (suc n) o was = each_snapshot os test all n o was
each_snapshot (Some x ∷ os) test all zero o was =
    let same : x ≡ o = cc in
    ap (λ (o : Open). test o.snapshot) (sym same) ∙ (and_parts (test x.snapshot) (list_all test (snapshots_of os)) all).0
each_snapshot (Some x ∷ os) test all (suc n) o was = each_snapshot os test (and_parts (test x.snapshot) (list_all test (snapshots_of os)) all).1 n o was

-- ---- the older one of two

older_is : (one other : Option Open) (o : Open) → older one other ≡ Some o → (one ≡ Some o) ⊎ (other ≡ Some o)
older_is None other o is = inr is
older_is (Some a) None o is = inl is
older_is (Some a) (Some b) o is = elim (is_earlier b.snapshot a.snapshot) as (λ earlier. (if earlier then Some b else Some a) ≡ Some o → (Some a ≡ Some o) ⊎ (Some b ≡ Some o)) [
  | true ↦ λ second. inr second
  | false ↦ λ first. inl first
] is

-- by its numbers the one view wasn't taken behind the other
abbrev pub IsNotLater : Snapshot → Snapshot → Type 0
IsNotLater one other = (one.next ≤ other.next) × (one.next ≡ other.next → length other.active ≤ length one.active)

earlier_is : (one other : Snapshot) → is_earlier one other ≡ true → IsNotLater one other
earlier_is one other is = elim (or_cases (nat_lt one.next other.next) ((one.next == other.next) && nat_lt (length other.active) (length one.active)) is) [
  | inl lower ↦ let low : one.next < other.next = ltb-true one.next other.next lower in (omega (arith, low), λ same. absurd (omega (arith, low, same)))
  | inr tied ↦
      let parts = and_parts (one.next == other.next) (nat_lt (length other.active) (length one.active)) tied in
      let same : one.next ≡ other.next = eqb-true one.next other.next parts.0 in
      let fewer : length other.active < length one.active = ltb-true (length other.active) (length one.active) parts.1 in
      (omega (arith, same), λ _. omega (arith, fewer))
]

not_earlier : (one other : Snapshot) → is_earlier one other ≡ false → IsNotLater other one
not_earlier one other is =
    let parts = or_parts (nat_lt one.next other.next) ((one.next == other.next) && nat_lt (length other.active) (length one.active)) is in (
      ltb-false one.next other.next parts.0,
      λ same. ltb-false (length other.active) (length one.active) (false_from_ne_true (nat_lt (length other.active) (length one.active))
          (λ fewer. true≢false (sym (and_from (one.next == other.next) (nat_lt (length other.active) (length one.active)) (eq-eqb one.next other.next (sym same)) fewer) ∙ parts.1))),
    )

not_later_on : (a b c : Snapshot) → IsNotLater a b → IsNotLater b c → IsNotLater a c
not_later_on a b c first second =
    let low = first.0 in
    let on = second.0 in (
      omega (arith, low, on),
      λ same.
          let many = first.1 (omega (arith, low, on, same)) in
          let more = second.1 (omega (arith, low, on, same)) in
          omega (arith, many, more),
    )

-- the older one isn't later than either
abbrev IsBelow : Option Open → Open → Type 0
IsBelow found x = (o : Open) × (found ≡ Some o) × IsNotLater o.snapshot x.snapshot

itself : (one : Option Open) (x : Open) → one ≡ Some x → IsBelow one x
itself one x is = (x, is, (omega arith, λ _. omega arith))

below_first : (one other : Option Open) (x : Open) → one ≡ Some x → IsBelow (older one other) x
below_first None other x is = absurd (cc)
below_first (Some a) None x is = itself (Some a) x is
below_first (Some a) (Some b) x is = elim (is_earlier b.snapshot a.snapshot) as (λ earlier. is_earlier b.snapshot a.snapshot ≡ earlier → IsBelow (if earlier then Some b else Some a) x) [
  | true ↦ λ earlier. let same : a ≡ x = cc in (b, refl, subst (λ (x : Open). IsNotLater b.snapshot x.snapshot) same (earlier_is b.snapshot a.snapshot earlier))
  | false ↦ λ _. itself (Some a) x is
] refl

below_second : (one other : Option Open) (x : Open) → other ≡ Some x → IsBelow (older one other) x
below_second None other x is = itself other x is
below_second (Some a) None x is = absurd (cc)
below_second (Some a) (Some b) x is = elim (is_earlier b.snapshot a.snapshot) as (λ earlier. is_earlier b.snapshot a.snapshot ≡ earlier → IsBelow (if earlier then Some b else Some a) x) [
  | true ↦ λ _. itself (Some b) x is
  | false ↦ λ later. let same : b ≡ x = cc in (a, refl, subst (λ (x : Open). IsNotLater a.snapshot x.snapshot) same (not_earlier b.snapshot a.snapshot later))
] refl

-- ---- the oldest

from_is : (so_far : Option Open) (os : List (Option Open)) (o : Open) → oldest_from so_far os ≡ Some o → (so_far ≡ Some o) ⊎ ((n : ℕ) × (transaction_of os n ≡ Some o))
from_is so_far [] o is = inl is
from_is so_far (place ∷ os) o is = elim (from_is (older so_far place) os o is) [
  | inl first ↦ elim (older_is so_far place o first) [ inl far ↦ inl far | inr here ↦ inr (0, here) ]
  | inr later ↦ inr (suc later.0, later.1)
]

-- it isn't later than one that stood before, or stands in the list
from_below : (so_far : Option Open) (os : List (Option Open)) (x : Open) → IsBelow so_far x → IsBelow (oldest_from so_far os) x
from_below so_far [] x so = so
from_below so_far (place ∷ os) x so =
    let nearer = below_first so_far place so.0 so.1 in
    from_below (older so_far place) os x (nearer.0, nearer.1, not_later_on nearer.0.snapshot so.0.snapshot x.snapshot nearer.2 so.2)

within_below : (so_far : Option Open) (os : List (Option Open)) (n : ℕ) (x : Open) → transaction_of os n ≡ Some x → IsBelow (oldest_from so_far os) x
within_below so_far [] n x was = absurd (cc)
within_below so_far (place ∷ os) zero x was = from_below (older so_far place) os x (below_second so_far place x was)
within_below so_far (place ∷ os) (suc n) x was = within_below (older so_far place) os n x was

none_before : (o : Open) → None ≡ Some o → ⊥
none_before o is = cc

pub oldest_is_open : (os : List (Option Open)) (o : Open) → oldest_of os ≡ Some o → (n : ℕ) × (transaction_of os n ≡ Some o)
oldest_is_open os o is = elim (from_is None os o is) [ inl none ↦ absurd (none_before o none) | inr found ↦ found ]

-- where one is open there is an oldest, and it isn't later than that
pub oldest_is_below : (os : List (Option Open)) (n : ℕ) (x : Open) → transaction_of os n ≡ Some x → (o : Open) × (oldest_of os ≡ Some o) × IsNotLater o.snapshot x.snapshot
oldest_is_below os n x was = within_below None os n x was

-- ---- its snapshot

module _ (os : List (Option Open)) (test : Snapshot → Bool) where
  -- what is so of all snapshots is so of the oldest one's
  pub oldest_among : list_all test (snapshots_of os) ≡ true → list_all test (oldest_snapshots os) ≡ true
  oldest_among all = elim (oldest_of os) as (λ found. oldest_of os ≡ found → list_all test (snapshot_in found) ≡ true) [
    | None ↦ λ _. refl
    | Some o ↦ λ is.
        let among = oldest_is_open os o is in
        and_from (test o.snapshot) true (each_snapshot os test all among.0 o among.1) refl
  ] refl

  pub of_oldest : list_all test (oldest_snapshots os) ≡ true → (o : Open) → oldest_of os ≡ Some o → test o.snapshot ≡ true
  of_oldest so o is = (and_parts (test o.snapshot) true (ap (λ (found : Option Open). list_all test (snapshot_in found)) (sym is) ∙ so)).0

-- ---- views of one journal

-- Two views of which one was taken where the journal goes on from the other's front, and by its numbers not behind that: the same had ended at both.
module _ (numbers : NumbersRise) (o : DatabaseState) (none : NoneOpen o) (front more : List Entry) (one other : Snapshot) (later : IsTakenOf one (serial_run o (front ++ more))) (earlier : IsTakenOf other (serial_run o front))
    (not_later : IsNotLater one other) where
  abbrev now : DatabaseState
  now = serial_run o (front ++ more)

  abbrev old : DatabaseState
  old = serial_run o front

  ended_on : (u : ℕ) → HasEnded old u → HasEnded now u
  ended_on u ended = subst (λ (s : DatabaseState). HasEnded s u) (sym (serial_run-append o front more)) (numbers.ended old more u ended)

  same_next : now.next ≡ old.next
  same_next =
      let low = not_later.0 in
      let at = later.next in
      let there = earlier.next in
      let up : old.next ≤ now.next = subst (λ (s : DatabaseState). old.next ≤ s.next) (sym (serial_run-append o front more)) (numbers.next old more) in
      omega (arith, low, at, there, up)

  -- who was under way at the later one was so at the earlier one
  was_under_way : (u : ℕ) → IsTrue (was_active one u) → IsTrue (was_active other u)
  was_under_way u is =
      let under_way = (later.active u).0 is in
      let low : u < now.next = subst (λ t. t < now.next) under_way.3 ((numbers.numbered o (front ++ more) none).below under_way.0 under_way.1 under_way.2) in
      let same = same_next in
      true_from_ne_false (was_active other u) (λ free. (ended_on u (omega (arith, low, same), λ was. true≢false (sym ((earlier.active u).1 was) ∙ free))).1 under_way)

  -- as the lists have it
  member_is : (us : List ℕ) (u : ℕ) → list_any (λ t. t == u) us ≡ list_any (eqb u) us
  member_is us u = λ i. list_any (λ t. nat_eq_equiv.symm t u i) us

  apart : (u : ℕ) (us : List ℕ) → list_any (eqb u) us ≡ false → AllByRecursion (λ t. eqb u t ≡ false) us
  apart u [] lacks = tt
  apart u (t ∷ us) lacks = let parts = or_parts (eqb u t) (list_any (eqb u) us) lacks in (parts.0, apart u us parts.1)

  -- so nobody ended between the two
  pub ended_then : (u : ℕ) → HasEnded now u → HasEnded old u
  ended_then u ended =
      let low = ended.0 in
      let same = same_next in
      let at = later.next in
      let there = earlier.next in
      let free : was_active one u ≡ false = false_from_ne_true (was_active one u) (λ is. ended.1 ((later.active u).0 is)) in
      let few : length other.active ≤ length one.active = not_later.1 (omega (arith, at, there, same)) in (
        omega (arith, low, same),
        λ was.
            let many : length (u ∷ one.active) ≤ length other.active = length-le_from_is_member nat_eq_equiv (u ∷ one.active) other.active
            (IsDistinct-cons eqb u one.active (apart u one.active (sym (member_is one.active u) ∙ free)) later.once)
            (λ t is. elim (or_cases (eqb t u) (list_any (eqb t) one.active) is) [
              | inl own ↦ sym (member_is other.active t) ∙ (earlier.active t).1 (was.0, was.1, was.2, was.3 ∙ sym (eqb-true t u own))
              | inr before ↦ sym (member_is other.active t) ∙ was_under_way t (member_is one.active t ∙ before)
            ]) in
            absurd (omega (arith, few, many)),
      )

-- what had ended at a session's view had ended at another's, where the one wasn't taken behind the other by its numbers
pub had_ended_then : NumbersRise → (o : DatabaseState) (journal : List Entry) → NoneOpen o → (m n : ℕ) (one other : Snapshot) → IsTakenOf one (serial_run o (view_front m journal)) → IsTakenOf other (serial_run o (view_front n journal))
    → IsNotLater one other → (u : ℕ) → IsTrue (had_ended one u) → IsTrue (had_ended other u)
had_ended_then numbers o journal none m n one other at there not_later u had =
    let before = view_front m journal in
    let after = view_front n journal in
    let from_m = view_splits m journal in
    let from_n = view_splits n journal in
    let ended = (has_ended one (serial_run o before) at u).0 had in
    (has_ended other (serial_run o after) there u).1 (elim (fronts before from_m.0 after from_n.0 (from_m.1 ∙ sym from_n.1)) [
      | inl on ↦ subst (λ (s : DatabaseState). HasEnded s u) (sym (serial_run-append o before on.0) ∙ ap (serial_run o) on.1) (numbers.ended (serial_run o before) on.0 u ended)
      | inr past ↦ ended_then numbers o none after (past.entry ∷ past.more) one other (subst (λ (l : List Entry). IsTakenOf one (serial_run o l)) (sym past.reaches) at) there not_later u
          (subst (λ (l : List Entry). HasEnded (serial_run o l) u) (sym past.reaches) ended)
    ])
