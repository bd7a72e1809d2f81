-- Whose rows count, as transactions begin, end and fail.
use Rattle.std.proofs.Common.{◌≡◌, ◌≢◌, Bool, true, false, cond, not, ◌&&◌, ◌||◌, eqb, ltb, ℕ, zero, suc, ◌+◌, ◌<◌, List, [], ◌∷◌, length, get_or, set, Option, None, Some, inl, inr, refl, sym, ap, subst, ◌∙◌, arith, eq-eqb}
use Rattle.std.proofs.Math.Bool.{and-false}
use Rattle.std.specs.List.{list_any}
use Rattle.std.specs.Ordering.{eq_by_cmp, nat_cmp}
use Rattle.std.proofs.lemmas.Bool.{cases_eq, cases_lt, false≢true, ne_eqb, true≢false}
use Rattle.std.proofs.lemmas.List.{get_or_past, get_or-set_same, length-set}
use Rattle.block_model.specs.DatabaseState.{DatabaseState}
use Rattle.store_layout.specs.declared.limits.TheConstants.{MAX_SESSIONS}
use Rattle.store_layout.specs.DiskLayout.{DiskLayout}
use Rattle.page_layout.specs.RowBytes.{StoredRow}
use Rattle.page_map.specs.PageMap.{PageMap}
use Rattle.snapshot_core.specs.declared.statuses.Status.{Status}
use Rattle.snapshot_core.specs.declared.statuses.Status.TheVariants.{Begun, RolledBack}
use Rattle.snapshot_core.specs.Visibility.{had_ended, has_done, is_committed}
use Rattle.snapshot_core.specs.declared.sessions.Open.{Open}
use Rattle.snapshot_core.specs.SessionChanges.{ended, failed_open, with_next_k}
use Rattle.snapshot_core.specs.StoredVersions.{transaction_of}
use Rattle.snapshot_core.proofs.Copies.{becomes, same_numbers}
use Rattle.snapshot_core.proofs.Ends.{ended_not_begun}
use Rattle.tx_table.specs.Statuses.{HasStatuses, after_stop, number_limit}
use Rattle.transactions.specs.CountedRows.{counts, goes_on}
use Rattle.transactions.specs.GivenStatuses.{given_status}
use Rattle.transactions.specs.ShowsDatabase.{ShowsDatabase}
use Rattle.transactions.specs.StoredRows.{sees_row}
use Rattle.transactions.specs.TransactionsState.{TransactionsState, next_open, with_begun, with_failed, with_open, with_row_counted}
use Rattle.transactions.proofs.Given.{ended_stays, given_changed, given_other}
use Rattle.transactions.proofs.Shown.{IsOpenOne, one_list_shown, open_one, whole}

-- ---- some of a list

or_true : (b : Bool) → (b || true) ≡ true
or_true true = refl
or_true false = refl

or_false : (b : Bool) → (b || false) ≡ b
or_false true = refl
or_false false = refl

and_true : (b : Bool) → (b && true) ≡ b
and_true true = refl
and_true false = refl

any_none : {X : Type 0} (f : X → Bool) (l : List X) (d : X) → ((m : ℕ) → f (get_or l m d) ≡ false) → list_any f l ≡ false
any_none f [] d none = refl
any_none f (x ∷ xs) d none = λ i. none 0 i || any_none f xs d (λ m. none (suc m)) i

any_some : {X : Type 0} (f : X → Bool) (l : List X) (d : X) (m : ℕ) → m < length l → f (get_or l m d) ≡ true → list_any f l ≡ true
any_some f [] d m below some = absurd (omega arith)
any_some f (x ∷ xs) d zero below some = ap (λ b. b || list_any f xs) some
any_some f (x ∷ xs) d (suc m) below some = ap (λ b. f x || b) (any_some f xs d m (omega arith) some) ∙ or_true (f x)

any_set : {X : Type 0} (f : X → Bool) (l : List X) (d x : X) (n : ℕ) → f x ≡ f (get_or l n d) → list_any f (set l n x) ≡ list_any f l
any_set f [] d x n same = refl
any_set f (y ∷ ys) d x zero same = ap (λ b. b || list_any f ys) same
any_set f (y ∷ ys) d x (suc n) same = ap (λ b. f y || b) (any_set f ys d x n same)

-- ---- one session's transaction

-- an open one stands at a place
open_below : (os : List (Option Open)) (n : ℕ) (o : Open) → transaction_of os n ≡ Some o → n < length os
open_below os n o was = elim (cases_lt n (length os)) [ inl h ↦ h | inr h ↦ absurd (let none : None ≡ Some o = sym (get_or_past os n None h) ∙ was in cc) ]

-- only the one of a number goes on under it
of_other : (u : ℕ) (o : Open) → o.t ≢ u → goes_on u (Some o) ≡ false
of_other u o apart = ap (λ b. b && not o.failed) (ne_eqb o.t u apart)

of_own : (o : Open) → goes_on o.t (Some o) ≡ not o.failed
of_own o = ap (λ b. b && not o.failed) (eq-eqb o.t o.t refl)

of_failed : (u : ℕ) (o : Open) → o.failed ≡ true → goes_on u (Some o) ≡ false
of_failed u o failed = ap (λ b. eqb o.t u && not b) failed ∙ and-false (eqb o.t u)

module _ {layout : DiskLayout} {pages : PageMap} {t : TransactionsState} {s : DatabaseState} (shows : ShowsDatabase layout pages t s) (session : ℕ) (o : Open) (was : transaction_of t.opens session ≡ Some o) where
  -- of no other session
  apart_from : (m : ℕ) (p : Open) → m ≢ session → transaction_of t.opens m ≡ Some p → p.t ≢ o.t
  apart_from m p other was_p same = ((whole shows).apart m session p o was_p was other).differ same

  -- a session's place for the number of this one
  at_place : (m : ℕ) (x : Option Open) → m ≢ session → transaction_of t.opens m ≡ x → goes_on o.t x ≡ false
  at_place m None other is = refl
  at_place m (Some p) other is = of_other o.t p (apart_from m p other is)

  -- so the number goes on where this one does
  own_before : list_any (goes_on o.t) t.opens ≡ not o.failed
  own_before = elim o.failed as (λ b. o.failed ≡ b → list_any (goes_on o.t) t.opens ≡ not b) [
    | true ↦ λ failed. any_none (goes_on o.t) t.opens None (λ m. elim (cases_eq m session) [
      | inl same ↦ ap (λ k. goes_on o.t (transaction_of t.opens k)) same ∙ ap (goes_on o.t) was ∙ of_failed o.t o failed
      | inr other ↦ at_place m (transaction_of t.opens m) other refl
    ])
    | false ↦ λ unfailed. any_some (goes_on o.t) t.opens None session (open_below t.opens session o was) (ap (goes_on o.t) was ∙ of_own o ∙ ap not unfailed)
  ] refl

  -- and no more where another takes its place that doesn't go on under it
  own_after : (x : Option Open) → goes_on o.t x ≡ false → list_any (goes_on o.t) (set t.opens session x) ≡ false
  own_after x none = any_none (goes_on o.t) (set t.opens session x) None (λ m.
      ap (goes_on o.t) (becomes t.opens (set t.opens session x) session x (open_below t.opens session o was) refl m) ∙ go m (eq_by_cmp nat_cmp m session) refl)
    where
      go : (m : ℕ) (b : Bool) → eq_by_cmp nat_cmp m session ≡ b → goes_on o.t (cond b x (transaction_of t.opens m)) ≡ false
      go m true e = none
      go m false e = at_place m (transaction_of t.opens m) (λ same. true≢false (sym (tied m session same) ∙ e)) refl
        where
          tied : (a b : ℕ) → a ≡ b → eq_by_cmp nat_cmp a b ≡ true
          tied a b same = ap (λ k. eq_by_cmp nat_cmp k b) same ∙ same_numbers b

  -- other numbers go on as before
  others_after : (u : ℕ) (x : Option Open) → u ≢ o.t → goes_on u x ≡ false → list_any (goes_on u) (set t.opens session x) ≡ list_any (goes_on u) t.opens
  others_after u x apart none = any_set (goes_on u) t.opens None x session (none ∙ sym (ap (goes_on u) was ∙ of_other u o (λ same. apart (sym same))))

  module _ (stored : List Status) (has : HasStatuses layout pages stored) where
    its : IsOpenOne t stored o
    its = subst (λ (stored : List Status). IsOpenOne t stored o) (sym (one_list_shown shows stored has)) (open_one shows session o was)

    uncommitted : is_committed (given_status t.tx.first stored o.t) ≡ false
    uncommitted = ap is_committed its.given

    -- how it stands once it has ended
    end_is : (e : Status) → e ≢ Begun → given_status t.tx.first (set stored o.t e) o.t ≡ e
    end_is e ends = given_changed t.tx.first stored o.t e its.some its.within ∙ ended_stays (ltb o.t t.tx.first) e ends

    same_others : (u : ℕ) (e : Status) → u ≢ o.t → is_committed (given_status t.tx.first (set stored o.t e) u) ≡ is_committed (given_status t.tx.first stored u)
    same_others u e apart = ap is_committed (given_other t.tx.first stored o.t u e apart)

    rolled : RolledBack ≢ Begun
    rolled e = absurd cc

    -- what stays of the numbers that count where this one's goes
    but_own : (u : ℕ) → u ≢ o.t → (counts t stored u && not (eqb u o.t)) ≡ counts t stored u
    but_own u apart = ap (λ b. counts t stored u && not b) (ne_eqb u o.t apart) ∙ and_true (counts t stored u)

    none_own : (u : ℕ) → u ≡ o.t → (counts t stored u && not (eqb u o.t)) ≡ false
    none_own u same = ap (λ b. counts t stored u && not b) (eq-eqb u o.t same) ∙ and-false (counts t stored u)

    of_ended : (failed : Bool) → is_committed (ended failed) ≡ not failed
    of_ended true = refl
    of_ended false = refl

    pub commit_counts : (u : ℕ) → counts (with_open t session None) (set stored o.t (ended o.failed)) u ≡ counts t stored u
    commit_counts u = elim (cases_eq u o.t) [
      | inl same ↦
          ap (counts (with_open t session None) (set stored o.t (ended o.failed))) same
          ∙ (λ i. (ap is_committed (end_is (ended o.failed) (ended_not_begun o.failed)) ∙ of_ended o.failed) i || own_after None refl i)
          ∙ or_false (not o.failed)
          ∙ sym (ap (counts t stored) same ∙ (λ i. uncommitted i || own_before i))
      | inr apart ↦ λ i. same_others u (ended o.failed) apart i || others_after u None apart refl i
    ]

    pub rollback_counts : (u : ℕ) → counts (with_open t session None) (set stored o.t RolledBack) u ≡ (counts t stored u && not (eqb u o.t))
    rollback_counts u = elim (cases_eq u o.t) [
      | inl same ↦
          ap (counts (with_open t session None) (set stored o.t RolledBack)) same
          ∙ (λ i. ap is_committed (end_is RolledBack rolled) i || own_after None refl i)
          ∙ sym (none_own u same)
      | inr apart ↦ (λ i. same_others u RolledBack apart i || others_after u None apart refl i) ∙ sym (but_own u apart)
    ]

    pub failure_counts : (u : ℕ) → counts (with_failed t session o) stored u ≡ (counts t stored u && not (eqb u o.t))
    failure_counts u = elim (cases_eq u o.t) [
      | inl same ↦
          ap (counts (with_failed t session o) stored) same
          ∙ (λ i. uncommitted i || own_after (Some (failed_open o)) (of_failed o.t (failed_open o) refl) i)
          ∙ sym (none_own u same)
      | inr apart ↦ ap (λ b. is_committed (given_status t.tx.first stored u) || b) (others_after u (Some (failed_open o)) apart (of_failed u (failed_open o) refl)) ∙ sym (but_own u apart)
    ]

-- a put
pub put_counts : (t : TransactionsState) (stored : List Status) (session u : ℕ) (o : Open) → transaction_of t.opens session ≡ Some o → counts (with_row_counted t session o) stored u ≡ counts t stored u
put_counts t stored session u o was =
    ap (λ b. is_committed (given_status t.tx.first stored u) || b) (any_set (goes_on u) t.opens None (Some (with_next_k o (o.next_k + 1))) session (ap (goes_on u) (sym was)))

-- what a stop makes of a begun one is no commit
begun_uncommitted : (earlier : Bool) → is_committed (after_stop earlier Begun) ≡ false
begun_uncommitted true = refl
begun_uncommitted false = refl

pub begin_counts : (layout : DiskLayout) (pages : PageMap) (t : TransactionsState) (s : DatabaseState) (stored : List Status) (session u : ℕ)
    → ShowsDatabase layout pages t s → HasStatuses layout pages stored → session < MAX_SESSIONS → transaction_of t.opens session ≡ None → t.tx.next < number_limit layout
    → counts (with_begun t session) (set stored t.tx.next Begun) u ≡ (counts t stored u || eqb u t.tx.next)
begin_counts layout pages t s stored session u shows has small idle below = elim (cases_eq u t.tx.next) [
  | inl same ↦
      let place : session < length t.opens = omega (arith, small, shows.versions.places) in
      let now = set t.opens session (Some (next_open t)) in
      let new : goes_on t.tx.next (get_or now session None) ≡ true = ap (goes_on t.tx.next) (get_or-set_same t.opens session (Some (next_open t)) None place) ∙ of_own (next_open t) in
      let within : session < length now = omega (arith, place, length-set t.opens session (Some (next_open t))) in
      ap (λ u. is_committed (given_status t.tx.first (set stored t.tx.next Begun) u) || list_any (goes_on u) now) same
      ∙ ap (λ b. is_committed (given_status t.tx.first (set stored t.tx.next Begun) t.tx.next) || b) (any_some (goes_on t.tx.next) now None session within new)
      ∙ or_true (is_committed (given_status t.tx.first (set stored t.tx.next Begun) t.tx.next))
      ∙ sym (ap (λ b. counts t stored u || b) (eq-eqb u t.tx.next same) ∙ or_true (counts t stored u))
  | inr apart ↦
      (λ i. is_committed (given_other t.tx.first stored t.tx.next u Begun apart i)
      || any_set (goes_on u) t.opens None (Some (next_open t)) session (of_other u (next_open t) (λ same. apart (sym same)) ∙ sym (ap (goes_on u) idle)) i)
      ∙ sym (ap (λ b. counts t stored u || b) (ne_eqb u t.tx.next apart) ∙ or_false (counts t stored u))
]

-- ---- a row that is seen

first_true : (a b : Bool) → (a && b) ≡ true → a ≡ true
first_true true b e = refl
first_true false b e = absurd (false≢true e)

pub seen_counts : (t : TransactionsState) (stored : List Status) (session : ℕ) (o : Open) (row : StoredRow)
    → transaction_of t.opens session ≡ Some o → o.failed ≡ false → sees_row t.tx.first stored o row ≡ true → counts t stored row.id.t ≡ true
seen_counts t stored session o row was unfailed sees =
    let status = given_status t.tx.first stored row.id.t in
    let done : has_done o.snapshot o.t row.id.t status ≡ true = first_true (has_done o.snapshot o.t row.id.t status) (not (has_done o.snapshot o.t row.deleter (given_status t.tx.first stored row.deleter))) sees in
    elim (cases_eq row.id.t o.t) [
      | inl own ↦
          let here : goes_on row.id.t (transaction_of t.opens session) ≡ true = ap (goes_on row.id.t) was ∙ (λ i. eq-eqb o.t row.id.t (sym own) i && not (unfailed i)) in
          ap (λ b. is_committed status || b) (any_some (goes_on row.id.t) t.opens None session (open_below t.opens session o was) here) ∙ or_true (is_committed status)
      | inr other ↦
          let committed : is_committed status ≡ true = first_true (is_committed status) (had_ended o.snapshot row.id.t) (sym (ap (λ b. b || (is_committed status && had_ended o.snapshot row.id.t)) (ne_eqb row.id.t o.t other)) ∙ done) in
          ap (λ b. b || list_any (goes_on row.id.t) t.opens) committed
    ]
