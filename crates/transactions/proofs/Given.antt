-- The statuses of all transactions with a number, by those that are stored.
use Rattle.std.proofs.Common.{◌≡◌, ◌≢◌, ℕ, ◌+◌, ◌<◌, ◌≤◌, Bool, true, false, cond, eqb, ltb, inl, inr, List, [], ◌∷◌, ◌++◌, length, get_or, set, refl, sym, ap, ◌∙◌, arith, le-ltb, length-set, length-append}
use Rattle.std.proofs.lemmas.Bool.{cases_eq, cases_lt, ne_eqb}
use Rattle.std.proofs.lemmas.List.{get_or_append_left, get_or_past, get_or_push, get_or-set_other, get_or-set_same}
use Rattle.std.proofs.lemmas.List.FromFn.{fill_by_all, get_or-map-range_with_len, length-map-range_with_len}
use Rattle.snapshot_core.specs.declared.statuses.Status.{Status}
use Rattle.snapshot_core.specs.declared.statuses.Status.TheVariants.{Unused, Begun, Committed, RolledBack}
use Rattle.snapshot_core.specs.declared.table.Version.{Version}
use Rattle.snapshot_core.specs.VisibleState.{status_of}
use Rattle.tx_table.specs.Statuses.{after_stop}
use Rattle.tx_table.specs.TxState.{IsNext, TxState}
use Rattle.transactions.specs.GivenStatuses.{given_status, given_statuses}
use Rattle.transactions.specs.ShowsDatabase.{HaveBegun}

-- a number that isn't 0 has its stored status, as it is after the opening
pub given_some : (first : ℕ) (stored : List Status) (t : ℕ) → t ≢ 0 → given_status first stored t ≡ after_stop (ltb t first) (status_of stored t)
given_some first stored t some = ap (λ b. cond b Unused (after_stop (ltb t first) (status_of stored t))) (ne_eqb t 0 some)

pub given_none : (first : ℕ) (stored : List Status) (t : ℕ) → t ≡ 0 → given_status first stored t ≡ Unused
given_none first stored t none = ap (given_status first stored) none

unused_stays : (earlier : Bool) → after_stop earlier Unused ≡ Unused
unused_stays true = refl
unused_stays false = refl

unused_before : (earlier : Bool) (e : Status) → after_stop earlier e ≡ Unused → e ≡ Unused
unused_before true Unused is = refl
unused_before true Begun is = absurd cc
unused_before true Committed is = absurd cc
unused_before true RolledBack is = absurd cc
unused_before false e is = is

-- what is stored as unused is unused
pub given_unused : (first : ℕ) (stored : List Status) (t : ℕ) → status_of stored t ≡ Unused → given_status first stored t ≡ Unused
given_unused first stored t is = elim (cases_eq t 0) [
  | inl none ↦ given_none first stored t none
  | inr some ↦ given_some first stored t some ∙ ap (after_stop (ltb t first)) is ∙ unused_stays (ltb t first)
]

-- a number was given exactly where it isn't 0, and isn't stored as unused
pub is_used : (first : ℕ) (stored : List Status) (t : ℕ) → t ≢ 0 → status_of stored t ≢ Unused → given_status first stored t ≢ Unused
is_used first stored t some used unused = used (unused_before (ltb t first) (status_of stored t) (sym (given_some first stored t some) ∙ unused))

pub was_used : (first : ℕ) (stored : List Status) (t : ℕ) → given_status first stored t ≢ Unused → (t ≢ 0) × (status_of stored t ≢ Unused)
was_used first stored t used = (λ none. used (given_none first stored t none), λ unused. used (given_unused first stored t unused))

pub length_given : (tx : TxState) (stored : List Status) → length (given_statuses tx stored) ≡ tx.next
length_given tx stored = length-map-range_with_len (given_status tx.first stored) 0 tx.next

-- the list has each transaction's status, also past its end
pub status_given : (tx : TxState) (stored : List Status) (t : ℕ) → IsNext stored tx.next → status_of (given_statuses tx stored) t ≡ given_status tx.first stored t
status_given tx stored t next = elim (cases_lt t tx.next) [
  | inl below ↦ get_or-map-range_with_len (given_status tx.first stored) 0 tx.next t t Unused below (omega arith)
  | inr past ↦
      get_or_past (given_statuses tx stored) t Unused (omega (arith, past, length_given tx stored))
      ∙ sym (given_unused tx.first stored t (next.unused t past))
]

-- ---- a status that changes

pub given_other : (first : ℕ) (stored : List Status) (t u : ℕ) (e : Status) → u ≢ t → given_status first (set stored t e) u ≡ given_status first stored u
given_other first stored t u e apart = ap (λ (s : Status). cond (eqb u 0) Unused (after_stop (ltb u first) s)) (get_or-set_other stored t u e Unused apart)

pub given_changed : (first : ℕ) (stored : List Status) (t : ℕ) (e : Status) → t ≢ 0 → t < length stored → given_status first (set stored t e) t ≡ after_stop (ltb t first) e
given_changed first stored t e some below = given_some first (set stored t e) t some ∙ ap (after_stop (ltb t first)) (get_or-set_same stored t e Unused below)

-- an end stays one after a stop
pub ended_stays : (earlier : Bool) (e : Status) → e ≢ Begun → after_stop earlier e ≡ e
ended_stays true Unused ends = refl
ended_stays true Begun ends = absurd (ends refl)
ended_stays true Committed ends = refl
ended_stays true RolledBack ends = refl
ended_stays false e ends = refl

-- a transaction with a number ends
pub given_ended : (tx : TxState) (stored : List Status) (t : ℕ) (e : Status) → IsNext stored tx.next → t ≢ 0 → t < tx.next → t < length stored → e ≢ Begun → given_statuses tx (set stored t e) ≡ set (given_statuses tx stored) t e
given_ended tx stored t e next some below within ends =
    let old = given_statuses tx stored in
    sym (fill_by_all (given_status tx.first (set stored t e)) (set old t e) tx.next Unused (length-set old t e ∙ length_given tx stored) (λ k low.
    elim (cases_eq k t) [
      | inl same ↦
          ap (λ (k : ℕ). get_or (set old t e) k Unused) same
          ∙ get_or-set_same old t e Unused (omega (arith, below, length_given tx stored))
          ∙ sym (ap (given_status tx.first (set stored t e)) same ∙ given_changed tx.first stored t e some within ∙ ended_stays (ltb t tx.first) e ends)
      | inr apart ↦ get_or-set_other old t k e Unused apart ∙ status_given tx stored k next ∙ sym (given_other tx.first stored t k e apart)
    ]))

-- the next one begins
pub given_begun : (tx : TxState) (stored : List Status) → IsNext stored tx.next → tx.first ≤ tx.next → tx.next < length stored
    → given_statuses (record tx { next = tx.next + 1 }) (set stored tx.next Begun) ≡ given_statuses tx stored ++ Begun ∷ []
given_begun tx stored next opened within =
    let old = given_statuses tx stored in
    let now = set stored tx.next Begun in
    let long = length_given tx stored in
    sym (fill_by_all (given_status tx.first now) (old ++ Begun ∷ []) (tx.next + 1) Unused (omega (arith, length-append old (Begun ∷ []), long)) (λ k low.
    elim (cases_eq k tx.next) [
      | inl same ↦
          get_or_push old Begun Unused k (long ∙ sym same)
          ∙ sym (ap (given_status tx.first now) same
          ∙ given_changed tx.first stored tx.next Begun (λ e. omega (arith, e, next.some)) within
          ∙ ap (λ b. after_stop b Begun) (le-ltb tx.next tx.first opened))
      | inr apart ↦
          get_or_append_left old (Begun ∷ []) Unused k (omega (arith, low, apart, long))
          ∙ status_given tx stored k next
          ∙ sym (given_other tx.first stored tx.next k Begun apart)
    ]))

-- ---- what is begun

-- a version's transactions have begun by other statuses too, where whoever has begun has by these
pub still_begun : (first other : ℕ) (stored now : List Status) (v : Version) → ((t : ℕ) → given_status first stored t ≢ Unused → given_status other now t ≢ Unused) → HaveBegun first stored v → HaveBegun other now v
still_begun first other stored now v goes have = record { put = goes v.row.id.t have.put; gone = λ some. goes v.deleter (have.gone some) }

begun_before : (earlier : Bool) (status : Status) → after_stop earlier status ≡ Begun → (earlier ≡ false) × (status ≡ Begun)
begun_before true Begun is = absurd cc
begun_before true Unused is = absurd cc
begun_before true Committed is = absurd cc
begun_before true RolledBack is = absurd cc
begun_before false status is = (refl, is)

-- a begun transaction is one of this opening that is stored so
pub begun_given : (first : ℕ) (stored : List Status) (t : ℕ) → given_status first stored t ≡ Begun → t ≢ 0 → (ltb t first ≡ false) × (status_of stored t ≡ Begun)
begun_given first stored t is some = begun_before (ltb t first) (status_of stored t) (sym (given_some first stored t some) ∙ is)
