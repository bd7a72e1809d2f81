-- What no other session sees of a begin, an end, a put or a mark.
use Rattle.std.proofs.Common.{◌≡◌, ◌≢◌, Bool, true, false, not, ◌&&◌, ◌||◌, eqb, ltb, ℕ, ◌<◌, List, length, get_or, set, Some, inl, inr, refl, sym, ap, subst, ◌∙◌, arith, eqb-true}
use Rattle.std.proofs.Math.Bool.{and-false}
use Rattle.std.proofs.lemmas.Bool.{cases_eq, false≢true, ne_eqb, true≢false}
use Rattle.block_model.specs.declared.place.Spot.{Spot}
use Rattle.block_model.specs.DatabaseState.{DatabaseState}
use Rattle.store_layout.specs.DiskLayout.{DiskLayout}
use Rattle.page_layout.specs.PageWrites.{marked}
use Rattle.page_layout.specs.RowBytes.{StoredRow}
use Rattle.page_map.specs.PageMap.{PageMap}
use Rattle.snapshot_core.specs.declared.statuses.Status.{Status}
use Rattle.snapshot_core.specs.declared.statuses.Status.TheVariants.{Begun, Unused}
use Rattle.snapshot_core.specs.Visibility.{had_ended, has_done, is_committed}
use Rattle.snapshot_core.specs.declared.sessions.Open.{Open}
use Rattle.snapshot_core.specs.Marks.{holds}
use Rattle.snapshot_core.specs.StoredVersions.{transaction_of}
use Rattle.snapshot_core.proofs.Conflicts.{unheld_uncommitted}
use Rattle.transactions.specs.ShownVersions.{version_of}
use Rattle.tx_table.specs.Statuses.{HasStatuses, after_stop, number_limit}
use Rattle.transactions.specs.GivenStatuses.{given_status}
use Rattle.transactions.specs.ShowsDatabase.{ShowsDatabase}
use Rattle.transactions.specs.StoredRows.{StandsAt, conflicts_with, sees_row}
use Rattle.transactions.specs.TransactionsState.{TransactionsState}
use Rattle.transactions.proofs.Given.{given_changed, given_none, given_other, given_unused, status_given}
use Rattle.transactions.proofs.Marks.{row_stored}
use Rattle.transactions.proofs.Shown.{IsOpenOne, one_list_shown, open_one, whole}

begun_uncommitted : (earlier : Bool) → is_committed (after_stop earlier Begun) ≡ false
begun_uncommitted true = refl
begun_uncommitted false = refl

pub begin_unseen : (layout : DiskLayout) (pages : PageMap) (t : TransactionsState) (s : DatabaseState) (stored : List Status) (u : ℕ)
    → ShowsDatabase layout pages t s → HasStatuses layout pages stored → t.tx.next < number_limit layout
    → is_committed (given_status t.tx.first (set stored t.tx.next Begun) u) ≡ is_committed (given_status t.tx.first stored u)
begin_unseen layout pages t s stored u shows has below = elim (cases_eq u t.tx.next) [
  | inl same ↦
      let is = one_list_shown shows stored has in
      let within : t.tx.next < length stored = omega (arith, below, has.counted) in
      let unused = ap (λ (l : List Status). get_or l t.tx.next Unused) is ∙ shows.next.unused t.tx.next (omega arith) in
      ap (λ u. is_committed (given_status t.tx.first (set stored t.tx.next Begun) u)) same
      ∙ ap is_committed (given_changed t.tx.first stored t.tx.next Begun (λ e. omega (arith, e, shows.next.some)) within)
      ∙ begun_uncommitted (ltb t.tx.next t.tx.first)
      ∙ sym (ap (λ u. is_committed (given_status t.tx.first stored u)) same ∙ ap is_committed (given_unused t.tx.first stored t.tx.next unused))
  | inr apart ↦ ap is_committed (given_other t.tx.first stored t.tx.next u Begun apart)
]

-- ---- two sessions' transactions

module _ {layout : DiskLayout} {pages : PageMap} {t : TransactionsState} {s : DatabaseState} (shows : ShowsDatabase layout pages t s) (session other : ℕ) (o p : Open) (was : transaction_of t.opens session ≡ Some o) (was_p : transaction_of t.opens other ≡ Some p)
    (apart : other ≢ session) where
  pub differ : o.t ≢ p.t
  differ = ((whole shows).apart session other o p was was_p (λ e. apart (sym e))).differ

  pub unfinished : had_ended p.snapshot o.t ≡ false
  unfinished = ((whole shows).apart session other o p was was_p (λ e. apart (sym e))).unfinished

  pub end_unseen : (stored : List Status) (u : ℕ) (end : Status) → had_ended p.snapshot u ≡ true → is_committed (given_status t.tx.first (set stored o.t end) u) ≡ is_committed (given_status t.tx.first stored u)
  end_unseen stored u end ended = ap is_committed (given_other t.tx.first stored o.t u end (λ same. false≢true (sym unfinished ∙ ap (had_ended p.snapshot) (sym same) ∙ ended)))

  -- what this one did hasn't happened for the other
  not_done : (status : Status) → has_done p.snapshot p.t o.t status ≡ false
  not_done status =
      ap (λ b. b || (is_committed status && had_ended p.snapshot o.t)) (ne_eqb o.t p.t differ) ∙ ap (λ b. is_committed status && b) unfinished ∙ and-false (is_committed status)

  -- nor has what one did that holds nothing
  nothing_done : (stored : List Status) (u : ℕ) → HasStatuses layout pages stored → holds (given_status t.tx.first stored u) ≡ false → has_done p.snapshot p.t u (given_status t.tx.first stored u) ≡ false
  nothing_done stored u has quiet =
      let status = given_status t.tx.first stored u in
      let its = subst (λ (stored : List Status). IsOpenOne t stored p) (sym (one_list_shown shows stored has)) (open_one shows other p was_p) in
      let other_one : u ≢ p.t = λ same. true≢false (sym (ap (λ u. holds (given_status t.tx.first stored u)) same ∙ ap holds its.given) ∙ quiet) in
      ap (λ b. b || (is_committed status && had_ended p.snapshot u)) (ne_eqb u p.t other_one) ∙ ap (λ b. b && had_ended p.snapshot u) (unheld_uncommitted status quiet)

  own_done : (stored : List Status) (u : ℕ) → u ≡ o.t → has_done p.snapshot p.t u (given_status t.tx.first stored u) ≡ false
  own_done stored u same = ap (λ u. has_done p.snapshot p.t u (given_status t.tx.first stored u)) same ∙ not_done (given_status t.tx.first stored o.t)

  pub put_unseen : (stored : List Status) (row : StoredRow) → row.id.t ≡ o.t → sees_row t.tx.first stored p row ≡ false
  put_unseen stored row own = ap (λ b. b && not (has_done p.snapshot p.t row.deleter (given_status t.tx.first stored row.deleter))) (own_done stored row.id.t own)

  by_conflict : (stored : List Status) (row : StoredRow) (a b c : Bool) → HasStatuses layout pages stored → eqb row.id.t o.t ≡ a → eqb row.deleter o.t ≡ b → holds (given_status t.tx.first stored row.deleter) ≡ c → (not a && (not b && c)) ≡ false
      → sees_row t.tx.first stored p (marked row o.t) ≡ sees_row t.tx.first stored p row
  by_conflict stored row true b c has own gone held free = put_unseen stored (marked row o.t) (eqb-true row.id.t o.t own) ∙ sym (put_unseen stored row (eqb-true row.id.t o.t own))
  by_conflict stored row false true c has own gone held free =
      let put = has_done p.snapshot p.t row.id.t (given_status t.tx.first stored row.id.t) in
      ap (λ b. put && not b) (own_done stored o.t refl ∙ sym (own_done stored row.deleter (eqb-true row.deleter o.t gone)))
  by_conflict stored row false false true has own gone held free = absurd (true≢false free)
  by_conflict stored row false false false has own gone held free =
      let put = has_done p.snapshot p.t row.id.t (given_status t.tx.first stored row.id.t) in
      ap (λ b. put && not b) (own_done stored o.t refl ∙ sym (nothing_done stored row.deleter has held))

  pub mark_unseen : (stored : List Status) (row : StoredRow) → HasStatuses layout pages stored → conflicts_with t.tx.first stored o.t row ≡ false → sees_row t.tx.first stored p (marked row o.t) ≡ sees_row t.tx.first stored p row
  mark_unseen stored row has free = by_conflict stored row (eqb row.id.t o.t) (eqb row.deleter o.t) (holds (given_status t.tx.first stored row.deleter)) has refl refl refl free

  -- no delete of the row had happened for the other
  pub no_delete_done : (stored : List Status) (table : ℕ) (spot : Spot) (row : StoredRow) → HasStatuses layout pages stored → table < length layout.schema.tables → StandsAt layout pages table spot row → conflicts_with t.tx.first stored o.t row ≡ false
      → has_done p.snapshot p.t row.deleter (given_status t.tx.first stored row.deleter) ≡ false
  no_delete_done stored table spot row has below stands free = by_owner (eqb row.id.t o.t) (eqb row.deleter o.t) (holds (given_status t.tx.first stored row.deleter)) refl refl refl free
    where
      -- an own row is deleted by nobody or by its own transaction
      of_own_row : row.id.t ≡ o.t → row.deleter ≢ 0 → row.deleter ≡ o.t
      of_own_row own some =
          let known = (whole shows).known row.id (version_of table row) (row_stored shows table spot row below stands) in
          known.own (status_given t.tx shows.stored row.id.t shows.next ∙ ap (given_status t.tx.first shows.stored) own ∙ (open_one shows session o was).given) some ∙ own

      by_owner : (a b c : Bool) → eqb row.id.t o.t ≡ a → eqb row.deleter o.t ≡ b → holds (given_status t.tx.first stored row.deleter) ≡ c → (not a && (not b && c)) ≡ false → has_done p.snapshot p.t row.deleter (given_status t.tx.first stored row.deleter) ≡ false
      by_owner true b c own gone held free = elim (cases_eq row.deleter 0) [
        | inl none ↦ nothing_done stored row.deleter has (ap holds (given_none t.tx.first stored row.deleter none))
        | inr some ↦ own_done stored row.deleter (of_own_row (eqb-true row.id.t o.t own) some)
      ]
      by_owner false true c own gone held free = own_done stored row.deleter (eqb-true row.deleter o.t gone)
      by_owner false false true own gone held free = absurd (true≢false free)
      by_owner false false false own gone held free = nothing_done stored row.deleter has held
