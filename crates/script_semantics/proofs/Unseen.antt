-- nobody sees a dead row
use Rattle.std.proofs.Common.{◌≡◌, ℕ, ◌≤◌, Bool, true, false, not, ◌&&◌, ◌||◌, inl, inr, List, [], ◌++◌, refl, sym, ap, subst, ◌∙◌, Some, arith, ne_eqb}
use Rattle.std.specs.FinMap.{get, contains_key}
use Rattle.std.specs.FinSet as set
use Rattle.std.proofs.lemmas.Bool.{true≢false, false_from_ne_true}
use Rattle.std.proofs.lemmas.List.{append-nil}
use Rattle.block_model.specs.declared.row.RowId.{RowId}
use Rattle.block_model.specs.declared.request.Entry.{Entry}
use Rattle.block_model.specs.TableState.{TableState}
use Rattle.block_model.specs.DatabaseState.{OpenTransaction}
use Rattle.block_model.specs.RequestEffect.{is_own}
use Rattle.block_model.specs.SerialRun.{serial_run, IsLegal}
use Rattle.script_semantics.specs.Place.{Place, database_at}
use Rattle.script_semantics.specs.DeadRows.{IsCommitted, IsDead, RolledBack, Deleted}
use Rattle.script_semantics.specs.Openings.{NoneOpen, RowsAreEarlier}
use Rattle.script_semantics.specs.Views.{view_front}
use Rattle.script_semantics.specs.Copies.{IsCopyOf}
use Rattle.script_semantics.specs.GoneRows.{IsGone}
use Rattle.script_semantics.specs.UnseenRows.{IsUnseen, DeadRowsAreUnseen}
use Rattle.script_semantics.proofs.Fronts.{view_behind, view_splits}
use Rattle.script_semantics.proofs.Commits.{CommittedIn, committed_on, to_place, rows_of_commits}
use Rattle.script_semantics.proofs.Copies.{copy_of_front}
use Rattle.script_semantics.proofs.Oldest.{gone_on}

-- a copy of a table that lacks the row lacks it
lacks_both : (v own m : Bool) → own ≡ false → false ≡ ((v && not own) || m) → (v ≡ false) × (m ≡ false)
lacks_both v true m other is = absurd (true≢false other)
lacks_both true false m other is = absurd (true≢false (sym is))
lacks_both false false m other is = (refl, sym is)

copy_lacks : (table : TableState) (x : OpenTransaction) (id : RowId) → IsCopyOf table x → contains_key table id ≡ false → is_own x id ≡ false → (contains_key x.view id ≡ false) × (set.contains x.marks id ≡ false)
copy_lacks table x id copy absent other = lacks_both (contains_key x.view id) (is_own x id) (set.contains x.marks id) other (sym absent ∙ copy id)

module _ (p : Place) (none : NoneOpen p.opening) (earlier : RowsAreEarlier p.opening) (legal : IsLegal p.opening p.journal) (id : RowId) where
  -- a row that has ended and that the table lacks now, and where each open transaction took its view, is unseen
  unseen_by : IsGone (database_at p) id → ((n : ℕ) (x : OpenTransaction) → get (database_at p).sessions n ≡ Some x → contains_key (serial_run p.opening (view_front n p.journal)).table id ≡ false)
      → IsUnseen (database_at p) id
  unseen_by gone fronts =
      let lacks = λ (n : ℕ) (x : OpenTransaction) (found : get (database_at p).sessions n ≡ Some x).
      copy_lacks (serial_run p.opening (view_front n p.journal)).table x id (copy_of_front p.opening p.journal none earlier legal n x found) (fronts n x found)
      (ne_eqb id.t x.t (λ same. gone.ended.1 (n, x, found, sym same))) in
      record { table = gone.absent; copies = λ n x found. (lacks n x found).0; marks = λ n x found. (lacks n x found).1 }

  -- the row of a transaction that was rolled back was never in the table
  never : p.opening.next ≤ id.t → (IsCommitted p id.t → ⊥) → (before more : List Entry) → before ++ more ≡ p.journal → contains_key (serial_run p.opening before).table id ≡ false
  never since uncommitted before more split = false_from_ne_true (contains_key (serial_run p.opening before).table id) (λ there. elim (rows_of_commits p.opening before id there) [
    | inl first ↦ let low = earlier id first in omega (arith, low, since)
    | inr c ↦ uncommitted (to_place p id.t (subst (λ (l : List Entry). CommittedIn p.opening l id.t) split (committed_on p.opening before more id.t c)))
  ])

  dead_unseen : IsDead p id → IsUnseen (database_at p) id
  dead_unseen (RolledBack since ended uncommitted) = unseen_by (record { ended = ended; absent = never since uncommitted p.journal [] (append-nil p.journal) }) (λ n x found.
      let rest = view_splits n p.journal in never since uncommitted (view_front n p.journal) rest.0 rest.1)
  dead_unseen (Deleted before behind split ended absent all) =
      let gone : IsGone (serial_run p.opening before) id = record { ended = ended; absent = absent } in
      unseen_by (gone_on p.opening before behind p.journal id split gone) (λ n x found.
      (gone_on p.opening before (view_front n behind) (view_front n p.journal) id (sym (view_behind n before behind (all n x found)) ∙ ap (view_front n) split) gone).absent)

pub dead_rows_are_unseen : DeadRowsAreUnseen
dead_rows_are_unseen p none earlier legal id dead = dead_unseen p none earlier legal id dead
