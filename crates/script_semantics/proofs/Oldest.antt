-- where the oldest view was taken of open transactions, and the rows that are dead by that front
use Rattle.std.proofs.Common.{◌≡◌, true, false, ◌⊎◌, inl, inr, List, [], ◌∷◌, ◌++◌, refl, sym, ap, subst, ◌∙◌, Some, None, append_assoc, if◌then◌else◌}
use Rattle.std.specs.List.{list_any}
use Rattle.std.specs.FinMap.{get}
use Rattle.std.proofs.lemmas.Bool.{false≢true, or_cases}
use Rattle.std.proofs.lemmas.List.{append-nil}
use Rattle.block_model.specs.declared.row.RowId.{RowId}
use Rattle.block_model.specs.declared.request.Entry.{Entry}
use Rattle.block_model.specs.DatabaseState.{DatabaseState, OpenTransaction}
use Rattle.block_model.specs.SerialRun.{serial_run, serial_run-append}
use Rattle.block_model.specs.NumberMaps.{none_Some}
use Rattle.script_semantics.specs.Place.{Place, database_at}
use Rattle.script_semantics.specs.DeadRows.{IsDead, RolledBack, Deleted}
use Rattle.script_semantics.specs.GoneRows.{IsGone}
use Rattle.script_semantics.specs.OldestFront.{IsOldestFront, Whole, OfOldest, OldestFrontStands, IsRolledBack, DeadByOldestFront}
use Rattle.script_semantics.specs.Views.{AllTook, Took, takes_view, view_front}
use Rattle.script_semantics.proofs.Numbers.{run_gone}
use Rattle.script_semantics.proofs.Fronts.{all_took, takes_own, view_behind}

-- ---- the oldest view

module _ (o : DatabaseState) (journal : List Entry) where
  abbrev now : DatabaseState
  now = serial_run o journal

  -- all took theirs behind a request, if the request's own session did
  took_later : (e : Entry) (entries : List Entry) → AllTook now (e ∷ entries) → ((x : OpenTransaction) → get now.sessions e.session ≡ Some x → Took e.session entries) → AllTook now entries
  took_later e entries all own n x found = elim (or_cases (takes_view n e) (list_any (takes_view n) entries) (all n x found)) [
    | inl here ↦ let same = takes_own n e here in subst (λ m. Took m entries) (sym same) (own x (ap (get now.sessions) (sym same) ∙ found))
    | inr later ↦ later
  ]

  from_front : (before behind : List Entry) → before ++ behind ≡ journal → AllTook now behind → (front : List Entry) × IsOldestFront o journal front
  from_front before [] split all = (journal, Whole (λ t under_way. false≢true (all under_way.0 under_way.1 under_way.2)) refl)
  from_front before (e ∷ entries) split all =
      let on : AllTook now entries → (front : List Entry) × IsOldestFront o journal front = from_front (before ++ e ∷ []) entries (append_assoc before (e ∷ []) entries ∙ split) in
      elim (get now.sessions e.session) as (λ found. get now.sessions e.session ≡ found → (front : List Entry) × IsOldestFront o journal front) [
        | None ↦ λ idle. on (took_later e entries all (λ x found. absurd (none_Some x (sym idle ∙ found))))
        | Some x ↦ λ found. elim (list_any (takes_view e.session) entries) as (λ later. list_any (takes_view e.session) entries ≡ later → (front : List Entry) × IsOldestFront o journal front) [
          | true ↦ λ later. on (took_later e entries all (λ _ _. later))
          | false ↦ λ last. (
            before,
            OfOldest e.session x found (sym (ap (view_front e.session) (sym split) ∙ view_behind e.session before (e ∷ entries) (all e.session x found)
                ∙ ap (λ b. before ++ (if b then e ∷ view_front e.session entries else [])) last ∙ append-nil before)) (e ∷ entries) split all,
          )
        ] refl
      ] refl

pub oldest_front_stands : OldestFrontStands
oldest_front_stands o journal none = from_front o journal [] journal refl (all_took o journal none)

-- ---- what is dead

-- what is gone at a front is gone where it goes on to
pub gone_on : (o : DatabaseState) (before more later : List Entry) (id : RowId) → before ++ more ≡ later → IsGone (serial_run o before) id → IsGone (serial_run o later) id
gone_on o before more later id is gone = subst (λ (s : DatabaseState). IsGone s id) (sym (serial_run-append o before more) ∙ ap (serial_run o) is) (run_gone (serial_run o before) more id gone)

module _ (p : Place) (id : RowId) where
  deleted_is_gone : (at : List Entry) → IsOldestFront p.opening p.journal at → (before behind : List Entry) → before ++ behind ≡ p.journal → IsGone (serial_run p.opening before) id
      → AllTook (database_at p) behind → IsGone (serial_run p.opening at) id
  deleted_is_gone at (Whole none is) before behind split gone all = gone_on p.opening before behind at id (split ∙ sym is) gone
  deleted_is_gone at (OfOldest n x found is _ _ _) before behind split gone all =
      gone_on p.opening before (view_front n behind) at id (sym (view_behind n before behind (all n x found)) ∙ ap (view_front n) split ∙ sym is) gone

  dead_is_told : (at : List Entry) → IsOldestFront p.opening p.journal at → IsDead p id → IsRolledBack p id.t ⊎ IsGone (serial_run p.opening at) id
  dead_is_told at front (RolledBack since ended uncommitted) = inl (record { since = since; ended = ended; uncommitted = uncommitted })
  dead_is_told at front (Deleted before behind split ended absent all) = inr (deleted_is_gone at front before behind split (record { ended = ended; absent = absent }) all)

  gone_is_dead : (at : List Entry) → IsOldestFront p.opening p.journal at → IsGone (serial_run p.opening at) id → IsDead p id
  gone_is_dead at (Whole none is) gone = Deleted at [] (append-nil at ∙ is) gone.ended gone.absent (λ n x found. absurd (none x.t (n, x, found, refl)))
  gone_is_dead at (OfOldest n x found is behind split all) gone = Deleted at behind split gone.ended gone.absent all

  told_is_dead : (at : List Entry) → IsOldestFront p.opening p.journal at → IsRolledBack p id.t ⊎ IsGone (serial_run p.opening at) id → IsDead p id
  told_is_dead at front (inl rolled) = RolledBack rolled.since rolled.ended rolled.uncommitted
  told_is_dead at front (inr gone) = gone_is_dead at front gone

pub dead_by_oldest_front : DeadByOldestFront
dead_by_oldest_front p before front id = (dead_is_told p id before front, told_is_dead p id before front)
