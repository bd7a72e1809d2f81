-- what a transaction sees, later on
use Rattle.std.proofs.Common.{◌≡◌, ◌≢◌, inl, inr, ℕ, ◌==◌, Bool, true, false, ◌&&◌, ◌||◌, refl, sym, ap, ◌∙◌}
use Rattle.std.specs.Prelude.{not}
use Rattle.std.proofs.lemmas.Bool.{eqb-true}
use Rattle.block_model.specs.declared.row.RowId.{RowId}
use Rattle.page_layout.specs.RowBytes.{StoredRow}
use Rattle.snapshot_core.specs.declared.snapshots.Snapshot.{Snapshot}
use Rattle.snapshot_core.specs.declared.statuses.Status.{Status}
use Rattle.snapshot_core.specs.Visibility.{had_ended, has_done, is_committed}
use Rattle.bitmap_scan.specs.Finds.{Sight, sees_stored}
use Rattle.bitmap_scan.specs.SeenRows.{IsOthersSince, SeesLater, StaysInSlot}

-- what has happened by a transaction's end before the snapshot
by_end : (own before now ended : Bool) → (ended ≡ true → now ≡ before) → (own || (now && ended)) ≡ (own || (before && ended))
by_end true before now ended same = refl
by_end false true true false same = refl
by_end false true false false same = refl
by_end false false true false same = refl
by_end false false false false same = refl
by_end false before now true same = ap (λ (b : Bool). b && true) (same refl)

not_yet : (own committed ended : Bool) → own ≡ false → ended ≡ false → (own || (committed && ended)) ≡ false
not_yet true committed ended other since = other
not_yet false true ended other since = since
not_yet false false ended other since = refl

pub is_other : (t own : ℕ) (b : Bool) → (t == own) ≡ b → t ≢ own → (t == own) ≡ false
is_other t own true is apart = absurd (apart (eqb-true t own is))
is_other t own false is apart = is

pub others_since : (sight : Sight) (t : ℕ) (status : Status) → IsOthersSince sight t → has_done sight.snapshot sight.own t status ≡ false
others_since sight t status since = not_yet (t == sight.own) (is_committed status) (had_ended sight.snapshot t) (is_other t sight.own (t == sight.own) refl since.other) since.since

module _ (old new : Sight) (later : SeesLater old new) where
  -- what a transaction did has happened later where it had happened
  stays_done : (t : ℕ) → has_done new.snapshot new.own t (new.status t) ≡ has_done old.snapshot old.own t (old.status t)
  stays_done t =
      ap (λ (s : Snapshot). has_done s new.own t (new.status t)) later.snapshot
      ∙ ap (λ (n : ℕ). has_done old.snapshot n t (new.status t)) later.own
      ∙ by_end (t == old.own) (is_committed (old.status t)) (is_committed (new.status t)) (had_ended old.snapshot t) (later.ended t)

  since_later : (t : ℕ) → IsOthersSince old t → IsOthersSince new t
  since_later t since = record {
    other = λ is. since.other (is ∙ later.own);
    since = ap (λ (s : Snapshot). had_ended s t) later.snapshot ∙ since.since;
  }

  deleter_stays : (row now : StoredRow) → StaysInSlot old row now → has_done new.snapshot new.own now.deleter (new.status now.deleter) ≡ has_done old.snapshot old.own row.deleter (old.status row.deleter)
  deleter_stays row now stays = elim stays.deleter [
    | inl same ↦ ap (λ (d : ℕ). has_done new.snapshot new.own d (new.status d)) same ∙ stays_done row.deleter
    | inr deleted ↦ others_since new now.deleter (new.status now.deleter) (since_later now.deleter deleted.1) ∙ sym deleted.0
  ]

  pub stays_seen : (row now : StoredRow) → StaysInSlot old row now → sees_stored new now ≡ sees_stored old row
  stays_seen row now stays =
      ap (λ (d : Bool). has_done new.snapshot new.own now.id.t (new.status now.id.t) && not d) (deleter_stays row now stays)
      ∙ ap (λ (p : Bool). p && not (has_done old.snapshot old.own row.deleter (old.status row.deleter)))
      (ap (λ (id : RowId). has_done new.snapshot new.own id.t (new.status id.t)) stays.id ∙ stays_done row.id.t)

-- a row of another transaction that hadn't ended isn't seen
pub since_unseen : (sight : Sight) (row : StoredRow) → IsOthersSince sight row.id.t → sees_stored sight row ≡ false
since_unseen sight row since =
    ap (λ (p : Bool). p && not (has_done sight.snapshot sight.own row.deleter (sight.status row.deleter))) (others_since sight row.id.t (sight.status row.id.t) since)
