-- nobody wants a row that is dead to all
use Rattle.std.proofs.Common.{◌≡◌, ◌≢◌, ◌⊎◌, inl, inr, ℕ, true, false, List, None, Some, refl, sym, ap, subst, ◌∙◌}
use Rattle.std.specs.Prelude.{IsTrue, not, ◌==◌}
use Rattle.std.specs.List.{list_all}
use Rattle.std.proofs.lemmas.Bool.{and_left, and_parts, eqb-true, false≢true, not_from_true, or_cases, or_from, or_right}
use Rattle.std.proofs.lemmas.List.Sums.{AllPass-from_list_all}
use Rattle.block_model.specs.declared.place.Spot.{Spot}
use Rattle.page_layout.specs.PageContents.{Slot}
use Rattle.page_layout.specs.RowBytes.{StoredRow}
use Rattle.heap_rows.specs.RowPlaces.{slot_at}
use Rattle.snapshot_core.specs.Dead.{is_deleted_for_all, is_rolled_back}
use Rattle.snapshot_core.specs.Visibility.{had_ended, has_done, in_snapshot, is_committed}
use Rattle.snapshot_core.specs.declared.snapshots.Snapshot.{Snapshot}
use Rattle.snapshot_core.specs.declared.statuses.Status.{Status}
use Rattle.snapshot_core.specs.declared.statuses.Status.TheVariants.{Begun, Committed, RolledBack, Unused}
use Rattle.coverage.specs.Machines.{Unseen}
use Rattle.coverage.specs.TableSteps.{HasPut, SeesPlace}
use Rattle.index_steps.specs.ShownRows.{row_in, rows_in}
use Rattle.vacuum_core.specs.DeadRows.{DropsTheDead, Living, is_dead}
use Rattle.vacuum_core.specs.SparedRows.{AreWatched, IsPutLive, IsSeenLive}
use Rattle.vacuum_core.specs.TableSteps.{has_gone}

rolled_back : (status : Status) → is_rolled_back status ≡ true → status ≡ RolledBack
rolled_back Unused is = absurd (false≢true is)
rolled_back Begun is = absurd (false≢true is)
rolled_back Committed is = absurd (false≢true is)
rolled_back RolledBack is = refl

not_rolled_back : (status : Status) → status ≢ RolledBack → is_rolled_back status ≡ false
not_rolled_back Unused other = refl
not_rolled_back Begun other = refl
not_rolled_back Committed other = refl
not_rolled_back RolledBack other = absurd (other refl)

not_committed : (status : Status) → status ≢ Committed → is_committed status ≡ false
not_committed Unused other = refl
not_committed Begun other = refl
not_committed Committed other = absurd (other refl)
not_committed RolledBack other = refl

put_lives : (by : Living) (row : StoredRow) → IsPutLive by row → is_dead by row ≡ false
put_lives by row lives =
    or_from (is_rolled_back (by.status row.id.t)) (is_deleted_for_all by.live row.deleter (by.status row.deleter)) (not_rolled_back (by.status row.id.t) lives.0)
    (and_left (is_committed (by.status row.deleter)) (list_all (λ s. in_snapshot s row.deleter (by.status row.deleter)) by.live) (not_committed (by.status row.deleter) lives.1))

module _ (by : Living) (row : StoredRow) (live : IsSeenLive by row) where
  abbrev put : Status
  put = by.status row.id.t

  abbrev gone : Status
  gone = by.status row.deleter

  parts : (has_done live.snapshot live.own row.id.t put ≡ true) × (not (has_done live.snapshot live.own row.deleter gone) ≡ true)
  parts = and_parts (has_done live.snapshot live.own row.id.t put) (not (has_done live.snapshot live.own row.deleter gone)) live.seen

  not_by_rollback : put ≡ RolledBack → ⊥
  not_by_rollback is = elim (or_cases (row.id.t == live.own) (in_snapshot live.snapshot row.id.t put) parts.0) [
    | inl own ↦ live.alive (eqb-true row.id.t live.own own) is
    | inr within ↦ false≢true (sym (ap is_committed is) ∙ (and_parts (is_committed put) (had_ended live.snapshot row.id.t) within).0)
  ]

  not_by_delete : is_deleted_for_all by.live row.deleter gone ≡ true → ⊥
  not_by_delete is =
      let all = AllPass-from_list_all (λ (s : Snapshot). in_snapshot s row.deleter gone) by.live (and_parts (is_committed gone) (list_all (λ s. in_snapshot s row.deleter gone) by.live) is).1 in
      let within : in_snapshot live.snapshot row.deleter gone ≡ true = subst (λ (s : Snapshot). in_snapshot s row.deleter gone ≡ true) live.live.2 (all live.live.0 live.snapshot live.live.1) in
      false≢true (sym (not_from_true (has_done live.snapshot live.own row.deleter gone) (or_right (row.deleter == live.own) (in_snapshot live.snapshot row.deleter gone) within)) ∙ parts.1)

  seen_lives : is_dead by row ≡ true → ⊥
  seen_lives dead = elim (or_cases (is_rolled_back put) (is_deleted_for_all by.live row.deleter gone) dead) [
    | inl rolled ↦ not_by_rollback (rolled_back put rolled)
    | inr deleted ↦ not_by_delete deleted
  ]

module _ (by : Living) (s table block : ℕ) (blocks blocked : List (List Slot)) (u : Unseen) (drops : DropsTheDead by blocks blocked block) (watched : AreWatched by s blocks u) (n b k : ℕ) (other : n ≢ s) where
  abbrev x : Spot
  x = record { block = b; slot = k }

  nobody_wants : (row : StoredRow) → slot_at blocks x ≡ Some row → is_dead by row ≡ true → HasPut b k (u.task n) ⊎ SeesPlace b k (u.task n) → ⊥
  nobody_wants row there dead wants = elim wants [
    | inl put ↦ false≢true (sym (put_lives by row (watched.put n x row other there put)) ∙ dead)
    | inr seen ↦ seen_lives by row (watched.seen n x row other there seen) dead
  ]

  by_slots : (before after : Slot) → slot_at blocks x ≡ before → slot_at blocked x ≡ after → IsTrue (has_gone (row_in table before) (row_in table after)) → HasPut b k (u.task n) ⊎ SeesPlace b k (u.task n) → ⊥
  by_slots None after was is has wants = false≢true has
  by_slots (Some row) (Some now) was is has wants = false≢true has
  by_slots (Some row) None was is has wants = nobody_wants row was (drops.gone x row was is).1 wants

  pub is_spared : IsTrue (has_gone (rows_in table blocks b k) (rows_in table blocked b k)) → HasPut b k (u.task n) ⊎ SeesPlace b k (u.task n) → ⊥
  is_spared gone wants = by_slots (slot_at blocks x) (slot_at blocked x) refl refl gone wants
