-- what a scan remembers of transactions
use Rattle.std.proofs.Common.{◌≡◌, ◌≢◌, ℕ, ◌==◌, Bool, true, false, ◌||◌, ◌&&◌, List, eq-eqb, refl, sym, ap, ◌∙◌}
use Rattle.std.specs.Prelude.{Option, None, Some, if◌then◌else◌}
use Rattle.snapshot_core.specs.declared.snapshots.Snapshot.{Snapshot}
use Rattle.snapshot_core.specs.declared.statuses.Status.{Status}
use Rattle.snapshot_core.specs.declared.statuses.Status.TheVariants.{Unused}
use Rattle.snapshot_core.specs.Visibility.{had_ended, has_done, is_committed}
use Rattle.tx_table.specs.Statuses.{shown_status}
use Rattle.bitmap_scan.specs.Finds.{Sight, none_read, stands_by}
use Rattle.bitmap_scan.specs.LastStatuses.{Remembers, RemembersOne, StandsSo}
use Rattle.bitmap_scan.specs.SeenRows.{SeesLater}
use Rattle.bitmap_scan.specs.declared.sight.LastStatus.{LastStatus}
use Rattle.bitmap_scan.specs.declared.sight.LastStatuses.{LastStatuses}
use Rattle.bitmap_scan.proofs.Seen.{is_other}
use Rattle.bitmap_scan.proofs.VisibleRows.{sight_of}

module _ (old new : Sight) (later : SeesLater old new) where
  stands_one : (last : Option LastStatus) → RemembersOne old last → RemembersOne new last
  stands_one None none = none
  stands_one (Some last) one = record {
    ended = ap (λ (s : Snapshot). had_ended s last.number) later.snapshot ∙ one.ended;
    stands = one.stands ∙ sym (later.ended last.number one.ended);
  }

  pub stands_later : (last : LastStatuses) → Remembers old last → Remembers new last
  stands_later last remembers = record { put = stands_one last.put remembers.put; gone = stands_one last.gone remembers.gone }

pub none_remembered : (sight : Sight) → Remembers sight none_read
none_remembered sight = record { put = tt; gone = tt }

-- what one did that committed before the snapshot has happened, and what another did hasn't
by_commit : (own committed ended : Bool) → own ≡ false → ended ≡ true → (own || (committed && ended)) ≡ committed
by_commit true committed ended other is = absurd cc
by_commit false true ended other is = is
by_commit false false ended other is = refl

by_uncommitted : (own committed ended : Bool) → own ≡ false → committed ≡ false → (own || (committed && ended)) ≡ false
by_uncommitted true committed ended other none = other
by_uncommitted false true ended other none = absurd cc
by_uncommitted false false ended other none = refl

by_none : (own committed ended : Bool) → own ≡ false → ended ≡ false → (own || (committed && ended)) ≡ false
by_none true committed ended other is = other
by_none false true ended other is = is
by_none false false ended other is = refl

-- what it did itself has happened
pub done_own : (sight : Sight) (t : ℕ) → t ≡ sight.own → true ≡ has_done sight.snapshot sight.own t (sight.status t)
done_own sight t own = sym (ap (λ (b : Bool). b || (is_committed (sight.status t) && had_ended sight.snapshot t)) (eq-eqb t sight.own own))

module _ (sight : Sight) (t : ℕ) (apart : t ≢ sight.own) where
  other : (t == sight.own) ≡ false
  other = is_other t sight.own (t == sight.own) refl apart

  -- of one that had ended it tells whether it committed
  pub done_by_commit : (committed : Bool) → StandsSo sight (record { number = t; committed = committed }) → committed ≡ has_done sight.snapshot sight.own t (sight.status t)
  done_by_commit committed one = one.stands ∙ sym (by_commit (t == sight.own) (is_committed (sight.status t)) (had_ended sight.snapshot t) other one.ended)

  -- what one did that hadn't ended, or hasn't committed, hasn't happened
  pub done_by_none : had_ended sight.snapshot t ≡ false → false ≡ has_done sight.snapshot sight.own t (sight.status t)
  done_by_none since = sym (by_none (t == sight.own) (is_committed (sight.status t)) (had_ended sight.snapshot t) other since)

  done_by_uncommitted : is_committed (sight.status t) ≡ false → false ≡ has_done sight.snapshot sight.own t (sight.status t)
  done_by_uncommitted none = sym (by_uncommitted (t == sight.own) (is_committed (sight.status t)) (had_ended sight.snapshot t) other none)

-- by the statuses of the pages
module _ (snapshot : Snapshot) (own first : ℕ) (statuses : List Status) (t : ℕ) where
  abbrev standing : Bool → Status
  standing b = if b then Unused else shown_status first statuses t

  -- nobody has the number 0
  pub done_by_nobody : t ≡ 0 → t ≢ own → false ≡ has_done snapshot own t (stands_by first statuses t)
  done_by_nobody none apart = done_by_uncommitted (sight_of snapshot own first statuses) t apart (ap (λ (b : Bool). is_committed (standing b)) (eq-eqb t 0 none))

  -- a status that was read
  pub stands_read : (status : Status) (committed : Bool) → had_ended snapshot t ≡ true → t ≢ 0 → committed ≡ is_committed status → status ≡ shown_status first statuses t
      → StandsSo (sight_of snapshot own first statuses) (record { number = t; committed = committed })
  stands_read status committed ended some is shown = record {
    ended = ended;
    stands = is ∙ ap is_committed (shown ∙ sym (ap standing (is_other t 0 (t == 0) refl some)));
  }
