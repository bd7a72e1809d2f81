-- what an append tells of a log, from what the disk went through
use Rattle.std.proofs.Common.{◌≡◌, inl, inr, ℕ, ◌+◌, ◌≤◌, List, [], ◌∷◌, ◌++◌, length, take, drop, sym, ◌∙◌, ap, arith, length-append}
use Rattle.std.specs.Prelude.{IsTrue, slice_index}
use Rattle.std.proofs.lemmas.Bool.{cases_eq}
use Rattle.disk_trait.specs.Told.{Told}
use Rattle.disk_trait.specs.Torn.{Torn}
use Rattle.disk_trait.specs.TornLaws.{torn_same, torn_wider}
use Rattle.disk_trait.specs.Follows.{Follows}
use Rattle.disk_trait.specs.Throughout.{Throughout}
use Rattle.disk_trait.specs.ThroughoutLaws.{started, weaker}
use Rattle.log_area.specs.Frames.{LogFrame, FitsFields, frame_bytes}
use Rattle.log_area.specs.Log.{Log, Stands, SameBeside, ComesBy, areas_end, gate_of}
use Rattle.log_area.specs.Published.{StandsBehind, Published, PublishedOrTorn, closed_frame}
use Rattle.log_area.specs.Appended.{Appended, KeptOrAppended, grown}
use Rattle.log_area.proofs.Rows.{length-frame_bytes}
use Rattle.log_area.proofs.Standing.{Standing, IsInside, standing_of, stands_of, kept, torn_behind, opened, area_low, area_high, beside_torn, beside_same}

pub width : (f : LogFrame) → length (closed_frame f) ≡ length f.changes + 7
width f = omega (arith, length-append (frame_bytes f) (0 ∷ []), length-frame_bytes f)

-- nothing was done
pub same : (log : Log) (f : LogFrame) (c : List ℕ) → KeptOrAppended log f c c
same log f c = record { within = torn_same (gate_of log) (7 + length f.changes + 1) c; beside = beside_same log.room c; stands = λ fs s. inl s }

pub all_same : (log : Log) (f : LogFrame) (old : Told) → ((c : List ℕ) → IsTrue (old.since old.moment c) → IsTrue (old.now c)) → Throughout old old (ComesBy (KeptOrAppended log f) old)
all_same log f old only = started old (ComesBy (KeptOrAppended log f) old) (λ c since. (c, only c since, same log f c))

module _ (log : Log) (f : LogFrame) (fits : FitsFields f) (room : log.used + 8 + length f.changes ≤ log.room) where
  reach : gate_of log + 8 + length f.changes ≤ areas_end log.room
  reach = omega (arith, area_high log, room)

  still_inside : (d c : List ℕ) → length c ≡ length d → IsInside log d → IsInside log c
  still_inside d c long inside = record { room = inside.room; gate = omega (arith, long, inside.gate) }

  grown_stands : (fs : List LogFrame) (d c : List ℕ) → areas_end log.room ≤ length d → StandsBehind (gate_of log) (closed_frame f) d c → slice_index c (gate_of log) ≡ 1 → Standing log fs d → Stands (grown log f) (fs ++ f ∷ []) c
  grown_stands fs d c long b one s =
      stands_of (grown log f) (fs ++ f ∷ []) c
      (opened log fs f d c (omega (arith, reach, long, b.torn.length)) fits b.torn.before one (ap (λ (k : ℕ). take k (drop (gate_of log + 1) c)) (sym (width f)) ∙ b.bytes_stand) s)
      (record { room = omega (arith, room); gate = omega (arith, reach, long, b.torn.length) })

  beside_behind : (d c : List ℕ) → StandsBehind (gate_of log) (closed_frame f) d c → SameBeside log.room d c
  beside_behind d c b = beside_torn log.room (gate_of log) (1 + length (closed_frame f)) d c (omega (arith, area_low log)) (omega (arith, reach, width f)) b.torn

  within_behind : (d c : List ℕ) → StandsBehind (gate_of log) (closed_frame f) d c → Torn (gate_of log) (7 + length f.changes + 1) d c
  within_behind d c b = torn_wider (gate_of log) (1 + length (closed_frame f)) (gate_of log) (7 + length f.changes + 1) d c (omega arith) (omega (arith, width f)) b.torn

  pub has_appended : (d c : List ℕ) → areas_end log.room ≤ length d → Published (gate_of log) (closed_frame f) d c → Appended log f d c
  has_appended d c long p = record {
    within = within_behind d c p.behind;
    beside = beside_behind d c p.behind;
    stands = λ fs s. grown_stands fs d c long p.behind p.opened (standing_of log fs d s).0;
  }

  pub may_have_appended : (d c : List ℕ) → areas_end log.room ≤ length d → PublishedOrTorn (gate_of log) (closed_frame f) d c → KeptOrAppended log f d c
  may_have_appended d c long (inl torn) = record {
    within = torn_wider (gate_of log + 1) (length (closed_frame f)) (gate_of log) (7 + length f.changes + 1) d c (omega arith) (omega (arith, width f)) torn;
    beside = beside_torn log.room (gate_of log + 1) (length (closed_frame f)) d c (omega (arith, area_low log)) (omega (arith, reach, width f)) torn;
    stands = λ fs s.
        let known = standing_of log fs d s in
        inl (stands_of log fs c (torn_behind log fs (length (closed_frame f)) d c torn known.0) (still_inside d c torn.length known.1));
  }
  may_have_appended d c long (inr b) = record {
    within = within_behind d c b;
    beside = beside_behind d c b;
    stands = λ fs s.
        let known = standing_of log fs d s in
        elim (cases_eq (slice_index c (gate_of log)) 1) [
          | inl one ↦ inr (grown_stands fs d c long b one known.0)
          | inr shut ↦ inl (stands_of log fs c (kept log fs d c b.torn.before shut known.0) (still_inside d c b.torn.length known.1))
        ];
  }

  pub all_kept_or_appended : (old new : Told) → areas_end log.room ≤ old.size → ((c : List ℕ) → IsTrue (old.now c) → length c ≡ old.size)
      → Throughout old new (ComesBy (PublishedOrTorn (gate_of log) (closed_frame f)) old) → Throughout old new (ComesBy (KeptOrAppended log f) old)
  all_kept_or_appended old new size fit all =
      weaker old new (ComesBy (PublishedOrTorn (gate_of log) (closed_frame f)) old) (ComesBy (KeptOrAppended log f) old) all
      (λ (c : List ℕ) (from : ComesBy (PublishedOrTorn (gate_of log) (closed_frame f)) old c). (from.0, from.1, may_have_appended from.0 c (omega (arith, size, fit from.0 from.1)) from.2))

  pub now_appended : (old new : Told) → areas_end log.room ≤ old.size → ((c : List ℕ) → IsTrue (old.now c) → length c ≡ old.size)
      → Follows (Published (gate_of log) (closed_frame f)) old new → Follows (Appended log f) old new
  now_appended old new size fit all = λ c now.
      let from = all c now in
      (from.0, from.1, has_appended from.0 c (omega (arith, size, fit from.0 from.1)) from.2)
