-- what a switch tells of a log, from what the disk went through
use Rattle.std.proofs.Common.{◌≡◌, ◌⊎◌, inl, inr, ℕ, ◌+◌, ◌-◌, ◌*◌, ◌%◌, ◌≤◌, List, [], ◌∷◌, length, take, drop, get_or, refl, sym, ◌∙◌, ap, arith}
use Rattle.std.specs.Prelude.{IsTrue, slice_index}
use Rattle.std.proofs.lemmas.Bool.{cases_eq}
use Rattle.std.proofs.lemmas.List.{get_or-drop, drop-drop}
use Rattle.disk_trait.specs.Told.{Told}
use Rattle.disk_trait.specs.Torn.{Torn}
use Rattle.disk_trait.specs.TornImage.{IsTornImage}
use Rattle.disk_trait.specs.Follows.{Follows}
use Rattle.disk_trait.specs.Throughout.{Throughout}
use Rattle.disk_trait.specs.ThroughoutLaws.{joined, weaker}
use Rattle.disk_trait.specs.IsStable.{IsStable}
use Rattle.disk_trait.specs.Spliced.{spliced}
use Rattle.disk_trait.specs.RangeLaws.{AreApart, torn_apart}
use Rattle.log_area.specs.Frames.{LogFrame}
use Rattle.log_area.specs.Log.{Log, Stands, SameBeside, ComesBy, area_start, areas_end}
use Rattle.log_area.specs.Kept.{IsLog}
use Rattle.log_area.specs.Switched.{Switched, KeptOrSwitched, switched}
use Rattle.log_area.proofs.Publishing.{Lawful, spliced_byte}
use Rattle.log_area.proofs.Standing.{standing_of, stands_of, same_at, same_less, area_low, area_high, beside_torn, beside_all}

-- the same side, and the same bytes in the used part with its gate
kept_in : (log : Log) (fs : List LogFrame) (d c : List ℕ) → slice_index c 1 % 2 ≡ log.byte % 2
    → take (log.used + 1) (drop (area_start log.room log.byte) c) ≡ take (log.used + 1) (drop (area_start log.room log.byte) d) → length c ≡ length d → Stands log fs d → Stands log fs c
kept_in log fs d c side same long s =
    let at = area_start log.room log.byte in
    let known = standing_of log fs d s in
    stands_of log fs c
    (record {
      side = side;
      row = same_less (log.used + 1) log.used (drop at c) (drop at d) (omega arith) same ∙ known.0.row;
      closed = λ is. known.0.closed (sym (get_or-drop at d log.used 0) ∙ sym (same_at (log.used + 1) (drop at c) (drop at d) log.used (omega arith) same) ∙ get_or-drop at c log.used 0 ∙ is);
      used = s.used;
      fields = known.0.fields;
    })
    (record { room = known.1.room; gate = omega (arith, long, known.1.gate) })

module _ (log : Log) (is : IsLog log) where
  -- the first gate of the other area
  abbrev pub other : ℕ
  other = area_start log.room ((log.byte + 1) % 256)

  pub other_low : 8192 ≤ other
  other_low = area_low (switched log)

  pub other_high : other + 1 ≤ areas_end log.room
  other_high = omega (arith, area_high (switched log), is.closed)

  -- it isn't in the used part
  apart : AreApart (area_start log.room log.byte) (log.used + 1) other 1
  unfolding area_start
  apart = elim (cases_eq (log.byte % 2) 0) [
    | inl even ↦
        let one : ((log.byte + 1) % 256) % 2 ≡ 1 = omega (arith, is.byte, even) in
        let a : log.room * (log.byte % 2) ≡ log.room * 0 = ap (λ (k : ℕ). log.room * k) even in
        let b : log.room * (((log.byte + 1) % 256) % 2) ≡ log.room * 1 = ap (λ (k : ℕ). log.room * k) one in
        inl (omega (arith, is.closed, a, b))
    | inr odd ↦
        let one : log.byte % 2 ≡ 1 = omega (arith, odd) in
        let none : ((log.byte + 1) % 256) % 2 ≡ 0 = omega (arith, is.byte, one) in
        let a : log.room * (log.byte % 2) ≡ log.room * 1 = ap (λ (k : ℕ). log.room * k) one in
        let b : log.room * (((log.byte + 1) % 256) % 2) ≡ log.room * 0 = ap (λ (k : ℕ). log.room * k) none in
        inr (omega (arith, is.closed, a, b))
  ]

  -- that gate is torn
  gate_torn : (fs : List LogFrame) (d e : List ℕ) → Torn other 1 d e → Stands log fs d → Stands log fs e
  gate_torn fs d e torn s =
      kept_in log fs d e (ap (λ (b : ℕ). b % 2) (same_at other e d 1 (omega (arith, other_low)) torn.before) ∙ s.side)
      (torn_apart (area_start log.room log.byte) (log.used + 1) other 1 d e apart torn) torn.length s

  pub gate_written : (d e : List ℕ) → Torn other 1 d e → KeptOrSwitched log d e
  gate_written d e torn = record {
    beside = beside_torn log.room other 1 d e other_low other_high torn;
    stands = λ fs s. inl (gate_torn fs d e torn s);
  }

  beside_byte : (e c : List ℕ) → Torn 1 1 e c → SameBeside log.room e c
  beside_byte e c torn = record {
    length = torn.length;
    gate = torn.before;
    control = ap (take (8192 - 2)) torn.after;
    pages = rest;
  }
    where
      rest : drop (areas_end log.room) c ≡ drop (areas_end log.room) e
      rest =
          ap (λ (k : ℕ). drop k c) (omega arith) ∙ sym (drop-drop (areas_end log.room - 2) 2 c) ∙ ap (drop (areas_end log.room - 2)) torn.after
          ∙ drop-drop (areas_end log.room - 2) 2 e ∙ ap (λ (k : ℕ). drop k e) (omega arith)

  behind_same : (e c : List ℕ) (k : ℕ) → 2 ≤ k → Torn 1 1 e c → slice_index c k ≡ slice_index e k
  behind_same e c k low torn =
      ap (λ (n : ℕ). get_or c n 0) (omega (arith, low)) ∙ sym (get_or-drop 2 c (k - 2) 0) ∙ ap (λ (l : List ℕ). get_or l (k - 2) 0) torn.after ∙ get_or-drop 2 e (k - 2) 0 ∙ ap (λ (n : ℕ). get_or e n 0) (omega (arith, low))

  chosen_now : (c : List ℕ) → areas_end log.room ≤ length c → slice_index c 1 % 2 ≡ (log.byte + 1) % 256 % 2 → slice_index c other ≡ 0 → Stands (switched log) [] c
  chosen_now c long side shut =
      stands_of (switched log) [] c
      (record {
        side = side;
        row = refl;
        closed = λ one. absurd (omega (arith, sym (ap (λ (k : ℕ). get_or c k 0) (omega arith) ∙ shut) ∙ one));
        used = refl;
        fields = tt;
      })
      (record { room = omega (arith, is.closed); gate = omega (arith, other_high, long) })

  -- with that gate closed, any area byte chooses the one or the other
  byte_torn : (fs : List LogFrame) (e c : List ℕ) → areas_end log.room ≤ length e → slice_index e other ≡ 0 → Torn 1 1 e c → Stands log fs e → Stands log fs c ⊎ Stands (switched log) [] c
  byte_torn fs e c long shut torn s = elim (cases_eq (slice_index c 1 % 2) (log.byte % 2)) [
    | inl same ↦ inl (kept_in log fs e c same (torn_apart (area_start log.room log.byte) (log.used + 1) 1 1 e c (inr (omega (arith, area_low log))) torn) torn.length s)
    | inr differs ↦ inr (chosen_now c (omega (arith, long, torn.length)) (omega (arith, differs, is.byte)) (behind_same e c other (omega (arith, other_low)) torn ∙ shut))
  ]

  module _ (d e c : List ℕ) (long : areas_end log.room ≤ length d) (one : Torn other 1 d e) (shut : slice_index e other ≡ 0) (two : Torn 1 1 e c) where
    both_beside : SameBeside log.room d c
    both_beside = beside_all log.room d e c (beside_torn log.room other 1 d e other_low other_high one) (beside_byte e c two)

    pub byte_written : KeptOrSwitched log d c
    byte_written = record {
      beside = both_beside;
      stands = λ fs s. byte_torn fs e c (omega (arith, long, one.length)) shut two (gate_torn fs d e one s);
    }

    pub has_switched : slice_index c 1 ≡ (log.byte + 1) % 256 → Switched log d c
    has_switched byte = record {
      beside = both_beside;
      byte = byte;
      stands = chosen_now c (omega (arith, long, one.length, two.length)) (ap (λ (b : ℕ). b % 2) byte) (behind_same e c other (omega (arith, other_low)) two ∙ shut);
    }

  pub first_kept : (old mid : Told) → Throughout old mid (IsTornImage old other 1) → Throughout old mid (ComesBy (KeptOrSwitched log) old)
  first_kept old mid first =
      weaker old mid (IsTornImage old other 1) (ComesBy (KeptOrSwitched log) old) first
      (λ (c : List ℕ) (image : IsTornImage old other 1 c). (image.0, image.1, gate_written image.0 c image.2))

  module _ (old mid : Told) (lawful : Lawful old) (after : Lawful mid) (size : areas_end log.room ≤ old.size)
      (first : Throughout old mid (IsTornImage old other 1))
      (written : IsTrue old.tells_contents → mid.contents ≡ spliced old.contents other (0 ∷ [])) (stable : IsStable mid) where
    shut_told : IsTrue old.tells_contents → slice_index mid.contents other ≡ 0
    shut_told tells = ap (λ (l : List ℕ). slice_index l other) (written tells) ∙ spliced_byte old.contents other 0 (omega (arith, lawful.fit tells, size, other_high))

    between : (e : List ℕ) → IsTrue (mid.now e) → (d : List ℕ) × IsTrue (old.now d) × Torn other 1 d e × (slice_index e other ≡ 0)
    between e now =
        let image = first.each e (after.counts old.moment e first.later now) in
        let tells : IsTrue old.tells_contents = sym first.tells_contents ∙ after.told e now in
        (image.0, image.1, image.2, ap (λ (l : List ℕ). slice_index l other) (stable e now) ∙ shut_told tells)

    long_image : (d : List ℕ) → IsTrue (old.now d) → areas_end log.room ≤ length d
    long_image d now = omega (arith, size, lawful.images d now)

    pub all_kept_or_switched : (new : Told) → Throughout mid new (IsTornImage mid 1 1) → Throughout old new (ComesBy (KeptOrSwitched log) old)
    all_kept_or_switched new second =
        joined old mid new (ComesBy (KeptOrSwitched log) old) (first_kept old mid first)
        (weaker mid new (IsTornImage mid 1 1) (ComesBy (KeptOrSwitched log) old) second
        (λ (c : List ℕ) (image : IsTornImage mid 1 1 c).
        let d = between image.0 image.1 in
        (d.0, d.1, byte_written d.0 image.0 c (long_image d.0 d.1) d.2 d.3 image.2)))

    pub now_switched : (new : Told) → Lawful new → Throughout mid new (IsTornImage mid 1 1) → (IsTrue mid.tells_contents → new.contents ≡ spliced mid.contents 1 ((log.byte + 1) % 256 ∷ [])) → IsStable new → Follows (Switched log) old new
    now_switched new last second written_new stable_new = λ c now.
        let image = second.each c (last.counts mid.moment c second.later now) in
        let d = between image.0 image.1 in
        let tells : IsTrue mid.tells_contents = after.told image.0 image.1 in
        let byte : slice_index c 1 ≡ (log.byte + 1) % 256 =
        ap (λ (l : List ℕ). slice_index l 1) (stable_new c now ∙ written_new tells) ∙ spliced_byte mid.contents 1 ((log.byte + 1) % 256) (omega (arith, after.fit tells, first.size, size)) in
        (d.0, d.1, has_switched d.0 image.0 c (long_image d.0 d.1) d.2 d.3 image.2 byte)

    -- the same of the contents
    pub told_kept : (new : Told) → IsTrue old.tells_contents → Torn other 1 old.contents mid.contents → Torn 1 1 mid.contents new.contents → KeptOrSwitched log old.contents new.contents
    told_kept new tells one two = byte_written old.contents mid.contents new.contents (omega (arith, size, lawful.fit tells)) one (shut_told tells) two

    pub told_switched : (new : Told) → IsTrue old.tells_contents → Torn other 1 old.contents mid.contents → Torn 1 1 mid.contents new.contents → (IsTrue mid.tells_contents → new.contents ≡ spliced mid.contents 1 ((log.byte + 1) % 256 ∷ [])) → Switched log old.contents new.contents
    told_switched new tells one two written_new =
        let tells_mid : IsTrue mid.tells_contents = first.tells_contents ∙ tells in
        has_switched old.contents mid.contents new.contents (omega (arith, size, lawful.fit tells)) one (shut_told tells) two
        (ap (λ (l : List ℕ). slice_index l 1) (written_new tells_mid) ∙ spliced_byte mid.contents 1 ((log.byte + 1) % 256) (omega (arith, after.fit tells_mid, first.size, size)))
