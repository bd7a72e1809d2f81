-- a frame behind a gate that opens once the frame is sure
use Rattle.std.proofs.Common.{◌≡◌, inl, inr, ℕ, ◌+◌, ◌≤◌, List, [], ◌∷◌, ◌++◌, length, take, drop, get_or, refl, sym, ◌∙◌, ap, subst, arith, append_assoc}
use Rattle.std.specs.Prelude.{IsTrue, slice_index}
use Rattle.std.proofs.lemmas.List.{take_at, drop_at, get_or_at, length-take-le}
use Rattle.byte_fields.specs.Fields.{field_at}
use Rattle.disk_trait.specs.Told.{Told}
use Rattle.disk_trait.specs.Torn.{Torn}
use Rattle.disk_trait.specs.TornImage.{IsTornImage}
use Rattle.disk_trait.specs.Follows.{Follows}
use Rattle.disk_trait.specs.Throughout.{Throughout}
use Rattle.disk_trait.specs.ThroughoutLaws.{joined, weaker}
use Rattle.disk_trait.specs.IsStable.{IsStable}
use Rattle.disk_trait.specs.Spliced.{spliced}
use Rattle.disk_trait.specs.TornLaws.{torn_wider, torn_twice}
use Rattle.log_area.specs.Log.{ComesBy}
use Rattle.log_area.specs.Published.{StandsBehind, Published, PublishedOrTorn}

-- what a write puts there
pub spliced_field : (old : List ℕ) (at : ℕ) (bytes : List ℕ) → at + length bytes ≤ length old → field_at (spliced old at bytes) at (length bytes) ≡ bytes
spliced_field old at bytes fits =
    let rest = drop (at + length bytes) old in
    ap (λ (l : List ℕ). take (length bytes) (drop at l)) (append_assoc (take at old) bytes rest)
    ∙ ap (take (length bytes)) (drop_at (take at old) (bytes ++ rest) at (length-take-le at old (omega (arith, fits))))
    ∙ take_at bytes rest (length bytes) refl

pub spliced_byte : (old : List ℕ) (at x : ℕ) → at + 1 ≤ length old → slice_index (spliced old at (x ∷ [])) at ≡ x
spliced_byte old at x fits =
    ap (λ (l : List ℕ). get_or l at 0) (append_assoc (take at old) (x ∷ []) (drop (at + 1) old)) ∙ get_or_at (take at old) x (drop (at + 1) old) 0 at (length-take-le at old (omega (arith, fits)))

-- what is known of a disk at every moment
pub record Lawful (disk : Told) : Type 0 where
  pub fit : IsTrue disk.tells_contents → length disk.contents ≡ disk.size
  pub images : (c : List ℕ) → IsTrue (disk.now c) → length c ≡ disk.size
  pub told : (c : List ℕ) → IsTrue (disk.now c) → IsTrue disk.tells_contents
  pub counts : (t : ℕ) (c : List ℕ) → t ≤ disk.moment → IsTrue (disk.now c) → IsTrue (disk.since t c)

-- bytes behind the gate, and then any gate
torn_gate : (gate : ℕ) (bytes d e c : List ℕ) → Torn (gate + 1) (length bytes) d e → field_at e (gate + 1) (length bytes) ≡ bytes → Torn gate 1 e c → StandsBehind gate bytes d c
torn_gate gate bytes d e c one stand two = record {
  torn = torn_twice gate (1 + length bytes) d e c (torn_wider (gate + 1) (length bytes) gate (1 + length bytes) d e (omega arith) (omega arith) one) (torn_wider gate 1 gate (1 + length bytes) e c (omega arith) (omega arith) two);
  bytes_stand = ap (take (length bytes)) two.after ∙ stand;
}

module _ (old mid : Told) (gate n : ℕ) (bytes : List ℕ) (width : length bytes ≡ n) (lawful : Lawful old) (after : Lawful mid) (room : gate + 1 + n ≤ old.size)
    (first : Throughout old mid (IsTornImage old (gate + 1) n)) where
  wide : Throughout old mid (IsTornImage old (gate + 1) (length bytes))
  wide = subst (λ (k : ℕ). Throughout old mid (IsTornImage old (gate + 1) k)) (sym width) first

  pub first_published : Throughout old mid (ComesBy (PublishedOrTorn gate bytes) old)
  first_published =
      weaker old mid (IsTornImage old (gate + 1) (length bytes)) (ComesBy (PublishedOrTorn gate bytes) old) wide
      (λ (c : List ℕ) (image : IsTornImage old (gate + 1) (length bytes) c). (image.0, image.1, inl image.2))

  module _ (written : IsTrue old.tells_contents → mid.contents ≡ spliced old.contents (gate + 1) bytes) (stable : IsStable mid) where
    stand : IsTrue old.tells_contents → field_at mid.contents (gate + 1) (length bytes) ≡ bytes
    stand tells = ap (λ (l : List ℕ). field_at l (gate + 1) (length bytes)) (written tells) ∙ spliced_field old.contents (gate + 1) bytes (omega (arith, lawful.fit tells, room, width))

    between : (e : List ℕ) → IsTrue (mid.now e) → (d : List ℕ) × IsTrue (old.now d) × Torn (gate + 1) (length bytes) d e × (field_at e (gate + 1) (length bytes) ≡ bytes)
    between e now =
        let image = wide.each e (after.counts old.moment e first.later now) in
        let tells : IsTrue old.tells_contents = sym first.tells_contents ∙ after.told e now in
        (image.0, image.1, image.2, ap (λ (l : List ℕ). field_at l (gate + 1) (length bytes)) (stable e now) ∙ stand tells)

    pub all_published : (new : Told) → Throughout mid new (IsTornImage mid gate 1) → Throughout old new (ComesBy (PublishedOrTorn gate bytes) old)
    all_published new second =
        joined old mid new (ComesBy (PublishedOrTorn gate bytes) old) first_published
        (weaker mid new (IsTornImage mid gate 1) (ComesBy (PublishedOrTorn gate bytes) old) second
        (λ (c : List ℕ) (image : IsTornImage mid gate 1 c).
        let d = between image.0 image.1 in
        (d.0, d.1, inr (torn_gate gate bytes d.0 image.0 c d.2 d.3 image.2))))

    pub now_published : (new : Told) → Lawful new → Throughout mid new (IsTornImage mid gate 1) → (IsTrue mid.tells_contents → new.contents ≡ spliced mid.contents gate (1 ∷ [])) → IsStable new → Follows (Published gate bytes) old new
    now_published new last second opened stable_new = λ c now.
        let image = second.each c (last.counts mid.moment c second.later now) in
        let tells : IsTrue mid.tells_contents = after.told image.0 image.1 in
        let d = between image.0 image.1 in (
          d.0,
          d.1,
          record {
            behind = torn_gate gate bytes d.0 image.0 c d.2 d.3 image.2;
            opened = ap (λ (l : List ℕ). slice_index l gate) (stable_new c now ∙ opened tells) ∙ spliced_byte mid.contents gate 1 (omega (arith, after.fit tells, first.size, room));
          },
        )

    -- the same of the contents
    pub told_published : (new : Told) → IsTrue old.tells_contents → Torn (gate + 1) n old.contents mid.contents → Torn gate 1 mid.contents new.contents → StandsBehind gate bytes old.contents new.contents
    told_published new tells one two =
        torn_gate gate bytes old.contents mid.contents new.contents (subst (λ (k : ℕ). Torn (gate + 1) k old.contents mid.contents) (sym width) one) (stand tells) two

    pub told_opened : (new : Told) → IsTrue old.tells_contents → (IsTrue mid.tells_contents → new.contents ≡ spliced mid.contents gate (1 ∷ [])) → slice_index new.contents gate ≡ 1
    told_opened new tells opened =
        let tells_mid : IsTrue mid.tells_contents = first.tells_contents ∙ tells in
        ap (λ (l : List ℕ). slice_index l gate) (opened tells_mid) ∙ spliced_byte mid.contents gate 1 (omega (arith, after.fit tells_mid, first.size, room))
