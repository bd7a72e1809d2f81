-- the gate through the calls of a disk
use Rattle.std.proofs.Common.{◌≡◌, ◌≢◌, ◌⊎◌, inl, inr, ⊎_elim, ℕ, ◌<◌, ◌≤◌, List, [], ◌∷◌, length, take, drop, sym, ◌∙◌, ap, subst, arith}
use Rattle.std.specs.Prelude.{IsTrue, true, false, ◌==◌, slice_index}
use Rattle.std.proofs.lemmas.Bool.{cases_eq, both_ways, eqb-true, eq-eqb}
use Rattle.std.proofs.lemmas.List.{get_or-take}
use Rattle.disk_trait.specs.Told.{Told}
use Rattle.disk_trait.specs.Spliced.{spliced}
use Rattle.disk_trait.specs.Torn.{Torn}
use Rattle.disk_trait.specs.TornImage.{IsTornImage}
use Rattle.disk_trait.specs.Follows.{Follows}
use Rattle.disk_trait.specs.GoesOn.{GoesOn}
use Rattle.disk_trait.specs.IsStable.{IsStable}
use Rattle.disk_trait.specs.Throughout.{Throughout}
use Rattle.disk_trait.specs.ThroughoutLaws.{started, goes_on, joined, weaker}
use Rattle.store_format.specs.FreshStore.{IsClosed}
use Rattle.store_format.specs.Gate.{AreClosed, WasOrIsClosed, HasGate}
use Rattle.store_format.proofs.Lists.{same_byte}

-- a write behind the gate leaves it
pub closed_on : (old new : Told) (at n : ℕ) → 1 ≤ at → AreClosed old → Follows (Torn at n) old new → AreClosed new
closed_on old new at n behind closed images c now is =
    let d = images c now in
    closed d.0 d.1 (sym (same_byte at c d.0 0 behind d.2.before) ∙ is)

pub behind_on : (old new : Told) → ((c : List ℕ) → IsTrue (old.since old.moment c) → IsTrue (old.now c)) → AreClosed old → AreClosed new → GoesOn old new → Throughout old new IsClosed
behind_on old new begun closed after time = goes_on old old new IsClosed (started old IsClosed (λ c since. closed c (begun c since))) time after

-- lists that agree but for the first byte, and on that
same_first : (d c : List ℕ) → length c ≡ length d → 0 < length d → drop 1 c ≡ drop 1 d → slice_index c 0 ≡ slice_index d 0 → c ≡ d
same_first (x ∷ d) (y ∷ c) long some rest first = ap (λ (l : List ℕ). y ∷ l) rest ∙ ap (λ (h : ℕ). h ∷ d) first
same_first (x ∷ d) [] long some rest first = absurd (omega (arith, long, some))
same_first [] c long some rest first = absurd (omega (arith, some))

-- while an open gate is closed, an image is from before or closed
pub closing : (mid : Told) (c : List ℕ) → IsStable mid → ((x : List ℕ) → IsTrue (mid.now x) → length x ≡ mid.size) → 1 ≤ mid.size
    → ((x : List ℕ) → IsTrue (mid.now x) → slice_index mid.contents 0 ≡ 1) → IsTornImage mid 0 1 c → IsTrue (mid.now c) ⊎ IsClosed c
closing mid c stable fit size one (d, now, torn) = elim (cases_eq (slice_index c 0) 1) [
  | inl is ↦
      let here : slice_index d 0 ≡ 1 = ap (λ (x : List ℕ). slice_index x 0) (stable d now) ∙ one d now in
      let same : c ≡ d = same_first d c torn.length (omega (arith, fit d now, size)) torn.after (is ∙ sym here) in
      inl (subst (λ (x : List ℕ). IsTrue (mid.now x)) (sym same) now)
  | inr other ↦ inr other
]

-- a sync
pub synced : (old mid : Told) → ((c : List ℕ) → IsTrue (old.since old.moment c) → IsTrue (old.now c)) → ((c : List ℕ) → IsTrue (mid.now c) → IsTrue (old.now c)) → GoesOn old mid → Throughout old mid (WasOrIsClosed old)
synced old mid begun images time = goes_on old old mid (WasOrIsClosed old) (started old (WasOrIsClosed old) (λ c since. inl (begun c since))) time (λ c now. inl (images c now))

-- and a read
pub read_on : (old mid after : Told) → after ≡ record mid { faults = after.faults } → Throughout old mid (WasOrIsClosed old) → Throughout old after (WasOrIsClosed old)
read_on old mid after same all =
    subst (λ (t : Told). Throughout old t (WasOrIsClosed old)) (sym same)
    (record { size = all.size; tells_contents = all.tells_contents; tells_images = all.tells_images; later = all.later; each = all.each; earlier = all.earlier })

-- of a disk on which no write is pending, the gate that a read gives is that of each image
pub gate_read : (mid : Told) (gate : List ℕ) → IsStable mid → ((x : List ℕ) → IsTrue (mid.now x) → IsTrue mid.tells_contents) → (IsTrue mid.tells_contents → gate ≡ take 1 (drop 0 mid.contents))
    → (c : List ℕ) → IsTrue (mid.now c) → slice_index c 0 ≡ slice_index gate 0
gate_read mid gate stable told read c now =
    ap (λ (l : List ℕ). slice_index l 0) (stable c now) ∙ sym (get_or-take 1 mid.contents 0 0 (omega arith)) ∙ sym (ap (λ (l : List ℕ). slice_index l 0) (read (told c now)))

pub closed_found : (mid after : Told) (gate : List ℕ) → after ≡ record mid { faults = after.faults } → ((c : List ℕ) → IsTrue (mid.now c) → slice_index c 0 ≡ slice_index gate 0) → slice_index gate 0 ≢ 1 → AreClosed after
closed_found mid after gate same found other c now is =
    other (sym (found c (subst (λ (t : Told). IsTrue (t.now c)) same now)) ∙ is)

-- a gate that was closed, and no write is pending
pub closed_written : (mid new : Told) → IsStable new → ((x : List ℕ) → IsTrue (new.now x) → IsTrue new.tells_contents) → new.tells_contents ≡ mid.tells_contents
    → (IsTrue mid.tells_contents → new.contents ≡ spliced mid.contents 0 (0 ∷ [])) → AreClosed new
closed_written mid new stable told tells written c now is =
    zero_not (slice_index c 0) (ap (λ (l : List ℕ). slice_index l 0) (stable c now ∙ written (sym tells ∙ told c now))) is
  where
    zero_not : (n : ℕ) → n ≡ 0 → n ≡ 1 → ⊥
    zero_not n one two = absurd (omega (arith, one, two))

-- and then an open gate that is closed
pub closed_throughout : (old mid after new : Told) (gate : List ℕ) → after ≡ record mid { faults = after.faults } → Throughout old mid (WasOrIsClosed old) → ((c : List ℕ) → IsTrue (mid.now c) → IsTrue (old.now c)) → IsStable mid
    → ((x : List ℕ) → IsTrue (mid.now x) → length x ≡ mid.size) → 1 ≤ mid.size → ((x : List ℕ) → IsTrue (mid.now x) → slice_index x 0 ≡ slice_index gate 0) → slice_index gate 0 ≡ 1
    → Throughout after new (IsTornImage after 0 1) → Throughout old new (WasOrIsClosed old)
closed_throughout old mid after new gate same first images stable fit size found one second =
    joined old after new (WasOrIsClosed old) (read_on old mid after same first)
    (weaker after new (IsTornImage after 0 1) (WasOrIsClosed old) second
    (λ (c : List ℕ) (image : IsTornImage after 0 1 c).
    let torn : IsTornImage mid 0 1 c = (image.0, subst (λ (t : Told). IsTrue (t.now image.0)) same image.1, image.2) in
    ⊎_elim (λ now. inl (images c now)) (λ closed. inr closed)
    (closing mid c stable fit size (λ x now. sym (ap (λ (l : List ℕ). slice_index l 0) (stable x now)) ∙ found x now ∙ one) torn)))

-- while the gate is opened, an image is closed or one from before with an open gate
pub gate_torn : (old : Told) (c : List ℕ) → IsTornImage old 0 1 c → IsClosed c ⊎ HasGate old c
gate_torn old c image = elim (cases_eq (slice_index c 0) 1) [
  | inl is ↦ inr (image, is)
  | inr other ↦ inl other
]

pub opening : (old new : Told) → Throughout old new (IsTornImage old 0 1) → Throughout old new (λ (c : List ℕ). IsClosed c ⊎ HasGate old c)
opening old new all = weaker old new (IsTornImage old 0 1) (λ (c : List ℕ). IsClosed c ⊎ HasGate old c) all (gate_torn old)

-- what the test of a gate says
pub is_open_gate : (gate : List ℕ) → true ≡ (slice_index gate 0 == 1) → slice_index gate 0 ≡ 1
is_open_gate gate tested = eqb-true (slice_index gate 0) 1 (sym tested)

pub not_open_gate : (gate : List ℕ) → false ≡ (slice_index gate 0 == 1) → slice_index gate 0 ≢ 1
not_open_gate gate tested is = both_ways (slice_index gate 0 == 1) (sym tested) (eq-eqb (slice_index gate 0) 1 is)
