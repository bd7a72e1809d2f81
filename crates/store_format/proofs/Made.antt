-- all bytes of a new store, phase by phase
use Rattle.std.proofs.Common.{◌≡◌, ◌⊎◌, inl, inr, ⊎_elim, ℕ, ◌≤◌, List, [], ◌∷◌, length, take, drop, refl, sym, ◌∙◌, ap, subst, arith}
use Rattle.std.specs.Prelude.{IsTrue, slice_index}
use Rattle.byte_fields.specs.Fields.{field_at}
use Rattle.store_layout.specs.DiskLayout.{DiskLayout, area_offset, first_offset, page_offset, disk_size}
use Rattle.store_layout.specs.PagesFillDisk.{PagesFillDisk}
use Rattle.store_format.specs.ControlPage.{control_bytes, written_bytes}
use Rattle.disk_trait.specs.Told.{Told}
use Rattle.disk_trait.specs.Spliced.{spliced}
use Rattle.disk_trait.specs.Torn.{Torn}
use Rattle.disk_trait.specs.RangeLaws.{torn_apart}
use Rattle.disk_trait.specs.IsStable.{IsStable}
use Rattle.disk_trait.specs.Throughout.{Throughout}
use Rattle.disk_trait.specs.ThroughoutLaws.{joined, weaker}
use Rattle.store_format.specs.FreshStore.{IsClosed, IsFormatted, IsOldOrNew}
use Rattle.store_format.specs.Gate.{WasOrIsClosed, HasGate}
use Rattle.store_format.specs.Blank.{HasRest, HasNoFrames, HasFreshPages, IsBlank}
use Rattle.store_format.proofs.Lists.{same_byte, same_field, spliced_field, spliced_byte, behind_first}

-- a control page begins with its gate
pub first_of_control : (layout : DiskLayout) (gate area : ℕ) → slice_index (control_bytes layout gate area) 0 ≡ gate
unfolding control_bytes written_bytes
first_of_control layout gate area = refl

-- one byte, at a place that is written another way
pub byte_torn : (at from : ℕ) (old new : List ℕ) → from ≡ at → Torn from 1 old new → Torn at 1 old new
byte_torn at from old new place torn = subst (λ (n : ℕ). Torn n 1 old new) place torn

pub byte_written : (at from : ℕ) (old new : List ℕ) → from ≡ at → new ≡ spliced old from (0 ∷ []) → new ≡ spliced old at (0 ∷ [])
byte_written at from old new place written = written ∙ ap (λ (n : ℕ). spliced old n (0 ∷ [])) place

-- the disk has the control page and both areas
pub holds_front : (layout : DiskLayout) → first_offset layout ≤ disk_size layout
unfolding disk_size
holds_front layout = omega arith

module _ (layout : DiskLayout) where
  -- the control page was written behind its gate
  pub rest_written : (page bytes old new : List ℕ) → page ≡ control_bytes layout 1 0 → bytes ≡ drop 1 page → length bytes ≡ 8191 → 8192 ≤ length old → new ≡ spliced old 1 bytes → HasRest layout new
  rest_written page bytes old new is part short fits written =
      ap (λ (l : List ℕ). field_at l 1 8191) written
      ∙ ap (λ (n : ℕ). field_at (spliced old 1 bytes) 1 n) (sym short)
      ∙ spliced_field old 1 bytes (omega (arith, short, fits))
      ∙ part ∙ ap (drop 1) is

  -- and the first byte of each area
  pub areas_written : (some : 1 ≤ layout.sizes.log_pages) (old mid new : List ℕ) → first_offset layout ≤ length old → length mid ≡ length old
      → mid ≡ spliced old (area_offset layout 0) (0 ∷ []) → new ≡ spliced mid (area_offset layout 1) (0 ∷ []) → take (area_offset layout 1) new ≡ take (area_offset layout 1) mid → HasNoFrames layout new
  areas_written some old mid new fits long one two kept = record {
    first_area = same_byte (area_offset layout 1) new mid (area_offset layout 0) (omega (arith, some)) kept ∙ ap (λ (l : List ℕ). slice_index l (area_offset layout 0)) one ∙ spliced_byte old (area_offset layout 0) 0 (omega (arith, some, fits));
    other_area = ap (λ (l : List ℕ). slice_index l (area_offset layout 1)) two ∙ spliced_byte mid (area_offset layout 1) 0 (omega (arith, some, fits, long));
  }

  pub rest_kept : (m : ℕ) (old new : List ℕ) → 8192 ≤ m → take m new ≡ take m old → HasRest layout old → HasRest layout new
  rest_kept m old new within same rest = same_field 1 8191 m new old (omega (arith, within)) same ∙ rest

  pub areas_kept : (old new : List ℕ) → 1 ≤ layout.sizes.log_pages → take (first_offset layout) new ≡ take (first_offset layout) old → HasNoFrames layout old → HasNoFrames layout new
  areas_kept old new some same areas = record {
    first_area = same_byte (first_offset layout) new old (area_offset layout 0) (omega (arith, some)) same ∙ areas.first_area;
    other_area = same_byte (first_offset layout) new old (area_offset layout 1) (omega (arith, some)) same ∙ areas.other_area;
  }

  pub blank_after : (a b c d : List ℕ) → 1 ≤ layout.sizes.log_pages → HasRest layout a → take 8192 b ≡ take 8192 a → HasNoFrames layout b → take (first_offset layout) c ≡ take (first_offset layout) b
      → HasFreshPages layout c → d ≡ c → IsBlank layout d
  blank_after a b c d some rest one areas two pages same = subst (IsBlank layout) (sym same) (record {
    rest = rest_kept (first_offset layout) b c (omega (arith, some)) two (rest_kept 8192 a b (omega arith) one rest);
    areas = areas_kept b c some two areas;
    pages = pages;
  })

  -- the control page begins with its gate
  gate_first : 1 ∷ drop 1 (control_bytes layout 1 0) ≡ control_bytes layout 1 0
  unfolding control_bytes written_bytes
  gate_first = refl

  whole_control : (c : List ℕ) → 8192 ≤ length c → slice_index c 0 ≡ 1 → HasRest layout c → take 8192 c ≡ control_bytes layout 1 0
  whole_control (x ∷ c) long is rest = ap (λ (b : ℕ). b ∷ take 8191 c) is ∙ ap (λ (l : List ℕ). 1 ∷ l) rest ∙ gate_first
  whole_control [] long is rest = absurd (omega (arith, long))

  -- with an open gate they are a new store's
  pub formatted : PagesFillDisk layout → (d c : List ℕ) → 8192 ≤ length d → IsBlank layout d → Torn 0 1 d c → slice_index c 0 ≡ 1 → IsFormatted layout c
  formatted fill d c long blank torn is = record {
    control = whole_control c (omega (arith, long, torn.length)) is (ap (take 8191) torn.after ∙ blank.rest);
    first_area = behind_first d c (area_offset layout 0) (omega arith) torn.after ∙ blank.areas.first_area;
    other_area = behind_first d c (area_offset layout 1) (omega arith) torn.after ∙ blank.areas.other_area;
    pages = λ place at. torn_apart (page_offset layout place) 8192 0 1 d c (inr (omega (arith, fill.begins place at))) torn ∙ blank.pages place at;
  }

  module _ (fill : PagesFillDisk layout) (mid : Told) (stable : IsStable mid) (fit : IsTrue mid.tells_contents → length mid.contents ≡ mid.size) (told : (c : List ℕ) → IsTrue (mid.now c) → IsTrue mid.tells_contents)
      (size : 8192 ≤ mid.size) (blank : IsTrue mid.tells_contents → IsBlank layout mid.contents) where
    -- an image with an open gate is the new store
    pub has_fresh : (c : List ℕ) → HasGate mid c → IsFormatted layout c
    has_fresh c gate =
        let d = gate.0.0 in
        let now = gate.0.1 in
        let tells = told d now in
        formatted fill d c (omega (arith, ap (length {A = ℕ}) (stable d now), fit tells, size)) (subst (IsBlank layout) (sym (stable d now)) (blank tells)) gate.0.2 gate.1

    pub fresh_contents : (new : List ℕ) → IsTrue mid.tells_contents → new ≡ spliced mid.contents 0 (1 ∷ []) → IsFormatted layout new
    fresh_contents new tells written =
        let long : 8192 ≤ length mid.contents = omega (arith, fit tells, size) in
        formatted fill mid.contents new long (blank tells) (opened mid.contents new long written) (ap (λ (l : List ℕ). slice_index l 0) written)
      where
        opened : (d c : List ℕ) → 8192 ≤ length d → c ≡ spliced d 0 (1 ∷ []) → Torn 0 1 d c
        opened (x ∷ d) c some is = record { length = ap (length {A = ℕ}) is; before = refl; after = ap (drop 1) is }
        opened [] c some is = absurd (omega (arith, some))

    -- one phase after the other
    pub all_made : (old one new : Told) → Throughout old one (WasOrIsClosed old) → Throughout one mid IsClosed → Throughout mid new (λ (c : List ℕ). IsClosed c ⊎ HasGate mid c) → Throughout old new (IsOldOrNew layout old)
    all_made old one new first second third =
        joined old mid new (IsOldOrNew layout old)
        (joined old one mid (IsOldOrNew layout old)
        (weaker old one (WasOrIsClosed old) (IsOldOrNew layout old) first (λ (c : List ℕ) (w : WasOrIsClosed old c). ⊎_elim (λ was. inl was) (λ closed. inr (inl closed)) w))
        (weaker one mid IsClosed (IsOldOrNew layout old) second (λ c closed. inr (inl closed))))
        (weaker mid new (λ (c : List ℕ). IsClosed c ⊎ HasGate mid c) (IsOldOrNew layout old) third
        (λ (c : List ℕ) (w : IsClosed c ⊎ HasGate mid c). ⊎_elim (λ closed. inr (inl closed)) (λ gate. inr (inr (has_fresh c gate))) w))

  -- the same where it stops before
  pub stopped_early : (old one new : Told) → Throughout old one (WasOrIsClosed old) → Throughout one new IsClosed → Throughout old new (IsOldOrNew layout old)
  stopped_early old one new first second =
      joined old one new (IsOldOrNew layout old)
      (weaker old one (WasOrIsClosed old) (IsOldOrNew layout old) first (λ (c : List ℕ) (w : WasOrIsClosed old c). ⊎_elim (λ was. inl was) (λ closed. inr (inl closed)) w))
      (weaker one new IsClosed (IsOldOrNew layout old) second (λ c closed. inr (inl closed)))

  pub stopped_first : (old one : Told) → Throughout old one (WasOrIsClosed old) → Throughout old one (IsOldOrNew layout old)
  stopped_first old one first = weaker old one (WasOrIsClosed old) (IsOldOrNew layout old) first (λ (c : List ℕ) (w : WasOrIsClosed old c). ⊎_elim (λ was. inl was) (λ closed. inr (inl closed)) w)
