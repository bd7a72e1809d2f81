-- what a write and a sync make of the crash images
use Rattle.std.proofs.Common.{◌≡◌, ◌⊎◌, inl, inr, ⊎_elim, ℕ, ◌+◌, ◌≤◌, ◌<◌, List, [], ◌∷◌, length, take, drop, sym, ◌∙◌, ap, subst, arith}
use Rattle.std.specs.Prelude.{refl, Bool, true, false, ◌&&◌, ◌||◌, nat_le, nat_lt}
use Rattle.std.proofs.lemmas.Bool.{and_from, and_parts, or_right, or_cases, le-leb}
use Rattle.std.proofs.lemmas.Bool.Decides.{nat_tests}
use Rattle.std.proofs.lemmas.List.{ext_get_or}
use Rattle.disk_trait.specs.Spliced.{spliced}
use Rattle.disk_trait.specs.Torn.{Torn}
use Rattle.disk_trait.specs.Follows.{Follows}
use Rattle.disk_trait.specs.GoesOn.{GoesOn}
use Rattle.disk_trait.specs.Event.{Event, wrote, synced, contents_before}
use Rattle.disk_trait.specs.IsCrashImage.{is_pending, is_crash_image, was_crash_image}
use Rattle.disk_trait.specs.CrashImageLaws.{crash_image_from, crash_image_at, length-crash_image, contents_crash_image}
use Rattle.disk_trait.specs.Recorded.{Recorded, with_write, with_sync}
use Rattle.disk_trait.specs.Memory.{Recording, told_by_memory}
use Rattle.disk_trait.specs.TornLaws.{length-spliced}
use Rattle.disk_trait.proofs.Splices.{get_or-spliced_within, get_or-spliced_outside, torn_back, get_or-range, length-range, spliced_back, where_it_is}

-- outside of a write's range no more is pending than before
not_pending_outside : (at n k : ℕ) (before : Bool) → (k < at) ⊎ (at + n ≤ k) → before ≡ false → ((nat_le at k && nat_lt k (at + n)) || before) ≡ false
not_pending_outside at n k before apart none = grind (arith, nat_tests)

-- what isn't pending now wasn't before, and lies outside of the newest write's range
pub not_in_range : (at n k : ℕ) (before : Bool) → ((nat_le at k && nat_lt k (at + n)) || before) ≡ false → (k < at) ⊎ (at + n ≤ k)
not_in_range at n k before none = grind (arith, nat_tests)

pub not_before : (now before : Bool) → (now || before) ≡ false → before ≡ false
not_before now before none = grind arith

module _ (contents : List ℕ) (events : List Event) (at : ℕ) (bytes : List ℕ) (fits : at + length bytes ≤ length contents) where
  -- the old bytes put back into an image make an image of before
  image_before : (c : List ℕ) → is_crash_image (spliced contents at bytes) (wrote at (take (length bytes) (drop at contents)) ∷ events) c ≡ true
      → (d : List ℕ) × (is_crash_image contents events d ≡ true) × Torn at (length bytes) d c
  image_before c h =
      let replaced = take (length bytes) (drop at contents) in
      let n : length replaced ≡ length bytes = length-range contents at (length bytes) fits in
      let long : length c ≡ length contents = length-crash_image (spliced contents at bytes) (wrote at replaced ∷ events) c h ∙ length-spliced contents at bytes fits in
      let room : at + length replaced ≤ length c = omega (arith, n, long, fits) in
      let within = λ (k : ℕ) (low : at ≤ k) (high : k < at + length replaced).
      get_or-spliced_within c at replaced room k low high ∙ get_or-range contents at (length bytes) k low (omega (arith, n, high)) in
      let outside = λ (k : ℕ) (lt : k < length contents) (none : is_pending events k ≡ false) (apart : (k < at) ⊎ (at + length replaced ≤ k)).
      get_or-spliced_outside c at replaced room k apart
      ∙ crash_image_at (spliced contents at bytes) (wrote at replaced ∷ events) c h k (omega (arith, lt, length-spliced contents at bytes fits)) (not_pending_outside at (length replaced) k (is_pending events k) apart none)
      ∙ get_or-spliced_outside contents at bytes fits k (subst (λ (m : ℕ). (k < at) ⊎ (at + m ≤ k)) n apart) in (
        spliced c at replaced,
        crash_image_from contents events (spliced c at replaced) (length-spliced c at replaced room ∙ long)
            (λ k lt none. ⊎_elim (λ inside. within k inside.0 inside.1) (λ apart. outside k lt none apart) (where_it_is at (length replaced) k)),
        subst (λ (m : ℕ). Torn at m (spliced c at replaced) c) n (torn_back c at replaced room),
      )

-- nothing is pending right after a sync
module _ (contents : List ℕ) (past past' : Recorded) (noted : past' ≡ with_sync past) where
  pub synced_stable : (c : List ℕ) → is_crash_image contents past'.events c ≡ true → c ≡ contents
  synced_stable c h =
      let image : is_crash_image contents (synced ∷ past.events) c ≡ true = sym (ap (λ (p : Recorded). is_crash_image contents p.events c) noted) ∙ h in
      let long : length c ≡ length contents = length-crash_image contents (synced ∷ past.events) c image in
      ext_get_or 0 c contents long (λ k lt. crash_image_at contents (synced ∷ past.events) c image k (omega (arith, lt, long)) refl)

  pub synced_images : (c : List ℕ) → is_crash_image contents past'.events c ≡ true → is_crash_image contents past.events c ≡ true
  synced_images c h = subst (λ (b : List ℕ). is_crash_image contents past.events b ≡ true) (sym (synced_stable c h)) (contents_crash_image contents past.events)

-- nor before any event
pub fresh_image : (contents : List ℕ) (events : List Event) → events ≡ [] → (c : List ℕ) → is_crash_image contents events c ≡ true → c ≡ contents
fresh_image contents events none c h =
    let image : is_crash_image contents [] c ≡ true = sym (ap (λ (es : List Event). is_crash_image contents es c) none) ∙ h in
    let long : length c ≡ length contents = length-crash_image contents [] c image in
    ext_get_or 0 c contents long (λ k lt. crash_image_at contents [] c image k (omega (arith, lt, long)) refl)

-- one event more
goes_on_by : (old new : Recording) (event : Event) → new.past.events ≡ event ∷ old.past.events → contents_before event new.contents ≡ old.contents → length new.contents ≡ length old.contents
    → GoesOn (told_by_memory old) (told_by_memory new)
goes_on_by old new event is before long = record {
  size = long;
  tells_contents = refl;
  tells_images = refl;
  later = omega (arith, ap length is);
  nothing_else = λ t c le h. ⊎_elim (λ now. inr (ap (λ (es : List Event). is_crash_image new.contents es c) is ∙ now))
      (λ was. inl (and_parts (nat_le t (length old.past.events)) (was_crash_image t old.contents old.past.events c) was).1)
      (or_cases (is_crash_image new.contents (event ∷ old.past.events) c) (nat_le t (length old.past.events) && was_crash_image t old.contents old.past.events c) (sym (unfolded t c) ∙ h));
  nothing_less = λ t c le h. unfolded t c ∙ or_right (is_crash_image new.contents (event ∷ old.past.events) c) (nat_le t (length old.past.events) && was_crash_image t old.contents old.past.events c)
      (and_from (nat_le t (length old.past.events)) (was_crash_image t old.contents old.past.events c) (le-leb t (length old.past.events) le) h);
}
  where
    unfolded : (t : ℕ) (c : List ℕ) → was_crash_image t new.contents new.past.events c ≡ (is_crash_image new.contents (event ∷ old.past.events) c || (nat_le t (length old.past.events) && was_crash_image t old.contents old.past.events c))
    unfolded t c =
        ap (λ (es : List Event). was_crash_image t new.contents es c) is
        ∙ ap (λ (b : List ℕ). is_crash_image new.contents (event ∷ old.past.events) c || (nat_le t (length old.past.events) && was_crash_image t b old.past.events c)) before

-- a write that was recorded
module _ (old new : Recording) (at : ℕ) (bytes : List ℕ) (fits : at + length bytes ≤ length old.contents)
    (is : new.contents ≡ spliced old.contents at bytes) (noted : new.past ≡ with_write old.past at (take (length bytes) (drop at old.contents))) where
  pub write_follows : Follows (Torn at (length bytes)) (told_by_memory old) (told_by_memory new)
  write_follows c h =
      let replaced = take (length bytes) (drop at old.contents) in
      image_before old.contents old.past.events at bytes fits c
      (sym (ap (λ (b : List ℕ). is_crash_image b (wrote at replaced ∷ old.past.events) c) is) ∙ sym (ap (λ (p : Recorded). is_crash_image new.contents p.events c) noted) ∙ h)

  pub write_goes_on : GoesOn (told_by_memory old) (told_by_memory new)
  write_goes_on =
      let replaced = take (length bytes) (drop at old.contents) in
      goes_on_by old new (wrote at replaced) (ap (λ (p : Recorded). p.events) noted)
      (ap (λ (b : List ℕ). spliced b at replaced) is ∙ spliced_back old.contents at bytes fits) (ap length is ∙ length-spliced old.contents at bytes fits)

-- a sync that was recorded
pub sync_goes_on : (old new : Recording) → new.contents ≡ old.contents → new.past ≡ with_sync old.past → GoesOn (told_by_memory old) (told_by_memory new)
sync_goes_on old new is noted = goes_on_by old new synced (ap (λ (p : Recorded). p.events) noted) is (ap length is)
