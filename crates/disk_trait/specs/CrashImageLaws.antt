-- laws of crash images
use Rattle.std.specs.Prelude.{◌≡◌, ◌⊎◌, ℕ, zero, suc, ◌<◌, Bool, true, false, ◌&&◌, ◌||◌, ◌==◌, nat_le, List, [], ◌∷◌, length, slice_index, refl}
use Rattle.std.proofs.Common.{sym, subst, ⊎_elim, arith}
use Rattle.std.proofs.lemmas.Bool.{and_from, and_parts, or_left, or_right, or_cases, cases_Bool, both_ways, eqb-true, eq-eqb, lt-leb}
use Rattle.disk_trait.specs.Event.{Event, contents_before}
use Rattle.disk_trait.specs.IsCrashImage.{is_pending, agrees_below, is_crash_image, was_crash_image}

same_or_free : (free same : Bool) → (free || same) ≡ true → free ≡ false → same ≡ true
same_or_free free same h none = ⊎_elim (λ f. absurd (both_ways free none f)) (λ s. s) (or_cases free same h)

last_or_below : (k n : ℕ) → k < suc n → (k ≡ n) ⊎ (k < n)
last_or_below k n lt = grind arith

agrees_at : (n : ℕ) (free : ℕ → Bool) (xs ys : List ℕ) → agrees_below n free xs ys ≡ true → (k : ℕ) → k < n → free k ≡ false → slice_index xs k ≡ slice_index ys k
agrees_at zero free xs ys h k lt none = absurd (omega arith)
agrees_at (suc n) free xs ys h k lt none =
    let parts = and_parts (free n || slice_index xs n == slice_index ys n) (agrees_below n free xs ys) h in
    ⊎_elim
    (λ (e : k ≡ n). subst (λ (m : ℕ). slice_index xs m ≡ slice_index ys m) (sym e)
    (eqb-true (slice_index xs n) (slice_index ys n) (same_or_free (free n) (slice_index xs n == slice_index ys n) parts.0 (subst (λ (m : ℕ). free m ≡ false) e none))))
    (λ below. agrees_at n free xs ys parts.1 k below none)
    (last_or_below k n lt)

agrees_from : (n : ℕ) (free : ℕ → Bool) (xs ys : List ℕ) → ((k : ℕ) → k < n → free k ≡ false → slice_index xs k ≡ slice_index ys k) → agrees_below n free xs ys ≡ true
agrees_from zero free xs ys same = refl
agrees_from (suc n) free xs ys same =
    and_from (free n || slice_index xs n == slice_index ys n) (agrees_below n free xs ys)
    (⊎_elim (λ f. or_left (free n) (slice_index xs n == slice_index ys n) f)
    (λ none. or_right (free n) (slice_index xs n == slice_index ys n) (eq-eqb (slice_index xs n) (slice_index ys n) (same n (omega arith) none)))
    (cases_Bool (free n)))
    (agrees_from n free xs ys (λ k lt none. same k (omega arith) none))

module _ (contents : List ℕ) (events : List Event) (image : List ℕ) where
  pub crash_image_from : length image ≡ length contents → ((k : ℕ) → k < length contents → is_pending events k ≡ false → slice_index image k ≡ slice_index contents k) → is_crash_image contents events image ≡ true
  crash_image_from long same =
      and_from (length image == length contents) (agrees_below (length contents) (is_pending events) image contents)
      (eq-eqb (length image) (length contents) long) (agrees_from (length contents) (is_pending events) image contents same)

  pub length-crash_image : is_crash_image contents events image ≡ true → length image ≡ length contents
  length-crash_image h = eqb-true (length image) (length contents) (and_parts (length image == length contents) (agrees_below (length contents) (is_pending events) image contents) h).0

  pub crash_image_at : is_crash_image contents events image ≡ true → (k : ℕ) → k < length contents → is_pending events k ≡ false → slice_index image k ≡ slice_index contents k
  crash_image_at h = agrees_at (length contents) (is_pending events) image contents (and_parts (length image == length contents) (agrees_below (length contents) (is_pending events) image contents) h).1

pub contents_crash_image : (contents : List ℕ) (events : List Event) → is_crash_image contents events contents ≡ true
contents_crash_image contents events = crash_image_from contents events contents refl (λ k lt none. refl)

-- this moment is among those from any moment on
pub was_crash_image_now : (t : ℕ) (contents : List ℕ) (events : List Event) (image : List ℕ) → is_crash_image contents events image ≡ true → was_crash_image t contents events image ≡ true
was_crash_image_now t contents [] image h = h
was_crash_image_now t contents (event ∷ events) image h = or_left (is_crash_image contents (event ∷ events) image) (nat_le t (length events) && was_crash_image t (contents_before event contents) events image) h

-- and the only one from itself on
pub was_crash_image_latest : (contents : List ℕ) (events : List Event) (image : List ℕ) → was_crash_image (length events) contents events image ≡ true → is_crash_image contents events image ≡ true
was_crash_image_latest contents [] image h = h
was_crash_image_latest contents (event ∷ events) image h =
    let earlier = was_crash_image (suc (length events)) (contents_before event contents) events image in
    ⊎_elim (λ now. now) (λ was. absurd (both_ways (nat_le (suc (length events)) (length events)) (lt-leb (suc (length events)) (length events) (omega arith)) (and_parts (nat_le (suc (length events)) (length events)) earlier was).0))
    (or_cases (is_crash_image contents (event ∷ events) image) (nat_le (suc (length events)) (length events) && earlier) h)
