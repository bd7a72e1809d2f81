-- one call more in the record of a disk's events
use Rattle.std.proofs.Common.{◌≡◌, ℕ, ◌+◌, ◌-◌, ◌≤◌, List, [], ◌∷◌, ◌++◌, length, take, drop, sym, ◌∙◌, ap, subst, arith, length-append}
use Rattle.std.specs.Prelude.{refl}
use Rattle.std.proofs.lemmas.List.{take-append-le, drop-append-le, take_all, length-drop, length-take-le, take-append-drop}
use Rattle.disk_trait.specs.Spliced.{spliced}
use Rattle.disk_trait.specs.Event.{Event, wrote, synced}
use Rattle.disk_trait.specs.Recorded.{Recorded, with_write, with_sync}
use Rattle.disk_trait.specs.AreWithin.{AreWithin}
use Rattle.disk_trait.specs.Undone.{undone}
use Rattle.disk_trait.specs.Noted.{events_onto, replaced_count}
use Rattle.disk_trait.specs.TornLaws.{length-spliced}
use Rattle.disk_trait.specs.declared.history.Call.{Call}
use Rattle.disk_trait.specs.declared.history.Call.TheVariants.{Wrote, Synced}

pub events_onto-synced : (earlier : List Event) (calls : List Call) (replaced : List ℕ) → events_onto earlier (calls ++ Synced ∷ []) replaced ≡ synced ∷ events_onto earlier calls replaced
events_onto-synced earlier [] replaced = refl
events_onto-synced earlier (Wrote at n ∷ calls) replaced = events_onto-synced (wrote at (take n replaced) ∷ earlier) calls (drop n replaced)
events_onto-synced earlier (Synced ∷ calls) replaced = events_onto-synced (synced ∷ earlier) calls replaced

module _ (at : ℕ) (bytes : List ℕ) where
  pub events_onto-wrote : (earlier : List Event) (calls : List Call) (replaced : List ℕ) → replaced_count calls ≡ length replaced
      → events_onto earlier (calls ++ Wrote at (length bytes) ∷ []) (replaced ++ bytes) ≡ wrote at bytes ∷ events_onto earlier calls replaced
  events_onto-wrote earlier [] [] whole = ap (λ (l : List ℕ). wrote at l ∷ earlier) (take_all (length bytes) bytes (omega arith))
  events_onto-wrote earlier [] (x ∷ replaced) whole = absurd (omega (arith, whole))
  events_onto-wrote earlier (Wrote to n ∷ calls) replaced whole =
      ap (λ (l : List ℕ). events_onto (wrote to l ∷ earlier) (calls ++ Wrote at (length bytes) ∷ []) (drop n (replaced ++ bytes))) (take-append-le n replaced bytes (omega arith))
      ∙ ap (λ (l : List ℕ). events_onto (wrote to (take n replaced) ∷ earlier) (calls ++ Wrote at (length bytes) ∷ []) l) (drop-append-le n replaced bytes (omega arith))
      ∙ events_onto-wrote (wrote to (take n replaced) ∷ earlier) calls (drop n replaced) (omega (arith, whole, length-drop n replaced))
  events_onto-wrote earlier (Synced ∷ calls) replaced whole = events_onto-wrote (synced ∷ earlier) calls replaced whole

pub replaced_count-wrote : (at n : ℕ) (calls : List Call) → replaced_count (calls ++ Wrote at n ∷ []) ≡ replaced_count calls + n
replaced_count-wrote at n [] = omega arith
replaced_count-wrote at n (Wrote to m ∷ calls) = omega (arith, replaced_count-wrote at n calls)
replaced_count-wrote at n (Synced ∷ calls) = replaced_count-wrote at n calls

pub replaced_count-synced : (calls : List Call) → replaced_count (calls ++ Synced ∷ []) ≡ replaced_count calls
replaced_count-synced [] = refl
replaced_count-synced (Wrote at n ∷ calls) = ap (λ (k : ℕ). n + k) (replaced_count-synced calls)
replaced_count-synced (Synced ∷ calls) = replaced_count-synced calls

-- what a record tells
abbrev recorded : List Call → List ℕ → ℕ → ℕ → Recorded
recorded calls replaced calls_left bytes_left = record { events = events_onto [] calls replaced; calls_left = calls_left; bytes_left = bytes_left }

module _ (calls calls' : List Call) (replaced : List ℕ) (is : calls' ≡ calls ++ Synced ∷ []) where
  pub sync_whole : replaced_count calls ≡ length replaced → replaced_count calls' ≡ length replaced
  sync_whole whole = ap replaced_count is ∙ replaced_count-synced calls ∙ whole

  pub sync_recorded : (calls_left bytes_left : ℕ) → recorded calls' replaced (calls_left - 1) bytes_left ≡ with_sync (recorded calls replaced calls_left bytes_left)
  sync_recorded calls_left bytes_left =
      ap (λ (es : List Event). record { events = es; calls_left = calls_left - 1; bytes_left = bytes_left }) (ap (λ (l : List Call). events_onto [] l replaced) is ∙ events_onto-synced [] calls replaced)

module _ (calls calls' : List Call) (replaced replaced' : List ℕ) (at : ℕ) (bytes : List ℕ) (is : calls' ≡ calls ++ Wrote at (length bytes) ∷ []) (is' : replaced' ≡ replaced ++ bytes) (whole : replaced_count calls ≡ length replaced) where
  pub write_whole : replaced_count calls' ≡ length replaced'
  write_whole = omega (arith, ap replaced_count is, replaced_count-wrote at (length bytes) calls, ap (length {A = ℕ}) is', length-append replaced bytes)

  pub write_recorded : (calls_left bytes_left : ℕ) → recorded calls' replaced' (calls_left - 1) (bytes_left - length bytes) ≡ with_write (recorded calls replaced calls_left bytes_left) at bytes
  write_recorded calls_left bytes_left =
      ap (λ (es : List Event). record { events = es; calls_left = calls_left - 1; bytes_left = bytes_left - length bytes })
      (ap (λ (l : List Call). events_onto [] l replaced') is ∙ ap (λ (r : List ℕ). events_onto [] (calls ++ Wrote at (length bytes) ∷ []) r) is' ∙ events_onto-wrote at bytes [] calls replaced whole)

-- the last call, a write
module _ (calls earlier : List Call) (replaced : List ℕ) (at count : ℕ) (is : calls ≡ earlier ++ Wrote at count ∷ []) (whole : replaced_count calls ≡ length replaced) where
  total : replaced_count earlier + count ≡ length replaced
  total = sym (replaced_count-wrote at count earlier) ∙ sym (ap replaced_count is) ∙ whole

  pub last_count : count ≤ length replaced
  last_count = omega (arith, total)

  pub earlier_whole : replaced_count earlier ≡ length (take (length replaced - count) replaced)
  earlier_whole = omega (arith, total, length-take-le (length replaced - count) replaced (omega arith))

  pub last_length : length (drop (length replaced - count) replaced) ≡ count
  last_length = omega (arith, total, length-drop (length replaced - count) replaced)

  pub last_event : events_onto [] calls replaced ≡ wrote at (drop (length replaced - count) replaced) ∷ events_onto [] earlier (take (length replaced - count) replaced)
  last_event =
      ap (λ (l : List Call). events_onto [] l replaced) is
      ∙ ap (λ (r : List ℕ). events_onto [] (earlier ++ Wrote at count ∷ []) r) (sym (take-append-drop (length replaced - count) replaced))
      ∙ ap (λ (n : ℕ). events_onto [] (earlier ++ Wrote at n ∷ []) (take (length replaced - count) replaced ++ drop (length replaced - count) replaced)) (sym last_length)
      ∙ events_onto-wrote at (drop (length replaced - count) replaced) [] earlier (take (length replaced - count) replaced) earlier_whole

  -- and its bytes, put back
  module _ (image : List ℕ) (within : AreWithin (length image) (events_onto [] calls replaced)) where
    split_within : AreWithin (length image) (wrote at (drop (length replaced - count) replaced) ∷ events_onto [] earlier (take (length replaced - count) replaced))
    split_within = subst (λ (es : List Event). AreWithin (length image) es) last_event within

    pub last_fits : (bytes : List ℕ) → bytes ≡ drop (length replaced - count) replaced → at + length bytes ≤ length image
    last_fits bytes back = subst (λ (b : List ℕ). at + length b ≤ length image) (sym back) split_within.0

    module _ (before bytes image' : List ℕ) (front : before ≡ take (length replaced - count) replaced) (back : bytes ≡ drop (length replaced - count) replaced) (put : image' ≡ spliced image at bytes) where
      pub left_whole : replaced_count earlier ≡ length before
      left_whole = earlier_whole ∙ sym (ap length front)

      pub left_within : AreWithin (length image') (events_onto [] earlier before)
      left_within =
          subst (λ (n : ℕ). AreWithin n (events_onto [] earlier before)) (sym (ap length put ∙ length-spliced image at bytes (last_fits bytes back)))
          (subst (λ (r : List ℕ). AreWithin (length image) (events_onto [] earlier r)) (sym front) split_within.1)

      pub left_same : undone image' (events_onto [] earlier before) ≡ undone image (events_onto [] calls replaced)
      left_same =
          ap (λ (i : List ℕ). undone i (events_onto [] earlier before)) (put ∙ ap (λ (b : List ℕ). spliced image at b) back)
          ∙ ap (λ (r : List ℕ). undone (spliced image at (drop (length replaced - count) replaced)) (events_onto [] earlier r)) front
          ∙ sym (ap (λ (es : List Event). undone image es) last_event)
