-- what a crash may leave of writes that aren't synced; events come with the newest first
use Rattle.std.specs.Prelude.{ℕ, zero, suc, ◌+◌, Bool, true, false, ◌&&◌, ◌||◌, ◌==◌, nat_le, nat_lt, List, [], ◌∷◌, length, slice_index}
use Rattle.disk_trait.specs.Event.{Event, wrote, synced, contents_before}

-- a write since the last sync that succeeded covers the byte at offset k
abbrev pub is_pending : List Event → ℕ → Bool
is_pending [] k = false
is_pending (wrote at replaced ∷ events) k = (nat_le at k && nat_lt k (at + length replaced)) || is_pending events k
is_pending (synced ∷ events) k = false

-- at each offset below n the bytes are the same, or any are allowed
abbrev pub agrees_below : ℕ → (ℕ → Bool) → List ℕ → List ℕ → Bool
agrees_below zero free xs ys = true
agrees_below (suc n) free xs ys = (free n || slice_index xs n == slice_index ys n) && agrees_below n free xs ys

-- as long as the contents, and the same but at pending bytes
abbrev pub is_crash_image : List ℕ → List Event → List ℕ → Bool
is_crash_image contents events image = (length image == length contents) && agrees_below (length contents) (is_pending events) image contents

-- an image now, or at an earlier moment from t on; a moment is the number of events up to it
abbrev pub was_crash_image : ℕ → List ℕ → List Event → List ℕ → Bool
was_crash_image t contents [] image = is_crash_image contents [] image
was_crash_image t contents (event ∷ events) image =
    is_crash_image contents (event ∷ events) image || (nat_le t (length events) && was_crash_image t (contents_before event contents) events image)
