-- the room of a change, once it was made
use Rattle.std.proofs.Common.{◌≡◌, ◌⊎◌, ⊎_elim, ℕ, ◌+◌, ◌≤◌, ◌||◌, Bool, true, false, List, length, sym, ap, subst, ◌∙◌, arith}
use Rattle.block_model.specs.declared.place.Place.{Place}
use Rattle.store_layout.specs.DiskLayout.{DiskLayout}
use Rattle.recovery.specs.Log.{Log}
use Rattle.wal_record.specs.Waiting.{Waiting, no_changes}
use Rattle.recovery.specs.Safe.{is_marked}
use Rattle.page_store.specs.LoggedState.{LoggedState}
use Rattle.page_store.specs.Room.{HasLogRoom, HasRoom, IsEmptied, bytes_with}

-- a change takes a whole page more than its bytes at most
most_with : (begun : Bool) (size : ℕ) → bytes_with begun size ≤ 8198 + size
most_with true size = omega arith
most_with false size = omega arith

-- an empty log has room for any
room_emptied : (log : Log) (begun : Bool) (size : ℕ) → size ≤ 32768 → log.used ≡ 0 → 131072 ≤ log.room → HasRoom log no_changes (bytes_with begun size)
room_emptied log begun size few used room = record { buffer = omega (arith, most_with begun size, few); area = omega (arith, most_with begun size, few, used, room) }

-- there is room for as many bytes as the page needs, or nothing waits and the log is empty
pub room_made : {D : Type 0} (old mid new : LoggedState D) (place : Place) (begins : Bool) (size need : ℕ) → size ≤ 32768 → need ≡ bytes_with (is_marked old.marks old.layout place || begins) size → mid.marks ≡ old.marks → mid.layout ≡ old.layout
    → length mid.waiting.bytes + need ≤ 65536 → HasLogRoom need mid new ⊎ IsEmptied new → 131072 ≤ new.log.room → HasRoom new.log new.waiting (bytes_with (is_marked new.marks new.layout place || begins) size)
room_made {D} old mid new place begins size need few is marks layout buffer made room = ⊎_elim
    (λ (kept : HasLogRoom need mid new).
    let same : bytes_with (is_marked new.marks new.layout place || begins) size ≡ need =
    ap (λ (s : LoggedState D). bytes_with (is_marked s.marks s.layout place || begins) size) kept.0
    ∙ ap (λ (m : List Bool). bytes_with (is_marked m mid.layout place || begins) size) marks
    ∙ ap (λ (l : DiskLayout). bytes_with (is_marked old.marks l place || begins) size) layout ∙ sym is in
    let waits = ap (λ (s : LoggedState D). length s.waiting.bytes) kept.0 in
    subst (HasRoom new.log new.waiting) (sym same) (record { buffer = omega (arith, waits, buffer); area = kept.1 }))
    (λ (emptied : IsEmptied new). subst (λ (w : Waiting). HasRoom new.log w (bytes_with (is_marked new.marks new.layout place || begins) size)) (sym emptied.0) (room_emptied new.log (is_marked new.marks new.layout place || begins) size few emptied.1 room))
    made
