-- Where bytes that no change begins can't go on.
use Rattle.std.proofs.Common.{◌≡◌, ◌⊎◌, inl, inr, ℕ, suc, ◌+◌, ◌<◌, ◌≤◌, Bool, true, false, ◌&&◌, cond, leb, List, [], ◌∷◌, ◌++◌, length, get_or, take, true≢false, Some, None, refl, sym, ap, subst, ◌∙◌, append_assoc, arith}
use Rattle.std.proofs.lemmas.Bool.{leb-true, le-leb}
use Rattle.std.proofs.lemmas.List.{take_all}
use Rattle.block_model.specs.declared.place.Place.{Place}
use Rattle.byte_fields.specs.Fields.{AreBytes}
use Rattle.wal_record.specs.Changes.{LoggedChange, FullPage, PageStart, RowPut, RowMark, RowsDrop, TuplePut, TupleReplace, TupleDrop, Evacuate, MapPage, MapSet, MetaSet, StatusSet, IsChange}
use Rattle.wal_record.specs.ChangeBytes.{IsFront, fault_place, bytes_of, place_bytes}
use Rattle.wal_record.specs.Reading.{place_at, page_change_at, change_at}
use Rattle.wal_record.proofs.Lawful.{bind_none, AreBytes-rest}
use Rattle.wal_record.proofs.Changes.{page_takes}
use Rattle.wal_record.proofs.Fields.{place_law}

-- where nothing is read behind a tag that a change has, a change's bytes go on from there
place_grows : (tag : ℕ) (l : List ℕ) → AreBytes l → 1 ≤ tag → tag ≤ 13 → (place_at l ≡ None) ⊎ ((x : Place × List ℕ) × (place_at l ≡ Some x) × (page_change_at tag x.0 x.1 ≡ None))
    → (c : LoggedChange) × IsChange c × IsFront (tag ∷ l) (bytes_of c)
place_grows tag l small some most (inl none) =
    let place = place_law.grows l small none in
    let carried = (page_takes tag place.0 [] place.1 (λ i. omega arith)).begun some most in
    (carried.0, carried.1, (place.2 ++ carried.2, carried.3 ∙ ap (λ (t : List ℕ). tag ∷ (t ++ carried.2)) place.3 ∙ ap (λ (t : List ℕ). tag ∷ t) (append_assoc l place.2 carried.2)))
place_grows tag l small some most (inr x) =
    let place = place_law.takes l x.0.0 x.0.1 small x.1 in
    let behind : AreBytes x.0.1 = AreBytes-rest (place_bytes x.0.0) x.0.1 (subst (λ (t : List ℕ). AreBytes t) place.1 small) in
    let carried = (page_takes tag x.0.0 x.0.1 place.0 behind).grown x.2 some most in
    (carried.0, carried.1, (carried.2, carried.3 ∙ ap (λ (t : List ℕ). tag ∷ (t ++ carried.2)) (sym place.1)))

and_parts : (a b : Bool) → (a && b) ≡ true → (a ≡ true) × (b ≡ true)
and_parts true b e = (refl, e)
and_parts false b e = absurd cc

any_change : (c : LoggedChange) × IsChange c × IsFront [] (bytes_of c)
any_change = (Evacuate (record { relation = 0; block = 0 }), record { sizes = tt; block = omega arith; numbers = tt }, (bytes_of (Evacuate (record { relation = 0; block = 0 })), refl))

-- a change's bytes go on from those before the fault
goes_on_by : (tag : ℕ) (l : List ℕ) (b : Bool) → (leb 1 tag && leb tag 13) ≡ b → AreBytes (tag ∷ l) → change_at (tag ∷ l) ≡ None
    → (c : LoggedChange) × IsChange c × IsFront (take (cond b (length (tag ∷ l)) 0) (tag ∷ l)) (bytes_of c)
unfolding change_at
goes_on_by tag l true is small read =
    let parts = and_parts (leb 1 tag) (leb tag 13) is in
    let grown = place_grows tag l (λ i. small (suc i)) (leb-true 1 tag parts.0) (leb-true tag 13 parts.1) (bind_none (place_at l) (λ place. page_change_at tag place.0 place.1) read) in
    subst (λ (t : List ℕ). (c : LoggedChange) × IsChange c × IsFront t (bytes_of c)) (sym (take_all (length (tag ∷ l)) (tag ∷ l) (omega arith))) grown
goes_on_by tag l false is small read = any_change

pub fault_goes_on : (l : List ℕ) → AreBytes l → change_at l ≡ None → (c : LoggedChange) × IsChange c × IsFront (take (fault_place l) l) (bytes_of c)
fault_goes_on [] small read = any_change
fault_goes_on (tag ∷ l) small read = goes_on_by tag l (leb 1 tag && leb tag 13) refl small read

-- the first byte of a change is a tag
tag_of : (c : LoggedChange) → (1 ≤ get_or (bytes_of c) 0 0) × (get_or (bytes_of c) 0 0 ≤ 13)
unfolding bytes_of
tag_of (FullPage place bytes) = (omega arith, omega arith)
tag_of (PageStart place kind) = (omega arith, omega arith)
tag_of (RowPut place slot bytes) = (omega arith, omega arith)
tag_of (RowMark place slot deleter) = (omega arith, omega arith)
tag_of (RowsDrop place slots) = (omega arith, omega arith)
tag_of (TuplePut place slot bytes) = (omega arith, omega arith)
tag_of (TupleReplace place slot bytes) = (omega arith, omega arith)
tag_of (TupleDrop place slots) = (omega arith, omega arith)
tag_of (Evacuate place) = (omega arith, omega arith)
tag_of (MapPage place) = (omega arith, omega arith)
tag_of (MapSet place entry spot) = (omega arith, omega arith)
tag_of (MetaSet place maps) = (omega arith, omega arith)
tag_of (StatusSet place entry status) = (omega arith, omega arith)

leb_both : (tag : ℕ) → 1 ≤ tag → tag ≤ 13 → (leb 1 tag && leb tag 13) ≡ true
leb_both tag some most = rw (le-leb 1 tag some, le-leb tag 13 most) refl

-- and none's go on from those with the byte at the fault
stops_by : (tag : ℕ) (l : List ℕ) (b : Bool) → (leb 1 tag && leb tag 13) ≡ b → cond b (length (tag ∷ l)) 0 < length (tag ∷ l)
    → (c : LoggedChange) → IsFront (take (cond b (length (tag ∷ l)) 0 + 1) (tag ∷ l)) (bytes_of c) → ⊥
stops_by tag l true is within c on = omega arith
stops_by tag l false is within c on =
    let first : get_or (bytes_of c) 0 0 ≡ tag = ap (λ (t : List ℕ). get_or t 0 0) on.1 in
    let range = tag_of c in
    true≢false (sym (leb_both tag (omega arith) (omega arith)) ∙ is)

pub fault_stops : (l : List ℕ) → fault_place l < length l → (c : LoggedChange) → IsFront (take (fault_place l + 1) l) (bytes_of c) → ⊥
fault_stops [] within c on = omega arith
fault_stops (tag ∷ l) within c on = stops_by tag l (leb 1 tag && leb tag 13) refl within c on
