-- Entries of a map: what has no fault was written, what was written has no fault, and entries are read from their bytes.
use Rattle.std.proofs.Common.{◌≡◌, ℕ, zero, suc, ◌+◌, ◌-◌, ◌*◌, ◌<◌, ◌≤◌, ◌^◌, Bool, true, false, cond, eqb, List, [], ◌∷◌, ◌++◌, length, take, drop, get_or, refl, sym, ap, subst, ◌∙◌, append_assoc, length-append, length-drop, arith}
use Rattle.std.specs.Prelude.{Option, None, Some, replicate}
use Rattle.std.specs.Int.{bytes_high_first}
use Rattle.std.proofs.lemmas.Bool.{eqb-true, eqb-false, ne_eqb}
use Rattle.std.proofs.lemmas.List.{drop_at, drop-drop, length-take-le, nil_from_length, take-append-drop}
use Rattle.byte_fields.specs.Fields.{AreBytes, AreBytes-drop, AreBytes-take, number_of, number-bytes, number-fits, bytes-number}
use Rattle.block_model.specs.declared.place.Spot.{Spot}
use Rattle.index_layout.specs.IndexPages.{IsEntry, AreEntries, entry_bytes, entries_bytes}
use Rattle.index_layout.specs.IndexFaults.{first_of, shifted, zeros_fault, entries_fault}
use Rattle.index_layout.specs.IndexReading.{entry_in, entries_in}
use Rattle.index_layout.proofs.Faults.{first_none, shifted-none, shifted-twice, zeros_take, zeros_pass}
use Rattle.index_layout.proofs.SlotLists.{take_more_of}

pub length-entry_bytes : (entry : Option Spot) → length (entry_bytes entry) ≡ 8
length-entry_bytes None = refl
length-entry_bytes (Some spot) = refl

pub length-entries : (entries : List (Option Spot)) → length (entries_bytes entries) ≡ 8 * length entries
unfolding entries_bytes
length-entries [] = refl
length-entries (entry ∷ entries) = omega (arith, length-append (entry_bytes entry) (entries_bytes entries), length-entry_bytes entry, length-entries entries)

-- read again

entry_again : (entry : Option Spot) (rest : List ℕ) → IsEntry entry → entry_in (entry_bytes entry ++ rest) ≡ entry
unfolding number_of
entry_again None rest is = refl
entry_again (Some spot) rest is =
    let block : number_of (bytes_high_first 4 spot.block) ≡ spot.block = number-bytes 4 spot.block (omega (arith, is.0)) in
    let slot : number_of (bytes_high_first 2 spot.slot) ≡ spot.slot = number-bytes 2 spot.slot (omega (arith, is.1)) in
    let some : eqb (spot.block + spot.slot) 0 ≡ false = ne_eqb (spot.block + spot.slot) 0 (λ e. absurd (omega (arith, is.2))) in
    (λ i. cond (eqb (block i + slot i) 0) None (Some (record { block = block i; slot = slot i }))) ∙ ap (λ (t : Bool). cond t None (Some spot)) some

pub entries_again : (entries : List (Option Spot)) (rest : List ℕ) → AreEntries entries → entries_in (length entries) (entries_bytes entries ++ rest) ≡ entries
unfolding entries_in entries_bytes
entries_again [] rest are = refl
entries_again (entry ∷ entries) rest are =
    let own = entry_bytes entry in
    let next = entries_bytes entries ++ rest in
    ap (λ (l : List ℕ). entry_in l ∷ entries_in (length entries) (drop 8 l)) (append_assoc own (entries_bytes entries) rest)
    ∙ (λ i. entry_again entry next are.0 i ∷ entries_in (length entries) (drop_at own next 8 (length-entry_bytes entry) i))
    ∙ ap (λ (l : List (Option Spot)). entry ∷ l) (entries_again entries rest are.1)

-- without a fault

zeros_behind : (entry : Option Spot) (rest : List ℕ) → take 2 (drop 6 (entry_bytes entry ++ rest)) ≡ replicate 2 0
zeros_behind None rest = refl
zeros_behind (Some spot) rest = refl

pub entries-pass : (entries : List (Option Spot)) → entries_fault (length entries) (entries_bytes entries) ≡ None
unfolding entries_fault entries_bytes
entries-pass [] = refl
entries-pass (entry ∷ entries) =
    let own = entry_bytes entry in
    let next = entries_bytes entries in
    (λ i. first_of (shifted 6 (zeros_fault (zeros_behind entry next i))) (shifted 8 (entries_fault (length entries) (drop_at own next 8 (length-entry_bytes entry) i))))
    ∙ ap (λ (o : Option ℕ). first_of (shifted 6 o) (shifted 8 (entries_fault (length entries) next))) (zeros_pass 2)
    ∙ ap (shifted 8) (entries-pass entries)

-- n bytes are those of their number
field-bytes : (n : ℕ) (bytes : List ℕ) → n ≤ length bytes → AreBytes bytes → bytes_high_first n (number_of (take n bytes)) ≡ take n bytes
field-bytes n bytes long small =
    ap (λ (k : ℕ). bytes_high_first k (number_of (take n bytes))) (sym (length-take-le n bytes long)) ∙ bytes-number (take n bytes) (AreBytes-take n bytes small)

field-small : (n : ℕ) (bytes : List ℕ) → n ≤ length bytes → AreBytes bytes → number_of (take n bytes) < 256 ^ n
field-small n bytes long small = subst (λ (k : ℕ). number_of (take n bytes) < 256 ^ k) (length-take-le n bytes long) (number-fits (take n bytes) (AreBytes-take n bytes small))

-- an entry by its two numbers
by_numbers : (block slot : ℕ) (none : Bool) → eqb (block + slot) 0 ≡ none → block < 2 ^ 32 → slot < 2 ^ 16
    → IsEntry (cond none None (Some (record { block = block; slot = slot }))) × (entry_bytes (cond none None (Some (record { block = block; slot = slot }))) ≡ bytes_high_first 4 block ++ bytes_high_first 2 slot ++ replicate 2 0)
by_numbers block slot true e big small =
    let sum : block + slot ≡ 0 = eqb-true (block + slot) 0 e in
    let b : 0 ≡ block = omega arith in
    let s : 0 ≡ slot = omega arith in
    (tt, λ i. bytes_high_first 4 (b i) ++ bytes_high_first 2 (s i) ++ replicate 2 0)
by_numbers block slot false e big small = ((big, small, grind (arith, eqb-false (block + slot) 0 e)), refl)

entry_takes : (bytes : List ℕ) → 8 ≤ length bytes → AreBytes bytes → zeros_fault (take 2 (drop 6 bytes)) ≡ None → IsEntry (entry_in bytes) × (entry_bytes (entry_in bytes) ≡ take 8 bytes)
entry_takes bytes long small f =
    let block = number_of (take 4 bytes) in
    let slot = number_of (take 2 (drop 4 bytes)) in
    let high : block < 256 ^ 4 = field-small 4 bytes (omega arith) small in
    let low : slot < 256 ^ 2 = field-small 2 (drop 4 bytes) (omega (arith, length-drop 4 bytes)) (AreBytes-drop 4 bytes small) in
    let own = by_numbers block slot (eqb (block + slot) 0) refl (omega arith) (omega arith) in
    let zeros : replicate 2 0 ≡ take 2 (drop 6 bytes) = sym (zeros_take (take 2 (drop 6 bytes)) f ∙ ap (λ (k : ℕ). replicate k 0) (length-take-le 2 (drop 6 bytes) (omega (arith, length-drop 6 bytes)))) in
    let first : bytes_high_first 4 block ≡ take 4 bytes = field-bytes 4 bytes (omega arith) small in
    let second : bytes_high_first 2 slot ≡ take 2 (drop 4 bytes) = field-bytes 2 (drop 4 bytes) (omega (arith, length-drop 4 bytes)) (AreBytes-drop 4 bytes small) in
    (own.0, own.1 ∙ (λ i. first i ++ second i ++ zeros i) ∙ ap (λ (l : List ℕ). l ++ take 2 (drop 6 bytes)) (sym (take_more_of 4 2 bytes)) ∙ sym (take_more_of 6 2 bytes))

pub entries-take : (n : ℕ) (bytes : List ℕ) → length bytes ≡ n * 8 → AreBytes bytes → entries_fault n bytes ≡ None → AreEntries (entries_in n bytes) × (bytes ≡ entries_bytes (entries_in n bytes))
unfolding entries_fault entries_in entries_bytes
entries-take zero bytes long small f = (tt, nil_from_length bytes (omega arith))
entries-take (suc n) bytes long small f =
    let parts = first_none (shifted 6 (zeros_fault (take 2 (drop 6 bytes)))) (shifted 8 (entries_fault n (drop 8 bytes))) f in
    let one = entry_takes bytes (omega arith) small (shifted-none 6 _ parts.0) in
    let rest = entries-take n (drop 8 bytes) (omega (arith, length-drop 8 bytes)) (AreBytes-drop 8 bytes small) (shifted-none 8 _ parts.1) in
    ((one.0, rest.0), sym (take-append-drop 8 bytes) ∙ (λ i. sym one.1 i ++ rest.1 i))

pub length-entries_in : (n : ℕ) (bytes : List ℕ) → length (entries_in n bytes) ≡ n
unfolding entries_in
length-entries_in zero bytes = refl
length-entries_in (suc n) bytes = ap suc (length-entries_in n (drop 8 bytes))

-- an entry that is read from its own eight bytes
pub entry_read : (n i : ℕ) (bytes : List ℕ) → i < n → get_or (entries_in n bytes) i None ≡ entry_in (drop (i * 8) bytes)
unfolding entries_in
entry_read zero i bytes below = absurd (omega arith)
entry_read (suc n) zero bytes below = ap (λ (k : ℕ). entry_in (drop k bytes)) (let e : 0 ≡ 0 * 8 = omega arith in e)
entry_read (suc n) (suc i) bytes below =
    entry_read n i (drop 8 bytes) (omega arith) ∙ ap entry_in (drop-drop (i * 8) 8 bytes ∙ ap (λ (k : ℕ). drop k bytes) (let e : 8 + i * 8 ≡ suc i * 8 = omega arith in e))

-- the entries are walked one by one

pub entries-start : (n : ℕ) (body : List ℕ) → shifted (0 * 8) (entries_fault (n - 0) (drop (0 * 8) body)) ≡ entries_fault n body
entries-start n body =
    let all : n - 0 ≡ n = omega arith in
    ap (λ (k : ℕ). shifted (0 * 8) (entries_fault k (drop (0 * 8) body))) all ∙ at_zero (entries_fault n body)
  where
    at_zero : (o : Option ℕ) → shifted 0 o ≡ o
    at_zero None = refl
    at_zero (Some at) = ap Some (let e : 0 + at ≡ at = omega arith in e)

pub entries-stop : (m n at from width fault : ℕ) (body : List ℕ) (all : Option ℕ) → m ≡ suc n → from ≡ at + 6 → width ≡ 2 → shifted at (entries_fault m (drop at body)) ≡ all → Some fault ≡ zeros_fault (take width (drop from body)) → Some (at + 6 + fault) ≡ all
unfolding entries_fault
entries-stop m n at from width fault body all more place two so_far found =
    let here : Some fault ≡ zeros_fault (take 2 (drop 6 (drop at body))) = found ∙ (λ i. zeros_fault (take (two i) (drop (place i) body))) ∙ ap (λ (l : List ℕ). zeros_fault (take 2 l)) (sym (drop-drop 6 at body)) in
    let place : at + 6 + fault ≡ at + (6 + fault) = omega arith in
    ap Some place
    ∙ ap (λ (o : Option ℕ). shifted at (first_of (shifted 6 o) (shifted 8 (entries_fault n (drop 8 (drop at body)))))) here
    ∙ ap (λ (k : ℕ). shifted at (entries_fault k (drop at body))) (sym more)
    ∙ so_far

pub entries-next : (m n at from width next : ℕ) (body : List ℕ) (all : Option ℕ) → m ≡ suc n → from ≡ at + 6 → width ≡ 2 → next ≡ at + 8 → shifted at (entries_fault m (drop at body)) ≡ all → None ≡ zeros_fault (take width (drop from body)) → shifted next (entries_fault n (drop next body)) ≡ all
unfolding entries_fault
entries-next m n at from width next body all more place two on so_far found =
    let here : None ≡ zeros_fault (take 2 (drop 6 (drop at body))) = found ∙ (λ i. zeros_fault (take (two i) (drop (place i) body))) ∙ ap (λ (l : List ℕ). zeros_fault (take 2 l)) (sym (drop-drop 6 at body)) in
    ap (λ (k : ℕ). shifted k (entries_fault n (drop k body))) on
    ∙ sym (shifted-twice at 8 (entries_fault n (drop (at + 8) body)))
    ∙ ap (λ (l : List ℕ). shifted at (shifted 8 (entries_fault n l))) (sym (drop-drop 8 at body))
    ∙ ap (λ (o : Option ℕ). shifted at (first_of (shifted 6 o) (shifted 8 (entries_fault n (drop 8 (drop at body)))))) here
    ∙ ap (λ (k : ℕ). shifted at (entries_fault k (drop at body))) (sym more)
    ∙ so_far

pub entries-end : (m at : ℕ) (body : List ℕ) (all : Option ℕ) → m ≡ 0 → shifted at (entries_fault m (drop at body)) ≡ all → None ≡ all
unfolding entries_fault
entries-end m at body all none so_far = ap (λ (k : ℕ). shifted at (entries_fault k (drop at body))) (sym none) ∙ so_far
