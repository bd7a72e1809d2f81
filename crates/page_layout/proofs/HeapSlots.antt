-- Slots and the zeros behind them: what has no fault was written, and what was written has no fault.
use Rattle.std.proofs.Common.{◌≡◌, ℕ, zero, suc, ◌+◌, ◌-◌, ◌*◌, ◌/◌, ◌%◌, ◌<◌, ◌≤◌, ◌^◌, Bool, true, false, not, cond, eqb, List, [], ◌∷◌, ◌++◌, length, take, drop, get_or, refl, sym, ap, ◌∙◌, append_assoc, length-append, length-drop, arith}
use Rattle.std.specs.Prelude.{Option, None, Some, sum_by, replicate, length}
use Rattle.std.specs.List.{prefix_len}
use Rattle.std.proofs.Math.Nat.{pow-suc, suc-mul}
use Rattle.std.proofs.lemmas.Bool.{eqb-true, ltb-false, le-ltb}
use Rattle.std.proofs.lemmas.List.{replicate-append-replicate, length-replicate, take_at, drop_at, take-append-drop, length-take-le}
use Rattle.std.proofs.lemmas.List.Sums.{sum_by-cons}
use Rattle.block_model.specs.declared.value.Kind.{Kind}
use Rattle.block_model.specs.declared.value.Value.TheVariants.{Null}
use Rattle.block_model.specs.RowSize.{value_size, row_size}
use Rattle.index_layout.specs.Fields.{AreBytes, number_of, AreBytes-drop, AreBytes-take}
use Rattle.page_layout.specs.RowBytes.{StoredRow, column_bytes, columns_bytes, head_bytes, row_bytes}
use Rattle.page_layout.specs.RowReading.{column_in, columns_in, row_in}
use Rattle.page_layout.specs.RowFaults.{first_of, shifted, fault_unless, column_fault, columns_fault, row_fault, free_fault, slot_fault}
use Rattle.page_layout.specs.PageContents.{Slot, IsSlot, AreSlots, slot_bytes, slots_bytes}
use Rattle.page_layout.specs.PageFaults.{zeros_fault, slots_fault}
use Rattle.page_layout.specs.SlotLaws.{none_of}
use Rattle.page_layout.proofs.Faults.{first_none, holds-unless, shifted-none}
use Rattle.page_layout.proofs.Values.{column_passes, zero-number}
use Rattle.page_layout.proofs.Rows.{row_takes, head_again, columns_take, row_passes, length-row}

-- zeros

front_zeros : List ℕ → ℕ
front_zeros bytes = prefix_len (λ byte. not (not (eqb byte 0))) bytes

one_zero : (b : ℕ) (bytes : List ℕ) (t : Bool) → eqb b 0 ≡ t → length (b ∷ bytes) ≤ cond (not (not t)) (1 + front_zeros bytes) 0 → (length bytes ≤ front_zeros bytes → bytes ≡ replicate (length bytes) 0) → b ∷ bytes ≡ replicate (length (b ∷ bytes)) 0
one_zero b bytes true e le rest = λ i. eqb-true b 0 e i ∷ rest (omega arith) i
one_zero b bytes false e le rest = absurd (omega arith)

all_zero : (bytes : List ℕ) → length bytes ≤ front_zeros bytes → bytes ≡ replicate (length bytes) 0
unfolding front_zeros
all_zero [] le = refl
all_zero (b ∷ bytes) le = one_zero b bytes (eqb b 0) refl le (all_zero bytes)

-- bytes of which each is zero
pub zeros_take : (bytes : List ℕ) → zeros_fault bytes ≡ None → bytes ≡ replicate (length bytes) 0
unfolding front_zeros
zeros_take bytes f = all_zero bytes (ltb-false _ _ (none_of _ _ f))

zeros_long : (n : ℕ) → prefix_len (λ byte. not (not (eqb byte 0))) (replicate n 0) ≡ n
zeros_long zero = refl
zeros_long (suc n) = omega (arith, zeros_long n)

pub zeros_pass : (n : ℕ) → zeros_fault (replicate n 0) ≡ None
zeros_pass n = ap (λ (b : Bool). cond b (Some (prefix_len (λ byte. not (not (eqb byte 0))) (replicate n 0))) None) (le-ltb _ _ (omega (arith, zeros_long n, length-replicate {A = ℕ} n 0)))

pow_pos : (n : ℕ) → 0 < 2 ^ n
pow_pos zero = omega arith
pow_pos (suc n) = let p = pow_pos n in omega (arith, pow-suc 2 n)

-- n nulls

odd : (n : ℕ) → (2 ^ suc n - 1) % 2 ≡ 1
odd n = let p : 0 < 2 ^ n = pow_pos n in omega (arith, pow-suc 2 n)

half : (n : ℕ) → (2 ^ suc n - 1) / 2 ≡ 2 ^ n - 1
half n = let p : 0 < 2 ^ n = pow_pos n in omega (arith, pow-suc 2 n)

nulls_written : (ks : List Kind) (m : ℕ) (bytes : List ℕ) → length ks ≤ m → columns_bytes ks (columns_in ks (2 ^ m - 1) bytes) ≡ replicate (sum_by value_size ks) 0
unfolding columns_bytes columns_in
nulls_written [] m bytes few = refl
nulls_written (k ∷ ks) zero bytes few = absurd (omega arith)
nulls_written (k ∷ ks) (suc m) bytes few =
    ap (λ (b : ℕ). column_bytes k (column_in (eqb b 1) k bytes) ++ columns_bytes ks (columns_in ks ((2 ^ suc m - 1) / 2) (drop (value_size k) bytes))) (odd m)
    ∙ ap (λ (b : ℕ). replicate (value_size k) 0 ++ columns_bytes ks (columns_in ks b (drop (value_size k) bytes))) (half m)
    ∙ ap (λ (l : List ℕ). replicate (value_size k) 0 ++ l) (nulls_written ks m (drop (value_size k) bytes) (omega arith))
    ∙ replicate-append-replicate (value_size k) (sum_by value_size ks) 0
    ∙ ap (λ (n : ℕ). replicate n 0) (sym (sum_by-cons value_size k ks))

nulls_pass : (ks : List Kind) (m : ℕ) → length ks ≤ m → columns_fault ks (2 ^ m - 1) (replicate (sum_by value_size ks) 0) ≡ None
unfolding columns_fault
nulls_pass [] m few = refl
nulls_pass (k ∷ ks) zero few = absurd (omega arith)
nulls_pass (k ∷ ks) (suc m) few =
    let rest = replicate (sum_by value_size ks) 0 in
    let bytes = replicate (value_size k) 0 ++ rest in
    ap (columns_fault (k ∷ ks) (2 ^ suc m - 1)) (ap (λ (n : ℕ). replicate n 0) (sum_by-cons value_size k ks) ∙ sym (replicate-append-replicate (value_size k) (sum_by value_size ks) 0))
    ∙ (λ i. first_of (column_fault (eqb (odd m i) 1) k bytes) (shifted (value_size k) (columns_fault ks (half m i) (drop_at (replicate (value_size k) 0) rest (value_size k) (length-replicate (value_size k) 0) i))))
    ∙ ap (λ (o : Option ℕ). first_of o (shifted (value_size k) (columns_fault ks (2 ^ m - 1) rest))) (column_passes k Null rest refl tt)
    ∙ ap (shifted (value_size k)) (nulls_pass ks m (omega arith))

-- what has no fault is a slot
record SlotTaken (ks : List Kind) (bytes : List ℕ) (slot : Slot) : Type 0 where
  is : IsSlot ks slot
  written : slot_bytes ks slot ≡ bytes

free_takes : (ks : List Kind) (bytes : List ℕ) → length ks ≤ 8 → length bytes ≡ row_size ks → AreBytes bytes → get_or bytes 0 0 ≡ 0 → free_fault ks bytes ≡ None → replicate (row_size ks) 0 ≡ bytes
unfolding free_fault
free_takes ks [] few len small first f = absurd (omega arith)
free_takes ks (x ∷ c) few len small first f =
    let long : 21 ≤ length c = omega arith in
    let tight : AreBytes c = λ i. small (suc i) in
    let size = sum_by value_size ks in
    let columns = shifted 22 (columns_fault ks 255 (drop 21 c)) in
    let four = first_of (fault_unless (eqb (get_or c 20 0) 0) 21) columns in
    let three = first_of (fault_unless (eqb (number_of (take 8 (drop 12 c))) 0) 13) four in
    let two = first_of (fault_unless (eqb (number_of (take 4 (drop 8 c))) 0) 9) three in
    let a = first_none (fault_unless (eqb (number_of (take 8 c)) 0) 1) two f in
    let b = first_none (fault_unless (eqb (number_of (take 4 (drop 8 c))) 0) 9) three a.1 in
    let d = first_none (fault_unless (eqb (number_of (take 8 (drop 12 c))) 0) 13) four b.1 in
    let e = first_none (fault_unless (eqb (get_or c 20 0) 0) 21) columns d.1 in
    let t : number_of (take 8 c) ≡ 0 = eqb-true _ 0 (holds-unless _ 1 a.0) in
    let k : number_of (take 4 (drop 8 c)) ≡ 0 = eqb-true _ 0 (holds-unless _ 9 b.0) in
    let gone : number_of (take 8 (drop 12 c)) ≡ 0 = eqb-true _ 0 (holds-unless _ 13 d.0) in
    let bits : get_or c 20 0 ≡ 0 = eqb-true _ 0 (holds-unless _ 21 e.0) in
    let taken = columns_take ks 255 (drop 21 c) (omega (arith, length-drop 21 c)) (AreBytes-drop 21 c tight) (shifted-none 22 _ e.1) in
    sym (replicate-append-replicate 22 size 0)
    ∙ ap (λ (l : List ℕ). replicate 22 0 ++ l) (sym (nulls_written ks 8 (drop 21 c) few))
    ∙ head_again x c 0 0 0 0 0 (columns_bytes ks (columns_in ks 255 (drop 21 c))) long tight (sym first) (sym t) (sym k) (sym gone) (sym bits) taken.written

free_passes : (ks : List Kind) → length ks ≤ 8 → slot_fault ks (replicate (row_size ks) 0) ≡ None
unfolding slot_fault free_fault
free_passes ks few =
    ap (slot_fault ks) (sym (replicate-append-replicate 22 (sum_by value_size ks) 0))
    ∙ (λ i. first_of (fault_unless (zero-number 8 (omega arith) i) 1) (first_of (fault_unless (zero-number 4 (omega arith) i) 9) (first_of (fault_unless (zero-number 8 (omega arith) i) 13) (first_of None (shifted 22 (nulls_pass ks 8 few i))))))

slot_by : (ks : List Kind) (bytes : List ℕ) (used free : Bool) → eqb (get_or bytes 0 0) 1 ≡ used → eqb (get_or bytes 0 0) 0 ≡ free → length ks ≤ 8 → length bytes ≡ row_size ks → AreBytes bytes
    → cond used (row_fault ks bytes) (cond free (free_fault ks bytes) (Some 0)) ≡ None → (slot : Slot) × SlotTaken ks bytes slot
slot_by ks bytes true free eu ef few len small f =
    let taken = row_takes ks bytes len small (eqb-true _ 1 eu) f in
    (Some (row_in ks bytes), record { is = taken.is; written = taken.written })
slot_by ks bytes false true eu ef few len small f = (None, record { is = tt; written = free_takes ks bytes few len small (eqb-true _ 0 ef) f })
slot_by ks bytes false false eu ef few len small f = absurd cc

slot_takes : (ks : List Kind) (bytes : List ℕ) → length ks ≤ 8 → length bytes ≡ row_size ks → AreBytes bytes → slot_fault ks bytes ≡ None → (slot : Slot) × SlotTaken ks bytes slot
unfolding slot_fault
slot_takes ks bytes few len small f = slot_by ks bytes (eqb (get_or bytes 0 0) 1) (eqb (get_or bytes 0 0) 0) refl refl few len small f

row_slot : (ks : List Kind) (row : StoredRow) → slot_fault ks (row_bytes ks row) ≡ row_fault ks (row_bytes ks row)
unfolding slot_fault row_bytes head_bytes
row_slot ks row = refl

slot_passes : (ks : List Kind) (slot : Slot) → length ks ≤ 8 → IsSlot ks slot → slot_fault ks (slot_bytes ks slot) ≡ None
slot_passes ks None few is = free_passes ks few
slot_passes ks (Some row) few is = row_slot ks row ∙ row_passes ks row is

pub length-slot : (ks : List Kind) (slot : Slot) → IsSlot ks slot → length (slot_bytes ks slot) ≡ row_size ks
length-slot ks None is = length-replicate (row_size ks) 0
length-slot ks (Some row) is = length-row ks row is.columns

pub length-slots : (ks : List Kind) (slots : List Slot) → AreSlots ks slots → length (slots_bytes ks slots) ≡ length slots * row_size ks
unfolding slots_bytes
length-slots ks [] are = omega arith
length-slots ks (slot ∷ slots) are = omega (arith, suc-mul (length slots) (row_size ks), length-append (slot_bytes ks slot) (slots_bytes ks slots), length-slot ks slot are.0, length-slots ks slots are.1)

-- slots, and as many zeros behind them
pub record SlotsTaken (ks : List Kind) (n : ℕ) (bytes : List ℕ) (slots : List Slot) (zeros : ℕ) : Type 0 where
  pub counted : length slots ≡ n
  pub are : AreSlots ks slots
  pub written : slots_bytes ks slots ++ replicate zeros 0 ≡ bytes

-- what has no fault is slots and zeros
pub slots-take : (ks : List Kind) (n : ℕ) (bytes : List ℕ) → length ks ≤ 8 → n * row_size ks ≤ length bytes → AreBytes bytes → slots_fault ks n bytes ≡ None
    → (slots : List Slot) × ((zeros : ℕ) × SlotsTaken ks n bytes slots zeros)
unfolding slots_fault slots_bytes
slots-take ks zero bytes few room small f = ([], (length bytes, record { counted = refl; are = tt; written = sym (zeros_take bytes f) }))
slots-take ks (suc n) bytes few room small f =
    let r = row_size ks in
    let more : n * r + r ≤ length bytes = omega (arith, suc-mul n r) in
    let parts = first_none (slot_fault ks (take r bytes)) (shifted r (slots_fault ks n (drop r bytes))) f in
    let one = slot_takes ks (take r bytes) few (length-take-le r bytes (omega arith)) (AreBytes-take r bytes small) parts.0 in
    let rest = slots-take ks n (drop r bytes) few (omega (arith, length-drop r bytes)) (AreBytes-drop r bytes small) (shifted-none r _ parts.1) in (
      one.0 ∷ rest.0,
      (
        rest.1.0,
        record {
          counted = ap suc rest.1.1.counted;
          are = (one.1.is, rest.1.1.are);
          written = append_assoc (slot_bytes ks one.0) (slots_bytes ks rest.0) (replicate rest.1.0 0) ∙ (λ i. one.1.written i ++ rest.1.1.written i) ∙ take-append-drop r bytes;
        },
      ),
    )

-- slots and zeros have no fault
pub slots-pass : (ks : List Kind) (slots : List Slot) (zeros : ℕ) → length ks ≤ 8 → AreSlots ks slots → slots_fault ks (length slots) (slots_bytes ks slots ++ replicate zeros 0) ≡ None
unfolding slots_fault slots_bytes
slots-pass ks [] zeros few are = zeros_pass zeros
slots-pass ks (slot ∷ slots) zeros few are =
    let r = row_size ks in
    let own = slot_bytes ks slot in
    let rest = slots_bytes ks slots ++ replicate zeros 0 in
    ap (slots_fault ks (suc (length slots))) (append_assoc own (slots_bytes ks slots) (replicate zeros 0))
    ∙ (λ i. first_of (slot_fault ks (take_at own rest r (length-slot ks slot are.0) i)) (shifted r (slots_fault ks (length slots) (drop_at own rest r (length-slot ks slot are.0) i))))
    ∙ ap (λ (o : Option ℕ). first_of o (shifted r (slots_fault ks (length slots) rest))) (slot_passes ks slot few are.0)
    ∙ ap (shifted r) (slots-pass ks slots zeros few are.1)
