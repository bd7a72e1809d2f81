-- A row in its bytes: what was written is read and has no fault, and what has no fault was written.
use Rattle.std.proofs.Common.{◌≡◌, ℕ, suc, ◌+◌, ◌*◌, ◌/◌, ◌%◌, ◌<◌, ◌≤◌, ◌^◌, Bool, true, false, cond, eqb, List, [], ◌∷◌, ◌++◌, length, take, drop, get_or, refl, sym, ap, ◌∙◌, append_assoc, drop-cons, length-drop, arith}
use Rattle.std.specs.Prelude.{None, sum_by, nat_lt}
use Rattle.std.specs.Int.{bytes_high_first}
use Rattle.std.proofs.Math.Nat.{pow-suc}
use Rattle.std.proofs.lemmas.Bool.{eqb-true, eqb-false, ltb-true, lt-ltb}
use Rattle.std.proofs.lemmas.List.{drop_at, take-append-drop, drop-drop}
use Rattle.std.proofs.lemmas.List.Sums.{sum_by-cons}
use Rattle.block_model.specs.declared.value.Kind.{Kind}
use Rattle.block_model.specs.declared.value.Value.{Value}
use Rattle.block_model.specs.RowSize.{value_size, row_size}
use Rattle.index_layout.specs.Fields.{AreBytes, number_of, number-bytes, AreBytes-drop}
use Rattle.page_layout.specs.RowBytes.{StoredRow, IsRow, HaveKinds, AreValues, column_bytes, columns_bytes, head_bytes, row_bytes, null_bits, is_null}
use Rattle.page_layout.specs.RowReading.{column_in, columns_in, row_in}
use Rattle.page_layout.specs.RowFaults.{first_of, shifted, fault_unless, column_fault, columns_fault, row_fault}
use Rattle.page_layout.proofs.Numbers.{field-bytes, field-small}
use Rattle.page_layout.proofs.Columns.{length-column, length-columns}
use Rattle.page_layout.proofs.Values.{column_again, column_passes, column_takes}
use Rattle.page_layout.proofs.Faults.{first_none, holds-unless, shifted-none}

-- the lowest null bit, and the others

lowest_bit : (b : Bool) (n : ℕ) → eqb ((cond b 1 0 + 2 * n) % 2) 1 ≡ b
lowest_bit true n = let one : (1 + 2 * n) % 2 ≡ 1 = omega arith in ap (λ (k : ℕ). eqb k 1) one
lowest_bit false n = let none : (0 + 2 * n) % 2 ≡ 0 = omega arith in ap (λ (k : ℕ). eqb k 1) none

other_bits : (b : Bool) (n : ℕ) → (cond b 1 0 + 2 * n) / 2 ≡ n
other_bits true n = let e : (1 + 2 * n) / 2 ≡ n = omega arith in e
other_bits false n = let e : (0 + 2 * n) / 2 ≡ n = omega arith in e

by_bit : (bits : ℕ) (b : Bool) → eqb (bits % 2) 1 ≡ b → cond b 1 0 + 2 * (bits / 2) ≡ bits
by_bit bits true e = let one : bits % 2 ≡ 1 = eqb-true (bits % 2) 1 e in omega arith
by_bit bits false e = let other = eqb-false (bits % 2) 1 e in omega arith

whole-bits : (bits : ℕ) → cond (eqb (bits % 2) 1) 1 0 + 2 * (bits / 2) ≡ bits
whole-bits bits = by_bit bits (eqb (bits % 2) 1) refl

-- the values are read from their columns
pub columns_again : (ks : List Kind) (vs : List Value) → HaveKinds ks vs → AreValues vs → columns_in ks (null_bits vs) (columns_bytes ks vs) ≡ vs
unfolding columns_in columns_bytes null_bits
columns_again [] [] h f = refl
columns_again [] (v ∷ vs) h f = absurd h
columns_again (k ∷ ks) [] h f = absurd h
columns_again (k ∷ ks) (v ∷ vs) h f =
    let bits = cond (is_null v) 1 0 + 2 * null_bits vs in
    let bytes = column_bytes k v ++ columns_bytes ks vs in
    ap (λ (b : Bool). column_in b k bytes ∷ columns_in ks (bits / 2) (drop (value_size k) bytes)) (lowest_bit (is_null v) (null_bits vs))
    ∙ (λ i. column_again k v (columns_bytes ks vs) h.0 f.0 i ∷ columns_in ks (other_bits (is_null v) (null_bits vs) i) (drop_at (column_bytes k v) (columns_bytes ks vs) (value_size k) (length-column k v h.0) i))
    ∙ ap (λ (l : List Value). v ∷ l) (columns_again ks vs h.1 f.1)

-- and their columns have no fault
pub columns_pass : (ks : List Kind) (vs : List Value) → HaveKinds ks vs → AreValues vs → columns_fault ks (null_bits vs) (columns_bytes ks vs) ≡ None
unfolding columns_fault columns_bytes null_bits
columns_pass [] [] h f = refl
columns_pass [] (v ∷ vs) h f = absurd h
columns_pass (k ∷ ks) [] h f = absurd h
columns_pass (k ∷ ks) (v ∷ vs) h f =
    let bits = cond (is_null v) 1 0 + 2 * null_bits vs in
    let bytes = column_bytes k v ++ columns_bytes ks vs in
    ap (λ (b : Bool). first_of (column_fault b k bytes) (shifted (value_size k) (columns_fault ks (bits / 2) (drop (value_size k) bytes)))) (lowest_bit (is_null v) (null_bits vs))
    ∙ (λ i. first_of (column_passes k v (columns_bytes ks vs) h.0 f.0 i) (shifted (value_size k) (columns_fault ks (other_bits (is_null v) (null_bits vs) i) (drop_at (column_bytes k v) (columns_bytes ks vs) (value_size k) (length-column k v h.0) i))))
    ∙ ap (shifted (value_size k)) (columns_pass ks vs h.1 f.1)

-- what stands in columns that have no fault
pub record ColumnsTaken (ks : List Kind) (bits : ℕ) (bytes : List ℕ) (vs : List Value) : Type 0 where
  pub have : HaveKinds ks vs
  pub are : AreValues vs
  pub nulled : bits < 2 ^ length ks → null_bits vs ≡ bits
  pub written : columns_bytes ks vs ≡ bytes

no_bytes : (l : List ℕ) → length l ≡ 0 → [] ≡ l
no_bytes [] e = refl
no_bytes (x ∷ l) e = absurd (omega arith)

-- columns that have no fault are those of their values
pub columns_take : (ks : List Kind) (bits : ℕ) (bytes : List ℕ) → length bytes ≡ sum_by value_size ks → AreBytes bytes → columns_fault ks bits bytes ≡ None → ColumnsTaken ks bits bytes (columns_in ks bits bytes)
unfolding columns_in columns_fault columns_bytes null_bits
columns_take [] bits bytes len small f = record { have = tt; are = tt; nulled = λ below. let zero_bits : bits ≡ 0 = omega arith in sym zero_bits; written = no_bytes bytes len }
columns_take (k ∷ ks) bits bytes len small f =
    let sizes : length bytes ≡ value_size k + sum_by value_size ks = len ∙ sum_by-cons value_size k ks in
    let parts = first_none (column_fault (eqb (bits % 2) 1) k bytes) (shifted (value_size k) (columns_fault ks (bits / 2) (drop (value_size k) bytes))) f in
    let one = column_takes (eqb (bits % 2) 1) k bytes (omega arith) small parts.0 in
    let rest = columns_take ks (bits / 2) (drop (value_size k) bytes) (omega (arith, length-drop (value_size k) bytes)) (AreBytes-drop (value_size k) bytes small) (shifted-none (value_size k) _ parts.1) in
    record {
      have = (one.has, rest.have);
      are = (one.is, rest.are);
      nulled = λ below.
          let half : bits / 2 < 2 ^ length ks = omega (arith, pow-suc 2 (length ks)) in
          (λ i. cond (one.nulled i) 1 0 + 2 * rest.nulled half i) ∙ whole-bits bits;
      written = ap (λ (t : List ℕ). column_bytes k (column_in (eqb (bits % 2) 1) k bytes) ++ t) rest.written ∙ one.written;
    }

-- a row is read from its bytes
pub row_again : (ks : List Kind) (row : StoredRow) → IsRow ks row → row_in ks (row_bytes ks row) ≡ row
unfolding row_in row_bytes head_bytes
row_again ks row h =
    (λ i. record {
      id = record { t = number-bytes 8 row.id.t h.t i; k = number-bytes 4 row.id.k h.k i };
      deleter = number-bytes 8 row.deleter h.deleter i;
      values = columns_again ks row.values h.columns h.values i;
    })

bits_small : (ks : List Kind) (vs : List Value) → HaveKinds ks vs → null_bits vs < 2 ^ length ks
unfolding null_bits
bits_small [] [] h = omega arith
bits_small [] (v ∷ vs) h = absurd h
bits_small (k ∷ ks) [] h = absurd h
bits_small (k ∷ ks) (v ∷ vs) h = bit-more (is_null v) (null_bits vs) (length ks) (bits_small ks vs h.1)
  where
    bit-more : (b : Bool) (n m : ℕ) → n < 2 ^ m → cond b 1 0 + 2 * n < 2 ^ suc m
    bit-more true n m below = omega (arith, pow-suc 2 m)
    bit-more false n m below = omega (arith, pow-suc 2 m)

-- a row has no fault
pub row_passes : (ks : List Kind) (row : StoredRow) → IsRow ks row → row_fault ks (row_bytes ks row) ≡ None
unfolding row_fault row_bytes head_bytes
row_passes ks row h =
    ap (λ (b : Bool). first_of (fault_unless b 21) (shifted 22 (columns_fault ks (null_bits row.values) (columns_bytes ks row.values)))) (lt-ltb (null_bits row.values) (2 ^ length ks) (bits_small ks row.values h.columns))
    ∙ ap (shifted 22) (columns_pass ks row.values h.columns h.values)

pub length-row : (ks : List Kind) (row : StoredRow) → HaveKinds ks row.values → length (row_bytes ks row) ≡ row_size ks
unfolding row_bytes head_bytes
length-row ks row h = omega (arith, length-columns ks row.values h)

-- the same for the bytes, and what is read from them
pub record RowTaken (ks : List Kind) (bytes : List ℕ) (row : StoredRow) : Type 0 where
  pub is : IsRow ks row
  pub written : row_bytes ks row ≡ bytes

head_whole : (c : List ℕ) → 21 ≤ length c → (((take 8 c ++ take 4 (drop 8 c)) ++ take 8 (drop 12 c)) ++ (get_or c 20 0 ∷ [])) ++ drop 21 c ≡ c
head_whole c long =
    append_assoc ((take 8 c ++ take 4 (drop 8 c)) ++ take 8 (drop 12 c)) (get_or c 20 0 ∷ []) (drop 21 c)
    ∙ ap (λ (l : List ℕ). ((take 8 c ++ take 4 (drop 8 c)) ++ take 8 (drop 12 c)) ++ l) (sym (drop-cons c 20 0 (omega arith)))
    ∙ append_assoc (take 8 c ++ take 4 (drop 8 c)) (take 8 (drop 12 c)) (drop 20 c)
    ∙ ap (λ (l : List ℕ). (take 8 c ++ take 4 (drop 8 c)) ++ (take 8 (drop 12 c) ++ l)) (sym (drop-drop 8 12 c))
    ∙ ap (λ (l : List ℕ). (take 8 c ++ take 4 (drop 8 c)) ++ l) (take-append-drop 8 (drop 12 c))
    ∙ append_assoc (take 8 c) (take 4 (drop 8 c)) (drop 12 c)
    ∙ ap (λ (l : List ℕ). take 8 c ++ (take 4 (drop 8 c) ++ l)) (sym (drop-drop 4 8 c))
    ∙ ap (λ (l : List ℕ). take 8 c ++ l) (take-append-drop 4 (drop 8 c))
    ∙ take-append-drop 8 c

-- the head's fields, and what stands behind them
pub head_again : (x : ℕ) (c : List ℕ) (first t k d bits : ℕ) (columns : List ℕ) → 21 ≤ length c → AreBytes c
    → first ≡ x → t ≡ number_of (take 8 c) → k ≡ number_of (take 4 (drop 8 c)) → d ≡ number_of (take 8 (drop 12 c)) → bits ≡ get_or c 20 0 → columns ≡ drop 21 c
    → first ∷ ((((bytes_high_first 8 t ++ bytes_high_first 4 k) ++ bytes_high_first 8 d) ++ (bits ∷ [])) ++ columns) ≡ x ∷ c
head_again x c first t k d bits columns long small ef et ek ed eb ec =
    let t_is : bytes_high_first 8 t ≡ take 8 c = ap (bytes_high_first 8) et ∙ field-bytes 8 c (omega arith) small in
    let k_is : bytes_high_first 4 k ≡ take 4 (drop 8 c) = ap (bytes_high_first 4) ek ∙ field-bytes 4 (drop 8 c) (omega (arith, length-drop 8 c)) (AreBytes-drop 8 c small) in
    let d_is : bytes_high_first 8 d ≡ take 8 (drop 12 c) = ap (bytes_high_first 8) ed ∙ field-bytes 8 (drop 12 c) (omega (arith, length-drop 12 c)) (AreBytes-drop 12 c small) in
    (λ i. ef i ∷ ((((t_is i ++ k_is i) ++ d_is i) ++ (eb i ∷ [])) ++ ec i)) ∙ ap (λ (l : List ℕ). x ∷ l) (head_whole c long)

-- bytes of a slot in use that have no fault are those of their row
pub row_takes : (ks : List Kind) (bytes : List ℕ) → length bytes ≡ row_size ks → AreBytes bytes → get_or bytes 0 0 ≡ 1 → row_fault ks bytes ≡ None → RowTaken ks bytes (row_in ks bytes)
unfolding row_fault row_in row_bytes head_bytes
row_takes ks [] len small used f = absurd (omega arith)
row_takes ks (x ∷ c) len small used f =
    let long : 21 ≤ length c = omega arith in
    let tight : AreBytes c = λ i. small (suc i) in
    let bits = get_or c 20 0 in
    let parts = first_none (fault_unless (nat_lt bits (2 ^ length ks)) 21) (shifted 22 (columns_fault ks bits (drop 21 c))) f in
    let low : bits < 2 ^ length ks = ltb-true bits (2 ^ length ks) (holds-unless (nat_lt bits (2 ^ length ks)) 21 parts.0) in
    let behind = columns_take ks bits (drop 21 c) (omega (arith, length-drop 21 c)) (AreBytes-drop 21 c tight) (shifted-none 22 _ parts.1) in
    record {
      is = record {
        t = field-small 8 c (omega arith) tight;
        k = field-small 4 (drop 8 c) (omega (arith, length-drop 8 c)) (AreBytes-drop 8 c tight);
        deleter = field-small 8 (drop 12 c) (omega (arith, length-drop 12 c)) (AreBytes-drop 12 c tight);
        columns = behind.have;
        values = behind.are;
      };
      written = head_again x c 1 (number_of (take 8 c)) (number_of (take 4 (drop 8 c))) (number_of (take 8 (drop 12 c))) (null_bits (columns_in ks bits (drop 21 c))) (columns_bytes ks (columns_in ks bits (drop 21 c))) long tight (sym used) refl refl refl (behind.nulled low) behind.written;
    }
