-- the bytes of a tuple, written and read
use Rattle.std.proofs.Common.{◌≡◌, ℕ, ◌-◌, ◌^◌, ◌<◌, ◌≤◌, Bool, true, false, not, List, [], ◌∷◌, ◌++◌, length, get_or, set, take, drop, refl, sym, ap, ◌∙◌, arith}
use Rattle.std.proofs.lemmas.Bool.{false≢true}
use Rattle.std.proofs.lemmas.List.{append-nil, drop_all, drop_more, get_or_at, length-append, set_at, take_at}
use Rattle.std.specs.Int.{bytes_high_first}
use borrow.Rule.Slice.PartMut.{put_mid}
use mathlib.Core.Bool.{beq}
use Rattle.byte_fields.specs.Fields.{field_at, number_of as spelt, number-bytes, length-number, put_at}
use Rattle.range_tuple.specs.TupleBytes.{columns_bytes, flags_of, tuple_bytes}
use Rattle.range_tuple.specs.Tuples.{Tuple}

-- ---- flags

pub flags_small : (placeholder empty : Bool) → flags_of placeholder empty ≤ 3
flags_small true true = omega arith
flags_small true false = omega arith
flags_small false true = omega arith
flags_small false false = omega arith

pub flags-injective : (p e q f : Bool) → flags_of p e ≡ flags_of q f → (p ≡ q) × (e ≡ f)
flags-injective true true true true same = (refl, refl)
flags-injective true true true false same = absurd (omega (arith, same))
flags-injective true true false true same = absurd (omega (arith, same))
flags-injective true true false false same = absurd (omega (arith, same))
flags-injective true false true true same = absurd (omega (arith, same))
flags-injective true false true false same = (refl, refl)
flags-injective true false false true same = absurd (omega (arith, same))
flags-injective true false false false same = absurd (omega (arith, same))
flags-injective false true true true same = absurd (omega (arith, same))
flags-injective false true true false same = absurd (omega (arith, same))
flags-injective false true false true same = (refl, refl)
flags-injective false true false false same = absurd (omega (arith, same))
flags-injective false false true true same = absurd (omega (arith, same))
flags-injective false false true false same = absurd (omega (arith, same))
flags-injective false false false true same = absurd (omega (arith, same))
flags-injective false false false false same = (refl, refl)

pub same_flags : (a b : Bool) → not (beq a b) ≡ false → a ≡ b
same_flags true true same = refl
same_flags true false same = absurd (false≢true (sym same))
same_flags false true same = absurd (false≢true (sym same))
same_flags false false same = refl

pub other_flags : (a b : Bool) → not (beq a b) ≡ true → a ≡ b → ⊥
other_flags true true other same = false≢true other
other_flags true false other same = false≢true (sym same)
other_flags false true other same = false≢true same
other_flags false false other same = false≢true other

-- ---- reading

-- the fields in the bytes of a tuple
pub record HasFields (t : Tuple) (bytes : List ℕ) : Type 0 where
  pub long : 5 ≤ length bytes
  pub range_there : spelt (field_at bytes 0 4) ≡ t.range
  pub flags_there : get_or bytes 4 0 ≡ flags_of t.placeholder t.empty
  pub columns_there : drop 5 bytes ≡ columns_bytes t.columns

pub has_fields : (t : Tuple) (bytes : List ℕ) → t.range < 2 ^ 32 → bytes ≡ tuple_bytes t → HasFields t bytes
unfolding tuple_bytes
has_fields t bytes fits is =
    let front = bytes_high_first 4 t.range in
    let size = length-number 4 t.range in
    let flags = flags_of t.placeholder t.empty in
    let back = columns_bytes t.columns in
    record {
      long = omega (arith, ap length is, length-append front (flags ∷ back), size);
      range_there = ap spelt (ap (take 4) is ∙ take_at front (flags ∷ back) 4 size) ∙ number-bytes 4 t.range (omega (arith, fits));
      flags_there = ap (λ (bs : List ℕ). get_or bs 4 0) is ∙ get_or_at front flags back 0 4 size;
      columns_there = ap (drop 5) is;
    }

-- bytes whose fields were read are those of the tuple
pub fields_front : (bytes : List ℕ) (range flags : ℕ) → 5 ≤ length bytes → flags ≡ get_or bytes 4 0 → put_at bytes 0 4 range ≡ bytes → bytes ≡ bytes_high_first 4 range ++ flags ∷ drop 5 bytes
unfolding put_at
fields_front bytes range flags long is again =
    sym again ∙ ap (λ (back : List ℕ). bytes_high_first 4 range ++ back) (drop_more bytes 4 0 (omega (arith, long)) ∙ ap (λ (b : ℕ). b ∷ drop 5 bytes) (sym is))

-- ---- writing

-- the range and the flags written before the columns
pub written_tuple : (out back : List ℕ) (range flags : ℕ) → 5 ≤ length out → set (put_at (put_mid 5 (length out - 5) out back) 0 4 range) 4 flags ≡ bytes_high_first 4 range ++ flags ∷ back
unfolding put_at
written_tuple [] back range flags long = absurd (omega (arith, long))
written_tuple (a ∷ []) back range flags long = absurd (omega (arith, long))
written_tuple (a ∷ b ∷ []) back range flags long = absurd (omega (arith, long))
written_tuple (a ∷ b ∷ c ∷ []) back range flags long = absurd (omega (arith, long))
written_tuple (a ∷ b ∷ c ∷ d ∷ []) back range flags long = absurd (omega (arith, long))
written_tuple (a ∷ b ∷ c ∷ d ∷ e ∷ out) back range flags long =
    let none : drop (length (a ∷ b ∷ c ∷ d ∷ e ∷ out) - 5) out ≡ [] = drop_all (length (a ∷ b ∷ c ∷ d ∷ e ∷ out) - 5) out (omega arith) in
    ap (λ (rest : List ℕ). set (bytes_high_first 4 range ++ e ∷ (back ++ rest)) 4 flags) none ∙ ap (λ (rest : List ℕ). set (bytes_high_first 4 range ++ e ∷ rest) 4 flags) (append-nil back) ∙ set_at (bytes_high_first 4 range) e back flags 4 (length-number 4 range)
