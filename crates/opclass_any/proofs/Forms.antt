-- what is known of a class and a summary whose forms are known
use Rattle.std.proofs.Common.{◌≡◌, ℕ, ◌+◌, ◌*◌, ◌≤◌, Bool, List, length, Result, Ok, refl, ap, sym, ◌∙◌, subst}
use Rattle.std.specs.Prelude.{IsOk}
use Rattle.opclass_api.specs.declared.class.Malformed.{Malformed}
use Rattle.block_model.specs.declared.value.Value.{Value}
use Rattle.opclass_minmax.specs.declared.class.MinMax.{MinMax}
use Rattle.opclass_minmax.specs.Bounds.{Bounds}
use Rattle.opclass_multi.specs.Kept.{Kept}
use Rattle.opclass_inclusion.specs.declared.span_class.SpanHull.{SpanHull}
use Rattle.opclass_inclusion.specs.declared.net_class.NetHull.{NetHull}
use Rattle.opclass_inclusion.specs.declared.span_summary.SpanSummary.{SpanSummary}
use Rattle.opclass_inclusion.specs.declared.net_summary.NetSummary.{NetSummary}
use Rattle.opclass_bloom.specs.Parameters.{Parameters}
use Rattle.opclass_minmax.specs as minmax
use Rattle.opclass_multi.specs as multi
use Rattle.opclass_inclusion.specs as inclusion
use Rattle.opclass_bloom.specs as bloom
use Rattle.opclass_any.specs.AnyClass.{takes, is_of, bytes_of, greatest_size, kept_as, read_of}
use Rattle.opclass_any.specs.declared.classes.AnyClass.{AnyClass}
use Rattle.opclass_any.specs.declared.classes.AnyClass.TheVariants as forms
use Rattle.opclass_any.specs.declared.classes.AnySummary.{AnySummary}
use Rattle.opclass_any.specs.declared.classes.AnySummary.TheVariants as kept

-- ---- the five forms

-- what a summary of the class has inside
abbrev pub Inside : AnyClass → Type 0
Inside (forms.MinMax class) = Bounds
Inside (forms.Multi limit) = Kept
Inside (forms.SpanHull class) = SpanSummary
Inside (forms.NetHull class) = NetSummary
Inside (forms.Bloom p) = List Bool

abbrev pub variant : (a : AnyClass) → Inside a → AnySummary
variant (forms.MinMax class) s = kept.MinMax s
variant (forms.Multi limit) s = kept.Multi s
variant (forms.SpanHull class) s = kept.SpanHull s
variant (forms.NetHull class) s = kept.NetHull s
variant (forms.Bloom p) s = kept.Bloom s

abbrev pub Lawful : (a : AnyClass) → Inside a → Type 0
Lawful (forms.MinMax class) s = minmax.Bounds.IsSummary s
Lawful (forms.Multi limit) s = multi.Kept.IsSummary limit s
Lawful (forms.SpanHull class) s = inclusion.SpanHulls.IsSummary s
Lawful (forms.NetHull class) s = inclusion.NetHulls.IsSummary s
Lawful (forms.Bloom p) s = bloom.Bits.IsSummary p s

abbrev pub bytes_inside : (a : AnyClass) → Inside a → List ℕ
bytes_inside (forms.MinMax class) s = minmax.Encoding.bytes_of s
bytes_inside (forms.Multi limit) s = multi.Encoding.bytes_of s
bytes_inside (forms.SpanHull class) s = inclusion.SpanEncoding.bytes_of s
bytes_inside (forms.NetHull class) s = inclusion.NetEncoding.bytes_of s
bytes_inside (forms.Bloom p) s = bloom.Encoding.bytes_of s

abbrev pub read_inside : (a : AnyClass) → List ℕ → Result (Inside a) ℕ
read_inside (forms.MinMax class) bytes = minmax.Reading.read_of bytes
read_inside (forms.Multi limit) bytes = multi.Reading.summary_in limit bytes
read_inside (forms.SpanHull class) bytes = inclusion.SpanReading.read_of bytes
read_inside (forms.NetHull class) bytes = inclusion.NetReading.read_of bytes
read_inside (forms.Bloom p) bytes = bloom.Reading.read_of p bytes

-- a summary of the variant of a class
record IsVariant (a : AnyClass) (s : AnySummary) : Type 0 where
  inside : Inside a
  lawful : Lawful a inside
  is : s ≡ variant a inside

-- ---- what is known in each form

law : (a : AnyClass) (t : Inside a) → is_of a (variant a t) → Lawful a t
unfolding is_of
law (forms.MinMax class) t of = of
law (forms.Multi limit) t of = of
law (forms.SpanHull class) t of = of
law (forms.NetHull class) t of = of
law (forms.Bloom p) t of = of

its_variant : (a : AnyClass) (s : AnySummary) → is_of a s → IsVariant a s
unfolding is_of
its_variant (forms.MinMax class) (kept.MinMax s) of = record { inside = s; lawful = of; is = refl }
its_variant (forms.Multi limit) (kept.Multi s) of = record { inside = s; lawful = of; is = refl }
its_variant (forms.SpanHull class) (kept.SpanHull s) of = record { inside = s; lawful = of; is = refl }
its_variant (forms.NetHull class) (kept.NetHull s) of = record { inside = s; lawful = of; is = refl }
its_variant (forms.Bloom p) (kept.Bloom s) of = record { inside = s; lawful = of; is = refl }
its_variant (forms.MinMax class) s of = absurd of
its_variant (forms.Multi limit) s of = absurd of
its_variant (forms.SpanHull class) s of = absurd of
its_variant (forms.NetHull class) s of = absurd of
its_variant (forms.Bloom p) s of = absurd of

variant_bytes : (a : AnyClass) (t : Inside a) → bytes_of a (variant a t) ≡ bytes_inside a t
unfolding bytes_of
variant_bytes (forms.MinMax class) t = refl
variant_bytes (forms.Multi limit) t = refl
variant_bytes (forms.SpanHull class) t = refl
variant_bytes (forms.NetHull class) t = refl
variant_bytes (forms.Bloom p) t = refl

variant_read : (a : AnyClass) (bytes : List ℕ) → read_of a bytes ≡ kept_as (variant a) (read_inside a bytes)
unfolding read_of
variant_read (forms.MinMax class) bytes = refl
variant_read (forms.Multi limit) bytes = refl
variant_read (forms.SpanHull class) bytes = refl
variant_read (forms.NetHull class) bytes = refl
variant_read (forms.Bloom p) bytes = refl

-- ---- and so in all

pub summary_of : (a form : AnyClass) (b : AnySummary) (s : Inside form) → a ≡ form → b ≡ variant form s → is_of a b → Lawful form s
summary_of a form b s same is of = law form s (subst (λ (b : AnySummary). is_of form b) is (subst (λ (a : AnyClass). is_of a b) same of))

pub value_of : (a form : AnyClass) (v : Value) → a ≡ form → takes a v → takes form v
value_of a form v same of = subst (λ (a : AnyClass). takes a v) same of

room : (a form : AnyClass) (n : ℕ) → a ≡ form → greatest_size a ≤ n → greatest_size form ≤ n
room a form n same fits = subst (λ (a : AnyClass). greatest_size a ≤ n) same fits

other : (a : AnyClass) (b : AnySummary) (form : AnyClass) → a ≡ form → is_of a b → ((s : Inside form) → b ≡ variant form s → ⊥) → ⊥
other a b form same of none = let v = its_variant form b (subst (λ (a : AnyClass). is_of a b) same of) in none v.inside v.is

bytes_are : (a : AnyClass) (s : AnySummary) (v : IsVariant a s) → bytes_of a s ≡ bytes_inside a v.inside
bytes_are a s v = ap (bytes_of a) v.is ∙ variant_bytes a v.inside

again : (a : AnyClass) (bytes : List ℕ) (new : Inside a) (result : Result (Unit {0}) Malformed) → ((t : Inside a) → Lawful a t → bytes ≡ bytes_inside a t → IsOk result × (new ≡ t)) → (s : AnySummary) → is_of a s → bytes ≡ bytes_of a s → IsOk result × (variant a new ≡ s)
again a bytes new result each s of is =
    let v = its_variant a s of in
    let found = each v.inside v.lawful (is ∙ bytes_are a s v) in
    (found.0, ap (variant a) found.1 ∙ sym v.is)

bound : (a : AnyClass) (n : ℕ) → ((t : Inside a) → Lawful a t → length (bytes_inside a t) ≤ n) → (s : AnySummary) → is_of a s → length (bytes_of a s) ≤ n
bound a n each s of =
    let v = its_variant a s of in
    subst (λ (bytes : List ℕ). length bytes ≤ n) (sym (bytes_are a s v)) (each v.inside v.lawful)

read : (a : AnyClass) → ((t : Inside a) → Lawful a t → read_inside a (bytes_inside a t) ≡ Ok t) → (s : AnySummary) → is_of a s → read_of a (bytes_of a s) ≡ Ok s
read a each s of =
    let v = its_variant a s of in
    ap (read_of a) (bytes_are a s v) ∙ variant_read a (bytes_inside a v.inside) ∙ ap (kept_as (variant a)) (each v.inside v.lawful) ∙ ap Ok (sym v.is)

-- in each form, a summary of another variant isnt of the class
pub record Others : Type 0 where
  pub minmax_other : (a : AnyClass) (b : AnySummary) (class : MinMax) → a ≡ forms.MinMax class → is_of a b → ((s : Bounds) → b ≡ kept.MinMax s → ⊥) → ⊥
  pub multi_other : (a : AnyClass) (b : AnySummary) (class : ℕ) → a ≡ forms.Multi class → is_of a b → ((s : Kept) → b ≡ kept.Multi s → ⊥) → ⊥
  pub span_other : (a : AnyClass) (b : AnySummary) (class : SpanHull) → a ≡ forms.SpanHull class → is_of a b → ((s : SpanSummary) → b ≡ kept.SpanHull s → ⊥) → ⊥
  pub net_other : (a : AnyClass) (b : AnySummary) (class : NetHull) → a ≡ forms.NetHull class → is_of a b → ((s : NetSummary) → b ≡ kept.NetHull s → ⊥) → ⊥
  pub bloom_other : (a : AnyClass) (b : AnySummary) (class : Parameters) → a ≡ forms.Bloom class → is_of a b → ((s : List Bool) → b ≡ kept.Bloom s → ⊥) → ⊥

pub others : Others
others = record {
  minmax_other = λ a b class. other a b (forms.MinMax class);
  multi_other = λ a b class. other a b (forms.Multi class);
  span_other = λ a b class. other a b (forms.SpanHull class);
  net_other = λ a b class. other a b (forms.NetHull class);
  bloom_other = λ a b class. other a b (forms.Bloom class);
}

-- how much room each form wants
pub record Rooms : Type 0 where
  pub minmax_room : (a : AnyClass) (class : MinMax) (n : ℕ) → a ≡ forms.MinMax class → greatest_size a ≤ n → 16 ≤ n
  pub multi_room : (a : AnyClass) (class : ℕ) (n : ℕ) → a ≡ forms.Multi class → greatest_size a ≤ n → (2 + 9 * class) ≤ n
  pub span_room : (a : AnyClass) (class : SpanHull) (n : ℕ) → a ≡ forms.SpanHull class → greatest_size a ≤ n → 18 ≤ n
  pub net_room : (a : AnyClass) (class : NetHull) (n : ℕ) → a ≡ forms.NetHull class → greatest_size a ≤ n → 7 ≤ n
  pub bloom_room : (a : AnyClass) (class : Parameters) (n : ℕ) → a ≡ forms.Bloom class → greatest_size a ≤ n → bloom.Encoding.size_of class ≤ n

pub rooms : Rooms
unfolding greatest_size
rooms = record {
  minmax_room = λ a class. room a (forms.MinMax class);
  multi_room = λ a class. room a (forms.Multi class);
  span_room = λ a class. room a (forms.SpanHull class);
  net_room = λ a class. room a (forms.NetHull class);
  bloom_room = λ a class. room a (forms.Bloom class);
}

-- what reads as each summary of the variant reads as each of the class
pub record Agains : Type 0 where
  pub minmax_again : (class : MinMax) (bytes : List ℕ) (new : Bounds) (result : Result (Unit {0}) Malformed) → ((t : Bounds) → minmax.Bounds.IsSummary t → bytes ≡ minmax.Encoding.bytes_of t → IsOk result × (new ≡ t)) → (s : AnySummary) → is_of (forms.MinMax class) s → bytes ≡ bytes_of (forms.MinMax class) s → IsOk result × (kept.MinMax new ≡ s)
  pub multi_again : (class : ℕ) (bytes : List ℕ) (new : Kept) (result : Result (Unit {0}) Malformed) → ((t : Kept) → multi.Kept.IsSummary class t → bytes ≡ multi.Encoding.bytes_of t → IsOk result × (new ≡ t)) → (s : AnySummary) → is_of (forms.Multi class) s → bytes ≡ bytes_of (forms.Multi class) s → IsOk result × (kept.Multi new ≡ s)
  pub span_again : (class : SpanHull) (bytes : List ℕ) (new : SpanSummary) (result : Result (Unit {0}) Malformed) → ((t : SpanSummary) → inclusion.SpanHulls.IsSummary t → bytes ≡ inclusion.SpanEncoding.bytes_of t → IsOk result × (new ≡ t)) → (s : AnySummary) → is_of (forms.SpanHull class) s → bytes ≡ bytes_of (forms.SpanHull class) s → IsOk result × (kept.SpanHull new ≡ s)
  pub net_again : (class : NetHull) (bytes : List ℕ) (new : NetSummary) (result : Result (Unit {0}) Malformed) → ((t : NetSummary) → inclusion.NetHulls.IsSummary t → bytes ≡ inclusion.NetEncoding.bytes_of t → IsOk result × (new ≡ t)) → (s : AnySummary) → is_of (forms.NetHull class) s → bytes ≡ bytes_of (forms.NetHull class) s → IsOk result × (kept.NetHull new ≡ s)
  pub bloom_again : (class : Parameters) (bytes : List ℕ) (new : List Bool) (result : Result (Unit {0}) Malformed) → ((t : List Bool) → bloom.Bits.IsSummary class t → bytes ≡ bloom.Encoding.bytes_of t → IsOk result × (new ≡ t)) → (s : AnySummary) → is_of (forms.Bloom class) s → bytes ≡ bytes_of (forms.Bloom class) s → IsOk result × (kept.Bloom new ≡ s)

pub agains : Agains
agains = record {
  minmax_again = λ class. again (forms.MinMax class);
  multi_again = λ class. again (forms.Multi class);
  span_again = λ class. again (forms.SpanHull class);
  net_again = λ class. again (forms.NetHull class);
  bloom_again = λ class. again (forms.Bloom class);
}

-- how long the bytes of each form are, and that they read again
pub record Sizes : Type 0 where
  pub minmax_bound : (class : MinMax) → ((s : Bounds) → minmax.Bounds.IsSummary s → length (minmax.Encoding.bytes_of s) ≤ 16) → (s : AnySummary) → is_of (forms.MinMax class) s → length (bytes_of (forms.MinMax class) s) ≤ 16
  pub minmax_read : (class : MinMax) → ((s : Bounds) → minmax.Bounds.IsSummary s → minmax.Reading.read_of (minmax.Encoding.bytes_of s) ≡ Ok s) → (s : AnySummary) → is_of (forms.MinMax class) s → read_of (forms.MinMax class) (bytes_of (forms.MinMax class) s) ≡ Ok s
  pub multi_bound : (class : ℕ) → ((s : Kept) → multi.Kept.IsSummary class s → length (multi.Encoding.bytes_of s) ≤ 2 + 9 * class) → (s : AnySummary) → is_of (forms.Multi class) s → length (bytes_of (forms.Multi class) s) ≤ 2 + 9 * class
  pub multi_read : (class : ℕ) → ((s : Kept) → multi.Kept.IsSummary class s → multi.Reading.summary_in class (multi.Encoding.bytes_of s) ≡ Ok s) → (s : AnySummary) → is_of (forms.Multi class) s → read_of (forms.Multi class) (bytes_of (forms.Multi class) s) ≡ Ok s
  pub span_bound : (class : SpanHull) → ((s : SpanSummary) → inclusion.SpanHulls.IsSummary s → length (inclusion.SpanEncoding.bytes_of s) ≤ 18) → (s : AnySummary) → is_of (forms.SpanHull class) s → length (bytes_of (forms.SpanHull class) s) ≤ 18
  pub span_read : (class : SpanHull) → ((s : SpanSummary) → inclusion.SpanHulls.IsSummary s → inclusion.SpanReading.read_of (inclusion.SpanEncoding.bytes_of s) ≡ Ok s) → (s : AnySummary) → is_of (forms.SpanHull class) s → read_of (forms.SpanHull class) (bytes_of (forms.SpanHull class) s) ≡ Ok s
  pub net_bound : (class : NetHull) → ((s : NetSummary) → inclusion.NetHulls.IsSummary s → length (inclusion.NetEncoding.bytes_of s) ≤ 7) → (s : AnySummary) → is_of (forms.NetHull class) s → length (bytes_of (forms.NetHull class) s) ≤ 7
  pub net_read : (class : NetHull) → ((s : NetSummary) → inclusion.NetHulls.IsSummary s → inclusion.NetReading.read_of (inclusion.NetEncoding.bytes_of s) ≡ Ok s) → (s : AnySummary) → is_of (forms.NetHull class) s → read_of (forms.NetHull class) (bytes_of (forms.NetHull class) s) ≡ Ok s
  pub bloom_bound : (class : Parameters) → ((s : List Bool) → bloom.Bits.IsSummary class s → length (bloom.Encoding.bytes_of s) ≤ bloom.Encoding.size_of class) → (s : AnySummary) → is_of (forms.Bloom class) s → length (bytes_of (forms.Bloom class) s) ≤ bloom.Encoding.size_of class
  pub bloom_read : (class : Parameters) → ((s : List Bool) → bloom.Bits.IsSummary class s → bloom.Reading.read_of class (bloom.Encoding.bytes_of s) ≡ Ok s) → (s : AnySummary) → is_of (forms.Bloom class) s → read_of (forms.Bloom class) (bytes_of (forms.Bloom class) s) ≡ Ok s

pub sizes : Sizes
sizes = record {
  minmax_bound = λ class. bound (forms.MinMax class) 16;
  minmax_read = λ class. read (forms.MinMax class);
  multi_bound = λ class. bound (forms.Multi class) (2 + 9 * class);
  multi_read = λ class. read (forms.Multi class);
  span_bound = λ class. bound (forms.SpanHull class) 18;
  span_read = λ class. read (forms.SpanHull class);
  net_bound = λ class. bound (forms.NetHull class) 7;
  net_read = λ class. read (forms.NetHull class);
  bloom_bound = λ class. bound (forms.Bloom class) (bloom.Encoding.size_of class);
  bloom_read = λ class. read (forms.Bloom class);
}
