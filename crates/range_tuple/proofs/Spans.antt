-- summaries of ranges
use Rattle.std.proofs.Common.{◌≡◌, ℕ, zero, suc, ℤ, pos, ◌+◌, ◌<◌, ◌≤◌, ◌==◌, ◌||◌, Bool, true, false, not, Option, None, Some, List, ◌∷◌, ◌++◌, length, FitsSigned, Ok, refl, sym, ap, subst, ◌∙◌, arith}
use Rattle.std.specs.Prelude.{IfSome, int_lt, nat_lt, slice_index}
use Rattle.std.specs.Ordering.{int_eq}
use Rattle.std.specs.Int.{w64}
use Rattle.std.proofs.lemmas.Bool.{and_parts, cond-false, cond_both, eqb-true, false≢true, le-ltb, ltb-false}
use Rattle.std.proofs.lemmas.Int.{clamps, ints}
use Rattle.block_model.specs.declared.value.Kind.TheVariants as kinds
use Rattle.block_model.specs.declared.value.Value.{Value}
use Rattle.block_model.specs.declared.value.Value.TheVariants.{Int, Net, Null, Span}
use Rattle.block_model.specs.Ranges.{Between, Empty, IsRange, Range, leaves_room, lower_of, upper_of}
use Rattle.block_model.specs.ValuesOfKind.{HasBounds}
use Rattle.byte_fields.specs.Fields.{AreBytes}
use Rattle.byte_fields.specs.Int8.{int8_at, int8_bytes}
use Rattle.opclass_inclusion.specs.SpanEncoding.{bit, bytes_of, field_bytes, fields_of, is_infinite}
use Rattle.opclass_inclusion.specs.SpanFaults.{fault_in, field_end, field_fault, fields_in, lower_in_form, shape_in_form, upper_in_form}
use Rattle.opclass_inclusion.specs.SpanHulls.{BoundFits, IsSummary, greatest_upper, hull_of, is_empty, least_lower, of_range, united}
use Rattle.opclass_inclusion.specs.SpanIncludes.{Includes, IsSpan}
use Rattle.opclass_inclusion.specs.SpanReading.{from_fields, read_of}
use Rattle.opclass_inclusion.specs.declared.span_class.SpanHull.{SpanHull}
use Rattle.opclass_inclusion.specs.declared.span_summary.SpanSummary.{SpanSummary}
use Rattle.opclass_inclusion.proofs.SpanHullLaws.{holds_itself, union_includes, union_keeps}
use Rattle.opclass_inclusion.proofs.SpanReading.{bytes_again, length-fields, read_again}
use Rattle.opclass_any.specs.AnyClass.{add, bytes_of as any_bytes, empty, greatest_size, includes, is_of, kept_as, read_of as any_read, takes, united as any_united}
use Rattle.opclass_any.specs.declared.classes.AnyClass.TheVariants as forms
use Rattle.opclass_any.specs.declared.classes.AnySummary.{AnySummary}
use Rattle.opclass_any.specs.declared.classes.AnySummary.TheVariants as kept
use Rattle.range_tuple.specs.OwnKinds.{IsOfItsKind}
use Rattle.range_tuple.specs.SoundClasses.{IsSoundClass, IsSummarySpelt, IsSummaryWritten, Unites, Widens}
use Rattle.range_tuple.proofs.Forms.{IsForm, sound_form, was_kept}
use Rattle.range_tuple.proofs.Numbers.{bound_fits, by_cond, byte_more, bytes_more, int8_are_bytes, read_again as number_again, read_fits}
use Rattle.range_tuple.proofs.Placed.{placed_none, read_unless_ok}

-- ---- the hull of both

least_fits : (a b : Option ℤ) → BoundFits a → BoundFits b → BoundFits (least_lower a b)
least_fits None b first second = tt
least_fits (Some a) None first second = tt
least_fits (Some a) (Some b) first second = cond_both (int_lt b a) b a (FitsSigned w64) (λ t. second) (λ n. first)

greatest_fits : (a b : Option ℤ) → BoundFits a → BoundFits b → BoundFits (greatest_upper a b)
greatest_fits None b first second = tt
greatest_fits (Some a) None first second = tt
greatest_fits (Some a) (Some b) first second = cond_both (int_lt b a) a b (FitsSigned w64) (λ t. first) (λ n. second)

room_of_both : (a b c d : Option ℤ) → leaves_room a b ≡ true → leaves_room c d ≡ true → leaves_room (least_lower a c) (greatest_upper b d) ≡ true
room_of_both None b c d first second = refl
room_of_both (Some a) b None d first second = refl
room_of_both (Some a) None (Some c) d first second = refl
room_of_both (Some a) (Some b) (Some c) None first second = refl
room_of_both (Some a) (Some b) (Some c) (Some d) first second = grind (arith, ints, clamps)

-- a range of int8
record IsKept (r : Range) : Type 0 where
  range : IsRange r
  lower : BoundFits (lower_of r)
  upper : BoundFits (upper_of r)

hull_kept : (u k : Range) → IsKept u → IsKept k → IsKept (hull_of u k)
hull_kept Empty k first second = second
hull_kept (Between a b) Empty first second = first
hull_kept (Between a b) (Between c d) first second = record {
  range = room_of_both a b c d first.range second.range;
  lower = least_fits a c first.lower second.lower;
  upper = greatest_fits b d first.upper second.upper;
}

union_lawful : (s t : SpanSummary) → IsSummary s → IsSummary t → IsSummary (united s t)
union_lawful s t of also =
    let kept = hull_kept s.hull t.hull (record { range = of.is_range; lower = of.lower_fits; upper = of.upper_fits }) (record { range = also.is_range; lower = also.lower_fits; upper = also.upper_fits }) in
    record { is_range = kept.range; lower_fits = kept.lower; upper_fits = kept.upper }

-- a bound is there, as the values and the summaries say it
as_bound : (b : Option ℤ) → IfSome b (λ z. FitsSigned w64 z) → BoundFits b
as_bound None fits = tt
as_bound (Some z) fits = fits

one_lawful : (r : Range) → IsRange r → HasBounds r → IsSummary (of_range r)
one_lawful Empty is bounds = record { is_range = tt; lower_fits = tt; upper_fits = tt }
one_lawful (Between l h) is bounds = record { is_range = is; lower_fits = as_bound l (bound_fits l bounds.0); upper_fits = as_bound h (bound_fits h bounds.1) }

one_includes : (r : Range) → IsRange r → Includes (of_range r) (Span r)
one_includes Empty is = refl
one_includes (Between l h) is = (is, holds_itself (Between l h))

some_bytes : (s : SpanSummary) → 0 < length (bytes_of s)
some_bytes s = omega (arith, length-fields (fields_of s))

widens : (class : SpanHull) (s : SpanSummary) (v : Value) → IsSummary s → IsSpan v → IsOfItsKind v → Widens (forms.SpanHull class) (kept.SpanHull s) v
unfolding add is_of includes any_bytes
widens class s (Span r) of taken known =
    let is : IsRange r × HasBounds r = known kinds.Span refl in
    record {
      of_class = union_lawful s (of_range r) of (one_lawful r is.0 is.1);
      value = union_includes s (of_range r) (Span r) (one_includes r is.0);
      kept = λ w within. union_keeps s (of_range r) w within;
      has_bytes = some_bytes (united s (of_range r));
    }
widens class s Null of taken known = absurd taken
widens class s (Int n) of taken known = absurd taken
widens class s (Net a) of taken known = absurd taken

unites : (class : SpanHull) (s other : SpanSummary) → IsSummary s → IsSummary other → Unites (forms.SpanHull class) (kept.SpanHull s) (kept.SpanHull other)
unfolding any_united is_of includes any_bytes
unites class s other of also = record {
  of_class = union_lawful s other of also;
  first = λ w within. union_keeps s other w within;
  second = λ w within. union_includes s other w within;
  has_bytes = λ some. some_bytes (united s other);
}

-- ---- bytes

flags_small : (a b : Bool) → bit a 1 + bit b 2 < 256
flags_small true true = omega arith
flags_small true false = omega arith
flags_small false true = omega arith
flags_small false false = omega arith

bits_small : (a b : Bool) → bit a 2 + bit b 4 < 256
bits_small true true = omega arith
bits_small true false = omega arith
bits_small false true = omega arith
bits_small false false = omega arith

shape_small : (e : Bool) (u : Range) → (fields_of (record { empty_added = e; hull = u })).shape < 256
shape_small e Empty = omega arith
shape_small e (Between l h) = bits_small (is_infinite l) (is_infinite h)

written : (class : SpanHull) (s : SpanSummary) → IsSummary s → IsSummaryWritten (forms.SpanHull class) (kept.SpanHull s)
unfolding any_bytes any_read greatest_size
written class s of =
    let f = fields_of s in
    record {
      bytes =
          byte_more f.flags (f.shape ∷ (int8_bytes f.lower ++ int8_bytes f.upper)) (flags_small s.empty_added (not (is_empty s.hull)))
          (byte_more f.shape (int8_bytes f.lower ++ int8_bytes f.upper) (shape_small s.empty_added s.hull) (bytes_more (int8_bytes f.lower) (int8_bytes f.upper) (int8_are_bytes f.lower) (int8_are_bytes f.upper)));
      bound = omega (arith, length-fields f);
      again = ap (kept_as kept.SpanHull) (read_again s of);
    }

-- ---- fields in form are those of a summary

record InForm (flags shape : ℕ) (l u : ℤ) : Type 0 where
  few : flags ≤ 3
  shape_is : shape_in_form (record { flags = flags; shape = shape; lower = l; upper = u }) ≡ true
  lower_is : lower_in_form (record { flags = flags; shape = shape; lower = l; upper = u }) ≡ true
  upper_is : upper_in_form (record { flags = flags; shape = shape; lower = l; upper = u }) ≡ true

holds_not : (b : Bool) → not b ≡ false → b ≡ true
holds_not true is = refl
holds_not false is = absurd (false≢true (sym is))

in_form : (flags shape : ℕ) (l u : ℤ) → field_fault (record { flags = flags; shape = shape; lower = l; upper = u }) ≡ None → InForm flags shape l u
in_form flags shape l u none =
    let P = InForm flags shape l u in
    by_cond (nat_lt 3 flags) (Some 0) _ None P none (λ t wrong. absurd (cc))
    (λ few none. by_cond (not (shape_in_form (record { flags = flags; shape = shape; lower = l; upper = u }))) (Some 1) _ None P none (λ t wrong. absurd (cc))
    (λ second none. by_cond (not (lower_in_form (record { flags = flags; shape = shape; lower = l; upper = u }))) (Some 2) _ None P none (λ t wrong. absurd (cc))
    (λ third none. by_cond (not (upper_in_form (record { flags = flags; shape = shape; lower = l; upper = u }))) (Some 10) None None P none (λ t wrong. absurd (cc))
    (λ fourth none. record { few = ltb-false 3 flags few; shape_is = holds_not _ second; lower_is = holds_not _ third; upper_is = holds_not _ fourth }))))

record IsRead (flags shape : ℕ) (l u : ℤ) : Type 0 where
  kept : IsKept (from_fields (record { flags = flags; shape = shape; lower = l; upper = u })).hull
  again : fields_of (from_fields (record { flags = flags; shape = shape; lower = l; upper = u })) ≡ (record { flags = flags; shape = shape; lower = l; upper = u })

equal : (a b : ℤ) → int_eq a b ≡ true → a ≡ b
equal a b is = grind (arith, ints)

by_or : (a b : Bool) (P : Type 0) → (a || b) ≡ true → (a ≡ true → P) → (b ≡ true → P) → P
by_or true b P is first second = first refl
by_or false b P is first second = second is

-- no hull: its fields are zeros
without : (e : Bool) (l u : ℤ) → l ≡ pos 0 → u ≡ pos 0 → IsRead (bit e 1) 0 l u
without true l u lower upper = record { kept = record { range = tt; lower = tt; upper = tt }; again = λ i. record { flags = 1; shape = 0; lower = (sym lower i); upper = (sym upper i) } }
without false l u lower upper = record { kept = record { range = tt; lower = tt; upper = tt }; again = λ i. record { flags = 0; shape = 0; lower = (sym lower i); upper = (sym upper i) } }

-- a hull, with both bounds, one or none
finite : (e : Bool) (l u : ℤ) → FitsSigned w64 l → FitsSigned w64 u → int_lt l u ≡ true → IsRead (bit e 1 + 2) 0 l u
finite true l u low high room = record { kept = record { range = room; lower = low; upper = high }; again = refl }
finite false l u low high room = record { kept = record { range = room; lower = low; upper = high }; again = refl }

no_lower : (e : Bool) (l u : ℤ) → FitsSigned w64 u → l ≡ pos 0 → IsRead (bit e 1 + 2) 2 l u
no_lower true l u high lower = record { kept = record { range = refl; lower = tt; upper = high }; again = λ i. record { flags = 3; shape = 2; lower = (sym lower i); upper = u } }
no_lower false l u high lower = record { kept = record { range = refl; lower = tt; upper = high }; again = λ i. record { flags = 2; shape = 2; lower = (sym lower i); upper = u } }

no_upper : (e : Bool) (l u : ℤ) → FitsSigned w64 l → u ≡ pos 0 → IsRead (bit e 1 + 2) 4 l u
no_upper true l u low upper = record { kept = record { range = refl; lower = low; upper = tt }; again = λ i. record { flags = 3; shape = 4; lower = l; upper = (sym upper i) } }
no_upper false l u low upper = record { kept = record { range = refl; lower = low; upper = tt }; again = λ i. record { flags = 2; shape = 4; lower = l; upper = (sym upper i) } }

no_bound : (e : Bool) (l u : ℤ) → l ≡ pos 0 → u ≡ pos 0 → IsRead (bit e 1 + 2) 6 l u
no_bound true l u lower upper = record { kept = record { range = refl; lower = tt; upper = tt }; again = λ i. record { flags = 3; shape = 6; lower = (sym lower i); upper = (sym upper i) } }
no_bound false l u lower upper = record { kept = record { range = refl; lower = tt; upper = tt }; again = λ i. record { flags = 2; shape = 6; lower = (sym lower i); upper = (sym upper i) } }

-- by the shape
shape_bounded : (flags shape : ℕ) (l u : ℤ) → shape_in_form (record { flags = flags; shape = shape; lower = l; upper = u }) ≡ true → shape ≤ 6
shape_bounded flags shape l u is =
    by_or (shape == 0) _ (shape ≤ 6) is (λ t. omega (arith, eqb-true shape 0 t))
    (λ some. by_or ((shape == 2) || (shape == 6)) ((shape == 4) || (shape == 6)) (shape ≤ 6) (and_parts _ _ some).1
    (λ t. by_or (shape == 2) (shape == 6) (shape ≤ 6) t (λ two. omega (arith, eqb-true shape 2 two)) (λ six. omega (arith, eqb-true shape 6 six)))
    (λ t. by_or (shape == 4) (shape == 6) (shape ≤ 6) t (λ four. omega (arith, eqb-true shape 4 four)) (λ six. omega (arith, eqb-true shape 6 six))))

of_shape : (e : Bool) (shape : ℕ) (l u : ℤ) → shape ≤ 6 → FitsSigned w64 l → FitsSigned w64 u → InForm (bit e 1 + 2) shape l u → IsRead (bit e 1 + 2) shape l u
of_shape true zero l u few low high form = finite true l u low high form.upper_is
of_shape false zero l u few low high form = finite false l u low high form.upper_is
of_shape true (suc zero) l u few low high form = absurd (false≢true form.shape_is)
of_shape false (suc zero) l u few low high form = absurd (false≢true form.shape_is)
of_shape true (suc (suc zero)) l u few low high form = no_lower true l u high (equal l (pos 0) form.lower_is)
of_shape false (suc (suc zero)) l u few low high form = no_lower false l u high (equal l (pos 0) form.lower_is)
of_shape true (suc (suc (suc zero))) l u few low high form = absurd (false≢true form.shape_is)
of_shape false (suc (suc (suc zero))) l u few low high form = absurd (false≢true form.shape_is)
of_shape true (suc (suc (suc (suc zero)))) l u few low high form = no_upper true l u low (equal u (pos 0) form.upper_is)
of_shape false (suc (suc (suc (suc zero)))) l u few low high form = no_upper false l u low (equal u (pos 0) form.upper_is)
of_shape true (suc (suc (suc (suc (suc zero))))) l u few low high form = absurd (false≢true form.shape_is)
of_shape false (suc (suc (suc (suc (suc zero))))) l u few low high form = absurd (false≢true form.shape_is)
of_shape true (suc (suc (suc (suc (suc (suc zero)))))) l u few low high form = no_bound true l u (equal l (pos 0) form.lower_is) (equal u (pos 0) form.upper_is)
of_shape false (suc (suc (suc (suc (suc (suc zero)))))) l u few low high form = no_bound false l u (equal l (pos 0) form.lower_is) (equal u (pos 0) form.upper_is)
of_shape e (suc (suc (suc (suc (suc (suc (suc n))))))) l u few low high form = absurd (omega (arith, few))

zero_shape : (shape : ℕ) → ((shape == 0) || false) ≡ true → shape ≡ 0
zero_shape shape is = by_or (shape == 0) false (shape ≡ 0) is (eqb-true shape 0) (λ wrong. absurd (false≢true wrong))

without_hull : (e : Bool) (shape : ℕ) (l u : ℤ) → InForm (bit e 1) shape l u → IsRead (bit e 1) shape l u
without_hull true shape l u form = subst (λ (k : ℕ). IsRead 1 k l u) (sym (zero_shape shape form.shape_is)) (without true l u (equal l (pos 0) form.lower_is) (equal u (pos 0) form.upper_is))
without_hull false shape l u form = subst (λ (k : ℕ). IsRead 0 k l u) (sym (zero_shape shape form.shape_is)) (without false l u (equal l (pos 0) form.lower_is) (equal u (pos 0) form.upper_is))

of_flags : (flags shape : ℕ) (l u : ℤ) → FitsSigned w64 l → FitsSigned w64 u → InForm flags shape l u → IsRead flags shape l u
of_flags zero shape l u low high form = without_hull false shape l u form
of_flags (suc zero) shape l u low high form = without_hull true shape l u form
of_flags (suc (suc zero)) shape l u low high form = of_shape false shape l u (shape_bounded 2 shape l u form.shape_is) low high form
of_flags (suc (suc (suc zero))) shape l u low high form = of_shape true shape l u (shape_bounded 3 shape l u form.shape_is) low high form
of_flags (suc (suc (suc (suc n)))) shape l u low high form = absurd (omega (arith, form.few))

-- ---- what is read

-- the fields of whole bytes
fields_there : (bytes : List ℕ) → length bytes ≡ 18 → fields_in bytes ≡ (record { flags = slice_index bytes 0; shape = slice_index bytes 1; lower = int8_at bytes 2; upper = int8_at bytes 10 })
fields_there bytes size =
    let first : nat_lt (length bytes) 10 ≡ false = le-ltb (length bytes) 10 (omega (arith, size)) in
    let second : nat_lt (length bytes) 18 ≡ false = le-ltb (length bytes) 18 (omega (arith, size)) in
    λ i. record {
      flags = slice_index bytes 0;
      shape = slice_index bytes 1;
      lower = cond-false (nat_lt (length bytes) 10) (pos 0) (int8_at bytes 2) first i;
      upper = cond-false (nat_lt (length bytes) 18) (pos 0) (int8_at bytes 10) second i;
    }

record Found (bytes : List ℕ) (s : SpanSummary) : Type 0 where
  lawful : IsSummary s
  spelt : bytes ≡ bytes_of s

found : (bytes : List ℕ) (s : SpanSummary) → AreBytes bytes → read_of bytes ≡ Ok s → Found bytes s
found bytes s small is =
    let was = read_unless_ok (fault_in bytes) (from_fields (fields_in bytes)) s is in
    let whole = placed_none (length bytes) 18 field_end (field_fault (fields_in bytes)) was.none in
    let l = int8_at bytes 2 in
    let u = int8_at bytes 10 in
    let are = fields_there bytes whole.long in
    let form = in_form (slice_index bytes 0) (slice_index bytes 1) l u (ap field_fault (sym are) ∙ whole.none) in
    let read = of_flags (slice_index bytes 0) (slice_index bytes 1) l u (read_fits bytes 2) (read_fits bytes 10) form in
    let spelt = bytes_again l u bytes whole.long (number_again bytes 2 small (omega (arith, whole.long))) (number_again bytes 10 small (omega (arith, whole.long))) in
    subst (Found bytes) (ap from_fields (sym are) ∙ was.is) (record {
      lawful = record { is_range = read.kept.range; lower_fits = read.kept.lower; upper_fits = read.kept.upper };
      spelt = spelt ∙ ap field_bytes (sym read.again);
    })

spelt : (class : SpanHull) (bytes : List ℕ) (s : AnySummary) → AreBytes bytes → any_read (forms.SpanHull class) bytes ≡ Ok s → IsSummarySpelt (forms.SpanHull class) bytes s
unfolding any_bytes any_read is_of
spelt class bytes s small is =
    let was = was_kept kept.SpanHull (read_of bytes) s is in
    let f = found bytes was.inside small was.read in
    subst (IsSummarySpelt (forms.SpanHull class) bytes) was.is (record { of_class = f.lawful; spelt = f.spelt })

-- ---- the class

form : (class : SpanHull) (s : AnySummary) → is_of (forms.SpanHull class) s → IsForm kept.SpanHull IsSummary s
unfolding is_of
form class (kept.SpanHull s) of = record { inside = s; is = refl; lawful = of }
form class s of = absurd of

pub sound : (class : SpanHull) → IsSoundClass (forms.SpanHull class)
unfolding empty is_of takes greatest_size
sound class = sound_form (forms.SpanHull class) kept.SpanHull IsSummary (record {
  empty = record { is_range = tt; lower_fits = tt; upper_fits = tt };
  form = form class;
  widens = widens class;
  unites = unites class;
  written = written class;
  read = spelt class;
  small = omega arith;
})
