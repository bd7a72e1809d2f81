-- summaries of the minmax class
use Rattle.std.proofs.Common.{◌≡◌, ℕ, ℤ, ◌≤ℤ◌, ◌≤◌, ◌==◌, List, [], ◌∷◌, length, FitsSigned, Ok, Err, refl, ap, subst, arith}
use Rattle.std.specs.Prelude.{int_lt, nat_lt}
use Rattle.std.specs.Int.{w64, int_max, int_min}
use Rattle.std.proofs.lemmas.Bool.{cond_both, eqb-true, ltb-false}
use Rattle.std.proofs.lemmas.Int.{clamps, ints}
use Rattle.block_model.specs.declared.value.Kind.TheVariants as kinds
use Rattle.block_model.specs.declared.value.Value.{Value}
use Rattle.block_model.specs.declared.value.Value.TheVariants.{Int, Net, Null, Span}
use Rattle.byte_fields.specs.Fields.{AreBytes}
use Rattle.byte_fields.specs.Int8.{int8_at, int8_bytes}
use Rattle.opclass_minmax.specs.Bounds.{Between, Bounds, IsOrdered, IsSummary, NothingYet, widened}
use Rattle.opclass_minmax.specs.Encoding.{bytes_of}
use Rattle.opclass_minmax.specs.Includes.{Includes, IsInt, IsWithin}
use Rattle.opclass_minmax.specs.Reading.{both_in, read_of}
use Rattle.opclass_minmax.specs.declared.class.MinMax.{MinMax}
use Rattle.opclass_minmax.proofs.Reading.{bytes_again, length-between, read_again, widened_has_bytes}
use Rattle.opclass_any.specs.AnyClass.{add, bytes_of as any_bytes, empty, greatest_size, includes, is_of, kept_as, read_of as any_read, takes, united as any_united}
use Rattle.opclass_any.specs.declared.classes.AnyClass.TheVariants as forms
use Rattle.opclass_any.specs.declared.classes.AnySummary.{AnySummary}
use Rattle.opclass_any.specs.declared.classes.AnySummary.TheVariants as kept
use Rattle.range_tuple.specs.OwnKinds.{IsOfItsKind}
use Rattle.range_tuple.specs.SoundClasses.{IsSoundClass, IsSummarySpelt, IsSummaryWritten, Unites, Widens}
use Rattle.range_tuple.proofs.Forms.{IsForm, sound_form, was_kept}
use Rattle.range_tuple.proofs.Numbers.{by_cond, bytes_more, int8_are_bytes, int8_fits, none_bytes, read_again as number_again, read_fits}

-- ---- bounds of both

ordered_wider : (l g low high : ℤ) → IsOrdered l g → IsOrdered low high → IsOrdered (int_min l low) (int_max g high)
ordered_wider l g low high one other =
    let first : l ≤ℤ g = one.in_order in
    let second : low ≤ℤ high = other.in_order in
    record {
      least_fits = cond_both (int_lt low l) low l (FitsSigned w64) (λ t. other.least_fits) (λ n. one.least_fits);
      greatest_fits = cond_both (int_lt high g) g high (FitsSigned w64) (λ t. one.greatest_fits) (λ n. other.greatest_fits);
      in_order = omega (arith, ints, clamps);
    }

widened_lawful : (s : Bounds) (low high : ℤ) → IsSummary s → IsOrdered low high → IsSummary (widened s low high)
widened_lawful NothingYet low high of one = one
widened_lawful (Between l g) low high of one = ordered_wider l g low high of one

widened_keeps : (s : Bounds) (low high : ℤ) (v : Value) → Includes s v → Includes (widened s low high) v
widened_keeps NothingYet low high v within = absurd within
widened_keeps (Between l g) low high (Int n) within = (omega (arith, ints, clamps), omega (arith, ints, clamps))
widened_keeps (Between l g) low high Null within = absurd within
widened_keeps (Between l g) low high (Span r) within = absurd within
widened_keeps (Between l g) low high (Net a) within = absurd within

widened_takes : (s : Bounds) (low high : ℤ) (v : Value) → IsWithin low high v → Includes (widened s low high) v
widened_takes NothingYet low high v within = within
widened_takes (Between l g) low high (Int n) within = (omega (arith, ints, clamps), omega (arith, ints, clamps))
widened_takes (Between l g) low high Null within = absurd within
widened_takes (Between l g) low high (Span r) within = absurd within
widened_takes (Between l g) low high (Net a) within = absurd within

-- ---- a value added, and two united

one_number : (n : ℤ) → FitsSigned w64 n → IsOrdered n n
one_number n fits = record { least_fits = fits; greatest_fits = fits; in_order = omega (arith, ints) }

itself : (n : ℤ) → IsWithin n n (Int n)
itself n = (omega (arith, ints), omega (arith, ints))

widens : (class : MinMax) (s : Bounds) (v : Value) → IsSummary s → IsInt v → IsOfItsKind v → Widens (forms.MinMax class) (kept.MinMax s) v
unfolding add is_of includes any_bytes
widens class s (Int n) of taken known = record {
  of_class = widened_lawful s n n of (one_number n (int8_fits n (known kinds.Int refl)));
  value = widened_takes s n n (Int n) (itself n);
  kept = λ w within. widened_keeps s n n w within;
  has_bytes = widened_has_bytes s n n;
}
widens class s Null of taken known = absurd taken
widens class s (Span r) of taken known = absurd taken
widens class s (Net a) of taken known = absurd taken

unites : (class : MinMax) (s other : Bounds) → IsSummary s → IsSummary other → Unites (forms.MinMax class) (kept.MinMax s) (kept.MinMax other)
unfolding any_united is_of includes any_bytes
unites class s NothingYet of also = record { of_class = of; first = λ w within. within; second = λ w within. absurd within; has_bytes = λ some. absurd (omega (arith, some)) }
unites class s (Between low high) of also = record {
  of_class = widened_lawful s low high of also;
  first = λ w within. widened_keeps s low high w within;
  second = λ w within. widened_takes s low high w within;
  has_bytes = λ some. widened_has_bytes s low high;
}

-- ---- bytes

are_bytes : (s : Bounds) → AreBytes (bytes_of s)
are_bytes NothingYet = none_bytes
are_bytes (Between l g) = bytes_more (int8_bytes l) (int8_bytes g) (int8_are_bytes l) (int8_are_bytes g)

bounded : (s : Bounds) → length (bytes_of s) ≤ 16
bounded NothingYet = omega arith
bounded (Between l g) = omega (arith, length-between l g)

written : (class : MinMax) (s : Bounds) → IsSummary s → IsSummaryWritten (forms.MinMax class) (kept.MinMax s)
unfolding any_bytes any_read greatest_size
written class s of = record { bytes = are_bytes s; bound = bounded s; again = ap (kept_as kept.MinMax) (read_again s of) }

record Found (bytes : List ℕ) (s : Bounds) : Type 0 where
  lawful : IsSummary s
  spelt : bytes ≡ bytes_of s

no_bytes : (bytes : List ℕ) → length bytes ≡ 0 → bytes ≡ []
no_bytes [] none = refl
no_bytes (b ∷ bytes) none = absurd (omega (arith, none))

found : (bytes : List ℕ) (s : Bounds) → AreBytes bytes → read_of bytes ≡ Ok s → Found bytes s
found bytes s small is =
    let P = Found bytes s in
    let l = int8_at bytes 0 in
    let g = int8_at bytes 8 in
    by_cond (length bytes == 0) (Ok NothingYet) (both_in bytes) (Ok s) P is
    (λ none is. let own : NothingYet ≡ s = cc in subst (Found bytes) own (record { lawful = tt; spelt = no_bytes bytes (eqb-true (length bytes) 0 none) }))
    (λ some is. by_cond (nat_lt (length bytes) 16) (Err (length bytes)) _ (Ok s) P is (λ short wrong. absurd (cc))
    (λ long is. by_cond (int_lt g l) (Err 8) _ (Ok s) P is (λ crossed wrong. absurd (cc))
    (λ order is. by_cond (nat_lt 16 (length bytes)) (Err 16) (Ok (Between l g)) (Ok s) P is (λ more wrong. absurd (cc))
    (λ whole is. let own : Between l g ≡ s = cc in
    let size : length bytes ≡ 16 = omega (arith, ltb-false (length bytes) 16 long, ltb-false 16 (length bytes) whole) in
    subst (Found bytes) own (record {
      lawful = record { least_fits = read_fits bytes 0; greatest_fits = read_fits bytes 8; in_order = omega (arith, ints) };
      spelt = bytes_again l g bytes size (number_again bytes 0 small (omega (arith, size))) (number_again bytes 8 small (omega (arith, size)));
    })))))

spelt : (class : MinMax) (bytes : List ℕ) (s : AnySummary) → AreBytes bytes → any_read (forms.MinMax class) bytes ≡ Ok s → IsSummarySpelt (forms.MinMax class) bytes s
unfolding any_bytes any_read is_of
spelt class bytes s small is =
    let was = was_kept kept.MinMax (read_of bytes) s is in
    let f = found bytes was.inside small was.read in
    subst (IsSummarySpelt (forms.MinMax class) bytes) was.is (record { of_class = f.lawful; spelt = f.spelt })

-- ---- the class

form : (class : MinMax) (s : AnySummary) → is_of (forms.MinMax class) s → IsForm kept.MinMax IsSummary s
unfolding is_of
form class (kept.MinMax s) of = record { inside = s; is = refl; lawful = of }
form class s of = absurd of

pub sound : (class : MinMax) → IsSoundClass (forms.MinMax class)
unfolding empty is_of takes greatest_size
sound class = sound_form (forms.MinMax class) kept.MinMax IsSummary (record {
  empty = tt;
  form = form class;
  widens = widens class;
  unites = unites class;
  written = written class;
  read = spelt class;
  small = omega arith;
})
