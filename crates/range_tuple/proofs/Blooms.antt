-- summaries of the bloom class
use Rattle.std.proofs.Common.{◌≡◌, ℕ, ◌+◌, ◌*◌, ◌<◌, ◌==◌, Bool, true, false, List, [], ◌∷◌, length, fold, min, Ok, Err, refl, sym, ap, subst, ◌∙◌, arith}
use Rattle.std.specs.Prelude.{if◌then◌else◌}
use Rattle.std.specs.List.{list_all}
use Rattle.std.proofs.lemmas.Bool.{eqb-true}
use Rattle.std.proofs.lemmas.List.{length-replicate}
use Rattle.block_model.specs.declared.value.Value.{Value}
use Rattle.byte_fields.specs.Fields.{AreBytes}
use Rattle.opclass_bloom.specs.Bits.{IsSummary, is_set, united, with_position, with_value}
use Rattle.opclass_bloom.specs.Encoding.{bytes_of, number_of, size_of}
use Rattle.opclass_bloom.specs.Includes.{HasWords, Includes, has_all}
use Rattle.opclass_bloom.specs.Kept.{bits_of}
use Rattle.opclass_bloom.specs.Parameters.{AreWithinLimits, Parameters}
use Rattle.opclass_bloom.specs.Positions.{hash_of, positions_by, words_of}
use Rattle.opclass_bloom.specs.Reading.{read_of}
use Rattle.opclass_bloom.proofs.Bytes.{bytes_again, bytes_there, length_bits, length_bytes, read_again}
use Rattle.opclass_bloom.proofs.Setting.{has_all_is, hash_set, kept_by_positions, kept_by_union, length-united, length-with_value, others_by_union, still_included, with_value_is}
use Rattle.opclass_any.specs.AnyClass.{add, bytes_of as any_bytes, empty, greatest_size, includes, is_of, kept_as, read_of as any_read, takes, united as any_united}
use Rattle.opclass_any.specs.declared.classes.AnyClass.TheVariants as forms
use Rattle.opclass_any.specs.declared.classes.AnySummary.{AnySummary}
use Rattle.opclass_any.specs.declared.classes.AnySummary.TheVariants as kept
use Rattle.range_tuple.specs.OwnKinds.{IsOfItsKind}
use Rattle.range_tuple.specs.SoundClasses.{IsSoundClass, IsSummarySpelt, IsSummaryWritten, Unites, Widens}
use Rattle.range_tuple.proofs.Forms.{IsForm, sound_form, was_kept}
use Rattle.range_tuple.proofs.Numbers.{by_cond, byte_more, none_bytes}

-- ---- a value added, and two united

value_set : (p : Parameters) (s : List Bool) (v : Value) → AreWithinLimits p → IsSummary p s → has_all p (with_value p s v) v ≡ true
value_set p s v limits of =
    let hash = hash_of (words_of v) in
    has_all_is p (with_value p s v) v hash refl
    ∙ ap (λ (t : List Bool). list_all (is_set t) (positions_by p hash)) (with_value_is p s v hash refl)
    ∙ hash_set p s hash (omega (arith, limits.least_bits)) of

value_kept : (p : Parameters) (s : List Bool) (v w : Value) → Includes p s w → Includes p (with_value p s v) w
value_kept p s v w within =
    let hash = hash_of (words_of v) in
    subst (λ (t : List Bool). Includes p t w) (sym (with_value_is p s v hash refl)) (still_included p s (fold with_position s (positions_by p hash)) w (kept_by_positions (positions_by p hash) s) within)

some_bytes : (p : Parameters) (s : List Bool) → AreWithinLimits p → IsSummary p s → 0 < length (bytes_of s)
some_bytes p s limits of = bytes_there s (omega (arith, of, limits.least_bits))

widens : (p : Parameters) → AreWithinLimits p → (s : List Bool) (v : Value) → IsSummary p s → HasWords v → IsOfItsKind v → Widens (forms.Bloom p) (kept.Bloom s) v
unfolding add is_of includes any_bytes
widens p limits s v of taken known =
    let long : IsSummary p (with_value p s v) = length-with_value p s v ∙ of in
    record {
      of_class = long;
      value = (taken, value_set p s v limits of);
      kept = λ w within. value_kept p s v w within;
      has_bytes = some_bytes p (with_value p s v) limits long;
    }

unites : (p : Parameters) → AreWithinLimits p → (s other : List Bool) → IsSummary p s → IsSummary p other → Unites (forms.Bloom p) (kept.Bloom s) (kept.Bloom other)
unfolding any_united is_of includes any_bytes
unites p limits s other of also =
    let long : IsSummary p (united s other) = length-united s other (also ∙ sym of) ∙ of in
    record {
      of_class = long;
      first = λ w within. still_included p s (united s other) w (kept_by_union s other) within;
      second = λ w within. still_included p other (united s other) w (others_by_union s other) within;
      has_bytes = λ some. some_bytes p (united s other) limits long;
    }

-- ---- bytes

-- one bit more below the others
bit_below : (b : Bool) (n bound : ℕ) → n < bound → (if b then 1 else 0) + 2 * n < 2 * bound
bit_below true n bound below = omega (arith, below)
bit_below false n bound below = omega (arith, below)

byte_below : (b0 b1 b2 b3 b4 b5 b6 b7 : Bool) → number_of (b0 ∷ b1 ∷ b2 ∷ b3 ∷ b4 ∷ b5 ∷ b6 ∷ b7 ∷ []) < 256
byte_below b0 b1 b2 b3 b4 b5 b6 b7 =
    bit_below b0 _ 128 (bit_below b1 _ 64 (bit_below b2 _ 32 (bit_below b3 _ 16 (bit_below b4 _ 8 (bit_below b5 _ 4 (bit_below b6 _ 2 (bit_below b7 0 1 (omega arith))))))))

are_bytes : (s : List Bool) → AreBytes (bytes_of s)
are_bytes (b0 ∷ b1 ∷ b2 ∷ b3 ∷ b4 ∷ b5 ∷ b6 ∷ b7 ∷ s) = byte_more (number_of (b0 ∷ b1 ∷ b2 ∷ b3 ∷ b4 ∷ b5 ∷ b6 ∷ b7 ∷ [])) (bytes_of s) (byte_below b0 b1 b2 b3 b4 b5 b6 b7) (are_bytes s)
are_bytes s = none_bytes

-- so many whole bytes
whole_bytes : (p : Parameters) → AreWithinLimits p → 8 * size_of p ≡ p.bits
whole_bytes p limits = omega (arith, limits.whole_bytes)

written : (p : Parameters) → AreWithinLimits p → (s : List Bool) → IsSummary p s → IsSummaryWritten (forms.Bloom p) (kept.Bloom s)
unfolding any_bytes any_read greatest_size
written p limits s of = record {
  bytes = are_bytes s;
  bound = rw (length_bytes s, of) (omega arith);
  again = ap (kept_as kept.Bloom) (read_again p s (size_of p) of (whole_bytes p limits));
}

record Found (p : Parameters) (bytes : List ℕ) (s : List Bool) : Type 0 where
  lawful : IsSummary p s
  spelt : bytes ≡ bytes_of s

found : (p : Parameters) → AreWithinLimits p → (bytes : List ℕ) (s : List Bool) → AreBytes bytes → read_of p bytes ≡ Ok s → Found p bytes s
found p limits bytes s small is =
    by_cond (length bytes == size_of p) (Ok (bits_of bytes)) (Err (min (length bytes) (size_of p))) (Ok s) (Found p bytes s) is
    (λ t is. let own : bits_of bytes ≡ s = cc in
    let size : length bytes ≡ size_of p = eqb-true (length bytes) (size_of p) t in
    subst (Found p bytes) own (record {
      lawful = length_bits bytes ∙ ap (λ (n : ℕ). 8 * n) size ∙ whole_bytes p limits;
      spelt = sym (bytes_again bytes (λ k. omega (arith, small k)));
    }))
    (λ f wrong. absurd (cc))

spelt : (p : Parameters) → AreWithinLimits p → (bytes : List ℕ) (s : AnySummary) → AreBytes bytes → any_read (forms.Bloom p) bytes ≡ Ok s → IsSummarySpelt (forms.Bloom p) bytes s
unfolding any_bytes any_read is_of
spelt p limits bytes s small is =
    let was = was_kept kept.Bloom (read_of p bytes) s is in
    let f = found p limits bytes was.inside small was.read in
    subst (IsSummarySpelt (forms.Bloom p) bytes) was.is (record { of_class = f.lawful; spelt = f.spelt })

-- ---- the class

form : (p : Parameters) (s : AnySummary) → is_of (forms.Bloom p) s → IsForm kept.Bloom (IsSummary p) s
unfolding is_of
form p (kept.Bloom s) of = record { inside = s; is = refl; lawful = of }
form p s of = absurd of

pub sound : (p : Parameters) → AreWithinLimits p → IsSoundClass (forms.Bloom p)
unfolding empty is_of takes greatest_size
sound p limits = sound_form (forms.Bloom p) kept.Bloom (IsSummary p) (record {
  empty = length-replicate p.bits false;
  form = form p;
  widens = widens p limits;
  unites = unites p limits;
  written = written p limits;
  read = spelt p limits;
  small = omega (arith, limits.most_bits);
})
