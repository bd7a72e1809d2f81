-- summaries of the multi-minmax class
use Rattle.std.proofs.Common.{◌≡◌, ℕ, ℤ, ◌<◌, List, [], ◌∷◌, ◌++◌, length, FitsSigned, Result, Ok, Err, refl, sym, ap, subst, ◌∙◌, arith, length-append}
use Rattle.std.specs.Prelude.{int_lt}
use Rattle.std.specs.Int.{w64, bytes_high_first}
use Rattle.std.specs.List.{flat_map}
use Rattle.std.proofs.lemmas.Bool.{cond_both}
use Rattle.block_model.specs.declared.value.Kind.TheVariants as kinds
use Rattle.block_model.specs.declared.value.Value.{Value}
use Rattle.block_model.specs.declared.value.Value.TheVariants.{Int, Net, Null, Span}
use Rattle.byte_fields.specs.Fields.{AreBytes, length-number}
use Rattle.byte_fields.specs.Int8.{int8_bytes}
use Rattle.opclass_multi.specs.declared.element.Element.{Element}
use Rattle.opclass_multi.specs.Elements.{holds, point}
use Rattle.opclass_multi.specs.Encoding.{bytes_of, element_bytes, elements_bytes}
use Rattle.opclass_multi.specs.Includes.{IsInt}
use Rattle.opclass_multi.specs.Joined.{joined, with_element}
use Rattle.opclass_multi.specs.Kept.{IsLimit, IsSummary, Kept, reduced_to, united, with_number}
use Rattle.opclass_multi.specs.Reading.{kept_in, read_of as elements_read, summary_in}
use Rattle.opclass_multi.proofs.Decoding.{IsRead, read_again, read_taken}
use Rattle.opclass_multi.proofs.Widening.{apart_united, apart_widened, includes_more, number_held, number_keeps, united_keeps, united_takes, within_limit}
use Rattle.opclass_multi.proofs.Writing.{length-elements}
use Rattle.opclass_any.specs.AnyClass.{add, bytes_of as any_bytes, empty, greatest_size, includes, is_of, kept_as, read_of as any_read, takes, united as any_united}
use Rattle.opclass_any.specs.declared.classes.AnyClass.TheVariants as forms
use Rattle.opclass_any.specs.declared.classes.AnySummary.{AnySummary}
use Rattle.opclass_any.specs.declared.classes.AnySummary.TheVariants as kept
use Rattle.range_tuple.specs.OwnKinds.{IsOfItsKind}
use Rattle.range_tuple.specs.SoundClasses.{IsSoundClass, IsSummarySpelt, IsSummaryWritten, Unites, Widens}
use Rattle.range_tuple.proofs.Forms.{IsForm, sound_form, was_kept}
use Rattle.range_tuple.proofs.Numbers.{byte_more, bytes_more, int8_are_bytes, int8_fits, none_bytes, number_bytes}

-- ---- a number added, and two united

number_lawful : (limit : ℕ) (s : Kept) (v : ℤ) → IsLimit limit → IsSummary limit s → FitsSigned w64 v → IsSummary limit (with_number s v)
number_lawful limit s v limits of fits =
    cond_both (holds s.elements v v) s (reduced_to s.limit (with_element (point v) s.elements)) (IsSummary limit) (λ t. of)
    (λ n. let own : s.limit ≡ limit = of.own_limit in
    record {
      own_limit = own;
      apart = apart_widened s.limit v s.elements fits of.apart;
      within = omega (arith, own, within_limit s.limit (with_element (point v) s.elements) (omega (arith, own, limits.least)));
    })

-- the bytes of elements have their number first
some_bytes : (es : List Element) → 0 < length (elements_bytes es)
some_bytes es = omega (arith, length-append (bytes_high_first 2 (length es)) (flat_map element_bytes es), length-number 2 (length es))

widens : (limit : ℕ) → IsLimit limit → (s : Kept) (v : Value) → IsSummary limit s → IsInt v → IsOfItsKind v → Widens (forms.Multi limit) (kept.Multi s) v
unfolding add is_of includes any_bytes
widens limit limits s (Int n) of taken known =
    let fits = int8_fits n (known kinds.Int refl) in
    record {
      of_class = number_lawful limit s n limits of fits;
      value = number_held s n fits of.apart;
      kept = λ w within. includes_more s (with_number s n) (λ u held. number_keeps s n u fits of.apart held) w within;
      has_bytes = some_bytes (with_number s n).elements;
    }
widens limit limits s Null of taken known = absurd taken
widens limit limits s (Span r) of taken known = absurd taken
widens limit limits s (Net a) of taken known = absurd taken

unites : (limit : ℕ) → IsLimit limit → (s other : Kept) → IsSummary limit s → IsSummary limit other → Unites (forms.Multi limit) (kept.Multi s) (kept.Multi other)
unfolding any_united is_of includes any_bytes
unites limit limits s other of also =
    let own : s.limit ≡ limit = of.own_limit in
    record {
      of_class = record {
        own_limit = own;
        apart = apart_united s.limit s.elements other.elements of.apart also.apart;
        within = omega (arith, own, within_limit s.limit (joined s.elements other.elements) (omega (arith, own, limits.least)));
      };
      first = λ w within. includes_more s (united s other) (λ v held. united_keeps s.limit s.elements other.elements v v of.apart also.apart held) w within;
      second = λ w within. includes_more other (united s other) (λ v held. united_takes s.limit s.elements other.elements v of.apart also.apart held) w within;
      has_bytes = λ some. some_bytes (united s other).elements;
    }

-- ---- bytes

element_are_bytes : (e : Element) → AreBytes (element_bytes e)
element_are_bytes e =
    cond_both (int_lt e.least e.greatest) (1 ∷ (int8_bytes e.least ++ int8_bytes e.greatest)) (0 ∷ int8_bytes e.least) AreBytes
    (λ t. byte_more 1 (int8_bytes e.least ++ int8_bytes e.greatest) (omega arith) (bytes_more (int8_bytes e.least) (int8_bytes e.greatest) (int8_are_bytes e.least) (int8_are_bytes e.greatest)))
    (λ n. byte_more 0 (int8_bytes e.least) (omega arith) (int8_are_bytes e.least))

elements_are_bytes : (es : List Element) → AreBytes (flat_map element_bytes es)
elements_are_bytes [] = none_bytes
elements_are_bytes (e ∷ es) = bytes_more (element_bytes e) (flat_map element_bytes es) (element_are_bytes e) (elements_are_bytes es)

written : (limit : ℕ) → IsLimit limit → (s : Kept) → IsSummary limit s → IsSummaryWritten (forms.Multi limit) (kept.Multi s)
unfolding any_bytes any_read greatest_size
written limit limits s of = record {
  bytes = bytes_more (bytes_high_first 2 (length s.elements)) (flat_map element_bytes s.elements) (number_bytes 2 (length s.elements)) (elements_are_bytes s.elements);
  bound = omega (arith, of.within, length-elements s.elements, length-number 2 (length s.elements), length-append (bytes_high_first 2 (length s.elements)) (flat_map element_bytes s.elements));
  again =
      ap (kept_as kept.Multi)
      (ap (kept_in limit) (read_again limit s.elements limits.greatest of.apart of.within) ∙ (λ i. Ok (record { limit = sym of.own_limit i; elements = s.elements })));
}

-- the elements that were read
record WereRead (limit : ℕ) (r : Result (List Element) ℕ) (s : Kept) : Type 0 where
  elements : List Element
  read : r ≡ Ok elements
  is : record { limit = limit; elements = elements } ≡ s

were_read : (limit : ℕ) (r : Result (List Element) ℕ) (s : Kept) → kept_in limit r ≡ Ok s → WereRead limit r s
were_read limit (Ok es) s is = let own : Kept = record { limit = limit; elements = es } in let same : own ≡ s = cc in record { elements = es; read = refl; is = same }
were_read limit (Err at) s is = absurd (cc)

record Found (limit : ℕ) (bytes : List ℕ) (s : Kept) : Type 0 where
  lawful : IsSummary limit s
  spelt : bytes ≡ bytes_of s

found : (limit : ℕ) (bytes : List ℕ) (s : Kept) → AreBytes bytes → summary_in limit bytes ≡ Ok s → Found limit bytes s
found limit bytes s small is =
    let were = were_read limit (elements_read limit bytes) s is in
    let taken : IsRead limit bytes were.elements = read_taken limit bytes were.elements small were.read in
    subst (Found limit bytes) were.is (record { lawful = record { own_limit = refl; apart = taken.apart; within = taken.within }; spelt = taken.spelled })

spelt : (limit : ℕ) (bytes : List ℕ) (s : AnySummary) → AreBytes bytes → any_read (forms.Multi limit) bytes ≡ Ok s → IsSummarySpelt (forms.Multi limit) bytes s
unfolding any_bytes any_read is_of
spelt limit bytes s small is =
    let was = was_kept kept.Multi (summary_in limit bytes) s is in
    let f = found limit bytes was.inside small was.read in
    subst (IsSummarySpelt (forms.Multi limit) bytes) was.is (record { of_class = f.lawful; spelt = f.spelt })

-- ---- the class

form : (limit : ℕ) (s : AnySummary) → is_of (forms.Multi limit) s → IsForm kept.Multi (IsSummary limit) s
unfolding is_of
form limit (kept.Multi s) of = record { inside = s; is = refl; lawful = of }
form limit s of = absurd of

pub sound : (limit : ℕ) → IsLimit limit → IsSoundClass (forms.Multi limit)
unfolding empty is_of takes greatest_size
sound limit limits = sound_form (forms.Multi limit) kept.Multi (IsSummary limit) (record {
  empty = record { own_limit = refl; apart = tt; within = omega arith };
  form = form limit;
  widens = widens limit limits;
  unites = unites limit limits;
  written = written limit limits;
  read = spelt limit;
  small = omega (arith, limits.greatest);
})
