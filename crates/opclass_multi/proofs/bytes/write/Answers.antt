use Rattle.std.proofs.Common.{rules, ◌≡◌, ℕ, ◌+◌, ◌*◌, ◌≤◌, ◌<◌, ◌^◌, List, ◌++◌, pos, length, take, drop, get_or, refl, sym, ap, ◌∙◌, arith}
use Rattle.std.specs.Int.{bytes_high_first}
use Rattle.std.specs.List.{flat_map}
use Rattle.std.proofs.lemmas.List.{take_all}
use Rattle.std.proofs.lemmas.List.Folds.{length-flat_map-take}
use Rattle.opclass_multi.specs.declared.element.Element.{Element}
use Rattle.opclass_multi.specs.Elements.{point, count_of}
use Rattle.opclass_multi.specs.Encoding.{element_bytes, elements_bytes, size_of, written_at}
use Rattle.opclass_multi.proofs.Reducing.{count_least}
use Rattle.opclass_multi.proofs.Writing.{length-element, length-elements, number_written, element_more, place_more, all_written}
use Rattle.opclass_multi.proofs.bytes.write.Goals as goal

pub overflow_cast-elements : goal.overflow_cast-elements
overflow_cast-elements c = let few : length c.args.elements.now ≤ 256 = omega (arith, count_least c.args.elements.now) in search rules

pub elements-init : goal.elements-init
elements-init c = record { place = refl; so_far = number_written (length c.args.elements.now) c.args.out.now c.put_u16.new.bytes c.put_u16.ensures.put }

-- an element ends within the bytes of all
ends_within : (es : List Element) (i at limit : ℕ) (d : Element) → i < length es → count_of es ≤ limit → at ≡ 2 + length (flat_map element_bytes (take i es)) → at + size_of (get_or es i d) ≤ 2 + 9 * limit
ends_within es i at limit d below within place =
    omega (arith, length-flat_map-take element_bytes es i d below, length-element (get_or es i d), length-elements es)

pub write_element-requires : goal.write_element-requires
write_element-requires c =
    omega (arith, ends_within c.args.elements.now c.elements.element-index c.elements.at c.args.limit (point (pos 0)) c.elements-test.true c.requires.within c.elements.invariant.place)

pub overflow_add-at : goal.overflow_add-at
overflow_add-at c =
    let end = ends_within c.args.elements.now c.elements.element-index c.elements.at c.args.limit (point (pos 0)) c.elements-test.true c.requires.within c.elements.invariant.place in
    let small : c.elements.at + c.size-at.result < 2 ^ 64 = omega (arith, end, c.size-at.ensures) in
    search rules

pub elements-preserved : goal.elements-preserved
elements-preserved c =
    let es : List Element = c.args.elements.now in
    let i = c.elements.element-index in
    let d = point (pos 0) in
    let at : c.elements.at ≤ length c.args.out.now = omega (arith, ends_within es i c.elements.at c.args.limit d c.elements-test.true c.requires.within c.elements.invariant.place) in
    record {
      place = place_more i c.elements.at (c.elements.at + c.size-at.result) es (get_or es i d) d c.elements-test.true refl c.elements.invariant.place (ap (λ n. c.elements.at + n) c.size-at.ensures);
      so_far = element_more (length es) i c.elements.at es (get_or es i d) d c.args.out.now c.elements.out c.write_element.new.out c.elements-test.true refl c.elements.invariant.place at c.elements.invariant.so_far c.write_element.ensures;
    }

pub returns-clause-within : goal.returns-clause-within
returns-clause-within c =
    let all : take c.elements.element-index c.args.elements.now ≡ c.args.elements.now = take_all c.elements.element-index c.args.elements.now (omega arith) in
    omega (arith, c.elements.invariant.place, ap (λ (es : List Element). length (flat_map element_bytes es)) all, length-elements c.args.elements.now)

pub returns-clause-written : goal.returns-clause-written
returns-clause-written c =
    let es : List Element = c.args.elements.now in
    let all : take c.elements.element-index es ≡ es = take_all c.elements.element-index es (omega arith) in
    let size : c.elements.at ≡ length (elements_bytes es) = c.elements.invariant.place ∙ ap (λ (some : List Element). 2 + length (flat_map element_bytes some)) all ∙ omega arith in
    c.elements.invariant.so_far
    ∙ ap (λ (some : List Element). written_at 0 (bytes_high_first 2 (length es) ++ flat_map element_bytes some) c.args.out.now) all
    ∙ all_written es c.args.out.now
    ∙ ap (λ n. elements_bytes es ++ drop n c.args.out.now) (sym size)
