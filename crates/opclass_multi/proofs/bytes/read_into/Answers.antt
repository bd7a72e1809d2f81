use Rattle.std.proofs.Common.{rules, ◌≡◌, ℕ, suc, ◌+◌, ◌-◌, ◌≤◌, ◌<◌, Some, Ok, Err, List, [], ◌∷◌, ◌++◌, length, take, drop, set, sym, ap, ◌∙◌, arith, FitsSigned}
use Rattle.std.specs.Int.{w64}
use Rattle.std.proofs.lemmas.Int.{to_z-of_z}
use Rattle.std.proofs.lemmas.List.{take_rest, take_more_set, length-set, length-drop}
use Rattle.byte_fields.specs.Fields.{AreBytes}
use Rattle.opclass_multi.specs.declared.element.Element.{Element}
use Rattle.opclass_multi.specs.Elements.{weight}
use Rattle.opclass_multi.specs.Encoding.{size_of}
use Rattle.opclass_multi.specs.Reading.{element_in, elements_in, behind, read_of, sized}
use Rattle.opclass_multi.proofs.Reducing.{weight_bounds}
use Rattle.opclass_multi.proofs.Decoding.{AreBytes-drop, on_more, on_fault, on_end, on_rest, element_taken, sized_err, sized_ok, taken_within}
use Rattle.opclass_multi.proofs.bytes.read_into.Goals as goal

pub returns-in-Err-clause-place : goal.returns-in-Err-clause-place
returns-in-Err-clause-place c =
    let bytes : List ℕ = c.args.bytes.now in
    let number = c.from-number.result in
    let got : element_in c.elements.intervals c.elements.before (drop c.elements.at bytes) ≡ Err c.in-Err.fault =
    sized_err c.elements.intervals _ c.in-Err.fault (sym (c.read_element.ensures.element ∙ ap (λ (l : List ℕ). sized c.elements.intervals (element_in c.elements.intervals c.elements.before l)) (take_rest bytes c.elements.at)) ∙ c.in-Err.is) in
    on_fault (read_of c.args.limit bytes) c.elements.at (number - (c.elements.place + 1)) (number - c.elements.place) c.elements.intervals c.in-Err.fault _ c.elements.before bytes (omega arith) c.elements.invariant.so_far got

pub elements-preserved : goal.elements-preserved
elements-preserved c =
    let bytes : List ℕ = c.args.bytes.now in
    let number = c.from-number.result in
    let at = c.elements.at in
    let intervals = c.elements.intervals in
    let e : Element = c.in-Ok.read.element in
    let both = sized_ok intervals _ c.in-Ok.read (sym (c.read_element.ensures.element ∙ ap (λ (l : List ℕ). sized intervals (element_in intervals c.elements.before l)) (take_rest bytes at)) ∙ c.in-Ok.is) in
    let items : List Element = c.elements.places in
    let place = c.elements.place in
    let got : element_in intervals c.elements.before (drop at bytes) ≡ Ok e = both.0 in
    let small : AreBytes bytes = λ i. let byte = c.type_inv.bytes i in omega (arith, byte) in
    let one = element_taken intervals c.elements.before (drop at bytes) e (AreBytes-drop at bytes small) got in
    let within : size_of e ≤ length (drop at bytes) = taken_within intervals c.elements.before (drop at bytes) e one in
    let fits : FitsSigned w64 e.greatest = search rules in
    let room : place < length items = omega (arith, c.elements.invariant.size, c.requires.places, c.elements-test.true, c.if-limit-number.false) in
    let list : take place items ++ e ∷ [] ≡ take (place + 1) (set items place e) = sym (take_more_set items place e room) in
    let left : suc intervals - weight e ≡ c.in-Ok.read.intervals = sym both.2 in
    let next : at + size_of e ≡ at + c.in-Ok.read.size = omega (arith, both.1) in
    let greatest = sym (to_z-of_z w64 e.greatest fits) in
    record {
      within = omega (arith, both.1, within, length-drop at bytes);
      few = omega (arith, both.2, (weight_bounds e).0, c.elements.invariant.few);
      bound = omega (arith, c.elements-test.true);
      size = length-set items place e ∙ c.elements.invariant.size;
      so_far =
          on_more (read_of c.args.limit bytes) at (number - (place + 1)) (number - place) intervals (take place items) c.elements.before bytes e (omega arith) c.elements.invariant.so_far got
          ∙ (λ i. behind (next i) (list i) (elements_in (number - (place + 1)) (left i) (Some (greatest i)) (drop (next i) bytes)));
    }

pub returns-then-at-bytes-clause-place : goal.returns-then-at-bytes-clause-place
returns-then-at-bytes-clause-place c =
    on_rest (read_of c.args.limit c.args.bytes.now) c.elements.at (c.from-number.result - c.elements.place) c.elements.intervals _ c.elements.before c.args.bytes.now (omega (arith, c.elements-test.false)) c.elements.invariant.so_far c.if-at-bytes.true

pub returns-clause-found : goal.returns-clause-found
returns-clause-found c =
    let all : c.elements.place ≡ c.from-number.result = omega (arith, c.elements-test.false, c.elements.invariant.bound) in (
      omega (arith, c.if-limit-number.false),
      on_end (read_of c.args.limit c.args.bytes.now) c.elements.at (c.from-number.result - c.elements.place) c.elements.intervals _ c.elements.before c.args.bytes.now (omega (arith, c.elements-test.false)) c.elements.invariant.so_far c.if-at-bytes.false
          ∙ ap (λ n. Ok (take n c.elements.places)) all,
    )
