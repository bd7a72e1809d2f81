use Rattle.std.proofs.Common.{rules, arith, FitsSigned, sym, ◌∷◌, ◌++◌, ◌∙◌}
use Rattle.std.proofs.lemmas.Int.{to_z-of_z}
use Rattle.std.specs.Int.{w64}
use Rattle.byte_fields.specs.Int8.{int8_bytes}
use Rattle.opclass_inclusion.proofs.SpanReading.{bytes_again}
use Rattle.opclass_inclusion.proofs.span_bytes.fields_in.Goals as goal

pub returns-clause-fields : goal.returns-clause-fields
returns-clause-fields c =
    let l = c.number_at.result in
    let g = c.number_at-2.result in
    let fits : FitsSigned w64 l = search rules in
    let also : FitsSigned w64 g = search rules in
    λ i. record {
      flags = c.byte_at.ensures i;
      shape = c.byte_at-2.ensures i;
      lower = (to_z-of_z w64 l fits ∙ c.number_at.ensures.number) i;
      upper = (to_z-of_z w64 g also ∙ c.number_at-2.ensures.number) i;
    }

pub returns-clause-whole : goal.returns-clause-whole
returns-clause-whole c = λ size.
    let bytes = c.args.bytes.now in
    let l = c.number_at.result in
    let g = c.number_at-2.result in
    let fits : FitsSigned w64 l = search rules in
    let also : FitsSigned w64 g = search rules in
    bytes_again l g bytes size (c.number_at.ensures.again (omega (arith, size))) (c.number_at-2.ensures.again (omega (arith, size)))
    ∙ (λ i. sym c.byte_at.ensures i ∷ sym c.byte_at-2.ensures i ∷ (int8_bytes (sym (to_z-of_z w64 l fits) i) ++ int8_bytes (sym (to_z-of_z w64 g also) i)))
