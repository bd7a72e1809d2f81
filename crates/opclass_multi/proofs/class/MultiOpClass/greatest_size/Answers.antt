use Rattle.std.proofs.Common.{Ok, arith, sym, ap, ◌∙◌, length-append}
use Rattle.std.specs.Int.{bytes_high_first}
use Rattle.std.specs.List.{flat_map}
use Rattle.std.specs.Prelude.{length}
use Rattle.byte_fields.specs.Fields.{length-number}
use Rattle.opclass_multi.specs.Encoding.{element_bytes}
use Rattle.opclass_multi.specs.Reading.{kept_in}
use Rattle.opclass_multi.proofs.Decoding.{read_again}
use Rattle.opclass_multi.proofs.Writing.{length-elements}
use Rattle.opclass_multi.proofs.class.MultiOpClass.greatest_size.Goals as goal

pub returns-clause-bound : goal.returns-clause-bound
returns-clause-bound c = λ s of.
    omega (arith, of.within, length-elements s.elements, length-number 2 (length s.elements), length-append (bytes_high_first 2 (length s.elements)) (flat_map element_bytes s.elements))

pub returns-clause-read_again : goal.returns-clause-read_again
returns-clause-read_again c = λ s of.
    let limit = c.args.self.now in
    ap (kept_in limit) (read_again limit s.elements (omega (arith, c.limit.ensures.own, c.limit.ensures.known.greatest)) of.apart of.within) ∙ (λ i. Ok (record { limit = sym of.own_limit i; elements = s.elements }))
