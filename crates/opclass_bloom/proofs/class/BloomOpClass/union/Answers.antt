use Rattle.std.proofs.Common.{length, sym, ap, ◌∙◌, arith}
use Rattle.opclass_bloom.proofs.Bytes.{bytes_there}
use Rattle.opclass_bloom.proofs.Setting.{length-united, kept_by_union, others_by_union, still_included}
use Rattle.opclass_bloom.proofs.class.BloomOpClass.union.Goals as goal

pub returns-clause-stays_of_class : goal.returns-clause-stays_of_class
returns-clause-stays_of_class c = rw c.unite.ensures.united (length-united c.args.s.now c.args.other.now (c.requires.other_of_class ∙ sym c.requires.of_class) ∙ c.requires.of_class)

pub returns-clause-keeps_what_it_included : goal.returns-clause-keeps_what_it_included
returns-clause-keeps_what_it_included c = λ w included.
    rw c.unite.ensures.united (still_included c.args.self.now c.args.s.now _ w (kept_by_union c.args.s.now c.args.other.now) included)

pub returns-clause-includes_the_others : goal.returns-clause-includes_the_others
returns-clause-includes_the_others c = λ w included.
    rw c.unite.ensures.united (still_included c.args.self.now c.args.other.now _ w (others_by_union c.args.s.now c.args.other.now) included)

pub returns-clause-has_bytes : goal.returns-clause-has_bytes
returns-clause-has_bytes c = λ some.
    let long = ap length c.unite.ensures.united ∙ length-united c.args.s.now c.args.other.now (c.requires.other_of_class ∙ sym c.requires.of_class) ∙ c.requires.of_class in
    bytes_there c.unite.new.self (omega (arith, long, c.known.ensures.least_bits))
