use Rattle.std.proofs.Common.{length, Some, sym, ap, ◌∙◌, arith}
use Rattle.opclass_bloom.specs.Positions.{positions_by}
use Rattle.opclass_bloom.proofs.Bytes.{bytes_there}
use Rattle.opclass_bloom.proofs.Setting.{length-with_positions, kept_by_positions, already_set, still_included, with_value_is, has_all_is}
use Rattle.opclass_bloom.proofs.class.BloomOpClass.add.Goals as goal

pub returns-then-has_positions-clause-widened : goal.returns-then-has_positions-clause-widened
returns-then-has_positions-clause-widened c =
    let hash = Some c.in-Some.hash in
    sym (with_value_is c.args.self.now c.args.s.now c.args.v.now hash c.in-Some.ensures ∙ already_set (positions_by c.args.self.now hash) c.args.s.now (sym c.if-has_positions.ensures))

pub returns-then-has_positions-clause-includes_the_value : goal.returns-then-has_positions-clause-includes_the_value
returns-then-has_positions-clause-includes_the_value c =
    (c.requires.of_kind, has_all_is c.args.self.now c.args.s.now c.args.v.now (Some c.in-Some.hash) c.in-Some.ensures ∙ sym c.if-has_positions.ensures)

pub returns-clause-widened : goal.returns-clause-widened
returns-clause-widened c =
    c.set_positions.ensures.set ∙ sym (with_value_is c.args.self.now c.args.s.now c.args.v.now (Some c.in-Some.hash) c.in-Some.ensures)

pub returns-clause-stays_of_class : goal.returns-clause-stays_of_class
returns-clause-stays_of_class c =
    ap length c.set_positions.ensures.set ∙ length-with_positions (positions_by c.args.self.now (Some c.in-Some.hash)) c.args.s.now ∙ c.requires.of_class

pub returns-clause-includes_the_value : goal.returns-clause-includes_the_value
returns-clause-includes_the_value c =
    (c.requires.of_kind, has_all_is c.args.self.now c.set_positions.new.s c.args.v.now (Some c.in-Some.hash) c.in-Some.ensures ∙ c.set_positions.ensures.all_set)

pub returns-clause-keeps_what_it_included : goal.returns-clause-keeps_what_it_included
returns-clause-keeps_what_it_included c = λ w included.
    rw c.set_positions.ensures.set (still_included c.args.self.now c.args.s.now _ w (kept_by_positions (positions_by c.args.self.now (Some c.in-Some.hash)) c.args.s.now) included)

pub returns-then-has_positions-clause-has_bytes : goal.returns-then-has_positions-clause-has_bytes
returns-then-has_positions-clause-has_bytes c = bytes_there c.args.s.now (omega (arith, c.requires.of_class, c.known.ensures.least_bits))

pub returns-clause-has_bytes : goal.returns-clause-has_bytes
returns-clause-has_bytes c =
    let long = ap length c.set_positions.ensures.set ∙ length-with_positions (positions_by c.args.self.now (Some c.in-Some.hash)) c.args.s.now ∙ c.requires.of_class in
    bytes_there c.set_positions.new.s (omega (arith, long, c.known.ensures.least_bits))
