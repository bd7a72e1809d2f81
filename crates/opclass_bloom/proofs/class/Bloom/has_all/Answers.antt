use Rattle.std.proofs.Common.{None, Some, sym, ◌∙◌}
use Rattle.opclass_bloom.proofs.Setting.{has_all_is}
use Rattle.opclass_bloom.proofs.class.Bloom.has_all.Goals as goal

pub returns-in-None : goal.returns-in-None
returns-in-None c = sym (has_all_is c.args.self.now c.args.s.now c.args.value.now None c.in-None.ensures)

pub returns-in-Some : goal.returns-in-Some
returns-in-Some c = c.has_positions.ensures ∙ sym (has_all_is c.args.self.now c.args.s.now c.args.value.now (Some c.in-Some.hash) c.in-Some.ensures)
