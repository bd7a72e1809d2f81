use Rattle.std.proofs.Common.{inl, sym, ◌∙◌}
use Rattle.opclass_bloom.proofs.Asking.{misses_none, null_holds_nothing}
use Rattle.opclass_bloom.proofs.class.BloomOpClass.consistent.Goals as goal

pub returns-clause-misses_no_match : goal.returns-clause-misses_no_match
returns-clause-misses_no_match c = λ none v included. misses_none c.args.self.now c.args.s.now c.args.conds.now v c.requires.comparisons (sym c.may_meet_all.ensures ∙ none) included

pub returns-clause-null_key : goal.returns-clause-null_key
returns-clause-null_key c = λ null. inl (c.may_meet_all.ensures ∙ null_holds_nothing c.args.self.now c.args.s.now c.args.conds.now null)
