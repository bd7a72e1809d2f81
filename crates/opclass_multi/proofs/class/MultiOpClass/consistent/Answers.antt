use Rattle.std.proofs.Common.{inl, sym, ◌∙◌}
use Rattle.opclass_multi.proofs.Asking.{misses_none, null_holds_nothing}
use Rattle.opclass_multi.proofs.class.MultiOpClass.consistent.Goals as goal

pub returns-clause-misses_no_match : goal.returns-clause-misses_no_match
returns-clause-misses_no_match c = λ none v within. misses_none c.args.s.now c.args.conds.now v c.requires.comparisons (sym c.hold.ensures ∙ none) within

pub returns-clause-null_key : goal.returns-clause-null_key
returns-clause-null_key c = λ null. inl (c.hold.ensures ∙ null_holds_nothing c.args.s.now c.args.conds.now null)
