use Rattle.std.proofs.Common.{inl, ◌∙◌}
use Rattle.opclass_inclusion.proofs.SpanAsking.{null_holds_nothing}
use Rattle.opclass_inclusion.proofs.span_class.SpanHullOpClass.consistent.Goals as goal

pub returns-clause-null_key : goal.returns-clause-null_key
returns-clause-null_key c = λ null. inl (c.hold.ensures.answer ∙ null_holds_nothing c.args.s.now c.args.conds.now null)
