use Rattle.opclass_inclusion.proofs.SpanHullLaws.{union_includes, union_keeps}
use Rattle.opclass_inclusion.proofs.span_class.SpanHullOpClass.union.Goals as goal

pub returns-clause-keeps_what_it_included : goal.returns-clause-keeps_what_it_included
returns-clause-keeps_what_it_included c = λ w within. rw c.unite.ensures.united (union_keeps c.args.s.now c.args.other.now w within)

pub returns-clause-includes_the_others : goal.returns-clause-includes_the_others
returns-clause-includes_the_others c = λ w within. rw c.unite.ensures.united (union_includes c.args.s.now c.args.other.now w within)
