use Rattle.opclass_inclusion.proofs.SpanHullLaws.{union_keeps}
use Rattle.opclass_inclusion.proofs.span_class.SpanHullOpClass.add.Goals as goal

pub returns-in-Span-clause-keeps_what_it_included :
    goal.returns-in-Span-clause-keeps_what_it_included
returns-in-Span-clause-keeps_what_it_included c = λ w within. rw c.unite.ensures.united (union_keeps c.args.s.now c.of.result w within)
