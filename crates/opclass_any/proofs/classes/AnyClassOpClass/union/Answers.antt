use Rattle.opclass_any.specs.declared.classes.AnyClass.TheVariants as forms
use Rattle.opclass_any.proofs.Forms.{summary_of}
use Rattle.opclass_any.proofs.classes.AnyClassOpClass.union.Goals as goal

pub union-requires-clause-of_class : goal.union-requires-clause-of_class
union-requires-clause-of_class c = summary_of _ (forms.MinMax _) _ _ c.in-MinMax-MinMax-MinMax.is-0 c.in-MinMax-MinMax-MinMax.is-1 c.requires.of_class

pub union-requires-clause-other_of_class : goal.union-requires-clause-other_of_class
union-requires-clause-other_of_class c = summary_of _ (forms.MinMax _) _ _ c.in-MinMax-MinMax-MinMax.is-0 c.in-MinMax-MinMax-MinMax.is-2 c.requires.other_of_class

pub union-requires-in-Multi-Multi-Multi-clause-of_class : goal.union-requires-in-Multi-Multi-Multi-clause-of_class
union-requires-in-Multi-Multi-Multi-clause-of_class c = summary_of _ (forms.Multi _) _ _ c.in-Multi-Multi-Multi.is-0 c.in-Multi-Multi-Multi.is-1 c.requires.of_class

pub union-requires-in-Multi-Multi-Multi-clause-other_of_class : goal.union-requires-in-Multi-Multi-Multi-clause-other_of_class
union-requires-in-Multi-Multi-Multi-clause-other_of_class c = summary_of _ (forms.Multi _) _ _ c.in-Multi-Multi-Multi.is-0 c.in-Multi-Multi-Multi.is-2 c.requires.other_of_class

pub union-requires-in-SpanHull-SpanHull-SpanHull-clause-of_class : goal.union-requires-in-SpanHull-SpanHull-SpanHull-clause-of_class
union-requires-in-SpanHull-SpanHull-SpanHull-clause-of_class c = summary_of _ (forms.SpanHull _) _ _ c.in-SpanHull-SpanHull-SpanHull.is-0 c.in-SpanHull-SpanHull-SpanHull.is-1 c.requires.of_class

pub union-requires-in-SpanHull-SpanHull-SpanHull-clause-other_of_class : goal.union-requires-in-SpanHull-SpanHull-SpanHull-clause-other_of_class
union-requires-in-SpanHull-SpanHull-SpanHull-clause-other_of_class c = summary_of _ (forms.SpanHull _) _ _ c.in-SpanHull-SpanHull-SpanHull.is-0 c.in-SpanHull-SpanHull-SpanHull.is-2 c.requires.other_of_class

pub union-requires-in-NetHull-NetHull-NetHull-clause-of_class : goal.union-requires-in-NetHull-NetHull-NetHull-clause-of_class
union-requires-in-NetHull-NetHull-NetHull-clause-of_class c = summary_of _ (forms.NetHull _) _ _ c.in-NetHull-NetHull-NetHull.is-0 c.in-NetHull-NetHull-NetHull.is-1 c.requires.of_class

pub union-requires-in-NetHull-NetHull-NetHull-clause-other_of_class : goal.union-requires-in-NetHull-NetHull-NetHull-clause-other_of_class
union-requires-in-NetHull-NetHull-NetHull-clause-other_of_class c = summary_of _ (forms.NetHull _) _ _ c.in-NetHull-NetHull-NetHull.is-0 c.in-NetHull-NetHull-NetHull.is-2 c.requires.other_of_class

pub union-requires-in-Bloom-Bloom-Bloom-clause-of_class : goal.union-requires-in-Bloom-Bloom-Bloom-clause-of_class
union-requires-in-Bloom-Bloom-Bloom-clause-of_class c = summary_of _ (forms.Bloom _) _ _ c.in-Bloom-Bloom-Bloom.is-0 c.in-Bloom-Bloom-Bloom.is-1 c.requires.of_class

pub union-requires-in-Bloom-Bloom-Bloom-clause-other_of_class : goal.union-requires-in-Bloom-Bloom-Bloom-clause-other_of_class
union-requires-in-Bloom-Bloom-Bloom-clause-other_of_class c = summary_of _ (forms.Bloom _) _ _ c.in-Bloom-Bloom-Bloom.is-0 c.in-Bloom-Bloom-Bloom.is-2 c.requires.other_of_class
