use Rattle.opclass_any.specs.declared.classes.AnyClass.TheVariants as forms
use Rattle.opclass_any.proofs.Forms.{summary_of}
use Rattle.opclass_any.proofs.classes.AnyClassOpClass.consistent.Goals as goal

pub consistent-requires-clause-of_class : goal.consistent-requires-clause-of_class
consistent-requires-clause-of_class c = summary_of _ (forms.MinMax _) _ _ c.in-MinMax-MinMax.is-0 c.in-MinMax-MinMax.is-1 c.requires.of_class

pub consistent-requires-in-Multi-Multi-clause-of_class : goal.consistent-requires-in-Multi-Multi-clause-of_class
consistent-requires-in-Multi-Multi-clause-of_class c = summary_of _ (forms.Multi _) _ _ c.in-Multi-Multi.is-0 c.in-Multi-Multi.is-1 c.requires.of_class

pub consistent-requires-in-SpanHull-SpanHull-clause-of_class : goal.consistent-requires-in-SpanHull-SpanHull-clause-of_class
consistent-requires-in-SpanHull-SpanHull-clause-of_class c = summary_of _ (forms.SpanHull _) _ _ c.in-SpanHull-SpanHull.is-0 c.in-SpanHull-SpanHull.is-1 c.requires.of_class

pub consistent-requires-in-NetHull-NetHull-clause-of_class : goal.consistent-requires-in-NetHull-NetHull-clause-of_class
consistent-requires-in-NetHull-NetHull-clause-of_class c = summary_of _ (forms.NetHull _) _ _ c.in-NetHull-NetHull.is-0 c.in-NetHull-NetHull.is-1 c.requires.of_class

pub consistent-requires-in-Bloom-Bloom-clause-of_class : goal.consistent-requires-in-Bloom-Bloom-clause-of_class
consistent-requires-in-Bloom-Bloom-clause-of_class c = summary_of _ (forms.Bloom _) _ _ c.in-Bloom-Bloom.is-0 c.in-Bloom-Bloom.is-1 c.requires.of_class
