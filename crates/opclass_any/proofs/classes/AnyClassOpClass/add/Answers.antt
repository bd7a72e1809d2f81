use Rattle.opclass_any.specs.AnyClass.{takes}
use Rattle.opclass_any.specs.declared.classes.AnyClass.TheVariants as forms
use Rattle.opclass_any.proofs.Forms.{summary_of, value_of}
use Rattle.opclass_any.proofs.classes.AnyClassOpClass.add.Goals as goal

pub add-requires-clause-of_class : goal.add-requires-clause-of_class
add-requires-clause-of_class c = summary_of _ (forms.MinMax _) _ _ c.in-MinMax-MinMax.is-0 c.in-MinMax-MinMax.is-1 c.requires.of_class

pub add-requires-clause-of_kind : goal.add-requires-clause-of_kind
unfolding takes
add-requires-clause-of_kind c = value_of _ (forms.MinMax _) _ c.in-MinMax-MinMax.is-0 c.requires.of_kind

pub add-requires-in-Multi-Multi-clause-of_class : goal.add-requires-in-Multi-Multi-clause-of_class
add-requires-in-Multi-Multi-clause-of_class c = summary_of _ (forms.Multi _) _ _ c.in-Multi-Multi.is-0 c.in-Multi-Multi.is-1 c.requires.of_class

pub add-requires-in-Multi-Multi-clause-of_kind : goal.add-requires-in-Multi-Multi-clause-of_kind
unfolding takes
add-requires-in-Multi-Multi-clause-of_kind c = value_of _ (forms.Multi _) _ c.in-Multi-Multi.is-0 c.requires.of_kind

pub add-requires-in-SpanHull-SpanHull-clause-of_class : goal.add-requires-in-SpanHull-SpanHull-clause-of_class
add-requires-in-SpanHull-SpanHull-clause-of_class c = summary_of _ (forms.SpanHull _) _ _ c.in-SpanHull-SpanHull.is-0 c.in-SpanHull-SpanHull.is-1 c.requires.of_class

pub add-requires-in-SpanHull-SpanHull-clause-of_kind : goal.add-requires-in-SpanHull-SpanHull-clause-of_kind
unfolding takes
add-requires-in-SpanHull-SpanHull-clause-of_kind c = value_of _ (forms.SpanHull _) _ c.in-SpanHull-SpanHull.is-0 c.requires.of_kind

pub add-requires-in-NetHull-NetHull-clause-of_class : goal.add-requires-in-NetHull-NetHull-clause-of_class
add-requires-in-NetHull-NetHull-clause-of_class c = summary_of _ (forms.NetHull _) _ _ c.in-NetHull-NetHull.is-0 c.in-NetHull-NetHull.is-1 c.requires.of_class

pub add-requires-in-NetHull-NetHull-clause-of_kind : goal.add-requires-in-NetHull-NetHull-clause-of_kind
unfolding takes
add-requires-in-NetHull-NetHull-clause-of_kind c = value_of _ (forms.NetHull _) _ c.in-NetHull-NetHull.is-0 c.requires.of_kind

pub add-requires-in-Bloom-Bloom-clause-of_class : goal.add-requires-in-Bloom-Bloom-clause-of_class
add-requires-in-Bloom-Bloom-clause-of_class c = summary_of _ (forms.Bloom _) _ _ c.in-Bloom-Bloom.is-0 c.in-Bloom-Bloom.is-1 c.requires.of_class

pub add-requires-in-Bloom-Bloom-clause-of_kind : goal.add-requires-in-Bloom-Bloom-clause-of_kind
unfolding takes
add-requires-in-Bloom-Bloom-clause-of_kind c = value_of _ (forms.Bloom _) _ c.in-Bloom-Bloom.is-0 c.requires.of_kind
