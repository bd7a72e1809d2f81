use Rattle.opclass_any.specs.declared.classes.AnyClass.TheVariants as forms
use Rattle.opclass_any.proofs.Forms.{summary_of}
use Rattle.opclass_any.proofs.classes.AnyClassOpClass.decode.Goals as goal

pub decode-requires : goal.decode-requires
decode-requires c = record { of_class = summary_of _ (forms.MinMax _) _ _ c.in-MinMax-MinMax.is-0 c.in-MinMax-MinMax.is-1 c.requires.of_class }

pub decode-requires-in-Multi-Multi : goal.decode-requires-in-Multi-Multi
decode-requires-in-Multi-Multi c = record { of_class = summary_of _ (forms.Multi _) _ _ c.in-Multi-Multi.is-0 c.in-Multi-Multi.is-1 c.requires.of_class }

pub decode-requires-in-SpanHull-SpanHull : goal.decode-requires-in-SpanHull-SpanHull
decode-requires-in-SpanHull-SpanHull c = record { of_class = summary_of _ (forms.SpanHull _) _ _ c.in-SpanHull-SpanHull.is-0 c.in-SpanHull-SpanHull.is-1 c.requires.of_class }

pub decode-requires-in-NetHull-NetHull : goal.decode-requires-in-NetHull-NetHull
decode-requires-in-NetHull-NetHull c = record { of_class = summary_of _ (forms.NetHull _) _ _ c.in-NetHull-NetHull.is-0 c.in-NetHull-NetHull.is-1 c.requires.of_class }

pub decode-requires-in-Bloom-Bloom : goal.decode-requires-in-Bloom-Bloom
decode-requires-in-Bloom-Bloom c = record { of_class = summary_of _ (forms.Bloom _) _ _ c.in-Bloom-Bloom.is-0 c.in-Bloom-Bloom.is-1 c.requires.of_class }
