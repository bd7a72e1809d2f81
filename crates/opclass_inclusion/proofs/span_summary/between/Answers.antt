use Rattle.std.proofs.Common.{sym}
use Rattle.opclass_inclusion.proofs.SpanBounds.{range_made}
use Rattle.opclass_inclusion.proofs.span_summary.between.Goals as goal

pub returns : goal.returns
returns c = range_made c.args.lower c.args.upper c.in-Ok.range c.requires (rw (← c.bracketed.ensures, ← c.bracketed-2.ensures) (sym c.in-Ok.ensures.range))
