-- how a line that isn't read is refused
use Rattle.std.specs.Prelude.{Option, None, Some}
use Rattle.block_model.specs.declared.reply.Refusal.{Refusal}
use Rattle.block_model.specs.declared.reply.Refusal.TheVariants as refusals
use Rattle.query_words.specs.declared.line.LineFault.{LineFault}
use Rattle.query_words.specs.declared.line.LineFault.TheVariants as faults

-- the refusal of a fault, with its place; want of memory is no fault of a line
abbrev pub refusal_of : LineFault → Option Refusal
refusal_of (faults.Syntax at) = Some (refusals.Syntax at)
refusal_of (faults.NoTable at) = Some (refusals.NoTable at)
refusal_of (faults.NoIndex at) = Some (refusals.NoIndex at)
refusal_of (faults.NoColumn at) = Some (refusals.NoColumn at)
refusal_of (faults.Kind at) = Some (refusals.NoColumn at)
refusal_of faults.Memory = None
