use Rattle.std.proofs.Common.{◌≡◌}
use Rattle.index_layout.specs.IndexReading.{end_from, slots_of}
use Rattle.index_layout.proofs.readers.end_of.Given as goal

abbrev pub invariant-loop-below : goal.invariant-loop-below
invariant-loop-below l = end_from 8192 l.below (slots_of l.page) ≡ end_from 8192 l.slot (slots_of l.page)
