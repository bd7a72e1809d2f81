use Rattle.std.proofs.Common.{arith}
use Rattle.opclass_inclusion.specs.SpanEncoding.{fields_of}
use Rattle.opclass_inclusion.proofs.SpanReading.{length-fields, read_again}
use Rattle.opclass_inclusion.proofs.span_class.SpanHullOpClass.greatest_size.Goals as goal

pub returns-clause-bound : goal.returns-clause-bound
returns-clause-bound c = λ s of. omega (arith, length-fields (fields_of s))

pub returns-clause-read_again : goal.returns-clause-read_again
returns-clause-read_again c = read_again
