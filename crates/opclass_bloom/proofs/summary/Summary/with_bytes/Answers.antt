use Rattle.std.proofs.Common.{ap, ◌∙◌}
use Rattle.opclass_bloom.specs.Kept.{bits_of}
use Rattle.opclass_bloom.proofs.Bytes.{bits_of_zeros}
use Rattle.opclass_bloom.proofs.summary.Summary.with_bytes.Goals as goal

pub returns : goal.returns
returns c = ap bits_of (c.into_boxed_slice.ensures.items ∙ c.in_ok-bytes.ensures.items_if_clones_equal (λ y is. is)) ∙ bits_of_zeros c.args.bytes
