use Rattle.std.proofs.Common.{◌≤◌, length, arith}
use Rattle.opclass_minmax.specs.Bounds.{Bounds, NothingYet, Between}
use Rattle.opclass_minmax.specs.Encoding.{bytes_of}
use Rattle.opclass_minmax.proofs.Reading.{length-between, read_again}
use Rattle.opclass_minmax.proofs.class.MinMaxOpClass.greatest_size.Goals as goal

within : (s : Bounds) → length (bytes_of s) ≤ 16
within NothingYet = omega arith
within (Between least greatest) = omega (arith, length-between least greatest)

pub returns-clause-bound : goal.returns-clause-bound
returns-clause-bound c = λ s of. within s

pub returns-clause-read_again : goal.returns-clause-read_again
returns-clause-read_again c = read_again
