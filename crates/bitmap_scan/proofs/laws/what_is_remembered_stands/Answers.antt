use Rattle.bitmap_scan.proofs.Remembered.{none_remembered, stands_later}
use Rattle.bitmap_scan.proofs.laws.what_is_remembered_stands.Goals as goal

pub returns-clause-stands : goal.returns-clause-stands
returns-clause-stands c = λ old new last later remembers. stands_later old new later last remembers

pub returns-clause-begins : goal.returns-clause-begins
returns-clause-begins c = λ sight. none_remembered sight
