use Rattle.std.proofs.Common.{refl, inl, inr}
use Rattle.opclass_any.specs.AnyClass.{greatest_size}
use Rattle.opclass_any.proofs.classes.inclusion_of.Goals as goal

pub returns-in-Net-clause-size : goal.returns-in-Net-clause-size
unfolding greatest_size
returns-in-Net-clause-size c = rw c.in-Net.is refl

pub returns-in-Int : goal.returns-in-Int
unfolding greatest_size
returns-in-Int c = elim c.in-Int.is [
  | inl int ↦ rw int (record { class = refl; size = refl })
  | inr span ↦ rw span (record { class = refl; size = refl })
]
