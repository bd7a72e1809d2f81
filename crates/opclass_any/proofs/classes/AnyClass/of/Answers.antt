use Rattle.std.proofs.Common.{◌≡◌, ℕ, Option, refl, subst, ap}
use Rattle.std.specs.Prelude.{IfSome, SomeIff}
use Rattle.opclass_bloom.specs.Encoding.{size_of}
use Rattle.opclass_bloom.specs.Parameters.{Parameters, AreWithinLimits}
use Rattle.opclass_any.specs.AnyClass.{greatest_size}
use Rattle.opclass_any.proofs.classes.AnyClass.of.Goals as goal

pub returns-in-MinMax-clause-size : goal.returns-in-MinMax-clause-size
unfolding greatest_size
returns-in-MinMax-clause-size c = rw c.in-MinMax.is refl

pub returns-in-Multi-clause-size : goal.returns-in-Multi-clause-size
unfolding greatest_size
returns-in-Multi-clause-size c =
    let same : c.unwrap.result ≡ c.in-Multi.limit = subst (λ (o : Option ℕ). IfSome o (λ n. n ≡ c.in-Multi.limit)) c.unwrap.ensures c.new-in-Multi.ensures.class in
    rw (same, c.in-Multi.is) refl

pub returns-in-Bloom-clause-size : goal.returns-in-Bloom-clause-size
unfolding greatest_size
returns-in-Bloom-clause-size c =
    let p : Parameters = record { bits = c.in-Bloom.bits; hashes = c.in-Bloom.hashes } in
    let made = subst (λ (o : Option Parameters). SomeIff o (AreWithinLimits p) p) c.unwrap-in-Bloom.ensures c.new-in-Bloom.ensures in
    rw c.in-Bloom.is (ap size_of made.1)
