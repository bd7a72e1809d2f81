use Rattle.std.proofs.Common.{ℕ, ◌*◌, ◌/◌, ◌^◌, ◌<◌, ◌≤◌, Fits, w8, w64, refl, arith, mul-le-mul}
use Rattle.std.proofs.lemmas.Nat.{or_lt}
use Rattle.opclass_bloom.specs.Positions.{second_hash, position}
use Rattle.opclass_bloom.proofs.hash.position.Goals as goal

-- the product is below 2^40
small_product : (hash i : ℕ) → Fits w64 hash → Fits w8 i → i * second_hash hash ≤ 255 * 2 ^ 32
small_product hash i fits few =
    let high : hash / 2 ^ 32 < 2 ^ 32 = omega (arith, fits) in
    let second : second_hash hash < 2 ^ 32 = or_lt 32 (hash / 2 ^ 32) 1 high (omega arith) in
    let most : i ≤ 255 = omega (arith, few) in
    let below : second_hash hash ≤ 2 ^ 32 = omega (arith, second) in
    mul-le-mul {m₂ = 2 ^ 32} most below

pub overflow_mul-result : goal.overflow_mul-result
overflow_mul-result c = rw c.from.ensures (omega (arith, small_product c.args.hash c.args.i c.ranges.hash c.ranges.i))

pub overflow_add-result : goal.overflow_add-result
overflow_add-result c = rw c.from.ensures (omega (arith, small_product c.args.hash c.args.i c.ranges.hash c.ranges.i))

pub returns-clause-position : goal.returns-clause-position
unfolding position
returns-clause-position c = rw (c.from.ensures, c.from-2.ensures) refl
