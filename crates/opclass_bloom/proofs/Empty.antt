-- the summary of no value includes nothing
use Rattle.std.proofs.Common.{◌≡◌, ℕ, zero, suc, ◌+◌, ◌≤◌, true, false, map, replicate, sym, ◌∙◌, refl, arith}
use Rattle.std.specs.List.{list_all, range_with_len}
use Rattle.std.proofs.lemmas.Bool.{false≢true, and_parts}
use Rattle.block_model.specs.declared.value.Value.{Value}
use Rattle.block_model.specs.declared.value.Value.TheVariants.{Null, Int, Span, Net}
use Rattle.opclass_bloom.specs.Bits.{is_set, nothing_set}
use Rattle.opclass_bloom.specs.Includes.{Includes, has_all}
use Rattle.opclass_bloom.specs.Parameters.{Parameters}
use Rattle.opclass_bloom.specs.Positions.{positions}

none_set : (n q : ℕ) → is_set (replicate n false) q ≡ false
none_set zero q = refl
none_set (suc n) zero = refl
none_set (suc n) (suc q) = none_set n q

-- a value has a position, and that isn't set
first_fails : (n hashes : ℕ) (f : ℕ → ℕ) → 1 ≤ hashes → list_all (is_set (replicate n false)) (map f (range_with_len 0 hashes)) ≡ true → ⊥
first_fails n zero f some all = absurd (omega (arith, some))
first_fails n (suc hashes) f some all =
    let rest = list_all (is_set (replicate n false)) (map f (range_with_len (0 + 1) hashes)) in
    false≢true (sym (none_set n (f 0)) ∙ (and_parts (is_set (replicate n false) (f 0)) rest all).0)

pub empty_includes_nothing : (p : Parameters) → 1 ≤ p.hashes → (v : Value) → Includes p (nothing_set p) v → ⊥
unfolding has_all positions
empty_includes_nothing p some (Int v) both = first_fails p.bits p.hashes _ some both.1
empty_includes_nothing p some (Net a) both = first_fails p.bits p.hashes _ some both.1
empty_includes_nothing p some Null both = both.0
empty_includes_nothing p some (Span r) both = both.0
