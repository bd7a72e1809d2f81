use Rattle.std.proofs.Common.{◌≡◌, ℕ, refl, ap, arith, rules, tests}
use Rattle.std.proofs.lemmas.Iterator.{YieldsList-from_range}
use Rattle.std.proofs.lemmas.Iterator.Search.{all_from_yields_List}
use Rattle.std.proofs.lemmas.List.Folds.{list_all-map}
use Rattle.opclass_bloom.specs.Bits.{is_set}
use Rattle.opclass_bloom.specs.Parameters.{Parameters}
use Rattle.opclass_bloom.specs.Positions.{position}
use Rattle.opclass_bloom.proofs.class.Bloom.has_positions.Goals as goal

pub returns : goal.returns
returns c =
    let hashes : c.self.inside.hashes ≡ c.args.self.now.hashes = ap (λ (p : Parameters). p.hashes) c.self.view_is in
    rw (← hashes, list_all-map) (
    all_from_yields_List (λ (i : ℕ). is_set c.args.s.now (position c.args.self.now.bits c.args.hash i)) _ _ c.all.result c.all.ensures.ran (YieldsList-from_range 0 c.self.inside.hashes c.self.inside.hashes refl (omega arith)) (λ x b q k. search (rules, tests)))
