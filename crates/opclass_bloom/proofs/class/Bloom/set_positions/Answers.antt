use Rattle.std.proofs.Common.{◌≡◌, ℕ, List, Bool, true, fold, map, length, Some, sym, ap, ◌∙◌, subst, arith}
use Rattle.std.specs.List.{list_all, range_with_len}
use Rattle.opclass_bloom.specs.Bits.{is_set, with_position}
use Rattle.opclass_bloom.specs.Parameters.{Parameters}
use Rattle.opclass_bloom.specs.Positions.{position, positions_by}
use Rattle.opclass_bloom.proofs.Setting.{length-with_positions, one_more, hash_set}
use Rattle.opclass_bloom.proofs.class.Bloom.set_positions.Goals as goal

pub set-requires : goal.set-requires
set-requires c =
    let qs = map (position c.args.self.now.bits c.args.hash) (range_with_len 0 c.positions.i) in
    let long = ap length c.positions.invariant ∙ length-with_positions qs c.args.s.now ∙ c.requires in
    rw long c.position.ensures.within

pub positions-preserved : goal.positions-preserved
positions-preserved c =
    let f = position c.args.self.now.bits c.args.hash in
    c.set.ensures ∙ ap (λ (s : List Bool). with_position s c.position.result) c.positions.invariant ∙ ap (λ (q : ℕ). with_position (fold with_position c.args.s.now (map f (range_with_len 0 c.positions.i))) q) c.position.ensures.position ∙ sym (one_more f c.args.s.now c.positions.i)

pub returns : goal.returns
returns c =
    let p = c.args.self.now in
    let kept : c.self.inside.hashes ≡ p.hashes = ap (λ (p : Parameters). p.hashes) c.self.view_is in
    let hashes : c.positions.i ≡ p.hashes = omega (arith, c.positions-test.false, c.positions.auto.i-end, kept) in
    let set : c.positions.s ≡ fold with_position c.args.s.now (positions_by p (Some c.args.hash)) = c.positions.invariant ∙ ap (λ (n : ℕ). fold with_position c.args.s.now (map (position p.bits c.args.hash) (range_with_len 0 n))) hashes in
    record {
      set = set;
      all_set = subst (λ (s : List Bool). list_all (is_set s) (positions_by p (Some c.args.hash)) ≡ true) (sym set) (hash_set p c.args.s.now (Some c.args.hash) (rw (← c.self.view_is) (omega (arith, c.self.invariant.least_bits))) c.requires);
    }
