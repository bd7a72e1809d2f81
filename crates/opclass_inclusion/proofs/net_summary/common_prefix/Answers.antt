use Rattle.std.proofs.Common.{◌≡◌, sym, ap, subst, arith, ◌∙◌}
use Rattle.opclass_inclusion.specs.NetHulls.{IsCommonPrefix, agreeing_bits, common_prefix}
use Rattle.opclass_inclusion.proofs.NetBits.{all_agree, common_prefix_is, one_fewer}
use Rattle.opclass_inclusion.proofs.NetHullLaws.{none_agree}
use Rattle.opclass_inclusion.proofs.net_summary.common_prefix.Goals as goal

pub returns-then-agree-clause-longest : goal.returns-then-agree-clause-longest
returns-then-agree-clause-longest c =
    let a = c.args.a.now in
    let b = c.args.b.now in
    let is : common_prefix a b ≡ c.shorter.prefix = sym c.shorter.invariant.same ∙ all_agree a b c.shorter.prefix c.shorter-test.true (sym c.agree.ensures ∙ c.if-agree.true) in
    subst (IsCommonPrefix a b) is (common_prefix_is a b (none_agree a b c.known.ensures c.known-2.ensures))

pub shorter-preserved : goal.shorter-preserved
shorter-preserved c = record {
  same = sym (one_fewer c.args.a.now c.args.b.now c.shorter.prefix c.shorter-test.true (sym c.agree.ensures ∙ c.if-agree.false)) ∙ c.shorter.invariant.same;
  within_first = omega (arith, c.shorter.invariant.within_first);
  within_second = omega (arith, c.shorter.invariant.within_second);
}

pub returns-clause-longest : goal.returns-clause-longest
returns-clause-longest c =
    let a = c.args.a.now in
    let b = c.args.b.now in
    let none : c.shorter.prefix ≡ 0 = omega (arith, c.shorter-test.false) in
    let is : common_prefix a b ≡ 0 = sym c.shorter.invariant.same ∙ ap (agreeing_bits a b) none in
    subst (IsCommonPrefix a b) is (common_prefix_is a b (none_agree a b c.known.ensures c.known-2.ensures))
