use Rattle.std.proofs.Common.{◌≡◌, ◌<◌, ◌&&◌, ◌==◌, Bool, true, false, List, [], ◌∷◌, ◌++◌, length, take, sym, ap, ◌∙◌, arith}
use Rattle.block_model.specs.declared.row.Cond.{Cond}
use Rattle.opclass_api.specs.Conditions.{compares}
use Rattle.std.proofs.lemmas.List.{length-append}
use Rattle.range_tuple.specs.Keeps.{comparisons}
use Rattle.range_tuple.proofs.Gathering.{one_fails, one_passes, one_written, room_for_one}
use Rattle.range_tuple.proofs.scan_keys.write_comparisons.Goals.{then-is_comparison_on, else-is_comparison_on}
use Rattle.range_tuple.proofs.scan_keys.write_comparisons.Goals as goal

pub bounds-out-end : goal.bounds-out-end
bounds-out-end c =
    let on : Cond → Bool = λ cond. (cond.column == c.args.place) && compares cond.op in
    let fewer = room_for_one on c.args.conds.now c.conds.cond-index c.cond-item.result c.conds-test.true c.cond-item.is (sym c.is_comparison_on.ensures ∙ c.if-is_comparison_on.true) in
    omega (arith, fewer, c.conds.invariant.place, c.requires.room, c.conds.auto.out)

pub conds-preserved : goal.conds-preserved
conds-preserved c =
    let on : Cond → Bool = λ cond. (cond.column == c.args.place) && compares cond.op in
    let conds = c.args.conds.now in
    let i = c.conds.cond-index in
    let x = c.cond-item.result in
    elim c.if-is_comparison_on.branch [
      | then-is_comparison_on w ↦
          let passes : on x ≡ true = sym c.is_comparison_on.ensures ∙ w.if-is_comparison_on.true in
          let fewer = room_for_one on conds i x c.conds-test.true c.cond-item.is passes in
          let one = one_passes on conds i x c.conds-test.true c.cond-item.is passes in
          let room : c.conds.end < length c.conds.out = omega (arith, fewer, c.conds.invariant.place, c.requires.room, c.conds.auto.out) in
          let written = one_written on conds c.conds.out (take c.args.first c.args.out.now) i c.conds.end x c.conds-test.true c.cond-item.is passes room c.conds.invariant.so_far in
          record {
            place = omega (arith, w.end-is, c.conds.invariant.place, ap length one, length-append (comparisons c.args.place (take i conds)) (x ∷ []));
            so_far = (λ j. take (w.end-is j) (w.out-is j)) ∙ written;
          }
      | else-is_comparison_on w ↦
          let fails : on x ≡ false = sym c.is_comparison_on.ensures ∙ w.if-is_comparison_on.false in
          let same = one_fails on conds i x c.conds-test.true c.cond-item.is fails in
          record {
            place = omega (arith, w.end-is, c.conds.invariant.place, ap length same);
            so_far = (λ j. take (w.end-is j) (w.out-is j)) ∙ c.conds.invariant.so_far ∙ ap (λ (cs : List Cond). take c.args.first c.args.out.now ++ cs) (sym same);
          }
    ]
