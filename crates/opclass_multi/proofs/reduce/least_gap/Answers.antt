use Rattle.std.proofs.Common.{rules, ◌≤ℤ◌, ◌<ℤ◌, FitsSigned, ◌∙◌, arith, below_more}
use Rattle.std.specs.Int.{w128}
use Rattle.std.proofs.lemmas.Int.{ints, to_z-of_z}
use Rattle.opclass_multi.specs.Reduced.{gap_at}
use Rattle.opclass_multi.proofs.reduce.least_gap.Goals as goal
use Rattle.opclass_multi.proofs.reduce.least_gap.Goals.{then-here-narrowest, else-here-narrowest}

pub places-preserved : goal.places-preserved
places-preserved c =
    let gap = gap_at c.args.elements.now in
    let at = c.places.at in
    let least = c.places.least in
    let fits : FitsSigned w128 c.gap-here.result = search rules in
    elim c.if-here-narrowest.branch [
      | then-here-narrowest w ↦ (let lower : gap at <ℤ gap least = omega (arith, ints) in
          rw (w.least-is, w.narrowest-is) (record {
            within = omega arith;
            narrowest = to_z-of_z w128 c.gap-here.result fits ∙ c.gap-here.ensures;
            least = below_more (λ i. gap at ≤ℤ gap i) at (λ i below. let was = c.places.invariant.least i below in omega (arith, ints)) (omega (arith, ints));
            lowest = λ i below. let was = c.places.invariant.least i below in omega (arith, ints);
          }))
      | else-here-narrowest w ↦ (let higher : gap least ≤ℤ gap at = omega (arith, ints) in
          rw (w.least-is, w.narrowest-is) (record {
            within = omega arith;
            narrowest = c.places.invariant.narrowest;
            least = below_more (λ i. gap least ≤ℤ gap i) at c.places.invariant.least higher;
            lowest = c.places.invariant.lowest;
          }))
    ]
