use Rattle.std.proofs.Common.{◌≡◌, fold, sym, subst, ap, ◌∙◌}
use Rattle.opclass_minmax.specs.Bounds.{Bounds, NothingYet, with_value}
use Rattle.opclass_minmax.specs.ExactSummary.{ExactSummary}
use Rattle.opclass_minmax.proofs.Extremes.{exact_in_order, one_exact, exact_in_any_order}
use Rattle.opclass_minmax.proofs.exact.exact_summary.Goals as goal

pub returns : goal.returns
returns c =
    let values = c.args.values.now in
    let is : c.add_all.new.summary ≡ fold with_value NothingYet values = c.add_all.ensures.added_in_order ∙ ap (λ (s : Bounds). fold with_value s values) c.new-summary.ensures in
    let exact = subst (ExactSummary values) (sym is) (exact_in_order values c.requires) in
    record {
      added_in_order = is;
      exact = exact;
      no_other = λ t also. one_exact values c.add_all.new.summary t exact also;
      any_order = λ others same. exact_in_any_order values others c.requires same ∙ sym is;
    }
