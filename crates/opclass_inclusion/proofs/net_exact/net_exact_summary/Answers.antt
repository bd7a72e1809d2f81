use Rattle.std.proofs.Common.{◌≡◌, fold, sym, subst, ap, ◌∙◌}
use Rattle.opclass_inclusion.specs.NetExact.{ExactSummary}
use Rattle.opclass_inclusion.specs.NetHulls.{with_value}
use Rattle.opclass_inclusion.specs.declared.net_summary.NetSummary.{NetSummary}
use Rattle.opclass_inclusion.specs.declared.net_summary.NetSummary.TheVariants.{NothingYet}
use Rattle.opclass_inclusion.proofs.NetExactness.{exact_in_order, one_exact, exact_in_any_order}
use Rattle.opclass_inclusion.proofs.net_exact.net_exact_summary.Goals as goal

pub returns : goal.returns
returns c =
    let values = c.args.values.now in
    let all = c.known.ensures in
    let is : c.add_all.new.summary ≡ fold with_value NothingYet values = c.add_all.ensures.added_in_order ∙ ap (λ (s : NetSummary). fold with_value s values) c.new-summary.ensures in
    let exact = subst (ExactSummary values) (sym is) (exact_in_order values all) in
    record {
      of_class = c.add_all.ensures.stays_of_class;
      added_in_order = is;
      includes_each = c.add_all.ensures.includes_each;
      exact = exact;
      no_other = λ t also. one_exact values c.add_all.new.summary t exact also;
      any_order = λ others same. exact_in_any_order values others all same ∙ sym is;
    }
