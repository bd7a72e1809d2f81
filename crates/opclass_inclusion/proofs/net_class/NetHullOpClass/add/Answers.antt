use Rattle.std.proofs.Common.{sym, subst}
use Rattle.block_model.specs.declared.value.Value.TheVariants.{Net}
use Rattle.opclass_inclusion.specs.NetIncludes.{Includes}
use Rattle.opclass_inclusion.specs.declared.net_summary.NetSummary.{NetSummary}
use Rattle.opclass_inclusion.proofs.NetHullLaws.{one_includes, union_includes, union_keeps}
use Rattle.opclass_inclusion.proofs.net_class.NetHullOpClass.add.Goals as goal

pub returns-in-Net-clause-includes_the_value : goal.returns-in-Net-clause-includes_the_value
returns-in-Net-clause-includes_the_value c =
    let net = c.in-Net.net in
    let one = subst (λ (s : NetSummary). Includes s (Net net)) (sym c.of.ensures.summary) (one_includes net) in
    rw (c.unite.ensures.united, c.in-Net.is) (union_includes c.args.s.now c.of.result (Net net) c.requires.of_class c.of.ensures.of_class one)

pub returns-in-Net-clause-keeps_what_it_included :
    goal.returns-in-Net-clause-keeps_what_it_included
returns-in-Net-clause-keeps_what_it_included c = λ w within. rw c.unite.ensures.united (union_keeps c.args.s.now c.of.result w c.requires.of_class c.of.ensures.of_class within)
