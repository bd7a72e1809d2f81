use Rattle.std.proofs.Common.{◌∙◌, ap}
use Rattle.std.specs.Prelude.{Some}
use Rattle.page_redo.specs.SlotsOnPage.{slots_on}
use Rattle.page_map.proofs.FactsKept.{next_lowest}
use Rattle.page_map.proofs.facts.lowest_after_put.Goals as goal

pub returns-then-lowest-slot : goal.returns-then-lowest-slot
returns-then-lowest-slot c =
    let form = c.args.form.now in
    let page = c.args.page.now in
    let has = c.requires.put.0 in
    next_lowest form page c.args.slot c.first_free_from.result has (c.requires.put.1 (c.in-Some.is ∙ ap Some c.if-lowest-slot.true)) (c.first_free_from.ensures.contents (slots_on form page) has)
