use Rattle.std.proofs.Common.{subst}
use Rattle.std.proofs.lemmas.Option.{same_Some}
use Rattle.index_steps.specs.NextPages.{IsOfState}
use Rattle.index_steps.specs.declared.next.PageState.{PageState}
use Rattle.index_steps.specs.declared.next.PageState.TheVariants as states
use Rattle.index_steps.proofs.EmptyMaps.{is_empty}
use Rattle.index_steps.proofs.next.left_over.Goals as goal

pub returns-clause-some : goal.returns-clause-some
returns-clause-some c = λ state is.
    let page = c.args.page.now in
    subst (λ (s : PageState). IsOfState page s) (same_Some states.LeftOver state is) (is_empty page (c.an_index_page_has_one_list.ensures.map page c.requires.page c.requires.map) (c.has_entry.ensures.none c.if-has_entry.false))
