use Rattle.std.proofs.Common.{refl, subst}
use Rattle.page_layout.specs.declared.page.Form.TheVariants as forms
use Rattle.page_layout.specs.PageContents.{IsPageOf}
use Rattle.tx_table.specs.PageEntries.{HasUsed}
use Rattle.tx_table.proofs.Pages.{place_there}
use Rattle.tx_table.proofs.Stores.{names_statuses, page_passes}
use Rattle.tx_table.proofs.opening.used_in_block.Goals as goal

pub read-requires : goal.read-requires
read-requires g c = record { place = place_there c.args.pages.now.layout (record { relation = 0; block = c.args.block }) refl c.requires.block }

pub used_on-requires : goal.used_on-requires
used_on-requires g c = page_passes c.args.pages.now.layout 0 c.in-Ok.page.now refl c.in-Ok.ensures.form

pub returns-in-Ok-clause-used : goal.returns-in-Ok-clause-used
returns-in-Ok-clause-used g c = λ tells. subst (λ page. HasUsed page c.used_on.result) (c.in-Ok.ensures.page tells) c.used_on.ensures.used

pub returns-in-Ok-clause-passes : goal.returns-in-Ok-clause-passes
returns-in-Ok-clause-passes g c = λ tells. subst (IsPageOf forms.Status) (c.in-Ok.ensures.page tells) (page_passes c.args.pages.now.layout 0 c.in-Ok.page.now refl c.in-Ok.ensures.form)

pub returns-in-Err-clause-at : goal.returns-in-Err-clause-at
returns-in-Err-clause-at g c = names_statuses c.args.pages.now.layout (record { relation = 0; block = c.args.block }) c.in-Err.error refl c.requires.block c.in-Err.ensures.at
