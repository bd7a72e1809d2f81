use Rattle.std.proofs.Common.{subst}
use Rattle.page_layout.specs.declared.page.Form.{Form}
use Rattle.page_layout.specs.PageContents.{IsPageOf}
use Rattle.revmap.proofs.map_pages.entry_at.Goals as goal

pub entry_at-requires-clause-page : goal.entry_at-requires-clause-page
entry_at-requires-clause-page g c = subst (λ (f : Form). IsPageOf f c.in-Ok.page.now) c.requires.form c.in-Ok.ensures.form
