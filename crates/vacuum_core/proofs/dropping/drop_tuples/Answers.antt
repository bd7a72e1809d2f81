use Rattle.std.proofs.Common.{sym, subst}
use Rattle.page_layout.specs.PageContents.{IsPageOf}
use Rattle.page_layout.specs.PageWrites.{IsOfIndex}
use Rattle.page_layout.specs.declared.page.Form.{Form}
use Rattle.page_map.specs.PageMap.{page_at}
use Rattle.vacuum_core.proofs.dropping.drop_tuples.Goals as goal

pub change-requires-clause-fits : goal.change-requires-clause-fits
change-requires-clause-fits g c = λ tells.
    let store = c.args.pages.now in (
      (
        subst IsOfIndex (sym c.requires.form) tt,
        subst (λ (f : Form). IsPageOf f (page_at store.pages c.args.place)) c.requires.form (c.known.ensures.checked tells c.args.place),
      ),
      c.requires.slots tells,
    )
