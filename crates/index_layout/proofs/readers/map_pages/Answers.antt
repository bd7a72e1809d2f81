use Rattle.std.proofs.Common.{◌∙◌, sym, arith}
use Rattle.index_layout.proofs.Reading.{pages_none, pages_some}
use Rattle.index_layout.proofs.readers.map_pages.Goals as goal

pub returns-then-page-ne-META : goal.returns-then-page-ne-META
returns-then-page-ne-META c = sym (pages_none c.args.page.now (λ meta. absurd (omega (arith, meta, c.if-page-ne-META.true))))

pub returns : goal.returns
returns c = c.get_u32.ensures.got ∙ pages_some c.args.page.now (omega (arith, c.if-page-ne-META.false))
