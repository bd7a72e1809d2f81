use Rattle.std.proofs.Common.{◌≡◌}
use Rattle.std.specs.Prelude.{IsTrue}
use Rattle.std.proofs.lemmas.Result.{IfOk-weaker}
use Rattle.block_model.specs.declared.limits.TheConstants.{PAGE_SIZE}
use Rattle.byte_fields.specs.Fields.{field_at}
use Rattle.recovery.specs.ShownPages.{shown_page}
use Rattle.recovery.proofs.PageJudged.{shown_read}
use Rattle.recovery.proofs.order.shown.Goals as goal

pub returns-clause-page : goal.returns-clause-page
returns-clause-page g c =
    let old = g.D.Disk.told c.args.disk.now in
    IfOk-weaker c.read_page.result (λ page. IsTrue old.tells_contents → page ≡ field_at old.contents c.page_at.result PAGE_SIZE) (λ page. IsTrue old.tells_contents → page ≡ shown_page c.args.layout.now c.args.pool.now old.contents c.args.place)
    (λ page read tells.
    shown_read c.args.layout.now c.args.pool.now c.args.place c.number_of.result c.number_of.ensures.number old.contents page c.page_at.result c.in_default.ensures.page c.page_at.ensures (read tells))
    c.read_page.ensures.page
