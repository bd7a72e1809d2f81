use Rattle.std.proofs.Common.{◌≡◌, ◌⊎◌, inr}
use Rattle.std.specs.Prelude.{IsTrue}
use Rattle.std.proofs.lemmas.Result.{IfOk-weaker}
use Rattle.block_model.specs.declared.limits.TheConstants.{PAGE_SIZE}
use Rattle.byte_fields.specs.Fields.{field_at}
use Rattle.wal_record.specs.Changes.{logged}
use Rattle.page_map.specs.Redo.{IsAnew}
use Rattle.recovery.specs.Opens.{disk_page}
use Rattle.recovery.proofs.Places.{read_there}
use Rattle.recovery.proofs.page.page_before.Goals as goal

pub returns-clause-page : goal.returns-clause-page
returns-clause-page g c =
    IfOk-weaker c.read_page.result (λ page. IsTrue (g.D.Disk.told c.args.disk.now).tells_contents → page ≡ field_at (g.D.Disk.told c.args.disk.now).contents c.page_at.result PAGE_SIZE)
    (λ page. IsTrue (g.D.Disk.told c.args.disk.now).tells_contents → IsAnew (logged c.args.change.now) ⊎ (page ≡ disk_page c.args.layout.now (g.D.Disk.told c.args.disk.now).contents c.args.place))
    (λ page read tells. inr (read_there c.args.layout.now c.args.place (g.D.Disk.told c.args.disk.now).contents page c.page_at.result c.page_at.ensures (read tells)))
    c.read_page.ensures.page
