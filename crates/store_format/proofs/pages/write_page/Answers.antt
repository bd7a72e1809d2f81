use Rattle.std.proofs.Common.{◌≡◌, ℕ, length, ◌∙◌, ap}
use Rattle.store_layout.specs.DiskLayout.{page_offset}
use Rattle.disk_trait.specs.Spliced.{spliced}
use Rattle.store_format.proofs.Places.{page_written, front_kept, torn_page}
use Rattle.store_format.proofs.pages.write_page.Goals as goal

pub returns-in_err-put_behind-clause-front : goal.returns-in_err-put_behind-clause-front
returns-in_err-put_behind-clause-front g c tells =
    let old = g.D.Disk.told c.args.disk.now in
    let new = g.D.Disk.told c.put_behind.new.disk in
    let page = c.fill_page.new.page in
    let long : length page ≡ 8192 = c.fill_page.ensures.whole in
    front_kept c.args.layout.now c.pages_fill_the_disk.ensures c.args.place c.requires.place old.contents new.contents
    (torn_page (page_offset c.args.layout.now c.args.place) c.page_at.result page old.contents new.contents c.page_at.ensures long (c.put_behind.ensures.others tells))

pub returns-clause-front : goal.returns-clause-front
returns-clause-front g c tells =
    let old = g.D.Disk.told c.args.disk.now in
    let new = g.D.Disk.told c.put_behind.new.disk in
    let page = c.fill_page.new.page in
    let long : length page ≡ 8192 = c.fill_page.ensures.whole in
    front_kept c.args.layout.now c.pages_fill_the_disk.ensures c.args.place c.requires.place old.contents new.contents
    (torn_page (page_offset c.args.layout.now c.args.place) c.page_at.result page old.contents new.contents c.page_at.ensures long (c.put_behind.ensures.others tells))

pub returns-clause-pages : goal.returns-clause-pages
returns-clause-pages g c tells =
    let old = g.D.Disk.told c.args.disk.now in
    let new = g.D.Disk.told c.put_behind.new.disk in
    let page = c.fill_page.new.page in
    let long : length page ≡ 8192 = c.fill_page.ensures.whole in
    page_written c.args.layout.now c.pages_fill_the_disk.ensures c.args.place c.requires.place page old.contents new.contents c.fill_page.ensures.page long
    (g.met.D.Disk.contents_fit c.args.disk.now tells ∙ c.requires.size)
    (c.in_ok-put_behind.ensures.written tells ∙ ap (λ (at : ℕ). spliced old.contents at page) c.page_at.ensures)
    (torn_page (page_offset c.args.layout.now c.args.place) c.page_at.result page old.contents new.contents c.page_at.ensures long (c.put_behind.ensures.others tells))
