use Rattle.std.proofs.Common.{◌∙◌, ℕ, ap, subst, sym}
use Rattle.page_layout.specs.declared.page.Form.{Form}
use Rattle.page_layout.specs.PageContents.{IsPageOf}
use Rattle.page_map.specs.Forms.{form_of}
use Rattle.page_map.specs.PageMap.{block_at}
use Rattle.heap_rows.proofs.Heaps.{form_found}
use Rattle.heap_rows.proofs.SlotRows.{rows_of_block, rows_sound}
use Rattle.heap_rows.proofs.reading.rows_of.Goals as goal

pub returns-in-Ok-clause-rows : goal.returns-in-Ok-clause-rows
returns-in-Ok-clause-rows g c = λ tells blocks has.
    let store = c.args.pages.now in
    let form = c.form-form.ensures.form ∙ ap (form_of store.layout) c.relation_of-relation.ensures.number ∙ form_found store.layout c.args.table c.requires.table in
    let page = c.in-Ok.ensures.page tells ∙ ap (λ (r : ℕ). block_at store.pages r c.args.block) c.relation_of-relation.ensures.number in
    rows_of_block has c.args.block c.form-form.result c.in-Ok.page.now c.read_rows.new.out.rows form page c.requires.block c.read_rows.ensures.contents c.read_rows.ensures.unstarted

pub returns-in-Ok-clause-sound : goal.returns-in-Ok-clause-sound
returns-in-Ok-clause-sound g c =
    let store = c.args.pages.now in
    let form = c.form-form.ensures.form ∙ ap (form_of store.layout) c.relation_of-relation.ensures.number ∙ form_found store.layout c.args.table c.requires.table in
    rows_sound store.layout c.args.table c.form-form.result c.in-Ok.page.now c.read_rows.new.out.rows form (subst (λ (f : Form). IsPageOf f c.in-Ok.page.now) (sym c.form-form.ensures.form) c.in-Ok.ensures.form) c.read_rows.ensures.contents c.read_rows.ensures.unstarted
