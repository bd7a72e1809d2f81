use Rattle.std.proofs.Common.{◌∙◌, ℕ, ap, arith, rules}
use Rattle.page_map.specs.Forms.{form_of}
use Rattle.page_map.specs.PageMap.{block_at}
use Rattle.heap_rows.specs.HeapBlocks.{slots_of}
use Rattle.heap_rows.proofs.Heaps.{form_found}
use Rattle.heap_rows.proofs.RowAtSpot.{slots_read}
use Rattle.heap_rows.proofs.deleters.deleter_of.Goals as goal

pub returns-in-Some-clause-deleter : goal.returns-in-Some-clause-deleter
returns-in-Some-clause-deleter g c = λ tells blocks has row there.
    let store = c.args.pages.now in
    let spot = c.args.spot in
    let form = c.form-form.ensures.form ∙ ap (form_of store.layout) c.relation_of-relation.ensures.number ∙ form_found store.layout c.args.table c.requires.table in
    let page = c.in-Ok.ensures.page tells ∙ ap (λ (r : ℕ). block_at store.pages r spot.block) c.relation_of-relation.ensures.number in
    let found = c.in-Some.ensures (slots_of blocks spot.block) row (slots_read has spot row c.form-form.result c.in-Ok.page.now form page there) there in
    cc

pub returns-in-None-clause-outcome : goal.returns-in-None-clause-outcome
returns-in-None-clause-outcome g c =
    let store = c.args.pages.now in
    let spot = c.args.spot in (
      search rules,
      search rules,
      omega arith,
      λ tells.
          let used = c.requires.used tells in
          let form = c.form-form.ensures.form ∙ ap (form_of store.layout) c.relation_of-relation.ensures.number ∙ form_found store.layout c.args.table c.requires.table in
          let page = c.in-Ok.ensures.page tells ∙ ap (λ (r : ℕ). block_at store.pages r spot.block) c.relation_of-relation.ensures.number in
          let found = c.in-None.ensures (slots_of used.0 spot.block) used.1 (slots_read used.2 spot used.1 c.form-form.result c.in-Ok.page.now form page used.3) used.3 in
          absurd cc,
    )
