use Rattle.std.proofs.Common.{◌≡◌, ◌≤◌, ◌<◌, length, sym, ◌∙◌, ap, arith}
use Rattle.block_model.specs.declared.schema.Schema.{Schema}
use Rattle.store_format.specs.FreshStore.{unstarted_page}
use Rattle.store_format.proofs.Places.{status_made, fresh_status, fresh_table, fresh_index, index_others}
use Rattle.store_format.proofs.pages.fill_page.Goals as goal

pub returns-then-place-eq0-clause-page : goal.returns-then-place-eq0-clause-page
returns-then-place-eq0-clause-page c =
    let first : c.args.place.relation ≡ 0 = omega (arith, c.if-place-eq0.true) in
    status_made c.args.page.now c.requires ∙ sym (fresh_status c.args.layout.now c.args.place first)

pub returns-then-from-len-clause-page : goal.returns-then-from-len-clause-page
unfolding unstarted_page
returns-then-from-len-clause-page c =
    let low : c.args.place.relation ≤ length c.args.layout.now.schema.tables = omega (arith, c.if-from-len.true, c.from.ensures, c.len.ensures, ap (λ (s : Schema). length s.tables) c.schema.ensures) in
    c.requires ∙ sym (fresh_table c.args.layout.now c.args.place (λ e. absurd (omega (arith, c.if-place-eq0.false, e))) low)

pub returns-else-place-eq-MAP_BLOCK-clause-page : goal.returns-else-place-eq-MAP_BLOCK-clause-page
unfolding unstarted_page
returns-else-place-eq-MAP_BLOCK-clause-page c =
    let past : length c.args.layout.now.schema.tables < c.args.place.relation = omega (arith, c.if-from-len.false, c.from.ensures, c.len.ensures, ap (λ (s : Schema). length s.tables) c.schema.ensures) in
    c.requires
    ∙ sym (fresh_index c.args.layout.now c.args.place past ∙ index_others c.args.place.block (λ e. absurd (omega (arith, c.if-place-eq-META_BLOCK.false, e))) (λ e. absurd (omega (arith, c.if-place-eq-MAP_BLOCK.false, e))))
