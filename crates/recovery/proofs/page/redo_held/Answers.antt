use Rattle.std.proofs.Common.{◌≡◌, ℕ, List, refl, sym, ◌∙◌, ap, subst}
use Rattle.std.specs.Prelude.{Some}
use Rattle.page_layout.specs.declared.page.Form.{Form}
use Rattle.page_layout.specs.PageContents.{IsPageOf}
use Rattle.page_map.specs.Forms.{form_of}
use Rattle.wal_record.specs.Changes.{logged}
use Rattle.buffer_pool.specs.PoolState.{HeldPage, held_at, with_page}
use Rattle.recovery.specs.PageNumbers.{page_number}
use Rattle.recovery.specs.PooledPages.{HoldsDurablePages}
use Rattle.recovery.proofs.Changing.{pages_set}
use Rattle.recovery.proofs.Pooling.{changes_held, held_checked, lent_held, none_held, sets_held}
use Rattle.recovery.proofs.page.redo_held.Goals as goal

pub redo_checked-result-requires-clause-page : goal.redo_checked-result-requires-clause-page
redo_checked-result-requires-clause-page c =
    let layout = c.args.layout.now in
    let lent = lent_held (held_at c.args.pool.now c.number_of.result) c.in-Some.page.now c.in-Some.ensures.page in
    let got : held_at c.args.pool.now (page_number layout c.args.place) ≡ Some lent.0 = ap (held_at c.args.pool.now) (sym c.number_of.ensures.number) ∙ lent.1 in
    let checked = held_checked layout c.pages_fill_the_disk.ensures c.args.pool.now c.args.place lent.0 c.requires.place c.requires.held got in
    subst (λ (form : Form). IsPageOf form c.in-Some.page.now) (sym c.form_of-form.ensures.form) (subst (λ (page : List ℕ). IsPageOf (form_of layout c.args.place.relation) page) (sym lent.2) checked)

pub returns-in-Some-clause-held : goal.returns-in-Some-clause-held
returns-in-Some-clause-held c =
    let layout = c.args.layout.now in
    let pool = c.args.pool.now in
    let made = c.redo_checked-result.new.page in
    let new : HeldPage = record { content = made; log = Some 0 } in
    let lent = lent_held (held_at pool c.number_of.result) c.in-Some.page.now c.in-Some.ensures.page in
    let got : held_at pool (page_number layout c.args.place) ≡ Some lent.0 = ap (held_at pool) (sym c.number_of.ensures.number) ∙ lent.1 in
    subst (λ (n : ℕ). HoldsDurablePages layout (with_page pool n new)) (sym c.number_of.ensures.number)
    (pages_set layout c.pages_fill_the_disk.ensures pool (with_page pool (page_number layout c.args.place) new) c.args.place c.requires.place new (sets_held pool (page_number layout c.args.place) lent.0 new got) c.known.ensures.whole
    (subst (λ (form : Form). IsPageOf form made) c.form_of-form.ensures.form c.redo_checked-result.ensures.passes) refl c.requires.held)

pub returns-in-Some-clause-changed : goal.returns-in-Some-clause-changed
returns-in-Some-clause-changed c =
    let layout = c.args.layout.now in
    let pool = c.args.pool.now in
    let lent = lent_held (held_at pool c.number_of.result) c.in-Some.page.now c.in-Some.ensures.page in
    changes_held layout c.args.place (logged c.args.change.now) pool c.form_of-form.result lent.0 c.in-Some.page.now c.redo_checked-result.new.page c.number_of.result c.redo_checked-result.result
    c.form_of-form.ensures.form c.number_of.ensures.number lent.1 lent.2 c.known.ensures.small c.redo_checked-result.ensures.fitted c.redo_checked-result.ensures.done c.redo_checked-result.ensures.misfit

pub returns-in-None-clause-absent : goal.returns-in-None-clause-absent
returns-in-None-clause-absent c =
    (ap (held_at c.args.pool.now) (sym c.number_of.ensures.number) ∙ none_held (held_at c.args.pool.now c.number_of.result) c.in-None.ensures.page, refl)
