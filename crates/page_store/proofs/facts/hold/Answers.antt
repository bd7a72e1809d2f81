use Rattle.std.proofs.Common.{◌≡◌, ◌<◌, List, length, sym, ap, subst, ◌∙◌}
use Rattle.std.specs.Prelude.{Some}
use Rattle.store_layout.specs.PagesFillDisk.{PagesFillDisk}
use Rattle.store_layout.specs.DiskLayout.{DiskLayout, relation_blocks}
use Rattle.page_layout.specs.declared.page.Form.{Form}
use Rattle.page_map.specs.declared.facts.PageFacts.{PageFacts}
use Rattle.page_map.specs.Forms.{form_of, forms_of}
use Rattle.page_store.specs.LoggedState.{LoggedState}
use Rattle.page_store.specs.StoreFacts.{AreKnown}
use Rattle.recovery.specs.PageNumbers.{page_number}
use Rattle.recovery.specs.ShownPages.{content_at}
use Rattle.page_map.specs.PageFacts.{facts_on}
use Rattle.page_layout.specs.PageContents.{IsPageOf}
use Rattle.page_store.proofs.FactSteps.{fact_place}
use Rattle.page_store.proofs.KnownSteps.{known_added, known_kept}
use Rattle.page_store.specs.Noted.{noted}
use Rattle.page_store.proofs.facts.hold.Goals as goal

pub form_at-form-requires-clause-relation : goal.form_at-form-requires-clause-relation
form_at-form-requires-clause-relation g c = subst (λ (l : DiskLayout). c.args.place.relation < length (relation_blocks l)) (sym c.layout-2.ensures) c.requires.place.relation

pub form_at-form-requires-clause-forms : goal.form_at-form-requires-clause-forms
form_at-form-requires-clause-forms g c = c.requires.forms ∙ ap forms_of (sym c.layout-2.ensures)

pub hold-requires-clause-form : goal.hold-requires-clause-form
hold-requires-clause-form g c =
    let old = c.args.pages.now in
    let place = c.args.place in
    let own : c.form_at-form.result.now ≡ form_of old.layout place.relation = c.form_at-form.ensures.form ∙ ap (λ (l : DiskLayout). form_of l c.args.place.relation) c.layout-2.ensures in
    own

pub hold-requires-clause-is : goal.hold-requires-clause-is
hold-requires-clause-is g c =
    c.form_at-form.ensures.is

pub returns-in_err-hold-clause-facts : goal.returns-in_err-hold-clause-facts
returns-in_err-hold-clause-facts g c =
    let told = g.D.Disk.told in
    let old = c.args.pages.now in
    let facts = c.args.facts.now.items in
    known_kept told old c.hold.new.self facts c.requires.facts c.hold.ensures.kept c.in_err-hold.ensures.alike

pub note_held-requires-clause-form : goal.note_held-requires-clause-form
note_held-requires-clause-form g c =
    let old = c.args.pages.now in
    let place = c.args.place in
    let own : c.form_at-form.result.now ≡ form_of old.layout place.relation = c.form_at-form.ensures.form ∙ ap (λ (l : DiskLayout). form_of l c.args.place.relation) c.layout-2.ensures in
    own ∙ ap (λ (l : DiskLayout). form_of l c.args.place.relation) (sym c.hold.ensures.kept.leaves.layout)

pub note_held-requires-clause-is : goal.note_held-requires-clause-is
note_held-requires-clause-is g c =
    c.form_at-form.ensures.is

pub note_held-requires-clause-facts : goal.note_held-requires-clause-facts
note_held-requires-clause-facts g c =
    let old = c.args.pages.now in
    let facts = c.args.facts.now.items in
    let place = c.args.place in
    fact_place old.layout facts c.requires.facts.whole place c.requires.place

pub returns-then-branch-clause-facts : goal.returns-then-branch-clause-facts
returns-then-branch-clause-facts g c =
    let told = g.D.Disk.told in
    let old = c.args.pages.now in
    let facts = c.args.facts.now.items in
    let place = c.args.place in
    let own : c.form_at-form.result.now ≡ form_of old.layout place.relation = c.form_at-form.ensures.form ∙ ap (λ (l : DiskLayout). form_of l c.args.place.relation) c.layout-2.ensures in
    let new = c.hold.new.self in
    let notes = c.note_held.ensures.noted in
    let layout : new.layout ≡ old.layout = c.hold.ensures.kept.leaves.layout in
    let fill = subst (λ (l : DiskLayout). PagesFillDisk l) c.layout.ensures c.pages_fill_the_disk.ensures in
    let there = subst (λ (l : DiskLayout). content_at new.pool (page_number l place) ≡ Some notes.page) layout notes.held in
    let passes = subst (λ (f : Form). IsPageOf f notes.page) own notes.passes in
    let all = known_added told old new facts c.requires.facts fill place c.requires.place c.slots_are_read.ensures.one notes.page passes there layout c.hold.ensures.kept c.hold.ensures.adds in
    subst (λ (x : LoggedState g.row.D.Denot). AreKnown told x c.note_held.new.facts.items) (sym c.note_held.ensures.same)
    (subst (λ (l : List (List PageFacts)). AreKnown told new l) (sym (notes.facts ∙ ap (λ (f : Form). noted facts place (facts_on f notes.page)) own)) all)
