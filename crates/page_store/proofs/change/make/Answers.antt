use Rattle.std.proofs.Common.{◌≡◌, ◌<◌, List, [], ◌∷◌, length, sym, ap, subst, ◌∙◌}
use Rattle.std.specs.Prelude.{Some}
use Rattle.store_layout.specs.PagesFillDisk.{PagesFillDisk}
use Rattle.store_layout.specs.DiskLayout.{DiskLayout, relation_blocks}
use Rattle.page_layout.specs.declared.page.Form.{Form}
use Rattle.page_map.specs.declared.facts.PageFacts.{PageFacts}
use Rattle.page_map.specs.Forms.{form_of, forms_of}
use Rattle.page_store.specs.LoggedState.{LoggedState}
use Rattle.page_store.specs.StoreFacts.{AreKnown, facts_at}
use Rattle.wal_record.specs.Changes.{logged}
use Rattle.recovery.specs.PageNumbers.{page_number}
use Rattle.recovery.specs.ShownPages.{content_at}
use Rattle.page_map.specs.PageFacts.{facts_on}
use Rattle.page_map.specs.Changed.{redone_once}
use Rattle.page_layout.specs.PageContents.{IsPageOf}
use Rattle.page_store.proofs.KnownSteps.{known_changed}
use Rattle.page_store.specs.Noted.{noted}
use Rattle.page_store.proofs.change.make.Goals as goal

pub form_at-form-requires-clause-relation : goal.form_at-form-requires-clause-relation
form_at-form-requires-clause-relation g c = subst (λ (l : DiskLayout). c.args.place.relation < length (relation_blocks l)) (sym c.layout-2.ensures) c.requires.place.relation

pub form_at-form-requires-clause-forms : goal.form_at-form-requires-clause-forms
form_at-form-requires-clause-forms g c = c.requires.forms ∙ ap forms_of (sym c.layout-2.ensures)

pub make-requires-clause-form : goal.make-requires-clause-form
make-requires-clause-form g c =
    let old = c.args.pages.now in
    let place = c.args.place in
    let own : c.form_at-form.result.now ≡ form_of old.layout place.relation = c.form_at-form.ensures.form ∙ ap (λ (l : DiskLayout). form_of l c.args.place.relation) c.layout-2.ensures in
    own

pub make-requires-clause-is : goal.make-requires-clause-is
make-requires-clause-is g c =
    c.form_at-form.ensures.is

pub note_changed-requires-clause-form : goal.note_changed-requires-clause-form
note_changed-requires-clause-form g c =
    c.form_at-form.ensures.is

pub note_changed-requires-clause-held : goal.note_changed-requires-clause-held
note_changed-requires-clause-held g c =
    let old = c.args.pages.now in
    let facts = c.args.facts.now.items in
    let place = c.args.place in
    let own : c.form_at-form.result.now ≡ form_of old.layout place.relation = c.form_at-form.ensures.form ∙ ap (λ (l : DiskLayout). form_of l c.args.place.relation) c.layout-2.ensures in
    let new = c.make.new.self in
    let layout : new.layout ≡ old.layout = c.make.ensures.leaves.layout in
    let made = c.in-Ok.ensures.made in
    let known = subst (λ (f : Form). facts_at facts place ≡ facts_on f made.before) (sym own) (c.requires.facts.held place made.before c.requires.place made.was) in
    record {
      page = made.after;
      held = subst (λ (l : DiskLayout). content_at new.pool (page_number l place) ≡ Some made.after) (sym layout) made.is;
      passes = made.passes;
      made = record {
        before = made.before;
        known = c.facts_of_place-old.ensures ∙ known;
        fits = made.redone.2;
        means = redone_once c.form_at-form.result.now made.before (logged c.args.change.now) made.after made.redone;
      };
    }

pub returns-clause-facts : goal.returns-clause-facts
returns-clause-facts g c =
    let told = g.D.Disk.told in
    let old = c.args.pages.now in
    let facts = c.args.facts.now.items in
    let place = c.args.place in
    let own : c.form_at-form.result.now ≡ form_of old.layout place.relation = c.form_at-form.ensures.form ∙ ap (λ (l : DiskLayout). form_of l c.args.place.relation) c.layout-2.ensures in
    let new = c.make.new.self in
    let layout : new.layout ≡ old.layout = c.make.ensures.leaves.layout in
    let made = c.in-Ok.ensures.made in
    let notes = c.note_changed.ensures.noted in
    let fill = subst (λ (l : DiskLayout). PagesFillDisk l) c.layout.ensures c.pages_fill_the_disk.ensures in
    let there = subst (λ (l : DiskLayout). content_at new.pool (page_number l place) ≡ Some notes.page) layout notes.held in
    let passes = subst (λ (f : Form). IsPageOf f notes.page) own notes.passes in
    let all = known_changed told old new facts c.requires.facts fill place c.requires.place c.slots_are_read.ensures.one notes.page passes there layout (logged c.args.change.now ∷ []) c.make.ensures.leaves.tells c.in-Ok.ensures.changed made.others in
    subst (λ (x : LoggedState g.row.D.Denot). AreKnown told x c.note_changed.new.facts.items) (sym c.note_changed.ensures.same)
    (subst (λ (l : List (List PageFacts)). AreKnown told new l) (sym (notes.facts ∙ ap (λ (f : Form). noted facts place (facts_on f notes.page)) own)) all)
