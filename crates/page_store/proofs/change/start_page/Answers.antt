use Rattle.std.proofs.Common.{◌≡◌, ◌<◌, [], ◌∷◌, length, sym, ap, subst, ◌∙◌, arith}
use Rattle.std.specs.Prelude.{Err, IsSome, ⊤}
use Rattle.store_layout.specs.DiskLayout.{DiskLayout, IsPlace, relation_blocks}
use Rattle.page_layout.specs.declared.page.Form.{Form}
use Rattle.wal_record.specs.Changes.{PageStart, logged}
use Rattle.page_map.specs.Changed.{Changed}
use Rattle.page_map.specs.Forms.{FitsIn, FitInTurn, form_of, forms_of}
use Rattle.page_map.specs.Keeps.{Tells, Untold}
use Rattle.page_map.specs.PageMap.{View, page_at}
use Rattle.buffer_pool.specs.PoolState.{held_at}
use Rattle.recovery.specs.PageNumbers.{page_number}
use Rattle.recovery.specs.Safe.{is_marked}
use Rattle.page_store.proofs.ChangeSteps.{alike_held, twice_leaves, damage_back, room_second, room_start, turn_changed, untold_back, damage_outcome, damaged_at, made_at, made_kept, made_outcome, place_from, second_fits, start_loggable, turn_from}
use Rattle.page_map.proofs.Lookups.{on_err}
use Rattle.page_store.proofs.Joining.{outcome_then}
use Rattle.page_store.specs.KeptPages.{KeptPages, LeftStore, kept_on, kept_then}
use Rattle.page_store.proofs.KnownSteps.{known_kept}
use Rattle.page_store.specs.LoggedState.{LoggedState, store_of}
use Rattle.page_store.proofs.change.start_page.Goals as goal

pub form_at-form-requires-clause-relation : goal.form_at-form-requires-clause-relation
form_at-form-requires-clause-relation g c = subst (λ (l : DiskLayout). c.args.place.relation < length (relation_blocks l)) (sym c.layout.ensures) c.requires.place.relation

pub form_at-form-requires-clause-forms : goal.form_at-form-requires-clause-forms
form_at-form-requires-clause-forms g c = c.requires.forms ∙ ap forms_of (sym c.layout.ensures)

pub returns-then-not-takes_started-clause-outcome : goal.returns-then-not-takes_started-clause-outcome
returns-then-not-takes_started-clause-outcome g c =
    let told = g.D.Disk.told in
    let place = c.args.place in
    let change = logged c.args.change.now in
    let begin : LoggedState g.row.D.Denot = c.args.pages.now in
    let old : View g.row.D.Denot = store_of told begin in
    let held : LoggedState g.row.D.Denot = c.hold.new.pages in
    let mid : View g.row.D.Denot = store_of told held in
    let form : c.form_at-form.result.now ≡ form_of begin.layout place.relation = c.form_at-form.ensures.form ∙ ap (λ (l : DiskLayout). form_of l c.args.place.relation) c.layout.ensures in
    let untold : Untold told old = λ tells. c.takes_started.ensures.refuses c.if-not-takes_started.true (page_at old.pages place)
    (subst (λ (f : Form). FitInTurn f (page_at old.pages place) (PageStart place c.args.kind ∷ change ∷ [])) (sym form) (c.requires.fits tells)) in
    outcome_then {T = ⊤} told old mid mid (Err c.damaged.result) c.in_ok-hold.ensures.outcome.0 c.in_ok-hold.ensures.outcome.1 c.hold.ensures.kept.leaves (damage_outcome ⊤ told mid mid held.layout place c.damaged.result c.in_ok-hold.ensures.outcome.1 c.in_ok-hold.ensures.outcome.1 (omega arith) c.damaged.ensures (λ tells. untold (sym c.hold.ensures.kept.leaves.tells ∙ tells)))

pub returns-then-not-takes_started-clause-at : goal.returns-then-not-takes_started-clause-at
returns-then-not-takes_started-clause-at g c =
    let told = g.D.Disk.told in
    let place = c.args.place in
    let begin : LoggedState g.row.D.Denot = c.args.pages.now in
    let old : View g.row.D.Denot = store_of told begin in
    let held : LoggedState g.row.D.Denot = c.hold.new.pages in
    let mid : View g.row.D.Denot = store_of told held in
    damaged_at told old mid c.hold.ensures.kept place c.damaged.result c.damaged.ensures

pub damaged-requires : goal.damaged-requires
damaged-requires g c =
    let told = g.D.Disk.told in
    let place = c.args.place in
    let begin : LoggedState g.row.D.Denot = c.args.pages.now in
    let old : View g.row.D.Denot = store_of told begin in
    let held : LoggedState g.row.D.Denot = c.hold.new.pages in
    let mid : View g.row.D.Denot = store_of told held in
    record { place = place_from told old mid c.hold.ensures.kept place c.requires.place }

pub make_room-requires-clause-place : goal.make_room-requires-clause-place
make_room-requires-clause-place g c =
    let told = g.D.Disk.told in
    let place = c.args.place in
    let begin : LoggedState g.row.D.Denot = c.args.pages.now in
    let old : View g.row.D.Denot = store_of told begin in
    let held : LoggedState g.row.D.Denot = c.hold.new.pages in
    let mid : View g.row.D.Denot = store_of told held in
    place_from told old mid c.hold.ensures.kept place c.requires.place

pub returns-in_err-make_room-clause-leaves : goal.returns-in_err-make_room-clause-leaves
returns-in_err-make_room-clause-leaves g c =
    let told = g.D.Disk.told in
    let begin : LoggedState g.row.D.Denot = c.args.pages.now in
    let old : View g.row.D.Denot = store_of told begin in
    let held : LoggedState g.row.D.Denot = c.hold.new.pages in
    let mid : View g.row.D.Denot = store_of told held in
    let roomed : LoggedState g.row.D.Denot = c.make_room.new.self in
    let room : View g.row.D.Denot = store_of told roomed in
    let keeps : KeptPages told old room = kept_on told old mid room c.hold.ensures.kept c.make_room.ensures.kept in
    keeps.leaves

pub returns-in_err-make_room-clause-facts : goal.returns-in_err-make_room-clause-facts
returns-in_err-make_room-clause-facts g c =
    let told = g.D.Disk.told in
    let held : LoggedState g.row.D.Denot = c.hold.new.pages in
    let roomed : LoggedState g.row.D.Denot = c.make_room.new.self in
    known_kept told held roomed c.hold.new.facts.items c.hold.ensures.facts c.make_room.ensures.kept c.make_room.ensures.alike

pub make-requires-clause-place : goal.make-requires-clause-place
make-requires-clause-place g c =
    let told = g.D.Disk.told in
    let place = c.args.place in
    let begin : LoggedState g.row.D.Denot = c.args.pages.now in
    let old : View g.row.D.Denot = store_of told begin in
    let held : LoggedState g.row.D.Denot = c.hold.new.pages in
    let mid : View g.row.D.Denot = store_of told held in
    let roomed : LoggedState g.row.D.Denot = c.make_room.new.self in
    let room : View g.row.D.Denot = store_of told roomed in
    let keeps : KeptPages told old room = kept_on told old mid room c.hold.ensures.kept c.make_room.ensures.kept in
    place_from told old room keeps place c.requires.place

pub make-requires-clause-forms : goal.make-requires-clause-forms
make-requires-clause-forms g c =
    let told = g.D.Disk.told in
    let begin : LoggedState g.row.D.Denot = c.args.pages.now in
    let old : View g.row.D.Denot = store_of told begin in
    let held : LoggedState g.row.D.Denot = c.hold.new.pages in
    let mid : View g.row.D.Denot = store_of told held in
    let roomed : LoggedState g.row.D.Denot = c.make_room.new.self in
    let room : View g.row.D.Denot = store_of told roomed in
    let keeps : KeptPages told old room = kept_on told old mid room c.hold.ensures.kept c.make_room.ensures.kept in
    c.requires.forms ∙ ap forms_of (sym keeps.leaves.layout)

pub make-requires-clause-facts : goal.make-requires-clause-facts
make-requires-clause-facts g c =
    let told = g.D.Disk.told in
    let held : LoggedState g.row.D.Denot = c.hold.new.pages in
    let roomed : LoggedState g.row.D.Denot = c.make_room.new.self in
    known_kept told held roomed c.hold.new.facts.items c.hold.ensures.facts c.make_room.ensures.kept c.make_room.ensures.alike

pub make-requires-clause-failed : goal.make-requires-clause-failed
make-requires-clause-failed g c =
    c.in_ok-make_room.ensures.outcome.1

pub make-requires-clause-held : goal.make-requires-clause-held
make-requires-clause-held g c =
    let place = c.args.place in
    let held : LoggedState g.row.D.Denot = c.hold.new.pages in
    let roomed : LoggedState g.row.D.Denot = c.make_room.new.self in
    alike_held held.pool roomed.pool c.make_room.ensures.alike (page_number roomed.layout place)
    (subst (λ (l : DiskLayout). IsSome (held_at held.pool (page_number l place))) (sym c.make_room.ensures.kept.leaves.layout) c.in_ok-hold.ensures.held)

pub make-requires-clause-fits : goal.make-requires-clause-fits
make-requires-clause-fits g c =
    let told = g.D.Disk.told in
    let place = c.args.place in
    let change = logged c.args.change.now in
    let begin : LoggedState g.row.D.Denot = c.args.pages.now in
    let old : View g.row.D.Denot = store_of told begin in
    let held : LoggedState g.row.D.Denot = c.hold.new.pages in
    let mid : View g.row.D.Denot = store_of told held in
    let roomed : LoggedState g.row.D.Denot = c.make_room.new.self in
    let room : View g.row.D.Denot = store_of told roomed in
    let keeps : KeptPages told old room = kept_on told old mid room c.hold.ensures.kept c.make_room.ensures.kept in
    λ tells. (turn_from told old room keeps place (PageStart place c.args.kind ∷ change ∷ []) c.requires.fits tells).0

pub make-requires-clause-loggable : goal.make-requires-clause-loggable
make-requires-clause-loggable g c =
    let place = c.args.place in
    start_loggable place c.args.kind

pub make-requires-clause-room : goal.make-requires-clause-room
make-requires-clause-room g c =
    let place = c.args.place in
    let roomed : LoggedState g.row.D.Denot = c.make_room.new.self in
    room_start roomed.log roomed.waiting (is_marked roomed.marks roomed.layout place) place c.args.kind c.size.result c.in_ok-make_room.ensures.room

pub returns-in_err-make-clause-leaves : goal.returns-in_err-make-clause-leaves
returns-in_err-make-clause-leaves g c =
    let told = g.D.Disk.told in
    let begin : LoggedState g.row.D.Denot = c.args.pages.now in
    let old : View g.row.D.Denot = store_of told begin in
    let held : LoggedState g.row.D.Denot = c.hold.new.pages in
    let mid : View g.row.D.Denot = store_of told held in
    let roomed : LoggedState g.row.D.Denot = c.make_room.new.self in
    let room : View g.row.D.Denot = store_of told roomed in
    let keeps : KeptPages told old room = kept_on told old mid room c.hold.ensures.kept c.make_room.ensures.kept in
    let begun : LoggedState g.row.D.Denot = c.make.new.pages in
    let first : View g.row.D.Denot = store_of told begun in
    kept_then told old room first keeps c.make.ensures.leaves

pub make-requires-2-clause-place : goal.make-requires-2-clause-place
make-requires-2-clause-place g c =
    let told = g.D.Disk.told in
    let place = c.args.place in
    let begin : LoggedState g.row.D.Denot = c.args.pages.now in
    let old : View g.row.D.Denot = store_of told begin in
    let held : LoggedState g.row.D.Denot = c.hold.new.pages in
    let mid : View g.row.D.Denot = store_of told held in
    let roomed : LoggedState g.row.D.Denot = c.make_room.new.self in
    let room : View g.row.D.Denot = store_of told roomed in
    let keeps : KeptPages told old room = kept_on told old mid room c.hold.ensures.kept c.make_room.ensures.kept in
    let layout = c.make.ensures.leaves.layout in
    subst (λ (l : DiskLayout). IsPlace l place) (sym layout) (place_from told old room keeps place c.requires.place)

pub make-requires-2-clause-forms : goal.make-requires-2-clause-forms
make-requires-2-clause-forms g c =
    let told = g.D.Disk.told in
    let begin : LoggedState g.row.D.Denot = c.args.pages.now in
    let old : View g.row.D.Denot = store_of told begin in
    let held : LoggedState g.row.D.Denot = c.hold.new.pages in
    let mid : View g.row.D.Denot = store_of told held in
    let roomed : LoggedState g.row.D.Denot = c.make_room.new.self in
    let room : View g.row.D.Denot = store_of told roomed in
    let keeps : KeptPages told old room = kept_on told old mid room c.hold.ensures.kept c.make_room.ensures.kept in
    let layout = c.make.ensures.leaves.layout in
    c.requires.forms ∙ ap forms_of (sym (layout ∙ keeps.leaves.layout))

pub make-requires-2-clause-fits : goal.make-requires-2-clause-fits
make-requires-2-clause-fits g c =
    let told = g.D.Disk.told in
    let place = c.args.place in
    let change = logged c.args.change.now in
    let begin : LoggedState g.row.D.Denot = c.args.pages.now in
    let old : View g.row.D.Denot = store_of told begin in
    let held : LoggedState g.row.D.Denot = c.hold.new.pages in
    let mid : View g.row.D.Denot = store_of told held in
    let roomed : LoggedState g.row.D.Denot = c.make_room.new.self in
    let room : View g.row.D.Denot = store_of told roomed in
    let keeps : KeptPages told old room = kept_on told old mid room c.hold.ensures.kept c.make_room.ensures.kept in
    let start = PageStart place c.args.kind in
    let begun : LoggedState g.row.D.Denot = c.make.new.pages in
    let first : View g.row.D.Denot = store_of told begun in
    let layout = c.make.ensures.leaves.layout in
    let one : Tells told first → Changed roomed.layout place (start ∷ []) room.pages first.pages = λ now. c.in_ok-make.ensures.changed (sym c.make.ensures.leaves.tells ∙ now) in
    λ now. subst (λ (l : DiskLayout). FitsIn l place.relation (page_at first.pages place) change) (sym layout)
    (second_fits roomed.layout place start change room.pages first.pages (turn_from told old room keeps place (start ∷ change ∷ []) c.requires.fits (sym c.make.ensures.leaves.tells ∙ now)) (one now))

pub make-requires-2-clause-room : goal.make-requires-2-clause-room
make-requires-2-clause-room g c =
    let place = c.args.place in
    let change = logged c.args.change.now in
    let roomed : LoggedState g.row.D.Denot = c.make_room.new.self in
    let begun : LoggedState g.row.D.Denot = c.make.new.pages in
    room_second roomed.log begun.log roomed.waiting begun.waiting (is_marked roomed.marks roomed.layout place) (is_marked begun.marks begun.layout place) place c.args.kind change c.size.result c.size.ensures c.in_ok-make_room.ensures.room c.make.ensures.log c.in_ok-make.ensures.waiting c.in_ok-make.ensures.marked

pub returns-clause-changed : goal.returns-clause-changed
returns-clause-changed g c =
    let told = g.D.Disk.told in
    let place = c.args.place in
    let change = logged c.args.change.now in
    let begin : LoggedState g.row.D.Denot = c.args.pages.now in
    let old : View g.row.D.Denot = store_of told begin in
    let held : LoggedState g.row.D.Denot = c.hold.new.pages in
    let mid : View g.row.D.Denot = store_of told held in
    let roomed : LoggedState g.row.D.Denot = c.make_room.new.self in
    let room : View g.row.D.Denot = store_of told roomed in
    let keeps : KeptPages told old room = kept_on told old mid room c.hold.ensures.kept c.make_room.ensures.kept in
    let start = PageStart place c.args.kind in
    let begun : LoggedState g.row.D.Denot = c.make.new.pages in
    let first : View g.row.D.Denot = store_of told begun in
    let new : View g.row.D.Denot = store_of told c.make-2.new.pages in
    let layout = c.make.ensures.leaves.layout in
    let tells = c.make.ensures.leaves.tells in
    turn_changed told old room first new keeps place start change c.make-2.result layout tells c.in_ok-make.ensures.changed c.make-2.ensures.changed

pub returns-clause-leaves : goal.returns-clause-leaves
returns-clause-leaves g c =
    let told = g.D.Disk.told in
    let begin : LoggedState g.row.D.Denot = c.args.pages.now in
    let old : View g.row.D.Denot = store_of told begin in
    let held : LoggedState g.row.D.Denot = c.hold.new.pages in
    let mid : View g.row.D.Denot = store_of told held in
    let roomed : LoggedState g.row.D.Denot = c.make_room.new.self in
    let room : View g.row.D.Denot = store_of told roomed in
    let keeps : KeptPages told old room = kept_on told old mid room c.hold.ensures.kept c.make_room.ensures.kept in
    let begun : LoggedState g.row.D.Denot = c.make.new.pages in
    let first : View g.row.D.Denot = store_of told begun in
    let new : View g.row.D.Denot = store_of told c.make-2.new.pages in
    let both : LeftStore told room new = twice_leaves told room first new c.make.ensures.leaves c.make.ensures.disk c.make-2.ensures.leaves c.make-2.ensures.disk in
    let leaves : LeftStore told old new = kept_then told old room new keeps both in
    leaves

pub returns-clause-kept : goal.returns-clause-kept
returns-clause-kept g c =
    let told = g.D.Disk.told in
    let begin : LoggedState g.row.D.Denot = c.args.pages.now in
    let old : View g.row.D.Denot = store_of told begin in
    let held : LoggedState g.row.D.Denot = c.hold.new.pages in
    let mid : View g.row.D.Denot = store_of told held in
    let roomed : LoggedState g.row.D.Denot = c.make_room.new.self in
    let room : View g.row.D.Denot = store_of told roomed in
    let keeps : KeptPages told old room = kept_on told old mid room c.hold.ensures.kept c.make_room.ensures.kept in
    let begun : LoggedState g.row.D.Denot = c.make.new.pages in
    let first : View g.row.D.Denot = store_of told begun in
    let new : View g.row.D.Denot = store_of told c.make-2.new.pages in
    let both : LeftStore told room new = twice_leaves told room first new c.make.ensures.leaves c.make.ensures.disk c.make-2.ensures.leaves c.make-2.ensures.disk in
    let leaves : LeftStore told old new = kept_then told old room new keeps both in
    let tells = c.make.ensures.leaves.tells in
    made_kept told old room new keeps leaves c.make-2.result (untold_back told room first tells c.make-2.result c.make-2.ensures.untold)

pub returns-clause-at : goal.returns-clause-at
returns-clause-at g c =
    let told = g.D.Disk.told in
    let place = c.args.place in
    let begin : LoggedState g.row.D.Denot = c.args.pages.now in
    let old : View g.row.D.Denot = store_of told begin in
    let held : LoggedState g.row.D.Denot = c.hold.new.pages in
    let mid : View g.row.D.Denot = store_of told held in
    let roomed : LoggedState g.row.D.Denot = c.make_room.new.self in
    let room : View g.row.D.Denot = store_of told roomed in
    let keeps : KeptPages told old room = kept_on told old mid room c.hold.ensures.kept c.make_room.ensures.kept in
    let begun : LoggedState g.row.D.Denot = c.make.new.pages in
    let layout = c.make.ensures.leaves.layout in
    made_at told old room keeps place c.make-2.result (damage_back roomed.layout begun.layout place layout c.make-2.result c.make-2.ensures.refused)

pub returns-clause-outcome : goal.returns-clause-outcome
returns-clause-outcome g c =
    let told = g.D.Disk.told in
    let place = c.args.place in
    let begin : LoggedState g.row.D.Denot = c.args.pages.now in
    let old : View g.row.D.Denot = store_of told begin in
    let held : LoggedState g.row.D.Denot = c.hold.new.pages in
    let mid : View g.row.D.Denot = store_of told held in
    let roomed : LoggedState g.row.D.Denot = c.make_room.new.self in
    let room : View g.row.D.Denot = store_of told roomed in
    let keeps : KeptPages told old room = kept_on told old mid room c.hold.ensures.kept c.make_room.ensures.kept in
    let begun : LoggedState g.row.D.Denot = c.make.new.pages in
    let first : View g.row.D.Denot = store_of told begun in
    let new : View g.row.D.Denot = store_of told c.make-2.new.pages in
    let both : LeftStore told room new = twice_leaves told room first new c.make.ensures.leaves c.make.ensures.disk c.make-2.ensures.leaves c.make-2.ensures.disk in
    let layout = c.make.ensures.leaves.layout in
    let tells = c.make.ensures.leaves.tells in
    outcome_then told old room new c.make-2.result c.in_ok-hold.ensures.outcome.0 c.in_ok-make_room.ensures.outcome.1 keeps.leaves
    (made_outcome ⊤ told room new roomed.layout place c.make-2.result c.in_ok-make_room.ensures.outcome.1 c.make-2.ensures.failed both.faults (damage_back roomed.layout begun.layout place layout c.make-2.result c.make-2.ensures.refused) (untold_back told room first tells c.make-2.result c.make-2.ensures.untold))

pub returns-in_err-make_room-clause-kept : goal.returns-in_err-make_room-clause-kept
returns-in_err-make_room-clause-kept g c =
    let told = g.D.Disk.told in
    let begin : LoggedState g.row.D.Denot = c.args.pages.now in
    let old : View g.row.D.Denot = store_of told begin in
    let held : LoggedState g.row.D.Denot = c.hold.new.pages in
    let mid : View g.row.D.Denot = store_of told held in
    let roomed : LoggedState g.row.D.Denot = c.make_room.new.self in
    let room : View g.row.D.Denot = store_of told roomed in
    let keeps : KeptPages told old room = kept_on told old mid room c.hold.ensures.kept c.make_room.ensures.kept in
    on_err c.from_residual-in_err-make_room.result keeps
