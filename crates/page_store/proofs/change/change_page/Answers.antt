use Rattle.std.proofs.Common.{◌||◌, ℕ, Bool, [], ◌∷◌, sym, ap, subst, ◌∙◌, arith}
use Rattle.std.specs.Prelude.{Err, IsSome, ⊤}
use Rattle.std.specs.List.{All}
use Rattle.store_layout.specs.DiskLayout.{DiskLayout}
use Rattle.page_layout.specs.PageContents.{IsForm}
use Rattle.wal_record.specs.Changes.{logged}
use Rattle.page_map.specs.Forms.{HasForm, form_of, forms_of}
use Rattle.page_map.specs.Keeps.{Untold}
use Rattle.page_map.specs.PageMap.{View, page_at}
use Rattle.buffer_pool.specs.PoolState.{held_at}
use Rattle.recovery.specs.PageNumbers.{page_number}
use Rattle.recovery.specs.Safe.{is_marked}
use Rattle.page_store.proofs.ChangeSteps.{alike_held, damage_outcome, damaged_at, fits_from, made_at, made_changed, made_kept, made_outcome, place_from}
use Rattle.page_map.proofs.Lookups.{on_err}
use Rattle.page_store.proofs.Joining.{outcome_then}
use Rattle.page_store.specs.KeptPages.{KeptPages, kept_on, kept_then}
use Rattle.page_store.proofs.KnownSteps.{known_kept}
use Rattle.page_store.proofs.Loggable.{fits_loggable}
use Rattle.page_store.specs.LoggedState.{LoggedState, store_of}
use Rattle.page_store.proofs.RelationSteps.{each_form}
use Rattle.page_store.specs.Room.{HasRoom, bytes_with, is_anew}
use Rattle.page_store.proofs.change.change_page.Goals as goal

pub returns-then-not-is_loggable-clause-outcome : goal.returns-then-not-is_loggable-clause-outcome
returns-then-not-is_loggable-clause-outcome g c =
    let told = g.D.Disk.told in
    let place = c.args.place in
    let change = logged c.args.change.now in
    let begin : LoggedState g.row.D.Denot = c.args.pages.now in
    let old : View g.row.D.Denot = store_of told begin in
    let held : LoggedState g.row.D.Denot = c.hold.new.pages in
    let mid : View g.row.D.Denot = store_of told held in
    let tables = subst (λ (l : DiskLayout). All HasForm l.schema.tables) c.layout.ensures c.tables_have_forms.ensures.forms in
    let formed : IsForm (form_of begin.layout place.relation) = each_form begin.layout tables place.relation in
    let untold : Untold told old = λ tells. c.is_loggable.ensures.isnt c.if-not-is_loggable.true (fits_loggable (form_of begin.layout place.relation) (page_at old.pages place) change formed (c.requires.fits tells)) in
    outcome_then {T = ⊤} told old mid mid (Err c.damaged.result) c.in_ok-hold.ensures.outcome.0 c.in_ok-hold.ensures.outcome.1 c.hold.ensures.kept.leaves (damage_outcome ⊤ told mid mid held.layout place c.damaged.result c.in_ok-hold.ensures.outcome.1 c.in_ok-hold.ensures.outcome.1 (omega arith) c.damaged.ensures (λ tells. untold (sym c.hold.ensures.kept.leaves.tells ∙ tells)))

pub returns-then-not-is_loggable-clause-at : goal.returns-then-not-is_loggable-clause-at
returns-then-not-is_loggable-clause-at g c =
    let told = g.D.Disk.told in
    let place = c.args.place in
    let begin : LoggedState g.row.D.Denot = c.args.pages.now in
    let old : View g.row.D.Denot = store_of told begin in
    let held : LoggedState g.row.D.Denot = c.hold.new.pages in
    let mid : View g.row.D.Denot = store_of told held in
    damaged_at told old mid c.hold.ensures.kept place c.damaged.result c.damaged.ensures

pub damaged-requires : goal.damaged-requires
damaged-requires g c =
    let told = g.D.Disk.told in
    let place = c.args.place in
    let begin : LoggedState g.row.D.Denot = c.args.pages.now in
    let old : View g.row.D.Denot = store_of told begin in
    let held : LoggedState g.row.D.Denot = c.hold.new.pages in
    let mid : View g.row.D.Denot = store_of told held in
    record { place = place_from told old mid c.hold.ensures.kept place c.requires.place }

pub make_room-requires-clause-place : goal.make_room-requires-clause-place
make_room-requires-clause-place g c =
    let told = g.D.Disk.told in
    let place = c.args.place in
    let begin : LoggedState g.row.D.Denot = c.args.pages.now in
    let old : View g.row.D.Denot = store_of told begin in
    let held : LoggedState g.row.D.Denot = c.hold.new.pages in
    let mid : View g.row.D.Denot = store_of told held in
    place_from told old mid c.hold.ensures.kept place c.requires.place

pub returns-in_err-make_room-clause-leaves : goal.returns-in_err-make_room-clause-leaves
returns-in_err-make_room-clause-leaves g c =
    let told = g.D.Disk.told in
    let begin : LoggedState g.row.D.Denot = c.args.pages.now in
    let old : View g.row.D.Denot = store_of told begin in
    let held : LoggedState g.row.D.Denot = c.hold.new.pages in
    let mid : View g.row.D.Denot = store_of told held in
    let roomed : LoggedState g.row.D.Denot = c.make_room.new.self in
    let room : View g.row.D.Denot = store_of told roomed in
    let keeps : KeptPages told old room = kept_on told old mid room c.hold.ensures.kept c.make_room.ensures.kept in
    keeps.leaves

pub returns-in_err-make_room-clause-facts : goal.returns-in_err-make_room-clause-facts
returns-in_err-make_room-clause-facts g c =
    let told = g.D.Disk.told in
    let held : LoggedState g.row.D.Denot = c.hold.new.pages in
    let roomed : LoggedState g.row.D.Denot = c.make_room.new.self in
    known_kept told held roomed c.hold.new.facts.items c.hold.ensures.facts c.make_room.ensures.kept c.make_room.ensures.alike

pub make-requires-clause-place : goal.make-requires-clause-place
make-requires-clause-place g c =
    let told = g.D.Disk.told in
    let place = c.args.place in
    let begin : LoggedState g.row.D.Denot = c.args.pages.now in
    let old : View g.row.D.Denot = store_of told begin in
    let held : LoggedState g.row.D.Denot = c.hold.new.pages in
    let mid : View g.row.D.Denot = store_of told held in
    let roomed : LoggedState g.row.D.Denot = c.make_room.new.self in
    let room : View g.row.D.Denot = store_of told roomed in
    let keeps : KeptPages told old room = kept_on told old mid room c.hold.ensures.kept c.make_room.ensures.kept in
    place_from told old room keeps place c.requires.place

pub make-requires-clause-forms : goal.make-requires-clause-forms
make-requires-clause-forms g c =
    let told = g.D.Disk.told in
    let begin : LoggedState g.row.D.Denot = c.args.pages.now in
    let old : View g.row.D.Denot = store_of told begin in
    let held : LoggedState g.row.D.Denot = c.hold.new.pages in
    let mid : View g.row.D.Denot = store_of told held in
    let roomed : LoggedState g.row.D.Denot = c.make_room.new.self in
    let room : View g.row.D.Denot = store_of told roomed in
    let keeps : KeptPages told old room = kept_on told old mid room c.hold.ensures.kept c.make_room.ensures.kept in
    c.requires.forms ∙ ap forms_of (sym keeps.leaves.layout)

pub make-requires-clause-facts : goal.make-requires-clause-facts
make-requires-clause-facts g c =
    let told = g.D.Disk.told in
    let held : LoggedState g.row.D.Denot = c.hold.new.pages in
    let roomed : LoggedState g.row.D.Denot = c.make_room.new.self in
    known_kept told held roomed c.hold.new.facts.items c.hold.ensures.facts c.make_room.ensures.kept c.make_room.ensures.alike

pub make-requires-clause-failed : goal.make-requires-clause-failed
make-requires-clause-failed g c =
    c.in_ok-make_room.ensures.outcome.1

pub make-requires-clause-held : goal.make-requires-clause-held
make-requires-clause-held g c =
    let place = c.args.place in
    let held : LoggedState g.row.D.Denot = c.hold.new.pages in
    let roomed : LoggedState g.row.D.Denot = c.make_room.new.self in
    alike_held held.pool roomed.pool c.make_room.ensures.alike (page_number roomed.layout place)
    (subst (λ (l : DiskLayout). IsSome (held_at held.pool (page_number l place))) (sym c.make_room.ensures.kept.leaves.layout) c.in_ok-hold.ensures.held)

pub make-requires-clause-fits : goal.make-requires-clause-fits
make-requires-clause-fits g c =
    let told = g.D.Disk.told in
    let place = c.args.place in
    let change = logged c.args.change.now in
    let begin : LoggedState g.row.D.Denot = c.args.pages.now in
    let old : View g.row.D.Denot = store_of told begin in
    let held : LoggedState g.row.D.Denot = c.hold.new.pages in
    let mid : View g.row.D.Denot = store_of told held in
    let roomed : LoggedState g.row.D.Denot = c.make_room.new.self in
    let room : View g.row.D.Denot = store_of told roomed in
    let keeps : KeptPages told old room = kept_on told old mid room c.hold.ensures.kept c.make_room.ensures.kept in
    fits_from told old room keeps place change c.requires.fits

pub make-requires-clause-room : goal.make-requires-clause-room
make-requires-clause-room g c =
    let place = c.args.place in
    let change = logged c.args.change.now in
    let roomed : LoggedState g.row.D.Denot = c.make_room.new.self in
    subst (λ (n : ℕ). HasRoom roomed.log roomed.waiting (bytes_with (is_marked roomed.marks roomed.layout place || is_anew change) n)) c.size.ensures
    (subst (λ (b : Bool). HasRoom roomed.log roomed.waiting (bytes_with (is_marked roomed.marks roomed.layout place || b) c.size.result)) c.is_anew.ensures c.in_ok-make_room.ensures.room)

pub returns-clause-changed : goal.returns-clause-changed
returns-clause-changed g c =
    let told = g.D.Disk.told in
    let place = c.args.place in
    let change = logged c.args.change.now in
    let begin : LoggedState g.row.D.Denot = c.args.pages.now in
    let old : View g.row.D.Denot = store_of told begin in
    let held : LoggedState g.row.D.Denot = c.hold.new.pages in
    let mid : View g.row.D.Denot = store_of told held in
    let roomed : LoggedState g.row.D.Denot = c.make_room.new.self in
    let room : View g.row.D.Denot = store_of told roomed in
    let keeps : KeptPages told old room = kept_on told old mid room c.hold.ensures.kept c.make_room.ensures.kept in
    let new : View g.row.D.Denot = store_of told c.make.new.pages in
    made_changed told old room keeps place new (change ∷ []) c.make.result c.make.ensures.changed

pub returns-clause-leaves : goal.returns-clause-leaves
returns-clause-leaves g c =
    let told = g.D.Disk.told in
    let begin : LoggedState g.row.D.Denot = c.args.pages.now in
    let old : View g.row.D.Denot = store_of told begin in
    let held : LoggedState g.row.D.Denot = c.hold.new.pages in
    let mid : View g.row.D.Denot = store_of told held in
    let roomed : LoggedState g.row.D.Denot = c.make_room.new.self in
    let room : View g.row.D.Denot = store_of told roomed in
    let keeps : KeptPages told old room = kept_on told old mid room c.hold.ensures.kept c.make_room.ensures.kept in
    let new : View g.row.D.Denot = store_of told c.make.new.pages in
    kept_then told old room new keeps c.make.ensures.leaves

pub returns-clause-kept : goal.returns-clause-kept
returns-clause-kept g c =
    let told = g.D.Disk.told in
    let begin : LoggedState g.row.D.Denot = c.args.pages.now in
    let old : View g.row.D.Denot = store_of told begin in
    let held : LoggedState g.row.D.Denot = c.hold.new.pages in
    let mid : View g.row.D.Denot = store_of told held in
    let roomed : LoggedState g.row.D.Denot = c.make_room.new.self in
    let room : View g.row.D.Denot = store_of told roomed in
    let keeps : KeptPages told old room = kept_on told old mid room c.hold.ensures.kept c.make_room.ensures.kept in
    let new : View g.row.D.Denot = store_of told c.make.new.pages in
    made_kept told old room new keeps (kept_then told old room new keeps c.make.ensures.leaves) c.make.result c.make.ensures.untold

pub returns-clause-at : goal.returns-clause-at
returns-clause-at g c =
    let told = g.D.Disk.told in
    let place = c.args.place in
    let begin : LoggedState g.row.D.Denot = c.args.pages.now in
    let old : View g.row.D.Denot = store_of told begin in
    let held : LoggedState g.row.D.Denot = c.hold.new.pages in
    let mid : View g.row.D.Denot = store_of told held in
    let roomed : LoggedState g.row.D.Denot = c.make_room.new.self in
    let room : View g.row.D.Denot = store_of told roomed in
    let keeps : KeptPages told old room = kept_on told old mid room c.hold.ensures.kept c.make_room.ensures.kept in
    made_at told old room keeps place c.make.result c.make.ensures.refused

pub returns-clause-outcome : goal.returns-clause-outcome
returns-clause-outcome g c =
    let told = g.D.Disk.told in
    let place = c.args.place in
    let begin : LoggedState g.row.D.Denot = c.args.pages.now in
    let old : View g.row.D.Denot = store_of told begin in
    let held : LoggedState g.row.D.Denot = c.hold.new.pages in
    let mid : View g.row.D.Denot = store_of told held in
    let roomed : LoggedState g.row.D.Denot = c.make_room.new.self in
    let room : View g.row.D.Denot = store_of told roomed in
    let keeps : KeptPages told old room = kept_on told old mid room c.hold.ensures.kept c.make_room.ensures.kept in
    let new : View g.row.D.Denot = store_of told c.make.new.pages in
    outcome_then told old room new c.make.result c.in_ok-hold.ensures.outcome.0 c.in_ok-make_room.ensures.outcome.1 keeps.leaves
    (made_outcome ⊤ told room new roomed.layout place c.make.result c.in_ok-make_room.ensures.outcome.1 c.make.ensures.failed c.make.ensures.leaves.faults c.make.ensures.refused c.make.ensures.untold)

pub returns-in_err-make_room-clause-kept : goal.returns-in_err-make_room-clause-kept
returns-in_err-make_room-clause-kept g c =
    let told = g.D.Disk.told in
    let begin : LoggedState g.row.D.Denot = c.args.pages.now in
    let old : View g.row.D.Denot = store_of told begin in
    let held : LoggedState g.row.D.Denot = c.hold.new.pages in
    let mid : View g.row.D.Denot = store_of told held in
    let roomed : LoggedState g.row.D.Denot = c.make_room.new.self in
    let room : View g.row.D.Denot = store_of told roomed in
    let keeps : KeptPages told old room = kept_on told old mid room c.hold.ensures.kept c.make_room.ensures.kept in
    on_err c.from_residual-in_err-make_room.result keeps
