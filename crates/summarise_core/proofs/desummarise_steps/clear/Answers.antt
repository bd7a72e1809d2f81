use Rattle.std.proofs.Common.{◌≡◌, ◌≢◌, ℕ, List, [], ◌∷◌, Option, Some, sym, ap, subst, ◌∙◌, arith}
use Rattle.block_model.specs.declared.place.Place.{Place}
use Rattle.store_layout.specs.DiskLayout.{DiskLayout, HasBoundedSizes}
use Rattle.page_map.specs.declared.faults.StoreError.{StoreError}
use Rattle.page_map.specs.PageMap.{PageMap}
use Rattle.page_locks.specs.LockChanges.{IsFirstHeld, TakesAll}
use Rattle.page_locks.specs.LockHolders.{holder}
use Rattle.coverage.specs.IndexView.{map_page_of}
use Rattle.page_store.specs.SurvivesLaws.{survives_still}
use Rattle.index_contents.specs.IndexContents.{contents, relation_of}
use Rattle.index_steps.specs.DamagedPages.{names_map}
use Rattle.index_steps.specs.IndexTuples.{shape_of}
use Rattle.index_steps.specs.Readings.{NamesPageOf}
use Rattle.index_steps.specs.LockLaws.{few_more, gives_apart, takes_apart}
use Rattle.summarise_core.proofs.DesummariseLocking.{leaves_then, takes_then}
use Rattle.summarise_core.proofs.DesummariseStepped.{is_blocked, is_cleared, is_lost}
use Rattle.summarise_core.proofs.desummarise_steps.clear.Goals as goal

pub set-requires-clause-map : goal.set-requires-clause-map
set-requires-clause-map g c = λ tells named.
    let store = c.args.pages.now in
    c.entries_stand_on_counted_pages.ensures.held store.layout store.pages c.args.at.index c.args.at.range c.args.spot named

pub returns-in-Err-take_all-clause-stepped : goal.returns-in-Err-take_all-clause-stepped
returns-in-Err-take_all-clause-stepped g c = λ tells.
    let store = c.args.pages.now in
    let at = c.args.at in
    let h : Place → Option ℕ = holder c.args.locks.now in
    let r : ℕ = relation_of store.layout at.index in
    let now = contents store.layout store.pages at.index in
    let relation : c.relation_of-relation.result ≡ r = c.relation_of-relation.ensures.number ∙ ap (λ (l : DiskLayout). relation_of l at.index) c.layout.ensures in
    let blocks : ℕ → List ℕ = λ m. c.args.spot.block ∷ m ∷ [] in
    let first : IsFirstHeld h r at.actor (blocks (map_page_of at.range)) c.in-Err-take_all.held.page.block =
    subst (λ (m : ℕ). IsFirstHeld h r at.actor (blocks m) c.in-Err-take_all.held.page.block) c.map_page_of.ensures
    (subst (λ (q : ℕ). IsFirstHeld h q at.actor (blocks c.map_page_of.result) c.in-Err-take_all.held.page.block) relation c.in-Err-take_all.ensures.refused) in
    is_blocked (shape_of store.layout at.index) at.actor at.range now now h h r c.args.spot c.in-Err-take_all.held first

pub returns-in-Ok-set-clause-stepped : goal.returns-in-Ok-set-clause-stepped
returns-in-Ok-set-clause-stepped g c = λ tells.
    let store = c.args.pages.now in
    let at = c.args.at in
    let h : Place → Option ℕ = holder c.args.locks.now in
    let k : Place → Option ℕ = holder c.take_all.new.self in
    let r : ℕ = relation_of store.layout at.index in
    let relation : c.relation_of-relation.result ≡ r = c.relation_of-relation.ensures.number ∙ ap (λ (l : DiskLayout). relation_of l at.index) c.layout.ensures in
    let takes : TakesAll h k r (c.args.spot.block ∷ map_page_of at.range ∷ []) at.actor =
    subst (λ (m : ℕ). TakesAll h k r (c.args.spot.block ∷ m ∷ []) at.actor) c.map_page_of.ensures
    (subst (λ (q : ℕ). TakesAll h k q (c.args.spot.block ∷ c.map_page_of.result ∷ []) at.actor) relation c.in-Ok-take_all.ensures.taken) in
    is_cleared (shape_of store.layout at.index) at.actor at.range (contents store.layout store.pages at.index) (contents store.layout c.set.new.pages.pages at.index) h k r c.args.spot takes
    (c.in-Ok-set.ensures.set tells)

pub returns-in-Err-Changed-clause-stepped : goal.returns-in-Err-Changed-clause-stepped
returns-in-Err-Changed-clause-stepped g c = λ tells.
    let store = c.args.pages.now in
    let at = c.args.at in
    let h : Place → Option ℕ = holder c.args.locks.now in
    let k : Place → Option ℕ = holder c.take_all.new.self in
    let r : ℕ = relation_of store.layout at.index in
    let was = contents store.layout store.pages at.index in
    let is = contents store.layout c.set.new.pages.pages at.index in
    let relation : c.relation_of-relation.result ≡ r = c.relation_of-relation.ensures.number ∙ ap (λ (l : DiskLayout). relation_of l at.index) c.layout.ensures in
    let takes : TakesAll h k r (c.args.spot.block ∷ map_page_of at.range ∷ []) at.actor =
    subst (λ (m : ℕ). TakesAll h k r (c.args.spot.block ∷ m ∷ []) at.actor) c.map_page_of.ensures
    (subst (λ (q : ℕ). TakesAll h k q (c.args.spot.block ∷ c.map_page_of.result ∷ []) at.actor) relation c.in-Ok-take_all.ensures.taken) in
    let changed = rw c.in-Err-Changed.field-0-is at c.in-Err-Changed.ensures.changed in
    let other : was.entry at.range ≢ Some c.args.spot = λ named. (changed tells).1 (sym (changed tells).0 ∙ named) in
    let same : is ≡ was = ap (λ (pages : PageMap). contents store.layout pages at.index) (c.in-Err-Changed.ensures.kept.pages tells) in
    is_lost (shape_of store.layout at.index) at.actor at.range was is h k r c.args.spot takes (holder c.drop_all.new.self) c.drop_all.ensures.given same other

pub returns-in-Ok-set-clause-locks : goal.returns-in-Ok-set-clause-locks
returns-in-Ok-set-clause-locks g c = takes_apart c.relation_of-relation.result (relation_of c.args.pages.now.layout c.args.at.index) c.args.at.actor (holder c.args.locks.now) (holder c.take_all.new.self) (c.args.spot.block ∷ c.map_page_of.result ∷ [])
    (c.relation_of-relation.ensures.number ∙ ap (λ (l : DiskLayout). relation_of l c.args.at.index) c.layout.ensures) c.in-Ok-take_all.ensures.taken

pub returns-in-Err-Store-clause-locks : goal.returns-in-Err-Store-clause-locks
returns-in-Err-Store-clause-locks g c = takes_apart c.relation_of-relation.result (relation_of c.args.pages.now.layout c.args.at.index) c.args.at.actor (holder c.args.locks.now) (holder c.take_all.new.self) (c.args.spot.block ∷ c.map_page_of.result ∷ [])
    (c.relation_of-relation.ensures.number ∙ ap (λ (l : DiskLayout). relation_of l c.args.at.index) c.layout.ensures) c.in-Ok-take_all.ensures.taken

pub returns-in-Err-Changed-clause-locks : goal.returns-in-Err-Changed-clause-locks
returns-in-Err-Changed-clause-locks g c =
    let r : ℕ = relation_of c.args.pages.now.layout c.args.at.index in
    leaves_then (holder c.args.locks.now) (holder c.take_all.new.self) (holder c.drop_all.new.self) r c.args.at.actor
    (takes_apart c.relation_of-relation.result r c.args.at.actor (holder c.args.locks.now) (holder c.take_all.new.self) (c.args.spot.block ∷ c.map_page_of.result ∷ [])
    (c.relation_of-relation.ensures.number ∙ ap (λ (l : DiskLayout). relation_of l c.args.at.index) c.layout.ensures) c.in-Ok-take_all.ensures.taken)
    (gives_apart r c.args.at.actor (holder c.take_all.new.self) (holder c.drop_all.new.self) c.drop_all.ensures.given)

pub returns-in-Err-Changed-clause-counts : goal.returns-in-Err-Changed-clause-counts
returns-in-Err-Changed-clause-counts g c =
    takes_then 2 c.args.locks.now c.take_all.new.self c.drop_all.new.self c.args.at.actor c.take_all.ensures.limit c.take_all.ensures.counts c.drop_all.ensures.limit c.drop_all.ensures.counts

pub returns-in-Ok-set-clause-own : goal.returns-in-Ok-set-clause-own
returns-in-Ok-set-clause-own g c = λ few. few_more 2 0 2 c.args.locks.now c.take_all.new.self c.args.at.actor c.take_all.ensures.counts few (omega arith)

pub returns-in-Err-Changed-clause-own : goal.returns-in-Err-Changed-clause-own
returns-in-Err-Changed-clause-own g c = λ few. let none = c.drop_all.ensures.none in omega (arith, none)

pub returns-in-Err-Store-clause-at : goal.returns-in-Err-Store-clause-at
returns-in-Err-Store-clause-at g c =
    subst (λ (e : StoreError). NamesPageOf c.args.pages.now.layout c.args.at.index e) (sym c.in-Err-Store.error-is)
    (names_map c.args.pages.now.layout c.args.at.index c.args.at.range c.in-Err-Store.error c.requires.index (subst (λ (l : DiskLayout). HasBoundedSizes l) c.layout-2.ensures c.known.ensures.sizes).some_index_blocks
    (rw c.in-Err-Store.field-0-is at c.in-Err-Store.ensures.at))

pub returns-in-Err-clause-survives : goal.returns-in-Err-clause-survives
returns-in-Err-clause-survives g c = survives_still g.D.Disk.told c.args.pages.now c.ready.ensures.stays

pub returns-in-Err-take_all-clause-survives : goal.returns-in-Err-take_all-clause-survives
returns-in-Err-take_all-clause-survives g c = survives_still g.D.Disk.told c.args.pages.now c.ready.ensures.stays
