use Rattle.std.proofs.Common.{sym, ap, subst, ◌∙◌}
use Rattle.store_layout.specs.DiskLayout.{IsPlace}
use Rattle.page_map.specs.declared.facts.PageFacts.{PageFacts}
use Rattle.page_map.specs.declared.page_room.Room.TheVariants as rooms
use Rattle.page_map.specs.Forms.{form_of}
use Rattle.page_map.specs.Keeps.{Tells}
use Rattle.page_map.specs.PageMap.{View, page_at}
use Rattle.page_map.specs.PageRoom.{IsRoom}
use Rattle.page_store.proofs.StoreReads.{room_free, room_full, room_unstarted}
use Rattle.page_store.proofs.store.PageStore.room_at.Goals as goal

pub returns-then-facts-eq-UNSTARTED-clause-room : goal.returns-then-facts-eq-UNSTARTED-clause-room
returns-then-facts-eq-UNSTARTED-clause-room g c =
    let told = g.D.Disk.told in
    let s = c.self.inside.pages in
    let facts = c.self.inside.facts.items in
    let known = c.self.invariant.1 in
    let is : IsPlace s.layout c.args.place = subst (λ (v : View g.row.D.Denot). IsPlace v.layout c.args.place) (sym c.self.view_is) c.requires.place in
    let found = c.facts_of_place-facts.ensures in
    subst (λ (v : View g.row.D.Denot). Tells told v → IsRoom (form_of v.layout c.args.place.relation) (page_at v.pages c.args.place) rooms.NotStarted) c.self.view_is (λ tells. room_unstarted told s facts known c.known.ensures.checked c.slots_are_read.ensures.one c.args.place is tells (sym (ap (λ (f : PageFacts). f.kind) found) ∙ c.if-facts-eq-UNSTARTED.true))

pub returns-in-Some-clause-room : goal.returns-in-Some-clause-room
returns-in-Some-clause-room g c =
    let told = g.D.Disk.told in
    let s = c.self.inside.pages in
    let facts = c.self.inside.facts.items in
    let known = c.self.invariant.1 in
    let is : IsPlace s.layout c.args.place = subst (λ (v : View g.row.D.Denot). IsPlace v.layout c.args.place) (sym c.self.view_is) c.requires.place in
    let found = c.facts_of_place-facts.ensures in
    subst (λ (v : View g.row.D.Denot). Tells told v → IsRoom (form_of v.layout c.args.place.relation) (page_at v.pages c.args.place) (rooms.Free c.in-Some.slot)) c.self.view_is (λ tells. room_free told s facts known c.known.ensures.checked c.slots_are_read.ensures.one c.args.place is tells c.in-Some.slot (sym (ap (λ (f : PageFacts). f.lowest) found) ∙ c.in-Some.is))

pub returns-in-None-clause-room : goal.returns-in-None-clause-room
returns-in-None-clause-room g c =
    let told = g.D.Disk.told in
    let s = c.self.inside.pages in
    let facts = c.self.inside.facts.items in
    let known = c.self.invariant.1 in
    let is : IsPlace s.layout c.args.place = subst (λ (v : View g.row.D.Denot). IsPlace v.layout c.args.place) (sym c.self.view_is) c.requires.place in
    let found = c.facts_of_place-facts.ensures in
    subst (λ (v : View g.row.D.Denot). Tells told v → IsRoom (form_of v.layout c.args.place.relation) (page_at v.pages c.args.place) rooms.Full) c.self.view_is (λ tells. room_full told s facts known c.known.ensures.checked c.slots_are_read.ensures.one c.args.place is tells (λ none. c.if-facts-eq-UNSTARTED.false (ap (λ (f : PageFacts). f.kind) found ∙ none)) (sym (ap (λ (f : PageFacts). f.lowest) found) ∙ c.in-None.is))
