use Rattle.std.proofs.Common.{◌≡◌, ◌<◌, ℕ, List, [], length, get_or, sym, ap, subst, ◌∙◌, arith}
use Rattle.std.specs.List.{All}
use Rattle.std.proofs.lemmas.List.{get_or_read}
use Rattle.store_layout.specs.DiskLayout.{DiskLayout, relation_blocks}
use Rattle.page_layout.specs.declared.page.Form.{Form}
use Rattle.page_layout.specs.declared.page.Form.TheVariants as forms_ix
use Rattle.page_layout.specs.PageWrites.{IsOfIndex}
use Rattle.page_map.specs.declared.facts.PageFacts.{PageFacts}
use Rattle.page_map.specs.FactLists.{IsFirstOf, IsFirstOfIndex}
use Rattle.page_map.specs.FirstRoom.{IsFirstRoomOf}
use Rattle.page_map.specs.Forms.{HasForm, form_of}
use Rattle.page_map.specs.Keeps.{Tells}
use Rattle.page_map.specs.PageMap.{View}
use Rattle.page_store.proofs.RelationSteps.{each_form, forms_count}
use Rattle.page_store.proofs.StoreReads.{facts_counted, state_room}
use Rattle.page_store.proofs.store.PageStore.first_room.Goals as goal

pub index-requires-2 : goal.index-requires-2
index-requires-2 g c =
    let told = g.D.Disk.told in
    let s = c.self.inside.pages in
    let facts = c.self.inside.facts.items in
    let forms = c.self.inside.forms.items in
    let known = c.self.invariant.1 in
    let low : c.args.relation < length (relation_blocks s.layout) = subst (λ (v : View g.row.D.Denot). c.args.relation < length (relation_blocks v.layout)) (sym c.self.view_is) c.requires.relation in
    omega (arith, low, forms_count s.layout, ap (length {A = Form}) c.self.invariant.0, c.from-at.ensures)

pub returns-clause-room : goal.returns-clause-room
returns-clause-room g c =
    let told = g.D.Disk.told in
    let s = c.self.inside.pages in
    let facts = c.self.inside.facts.items in
    let forms = c.self.inside.forms.items in
    let known = c.self.invariant.1 in
    let low : c.args.relation < length (relation_blocks s.layout) = subst (λ (v : View g.row.D.Denot). c.args.relation < length (relation_blocks v.layout)) (sym c.self.view_is) c.requires.relation in
    let many = facts_counted s.layout facts known.whole in
    let own : c.index.result.now ≡ get_or facts c.args.relation [] = get_or_read facts _ _ (omega (arith, low, many)) (c.index.ensures ∙ ap (λ (k : ℕ). get_or facts k c.index.result.now) c.from-at.ensures) [] in
    let form : c.index-2.result.now ≡ form_of s.layout c.args.relation = get_or_read forms _ _ (omega (arith, low, forms_count s.layout, ap (length {A = Form}) c.self.invariant.0)) (c.index-2.ensures ∙ ap (λ (k : ℕ). get_or forms k c.index-2.result.now) c.from-at.ensures) forms_ix.Index ∙ ap (λ (l : List Form). get_or l c.args.relation forms_ix.Index) c.self.invariant.0 in
    let tables = subst (λ (l : DiskLayout). All HasForm l.schema.tables) c.layout.ensures c.tables_have_forms.ensures.forms in
    let formed = each_form s.layout tables c.args.relation in
    let index : IsOfIndex (form_of s.layout c.args.relation) → IsFirstOfIndex (get_or facts c.args.relation []) c.args.need c.args.past c.first_room_in.result = λ is. subst (λ (l : List PageFacts). IsFirstOfIndex l c.args.need c.args.past c.first_room_in.result) own (c.first_room_in.ensures.index (subst IsOfIndex (sym form) is)) in
    let rows : (IsOfIndex (form_of s.layout c.args.relation) → ⊥) → IsFirstOf (get_or facts c.args.relation []) c.first_room_in.result = λ none. subst (λ (l : List PageFacts). IsFirstOf l c.first_room_in.result) own (c.first_room_in.ensures.rows (λ is. none (subst IsOfIndex form is))) in
    subst (λ (v : View g.row.D.Denot). Tells told v → IsFirstRoomOf v.layout v.pages c.args.relation c.args.need c.args.past c.first_room_in.result) c.self.view_is (λ tells. state_room told s facts known c.known.ensures.checked c.args.relation low formed c.slots_are_read.ensures.one c.args.need c.args.past c.first_room_in.result index rows tells)
