use Rattle.std.proofs.Common.{◌≡◌, ◌<◌, ℕ, List, [], length, get_or, sym, ap, subst, ◌∙◌, arith}
use Rattle.std.specs.List.{All}
use Rattle.std.proofs.lemmas.List.{get_or_read}
use Rattle.store_layout.specs.DiskLayout.{DiskLayout, relation_blocks}
use Rattle.index_layout.specs.IndexReading.{map_pages_of}
use Rattle.page_map.specs.declared.facts.PageFacts.{PageFacts}
use Rattle.page_map.specs.Forms.{HasForm}
use Rattle.page_map.specs.Keeps.{Tells}
use Rattle.page_map.specs.PageFacts.{facts_in}
use Rattle.page_map.specs.PageMap.{View, block_at}
use Rattle.page_store.proofs.RelationSteps.{each_form}
use Rattle.page_store.proofs.StoreReads.{facts_counted, state_maps}
use Rattle.page_store.proofs.store.PageStore.map_pages.Goals as goal

pub returns : goal.returns
returns g c =
    let told = g.D.Disk.told in
    let s = c.self.inside.pages in
    let facts = c.self.inside.facts.items in
    let known = c.self.invariant.1 in
    let low : c.args.relation < length (relation_blocks s.layout) = subst (λ (v : View g.row.D.Denot). c.args.relation < length (relation_blocks v.layout)) (sym c.self.view_is) c.requires.relation in
    let many = facts_counted s.layout facts known.whole in
    let own : c.index.result.now ≡ get_or facts c.args.relation [] = get_or_read facts _ _ (omega (arith, low, many)) (c.index.ensures ∙ ap (λ (k : ℕ). get_or facts k c.index.result.now) c.from.ensures) [] in
    let tables = subst (λ (l : DiskLayout). All HasForm l.schema.tables) c.layout.ensures c.tables_have_forms.ensures.forms in
    let formed = each_form s.layout tables c.args.relation in
    record { counted = subst (λ (v : View g.row.D.Denot). Tells told v → c.get.result.maps ≡ map_pages_of (block_at v.pages c.args.relation 0)) c.self.view_is (λ tells. ap (λ (f : PageFacts). f.maps) (c.get.ensures ∙ ap (λ (l : List PageFacts). facts_in l 0) own) ∙ state_maps told s facts known c.known.ensures.checked c.args.relation low formed tells) }
