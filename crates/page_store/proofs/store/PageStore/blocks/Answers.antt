use Rattle.std.proofs.Common.{◌≡◌, ◌<◌, ℕ, [], length, get_or, sym, ap, subst, ◌∙◌, arith}
use Rattle.std.specs.Prelude.{count_by}
use Rattle.std.specs.List.{All}
use Rattle.std.proofs.lemmas.List.{get_or_read}
use Rattle.store_layout.specs.DiskLayout.{DiskLayout, relation_blocks}
use Rattle.page_map.specs.FactLists.{tells_started}
use Rattle.page_map.specs.Forms.{HasForm}
use Rattle.page_map.specs.Keeps.{Tells}
use Rattle.page_map.specs.PageMap.{View, block_at, block_limit}
use Rattle.page_map.specs.Started.{AreFirst, started_count}
use Rattle.page_store.proofs.RelationSteps.{each_form}
use Rattle.page_store.proofs.StoreReads.{facts_counted, state_count, state_first}
use Rattle.page_store.proofs.store.PageStore.blocks.Goals as goal

pub returns-clause-count : goal.returns-clause-count
returns-clause-count g c =
    let told = g.D.Disk.told in
    let s = c.self.inside.pages in
    let facts = c.self.inside.facts.items in
    let known = c.self.invariant.1 in
    let low : c.args.relation < length (relation_blocks s.layout) = subst (λ (v : View g.row.D.Denot). c.args.relation < length (relation_blocks v.layout)) (sym c.self.view_is) c.requires.relation in
    let many = facts_counted s.layout facts known.whole in
    let own : c.index.result.now ≡ get_or facts c.args.relation [] = get_or_read facts _ _ (omega (arith, low, many)) (c.index.ensures ∙ ap (λ (k : ℕ). get_or facts k c.index.result.now) c.from.ensures) [] in
    let tables = subst (λ (l : DiskLayout). All HasForm l.schema.tables) c.layout.ensures c.tables_have_forms.ensures.forms in
    let formed = each_form s.layout tables c.args.relation in
    subst (λ (v : View g.row.D.Denot). Tells told v → c.started.result ≡ started_count v.pages c.args.relation) c.self.view_is (λ tells. c.started.ensures.count ∙ ap (count_by tells_started) own ∙ state_count told s facts known c.known.ensures.checked c.args.relation low formed tells)

pub returns-clause-first : goal.returns-clause-first
returns-clause-first g c =
    let told = g.D.Disk.told in
    let s = c.self.inside.pages in
    let facts = c.self.inside.facts.items in
    let known = c.self.invariant.1 in
    let low : c.args.relation < length (relation_blocks s.layout) = subst (λ (v : View g.row.D.Denot). c.args.relation < length (relation_blocks v.layout)) (sym c.self.view_is) c.requires.relation in
    let many = facts_counted s.layout facts known.whole in
    let own : c.index.result.now ≡ get_or facts c.args.relation [] = get_or_read facts _ _ (omega (arith, low, many)) (c.index.ensures ∙ ap (λ (k : ℕ). get_or facts k c.index.result.now) c.from.ensures) [] in
    let tables = subst (λ (l : DiskLayout). All HasForm l.schema.tables) c.layout.ensures c.tables_have_forms.ensures.forms in
    let formed = each_form s.layout tables c.args.relation in
    subst (λ (v : View g.row.D.Denot). Tells told v → (n : ℕ) → AreFirst (block_limit v.layout c.args.relation) (block_at v.pages c.args.relation) n → c.started.result ≡ n) c.self.view_is (λ tells n first. c.started.ensures.count ∙ ap (count_by tells_started) own ∙ state_first told s facts known c.known.ensures.checked c.args.relation low formed tells n first)
