use Rattle.std.proofs.Common.{ℕ, inl, length, sym, subst, ◌∙◌, arith, ap, ◌≡◌, ◌<◌}
use Rattle.store_layout.specs.DiskLayout.{DiskLayout, relation_blocks}
use Rattle.block_model.specs.declared.schema.Sizes.{Sizes}
use Rattle.page_map.specs.PageMap.{block_at, block_limit, unstarted_page}
use Rattle.index_contents.specs.IndexContents.{index_page, relation_of}
use Rattle.std.proofs.lemmas.Option.{none-some}
use Rattle.index_contents.specs.Calls.{past_the_limit}
use Rattle.index_contents.specs.IndexChanges.{LeavesOtherPages}
use Rattle.index_contents.specs.PageLaws.{leaves_others}
use Rattle.page_store.specs.SurvivesLaws.{survives_still}
use Rattle.index_contents.specs.OrderLaws.{order_kept}
use Rattle.index_contents.specs.OrderedCalls.{keeps_by_tuples, regular_byte}
use Rattle.range_store.specs.Tuples.{FaultNamesPlace, size_of}
use Rattle.index_contents.proofs.Relations.{pages_checked}
use Rattle.range_store.proofs.Found.{nothing_past}
use Rattle.range_store.proofs.Misfits.{stands_within}
use Rattle.range_store.proofs.Spots.{misfits_at, none_past, replaces_at}
use Rattle.range_store.proofs.replacing.replace.Goals as goal

pub returns-in-Ok-clause-misfit : goal.returns-in-Ok-clause-misfit
returns-in-Ok-clause-misfit g c = λ tells.
    let store = c.args.pages.now in
    let there = subst (λ (l : DiskLayout). c.relation_of-relation.result < length (relation_blocks l)) c.layout.ensures c.relation_of-relation.ensures.there in
    let limit = subst (λ (l : DiskLayout). block_limit l c.relation_of-relation.result ≡ l.sizes.index_blocks) c.layout.ensures c.relation_of-relation.ensures.limit in
    let blocks = c.sizes.ensures ∙ ap (λ (l : DiskLayout). l.sizes) c.layout-2.ensures in
    let past = past_the_limit store.layout store.pages c.relation_of-relation.result c.args.spot.block c.known.ensures.whole there (omega (arith, limit, c.if-block-sizes.true, ap (λ (s : Sizes). s.index_blocks) blocks)) in
    let at = c.relation_of-relation.ensures.number ∙ ap (λ (l : DiskLayout). relation_of l c.args.index) c.layout.ensures in
    let none = none_past store.layout store.pages c.args.index c.relation_of-relation.result c.args.spot at past in
    let page = index_page store.layout store.pages c.args.index c.args.spot.block in
    let place = nothing_past page c.args.spot.slot (subst (λ (r : ℕ). block_at store.pages r c.args.spot.block ≡ unstarted_page) at past) in
    (none, ap size_of (sym none), place, λ stands. none-some _ (sym none ∙ stands))

pub returns-in-Ok-replace_on-clause-replaced : goal.returns-in-Ok-replace_on-clause-replaced
returns-in-Ok-replace_on-clause-replaced g c = λ tells.
    let both = c.in-Ok-replace_on.ensures.replaced tells in
    replaces_at g.D.Disk.told c.args.index c.relation_of-relation.result c.args.spot c.args.expect.now c.args.bytes.now c.args.pages.now c.replace_on.new.pages (c.relation_of-relation.ensures.number ∙ ap (λ (l : DiskLayout). relation_of l c.args.index) c.layout.ensures) tells c.replace_on.ensures.others (pages_checked c.args.pages.now.layout c.args.pages.now.pages c.args.index c.requires.index (c.known.ensures.checked tells) c.args.spot.block) both.0 both.1

pub returns-in-Err-replace_on-clause-misfit : goal.returns-in-Err-replace_on-clause-misfit
returns-in-Err-replace_on-clause-misfit g c = λ tells.
    let store = c.args.pages.now in
    misfits_at store.layout store.pages c.args.index c.relation_of-relation.result c.args.spot c.args.expect.now (length c.args.bytes.now) c.in-Err-replace_on.fault (c.relation_of-relation.ensures.number ∙ ap (λ (l : DiskLayout). relation_of l c.args.index) c.layout.ensures) (pages_checked store.layout store.pages c.args.index c.requires.index (c.known.ensures.checked tells) c.args.spot.block) (c.in-Err-replace_on.ensures.misfit tells)

pub returns-in-Ok-replace_on-clause-others : goal.returns-in-Ok-replace_on-clause-others
returns-in-Ok-replace_on-clause-others g c = leaves_others g.D.Disk.told c.args.index (record { relation = c.relation_of-relation.result; block = c.args.spot.block }) c.args.pages.now c.replace_on.new.pages (c.relation_of-relation.ensures.number ∙ ap (λ (l : DiskLayout). relation_of l c.args.index) c.layout.ensures) c.replace_on.ensures.others

pub returns-in-Err-replace_on-clause-others : goal.returns-in-Err-replace_on-clause-others
returns-in-Err-replace_on-clause-others g c = leaves_others g.D.Disk.told c.args.index (record { relation = c.relation_of-relation.result; block = c.args.spot.block }) c.args.pages.now c.replace_on.new.pages (c.relation_of-relation.ensures.number ∙ ap (λ (l : DiskLayout). relation_of l c.args.index) c.layout.ensures) c.replace_on.ensures.others

pub returns-in-Err-replace_on-clause-at : goal.returns-in-Err-replace_on-clause-at
returns-in-Err-replace_on-clause-at g c = subst (λ (r : ℕ). FaultNamesPlace c.args.pages.now.layout (record { relation = r; block = c.args.spot.block }) c.in-Err-replace_on.fault) (c.relation_of-relation.ensures.number ∙ ap (λ (l : DiskLayout). relation_of l c.args.index) c.layout.ensures) c.in-Err-replace_on.ensures.at

pub returns-in-Ok-replace_on-clause-pages : goal.returns-in-Ok-replace_on-clause-pages
returns-in-Ok-replace_on-clause-pages g c =
    let store = c.args.pages.now in
    subst (λ (r : ℕ). LeavesOtherPages g.D.Disk.told (record { relation = r; block = c.args.spot.block }) store c.replace_on.new.pages) (c.relation_of-relation.ensures.number ∙ ap (λ (l : DiskLayout). relation_of l c.args.index) c.layout.ensures) c.replace_on.ensures.others

pub returns-in-Err-replace_on-clause-pages : goal.returns-in-Err-replace_on-clause-pages
returns-in-Err-replace_on-clause-pages g c =
    let store = c.args.pages.now in
    subst (λ (r : ℕ). LeavesOtherPages g.D.Disk.told (record { relation = r; block = c.args.spot.block }) store c.replace_on.new.pages) (c.relation_of-relation.ensures.number ∙ ap (λ (l : DiskLayout). relation_of l c.args.index) c.layout.ensures) c.replace_on.ensures.others

pub returns-in-Err-replace_on-clause-page : goal.returns-in-Err-replace_on-clause-page
returns-in-Err-replace_on-clause-page g c =
    let blocks = c.sizes.ensures ∙ ap (λ (l : DiskLayout). l.sizes) c.layout-2.ensures in
    let within : c.args.spot.block < c.args.pages.now.layout.sizes.index_blocks = omega (arith, c.if-block-sizes.false, ap (λ (s : Sizes). s.index_blocks) blocks) in
    stands_within c.args.pages.now.layout.sizes.index_blocks c.args.spot.block c.in-Err-replace_on.fault within

pub returns-in-Ok-clause-survives : goal.returns-in-Ok-clause-survives
returns-in-Ok-clause-survives g c = survives_still g.D.Disk.told c.args.pages.now c.ready.ensures.stays

pub returns-in-Err-clause-survives : goal.returns-in-Err-clause-survives
returns-in-Err-clause-survives g c = survives_still g.D.Disk.told c.args.pages.now c.ready.ensures.stays

pub returns-in-Ok-replace_on-clause-order : goal.returns-in-Ok-replace_on-clause-order
returns-in-Ok-replace_on-clause-order g c =
    let store = c.args.pages.now in
    let block = c.args.spot.block in
    let blocks = c.sizes.ensures ∙ ap (λ (l : DiskLayout). l.sizes) c.layout-2.ensures in
    let within : block < store.layout.sizes.index_blocks = omega (arith, c.if-block-sizes.false, ap (λ (s : Sizes). s.index_blocks) blocks) in
    keeps_by_tuples g.D.Disk.told c.args.index block store c.replace_on.new.pages (returns-in-Ok-replace_on-clause-pages g c)
    (λ tells.
    let replaced = returns-in-Ok-replace_on-clause-replaced g c tells in
    (within, inl (regular_byte store.layout store.pages c.args.index block replaced.regular), inl (regular_byte store.layout c.replace_on.new.pages.pages c.args.index block replaced.page.now)))

pub returns-in-Err-replace_on-clause-order : goal.returns-in-Err-replace_on-clause-order
returns-in-Err-replace_on-clause-order g c = order_kept g.D.Disk.told c.args.index c.args.pages.now c.replace_on.new.pages c.in-Err-replace_on.ensures.kept
