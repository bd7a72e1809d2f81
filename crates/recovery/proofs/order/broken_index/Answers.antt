use Rattle.std.proofs.Common.{ℕ, ◌+◌, ◌<◌, refl, sym, ◌∙◌, ap, subst, ⊎_elim, arith}
use Rattle.std.specs.Prelude.{slice_index}
use Rattle.block_model.specs.declared.place.Place.{Place}
use Rattle.store_layout.specs.DiskLayout.{relation_blocks}
use Rattle.page_map.specs.declared.facts.PageFacts.{PageFacts}
use Rattle.page_map.specs.PageMap.{block_at}
use Rattle.recovery.specs.ShownLaws.{shown_at}
use Rattle.recovery.specs.ShownPages.{shown_pages}
use Rattle.recovery.specs.Orders.{HasIndexKinds, IsLate, MayStand, kind_in}
use Rattle.recovery.proofs.AllOrder.{kinds_are, late_amiss, maps_are, some_block}
use Rattle.recovery.proofs.IndexOrder.{counts, in_order, is_meta, left_empty, stands_may}
use Rattle.recovery.proofs.order.broken_index.Goals as goal

pub broken_kind-requires : goal.broken_kind-requires
broken_kind-requires g c =
    let within : c.counted_maps-maps.result < slice_index (relation_blocks c.args.layout.now) c.args.relation = omega (arith, c.if-maps-limit.false, c.blocks_of-limit.ensures) in
    omega (arith, c.known.ensures.places.block (record { relation = c.args.relation; block = c.counted_maps-maps.result }) (record { relation = c.requires.relation; block = within }))

pub returns-then-maps-eq0-clause-some : goal.returns-then-maps-eq0-clause-some
returns-then-maps-eq0-clause-some g c =
    let layout = c.args.layout.now in
    let old = g.D.Disk.told c.args.disk.now in
    let some = some_block layout c.args.relation c.requires.past c.requires.relation c.known.ensures.sizes.some_index_blocks in (
      some,
      λ tells stands.
          let index = stands.indexes c.requires.past in
          let page = block_at (shown_pages layout c.args.pool.now old.contents) c.args.relation 0 in
          let noted = maps_are layout c.args.pool.now old c.args.relation c.requires.relation c.args.kinds.now c.requires.kinds tells c.counted_maps-maps.result some c.counted_maps-maps.ensures in
          omega (arith, index.some_map refl, counts page c.counted_maps-maps.result noted (index.metapage refl), c.if-maps-eq0.true),
    )

pub returns-then-maps-limit-clause-some : goal.returns-then-maps-limit-clause-some
returns-then-maps-limit-clause-some g c =
    let layout = c.args.layout.now in
    let old = g.D.Disk.told c.args.disk.now in
    let some = some_block layout c.args.relation c.requires.past c.requires.relation c.known.ensures.sizes.some_index_blocks in (
      some,
      λ tells stands.
          let index = stands.indexes c.requires.past in
          let page = block_at (shown_pages layout c.args.pool.now old.contents) c.args.relation 0 in
          let noted = maps_are layout c.args.pool.now old c.args.relation c.requires.relation c.args.kinds.now c.requires.kinds tells c.counted_maps-maps.result some c.counted_maps-maps.ensures in
          omega (arith, index.few_maps refl, counts page c.counted_maps-maps.result noted (index.metapage refl), c.if-maps-limit.true, c.blocks_of-limit.ensures),
    )

pub returns-in-Some-clause-some : goal.returns-in-Some-clause-some
returns-in-Some-clause-some g c =
    let layout = c.args.layout.now in
    let pool = c.args.pool.now in
    let old = g.D.Disk.told c.args.disk.now in
    let limit = slice_index (relation_blocks layout) c.args.relation in
    let maps = c.counted_maps-maps.result in
    let kinds = c.args.kinds.now in
    let block = c.in-Some.block in
    let few : maps < limit = omega (arith, c.if-maps-limit.false, c.blocks_of-limit.ensures) in
    let some : 0 < maps = omega (arith, c.if-maps-eq0.false) in
    let low : block < limit = omega (arith, c.in-Some.ensures.some.0, c.blocks_of-limit.ensures) in (
      low,
      λ tells stands.
          let page = block_at (shown_pages layout pool old.contents) c.args.relation in
          let noted = maps_are layout pool old c.args.relation c.requires.relation kinds c.requires.kinds tells maps (omega (arith, few)) c.counted_maps-maps.ensures in
          let here = counts (page 0) maps noted (is_meta (page 0) maps noted some) in
          ⊎_elim
          (λ (amiss : MayStand maps block (kind_in kinds block) → ⊥).
          amiss (stands_may limit maps kinds page (kinds_are layout pool old c.args.relation c.requires.relation kinds c.requires.kinds tells) here some few block low (stands.indexes c.requires.past)))
          (λ (late : IsLate kinds block). late_amiss layout pool old c.args.relation c.requires.relation kinds c.requires.kinds tells (omega (arith, c.requires.past)) block low late stands)
          c.in-Some.ensures.some.1,
    )

pub returns-then-block-limit-clause-none : goal.returns-then-block-limit-clause-none
returns-then-block-limit-clause-none g c = λ tells.
    let layout = c.args.layout.now in
    let pool = c.args.pool.now in
    let old = g.D.Disk.told c.args.disk.now in
    let limit = slice_index (relation_blocks layout) c.args.relation in
    let maps = c.counted_maps-maps.result in
    let kinds = c.args.kinds.now in
    let few : maps < limit = omega (arith, c.if-maps-limit.false, c.blocks_of-limit.ensures) in
    let some : 0 < maps = omega (arith, c.if-maps-eq0.false) in
    let page = block_at (shown_pages layout pool old.contents) c.args.relation in
    let noted = maps_are layout pool old c.args.relation c.requires.relation kinds c.requires.kinds tells maps (omega (arith, few)) c.counted_maps-maps.ensures in
    let here = counts (page 0) maps noted (is_meta (page 0) maps noted some) in
    in_order limit maps kinds page (kinds_are layout pool old c.args.relation c.requires.relation kinds c.requires.kinds tells) here some few
    (subst (λ (n : ℕ). HasIndexKinds n maps kinds) c.blocks_of-limit.ensures c.in_default.ensures.none) (λ within is. absurd (omega (arith, within, c.if-block-limit.true, c.blocks_of-limit.ensures)))

pub returns-then-get-ne-MAP-clause-none : goal.returns-then-get-ne-MAP-clause-none
returns-then-get-ne-MAP-clause-none g c = λ tells.
    let layout = c.args.layout.now in
    let pool = c.args.pool.now in
    let old = g.D.Disk.told c.args.disk.now in
    let limit = slice_index (relation_blocks layout) c.args.relation in
    let maps = c.counted_maps-maps.result in
    let kinds = c.args.kinds.now in
    let few : maps < limit = omega (arith, c.if-maps-limit.false, c.blocks_of-limit.ensures) in
    let some : 0 < maps = omega (arith, c.if-maps-eq0.false) in
    let page = block_at (shown_pages layout pool old.contents) c.args.relation in
    let noted = maps_are layout pool old c.args.relation c.requires.relation kinds c.requires.kinds tells maps (omega (arith, few)) c.counted_maps-maps.ensures in
    let here = counts (page 0) maps noted (is_meta (page 0) maps noted some) in
    in_order limit maps kinds page (kinds_are layout pool old c.args.relation c.requires.relation kinds c.requires.kinds tells) here some few
    (subst (λ (n : ℕ). HasIndexKinds n maps kinds) c.blocks_of-limit.ensures c.in_default.ensures.none) (λ within is. absurd (c.if-get-ne-MAP.true (ap (λ (f : PageFacts). f.kind) c.get.ensures ∙ is)))

pub returns-then-is_empty_map-clause-none : goal.returns-then-is_empty_map-clause-none
returns-then-is_empty_map-clause-none g c = λ tells.
    let layout = c.args.layout.now in
    let pool = c.args.pool.now in
    let old = g.D.Disk.told c.args.disk.now in
    let limit = slice_index (relation_blocks layout) c.args.relation in
    let maps = c.counted_maps-maps.result in
    let kinds = c.args.kinds.now in
    let few : maps < limit = omega (arith, c.if-maps-limit.false, c.blocks_of-limit.ensures) in
    let some : 0 < maps = omega (arith, c.if-maps-eq0.false) in
    let place : Place = record { relation = c.args.relation; block = maps + 1 } in
    let page = block_at (shown_pages layout pool old.contents) c.args.relation in
    let noted = maps_are layout pool old c.args.relation c.requires.relation kinds c.requires.kinds tells maps (omega (arith, few)) c.counted_maps-maps.ensures in
    let here = counts (page 0) maps noted (is_meta (page 0) maps noted some) in
    in_order limit maps kinds page (kinds_are layout pool old c.args.relation c.requires.relation kinds c.requires.kinds tells) here some few
    (subst (λ (n : ℕ). HasIndexKinds n maps kinds) c.blocks_of-limit.ensures c.in_default.ensures.none)
    (λ within is. shown_at layout pool old.contents place (record { relation = c.requires.relation; block = within }) ∙ sym (c.in_ok-left.ensures.page tells) ∙ c.is_empty_map.ensures.empty c.if-is_empty_map.true)

pub returns-clause-some : goal.returns-clause-some
returns-clause-some g c =
    let layout = c.args.layout.now in
    let pool = c.args.pool.now in
    let old = g.D.Disk.told c.args.disk.now in
    let limit = slice_index (relation_blocks layout) c.args.relation in
    let maps = c.counted_maps-maps.result in
    let kinds = c.args.kinds.now in
    let few : maps < limit = omega (arith, c.if-maps-limit.false, c.blocks_of-limit.ensures) in
    let some : 0 < maps = omega (arith, c.if-maps-eq0.false) in
    let within : maps + 1 < limit = omega (arith, c.if-block-limit.false, c.blocks_of-limit.ensures) in
    let place : Place = record { relation = c.args.relation; block = maps + 1 } in (
      within,
      λ tells stands.
          let page = block_at (shown_pages layout pool old.contents) c.args.relation in
          let noted = maps_are layout pool old c.args.relation c.requires.relation kinds c.requires.kinds tells maps (omega (arith, few)) c.counted_maps-maps.ensures in
          let here = counts (page 0) maps noted (is_meta (page 0) maps noted some) in
          c.is_empty_map.ensures.other c.if-is_empty_map.false
          (c.in_ok-left.ensures.page tells ∙ sym (shown_at layout pool old.contents place (record { relation = c.requires.relation; block = within }))
          ∙ left_empty limit maps kinds page (kinds_are layout pool old c.args.relation c.requires.relation kinds c.requires.kinds tells) here some few within (sym (ap (λ (f : PageFacts). f.kind) c.get.ensures) ∙ c.if-get-ne-MAP.false) (stands.indexes c.requires.past)),
    )
