use Rattle.std.proofs.Common.{ℕ, ◌+◌, ap, sym, subst, inl, ◌∙◌, arith}
use Rattle.block_model.specs.declared.schema.Sizes.{Sizes}
use Rattle.store_layout.specs.DiskLayout.{DiskLayout}
use Rattle.page_map.specs.Outcome.{NamesPage}
use Rattle.index_contents.specs.IndexContents.{contents, relation_of}
use Rattle.index_steps.proofs.Behind.{begins, counted_there, damaged_meta, damaged_next, damaged_there, none_damaged, none_past, stands_next}
use Rattle.index_steps.specs.DamagedPages.{names_there}
use Rattle.index_steps.proofs.next.next_page.Goals as goal

pub returns-then-counted-eq0-clause-named : goal.returns-then-counted-eq0-clause-named
returns-then-counted-eq0-clause-named g c = λ tells.
    let store = c.args.pages.now in
    let at = c.relation_of-relation.ensures.number ∙ ap (λ (l : DiskLayout). relation_of l c.args.index) c.layout-2.ensures in
    let counted = counted_there store.layout store.pages c.args.index c.relation_of-relation.result c.map_pages-counted.result at (c.map_pages-counted.ensures.counted tells) in
    begins c.layout-then-counted-eq0.result.now store.layout c.args.index c.relation_of-relation.result 0 _ c.page_at.result c.layout-then-counted-eq0.ensures at
    (damaged_meta (contents store.layout store.pages c.args.index).pages (sym counted ∙ c.if-counted-eq0.true)) c.page_at.ensures

pub returns-then-counted-eq0-clause-outcome : goal.returns-then-counted-eq0-clause-outcome
returns-then-counted-eq0-clause-outcome g c =
    let store = c.args.pages.now in
    let at = c.relation_of-relation.ensures.number ∙ ap (λ (l : DiskLayout). relation_of l c.args.index) c.layout-2.ensures in
    (c.in-Ok.ensures.outcome.0, c.in-Ok.ensures.outcome.0, omega arith, λ tells. inl (sym (counted_there store.layout store.pages c.args.index c.relation_of-relation.result c.map_pages-counted.result at (c.map_pages-counted.ensures.counted tells)) ∙ c.if-counted-eq0.true))

pub returns-then-counted-sizes-clause-next : goal.returns-then-counted-sizes-clause-next
returns-then-counted-sizes-clause-next g c = λ tells.
    let store = c.args.pages.now in
    let at = c.relation_of-relation.ensures.number ∙ ap (λ (l : DiskLayout). relation_of l c.args.index) c.layout-2.ensures in
    let counted = counted_there store.layout store.pages c.args.index c.relation_of-relation.result c.map_pages-counted.result at (c.map_pages-counted.ensures.counted tells) in
    let blocks = ap (λ (s : Sizes). s.index_blocks) (c.sizes.ensures ∙ ap (λ (l : DiskLayout). l.sizes) c.layout-3.ensures) in
    omega (arith, c.if-counted-sizes.true, blocks, counted)

pub returns-then-counted-sizes-clause-undamaged : goal.returns-then-counted-sizes-clause-undamaged
returns-then-counted-sizes-clause-undamaged g c = λ tells.
    let store = c.args.pages.now in
    let at = c.relation_of-relation.ensures.number ∙ ap (λ (l : DiskLayout). relation_of l c.args.index) c.layout-2.ensures in
    let counted = counted_there store.layout store.pages c.args.index c.relation_of-relation.result c.map_pages-counted.result at (c.map_pages-counted.ensures.counted tells) in
    let blocks = ap (λ (s : Sizes). s.index_blocks) (c.sizes.ensures ∙ ap (λ (l : DiskLayout). l.sizes) c.layout-3.ensures) in
    none_past store.layout store.pages c.args.index (omega (arith, c.if-counted-eq0.false, counted)) (omega (arith, c.if-counted-sizes.true, blocks, counted))

pub returns-in-Ok-Some-clause-next : goal.returns-in-Ok-Some-clause-next
returns-in-Ok-Some-clause-next g c = λ tells.
    let store = c.args.pages.now in
    let at = c.relation_of-relation.ensures.number ∙ ap (λ (l : DiskLayout). relation_of l c.args.index) c.layout-2.ensures in
    let counted = counted_there store.layout store.pages c.args.index c.relation_of-relation.result c.map_pages-counted.result at (c.map_pages-counted.ensures.counted tells) in
    let blocks = ap (λ (s : Sizes). s.index_blocks) (c.sizes.ensures ∙ ap (λ (l : DiskLayout). l.sizes) c.layout-3.ensures) in
    stands_next store.layout store.pages c.args.index (omega (arith, c.if-counted-eq0.false, counted)) c.relation_of-relation.result (c.map_pages-counted.result + 1) at (ap (λ (n : ℕ). n + 1) counted) c.in-Ok-Some.state
    (omega (arith, c.if-counted-sizes.false, blocks)) (c.in-Ok-Some.ensures.some c.in-Ok-Some.state c.in-Ok-Some.field-0-is tells)

pub returns-in-Ok-Some-clause-undamaged : goal.returns-in-Ok-Some-clause-undamaged
returns-in-Ok-Some-clause-undamaged g c = λ tells.
    let store = c.args.pages.now in
    let at = c.relation_of-relation.ensures.number ∙ ap (λ (l : DiskLayout). relation_of l c.args.index) c.layout-2.ensures in
    let counted = counted_there store.layout store.pages c.args.index c.relation_of-relation.result c.map_pages-counted.result at (c.map_pages-counted.ensures.counted tells) in
    none_damaged store.layout store.pages c.args.index (omega (arith, c.if-counted-eq0.false, counted)) c.relation_of-relation.result (c.map_pages-counted.result + 1) at (ap (λ (n : ℕ). n + 1) counted)
    c.an_index_page_has_one_list.ensures.entries c.in-Ok-Some.state (c.in-Ok-Some.ensures.some c.in-Ok-Some.state c.in-Ok-Some.field-0-is tells)

pub returns-in-Ok-None-clause-named : goal.returns-in-Ok-None-clause-named
returns-in-Ok-None-clause-named g c = λ tells.
    let store = c.args.pages.now in
    let at = c.relation_of-relation.ensures.number ∙ ap (λ (l : DiskLayout). relation_of l c.args.index) c.layout-2.ensures in
    let counted = counted_there store.layout store.pages c.args.index c.relation_of-relation.result c.map_pages-counted.result at (c.map_pages-counted.ensures.counted tells) in
    begins c.layout-in-Ok-None.result.now store.layout c.args.index c.relation_of-relation.result (c.map_pages-counted.result + 1) _ c.page_at-in-Ok-None.result (c.layout-in-Ok-None.ensures ∙ c.state_at.ensures.kept.leaves.layout) at
    (damaged_next (contents store.layout store.pages c.args.index).pages (λ none. absurd (omega (arith, c.if-counted-eq0.false, counted, none))) ∙ ap (λ (n : ℕ). n + 1) (sym counted)) c.page_at-in-Ok-None.ensures

pub returns-in-Ok-None-clause-outcome : goal.returns-in-Ok-None-clause-outcome
returns-in-Ok-None-clause-outcome g c =
    let store = c.args.pages.now in
    let at = c.relation_of-relation.ensures.number ∙ ap (λ (l : DiskLayout). relation_of l c.args.index) c.layout-2.ensures in
    let blocks = ap (λ (s : Sizes). s.index_blocks) (c.sizes.ensures ∙ ap (λ (l : DiskLayout). l.sizes) c.layout-3.ensures) in (
      c.in-Ok-None.ensures.outcome.0,
      c.in-Ok-None.ensures.outcome.1,
      c.in-Ok-None.ensures.outcome.2,
      λ tells.
          let counted = counted_there store.layout store.pages c.args.index c.relation_of-relation.result c.map_pages-counted.result at (c.map_pages-counted.ensures.counted tells) in
          damaged_there store.layout store.pages c.args.index (omega (arith, c.if-counted-eq0.false, counted)) c.relation_of-relation.result (c.map_pages-counted.result + 1) at (ap (λ (n : ℕ). n + 1) counted)
          (omega (arith, c.if-counted-sizes.false, blocks)) (c.in-Ok-None.ensures.none c.in-Ok-None.field-0-is tells),
    )

pub returns-in-Err-state_at-clause-at : goal.returns-in-Err-state_at-clause-at
returns-in-Err-state_at-clause-at g c =
    let store = c.args.pages.now in
    let blocks = ap (λ (s : Sizes). s.index_blocks) (c.sizes.ensures ∙ ap (λ (l : DiskLayout). l.sizes) c.layout-3.ensures) in
    names_there store.layout c.args.index c.relation_of-relation.result (c.map_pages-counted.result + 1) c.in-Err-state_at.error (c.relation_of-relation.ensures.number ∙ ap (λ (l : DiskLayout). relation_of l c.args.index) c.layout-2.ensures) c.requires.index (omega (arith, c.if-counted-sizes.false, blocks))
    c.in-Err-state_at.ensures.at
