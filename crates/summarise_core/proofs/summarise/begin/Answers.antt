use Rattle.std.specs.Prelude.{slice_set}
use Rattle.std.proofs.Common.{◌≡◌, ℕ, ◌≤◌, length, Some, refl, sym, ap, subst, ◌∙◌, arith}
use Rattle.block_model.specs.declared.reply.Point.TheVariants as points
use Rattle.heap_rows.specs.HeapBlocks.{HasBlocks}
use Rattle.page_locks.specs.RightHolders.{right_of}
use Rattle.store_layout.specs.DiskLayout.{DiskLayout}
use Rattle.summarise_core.specs.SummariseHands.{table_of}
use Rattle.summarise_core.specs.Summarises.{Begins, LacksRight, in_range_of, state_of}
use Rattle.summarise_core.proofs.Coming.{comes_first, comes_well, takes_right}
use Rattle.summarise_core.proofs.summarise.begin.Goals as goal

pub returns-in-Err-take-clause-does : goal.returns-in-Err-take-clause-does
returns-in-Err-take-clause-does g c = λ tells blocks has locks.
    let store = c.args.pages.now in
    let table : c.table_of-table.result ≡ table_of store.layout c.args.index = c.table_of-table.ensures.number ∙ ap (λ (l : DiskLayout). table_of l c.args.index) c.layout-layout.ensures in
    LacksRight c.in-Err-take.by c.requires.begins (ap (λ (t : ℕ). right_of c.args.rights.now t) (sym table) ∙ c.in-Err-take.ensures.refused) c.in-Err-take.ensures.another
    (record { pages = refl; locks = refl; rights = c.in-Err-take.ensures.same })

pub returns-then-come_to-clause-does : goal.returns-then-come_to-clause-does
returns-then-come_to-clause-does g c = λ tells blocks has locks.
    let store = c.args.pages.now in
    let table : c.table_of-table.result ≡ table_of store.layout c.args.index = c.table_of-table.ensures.number ∙ ap (λ (l : DiskLayout). table_of l c.args.index) c.layout-layout.ensures in
    let each : c.blocks_a_range-in_range.result ≡ in_range_of store.layout c.args.index = c.blocks_a_range-in_range.ensures.number ∙ ap (λ (l : DiskLayout). in_range_of l c.args.index) c.layout-layout.ensures in
    let has_too : HasBlocks store.layout store.pages c.table_of-table.result blocks = subst (λ (t : ℕ). HasBlocks store.layout store.pages t blocks) (sym table) has in
    let count : c.from-course.result ≡ length blocks = c.from-course.ensures ∙ c.blocks-extent.ensures.count tells blocks has_too in
    Begins _ _ c.requires.begins
    (takes_right store.layout store.pages locks c.args.rights.now c.take.new.self c.args.actor c.table_of-table.result (table_of store.layout c.args.index) blocks table c.in-Ok-take.ensures.free c.in-Ok-take.ensures.taken)
    (comes_first store.layout c.blocks_a_range-in_range.result c.args.index c.from-course.result c.first_of-course.result blocks c.args.course.now c.args.work.now points.Right _ _ each count c.first_of-course.ensures
    (c.come_to.ensures.next c.if-come_to.true c.args.index points.Right))

pub returns-clause-does : goal.returns-clause-does
returns-clause-does g c = λ tells blocks has locks.
    let store = c.args.pages.now in
    let table : c.table_of-table.result ≡ table_of store.layout c.args.index = c.table_of-table.ensures.number ∙ ap (λ (l : DiskLayout). table_of l c.args.index) c.layout-layout.ensures in
    let each : c.blocks_a_range-in_range.result ≡ in_range_of store.layout c.args.index = c.blocks_a_range-in_range.ensures.number ∙ ap (λ (l : DiskLayout). in_range_of l c.args.index) c.layout-layout.ensures in
    let has_too : HasBlocks store.layout store.pages c.table_of-table.result blocks = subst (λ (t : ℕ). HasBlocks store.layout store.pages t blocks) (sym table) has in
    let count : c.from-course.result ≡ length blocks = c.from-course.ensures ∙ c.blocks-extent.ensures.count tells blocks has_too in
    Begins _ _ c.requires.begins
    (takes_right store.layout store.pages locks c.args.rights.now c.take.new.self c.args.actor c.table_of-table.result (table_of store.layout c.args.index) blocks table c.in-Ok-take.ensures.free c.in-Ok-take.ensures.taken)
    (comes_first store.layout c.blocks_a_range-in_range.result c.args.index c.from-course.result c.first_of-course.result blocks c.args.course.now c.args.work.now points.Right _ _ each count c.first_of-course.ensures
    (c.come_to.ensures.last c.if-come_to.false c.args.index points.Right))

pub returns-then-come_to-clause-right : goal.returns-then-come_to-clause-right
returns-then-come_to-clause-right g c =
    let store = c.args.pages.now in
    let table : c.table_of-table.result ≡ table_of store.layout c.args.index = c.table_of-table.ensures.number ∙ ap (λ (l : DiskLayout). table_of l c.args.index) c.layout-layout.ensures in (
      subst (λ (t : ℕ). (n : ℕ) → right_of c.args.rights.now t ≡ Some n → n ≡ c.args.actor) table c.in-Ok-take.ensures.free,
      c.in-Ok-take.ensures.taken ∙ ap (λ (t : ℕ). slice_set c.args.rights.now t (Some c.args.actor)) table,
    )

pub returns-clause-right : goal.returns-clause-right
returns-clause-right g c =
    let store = c.args.pages.now in
    let table : c.table_of-table.result ≡ table_of store.layout c.args.index = c.table_of-table.ensures.number ∙ ap (λ (l : DiskLayout). table_of l c.args.index) c.layout-layout.ensures in (
      subst (λ (t : ℕ). (n : ℕ) → right_of c.args.rights.now t ≡ Some n → n ≡ c.args.actor) table c.in-Ok-take.ensures.free,
      c.in-Ok-take.ensures.taken ∙ ap (λ (t : ℕ). slice_set c.args.rights.now t (Some c.args.actor)) table,
    )

pub returns-then-come_to-clause-of : goal.returns-then-come_to-clause-of
returns-then-come_to-clause-of g c =
    let store = c.args.pages.now in
    let each : c.blocks_a_range-in_range.result ≡ in_range_of store.layout c.args.index = c.blocks_a_range-in_range.ensures.number ∙ ap (λ (l : DiskLayout). in_range_of l c.args.index) c.layout-layout.ensures in
    let few : store.layout.sizes.heap_blocks ≤ 131072 = subst (λ (l : DiskLayout). l.sizes.heap_blocks ≤ 131072) c.layout-layout.ensures c.known.ensures.sizes.few_heap_blocks in
    comes_well store.layout c.blocks_a_range-in_range.result (state_of c.args.index (record c.args.course.now { extent = c.from-course.result; range = c.first_of-course.result; made = 0 }) c.args.work.now) _ points.Right _ each c.blocks_a_range-in_range.ensures.some c.requires.of.index c.requires.of.hand (omega (arith, c.from-course.ensures, c.blocks-extent.ensures.within)) few (omega arith) (omega arith)
    (c.come_to.ensures.next c.if-come_to.true c.args.index points.Right)

pub returns-clause-of : goal.returns-clause-of
returns-clause-of g c =
    let store = c.args.pages.now in
    let each : c.blocks_a_range-in_range.result ≡ in_range_of store.layout c.args.index = c.blocks_a_range-in_range.ensures.number ∙ ap (λ (l : DiskLayout). in_range_of l c.args.index) c.layout-layout.ensures in
    let few : store.layout.sizes.heap_blocks ≤ 131072 = subst (λ (l : DiskLayout). l.sizes.heap_blocks ≤ 131072) c.layout-layout.ensures c.known.ensures.sizes.few_heap_blocks in
    comes_well store.layout c.blocks_a_range-in_range.result (state_of c.args.index (record c.args.course.now { extent = c.from-course.result; range = c.first_of-course.result; made = 0 }) c.args.work.now) _ points.Right _ each c.blocks_a_range-in_range.ensures.some c.requires.of.index c.requires.of.hand (omega (arith, c.from-course.ensures, c.blocks-extent.ensures.within)) few (omega arith) (omega arith)
    (c.come_to.ensures.last c.if-come_to.false c.args.index points.Right)

pub returns-then-come_to-clause-exact : goal.returns-then-come_to-clause-exact
returns-then-come_to-clause-exact g c = λ tells blocks has. record { keeps = λ exact. c.come_to.ensures.exact c.args.pages.now.layout blocks c.args.index }

pub returns-clause-exact : goal.returns-clause-exact
returns-clause-exact g c = λ tells blocks has. record { keeps = λ exact. c.come_to.ensures.exact c.args.pages.now.layout blocks c.args.index }

pub returns-in-Err-take-clause-exact : goal.returns-in-Err-take-clause-exact
returns-in-Err-take-clause-exact g c = λ tells blocks has. record { keeps = λ exact. exact }
