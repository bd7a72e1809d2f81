use Rattle.std.proofs.Common.{◌≡◌, ◌<◌, ℕ, List, All, get_or, length, take, refl, sym, ap, subst, ◌∙◌}
use Rattle.std.specs.Prelude.{Some}
use Rattle.block_model.specs.declared.value.Value.{Value}
use Rattle.heap_rows.specs.declared.rows.Stored.{Stored}
use Rattle.heap_rows.specs.HeapBlocks.{HasBlocks, slots_of}
use Rattle.heap_rows.specs.Heaps.{kinds_at}
use Rattle.heap_rows.specs.StoredRows.{row_of}
use Rattle.opclass_any.specs.declared.classes.AnyClass.{AnyClass}
use Rattle.page_layout.specs.RowBytes.{HaveKinds, IsRow}
use Rattle.page_map.specs.PageMap.{PageMap}
use Rattle.store_layout.specs.DiskLayout.{DiskLayout}
use Rattle.range_tuple.specs.ExactTuples.{with_rows}
use Rattle.range_tuple.specs.TupleBytes.{tuple_bytes}
use Rattle.range_tuple.specs.TupleReading.{tuple_in}
use Rattle.range_tuple.specs.Tuples.{IsTuple, Tuple}
use Rattle.index_contents.specs.IndexContents.{contents}
use Rattle.index_steps.specs.DamagedPages.{table_place}
use Rattle.index_steps.specs.IndexTuples.{TakesValues, classes_of, shape_of}
use Rattle.index_steps.specs.ShownIndex.{lock_in}
use Rattle.summarise_core.specs.BlockRows.{AreKnown, IsTakenBy, values_of}
use Rattle.summarise_core.specs.ShownHeap.{heap_of}
use Rattle.summarise_core.specs.SummariseHands.{table_of}
use Rattle.summarise_core.proofs.Passing.{block_makes}
use Rattle.summarise_core.proofs.Stepped.{has_passed}
use Rattle.page_map.specs.Outcome.{NamesPage}
use Rattle.heap_rows.specs.Heaps.{relation_of}
use Rattle.summarise_core.proofs.in_range.pass.Goals as goal

pub returns-in-Ok-clause-stepped : goal.returns-in-Ok-clause-stepped
returns-in-Ok-clause-stepped g c = λ tells blocks has locks hand below.
    let store = c.args.pages.now in
    let at = c.args.at in
    let shape = shape_of store.layout at.index in
    let was = contents store.layout store.pages at.index in
    let is = contents store.layout c.rows_of.new.pages.pages at.index in
    let lock = lock_in store.layout locks at.index in
    let table = table_of store.layout at.index in
    let t : Tuple = c.args.running.now in
    let same : is ≡ was = ap (λ (pages : PageMap). contents store.layout pages at.index) (c.rows_of.ensures.kept.pages tells) in
    let layout : c.layout-layout.result.now ≡ store.layout = c.layout-layout.ensures in
    let number : c.table_of-table.result ≡ table = c.table_of-table.ensures.number ∙ ap (λ (l : DiskLayout). table_of l at.index) layout in
    let has_too : HasBlocks store.layout store.pages c.table_of-table.result blocks = subst (λ (t : ℕ). HasBlocks store.layout store.pages t blocks) (sym number) has in
    let takes : (values : List Value) → HaveKinds (kinds_at store.layout table) values → TakesValues shape values = subst
    (λ (l : DiskLayout). (values : List Value) → HaveKinds (kinds_at l (table_of l at.index)) values → TakesValues (shape_of l at.index) values) layout c.rows_are_taken.ensures in
    let rows : List Stored = c.rows_of.new.out.rows in
    let each : All (λ (q : Stored). IsRow (kinds_at store.layout table) (row_of q)) rows = subst (λ (t : ℕ). All (λ (q : Stored). IsRow (kinds_at store.layout t) (row_of q)) rows) number c.in-Ok.ensures.sound.each in
    let listed : c.as_slice.result.now ≡ rows = c.as_slice.ensures in
    let known : All (λ (q : Stored). AreKnown q.values) rows = subst (λ (qs : List Stored). All (λ (q : Stored). AreKnown q.values) qs) listed c.add_rows.ensures.known in
    let u : Tuple = c.add_rows.new.tuple in
    let made : u ≡ with_rows (values_of rows) t = c.add_rows.ensures.rows ∙ ap (λ (qs : List Stored). with_rows (values_of qs) t) listed in
    let tuples : (n : ℕ) → IsTuple (with_rows (take n (values_of rows)) t) = λ n. subst (λ (qs : List Stored). IsTuple (with_rows (take n (values_of qs)) t)) listed (c.add_rows.ensures.tuples n) in
    has_passed shape (heap_of store.layout at.index blocks) at.actor at.range was is lock hand (λ w shows none. c.an_index_that_stays_is_read.ensures shape was is lock lock w at.actor shows same refl none)
    c.args.block (length (slots_of blocks c.args.block)) t u below
    (λ w shows shown.
    block_makes shape w.contents table (kinds_at store.layout table) (classes_of shape)
    (λ r v whole of taken.
    c.a_row_is_added_to_what_is_seen.ensures shape was lock w r (tuple_bytes v) v shows
    (record {
      spelt = refl;
      read = subst (λ (parts : List (ℕ × AnyClass)). tuple_in parts (tuple_bytes v) ≡ Some v) c.requires.tuple (c.one_tuple.ensures.read v whole (of ∙ sym c.requires.tuple));
    }) taken)
    takes (slots_of blocks c.args.block) rows (w.row c.args.block) t u (c.in-Ok.ensures.rows tells blocks has_too) each known made tuples c.requires.tuple (λ k. shown.row c.args.block k))

pub add_rows-requires : goal.add_rows-requires
add_rows-requires g c = λ k d below.
    let store = c.args.pages.now in
    let at = c.args.at in
    let shape = shape_of store.layout at.index in
    let table = table_of store.layout at.index in
    let layout : c.layout-layout.result.now ≡ store.layout = c.layout-layout.ensures in
    let number : c.table_of-table.result ≡ table = c.table_of-table.ensures.number ∙ ap (λ (l : DiskLayout). table_of l at.index) layout in
    let takes : (values : List Value) → HaveKinds (kinds_at store.layout table) values → TakesValues shape values = subst
    (λ (l : DiskLayout). (values : List Value) → HaveKinds (kinds_at l (table_of l at.index)) values → TakesValues (shape_of l at.index) values) layout c.rows_are_taken.ensures in
    let rows : List Stored = c.rows_of.new.out.rows in
    let each : All (λ (q : Stored). IsRow (kinds_at store.layout table) (row_of q)) rows = subst (λ (t : ℕ). All (λ (q : Stored). IsRow (kinds_at store.layout t) (row_of q)) rows) number c.in-Ok.ensures.sound.each in
    let listed : All (λ (q : Stored). IsRow (kinds_at store.layout table) (row_of q)) c.as_slice.result.now = subst (λ (qs : List Stored). All (λ (q : Stored). IsRow (kinds_at store.layout table) (row_of q)) qs) (sym c.as_slice.ensures) each in
    subst (λ (parts : List (ℕ × AnyClass)). IsTakenBy parts (get_or c.as_slice.result.now k d).values) (sym c.requires.tuple) (takes (get_or c.as_slice.result.now k d).values (listed k d below).columns).taken

pub returns-in-Ok-clause-exact : goal.returns-in-Ok-clause-exact
returns-in-Ok-clause-exact g c = λ tells blocks has.
    let store = c.args.pages.now in
    let at = c.args.at in
    let table = table_of store.layout at.index in
    let t : Tuple = c.args.running.now in
    let layout : c.layout-layout.result.now ≡ store.layout = c.layout-layout.ensures in
    let number : c.table_of-table.result ≡ table = c.table_of-table.ensures.number ∙ ap (λ (l : DiskLayout). table_of l at.index) layout in
    let has_too : HasBlocks store.layout store.pages c.table_of-table.result blocks = subst (λ (t : ℕ). HasBlocks store.layout store.pages t blocks) (sym number) has in
    let rows : List Stored = c.rows_of.new.out.rows in
    let listed : c.as_slice.result.now ≡ rows = c.as_slice.ensures in
    c.add_rows.ensures.rows ∙ ap (λ (qs : List Stored). with_rows (values_of qs) t) (listed ∙ c.in-Ok.ensures.rows tells blocks has_too)

pub returns-in-Err-clause-at : goal.returns-in-Err-clause-at
returns-in-Err-clause-at g c =
    let store = c.args.pages.now in
    let layout : c.layout-layout.result.now ≡ store.layout = c.layout-layout.ensures in
    let number : c.table_of-table.result ≡ table_of store.layout c.args.at.index = c.table_of-table.ensures.number ∙ ap (λ (l : DiskLayout). table_of l c.args.at.index) layout in
    let there = subst (λ (l : DiskLayout). c.table_of-table.result < length l.schema.tables) layout c.table_of-table.ensures.there in (
      c.args.block,
      table_place store.layout (table_of store.layout c.args.at.index) c.args.block (subst (λ (t : ℕ). t < length store.layout.schema.tables) number there) c.requires.block,
      subst (λ (t : ℕ). NamesPage store.layout (record { relation = relation_of t; block = c.args.block }) c.in-Err.error) number c.in-Err.ensures.at,
    )
