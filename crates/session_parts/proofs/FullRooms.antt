-- a full table, and a full index, are told with the room that the layout gives them
use Rattle.std.proofs.Common.{◌≡◌, ℕ, zero, suc, ◌*◌, ◌<◌, List, [], ◌∷◌, length, Option, Some, refl, sym, ap, subst, ◌∙◌, arith}
use Rattle.std.specs.Prelude.{slice_get, slice_index_or}
use Rattle.block_model.specs.declared.reply.Refusal.TheVariants as refusals
use Rattle.block_model.specs.declared.request.Tag.TheVariants as tags
use Rattle.block_model.specs.declared.schema.Table.{Table}
use Rattle.block_model.specs.declared.value.Value.{Value}
use Rattle.store_layout.specs.declared.statement.Statement.{Statement}
use Rattle.store_layout.specs.declared.statement.Statement.TheVariants as statements
use Rattle.store_layout.specs.DiskLayout.{DiskLayout}
use Rattle.store_layout.specs.HeapRoom.{full_table}
use Rattle.page_map.specs.PageMap.{PageMap}
use Rattle.page_locks.specs.LockHolders.{LockState}
use Rattle.heap_rows.specs.Heaps.{no_table, table_at}
use Rattle.index_contents.specs.IndexContents.{contents}
use Rattle.coverage.specs.Accounts.{Account}
use Rattle.coverage.specs.Refusals.{Heap, IndexNumber, IsFull}
use Rattle.coverage.specs.Table.{TableState}
use Rattle.coverage.proofs.RefusalsCause.{index_full}
use Rattle.script_semantics.specs.Names.{index_name, table_name}
use Rattle.script_semantics.specs.Place.{Place}
use Rattle.script_semantics.specs.ShownTable.{indexes_of, shown_at, shown_index}
use Rattle.script_semantics.specs.StatementSteps.{HeapIsFull, IndexIsFull, PutsTuples, RefusesSo}
use Rattle.session_parts.specs.PlacesAfter.{TurnsIn, refusal_in}
use Rattle.session_parts.specs.ShowsPlace.{IsPlaceOf, ShowsTable}
use Rattle.session_parts.specs.StoreStates.{ShownStore}

index_limit : (layout : DiskLayout) (pages : PageMap) (locks : LockState) (index : ℕ) → (shown_index layout pages locks index).pages.limit ≡ layout.sizes.index_blocks
unfolding contents
index_limit layout pages locks index = refl

-- these tables in place of its own
abbrev with_tables : DiskLayout → List Table → DiskLayout
with_tables layout tables = record layout { schema = record layout.schema { tables = tables } }

slots_of : (layout : DiskLayout) (tables : List Table) (i : ℕ) → i < length tables
    → refusals.Full (table_name (with_tables layout tables) i) (layout.sizes.heap_blocks * (slice_index_or tables i no_table).rows_per_page) ≡ full_table (with_tables layout tables) i
slots_of layout [] i below = absurd (omega arith)
slots_of layout (t ∷ tables) zero below = refl
slots_of layout (t ∷ tables) (suc i) below = slots_of layout tables i (omega (arith, below))

module _ (s : ShownStore) (p : Place) (table : ℕ) (shown : IsPlaceOf s p) (below : table < length s.layout.schema.tables) where
  abbrev shows : ShowsTable s shown.database.stored table (p.tables table)
  shows = shown.tables table below

  pub heap_refuses : (values : List Value) (number : ℕ) → (p.tables table).heap_limit * (p.tables table).rows_per_page ≡ number
      → RefusesSo p table (statements.Insert table values) (IsFull Heap number) tags.Full (refusals.Full (table_name p.layout table) number)
  heap_refuses values number is =
      let counted : s.layout.sizes.heap_blocks * (table_at s.layout table).rows_per_page ≡ number = sym (ap (λ (w : TableState). w.heap_limit * w.rows_per_page) shows.shown) ∙ is in
      let told : refusals.Full (table_name s.layout table) number ≡ full_table s.layout table =
      ap (refusals.Full (table_name s.layout table)) (sym counted) ∙ slots_of s.layout s.layout.schema.tables table below in
      subst (RefusesSo p table (statements.Insert table values) (IsFull Heap number) tags.Full)
      (sym (subst (λ (l : DiskLayout). refusals.Full (table_name l table) number ≡ full_table l table) (sym shown.layout) told)) (HeapIsFull number tt)

  pub index_refuses : (n at index number : ℕ) (statement : Statement) (v : TableState) (account : Account) → slice_get (indexes_of s.layout table) at ≡ Some index
      → (turns : TurnsIn p n statement table v account) → refusal_in turns ≡ Some (IsFull (IndexNumber at) number) → PutsTuples statement
      → RefusesSo p table statement (IsFull (IndexNumber at) number) tags.Full (refusals.Full (index_name p.layout table at) number)
  index_refuses n at index number statement v account stands turns refused puts =
      let counted : number ≡ s.layout.sizes.index_blocks = (index_full n (p.tables table) turns.step.between turns.step.does at number refused).1 ∙ ap (λ (w : TableState). (w.index at).pages.limit) shows.shown
      ∙ ap (λ (o : Option ℕ). (shown_at s.layout s.pages s.locks o).pages.limit) stands ∙ index_limit s.layout s.pages s.locks index in
      subst (λ m. RefusesSo p table statement (IsFull (IndexNumber at) number) tags.Full (refusals.Full (index_name p.layout table at) m))
      (sym (counted ∙ ap (λ (l : DiskLayout). l.sizes.index_blocks) (sym shown.layout))) (IndexIsFull at number puts)
