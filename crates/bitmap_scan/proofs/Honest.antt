-- a scan's judging excludes no match
use Rattle.std.proofs.Common.{◌≡◌, ℕ, ◌<◌, ◌==◌, Bool, true, false, List, length, Option, None, Some, refl, sym, ap, subst, ◌∙◌}
use Rattle.std.specs.Prelude.{slice_get}
use Rattle.std.specs.List.{list_all}
use Rattle.std.specs.Option.{option_map}
use Rattle.std.proofs.lemmas.Bool.{and_parts}
use Rattle.std.proofs.lemmas.Option.{none-some, same_Some}
use Rattle.block_model.specs.declared.place.Spot.{Spot}
use Rattle.block_model.specs.declared.row.Cond.{Cond}
use Rattle.block_model.specs.declared.row.Row.{Row}
use Rattle.block_model.specs.declared.value.Kind.{Kind}
use Rattle.block_model.specs.declared.value.Value.{Value}
use Rattle.block_model.specs.RowMatches.{column_matches}
use Rattle.store_layout.specs.DiskLayout.{DiskLayout}
use Rattle.store_layout.specs.FirstBrokenRule.{KeepsLimits}
use Rattle.page_layout.specs.PageContents.{Slot}
use Rattle.page_map.specs.PageMap.{PageMap}
use Rattle.page_locks.specs.LockHolders.{LockState}
use Rattle.coverage.specs.IndexView.{IndexTuple}
use Rattle.coverage.specs.Steps.{Excludes}
use Rattle.coverage.specs.GoingOn.{IsScanHonest}
use Rattle.coverage.specs.Machines.{Unseen, table_state}
use Rattle.coverage.specs.Table.{Scans, TableScan, TableState}
use Rattle.heap_rows.specs.Heaps.{kinds_at}
use Rattle.index_contents.specs.IndexContents.{contents}
use Rattle.range_tuple.specs.OwnKinds.{HaveOwnKeys}
use Rattle.index_steps.specs.IndexTuples.{IndexShape, are_values, kinds_of, no_index, row_values, seen, shape_of}
use Rattle.index_steps.specs.ShownRows.{shown_by}
use Rattle.index_steps.specs.ShownTable.{indexes_of, shown_at}
use Rattle.bitmap_scan.specs.ScanHands.{ScanHand}
use Rattle.bitmap_scan.specs.TableScans.{Beside, is_match, table_scan}
use Rattle.bitmap_scan.proofs.Excluding.{kinds_same, own_values}
use Rattle.bitmap_scan.proofs.Lawful.{lawful_indexes}
use Rattle.bitmap_scan.proofs.Numbers.{IsOfTable, of_table}

-- an index of a layout within its limits has a column
some_parts : (layout : DiskLayout) (table n : ℕ) → KeepsLimits layout.schema layout.sizes → IsOfTable layout table n → 0 < length (shape_of layout n).parts
unfolding shape_of
some_parts layout table n limits of = ((lawful_indexes layout.schema layout.sizes limits).indexes n no_index of.declared).some_columns

-- what index_steps says of tuples
abbrev pub TuplesExclude : Type 0
TuplesExclude = (shape : IndexShape) (bytes : List ℕ) (conds : List Cond) (matches : Row → Bool) → 0 < length shape.parts → HaveOwnKeys conds
    → ((r : Row) → matches r ≡ true → list_all (column_matches (row_values shape r)) conds ≡ true) → (seen shape bytes).keeps conds ≡ false → Excludes (seen shape bytes) matches

module _ (layout : DiskLayout) (pages : PageMap) (locks : LockState) (blocks : List (List Slot)) (u : Unseen) (hand : ScanHand) (beside : Beside) (limits : KeepsLimits layout.schema layout.sizes)
    (own : HaveOwnKeys hand.query.conds) (law : TuplesExclude) where
  abbrev w : TableState
  w = table_state (shown_by layout pages locks hand.query.table blocks) u

  -- a match meets the conditions by the values that an index of the table sees of it
  meets : (n : ℕ) → IsOfTable layout hand.query.table n → (r : Row) → is_match layout hand.query r ≡ true → list_all (column_matches (row_values (shape_of layout n) r)) hand.query.conds ≡ true
  meets n of r matches =
      let parts = and_parts (are_values (kinds_at layout hand.query.table) r.values) _ matches in
      let kinds : are_values (kinds_of (shape_of layout n)) r.values ≡ true = ap (λ (ks : List Kind). are_values ks r.values) (kinds_same layout hand.query.table n of.table_is) ∙ parts.0 in
      ap (λ (vs : List Value). list_all (column_matches vs) hand.query.conds) (own_values (shape_of layout n) r kinds) ∙ (and_parts (r.table == hand.query.table) _ parts.1).1

  by_bytes : (n : ℕ) → IsOfTable layout hand.query.table n → (o : Option (List ℕ)) (t : IndexTuple) → option_map (seen (shape_of layout n)) o ≡ Some t → t.keeps hand.query.conds ≡ false
      → Excludes t (is_match layout hand.query)
  by_bytes n of None t there drops = absurd (none-some t there)
  by_bytes n of (Some bytes) t there drops =
      let is : seen (shape_of layout n) bytes ≡ t = same_Some (seen (shape_of layout n) bytes) t there in
      subst (λ (v : IndexTuple). Excludes v (is_match layout hand.query)) is
      (law (shape_of layout n) bytes hand.query.conds (is_match layout hand.query) (some_parts layout hand.query.table n limits of) own (meets n of) (ap (λ (v : IndexTuple). v.keeps hand.query.conds) is ∙ drops))

  by_index : (at : ℕ) (o : Option ℕ) → slice_get (indexes_of layout hand.query.table) at ≡ o → (x : Spot) (t : IndexTuple) → (shown_at layout pages locks o).tuple x ≡ Some t → t.keeps hand.query.conds ≡ false
      → Excludes t (is_match layout hand.query)
  by_index at None is x t there drops = absurd (none-some t there)
  by_index at (Some n) is x t there drops = by_bytes n (of_table layout hand.query.table at n is) ((contents layout pages n).bytes x) t there drops

  pub honest : (s : ℕ) → u.task s ≡ Scans (table_scan layout hand beside) → IsScanHonest w s
  honest s task scan is x t =
      let same : table_scan layout hand beside ≡ scan = scan_same (table_scan layout hand beside) scan (sym task ∙ is) in
      subst (λ (a : TableScan). (w.index a.at).tuple x ≡ Some t → a.keeps a.at t ≡ false → Excludes t a.matches) same
      (λ there drops. by_index (table_scan layout hand beside).at (slice_get (indexes_of layout hand.query.table) (table_scan layout hand beside).at) refl x t there drops)
    where
      scan_same : (a b : TableScan) → Scans a ≡ Scans b → a ≡ b
      scan_same a b e = cc
