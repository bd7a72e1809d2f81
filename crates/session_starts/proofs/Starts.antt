-- a new store at the place at which a script begins
use Rattle.std.proofs.Common.{◌≡◌, ℕ, ◌<◌, [], length, refl, sym, ◌∙◌, ap, subst}
use Rattle.std.specs.Prelude.{false}
use Rattle.block_model.specs.DatabaseState.{initial_state}
use Rattle.heap_rows.specs.HeapBlocks.{HasBlocks}
use Rattle.index_contents.specs.IndexContents.{index_page}
use Rattle.recovery.specs.PageOrder.{IsIndexInOrder}
use Rattle.disk_trait.specs.Told.{Told}
use Rattle.page_map.specs.Keeps.{Keeps, Tells}
use Rattle.page_map.specs.PageMap.{PageMap, View}
use Rattle.store_layout.specs.DiskLayout.{DiskLayout}
use Rattle.coverage.specs.Table.{TableState}
use Rattle.coverage.specs.TableCovered.{IsNewTable, IsTableKept}
use Rattle.transactions.specs.CountedRows.{counts as counts_of}
use Rattle.transactions.specs.ShowsDatabase.{ShowsDatabase}
use Rattle.script_semantics.specs.Place.{Place}
use Rattle.script_semantics.specs.Starts.{IsLaidOut, IsStart}
use Rattle.session_parts.specs.OpeningLaws.{OpenedIsShown, place_opened}
use Rattle.session_parts.specs.ShowsPlace.{IsPlaceOf}
use Rattle.session_parts.specs.StoreStates.{ShownStore, shown_of, store_of}
use Rattle.session_parts.specs.declared.parts.Parts.{Parts}
use Rattle.session_starts.specs.FreshPages.{fresh_pages}
use Rattle.session_starts.specs.NewTables.{new_table}
use Rattle.session_starts.specs.OpenedParts.{AreOpened, IsNewStore, ShowsStart}

-- a fact of the fresh pages of a layout, and of a store that has them
pub of_store : (P : DiskLayout → PageMap → Type 0) (layout known : DiskLayout) (pages : PageMap) → known ≡ layout → pages ≡ fresh_pages known → P layout (fresh_pages layout) → P known pages
of_store P layout known pages same are fact = subst (P known) (sym are) (subst (λ (l : DiskLayout). P l (fresh_pages l)) (sym same) fact)

pub of_fresh : (P : DiskLayout → PageMap → Type 0) (layout known : DiskLayout) (pages : PageMap) → known ≡ layout → pages ≡ fresh_pages known → P known pages → P layout (fresh_pages layout)
of_fresh P layout known pages same are fact = subst (λ (l : DiskLayout). P l (fresh_pages l)) same (subst (P known) are fact)

module _ (s : ShownStore) (new : IsNewStore s) (database : ShowsDatabase s.layout s.pages s.transactions initial_state)
    (blocks : (table : ℕ) → table < length s.layout.schema.tables → HasBlocks s.layout s.pages table [])
    (tables : (table : ℕ) → table < length s.layout.schema.tables → IsNewTable (new_table s.layout s.pages s.locks table (counts_of s.transactions database.stored)))
    (laid_out : (table : ℕ) → table < length s.layout.schema.tables → IsLaidOut s.layout table (new_table s.layout s.pages s.locks table (counts_of s.transactions database.stored)))
    (order : (index : ℕ) → index < length s.layout.schema.indexes → IsIndexInOrder s.layout.sizes.index_blocks (index_page s.layout s.pages index))
    (kept : (w : TableState) → IsNewTable w → IsTableKept w) (opened : OpenedIsShown) where
  abbrev its_tables : ℕ → TableState
  its_tables table = new_table s.layout s.pages s.locks table (counts_of s.transactions database.stored)

  abbrev its_start : Place
  its_start = place_opened s initial_state its_tables

  start : IsStart s.layout its_start
  start = record {
    layout_is = refl;
    opening = refl;
    names = new.names;
    journal = refl;
    queue = refl;
    hands = λ n. refl;
    accounts = λ n. refl;
    laid_out = laid_out;
    new = tables;
    empty = λ table below. refl;
  }

  shown : IsPlaceOf s its_start
  shown = opened s initial_state its_tables new.entries new.queue new.dropped new.hands new.opened database (λ table below. record {
    blocks = [];
    has = blocks table below;
    unnamed = λ i x. false;
    is = refl;
    free = new.free table;
    kept = kept (its_tables table) (tables table below);
  }) order

  pub start_shown : (p : Place) × IsStart s.layout p × IsPlaceOf s p
  start_shown = (its_start, start, shown)

-- parts over the fresh pages, which were opened, are a new store
pub opened_start : {D : Type 0} (told : D → Told) (old : View D) (parts : Parts D) (known : DiskLayout) → ((s : ShownStore) → s.layout ≡ known → IsNewStore s → (p : Place) × IsStart known p × IsPlaceOf s p) → known ≡ parts.pages.layout → AreOpened told parts → Keeps told old parts.pages
    → Tells told old → old.pages ≡ fresh_pages old.layout → ShowsStart old.layout (store_of parts [] [])
opened_start told old parts known law is opened kept tells fresh =
    let found = opened.over.statuses (kept.leaves.tells ∙ tells) in
    let new : IsNewStore (shown_of (store_of parts [] [])) = record {
      pages = kept.pages tells ∙ fresh ∙ ap fresh_pages (sym kept.leaves.layout);
      opened = opened.opened;
      stored = found.0;
      has = found.1;
      next = found.2;
      unlocked = opened.unlocked;
      free = opened.free;
      entries = opened.entries;
      queue = opened.queue;
      dropped = opened.dropped;
      names = refl;
      hands = λ n. refl;
    } in
    subst (λ (l : DiskLayout). ShowsStart l (store_of parts [] [])) (is ∙ kept.leaves.layout) (law (shown_of (store_of parts [] [])) (sym is) new)
