-- Tables at rest: what a stop leaves of a table, whatever its statements had in hand.
use Rattle.std.proofs.Common.{◌≡◌, inl, ℕ, ◌<◌, Bool, false, not, List, Option, None, Some, refl, sym, ap, ◌∙◌, arith}
use Rattle.std.specs.Prelude.{IsTrue, slice_get}
use Rattle.std.proofs.lemmas.Bool.{false≢true}
use Rattle.std.proofs.lemmas.Option.{none-some}
use Rattle.block_model.specs.declared.place.Spot.{Spot}
use Rattle.block_model.specs.declared.row.Row.{Row}
use Rattle.store_layout.specs.DiskLayout.{DiskLayout}
use Rattle.page_layout.specs.PageContents.{Slot}
use Rattle.page_locks.specs.LockChanges.{page_of}
use Rattle.page_locks.specs.LockHolders.{LockState}
use Rattle.page_map.specs.PageMap.{PageMap}
use Rattle.coverage.specs.IndexView.{IndexTuple}
use Rattle.coverage.specs.IsSound.{IsLeftUnnamed}
use Rattle.coverage.specs.Statements.{Inserting, OnIndex}
use Rattle.coverage.specs.Steps.{Stops}
use Rattle.index_contents.specs.IndexContents.{relation_of}
use Rattle.coverage.specs.Machines.{ShownTable, Unseen, table_state, with_locks}
use Rattle.coverage.specs.Table.{TableState, index_state, index_view_at, seen_by}
use Rattle.coverage.specs.TableCovered.{IsTableAtRest, IsTableKept, TableStops}
use Rattle.index_steps.specs.ShownRows.{shown_by}
use Rattle.index_steps.specs.ShownTable.{indexes_of, shown_at}
use Rattle.store_image.proofs.Unnamed.{is_named, is_unnamed, named_or_not, names}
use Rattle.session_starts.specs.StoreImage.{IsUnlocked, unseen_at_rest}

-- ---- a table that is stopped

-- it is kept, whatever isn't seen of it; nobody locks a page then, and no row of an insert in hand counts
module _ (stopped : (w v : TableState) → IsTableKept w → TableStops w v → IsTableKept v) (shown : ShownTable) (u : Unseen) (kept : IsTableKept (table_state shown u))
    (lock : ℕ → ℕ → Option ℕ) (free : (i p : ℕ) → lock i p ≡ None) (counted : ℕ → Bool) (fewer : (t : ℕ) → IsTrue (counted t) → IsTrue (u.counts t))
    (running : (s i b k : ℕ) (r : Row) (on_index : OnIndex) → seen_by i (u.task s) ≡ Inserting b k r on_index → counted r.id.t ≡ false) where
  abbrev unnamed : ℕ → Spot → Bool
  unnamed i x = is_unnamed (shown.index i).entry ((shown.index i).tuple x) x

  abbrev before : TableState
  before = table_state shown u

  abbrev at_rest : TableState
  at_rest = table_state (with_locks lock shown) (unseen_at_rest counted unnamed)

  left_unnamed : (i : ℕ) → i < shown.indexes → (x : Spot) → IsTrue (unnamed i x) → IsLeftUnnamed (index_view_at i at_rest) x
  left_unnamed i below x is = record {
    stands = λ none. false≢true (sym (ap (λ (o : Option IndexTuple). is_unnamed (shown.index i).entry o x) none) ∙ is);
    unnamed = λ range named.
        let its = (kept.indexes i below).sound.entries_name_tuples range x named in
        let own : (shown.index i).entry its.0.range ≡ Some x = ap (shown.index i).entry its.2 ∙ named in
        let no : unnamed i x ≡ false = ap (λ (o : Option IndexTuple). is_unnamed (shown.index i).entry o x) its.1 ∙ ap (λ (o : Option Spot). not (names x o)) own ∙ ap not (is_named x) in
        false≢true (sym no ∙ is);
    apart = λ s loose. none-some x loose;
  }

  index_stops : (i : ℕ) → i < shown.indexes → Stops (index_state i before) (index_state i at_rest)
  index_stops i below = record {
    rest = record { idle = λ s. refl; unlocked = free i; free = refl; unnamed_tuples = left_unnamed i below };
    contents = refl;
    pages_per_range = refl;
    blocks = omega arith;
    row = λ b k. refl;
    map = record { entry = λ range. refl };
    tuples = λ x. inl refl;
    pages = inl refl;
    unnamed = λ x t here. named_or_not (shown.index i).entry ((shown.index i).tuple x) x t here;
    counts = fewer;
    running = λ s b k r on_index is. running s i b k r on_index is;
  }

  table_stops : TableStops before at_rest
  table_stops = record {
    resting = λ s. refl;
    free = refl;
    indexes = refl;
    blocks = omega arith;
    row = λ b k. refl;
    stops = index_stops;
  }

  pub kept_at_rest : IsTableKept at_rest
  kept_at_rest = stopped before at_rest kept table_stops

  pub table_at_rest : IsTableAtRest at_rest
  table_at_rest = record {
    resting = λ s. refl;
    free = refl;
    rest = λ i below. (index_stops i below).rest;
    ordered = λ i below. (kept_at_rest.indexes i below).ordered;
    lawful = λ i below. (kept_at_rest.indexes i below).sound.lawful;
    ranged = λ i below. (kept_at_rest.indexes i below).sound.ranged;
    rows_below = kept_at_rest.rows_below;
  }

-- ---- the locks of its indexes

-- a table with other locks is the same but for these
module _ (layout : DiskLayout) (pages : PageMap) (locks locked : LockState) (table : ℕ) (blocks : List (List Slot)) where
  abbrev pub locks_then : ℕ → ℕ → Option ℕ
  locks_then at = (shown_at layout pages locked (slice_get (indexes_of layout table) at)).lock

  by_number : (o : Option ℕ) → shown_at layout pages locked o ≡ record (shown_at layout pages locks o) { lock = (shown_at layout pages locked o).lock }
  by_number None = refl
  by_number (Some n) = refl

  pub with_its_locks : with_locks locks_then (shown_by layout pages locks table blocks) ≡ shown_by layout pages locked table blocks
  with_its_locks = λ j. record (shown_by layout pages locked table blocks) { index = λ at. sym (by_number (slice_get (indexes_of layout table) at)) j }

  unlocked_at : IsUnlocked locked → (o : Option ℕ) (p : ℕ) → (shown_at layout pages locked o).lock p ≡ None
  unlocked_at free None p = refl
  unlocked_at free (Some n) p = free (page_of (relation_of layout n) p)

  pub nobody_locks : IsUnlocked locked → (at p : ℕ) → locks_then at p ≡ None
  nobody_locks free at p = unlocked_at free (slice_get (indexes_of layout table) at) p
