-- a row that is put, as a step of its table
use Rattle.std.proofs.Common.{◌≡◌, ◌≢◌, ◌⊎◌, inl, inr, ℕ, ◌+◌, max, List, length, Option, None, Some, refl, sym, ap, subst, arith}
use Rattle.std.specs.Prelude.{slice_get}
use Rattle.std.proofs.lemmas.Bool.{cases_eq}
use Rattle.block_model.specs.declared.place.Spot.{Spot}
use Rattle.block_model.specs.declared.reply.Point.TheVariants as points
use Rattle.block_model.specs.declared.row.Row.{Row}
use Rattle.block_model.specs.declared.row.RowId.{RowId}
use Rattle.block_model.specs.declared.value.Value.{Value}
use Rattle.store_layout.specs.DiskLayout.{DiskLayout}
use Rattle.page_layout.specs.PageContents.{Slot}
use Rattle.page_layout.specs.RowBytes.{StoredRow}
use Rattle.page_map.specs.PageMap.{PageMap, block_at}
use Rattle.page_locks.specs.LockHolders.{LockState}
use Rattle.heap_rows.specs.Heaps.{relation_of as heap_of, slots_a_page}
use Rattle.heap_rows.specs.RowPlaces.{new_row}
use Rattle.coverage.specs.Accounts.{no_account}
use Rattle.coverage.specs.InOneIndex.{DoesAt, RowComesTo, with_rows}
use Rattle.coverage.specs.Machines.{ShownTable, Unseen, table_state, task_turned}
use Rattle.coverage.specs.Table.{Reaches, Resting, TableState, pick}
use Rattle.coverage.specs.TableSteps.{IsFirstPlace}
use Rattle.index_contents.specs.IndexContents.{contents, contents_in, relation_of}
use Rattle.brin_insert.specs.RowSteps.{PutsRowOf, blocks_with, row_of}
use Rattle.index_steps.specs.ShownRows.{row_in, rows_in, shown_by}
use Rattle.index_steps.specs.ShownTable.{indexes_of}
use Rattle.brin_insert.proofs.FirstPlaces.{blocks_then, is_first}
use Rattle.index_steps.proofs.TableIndexes.{same_one, shown_one}

-- what the law of a row that begins its insert says
abbrev pub RowBeginsItsInsert : Type 0
RowBeginsItsInsert = (s b k : ℕ) (r : Row) (w : TableState) (row : ℕ → ℕ → Option Row) → w.task s ≡ Resting → IsFirstPlace w b k → RowComesTo w.row row b k r
    → DoesAt s w (with_rows row (max w.blocks (b + 1)) s (Reaches b k r 0) w) points.Row (λ account. no_account)

-- an index whose pages stay has what it had
pub same_index : (layout : DiskLayout) (pages paged : PageMap) (n : ℕ) → ((block : ℕ) → block_at paged (relation_of layout n) block ≡ block_at pages (relation_of layout n) block) → contents layout paged n ≡ contents layout pages n
unfolding contents
same_index layout pages paged n same = λ j. contents_in layout.sizes.index_blocks (λ block. same block j)

module _ (begins : RowBeginsItsInsert) (layout : DiskLayout) (pages paged : PageMap) (locks : LockState) (s table : ℕ) (id : RowId) (values : List Value) (spot : Spot) (blocks : List (List Slot))
    (puts : PutsRowOf layout pages paged table id values spot blocks) (u : Unseen) (rests : u.task s ≡ Resting) where
  abbrev old : ShownTable
  old = shown_by layout pages locks table blocks

  abbrev after : List (List Slot)
  after = blocks_with layout table id values spot blocks

  abbrev new : ShownTable
  new = shown_by layout paged locks table after

  abbrev w : TableState
  w = table_state old u

  abbrev r : Row
  r = row_of table id values

  abbrev stored : StoredRow
  stored = new_row id values

  no_heap : (n : ℕ) → relation_of layout n ≢ heap_of table
  no_heap n same = omega (arith, same, puts.declared)

  comes : RowComesTo w.row (rows_in table after) spot.block spot.slot r
  comes = record {
    now = ap (row_in table) puts.fills.1.there;
    others = λ b k. by_place b k;
  }
    where
      stays : (b k : ℕ) → record { block = b; slot = k } ≢ spot → rows_in table after b k ≡ w.row b k
      stays b k apart = ap (row_in table) (puts.fills.1.others (record { block = b; slot = k }) apart)

      by_place : (b k : ℕ) → ((b ≡ spot.block) × (k ≡ spot.slot)) ⊎ (rows_in table after b k ≡ w.row b k)
      by_place b k = elim (cases_eq b spot.block) [
        | inl here ↦ elim (cases_eq k spot.slot) [
          | inl too ↦ inl (here, too)
          | inr apart ↦ inr (stays b k (λ e. apart (ap (λ (y : Spot). y.slot) e)))
        ]
        | inr apart ↦ inr (stays b k (λ e. apart (ap (λ (y : Spot). y.block) e)))
      ]

  first : IsFirstPlace w spot.block spot.slot
  first = is_first layout pages table blocks w refl refl (λ b k. refl) puts.has spot puts.place puts.fills.0 puts.within.0 puts.within.1

  many : max w.blocks (spot.block + 1) ≡ length after
  many = sym (blocks_then layout pages table blocks w refl refl (λ b k. refl) puts.has spot puts.place (slots_a_page layout table) stored)

  same_shown : (i : ℕ) → w.index i ≡ shown_one layout paged locks (u.unnamed i) (slice_get (indexes_of layout table) i)
  same_shown i = by_number (slice_get (indexes_of layout table) i)
    where
      by_number : (o : Option ℕ) → shown_one layout pages locks (u.unnamed i) o ≡ shown_one layout paged locks (u.unnamed i) o
      by_number None = refl
      by_number (Some m) = same_one layout pages paged locks locks (u.unnamed i) m
          (same_index layout pages paged m (λ block. puts.others (record { relation = relation_of layout m; block = block }) (no_heap m))) (λ page. refl)

  table_is : with_rows (rows_in table after) (max w.blocks (spot.block + 1)) s (Reaches spot.block spot.slot r 0) w ≡ table_state new (task_turned s (Reaches spot.block spot.slot r 0) u)
  table_is = λ j. record w {
    index = λ i. same_shown i j;
    blocks = many j;
    row = rows_in table after;
    task = λ m. pick m s (Reaches spot.block spot.slot r 0) (u.task m);
  }

  pub row_begins : DoesAt s w (table_state new (task_turned s (Reaches spot.block spot.slot r 0) u)) points.Row (λ account. no_account)
  row_begins = subst (λ (z : TableState). DoesAt s w z points.Row (λ account. no_account)) table_is
      (begins s spot.block spot.slot r w (rows_in table after) rests first comes)
