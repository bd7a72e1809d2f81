-- The pages of a new store as those of an image.
use Rattle.std.proofs.Common.{◌≡◌, ℕ, zero, suc, ◌<◌, Bool, false, [], length, refl, sym, ◌∙◌, ap, arith}
use Rattle.std.specs.Prelude.{replicate}
use Rattle.std.proofs.lemmas.Bool.{false≢true}
use Rattle.block_model.specs.DatabaseState.{initial_state}
use Rattle.store_layout.specs.DiskLayout.{DiskLayout}
use Rattle.page_locks.specs.LockHolders.{LockState}
use Rattle.page_map.specs.PageMap.{PageMap}
use Rattle.recovery.specs.PageOrder.{AreInOrder}
use Rattle.heap_rows.specs.HeapBlocks.{HasBlocks}
use Rattle.snapshot_core.specs.declared.statuses.Status.TheVariants.{Unused}
use Rattle.tx_table.specs.Statuses.{status_of}
use Rattle.tx_table.specs.TxState.{IsNext}
use Rattle.transactions.specs.CountedRows.{counts}
use Rattle.transactions.specs.ShowsDatabase.{ShowsDatabase}
use Rattle.coverage.specs.IsCovered.{IsAtRest}
use Rattle.coverage.specs.Table.{TableState, index_state, seen_by}
use Rattle.coverage.specs.TableCovered.{IsNewTable, IsTableAtRest, IsTableCovered, IsTableKept}
use Rattle.session_starts.specs.NewTables.{new_table}
use Rattle.session_starts.specs.StoreImage.{IsRestingTable, IsStoreImage, IsUnlocked, opened_at}

-- ---- the next number

all_unused : (n t : ℕ) → status_of (replicate n Unused) t ≡ Unused
all_unused zero t = refl
all_unused (suc n) zero = refl
all_unused (suc n) (suc t) = all_unused n t

pub first_is_next : (n : ℕ) → IsNext (replicate n Unused) 1
first_is_next n = record { some = omega arith; used = λ more. absurd (omega (arith, more)); unused = λ t from. all_unused n t }

-- ---- a new table

index_at_rest : (w : TableState) (i : ℕ) → IsNewTable w → IsAtRest (index_state i w)
index_at_rest w i new = record {
  idle = λ s. ap (seen_by i) (new.resting s);
  unlocked = new.lock i;
  free = new.free;
  unnamed_tuples = λ x is. absurd (false≢true (sym (new.unnamed i x) ∙ is));
}

table_at_rest : (w : TableState) → IsNewTable w → IsTableKept w → IsTableAtRest w
table_at_rest w new kept = record {
  resting = new.resting;
  free = new.free;
  rest = λ i low. index_at_rest w i new;
  ordered = λ i low. (kept.indexes i low).ordered;
  lawful = new.lawful;
  ranged = new.ranged;
  rows_below = kept.rows_below;
}

-- ---- the image

module _ (covered : (w : TableState) → IsTableKept w → IsTableCovered w) (kept : (w : TableState) → IsNewTable w → IsTableKept w) (layout : DiskLayout) (pages : PageMap)
    (new : (locks : LockState) (table : ℕ) (counted : ℕ → Bool) → IsUnlocked locks → IsNewTable (new_table layout pages locks table counted)) where
  new_rests : (counted : ℕ → Bool) (table : ℕ) → HasBlocks layout pages table [] → IsRestingTable layout pages counted table
  new_rests counted table has = record {
    blocks = [];
    has = has;
    unnamed = λ i x. false;
    rest = λ locks unlocked.
        let is = new locks table counted unlocked in
        table_at_rest (new_table layout pages locks table counted) is (kept (new_table layout pages locks table counted) is);
    covered = λ locks unlocked. covered (new_table layout pages locks table counted) (kept (new_table layout pages locks table counted) (new locks table counted unlocked));
  }

  pub new_is_image : ShowsDatabase layout pages (opened_at 1) initial_state → ((table : ℕ) → table < length layout.schema.tables → HasBlocks layout pages table []) → AreInOrder layout pages
      → IsStoreImage layout pages initial_state.table
  new_is_image database blocks order = record {
    next = 1;
    database = database;
    tables = λ n below. new_rests (counts (opened_at 1) database.stored) n (blocks n below);
    order = order;
  }
