-- Small tables for the runs: blocks of one slot, rows that count for nobody, and all sessions at rest but the first one.
use Rattle.std.proofs.Common.{◌≡◌, ◌⊎◌, inl, inr, ℕ, Option, false, zero, suc}
use Rattle.std.specs.Prelude.{refl}
use Rattle.block_model.specs.declared.row.Row.{Row}
use Rattle.coverage.specs.Table.{Index, Task, Resting, TableState}
use Rattle.coverage.specs.TableSteps.{SameRows, OnlyTurns}

-- the first session is at this task, and the others rest
abbrev pub first_at : Task → ℕ → Task
first_at task zero = task
first_at task (suc n) = Resting

pub others_rest : (old new : Task) (n : ℕ) → (n ≡ 0) ⊎ (first_at new n ≡ first_at old n)
others_rest old new zero = inl refl
others_rest old new (suc n) = inr refl

abbrev pub table : (indexes heap_limit blocks : ℕ) → (ℕ → Index) → (ℕ → ℕ → Option Row) → Option ℕ → (ℕ → Task) → TableState
table indexes heap_limit blocks index row held task = record {
  indexes = indexes;
  index = index;
  rows_per_page = 1;
  heap_limit = heap_limit;
  blocks = blocks;
  row = row;
  summarise_lock = held;
  task = task;
  counts = λ t. false;
}

-- whatever the indexes and the tasks, and whoever holds the summarise lock, the heap is the same
pub same_rows : (w : TableState) (index : ℕ → Index) (held : Option ℕ) (task : ℕ → Task)
    → SameRows w (record w { index = index; summarise_lock = held; task = task })
same_rows w index held task =
    record { layout = record { indexes = refl; rows_per_page = refl; heap_limit = refl }; blocks = refl; row = λ b k. refl; counts = λ t. refl }

pub only_turns : (w : TableState) (task : ℕ → Task) → OnlyTurns w (record w { task = task })
only_turns w task = record { rows = same_rows w w.index w.summarise_lock task; indexes = record { index = λ i. refl }; summarise_lock = refl }
