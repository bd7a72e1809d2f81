-- A mark as a turn of its delete in the table.
use Rattle.std.proofs.Common.{◌≡◌, inl, inr, ℕ, List, [], ◌∷◌, Some, refl, sym, ◌∙◌}
use Rattle.block_model.specs.declared.reply.Point.TheVariants as points
use Rattle.block_model.specs.declared.row.Query.{Query}
use Rattle.block_model.specs.declared.row.RowId.{RowId}
use Rattle.store_layout.specs.declared.statement.Statement.TheVariants as statements
use Rattle.coverage.specs.InOneIndex.{DoesAt}
use Rattle.coverage.specs.Table.{Marks, Resting, TableScan, TableState, Task, pick}
use Rattle.coverage.specs.TableSteps.{GoesOn, Marked, MarksRow, OnlyTurns, Settles, Stays, TaskTurns}
use Rattle.coverage.proofs.Views.{pick_same, pick_there}
use Rattle.script_semantics.specs.Place.{Place}
use Rattle.session_parts.specs.PlacesAfter.{TurnsIn, point_in}
use Rattle.session_parts.proofs.Steps.{machine_turns}

-- the session's statement is at this
abbrev pub at_task : (n : ℕ) → TableState → Task → TableState
at_task n v task = record v { task = λ m. pick m n task (v.task m) }

-- what a delete is at behind a mark, with these left
abbrev pub left_at : TableScan → List RowId → Task
left_at scan [] = Resting
left_at scan (id ∷ ids) = Marks scan (id ∷ ids)

-- nothing changes but what statements are at
only_at : (n : ℕ) (w v : TableState) (task : Task) → OnlyTurns w v → OnlyTurns w (at_task n v task)
only_at n w v task only = record {
  rows = record {
    layout = record { indexes = only.rows.layout.indexes; rows_per_page = only.rows.layout.rows_per_page; heap_limit = only.rows.layout.heap_limit };
    blocks = only.rows.blocks;
    row = only.rows.row;
    counts = only.rows.counts;
  };
  indexes = record { index = only.indexes.index };
  summarise_lock = only.summarise_lock;
}

turned : (n : ℕ) (w v : TableState) (old new : Task) → w.task n ≡ old → ((m : ℕ) → v.task m ≡ w.task m) → TaskTurns n w (at_task n v new) old new
turned n w v old new was same = record {
  was = was;
  now = pick_same n new (v.task n);
  others = λ m. elim (pick_there m n new (v.task m)) [
    | inl is ↦ inl is
    | inr other ↦ inr (other ∙ same m)
  ];
}

-- both are the table at a task
turns_on : (n : ℕ) (v : TableState) (old new : Task) → TaskTurns n (at_task n v old) (at_task n v new) old new
turns_on n v old new = record {
  was = pick_same n old (v.task n);
  now = pick_same n new (v.task n);
  others = λ m. elim (pick_there m n old (v.task m)) [
    | inl is ↦ inl is
    | inr other ↦ elim (pick_there m n new (v.task m)) [
      | inl is ↦ inl is
      | inr too ↦ inr (too ∙ sym other)
    ]
  ];
}

only_task : (n : ℕ) (v : TableState) (old new : Task) → OnlyTurns (at_task n v old) (at_task n v new)
only_task n v old new = record {
  rows = record { layout = record { indexes = refl; rows_per_page = refl; heap_limit = refl }; blocks = refl; row = λ b k. refl; counts = λ t. refl };
  indexes = record { index = λ i. refl };
  summarise_lock = refl;
}

settles : (n : ℕ) (v : TableState) (scan : TableScan) (rest : List RowId) → Settles n (at_task n v (Marks scan rest)) (at_task n v (left_at scan rest))
settles n v scan [] = GoesOn (Marks scan []) Resting (Marked scan) (turns_on n v (Marks scan []) Resting) (only_task n v (Marks scan []) Resting)
settles n v scan (id ∷ rest) = GoesOn (Marks scan (id ∷ rest)) (Marks scan (id ∷ rest)) (Stays (Marks scan (id ∷ rest)) tt) (turns_on n v _ _) (only_task n v _ _)

marks_at : (n : ℕ) (w v : TableState) (scan : TableScan) (id : RowId) (rest : List RowId) → w.task n ≡ Marks scan (id ∷ rest) → OnlyTurns w v → ((m : ℕ) → v.task m ≡ w.task m)
    → DoesAt n w (at_task n v (Marks scan rest)) points.Mark (λ account. account)
marks_at n w v scan id rest was only same = record {
  does = MarksRow scan id rest (turned n w v (Marks scan (id ∷ rest)) (Marks scan rest) was same) (only_at n w v (Marks scan rest) only);
  point_is = refl;
  adds = λ a b has. has;
}

-- A turn, under the point of a mark.
abbrev pub IsMarkTurn : (p : Place) (n : ℕ) (query : Query) → TableState → Type 0
IsMarkTurn p n query v = (turns : TurnsIn p n (statements.Delete query) query.table v (p.accounts n)) × (point_in turns ≡ Some points.Mark)

pub mark_turns : (p : Place) (n : ℕ) (query : Query) (v : TableState) (scan : TableScan) (id : RowId) (rest : List RowId) → (p.tables query.table).task n ≡ Marks scan (id ∷ rest)
    → OnlyTurns (p.tables query.table) v → ((m : ℕ) → v.task m ≡ (p.tables query.table).task m) → IsMarkTurn p n query (at_task n v (left_at scan rest))
mark_turns p n query v scan id rest was only same =
    let made = machine_turns p n query.table (statements.Delete query) (p.tables query.table) (at_task n v (Marks scan rest)) (at_task n v (left_at scan rest)) points.Mark (λ account. account)
    refl (λ is. cc) refl (marks_at n (p.tables query.table) v scan id rest was only same) (λ is. cc) (settles n v scan rest)
    (inl (λ resting. let both : Marks scan (id ∷ rest) ≡ Resting = sym was ∙ resting in cc)) in
    (made.0, made.1)

pub task_then : (n : ℕ) (v : TableState) (task : Task) → (at_task n v task).task n ≡ task
task_then n v task = pick_same n task (v.task n)
