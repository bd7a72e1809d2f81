use Rattle.std.proofs.Common.{◌≡◌, ℕ, ◌≤◌, ◌<◌, get_or, take}
use Rattle.heap_rows.specs.declared.rows.Stored.{Stored}
use Rattle.range_tuple.specs.ExactTuples.{with_rows}
use Rattle.range_tuple.specs.Tuples.{IsTuple, parts_of}
use Rattle.summarise_core.specs.BlockRows.{AreKnown, values_of}
use Rattle.summarise_core.proofs.rows.add_rows.Given as goal

-- the rows so far are added and known, and what each number of them makes is a tuple
abbrev pub invariant-rows : goal.invariant-rows
invariant-rows l = record {
  added : l.tuple ≡ with_rows (take l.row-index (values_of l.rows)) l.initial.tuple;
  tuples : (n : ℕ) → n ≤ l.row-index → IsTuple (with_rows (take n (values_of l.rows)) l.initial.tuple);
  known : (k : ℕ) (d : Stored) → k < l.row-index → AreKnown (get_or l.rows k d).values;
  same_index : parts_of l.tuple.columns ≡ parts_of l.initial.tuple.columns;
}
