-- What holds of map, tuples, locks and heap by themselves.
use Rattle.std.specs.Prelude.{◌≡◌, ◌≢◌, ◌⊎◌, ℕ, ◌<◌, IsTrue, None, Some}
use Rattle.block_model.specs.declared.row.Row.{Row}
use Rattle.block_model.specs.declared.place.Spot.{Spot}
use Rattle.coverage.specs.Statements.{AreLawful}
use Rattle.coverage.specs.IndexView.{IndexTuple, Progress, IndexView, IsTupleOf, IsBuilding}

-- A tuple left unnamed at the opening stands on its page; no entry names it, and it is loose in nobody's hands.
pub record IsLeftUnnamed (w : IndexView) (x : Spot) : Type 0 where
  pub stands : w.tuple x ≢ None
  pub unnamed : (range : ℕ) → w.entry range ≢ Some x
  pub apart : (s : ℕ) → w.loose s ≢ Some x

pub record IsSound (w : IndexView) : Type 0 where
  pub lawful : AreLawful w.contents
  pub ranged : 0 < w.pages_per_range
  -- rows lie on blocks of the table
  pub rows_below : (b k : ℕ) (r : Row) → w.row b k ≡ Some r → b < w.blocks
  -- an entry names a tuple of its range
  pub entries_name_tuples : (range : ℕ) (x : Spot) → w.entry range ≡ Some x → (t : IndexTuple) × (w.tuple x ≡ Some t) × (t.range ≡ range)
  -- a tuple is named for its range, or is loose in a session's hands, or was unnamed at the opening
  pub tuples_are_named : (x : Spot) (t : IndexTuple) → w.tuple x ≡ Some t
      → (w.entry t.range ≡ Some x) ⊎ ((s : ℕ) × (w.loose s ≡ Some x)) ⊎ IsTrue (w.unnamed x)
  -- a tuple is one of the index, or was unnamed at the opening
  pub formed : (x : Spot) (t : IndexTuple) → w.tuple x ≡ Some t → IsTupleOf w t ⊎ IsTrue (w.unnamed x)
  pub unnamed_tuples : (x : Spot) → IsTrue (w.unnamed x) → IsLeftUnnamed w x
  -- who is building a range holds the table's summarise lock
  pub builder_holds : (s range : ℕ) (p : Progress) → IsBuilding w s range p → w.summarise_lock ≡ Some s
  -- a loose tuple's page is locked by the session that has it in hand
  pub loose_is_locked : (s : ℕ) (x : Spot) → w.loose s ≡ Some x → w.lock x.block ≡ Some s
