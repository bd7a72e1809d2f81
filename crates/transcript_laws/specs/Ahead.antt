-- How the journal of the steps stands to the transcript: it is ahead by the requests of statements in hand.
use Rattle.std.specs.Prelude.{◌≡◌, ℕ, false, List, [], ◌∷◌, ◌++◌, map, Option, None, Some}
use Rattle.std.specs.FinMap as maps
use Rattle.block_model.specs.declared.row.Query.{Query}
use Rattle.block_model.specs.declared.row.Row.{Row}
use Rattle.block_model.specs.declared.value.Value.{Value}
use Rattle.block_model.specs.DatabaseState.{DatabaseState, OpenTransaction}
use Rattle.block_model.specs.RequestEffect.{Answer, Found, Inserted, Marked, after_put, next_row, rows_found}
use Rattle.store_layout.specs.declared.statement.Statement.{Statement}
use Rattle.store_layout.specs.declared.statement.Statement.TheVariants as statements
use Rattle.store_layout.specs.StatementRequests.{refusal_at}
use Rattle.script_semantics.specs.Place.{Hand}
use Rattle.transcripts.specs.Told.{marked}

abbrev pub answers_marked : List Row → List Answer
answers_marked rows = map (λ (row : Row). Marked) rows

-- What the session's transaction is by the transcript, and by the journal: the same, where it has nothing in hand or has entered nothing; with the row that an insert has
-- put; or with the rows that a delete has marked.
pub data IsCopyAhead (before now : Option OpenTransaction) : Option Hand → Type 0 where
  Idle : now ≡ before → IsCopyAhead before now None
  Fresh : (statement : Statement) → now ≡ before → IsCopyAhead before now (Some (record { statement = statement; answers = [] }))
  HasPut : (x : OpenTransaction) (table : ℕ) (values : List Value) → before ≡ Some x → x.failed ≡ false → now ≡ Some (after_put x table values)
      → IsCopyAhead before now (Some (record { statement = statements.Insert table values; answers = Inserted (next_row x table values).id ∷ [] }))
  HasMarked : (x : OpenTransaction) (q : Query) (rows left : List Row) → before ≡ Some x → x.failed ≡ false → rows_found x q ≡ rows ++ left → now ≡ Some (marked x rows)
      → IsCopyAhead before now (Some (record { statement = statements.Delete q; answers = Found (rows_found x q) ∷ answers_marked rows }))

-- The database d of the journal is ahead of the database s of the transcript. Each statement in hand is the next one that its session tells, and was taken.
pub record IsAhead (next : ℕ → Option Statement) (hands : ℕ → Option Hand) (d s : DatabaseState) : Type 0 where
  pub number : d.next ≡ s.next
  pub table : d.table ≡ s.table
  pub copies : (n : ℕ) → IsCopyAhead (maps.get s.sessions n) (maps.get d.sessions n) (hands n)
  pub lines : (n : ℕ) (hand : Hand) → hands n ≡ Some hand → next n ≡ Some hand.statement
  pub taken : (n : ℕ) (hand : Hand) → hands n ≡ Some hand → refusal_at s n hand.statement ≡ None
