-- the state of a database whose transactions each work on a copy of the tables ("Transaction Isolation", repeatable read)
use Rattle.std.specs.Prelude.{ℕ, Bool, refl}
use Rattle.std.specs.Coded.{Coded, code_by, coded×, coded_ℕ, coded_bool}
use Rattle.std.specs.Ordering.{nat_cmp}
use Rattle.std.specs.FinMap as map
use Rattle.std.specs.FinSet as set
use Rattle.block_model.specs.declared.row.RowId.{RowId}
use Rattle.block_model.specs.declared.row.Row.{Row}
use Rattle.block_model.specs.contracts.row.Row as row_contract
use Rattle.block_model.specs.TableState.{TableState, RowIds}

-- A transaction that is under way: its number, the place of its next row, its own copy of the tables, the rows of
-- others that it deleted there, and whether it has failed, so that it can only end.
pub record OpenTransaction : Type 0 where
  pub t : ℕ
  pub next_k : ℕ
  pub view : TableState
  pub marks : RowIds
  pub failed : Bool

-- the number of the next transaction, what is committed, and each session's transaction by the session's number
pub record DatabaseState : Type 0 where
  pub next : ℕ
  pub table : TableState
  pub sessions : map.FinMap nat_cmp OpenTransaction

-- a new database: empty tables, and transactions are numbered from 1
abbrev pub initial_state : DatabaseState
initial_state = record { next = 1; table = map.empty; sessions = map.empty }

-- how these are stored
abbrev pub coded_id : Coded RowId
coded_id = code_by (ℕ × ℕ) (coded× coded_ℕ coded_ℕ) (λ i. (i.t, i.k)) (λ p. record { t = p.0; k = p.1 }) (λ _. refl)

abbrev pub coded_row : Coded Row
coded_row = row_contract.the_row.coded

abbrev pub coded_table : Coded TableState
coded_table = map.code coded_id coded_row

abbrev pub coded_ids : Coded RowIds
coded_ids = set.code coded_id

abbrev pub coded_transaction : Coded OpenTransaction
coded_transaction =
    code_by (ℕ × (ℕ × (TableState × (RowIds × Bool)))) (coded× coded_ℕ (coded× coded_ℕ (coded× coded_table (coded× coded_ids coded_bool))))
    (λ x. (x.t, (x.next_k, (x.view, (x.marks, x.failed)))))
    (λ p. record { t = p.0; next_k = p.1.0; view = p.1.1.0; marks = p.1.1.1.0; failed = p.1.1.1.1 }) (λ _. refl)

abbrev pub coded_database : Coded DatabaseState
coded_database =
    code_by (ℕ × (TableState × map.FinMap nat_cmp OpenTransaction)) (coded× coded_ℕ (coded× coded_table (map.code coded_ℕ coded_transaction)))
    (λ s. (s.next, (s.table, s.sessions)))
    (λ p. record { next = p.0; table = p.1.0; sessions = p.1.1 }) (λ _. refl)
