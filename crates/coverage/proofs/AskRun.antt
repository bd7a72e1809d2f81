-- A run in which an insert asks for a summary, and work takes that up.
use Rattle.std.proofs.Common.{◌≡◌, ◌⊎◌, inl, inr, ℕ, ◌+◌, ◌≤◌, ◌<◌, max, Option, Some, None, true, false, [], ◌∷◌, sym, arith, zero, suc}
use Rattle.std.specs.Prelude.{refl}
use Rattle.std.proofs.lemmas.Option.{none-some}
use Rattle.block_model.specs.declared.row.Row.{Row}
use Rattle.coverage.specs.Statements.{Empty, NotBuilding}
use Rattle.coverage.specs.Steps.{ReadsIndex, InsertNoEntry}
use Rattle.coverage.proofs.SmallIndex.{at_number, no_rows, one_row, new_kind, pages}
use Rattle.coverage.proofs.SmallTable.{first_at, others_rest, table, same_rows, only_turns}
use Rattle.coverage.proofs.RangeSummarised.{new_pages}
use Rattle.coverage.proofs.ExampleTuples.{contents, lawful}
use Rattle.coverage.specs.Table.{Index, OneRange, Task, Resting, Reaches, Asks, Inserts, Considers, Maintains, TableState, index_view_at}
use Rattle.coverage.specs.TableSteps.{TaskTurns, OnlyTurns, StepsIn, TableTakesRow, Work, PutsRow, AsksSummary, InsertCompletes, TakesLock, Stays, ToAsk}
use Rattle.coverage.specs.TableSteps.{ToIndex, Inserted, ToRange, GoesOn, TableStep}
use Rattle.coverage.specs.TableCovered.{IsTableKept}
use Rattle.coverage.specs.Accounts.{Asked, no_account, Accounts, Joins, AccountsRun, AccountsDone, AccountsNext}
use Rattle.coverage.proofs.TableOpening.{new_table_kept}

abbrev index : Index
index = record {
  contents = contents;
  pages_per_range = 1;
  autosummarize = true;
  entry = λ m. None;
  tuple = λ x. None;
  pages = pages new_kind;
  lock = λ p. None;
  unnamed = λ x. false;
}

abbrev state : ℕ → (ℕ → ℕ → Option Row) → Option ℕ → (ℕ → Task) → TableState
state blocks row held task = table 1 8 blocks (λ i. index) row held task

abbrev two_rows : Row → Row → ℕ → ℕ → Option Row
two_rows r q b k = at_number b 0 (at_number k 0 (Some r) None) (at_number b 1 (at_number k 0 (Some q) None) None)

-- the second session is at this task, and the others rest
abbrev second_at : Task → ℕ → Task
second_at task zero = Resting
second_at task (suc zero) = task
second_at task (suc (suc n)) = Resting

second_turns : (old new : Task) (n : ℕ) → (n ≡ 1) ⊎ (second_at new n ≡ second_at old n)
second_turns old new zero = inr refl
second_turns old new (suc zero) = inl refl
second_turns old new (suc (suc n)) = inr refl

second_begins : (new : Task) (n : ℕ) → (n ≡ 1) ⊎ (second_at new n ≡ first_at Resting n)
second_begins new zero = inr refl
second_begins new (suc zero) = inl refl
second_begins new (suc (suc n)) = inr refl

-- a row comes into a heap
takes_row : (blocks grown b : ℕ) (row with_row : ℕ → ℕ → Option Row) (r : Row) (new : Task) → with_row b 0 ≡ Some r
    → ((c j : ℕ) → ((c ≡ b) × (j ≡ 0)) ⊎ (with_row c j ≡ row c j)) → grown ≡ max blocks (b + 1)
    → TableTakesRow (state blocks row None (first_at Resting)) (state grown with_row None (first_at new)) b 0 r
takes_row blocks grown b row with_row r new there others more = record {
  layout = record { indexes = refl; rows_per_page = refl; heap_limit = refl };
  now = there;
  others = others;
  blocks = more;
  counts = λ t. refl;
  indexes = record { index = λ i. refl };
  summarise_lock = refl;
}

module _ (blocks : ℕ) (row : ℕ → ℕ → Option Row) (old new : Task) where
  abbrev was : TableState
  was = state blocks row None (first_at old)

  abbrev now : TableState
  now = state blocks row None (first_at new)

  turns : TaskTurns 0 was now old new
  turns = record { was = refl; now = refl; others = others_rest old new }

  only : OnlyTurns was now
  only = only_turns _ _

  steps_in : StepsIn 0 was now
  steps_in = record { below = omega arith; rows = only.rows; others = λ i. inr refl; autosummarize = refl }

  reads : ReadsIndex 0 (index_view_at 0 was) (index_view_at 0 now)
  reads = record {
    frame = record {
      heap = record { pages_per_range = refl; blocks = refl; row = λ b k. refl };
      map = record { entry = λ m. refl };
      tuples = record { tuple = λ x. refl };
      unnamed_tuples = record { unnamed = λ x. refl };
      summarise_lock = refl;
      locks = record { others = λ p n is other. is; taken = λ p n is other. is };
      contents = refl;
    };
    pages = refl;
    none = λ p is. none-some _ is;
  }

-- an insert finds no entry for its row's range, and is done
done_step : (blocks : ℕ) (row : ℕ → ℕ → Option Row) (b k : ℕ) (r : Row)
    → TableStep 0 (state blocks row None (first_at (Inserts b k r 0 Empty))) (state blocks row None (first_at Resting))
done_step blocks row b k r = record {
  between = state blocks row None (first_at (Reaches b k r 1));
  does = InsertCompletes b k r 0 Empty (turns blocks row (Inserts b k r 0 Empty) (Reaches b k r 1))
      (steps_in blocks row (Inserts b k r 0 Empty) (Reaches b k r 1))
      (InsertNoEntry refl (reads blocks row (Inserts b k r 0 Empty) (Reaches b k r 1)));
  settles = GoesOn (Reaches b k r 1) Resting (Inserted b k r 1 refl) (turns blocks row (Reaches b k r 1) Resting) (only blocks row (Reaches b k r 1) Resting);
}

module _ (r q : Row) where
  one_more : (c j : ℕ) → ((c ≡ 0) × (j ≡ 0)) ⊎ (one_row r c j ≡ None)
  one_more zero zero = inl (refl, refl)
  one_more zero (suc j) = inr refl
  one_more (suc c) j = inr refl

  two_more : (c j : ℕ) → ((c ≡ 1) × (j ≡ 0)) ⊎ (two_rows r q c j ≡ one_row r c j)
  two_more (suc zero) zero = inl (refl, refl)
  two_more _ _ = inr refl

  first_place : (c j : ℕ) → (0 < c) ⊎ ((0 ≡ c) × (0 ≤ j))
  first_place zero j = inr (refl, omega arith)
  first_place (suc c) j = inl (omega arith)

  second_place : (c j : ℕ) → j < 1 → one_row r c j ≡ None → (1 < c) ⊎ ((1 ≡ c) × (0 ≤ j))
  second_place zero zero low is = absurd (none-some _ (sym is))
  second_place zero (suc j) low is = absurd (omega arith)
  second_place (suc zero) j low is = inr (refl, omega arith)
  second_place (suc (suc c)) j low is = inl (omega arith)

  abbrev pub begun : TableState
  begun = state 0 no_rows None (first_at Resting)

  abbrev pub asked_for : TableState
  asked_for = state 2 (two_rows r q) None (first_at Resting)

  abbrev pub taken_up : TableState
  taken_up = state 2 (two_rows r q) (Some 1) (second_at (Maintains (OneRange 2 0) 0 0 (NotBuilding Empty)))

  first_row : TableStep 0 begun (state 1 (one_row r) None (first_at (Inserts 0 0 r 0 Empty)))
  first_row = record {
    between = state 1 (one_row r) None (first_at (Reaches 0 0 r 0));
    does = PutsRow 0 0 r
        (record { vacant = (omega arith, refl); below = omega arith; first = λ c j vacant. first_place c j })
        (record { was = refl; now = refl; others = others_rest Resting (Reaches 0 0 r 0) })
        (takes_row 0 1 0 no_rows (one_row r) r (Reaches 0 0 r 0) refl one_more refl);
    settles = GoesOn (Reaches 0 0 r 0) (Inserts 0 0 r 0 Empty) (ToIndex 0 0 r 0 (omega arith) (λ asks. omega (arith, asks.3)))
        (turns 1 (one_row r) (Reaches 0 0 r 0) (Inserts 0 0 r 0 Empty)) (only 1 (one_row r) (Reaches 0 0 r 0) (Inserts 0 0 r 0 Empty));
  }

  second_row : TableStep 0 (state 1 (one_row r) None (first_at Resting)) (state 2 (two_rows r q) None (first_at (Asks 1 0 q 0)))
  second_row = record {
    between = state 2 (two_rows r q) None (first_at (Reaches 1 0 q 0));
    does = PutsRow 1 0 q
        (record { vacant = (omega arith, refl); below = omega arith; first = λ c j vacant. second_place c j vacant.0 vacant.1 })
        (record { was = refl; now = refl; others = others_rest Resting (Reaches 1 0 q 0) })
        (takes_row 1 2 1 (one_row r) (two_rows r q) q (Reaches 1 0 q 0) refl two_more refl);
    settles = GoesOn (Reaches 1 0 q 0) (Asks 1 0 q 0) (ToAsk 1 0 q 0 (omega arith) (refl, refl, refl, omega arith))
        (turns 2 (two_rows r q) (Reaches 1 0 q 0) (Asks 1 0 q 0)) (only 2 (two_rows r q) (Reaches 1 0 q 0) (Asks 1 0 q 0));
  }

  ask : TableStep 0 (state 2 (two_rows r q) None (first_at (Asks 1 0 q 0))) (state 2 (two_rows r q) None (first_at (Inserts 1 0 q 0 Empty)))
  ask = record {
    between = state 2 (two_rows r q) None (first_at (Inserts 1 0 q 0 Empty));
    does = AsksSummary 1 0 q 0 (turns 2 (two_rows r q) (Asks 1 0 q 0) (Inserts 1 0 q 0 Empty)) (only 2 (two_rows r q) (Asks 1 0 q 0) (Inserts 1 0 q 0 Empty));
    settles = GoesOn (Inserts 1 0 q 0 Empty) (Inserts 1 0 q 0 Empty) (Stays (Inserts 1 0 q 0 Empty) tt)
        (turns 2 (two_rows r q) (Inserts 1 0 q 0 Empty) (Inserts 1 0 q 0 Empty)) (only 2 (two_rows r q) (Inserts 1 0 q 0 Empty) (Inserts 1 0 q 0 Empty));
  }

  abbrev chosen : TableState
  chosen = state 2 (two_rows r q) (Some 1) (second_at (Considers (OneRange 2 0) 0 0))

  work : TableStep 1 asked_for taken_up
  work = record {
    between = chosen;
    does = TakesLock (Considers (OneRange 2 0) 0 0) (Work 0 0 (omega arith))
        (record { was = refl; now = refl; others = second_begins (Considers (OneRange 2 0) 0 0) })
        refl refl (same_rows _ _ _ _) (record { index = λ i. refl });
    settles = GoesOn (Considers (OneRange 2 0) 0 0) (Maintains (OneRange 2 0) 0 0 (NotBuilding Empty)) (ToRange (OneRange 2 0) 0 0 (refl, omega arith))
        (record { was = refl; now = refl; others = second_turns (Considers (OneRange 2 0) 0 0) (Maintains (OneRange 2 0) 0 0 (NotBuilding Empty)) })
        (only_turns _ _);
  }

abbrev pub asked : Asked
asked = record { table = 0; at = 0; range = 0 }

abbrev pub empty_queue : Accounts
empty_queue = record { table = 0; queue = []; of = λ n. no_account }

abbrev pub one_asked : Accounts
one_asked = record { table = 0; queue = asked ∷ []; of = λ n. no_account }

pub begun_kept : (r q : Row) → IsTableKept (begun r q)
begun_kept r q = new_table_kept (begun r q) (record {
  resting = resting;
  free = refl;
  row = λ b k. refl;
  entry = λ i m. refl;
  tuple = λ i x. refl;
  lock = λ i p. refl;
  unnamed = λ i x. refl;
  pages = λ i below. new_pages;
  lawful = λ i below. lawful;
  ranged = λ i below. omega arith;
})
  where
    resting : (s : ℕ) → first_at Resting s ≡ Resting
    resting zero = refl
    resting (suc s) = refl

-- the accounts stay as they are by a step that adds nothing to them
pub ask_run : (r q : Row) → AccountsRun (0 ∷ 0 ∷ 0 ∷ 0 ∷ 0 ∷ []) (begun r q) (asked_for r q) empty_queue one_asked
unfolding first_row done_step second_row ask
ask_run r q =
    AccountsNext 0 _ _ _ _ empty_queue empty_queue one_asked (first_row r q)
    (record { table = refl; others = λ n. inr refl; adds = record { account = refl; queue = refl } })
    (AccountsNext 0 _ _ _ _ empty_queue empty_queue one_asked (done_step 1 (one_row r) 0 0 r)
    (record { table = refl; others = λ n. inr refl; adds = record { account = refl; queue = refl } })
    (AccountsNext 0 _ _ _ _ empty_queue empty_queue one_asked (second_row r q)
    (record { table = refl; others = λ n. inr refl; adds = record { account = refl; queue = refl } })
    (AccountsNext 0 _ _ _ _ empty_queue one_asked one_asked (ask r q)
    (record { table = refl; others = λ n. inr refl; adds = (0, refl, Joins (omega arith) refl refl) })
    (AccountsNext 0 _ _ _ _ one_asked one_asked one_asked (done_step 2 (two_rows r q) 1 0 q)
    (record { table = refl; others = λ n. inr refl; adds = record { account = refl; queue = refl } })
    (AccountsDone _ one_asked)))))

pub work_run : (r q : Row) → AccountsRun (1 ∷ []) (asked_for r q) (taken_up r q) one_asked empty_queue
unfolding work
work_run r q =
    AccountsNext 1 _ _ _ _ one_asked empty_queue empty_queue (work r q) (record { table = refl; others = λ n. inr refl; adds = (refl, refl) })
    (AccountsDone _ empty_queue)
