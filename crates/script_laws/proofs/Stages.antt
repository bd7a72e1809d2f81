-- A maintenance statement that is at a range of one index of its table, and its steps there.
use Rattle.std.proofs.Common.{◌≡◌, ℕ, suc, ◌<◌, Option, None, Some, refl, sym, ◌∙◌, ap, subst}
use Rattle.block_model.specs.declared.place.Spot.{Spot}
use Rattle.block_model.specs.declared.reply.Point.{Point}
use Rattle.block_model.specs.declared.reply.Point.TheVariants as points
use Rattle.coverage.specs.IndexPart.{IndexPart}
use Rattle.coverage.specs.IndexView.{Building, IndexView}
use Rattle.coverage.specs.Statements.{Empty, Phase, NotBuilding, Statement, Maintaining, Holding, building_of, loose_of}
use Rattle.coverage.specs.Accounts.{Accounts, AccountIs, Adds}
use Rattle.coverage.specs.InOneIndex.{index_with, with_index, JobMakes, with_ranges}
use Rattle.coverage.specs.Table.{Index, Job, Task, Resting, Considers, Maintains, TableState, pick, seen_by, index_view_at}
use Rattle.coverage.specs.TablePoints.{does_point}
use Rattle.coverage.specs.TableSteps.{TaskTurns, SameRows, HasRange, BeginsWith, TakesLock, Does, ToRange, IsLastIndex, RangesDone, GoesOn, GivesLock, Settles}
use Rattle.coverage.proofs.Views.{pick_same, pick_there}
use Rattle.coverage.proofs.OneIndexSteps.{stays_at, goes_on_maintain, completes_maintain}

-- a step of the session on the table under this point, with the task that its work leads to, and what it does to accounts that are so
pub record Moves (n : ℕ) (w v : TableState) (point : Point) (within : Task) (Allowed : Accounts → Accounts → Type 0) : Type 0 where
  pub between : TableState
  pub does : Does n w between
  pub point_is : does_point n w between does ≡ Some point
  pub within_is : between.task n ≡ within
  pub adds : (a b : Accounts) → Allowed a b → Adds n w between does a b
  pub settles : Settles n between v

-- so many ranges more are counted
abbrev pub Counting : ℕ → ℕ → Accounts → Accounts → Type 0
Counting n count a b = AccountIs n a b (with_ranges count (a.of n))

module _ (w0 : TableState) (n at : ℕ) where
  -- the table with these indexes, and at these tasks
  abbrev pub state : (ℕ → Index) → (ℕ → Task) → Option ℕ → TableState
  state index tasks lock = record w0 { index = index; task = tasks; summarise_lock = lock }

  -- how the index is seen
  abbrev pub shown : Index → (ℕ → Option Building) → (ℕ → Option Spot) → IndexView
  shown x building loose = record {
    contents = x.contents;
    pages_per_range = x.pages_per_range;
    blocks = w0.blocks;
    row = w0.row;
    entry = x.entry;
    tuple = x.tuple;
    pages = x.pages;
    lock = x.lock;
    summarise_lock = Some n;
    building = building;
    loose = loose;
    unnamed = x.unnamed;
  }

  -- the session has the summarise lock and is at this task, and the index is this one
  pub record Stage (x : Index) (task : Task) : Type 0 where
    pub index : ℕ → Index
    pub tasks : ℕ → Task
    pub index_is : index at ≡ x
    pub task_is : tasks n ≡ task

  abbrev pub state_of : {x : Index} {task : Task} → Stage x task → TableState
  state_of stage = state stage.index stage.tasks (Some n)

  abbrev pub Makes : Job → (range : ℕ) → Index → IndexPart → Phase → Statement → Point → (count : ℕ) → Type 0
  Makes job range x p old new point count =
      (building : ℕ → Option Building) (loose : ℕ → Option Spot) → JobMakes job n range (shown x building loose) p old new point count

  same_rows : (index : ℕ → Index) (tasks next : ℕ → Task) (lock other : Option ℕ) → SameRows (state index tasks lock) (state index next other)
  same_rows index tasks next lock other = record {
    layout = record { indexes = refl; rows_per_page = refl; heap_limit = refl };
    blocks = refl;
    row = λ b k. refl;
    counts = λ t. refl;
  }

  module _ (below : at < w0.indexes) where
    makes_here : (job : Job) (range : ℕ) (x : Index) (p : IndexPart) (old : Phase) (new : Statement) (point : Point) (count : ℕ) (task : Task) (stage : Stage x task)
        → Makes job range x p old new point count → JobMakes job n range (index_view_at at (state_of stage)) p old new point count
    makes_here job range x p old new point count task stage makes =
        subst (λ (y : Index). JobMakes job n range (shown y (λ s. building_of (seen_by at (stage.tasks s))) (λ s. loose_of (seen_by at (stage.tasks s)))) p old new point count)
        (sym stage.index_is) (makes (λ s. building_of (seen_by at (stage.tasks s))) (λ s. loose_of (seen_by at (stage.tasks s))))

    -- a step that stays at the range
    pub record Further (x : Index) (w : TableState) (task : Task) (point : Point) (Allowed : Accounts → Accounts → Type 0) : Type 0 where
      pub next : Stage x task
      pub moves : Moves n w (state_of next) point task Allowed

    pub further : (job : Job) (range : ℕ) (x : Index) (p : IndexPart) (old new : Phase) (point : Point) (count : ℕ) (stage : Stage x (Maintains job at range old))
        → Makes job range x p old (Maintaining range new) point count
        → Further (index_with p x) (state_of stage) (Maintains job at range new) point (Counting n count)
    further job range x p old new point count stage makes =
        let task = Maintains job at range new in
        let did = goes_on_maintain n job at range (state_of stage) p old new point count below stage.task_is
        (makes_here job range x p old (Maintaining range new) point count (Maintains job at range old) stage makes) in
        let here : pick n n task (stage.tasks n) ≡ task = pick_same n task (stage.tasks n) in
        record {
          next = record {
            index = λ i. pick i at (index_with p (stage.index at)) (stage.index i);
            tasks = λ m. pick m n task (stage.tasks m);
            index_is = pick_same at (index_with p (stage.index at)) (stage.index at) ∙ ap (index_with p) stage.index_is;
            task_is = here;
          };
          moves = record {
            between = with_index at p n task (state_of stage);
            does = did.does;
            point_is = did.point_is;
            within_is = here;
            adds = did.adds;
            settles = stays_at n (with_index at p n task (state_of stage)) task here tt;
          };
        }

    -- the last step at its last range
    pub record Last (w : TableState) (task : Task) (point : Point) (Allowed : Accounts → Accounts → Type 0) : Type 0 where
      pub after : TableState
      pub moves : Moves n w after point task Allowed
      pub rests : after.task n ≡ Resting

    pub finally : (job : Job) (range : ℕ) (x : Index) (p : IndexPart) (old : Phase) (point : Point) (count : ℕ) (stage : Stage x (Maintains job at range old))
        → Makes job range x p old Holding point count
        → ((w : TableState) → (w.index at).pages_per_range ≡ x.pages_per_range → HasRange w job at (suc range) → ⊥)
        → ((w : TableState) → w.indexes ≡ w0.indexes → IsLastIndex w job at)
        → Last (state_of stage) (Considers job at (suc range)) point (Counting n count)
    finally job range x p old point count stage makes no_range last =
        let task = Considers job at (suc range) in
        let did = completes_maintain n job at range (state_of stage) p old point count below stage.task_is
        (makes_here job range x p old Holding point count (Maintains job at range old) stage makes) in
        let here : pick n n task (stage.tasks n) ≡ task = pick_same n task (stage.tasks n) in
        let index = λ (i : ℕ). pick i at (index_with p (stage.index at)) (stage.index i) in
        let tasks = λ (m : ℕ). pick m n task (stage.tasks m) in
        let per : (index at).pages_per_range ≡ x.pages_per_range =
        ap (λ (y : Index). y.pages_per_range) (pick_same at (index_with p (stage.index at)) (stage.index at) ∙ ap (index_with p) stage.index_is) in
        record {
          after = state index (λ m. pick m n Resting (tasks m)) None;
          moves = record {
            between = with_index at p n task (state_of stage);
            does = did.does;
            point_is = did.point_is;
            within_is = here;
            adds = did.adds;
            settles = GivesLock task (RangesDone job at (suc range) (no_range (state index tasks (Some n)) per) (last (state index tasks (Some n)) refl))
                (record { was = here; now = pick_same n Resting (tasks n); others = λ m. pick_there m n Resting (tasks m) }) refl
                (same_rows index tasks (λ m. pick m n Resting (tasks m)) (Some n) None) (record { index = λ i. refl });
          };
          rests = pick_same n Resting (tasks n);
        }

    -- the step `right`, which takes the summarise lock
    pub first : (job : Job) (range : ℕ) (begins : BeginsWith w0 (Considers job at range)) (Allowed : Accounts → Accounts → Type 0) → w0.task n ≡ Resting → w0.summarise_lock ≡ None
        → ((v : TableState) (turns : TaskTurns n w0 v Resting (Considers job at range)) (held : v.summarise_lock ≡ Some n) (rows : SameRows w0 v) (indexes : (i : ℕ) → v.index i ≡ w0.index i)
        (free : w0.summarise_lock ≡ None) (a b : Accounts) → Allowed a b → Adds n w0 v (TakesLock (Considers job at range) begins turns free held rows (record { index = indexes })) a b)
        → ((w : TableState) → (w.index at).pages_per_range ≡ (w0.index at).pages_per_range → HasRange w job at range)
        → (next : Stage (w0.index at) (Maintains job at range (NotBuilding Empty))) × Moves n w0 (state_of next) points.Right (Considers job at range) Allowed
    first job range begins Allowed rests free adds has =
        let task = Considers job at range in
        let then = Maintains job at range (NotBuilding Empty) in
        let tasks = λ (m : ℕ). pick m n task (w0.task m) in
        let here : tasks n ≡ task = pick_same n task (w0.task n) in
        let turns : TaskTurns n w0 (state w0.index tasks (Some n)) Resting task = record { was = rests; now = here; others = λ m. pick_there m n task (w0.task m) } in (
          record { index = w0.index; tasks = λ m. pick m n then (tasks m); index_is = refl; task_is = pick_same n then (tasks n) },
          record {
            between = state w0.index tasks (Some n);
            does = TakesLock task begins turns free refl (same_rows w0.index w0.task tasks w0.summarise_lock (Some n)) (record { index = λ i. refl });
            point_is = refl;
            within_is = here;
            adds = adds (state w0.index tasks (Some n)) turns refl (same_rows w0.index w0.task tasks w0.summarise_lock (Some n)) (λ i. refl) free;
            settles = GoesOn task then (ToRange job at range (has (state w0.index tasks (Some n)) refl))
                (record { was = here; now = pick_same n then (tasks n); others = λ m. pick_there m n then (tasks m) })
                (record { rows = same_rows w0.index tasks (λ m. pick m n then (tasks m)) (Some n) (Some n); indexes = record { index = λ i. refl }; summarise_lock = refl });
          },
        )
