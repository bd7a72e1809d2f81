-- the table of a scan, index by index
use Rattle.std.proofs.Common.{◌≡◌, ◌⊎◌, inl, inr, ℕ, List, length, Option, Some, refl, sym, ap, subst}
use Rattle.std.specs.Prelude.{slice_get}
use Rattle.std.proofs.lemmas.Bool.{cases_eq}
use Rattle.store_layout.specs.DiskLayout.{DiskLayout}
use Rattle.page_layout.specs.PageContents.{Slot}
use Rattle.page_map.specs.PageMap.{PageMap}
use Rattle.page_locks.specs.LockHolders.{LockState}
use Rattle.coverage.specs.IndexView.{IndexView}
use Rattle.coverage.specs.Statements.{building_of, loose_of}
use Rattle.coverage.specs.Machines.{ShownTable, Unseen, table_state, task_turned}
use Rattle.coverage.specs.Table.{Task, TableState, index_view_at, pick, seen_by}
use Rattle.coverage.specs.TableSteps.{OnlyTurns, TaskTurns}
use Rattle.coverage.proofs.Views.{pick_other, pick_same}
use Rattle.index_contents.specs.IndexContents.{contents}
use Rattle.index_steps.specs.IndexTuples.{index_at, shape_of}
use Rattle.index_steps.specs.ShownIndex.{Shows, lock_in}
use Rattle.index_steps.specs.ShownTable.{indexes_of, shown_at}
use Rattle.index_steps.specs.ShownRows.{rows_in, shown_by}

module _ (layout : DiskLayout) (pages : PageMap) (locks : LockState) (table : ℕ) (blocks : List (List Slot)) (u : Unseen) where
  abbrev pub shown : ShownTable
  shown = shown_by layout pages locks table blocks

  abbrev pub state : TableState
  state = table_state shown u

  abbrev view_of : ℕ → Option ℕ → IndexView
  view_of at o = record {
    contents = (shown_at layout pages locks o).contents;
    pages_per_range = (shown_at layout pages locks o).pages_per_range;
    blocks = length blocks;
    row = rows_in table blocks;
    entry = (shown_at layout pages locks o).entry;
    tuple = (shown_at layout pages locks o).tuple;
    pages = (shown_at layout pages locks o).pages;
    lock = (shown_at layout pages locks o).lock;
    summarise_lock = u.summarise_lock;
    building = λ m. building_of (seen_by at (u.task m));
    loose = λ m. loose_of (seen_by at (u.task m));
    unnamed = u.unnamed at;
  }

  -- an index of the table is seen as its pages show it
  pub shows_here : (at n : ℕ) → slice_get (indexes_of layout table) at ≡ Some n → Shows (shape_of layout n) (contents layout pages n) (lock_in layout locks n) (index_view_at at state)
  shows_here at n there = subst (λ (o : Option ℕ). Shows (shape_of layout n) (contents layout pages n) (lock_in layout locks n) (view_of at o)) (sym there)
      (record { contents = refl; entry = λ range. refl; tuple = λ x. refl; pages = refl; lock = λ page. refl })

  pub pages_here : (at n : ℕ) → slice_get (indexes_of layout table) at ≡ Some n → (state.index at).pages_per_range ≡ (index_at layout n).pages_per_range
  pages_here at n there = ap (λ (o : Option ℕ). (shown_at layout pages locks o).pages_per_range) there

  -- only what the session is at turns
  pub only_turns : (s : ℕ) (task : Task) → OnlyTurns state (table_state shown (task_turned s task u))
  only_turns s task = record {
    rows = record { layout = record { indexes = refl; rows_per_page = refl; heap_limit = refl }; blocks = refl; row = λ b k. refl; counts = λ t. refl };
    indexes = record { index = λ i. refl };
    summarise_lock = refl;
  }

  pub turns : (s : ℕ) (old new : Task) → u.task s ≡ old → TaskTurns s state (table_state shown (task_turned s new u)) old new
  turns s old new is = record { was = is; now = pick_same s new (u.task s); others = λ n. other n }
    where
      other : (n : ℕ) → (n ≡ s) ⊎ (pick n s new (u.task n) ≡ u.task n)
      other n = elim (cases_eq n s) [ inl same ↦ inl same | inr apart ↦ inr (pick_other n s new (u.task n) apart) ]
