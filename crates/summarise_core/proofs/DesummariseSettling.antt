-- where a desummarise comes by a step in its table
use Rattle.std.proofs.Common.{◌≡◌, ◌≢◌, inl, inr, ℕ, zero, suc, Option, None, refl, sym, ap, ◌∙◌, arith}
use Rattle.std.proofs.lemmas.Bool.{cases_eq}
use Rattle.coverage.specs.Statements.{Empty, NotBuilding, Phase}
use Rattle.coverage.specs.Machines.{ShownTable, Unseen, table_state, task_turned}
use Rattle.coverage.specs.Table.{Considers, Desummarising, Maintains, Resting, Task, TableState, pick}
use Rattle.coverage.specs.TableSteps.{GivesLock, GoesOn, Onward, RangesDone, SameRows, Settles, Stays, TaskTurns, ToRange}
use Rattle.summarise_core.specs.DesummariseTable.{lock_turned}

pub pick_same : (i : ℕ) → {A : Type 0} → (a b : A) → pick i i a b ≡ a
pick_same zero a b = refl
pick_same (suc i) a b = pick_same i a b

pub pick_other : (i j : ℕ) → {A : Type 0} → (a b : A) → i ≢ j → pick i j a b ≡ b
pick_other zero zero a b apart = absurd (apart refl)
pick_other zero (suc j) a b apart = refl
pick_other (suc i) zero a b apart = refl
pick_other (suc i) (suc j) a b apart = pick_other i j a b (λ e. apart (ap suc e))

module _ (s : ℕ) (shown : ShownTable) (u : Unseen) (held : Option ℕ) where
  abbrev at_task : Task → TableState
  at_task task = table_state shown (lock_turned held (task_turned s task u))

  turns_by : (old new : Task) (held_then : Option ℕ) → TaskTurns s (at_task old) (table_state shown (lock_turned held_then (task_turned s new u))) old new
  turns_by old new held_then = record {
    was = pick_same s old (u.task s);
    now = pick_same s new (u.task s);
    others = λ n. elim (cases_eq n s) [
      | inl is ↦ inl is
      | inr other ↦ inr (pick_other n s new (u.task n) other ∙ sym (pick_other n s old (u.task n) other))
    ];
  }

  same_rows : (old new : Task) (held_then : Option ℕ) → SameRows (at_task old) (table_state shown (lock_turned held_then (task_turned s new u)))
  same_rows old new held_then = record { layout = record { indexes = refl; rows_per_page = refl; heap_limit = refl }; blocks = refl; row = λ b k. refl; counts = λ t. refl }

  settles_by : (old new : Task) → Onward (at_task old) old new → Settles s (at_task old) (at_task new)
  settles_by old new onward = GoesOn old new onward (turns_by old new held)
      (record { rows = same_rows old new held; indexes = record { index = λ i. refl }; summarise_lock = refl })

  module _ (at range : ℕ) where
    -- it stays at its range
    pub stays_there : (phase : Phase) → Settles s (at_task (Maintains (Desummarising range) at range phase)) (at_task (Maintains (Desummarising range) at range phase))
    stays_there phase = settles_by (Maintains (Desummarising range) at range phase) (Maintains (Desummarising range) at range phase) (Stays (Maintains (Desummarising range) at range phase) tt)

    -- it comes to the range
    pub comes_to_range : Settles s (at_task (Considers (Desummarising range) at range)) (at_task (Maintains (Desummarising range) at range (NotBuilding Empty)))
    comes_to_range = settles_by (Considers (Desummarising range) at range) (Maintains (Desummarising range) at range (NotBuilding Empty)) (ToRange (Desummarising range) at range refl)

    -- no range is left: it replies, and gives the summarise lock
    pub replies : Settles s (at_task (Considers (Desummarising range) at (suc range))) (table_state shown (lock_turned None (task_turned s Resting u)))
    replies = GivesLock (Considers (Desummarising range) at (suc range))
        (RangesDone (Desummarising range) at (suc range) (λ (is : suc range ≡ range). omega (arith, is)) tt)
        (turns_by (Considers (Desummarising range) at (suc range)) Resting None) refl (same_rows (Considers (Desummarising range) at (suc range)) Resting None) (record { index = λ i. refl })
