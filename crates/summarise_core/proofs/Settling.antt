-- where a summarise comes by a step in its table
use Rattle.std.proofs.Common.{◌≡◌, ◌≢◌, inl, inr, ℕ, zero, suc, ◌+◌, ◌-◌, ◌*◌, ◌≤◌, ◌<◌, Option, None, Some, refl, sym, ap, subst, ◌∙◌, arith}
use Rattle.std.proofs.lemmas.Bool.{cases_eq}
use Rattle.coverage.specs.Statements.{Empty, NotBuilding, Phase}
use Rattle.coverage.specs.Machines.{ShownTable, Unseen, table_state, task_turned}
use Rattle.coverage.specs.Table.{Considers, Job, Maintains, Restarts, Resting, Task, TableState, WholeRanges, pick}
use Rattle.coverage.specs.TableSteps.{GivesLock, GoesOn, HasRange, IsLastIndex, NextIndex, Onward, RangesDone, SameRows, Settles, Stays, TaskTurns, ToRange}
use Rattle.summarise_core.specs.declared.wish.Wish.{Wish}
use Rattle.summarise_core.specs.declared.wish.Wish.TheVariants as wishes
use Rattle.summarise_core.specs.Summarises.{GoesOver}
use Rattle.summarise_core.specs.SummariseTable.{behind_last, held_behind, job_of, lock_turned}

pub pick_same : (i : ℕ) → {A : Type 0} → (a b : A) → pick i i a b ≡ a
pick_same zero a b = refl
pick_same (suc i) a b = pick_same i a b

pub pick_other : (i j : ℕ) → {A : Type 0} → (a b : A) → i ≢ j → pick i j a b ≡ b
pick_other zero zero a b apart = absurd (apart refl)
pick_other zero (suc j) a b apart = refl
pick_other (suc i) zero a b apart = refl
pick_other (suc i) (suc j) a b apart = pick_other i j a b (λ e. apart (ap suc e))

-- the ranges that it goes over are those of its job
pub has_range : (w : TableState) (wish : Wish) (in_range extent at range : ℕ) → (w.index at).pages_per_range ≡ in_range → GoesOver wish in_range extent range → HasRange w (job_of wish in_range extent) at range
has_range w wishes.New in_range extent at range each goes = subst (λ (n : ℕ). range * n < extent) (sym each) goes
has_range w (wishes.Block block) in_range extent at range each goes = (
  goes.0,
  subst (λ (n : ℕ). n * (w.index at).pages_per_range < extent) goes.0 (subst (λ (n : ℕ). range * n < extent) (sym each) goes.1),
)
has_range w wishes.Complete in_range extent at range each goes = subst (λ (n : ℕ). (range + 1) * n ≤ extent) (sym each) goes

pub lacks_range : (w : TableState) (wish : Wish) (in_range extent at range : ℕ) → (w.index at).pages_per_range ≡ in_range → (GoesOver wish in_range extent range → ⊥) → HasRange w (job_of wish in_range extent) at range → ⊥
lacks_range w wishes.New in_range extent at range each lacks has = lacks (subst (λ (n : ℕ). range * n < extent) each has)
lacks_range w (wishes.Block block) in_range extent at range each lacks has =
    lacks (has.0, subst (λ (n : ℕ). range * n < extent) each (subst (λ (n : ℕ). n * (w.index at).pages_per_range < extent) (sym has.0) has.1))
lacks_range w wishes.Complete in_range extent at range each lacks has = lacks (subst (λ (n : ℕ). (range + 1) * n ≤ extent) each has)

module _ (s : ℕ) (shown : ShownTable) (u : Unseen) (held : Option ℕ) where
  abbrev at_task : Task → TableState
  at_task task = table_state shown (lock_turned held (task_turned s task u))

  turns_by : (old new : Task) (held_then : Option ℕ) → TaskTurns s (at_task old) (table_state shown (lock_turned held_then (task_turned s new u))) old new
  turns_by old new held_then = record {
    was = pick_same s old (u.task s);
    now = pick_same s new (u.task s);
    others = λ n. elim (cases_eq n s) [
      | inl is ↦ inl is
      | inr other ↦ inr (pick_other n s new (u.task n) other ∙ sym (pick_other n s old (u.task n) other))
    ];
  }

  same_rows : (old new : Task) (held_then : Option ℕ) → SameRows (at_task old) (table_state shown (lock_turned held_then (task_turned s new u)))
  same_rows old new held_then = record { layout = record { indexes = refl; rows_per_page = refl; heap_limit = refl }; blocks = refl; row = λ b k. refl; counts = λ t. refl }

  settles_by : (old new : Task) → Onward (at_task old) old new → Settles s (at_task old) (at_task new)
  settles_by old new onward = GoesOn old new onward (turns_by old new held)
      (record { rows = same_rows old new held; indexes = record { index = λ i. refl }; summarise_lock = refl })

  -- it stays at its range
  pub stays_there : (job : Job) (at range : ℕ) (phase : Phase) → Settles s (at_task (Maintains job at range phase)) (at_task (Maintains job at range phase))
  stays_there job at range phase = settles_by (Maintains job at range phase) (Maintains job at range phase) (Stays (Maintains job at range phase) tt)

  module _ (wish : Wish) (in_range extent at range : ℕ) (each : (shown.index at).pages_per_range ≡ in_range) where
    abbrev before : Task
    before = Considers (job_of wish in_range extent) at range

    -- it comes to the range
    pub comes_to_range : GoesOver wish in_range extent range → Settles s (at_task before) (at_task (Maintains (job_of wish in_range extent) at range (NotBuilding Empty)))
    comes_to_range goes = settles_by before (Maintains (job_of wish in_range extent) at range (NotBuilding Empty))
        (ToRange (job_of wish in_range extent) at range (has_range (at_task before) wish in_range extent at range each goes))

    -- no range is left: it replies, and gives the summarise lock
    replies : (GoesOver wish in_range extent range → ⊥) → IsLastIndex (at_task before) (job_of wish in_range extent) at → Settles s (at_task before) (table_state shown (lock_turned None (task_turned s Resting u)))
    replies lacks last = GivesLock before
        (RangesDone (job_of wish in_range extent) at range (lacks_range (at_task before) wish in_range extent at range each lacks) last)
        (turns_by before Resting None) refl (same_rows before Resting None) (record { index = λ i. refl })

-- behind the last range it replies, or, where it is a vacuum's, comes before the next index
pub comes_behind_last : (s : ℕ) (shown : ShownTable) (u : Unseen) (wish : Wish) (in_range extent at range left : ℕ) (each : (shown.index at).pages_per_range ≡ in_range) → at < shown.indexes → left ≡ shown.indexes - (at + 1)
    → (GoesOver wish in_range extent range → ⊥) → Settles s (at_task s shown u (Some s) (Considers (job_of wish in_range extent) at range)) (table_state shown (lock_turned (held_behind wish s left) (task_turned s (behind_last wish at left) u)))
comes_behind_last s shown u wishes.New in_range extent at range left each below is lacks = replies s shown u (Some s) wishes.New in_range extent at range each lacks tt
comes_behind_last s shown u (wishes.Block block) in_range extent at range left each below is lacks = replies s shown u (Some s) (wishes.Block block) in_range extent at range each lacks tt
comes_behind_last s shown u wishes.Complete in_range extent at range zero each below is lacks = replies s shown u (Some s) wishes.Complete in_range extent at range each lacks (omega (arith, below, is))
comes_behind_last s shown u wishes.Complete in_range extent at range (suc left) each below is lacks =
    settles_by s shown u (Some s) (Considers (WholeRanges extent) at range) (Restarts (suc at))
    (NextIndex extent at range (lacks_range (at_task s shown u (Some s) (Considers (WholeRanges extent) at range)) wishes.Complete in_range extent at range each lacks) (omega (arith, below, is)))
