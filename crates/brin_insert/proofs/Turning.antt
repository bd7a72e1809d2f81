-- where an insert comes by a step in its table
use Rattle.std.proofs.Common.{◌≡◌, ◌≢◌, inl, inr, ℕ, zero, suc, ◌*◌, ◌/◌, ◌<◌, refl, sym, ap, ◌∙◌}
use Rattle.std.specs.Prelude.{IsTrue}
use Rattle.std.proofs.lemmas.Bool.{cases_eq}
use Rattle.block_model.specs.declared.reply.Point.{Point}
use Rattle.block_model.specs.declared.row.Row.{Row}
use Rattle.coverage.specs.Statements.{OnIndex, Empty}
use Rattle.coverage.specs.Machines.{ShownIndex, ShownTable, Unseen, table_state, task_turned}
use Rattle.coverage.specs.Table.{Asks, Task, Resting, Reaches, Inserts, pick}
use Rattle.coverage.specs.TableCovered.{IsTableKept}
use Rattle.coverage.specs.TableSteps.{Onward, Stays, ToAsk, ToIndex, Inserted, Settles, GoesOn}
use Rattle.coverage.proofs.Views.{pick_other, pick_same}
use Rattle.brin_insert.specs.InsertAnswers.{AccountsCome, DoesWith, InsertGoesTo}

-- a row at block and slot asks in an index that is shown so
abbrev pub AsksShown : ShownIndex → (b k : ℕ) → Type 0
AsksShown i b k = IsTrue i.autosummarize × (k ≡ 0) × (b / i.pages_per_range * i.pages_per_range ≡ b) × (0 < b / i.pages_per_range)

-- the session's statement settles, with all else as it was
module _ (s : ℕ) (shown : ShownTable) (u : Unseen) where
  settles_by : (old new : Task) → Onward (table_state shown (task_turned s old u)) old new → Settles s (table_state shown (task_turned s old u)) (table_state shown (task_turned s new u))
  settles_by old new onward = GoesOn old new onward
      (record {
        was = pick_same s old (u.task s);
        now = pick_same s new (u.task s);
        others = λ n. elim (cases_eq n s) [
          | inl is ↦ inl is
          | inr other ↦ inr (pick_other n s new (u.task n) other ∙ sym (pick_other n s old (u.task n) other))
        ];
      })
      (record {
        rows = record { layout = record { indexes = refl; rows_per_page = refl; heap_limit = refl }; blocks = refl; row = λ b k. refl; counts = λ t. refl };
        indexes = record { index = λ i. refl };
        summarise_lock = refl;
      })

  module _ (b k : ℕ) (r : Row) (at : ℕ) where
    -- it stays in the index that it is at
    pub stays_in : (on : OnIndex) → Settles s (table_state shown (task_turned s (Inserts b k r at on) u)) (table_state shown (task_turned s (Inserts b k r at on) u))
    stays_in on = settles_by (Inserts b k r at on) (Inserts b k r at on) (Stays (Inserts b k r at on) tt)

    -- it comes to the next index, where it asks for a summary first, or for none
    pub comes_to_ask : at < shown.indexes → AsksShown (shown.index at) b k → Settles s (table_state shown (task_turned s (Reaches b k r at) u)) (table_state shown (task_turned s (Asks b k r at) u))
    comes_to_ask below asks = settles_by (Reaches b k r at) (Asks b k r at) (ToAsk b k r at below asks)

    pub comes_to_index : at < shown.indexes → (AsksShown (shown.index at) b k → ⊥) → Settles s (table_state shown (task_turned s (Reaches b k r at) u)) (table_state shown (task_turned s (Inserts b k r at Empty) u))
    comes_to_index below plain = settles_by (Reaches b k r at) (Inserts b k r at Empty) (ToIndex b k r at below plain)

    -- no index is left, and it replies
    pub is_complete : at ≡ shown.indexes → Settles s (table_state shown (task_turned s (Reaches b k r at) u)) (table_state shown (task_turned s Resting u))
    is_complete all = settles_by (Reaches b k r at) Resting (Inserted b k r at all)

-- what it does, and where it settles, is a step
pub goes_by : (s : ℕ) (old new : ShownTable) (before between after : Task) (point : Point)
    → ((u : Unseen) → u.task s ≡ before → IsTableKept (table_state old u) → DoesWith s (table_state old u) (table_state new (task_turned s between u)) point (AccountsCome s old before))
    → ((u : Unseen) → Settles s (table_state new (task_turned s between u)) (table_state new (task_turned s after u)))
    → InsertGoesTo s old new before after point
goes_by s old new before between after point does settles u at kept = (between, does u at kept, settles u)
