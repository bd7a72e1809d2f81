-- A machine's step in one index is a step of the table, and what it may rest on there.
use Rattle.std.proofs.Common.{◌≡◌, ◌⊎◌, inl, inr, ⊎_elim, ℕ, ◌<◌, Bool, ◌∙◌, ap, subst}
use Rattle.std.specs.Prelude.{refl}
use Rattle.block_model.specs.declared.row.Row.{Row}
use Rattle.block_model.specs.declared.place.Spot.{Spot}
use Rattle.coverage.specs.Statements.{OnIndex, Phase, Statement, Inserting, Maintaining, Holding}
use Rattle.coverage.specs.Knowing.{Knows}
use Rattle.coverage.specs.PageOrder.{KnowsPages}
use Rattle.coverage.specs.Table.{Index, Job, Task, Inserts, Maintains, TableState, inserting_of, seen_by, index_view_at}
use Rattle.coverage.specs.TableSteps.{TaskTurns, StepsIn, InsertGoes, MaintainGoes, GoesOn, Stays}
use Rattle.coverage.specs.TableCovered.{IsTableKept}
use Rattle.coverage.specs.Machines.{ShownIndex, ShownTable, Unseen, table_state, task_turned, MachineSteps, ChangesIndex, InsertStepsIn, MaintainStepsIn}
use Rattle.coverage.proofs.Views.{pick_same, pick_there, on_index_here}

abbrev unnamed_as : Unseen → (ℕ → Spot → Bool) → Unseen
unnamed_as u unnamed = record u { unnamed = unnamed }

abbrev index_with : ShownIndex → (Spot → Bool) → Index
index_with x unnamed = record {
  contents = x.contents;
  pages_per_range = x.pages_per_range;
  autosummarize = x.autosummarize;
  entry = x.entry;
  tuple = x.tuple;
  pages = x.pages;
  lock = x.lock;
  unnamed = unnamed;
}

module _ (s at : ℕ) (old new : ShownTable) (changes : ChangesIndex at old new) (u : Unseen) (unnamed : ℕ → Spot → Bool)
    (apart : (i : ℕ) → (i ≡ at) ⊎ (unnamed i ≡ u.unnamed i)) (before after : Task) where
  abbrev later : TableState
  later = table_state new (task_turned s after (unnamed_as u unnamed))

  turns : u.task s ≡ before → TaskTurns s (table_state old u) later before after
  turns is = record { was = is; now = pick_same s after (u.task s); others = λ n. pick_there n s after (u.task n) }

  stays : TaskTurns s later later after after
  stays = record { was = pick_same s after (u.task s); now = pick_same s after (u.task s); others = λ n. inr refl }

  stepped : StepsIn at (table_state old u) later
  stepped = record {
    below = changes.below;
    rows = record {
      layout = record { indexes = changes.indexes; rows_per_page = changes.rows_per_page; heap_limit = changes.heap_limit };
      blocks = changes.blocks;
      row = changes.row;
      counts = λ t. refl;
    };
    others = λ i. ⊎_elim
        (λ (is : i ≡ at). inl is)
        (λ (same : new.index i ≡ old.index i). elim (apart i) [ inl is ↦ inl is | inr same' ↦ inr (λ j. index_with (same j) (same' j)) ])
        (changes.others i);
    autosummarize = changes.autosummarize;
  }

pub insert_steps_in : (s b k : ℕ) (r : Row) (at : ℕ) (old new : ShownTable) (before after : OnIndex) → ChangesIndex at old new
    → InsertStepsIn s b k r at old new before after → MachineSteps s old new (Inserts b k r at before) (Inserts b k r at after)
insert_steps_in s b k r at old new before after changes step u is kept =
    let d = Inserts b k r at before in
    let e = Inserts b k r at after in (
      u.unnamed,
      (λ i x was. was),
      record {
        between = table_state new (task_turned s e u);
        does = InsertGoes b k r at before after (turns s at old new changes u u.unnamed (λ i. inr refl) d e is)
            (stepped s at old new changes u u.unnamed (λ i. inr refl) d e) (step u is kept);
        settles = GoesOn e e (Stays e tt) (stays s at old new changes u u.unnamed (λ i. inr refl) d e)
            (record {
              rows = record {
                layout = record { indexes = refl; rows_per_page = refl; heap_limit = refl };
                blocks = refl;
                row = λ c j. refl;
                counts = λ t. refl;
              };
              indexes = record { index = λ i. refl };
              summarise_lock = refl;
            });
      },
    )

pub maintain_steps_in : (s : ℕ) (job : Job) (at range : ℕ) (old new : ShownTable) (before after : Phase) → ChangesIndex at old new
    → MaintainStepsIn s job at range old new before after → MachineSteps s old new (Maintains job at range before) (Maintains job at range after)
maintain_steps_in s job at range old new before after changes step u is kept =
    let d = Maintains job at range before in
    let e = Maintains job at range after in
    let did = step u is kept in (
      did.0,
      did.1,
      record {
        between = table_state new (task_turned s e (unnamed_as u did.0));
        does = MaintainGoes job at range before after (turns s at old new changes u did.0 did.2 d e is) (stepped s at old new changes u did.0 did.2 d e) did.3;
        settles = GoesOn e e (Stays e tt) (stays s at old new changes u did.0 did.2 d e)
            (record {
              rows = record {
                layout = record { indexes = refl; rows_per_page = refl; heap_limit = refl };
                blocks = refl;
                row = λ c j. refl;
                counts = λ t. refl;
              };
              indexes = record { index = λ i. refl };
              summarise_lock = refl;
            });
      },
    )

-- what a machine may rest on in its index
known_in : (s at : ℕ) (w : TableState) (task : Task) (d : Statement) → IsTableKept w → at < w.indexes → w.task s ≡ task → seen_by at task ≡ d
    → Knows (index_view_at at w) s d × KnowsPages (index_view_at at w) s d
known_in s at w task d kept below is sees =
    let view : seen_by at (w.task s) ≡ d = ap (seen_by at) is ∙ sees in
    let index = kept.indexes at below in
    (subst (Knows (index_view_at at w) s) view (index.knows s), subst (KnowsPages (index_view_at at w) s) view (index.knows_pages s))

pub insert_knows : (s b k : ℕ) (r : Row) (at : ℕ) (w : TableState) (on_index : OnIndex) → IsTableKept w → at < w.indexes → w.task s ≡ Inserts b k r at on_index
    → Knows (index_view_at at w) s (Inserting b k r on_index) × KnowsPages (index_view_at at w) s (Inserting b k r on_index)
insert_knows s b k r at w on_index kept below is =
    known_in s at w (Inserts b k r at on_index) (Inserting b k r on_index) kept below is (ap (inserting_of b k r) (on_index_here at on_index))

pub maintain_knows : (s : ℕ) (job : Job) (at range : ℕ) (w : TableState) (phase : Phase) → IsTableKept w → at < w.indexes
    → w.task s ≡ Maintains job at range phase → Knows (index_view_at at w) s (Maintaining range phase) × KnowsPages (index_view_at at w) s (Maintaining range phase)
maintain_knows s job at range w phase kept below is =
    known_in s at w (Maintains job at range phase) (Maintaining range phase) kept below is (pick_same at (Maintaining range phase) Holding)
