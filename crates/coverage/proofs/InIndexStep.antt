-- A step in one index, as a step of the table that the statement's session makes.
use Rattle.std.proofs.Common.{◌≡◌, ◌⊎◌, inl, inr, ⊎_elim, ℕ, ◌≤◌, ◌<◌, Option, sym, ◌∙◌, ap, subst, suc}
use Rattle.std.specs.Prelude.{refl}
use Rattle.std.proofs.Math.Nat.{le_antisymm}
use Rattle.block_model.specs.declared.row.Row.{Row}
use Rattle.block_model.specs.declared.place.Spot.{Spot}
use Rattle.coverage.specs.IndexView.{Building, IndexView}
use Rattle.coverage.specs.Statements.{OnIndex, Empty, Phase, Statement, Idle, Inserting, Maintaining, Holding, building_of, loose_of}
use Rattle.coverage.specs.Steps.{InsertStep, InsertOnIndex, InsertCopies, InsertSet, SummariseStep, IsFinal, GrowMap, SwapFinal, DropOld, DesummariseStep}
use Rattle.coverage.specs.Steps.{ClearNone, DropCleared}
use Rattle.coverage.specs.Points.{insert_point}
use Rattle.coverage.proofs.Numbers.{lt_or_ge}
use Rattle.coverage.specs.Table.{Index, Job, EachRange, OneRange, WholeRanges, Desummarising, Task, Resting, Reaches, Asks, Inserts, Considers, Maintains}
use Rattle.coverage.specs.Table.{Restarts, TableState, pick, seen_by, index_view_at}
use Rattle.coverage.specs.TableSteps.{TaskTurns, StepsIn, JobStep, InsertGoes, InsertCompletes, MaintainGoes, MaintainCompletes, Onward, Stays, ToAsk, ToIndex}
use Rattle.coverage.specs.TableSteps.{Inserted, ToRange, NextIndex, IsMaintained, RangesDone}
use Rattle.coverage.specs.TablePoints.{job_point, IsTableStuck}
use Rattle.coverage.proofs.Views.{pick_same, pick_there}
use Rattle.coverage.proofs.VacuumGoesOn.{no_onward, no_end}
use Rattle.coverage.proofs.OnThisView.{insert_on, summarise_on, desummarise_on}

-- the table after such a step: one index of it is another, and the session's statement has turned
module _ (w : TableState) (s at : ℕ) (x : Index) (new : Task) where
  abbrev in_index : TableState
  in_index = record w { task = λ n. pick n s new (w.task n); index = λ i. pick i at x (w.index i) }

  abbrev view_of : Index → IndexView
  view_of y = record {
    contents = y.contents;
    pages_per_range = y.pages_per_range;
    blocks = w.blocks;
    row = w.row;
    entry = y.entry;
    tuple = y.tuple;
    pages = y.pages;
    lock = y.lock;
    summarise_lock = w.summarise_lock;
    building = λ n. building_of (seen_by at (pick n s new (w.task n)));
    loose = λ n. loose_of (seen_by at (pick n s new (w.task n)));
    unnamed = y.unnamed;
  }

  here : pick at at x (w.index at) ≡ x
  here = pick_same at x (w.index at)

  now : in_index.task s ≡ new
  now = pick_same s new (w.task s)

  turns_in : (old : Task) → w.task s ≡ old → TaskTurns s w in_index old new
  turns_in old was = record { was = was; now = pick_same s new (w.task s); others = λ n. pick_there n s new (w.task n) }

  steps_in : at < w.indexes → x.autosummarize ≡ (w.index at).autosummarize → StepsIn at w in_index
  steps_in below same = record {
    below = below;
    rows = record {
      layout = record { indexes = refl; rows_per_page = refl; heap_limit = refl };
      blocks = refl;
      row = λ b k. refl;
      counts = λ t. refl;
    };
    others = λ i. pick_there i at x (w.index i);
    autosummarize = ap (λ (y : Index). y.autosummarize) here ∙ same;
  }

-- an index with what a view of it shows
abbrev showing : Index → IndexView → Index
showing x v = record x { entry = v.entry; tuple = v.tuple; pages = v.pages; lock = v.lock; unnamed = v.unnamed }

-- an insert before an index, or behind the last one, goes on
reaches_on : (u : TableState) (b k : ℕ) (r : Row) (at : ℕ) → at ≤ u.indexes → ((new : Task) → Onward u (Reaches b k r at) new → ⊥) → ⊥
reaches_on u b k r at le none = ⊎_elim
    (λ (inside : at < u.indexes).
    none (Inserts b k r at Empty) (ToIndex b k r at inside (λ asks. none (Asks b k r at) (ToAsk b k r at inside asks))))
    (λ (all : u.indexes ≤ at). none Resting (Inserted b k r at (le_antisymm le all)))
    (lt_or_ge at u.indexes)

-- maintenance before a range of an index goes on, or is done
considers_on : (u : TableState) (job : Job) (at range : ℕ) → at < u.indexes → ((new : Task) → Onward u (Considers job at range) new → ⊥)
    → (IsMaintained u (Considers job at range) → ⊥) → ⊥
considers_on u (EachRange extent) at range below none no_last =
    no_last (RangesDone (EachRange extent) at range (λ has. none _ (ToRange (EachRange extent) at range has)) tt)
considers_on u (OneRange extent only) at range below none no_last =
    no_last (RangesDone (OneRange extent only) at range (λ has. none _ (ToRange (OneRange extent only) at range has)) tt)
considers_on u (Desummarising only) at range below none no_last =
    no_last (RangesDone (Desummarising only) at range (λ has. none _ (ToRange (Desummarising only) at range has)) tt)
considers_on u (WholeRanges extent) at range below none no_last = ⊎_elim
    (λ (more : suc at < u.indexes). none (Restarts (suc at)) (NextIndex extent at range (λ has. none _ (ToRange (WholeRanges extent) at range has)) more))
    (λ (last : u.indexes ≤ suc at).
    no_last (RangesDone (WholeRanges extent) at range (λ has. none _ (ToRange (WholeRanges extent) at range has))
    (le_antisymm below last)))
    (lt_or_ge (suc at) u.indexes)

-- what the step of an insert, or of a maintenance statement, leads to in the index
insert_leads : (s b k : ℕ) (r : Row) (w v : IndexView) (g : OnIndex) (e : Statement) → InsertStep s b k r w v g e
    → (e ≡ Idle) ⊎ ((h : OnIndex) × (e ≡ Inserting b k r h))
insert_leads s b k r w v _ _ (InsertOnIndex old new step) = inr (new, refl)
insert_leads s b k r w v _ _ (InsertCopies x old new stands added changes reads) = inr (_, refl)
insert_leads s b k r w v _ _ (InsertSet x y old new sets same) = inr (_, refl)
insert_leads s b k r w v _ _ _ = inl refl

abbrev LeadsTo : ℕ → Statement → Type 0
LeadsTo range e = (e ≡ Holding) ⊎ ((h : Phase) × (e ≡ Maintaining range h))

summarise_leads : (s range : ℕ) (w v : IndexView) (g : Phase) (e : Statement) → SummariseStep s range w v g e → LeadsTo range e
summarise_leads s range w v _ _ (IsFinal x t stands final reads) = inl refl
summarise_leads s range w v _ _ (GrowMap old new step) = inr (new, refl)
summarise_leads s range w v _ _ (SwapFinal p x old new verdict swap) = inl refl
summarise_leads s range w v _ _ (DropOld x drops) = inl refl
summarise_leads s range w v _ _ _ = inr (_, refl)

desummarise_leads : (s range : ℕ) (w v : IndexView) (g : Phase) (e : Statement) → DesummariseStep s range w v g e → LeadsTo range e
desummarise_leads s range w v _ _ (ClearNone none reads) = inl refl
desummarise_leads s range w v _ _ (DropCleared x drops) = inl refl
desummarise_leads s range w v _ _ _ = inr (_, refl)

job_leads : (job : Job) (s range : ℕ) (w v : IndexView) (g : Phase) (e : Statement) → JobStep job s range w v g e → LeadsTo range e
job_leads (Desummarising only) s range w v g e step = desummarise_leads s range w v g e step
job_leads _ s range w v g e step = summarise_leads s range w v g e step

module _ (w : TableState) (s : ℕ) (stuck : IsTableStuck w s) (at : ℕ) (below : at < w.indexes) where
  abbrev view : IndexView
  view = index_view_at at w

  -- an insert that has a step in its index has one of the table
  module _ (b k : ℕ) (r : Row) (g : OnIndex) (was : w.task s ≡ Inserts b k r at g) where
    insert_completes : (x : Index) → x.autosummarize ≡ (w.index at).autosummarize
        → InsertStep s b k r view (index_view_at at (in_index w s at x (Reaches b k r (suc at)))) g Idle → ⊥
    insert_completes x same step =
        reaches_on (in_index w s at x (Reaches b k r (suc at))) b k r (suc at) below
        (no_onward w s stuck (in_index w s at x (Reaches b k r (suc at))) (Reaches b k r (suc at)) (now w s at x (Reaches b k r (suc at)))
        (InsertCompletes b k r at g (turns_in w s at x (Reaches b k r (suc at)) (Inserts b k r at g) was)
        (steps_in w s at x (Reaches b k r (suc at)) below same) step)
        (insert_point step) refl)

    insert_goes : (x : Index) → x.autosummarize ≡ (w.index at).autosummarize → (h : OnIndex)
        → InsertStep s b k r view (index_view_at at (in_index w s at x (Inserts b k r at h))) g (Inserting b k r h) → ⊥
    insert_goes x same h step =
        no_onward w s stuck (in_index w s at x (Inserts b k r at h)) (Inserts b k r at h) (now w s at x (Inserts b k r at h))
        (InsertGoes b k r at g h (turns_in w s at x (Inserts b k r at h) (Inserts b k r at g) was)
        (steps_in w s at x (Inserts b k r at h) below same) step)
        (insert_point step) refl (Inserts b k r at h) (Stays (Inserts b k r at h) tt)

    pub insert_no_step : (e : Statement) (v : IndexView) → InsertStep s b k r view v g e → ⊥
    insert_no_step e v step = ⊎_elim
        (λ (idle : e ≡ Idle).
        let x = showing (w.index at) v in
        let new = Reaches b k r (suc at) in
        insert_completes x refl
        (subst (λ (y : Index). InsertStep s b k r view (view_of w s at x new y) g Idle) (sym (here w s at x new))
        (insert_on s view v (λ n. building_of (seen_by at (pick n s new (w.task n)))) (λ n. loose_of (seen_by at (pick n s new (w.task n))))
        b k r g Idle (subst (InsertStep s b k r view v g) idle step))))
        (λ (going : (h : OnIndex) × (e ≡ Inserting b k r h)).
        let x = showing (w.index at) v in
        let new = Inserts b k r at going.0 in
        insert_goes x refl going.0
        (subst (λ (y : Index). InsertStep s b k r view (view_of w s at x new y) g (Inserting b k r going.0)) (sym (here w s at x new))
        (insert_on s view v (λ n. building_of (seen_by at (pick n s new (w.task n)))) (λ n. loose_of (seen_by at (pick n s new (w.task n))))
        b k r g (Inserting b k r going.0) (subst (InsertStep s b k r view v g) going.1 step))))
        (insert_leads s b k r view v g e step)

  -- so has a maintenance statement at a range
  module _ (job : Job) (range : ℕ) (g : Phase) (was : w.task s ≡ Maintains job at range g) where
    maintain_completes : (x : Index) → x.autosummarize ≡ (w.index at).autosummarize
        → JobStep job s range view (index_view_at at (in_index w s at x (Considers job at (suc range)))) g Holding → ⊥
    maintain_completes x same step =
        let new = Considers job at (suc range) in
        let u = in_index w s at x new in
        let does = MaintainCompletes job at range g (turns_in w s at x new (Maintains job at range g) was) (steps_in w s at x new below same) step in
        let p = job_point job s range view (index_view_at at u) g Holding step in
        considers_on u job at (suc range) below (no_onward w s stuck u new (now w s at x new) does p refl)
        (no_end w s stuck u new (now w s at x new) does p refl)

    maintain_goes : (x : Index) → x.autosummarize ≡ (w.index at).autosummarize → (h : Phase)
        → JobStep job s range view (index_view_at at (in_index w s at x (Maintains job at range h))) g (Maintaining range h) → ⊥
    maintain_goes x same h step =
        let new = Maintains job at range h in
        let u = in_index w s at x new in
        no_onward w s stuck u new (now w s at x new)
        (MaintainGoes job at range g h (turns_in w s at x new (Maintains job at range g) was) (steps_in w s at x new below same) step)
        (job_point job s range view (index_view_at at u) g (Maintaining range h) step) refl new (Stays new tt)

    job_on : (j : Job) (v : IndexView) (building : ℕ → Option Building) (loose : ℕ → Option Spot) (e : Statement) → JobStep j s range view v g e
        → JobStep j s range view (record view {
          entry = v.entry;
          tuple = v.tuple;
          pages = v.pages;
          lock = v.lock;
          unnamed = v.unnamed;
          building = building;
          loose = loose;
        }) g e
    job_on (Desummarising only) v building loose e step = desummarise_on s view v building loose range g e step
    job_on _ v building loose e step = summarise_on s view v building loose range g e step

    pub maintain_no_step : (e : Statement) (v : IndexView) → JobStep job s range view v g e → ⊥
    maintain_no_step e v step = ⊎_elim
        (λ (done : e ≡ Holding).
        let x = showing (w.index at) v in
        let new = Considers job at (suc range) in
        maintain_completes x refl
        (subst (λ (y : Index). JobStep job s range view (view_of w s at x new y) g Holding) (sym (here w s at x new))
        (job_on job v (λ n. building_of (seen_by at (pick n s new (w.task n)))) (λ n. loose_of (seen_by at (pick n s new (w.task n)))) Holding
        (subst (JobStep job s range view v g) done step))))
        (λ (going : (h : Phase) × (e ≡ Maintaining range h)).
        let x = showing (w.index at) v in
        let new = Maintains job at range going.0 in
        maintain_goes x refl going.0
        (subst (λ (y : Index). JobStep job s range view (view_of w s at x new y) g (Maintaining range going.0)) (sym (here w s at x new))
        (job_on job v (λ n. building_of (seen_by at (pick n s new (w.task n)))) (λ n. loose_of (seen_by at (pick n s new (w.task n))))
        (Maintaining range going.0) (subst (JobStep job s range view v g) going.1 step))))
        (job_leads job s range view v g e step)
