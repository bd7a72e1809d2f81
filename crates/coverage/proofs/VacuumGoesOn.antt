-- A vacuum has a step, or waits for an index page: the steps are there to be made.
use Rattle.std.proofs.Common.{◌≡◌, ◌≢◌, ◌⊎◌, inl, inr, ⊎_elim, ℕ, ◌+◌, ◌≤◌, ◌<◌, Option, Some, None, false, [], sym, ◌∙◌, ap, subst, arith, zero, suc, rules}
use Rattle.std.specs.Prelude.{refl}
use Rattle.std.proofs.lemmas.Option.{same_Some, none-some}
use Rattle.std.proofs.lemmas.Bool.{cases_eq, false≢true}
use Rattle.std.proofs.Math.Nat.{le_antisymm, lt-suc_self, not-suc-le-zero}
use Rattle.block_model.specs.declared.reply.Point.{Point}
use Rattle.block_model.specs.declared.reply.Point.TheVariants as points
use Rattle.block_model.specs.declared.place.Spot.{Spot}
use Rattle.coverage.specs.IndexView.{IndexTuple, IndexView}
use Rattle.coverage.specs.Changes.{IsFree}
use Rattle.coverage.specs.Statements.{building_of, loose_of}
use Rattle.coverage.specs.Steps.{IsUnnamed, SweepsTuples}
use Rattle.coverage.proofs.Numbers.{lt_or_ge, last_or_below}
use Rattle.coverage.proofs.StepsExist.{chosen, chosen_yes, chosen_no, place_is, locks_after, after_only, after_others, after_taken, free_none}
use Rattle.coverage.specs.Table.{Index, Task, Resting, Considers, Prunes, SweepsFrom, Sweeps, Restarts, WholeRanges, TableState, pick, seen_by, index_view_at}
use Rattle.coverage.specs.TableSteps.{TaskTurns, SameRows, OnlyTurns, first_block, Does, PrunesBlock, SweepsPage, RestartsIndex, HasTuples, IsFrom, Onward}
use Rattle.coverage.specs.TableSteps.{Stays, ToRange, NextIndex, Pruned, ToPage, Swept, IsMaintained, RangesDone, NothingToSweep, GoesOn, GivesLock}
use Rattle.coverage.specs.TablePoints.{does_point, IsTableStuck}
use Rattle.coverage.proofs.Views.{pick_same, pick_there}

-- the session's statement is at this task, and all else is as before
abbrev pub turned : TableState → ℕ → Task → TableState
turned w s task = record w { task = λ n. pick n s task (w.task n) }

module _ (w : TableState) (s : ℕ) where
  pub turns_here : (old new : Task) → w.task s ≡ old → TaskTurns s w (turned w s new) old new
  turns_here old new was = record { was = was; now = pick_same s new (w.task s); others = λ n. pick_there n s new (w.task n) }

  rows_here : (new : Task) → SameRows w (turned w s new)
  rows_here new = record {
    layout = record { indexes = refl; rows_per_page = refl; heap_limit = refl };
    blocks = refl;
    row = λ b k. refl;
    counts = λ t. refl;
  }

  pub only_here : (new : Task) → OnlyTurns w (turned w s new)
  only_here new = record { rows = rows_here new; indexes = record { index = λ i. refl }; summarise_lock = refl }

-- where a session has no step, what it could do leads nowhere
module _ (w : TableState) (s : ℕ) (stuck : IsTableStuck w s) (u : TableState) (task : Task) (is : u.task s ≡ task) (does : Does s w u)
    (p : Point) (point : does_point s w u does ≡ Some p) where
  pub no_onward : (new : Task) → Onward u task new → ⊥
  no_onward new onward =
      stuck (turned u s new) (record { between = u; does = does; settles = GoesOn task new onward (turns_here u s task new is) (only_here u s new) }) p point

  pub no_end : IsMaintained u task → ⊥
  no_end done =
      let turns = turns_here u s task Resting is in
      stuck (record (turned u s Resting) { summarise_lock = None }) (record {
        between = u;
        does = does;
        settles = GivesLock task done (record { was = turns.was; now = turns.now; others = turns.others }) refl
            (record {
              layout = record { indexes = refl; rows_per_page = refl; heap_limit = refl };
              blocks = refl;
              row = λ b k. refl;
              counts = λ t. refl;
            })
            (record { index = λ i. refl });
      }) p point

-- from each place of a sweep there is a next page, or none
module _ (u : TableState) (at from : ℕ) (stuck : (new : Task) → Onward u (SweepsFrom at from) new → ⊥) where
  abbrev NoneAt : ℕ → ℕ → Type 0
  NoneAt m p = HasTuples u m p → IsFrom at from m p → ⊥

  next_is : (m p : ℕ) → ((n q : ℕ) → n < m → NoneAt n q) → ((q : ℕ) → q < p → NoneAt m q) → NoneAt m p
  next_is m p lower earlier has after = stuck (Sweeps m p) (ToPage at from m p (record { has = has; after = after; first = first }))
    where
      first : (n q : ℕ) → HasTuples u n q → IsFrom at from n q → IsFrom m p n q
      first n q has' after' = ⊎_elim
          (λ (less : n < m). absurd (lower n q less has' after'))
          (λ (le : m ≤ n). ⊎_elim
          (λ (same : m ≡ n). ⊎_elim
          (λ (before : q < p).
          absurd (earlier q before (subst (λ j. HasTuples u j q) (sym same) has') (subst (λ j. IsFrom at from j q) (sym same) after')))
          (λ (more : p ≤ q). inr (same, more))
          (lt_or_ge q p))
          (λ (other : m ≢ n). inl (omega arith))
          (cases_eq m n))
          (lt_or_ge n m)

  pages_below : (m : ℕ) → ((n q : ℕ) → n < m → NoneAt n q) → (j p : ℕ) → p < j → NoneAt m p
  pages_below m lower zero p less = absurd (not-suc-le-zero less)
  pages_below m lower (suc j) p less = ⊎_elim
      (λ (is : p ≡ j). subst (NoneAt m) (sym is) (next_is m j lower (pages_below m lower j)))
      (λ (before : p < j). pages_below m lower j p before)
      (last_or_below p j less)

  indexes_below : (k m p : ℕ) → m < k → NoneAt m p
  indexes_below zero m p less = absurd (not-suc-le-zero less)
  indexes_below (suc k) m p less = ⊎_elim
      (λ (is : m ≡ k). subst (λ j. NoneAt j p) (sym is) (pages_below k (indexes_below k) (suc p) p (lt-suc_self p)))
      (λ (before : m < k). indexes_below k m p before)
      (last_or_below m k less)

  sweep_onward : 0 < u.indexes → ⊥
  sweep_onward some = stuck (Restarts 0) (Swept at from (λ m p has after. indexes_below (suc m) m p (lt-suc_self m) has after) some)

pub prune_goes_on : (w : TableState) (s extent next : ℕ) → w.task s ≡ Prunes extent next → next < extent → IsTableStuck w s → ⊥
prune_goes_on w s extent next was below stuck = ⊎_elim
    (λ (less : suc next < extent). no_onward w s stuck u task now does points.Prune refl task (Stays task less))
    (λ (all : extent ≤ suc next). ⊎_elim
    (λ (none : w.indexes ≡ 0). no_end w s stuck u task now does points.Prune refl (NothingToSweep extent (suc next) all none))
    (λ (some : w.indexes ≢ 0).
    sweep_onward u 0 0 (λ new onward. no_onward w s stuck u task now does points.Prune refl new (Pruned extent (suc next) new all onward)) (omega arith))
    (cases_eq w.indexes 0))
    (lt_or_ge (suc next) extent)
  where
    task : Task
    task = Prunes extent (suc next)

    u : TableState
    u = turned w s (Prunes extent (suc next))

    now : u.task s ≡ task
    now = pick_same s (Prunes extent (suc next)) (w.task s)

    does : Does s w u
    does = PrunesBlock extent next (λ b k. false) below (λ n b k other dead either. false≢true dead) (turns_here w s (Prunes extent next) task was) (record {
      layout = record { indexes = refl; rows_per_page = refl; heap_limit = refl };
      on = λ b k dead. absurd (false≢true dead);
      gone = λ b k dead. absurd (false≢true dead);
      rows = λ b k. inl refl;
      blocks = refl;
      counts = λ t. refl;
      indexes = record { index = λ i. refl };
      summarise_lock = refl;
    })

pub restart_goes_on : (w : TableState) (s at : ℕ) → w.task s ≡ Restarts at → at < w.indexes → IsTableStuck w s → ⊥
restart_goes_on w s at was inside stuck = ⊎_elim
    (λ (less : w.blocks < first_block w at (0 + 1)). ⊎_elim
    (λ (more : suc at < w.indexes).
    no_onward w s stuck u task now does points.Right refl (Restarts (suc at)) (NextIndex w.blocks at 0 (cross (first_block w at (0 + 1)) w.blocks less) more))
    (λ (last : w.indexes ≤ suc at).
    no_end w s stuck u task now does points.Right refl
    (RangesDone (WholeRanges w.blocks) at 0 (cross (first_block w at (0 + 1)) w.blocks less) (le_antisymm inside last)))
    (lt_or_ge (suc at) w.indexes))
    (λ (le : first_block w at (0 + 1) ≤ w.blocks). no_onward w s stuck u task now does points.Right refl _ (ToRange (WholeRanges w.blocks) at 0 le))
    (lt_or_ge w.blocks (first_block w at (0 + 1)))
  where
    task : Task
    task = Considers (WholeRanges w.blocks) at 0

    u : TableState
    u = turned w s (Considers (WholeRanges w.blocks) at 0)

    now : u.task s ≡ task
    now = pick_same s (Considers (WholeRanges w.blocks) at 0) (w.task s)

    cross : (a b : ℕ) → b < a → a ≤ b → ⊥
    cross a b less le = omega arith

    does : Does s w u
    does = RestartsIndex at (turns_here w s (Restarts at) task was) (only_here w s task)

-- the tuples of a page that the map doesn't name go
module _ (w : TableState) (s at page : ℕ) where
  abbrev view : IndexView
  view = index_view_at at w

  abbrev IsSweepable : Spot → Type 0
  IsSweepable x = (x.block ≡ page) × IsUnnamed view x

  unnamed_or_not : (x : Spot) → IsUnnamed view x ⊎ (IsUnnamed view x → ⊥)
  unnamed_or_not x = by_tuple ((w.index at).tuple x) refl
    where
      by_entry : (t : IndexTuple) → (w.index at).tuple x ≡ Some t → (o : Option Spot) → (w.index at).entry t.range ≡ o
          → IsUnnamed view x ⊎ (IsUnnamed view x → ⊥)
      by_entry t here None none = inl (t, here, λ named. none-some _ (sym none ∙ named))
      by_entry t here (Some y) names = ⊎_elim
          (λ (same : y ≡ x). inr (λ unnamed.
          unnamed.2 (ap (λ (q : IndexTuple). (w.index at).entry q.range) (same_Some _ _ (sym unnamed.1 ∙ here)) ∙ names ∙ ap Some same)))
          (λ (other : y ≢ x). inl (t, here, λ named. other (same_Some _ _ (sym names ∙ named))))
          (place_is y x)

      by_tuple : (o : Option IndexTuple) → (w.index at).tuple x ≡ o → IsUnnamed view x ⊎ (IsUnnamed view x → ⊥)
      by_tuple None none = inr (λ unnamed. none-some _ (sym none ∙ unnamed.1))
      by_tuple (Some t) here = by_entry t here ((w.index at).entry t.range) refl

  sweepable_or_not : (x : Spot) → IsSweepable x ⊎ (IsSweepable x → ⊥)
  sweepable_or_not x = ⊎_elim
      (λ (on : x.block ≡ page). elim (unnamed_or_not x) [ inl unnamed ↦ inl (on, unnamed) | inr not ↦ inr (λ is. not is.1) ])
      (λ (off : x.block ≢ page). inr (λ is. off is.0))
      (cases_eq x.block page)

  abbrev swept_index : Index
  swept_index = record (w.index at) {
    tuple = λ x. chosen (sweepable_or_not x) None ((w.index at).tuple x);
    unnamed = λ x. chosen (sweepable_or_not x) false ((w.index at).unnamed x);
    lock = locks_after view s [] (free_none s view);
  }

  abbrev after : Task
  after = SweepsFrom at (suc page)

  abbrev swept_state : TableState
  swept_state = record w { task = λ n. pick n s after (w.task n); index = λ i. pick i at swept_index (w.index i) }

  -- the view with this index
  abbrev view_with : Index → IndexView
  view_with x = record {
    contents = x.contents;
    pages_per_range = x.pages_per_range;
    blocks = w.blocks;
    row = w.row;
    entry = x.entry;
    tuple = x.tuple;
    pages = x.pages;
    lock = x.lock;
    summarise_lock = w.summarise_lock;
    building = λ n. building_of (seen_by at (pick n s after (w.task n)));
    loose = λ n. loose_of (seen_by at (pick n s after (w.task n)));
    unnamed = x.unnamed;
  }

  swept : IsFree view.lock s page → SweepsTuples s view (view_with swept_index) page IsSweepable
  swept free = record {
    free = free;
    gone = λ x is. (
      chosen_yes (sweepable_or_not x) None ((w.index at).tuple x) is,
      chosen_yes (sweepable_or_not x) false ((w.index at).unnamed x) is,
    );
    places = λ x. ⊎_elim
        (λ (is : IsSweepable x). inr (is.0, is))
        (λ (not : IsSweepable x → ⊥). inl (
          chosen_no (sweepable_or_not x) None ((w.index at).tuple x) not,
          chosen_no (sweepable_or_not x) false ((w.index at).unnamed x) not,
        ))
        (sweepable_or_not x);
    page = search rules;
    frame = search (rules, after_others, after_taken);
    none = λ p is. after_only view s [] (free_none s view) p is;
  }

  pub sweep_goes_on : w.task s ≡ Sweeps at page → at < w.indexes → IsFree view.lock s page → IsTableStuck w s → ⊥
  sweep_goes_on was inside free stuck =
      sweep_onward swept_state at (suc page) (no_onward w s stuck swept_state after (pick_same s after (w.task s)) does points.Sweep refl) (omega arith)
    where
      here : pick at at swept_index (w.index at) ≡ swept_index
      here = pick_same at swept_index (w.index at)

      does : Does s w swept_state
      does = SweepsPage at page
          (record { was = was; now = pick_same s after (w.task s); others = λ n. pick_there n s after (w.task n) })
          (record {
            below = inside;
            rows = record {
              layout = record { indexes = refl; rows_per_page = refl; heap_limit = refl };
              blocks = refl;
              row = λ b k. refl;
              counts = λ t. refl;
            };
            others = λ i. pick_there i at swept_index (w.index i);
            autosummarize = ap (λ (x : Index). x.autosummarize) here;
          })
          (subst (λ (x : Index). SweepsTuples s view (view_with x) page IsSweepable) (sym here) (swept free))
