-- A summarise whose session steps alone ends, or waits, or lacks a page, within a number of steps; and so does a vacuum at an index.
use Rattle.std.proofs.Common.{◌≡◌, ◌⊎◌, inl, inr, ⊎_elim, ℕ, ◌+◌, ◌-◌, ◌*◌, ◌/◌, ◌≤◌, ◌<◌, Bool, true, false, Some, sym, ◌∙◌, ap, subst, arith, suc, suc-mul}
use Rattle.std.specs.Prelude.{refl}
use Rattle.std.proofs.lemmas.Option.{none-some}
use Rattle.std.proofs.Math.Nat.{le_refl}
use Rattle.block_model.specs.declared.place.Spot.{Spot}
use Rattle.coverage.specs.IndexView.{IndexTuple, Progress, ExtentUnread, Passing, IndexView}
use Rattle.coverage.specs.Statements.{OnIndex, Empty, Held, Copied, Moving, Dropping, Phase, NotBuilding, Vacant, Growing, Evacuating, Placing, IsAt, Statement, Maintaining, Holding}
use Rattle.coverage.specs.Knowing.{KnowsPhase}
use Rattle.coverage.specs.PageOrder.{KnowsPagesOfPhase}
use Rattle.coverage.specs.Steps.{SummariseStep}
use Rattle.coverage.specs.Stuck.{AreNamed}
use Rattle.coverage.proofs.Numbers.{lt_or_ge}
use Rattle.coverage.specs.Table.{Job, EachRange, OneRange, WholeRanges, Desummarising, Index, Task, Resting, Considers, Maintains, Restarts, TableState, index_view_at}
use Rattle.coverage.specs.TableSteps.{HasRange, OnlyTurns, StepsIn, JobStep, Onward, Stays, ToRange, NextIndex, IsMaintained, TableStep}
use Rattle.coverage.specs.GoingOn.{StepsAlone, LastAlone, OneMoreAlone}
use Rattle.coverage.specs.StepsLeft.{AreAtMost, HasAtMostTuples, ranges_below, whole_ranges, IsSummarise, later_ranges, range_steps, summarise_steps}
use Rattle.coverage.specs.TableCovered.{IsInTable, IsTableKept}
use Rattle.coverage.specs.RangesMade.{IsBuilder}
use Rattle.coverage.proofs.PlacesCounted.{fewer}
use Rattle.coverage.proofs.SummariseLeft.{IsTaken, Own, OwnMap, OwnTupleGone, OwnVacant, OwnEvacuates, OwnVacates, OwnPlacing, OwnExtent, OwnPass, OwnHeldGone}
use Rattle.coverage.proofs.SummariseLeft.{OwnCopiedGone, OwnMoving, OwnDropping, with_one, Base, Left, Works, Grows', DoneLeft, one_page, step_left}
use Rattle.coverage.proofs.ScansEndAlone.{one_of_ranges, one_of_whole_ranges}
use Rattle.coverage.proofs.InsertsEndAlone.{same_view}
use Rattle.coverage.proofs.Leaves.{settles_leaves}
use Rattle.coverage.proofs.MachinesIn.{maintain_knows}
use Rattle.coverage.proofs.TableJudged.{does_ranges}
use Rattle.coverage.proofs.StepDid.{Did, DidMaintain, DidRange, step_did, step_settles}
use Rattle.coverage.proofs.TableSeen.{table_step_kept}

-- at any moment the bound is enough
module _ (w : IndexView) (s range most later tail tuples : ℕ) (has : AreAtMost (IsTaken w) tuples) (room : suc tuples + later ≤ most) where
  abbrev per : ℕ
  per = w.pages_per_range

  abbrev g : ℕ
  g = w.pages.limit - w.pages.map_pages

  abbrev Starts : Phase → Type 0
  Starts phase = Left w range per most later tail (range_steps per phase + g * (3 * most + 3) + tail) phase

  counted : (moving : Bool) → AreAtMost (IsTaken w) (with_one moving tuples)
  counted false = has
  counted true = λ xs apart all. omega (arith, has xs apart all)

  fits : (unput : Bool) → with_one unput tuples + later ≤ most
  fits true = room
  fits false = omega arith

  base_of : (moving unput : Bool) → Base w per most later g tuples moving unput
  base_of moving unput = record { per_is = refl; tuples_are = counted moving; room = fits unput; pages = refl }

  starts : (phase : Phase) (own : ℕ) (moving unput : Bool) → own ≤ range_steps per phase → Own w range per phase own moving unput → Starts phase
  starts phase own moving unput le own_is =
      Works phase own g tuples moving unput own_is (base_of moving unput) (omega arith)

  within : (a b : ℕ) → a ≤ b → per + a ≤ per + b
  within a b le = omega arith

  small : (a b : ℕ) → a ≤ b → a ≤ per + b
  small a b le = omega arith

  taken_of : (x : Spot) → ((t : IndexTuple) × (w.tuple x ≡ Some t)) → IsTaken w x
  taken_of x there none = none-some _ (sym none ∙ there.1)

  start_not_building : (on_index : OnIndex) → KnowsPhase w s range (NotBuilding on_index) → Starts (NotBuilding on_index)
  start_not_building Empty known = starts (NotBuilding Empty) (per + 9) false true (within 9 10 (omega arith)) OwnMap
  start_not_building (Held x) known = starts (NotBuilding (Held x)) (per + 10) false true (within 10 10 (omega arith)) (OwnTupleGone x)
  start_not_building (Copied x old new) known = absurd known.3
  start_not_building (Moving x y old new) known = absurd known.6
  start_not_building (Dropping x) known = starts (NotBuilding (Dropping x)) 1 true false (small 1 10 (omega arith)) (OwnDropping x (taken_of x known.2))

  start_evacuating : (m : ℕ) (on_index : OnIndex) → KnowsPhase w s range (Evacuating m on_index) → KnowsPagesOfPhase w s range (Evacuating m on_index)
      → Starts (Evacuating m on_index)
  start_evacuating m (Moving x y old new) known pages =
      starts (Evacuating m (Moving x y old new)) (per + 10) true true (within 10 10 (omega arith)) (OwnEvacuates m x y old new (taken_of x (old, known.1.3)))
  start_evacuating m (Dropping x) known pages =
      starts (Evacuating m (Dropping x)) (per + 9) true true (within 9 10 (omega arith)) (OwnVacates m x (taken_of x known.1.2))
  start_evacuating m _ known pages = absurd pages.1

  start_at : (p : Progress) (on_index : OnIndex) → 6 ≤ range_steps per (IsAt p on_index) → KnowsPhase w s range (IsAt p on_index)
      → KnowsPagesOfPhase w s range (IsAt p on_index) → Starts (IsAt p on_index)
  start_at ExtentUnread Empty six known pages = starts (IsAt ExtentUnread Empty) (per + 6) false false (within 6 10 (omega arith)) OwnExtent
  start_at (Passing extent next result) Empty six known pages =
      starts (IsAt (Passing extent next result) Empty) ((extent - next) + 5) false false (omega arith) (OwnPass extent next result)
  start_at p (Held x) six known pages = starts (IsAt p (Held x)) 6 false false six (OwnHeldGone p x)
  start_at p (Copied x old new) six known pages = starts (IsAt p (Copied x old new)) 6 false false six (OwnCopiedGone p x old new)
  start_at p (Moving x y old new) six known pages =
      starts (IsAt p (Moving x y old new)) 2 true false (omega arith)
      (OwnMoving p x y old new (taken_of x (old, known.0.3)))
  start_at ExtentUnread (Dropping x) six known pages = absurd pages.3
  start_at (Passing extent next result) (Dropping x) six known pages = absurd pages.3

  six_of : (p : Progress) (on_index : OnIndex) → 6 ≤ range_steps per (IsAt p on_index)
  six_of ExtentUnread on_index = omega arith
  six_of (Passing extent next result) on_index = omega arith

  start : (phase : Phase) → KnowsPhase w s range phase → KnowsPagesOfPhase w s range phase → Starts phase
  start (NotBuilding on_index) known pages = start_not_building on_index known
  start Vacant known pages = starts Vacant (per + 8) false true (within 8 10 (omega arith)) OwnVacant
  start Growing known pages = Grows' g tuples (base_of false true) (omega (arith, fewer_pages g (3 * most + 3)))
    where
      fewer_pages : (g c : ℕ) → (g - 1) * c ≤ g * c
      fewer_pages g c = ⊎_elim
          (λ (some : 0 < g). omega (arith, one_page g c some))
          (λ (none : g ≤ 0). subst (λ k. k * c ≤ g * c) (omega arith) (le_refl (g * c)))
          (lt_or_ge 0 g)
  start (Evacuating m on_index) known pages = start_evacuating m on_index known pages
  start (Placing x) known pages = starts (Placing x) (per + 7) false false (within 7 10 (omega arith)) (OwnPlacing x)
  start (IsAt p on_index) known pages = start_at p on_index (six_of p on_index) known pages

pub summarise_builds : (job : Job) → IsSummarise job → IsBuilder job
summarise_builds (EachRange extent) is = tt
summarise_builds (OneRange extent only) is = tt
summarise_builds (WholeRanges extent) is = absurd is
summarise_builds (Desummarising only) is = absurd is

-- its step is a summariser's
abbrev pub job_summarises : (job : Job) → IsBuilder job → (s range : ℕ) (w v : IndexView) (old : Phase) (e : Statement) → JobStep job s range w v old e
    → SummariseStep s range w v old e
job_summarises (Desummarising only) is s range w v old e step = absurd is
job_summarises _ is s range w v old e step = step

-- where it comes by its step
module _ (u : TableState) (job : Job) (at range : ℕ) where
  phase_onward : (phase : Phase) (t : Task) → Onward u (Maintains job at range phase) t → t ≡ Maintains job at range phase
  phase_onward phase _ (Stays _ has) = refl

  not_maintained : (phase : Phase) → IsMaintained u (Maintains job at range phase) → ⊥
  not_maintained phase done = elim done [ ]

-- at a range, or before the next index, which a summarise has not
pub considers_onward : (u : TableState) (job : Job) (at range : ℕ) (t : Task) → Onward u (Considers job at range) t
    → (HasRange u job at range × (t ≡ Maintains job at range (NotBuilding Empty))) ⊎ ((IsSummarise job → ⊥) × (t ≡ Restarts (suc at)))
considers_onward u job at range _ (Stays _ has) = absurd has
considers_onward u job at range _ (ToRange _ _ _ has) = inl (has, refl)
considers_onward u _ at range _ (NextIndex extent _ _ none more) = inr ((λ is. is), refl)

-- the one range of a summarise of one
abbrev IsOnly : Job → ℕ → Type 0
IsOnly (OneRange extent only) range = range ≡ only
IsOnly job range = Unit

only_of : (w : TableState) (job : Job) (at range : ℕ) → HasRange w job at range → IsOnly job range
only_of w (OneRange extent only) at range has = has.0
only_of w _ at range has = tt

-- of so many ranges, behind the next one come one fewer
counts_later : (n later range : ℕ) → later ≡ n - suc range → suc range < n → later ≡ suc (n - suc (suc range))
counts_later n later range same below = omega arith

-- where there is a next range, one fewer comes behind it
one_later : (w : TableState) (job : Job) (at range later : ℕ) → IsBuilder job → 0 < (w.index at).pages_per_range → IsOnly job range → HasRange w job at (suc range)
    → later ≡ later_ranges w job at range → (rest : ℕ) × (later ≡ suc rest) × (rest ≡ later_ranges w job at (suc range))
one_later w (EachRange extent) at range later is ranged only has same = (
  ranges_below w extent at - suc (suc range),
  counts_later (ranges_below w extent at) later range same (one_of_ranges (w.index at).pages_per_range extent (suc range) ranged has),
  refl,
)
one_later w (OneRange extent only) at range later is ranged here has same = absurd (omega (arith, here, has.0))
one_later w (WholeRanges extent) at range later is ranged only has same = (
  whole_ranges w extent at - suc (suc range),
  counts_later (whole_ranges w extent at) later range same (one_of_whole_ranges (w.index at).pages_per_range extent (suc range) ranged has),
  refl,
)
one_later w (Desummarising _) at range later is ranged only has same = absurd is

later_on : (w v : TableState) (job : Job) (at range : ℕ) → (v.index at).pages_per_range ≡ (w.index at).pages_per_range
    → later_ranges v job at range ≡ later_ranges w job at range
later_on w v (EachRange extent) at range same = ap (λ m. (extent + m - 1) / m - suc range) same
later_on w v (OneRange extent only) at range same = refl
later_on w v (WholeRanges extent) at range same = ap (λ m. extent / m - suc range) same
later_on w v (Desummarising only) at range same = refl

-- the indexes from this one on, and the blocks of the heap, are as they were
pub record FromStays (from : ℕ) (w v : TableState) : Type 0 where
  pub indexes : v.indexes ≡ w.indexes
  pub blocks : v.blocks ≡ w.blocks
  pub index : (i : ℕ) → from ≤ i → v.index i ≡ w.index i

pub only_stays : (from : ℕ) (w u v : TableState) → OnlyTurns u v → FromStays from w u → FromStays from w v
only_stays from w u v only stays = record {
  indexes = only.rows.layout.indexes ∙ stays.indexes;
  blocks = only.rows.blocks ∙ stays.blocks;
  index = λ i le. only.indexes.index i ∙ stays.index i le;
}

-- a step in an index leaves the later ones
pub in_stays : (at : ℕ) (w u v : TableState) → StepsIn at u v → FromStays (suc at) w u → FromStays (suc at) w v
in_stays at w u v stepped stays = record {
  indexes = stepped.rows.layout.indexes ∙ stays.indexes;
  blocks = stepped.rows.blocks ∙ stays.blocks;
  index = λ i le. elim (stepped.others i) [ inl here ↦ absurd (omega arith) | inr same ↦ same ∙ stays.index i le ];
}

-- of what is left, so many steps are for the indexes behind this one, which are as they were in the table w0
module _ (w0 : TableState) (s : ℕ) (job : Job) (is : IsBuilder job) (at per most rest : ℕ) where
  abbrev tail_of : ℕ → ℕ
  tail_of later = later * (per + 9) + rest

  abbrev LeftOf : (w : TableState) (n range later : ℕ) → Phase → Type 0
  LeftOf w n range later phase = FromStays (suc at) w0 w × Left (index_view_at at w) range per most later (tail_of later) n phase

  -- what is left where the next index comes
  abbrev NextOf : (w : TableState) (n : ℕ) → Type 0
  NextOf w n = (IsSummarise job → ⊥) × (w.task s ≡ Restarts (suc at)) × FromStays (suc at) w0 w × (rest ≤ n)

  module _ (k : ℕ) (w v : TableState) (step : TableStep s w v) (kept : IsTableKept w) (ends : v.task s ≡ Resting → k ≡ 0)
      (more : (n range later : ℕ) (phase : Phase) → v.task s ≡ Maintains job at range phase → later ≡ later_ranges v job at range
      → LeftOf v n range later phase → k ≤ n)
      (leaves : (n : ℕ) → NextOf v n → k ≤ n) where
    abbrev u : TableState
    u = step.between

    through : (n m : ℕ) → n ≡ suc m → k ≤ m → suc k ≤ n
    through n m same le = omega arith

    same_per : OnlyTurns u v → (v.index at).pages_per_range ≡ (u.index at).pages_per_range
    same_per only = ap (λ (x : Index). x.pages_per_range) (only.indexes.index at)

    all_tasks : (task : Task) → u.task s ≡ task → v.task s ≡ task → (n : ℕ) → v.task n ≡ u.task n
    all_tasks task was now n = ⊎_elim
        (λ (here : n ≡ s). ap v.task here ∙ now ∙ sym was ∙ ap u.task (sym here))
        (λ (e : v.task n ≡ u.task n). e)
        ((settles_leaves s u v step.settles).others n)

    -- the next range begins with what is left
    next_range : (n range later fewer_later : ℕ) → OnlyTurns u v → later ≡ suc fewer_later → DoneLeft (index_view_at at u) per most later (tail_of later) n
        → Left (index_view_at at v) (suc range) per most fewer_later (tail_of fewer_later) n (NotBuilding Empty)
    next_range n range later fewer_later only same left = Works (NotBuilding Empty) (per + 9) left.g left.tuples false true OwnMap (record {
      per_is = same_per only ∙ left.base.per_is;
      tuples_are = fewer (IsTaken (index_view_at at u)) (IsTaken (index_view_at at v)) left.tuples
          (λ x taken none. taken (ap (λ (i : Index). i.tuple x) (only.indexes.index at) ∙ none)) left.base.tuples_are;
      room = omega (arith, same, left.base.room);
      pages = ap (λ (i : Index). i.pages.limit - i.pages.map_pages) (only.indexes.index at) ∙ left.base.pages;
    }) (omega (arith, ap (λ j. j * (per + 9)) same ∙ suc-mul fewer_later (per + 9), left.enough))

    per_u : (u.index at).pages_per_range ≡ (w.index at).pages_per_range
    per_u = does_ranges s w u step.does at

    ranged : at < w.indexes → 0 < (u.index at).pages_per_range
    ranged below = subst (λ m. 0 < m) (sym per_u) (kept.indexes at below).sound.ranged

    named : at < w.indexes → AreNamed (index_view_at at w)
    named below range x names = (kept.indexes at below).sound.entries_name_tuples range x names

    -- the range is done: the next one comes, or the next index
    after_range : (n m range later : ℕ) → n ≡ suc m → HasRange w job at range → at < w.indexes → later ≡ later_ranges w job at range → FromStays (suc at) w0 u
        → DoneLeft (index_view_at at u) per most later (tail_of later) m
        → Onward u (Considers job at (suc range)) (v.task s) × OnlyTurns u v → suc k ≤ n
    after_range n m range later one has below same stays left on = ⊎_elim
        (λ (begins : HasRange u job at (suc range) × (v.task s ≡ Maintains job at (suc range) (NotBuilding Empty))).
        let fewer_later = one_later u job at range later is (ranged below) (only_of w job at range has) begins.0 (same ∙ sym (later_on w u job at range per_u)) in
        through n m one (more m (suc range) fewer_later.0 (NotBuilding Empty) begins.1
        (fewer_later.2 ∙ sym (later_on u v job at (suc range) (same_per on.1)))
        (only_stays (suc at) w0 u v on.1 stays, next_range m range later fewer_later.0 on.1 fewer_later.1 left)))
        (λ (next : (IsSummarise job → ⊥) × (v.task s ≡ Restarts (suc at))).
        through n m one (leaves m (next.0, next.1, only_stays (suc at) w0 u v on.1 stays, omega (arith, left.enough))))
        (considers_onward u job at (suc range) (v.task s) on.0)

    next : (n range later : ℕ) (phase : Phase) (new : Task) → Did s w u (Maintains job at range phase) new → u.task s ≡ new
        → later ≡ later_ranges w job at range → IsInTable w (Maintains job at range phase)
        → LeftOf w n range later phase → suc k ≤ n
    next n range later _ _ (DidMaintain _ _ _ old new stepped does) now same inside left =
        let one = step_left s range per most later (tail_of later) n (index_view_at at w) (index_view_at at u) (named inside.0) old (Maintaining range new)
        (job_summarises job is s range (index_view_at at w) (index_view_at at u) old (Maintaining range new) does) left.1 in
        ⊎_elim
        (λ (on : Onward u (Maintains job at range new) (v.task s) × OnlyTurns u v).
        let stays = phase_onward u job at range new (v.task s) on.0 in
        through n one.0 one.1 (more one.0 range later new stays (same ∙ sym (later_on w u job at range per_u) ∙ sym (later_on u v job at range (same_per on.1))) (
          only_stays (suc at) w0 u v on.1 (in_stays at w0 w u stepped left.0),
          subst (λ z. Left z range per most later (tail_of later) one.0 new)
              (sym (same_view at u v on.1 (all_tasks (Maintains job at range new) now stays))) one.2,
        )))
        (λ (done : IsMaintained u (Maintains job at range new) × (v.task s ≡ Resting)). absurd (not_maintained u job at range new done.0))
        (step_settles s u v step.settles (Maintains job at range new) now)
    next n range later _ _ (DidRange _ _ _ old stepped does) now same inside left =
        let one = step_left s range per most later (tail_of later) n (index_view_at at w) (index_view_at at u) (named inside.0) old Holding
        (job_summarises job is s range (index_view_at at w) (index_view_at at u) old Holding does) left.1 in
        ⊎_elim
        (λ (on : Onward u (Considers job at (suc range)) (v.task s) × OnlyTurns u v).
        after_range n one.0 range later one.1 inside.2 inside.0 same (in_stays at w0 w u stepped left.0) one.2 on)
        (λ (done : IsMaintained u (Considers job at (suc range)) × (v.task s ≡ Resting)). omega (arith, one.1, ends done.1))
        (step_settles s u v step.settles (Considers job at (suc range)) now)

  pub alone_left : ((k n : ℕ) (w : TableState) → StepsAlone s k w → IsTableKept w → NextOf w n → k ≤ n)
      → (k : ℕ) (w : TableState) → StepsAlone s k w → IsTableKept w → (n range later : ℕ) (phase : Phase) → w.task s ≡ Maintains job at range phase
      → later ≡ later_ranges w job at range → LeftOf w n range later phase → k ≤ n
  alone_left behind _ _ (LastAlone w v step p point) kept n range later phase was same left =
      next 0 w v step kept (λ _. refl) (λ m _ _ _ _ _ _. omega arith) (λ m _. omega arith) n range later phase (step.between.task s)
      (subst (λ t. Did s w step.between t (step.between.task s)) was (step_did s w step.between p step.does point)) refl same
      (subst (IsInTable w) was (kept.inside s)) left
  alone_left behind _ _ (OneMoreAlone k w v step p point going more) kept n range later phase was same left =
      next k w v step kept (λ rests. absurd (going rests))
      (λ m range' later' phase' now same' left'. alone_left behind k v more (table_step_kept s w v kept step) m range' later' phase' now same' left')
      (λ m next'. behind k m v more (table_step_kept s w v kept step) next')
      n range later phase (step.between.task s)
      (subst (λ t. Did s w step.between t (step.between.task s)) was (step_did s w step.between p step.does point)) refl same
      (subst (IsInTable w) was (kept.inside s)) left

pub nothing_moved : (from : ℕ) (w : TableState) → FromStays from w w
nothing_moved from w = record { indexes = refl; blocks = refl; index = λ i le. refl }

pub summarise_within : (s n at range tuples : ℕ) (w : TableState) (job : Job) (phase : Phase) → IsTableKept w → w.task s ≡ Maintains job at range phase
    → IsSummarise job → HasAtMostTuples w at tuples → StepsAlone s n w → n ≤ summarise_steps w job at range phase tuples
summarise_within s n at range tuples w job phase kept was is has alone =
    let inside = subst (IsInTable w) was (kept.inside s) in
    let known = maintain_knows s job at range w phase kept inside.0 was in
    let later = later_ranges w job at range in
    let tail = later * ((w.index at).pages_per_range + 9) in
    subst (λ m. n ≤ m) (omega arith)
    (alone_left w s job (summarise_builds job is) at (w.index at).pages_per_range (tuples + suc later) 0
    (λ k m v more kept' next. absurd (next.0 is)) n w alone kept
    (range_steps (w.index at).pages_per_range phase
    + ((w.index at).pages.limit - (w.index at).pages.map_pages) * (3 * (tuples + suc later) + 3) + (tail + 0)) range later phase was refl (
      nothing_moved (suc at) w,
      start (index_view_at at w) s range (tuples + suc later) later (tail + 0) tuples has (omega arith) phase known.0.1 known.1,
    ))
