-- a step of a summarise at its range, in its table
use Rattle.std.proofs.Common.{◌≡◌, ◌≢◌, inl, inr, ℕ, suc, ◌*◌, ◌^◌, ◌<◌, List, length, Option, None, Some, refl, sym, ap, subst, ◌∙◌, arith}
use Rattle.std.specs.Prelude.{Bool, IsTrue, slice_get}
use Rattle.std.proofs.lemmas.Bool.{cases_eq}
use Rattle.std.proofs.lemmas.Option.{slice_get_within}
use Rattle.block_model.specs.declared.place.Spot.{Spot}
use Rattle.block_model.specs.declared.reply.Point.{Point}
use Rattle.page_locks.specs.LockChanges.{page_of}
use Rattle.page_locks.specs.LockHolders.{holder}
use Rattle.coverage.specs.IndexPart.{IndexPart, SummariseMakes}
use Rattle.coverage.specs.IndexView.{Contents, IndexView, IsRangeOf}
use Rattle.coverage.specs.Knowing.{Knows}
use Rattle.coverage.specs.PageOrder.{KnowsPages}
use Rattle.coverage.specs.Statements.{Holding, Maintaining, Phase, Statement}
use Rattle.coverage.specs.InOneIndex.{DoesAt, JobMakes, index_with, with_index, with_ranges}
use Rattle.coverage.specs.Machines.{IsFewer, ShownTable, Unseen, table_state, task_turned}
use Rattle.coverage.specs.Table.{Considers, Job, Maintains, Task, TableState, index_view_at, pick, seen_by}
use Rattle.coverage.specs.TableCovered.{IsInTable, IsMaintenance, IsTableKept}
use Rattle.coverage.specs.TablePoints.{PageLock, waits_for}
use Rattle.coverage.specs.TableSteps.{IsBlocked, SummariseWaits}
use Rattle.index_contents.specs.IndexContents.{contents, relation_of}
use Rattle.index_steps.specs.IndexTuples.{IndexShape, contents_of, shape_of}
use Rattle.index_steps.specs.ShownIndex.{Shows, lock_in, shown_part}
use Rattle.index_steps.specs.ShownTable.{indexes_of, shown_at}
use Rattle.index_steps.specs.GrowthSteps.{IsFewer as Fewer}
use Rattle.summarise_core.specs.declared.range_stage.Stage.{Stage}
use Rattle.summarise_core.specs.declared.range_stage.Stage.TheVariants as stages
use Rattle.summarise_core.specs.declared.wish.Wish.{Wish}
use Rattle.summarise_core.specs.declared.wish.Wish.TheVariants as wishes
use Rattle.summarise_core.specs.ShownHeap.{heap_of}
use Rattle.summarise_core.specs.SummariseHands.{SummariseHand, table_of}
use Rattle.summarise_core.specs.SummariseSteps.{IsAtWork, IsDone, StepMakes, StepWaits, phase_at, phase_of, statement_at, summarise_at}
use Rattle.summarise_core.specs.Summarises.{StoreStep, SummariseState, in_range_of}
use Rattle.summarise_core.specs.SummariseTable.{LeavesTheRest, job_of, lock_turned, shown_after, shown_before, unnamed_turned}
use Rattle.summarise_core.proofs.Settling.{pick_other, pick_same}
use Rattle.index_steps.proofs.TableIndexes.{apart_numbers, same_one, shown_one}
use Rattle.summarise_core.proofs.Shown.{heap_here, shows_here}

-- the laws of the table that are taken up
abbrev pub MaintainGoes : Type 0
MaintainGoes = (s : ℕ) (job : Job) (at range : ℕ) (w : TableState) (p : IndexPart) (old new : Phase) (point : Point) (count : ℕ) → at < w.indexes
    → w.task s ≡ Maintains job at range old → JobMakes job s range (index_view_at at w) p old (Maintaining range new) point count
    → DoesAt s w (with_index at p s (Maintains job at range new) w) point (with_ranges count)

abbrev pub MaintainCompletes : Type 0
MaintainCompletes = (s : ℕ) (job : Job) (at range : ℕ) (w : TableState) (p : IndexPart) (old : Phase) (point : Point) (count : ℕ) → at < w.indexes
    → w.task s ≡ Maintains job at range old → JobMakes job s range (index_view_at at w) p old Holding point count
    → DoesAt s w (with_index at p s (Considers job at (suc range)) w) point (with_ranges count)

abbrev pub MaintainKnows : Type 0
MaintainKnows = (s : ℕ) (job : Job) (at range : ℕ) (w : TableState) (phase : Phase) → IsTableKept w → at < w.indexes
    → w.task s ≡ Maintains job at range phase
    → Knows (index_view_at at w) s (Maintaining range phase) × KnowsPages (index_view_at at w) s (Maintaining range phase)

abbrev pub IndexHere : Type 0
IndexHere = (at s : ℕ) (p : IndexPart) (task : Task) (w : TableState) → (with_index at p s task w).index at ≡ index_with p (w.index at)

abbrev pub OtherIndexes : Type 0
OtherIndexes = (at s i : ℕ) (p : IndexPart) (task : Task) (w : TableState) → i ≢ at → (with_index at p s task w).index i ≡ w.index i

-- there are tuples of the ranges below this number
ranges_are : (shape : IndexShape) → (contents_of shape).ranges ≡ 2 ^ 32
unfolding contents_of
ranges_are shape = refl

-- a summarise's step is one of its job
of_job : (wish : Wish) (in_range extent s range : ℕ) (w : IndexView) (p : IndexPart) (old : Phase) (new : Statement) (point : Point) (count : ℕ) → SummariseMakes s range w p old new point count
    → JobMakes (job_of wish in_range extent) s range w p old new point count
of_job wishes.New in_range extent s range w p old new point count makes = makes
of_job (wishes.Block block) in_range extent s range w p old new point count makes = makes
of_job wishes.Complete in_range extent s range w p old new point count makes = makes

-- its range is one of the table
below_blocks : (w : TableState) (wish : Wish) (in_range extent at range : ℕ) (phase : Phase) → 0 < (w.index at).pages_per_range → IsInTable w (Maintains (job_of wish in_range extent) at range phase) → range * (w.index at).pages_per_range < w.blocks
below_blocks w wishes.New in_range extent at range phase some inside = omega (arith, inside.1, inside.2)
below_blocks w (wishes.Block block) in_range extent at range phase some inside =
    subst (λ (m : ℕ). m * (w.index at).pages_per_range < w.blocks) (sym inside.2.0) (omega (arith, inside.1, inside.2.1))
below_blocks w wishes.Complete in_range extent at range phase some inside = omega (arith, some, inside.1, inside.2)

-- the statement that it is, while it has work at the range, and once it has none
at_work : (shape : IndexShape) (range : ℕ) (hand : SummariseHand) (stage : Stage) → IsAtWork stage → statement_at shape range hand stage ≡ Maintaining range (phase_at shape hand stage)
at_work shape range hand stages.Map work = refl
at_work shape range hand (stages.Tuple x) work = refl
at_work shape range hand stages.Place work = refl
at_work shape range hand (stages.Name x) work = refl
at_work shape range hand stages.Extent work = refl
at_work shape range hand stages.Pass work = refl
at_work shape range hand (stages.Copy x) work = refl
at_work shape range hand (stages.Swap x) work = refl
at_work shape range hand (stages.Set x y) work = refl
at_work shape range hand (stages.Drop x) work = refl
at_work shape range hand stages.Had work = absurd work
at_work shape range hand stages.Made work = absurd work

when_done : (shape : IndexShape) (range : ℕ) (hand : SummariseHand) (stage : Stage) → IsDone stage → statement_at shape range hand stage ≡ Holding
when_done shape range hand stages.Map done = absurd done
when_done shape range hand (stages.Tuple x) done = absurd done
when_done shape range hand stages.Place done = absurd done
when_done shape range hand (stages.Name x) done = absurd done
when_done shape range hand stages.Extent done = absurd done
when_done shape range hand stages.Pass done = absurd done
when_done shape range hand (stages.Copy x) done = absurd done
when_done shape range hand (stages.Swap x) done = absurd done
when_done shape range hand (stages.Set x y) done = absurd done
when_done shape range hand (stages.Drop x) done = absurd done
when_done shape range hand stages.Had done = refl
when_done shape range hand stages.Made done = refl

-- the session holds the summarise lock while a maintenance statement of it is in hand
pub locked_by : (s : ℕ) (shown : ShownTable) (u : Unseen) (task : Task) → IsMaintenance task → u.task s ≡ task → IsTableKept (table_state shown u) → u.summarise_lock ≡ Some s
locked_by s shown u task is at kept = (kept.summarise_lock s).1 (subst (λ (t : Task). IsMaintenance t) (sym at) is)

pub locked_is : (s : ℕ) (shown : ShownTable) (u : Unseen) (job : Job) (at range : ℕ) (phase : Phase) → u.task s ≡ Maintains job at range phase → IsTableKept (table_state shown u) → u.summarise_lock ≡ Some s
locked_is s shown u job at range phase task kept = locked_by s shown u (Maintains job at range phase) tt task kept

module _ (goes : MaintainGoes) (completes : MaintainCompletes) (knows : MaintainKnows) (here : IndexHere) (others : OtherIndexes)
    (step : StoreStep) (a : SummariseState) (at : ℕ) (there : slice_get (indexes_of step.layout (table_of step.layout a.index)) at ≡ Some a.index) (small : a.range < 2 ^ 32)
    (u : Unseen) where
  abbrev n : ℕ
  n = a.index

  abbrev s : ℕ
  s = step.actor

  abbrev numbers : List ℕ
  numbers = indexes_of step.layout (table_of step.layout n)

  abbrev shape : IndexShape
  shape = shape_of step.layout n

  abbrev old : ShownTable
  old = shown_before step (table_of step.layout n)

  abbrev new : ShownTable
  new = shown_after step (table_of step.layout n)

  abbrev w : TableState
  w = table_state old u

  abbrev job : Job
  job = job_of a.wish (in_range_of step.layout n) a.extent

  abbrev phase : Phase
  phase = phase_of shape a.hand

  abbrev part : (Spot → Bool) → IndexPart
  part unnamed = shown_part shape (contents step.layout step.paged n) (lock_in step.layout step.locked n) unnamed

  -- the unnamed tuples of each index, where these are those of this one
  abbrev with_these : (Spot → Bool) → ℕ → Spot → Bool
  with_these unnamed i = pick i at unnamed (u.unnamed i)

  abbrev after : (ℕ → Spot → Bool) → Task → TableState
  after unnamed task = table_state new (lock_turned (Some s) (task_turned s task (unnamed_turned unnamed u)))

  fewer_in_all : (unnamed : Spot → Bool) → Fewer (u.unnamed at) unnamed → IsFewer u.unnamed (with_these unnamed)
  fewer_in_all unnamed fewer i x is = elim (cases_eq i at) [
    | inl same ↦
        subst (λ (m : ℕ). IsTrue (with_these unnamed m x) → IsTrue (u.unnamed m x)) (sym same)
        (λ now. fewer x (subst (λ (f : Spot → Bool). IsTrue (f x)) (pick_same at unnamed (u.unnamed at)) now)) is
    | inr apart ↦ subst (λ (f : Spot → Bool). IsTrue (f x)) (pick_other i at unnamed (u.unnamed i) apart) is
  ]

  below : at < length numbers
  below = slice_get_within numbers at n there

  module _ (task : u.task s ≡ Maintains job at a.range phase) (kept : IsTableKept w) where
    known : Knows (index_view_at at w) s (Maintaining a.range phase) × KnowsPages (index_view_at at w) s (Maintaining a.range phase)
    known = knows s job at a.range w phase kept below task

    inside : IsInTable w (Maintains job at a.range phase)
    inside = subst (λ (t : Task). IsInTable w t) task (kept.inside s)

    shows : Shows shape (contents step.layout step.pages n) (lock_in step.layout step.locks n) (index_view_at at w)
    shows = shows_here step.layout step.pages step.locks step.blocks n at there u

    its : IsRangeOf (index_view_at at w) a.range
    its = (
      below_blocks w a.wish (in_range_of step.layout n) a.extent at a.range phase (kept.indexes at below).sound.ranged inside,
      subst (λ (contents : Contents). a.range < contents.ranges) (sym shows.contents) (omega (arith, ranges_are shape, small)),
    )

    made : (hand : SummariseHand) (point : Point) (count : ℕ)
        → StepMakes shape (heap_of step.layout n step.blocks) s a.range (summarise_at step.layout step.pages step.locks n a.hand) (summarise_at step.layout step.paged step.locked n hand) point count
        → (unnamed : Spot → Bool) × Fewer (u.unnamed at) unnamed × SummariseMakes s a.range (index_view_at at w) (part unnamed) phase (statement_at shape a.range hand hand.stage) point count
    made hand point count makes = makes (index_view_at at w) shows (heap_here step.layout step.pages step.locks step.blocks n at there u) its known.0 known.1

    at_here : (unnamed : Spot → Bool) → index_with (part unnamed) (w.index at) ≡ shown_one step.layout step.paged step.locked unnamed (slice_get numbers at)
    at_here unnamed = subst (λ (o : Option ℕ). index_with (part unnamed) (shown_one step.layout step.pages step.locks (u.unnamed at) o) ≡ shown_one step.layout step.paged step.locked unnamed o) (sym there) refl

    -- it locks no page of another index
    locks_free : (i m : ℕ) → i ≢ at → slice_get numbers i ≡ Some m → (page : ℕ) → holder step.locks (page_of (relation_of step.layout m) page) ≢ Some s
    locks_free i m apart is page locked =
        let seen : Knows (index_view_at i w) s (pick i at (Maintaining a.range phase) Holding) = subst (λ (q : Task). Knows (index_view_at i w) s (seen_by i q)) task ((kept.indexes i (slice_get_within numbers i m is)).knows s) in
        let holds : Knows (index_view_at i w) s Holding = subst (λ (q : Statement). Knows (index_view_at i w) s q) (pick_other i at (Maintaining a.range phase) Holding apart) seen in
        holds.1 page (ap (λ (o : Option ℕ). (shown_at step.layout step.pages step.locks o).lock page) is ∙ locked)

    module _ (rest : LeavesTheRest step n) where
      by_number : (i : ℕ) → i ≢ at → (o : Option ℕ) → slice_get numbers i ≡ o → shown_one step.layout step.pages step.locks (u.unnamed i) o ≡ shown_one step.layout step.paged step.locked (u.unnamed i) o
      by_number i apart None is = refl
      by_number i apart (Some m) is =
          let other : m ≢ n = apart_numbers step.layout (table_of step.layout n) i at n m apart is there in
          same_one step.layout step.pages step.paged step.locks step.locked (u.unnamed i) m (rest.others m other)
          (λ page. rest.locks.elsewhere (page_of (relation_of step.layout m) page) (λ same. other (omega (arith, same))) (locks_free i m apart is page))

      index_is : (unnamed : Spot → Bool) (next : Task) (i : ℕ) → (with_index at (part unnamed) s next w).index i ≡ shown_one step.layout step.paged step.locked (with_these unnamed i) (slice_get numbers i)
      index_is unnamed next i = elim (cases_eq i at) [
        | inl same ↦
            subst (λ (m : ℕ). (with_index at (part unnamed) s next w).index m ≡ shown_one step.layout step.paged step.locked (with_these unnamed m) (slice_get numbers m)) (sym same)
            (here at s (part unnamed) next w ∙ at_here unnamed
            ∙ ap (λ (f : Spot → Bool). shown_one step.layout step.paged step.locked f (slice_get numbers at)) (sym (pick_same at unnamed (u.unnamed at))))
        | inr apart ↦
            others at s i (part unnamed) next w apart ∙ by_number i apart (slice_get numbers i) refl
            ∙ ap (λ (f : Spot → Bool). shown_one step.layout step.paged step.locked f (slice_get numbers i)) (sym (pick_other i at unnamed (u.unnamed i) apart))
      ]

      table_is : (unnamed : Spot → Bool) (next : Task) → with_index at (part unnamed) s next w ≡ table_state new (task_turned s next (unnamed_turned (with_these unnamed) u))
      table_is unnamed next = λ j. record w { index = λ i. index_is unnamed next i j; task = λ m. pick m s next (u.task m) }

      held_is : (unnamed : ℕ → Spot → Bool) (next : Task) → table_state new (task_turned s next (unnamed_turned unnamed u)) ≡ after unnamed next
      held_is unnamed next = ap (λ (held : Option ℕ). table_state new (lock_turned held (task_turned s next (unnamed_turned unnamed u)))) (locked_is s old u job at a.range phase task kept)

      does_after : (unnamed : Spot → Bool) (next : Task) (point : Point) (count : ℕ) → DoesAt s w (with_index at (part unnamed) s next w) point (with_ranges count) → DoesAt s w (after (with_these unnamed) next) point (with_ranges count)
      does_after unnamed next point count does = subst (λ (z : TableState). DoesAt s w z point (with_ranges count)) (table_is unnamed next ∙ held_is (with_these unnamed) next) does

      pub goes_there : (hand : SummariseHand) (point : Point) (count : ℕ)
          → StepMakes shape (heap_of step.layout n step.blocks) s a.range (summarise_at step.layout step.pages step.locks n a.hand) (summarise_at step.layout step.paged step.locked n hand) point count
          → IsAtWork hand.stage → (unnamed : ℕ → Spot → Bool) × IsFewer u.unnamed unnamed × DoesAt s w (after unnamed (Maintains job at a.range (phase_of shape hand))) point (with_ranges count)
      goes_there hand point count makes work =
          let step_is = made hand point count makes in (
            with_these step_is.0,
            fewer_in_all step_is.0 step_is.1,
            does_after step_is.0 (Maintains job at a.range (phase_of shape hand)) point count
                (goes s job at a.range w (part step_is.0) phase (phase_of shape hand) point count below task
                (of_job a.wish (in_range_of step.layout n) a.extent s a.range (index_view_at at w) (part step_is.0) phase (Maintaining a.range (phase_of shape hand)) point count
                (subst (λ (q : Statement). SummariseMakes s a.range (index_view_at at w) (part step_is.0) phase q point count) (at_work shape a.range hand hand.stage work) step_is.2))),
          )

      pub ends_there : (hand : SummariseHand) (point : Point) (count : ℕ)
          → StepMakes shape (heap_of step.layout n step.blocks) s a.range (summarise_at step.layout step.pages step.locks n a.hand) (summarise_at step.layout step.paged step.locked n hand) point count
          → IsDone hand.stage → (unnamed : ℕ → Spot → Bool) × IsFewer u.unnamed unnamed × DoesAt s w (after unnamed (Considers job at (suc a.range))) point (with_ranges count)
      ends_there hand point count makes done =
          let step_is = made hand point count makes in (
            with_these step_is.0,
            fewer_in_all step_is.0 step_is.1,
            does_after step_is.0 (Considers job at (suc a.range)) point count
                (completes s job at a.range w (part step_is.0) phase point count below task
                (of_job a.wish (in_range_of step.layout n) a.extent s a.range (index_view_at at w) (part step_is.0) phase Holding point count
                (subst (λ (q : Statement). SummariseMakes s a.range (index_view_at at w) (part step_is.0) phase q point count) (when_done shape a.range hand hand.stage done) step_is.2))),
          )

    pub waits_there : (page : ℕ) → StepWaits shape (heap_of step.layout n step.blocks) s a.range (summarise_at step.layout step.pages step.locks n a.hand) page
        → (blocked : IsBlocked w s (Maintains job at a.range phase)) × (waits_for w s (Maintains job at a.range phase) blocked ≡ PageLock at page)
    waits_there page waits = (
      SummariseWaits page job at a.range phase (waits (index_view_at at w) shows (heap_here step.layout step.pages step.locks step.blocks n at there u) known.0),
      refl,
    )
