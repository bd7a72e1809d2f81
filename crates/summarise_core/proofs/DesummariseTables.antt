-- a step of a desummarise at its range, in its table
use Rattle.std.proofs.Common.{◌≡◌, ◌≢◌, inl, inr, ℕ, suc, ◌<◌, List, length, Option, None, Some, refl, sym, ap, subst, ◌∙◌, arith}
use Rattle.std.specs.Prelude.{slice_get}
use Rattle.std.proofs.lemmas.Bool.{cases_eq}
use Rattle.std.proofs.lemmas.Option.{slice_get_within}
use Rattle.block_model.specs.declared.reply.Point.{Point}
use Rattle.page_locks.specs.LockChanges.{page_of}
use Rattle.page_locks.specs.LockHolders.{holder}
use Rattle.coverage.specs.IndexPart.{DesummariseMakes, IndexPart}
use Rattle.coverage.specs.Knowing.{Knows}
use Rattle.coverage.specs.PageOrder.{KnowsPages}
use Rattle.coverage.specs.Statements.{Holding, Maintaining, Phase, Statement}
use Rattle.coverage.specs.InOneIndex.{DoesAt, JobMakes, index_with, with_index, with_ranges}
use Rattle.coverage.specs.Machines.{ShownTable, Unseen, table_state, task_turned}
use Rattle.coverage.specs.Table.{Considers, Desummarising, Job, Maintains, Task, TableState, index_view_at, pick, seen_by}
use Rattle.coverage.specs.TableCovered.{IsMaintenance, IsTableKept}
use Rattle.index_contents.specs.IndexContents.{contents, relation_of}
use Rattle.index_steps.specs.IndexTuples.{IndexShape, shape_of}
use Rattle.index_steps.specs.ShownIndex.{Shows, lock_in, shown_part}
use Rattle.index_steps.specs.ShownTable.{indexes_of, shown_at}
use Rattle.summarise_core.specs.declared.desummarise_stage.Stage.{Stage}
use Rattle.summarise_core.specs.declared.desummarise_stage.Stage.TheVariants as stages
use Rattle.summarise_core.specs.Desummarises.{IsAtWork, IsDone, StepMakes, StoreStep, desummarise_at, phase_at, statement_at, table_of}
use Rattle.summarise_core.specs.DesummariseTable.{LeavesTheRest, lock_turned, shown_after, shown_before}
use Rattle.summarise_core.proofs.DesummariseSettling.{pick_other}
use Rattle.index_steps.proofs.TableIndexes.{apart_numbers, same_one, shown_one}
use Rattle.summarise_core.proofs.DesummariseShown.{shows_here}

-- the laws of the table that are taken up
abbrev pub MaintainGoes : Type 0
MaintainGoes = (s : ℕ) (job : Job) (at range : ℕ) (w : TableState) (p : IndexPart) (old new : Phase) (point : Point) (count : ℕ) → at < w.indexes
    → w.task s ≡ Maintains job at range old → JobMakes job s range (index_view_at at w) p old (Maintaining range new) point count
    → DoesAt s w (with_index at p s (Maintains job at range new) w) point (with_ranges count)

abbrev pub MaintainCompletes : Type 0
MaintainCompletes = (s : ℕ) (job : Job) (at range : ℕ) (w : TableState) (p : IndexPart) (old : Phase) (point : Point) (count : ℕ) → at < w.indexes
    → w.task s ≡ Maintains job at range old → JobMakes job s range (index_view_at at w) p old Holding point count
    → DoesAt s w (with_index at p s (Considers job at (suc range)) w) point (with_ranges count)

abbrev pub MaintainKnows : Type 0
MaintainKnows = (s : ℕ) (job : Job) (at range : ℕ) (w : TableState) (phase : Phase) → IsTableKept w → at < w.indexes
    → w.task s ≡ Maintains job at range phase
    → Knows (index_view_at at w) s (Maintaining range phase) × KnowsPages (index_view_at at w) s (Maintaining range phase)

abbrev pub IndexHere : Type 0
IndexHere = (at s : ℕ) (p : IndexPart) (task : Task) (w : TableState) → (with_index at p s task w).index at ≡ index_with p (w.index at)

abbrev pub OtherIndexes : Type 0
OtherIndexes = (at s i : ℕ) (p : IndexPart) (task : Task) (w : TableState) → i ≢ at → (with_index at p s task w).index i ≡ w.index i

-- the statement that it is, while it has work at the range, and once it has none
at_work : (range : ℕ) (stage : Stage) → IsAtWork stage → statement_at range stage ≡ Maintaining range (phase_at stage)
at_work range stages.Right work = absurd work
at_work range stages.Map work = refl
at_work range (stages.Clear x) work = refl
at_work range (stages.Drop x) work = refl
at_work range stages.Lacked work = absurd work
at_work range stages.Cleared work = absurd work

when_done : (range : ℕ) (stage : Stage) → IsDone stage → statement_at range stage ≡ Holding
when_done range stages.Right done = absurd done
when_done range stages.Map done = absurd done
when_done range (stages.Clear x) done = absurd done
when_done range (stages.Drop x) done = absurd done
when_done range stages.Lacked done = refl
when_done range stages.Cleared done = refl

-- the session holds the summarise lock while it is at a range
pub locked_is : (s : ℕ) (shown : ShownTable) (u : Unseen) (job : Job) (at range : ℕ) (phase : Phase) → u.task s ≡ Maintains job at range phase → IsTableKept (table_state shown u) → u.summarise_lock ≡ Some s
locked_is s shown u job at range phase task kept = (kept.summarise_lock s).1 (subst (λ (t : Task). IsMaintenance t) (sym task) tt)

module _ (goes : MaintainGoes) (completes : MaintainCompletes) (knows : MaintainKnows) (here : IndexHere) (others : OtherIndexes)
    (step : StoreStep) (n range at : ℕ) (there : slice_get (indexes_of step.layout (table_of step.layout n)) at ≡ Some n) (stage : Stage) (u : Unseen) where
  abbrev s : ℕ
  s = step.actor

  abbrev numbers : List ℕ
  numbers = indexes_of step.layout (table_of step.layout n)

  abbrev shape : IndexShape
  shape = shape_of step.layout n

  abbrev old : ShownTable
  old = shown_before step (table_of step.layout n)

  abbrev new : ShownTable
  new = shown_after step (table_of step.layout n)

  abbrev w : TableState
  w = table_state old u

  abbrev job : Job
  job = Desummarising range

  abbrev phase : Phase
  phase = phase_at stage

  abbrev part : IndexPart
  part = shown_part shape (contents step.layout step.paged n) (lock_in step.layout step.locked n) (u.unnamed at)

  abbrev after : Task → TableState
  after task = table_state new (lock_turned (Some s) (task_turned s task u))

  below : at < length numbers
  below = slice_get_within numbers at n there

  module _ (task : u.task s ≡ Maintains job at range phase) (kept : IsTableKept w) where
    known : Knows (index_view_at at w) s (Maintaining range phase) × KnowsPages (index_view_at at w) s (Maintaining range phase)
    known = knows s job at range w phase kept below task

    pub shows : Shows shape (contents step.layout step.pages n) (lock_in step.layout step.locks n) (index_view_at at w)
    shows = shows_here step.layout step.pages step.locks step.blocks n at there u

    made : (next : Stage) (point : Point) (count : ℕ) → StepMakes shape s range (desummarise_at step.layout step.pages step.locks n stage) (desummarise_at step.layout step.paged step.locked n next) point count
        → DesummariseMakes s range (index_view_at at w) part phase (statement_at range next) point count
    made next point count makes = makes (index_view_at at w) shows known.0

    at_here : index_with part (w.index at) ≡ shown_one step.layout step.paged step.locked (u.unnamed at) (slice_get numbers at)
    at_here = subst (λ (o : Option ℕ). index_with part (shown_one step.layout step.pages step.locks (u.unnamed at) o) ≡ shown_one step.layout step.paged step.locked (u.unnamed at) o) (sym there) refl

    -- it locks no page of another index
    locks_free : (i m : ℕ) → i ≢ at → slice_get numbers i ≡ Some m → (page : ℕ) → holder step.locks (page_of (relation_of step.layout m) page) ≢ Some s
    locks_free i m apart is page locked =
        let seen : Knows (index_view_at i w) s (pick i at (Maintaining range phase) Holding) = subst (λ (q : Task). Knows (index_view_at i w) s (seen_by i q)) task ((kept.indexes i (slice_get_within numbers i m is)).knows s) in
        let holds : Knows (index_view_at i w) s Holding = subst (λ (q : Statement). Knows (index_view_at i w) s q) (pick_other i at (Maintaining range phase) Holding apart) seen in
        holds.1 page (ap (λ (o : Option ℕ). (shown_at step.layout step.pages step.locks o).lock page) is ∙ locked)

    module _ (rest : LeavesTheRest step n) where
      by_number : (i : ℕ) → i ≢ at → (o : Option ℕ) → slice_get numbers i ≡ o → shown_one step.layout step.pages step.locks (u.unnamed i) o ≡ shown_one step.layout step.paged step.locked (u.unnamed i) o
      by_number i apart None is = refl
      by_number i apart (Some m) is =
          let other : m ≢ n = apart_numbers step.layout (table_of step.layout n) i at n m apart is there in
          same_one step.layout step.pages step.paged step.locks step.locked (u.unnamed i) m (rest.others m other)
          (λ page. rest.locks.elsewhere (page_of (relation_of step.layout m) page) (λ same. other (omega (arith, same))) (locks_free i m apart is page))

      index_is : (next : Task) (i : ℕ) → (with_index at part s next w).index i ≡ shown_one step.layout step.paged step.locked (u.unnamed i) (slice_get numbers i)
      index_is next i = elim (cases_eq i at) [
        | inl same ↦
            subst (λ (m : ℕ). (with_index at part s next w).index m ≡ shown_one step.layout step.paged step.locked (u.unnamed m) (slice_get numbers m)) (sym same)
            (here at s part next w ∙ at_here)
        | inr apart ↦ others at s i part next w apart ∙ by_number i apart (slice_get numbers i) refl
      ]

      table_is : (next : Task) → with_index at part s next w ≡ table_state new (task_turned s next u)
      table_is next = λ j. record w { index = λ i. index_is next i j; task = λ m. pick m s next (u.task m) }

      held_is : (next : Task) → table_state new (task_turned s next u) ≡ after next
      held_is next = ap (λ (held : Option ℕ). table_state new (lock_turned held (task_turned s next u))) (locked_is s old u job at range phase task kept)

      does_after : (next : Task) (point : Point) (count : ℕ) → DoesAt s w (with_index at part s next w) point (with_ranges count) → DoesAt s w (after next) point (with_ranges count)
      does_after next point count does = subst (λ (z : TableState). DoesAt s w z point (with_ranges count)) (table_is next ∙ held_is next) does

      pub goes_there : (next : Stage) (point : Point) (count : ℕ)
          → StepMakes shape s range (desummarise_at step.layout step.pages step.locks n stage) (desummarise_at step.layout step.paged step.locked n next) point count
          → IsAtWork next → DoesAt s w (after (Maintains job at range (phase_at next))) point (with_ranges count)
      goes_there next point count makes work =
          does_after (Maintains job at range (phase_at next)) point count
          (goes s job at range w part phase (phase_at next) point count below task
          (subst (λ (q : Statement). DesummariseMakes s range (index_view_at at w) part phase q point count) (at_work range next work) (made next point count makes)))

      pub ends_there : (next : Stage) (point : Point) (count : ℕ)
          → StepMakes shape s range (desummarise_at step.layout step.pages step.locks n stage) (desummarise_at step.layout step.paged step.locked n next) point count
          → IsDone next → DoesAt s w (after (Considers job at (suc range))) point (with_ranges count)
      ends_there next point count makes done =
          does_after (Considers job at (suc range)) point count
          (completes s job at range w part phase point count below task
          (subst (λ (q : Statement). DesummariseMakes s range (index_view_at at w) part phase q point count) (when_done range next done) (made next point count makes)))
