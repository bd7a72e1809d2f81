-- From its step on a statement takes few steps while its session steps alone, in a table that is no larger than a layout may make it.
use Rattle.std.proofs.Common.{◌≡◌, ℕ, ◌≤◌, ◌*◌, length, refl, sym, subst}
use Rattle.block_model.specs.declared.row.Row.{Row}
use Rattle.coverage.specs.Statements.{Phase}
use Rattle.coverage.specs.GoingOn.{IsInserting, LastAlone, OneMoreAlone, StepsAlone}
use Rattle.coverage.specs.StepsLeft.{IsSummarise, desummarise_steps, scan_steps, summarise_steps}
use Rattle.coverage.specs.Table.{Asks, Considers, Desummarising, EachRange, Inserts, Job, Maintains, Marks, OneRange, Prunes, Reaches, Restarts, Resting, Scans, Sweeps, SweepsFrom, TableState, Task, WholeRanges}
use Rattle.coverage.specs.TableCovered.{IsInTable, IsTableKept}
use Rattle.coverage.proofs.DesummariseEnds.{desummarise_within}
use Rattle.coverage.proofs.InsertsEndAlone.{insert_within}
use Rattle.coverage.proofs.ScansEndAlone.{marks_within_ids, scan_within}
use Rattle.coverage.proofs.StepDid.{Did, step_did}
use Rattle.coverage.proofs.SummariseEnds.{summarise_within}
use Rattle.script_semantics.specs.Bounds.{IsBounded, IsTaskBounded, most_blocks, most_pages, most_slots}
use Rattle.script_semantics.proofs.Boxes.{rows_at_most}
use Rattle.script_semantics.proofs.Sizes.{IsSmallAt, desummarise_few, few_steps, four_few, insert_few, marks_few, scan_few, scans_few, small_at, summarise_few, summarises_few}
use Rattle.script_semantics.proofs.VacuumSteps.{vacuum_completes, vacuum_prunes, vacuum_restarts, vacuum_sweeps}

-- no step begins at what stands within one
did_reach : (s : ℕ) (w u : TableState) (b k : ℕ) (r : Row) (at : ℕ) (new : Task) → Did s w u (Reaches b k r at) new → ⊥
did_reach s w u b k r at new did = elim did [ ]

did_consider : (s : ℕ) (w u : TableState) (job : Job) (at range : ℕ) (new : Task) → Did s w u (Considers job at range) new → ⊥
did_consider s w u job at range new did = elim did [ ]

did_sweep_from : (s : ℕ) (w u : TableState) (at from : ℕ) (new : Task) → Did s w u (SweepsFrom at from) new → ⊥
did_sweep_from s w u at from new did = elim did [ ]

first_did : (s n : ℕ) (w : TableState) → StepsAlone s n w → (u : TableState) × Did s w u (w.task s) (u.task s)
first_did s _ _ (LastAlone w v step p point) = (step.between, step_did s w step.between p step.does point)
first_did s _ _ (OneMoreAlone k w v step p point going more) = (step.between, step_did s w step.between p step.does point)

module _ (s n : ℕ) (w : TableState) (kept : IsTableKept w) (bounded : IsBounded w) (alone : StepsAlone s n w) where
  abbrev u : TableState
  u = (first_did s n w alone).0

  did_from : (task : Task) → w.task s ≡ task → Did s w u task (u.task s)
  did_from task is = subst (λ t. Did s w u t (u.task s)) is (first_did s n w alone).1

  inserts_few : IsInserting (w.task s) → n ≤ few_steps
  inserts_few inserting = insert_few n w.indexes bounded.indexes (insert_within s n w kept inserting alone)

  -- a summarise of the table, or of one range
  ranges_few : (job : Job) (at range : ℕ) (phase : Phase) → w.task s ≡ Maintains job at range phase → IsSummarise job → n ≤ few_steps
  ranges_few job at range phase is summarises =
      summarises_few n (summarise_steps w job at range phase (most_pages * most_slots)) (summarise_few w at small s range job phase kept is)
      (summarise_within s n at range (most_pages * most_slots) w job phase kept is summarises small.tuples alone)
    where
      small : IsSmallAt w at
      small = small_at w at kept bounded (subst (IsInTable w) is (kept.inside s)).0

  -- at its step the statement takes no more steps than that
  pub few_from : (task : Task) → w.task s ≡ task → (task ≡ Resting → ⊥) → IsTaskBounded task → n ≤ few_steps
  few_from Resting is going far = absurd (going refl)
  few_from (Reaches b k r at) is going far = absurd (did_reach s w u b k r at (u.task s) (did_from (Reaches b k r at) is))
  few_from (Asks b k r at) is going far = inserts_few (subst IsInserting (sym is) tt)
  few_from (Inserts b k r at on_index) is going far = inserts_few (subst IsInserting (sym is) tt)
  few_from (Considers job at range) is going far = absurd (did_consider s w u job at range (u.task s) (did_from (Considers job at range) is))
  few_from (Maintains (EachRange extent) at range phase) is going far = ranges_few (EachRange extent) at range phase is tt
  few_from (Maintains (OneRange extent only) at range phase) is going far = ranges_few (OneRange extent only) at range phase is tt
  few_from (Maintains (WholeRanges extent) at range phase) is going far = vacuum_completes s n extent at range phase w kept bounded is alone
  few_from (Maintains (Desummarising only) at range phase) is going far =
      four_few n (desummarise_steps phase) (desummarise_few phase) (desummarise_within s n only at range w phase kept is alone)
  few_from (Prunes extent next) is going far = vacuum_prunes s n extent next w kept bounded is alone
  few_from (SweepsFrom at from) is going far = absurd (did_sweep_from s w u at from (u.task s) (did_from (SweepsFrom at from) is))
  few_from (Sweeps at page) is going far = vacuum_sweeps s n at page w kept bounded is alone
  few_from (Restarts at) is going far = vacuum_restarts s n at w kept bounded is alone
  few_from (Scans scan) is going far =
      scans_few n (scan_steps w scan) (scan_few w bounded scan far) (scan_within s n (most_blocks * most_slots) w scan kept is (rows_at_most w scan kept bounded) alone)
  few_from (Marks scan ids) is going far = marks_few n (length ids) far (marks_within_ids s n w scan ids kept is alone)
