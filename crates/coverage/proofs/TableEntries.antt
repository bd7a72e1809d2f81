-- Which ranges of an index have an entry is the matter of the session alone that holds the summarise lock.
use Rattle.std.proofs.Common.{◌≡◌, ◌≢◌, ◌⊎◌, ⊎_elim, ℕ, ◌<◌, Option, Some, None, true, false, sym, ◌∙◌, ap, subst}
use Rattle.std.specs.Prelude.{refl, ◌↔◌}
use Rattle.std.proofs.lemmas.Option.{none-some}
use Rattle.block_model.specs.declared.row.Row.{Row}
use Rattle.block_model.specs.declared.place.Spot.{Spot}
use Rattle.coverage.specs.Statements.{OnIndex, Statement, Idle, Inserting}
use Rattle.coverage.specs.Steps.{InsertStep}
use Rattle.coverage.proofs.PagesGoOn.{Quiet}
use Rattle.coverage.proofs.PagesKept.{insert_after}
use Rattle.coverage.specs.Table.{Index, Task, Inserts, TableState, index_view_at}
use Rattle.coverage.specs.TableSteps.{OnlyTurns, Fails, Does, PutsRow, RefusesRow, AsksSummary, InsertGoes, InsertCompletes, RefusesInsert, TakesLock}
use Rattle.coverage.specs.TableSteps.{MaintainGoes, MaintainCompletes, RefusesMaintain, RefusesVacuum, PrunesBlock, SweepsPage, RestartsIndex, BeginsScan}
use Rattle.coverage.specs.TableSteps.{Judges, ReadsBlock, RefusesScan, MarksRow, Conflicts, Blocked, Transacts, Settles, GoesOn, GivesLock, TableStep}
use Rattle.coverage.specs.TableCovered.{IsMaintenance, IsTableKept}
use Rattle.coverage.proofs.MachinesIn.{insert_knows}

-- an entry is there as before
abbrev SameEntry : TableState → TableState → ℕ → ℕ → Type 0
SameEntry w v i range = ((w.index i).entry range ≡ None) ↔ ((v.index i).entry range ≡ None)

same_entry : (w v : TableState) (i range : ℕ) → v.index i ≡ w.index i → SameEntry w v i range
same_entry w v i range same =
    let entry = ap (λ (x : Index). x.entry range) same in ((λ none. entry ∙ none), λ none. sym entry ∙ none)

quiet_entry : (w v : TableState) (i range : ℕ) → Quiet (index_view_at i w) (index_view_at i v) → SameEntry w v i range
quiet_entry w v i range quiet = ((λ none. quiet.vacant range none), by ((w.index i).entry range) refl)
  where
    by : (o : Option Spot) → (w.index i).entry range ≡ o → (v.index i).entry range ≡ None → (w.index i).entry range ≡ None
    by None is gone = is
    by (Some x) is gone = absurd (none-some _ (sym gone ∙ (quiet.still range x is).1))

module _ (s : ℕ) (w v : TableState) (kept : IsTableKept w) (free : w.summarise_lock ≢ Some s) (i range : ℕ) where
  holds : {A : Type 0} → (task : Task) → w.task s ≡ task → IsMaintenance task → A
  holds task is maintains = absurd (free ((kept.summarise_lock s).1 (subst IsMaintenance (sym is) maintains)))

  inserts : (b k : ℕ) (r : Row) (at : ℕ) (old : OnIndex) (e : Statement) → w.task s ≡ Inserts b k r at old → at < w.indexes
      → InsertStep s b k r (index_view_at at w) (index_view_at at v) old e → SameEntry w v at range
  inserts b k r at old e is below step =
      let index = kept.indexes at below in
      let known = insert_knows s b k r at w old kept below is in
      ⊎_elim
      (λ (held : w.summarise_lock ≡ Some s). absurd (free held))
      (λ (quiet : Quiet (index_view_at at w) (index_view_at at v)). quiet_entry w v at range quiet)
      (insert_after s b k r (index_view_at at w) (index_view_at at v) index.sound index.ordered old e step known.0.2 known.1).on.quiet

  in_one : (at : ℕ) → ((j : ℕ) → (j ≡ at) ⊎ (v.index j ≡ w.index j)) → SameEntry w v at range → SameEntry w v i range
  in_one at others here = ⊎_elim
      (λ (is : i ≡ at). subst (λ j. SameEntry w v j range) (sym is) here)
      (λ (same : v.index i ≡ w.index i). same_entry w v i range same)
      (others i)

  pub does_entry : Does s w v → SameEntry w v i range
  does_entry (PutsRow b k r place turns takes) = same_entry w v i range (takes.indexes.index i)
  does_entry (RefusesRow t refused turns fails) = same_entry w v i range (fails.indexes.index i)
  does_entry (AsksSummary b k r at turns only) = same_entry w v i range (only.indexes.index i)
  does_entry (InsertGoes b k r at old new turns stepped step) =
      in_one at stepped.others (inserts b k r at old (Inserting b k r new) turns.was stepped.below step)
  does_entry (InsertCompletes b k r at old turns stepped step) = in_one at stepped.others (inserts b k r at old Idle turns.was stepped.below step)
  does_entry (RefusesInsert b k r old refused turns fails) = same_entry w v i range (fails.indexes.index i)
  does_entry (TakesLock first begins turns free held rows indexes) = same_entry w v i range (indexes.index i)
  does_entry (MaintainGoes job at m old new turns stepped step) = holds _ turns.was tt
  does_entry (MaintainCompletes job at m old turns stepped step) = holds _ turns.was tt
  does_entry (RefusesMaintain job at m phase refused turns stepped passes) = holds _ turns.was tt
  does_entry (RefusesVacuum old vacuuming turns given rows indexes) = same_entry w v i range (indexes.index i)
  does_entry (PrunesBlock extent next dropped inside spared turns drops) = same_entry w v i range (drops.indexes.index i)
  does_entry (SweepsPage at page turns stepped sweeps) = holds _ turns.was tt
  does_entry (RestartsIndex at turns only) = same_entry w v i range (only.indexes.index i)
  does_entry (BeginsScan scan begins turns only) = same_entry w v i range (only.indexes.index i)
  does_entry (Judges old new inside low step turns only) = same_entry w v i range (only.indexes.index i)
  does_entry (ReadsBlock scan next found reads turns only) = same_entry w v i range (only.indexes.index i)
  does_entry (RefusesScan scan t turns how) = ⊎_elim
      (λ (fails : (scan.explains ≡ false) × Fails w v t). same_entry w v i range (fails.1.indexes.index i))
      (λ (only : (scan.explains ≡ true) × OnlyTurns w v). same_entry w v i range (only.1.indexes.index i))
      how
  does_entry (MarksRow scan id rest turns only) = same_entry w v i range (only.indexes.index i)
  does_entry (Conflicts scan id rest t turns fails) = same_entry w v i range (fails.indexes.index i)
  does_entry (Blocked task blocked turns only) = same_entry w v i range (only.indexes.index i)
  does_entry (Transacts counts resting few same) = same_entry w v i range (ap (λ (u : TableState). u.index i) same)

settles_index : (s : ℕ) (w v : TableState) (i : ℕ) → Settles s w v → v.index i ≡ w.index i
settles_index s w v i (GoesOn old new onward turns only) = only.indexes.index i
settles_index s w v i (GivesLock old done turns given rows indexes) = indexes.index i

pub step_entry : (s : ℕ) (w v : TableState) (i range : ℕ) → IsTableKept w → TableStep s w v → w.summarise_lock ≢ Some s → SameEntry w v i range
step_entry s w v i range kept step free =
    let one = does_entry s w step.between kept free i range step.does in
    let two = same_entry step.between v i range (settles_index s step.between v i step.settles) in
    ((λ none. two.0 (one.0 none)), λ none. one.1 (two.1 none))
