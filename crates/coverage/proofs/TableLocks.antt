-- The summarise lock is held for maintenance, and for nothing else.
use Rattle.std.proofs.Common.{◌≡◌, ◌⊎◌, inr, inl, ⊎_elim, ℕ, Some, None, sym, ◌∙◌, ap, subst, suc}
use Rattle.std.proofs.lemmas.Option.{same_Some, none-some}
use Rattle.block_model.specs.declared.row.Row.{Row}
use Rattle.coverage.specs.Statements.{Idle, Inserting, Maintaining, Holding}
use Rattle.coverage.proofs.Runs.{insert_keeps}
use Rattle.coverage.specs.Table.{Task, Resting, Considers, Maintains, Prunes, SweepsFrom, Sweeps, Restarts, Scans, TableState, index_view_at}
use Rattle.coverage.specs.TableSteps.{BeginsWith, Summarize, IsInsertRefused, IndexFull, IsVacuuming, Does, PutsRow, RefusesRow, AsksSummary, InsertGoes}
use Rattle.coverage.specs.TableSteps.{InsertCompletes, RefusesInsert, TakesLock, MaintainGoes, MaintainCompletes, RefusesMaintain, RefusesVacuum, PrunesBlock}
use Rattle.coverage.specs.TableSteps.{SweepsPage, RestartsIndex, BeginsScan, Judges, ReadsBlock, RefusesScan, MarksRow, Conflicts, Blocked, Transacts, Onward}
use Rattle.coverage.specs.TableSteps.{ToRange, NextIndex, Pruned, ToPage, Swept, JudgesNext, IsMaintained, RangesDone, NothingToSweep, Settles, GoesOn}
use Rattle.coverage.specs.TableSteps.{GivesLock}
use Rattle.coverage.specs.TableCovered.{IsMaintenance, IsHeldForMaintenance}
use Rattle.coverage.proofs.TableSettled.{job_lock_kept}

begins_maintenance : (w : TableState) (first : Task) → BeginsWith w first → IsMaintenance first
begins_maintenance w _ (Summarize at below) = tt
begins_maintenance w _ _ = tt

pub vacuuming_maintenance : (task : Task) → IsVacuuming task → IsMaintenance task
vacuuming_maintenance (Considers job at range) is = tt
vacuuming_maintenance (Maintains job at range phase) is = tt
vacuuming_maintenance (Prunes extent next) is = tt
vacuuming_maintenance (SweepsFrom at from) is = tt
vacuuming_maintenance (Sweeps at page) is = tt
vacuuming_maintenance (Restarts at) is = tt
vacuuming_maintenance _ is = absurd is

refused_no_maintenance : (w : TableState) (s b k : ℕ) (r : Row) (old : Task) → IsInsertRefused w s b k r old → IsMaintenance old → ⊥
refused_no_maintenance w s b k r _ (IndexFull number at x old new verdict) maintains = maintains

maintained_maintenance : (w : TableState) (task : Task) → IsMaintained w task → IsMaintenance task
maintained_maintenance w _ (RangesDone job at range done last) = tt
maintained_maintenance w _ (NothingToSweep extent next all none) = tt

-- where a statement goes on it is maintenance as before, or none as before
abbrev SameSort : Task → Task → Type 0
SameSort old new = (IsMaintenance old → IsMaintenance new) × (IsMaintenance new → IsMaintenance old)

onward_maintenance : (w : TableState) (old new : Task) → Onward w old new → SameSort old new
onward_maintenance w _ _ (ToRange job at range has) = ((λ m. tt), λ m. tt)
onward_maintenance w _ _ (NextIndex extent at range done inside) = ((λ m. tt), λ m. tt)
onward_maintenance w _ _ (Pruned extent next new all more) = let same = onward_maintenance w (SweepsFrom 0 0) new more in ((λ m. same.0 tt), λ m. tt)
onward_maintenance w _ _ (ToPage at from m p next) = ((λ m. tt), λ m. tt)
onward_maintenance w _ _ (Swept at from none some) = ((λ m. tt), λ m. tt)
onward_maintenance w _ _ (JudgesNext scan new inside all empty more) =
    let same = onward_maintenance w (Scans (record scan { at = suc scan.at; range = 0 })) new more in ((λ m. absurd m), λ m. same.1 m)
onward_maintenance w _ _ _ = ((λ m. m), λ m. m)

module _ (s : ℕ) (w v : TableState) (others : (n : ℕ) → (n ≡ s) ⊎ (v.task n ≡ w.task n)) (kept : IsHeldForMaintenance w) where
  -- the lock stays, and the session's statement is maintenance as before, or none as before
  stays : (old new : Task) → w.task s ≡ old → v.task s ≡ new → SameSort old new → v.summarise_lock ≡ w.summarise_lock → IsHeldForMaintenance v
  stays old new was now same lock n = (
    λ held.
        let before : IsMaintenance (w.task n) = (kept n).0 (sym lock ∙ held) in
        ⊎_elim
        (λ (at : n ≡ s).
        subst (λ m. IsMaintenance (v.task m)) (sym at)
        (subst IsMaintenance (sym now) (same.0 (subst IsMaintenance was (subst (λ m. IsMaintenance (w.task m)) at before)))))
        (λ (e : v.task n ≡ w.task n). subst IsMaintenance (sym e) before)
        (others n),
    λ maintains. lock ∙ (kept n).1 (⊎_elim
        (λ (at : n ≡ s).
        subst (λ m. IsMaintenance (w.task m)) (sym at)
        (subst IsMaintenance (sym was) (same.1 (subst IsMaintenance now (subst (λ m. IsMaintenance (v.task m)) at maintains)))))
        (λ (e : v.task n ≡ w.task n). subst IsMaintenance e maintains)
        (others n)),
  )

  taken : (new : Task) → v.task s ≡ new → IsMaintenance new → w.summarise_lock ≡ None → v.summarise_lock ≡ Some s → IsHeldForMaintenance v
  taken new now is free held n = (
    λ by. subst (λ m. IsMaintenance (v.task m)) (same_Some _ _ (sym held ∙ by)) (subst IsMaintenance (sym now) is),
    λ maintains. elim (others n) [ inl at ↦ held ∙ ap Some (sym at) | inr e ↦ absurd (none-some _ (sym free ∙ (kept n).1 (subst IsMaintenance e maintains))) ],
  )

  given : (old : Task) → w.task s ≡ old → IsMaintenance old → v.task s ≡ Resting → v.summarise_lock ≡ None → IsHeldForMaintenance v
  given old was is now free n = (
    λ held. absurd (none-some _ (sym free ∙ held)),
    λ maintains.
        let resting = λ (at : n ≡ s). absurd {A = v.summarise_lock ≡ Some n} (subst IsMaintenance now (subst (λ m. IsMaintenance (v.task m)) at maintains)) in
        ⊎_elim
        resting
        (λ (e : v.task n ≡ w.task n).
        resting (same_Some _ _ (sym ((kept n).1 (subst IsMaintenance e maintains)) ∙ (kept s).1 (subst IsMaintenance (sym was) is))))
        (others n),
  )

pub does_lock : (s : ℕ) (w v : TableState) → IsHeldForMaintenance w → Does s w v → IsHeldForMaintenance v
does_lock s w v kept (PutsRow b k r place turns takes) = stays s w v turns.others kept _ _ turns.was turns.now ((λ m. m), λ m. m) takes.summarise_lock
does_lock s w v kept (RefusesRow t refused turns fails) = stays s w v turns.others kept _ _ turns.was turns.now ((λ m. m), λ m. m) fails.summarise_lock
does_lock s w v kept (AsksSummary b k r at turns only) = stays s w v turns.others kept _ _ turns.was turns.now ((λ m. m), λ m. m) only.summarise_lock
does_lock s w v kept (InsertGoes b k r at old new turns stepped step) =
    stays s w v turns.others kept _ _ turns.was turns.now ((λ m. m), λ m. m)
    (insert_keeps s b k r (index_view_at at w) (index_view_at at v) old (Inserting b k r new) step).1
does_lock s w v kept (InsertCompletes b k r at old turns stepped step) =
    stays s w v turns.others kept _ _ turns.was turns.now ((λ m. m), λ m. m)
    (insert_keeps s b k r (index_view_at at w) (index_view_at at v) old Idle step).1
does_lock s w v kept (RefusesInsert b k r old refused turns fails) =
    stays s w v turns.others kept old Resting turns.was turns.now
    ((λ m. refused_no_maintenance w s b k r old refused m), λ m. absurd m) fails.summarise_lock
does_lock s w v kept (TakesLock first begins turns free held rows indexes) =
    taken s w v turns.others kept first turns.now (begins_maintenance w first begins) free held
does_lock s w v kept (MaintainGoes job at range old new turns stepped step) =
    stays s w v turns.others kept _ _ turns.was turns.now ((λ m. tt), λ m. tt)
    (job_lock_kept job s range (index_view_at at w) (index_view_at at v) old (Maintaining range new) step)
does_lock s w v kept (MaintainCompletes job at range old turns stepped step) =
    stays s w v turns.others kept _ _ turns.was turns.now ((λ m. tt), λ m. tt)
    (job_lock_kept job s range (index_view_at at w) (index_view_at at v) old Holding step)
does_lock s w v kept (RefusesMaintain job at range phase refused turns stepped passes) =
    given s w v turns.others kept _ turns.was tt turns.now passes.now
does_lock s w v kept (RefusesVacuum old vacuuming turns free rows indexes) =
    given s w v turns.others kept old turns.was (vacuuming_maintenance old vacuuming) turns.now free
does_lock s w v kept (PrunesBlock extent next dropped inside spared turns drops) =
    stays s w v turns.others kept _ _ turns.was turns.now ((λ m. tt), λ m. tt) drops.summarise_lock
does_lock s w v kept (SweepsPage at page turns stepped sweeps) =
    stays s w v turns.others kept _ _ turns.was turns.now ((λ m. tt), λ m. tt) sweeps.frame.summarise_lock
does_lock s w v kept (RestartsIndex at turns only) = stays s w v turns.others kept _ _ turns.was turns.now ((λ m. tt), λ m. tt) only.summarise_lock
does_lock s w v kept (BeginsScan scan begins turns only) = stays s w v turns.others kept _ _ turns.was turns.now ((λ m. m), λ m. m) only.summarise_lock
does_lock s w v kept (Judges old new inside low step turns only) =
    stays s w v turns.others kept _ _ turns.was turns.now ((λ m. m), λ m. m) only.summarise_lock
does_lock s w v kept (ReadsBlock scan next found reads turns only) =
    stays s w v turns.others kept _ _ turns.was turns.now ((λ m. m), λ m. m) only.summarise_lock
does_lock s w v kept (RefusesScan scan t turns how) =
    stays s w v turns.others kept _ _ turns.was turns.now ((λ m. m), λ m. m)
    (elim how [ inl fails ↦ fails.1.summarise_lock | inr only ↦ only.1.summarise_lock ])
does_lock s w v kept (MarksRow scan id rest turns only) =
    stays s w v turns.others kept _ _ turns.was turns.now ((λ m. m), λ m. m) only.summarise_lock
does_lock s w v kept (Conflicts scan id rest t turns fails) =
    stays s w v turns.others kept _ _ turns.was turns.now ((λ m. m), λ m. m) fails.summarise_lock
does_lock s w v kept (Blocked task blocked turns only) = stays s w v turns.others kept task task turns.was turns.now ((λ m. m), λ m. m) only.summarise_lock
does_lock s w v kept (Transacts counts resting few same) =
    stays s w v (λ n. inr (ap (λ (u : TableState). u.task n) same)) kept Resting Resting resting (ap (λ (u : TableState). u.task s) same ∙ resting)
    ((λ m. m), λ m. m) (ap (λ (u : TableState). u.summarise_lock) same)

pub settles_lock : (s : ℕ) (w v : TableState) → IsHeldForMaintenance w → Settles s w v → IsHeldForMaintenance v
settles_lock s w v kept (GoesOn old new onward turns only) =
    stays s w v turns.others kept old new turns.was turns.now (onward_maintenance w old new onward) only.summarise_lock
settles_lock s w v kept (GivesLock old done turns free rows indexes) =
    given s w v turns.others kept old turns.was (maintained_maintenance w old done) turns.now free
