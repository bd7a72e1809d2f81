-- What calls that change no page leave of a table and of started pages.
use Rattle.std.proofs.Common.{◌≡◌, ◌∙◌, ℕ, List, sym, ap, subst}
use Rattle.std.specs.Prelude.{Result, Ok, Err, IfOk, nat_lt}
use Rattle.disk_trait.specs.Told.{Told}
use Rattle.page_map.specs.Keeps.{Keeps, Tells}
use Rattle.page_map.specs.PageMap.{PageMap, View, block_at}
use Rattle.snapshot_core.specs.declared.statuses.Status.{Status}
use Rattle.snapshot_core.specs.declared.statuses.Status.TheVariants.{Begun}
use Rattle.store_layout.specs.DiskLayout.{DiskLayout}
use Rattle.tx_table.specs.Kept.{begun_stored, of_statuses_kept, over_kept}
use Rattle.tx_table.specs.LeavesRest.{AreStarted}
use Rattle.tx_table.specs.Statuses.{OfStatuses, shown_status, status_of}
use Rattle.tx_table.specs.TxState.{IsOver, TxState}

-- a call that changes no page leaves started pages
pub started_kept : {D : Type 0} (told : D → Told) (old new : View D) → Keeps told old new → (Tells told old → AreStarted old.layout old.pages) → Tells told new → AreStarted new.layout new.pages
started_kept told old new kept started tells =
    let told_old : Tells told old = sym kept.leaves.tells ∙ tells in
    subst (λ (layout : DiskLayout). AreStarted layout new.pages) (sym kept.leaves.layout) (subst (AreStarted old.layout) (sym (kept.pages told_old)) (started told_old))

-- and a table over them
pub trial_kept : {D : Type 0} (told : D → Told) (table : TxState) (old new : View D) → Keeps told old new → IsOver told table old × (Tells told old → AreStarted old.layout old.pages) → IsOver told table new × (Tells told new → AreStarted new.layout new.pages)
trial_kept told table old new kept is = (
  over_kept told table old new is.0 kept.leaves (λ tells block. ap (λ (pages : PageMap). block_at pages 0 block) (kept.pages tells)),
  started_kept told old new kept is.1,
)

-- a transaction that is told as begun is begun on its page
pub told_begun : {D E : Type 0} (told : D → Told) (first t : ℕ) (old new : View D) (result : Result Status E) → Keeps told old new → IfOk result (λ status. OfStatuses told old (λ statuses. status ≡ shown_status first statuses t))
    → IfOk result (λ status. status ≡ Begun → OfStatuses told new (λ statuses. status_of statuses t ≡ Begun))
told_begun told first t old new (Ok status) kept shown = λ begun. of_statuses_kept told old new (λ (statuses : List Status). status_of statuses t ≡ Begun) kept
    (λ tells statuses has. begun_stored (nat_lt t first) (status_of statuses t) (sym (shown tells statuses has) ∙ begun))
told_begun told first t old new (Err error) kept shown = tt
