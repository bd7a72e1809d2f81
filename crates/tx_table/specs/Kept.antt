-- what calls leave of the statuses
use Rattle.std.specs.Prelude.{◌≡◌, ℕ, ◌/◌, ◌%◌, ◌≤◌, Bool, true, false}
use Rattle.std.proofs.Common.{◌∙◌, List, sym, subst}
use Rattle.disk_trait.specs.Told.{Told}
use Rattle.page_layout.specs.declared.format.TheConstants.{STATUS_ENTRIES}
use Rattle.page_layout.specs.PageContents.{IsStatusPage}
use Rattle.page_map.specs.Keeps.{Keeps, Leaves, Tells}
use Rattle.page_map.specs.PageMap.{PageMap, View, block_at}
use Rattle.snapshot_core.specs.declared.statuses.Status.{Status}
use Rattle.snapshot_core.specs.declared.statuses.Status.TheVariants.{Unused, Begun, Committed, RolledBack}
use Rattle.store_layout.specs.DiskLayout.{DiskLayout}
use Rattle.tx_table.specs.LeavesRest.{AreStarted}
use Rattle.tx_table.specs.Statuses.{HasEntry, HasStatuses, OfStatuses, after_stop, number_limit, status_of, status_relation}
use Rattle.tx_table.specs.TxState.{IsOver, TxState}

-- each page of statuses is as before
abbrev pub HasSameStatusPages : PageMap → PageMap → Type 0
HasSameStatusPages old new = (block : ℕ) → block_at new status_relation block ≡ block_at old status_relation block

-- so they have the same statuses
pub statuses_kept : (layout : DiskLayout) (old new : PageMap) (statuses : List Status) → HasSameStatusPages old new → HasStatuses layout old statuses → HasStatuses layout new statuses
statuses_kept layout old new statuses same has = record {
  counted = has.counted;
  each = λ t below. subst (λ (page : List ℕ). HasEntry page (t % STATUS_ENTRIES) (status_of statuses t)) (sym (same (t / STATUS_ENTRIES))) (has.each t below);
}

-- they are started as before
pub started_blocks_kept : (layout : DiskLayout) (old new : PageMap) → HasSameStatusPages old new → AreStarted layout old → AreStarted layout new
started_blocks_kept layout old new same started = λ block below. subst (λ (page : List ℕ). (entries : List ℕ) × IsStatusPage page entries) (sym (same block)) (started block below)

-- and the table is still one of this store
pub over_kept : {D : Type 0} (told : D → Told) (table : TxState) (old new : View D) → IsOver told table old → Leaves told old new → (Tells told old → HasSameStatusPages old.pages new.pages) → IsOver told table new
over_kept told table old new over leaves same = record {
  some = over.some;
  opened = over.opened;
  within = subst (λ (layout : DiskLayout). table.next ≤ number_limit layout) (sym leaves.layout) over.within;
  statuses = λ tells.
      let told_old : Tells told old = sym leaves.tells ∙ tells in
      let found = over.statuses told_old in (
        found.0,
        subst (λ (layout : DiskLayout). HasStatuses layout new.pages found.0) (sym leaves.layout) (statuses_kept old.layout old.pages new.pages found.0 (same told_old) found.1),
        found.2,
      );
}

-- a fact of the statuses holds after a call that changes no page
pub of_statuses_kept : {D : Type 0} (told : D → Told) (old new : View D) (P : List Status → Type 0) → Keeps told old new → OfStatuses told old P → OfStatuses told new P
of_statuses_kept told old new P kept fact = λ tells statuses has.
    let told_old : Tells told old = sym kept.leaves.tells ∙ tells in
    fact told_old statuses (subst (λ (pages : PageMap). HasStatuses old.layout pages statuses) (kept.pages told_old) (subst (λ (layout : DiskLayout). HasStatuses layout new.pages statuses) kept.leaves.layout has))

-- a transaction that is told as begun is begun on its page
pub begun_stored : (earlier : Bool) (status : Status) → after_stop earlier status ≡ Begun → status ≡ Begun
begun_stored true Begun is = absurd cc
begun_stored true Unused is = is
begun_stored true Committed is = is
begun_stored true RolledBack is = is
begun_stored false status is = is
