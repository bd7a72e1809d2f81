-- what holds of the statuses before and after a call that changes no page
use Rattle.std.proofs.Common.{List, refl, sym, subst, ◌∙◌, arith}
use Rattle.disk_trait.specs.Told.{Told}
use Rattle.page_map.specs.Keeps.{Keeps}
use Rattle.page_map.specs.PageMap.{PageMap, View}
use Rattle.snapshot_core.specs.declared.statuses.Status.{Status}
use Rattle.store_layout.specs.DiskLayout.{DiskLayout}
use Rattle.tx_table.specs.Statuses.{HasStatuses, OfStatuses}

module _ {D : Type 0} (told : D → Told) (old new : View D) (kept : Keeps told old new) (P : List Status → Type 0) where
  pub told_after : OfStatuses told old P → OfStatuses told new P
  told_after of tells statuses has =
      let told_before = sym kept.leaves.tells ∙ tells in
      of told_before statuses (subst (λ (l : DiskLayout). HasStatuses l old.pages statuses) kept.leaves.layout (subst (λ (p : PageMap). HasStatuses new.layout p statuses) (kept.pages told_before) has))

  pub told_before : OfStatuses told new P → OfStatuses told old P
  told_before of tells statuses has =
      of (kept.leaves.tells ∙ tells) statuses
      (subst (λ (l : DiskLayout). HasStatuses l new.pages statuses) (sym kept.leaves.layout) (subst (λ (p : PageMap). HasStatuses old.layout p statuses) (sym (kept.pages tells)) has))

-- before any call a store is as it is
pub keeps_same : {D : Type 0} (told : D → Told) (store : View D) → Keeps told store store
keeps_same told store = record { leaves = record { layout = refl; tells = refl; faults = omega arith }; pages = λ tells. refl }
