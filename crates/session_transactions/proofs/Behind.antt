-- A mark behind the call that tells whether its row is in conflict, which changes no page.
use Rattle.std.proofs.Common.{◌≡◌, ℕ, None, Some, refl, sym, ap, subst}
use Rattle.std.specs.List.{slice_get}
use Rattle.disk_trait.specs.Told.{Told}
use Rattle.store_layout.specs.DiskLayout.{DiskLayout}
use Rattle.page_map.specs.Keeps.{Keeps, Tells}
use Rattle.page_map.specs.PageMap.{PageMap, View, block_at}
use Rattle.heap_rows.specs.RowPlaces.{IsInUse}
use Rattle.snapshot_core.specs.StoredVersions.{transaction_of}
use Rattle.tx_table.specs.Kept.{over_kept}
use Rattle.tx_table.specs.Statuses.{status_relation}
use Rattle.tx_table.specs.TxState.{IsOver, TxState}
use Rattle.transactions.specs.Laws.{CopyStands, SessionsAreShown}
use Rattle.session_parts.specs.declared.hand.Hand.TheVariants as hands
use Rattle.session_parts.specs.declared.hand.Hit.{Hit}
use Rattle.session_parts.specs.declared.hand.Marking.{Marking}
use Rattle.session_parts.specs.declared.hand.Stepped.{Stepped}
use Rattle.session_parts.specs.declared.parts.Parts.{Parts}
use Rattle.session_parts.specs.Stepping.{IsFit, IsShown}
use Rattle.session_parts.specs.StoreStates.{shown_of, store_of}
use Rattle.session_parts.specs.UndoneLaws.{FitsParts, StepsSo}
use Rattle.session_parts.proofs.Undone.{fit_of_parts, steps_behind}
use Rattle.session_transactions.proofs.Standing.{MarksAt, marks_at, under_way}

-- the transactions stay over the pages
pub over_still : {D : Type 0} (told : D → Told) (tx : TxState) (old mid : View D) → IsOver told tx old → Keeps told old mid → IsOver told tx mid
over_still told tx old mid over keeps = over_kept told tx old mid over keeps.leaves (λ tells block. ap (λ (pages : PageMap). block_at pages status_relation block) (keeps.pages tells))

module _ {D : Type 0} (told : D → Told) (old : Parts D) (pages : View D) (n : ℕ) (marking : Marking) (keeps : Keeps told old.pages pages) where
  abbrev mid : Parts D
  mid = record old { pages = pages }

  pub still_in_use : (table : ℕ) (hit : Hit) → IsInUse old.pages.layout old.pages.pages table hit.spot → Tells told old.pages → IsInUse pages.layout pages.pages table hit.spot
  still_in_use table hit used tells = subst (λ (l : DiskLayout). IsInUse l pages.pages table hit.spot) (sym keeps.leaves.layout) (subst (λ (map : PageMap). IsInUse old.pages.layout map table hit.spot) (sym (keeps.pages tells)) used)

  pub behind : (new : Parts D) (answer : Stepped) → old.pages.failed ≡ None → pages.failed ≡ None → StepsSo told mid new n (hands.Marks marking) answer → StepsSo told old new n (hands.Marks marking) answer
  behind new answer ready still steps = steps_behind told old mid new n (hands.Marks marking) answer keeps ready still (record { transactions = refl; locks = refl; rights = refl; journal = refl; queue = refl; dropped = refl }) steps

-- the row of the next hit stands on the pages
pub in_use : {D : Type 0} (told : D → Told) (sessions : SessionsAreShown) (copies : CopyStands) (parts : Parts D) (n : ℕ) (marking : Marking) (hit : Hit) → IsFit told parts n (hands.Marks marking)
    → IsShown told parts n (hands.Marks marking) → parts.pages.failed ≡ None → slice_get marking.hits.items marking.next ≡ Some hit → Tells told parts.pages
    → IsInUse parts.pages.layout parts.pages.pages marking.query.table hit.spot
in_use told sessions copies parts n marking hit fits shown ready next tells =
    let was : FitsParts told parts n (Some (hands.Marks marking)) = fit_of_parts told parts n (hands.Marks marking) fits in
    let own = under_way (transaction_of parts.transactions.opens n) was.in_hand.0 in
    let store = shown tells ready in
    let at : MarksAt (shown_of (store_of parts store.0 store.1)) store.3.0 n marking hit own.0 store.3.1 =
    marks_at sessions copies (shown_of (store_of parts store.0 store.1)) store.3.0 n marking hit store.2 was.in_hand.1 own.0 own.1 own.2 next store.3.1 in
    (at.table.blocks, at.row, at.table.has, at.there)
