-- What calls leave of a store, one after the other.
use Rattle.std.proofs.Common.{◌≡◌, ◌≢◌, inl, inr, ℕ, ◌+◌, ◌/◌, ◌%◌, ◌<◌, ◌≤◌, List, [], ◌∷◌, length, take, get_or, set, refl, sym, ap, subst, ◌∙◌, arith}
use Rattle.std.specs.Prelude.{Result, Ok, Err, OnOk, OnErr}
use Rattle.std.specs.List.{All}
use Rattle.std.proofs.lemmas.Bool.{cases_eq}
use Rattle.std.proofs.lemmas.List.{take_all}
use Rattle.std.proofs.lemmas.List.Elements.{All-take}
use Rattle.block_model.specs.declared.place.Place.{Place}
use Rattle.disk_trait.specs.Told.{Told}
use Rattle.page_layout.specs.declared.page.Form.{Form}
use Rattle.page_layout.specs.declared.page.Form.TheVariants as forms
use Rattle.page_layout.specs.PageContents.{IsPageOf, IsStatusPage}
use Rattle.page_map.specs.Redo.{IsOfStatuses}
use Rattle.page_map.specs.Forms.{FitsIn, IsPageIn}
use Rattle.page_map.specs.declared.faults.StoreError.{StoreError}
use Rattle.page_map.specs.declared.faults.StoreError.TheVariants as errors
use Rattle.page_map.specs.Keeps.{Keeps, Leaves, Tells}
use Rattle.page_map.specs.Outcome.{NamesPage}
use Rattle.page_map.specs.PageMap.{PageMap, View, block_at, page_at}
use Rattle.snapshot_core.specs.declared.statuses.Status.{Status}
use Rattle.snapshot_core.specs.declared.statuses.Status.TheVariants.{Unused, Begun, Committed, RolledBack}
use Rattle.store_layout.specs.DiskLayout.{DiskLayout, page_offset}
use Rattle.wal_record.specs.Changes.{StatusSet}
use Rattle.tx_table.specs.PageEntries.{entry_on}
use Rattle.tx_table.specs.LeavesRest.{LeavesRest, NamesStatuses}
use Rattle.tx_table.specs.Statuses.{HasEntry, HasStatuses, IsStartedBlock, OfStatuses, number_limit, status_named, status_of, with_all}
use Rattle.tx_table.specs.TxState.{IsNext, IsOver, IsOwn, TxState}
use Rattle.tx_table.proofs.Entries.{begun_started}
use Rattle.tx_table.proofs.Lists.{next_with_all, with_all-next}
use Rattle.tx_table.proofs.Pages.{NumberSet, form_of_statuses, started_kept, status_read}

-- two calls
pub leaves_then : {D : Type 0} (told : D → Told) (old mid new : View D) → Leaves told old mid → Leaves told mid new → Leaves told old new
leaves_then told old mid new first second = record {
  layout = second.layout ∙ first.layout;
  tells = second.tells ∙ first.tells;
  faults = omega (arith, second.faults, first.faults);
}

pub rest_then : {D : Type 0} (told : D → Told) (old mid new : View D) → LeavesRest told old mid → LeavesRest told mid new → LeavesRest told old new
rest_then told old mid new first second = record {
  leaves = leaves_then told old mid new first.leaves second.leaves;
  pages = λ tells place apart. second.pages (first.leaves.tells ∙ tells) place apart ∙ first.pages tells place apart;
  started = λ tells block started. second.started (first.leaves.tells ∙ tells) block (first.started tells block started);
}

-- nothing
pub keeps_same : {D : Type 0} (told : D → Told) (store : View D) → Keeps told store store
keeps_same told store = record { leaves = record { layout = refl; tells = refl; faults = omega arith }; pages = λ tells. refl }

-- a call that changes no page leaves the rest
pub rest_kept : {D : Type 0} (told : D → Told) (old new : View D) → Keeps told old new → LeavesRest told old new
rest_kept told old new kept = record {
  leaves = kept.leaves;
  pages = λ tells place apart. ap (λ (pages : PageMap). page_at pages place) (kept.pages tells);
  started = λ tells block started. subst (λ (pages : PageMap). IsStartedBlock pages block) (sym (kept.pages tells)) started;
}

-- a page of statuses is named
pub names_statuses : (layout : DiskLayout) (place : Place) (error : StoreError) → place.relation ≡ 0 → place.block < layout.sizes.status_blocks → NamesPage layout place error → NamesStatuses layout error
names_statuses layout place errors.Disk relation below names = tt
names_statuses layout place (errors.Reopen faults) relation below names = tt
names_statuses layout place (errors.Damaged at) relation below names = (place.block, below, names ∙ ap (λ (r : ℕ). page_offset layout (record { relation = r; block = place.block })) relation)

-- the page store's change of one number
pub change_rest : {D T E : Type 0} (told : D → Told) (t n : ℕ) (old new : View D) (result : Result T E) → OnOk result (Tells told old → NumberSet t n old.pages new.pages) → OnErr result (Keeps told old new) → Leaves told old new
    → LeavesRest told old new
change_rest told t n old new (Ok value) changed kept leaves = record {
  leaves = leaves;
  pages = λ tells place apart. (changed tells).pages place apart;
  started = λ tells block started. started_kept old.pages new.pages t n block (changed tells) started;
}
change_rest told t n old new (Err error) changed kept leaves = rest_kept told old new kept

-- the table is one of the store as it is now, where its statuses are these
pub over_after : {D : Type 0} (told : D → Told) (table after : TxState) (old new : View D) → IsOver told table old → Leaves told old new → after.first ≡ table.first → table.next ≤ after.next → after.next ≤ number_limit old.layout
    → ((statuses : List Status) → Tells told old → HasStatuses old.layout old.pages statuses → IsNext statuses table.next → (changed : List Status) × HasStatuses old.layout new.pages changed × IsNext changed after.next)
    → IsOver told after new
over_after told table after old new over leaves first grown within made = record {
  some = omega (arith, first, over.some);
  opened = omega (arith, first, grown, over.opened);
  within = subst (λ (layout : DiskLayout). after.next ≤ number_limit layout) (sym leaves.layout) within;
  statuses = λ tells.
      let told_old : Tells told old = sym leaves.tells ∙ tells in
      let found = over.statuses told_old in
      let now = made found.0 told_old found.1 found.2 in
      (now.0, subst (λ (layout : DiskLayout). HasStatuses layout new.pages now.0) (sym leaves.layout) now.1, now.2);
}

-- One status

-- the status on its page is that of the list
pub stored_found : {D : Type 0} (store : View D) (statuses : List Status) (t number : ℕ) (place : Place) (page : List ℕ) → HasStatuses store.layout store.pages statuses → t < number_limit store.layout → place.relation ≡ 0 → place.block ≡ t / 32640
    → page ≡ page_at store.pages place → number ≡ entry_on page (t % 32640) → status_named number ≡ status_of statuses t
stored_found store statuses t number place page has below relation block is entry =
    let same : page ≡ block_at store.pages 0 (t / 32640) = is ∙ (λ i. block_at store.pages (relation i) (block i)) in
    ap status_named (entry ∙ ap (λ (l : List ℕ). entry_on l (t % 32640)) same) ∙ sym (status_read store.layout store.pages statuses t has below)

-- a page that is read is one of statuses
pub page_passes : (layout : DiskLayout) (relation : ℕ) (page : List ℕ) → relation ≡ 0 → IsPageIn layout relation page → IsPageOf forms.Status page
page_passes layout relation page is passes = subst (λ (form : Form). IsPageOf form page) (form_of_statuses layout relation is) passes

-- the change of a number fits a started page
pub set_fits : (layout : DiskLayout) (pages : PageMap) (place : Place) (t entry n : ℕ) → place.relation ≡ 0 → place.block ≡ t / 32640 → entry < 32640 → n < 4 → IsStartedBlock pages (t / 32640) → FitsIn layout place.relation (page_at pages place) (StatusSet place entry n)
set_fits layout pages place t entry n relation block small few started =
    let same : page_at pages place ≡ block_at pages 0 (t / 32640) = λ i. block_at pages (relation i) (block i) in
    (subst (λ (form : Form). IsOfStatuses form (page_at pages place)) (sym (form_of_statuses layout place.relation relation)) (started.0, subst (λ (page : List ℕ). IsStatusPage page started.0) (sym same) started.1), small, few)

-- where a transaction is begun, its page is started
pub started_of : {D : Type 0} (told : D → Told) (table : TxState) (store : View D) (t : ℕ) → IsOver told table store → t < table.next → OfStatuses told store (λ statuses. status_of statuses t ≡ Begun) → Tells told store → IsStartedBlock store.pages (t / 32640)
started_of told table store t over below begun tells =
    let found = over.statuses tells in
    begun_started (block_at store.pages 0 (t / 32640)) (t % 32640)
    (subst (HasEntry (block_at store.pages 0 (t / 32640)) (t % 32640)) (begun tells found.0 found.1) (found.1.each t (omega (arith, below, over.within))))

-- Several statuses

-- one more of the list
pub each_next : {D : Type 0} (told : D → Told) (old mid new : View D) (list : List ℕ) (i t : ℕ) (status : Status) → Leaves told old mid → i < length list → t ≡ get_or list i 0
    → OfStatuses told old (λ statuses. HasStatuses old.layout mid.pages (with_all statuses (take i list) status)) → OfStatuses told mid (λ statuses. HasStatuses mid.layout new.pages (set statuses t status))
    → OfStatuses told old (λ statuses. HasStatuses old.layout new.pages (with_all statuses (take (i + 1) list) status))
each_next told old mid new list i t status leaves below at so_far made = λ tells statuses has.
    let now : HasStatuses mid.layout mid.pages (with_all statuses (take i list) status) = subst (λ (layout : DiskLayout). HasStatuses layout mid.pages (with_all statuses (take i list) status)) (sym leaves.layout) (so_far tells statuses has) in
    subst (HasStatuses old.layout new.pages) (sym (with_all-next statuses list i t status below at))
    (subst (λ (layout : DiskLayout). HasStatuses layout new.pages (set (with_all statuses (take i list) status) t status)) leaves.layout (made (leaves.tells ∙ tells) (with_all statuses (take i list) status) now))

-- a call that changes no page keeps them
pub each_kept : {D : Type 0} (told : D → Told) (old mid new : View D) (changed : List Status → List Status) → Leaves told old mid → Keeps told mid new → OfStatuses told old (λ statuses. HasStatuses old.layout mid.pages (changed statuses))
    → OfStatuses told old (λ statuses. HasStatuses old.layout new.pages (changed statuses))
each_kept told old mid new changed leaves kept so_far = λ tells statuses has. subst (λ (pages : PageMap). HasStatuses old.layout pages (changed statuses)) (sym (kept.pages (leaves.tells ∙ tells))) (so_far tells statuses has)

-- all of the list is a first part of it
pub all_some : {D : Type 0} (told : D → Told) (old new : View D) (list : List ℕ) (status : Status) → OfStatuses told old (λ statuses. HasStatuses old.layout new.pages (with_all statuses list status))
    → OfStatuses told old (λ statuses. (n : ℕ) × HasStatuses old.layout new.pages (with_all statuses (take n list) status))
all_some told old new list status all = λ tells statuses has. (length list, subst (λ (l : List ℕ). HasStatuses old.layout new.pages (with_all statuses l status)) (sym (take_all (length list) list (omega arith))) (all tells statuses has))

-- a change of one, or none
pub one_some : {D T E : Type 0} (told : D → Told) (old new : View D) (t : ℕ) (status : Status) (result : Result T E) → OnOk result (OfStatuses told old (λ statuses. HasStatuses old.layout new.pages (set statuses t status))) → OnErr result (Keeps told old new)
    → OfStatuses told old (λ statuses. (n : ℕ) × HasStatuses old.layout new.pages (with_all statuses (take n (t ∷ [])) status))
one_some told old new t status (Ok value) made kept = λ tells statuses has. (1, made tells statuses has)
one_some told old new t status (Err error) made kept = λ tells statuses has. (0, subst (λ (pages : PageMap). HasStatuses old.layout pages statuses) (sym (kept.pages tells)) has)

-- the table is one of the store, where transactions that began since the opening have a status now
pub over_all : {D : Type 0} (told : D → Told) (table : TxState) (old new : View D) (list : List ℕ) (status : Status) → IsOver told table old → Leaves told old new → All (IsOwn table) list → status ≢ Unused
    → OfStatuses told old (λ statuses. (n : ℕ) × HasStatuses old.layout new.pages (with_all statuses (take n list) status)) → IsOver told table new
over_all told table old new list status over leaves own used made =
    over_after told table table old new over leaves refl (omega arith) over.within (λ statuses tells has next.
    let some = made tells statuses has in (
      with_all statuses (take some.0 list) status,
      some.1,
      next_with_all statuses table.next (take some.0 list) status next (All-take (λ (t : ℕ). t < table.next) some.0 list (λ k d there. (own k d there).given)) (omega (arith, over.within, has.counted)) used,
    ))

pub committed_used : Committed ≢ Unused
committed_used = λ same. absurd cc

pub rolled_back_used : RolledBack ≢ Unused
rolled_back_used = λ same. absurd cc

-- of a list of one
pub all_one : (P : ℕ → Type 0) (t : ℕ) → P t → All P (t ∷ [])
all_one P t one = λ k d there. elim (cases_eq k 0) [
  | inl first ↦ subst (λ (i : ℕ). P (get_or (t ∷ []) i d)) (sym first) one
  | inr later ↦ absurd (omega (arith, there, later))
]
