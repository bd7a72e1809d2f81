-- What the images of a disk have at the moments of a start, and what the store shows then.
use Rattle.std.proofs.Common.{◌≡◌, ◌≤◌, ◌⊎◌, ◌∙◌, ℕ, List, [], None, ⊎_elim, refl, sym, subst, ap, arith}
use Rattle.std.proofs.lemmas.Option.{none-some}
use Rattle.std.specs.Prelude.{IsTrue, take}
use Rattle.block_model.specs.Causes.{rose_earlier}
use Rattle.block_model.specs.declared.limits.TheConstants.{PAGE_SIZE}
use Rattle.block_model.specs.declared.request.Entry.{Entry}
use Rattle.block_model.specs.DatabaseState.{DatabaseState}
use Rattle.block_model.specs.SerialRun.{serial_run}
use Rattle.block_model.specs.TableState.{TableState}
use Rattle.store_format.specs.ControlPage.{HasControl}
use Rattle.disk_trait.specs.Told.{Told}
use Rattle.disk_trait.specs.Throughout.{Throughout}
use Rattle.disk_trait.specs.ThroughoutLaws.{joined, weaker}
use Rattle.page_store.specs.Refused.{IsRefused as StartRefused}
use Rattle.page_store.specs.Survives.{Survives}
use Rattle.page_map.specs.declared.faults.MachineFault.{MachineFault}
use Rattle.page_map.specs.declared.faults.MachineFault.TheVariants as faults
use Rattle.page_map.specs.declared.faults.StoreError.TheVariants as errors
use Rattle.page_map.specs.Keeps.{Keeps, Tells}
use Rattle.page_map.specs.PageMap.{PageMap, View}
use Rattle.store_layout.specs.DiskLayout.{DiskLayout}
use Rattle.recovery.specs.declared.fault.StartFault.{StartFault}
use Rattle.recovery.specs.declared.fault.StartFault.TheVariants as starts
use Rattle.recovery.specs.Held.{held_before}
use Rattle.recovery.specs.Opens.{Opens, OpensAs}
use Rattle.recovery.specs.Reaches.{OpensAsBefore, ReachesAny}
use Rattle.tx_table.specs.Durable.{IsBefore}
use Rattle.script_semantics.specs.Place.{Place, database_at}
use Rattle.script_semantics.specs.Starts.{IsOpening}
use Rattle.session_parts.specs.declared.parts.Parts.{Parts}
use Rattle.session_parts.specs.StoreStates.{shown_of, store_of}
use Rattle.session_starts.specs.ImageLaws.{ImageIsShown, IsOpenedStore}
use Rattle.session_starts.specs.StoreImage.{IsStoreImage, database_with}
use Rattle.session_starts.specs.StopRule.{AllHaveTable, IsImageWith}
use Rattle.session_starts.specs.OpenedParts.{AreOpened, IsRefused}
use Rattle.session_starts.specs.Started.{ImagesStay, OpensTable, start_fault}

-- an image is that of one layout, and opens to one map of each
abbrev pub OneLayout : Type 0
OneLayout = (page : List ℕ) (a b : DiskLayout) → HasControl a page → HasControl b page → a ≡ b

abbrev pub OneMap : DiskLayout → Type 0
OneMap layout = (image : List ℕ) (a b : PageMap) → Opens layout image a → Opens layout image b → a ≡ b

-- the pages are started: each image has what those of before had
pub start_stays : (old new : Told) → Throughout old new (OpensAsBefore old) → ImagesStay old new
start_stays old new all layout table each =
    weaker old new (OpensAsBefore old) (IsImageWith layout table) all (held_before layout (λ pages. IsStoreImage layout pages table) old each)

-- what each image of some moments has, those of the last one have
pub stays_behind : (old mid : Told) (layout : DiskLayout) (table : TableState) → Throughout old mid (IsImageWith layout table) → ((image : List ℕ) → IsTrue (mid.now image) → IsTrue (mid.since old.moment image))
    → (image : List ℕ) → IsTrue (mid.now image) → IsImageWith layout table image
stays_behind old mid layout table all counts image now = all.each image (counts image now)

-- Calls behind the start, that pass no other pages: whatever a stop leaves opens to these.
module _ {D : Type 0} (told : D → Told) (mid new : View D) (sure : (image : List ℕ) → IsTrue ((told mid.disk).now image) → OpensAs mid.layout image mid.pages) (survives : Survives told (IsBefore mid) mid new) where
  -- so does each image at a moment of them
  pub opens_there : (image : List ℕ) → ReachesAny mid.layout (told mid.disk) (IsBefore mid) image → OpensAs mid.layout image mid.pages
  opens_there image there =
      ⊎_elim (λ (passed : (pages : PageMap) × (pages ≡ mid.pages) × OpensAs mid.layout image pages). subst (OpensAs mid.layout image) passed.1 passed.2)
      (λ (more : (others : PageMap) → OpensAs mid.layout there.0 others → OpensAs mid.layout image others). more mid.pages (sure there.0 there.1)) there.2

  module _ (one_layout : OneLayout) (one_map : OneMap mid.layout) (layout : DiskLayout) (table : TableState) (each : (image : List ℕ) → IsTrue ((told mid.disk).now image) → IsImageWith layout table image) where
    -- one that has a table opens to the same pages, and so they have it
    as_image : (before image : List ℕ) → OpensAs mid.layout before mid.pages → OpensAs mid.layout image mid.pages → IsImageWith layout table before → IsImageWith layout table image
    as_image before image was opens has =
        let same : layout ≡ mid.layout = one_layout (take PAGE_SIZE before) layout mid.layout has.1.control was.control in
        let there : IsImageWith mid.layout table before = subst (λ (l : DiskLayout). IsImageWith l table before) same has in
        let here : IsStoreImage mid.layout mid.pages table = subst (λ (pages : PageMap). IsStoreImage mid.layout pages table) (one_map before there.0 mid.pages there.1.opens was.opens) there.2 in
        subst (λ (l : DiskLayout). IsImageWith l table image) (sym same) (mid.pages, opens, here)

    pub calls_stay : Throughout (told mid.disk) (told new.disk) (IsImageWith layout table)
    calls_stay =
        weaker (told mid.disk) (told new.disk) (ReachesAny mid.layout (told mid.disk) (IsBefore mid)) (IsImageWith layout table) survives.moments
        (λ image there. as_image there.0 image (sure there.0 there.1) (opens_there image there) (each there.0 there.1))

-- the start and the calls behind it
pub start_and_calls : {D : Type 0} (told : D → Told) (old : Told) (mid new : View D) → ((image : List ℕ) → IsTrue ((told mid.disk).now image) → OpensAs mid.layout image mid.pages) → Survives told (IsBefore mid) mid new
    → OneLayout → OneMap mid.layout → ((image : List ℕ) → IsTrue ((told mid.disk).now image) → IsTrue ((told mid.disk).since old.moment image)) → Throughout old (told mid.disk) (OpensAsBefore old)
    → ImagesStay old (told new.disk)
start_and_calls told old mid new sure survives one_layout one_map counts all layout table each =
    let first = start_stays old (told mid.disk) all layout table each in
    joined old (told mid.disk) (told new.disk) (IsImageWith layout table) first (calls_stay told mid new sure survives one_layout one_map layout table (stays_behind old (told mid.disk) layout table first counts))

-- a refusal of the pages of statuses is one of the start, in which the count of faults hadn't fallen before
module _ {D : Type 0} (told : D → Told) (old : Told) (mid new : View D) (same : (told mid.disk).tells_contents ≡ old.tells_contents) (rose : old.faults ≤ (told mid.disk).faults) (later : (told mid.disk).faults ≤ (told new.disk).faults) (ready : mid.failed ≡ None) where
  refused_so : (fault : MachineFault) → IsRefused told mid new fault → StartRefused old (told new.disk) (start_fault fault)
  refused_so faults.Memory outcome = subst (λ (v : View D). old.faults ≤ (told v.disk).faults) (sym outcome.1) rose
  refused_so (faults.Full relation number) outcome = absurd outcome
  refused_so (faults.Store errors.Disk) outcome = (omega (arith, rose, later), rose_earlier old.faults (told mid.disk).faults (told new.disk).faults rose outcome.1)
  refused_so (faults.Store (errors.Damaged at)) outcome = (λ tells. absurd (outcome.3 (same ∙ tells)), omega (arith, rose, outcome.2))
  refused_so (faults.Store (errors.Reopen count)) outcome = absurd (none-some count (sym ready ∙ outcome.0))

  -- the pages of statuses of a disk that tells its contents aren't damaged
  pub undamaged : (fault : MachineFault) (at : ℕ) → IsRefused told mid new fault → start_fault fault ≡ starts.Damaged at → IsTrue old.tells_contents → ⊥
  undamaged faults.Memory at outcome is tells = cc
  undamaged (faults.Full relation number) at outcome is tells = outcome
  undamaged (faults.Store errors.Disk) at outcome is tells = cc
  undamaged (faults.Store (errors.Damaged byte)) at outcome is tells = outcome.3 (same ∙ tells)
  undamaged (faults.Store (errors.Reopen count)) at outcome is tells = absurd (none-some count (sym ready ∙ outcome.0))

  pub start_refused : (fault : MachineFault) (told_so : StartFault) (disk : D) → IsRefused told mid new fault → told_so ≡ start_fault fault → disk ≡ new.disk → StartRefused old (told disk) told_so
  start_refused fault told_so disk outcome is back =
      subst (λ (d : D). StartRefused old (told d) told_so) (sym back) (subst (StartRefused old (told new.disk)) (sym is) (refused_so fault outcome))

-- parts that were opened over the pages of a store with a table show it, and each image has it
module _ {D : Type 0} (told : D → Told) (mid : View D) (parts : Parts D) (sure : (image : List ℕ) → IsTrue ((told mid.disk).now image) → OpensAs mid.layout image mid.pages)
    (survives : Survives told (IsBefore mid) mid parts.pages) (kept : Keeps told mid parts.pages) (opened : AreOpened told parts) where
  is_opened : Tells told parts.pages → IsOpenedStore (shown_of (store_of parts [] []))
  is_opened tells =
      let found = opened.over.statuses tells in
      record {
        opened = opened.opened;
        stored = found.0;
        has = found.1;
        next = found.2;
        unlocked = opened.unlocked;
        free = opened.free;
        entries = opened.entries;
        queue = opened.queue;
        dropped = opened.dropped;
        names = refl;
        hands = λ n. refl;
      }

  each_opens : Tells told mid → (image : List ℕ) → IsTrue ((told parts.pages.disk).now image) → OpensAs parts.pages.layout image parts.pages.pages
  each_opens tells image now =
      subst (λ (l : DiskLayout). OpensAs l image parts.pages.pages) (sym kept.leaves.layout)
      (subst (OpensAs mid.layout image) (sym (kept.pages tells)) (opens_there told mid parts.pages sure survives image (survives.images image now)))

  module _ (tells : Tells told mid) (next : ℕ) (table : TableState) (image : IsStoreImage parts.pages.layout parts.pages.pages table) (p : Place) (begins : IsOpening parts.pages.layout (database_with next table) p) where
    its_table : (database_at p).table ≡ table
    its_table = ap (λ (journal : List Entry). (serial_run p.opening journal).table) begins.journal ∙ ap (λ (s : DatabaseState). s.table) begins.opening_is

    has_table : AllHaveTable told parts.pages p
    has_table found now =
        subst (λ (l : DiskLayout). IsImageWith l (database_at p).table found) (sym begins.layout_is)
        (subst (λ (t : TableState). IsImageWith parts.pages.layout t found) (sym its_table) (parts.pages.pages, each_opens tells found now, image))

  pub opens_table : ImageIsShown parts.pages.layout → OpensTable told (store_of parts [] [])
  opens_table law tells table image =
      let shown = law (shown_of (store_of parts [] [])) table refl (is_opened tells) image in
      (shown.0, shown.1, shown.2, has_table (sym kept.leaves.tells ∙ tells) image.next table image shown.0 shown.1)
