-- what stands on the disk that comes back
use Rattle.std.proofs.Common.{◌≡◌, ◌≢◌, ℕ, ◌≤◌, List, take, Option, refl, sym, ap, ◌∙◌, subst, arith, ◌⊎◌, inl, inr}
use Rattle.std.specs.Prelude.{IsTrue}
use Rattle.block_model.specs.DatabaseState.{initial_state}
use Rattle.block_model.specs.TableState.{TableState}
use Rattle.block_model.specs.declared.limits.TheConstants.{PAGE_SIZE}
use Rattle.disk_trait.specs.Told.{Told}
use Rattle.disk_trait.specs.Throughout.{Throughout}
use Rattle.store_layout.specs.DiskLayout.{DiskLayout, disk_size}
use Rattle.page_map.specs.PageMap.{PageMap}
use Rattle.recovery.specs.Opens.{OpensAs}
use Rattle.recovery.specs.Untouched.{IsUntouched}
use Rattle.recovery.specs.declared.fault.StartFault.{StartFault}
use Rattle.recovery.specs.declared.fault.StartFault.TheVariants as starts
use Rattle.script_semantics.specs.Place.{Place, database_at}
use Rattle.transactions.specs.FoundLaws.{table_committed}
use Rattle.session_core.specs.FreshPages.{IsNoStore}
use Rattle.session_core.specs.Started.{HoldsImage}
use Rattle.session_core.specs.StopRule.{IsImageWith}
use Rattle.session_core.specs.StoreImage.{IsStoreImage, database_with}
use Rattle.brin_app.specs.declared.top.Task.{Task}
use Rattle.brin_app.specs.declared.top.Task.TheVariants.{Demo, Init, Run, RunStored, Threads, ThreadsStored}
use Rattle.session_orders.specs.CrashRule.{HasTableOf, IsFurther}
use Rattle.brin_app.specs.DemoOutput.{IsFreshDemo}
use Rattle.brin_app.specs.Holding.{HasMade, HasRun, HoldsOn, HoldsOnFor, HoldsStore, HoldsSure, ObeysLaws, StaysStore}
use Rattle.brin_app.specs.Moments.{StopsOfRun}
use Rattle.brin_app.specs.ScriptOutput.{EachImageHas, HoldsFresh, HoldsTable, IsOldOrEmpty, IsStoredOutput, IsUnopened}
use Rattle.brin_app.specs.StatusCauses.{IsDoneSo}
use Rattle.brin_app.specs.Statuses.{IsUnfit, start_status}
use Rattle.brin_app.specs.Tasks.{Asks}
use Rattle.brin_app.specs.WantedSizes.{AsksForNew}
use Rattle.session_orders.proofs.Crash.{image_as}
use Rattle.brin_app.proofs.Doing.{HaveOneLayout, OpenToOneMap, fresh_image, held, table_at}
use Rattle.brin_app.proofs.Moments.{runs_hold}

-- ---- statuses

pub run_only : (status : ℕ) → HasRun status → (status ≢ 6) × (status ≢ 7) × (status ≢ 9) × (status ≢ 11) × (status ≢ 2)
run_only status (inl is) = (λ e. omega (arith, is, e), λ e. omega (arith, is, e), λ e. omega (arith, is, e), λ e. omega (arith, is, e), λ e. omega (arith, is, e))
run_only status (inr (inl is)) = (λ e. omega (arith, is, e), λ e. omega (arith, is, e), λ e. omega (arith, is, e), λ e. omega (arith, is, e), λ e. omega (arith, is, e))
run_only status (inr (inr (inl is))) = (λ e. omega (arith, is, e), λ e. omega (arith, is, e), λ e. omega (arith, is, e), λ e. omega (arith, is, e), λ e. omega (arith, is, e))
run_only status (inr (inr (inr is))) = (λ e. omega (arith, is, e), λ e. omega (arith, is, e), λ e. omega (arith, is, e), λ e. omega (arith, is, e), λ e. omega (arith, is, e))

not_six : (status : ℕ) → HasRun status ⊎ (status ≡ 9) → status ≢ 6
not_six status (inl run) e = (run_only status run).0 e
not_six status (inr nine) e = omega (arith, nine, e)

not_seven : (status : ℕ) → HasRun status ⊎ (status ≡ 9) → status ≢ 7
not_seven status (inl run) e = (run_only status run).1 e
not_seven status (inr nine) e = omega (arith, nine, e)

not_unopened : (status : ℕ) → HasRun status ⊎ (status ≡ 9) → (status ≡ 6) ⊎ (status ≡ 7) → ⊥
not_unopened status has (inl six) = not_six status has six
not_unopened status has (inr seven) = not_seven status has seven

made_run : (task : Task) (status : ℕ) → HasMade task status → HasRun status
made_run (Init layout) status made = made
made_run (Run layout) status made = made
made_run (Demo layout seed rows) status made = made
made_run RunStored status made = absurd made
made_run (Threads layout) status made = absurd made
made_run ThreadsStored status made = absurd made

-- where no store was opened, none was run
refusal_only : (fault : StartFault) → HasRun (start_status fault) → ⊥
refusal_only starts.NoStore run = (run_only 9 run).2 refl
refusal_only (starts.Damaged at) run = (run_only 11 run).3 refl
refusal_only starts.Disk run = (run_only 6 run).0 refl
refusal_only starts.Memory run = (run_only 7 run).1 refl

-- ---- disks

pub laws_of : {D : Type 0} (told : D → Told) → ((d : D) (image : List ℕ) → IsTrue ((told d).now image) → IsTrue (told d).tells_contents) → ((d : D) → IsTrue (told d).tells_images → IsTrue ((told d).now (told d).contents))
    → ((d : D) (t : ℕ) (image : List ℕ) → t ≤ (told d).moment → IsTrue ((told d).now image) → IsTrue ((told d).since t image)) → (d : D) → ObeysLaws (told d)
laws_of told contents here later d = record { contents = λ tells. contents d (told d).contents (here d tells); here = here d; later = later d }

-- what holds of each image throughout a call holds of each that is left by it
at_end : (old new : Told) (P : List ℕ → Type 0) → ObeysLaws new → Throughout old new P → (image : List ℕ) → IsTrue (new.now image) → P image
at_end old new P laws moments image now = moments.each image (laws.later old.moment image moments.later now)

-- bytes that are no store open to nothing
none_held : (disk : Told) → IsNoStore disk.contents → HoldsImage disk
none_held disk none tells layout pages opens = absurd (none layout opens.control)

-- what wasn't written to stays an image
untouched_image : (old new : Told) → IsUntouched old new → HoldsImage old → HoldsImage new
untouched_image old new same holds tells layout pages opens =
    holds (sym same.moments.tells_contents ∙ tells) layout pages (subst (λ (contents : List ℕ). OpensAs layout contents pages) same.contents opens)

-- a store that was just made
pub fresh_sure : (layout : DiskLayout) (old mid : Told) → Throughout old mid (IsOldOrEmpty layout old) → EachImageHas mid layout initial_state.table → (IsTrue old.tells_contents → HoldsFresh mid layout)
    → IsTrue old.tells_contents → IsTrue old.tells_images → HoldsSure mid layout initial_state.table
fresh_sure layout old mid moments made fresh tells images = record {
  tells_contents = moments.tells_contents ∙ tells;
  tells_images = moments.tells_images ∙ images;
  holds = held mid layout (fresh tells);
  each = made;
}

pub holds_task : {status : ℕ} {old new : Told} (task other : Task) → other ≡ task → HoldsOnFor task status old new → HoldsOnFor other status old new
holds_task {status} {old} {new} task other same holds = subst (λ (t : Task). HoldsOnFor t status old new) (sym same) holds

-- words that ask for a new store ask for a task that makes one
made_by : (words : List (List ℕ)) (task : Task) (status : ℕ) → ((other : Task) → Asks words other → other ≡ task) → HasRun status → (layout : DiskLayout) → AsksForNew words layout → HasMade task status
made_by words task status alone run layout (inl init) = subst (λ (t : Task). HasMade t status) (alone (Init layout) init) run
made_by words task status alone run layout (inr (inl new)) = subst (λ (t : Task). HasMade t status) (alone (Run layout) new) run
made_by words task status alone run layout (inr (inr demo)) = subst (λ (t : Task). HasMade t status) (alone (Demo layout demo.0 demo.1) demo.2) run

-- behind the words that ask for the task
pub holds_words : {status : ℕ} {old new : Told} (words : List (List ℕ)) (task : Task) → ((other : Task) → Asks words other → other ≡ task) → HoldsOnFor task status old new → HoldsOn words status old new
holds_words {status} words task alone holds = record {
  kept = holds.kept;
  made = λ layout new run images. holds.made (made_by words task status alone run layout new) images;
  image = holds.image;
}

-- ---- by the laws of the layers below

module _ (one : HaveOneLayout) (map : (layout : DiskLayout) → OpenToOneMap layout) where
  -- the contents are an image of a store, and open to nothing else
  pub image_held : (disk : Told) (layout : DiskLayout) (table : TableState) → IsImageWith layout table disk.contents → HoldsImage disk
  image_held disk layout table has tells other pages opens =
      let same : layout ≡ other = one (take PAGE_SIZE disk.contents) layout other has.1.control opens.control in
      let own : OpensAs layout disk.contents pages = subst (λ (m : DiskLayout). OpensAs m disk.contents pages) (sym same) opens in
      let alike : has.0 ≡ pages = map layout disk.contents has.0 pages has.1.opens own.opens in
      (table, subst (λ (m : DiskLayout). IsStoreImage m pages table) same (subst (λ (x : PageMap). IsStoreImage layout x table) alike has.2))

  -- they are an image of the disk's size: so is each other store that they are
  sized_as : (disk : Told) (layout other : DiskLayout) (table theirs : TableState) → IsImageWith layout table disk.contents → disk_size layout ≡ disk.size → IsImageWith other theirs disk.contents → disk_size other ≡ disk.size
  sized_as disk layout other table theirs has size also =
      let same : layout ≡ other = one (take PAGE_SIZE disk.contents) layout other has.1.control also.1.control in
      subst (λ (m : DiskLayout). disk_size m ≡ disk.size) same size

  module _ (disk : Told) (laws : ObeysLaws disk) where
    -- a table that each image has, the disk holds for sure
    sure_by : IsTrue disk.tells_images → (layout : DiskLayout) (table : TableState) → IsImageWith layout table disk.contents → disk_size layout ≡ disk.size → (other : DiskLayout) (theirs : TableState) → EachImageHas disk other theirs
        → HoldsSure disk other theirs
    sure_by images layout table has size other theirs each =
        let own : IsImageWith other theirs disk.contents = each disk.contents (laws.here images) in
        record {
          tells_contents = laws.contents images;
          tells_images = images;
          holds = record { sized = sized_as disk layout other table theirs has size own; pages = own.0; opens = own.1; image = own.2 };
          each = each;
        }

    stays_as : (status : ℕ) → IsTrue disk.tells_images → (layout : DiskLayout) (table : TableState) → IsImageWith layout table disk.contents → disk_size layout ≡ disk.size
        → (status ≢ 6 → (other : DiskLayout) × (theirs : TableState) × EachImageHas disk other theirs) → StaysStore status disk
    stays_as status images layout table has size all = record {
      image = image_held disk layout table has;
      table = sure_by images layout table has size;
      store = λ not. ((all not).0, (all not).1, sure_by images layout table has size (all not).0 (all not).1 (all not).2);
    }

    -- nothing was done
    pub stays_sure : (status : ℕ) → HoldsStore disk → StaysStore status disk
    stays_sure status store =
        let sure : HoldsSure disk store.0 store.1 = store.2 in
        stays_as status sure.tells_images store.0 store.1 (sure.holds.pages, sure.holds.opens, sure.holds.image) sure.holds.sized (λ _. (store.0, store.1, sure.each))

    -- a script came to that place, whose table each image has, or with it the commit in hand
    ran_image : IsTrue disk.tells_images → (after : Place) (n : ℕ) → ((image : List ℕ) → IsTrue (disk.now image) → HasTableOf after n image) → HoldsImage disk
    ran_image images after n ends = elim (ends disk.contents (laws.here images)) [
      | inl has ↦ image_held disk after.layout (database_at after).table has
      | inr both ↦ image_held disk after.layout (table_committed (database_at after) n) both.1
    ]

  module _ (old new : Told) (laws : ObeysLaws new) where
    -- ---- over a store that stood there for sure

    pub unopened_on : (status : ℕ) (layout : DiskLayout) (table : TableState) (l l' k k' : Option (List ℕ)) → HoldsSure old layout table → IsUnopened status layout table old new l l' k k' → StaysStore status new
    unopened_on status layout table l l' k k' sure un =
        let moments : Throughout old new (IsImageWith layout table) = un.any_moment sure.each in
        let images : IsTrue new.tells_images = moments.tells_images ∙ sure.tells_images in
        let each : EachImageHas new layout table = at_end old new (IsImageWith layout table) laws moments in
        stays_as new laws status images layout table (each new.contents (laws.here images)) (sure.holds.sized ∙ sym moments.size) (λ _. (layout, table, each))

    pub ran_on : (status : ℕ) (layout : DiskLayout) (table : TableState) → HoldsSure old layout table → (n : ℕ) (start after : Place) → start.layout ≡ layout → (database_at start).table ≡ table → IsFurther start after
        → StopsOfRun old new n start after → ((image : List ℕ) → IsTrue (new.now image) → HasTableOf after n image) → (status ≢ 6 → EachImageHas new after.layout (database_at after).table) → StaysStore status new
    ran_on status layout table sure n start after same alike further stops ends whole =
        let moments = stops (λ image now. image_as layout start.layout table (database_at start).table image (sym same) (sym alike) (sure.each image now)) in
        let images : IsTrue new.tells_images = moments.tells_images ∙ sure.tells_images in
        let size : disk_size after.layout ≡ new.size = ap disk_size (further.layout ∙ same) ∙ sure.holds.sized ∙ sym moments.size in
        elim (ends new.contents (laws.here images)) [
          | inl has ↦ stays_as new laws status images after.layout (database_at after).table has size (λ not. (after.layout, (database_at after).table, whole not))
          | inr both ↦ stays_as new laws status images after.layout (table_committed (database_at after) n) both.1 size (λ not. (after.layout, (database_at after).table, whole not))
        ]

    stored_on : (status : ℕ) (l l' k k' : Option (List ℕ)) → IsStoredOutput status old new l l' k k' → HoldsStore old → StaysStore status new
    stored_on status l l' k k' output store =
        let sure : HoldsSure old store.0 store.1 = store.2 in
        elim (output sure.tells_contents store.0 store.1 sure.holds) [
          | inl un ↦ unopened_on status store.0 store.1 l l' k k' sure un
          | inr run ↦
              ran_on status store.0 store.1 sure run.3.session run.0.place run.3.after run.1.opening.layout_is (table_at run.0.place (database_with sure.holds.image.next store.1) run.1.opening.opening_is run.1.opening.journal) run.3.further
              ((runs_hold.scripts status store.0 old new l l' k k' run.0 run.3).opened run.2) run.3.at_end run.3.whole
        ]

    pub demo_on : (status seed rows : ℕ) (layout : DiskLayout) (l k k' : Option (List ℕ)) → IsFreshDemo status seed rows old new layout l l k k' → HoldsSure old layout initial_state.table → StaysStore status new
    demo_on status seed rows layout l k k' (inl un) sure = unopened_on status layout initial_state.table l l k k' sure un
    demo_on status seed rows layout l k k' (inr run) sure =
        ran_on status layout initial_state.table sure run.3.session run.0.place run.3.after run.1.layout_is (table_at run.0.place initial_state run.1.opening run.1.journal) run.3.further
        ((runs_hold.demos status layout seed rows old new k k' run.0 run.3).opened run.2) run.3.at_end run.3.whole

    -- ---- over an image of one, or bytes that don't open

    stored_image : (status : ℕ) (l l' k k' : Option (List ℕ)) → IsStoredOutput status old new l l' k k' → (layout : DiskLayout) (table : TableState) → HoldsTable old layout table → HasRun status ⊎ (status ≡ 9)
        → IsTrue old.tells_contents → IsTrue new.tells_images → HoldsImage new
    stored_image status l l' k k' output layout table holds has tells images = elim (output tells layout table holds) [
      | inl un ↦ absurd (not_unopened status has un.why)
      | inr run ↦ ran_image new laws images run.3.after run.3.session run.3.at_end
    ]

    pub demo_image : (status seed rows : ℕ) (layout : DiskLayout) (l k k' : Option (List ℕ)) → IsFreshDemo status seed rows old new layout l l k k' → HasRun status ⊎ (status ≡ 9) → IsTrue new.tells_images → HoldsImage new
    demo_image status seed rows layout l k k' (inl un) has images = absurd (not_unopened status has un.why)
    demo_image status seed rows layout l k k' (inr run) has images = ran_image new laws images run.3.after run.3.session run.3.at_end

    -- a store was opened; where its bytes were known to be one's, these are its table and layout
    pub opened_on : (status : ℕ) (l l' k k' : Option (List ℕ)) → IsStoredOutput status old new l l' k k' → (HoldsImage old → IsTrue old.tells_contents → (layout : DiskLayout) × (table : TableState) × HoldsTable old layout table)
        → HoldsOnFor RunStored status old new
    opened_on status l l' k k' output found = record {
      kept = stored_on status l l' k k' output;
      made = λ made _. absurd made;
      image = λ holds has tells images. stored_image status l l' k k' output (found holds tells).0 (found holds tells).1 (found holds tells).2 has tells images;
    }

    -- no store was opened
    pub refused_on : (status : ℕ) (fault : StartFault) (l l' k k' : Option (List ℕ)) (r w : Type 0) → status ≡ start_status fault → IsDoneSo RunStored status old new l l' k k' r w → HoldsOnFor RunStored status old new
    refused_on status fault l l' k k' r w said done = record {
      kept = stored_on status l l' k k' done.output;
      made = λ made _. absurd made;
      image = λ holds has _ _. elim has [
        | inl run ↦ absurd (refusal_only fault (subst HasRun said run))
        | inr nine ↦ untouched_image old new (done.refused_disk.untouched nine) holds
      ];
    }

    -- ---- over a disk that wasn't made a store

    -- the disk failed: an image was there before, or is no store, or is the new one
    fault_on : (status : ℕ) (layout : DiskLayout) → status ≡ 6 → old.size ≡ disk_size layout → Throughout old new (IsOldOrEmpty layout old) → HoldsStore old → StaysStore status new
    fault_on status layout six size moments store =
        let sure : HoldsSure old store.0 store.1 = store.2 in
        let images : IsTrue new.tells_images = moments.tells_images ∙ sure.tells_images in
        elim (at_end old new (IsOldOrEmpty layout old) laws moments new.contents (laws.here images)) [
          | inl (inl was) ↦ stays_as new laws status images store.0 store.1 (sure.each new.contents was) (sure.holds.sized ∙ sym moments.size) (λ not. absurd (not six))
          | inl (inr none) ↦
              record {
                image = none_held new none;
                table = λ other theirs each. absurd (let own : IsImageWith other theirs new.contents = each new.contents (laws.here images) in none other own.1.control);
                store = λ not. absurd (not six);
              }
          | inr empty ↦ stays_as new laws status images layout initial_state.table empty (sym size ∙ sym moments.size) (λ not. absurd (not six))
        ]

    pub unfit_on : (task : Task) (status : ℕ) (layout : DiskLayout) → ObeysLaws old → Throughout old new (IsOldOrEmpty layout old) → IsUnfit status layout old new → HoldsOnFor task status old new
    unfit_on task status layout before moments (inl six) = record {
      kept = fault_on status layout six.0 six.2 moments;
      made = λ made _. absurd ((run_only status (made_run task status made)).0 six.0);
      image = λ _ has _ _. absurd (not_six status has six.0);
    }
    unfit_on task status layout before moments (inr nine) = record {
      kept = λ store. subst (λ (disk : Told). StaysStore status disk) (sym nine.2) (stays_sure old before status store);
      made = λ made _. absurd ((run_only status (made_run task status made)).2 nine.0);
      image = λ holds _ _ _. subst HoldsImage (sym nine.2) holds;
    }

  -- nothing is done
  pub idle_on : (words : List (List ℕ)) (status : ℕ) (old : Told) → ObeysLaws old → ¬ (HasRun status) → HoldsOn words status old old
  idle_on words status old laws not = record { kept = stays_sure old laws status; made = λ _ _ run _. absurd (not run); image = λ holds _ _ _. holds }

  -- ---- over a store that was made

  module _ (layout : DiskLayout) (old mid : Told) (moments : Throughout old mid (IsOldOrEmpty layout old)) (made : EachImageHas mid layout initial_state.table) (fresh : IsTrue old.tells_contents → HoldsFresh mid layout)
      (laws : ObeysLaws old) where
    mid_image : HoldsImage mid
    mid_image = fresh_image one mid layout (map layout) (λ tells. fresh (sym moments.tells_contents ∙ tells))

    -- what follows of the new store
    pub made_on : (task : Task) (status : ℕ) (new : Told) → (HoldsSure mid layout initial_state.table → StaysStore status new)
        → (HoldsImage mid → HasRun status ⊎ (status ≡ 9) → IsTrue mid.tells_contents → IsTrue new.tells_images → HoldsImage new) → HoldsOnFor task status old new
    made_on task status new stays image = record {
      kept = λ store. stays (fresh_sure layout old mid moments made fresh store.2.tells_contents store.2.tells_images);
      made = λ _ images. stays (fresh_sure layout old mid moments made fresh (laws.contents images) images);
      image = λ _ has tells. image mid_image has (moments.tells_contents ∙ tells);
    }
