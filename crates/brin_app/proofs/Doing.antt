-- what is done for a task, by what is done with its disk
use Rattle.std.proofs.Common.{◌≡◌, ◌≢◌, ℕ, ◌≤◌, ◌<◌, List, [], length, take, Option, None, refl, sym, ap, ◌∙◌, subst, arith, ◌⊎◌, inl, inr}
use Rattle.std.specs.Prelude.{IsTrue}
use Rattle.block_model.specs.Causes.{Rose, rose_earlier}
use Rattle.block_model.specs.DatabaseState.{DatabaseState, initial_state}
use Rattle.block_model.specs.SerialRun.{serial_run}
use Rattle.block_model.specs.TableState.{TableState}
use Rattle.block_model.specs.declared.limits.TheConstants.{PAGE_SIZE}
use Rattle.block_model.specs.declared.request.Entry.{Entry}
use Rattle.store_format.specs.ControlPage.{HasControl}
use Rattle.disk_trait.specs.Told.{Told}
use Rattle.disk_trait.specs.Throughout.{Throughout}
use Rattle.disk_trait.specs.ThroughoutLaws.{joined, started, weaker}
use Rattle.store_layout.specs.DiskLayout.{DiskLayout}
use Rattle.page_map.specs.Keeps.{Tells}
use Rattle.page_map.specs.PageMap.{PageMap}
use Rattle.recovery.specs.Damaged.{IsDamaged}
use Rattle.recovery.specs.Opens.{Opens, OpensAs}
use Rattle.recovery.specs.PageOrder.{AreInOrder}
use Rattle.recovery.specs.StartCauses.{HasStore, IsDamagedStore}
use Rattle.recovery.specs.Untouched.{IsUntouched, KeepsFront}
use Rattle.recovery.specs.declared.fault.StartFault.{StartFault}
use Rattle.recovery.specs.declared.fault.StartFault.TheVariants as starts
use Rattle.page_store.specs.Refused.{IsRefused}
use Rattle.session_core.specs.FreshPages.{IsOldOrFresh, fresh_pages}
use Rattle.script_semantics.specs.Place.{Place, database_at}
use Rattle.script_semantics.specs.Starts.{IsOpening, IsStart}
use Rattle.session_parts.specs.ShowsPlace.{ShowsPlace}
use Rattle.session_parts.specs.StoreStates.{StoreState, shown_of}
use Rattle.session_core.specs.StopRule.{AllHaveTable, IsImageWith}
use Rattle.session_core.specs.StoreImage.{IsStoreImage, IsTableOn, database_with}
use Rattle.session_core.specs.OpenedParts.{ShowsStart}
use Rattle.session_core.specs.Started.{HoldsImage, ImagesStay, OpensTable}
use Rattle.brin_app.specs.declared.top.Task.{Task}
use Rattle.brin_app.specs.declared.top.Task.TheVariants.{Demo, Init, Run, RunStored, Threads, ThreadsStored}
use Rattle.session_orders.specs.CrashRule.{Stand}
use Rattle.brin_app.specs.ScriptOutput.{EachImageHas, HoldsFresh, HoldsTable, IsFreshOutput, IsIdle, IsMade, IsOldOrEmpty, IsOpenedAt, IsScriptRun, IsUnopened, StartsOver}
use Rattle.brin_app.specs.StatusCauses.{HasSpentCauses, IsCompleteOf, IsDoneSo, IsRefusedSo, IsSpentOf}
use Rattle.brin_app.specs.Statuses.{IsFit, IsStatus, IsUnfit, start_status}
use Rattle.brin_app.specs.TaskOutputs.{IsOutputOf}
use Rattle.session_orders.proofs.Crash.{image_as}
use Rattle.brin_app.proofs.Known.{is_0, is_6, is_9, same_status, start_known}
use Rattle.brin_app.proofs.Outputs.{idle_past, idle_spent, run_complete, run_spent}

-- ---- laws of the layers below

abbrev pub HaveOneLayout : Type 0
HaveOneLayout = (page : List ℕ) (a b : DiskLayout) → HasControl a page → HasControl b page → a ≡ b

abbrev pub OpenToOneMap : DiskLayout → Type 0
OpenToOneMap layout = (image : List ℕ) (a b : PageMap) → Opens layout image a → Opens layout image b → a ≡ b

abbrev pub AreNotDamaged : Type 0
AreNotDamaged = (layout : DiskLayout) (image : List ℕ) (pages : PageMap) (at : ℕ) → Opens layout image pages → AreInOrder layout pages → IsDamaged layout image at → ⊥

-- ---- disks

pub held : (disk : Told) (layout : DiskLayout) → HoldsFresh disk layout → HoldsTable disk layout initial_state.table
held disk layout fresh = record { sized = fresh.sized; pages = fresh_pages layout; opens = fresh.opens; image = fresh.image }

pub has_store : (disk : Told) (layout : DiskLayout) (table : TableState) → HoldsTable disk layout table → HasStore layout disk.size disk.contents
has_store disk layout table holds = record { control = holds.opens.control; sized = holds.sized }

pub undamaged : HaveOneLayout → AreNotDamaged → (disk : Told) (layout : DiskLayout) (table : TableState) (at : ℕ) → HoldsTable disk layout table → IsDamagedStore disk.size disk.contents at → ⊥
undamaged one law disk layout table at holds damaged =
    let same : damaged.0 ≡ layout = one (take PAGE_SIZE disk.contents) damaged.0 layout damaged.1.control holds.opens.control in
    law layout disk.contents holds.pages at holds.opens.opens holds.image.order (subst (λ (m : DiskLayout). IsDamaged m disk.contents at) same damaged.2)

-- a new store is an image of one
pub fresh_image : HaveOneLayout → (disk : Told) (layout : DiskLayout) → OpenToOneMap layout → (IsTrue disk.tells_contents → HoldsFresh disk layout) → HoldsImage disk
fresh_image one disk layout map fresh tells other pages opens =
    let held_ = fresh tells in
    let same : layout ≡ other = one (take PAGE_SIZE disk.contents) layout other held_.opens.control opens.control in
    let own : OpensAs layout disk.contents pages = subst (λ (m : DiskLayout). OpensAs m disk.contents pages) (sym same) opens in
    let pages_ : fresh_pages layout ≡ pages = map disk.contents (fresh_pages layout) pages held_.opens.opens own.opens in
    (initial_state.table, subst (λ (m : DiskLayout). IsStoreImage m pages initial_state.table) same (subst (λ (x : PageMap). IsStoreImage layout x initial_state.table) pages_ held_.image))

pub idle : (l k : Option (List ℕ)) → IsIdle l l k k
idle l k = record { source = refl; sink = refl }

-- ---- init

pub init_done : (layout : DiskLayout) (status : ℕ) (old new : Told) (l k : Option (List ℕ)) (r w : Type 0) → IsMade status layout old new → ((status ≡ 0) × IsFit layout old new) ⊎ IsUnfit status layout old new
    → IsDoneSo (Init layout) status old new l l k k r w
init_done layout status old new l k r w made (inl fit) = record {
  known = same_status status 0 fit.0 is_0;
  output = (idle l k, made);
  read_fault = λ e. absurd (omega (arith, fit.0, e));
  write_fault = λ e. absurd (omega (arith, fit.0, e));
  disk_fault = λ e. absurd (omega (arith, fit.0, e));
  no_store = λ e. absurd (omega (arith, fit.0, e));
  refused_disk = λ wrong. absurd (wrong fit.1.0);
  damaged = λ e. absurd (omega (arith, fit.0, e));
  no_usage = λ e. absurd (omega (arith, fit.0, e));
  spent = λ e. absurd (omega (arith, fit.0, e));
  complete = λ _ _ _ _. inl fit.0;
}
init_done layout status old new l k r w made (inr (inl six)) = record {
  known = same_status status 6 six.0 is_6;
  output = (idle l k, made);
  read_fault = λ e. absurd (omega (arith, six.0, e));
  write_fault = λ e. absurd (omega (arith, six.0, e));
  disk_fault = λ _. six.1;
  no_store = λ e. absurd (omega (arith, six.0, e));
  refused_disk = λ wrong. absurd (wrong six.2);
  damaged = λ e. absurd (omega (arith, six.0, e));
  no_usage = λ e. absurd (omega (arith, six.0, e));
  spent = λ e. absurd (omega (arith, six.0, e));
  complete = λ _ _ not _. absurd (not six.1);
}
init_done layout status old new l k r w made (inr (inr nine)) = record {
  known = same_status status 9 nine.0 is_9;
  output = (idle l k, made);
  read_fault = λ e. absurd (omega (arith, nine.0, e));
  write_fault = λ e. absurd (omega (arith, nine.0, e));
  disk_fault = λ e. absurd (omega (arith, nine.0, e));
  no_store = λ _. nine.1;
  refused_disk = λ wrong. record { why = inr nine.0; disk = nine.2; idle = idle l k };
  damaged = λ e. absurd (omega (arith, nine.0, e));
  no_usage = λ e. absurd (omega (arith, nine.0, e));
  spent = λ e. absurd (omega (arith, nine.0, e));
  complete = λ _ _ _ fits. absurd (nine.1 fits);
}

pub unfit_made : (status : ℕ) (layout : DiskLayout) (old new : Told) → Throughout old new (IsOldOrFresh layout old) → IsUnfit status layout old new → IsMade status layout old new
unfit_made status layout old new moments (inl six) = record { any_moment = moments; made = λ e. absurd (omega (arith, six.0, e)); holds = λ e. absurd (omega (arith, six.0, e)) }
unfit_made status layout old new moments (inr nine) = record { any_moment = moments; made = λ e. absurd (omega (arith, nine.0, e)); holds = λ e. absurd (omega (arith, nine.0, e)) }

-- ---- want of memory before anything is done

module _ (old : Told) (l k : Option (List ℕ)) (only : (image : List ℕ) → IsTrue (old.since old.moment image) → IsTrue (old.now image)) where
  pub idle_output : (task : Task) → IsOutputOf task 7 old old l l k k
  idle_output (Init layout) = (
    idle l k,
    record {
      any_moment = started old (IsOldOrFresh layout old) (λ image since. inl (only image since));
      made = λ e. absurd (omega (arith, e));
      holds = λ e. absurd (omega (arith, e));
    },
  )
  idle_output (Run layout) = λ tells.
      inl (record { why = inr (inl refl); idle = idle l k; any_moment = started old (IsOldOrEmpty layout old) (λ image since. inl (inl (only image since))) })
  idle_output (Demo layout seed rows) = record {
    source = refl;
    run = λ tells. inl (record { why = inr (inl refl); idle = idle l k; any_moment = started old (IsOldOrEmpty layout old) (λ image since. inl (inl (only image since))) });
  }
  idle_output RunStored = λ tells layout table holds.
      inl (record { why = inr refl; idle = idle l k; any_moment = λ each. started old (IsImageWith layout table) (λ image since. each image (only image since)) })
  idle_output (Threads layout) = inl refl
  idle_output ThreadsStored = inl refl

  pub idle_refused_of : (task : Task) → IsRefusedSo task 7 old old l l k k
  idle_refused_of (Init layout) = λ wrong. record { why = inl refl; disk = refl; idle = idle l k }
  idle_refused_of (Run layout) = λ wrong. record { why = inl refl; disk = refl; idle = idle l k }
  idle_refused_of (Demo layout seed rows) = λ wrong. record { why = inl refl; disk = refl; idle = idle l k }
  idle_refused_of (Threads layout) = λ wrong. record { why = inl refl; disk = refl; idle = idle l k }
  idle_refused_of ThreadsStored = λ e. absurd (omega (arith, e))
  idle_refused_of RunStored = record { none = λ tells none. record { why = inr (inl refl); idle = idle l k }; untouched = λ e. absurd (omega (arith, e)); front = λ e. absurd (omega (arith, e)) }

  pub idle_spent_of : (task : Task) → IsSpentOf task 7 old l l
  idle_spent_of (Init layout) = λ e. omega (arith, e)
  idle_spent_of (Run layout) = λ tells. idle_spent 7 (IsStart layout) layout l (λ e. omega (arith, e))
  idle_spent_of (Demo layout seed rows) = λ tells e. absurd (omega (arith, e))
  idle_spent_of (Threads layout) = idle_past 7 l
  idle_spent_of ThreadsStored = idle_past 7 l
  idle_spent_of RunStored = λ tells layout table holds. idle_spent 7 (StartsOver layout holds.pages holds.image.next table) layout l (λ e. omega (arith, e))

  pub idle_complete_of : (task : Task) → IsCompleteOf task 7 old l
  idle_complete_of (Init layout) = λ fits. inr refl
  idle_complete_of (Run layout) = λ tells fits limit room. inr refl
  idle_complete_of (Demo layout seed rows) = λ tells fits. inr refl
  idle_complete_of (Threads layout) = tt
  idle_complete_of ThreadsStored = tt
  idle_complete_of RunStored = λ tells layout table holds limit room. inr refl

-- ---- a store that isn't opened

module _ (one : HaveOneLayout) (law : AreNotDamaged) (old new : Told) (l k : Option (List ℕ)) (stay : ImagesStay old new) where
  pub refused_done : (fault : StartFault) (r w : Type 0) → (fault ≡ starts.NoStore → IsUntouched old new) → ((at : ℕ) → fault ≡ starts.Damaged at → IsTrue old.tells_contents → KeepsFront old new) → IsRefused old new fault → IsDoneSo RunStored (start_status fault) old new l l k k r w
  refused_done starts.NoStore r w untouched front cause = record {
    known = start_known starts.NoStore;
    output = λ tells layout table holds. absurd (cause.0 tells layout (has_store old layout table holds));
    read_fault = λ e. absurd (omega (arith, e));
    write_fault = λ e. absurd (omega (arith, e));
    disk_fault = λ e. absurd (omega (arith, e));
    no_store = λ _. cause.0;
    refused_disk = record { none = λ tells none. record { why = inr (inr (inl refl)); idle = idle l k }; untouched = λ e. untouched refl; front = λ e. absurd (omega (arith, e)) };
    damaged = λ e. absurd (omega (arith, e));
    no_usage = λ e. absurd (omega (arith, e));
    spent = λ tells layout table holds. idle_spent 9 (StartsOver layout holds.pages holds.image.next table) layout l (λ e. omega (arith, e));
    complete = λ _ _ _ tells layout table holds. absurd (cause.0 tells layout (has_store old layout table holds));
  }
  refused_done (starts.Damaged at) r w untouched front cause = record {
    known = start_known (starts.Damaged at);
    output = λ tells layout table holds. absurd (undamaged one law old layout table at holds (cause.0 tells));
    read_fault = λ e. absurd (omega (arith, e));
    write_fault = λ e. absurd (omega (arith, e));
    disk_fault = λ e. absurd (omega (arith, e));
    no_store = λ e. absurd (omega (arith, e));
    refused_disk = record { none = λ tells none. record { why = inr (inr (inr refl)); idle = idle l k }; untouched = λ e. absurd (omega (arith, e)); front = λ _. front at refl };
    damaged = λ _ tells. (at, cause.0 tells);
    no_usage = λ e. absurd (omega (arith, e));
    spent = λ tells layout table holds. idle_spent 11 (StartsOver layout holds.pages holds.image.next table) layout l (λ e. omega (arith, e));
    complete = λ _ _ _ tells layout table holds. absurd (undamaged one law old layout table at holds (cause.0 tells));
  }
  refused_done starts.Disk r w untouched front cause = record {
    known = start_known starts.Disk;
    output = λ tells layout table holds. inl (record { why = inl refl; idle = idle l k; any_moment = stay layout table });
    read_fault = λ e. absurd (omega (arith, e));
    write_fault = λ e. absurd (omega (arith, e));
    disk_fault = λ _. cause.1;
    no_store = λ e. absurd (omega (arith, e));
    refused_disk = record { none = λ tells none. record { why = inl refl; idle = idle l k }; untouched = λ e. absurd (omega (arith, e)); front = λ e. absurd (omega (arith, e)) };
    damaged = λ e. absurd (omega (arith, e));
    no_usage = λ e. absurd (omega (arith, e));
    spent = λ tells layout table holds. idle_spent 6 (StartsOver layout holds.pages holds.image.next table) layout l (λ e. omega (arith, e));
    complete = λ _ _ not. absurd (not cause.1);
  }
  refused_done starts.Memory r w untouched front cause = record {
    known = start_known starts.Memory;
    output = λ tells layout table holds. inl (record { why = inr refl; idle = idle l k; any_moment = stay layout table });
    read_fault = λ e. absurd (omega (arith, e));
    write_fault = λ e. absurd (omega (arith, e));
    disk_fault = λ e. absurd (omega (arith, e));
    no_store = λ e. absurd (omega (arith, e));
    refused_disk = record { none = λ tells none. record { why = inr (inl refl); idle = idle l k }; untouched = λ e. absurd (omega (arith, e)); front = λ e. absurd (omega (arith, e)) };
    damaged = λ e. absurd (omega (arith, e));
    no_usage = λ e. absurd (omega (arith, e));
    spent = λ tells layout table holds. idle_spent 7 (StartsOver layout holds.pages holds.image.next table) layout l (λ e. omega (arith, e));
    complete = λ _ _ _ tells layout table holds limit room. inr refl;
  }

  pub refused_fresh : (fault : StartFault) → IsRefused old new fault → IsFreshOutput (start_status fault) old new l l k k
  refused_fresh starts.NoStore cause tells layout fresh = absurd (cause.0 tells layout (has_store old layout initial_state.table (held old layout fresh)))
  refused_fresh (starts.Damaged at) cause tells layout fresh = absurd (undamaged one law old layout initial_state.table at (held old layout fresh) (cause.0 tells))
  refused_fresh starts.Disk cause tells layout fresh = inl (record { why = inl refl; idle = idle l k; any_moment = stay layout initial_state.table })
  refused_fresh starts.Memory cause tells layout fresh = inl (record { why = inr refl; idle = idle l k; any_moment = stay layout initial_state.table })

-- ---- a run over a store that was opened

pub table_at : (p : Place) (opening : DatabaseState) → p.opening ≡ opening → p.journal ≡ [] → (database_at p).table ≡ opening.table
table_at p opening is none = ap (λ (j : List Entry). (serial_run p.opening j).table) none ∙ ap (λ (o : DatabaseState). o.table) is

-- whatever the disk tells is a store's
pub held_in : {D : Type 0} (told : D → Told) (old : Told) (s : StoreState D) → (IsTrue old.tells_contents → HasStore s.pages.layout old.size old.contents)
    → (IsTrue old.tells_contents → OpensAs s.pages.layout old.contents s.pages.pages) → HoldsImage old → IsTrue old.tells_contents → ((layout : DiskLayout) (table : TableState) → HoldsTable old layout table → ⊥) → ⊥
held_in told old s there pages image tells none =
    let found = image tells s.pages.layout s.pages.pages (pages tells) in
    none s.pages.layout found.0 (record { sized = (there tells).sized; pages = s.pages.pages; opens = pages tells; image = found.1 })

module _ {D : Type 0} (told : D → Told) (one : HaveOneLayout) (old : Told) (s : StoreState D) (map : OpenToOneMap s.pages.layout)
    (there : IsTrue old.tells_contents → HasStore s.pages.layout old.size old.contents) (pages : IsTrue old.tells_contents → OpensAs s.pages.layout old.contents s.pages.pages)
    (same_tells : (told s.pages.disk).tells_contents ≡ old.tells_contents) (ready : s.pages.failed ≡ None) (opens : OpensTable told s) (stay : ImagesStay old (told s.pages.disk)) where
  pub its_layout : (layout : DiskLayout) (table : TableState) → IsTrue old.tells_contents → HoldsTable old layout table → s.pages.layout ≡ layout
  its_layout layout table tells holds = one (take PAGE_SIZE old.contents) s.pages.layout layout (there tells).control holds.opens.control

  its_pages : (layout : DiskLayout) (table : TableState) → IsTrue old.tells_contents → (holds : HoldsTable old layout table) → s.pages.pages ≡ holds.pages
  its_pages layout table tells holds =
      let own : OpensAs s.pages.layout old.contents holds.pages = subst (λ (m : DiskLayout). OpensAs m old.contents holds.pages) (sym (its_layout layout table tells holds)) holds.opens in
      map old.contents s.pages.pages holds.pages (pages tells).opens own.opens

  its_image : (layout : DiskLayout) (table : TableState) → IsTrue old.tells_contents → HoldsTable old layout table → IsStoreImage s.pages.layout s.pages.pages table
  its_image layout table tells holds =
      subst (λ (m : DiskLayout). IsStoreImage m s.pages.pages table) (sym (its_layout layout table tells holds))
      (subst (λ (x : PageMap). IsStoreImage layout x table) (sym (its_pages layout table tells holds)) holds.image)

  -- its tables are those of its pages
  tables_on : (p : Place) → ShowsPlace s p → (n : ℕ) → n < length s.pages.layout.schema.tables → IsTableOn s.pages.layout s.pages.pages n (p.tables n)
  tables_on p shown n below =
      let t = shown.tables n below in
      record { blocks = t.blocks; has = t.has; locks = (shown_of s).locks; unseen = t.unseen; is = t.shown }

  -- what the store shows over pages of a store with the table
  abbrev pub ShowsOver : DiskLayout → TableState → PageMap → Type 0
  ShowsOver layout table held =
      (image : IsStoreImage layout held table) → (p : Place) × StartsOver layout held image.next table p × ShowsPlace s p × AllHaveTable told s.pages p

  own_opening : (table : TableState) → IsTrue old.tells_contents → ShowsOver s.pages.layout table s.pages.pages
  own_opening table tells image =
      let p = opens (same_tells ∙ tells) table image in
      (p.0, record { opening = p.1; tables = tables_on p.0 p.2 }, p.2, p.3)

  -- its pages are those that the disk holds
  pub its_opening : (layout : DiskLayout) (table : TableState) → IsTrue old.tells_contents → (holds : HoldsTable old layout table) → ShowsOver layout table holds.pages
  its_opening layout table tells holds =
      let own : ShowsOver s.pages.layout table s.pages.pages = own_opening table tells in
      subst (ShowsOver layout table) (its_pages layout table tells holds)
      (subst (λ (m : DiskLayout). ShowsOver m table s.pages.pages) (its_layout layout table tells holds) own)

  -- a place at which a new script starts has the table of the opening
  all_new : (p q : Place) (next : ℕ) → IsOpening s.pages.layout (database_with next initial_state.table) p → IsStart s.pages.layout q → AllHaveTable told s.pages p → AllHaveTable told s.pages q
  all_new p q next opening start all = λ image now.
      image_as p.layout q.layout (database_at p).table (database_at q).table image (opening.layout_is ∙ sym start.layout_is)
      (table_at p (database_with next initial_state.table) opening.opening_is opening.journal ∙ sym (table_at q initial_state start.opening start.journal)) (all image now)

  -- the place at which a script starts over a new store
  pub fresh_start : (Tells told s.pages → s.pages.pages ≡ fresh_pages s.pages.layout → ShowsStart s.pages.layout s) → IsTrue old.tells_contents → (layout : DiskLayout) → HoldsFresh old layout
      → (start : Place) × IsStart layout start × (s.pages.layout ≡ layout) × ShowsPlace s start × AllHaveTable told s.pages start
  unfolding held fresh_pages
  fresh_start begins tells layout fresh =
      let holds = held old layout fresh in
      let same = its_layout layout initial_state.table tells holds in
      let own : s.pages.pages ≡ fresh_pages s.pages.layout = its_pages layout initial_state.table tells holds ∙ ap fresh_pages (sym same) in
      let start = begins (same_tells ∙ tells) own in
      let image = its_image layout initial_state.table tells holds in
      let opening = opens (same_tells ∙ tells) initial_state.table image in
      (start.0, subst (λ (m : DiskLayout). IsStart m start.0) same start.1, same, start.2, all_new opening.0 start.0 image.next opening.1 start.1 opening.3)

  module _ (new : Told) (status : ℕ) (l l' k k' : Option (List ℕ))
      (runs : (start : Place) → Tells told s.pages → s.pages.failed ≡ None → ShowsPlace s start → AllHaveTable told s.pages start
      → IsScriptRun status s.pages.layout new l l' k k' (record { place = start; disk = told s.pages.disk })) where
    -- from a place that the store shows
    abbrev pub RunsFrom : DiskLayout → (Place → Type 0) → Type 0
    RunsFrom layout Starts = (start : Stand) × Starts start.place × IsOpenedAt old start × IsScriptRun status layout new l l' k k' start

    run_at : (layout : DiskLayout) (Starts : Place → Type 0) → s.pages.layout ≡ layout → IsTrue old.tells_contents → (start : Place) → Starts start → ShowsPlace s start → AllHaveTable told s.pages start → RunsFrom layout Starts
    run_at layout Starts same tells start starts shown all =
        let at : Stand = record { place = start; disk = told s.pages.disk } in (
          at,
          starts,
          record { any_moment = stay start.layout (database_at start).table; sure = all },
          subst (λ (m : DiskLayout). IsScriptRun status m new l l' k k' at) same (runs start (same_tells ∙ tells) ready shown all),
        )

    pub stored_run : IsTrue old.tells_contents → (layout : DiskLayout) (table : TableState) (holds : HoldsTable old layout table) → RunsFrom layout (StartsOver layout holds.pages holds.image.next table)
    stored_run tells layout table holds =
        let start = its_opening layout table tells holds holds.image in
        run_at layout (StartsOver layout holds.pages holds.image.next table) (its_layout layout table tells holds) tells start.0 start.1 start.2 start.3

    pub fresh_run : (Tells told s.pages → s.pages.pages ≡ fresh_pages s.pages.layout → ShowsStart s.pages.layout s) → IsFreshOutput status old new l l' k k'
    fresh_run begins tells layout fresh =
        let start = fresh_start begins tells layout fresh in
        inr (run_at layout (IsStart layout) start.2 tells start.0 start.1 start.3 start.4)

    pub stored_done : HoldsImage old → IsStatus status → (r w : Type 0) → (status ≡ 4 → r) → (status ≡ 5 → w) → (old.faults ≤ (told s.pages.disk).faults) → (status ≡ 6 → s.pages.failed ≡ None → Rose (told s.pages.disk).faults new.faults)
        → (status ≡ 11 → Tells told s.pages → s.pages.failed ≡ None → ⊥) → (status ≢ 2) × (status ≢ 9) → IsDoneSo RunStored status old new l l' k k' r w
    stored_done image known r w read write later disk_ damage others =
        let rose = λ (six : status ≡ 6). rose_earlier old.faults (told s.pages.disk).faults new.faults later (disk_ six ready) in
        record {
          known = known;
          output = λ tells layout table holds. inr (stored_run tells layout table holds);
          read_fault = read;
          write_fault = write;
          disk_fault = rose;
          no_store = λ nine. absurd (others.1 nine);
          refused_disk = record { none = λ tells none. absurd (held_in told old s there pages image tells none); untouched = λ nine. absurd (others.1 nine); front = λ eleven tells. absurd (damage eleven (same_tells ∙ tells) ready) };
          damaged = λ eleven tells. absurd (damage eleven (same_tells ∙ tells) ready);
          no_usage = others.0;
          spent = λ tells layout table holds.
              let run = stored_run tells layout table holds in
              run_spent (StartsOver layout holds.pages holds.image.next table) layout status new run.0 run.1 l l' k k' run.3;
          complete = λ no_read no_write no_disk tells layout table holds.
              let run = stored_run tells layout table holds in
              run_complete (StartsOver layout holds.pages holds.image.next table) layout status new run.0 run.1 l l' k k' run.3 (λ e. no_read (read e)) (λ e. no_write (write e)) (λ e. no_disk (rose e))
              (λ e. damage e (same_tells ∙ tells) ready);
        }

-- ---- a run over a store that was made

module _ (one : HaveOneLayout) (law : AreNotDamaged) (layout : DiskLayout) (old mid : Told) (moments : Throughout old mid (IsOldOrEmpty layout old)) where
  unfit_output : (status : ℕ) (l k : Option (List ℕ)) → (status ≡ 6) ⊎ ((status ≡ 7) ⊎ (status ≡ 9)) → IsOutputOf (Run layout) status old mid l l k k
  unfit_output status l k why tells = inl (record { why = why; idle = idle l k; any_moment = moments })

  pub unfit_done : (status : ℕ) (l k : Option (List ℕ)) (r w : Type 0) → IsUnfit status layout old mid → IsDoneSo (Run layout) status old mid l l k k r w
  unfit_done status l k r w (inl six) = record {
    known = same_status status 6 six.0 is_6;
    output = unfit_output status l k (inl six.0);
    read_fault = λ e. absurd (omega (arith, six.0, e));
    write_fault = λ e. absurd (omega (arith, six.0, e));
    disk_fault = λ _. six.1;
    no_store = λ e. absurd (omega (arith, six.0, e));
    refused_disk = λ wrong. absurd (wrong six.2);
    damaged = λ e. absurd (omega (arith, six.0, e));
    no_usage = λ e. absurd (omega (arith, six.0, e));
    spent = λ tells. idle_spent status (IsStart layout) layout l (λ e. omega (arith, six.0, e));
    complete = λ _ _ not. absurd (not six.1);
  }
  unfit_done status l k r w (inr nine) = record {
    known = same_status status 9 nine.0 is_9;
    output = unfit_output status l k (inr (inr nine.0));
    read_fault = λ e. absurd (omega (arith, nine.0, e));
    write_fault = λ e. absurd (omega (arith, nine.0, e));
    disk_fault = λ e. absurd (omega (arith, nine.0, e));
    no_store = λ _ tells. nine.1;
    refused_disk = λ wrong. record { why = inr nine.0; disk = nine.2; idle = idle l k };
    damaged = λ e. absurd (omega (arith, nine.0, e));
    no_usage = λ e. absurd (omega (arith, nine.0, e));
    spent = λ tells. idle_spent status (IsStart layout) layout l (λ e. omega (arith, nine.0, e));
    complete = λ _ _ _ tells fits. absurd (nine.1 fits);
  }

  module _ (new : Told) (status : ℕ) (l l' k k' : Option (List ℕ)) (made : EachImageHas mid layout initial_state.table) where
    -- what comes of it
    abbrev FreshRun : Type 0
    FreshRun = IsUnopened status layout initial_state.table mid new l l' k k' ⊎ ((start : Stand) × IsStart layout start.place × IsOpenedAt mid start × IsScriptRun status layout new l l' k k' start)

    unopened_why : (status ≡ 6) ⊎ (status ≡ 7) → (status ≡ 6) ⊎ ((status ≡ 7) ⊎ (status ≡ 9))
    unopened_why (inl six) = inl six
    unopened_why (inr seven) = inr (inl seven)

    not_eight : (status ≡ 6) ⊎ (status ≡ 7) → status ≢ 8
    not_eight (inl six) e = omega (arith, six, e)
    not_eight (inr seven) e = omega (arith, seven, e)

    new_output : IsTrue old.tells_contents → FreshRun → IsOutputOf (Run layout) status old new l l' k k'
    new_output _ (inl un) tells =
        inl (record {
          why = unopened_why un.why;
          idle = un.idle;
          any_moment = joined old mid new (IsOldOrEmpty layout old) moments (weaker mid new (IsImageWith layout initial_state.table) (IsOldOrEmpty layout old) (un.any_moment made) (λ image has. inr has));
        })
    new_output _ (inr run) tells = inr (run.0, run.1, record { made = mid; any_moment = moments; empty = made; opened = run.2 }, run.3)

    new_spent : FreshRun → IsSpentOf (Run layout) status old l l'
    new_spent (inl un) tells = subst (λ (m : Option (List ℕ)). HasSpentCauses status (IsStart layout) layout l m) (sym un.idle.source) (idle_spent status (IsStart layout) layout l (not_eight un.why))
    new_spent (inr run) tells = run_spent (IsStart layout) layout status new run.0 run.1 l l' k k' run.3

    new_complete : status ≢ 4 → status ≢ 5 → status ≢ 6 → status ≢ 11 → FreshRun → IsCompleteOf (Run layout) status old l
    new_complete read write disk_ damage (inl un) tells fits limit room = elim un.why [
      | inl six ↦ absurd (disk_ six)
      | inr seven ↦ inr seven
    ]
    new_complete read write disk_ damage (inr run) tells fits limit room = run_complete (IsStart layout) layout status new run.0 run.1 l l' k k' run.3 read write disk_ damage limit room

    module _ (r w : Type 0) (holds : IsTrue old.tells_contents → HoldsFresh mid layout) (done : IsDoneSo RunStored status mid new l l' k k' r w) where
      no_damage_then : status ≡ 11 → IsTrue old.tells_contents → ⊥
      no_damage_then eleven tells =
          let damage = done.damaged eleven (moments.tells_contents ∙ tells) in
          undamaged one law mid layout initial_state.table damage.0 (held mid layout (holds tells)) damage.1

      rose_then : IsFit layout old mid → status ≡ 6 → Rose old.faults new.faults
      rose_then fit six = rose_earlier old.faults mid.faults new.faults fit.1 (done.disk_fault six)

      pub new_done : IsFit layout old mid → IsFreshOutput status mid new l l' k k' → IsDoneSo (Run layout) status old new l l' k k' r w
      new_done fit fresh =
          let far = λ (tells : IsTrue old.tells_contents). fresh (moments.tells_contents ∙ tells) layout (holds tells) in
          record {
            known = done.known;
            output = λ tells. new_output tells (far tells) tells;
            read_fault = done.read_fault;
            write_fault = done.write_fault;
            disk_fault = rose_then fit;
            no_store = λ nine tells. absurd (done.no_store nine (moments.tells_contents ∙ tells) layout (has_store mid layout initial_state.table (held mid layout (holds tells))));
            refused_disk = λ wrong. absurd (wrong fit.0);
            damaged = no_damage_then;
            no_usage = done.no_usage;
            spent = λ tells. new_spent (far tells) tells;
            complete = λ no_read no_write no_disk tells.
                new_complete (λ e. no_read (done.read_fault e)) (λ e. no_write (done.write_fault e)) (λ e. no_disk (rose_then fit e)) (λ e. no_damage_then e tells) (far tells) tells;
          }
