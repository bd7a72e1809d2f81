-- the end of an opening
use Rattle.std.proofs.Common.{◌≡◌, inl, inr, ℕ, ◌*◌, ◌≤◌, Bool, List, [], ◌∷◌, length, sym, ◌∙◌, subst, ⊎_elim, arith}
use Rattle.std.specs.Prelude.{IsTrue, Result, Ok, Err, slice_index, take}
use Rattle.block_model.specs.Causes.{rose_earlier}
use Rattle.block_model.specs.declared.limits.TheConstants.{PAGE_SIZE}
use Rattle.block_model.specs.declared.place.Place.{Place}
use Rattle.store_layout.specs.DiskLayout.{DiskLayout, IsPlace, area_size, disk_size}
use Rattle.store_format.specs.ControlPage.{HasControl}
use Rattle.disk_trait.specs.Told.{Told}
use Rattle.disk_trait.specs.IsStable.{IsStable}
use Rattle.log_area.specs.Frames.{LogFrame, HoldsFrames}
use Rattle.log_area.specs.Log.{Stands, area_start, chosen_area}
use Rattle.page_layout.specs.declared.page.Form.{Form}
use Rattle.page_map.specs.Redo.{ForgetPage, IsAnew, Redone}
use Rattle.page_map.specs.Forms.{form_of, IsPageIn}
use Rattle.wal_record.specs.Changes.{LoggedChange}
use Rattle.buffer_pool.specs.PoolState.{PoolState}
use Rattle.recovery.specs.LoggedChanges.{changes_at}
use Rattle.recovery.specs.Opens.{OpensAs, disk_page}
use Rattle.recovery.specs.PageOrder.{AreInOrder}
use Rattle.recovery.specs.ShownLaws.{shown_at, shown_whole}
use Rattle.recovery.specs.ShownPages.{shown_page, shown_pages}
use Rattle.recovery.specs.Damage.{HasFrameAmiss}
use Rattle.recovery.specs.PooledPages as Held
use Rattle.recovery.specs.RedoesFrame.{AreRedone}
use Rattle.recovery.specs.Redoing.{HasLog}
use Rattle.recovery.specs.Begun.{IsBegun}
use Rattle.recovery.specs.declared.beginning.Begun.{Begun}
use Rattle.recovery.specs.Damaged.{HasPages, IsDamaged}
use Rattle.recovery.specs.Judged.{AreJudged}
use Rattle.recovery.specs.Opened.{IsOpened}
use Rattle.recovery.specs.declared.opening.Opened.{Opened}
use Rattle.recovery.specs.Orders.{HasOrderAmiss}
use Rattle.recovery.specs.PageCauses.{HasPageAmiss}
use Rattle.recovery.specs.StartCauses.{HasStore, JudgeCause, RedoCause, StartCause}
use Rattle.recovery.specs.declared.fault.StartFault.{StartFault}
use Rattle.recovery.specs.declared.fault.StartFault.TheVariants.{NoStore, Damaged, Disk, Memory}
use Rattle.recovery.proofs.Begins.{begins}
use Rattle.recovery.proofs.Ends.{holds_pages, in_pool, opens_start, safe_image, waits_at_most}

-- the log of a disk on which no write is pending
pub has_log : (b : Begun) (disk : Told) → IsBegun b disk → IsStable disk → ((image : List ℕ) → IsTrue (disk.now image) → IsTrue disk.tells_contents) → HasLog b.layout b.frames disk
has_log b disk begun stable told = record {
  stable = stable;
  tells = told;
  control = begun.control;
  holds = λ tells. subst (λ (room : ℕ). HoldsFrames (chosen_area room disk.contents) b.frames) begun.room (begun.stands tells).holds;
}

-- none of it is redone yet
pub none_redone : (b : Begun) (disk : Told) → IsBegun b disk → IsStable disk → ((image : List ℕ) → IsTrue (disk.now image) → IsTrue disk.tells_contents) → ((image : List ℕ) → IsTrue (disk.since disk.moment image) → IsTrue (disk.now image))
    → AreRedone b.layout b.frames [] disk disk b.pool b.marks.items
none_redone b disk begun stable told counts =
    subst (λ (pool : PoolState). AreRedone b.layout b.frames [] disk disk pool b.marks.items) (sym begun.empty) (begins b.layout b.frames disk b.layout.sizes.frames b.marks.items (has_log b disk begun stable told) counts begun.clear)

module _ (o : Opened) (frames : List LogFrame) (old mid : Told) (r : AreRedone o.layout frames frames old mid o.pool o.marks.items) (area : o.log.room ≡ area_size o.layout) (control : IsTrue old.tells_contents → HasControl o.layout (take PAGE_SIZE old.contents)) (stands : IsTrue old.tells_contents → Stands o.log frames old.contents) (judged : AreJudged o.layout o.pool o.facts.items mid) where
  abbrev was : IsTrue mid.tells_contents → IsTrue old.tells_contents
  was tells = sym r.redoing.moments.tells_contents ∙ tells

  checked : IsTrue mid.tells_contents → (place : Place) → IsPlace o.layout place → IsPageIn o.layout place.relation (shown_page o.layout o.pool mid.contents place)
  checked tells place is = let one = judged.pages place is in subst (IsPageIn o.layout place.relation) (one.shown tells) one.passes

  pub opened_at : ((form : Form) (change : LoggedChange) (changes : List LoggedChange) → IsAnew change → ForgetPage form (change ∷ changes)) → ((image : List ℕ) → IsTrue (mid.now image) → IsTrue mid.tells_contents)
      → Held.IsReady o.layout mid.size o.pool → o.pool.frames ≡ o.layout.sizes.frames → PAGE_SIZE * length o.marks.items ≡ disk_size o.layout → (IsTrue mid.tells_contents → AreInOrder o.layout (shown_pages o.layout o.pool mid.contents)) → IsOpened o mid
  opened_at forgets told ready frames_are marked order = record {
    size = ready.sized;
    area = area;
    frames = frames_are;
    marked = marked;
    held = holds_pages o.layout o.pool ready.held;
    waits = waits_at_most o.layout o.log o.pool ready.held;
    judged = judged;
    order = order;
    pooled = λ tells. in_pool forgets o.layout o.log frames old mid o.pool o.marks.items r area tells;
    safe = λ image now.
        let tells = told image now in
        safe_image forgets o.layout o.log frames old mid o.pool o.marks.items r area image tells (control (was tells)) (stands (was tells)) (r.redoing.images image now);
  }

  pub opens_at : ((form : Form) (change : LoggedChange) (changes : List LoggedChange) → IsAnew change → ForgetPage form (change ∷ changes)) → IsTrue old.tells_contents → OpensAs o.layout old.contents (shown_pages o.layout o.pool mid.contents)
  opens_at forgets tells =
      let now : IsTrue mid.tells_contents = r.redoing.moments.tells_contents ∙ tells in
      opens_start forgets o.layout o.log frames old mid o.pool o.marks.items r area now (control tells) (stands tells) (checked now)

-- a read changes nothing of it
pub opened_read : (o : Opened) (mid new : Told) → new ≡ record mid { faults = new.faults } → IsOpened o mid → IsOpened o new
opened_read o mid new same opened = subst (IsOpened o) (sym same)
    (record {
      size = opened.size;
      area = opened.area;
      frames = opened.frames;
      marked = opened.marked;
      held = opened.held;
      waits = opened.waits;
      judged = record {
        whole = opened.judged.whole;
        pages = λ place is. let one = opened.judged.pages place is in record { page = one.page; passes = one.passes; facts_are = one.facts_are; held = one.held; shown = one.shown };
      };
      order = opened.order;
      pooled = opened.pooled;
      safe = opened.safe;
    })

-- ---- by the answer

-- the pages that are shown are those of the image at the start
shown_has : (layout : DiskLayout) (frames : List LogFrame) (old mid : Told) (pool : PoolState) (marks : List Bool) → AreRedone layout frames frames old mid pool marks → HoldsFrames (chosen_area (area_size layout) old.contents) frames → IsTrue mid.tells_contents
    → HasPages layout old.contents (shown_pages layout pool mid.contents)
shown_has layout frames old mid pool marks r holds tells =
    let made = r.redoing.pages tells in
    record {
      frames = frames;
      changes = r.done;
      holds = holds;
      logged = r.logged;
      made = record {
        places = made.places;
        anew = made.anew;
        redone = λ place is. subst (Redone (form_of layout place.relation) (disk_page layout old.contents place) (changes_at place r.done)) (sym (shown_at layout pool mid.contents place is)) (made.redone place is);
      };
      whole = shown_whole layout pool mid.contents;
    }

pub judge_cause : (T : Type 0) (layout : DiskLayout) (frames : List LogFrame) (old mid new : Told) (pool : PoolState) (marks : List Bool) (fault : StartFault) → AreRedone layout frames frames old mid pool marks
    → (IsTrue old.tells_contents → HasStore layout old.size old.contents) → (IsTrue old.tells_contents → HoldsFrames (chosen_area (area_size layout) old.contents) frames) → old.faults ≤ mid.faults
    → JudgeCause {T = T} layout pool mid new (Err fault) → StartCause {T = T} old new (Err fault)
judge_cause T layout frames old mid new pool marks NoStore r store holds later cause = absurd cause
judge_cause T layout frames old mid new pool marks (Damaged at) r store holds later cause = (
  λ tells.
      let now : IsTrue mid.tells_contents = r.redoing.moments.tells_contents ∙ tells in
      let pages = shown_pages layout pool mid.contents in
      let has = shown_has layout frames old mid pool marks r (holds tells) now in (
        layout,
        store tells,
        ⊎_elim (λ (amiss : HasPageAmiss layout pool mid.contents at). inr (inr (record { pages = pages; has = has; place = amiss.place; is = amiss.is; begins = amiss.begins; breaks = inl (λ passes. amiss.fails (subst (IsPageIn layout amiss.place.relation) (shown_at layout pool mid.contents amiss.place amiss.is) passes)) })))
            (λ (amiss : HasOrderAmiss layout pool mid.contents at). inr (inr (record { pages = pages; has = has; place = amiss.place; is = amiss.is; begins = amiss.begins; breaks = inr amiss.breaks }))) (cause.0 now),
      ),
  omega (arith, later, cause.1),
)
judge_cause T layout frames old mid new pool marks Disk r store holds later cause = (omega (arith, later, cause.0), rose_earlier old.faults mid.faults new.faults later cause.1)
judge_cause T layout frames old mid new pool marks Memory r store holds later cause = omega (arith, later, cause)

pub redo_cause : (T : Type 0) (layout : DiskLayout) (area : ℕ) (frames : List LogFrame) (old new : Told) (pool : PoolState) (marks : List Bool) (fault : StartFault) → AreRedone layout frames [] old old pool marks
    → (IsTrue old.tells_contents → HasStore layout old.size old.contents) → (IsTrue old.tells_contents → HoldsFrames (chosen_area (area_size layout) old.contents) frames)
    → (IsTrue old.tells_contents → area ≡ area_start (area_size layout) (slice_index old.contents 1)) → RedoCause {T = T} layout area frames old pool marks new (Err fault) → StartCause {T = T} old new (Err fault)
redo_cause T layout area frames old new pool marks NoStore none store holds begins cause = absurd cause
redo_cause T layout area frames old new pool marks (Damaged at) none store holds begins cause =
    (λ tells. (layout, store tells, inr (inl (record { frames = frames; holds = holds tells; amiss = subst (λ (a : ℕ). HasFrameAmiss layout old.contents a frames at) (begins tells) (cause.0 old none tells) }))), cause.1)
redo_cause T layout area frames old new pool marks Disk none store holds begins cause = cause
redo_cause T layout area frames old new pool marks Memory none store holds begins cause = absurd cause

-- a store was there
pub redo_some : (T : Type 0) (layout : DiskLayout) (area : ℕ) (frames : List LogFrame) (old new : Told) (pool : PoolState) (marks : List Bool) (fault : StartFault) → RedoCause {T = T} layout area frames old pool marks new (Err fault) → fault ≡ NoStore → ⊥
redo_some T layout area frames old new pool marks fault cause is = subst (λ (f : StartFault). RedoCause {T = T} layout area frames old pool marks new (Err f)) is cause

pub judge_some : (T : Type 0) (layout : DiskLayout) (old new : Told) (pool : PoolState) (fault : StartFault) → JudgeCause {T = T} layout pool old new (Err fault) → fault ≡ NoStore → ⊥
judge_some T layout old new pool fault cause is = subst (λ (f : StartFault). JudgeCause {T = T} layout pool old new (Err f)) is cause

-- the same of an earlier moment, since which the contents stayed
pub cause_before : (T : Type 0) (old mid new : Told) (result : Result T StartFault) → mid.contents ≡ old.contents → mid.size ≡ old.size → mid.tells_contents ≡ old.tells_contents → old.faults ≤ mid.faults → StartCause mid new result → StartCause old new result
cause_before T old mid new (Ok done) contents size tells later cause = omega (arith, later, cause)
cause_before T old mid new (Err NoStore) contents size tells later cause =
    (λ told layout store. cause.0 (tells ∙ told) layout (subst (λ (c : List ℕ). HasStore layout mid.size c) (sym contents) (subst (λ (n : ℕ). HasStore layout n old.contents) (sym size) store)), omega (arith, later, cause.1))
cause_before T old mid new (Err (Damaged at)) contents size tells later cause = (
  λ told.
      let d = cause.0 (tells ∙ told) in
      (d.0, subst (λ (c : List ℕ). HasStore d.0 old.size c) contents (subst (λ (n : ℕ). HasStore d.0 n mid.contents) size d.1), subst (λ (c : List ℕ). IsDamaged d.0 c at) contents d.2),
  omega (arith, later, cause.1),
)
cause_before T old mid new (Err Disk) contents size tells later cause = (omega (arith, later, cause.0), rose_earlier old.faults mid.faults new.faults later cause.1)
cause_before T old mid new (Err Memory) contents size tells later cause = omega (arith, later, cause)
