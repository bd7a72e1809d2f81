-- what each step keeps of the store
use Rattle.std.proofs.Common.{◌≡◌, inl, ℕ, ◌+◌, ◌^◌, ◌<◌, ◌≤◌, Bool, false, List, length, refl, sym, ap, subst, ◌∙◌, arith}
use Rattle.std.specs.Prelude.{IfSome, IsTrue, Option, None, Some}
use Rattle.block_model.specs.declared.limits.TheConstants.{PAGE_SIZE}
use Rattle.block_model.specs.declared.place.Place.{Place}
use Rattle.store_layout.specs.DiskLayout.{DiskLayout, IsPlace}
use Rattle.store_layout.specs.PagesFillDisk.{PagesFillDisk}
use Rattle.disk_trait.specs.GoesOn.{GoesOn}
use Rattle.disk_trait.specs.IsStable.{IsStable}
use Rattle.disk_trait.specs.Throughout.{Throughout}
use Rattle.disk_trait.specs.Told.{Told}
use Rattle.disk_trait.specs.Torn.{Torn}
use Rattle.recovery.specs.Log.{ComesBy, Log}
use Rattle.recovery.specs.Appended.{Appended, KeptOrAppended, grown}
use Rattle.recovery.specs.Frames.{LogFrame}
use Rattle.disk_trait.specs.Follows.{Follows}
use Rattle.recovery.specs.Switched.{KeptOrSwitched}
use Rattle.buffer_pool.specs.NextDirty.{IsNextDirty}
use Rattle.buffer_pool.specs.PoolState.{HeldPage, PoolState, held_at}
use Rattle.buffer_pool.specs.WritesPage.{IsCleanable, LieWithin, WritesAt, place_of}
use Rattle.wal_record.specs.Waiting.{Waiting, no_changes}
use Rattle.recovery.specs.Safe.{is_marked}
use Rattle.recovery.specs.ShownLaws.{offset_of}
use Rattle.recovery.specs.ShownPages.{shown_pages}
use Rattle.page_store.specs.Clean.{AreClean}
use Rattle.page_store.specs.Contents.{HoldsAlike}
use Rattle.page_store.specs.KeptPages.{KeptPages}
use Rattle.page_store.specs.LoggedState.{LoggedState, store_of}
use Rattle.page_store.proofs.LogSteps.{IsSame, same_opens, switch_opens, switch_pages, sync_moments}
use Rattle.page_store.proofs.PoolSteps.{Forgets, write_moments, write_opens, write_pages}
use Rattle.page_store.specs.Room.{IsDurable}
use Rattle.page_store.specs.Standing.{IsStanding}
use Rattle.page_store.proofs.Steps.{DiskLaws, OneByOne, append_failed, append_standing, append_opens, append_pages, keeps_by, keeps_still}

-- the pages that are held lie on the disk
pub lie_within : (disk : Told) (layout : DiskLayout) (log : Log) (pool : PoolState) (marks : List Bool) (waiting : Waiting) (failed : Option ℕ) → PagesFillDisk layout → IsStanding disk layout log pool marks waiting failed → LieWithin pool 0 disk.size
lie_within disk layout log pool marks waiting failed fill standing number held there =
    let page = standing.held number held there in
    omega (arith, offset_of layout page.place, page.number, fill.ends page.place page.is, standing.size)

-- and each has a mark
pub number_within : (disk : Told) (layout : DiskLayout) (log : Log) (pool : PoolState) (marks : List Bool) (waiting : Waiting) (failed : Option ℕ) → PagesFillDisk layout → IsStanding disk layout log pool marks waiting failed → (number : ℕ) (held : HeldPage) → held_at pool number ≡ Some held → number < length marks
number_within disk layout log pool marks waiting failed fill standing number held there =
    let page = standing.held number held there in
    omega (arith, offset_of layout page.place, page.number, fill.ends page.place page.is, standing.marked)

pub next_within : (disk : Told) (layout : DiskLayout) (log : Log) (pool : PoolState) (marks : List Bool) (waiting : Waiting) (failed : Option ℕ) → PagesFillDisk layout → IsStanding disk layout log pool marks waiting failed → (from : ℕ) (next : Option ℕ) → IsNextDirty pool from next
    → IfSome next (λ number. number < length marks)
next_within disk layout log pool marks waiting failed fill standing from None next = tt
next_within disk layout log pool marks waiting failed fill standing from (Some number) next = number_within disk layout log pool marks waiting failed fill standing number next.1.1.0 next.1.1.1

pub next_small : (disk : Told) (layout : DiskLayout) (log : Log) (pool : PoolState) (marks : List Bool) (waiting : Waiting) (failed : Option ℕ) → PagesFillDisk layout → IsStanding disk layout log pool marks waiting failed → disk.size < 2 ^ 64 → (from : ℕ) (next : Option ℕ) → IsNextDirty pool from next
    → IfSome next (λ number. number + 1 < 2 ^ 64)
next_small disk layout log pool marks waiting failed fill standing small from None next = tt
next_small disk layout log pool marks waiting failed fill standing small from (Some number) next =
    let within = number_within disk layout log pool marks waiting failed fill standing number next.1.1.0 next.1.1.1 in
    omega (arith, within, standing.marked, standing.size, small)

module _ {D : Type 0} (told : D → Told) (laws : DiskLaws told) where
  -- nothing was done
  pub keeps_all : (s : LoggedState D) → KeptPages told (store_of told s) (store_of told s)
  keeps_all s = keeps_still told laws s s refl refl (λ tells. refl)

  module _ (one : OneByOne) (s : LoggedState D) (fill : PagesFillDisk s.layout) (standing : IsStanding (told s.disk) s.layout s.log s.pool s.marks s.waiting None) (d : D) (later : (told s.disk).faults ≤ (told d).faults) where
    pub append_keeps : (log : Log) (waiting : Waiting) (failed : Option ℕ) → Throughout (told s.disk) (told d) (ComesBy (KeptOrAppended s.log (record { changes = s.waiting.bytes; count = s.waiting.count })) (told s.disk))
        → (IsTrue (told s.disk).tells_contents → KeptOrAppended s.log (record { changes = s.waiting.bytes; count = s.waiting.count }) (told s.disk).contents (told d).contents)
        → KeptPages told (store_of told s) (store_of told (record { disk = d; layout = s.layout; log = log; pool = s.pool; marks = s.marks; waiting = waiting; failed = failed }))
    append_keeps log waiting failed all kept =
        keeps_by told laws s (record { disk = d; layout = s.layout; log = log; pool = s.pool; marks = s.marks; waiting = waiting; failed = failed })
        (KeptOrAppended s.log (record { changes = s.waiting.bytes; count = s.waiting.count })) refl later all
        (λ before image now change. append_opens one s.layout fill s.log s.pool s.marks s.waiting (told s.disk) (told d) standing (laws.need s.disk) before image now change)
        (λ tells. append_pages one s.layout fill s.log s.pool s.marks s.waiting (told s.disk) (told d) standing (kept tells))

    -- an append that is done
    pub append_done : (frame : LogFrame) (log : Log) (waiting : Waiting) (failed : Option ℕ) → frame ≡ record { changes = s.waiting.bytes; count = s.waiting.count } → log ≡ grown s.log frame → waiting ≡ no_changes → failed ≡ None
        → Throughout (told s.disk) (told d) (ComesBy (KeptOrAppended s.log frame) (told s.disk)) → (IsTrue (told s.disk).tells_contents → KeptOrAppended s.log frame (told s.disk).contents (told d).contents)
        → Follows (Appended s.log frame) (told s.disk) (told d) → IsStanding (told d) s.layout log s.pool s.marks waiting failed
    append_done frame log waiting failed own is empty none all kept images =
        subst (λ (f : Option ℕ). IsStanding (told d) s.layout log s.pool s.marks waiting f) (sym none)
        (subst (λ (w : Waiting). IsStanding (told d) s.layout log s.pool s.marks w None) (sym empty)
        (subst (λ (l : Log). IsStanding (told d) s.layout l s.pool s.marks no_changes None) (sym (is ∙ ap (grown s.log) own))
        (append_standing one s.layout fill s.log s.pool s.marks s.waiting (told s.disk) (told d) standing all.size all.tells_contents (laws.need s.disk)
        (λ tells. subst (λ (f : LogFrame). KeptOrAppended s.log f (told s.disk).contents (told d).contents) own (kept tells))
        (subst (λ (f : LogFrame). Follows (Appended s.log f) (told s.disk) (told d)) own images))))

    -- one that failed
    pub append_broke : (frame : LogFrame) (log : Log) (waiting : Waiting) (faults : ℕ) → frame ≡ record { changes = s.waiting.bytes; count = s.waiting.count } → log ≡ s.log → waiting ≡ s.waiting
        → Throughout (told s.disk) (told d) (ComesBy (KeptOrAppended s.log frame) (told s.disk)) → (IsTrue (told s.disk).tells_contents → KeptOrAppended s.log frame (told s.disk).contents (told d).contents)
        → IsStanding (told d) s.layout log s.pool s.marks waiting (Some faults)
    append_broke frame log waiting faults own is same all kept =
        subst (λ (w : Waiting). IsStanding (told d) s.layout log s.pool s.marks w (Some faults)) (sym same)
        (subst (λ (l : Log). IsStanding (told d) s.layout l s.pool s.marks s.waiting (Some faults)) (sym is)
        (append_failed one s.layout fill s.log s.pool s.marks s.waiting (told s.disk) (told d) standing faults all.size all.tells_contents
        (λ tells. subst (λ (f : LogFrame). KeptOrAppended s.log f (told s.disk).contents (told d).contents) own (kept tells))))

    pub appended_keeps : (frame : LogFrame) (log : Log) (waiting : Waiting) (failed : Option ℕ) → frame ≡ record { changes = s.waiting.bytes; count = s.waiting.count }
        → Throughout (told s.disk) (told d) (ComesBy (KeptOrAppended s.log frame) (told s.disk)) → (IsTrue (told s.disk).tells_contents → KeptOrAppended s.log frame (told s.disk).contents (told d).contents)
        → KeptPages told (store_of told s) (store_of told (record { disk = d; layout = s.layout; log = log; pool = s.pool; marks = s.marks; waiting = waiting; failed = failed }))
    appended_keeps frame log waiting failed own all kept =
        append_keeps log waiting failed (subst (λ (f : LogFrame). Throughout (told s.disk) (told d) (ComesBy (KeptOrAppended s.log f) (told s.disk))) own all)
        (λ tells. subst (λ (f : LogFrame). KeptOrAppended s.log f (told s.disk).contents (told d).contents) own (kept tells))

    pub write_keeps : (forgets : Forgets) (durable number : ℕ) (held : HeldPage) (sure : IsDurable s.log s.waiting durable) (it : IsCleanable s.pool durable number held) (after : PoolState) (failed : Option ℕ) → HoldsAlike s.pool after
        → WritesAt (place_of 0 number) (told s.disk) (told d) → KeptPages told (store_of told s) (store_of told (record { disk = d; layout = s.layout; log = s.log; pool = after; marks = s.marks; waiting = s.waiting; failed = failed }))
    write_keeps forgets durable number held sure it after failed alike writes =
        keeps_by told laws s (record { disk = d; layout = s.layout; log = s.log; pool = after; marks = s.marks; waiting = s.waiting; failed = failed })
        (Torn (place_of 0 number) PAGE_SIZE) refl later (write_moments (place_of 0 number) (told s.disk) (told d) (laws.only s.disk) writes)
        (λ before image now change. write_opens one forgets s.layout fill s.log s.pool s.marks s.waiting (told s.disk) (told d) standing durable number held sure it (laws.need s.disk) before image now change)
        (λ tells. write_pages one forgets s.layout fill s.log s.pool s.marks s.waiting (told s.disk) (told d) standing durable number held sure it after alike (writes.others tells))

    pub sync_keeps : (failed : Option ℕ) → (told d).contents ≡ (told s.disk).contents → ((image : List ℕ) → IsTrue ((told d).now image) → IsTrue ((told s.disk).now image)) → GoesOn (told s.disk) (told d)
        → KeptPages told (store_of told s) (store_of told (record { disk = d; layout = s.layout; log = s.log; pool = s.pool; marks = s.marks; waiting = s.waiting; failed = failed }))
    sync_keeps failed contents images time =
        keeps_by told laws s (record { disk = d; layout = s.layout; log = s.log; pool = s.pool; marks = s.marks; waiting = s.waiting; failed = failed })
        IsSame refl later (sync_moments (told s.disk) (told d) (laws.only s.disk) images time)
        (λ before image now change. same_opens s.layout (store_of told s).pages before image change)
        (λ tells. ap (shown_pages s.layout s.pool) contents)

    pub switch_keeps : (empty : s.waiting ≡ no_changes) (log : Log) (cleared : List Bool) (marks : List Bool) (failed : Option ℕ) → AreClean s.pool → IsStable (told s.disk) → ((place : Place) → IsPlace s.layout place → is_marked cleared s.layout place ≡ false)
        → length cleared ≡ length s.marks → Throughout (told s.disk) (told d) (ComesBy (KeptOrSwitched s.log) (told s.disk)) → (IsTrue (told s.disk).tells_contents → KeptOrSwitched s.log (told s.disk).contents (told d).contents)
        → KeptPages told (store_of told s) (store_of told (record { disk = d; layout = s.layout; log = log; pool = s.pool; marks = marks; waiting = s.waiting; failed = failed }))
    switch_keeps empty log cleared marks failed clean stable none long all kept =
        let at_rest = subst (λ (w : Waiting). IsStanding (told s.disk) s.layout s.log s.pool s.marks w None) empty standing in
        keeps_by told laws s (record { disk = d; layout = s.layout; log = log; pool = s.pool; marks = marks; waiting = s.waiting; failed = failed })
        (KeptOrSwitched s.log) refl later all
        (λ before image now change. switch_opens one s.layout fill s.log s.pool s.marks cleared (told s.disk) (told d) at_rest clean stable none long (laws.need s.disk) before image now change)
        (λ tells. switch_pages one s.layout fill s.log s.pool s.marks cleared (told s.disk) (told d) at_rest clean stable none long (kept tells))

  -- a read of the disk
  pub read_keeps : (s : LoggedState D) (d : D) (failed : Option ℕ) → told d ≡ record (told s.disk) { faults = (told d).faults } → (told s.disk).faults ≤ (told d).faults
      → KeptPages told (store_of told s) (store_of told (record { disk = d; layout = s.layout; log = s.log; pool = s.pool; marks = s.marks; waiting = s.waiting; failed = failed }))
  read_keeps s d failed same later =
      keeps_by told laws s (record { disk = d; layout = s.layout; log = s.log; pool = s.pool; marks = s.marks; waiting = s.waiting; failed = failed })
      IsSame refl later (subst (λ (t : Told). Throughout (told s.disk) t (ComesBy IsSame (told s.disk))) (sym same) (read_moments (told s.disk) (told d).faults (laws.only s.disk)))
      (λ before image now change. same_opens s.layout (store_of told s).pages before image change)
      (λ tells. ap (λ (t : Told). shown_pages s.layout s.pool t.contents) same)
    where
      read_moments : (old : Told) (faults : ℕ) → ((image : List ℕ) → IsTrue (old.since old.moment image) → IsTrue (old.now image)) → Throughout old (record old { faults = faults }) (ComesBy IsSame old)
      read_moments old faults only = record {
        size = refl;
        tells_contents = refl;
        tells_images = refl;
        later = omega arith;
        each = λ image since. (image, only image since, refl);
        earlier = λ t image le since. inl since;
      }
