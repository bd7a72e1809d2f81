-- what is left where a page is held
use Rattle.std.proofs.lemmas.Bool.{false≢true}
use Rattle.std.proofs.Common.{◌≡◌, inl, inr, ℕ, List, length, take, drop, refl, sym, ap, ◌∙◌}
use Rattle.std.specs.Prelude.{IsTrue, IsSome, Option, None, Some, unwrap_or}
use Rattle.std.specs.Option.{option_map}
use Rattle.block_model.specs.declared.limits.TheConstants.{PAGE_SIZE}
use Rattle.block_model.specs.declared.place.Place.{Place}
use Rattle.block_model.specs.NumberMaps.{none_Some}
use Rattle.store_layout.specs.DiskLayout.{DiskLayout, IsPlace, page_offset}
use Rattle.store_layout.specs.PagesFillDisk.{PagesFillDisk}
use Rattle.disk_trait.specs.Told.{Told}
use Rattle.buffer_pool.specs.PoolState.{HeldPage, PoolState, IsClean, held_at}
use Rattle.buffer_pool.specs.SetsPage.{IsAllDirty, SetsPage}
use Rattle.page_map.specs.Forms.{IsPageIn}
use Rattle.page_map.specs.PageMap.{page_at}
use Rattle.recovery.specs.Opens.{disk_page}
use Rattle.recovery.specs.PageNumbers.{page_number}
use Rattle.recovery.specs.ShownLaws.{shown_at}
use Rattle.recovery.specs.ShownPages.{shown_pages}
use Rattle.page_store.specs.Contents.{AddsOnly}
use Rattle.page_store.specs.KeptPages.{KeptPages}
use Rattle.page_store.specs.LoggedState.{LoggedState, store_of}
use Rattle.page_store.proofs.SetSteps.{here, set_adds, set_pages, set_standing}
use Rattle.page_store.specs.Standing.{IsStanding}
use Rattle.page_store.proofs.Steps.{DiskLaws, keeps_still}

-- there are as many frames
sets_frames : (old new : PoolState) (number : ℕ) (held : HeldPage) → SetsPage old number held new → new.frames ≡ old.frames
sets_frames old new number held (inl kept) = ap (λ (p : PoolState). p.frames) kept.1
sets_frames old new number held (inr gone) = ap (λ (p : PoolState). p.frames) gone.4

pub record LeavesHeld {D : Type 0} (told : D → Told) (s : LoggedState D) (place : Place) (pool : PoolState) : Type 0 where
  pub standing : IsStanding (told s.disk) s.layout s.log pool s.marks s.waiting None
  pub keeps : KeptPages told (store_of told s) (store_of told (record { disk = s.disk; layout = s.layout; log = s.log; pool = pool; marks = s.marks; waiting = s.waiting; failed = s.failed }))
  pub adds : AddsOnly (page_number s.layout place) s.pool pool
  pub held : IsSome (held_at pool (page_number s.layout place))

some_is : {X : Type 0} (o : Option X) (x : X) → o ≡ Some x → IsSome o
some_is None x e = absurd (none_Some x e)
some_is (Some y) x e = refl

pub set_leaves : {D : Type 0} (told : D → Told) → DiskLaws told → (s : LoggedState D) → PagesFillDisk s.layout → IsStanding (told s.disk) s.layout s.log s.pool s.marks s.waiting None → (place : Place) → IsPlace s.layout place → (bytes : List ℕ) → length bytes ≡ PAGE_SIZE
    → IsPageIn s.layout place.relation bytes → held_at s.pool (page_number s.layout place) ≡ None → (IsTrue (told s.disk).tells_contents → bytes ≡ page_at (store_of told s).pages place)
    → (pool : PoolState) → SetsPage s.pool (page_number s.layout place) (record { content = bytes; log = None }) pool → LeavesHeld told s place pool
set_leaves told laws s fill standing place is bytes whole passes absent stored pool sets = record {
  standing = set_standing s.layout fill s.log s.pool pool s.marks s.waiting (told s.disk) standing place is bytes whole passes absent stored sets (sets_frames s.pool pool (page_number s.layout place) (record { content = bytes; log = None }) sets);
  keeps = keeps_still told laws s (record { disk = s.disk; layout = s.layout; log = s.log; pool = pool; marks = s.marks; waiting = s.waiting; failed = s.failed }) refl refl
      (set_pages s.layout fill s.log s.pool pool s.marks s.waiting (told s.disk) standing place is bytes whole passes absent stored sets);
  adds = set_adds s.layout fill s.log s.pool pool s.marks s.waiting (told s.disk) standing place is bytes whole passes absent stored sets;
  held = some_is (held_at pool (page_number s.layout place)) (record { content = bytes; log = None })
      (here s.layout fill s.log s.pool pool s.marks s.waiting (told s.disk) standing place is bytes whole passes absent stored sets);
}

-- where each frame holds a dirty page none is clean
pub none_clean : (pool : PoolState) (number : ℕ) → IsAllDirty pool number → (other : ℕ) → IsClean pool other → ⊥
none_clean pool number all other clean = by clean.0.log (all.dirty other clean.0 clean.1) clean.2
  where
    by : (o : Option ℕ) → IsSome o → o ≡ None → ⊥
    by None some e = absurd (false≢true some)
    by (Some n) some e = none_Some n (sym e)

-- what is read at the place of a page that isn't held is the page
pub fetched : (layout : DiskLayout) (pool : PoolState) (contents : List ℕ) (place : Place) → IsPlace layout place → held_at pool (page_number layout place) ≡ None → (bytes : List ℕ) (at n : ℕ) → bytes ≡ take n (drop at contents) → n ≡ PAGE_SIZE → at ≡ page_offset layout place
    → bytes ≡ page_at (shown_pages layout pool contents) place
unfolding disk_page
fetched layout pool contents place is absent bytes at n read many begins =
    read ∙ ap (λ (k : ℕ). take k (drop at contents)) many ∙ ap (λ (k : ℕ). take PAGE_SIZE (drop k contents)) begins
    ∙ sym (shown_at layout pool contents place is ∙ ap (λ (o : Option HeldPage). unwrap_or (option_map (λ (h : HeldPage). h.content) o) (take PAGE_SIZE (drop (page_offset layout place) contents))) absent)
