-- a sync, and a log that is begun anew
use Rattle.std.proofs.Common.{◌≡◌, inr, ⊎_elim, ℕ, ◌+◌, ◌*◌, ◌<◌, ◌≤◌, Bool, false, List, [], length, drop, refl, sym, ap, subst, ◌∙◌, arith}
use Rattle.std.specs.Prelude.{IsTrue, Option, None, Some, unwrap_or}
use Rattle.std.specs.Option.{option_map}
use Rattle.std.specs.Prelude.{replicate}
use Rattle.std.proofs.lemmas.Bool.{cases_lt}
use Rattle.std.proofs.lemmas.List.{get_or-replicate, get_or_past, length-replicate}
use Rattle.block_model.specs.declared.place.Place.{Place}
use Rattle.store_layout.specs.DiskLayout.{DiskLayout, IsPlace}
use Rattle.store_layout.specs.PagesFillDisk.{PagesFillDisk}
use Rattle.disk_trait.specs.Follows.{Follows}
use Rattle.disk_trait.specs.GoesOn.{GoesOn}
use Rattle.disk_trait.specs.IsStable.{IsStable}
use Rattle.disk_trait.specs.Throughout.{Throughout}
use Rattle.disk_trait.specs.ThroughoutLaws.{goes_on, started}
use Rattle.disk_trait.specs.Told.{Told}
use Rattle.recovery.specs.Log.{ComesBy, Log, SameBeside}
use Rattle.recovery.specs.Switched.{KeptOrSwitched, Switched, switched}
use Rattle.buffer_pool.specs.PoolState.{HeldPage, PoolState, held_at}
use Rattle.wal_record.specs.Waiting.{Waiting, no_changes}
use Rattle.page_map.specs.Forms.{IsPageIn}
use Rattle.page_map.specs.PageMap.{PageMap, page_at}
use Rattle.wal_record.specs.Changes.{LoggedChange}
use Rattle.recovery.specs.Opens.{disk_page}
use Rattle.recovery.specs.Reaches.{OpensToOr}
use Rattle.recovery.specs.PageNumbers.{page_number}
use Rattle.recovery.specs.Safe.{IsSafe, is_marked}
use Rattle.recovery.proofs.SafeLaws.{SamePages, same_pages, switch_reaches, switched_safe}
use Rattle.recovery.specs.ShownLaws.{shown_at, shown_whole}
use Rattle.recovery.specs.ShownPages.{shown_page, shown_pages}
use Rattle.page_store.specs.Clean.{AreClean}
use Rattle.page_store.specs.Standing.{IsSound, IsStanding}
use Rattle.page_store.proofs.Steps.{OneByOne, checked_map, no_bytes, pages_alike, shown_alike}

-- the same image
abbrev pub IsSame : List ℕ → List ℕ → Type 0
IsSame before image = image ≡ before

-- no image comes that wasn't there
pub sync_moments : (old new : Told) → ((image : List ℕ) → IsTrue (old.since old.moment image) → IsTrue (old.now image)) → ((image : List ℕ) → IsTrue (new.now image) → IsTrue (old.now image)) → GoesOn old new → Throughout old new (ComesBy IsSame old)
sync_moments old new only images time =
    goes_on old old new (ComesBy IsSame old) (started old (ComesBy IsSame old) (λ image since. (image, only image since, refl))) time (λ image now. (image, images image now, refl))

pub same_opens : (layout : DiskLayout) (pages : PageMap) (before image : List ℕ) → image ≡ before → OpensToOr layout pages before image
same_opens layout pages before image same = subst (OpensToOr layout pages before) (sym same) (inr (λ others opens. opens))

-- all stands as before, where the contents and fewer images are told
pub sync_standing : (layout : DiskLayout) (log : Log) (pool : PoolState) (marks : List Bool) (waiting : Waiting) (failed : Option ℕ) (old new : Told) → new.size ≡ old.size → new.tells_contents ≡ old.tells_contents → new.contents ≡ old.contents
    → (failed ≡ None → (image : List ℕ) → IsTrue (new.now image) → IsTrue (old.now image)) → IsStanding old layout log pool marks waiting None → IsStanding new layout log pool marks waiting failed
sync_standing layout log pool marks waiting failed old new size tells contents images standing = record {
  size = size ∙ standing.size;
  area = standing.area;
  frames = standing.frames;
  marked = standing.marked;
  room = standing.room;
  held = standing.held;
  waits = standing.waits;
  checked = λ now place is. subst (λ (c : List ℕ). IsPageIn layout place.relation (shown_page layout pool c place)) (sym contents) (standing.checked (sym tells ∙ now) place is);
  sound = λ none now.
      let sound = standing.sound refl (sym tells ∙ now) in
      record {
        changes = sound.changes;
        bytes = sound.bytes;
        count = sound.count;
        pooled = record {
          clean = λ place held is there log. sound.pooled.clean place held is there log ∙ ap (λ (c : List ℕ). disk_page layout c place) (sym contents);
          dirty = sound.pooled.dirty;
          waits = sound.pooled.waits;
        };
        safe = λ image there. subst (λ (c : List ℕ). IsSafe layout log marks sound.changes (shown_pages layout pool c) image) (sym contents) (sound.safe image (images none image there));
      };
}

-- The log is begun anew in its other area

module _ (one : OneByOne) (layout : DiskLayout) (fill : PagesFillDisk layout) (log : Log) (pool : PoolState) (marks cleared : List Bool) (old new : Told) (standing : IsStanding old layout log pool marks no_changes None)
    (all : AreClean pool) (stable : IsStable old) (none : (place : Place) → IsPlace layout place → is_marked cleared layout place ≡ false) (long : length cleared ≡ length marks) where
  pages : PageMap
  pages = shown_pages layout pool old.contents

  beside_same : (d c : List ℕ) → SameBeside log.room d c → SamePages layout d c
  beside_same d c beside = same_pages layout fill d c (subst (λ (room : ℕ). drop (8192 + 2 * room) c ≡ drop (8192 + 2 * room) d) standing.area beside.pages)

  -- each page stands on the disk
  stored : IsTrue old.tells_contents → (place : Place) → IsPlace layout place → page_at (shown_pages layout pool old.contents) place ≡ disk_page layout old.contents place
  stored tells place is = shown_at layout pool old.contents place is ∙ from (held_at pool (page_number layout place)) refl
    where
      from : (o : Option HeldPage) → held_at pool (page_number layout place) ≡ o → shown_page layout pool old.contents place ≡ disk_page layout old.contents place
      from None there = ap (λ (o : Option HeldPage). unwrap_or (option_map (λ (h : HeldPage). h.content) o) (disk_page layout old.contents place)) there
      from (Some held) there = ap (λ (o : Option HeldPage). unwrap_or (option_map (λ (h : HeldPage). h.content) o) (disk_page layout old.contents place)) there ∙ clean held.log refl
        where
          clean : (waits : Option ℕ) → held.log ≡ waits → held.content ≡ disk_page layout old.contents place
          clean None log = (standing.sound refl tells).pooled.clean place held is there log
          clean (Some waits) log = absurd (all (page_number layout place) waits (held, there, log))

  stored_in : (need : (image : List ℕ) → IsTrue (old.now image) → IsTrue old.tells_contents) (image : List ℕ) → IsTrue (old.now image) → (place : Place) → IsPlace layout place → page_at (shown_pages layout pool old.contents) place ≡ disk_page layout image place
  stored_in need image now place is = stored (need image now) place is ∙ ap (λ (c : List ℕ). disk_page layout c place) (sym (stable image now))

  none_wait : (sound : IsSound old layout log pool marks no_changes) → (image : List ℕ) → IsSafe layout log marks sound.changes (shown_pages layout pool old.contents) image → IsSafe layout log marks [] (shown_pages layout pool old.contents) image
  none_wait sound image safe = subst (λ (l : List LoggedChange). IsSafe layout log marks l (shown_pages layout pool old.contents) image) (no_bytes sound.changes sound.bytes) safe

  pub switch_opens : ((image : List ℕ) → IsTrue (old.now image) → IsTrue old.tells_contents) → (before image : List ℕ) → IsTrue (old.now before) → KeptOrSwitched log before image → OpensToOr layout (shown_pages layout pool old.contents) before image
  switch_opens need before image now kept =
      let tells = need before now in
      let sound = standing.sound refl tells in
      switch_reaches layout fill log marks cleared (shown_pages layout pool old.contents) standing.area none one (shown_whole layout pool old.contents) (checked_map layout pool old.contents (standing.checked tells)) before image kept
      (stored_in need before now) (none_wait sound before (sound.safe before now))

  pub switch_pages : KeptOrSwitched log old.contents new.contents → shown_pages layout pool new.contents ≡ shown_pages layout pool old.contents
  switch_pages kept = pages_alike layout pool old.contents new.contents (beside_same old.contents new.contents kept.beside)

  switch_checked : new.tells_contents ≡ old.tells_contents → (IsTrue old.tells_contents → KeptOrSwitched log old.contents new.contents) → IsTrue new.tells_contents → (place : Place) → IsPlace layout place
      → IsPageIn layout place.relation (shown_page layout pool new.contents place)
  switch_checked tells kept now place is =
      let was : IsTrue old.tells_contents = sym tells ∙ now in
      subst (IsPageIn layout place.relation) (sym (shown_alike layout pool old.contents new.contents (beside_same old.contents new.contents (kept was).beside) place is)) (standing.checked was place is)

  pub switch_standing : new.size ≡ old.size → new.tells_contents ≡ old.tells_contents → ((image : List ℕ) → IsTrue (old.now image) → IsTrue old.tells_contents) → (IsTrue old.tells_contents → KeptOrSwitched log old.contents new.contents)
      → Follows (Switched log) old new → IsStanding new layout (switched log) pool cleared no_changes None
  switch_standing size tells need kept images = record {
    size = size ∙ standing.size;
    area = standing.area;
    frames = standing.frames;
    marked = ap (λ (n : ℕ). 8192 * n) long ∙ standing.marked;
    room = λ some. absurd (omega (arith, some));
    held = standing.held;
    waits = λ number waits held there is. absurd (all number waits (held, there, is));
    checked = switch_checked tells kept;
    sound = λ failed now.
        let was : IsTrue old.tells_contents = sym tells ∙ now in
        let sound = standing.sound refl was in
        let same = beside_same old.contents new.contents (kept was).beside in
        record {
          changes = [];
          bytes = refl;
          count = refl;
          pooled = record {
            clean = λ place held is there log. sound.pooled.clean place held is there log ∙ sym (same place is);
            dirty = λ place held waits is there log. absurd (all (page_number layout place) waits (held, there, log));
            waits = λ place is some. absurd (omega (arith, some));
          };
          safe = λ image there.
              let come = images image there in
              subst (λ (p : PageMap). IsSafe layout (switched log) cleared [] p image) (sym (switch_pages (kept was)))
              (switched_safe layout fill log marks cleared (shown_pages layout pool old.contents) standing.area none come.0 image come.2 (stored_in need come.0 come.1) (none_wait sound come.0 (sound.safe come.0 come.1)));
        };
  }

  pub switch_failed : (faults : ℕ) → new.size ≡ old.size → new.tells_contents ≡ old.tells_contents → (IsTrue old.tells_contents → KeptOrSwitched log old.contents new.contents) → IsStanding new layout log pool marks no_changes (Some faults)
  switch_failed faults size tells kept = record {
    size = size ∙ standing.size;
    area = standing.area;
    frames = standing.frames;
    marked = standing.marked;
    room = standing.room;
    held = standing.held;
    waits = standing.waits;
    checked = switch_checked tells kept;
    sound = λ failed now. absurd cc;
  }

-- marks that are all taken away

unfoldable pub all_false : List Bool → List Bool
all_false marks = replicate (length marks) false

pub length_false : (marks : List Bool) → length (all_false marks) ≡ length marks
unfolding all_false
length_false marks = length-replicate (length marks) false

pub all_unmarked : (layout : DiskLayout) (marks : List Bool) (place : Place) → IsPlace layout place → is_marked (all_false marks) layout place ≡ false
unfolding all_false
all_unmarked layout marks place is = ⊎_elim
    (λ (low : page_number layout place < length marks). get_or-replicate (length marks) (page_number layout place) false false low)
    (λ (past : length marks ≤ page_number layout place). get_or_past (replicate (length marks) false) (page_number layout place) false (omega (arith, past, length-replicate (length marks) false)))
    (cases_lt (page_number layout place) (length marks))

pub false_is : (marks left : List Bool) → left ≡ replicate (length marks) false → left ≡ all_false marks
unfolding all_false
false_is marks left is = is
