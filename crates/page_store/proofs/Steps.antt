-- steps of a store: what each leaves
use Rattle.std.proofs.Common.{◌≡◌, inr, ℕ, ◌+◌, ◌*◌, ◌≤◌, Bool, List, [], ◌∷◌, ◌++◌, length, drop, refl, sym, ap, subst, ◌∙◌, arith}
use Rattle.std.specs.Prelude.{IsTrue, None, Some, unwrap_or}
use Rattle.block_model.specs.declared.place.Place.{Place}
use Rattle.store_layout.specs.DiskLayout.{DiskLayout, IsPlace, area_size, disk_size}
use Rattle.store_layout.specs.PagesFillDisk.{PagesFillDisk}
use Rattle.disk_trait.specs.Told.{Told}
use Rattle.disk_trait.specs.Follows.{Follows}
use Rattle.disk_trait.specs.Throughout.{Throughout}
use Rattle.disk_trait.specs.ThroughoutLaws.{started, weaker}
use Rattle.recovery.specs.Log.{ComesBy, Log, SameBeside, areas_end}
use Rattle.recovery.specs.Frames.{LogFrame}
use Rattle.recovery.specs.Appended.{Appended, KeptOrAppended, grown}
use Rattle.wal_record.specs.Changes.{IsChange, LoggedChange}
use Rattle.wal_record.specs.ChangeBytes.{bytes_of}
use Rattle.buffer_pool.specs.PoolState.{PoolState}
use Rattle.wal_record.specs.Waiting.{Waiting, no_changes}
use Rattle.page_map.specs.Forms.{IsPageIn}
use Rattle.page_map.specs.PageMap.{PageMap, page_at}
use Rattle.recovery.specs.LoggedChanges.{AreChangesOf}
use Rattle.recovery.proofs.Once.{some}
use Rattle.recovery.specs.Opens.{OpensAs}
use Rattle.recovery.specs.Reaches.{OpensToOr, Reaches}
use Rattle.recovery.specs.PageNumbers.{page_number}
use Rattle.recovery.specs.Safe.{IsSafe}
use Rattle.recovery.proofs.SafeLaws.{SamePages, append_reaches, appended_safe, opens_safe, same_pages}
use Rattle.recovery.specs.ShownPages.{content_at, shown_page, shown_pages}
use Rattle.recovery.specs.ShownLaws.{same_shown, shown_at, shown_whole}
use Rattle.page_store.specs.KeptPages.{KeptPages, LeftStore}
use Rattle.page_store.specs.LoggedState.{LoggedState, store_of}
use Rattle.page_store.specs.Standing.{IsStanding}

-- the laws of a disk
pub record DiskLaws {D : Type 0} (told : D → Told) : Type 0 where
  pub need : (disk : D) (image : List ℕ) → IsTrue ((told disk).now image) → IsTrue (told disk).tells_contents
  pub counts : (disk : D) (t : ℕ) (image : List ℕ) → t ≤ (told disk).moment → IsTrue ((told disk).now image) → IsTrue ((told disk).since t image)
  pub only : (disk : D) (image : List ℕ) → IsTrue ((told disk).since (told disk).moment image) → IsTrue ((told disk).now image)
  pub fit : (disk : D) → IsTrue (told disk).tells_contents → length (told disk).contents ≡ (told disk).size

-- no change's bytes begin another's
abbrev pub OneByOne : Type 0
OneByOne = (a b : LoggedChange) (x y : List ℕ) → IsChange a → IsChange b → bytes_of a ++ x ≡ bytes_of b ++ y → (a ≡ b) × (x ≡ y)

-- what holds of a state
abbrev pub Stands : {D : Type 0} → (D → Told) → LoggedState D → Type 0
Stands told s = IsStanding (told s.disk) s.layout s.log s.pool s.marks s.waiting s.failed

-- an image reaches itself
pub reach_same : (layout : DiskLayout) (old : Told) (pages : PageMap) (image : List ℕ) → IsTrue (old.now image) → Reaches layout old pages image
reach_same layout old pages image now = (image, now, inr (λ others opens. opens))

module _ {D : Type 0} (told : D → Told) (laws : DiskLaws told) where
  -- a step whose images come by such a change
  pub keeps_by : (old new : LoggedState D) (Change : List ℕ → List ℕ → Type 0) → new.layout ≡ old.layout → (told old.disk).faults ≤ (told new.disk).faults
      → Throughout (told old.disk) (told new.disk) (ComesBy Change (told old.disk))
      → ((before image : List ℕ) → IsTrue ((told old.disk).now before) → Change before image → OpensToOr old.layout (store_of told old).pages before image)
      → (IsTrue (told old.disk).tells_contents → (store_of told new).pages ≡ (store_of told old).pages) → KeptPages told (store_of told old) (store_of told new)
  keeps_by old new Change layout faults all opens pages =
      let reaches : (image : List ℕ) → ComesBy Change (told old.disk) image → Reaches old.layout (told old.disk) (store_of told old).pages image = λ image come. (come.0, come.1, opens come.0 image come.1 come.2) in
      record {
        leaves = record {
          layout = layout;
          tells = all.tells_contents;
          faults = faults;
          survives = record {
            moments = weaker (told old.disk) (told new.disk) (ComesBy Change (told old.disk)) (Reaches old.layout (told old.disk) (store_of told old).pages) all reaches;
            images = λ image now. reaches image (all.each image (laws.counts new.disk (told old.disk).moment image all.later now));
            seen = laws.need old.disk;
          };
        };
        pages = pages;
      }

  -- a step that makes no device call
  pub leaves_still : (old new : LoggedState D) → new.layout ≡ old.layout → new.disk ≡ old.disk → LeftStore told (store_of told old) (store_of told new)
  leaves_still old new layout disk = record {
    layout = layout;
    tells = ap (λ (d : D). (told d).tells_contents) disk;
    faults = omega (arith, ap (λ (d : D). (told d).faults) disk);
    survives = record {
      moments = subst (λ (d : D). Throughout (told old.disk) (told d) (Reaches old.layout (told old.disk) (store_of told old).pages)) (sym disk)
          (started (told old.disk) (Reaches old.layout (told old.disk) (store_of told old).pages) (λ image since. reach_same old.layout (told old.disk) (store_of told old).pages image (laws.only old.disk image since)));
      images = subst (λ (d : D). (image : List ℕ) → IsTrue ((told d).now image) → Reaches old.layout (told old.disk) (store_of told old).pages image) (sym disk) (reach_same old.layout (told old.disk) (store_of told old).pages);
      seen = laws.need old.disk;
    };
  }

  pub keeps_still : (old new : LoggedState D) → new.layout ≡ old.layout → new.disk ≡ old.disk → (IsTrue (told old.disk).tells_contents → (store_of told new).pages ≡ (store_of told old).pages)
      → KeptPages told (store_of told old) (store_of told new)
  keeps_still old new layout disk pages = record { leaves = leaves_still old new layout disk; pages = pages }

-- The pages that are shown

pub shown_alike : (layout : DiskLayout) (pool : PoolState) (contents after : List ℕ) → SamePages layout contents after → (place : Place) → IsPlace layout place → shown_page layout pool after place ≡ shown_page layout pool contents place
shown_alike layout pool contents after same place is = ap (unwrap_or (content_at pool (page_number layout place))) (same place is)

pub pages_alike : (layout : DiskLayout) (pool : PoolState) (contents after : List ℕ) → SamePages layout contents after → shown_pages layout pool after ≡ shown_pages layout pool contents
pages_alike layout pool contents after same = same_shown layout pool pool after contents (shown_alike layout pool contents after same)

-- where each page passes its check, so it does in the map
pub checked_map : (layout : DiskLayout) (pool : PoolState) (contents : List ℕ) → ((place : Place) → IsPlace layout place → IsPageIn layout place.relation (shown_page layout pool contents place))
    → (place : Place) → IsPlace layout place → IsPageIn layout place.relation (page_at (shown_pages layout pool contents) place)
checked_map layout pool contents checked place is = subst (IsPageIn layout place.relation) (sym (shown_at layout pool contents place is)) (checked place is)

-- A frame is appended

module _ (one : OneByOne) (layout : DiskLayout) (fill : PagesFillDisk layout) (log : Log) (pool : PoolState) (marks : List Bool) (waiting : Waiting) (old new : Told) (standing : IsStanding old layout log pool marks waiting None) where
  abbrev frame : LogFrame
  frame = record { changes = waiting.bytes; count = waiting.count }

  abbrev pages : PageMap
  pages = shown_pages layout pool old.contents

  beside_same : (d c : List ℕ) → SameBeside log.room d c → SamePages layout d c
  beside_same d c beside = same_pages layout fill d c (subst (λ (room : ℕ). drop (8192 + 2 * room) c ≡ drop (8192 + 2 * room) d) standing.area beside.pages)

  -- the pages stay, whether it is done or not
  pub append_pages : KeptOrAppended log frame old.contents new.contents → shown_pages layout pool new.contents ≡ shown_pages layout pool old.contents
  append_pages kept = pages_alike layout pool old.contents new.contents (beside_same old.contents new.contents kept.beside)

  append_checked : new.tells_contents ≡ old.tells_contents → (IsTrue old.tells_contents → KeptOrAppended log frame old.contents new.contents) → IsTrue new.tells_contents → (place : Place) → IsPlace layout place
      → IsPageIn layout place.relation (shown_page layout pool new.contents place)
  append_checked tells kept now place is =
      let was : IsTrue old.tells_contents = sym tells ∙ now in
      subst (IsPageIn layout place.relation) (sym (shown_alike layout pool old.contents new.contents (beside_same old.contents new.contents (kept was).beside) place is)) (standing.checked was place is)

  -- once it is done nothing waits
  pub append_standing : new.size ≡ old.size → new.tells_contents ≡ old.tells_contents → ((image : List ℕ) → IsTrue (old.now image) → IsTrue old.tells_contents) → (IsTrue old.tells_contents → KeptOrAppended log frame old.contents new.contents)
      → Follows (Appended log frame) old new → IsStanding new layout (grown log frame) pool marks no_changes None
  append_standing size tells need kept images = record {
    size = size ∙ standing.size;
    area = standing.area;
    frames = standing.frames;
    marked = standing.marked;
    room = λ some. absurd (omega (arith, some));
    held = standing.held;
    waits = λ number waits held there is. omega (arith, standing.waits number waits held there is);
    checked = append_checked tells kept;
    sound = λ none now.
        let was : IsTrue old.tells_contents = sym tells ∙ now in
        let sound = standing.sound refl was in
        let same = beside_same old.contents new.contents (kept was).beside in
        record {
          changes = [];
          bytes = refl;
          count = refl;
          pooled = record {
            clean = λ place held is there none. sound.pooled.clean place held is there none ∙ sym (same place is);
            dirty = sound.pooled.dirty;
            waits = λ place is some. absurd (omega (arith, some));
          };
          safe = λ image there.
              let come = images image there in
              subst (λ (p : PageMap). IsSafe layout (grown log frame) marks [] p image) (sym (append_pages (kept was)))
              (appended_safe layout fill log marks sound.changes pages frame standing.area sound.bytes sound.count come.0 image come.2 (sound.safe come.0 come.1));
        };
  }

  -- where it fails the store fails
  pub append_failed : (faults : ℕ) → new.size ≡ old.size → new.tells_contents ≡ old.tells_contents → (IsTrue old.tells_contents → KeptOrAppended log frame old.contents new.contents) → IsStanding new layout log pool marks waiting (Some faults)
  append_failed faults size tells kept = record {
    size = size ∙ standing.size;
    area = standing.area;
    frames = standing.frames;
    marked = standing.marked;
    room = standing.room;
    held = standing.held;
    waits = standing.waits;
    checked = append_checked tells kept;
    sound = λ none now. absurd cc;
  }

  -- and each image opens to the pages or as it did
  pub append_opens : ((image : List ℕ) → IsTrue (old.now image) → IsTrue old.tells_contents) → (before image : List ℕ) → IsTrue (old.now before) → KeptOrAppended log frame before image → OpensToOr layout pages before image
  append_opens need before image now kept =
      let was = need before now in
      let sound = standing.sound refl was in
      append_reaches layout fill log marks sound.changes pages frame standing.area sound.bytes sound.count one (shown_whole layout pool old.contents) (checked_map layout pool old.contents (standing.checked was)) before image kept (sound.safe before now)

-- no bytes are those of no change
pub no_bytes : (changes : List LoggedChange) → AreChangesOf [] changes → changes ≡ []
no_bytes [] are = refl
no_bytes (c ∷ changes) are = absurd (some c are.0 (sym are.2))

-- Where nothing waits each image opens to the pages
pub none_waits : (layout : DiskLayout) (log : Log) (pool : PoolState) (marks : List Bool) (disk : Told) → IsStanding disk layout log pool marks no_changes None → ((image : List ℕ) → IsTrue (disk.now image) → IsTrue disk.tells_contents)
    → (image : List ℕ) → IsTrue (disk.now image) → OpensAs layout image (shown_pages layout pool disk.contents)
none_waits layout log pool marks disk standing need image now =
    let tells = need image now in
    let sound = standing.sound refl tells in
    opens_safe layout log marks (shown_pages layout pool disk.contents) image standing.area (shown_whole layout pool disk.contents) (checked_map layout pool disk.contents (standing.checked tells))
    (subst (λ (l : List LoggedChange). IsSafe layout log marks l (shown_pages layout pool disk.contents) image) (no_bytes sound.changes sound.bytes) (sound.safe image now))

-- the areas of the log lie on the disk
pub areas_fit : (layout : DiskLayout) → areas_end (area_size layout) ≤ disk_size layout
unfolding disk_size
areas_fit layout = omega arith
