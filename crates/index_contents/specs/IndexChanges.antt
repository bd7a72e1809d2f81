-- what the calls on the pages of an index make of what it has
use Rattle.std.specs.Prelude.{◌≡◌, ◌≢◌, ℕ, ◌≤◌, List, length, None, Some, Option}
use Rattle.block_model.specs.declared.place.Place.{Place}
use Rattle.block_model.specs.declared.place.Spot.{Spot}
use Rattle.disk_trait.specs.Told.{Told}
use Rattle.recovery.specs.Keeps.{Leaves, Tells}
use Rattle.recovery.specs.PageMap.{View, page_at}
use Rattle.coverage.specs.IndexView.{Regular}
use Rattle.coverage.specs.Changes.{BecomesAt, ChangesAt}
use Rattle.coverage.specs.Rooms.{place_room}
use Rattle.coverage.specs.Steps.{TurnsPage}
use Rattle.coverage.specs.Verdicts.{IsFreeSlot, IsLowestNumber}
use Rattle.index_contents.specs.IndexContents.{IndexContents, contents, relation_of}

-- the range's entry gives way to this one; tuples and pages stay
pub record SetsEntry (old new : IndexContents) (range : ℕ) (before after : Option Spot) : Type 0 where
  pub entry : ChangesAt old.entry new.entry range before after
  pub bytes : (x : Spot) → new.bytes x ≡ old.bytes x
  pub pages : new.pages ≡ old.pages

-- the bytes come to the lowest free slot of a page, which is one for tuples then
pub record PutsBytes (old new : IndexContents) (x : Spot) (tuple : List ℕ) : Type 0 where
  pub lowest : IsLowestNumber (IsFreeSlot old.bytes x.block) x.slot
  pub bytes : ChangesAt old.bytes new.bytes x None (Some tuple)
  pub entries : (range : ℕ) → new.entry range ≡ old.entry range
  pub page : TurnsPage old.pages new.pages x.block Regular

-- the bytes at the spot give way to others, which have room in their place
pub record ReplacesBytes (old new : IndexContents) (x : Spot) (before after : List ℕ) : Type 0 where
  pub regular : old.pages.kind x.block ≡ Regular
  pub fits : length after ≤ place_room old.bytes x
  pub bytes : ChangesAt old.bytes new.bytes x (Some before) (Some after)
  pub entries : (range : ℕ) → new.entry range ≡ old.entry range
  pub page : TurnsPage old.pages new.pages x.block Regular

-- the spot has no tuple any more, on a page of the kind that it was
pub record DropsBytes (old new : IndexContents) (x : Spot) : Type 0 where
  pub bytes : BecomesAt old.bytes new.bytes x None
  pub entries : (range : ℕ) → new.entry range ≡ old.entry range
  pub page : TurnsPage old.pages new.pages x.block (old.pages.kind x.block)

-- What every call of the page store leaves. Where the disk tells its contents the pages of every other relation stay, those of the
-- tables among them, and so does what every other index has.
pub record LeavesOthers {D : Type 0} (told : D → Told) (index : ℕ) (old new : View D) : Type 0 where
  pub leaves : Leaves told old new
  pub pages : Tells told old → (place : Place) → place.relation ≢ relation_of old.layout index → page_at new.pages place ≡ page_at old.pages place
  pub indexes : Tells told old → (other : ℕ) → other ≢ index → contents old.layout new.pages other ≡ contents old.layout old.pages other

-- what every call of the page store leaves, and where the disk tells its contents every page but the one at the place
pub record LeavesOtherPages {D : Type 0} (told : D → Told) (place : Place) (old new : View D) : Type 0 where
  pub leaves : Leaves told old new
  pub pages : Tells told old → (other : Place) → other ≢ place → page_at new.pages other ≡ page_at old.pages other
