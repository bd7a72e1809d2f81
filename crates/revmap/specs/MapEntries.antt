-- what the calls on the entries of a map answer
use Rattle.std.specs.Prelude.{◌≡◌, ◌≢◌, ℕ, ◌%◌, ◌<◌, ◌≤◌, List, set, Option, IfSome, Result, Ok, Err}
use Rattle.block_model.specs.declared.place.Place.{Place}
use Rattle.block_model.specs.declared.place.Spot.{Spot}
use Rattle.store_layout.specs.DiskLayout.{DiskLayout}
use Rattle.disk_trait.specs.Told.{Told}
use Rattle.page_map.specs.declared.faults.StoreError.{StoreError}
use Rattle.page_map.specs.Keeps.{Untold}
use Rattle.page_map.specs.Outcome.{NamesPage, Outcome, Refused}
use Rattle.page_map.specs.PageMap.{View}
use Rattle.index_layout.specs.declared.format.TheConstants.{MAP_ENTRIES}
use Rattle.index_layout.specs.IndexPages.{IsMap}
use Rattle.index_layout.specs.IndexReading.{entries_of}
use Rattle.coverage.specs.IndexView.{Mapping, Pages, map_page_of}
use Rattle.index_contents.specs.IndexContents.{IndexContents, relation_of}
use Rattle.revmap.specs.declared.faults.SetFault.{SetFault}
use Rattle.revmap.specs.declared.faults.SetFault.TheVariants as faults

-- a page of the map that is counted holds the range's entry
abbrev pub HoldsRange : Pages → ℕ → Type 0
HoldsRange pages range = (map_page_of range ≤ pages.map_pages) × (pages.kind (map_page_of range) ≡ Mapping)

-- an entry of the map, which names no tuple on the metapage, or none
abbrev pub IsNameable : Option Spot → Type 0
IsNameable entry = IfSome entry (λ spot. 0 < spot.block)

-- the entry that is there is another than the expected one, and is shown
abbrev pub ShowsOther : IndexContents → ℕ → Option Spot → SetFault → Type 0
ShowsOther c range expect (faults.Changed now) = (c.entry range ≡ now) × (now ≢ expect)
ShowsOther c range expect (faults.Store error) = Unit {0}

-- the place of the page of the map that holds the range, whether it is counted or not
abbrev pub map_place : DiskLayout → ℕ → ℕ → Place
map_place layout index range = record { relation = relation_of layout index; block = map_page_of range }

-- the page of the map is the one from before, but for the range's entry, which becomes this one
abbrev pub SetsOnPage : ℕ → Option Spot → List ℕ → List ℕ → Type 0
SetsOnPage range entry old new = IsMap (set (entries_of old) (range % MAP_ENTRIES) entry) new

-- Damage is told by the byte at which the page of the map that holds the range begins. Where the index can't have that page, it is
-- the metapage's, which counts it.
pub record NamesMap (layout : DiskLayout) (index range : ℕ) (error : StoreError) : Type 0 where
  pub page : map_page_of range < layout.sizes.index_blocks → NamesPage layout (map_place layout index range) error
  pub metapage : layout.sizes.index_blocks ≤ map_page_of range → NamesPage layout (record { relation = relation_of layout index; block = 0 }) error

abbrev pub FaultNamesMap : DiskLayout → ℕ → ℕ → SetFault → Type 0
FaultNamesMap layout index range (faults.Changed now) = Unit {0}
FaultNamesMap layout index range (faults.Store error) = NamesMap layout index range error

-- A set is done or refused as the page store does or refuses. Another entry is told only where no disk fault was kept.
abbrev pub SetOutcome : {D T : Type 0} → (D → Told) → View D → View D → Result T SetFault → Type 0
SetOutcome told old new (Ok done) = Outcome told (Untold told old) old new (Ok done)
SetOutcome told old new (Err (faults.Changed now)) = Outcome told (Untold told old) old new (Ok now)
SetOutcome told old new (Err (faults.Store error)) = Refused told (Untold told old) old new error
