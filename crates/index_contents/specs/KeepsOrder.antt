-- calls that keep the order in which the pages of an index stand
use Rattle.std.specs.Prelude.{◌≡◌, ◌≢◌, ◌⊎◌, ℕ, ◌<◌, List}
use Rattle.disk_trait.specs.Told.{Told}
use Rattle.recovery.specs.Keeps.{Tells}
use Rattle.recovery.specs.PageMap.{View}
use Rattle.recovery.specs.PageOrder.{IsIndexInOrder, kind_of}
use Rattle.index_contents.specs.IndexContents.{index_page}

-- pages of the index that stood in order still do
abbrev pub KeepsOrder : {D : Type 0} → (D → Told) → (index : ℕ) → View D → View D → Type 0
KeepsOrder told index old new = Tells told old → IsIndexInOrder old.layout.sizes.index_blocks (index_page old.layout old.pages index)
    → IsIndexInOrder old.layout.sizes.index_blocks (index_page old.layout new.pages index)

-- a page of tuples, which may be one that is being emptied
abbrev pub HasTuples : List ℕ → Type 0
HasTuples page = (kind_of page ≡ 5) ⊎ (kind_of page ≡ 6)

-- every page before this one is started
abbrev pub StandFirst : (ℕ → List ℕ) → ℕ → Type 0
StandFirst page block = (before : ℕ) → before < block → kind_of (page before) ≢ 0
