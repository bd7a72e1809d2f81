-- The stop rule: which table each image of the disk opens to, by the journal and the commit in hand.
use Rattle.std.specs.Prelude.{◌≡◌, ◌⊎◌, ℕ, List, None, Some, Result}
use Rattle.block_model.specs.TableState.{TableState}
use Rattle.store_layout.specs.DiskLayout.{DiskLayout}
use Rattle.disk_trait.specs.Told.{Told}
use Rattle.page_map.specs.Keeps.{Leaves}
use Rattle.page_map.specs.PageMap.{PageMap, View}
use Rattle.recovery.specs.Reaches.{OpensWith}
use Rattle.script_semantics.specs.Place.{Place, database_at}
use Rattle.transactions.specs.FoundLaws.{table_committed}
use Rattle.transactions.specs.StopLaws.{EachImage, EachStop}
use Rattle.session_parts.specs.declared.faults.Step.{Step}
use Rattle.session_parts.specs.declared.faults.StoreFault.{StoreFault}
use Rattle.session_parts.specs.declared.hand.Hand.{Hand}
use Rattle.session_parts.specs.HandFits.{FitsStore}
use Rattle.session_parts.specs.ShowsPlace.{ShowsPlace}
use Rattle.session_parts.specs.StepIs.{StepIs}
use Rattle.session_parts.specs.StoreStates.{StoreState, hand_at}
use Rattle.session_starts.specs.StoreImage.{IsStoreImage}
use Rattle.session_starts.specs.ImageLaws.{IsCommitting}
use Rattle.session_starts.specs.Stops.{StopsSo}

-- the image is that of a store with this table
abbrev pub IsImageWith : DiskLayout → TableState → List ℕ → Type 0
IsImageWith layout table = OpensWith layout (λ pages. IsStoreImage layout pages table)

-- each image that a stop may leave now has the table of the place's journal
abbrev pub AllHaveTable : {D : Type 0} → (D → Told) → View D → Place → Type 0
AllHaveTable told store p = EachImage told store (IsImageWith p.layout (database_at p).table)

-- pages with the table of the journal, or with that and the commit that session n has in hand
abbrev pub HasTableOr : Place → ℕ → PageMap → Type 0
HasTableOr p n pages = IsStoreImage p.layout pages (database_at p).table ⊎ (IsCommitting p n × IsStoreImage p.layout pages (table_committed (database_at p) n))

-- At every moment of a step of session n, inside each call of the disk too, and once it is done, each image opens to the table of the journal before the
-- step, or to that with the commit in hand. Once it is done, and no fault of the disk was kept, each opens to the table of the journal then: a commit that is
-- answered is in every one of them.
pub record StopsWhole {D : Type 0} (told : D → Told) (old new : StoreState D) (p : Place) (n : ℕ) (answer : Result Step StoreFault) : Type 0 where
  pub stops : EachStop told old.pages new.pages (OpensWith p.layout (HasTableOr p n))
  pub behind : new.pages.failed ≡ None → (q : Place) → ShowsPlace new q → StepIs p n answer q → AllHaveTable told new.pages q

-- so it is of each step that stops so, whose store showed the place, where each image had its table
abbrev pub StepStopsWhole : {D : Type 0} → (D → Told) → Type 0
StepStopsWhole {D} told = (old new : StoreState D) (p : Place) (n : ℕ) (hand : Hand) (answer : Result Step StoreFault) → ShowsPlace old p → hand_at old n ≡ Some hand
    → FitsStore told old n → Leaves told old.pages new.pages → StopsSo told old.transactions n old.pages new.pages hand answer → AllHaveTable told old.pages p
    → StopsWhole told old new p n answer
