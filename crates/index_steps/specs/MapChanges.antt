-- what the growth of a map makes of what the index has
use Rattle.std.specs.Prelude.{◌≡◌, ℕ}
use Rattle.block_model.specs.declared.place.Spot.{Spot}
use Rattle.coverage.specs.IndexView.{PageKind, next_map_page}
use Rattle.coverage.specs.Steps.{TurnsPage}
use Rattle.index_contents.specs.IndexContents.{IndexContents}

-- the page of the block is of this kind then; entries and tuples stay
pub record TurnsBlock (old new : IndexContents) (block : ℕ) (kind : PageKind) : Type 0 where
  pub entries : (range : ℕ) → new.entry range ≡ old.entry range
  pub bytes : (x : Spot) → new.bytes x ≡ old.bytes x
  pub page : TurnsPage old.pages new.pages block kind

-- the metapage counts one page more; entries and tuples stay
pub record CountsBlock (old new : IndexContents) : Type 0 where
  pub entries : (range : ℕ) → new.entry range ≡ old.entry range
  pub bytes : (x : Spot) → new.bytes x ≡ old.bytes x
  pub pages : new.pages ≡ record old.pages { map_pages = next_map_page old.pages }
