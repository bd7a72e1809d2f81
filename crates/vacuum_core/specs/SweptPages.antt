-- the tuples of an index's page that the map doesn't name
use Rattle.std.specs.Prelude.{◌≡◌, ◌≢◌, ◌⊎◌, ℕ, ◌+◌, ◌*◌, List, [], ◌∷◌, ◌++◌, None, Some}
use Rattle.std.specs.Int.{bytes_high_first}
use Rattle.block_model.specs.declared.place.Spot.{Spot}
use Rattle.coverage.specs.Steps.{TurnsPage}
use Rattle.index_contents.specs.IndexContents.{IndexContents, tuple_on}
use Rattle.index_steps.specs.Tuples.{IsOfRange}

-- bytes of a tuple, for whose range the map doesn't name the spot; fewer than four bytes are of no range
abbrev pub IsUnnamedTuple : IndexContents → Spot → List ℕ → Type 0
IsUnnamedTuple c x tuple = (range : ℕ) → IsOfRange tuple range → c.entry range ≢ Some x

-- a tuple stands at the spot that the map doesn't name
abbrev pub IsUnnamedAt : IndexContents → Spot → Type 0
IsUnnamedAt c x = (tuple : List ℕ) × (c.bytes x ≡ Some tuple) × IsUnnamedTuple c x tuple

-- the same by the bytes of the spot's page
abbrev pub IsUnnamedOn : IndexContents → List ℕ → Spot → Type 0
IsUnnamedOn c page x = (tuple : List ℕ) × (tuple_on page x.slot ≡ Some tuple) × IsUnnamedTuple c x tuple

-- of one page exactly the tuples have gone that the map doesn't name; all else of the index is as before
pub record SweepsPage (old new : IndexContents) (page : ℕ) : Type 0 where
  pub gone : (x : Spot) → x.block ≡ page → IsUnnamedAt old x → new.bytes x ≡ None
  pub others : (x : Spot) → (new.bytes x ≡ old.bytes x) ⊎ ((x.block ≡ page) × IsUnnamedAt old x)
  pub entries : (range : ℕ) → new.entry range ≡ old.entry range
  pub turns : TurnsPage old.pages new.pages page (old.pages.kind page)

-- the slot is one of these, of two bytes each
abbrev pub IsListed : List ℕ → ℕ → Type 0
IsListed [] n = ⊥
IsListed (high ∷ []) n = ⊥
IsListed (high ∷ low ∷ slots) n = (n ≡ high * 256 + low) ⊎ IsListed slots n

-- one more slot is listed, where so it is; else none
abbrev pub Judges : (Told Is : Type 0) (slot : ℕ) (before after : List ℕ) (one : ℕ) → Type 0
Judges Told Is slot before after one = ((one ≡ 1) × (after ≡ before ++ bytes_high_first 2 slot) × (Told → Is)) ⊎ ((one ≡ 0) × (after ≡ before) × (Told → Is → ⊥))
