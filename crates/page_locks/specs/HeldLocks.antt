-- a list of held locks as a map
use Rattle.std.specs.Prelude.{◌≡◌, ℕ, ◌≤◌, List, [], ◌∷◌, Option, None, length, Bool, ◌&&◌, not, eqb}
use Rattle.std.specs.Ordering.{eq_by_cmp}
use Rattle.std.specs.FinMap as map
use Rattle.block_model.specs.declared.place.Place.{Place}
use Rattle.page_locks.specs.declared.held.Held.{Held}
use Rattle.page_locks.specs.LockHolders.{Holders, LockState, place_cmp}
use Rattle.page_locks.specs.LockChanges.{page_of}

-- the pages with their holders
abbrev pub entries_of : List Held → List (Place × ℕ)
entries_of [] = []
entries_of (x ∷ held) = (x.page, x.by) ∷ entries_of held

-- who holds the page by the list
abbrev pub found : List Held → Place → Option ℕ
found held page = map.find place_cmp page (entries_of held)

-- no page stands twice
abbrev pub AreApart : List Held → Type 0
AreApart [] = Unit {0}
AreApart (x ∷ held) = (found held x.page ≡ None) × AreApart held

-- what contracts see of the list
abbrev pub holders_of : List Held → Holders
holders_of held = map.from_entries (entries_of held)

abbrev pub shown : List Held → ℕ → LockState
shown held limit = record { limit = limit; holders = holders_of held }

-- each page stands once, and there is room for as many locks as may be held
pub record AreLocks (held : List Held) (limit capacity : ℕ) : Type 0 where
  pub apart : AreApart held
  pub within : length held ≤ limit
  pub reserved : limit ≤ capacity

-- what stays where the actor gives that page, and where it gives all
abbrev pub is_left : Place → ℕ → Held → Bool
is_left page actor x = not (eq_by_cmp place_cmp page x.page && eqb x.by actor)

abbrev pub is_others : ℕ → Held → Bool
is_others actor x = not (eqb x.by actor)

-- the actor holds these blocks as well
abbrev pub with_locks : Holders → ℕ → List ℕ → ℕ → Holders
with_locks m relation [] actor = m
with_locks m relation (b ∷ blocks) actor = with_locks (map.insert m (page_of relation b) actor) relation blocks actor
