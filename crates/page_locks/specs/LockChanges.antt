-- what calls make of who holds which page; h says it before the call, and k after it
use Rattle.std.specs.Prelude.{◌≡◌, ◌≢◌, ◌⊎◌, ℕ, Option, Some, List, [], ◌∷◌}
use Rattle.block_model.specs.declared.place.Place.{Place}

abbrev pub page_of : ℕ → ℕ → Place
page_of relation block = record { relation = relation; block = block }

-- the block is one of these
abbrev pub IsOneOf : List ℕ → ℕ → Type 0
IsOneOf [] block = ⊥
IsOneOf (b ∷ more) block = (block ≡ b) ⊎ IsOneOf more block

-- no other actor holds the page
abbrev pub IsFreeFor : (Place → Option ℕ) → ℕ → Place → Type 0
IsFreeFor h actor page = (n : ℕ) → h page ≡ Some n → n ≡ actor

-- that other actor holds the page
abbrev pub IsAnothers : (Place → Option ℕ) → ℕ → Place → ℕ → Type 0
IsAnothers h actor page by = (h page ≡ Some by) × (by ≢ actor)

-- no other actor held one of these blocks, the actor holds all of them now, and all else is as before
pub record TakesAll (h k : Place → Option ℕ) (relation : ℕ) (blocks : List ℕ) (actor : ℕ) : Type 0 where
  pub free : (p : ℕ) → IsOneOf blocks p → IsFreeFor h actor (page_of relation p)
  pub now : (p : ℕ) → IsOneOf blocks p → k (page_of relation p) ≡ Some actor
  pub others : (q : Place) → ((q.relation ≡ relation) × IsOneOf blocks q.block) ⊎ (k q ≡ h q)

-- the first of these blocks that another actor holds
pub data IsFirstHeld (h : Place → Option ℕ) (relation actor : ℕ) : List ℕ → ℕ → Type 0 where
  FirstHeld : (p n : ℕ) (more : List ℕ) → h (page_of relation p) ≡ Some n → n ≢ actor → IsFirstHeld h relation actor (p ∷ more) p
  LaterHeld : (p q : ℕ) (more : List ℕ) → IsFreeFor h actor (page_of relation p) → IsFirstHeld h relation actor more q → IsFirstHeld h relation actor (p ∷ more) q

-- the actor holds nothing any more, and what another holds is as before
pub record GivesAll (h k : Place → Option ℕ) (actor : ℕ) : Type 0 where
  pub none : (q : Place) → k q ≢ Some actor
  pub kept : (q : Place) (n : ℕ) → n ≢ actor → h q ≡ Some n → k q ≡ Some n
  pub only : (q : Place) (n : ℕ) → k q ≡ Some n → h q ≡ Some n
