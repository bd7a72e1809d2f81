-- what holds of each store that has the same parts and the same statement in hand
use Rattle.std.specs.Prelude.{◌≡◌, ◌≢◌, ◌≤◌, List, Option, Some, ℕ}
use Rattle.disk_trait.specs.Told.{Told}
use Rattle.session_parts.specs.declared.hand.Hand.{Hand}
use Rattle.session_parts.specs.declared.parts.Parts.{Parts}
use Rattle.session_parts.specs.HandFits.{FitsStore}
use Rattle.session_parts.specs.Stepping.{IsFit}
use Rattle.session_parts.specs.Shares.{share_of}
use Rattle.session_parts.specs.StepAnswers.{LeavesSessions}
use Rattle.session_parts.specs.StoreStates.{StoreState, hand_at, hand_in, store_of, with_hand}
use Rattle.snapshot_core.specs.StoredVersions.{transaction_of}

-- the session has that in hand then, and each other what it had
pub record HasHand (old new : List (Option Hand)) (n : ℕ) (hand : Option Hand) : Type 0 where
  pub own : hand_in new n ≡ hand
  pub others : (m : ℕ) → m ≢ n → hand_in new m ≡ hand_in old m

abbrev pub HandChanges : Type 0
HandChanges = (hands : List (Option Hand)) (n : ℕ) (was : Hand) (hand : Option Hand) → hand_in hands n ≡ Some was → HasHand hands (with_hand hands n hand) n hand

-- each store with these parts and this statement in hand is fit where one is
abbrev pub FitEverywhere : {D : Type 0} → (D → Told) → Type 0
FitEverywhere {D} told = (parts : Parts D) (n : ℕ) (hand : Hand) (names : List (List ℕ)) (hands : List (Option Hand)) → IsFit told parts n hand → hand_in hands n ≡ Some hand
    → FitsStore told (store_of parts names hands) n

-- a session stays fit where another one steps, as long as the journal has what it is promised
abbrev pub OthersStayFit : {D : Type 0} → (D → Told) → Type 0
OthersStayFit {D} told = (old new : StoreState D) (n m : ℕ) → m ≢ n → FitsStore told old m → FitsStore told new n → LeavesSessions told old new n → hand_at new m ≡ hand_at old m
    → share_of (hand_at new m) (transaction_of new.transactions.opens m) ≤ new.journal.promised → FitsStore told new m
