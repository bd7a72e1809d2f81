-- the clauses of every step of a statement in hand, said over the parts of a store
use Rattle.std.specs.Prelude.{◌≡◌, ℕ, List, Option, None, Some}
use Rattle.disk_trait.specs.Told.{Told}
use Rattle.page_map.specs.Keeps.{Tells}
use Rattle.script_semantics.specs.Place.{Place}
use Rattle.session_parts.specs.declared.hand.Hand.{Hand}
use Rattle.session_parts.specs.declared.hand.Stepped.{Stepped}
use Rattle.session_parts.specs.declared.parts.Parts.{Parts}
use Rattle.session_parts.specs.HandFits.{FitsStore}
use Rattle.session_parts.specs.ShowsPlace.{ShowsPlace}
use Rattle.session_parts.specs.StepAnswers.{LeavesSessions, StaysWhereUndone}
use Rattle.session_parts.specs.StepIs.{LeadsOn, StepIs, answer_of, hand_after}
use Rattle.session_parts.specs.StoreStates.{StoreState, hand_in, store_of, with_hand}

-- in a store of these parts session n has this in hand, and the fact holds of it
abbrev pub InSomeStore : {D : Type 0} → Parts D → (n : ℕ) → Hand → (StoreState D → Type 0) → Type 0
InSomeStore parts n hand P = (names : List (List ℕ)) × (hands : List (Option Hand)) × (hand_in hands n ≡ Some hand) × P (store_of parts names hands)

-- of each store of these parts in which session n has this in hand, and of that to which a step with this answer leads, the fact holds
abbrev pub OfEachStore : {D : Type 0} → (old new : Parts D) → (n : ℕ) → Hand → Stepped → ((before after : StoreState D) → Type 0) → Type 0
OfEachStore old new n hand answer P = (names : List (List ℕ)) (hands : List (Option Hand)) → hand_in hands n ≡ Some hand
    → P (store_of old names hands) (store_of new names (with_hand hands n (hand_after answer)))

-- what a step needs of the store on any disk
abbrev pub IsFit : {D : Type 0} → (D → Told) → Parts D → (n : ℕ) → Hand → Type 0
IsFit told parts n hand = InSomeStore parts n hand (λ s. FitsStore told s n)

-- and where the disk tells its contents and no disk fault was kept: the store shows a place of the definition of texts
abbrev pub IsShown : {D : Type 0} → (D → Told) → Parts D → (n : ℕ) → Hand → Type 0
IsShown told parts n hand = Tells told parts.pages → parts.pages.failed ≡ None → InSomeStore parts n hand (λ s. (p : Place) × ShowsPlace s p)

-- each place that is shown leads to one that is shown then, by the definition's step with this answer
abbrev pub MakesItsStep : {D : Type 0} → (D → Told) → (old new : Parts D) → (n : ℕ) → Hand → Stepped → Type 0
MakesItsStep told old new n hand answer = OfEachStore old new n hand answer (λ before after. LeadsOn told before after (λ p q. StepIs p n (answer_of answer) q))

-- the store is fit for the session's next step
abbrev pub StaysFit : {D : Type 0} → (D → Told) → (old new : Parts D) → (n : ℕ) → Hand → Stepped → Type 0
StaysFit told old new n hand answer = OfEachStore old new n hand answer (λ before after. FitsStore told after n)

-- the other sessions have what they had
abbrev pub LeavesTheOthers : {D : Type 0} → (D → Told) → (old new : Parts D) → (n : ℕ) → Hand → Stepped → Type 0
LeavesTheOthers told old new n hand answer = OfEachStore old new n hand answer (λ before after. LeavesSessions told before after n)

-- where nothing is done nothing changes, and it waits for another session
abbrev pub StaysUndone : {D : Type 0} → (D → Told) → (old new : Parts D) → (n : ℕ) → Hand → Stepped → Type 0
StaysUndone told old new n hand answer = OfEachStore old new n hand answer (λ before after. StaysWhereUndone told before after n hand answer)
