-- lists by the sessions' numbers, where one element changes or one is added
use Rattle.std.proofs.Common.{◌≡◌, inl, inr, ℕ, zero, suc, ◌<◌, List, [], ◌∷◌, ◌++◌, length, get_or, set, Option, None, Some, IsSome, refl, sym, ap, subst, ◌∙◌, get_or-set_same, get_or-set_other, arith}
use Rattle.std.proofs.Math.ListN.{get_or-map}
use Rattle.std.proofs.lemmas.Bool.{cases_eq, false≢true}
use Rattle.std.proofs.lemmas.List.{length-map, map-set, set-get_or}
use Rattle.std.proofs.lemmas.Option.{none-some}
use Rattle.session_parts.specs.declared.hand.Hand.{Hand}
use Rattle.session_parts.specs.StoreLaws.{HasHand}
use Rattle.session_parts.specs.StoreStates.{hand_in, with_hand}
use Rattle.session_core.specs.declared.sessions.Session.{Session}
use Rattle.session_core.specs.declared.slots.Slot.{Slot}
use Rattle.session_core.specs.SessionLists.{hands_of, names_of, slot_in, slots_of}
use Rattle.session_core.specs.Slots.{empty_slot, hand_of}

-- a statement that is in hand stands in the list
pub inside : (hands : List (Option Hand)) (n : ℕ) (was : Hand) → hand_in hands n ≡ Some was → n < length hands
inside [] n was is = absurd (none-some was is)
inside (hand ∷ hands) zero was is = omega arith
inside (hand ∷ hands) (suc n) was is = omega (arith, inside hands n was is)

-- one more, which has nothing
pub nothing_more : {A : Type 0} (none : A) (xs : List A) (n : ℕ) → get_or (xs ++ none ∷ []) n none ≡ get_or xs n none
nothing_more none [] zero = refl
nothing_more none [] (suc n) = refl
nothing_more none (x ∷ xs) zero = refl
nothing_more none (x ∷ xs) (suc n) = nothing_more none xs n

-- a session in the list gets that
pub has_hand_set : (hands : List (Option Hand)) (n : ℕ) (hand : Option Hand) → n < length hands → HasHand hands (with_hand hands n hand) n hand
has_hand_set hands n hand below = record {
  own = get_or-set_same hands n hand None below;
  others = λ m other. get_or-set_other hands n m hand None other;
}

pub slots_set : (P : Slot → Type 0) (slots : List Slot) (n : ℕ) (slot : Slot) → n < length slots → ((m : ℕ) → P (slot_in slots m)) → P slot → (m : ℕ) → P (slot_in (set slots n slot) m)
slots_set P slots n slot below each this m = elim (cases_eq m n) [
  | inl is ↦ subst (λ (k : ℕ). P (slot_in (set slots n slot) k)) (sym is) (subst P (sym (get_or-set_same slots n slot empty_slot below)) this)
  | inr other ↦ subst P (sym (get_or-set_other slots n m slot empty_slot other)) (each m)
]

-- ---- of the sessions

pub hands_changed : (sessions : List Session) (n : ℕ) (s : Session) → hands_of (set sessions n s) ≡ set (hands_of sessions) n (hand_of s.slot)
hands_changed sessions n s = map-set (λ (s : Session). hand_of s.slot) sessions n s

pub slots_changed : (sessions : List Session) (n : ℕ) (s : Session) → slots_of (set sessions n s) ≡ set (slots_of sessions) n s.slot
slots_changed sessions n s = map-set (λ (s : Session). s.slot) sessions n s

pub names_kept : (sessions : List Session) (n : ℕ) (old s : Session) → old ≡ get_or sessions n old → s.name ≡ old.name → names_of (set sessions n s) ≡ names_of sessions
names_kept sessions n old s is same =
    let name = λ (s : Session). s.name in
    map-set name sessions n s ∙ ap (set (names_of sessions) n) (same ∙ ap name is ∙ sym (get_or-map name sessions n old)) ∙ set-get_or (names_of sessions) n old.name

pub none_changed : (sessions : List Session) (n : ℕ) (old s : Session) → old ≡ get_or sessions n old → s ≡ old → set sessions n s ≡ sessions
none_changed sessions n old s is same = ap (set sessions n) (same ∙ is) ∙ set-get_or sessions n old

pub stands : (sessions : List Session) (names : List (List ℕ)) (n : ℕ) → names_of sessions ≡ names → n < length names → n < length sessions
stands sessions names n is below = omega (arith, below, ap length is, length-map sessions (λ (s : Session). s.name))

-- a session that has a statement in hand stands in the list
pub in_list : (sessions : List Session) (n : ℕ) → IsSome (hand_in (hands_of sessions) n) → n < length sessions
in_list [] n some = absurd (false≢true some)
in_list (s ∷ sessions) zero some = omega arith
in_list (s ∷ sessions) (suc n) some = omega (arith, in_list sessions n some)

-- what the session of that number has
pub hand_here : (sessions : List Session) (n : ℕ) (own : Session) → own ≡ get_or sessions n own → n < length sessions → hand_in (hands_of sessions) n ≡ hand_of own.slot
hand_here [] n own is below = absurd (omega (arith, below))
hand_here (s ∷ sessions) zero own is below = ap (λ (s : Session). hand_of s.slot) (sym is)
hand_here (s ∷ sessions) (suc n) own is below = hand_here sessions n own is (omega (arith, below))

pub slot_here : (sessions : List Session) (n : ℕ) (own : Session) → own ≡ get_or sessions n own → n < length sessions → slot_in (slots_of sessions) n ≡ own.slot
slot_here [] n own is below = absurd (omega (arith, below))
slot_here (s ∷ sessions) zero own is below = ap (λ (s : Session). s.slot) (sym is)
slot_here (s ∷ sessions) (suc n) own is below = slot_here sessions n own is (omega (arith, below))
