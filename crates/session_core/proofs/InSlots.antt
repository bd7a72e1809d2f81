-- what is in hand by where it stands, and where it stands behind a step
use Rattle.std.proofs.Common.{◌≡◌, ℕ, Option, None, Some, IfSome, IsSome, Result, Ok, Err, refl, sym, subst}
use Rattle.std.proofs.lemmas.Bool.{false≢true}
use Rattle.block_model.specs.declared.value.Value.{Value}
use Rattle.std.specs.Prelude.{List}
use Rattle.disk_trait.specs.Told.{Told}
use Rattle.brin_insert.specs.declared.insert.Insert.{Insert}
use Rattle.store_layout.specs.declared.statement.Statement.{Statement}
use Rattle.store_layout.specs.declared.statement.Statement.TheVariants as statements
use Rattle.session_parts.specs.declared.faults.Step.{Step}
use Rattle.session_parts.specs.declared.faults.Step.TheVariants as steps
use Rattle.session_parts.specs.declared.faults.StoreFault.{StoreFault}
use Rattle.session_parts.specs.declared.hand.Hand.{Hand}
use Rattle.session_parts.specs.declared.hand.Hand.TheVariants as hands
use Rattle.session_parts.specs.declared.parts.Parts.{Parts}
use Rattle.session_parts.specs.StepIs.{hand_after, stepped_in}
use Rattle.session_parts.specs.Stepping.{IsFit}
use Rattle.session_parts.specs.StoreStates.{store_of, with_hand}
use Rattle.session_inserts.specs.Settling.{SettlesSo}
use Rattle.session_inserts.specs.SparePut.{insert_of, left_behind}
use Rattle.session_core.specs.declared.slots.Held.{Held}
use Rattle.session_core.specs.declared.slots.Held.TheVariants as held
use Rattle.session_core.specs.declared.slots.Put.{Put}
use Rattle.session_core.specs.declared.slots.Slot.{Slot}
use Rattle.std.specs.Option.{is_some}
use Rattle.session_core.specs.Ending.{GoesWithin}
use Rattle.session_core.specs.Sessions.{IsSameStatement}
use Rattle.session_core.specs.Slots.{IsElsewhere, IsNoInsert, hand_of, hand_there, held_after}
use Rattle.session_core.proofs.Stepping.{stays_the_same}

module _ (P : Hand → Type 0) (slot : Slot) (k : Held) (is : slot.held ≡ k) where
  pub at_held : IfSome (hand_of slot) P → IfSome (hand_there k slot.put slot.machine slot.other) P
  at_held holds = subst (λ (h : Held). IfSome (hand_there h slot.put slot.machine slot.other) P) is holds

  pub from_held : IfSome (hand_there k slot.put slot.machine slot.other) P → IfSome (hand_of slot) P
  from_held holds = subst (λ (h : Held). IfSome (hand_there h slot.put slot.machine slot.other) P) (sym is) holds

pub some_held : (slot : Slot) (k : Held) → slot.held ≡ k → IsSome (hand_of slot) → IsSome (hand_there k slot.put slot.machine slot.other)
some_held slot k is some = subst (λ (h : Held). IsSome (hand_there h slot.put slot.machine slot.other)) is some

pub is_some_insert : (machine : Option Insert) → is_some machine ≡ is_some (insert_of machine)
is_some_insert None = refl
is_some_insert (Some insert) = refl

-- an insert and nothing in hand go nowhere
pub goes_in : (k : Held) (put : Put) (machine : Option Insert) (other : Option Hand) → IfSome other GoesWithin → IfSome (hand_there k put machine other) GoesWithin
goes_in held.Nothing put machine other goes = tt
goes_in held.Put put machine other goes = tt
goes_in held.Insert put None other goes = tt
goes_in held.Insert put (Some insert) other goes = tt
goes_in held.Other put machine other goes = goes

-- ---- behind a step of an insert

pub put_left : (put : Put) (machine : Option Insert) (other : Option Hand) (answer : Result Step StoreFault) → hand_there (held_after held.Put answer) put machine other ≡ left_behind (hands.Puts put.table put.values) machine answer
put_left put machine other (Ok (steps.Moved point)) = refl
put_left put machine other (Ok (steps.Done reply)) = refl
put_left put machine other (Ok (steps.Blocked what by)) = refl
put_left put machine other (Err fault) = refl

pub insert_left : (put : Put) (insert : Insert) (other : Option Hand) (answer : Result Step StoreFault) → hand_there (held_after held.Insert answer) put (Some insert) other ≡ hand_after (stepped_in (hands.Inserts insert) answer)
insert_left put insert other (Ok (steps.Moved point)) = refl
insert_left put insert other (Ok (steps.Done reply)) = refl
insert_left put insert other (Ok (steps.Blocked what by)) = refl
insert_left put insert other (Err fault) = refl

-- ---- of the other statements

pub no_insert : (statement : Statement) → ((table : ℕ) (values : List Value) → statement ≡ statements.Insert table values → ⊥) → IsNoInsert statement
no_insert (statements.Insert table values) not = not table values refl
no_insert statement not = tt

still_elsewhere : (was : Hand) (now : Option Hand) → IsElsewhere was → IsSameStatement (Some was) now → IfSome now IsElsewhere
still_elsewhere was None there same = tt
still_elsewhere was (Some hand) there same = subst IsNoInsert (sym same) there

-- what a step leaves of such a statement is one
pub keeps_elsewhere : {D : Type 0} (told : D → Told) (old new : Parts D) (n : ℕ) (hand now : Option Hand) (answer : Result Step StoreFault) → IsSome hand → IfSome hand IsElsewhere
    → IfSome hand (λ was. IsFit told old n was) → IfSome hand (λ was. SettlesSo told old new n was now answer) → IfSome now IsElsewhere
keeps_elsewhere told old new n None now answer some there fit so = absurd (false≢true some)
keeps_elsewhere told old new n (Some was) now answer some there (names, hands, is, fits) so =
    let left = hand_after so.stepped in
    let same = stays_the_same told (store_of old names hands) (store_of new names (with_hand hands n left)) n was so.stepped (so.so.stays names hands is) in
    subst (λ (h : Option Hand). IfSome h IsElsewhere) (sym so.left_is) (still_elsewhere was left there same)
