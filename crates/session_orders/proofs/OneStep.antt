-- what one step leaves of the sessions and of the images
use Rattle.std.proofs.Common.{◌≡◌, ℕ, ◌+◌, ◌<◌, List, length, Option, None, Some, Ok, Err, refl, sym, ap, ◌∙◌, subst, inl, inr}
use Rattle.std.specs.Prelude.{◌≢◌, IsSome}
use Rattle.std.specs.Option.{is_some}
use Rattle.std.proofs.lemmas.Bool.{false≢true}
use Rattle.block_model.specs.declared.request.Entry.{Entry}
use Rattle.disk_trait.specs.Told.{Told}
use Rattle.store_layout.specs.declared.limits.TheConstants.{MAX_ENTRIES}
use Rattle.store_layout.specs.declared.statement.Statement.{Statement}
use Rattle.recovery.specs.Reaches.{OpensWith}
use Rattle.script_semantics.specs.Place.{Place}
use Rattle.session_parts.specs.declared.faults.Step.{Step}
use Rattle.session_parts.specs.declared.faults.Step.TheVariants as steps
use Rattle.session_parts.specs.declared.faults.StoreFault.{StoreFault}
use Rattle.session_parts.specs.declared.faults.StoreFault.TheVariants as stops
use Rattle.session_parts.specs.declared.hand.Hand.{Hand}
use Rattle.session_parts.specs.Hands.{statement_of}
use Rattle.session_parts.specs.ShowsPlace.{ShowsPlace}
use Rattle.session_parts.specs.StepAnswers.{StaysAsItWas, most_entered}
use Rattle.session_parts.specs.StoreStates.{StoreState, hand_at}
use Rattle.session_core.specs.Sessions.{IsInHandThen, IsSameStatement, StaysStill, TellsJournal}
use Rattle.session_core.specs.StopRule.{AllHaveTable, HasTableOr, StopsWhole}
use Rattle.demo_script.specs.declared.answer.Answer.{Answer}
use Rattle.script_run.specs.declared.engine.AnswerFault.{AnswerFault}
use Rattle.session_parts.specs.declared.faults.StoreFault.{StoreFault}
use Rattle.std.specs.Prelude.{Result}
use Rattle.session_orders.specs.CrashRule.{HasTableOf}
use Rattle.session_orders.specs.OneStep.{IsOfStep, LacksRoomFor, LeavesHands, LeavesTables, TellsRoom, stays_in_hand}
use Rattle.session_orders.specs.Orders.{fault_of_step, step_answer}

pub of_step : (names : List (List ℕ)) (step : Step) → IsOfStep (step_answer names step)
of_step names (steps.Moved point) = tt
of_step names (steps.Done reply) = tt
of_step names (steps.Blocked what by) = tt

-- ---- hands

own_made : (names : List (List ℕ)) (step : Step) (hand : Option Hand) → IsInHandThen (Ok step) hand → is_some hand ≡ stays_in_hand (Ok (step_answer names step))
own_made names (steps.Moved point) hand is = is
own_made names (steps.Done reply) hand is = ap is_some is
own_made names (steps.Blocked what by) hand is = is

module _ {D : Type 0} (s s' : StoreState D) (n : ℕ) (others : (m : ℕ) → m ≢ n → hand_at s' m ≡ hand_at s m) where
  pub hands_made : (names : List (List ℕ)) (step : Step) → IsInHandThen (Ok step) (hand_at s' n) → LeavesHands s s' n (Ok (step_answer names step))
  hands_made names step is = record { own = own_made names step (hand_at s' n) is; others = others }

  pub hands_unmade : (fault : StoreFault) → IsInHandThen (Err fault) (hand_at s' n) → LeavesHands s s' n (Err (fault_of_step fault))
  hands_unmade fault is = record { own = is; others = others }

-- ---- room

spent_there : (few more : List Entry) (was now : Statement) → more ≡ few → now ≡ was → MAX_ENTRIES < length few + most_entered was → MAX_ENTRIES < length more + most_entered now
spent_there few more was now same alike spent =
    subst (λ (entries : List Entry). MAX_ENTRIES < length entries + most_entered now) (sym same) (subst (λ (statement : Statement). MAX_ENTRIES < length few + most_entered statement) (sym alike) spent)

module _ {D : Type 0} (told : D → Told) (s s' : StoreState D) (n : ℕ) where
  room_of : (entries : ℕ) (was now : Option Hand) → hand_at s' n ≡ now → IsSome was → IsSome now → IsSameStatement was now → TellsJournal s was (stops.Spent entries) → StaysAsItWas told s s' → LacksRoomFor s' n
  room_of entries None now is some there same journal still = absurd (false≢true some)
  room_of entries (Some was) None is some there same journal still = absurd (false≢true there)
  room_of entries (Some was) (Some hand) is some there same journal still = record {
    hand = hand;
    in_hand = is;
    spent = spent_there s.journal.entries s'.journal.entries (statement_of was) (statement_of hand) still.journal same journal.1;
  }

  pub room_told : (fault : StoreFault) → IsSome (hand_at s n) → IsInHandThen (Err fault) (hand_at s' n) → IsSameStatement (hand_at s n) (hand_at s' n) → TellsJournal s (hand_at s n) fault → StaysStill told s s' (Err fault)
      → TellsRoom s' n (fault_of_step fault)
  room_told (stops.Spent entries) some there same journal still = room_of entries (hand_at s n) (hand_at s' n) refl some there same journal still
  room_told stops.Disk some there same journal still = tt
  room_told (stops.Reopen faults) some there same journal still = tt
  room_told (stops.Damaged at) some there same journal still = tt

  -- ---- images

  either_there : (p : Place) (image : List ℕ) → OpensWith p.layout (HasTableOr p n) image → HasTableOf p n image
  either_there p image opens = elim opens.2 [
    | inl whole ↦ inl (opens.0, opens.1, whole)
    | inr both ↦ inr (both.0, (opens.0, opens.1, both.1))
  ]

  pub tables_left : (answer : Result Step StoreFault) → ((p : Place) → ShowsPlace s p → AllHaveTable told s.pages p → StopsWhole told s s' p n answer) → LeavesTables told s s' n
  tables_left answer whole p shown all image now = either_there p image ((whole p shown all).stops.images image now)
