-- what a step of a session does to the place that the store shows
use Rattle.std.specs.Prelude.{◌≡◌, ℕ, length, Option, None, Some, Result, Ok, Err}
use Rattle.disk_trait.specs.Told.{Told}
use Rattle.block_model.specs.declared.reply.Refusal.TheVariants as refusals
use Rattle.page_map.specs.Keeps.{Tells}
use Rattle.script_semantics.specs.Names.{name_of}
use Rattle.script_semantics.specs.Place.{Place}
use Rattle.script_semantics.specs.StatementSteps.{Moved, Ended, Waits, Steps, LacksRoom}
use Rattle.session_parts.specs.declared.faults.Step.{Step}
use Rattle.session_parts.specs.declared.faults.Step.TheVariants as steps
use Rattle.session_parts.specs.declared.faults.StoreFault.{StoreFault}
use Rattle.session_parts.specs.declared.faults.StoreFault.TheVariants as stops
use Rattle.session_parts.specs.declared.hand.Hand.{Hand}
use Rattle.session_parts.specs.declared.hand.Stepped.{Stepped}
use Rattle.session_parts.specs.declared.hand.Stepped.TheVariants as stepped
use Rattle.session_parts.specs.ShowsPlace.{ShowsPlace}
use Rattle.session_parts.specs.StoreStates.{StoreState}

-- the answer of a step, as the definition's
abbrev pub StepIs : Place → ℕ → Result Step StoreFault → Place → Type 0
StepIs p n (Ok (steps.Moved point)) q = Steps p n (Moved point) q
StepIs p n (Ok (steps.Done reply)) q = Steps p n (Ended reply) q
StepIs p n (Ok (steps.Blocked what by)) q = Steps p n (Waits (refusals.Blocked what (name_of p by))) q
StepIs p n (Err (stops.Spent entries)) q = LacksRoom p n × (entries ≡ length p.journal) × (q ≡ p)
StepIs p n (Err fault) q = ⊥

-- what came of a statement's step, as the answer of the store
abbrev pub answer_of : Stepped → Result Step StoreFault
answer_of (stepped.Moved point hand) = Ok (steps.Moved point)
answer_of (stepped.Done reply) = Ok (steps.Done reply)
answer_of (stepped.Blocked what holder hand) = Ok (steps.Blocked what holder)
answer_of (stepped.Undone fault hand) = Err fault

-- what the session has in hand then
abbrev pub hand_after : Stepped → Option Hand
hand_after (stepped.Moved point hand) = Some hand
hand_after (stepped.Done reply) = None
hand_after (stepped.Blocked what holder hand) = Some hand
hand_after (stepped.Undone fault hand) = Some hand

-- what came of a step of a statement that is stepped where it stands: the answer, and what is left of it there
abbrev pub stepped_in : Hand → Result Step StoreFault → Stepped
stepped_in hand (Ok (steps.Moved point)) = stepped.Moved point hand
stepped_in hand (Ok (steps.Done reply)) = stepped.Done reply
stepped_in hand (Ok (steps.Blocked what by)) = stepped.Blocked what by hand
stepped_in hand (Err fault) = stepped.Undone fault hand

-- where the disk tells its contents, and no disk fault was kept or comes, each place that is shown before leads so to one that is shown after
abbrev pub LeadsOn : {D : Type 0} → (D → Told) → (old new : StoreState D) → (Place → Place → Type 0) → Type 0
LeadsOn told old new P = Tells told old.pages → old.pages.failed ≡ None → new.pages.failed ≡ None → (p : Place) → ShowsPlace old p → (q : Place) × ShowsPlace new q × P p q
