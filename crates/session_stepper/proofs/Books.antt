-- what is so of each call over any name: its entries, its end and the end's cause
use Rattle.std.proofs.Common.{◌≡◌, ℕ, ◌+◌, ◌<◌, ◌≤◌, false, List, [], ◌∷◌, ◌++◌, length, Option, None, Some, refl, sym, ap, ◌∙◌, subst, arith, length-append}
use Rattle.std.specs.Prelude.{IfSome, IsNone, IsSome, ◌↔◌, slice_set}
use Rattle.std.specs.Option.{is_some}
use Rattle.std.proofs.lemmas.Bool.{false≢true, true≢false}
use Rattle.block_model.specs.declared.reply.Reply.TheVariants as replies
use Rattle.block_model.specs.Causes.{rose_earlier}
use Rattle.demo_script.specs.declared.answer.Answer.TheVariants as answers
use Rattle.disk_trait.specs.Told.{Told}
use Rattle.io_traits.specs.declared.stepper.Turn.{Turn}
use Rattle.io_traits.specs.declared.stepper.Turn.TheVariants as turns
use Rattle.io_traits.specs.Turns.{count_done, count_ended}
use Rattle.page_map.specs.Keeps.{Leaves}
use Rattle.page_map.specs.PageMap.{View}
use Rattle.reply_texts.specs.DroppedTexts.{dropped_text}
use Rattle.reply_texts.specs.Texts.{reply_text}
use Rattle.script_run.specs.declared.engine.AnswerFault.{AnswerFault}
use Rattle.script_run.specs.declared.engine.AnswerFault.TheVariants as faults
use Rattle.script_semantics.specs.LineTexts.{Submits}
use Rattle.script_semantics.specs.Place.{Place}
use Rattle.transcripts.specs.Transcript.{Said}
use Rattle.transcript_laws.specs.Schedule.{entry_of}
use Rattle.plain_script.specs.HeldScripts.{HeldScript}
use Rattle.session_parts.specs.StoreStates.{StoreState}
use Rattle.session_orders.specs.Leading.{HasStopCause, PlacesLead, PlacesStop}
use Rattle.session_orders.specs.OneStep.{TellsRoom}
use Rattle.session_orders.specs.Orders.{IsNotMade, StepsSo}
use Rattle.session_stepper.specs.declared.ending.Ending.{Ending}
use Rattle.session_stepper.specs.declared.ending.Ending.TheVariants as endings
use Rattle.session_stepper.specs.Beginning.{IsBegun}
use Rattle.session_stepper.specs.Calls as calls
use Rattle.session_stepper.specs.Calls.{IsAdvanced, IsOver, IsSubmitted, ending_of}
use Rattle.session_stepper.specs.Locked.{HasEnded, IsLocked}
use Rattle.session_stepper.specs.TranscribedState.{TranscribedState, name_in}

-- whether a call has ended all, by its answer
abbrev pub IsEndBy : {D : Type 0} → TranscribedState D → Turn → Type 0
IsEndBy s' turns.Ended = IsSome s'.ended
IsEndBy s' turn = s'.ended ≡ None

module _ {D : Type 0} (told : D → Told) (faults_then : ℕ) where
  abbrev pub faults_of : TranscribedState D → ℕ
  faults_of s = (told s.store.pages.disk).faults

  -- what a call says over any name
  pub record CallIs (s s' : TranscribedState D) (turn : Turn) : Type 0 where
    pub said : length s'.said ≡ length s.said + count_done turn
    pub over : IsSome s.ended → (turn ≡ turns.Ended) × (s' ≡ s)
    pub end : IsEndBy s' turn
    pub later : faults_of s ≤ faults_of s'
    pub ready : (s.ended ≡ None → s.store.pages.failed ≡ None) → s'.ended ≡ None → s'.store.pages.failed ≡ None
    pub cause : faults_then ≤ faults_of s → (s.ended ≡ None → s.store.pages.failed ≡ None) → IfSome s.ended (HasEnded told faults_then s.store) → IfSome s'.ended (HasEnded told faults_then s'.store)

  over_call : (s s' : TranscribedState D) → IsOver s s' → CallIs s s' turns.Ended
  over_call s s' over = subst (λ (x : TranscribedState D). CallIs s x turns.Ended) (sym over.same) (record {
    said = omega arith;
    over = λ _. (refl, refl);
    end = subst (λ (o : Option Ending). IsSome o) (sym over.was) refl;
    later = omega arith;
    ready = λ ready. ready;
    cause = λ _ _ cause. cause;
  })

  not_over : (s : TranscribedState D) {P : Type 0} → s.ended ≡ None → IsSome s.ended → P
  not_over s none some = absurd (false≢true (sym (ap is_some none) ∙ some))

  some_none : (why : Ending) → Some why ≡ None → ⊥
  some_none why e = cc

  module _ (s : TranscribedState D) (none : s.ended ≡ None) where
    place_call : CallIs s (record s { ended = Some endings.OutOfPlace }) turns.Ended
    place_call = record {
      said = omega arith;
      over = λ some. not_over s none some;
      end = refl;
      later = omega arith;
      ready = λ _ is. absurd (some_none endings.OutOfPlace is);
      cause = λ _ _ _. tt;
    }

    goes_call : (P : Place → Place → Type 0) (store : StoreState D) (held : HeldScript) (said : List Said) (in_hand : List (Option ℕ)) (turn : Turn) → PlacesLead told s.store store P
        → length said ≡ length s.said + count_done turn → IsEndBy (record s { store = store; script = held; said = said; in_hand = in_hand }) turn
        → CallIs s (record s { store = store; script = held; said = said; in_hand = in_hand }) turn
    goes_call P store held said in_hand turn leads more end = record {
      said = more;
      over = λ some. not_over s none some;
      end = end;
      later = leads.leaves.faults;
      ready = λ ready _. leads.ready (ready none);
      cause = λ _ _ _. subst (λ (o : Option Ending). IfSome o (HasEnded told faults_then store)) (sym none) tt;
    }

    lost_call : (P : Place → Place → Type 0) (store : StoreState D) (held : HeldScript) → PlacesLead told s.store store P → CallIs s (record s { store = store; script = held; ended = Some endings.Memory }) turns.Ended
    lost_call P store held leads = record {
      said = omega arith;
      over = λ some. not_over s none some;
      end = refl;
      later = leads.leaves.faults;
      ready = λ _ is. absurd (some_none endings.Memory is);
      cause = λ _ _ _. tt;
    }

    stop_cause : (n : ℕ) (store : StoreState D) (fault : AnswerFault) → Leaves told s.store.pages store.pages → HasStopCause told s.store store fault → TellsRoom store n fault → faults_then ≤ faults_of s
        → s.store.pages.failed ≡ None → HasEnded told faults_then store (ending_of fault)
    stop_cause n store faults.Memory leaves cause room few ready = tt
    stop_cause n store faults.Full leaves cause room few ready = (n, room)
    stop_cause n store faults.Disk leaves cause room few ready = rose_earlier faults_then (faults_of s) (told store.pages.disk).faults few (cause ready)
    stop_cause n store faults.Damaged leaves cause room few ready = λ tells. cause (sym leaves.tells ∙ tells) ready

    stop_call : (n : ℕ) (store : StoreState D) (fault : AnswerFault) → PlacesStop told s.store store n fault (IsNotMade n fault) → TellsRoom store n fault
        → CallIs s (record s { store = store; ended = Some (ending_of fault) }) turns.Ended
    stop_call n store fault stops room = record {
      said = omega arith;
      over = λ some. not_over s none some;
      end = refl;
      later = stops.leaves.faults;
      ready = λ _ is. absurd (some_none (ending_of fault) is);
      cause = λ few ready _. stop_cause n store fault stops.leaves stops.cause room few (ready none);
    }

  one_said : (said : List Said) (e : Said) → length (said ++ e ∷ []) ≡ length said + 1
  one_said said e = length-append said (e ∷ [])

  none_said : (said : List Said) → length said ≡ length said + 0
  none_said said = omega arith

  pub submit_is : (s s' : TranscribedState D) (n number : ℕ) (turn : Turn) → IsSubmitted told s s' n number turn → CallIs s s' turn
  submit_is s s' n number _ (calls.WasOver over) = over_call s s' over
  submit_is s s' n number _ (calls.NotNext out why) = subst (λ (x : TranscribedState D). CallIs s x turns.Ended) (sym out.same) (place_call s out.was)
  submit_is s s' n number _ (calls.Takes statement none at leads same is) =
      subst (λ (x : TranscribedState D). CallIs s x turns.Moved) (sym is) (goes_call s none (λ p q. Submits p n statement None q) s'.store s'.script s.said (slice_set s.in_hand n (Some number)) turns.Moved leads (none_said s.said) none)
  submit_is s s' n number _ (calls.Refuses statement refusal none at idle leads same is) =
      subst (λ (x : TranscribedState D). CallIs s x turns.Done) (sym is)
      (goes_call s none (λ p q. Submits p n statement (Some refusal) q) s'.store s'.script (s.said ++ entry_of n number (reply_text (name_in s n) (replies.Refused refusal)) ∷ []) s.in_hand turns.Done leads
      (one_said s.said (entry_of n number (reply_text (name_in s n) (replies.Refused refusal)))) none)
  submit_is s s' n number _ (calls.LosesRefusal statement refusal none at leads same tables is) =
      subst (λ (x : TranscribedState D). CallIs s x turns.Ended) (sym is) (lost_call s none (λ p q. Submits p n statement (Some refusal) q) s'.store s'.script leads)

  pub advance_is : (s s' : TranscribedState D) (n : ℕ) (turn : Turn) → IsAdvanced told s s' n turn → CallIs s s' turn
  advance_is s s' n _ (calls.WasOver over) = over_call s s' over
  advance_is s s' n _ (calls.NothingInHand out why) = subst (λ (x : TranscribedState D). CallIs s x turns.Ended) (sym out.same) (place_call s out.was)
  advance_is s s' n _ (calls.GoesOn number point none at leads is) =
      subst (λ (x : TranscribedState D). CallIs s x turns.Moved) (sym is) (goes_call s none (StepsSo n (answers.Moved point)) s'.store s.script s.said s.in_hand turns.Moved leads (none_said s.said) none)
  advance_is s s' n _ (calls.Waits number refusal none at leads is) =
      subst (λ (x : TranscribedState D). CallIs s x turns.Blocked) (sym is) (goes_call s none (StepsSo n (answers.Refused refusal)) s'.store s.script s.said s.in_hand turns.Blocked leads (none_said s.said) none)
  advance_is s s' n _ (calls.Answers number reply dropped none at leads are is) =
      subst (λ (x : TranscribedState D). CallIs s x turns.Done) (sym is)
      (goes_call s none (StepsSo n (answers.Ended reply)) s'.store s.script (s.said ++ entry_of n number (dropped_text dropped ++ reply_text (name_in s n) reply) ∷ []) (slice_set s.in_hand n None) turns.Done leads
      (one_said s.said (entry_of n number (dropped_text dropped ++ reply_text (name_in s n) reply))) none)
  advance_is s s' n _ (calls.LosesReply number reply none at leads tables is) =
      subst (λ (x : TranscribedState D). CallIs s x turns.Ended) (sym is) (lost_call s none (StepsSo n (answers.Ended reply)) s'.store s.script leads)
  advance_is s s' n _ (calls.Stops number fault none at stops room is) = subst (λ (x : TranscribedState D). CallIs s x turns.Ended) (sym is) (stop_call s none n s'.store fault stops room)

  -- ---- the books

  none_of : (o : Option Ending) → is_some o ≡ false → o ≡ None
  none_of None is = refl
  none_of (Some why) is = absurd (true≢false is)

  -- it had not ended, where a call isn't answered Ended
  was_none : (s s' : TranscribedState D) (turn : Turn) → CallIs s s' turn → (turn ≡ turns.Ended → ⊥) → s.ended ≡ None
  was_none s s' turn call apart = by s.ended refl
    where
      by : (o : Option Ending) → s.ended ≡ o → s.ended ≡ None
      by None is = is
      by (Some why) is = absurd (apart (call.over (subst (λ (x : Option Ending). IsSome x) (sym is) refl)).0)

  ended_counts : (s s' : TranscribedState D) (turn : Turn) (ends ends' : ℕ) → CallIs s s' turn → IsNone s.ended ↔ (ends ≡ 0) → ends' ≡ ends + count_ended turn → IsNone s'.ended ↔ (ends' ≡ 0)
  ended_counts s s' turns.Ended ends ends' call none more = (λ is. absurd (true≢false (sym call.end ∙ is)), λ zero. absurd (omega (arith, zero, more)))
  ended_counts s s' turns.Moved ends ends' call none more = (λ _. let z = none.0 (ap is_some (was_none s s' turns.Moved call (λ e. cc))) in omega (arith, z, more), λ _. ap is_some call.end)
  ended_counts s s' turns.Done ends ends' call none more = (λ _. let z = none.0 (ap is_some (was_none s s' turns.Done call (λ e. cc))) in omega (arith, z, more), λ _. ap is_some call.end)
  ended_counts s s' turns.Blocked ends ends' call none more = (λ _. let z = none.0 (ap is_some (was_none s s' turns.Blocked call (λ e. cc))) in omega (arith, z, more), λ _. ap is_some call.end)
  ended_counts s s' turns.Stale ends ends' call none more = (λ _. let z = none.0 (ap is_some (was_none s s' turns.Stale call (λ e. cc))) in omega (arith, z, more), λ _. ap is_some call.end)

  pub locked_on : (s s' : TranscribedState D) (turn : Turn) (counted counted' ends ends' : ℕ) → CallIs s s' turn → IsLocked told faults_then counted (record { kept = s; ends = ends })
      → counted' ≡ counted + count_done turn → ends' ≡ ends + count_ended turn → IsLocked told faults_then counted' (record { kept = s'; ends = ends' })
  locked_on s s' turn counted counted' ends ends' call l told_more more =
      record {
        counted = told_more ∙ ap (λ (k : ℕ). k + count_done turn) l.counted ∙ sym call.said;
        none = ended_counts s s' turn ends ends' call l.none more;
        later = omega (arith, l.later, call.later);
        ready = call.ready l.ready;
        cause = call.cause l.later l.ready l.cause;
      }

  -- a call behind an end
  pub over_ends : (s s' : TranscribedState D) (turn : Turn) (counted ends : ℕ) → CallIs s s' turn → IsLocked told faults_then counted (record { kept = s; ends = ends }) → 0 < ends → turn ≡ turns.Ended
  over_ends s s' turn counted ends call l past = by s.ended refl
    where
      by : (o : Option Ending) → s.ended ≡ o → turn ≡ turns.Ended
      by None is = let zero = l.none.0 (ap is_some is) in absurd (omega (arith, zero, past))
      by (Some why) is = (call.over (subst (λ (x : Option Ending). IsSome x) (sym is) refl)).0

  pub status_stays : (s s' : TranscribedState D) (turn : Turn) → CallIs s s' turn → IsSome s.ended → s'.ended ≡ s.ended
  status_stays s s' turn call some = ap (λ (x : TranscribedState D). x.ended) (call.over some).1

  -- before the first line
  pub locked_new : (s : TranscribedState D) (store : StoreState D) (held : HeldScript) (counted ends : ℕ) → IsBegun told store held s → store.pages.failed ≡ None → faults_then ≤ (told store.pages.disk).faults
      → counted ≡ 0 → ends ≡ 0 → IsLocked told faults_then counted (record { kept = s; ends = ends })
  locked_new s store held counted ends begun ready few none_told none_ended = record {
    counted = none_told ∙ sym (ap (length {A = Said}) begun.said);
    none = (λ _. none_ended, λ _. ap is_some begun.ended);
    later = subst (λ (v : View D). faults_then ≤ (told v.disk).faults) (sym begun.sessions.pages) few;
    ready = λ _. ap (λ (v : View D). v.failed) begun.sessions.pages ∙ ready;
    cause = subst (λ (o : Option Ending). IfSome o (HasEnded told faults_then s.store)) (sym begun.ended) tt;
  }
