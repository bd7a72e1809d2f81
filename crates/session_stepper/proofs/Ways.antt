-- each way out of a submission and of a step, as its call leaves the store
use Rattle.std.proofs.Common.{◌≡◌, ◌≢◌, ℕ, zero, suc, ◌+◌, ◌<◌, true, false, List, [], ◌∷◌, ◌++◌, length, Option, None, Some, refl, sym, ap, ◌∙◌, subst, arith}
use Rattle.std.proofs.lemmas.Bool.{true≢false}
use Rattle.std.proofs.lemmas.Option.{none-some}
use Rattle.std.specs.Prelude.{IsSome, slice_get, slice_index_or, slice_set}
use Rattle.std.specs.Option.{is_some}
use Rattle.block_model.specs.declared.reply.Point.{Point}
use Rattle.block_model.specs.declared.reply.Refusal.{Refusal}
use Rattle.block_model.specs.declared.reply.Reply.{Reply}
use Rattle.block_model.specs.declared.reply.Reply.TheVariants as replies
use Rattle.demo_script.specs.declared.answer.Answer.TheVariants as steps
use Rattle.disk_trait.specs.Told.{Told}
use Rattle.io_traits.specs.declared.stepper.Turn.TheVariants as turns
use Rattle.page_map.specs.PageMap.{View}
use Rattle.reply_texts.specs.declared.dropped.Dropped.{Dropped}
use Rattle.reply_texts.specs.DroppedTexts.{dropped_text}
use Rattle.reply_texts.specs.Texts.{reply_text}
use Rattle.script_run.specs.declared.engine.AnswerFault.{AnswerFault}
use Rattle.store_layout.specs.declared.statement.Statement.{Statement}
use Rattle.script_semantics.specs.LineTexts.{Submits}
use Rattle.transcripts.specs.Transcript.{Said}
use Rattle.transcript_laws.specs.Schedule.{entry_of}
use Rattle.plain_script.specs.HeldScripts.{HeldScript, IsLineOf}
use Rattle.session_parts.specs.StepIs.{LeadsOn}
use Rattle.session_parts.specs.StoreStates.{StoreState, hand_at}
use Rattle.session_orders.specs.Leading.{PlacesLead, PlacesStop}
use Rattle.session_orders.specs.OneStep.{LeavesTables, TellsRoom}
use Rattle.session_orders.specs.Orders.{IsNotMade, StepsSo}
use Rattle.session_orders.proofs.Crash.{OnlyNow}
use Rattle.session_stepper.specs.declared.ending.Ending.{Ending}
use Rattle.session_stepper.specs.declared.ending.Ending.TheVariants as endings
use Rattle.session_stepper.specs.Calls as calls
use Rattle.session_stepper.specs.Calls.{AreDroppedAt, IsAdvanced, IsSubmitted, ending_of}
use Rattle.session_stepper.specs.Transcribed.{IsTranscribed}
use Rattle.session_stepper.specs.TranscribedState.{TranscribedState, line_at, lines_in, name_in}
use Rattle.session_stepper.proofs.Calling.{at_work, idle_of, name_of, next_of, not_at_work, not_held, not_idle, open_of, over_of, same_held, submission_leads, tables_stay}
use Rattle.session_stepper.proofs.Kept.{answers, ends, goes_on, refuses, takes}

nothing : {A : Type 0} (o : Option A) → is_some o ≡ false → o ≡ None
nothing None is = refl
nothing (Some x) is = absurd (true≢false is)

-- a line in hand is of a session
pub in_hand_within : (in_hand : List (Option ℕ)) (n number : ℕ) → line_at in_hand n ≡ Some number → n < length in_hand
in_hand_within [] zero number is = absurd (none-some number is)
in_hand_within [] (suc n) number is = absurd (none-some number is)
in_hand_within (x ∷ xs) zero number is = omega arith
in_hand_within (x ∷ xs) (suc n) number is = let rest = in_hand_within xs n number is in omega (arith, rest)

module _ {D : Type 0} (s : TranscribedState D) (counts : List ℕ) (t : IsTranscribed s counts) (n : ℕ) where
  pub counted_within : n < length s.in_hand → n < length counts
  counted_within within = omega (arith, within, t.wide, t.wide_in_hand)

  pub in_hand_of : n < length counts → n < length s.in_hand
  in_hand_of within = omega (arith, within, t.wide, t.wide_in_hand)

  -- ---- what holds

  pub ends_so : (store : StoreState D) (held : HeldScript) → store.names ≡ s.store.names → store.pages.layout ≡ s.store.pages.layout → held.script ≡ s.script.script → (said : List Said) → said ≡ s.said → (counts' : List ℕ) → counts' ≡ counts
      → (why : Ending) → IsTranscribed (record s { store = store; script = held; said = said; ended = Some why }) counts'
  ends_so store held names layout script said same counts' alike why =
      subst (λ (l : List Said). IsTranscribed (record s { store = store; script = held; said = l; ended = Some why }) counts') (sym same)
      (subst (λ (k : List ℕ). IsTranscribed (record s { store = store; script = held; ended = Some why }) k) (sym alike) (ends s counts t store held (record { names = names; layout = layout; script = script }) why))

  pub takes_so : (number count : ℕ) (statement : Statement) (store : StoreState D) (held : HeldScript) → store.names ≡ s.store.names → store.pages ≡ s.store.pages → held.script ≡ s.script.script → s.ended ≡ None → n < length counts
      → count ≡ slice_index_or counts n 0 → line_at s.in_hand n ≡ None → IsLineOf (lines_in s) n number count statement → held.held ≡ slice_set s.script.held number false → ((m : ℕ) → m ≢ n → hand_at store m ≡ hand_at s.store m)
      → is_some (hand_at store n) ≡ true → IsTranscribed (record s { store = store; script = held; in_hand = slice_set s.in_hand n (Some number) }) counts
  takes_so number count statement store held names pages script none within is idle line taken others busy =
      takes s counts t store held (record { names = names; layout = ap (λ (v : View D). v.layout) pages; script = script }) none n (in_hand_of within) others number statement
      (next_of s counts t n number count statement within is line) taken busy idle

  pub refuses_so : (number count : ℕ) (statement : Statement) (store : StoreState D) (held : HeldScript) → store ≡ s.store → held.script ≡ s.script.script → s.ended ≡ None → n < length counts → count ≡ slice_index_or counts n 0
      → line_at s.in_hand n ≡ None → IsLineOf (lines_in s) n number count statement → held.held ≡ slice_set s.script.held number false → (text : List ℕ) (said : List Said) → said ≡ s.said ++ entry_of n number text ∷ [] → (counts' : List ℕ)
      → counts' ≡ slice_set counts n (slice_index_or counts n 0 + 1) → IsTranscribed (record s { store = store; script = held; said = said }) counts'
  refuses_so number count statement store held same script none within is idle line taken text said kept counts' counted =
      subst (λ (l : List Said). IsTranscribed (record s { store = store; script = held; said = l }) counts') (sym kept)
      (subst (λ (k : List ℕ). IsTranscribed (record s { store = store; script = held; said = s.said ++ entry_of n number text ∷ [] }) k) (sym counted)
      (refuses s counts t store held (record { names = ap (λ (x : StoreState D). x.names) same; layout = ap (λ (x : StoreState D). x.pages.layout) same; script = script }) none n (in_hand_of within)
      (λ m _. ap (λ (x : StoreState D). hand_at x m) same) number statement text (next_of s counts t n number count statement within is line) taken within idle (ap (λ (x : StoreState D). hand_at x n) same)))

  module _ (number : ℕ) (none : s.ended ≡ None) (at : line_at s.in_hand n ≡ Some number) (store : StoreState D) (names : store.names ≡ s.store.names) (layout : store.pages.layout ≡ s.store.pages.layout)
      (others : (m : ℕ) → m ≢ n → hand_at store m ≡ hand_at s.store m) where
    pub goes_so : is_some (hand_at store n) ≡ true → IsTranscribed (record s { store = store }) counts
    goes_so own = goes_on s counts t store s.script (record { names = names; layout = layout; script = refl }) none n (in_hand_within s.in_hand n number at) others refl (own ∙ sym (ap is_some at))

    pub answers_so : is_some (hand_at store n) ≡ false → (text : List ℕ) (said : List Said) → said ≡ s.said ++ entry_of n number text ∷ [] → (counts' : List ℕ) → counts' ≡ slice_set counts n (slice_index_or counts n 0 + 1)
        → IsTranscribed (record s { store = store; said = said; in_hand = slice_set s.in_hand n None }) counts'
    answers_so own text said kept counts' counted =
        subst (λ (l : List Said). IsTranscribed (record s { store = store; said = l; in_hand = slice_set s.in_hand n None }) counts') (sym kept)
        (subst (λ (k : List ℕ). IsTranscribed (record s { store = store; said = s.said ++ entry_of n number text ∷ []; in_hand = slice_set s.in_hand n None }) k) (sym counted)
        (answers s counts t store s.script (record { names = names; layout = layout; script = refl }) none n (in_hand_within s.in_hand n number at) others number text refl at
        (counted_within (in_hand_within s.in_hand n number at)) (nothing (hand_at store n) own)))

module _ {D : Type 0} (told : D → Told) (s now : TranscribedState D) (view_is : s ≡ now) (counts : List ℕ) (t : IsTranscribed s counts) (n : ℕ) where
  -- ---- a submission

  module _ (number : ℕ) where
    pub submit_over : is_some s.ended ≡ true → IsSubmitted told now now n number turns.Ended
    submit_over some = subst (λ (x : TranscribedState D). IsSubmitted told x x n number turns.Ended) view_is (calls.WasOver (over_of s some))

    pub submit_busy : s.ended ≡ None → (n < length counts → IsSome (line_at s.in_hand n)) → IsSubmitted told now (record s { ended = Some endings.OutOfPlace }) n number turns.Ended
    submit_busy none busy =
        subst (λ (x : TranscribedState D). IsSubmitted told x (record s { ended = Some endings.OutOfPlace }) n number turns.Ended) view_is
        (calls.NotNext (record { was = none; same = refl }) (not_idle s counts t n number busy))

    module _ (none : s.ended ≡ None) (count : ℕ) (within : n < length counts) (is : count ≡ slice_index_or counts n 0) (held : HeldScript) (script : held.script ≡ s.script.script) where
      pub submit_gone : held.held ≡ s.script.held → ((statement : Statement) → IsLineOf (lines_in s) n number count statement → slice_get s.script.held number ≡ Some false)
          → IsSubmitted told now (record s { script = held; ended = Some endings.OutOfPlace }) n number turns.Ended
      submit_gone same gone =
          subst (λ (x : TranscribedState D). IsSubmitted told x (record s { script = held; ended = Some endings.OutOfPlace }) n number turns.Ended) view_is
          (calls.NotNext (record { was = none; same = ap (λ (h : HeldScript). record s { script = h; ended = Some endings.OutOfPlace }) (same_held s.script held script same) })
          (not_held s counts t n number count none within is gone))

      module _ (idle : line_at s.in_hand n ≡ None) (statement : Statement) (line : IsLineOf (lines_in s) n number count statement) (only : OnlyNow told s.store.pages) (store : StoreState D) where
        pub submit_takes : store.pages ≡ s.store.pages → LeadsOn told s.store store (λ p q. Submits p n statement None q)
            → IsSubmitted told now (record s { store = store; script = held; in_hand = slice_set s.in_hand n (Some number) }) n number turns.Moved
        submit_takes pages leads =
            subst (λ (x : TranscribedState D). IsSubmitted told x (record s { store = store; script = held; in_hand = slice_set s.in_hand n (Some number) }) n number turns.Moved) view_is
            (calls.Takes statement none (open_of s counts t n number count statement within is idle line) (submission_leads told s.store store only n statement None pages leads) script refl)

        pub submit_refuses : (refusal : Refusal) → store ≡ s.store → LeadsOn told s.store store (λ p q. Submits p n statement (Some refusal) q) → (name : List ℕ) → name ≡ slice_index_or store.names n [] → (said : List Said)
            → said ≡ s.said ++ entry_of n number (reply_text name (replies.Refused refusal)) ∷ [] → IsSubmitted told now (record s { store = store; script = held; said = said }) n number turns.Done
        submit_refuses refusal same leads name name_is said kept =
            let names : store.names ≡ s.store.names = ap (λ (x : StoreState D). x.names) same in
            let named : name ≡ name_in s n = name_is ∙ name_of s counts t n store.names names in
            subst (λ (x : TranscribedState D). IsSubmitted told x (record s { store = store; script = held; said = said }) n number turns.Done) view_is
            (calls.Refuses statement refusal none (open_of s counts t n number count statement within is idle line) (idle_of s counts t n none idle)
            (submission_leads told s.store store only n statement (Some refusal) (ap (λ (x : StoreState D). x.pages) same) leads) script
            (ap (λ (l : List Said). record s { store = store; script = held; said = l }) (kept ∙ ap (λ (m : List ℕ). s.said ++ entry_of n number (reply_text m (replies.Refused refusal)) ∷ []) named)))

        pub submit_loses : (refusal : Refusal) → store ≡ s.store → LeadsOn told s.store store (λ p q. Submits p n statement (Some refusal) q) → (said : List Said) → said ≡ s.said
            → IsSubmitted told now (record s { store = store; script = held; said = said; ended = Some endings.Memory }) n number turns.Ended
        submit_loses refusal same leads said kept =
            subst (λ (x : TranscribedState D). IsSubmitted told x (record s { store = store; script = held; said = said; ended = Some endings.Memory }) n number turns.Ended) view_is
            (calls.LosesRefusal statement refusal none (open_of s counts t n number count statement within is idle line)
            (submission_leads told s.store store only n statement (Some refusal) (ap (λ (x : StoreState D). x.pages) same) leads) script (tables_stay told s.store store only n statement same)
            (ap (λ (l : List Said). record s { store = store; script = held; said = l; ended = Some endings.Memory }) kept))

  -- ---- a step

  pub step_over : is_some s.ended ≡ true → IsAdvanced told now now n turns.Ended
  step_over some = subst (λ (x : TranscribedState D). IsAdvanced told x x n turns.Ended) view_is (calls.WasOver (over_of s some))

  pub step_idle : s.ended ≡ None → line_at s.in_hand n ≡ None → IsAdvanced told now (record s { ended = Some endings.OutOfPlace }) n turns.Ended
  step_idle none idle =
      subst (λ (x : TranscribedState D). IsAdvanced told x (record s { ended = Some endings.OutOfPlace }) n turns.Ended) view_is
      (calls.NothingInHand (record { was = none; same = refl }) (not_at_work s counts t n idle))

  module _ (number : ℕ) (none : s.ended ≡ None) (at : line_at s.in_hand n ≡ Some number) (store : StoreState D) where
    pub step_goes : (point : Point) → PlacesLead told s.store store (StepsSo n (steps.Moved point)) → IsAdvanced told now (record s { store = store }) n turns.Moved
    step_goes point leads = subst (λ (x : TranscribedState D). IsAdvanced told x (record s { store = store }) n turns.Moved) view_is (calls.GoesOn number point none (at_work s counts t n number at) leads refl)

    pub step_waits : (refusal : Refusal) → PlacesLead told s.store store (StepsSo n (steps.Refused refusal)) → IsAdvanced told now (record s { store = store }) n turns.Blocked
    step_waits refusal leads = subst (λ (x : TranscribedState D). IsAdvanced told x (record s { store = store }) n turns.Blocked) view_is (calls.Waits number refusal none (at_work s counts t n number at) leads refl)

    pub step_answers : (reply : Reply) (dropped : List Dropped) → PlacesLead told s.store store (StepsSo n (steps.Ended reply)) → AreDroppedAt store n dropped → store.names ≡ s.store.names → (name : List ℕ)
        → name ≡ slice_index_or store.names n [] → (said : List Said) → said ≡ s.said ++ entry_of n number (dropped_text dropped ++ reply_text name reply) ∷ []
        → IsAdvanced told now (record s { store = store; said = said; in_hand = slice_set s.in_hand n None }) n turns.Done
    step_answers reply dropped leads are names name name_is said kept =
        let named : name ≡ name_in s n = name_is ∙ name_of s counts t n store.names names in
        subst (λ (x : TranscribedState D). IsAdvanced told x (record s { store = store; said = said; in_hand = slice_set s.in_hand n None }) n turns.Done) view_is
        (calls.Answers number reply dropped none (at_work s counts t n number at) leads are
        (ap (λ (l : List Said). record s { store = store; said = l; in_hand = slice_set s.in_hand n None }) (kept ∙ ap (λ (m : List ℕ). s.said ++ entry_of n number (dropped_text dropped ++ reply_text m reply) ∷ []) named)))

    pub step_loses : (reply : Reply) → PlacesLead told s.store store (StepsSo n (steps.Ended reply)) → LeavesTables told s.store store n → (said : List Said) → said ≡ s.said
        → IsAdvanced told now (record s { store = store; said = said; ended = Some endings.Memory }) n turns.Ended
    step_loses reply leads tables said kept =
        subst (λ (x : TranscribedState D). IsAdvanced told x (record s { store = store; said = said; ended = Some endings.Memory }) n turns.Ended) view_is
        (calls.LosesReply number reply none (at_work s counts t n number at) leads tables (ap (λ (l : List Said). record s { store = store; said = l; ended = Some endings.Memory }) kept))

    pub step_stops : (fault : AnswerFault) → PlacesStop told s.store store n fault (IsNotMade n fault) → TellsRoom store n fault → (why : Ending) → why ≡ ending_of fault → IsAdvanced told now (record s { store = store; ended = Some why }) n turns.Ended
    step_stops fault stops room why is =
        subst (λ (x : TranscribedState D). IsAdvanced told x (record s { store = store; ended = Some why }) n turns.Ended) view_is
        (calls.Stops number fault none (at_work s counts t n number at) stops room (ap (λ (w : Ending). record s { store = store; ended = Some w }) is))
