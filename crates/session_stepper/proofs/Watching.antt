-- what is known over an honest name, behind each call
use Rattle.std.proofs.Common.{◌≡◌, inl, inr, ℕ, List, [], ◌∷◌, ◌++◌, Option, None, Some, refl, sym, ap, ◌∙◌, subst, append-nil}
use Rattle.std.specs.Prelude.{MatchOption, slice_set}
use Rattle.std.proofs.lemmas.Bool.{false≢true}
use Rattle.std.specs.Option.{is_some}
use Rattle.block_model.specs.declared.reply.Reply.TheVariants as replies
use Rattle.block_model.specs.DatabaseState.{DatabaseState}
use Rattle.block_model.specs.SerialRun.{IsLegal}
use Rattle.demo_script.specs.declared.answer.Answer.TheVariants as answers
use Rattle.disk_trait.specs.Told.{Told}
use Rattle.io_traits.specs.declared.stepper.Turn.{Turn}
use Rattle.page_map.specs.Keeps.{Leaves, Tells}
use Rattle.page_map.specs.PageMap.{View}
use Rattle.reply_texts.specs.declared.dropped.Dropped.{Dropped}
use Rattle.reply_texts.specs.DroppedTexts.{dropped_text}
use Rattle.reply_texts.specs.Texts.{reply_text}
use Rattle.script_run.specs.declared.engine.AnswerFault.{AnswerFault}
use Rattle.script_run.specs.declared.engine.AnswerFault.TheVariants as faults
use Rattle.store_layout.specs.DiskLayout.{DiskLayout}
use Rattle.store_layout.specs.FirstBrokenRule.{IsFirstBroken, IsLeastBroken, KeepsLimits, first_broken_rule}
use Rattle.transactions.specs.StopLaws.{EachImage}
use Rattle.script_semantics.specs.LineTexts.{Submits, dropped_at}
use Rattle.script_semantics.specs.Place.{Place}
use Rattle.script_semantics.specs.RequestSteps.{StepsEnter}
use Rattle.script_semantics.specs.StatementSteps.{LacksRoom, Moved, Ended, Waits}
use Rattle.transcripts.specs.Transcript.{Said}
use Rattle.transcript_laws.specs.Schedule.{AtOpening, AtStart, ByReply, MakesStep, NotByMove, NotByWait, Refuses, Schedule, Takes, entry_of}
use Rattle.transcript_laws.specs.ScheduleLaws.{AnswersAreInPlace, FitsSchema, OnlyInsertsDrop, SchedulesAreReached, SchedulesAreTranscripts}
use Rattle.plain_script.specs.HeldScripts.{HeldScript}
use Rattle.plain_script.specs.PlainScripts.{PlainScript}
use Rattle.session_parts.specs.ShowsPlace.{ShowsPlace}
use Rattle.session_parts.specs.StoreStates.{StoreState}
use Rattle.session_core.specs.StopRule.{AllHaveTable}
use Rattle.session_orders.specs.CrashRule.{HasTableOf}
use Rattle.session_orders.specs.Leading.{PlacesLead, PlacesStop, StopsWith}
use Rattle.session_orders.specs.OneStep.{LeavesTables}
use Rattle.session_orders.specs.Orders.{IsNotMade, StepsSo}
use Rattle.session_orders.proofs.Stepping.{nothing_in_hand}
use Rattle.session_stepper.specs.declared.ending.Ending.{Ending}
use Rattle.session_stepper.specs.declared.ending.Ending.TheVariants as endings
use Rattle.session_stepper.specs.Beginning.{Begins, IsBegun, IsGiven}
use Rattle.session_stepper.specs.Calls as calls
use Rattle.session_stepper.specs.Calls.{IsAdvanced, IsSubmitted, ending_of}
use Rattle.session_stepper.specs.Locked.{ByRefusal, ByStep, IsKnown, IsWatched, IsWatchedSomewhere, LeadsByAnswer, StandsAt, StandsBy}
use Rattle.session_stepper.specs.TranscribedState.{TranscribedState, lines_in, name_in}
use Rattle.session_stepper.proofs.Replying.{replies_told}

module _ {D : Type 0} (told : D → Told) (opening : DatabaseState) (layout : DiskLayout) where
  -- by the script that it has
  abbrev pub Watched : TranscribedState D → Place → Type 0
  Watched s p = IsWatched told opening layout s.script.script s p

  abbrev pub WatchedAt : PlainScript → TranscribedState D → Type 0
  WatchedAt script s = IsWatchedSomewhere told opening layout script s

  -- the journal of a place that a store shows is legal
  shown_legal : (s : StoreState D) (p : Place) → ShowsPlace s p → p.opening ≡ opening → IsLegal opening p.journal
  shown_legal s p shown same = subst (λ (o : DatabaseState). IsLegal o p.journal) same shown.legal

  module _ (s : TranscribedState D) (p : Place) (w : Watched s p) (none : s.ended ≡ None) where
    here : StandsAt told s.store p
    here = subst (λ (o : Option Ending). StandsBy told s.store p o) none w.stands

    -- it ends at the place, and nothing else changes
    pub stopped : WatchedAt s.script.script (record s { ended = Some endings.OutOfPlace })
    stopped = (
      p,
      record {
        tells = w.tells;
        opens = w.opens;
        opening_is = w.opening_is;
        layout_is = w.layout_is;
        script_is = refl;
        schedule = w.schedule;
        legal = w.legal;
        stands = here;
        stop = w.stop;
      },
    )

    -- it ends so, over a store that stands so by that end
    ends_so : (why : Ending) (store : StoreState D) (held : HeldScript) → Leaves told s.store.pages store.pages → held.script ≡ s.script.script → StandsBy told store p (Some why)
        → ((n : ℕ) × EachImage told store.pages (HasTableOf p n)) → WatchedAt s.script.script (record s { store = store; script = held; ended = Some why })
    ends_so why store held leaves same stands stop = (
      p,
      record {
        tells = leaves.tells ∙ w.tells;
        opens = w.opens;
        opening_is = w.opening_is;
        layout_is = leaves.layout ∙ w.layout_is;
        script_is = same;
        schedule = w.schedule;
        legal = w.legal;
        stands = stands;
        stop = stop;
      },
    )

    module _ (ready : s.store.pages.failed ≡ None) (store : StoreState D) where
      -- the store goes on to a place that the sessions' lines lead to
      pub lives : (P : Place → Place → Type 0) (held : HeldScript) (said : List Said) (in_hand : List (Option ℕ)) → PlacesLead told s.store store P → held.script ≡ s.script.script
          → ((q : Place) → ShowsPlace s.store p → ShowsPlace store q → P p q → Schedule layout s.script.script.names s.script.script.lines opening said q)
          → WatchedAt s.script.script (record s { store = store; script = held; said = said; in_hand = in_hand })
      lives P held said in_hand leads same goes =
          let far = leads.places w.tells ready p here.0 in
          let all = far.stops here.1 in
          let same_opening : far.place.opening ≡ opening = far.further.opening ∙ w.opening_is in (
            far.place,
            record {
              tells = leads.leaves.tells ∙ w.tells;
              opens = w.opens;
              opening_is = same_opening;
              layout_is = leads.leaves.layout ∙ w.layout_is;
              script_is = same;
              schedule = goes far.place here.0 far.shown far.so;
              legal = shown_legal store far.place far.shown same_opening;
              stands = subst (λ (o : Option Ending). StandsBy told store far.place o) (sym none) (far.shown, all.1);
              stop = (0, λ image now. inl (all.1 image now));
            },
          )

      -- a step isn't made
      unmade : (n : ℕ) (fault : AnswerFault) → Leaves told s.store.pages store.pages → StopsWith told s.store store n fault (IsNotMade n fault) p → WatchedAt s.script.script (record s { store = store; ended = Some (ending_of fault) })
      unmade n faults.Memory leaves stops = absurd stops.so.0
      unmade n faults.Full leaves stops =
          let at : StandsAt told store p = subst (λ (x : Place). StandsAt told store x) stops.so.1 (stops.left.0, (stops.left.1 here.1).1) in
          ends_so endings.Spent store s.script leaves refl (at, (n, subst (λ (x : Place). LacksRoom x n) stops.so.1 stops.so.0)) (n, λ image now. inl (at.1 image now))
      unmade n faults.Disk leaves stops =
          ends_so endings.Disk store s.script leaves refl tt (n, subst (λ (x : Place). EachImage told store.pages (HasTableOf x n)) stops.so.1 (stops.left here.1).1)
      unmade n faults.Damaged leaves stops = absurd stops.left

      pub stops_there : (n : ℕ) (fault : AnswerFault) → PlacesStop told s.store store n fault (IsNotMade n fault) → WatchedAt s.script.script (record s { store = store; ended = Some (ending_of fault) })
      stops_there n fault stops = unmade n fault stops.leaves (stops.places w.tells ready p here.0)

      -- a line is answered, and the text is lost
      pub lost : (n : ℕ) (P : Place → Place → Type 0) (held : HeldScript) → PlacesLead told s.store store P → held.script ≡ s.script.script → ((q : Place) → P p q → LeadsByAnswer n p q) → LeavesTables told s.store store n
          → WatchedAt s.script.script (record s { store = store; script = held; ended = Some endings.Memory })
      lost n P held leads same by_answer tables =
          let far = leads.places w.tells ready p here.0 in
          ends_so endings.Memory store held leads.leaves same (far.place, (n, by_answer far.place far.so), (far.shown, (far.stops here.1).1)) (n, tables p here.0 here.1)

  -- ---- the calls, by the script that it has

  abbrev pub IsReady : TranscribedState D → Type 0
  IsReady s = s.ended ≡ None → s.store.pages.failed ≡ None

  submitted_there : (s s' : TranscribedState D) (n number : ℕ) (turn : Turn) (p : Place) → Watched s p → IsReady s → IsSubmitted told s s' n number turn → WatchedAt s.script.script s'
  submitted_there s s' n number _ p w ready (calls.WasOver over) = subst (λ (x : TranscribedState D). WatchedAt s.script.script x) (sym over.same) (p, w)
  submitted_there s s' n number _ p w ready (calls.NotNext out why) =
      subst (λ (x : TranscribedState D). WatchedAt s.script.script x) (sym out.same) (stopped s p w out.was)
  submitted_there s s' n number _ p w ready (calls.Takes statement none at leads same is) =
      subst (λ (x : TranscribedState D). WatchedAt s.script.script x) (sym is)
      (lives s p w none (ready none) s'.store (λ a b. Submits a n statement None b) s'.script s.said (slice_set s.in_hand n (Some number)) leads same
      (λ q _ _ submits. Takes s.said p q n number statement w.schedule at.next submits))
  submitted_there s s' n number _ p w ready (calls.Refuses statement refusal none at idle leads same is) =
      subst (λ (x : TranscribedState D). WatchedAt s.script.script x) (sym is)
      (lives s p w none (ready none) s'.store (λ a b. Submits a n statement (Some refusal) b) s'.script (s.said ++ entry_of n number (reply_text (name_in s n) (replies.Refused refusal)) ∷ []) s.in_hand leads same
      (λ q before _ submits. Refuses s.said p q n number statement refusal w.schedule (nothing_in_hand s.store n p (ap is_some idle) before) at.next submits))
  submitted_there s s' n number _ p w ready (calls.LosesRefusal statement refusal none at leads same tables is) =
      subst (λ (x : TranscribedState D). WatchedAt s.script.script x) (sym is) (lost s p w none (ready none) s'.store n (λ a b. Submits a n statement (Some refusal) b) s'.script leads same (λ q submits. ByRefusal statement refusal submits) tables)

  advanced_there : (s s' : TranscribedState D) (n : ℕ) (turn : Turn) (p : Place) → Watched s p → IsReady s → IsAdvanced told s s' n turn → WatchedAt s.script.script s'
  advanced_there s s' n _ p w ready (calls.WasOver over) = subst (λ (x : TranscribedState D). WatchedAt s.script.script x) (sym over.same) (p, w)
  advanced_there s s' n _ p w ready (calls.NothingInHand out why) =
      subst (λ (x : TranscribedState D). WatchedAt s.script.script x) (sym out.same) (stopped s p w out.was)
  advanced_there s s' n _ p w ready (calls.GoesOn number point none at leads is) =
      subst (λ (x : TranscribedState D). WatchedAt s.script.script x) (sym is)
      (lives s p w none (ready none) s'.store (StepsSo n (answers.Moved point)) s.script s.said s.in_hand leads refl
      (λ q _ _ steps. subst (λ (l : List Said). Schedule layout s.script.script.names s.script.script.lines opening l q) (append-nil s.said)
      (MakesStep s.said [] p q n number at.statement (Moved point) w.schedule at.next steps (NotByMove point))))
  advanced_there s s' n _ p w ready (calls.Waits number refusal none at leads is) =
      subst (λ (x : TranscribedState D). WatchedAt s.script.script x) (sym is)
      (lives s p w none (ready none) s'.store (StepsSo n (answers.Refused refusal)) s.script s.said s.in_hand leads refl
      (λ q _ _ steps. subst (λ (l : List Said). Schedule layout s.script.script.names s.script.script.lines opening l q) (append-nil s.said)
      (MakesStep s.said [] p q n number at.statement (Waits refusal) w.schedule at.next steps (NotByWait refusal))))
  advanced_there s s' n _ p w ready (calls.Answers number reply dropped none at leads are is) =
      subst (λ (x : TranscribedState D). WatchedAt s.script.script x) (sym is)
      (lives s p w none (ready none) s'.store (StepsSo n (answers.Ended reply)) s.script (s.said ++ entry_of n number (dropped_text dropped ++ reply_text (name_in s n) reply) ∷ []) (slice_set s.in_hand n None) leads refl
      (λ q _ shown steps. subst (λ (d : List Dropped). Schedule layout s.script.script.names s.script.script.lines opening (s.said ++ entry_of n number (dropped_text d ++ reply_text (name_in s n) reply) ∷ []) q)
      (sym (are q shown))
      (MakesStep s.said (entry_of n number (dropped_text (dropped_at q n) ++ reply_text (name_in s n) reply) ∷ []) p q n number at.statement (Ended reply) w.schedule at.next steps (ByReply reply))))
  advanced_there s s' n _ p w ready (calls.LosesReply number reply none at leads tables is) =
      subst (λ (x : TranscribedState D). WatchedAt s.script.script x) (sym is) (lost s p w none (ready none) s'.store n (StepsSo n (answers.Ended reply)) s.script leads refl (λ q steps. ByStep reply steps) tables)
  advanced_there s s' n _ p w ready (calls.Stops number fault none at stops room is) =
      subst (λ (x : TranscribedState D). WatchedAt s.script.script x) (sym is) (stops_there s p w none (ready none) s'.store n fault stops)

  -- ---- and by the name's

  own_script : (script : PlainScript) (s : TranscribedState D) (p : Place) → IsWatched told opening layout script s p → Watched s p
  own_script script s p w = subst (λ (x : PlainScript). IsWatched told opening layout x s p) (sym w.script_is) w

  pub submitted_on : (script : PlainScript) (s s' : TranscribedState D) (n number : ℕ) (turn : Turn) → IsSubmitted told s s' n number turn → IsReady s → WatchedAt script s → WatchedAt script s'
  submitted_on script s s' n number turn call ready w =
      subst (λ (x : PlainScript). WatchedAt x s') w.1.script_is (submitted_there s s' n number turn w.0 (own_script script s w.0 w.1) ready call)

  pub advanced_on : (script : PlainScript) (s s' : TranscribedState D) (n : ℕ) (turn : Turn) → IsAdvanced told s s' n turn → IsReady s → WatchedAt script s → WatchedAt script s'
  advanced_on script s s' n turn call ready w = subst (λ (x : PlainScript). WatchedAt x s') w.1.script_is (advanced_there s s' n turn w.0 (own_script script s w.0 w.1) ready call)

  -- ---- what a caller learns

  unbroken : (layout : DiskLayout) → KeepsLimits layout.schema layout.sizes → IsLeastBroken layout.schema layout.sizes → first_broken_rule layout.schema layout.sizes ≡ None
  unbroken layout keeps least = by (first_broken_rule layout.schema layout.sizes) refl least
    where
      by : (o : Option ℕ) → first_broken_rule layout.schema layout.sizes ≡ o → MatchOption o (KeepsLimits layout.schema layout.sizes) (IsFirstBroken layout.schema layout.sizes) → first_broken_rule layout.schema layout.sizes ≡ None
      by None is least = is
      by (Some rule) is least = absurd (false≢true (sym least.broken ∙ keeps rule))

  pub knows : (script : PlainScript) (s : TranscribedState D) → SchedulesAreTranscripts → SchedulesAreReached → AnswersAreInPlace → OnlyInsertsDrop → StepsEnter → KeepsLimits s.store.pages.layout.schema s.store.pages.layout.sizes
      → IsLeastBroken s.store.pages.layout.schema s.store.pages.layout.sizes → FitsSchema s.store.pages.layout.schema (lines_in s) → WatchedAt script s → IsKnown told opening layout script s
  knows script s law reached in_place drop enter keeps least fits w =
      let within = subst (λ (l : DiskLayout). first_broken_rule l.schema l.sizes ≡ None) w.1.layout_is (unbroken s.store.pages.layout keeps least) in
      let fit = subst (λ (x : PlainScript). FitsSchema layout.schema x.lines) w.1.script_is (subst (λ (l : DiskLayout). FitsSchema l.schema (lines_in s)) w.1.layout_is fits) in
      record {
        place = w.0;
        watched = w.1;
        opening_is = w.1.opening_is;
        legal = w.1.legal;
        right = law layout script.names script.lines opening s.said w.0 within fit w.1.opens w.1.schedule;
        replies = replies_told layout script.names script.lines opening s.said w.0 fit within w.1.opens law reached in_place drop enter w.1.schedule w.1.opening_is w.1.legal;
      }

  -- ---- before the first line

  pub watched_new : (script : PlainScript) (store : StoreState D) (held : HeldScript) (s : TranscribedState D) → IsGiven told opening layout script store held.script → store.pages.failed ≡ None → IsBegun told store held s → WatchedAt script s
  watched_new script store held s given ready begun =
      let place = record given.place { names = script.names } in
      let same_opening : place.opening ≡ opening = opening_of given.place given.begins in
      let shown : ShowsPlace s.store place = subst (λ (x : PlainScript). ShowsPlace s.store (record given.place { names = x.names })) given.script_is (begun.sessions.places given.tells ready given.place given.shown) in
      let all : AllHaveTable told s.store.pages place = subst (λ (v : View D). AllHaveTable told v given.place) (sym begun.sessions.pages) given.all in (
        place,
        record {
          tells = subst (λ (v : View D). Tells told v) (sym begun.sessions.pages) given.tells;
          opens = given.opens;
          opening_is = same_opening;
          layout_is = ap (λ (v : View D). v.layout) begun.sessions.pages ∙ given.layout_is;
          script_is = ap (λ (h : HeldScript). h.script) begun.script_is ∙ given.script_is;
          schedule = subst (λ (l : List Said). Schedule layout script.names script.lines opening l place) (sym begun.said) (schedule_new given.place given.begins);
          legal = shown_legal s.store place shown same_opening;
          stands = subst (λ (o : Option Ending). StandsBy told s.store place o) (sym begun.ended) (shown, all);
          stop = (0, λ image now. inl (all image now));
        },
      )
    where
      opening_of : (place : Place) → Begins layout opening place → place.opening ≡ opening
      opening_of place (inl opened) = opened.opening_is
      opening_of place (inr started) = started.0.opening ∙ sym started.1

      schedule_new : (place : Place) → Begins layout opening place → Schedule layout script.names script.lines opening [] (record place { names = script.names })
      schedule_new place (inl opened) = AtOpening place opened
      schedule_new place (inr started) = AtStart place started.0 started.1
