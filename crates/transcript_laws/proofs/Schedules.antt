-- A schedule comes where a script may, and has told a right transcript.
use Rattle.std.proofs.Common.{◌≡◌, ◌⊎◌, inl, inr, ℕ, zero, suc, List, [], ◌∷◌, ◌++◌, Option, None, Some, refl, sym, subst, ◌∙◌}
use Rattle.std.specs.Prelude.{All, slice_get, slice_index_or}
use Rattle.std.proofs.lemmas.List.{append-nil}
use Rattle.std.proofs.lemmas.List.Elements.{All-head, All-tail}
use Rattle.std.proofs.lemmas.Option.{none-some, same_Some}
use Rattle.block_model.specs.declared.reply.Refusal.{Refusal}
use Rattle.block_model.specs.declared.reply.Reply.{Reply}
use Rattle.block_model.specs.declared.reply.Reply.TheVariants as replies
use Rattle.block_model.specs.DatabaseState.{DatabaseState}
use Rattle.block_model.specs.SerialRun.{serial_run}
use Rattle.reply_texts.specs.declared.dropped.Dropped.{Dropped}
use Rattle.reply_texts.specs.DroppedTexts.{dropped_text}
use Rattle.reply_texts.specs.Texts.{reply_text}
use Rattle.store_layout.specs.declared.statement.Statement.{Statement}
use Rattle.store_layout.specs.declared.statement.Statement.TheVariants as statements
use Rattle.store_layout.specs.DiskLayout.{DiskLayout}
use Rattle.store_layout.specs.FirstBrokenRule.{first_broken_rule}
use Rattle.store_layout.specs.StatementFits.{IsStatementFor}
use Rattle.model_laws.specs.NoRowRemovedTwice.{IsOpening}
use Rattle.script_semantics.specs.LineTexts.{NotTaken, Submits, Taken, WantsMemory, dropped_at}
use Rattle.script_semantics.specs.Place.{Hand, Place, database_at}
use Rattle.script_semantics.specs.StatementSteps.{Ended, IsInsert, Outcome, StepsTo}
use Rattle.script_laws.specs.Reached as reached
use Rattle.script_laws.specs.Reached.{BehindNames, BehindStep, BehindSubmit, IsReached}
use Rattle.script_laws.proofs.Reaching.{nothing_first}
use Rattle.transcripts.specs.Transcript.{BehindDropped, Empty, IsNext, IsTextOf, Line, OfReply, Said, next_statement}
use Rattle.transcripts.proofs.Lines.{next_is_said}
use Rattle.transcript_laws.specs.Ahead.{IsAhead}
use Rattle.transcript_laws.specs.EntryLaws.{AnswersAreEntries, BeginsAhead}
use Rattle.transcript_laws.specs.PlaceLaws.{PlacesAreTold, RefusedIsTold, TakenIsAhead}
use Rattle.transcript_laws.specs.Schedule.{AreTold, AtOpening, AtStart, ByReply, MakesStep, NotByMove, NotByWait, Refuses, Schedule, Takes, entry_of}
use Rattle.transcript_laws.specs.ScheduleLaws.{AnswersAreInPlace, FitsSchema, IsRightlyTold, OnlyInsertsDrop}
use Rattle.transcript_laws.specs.StepLaws.{IsAnswered, IsTold, limits_of}
use Rattle.transcript_laws.proofs.Places.{both_stay}

all_at : {X : Type 0} (P : X → Type 0) (xs : List X) (i : ℕ) (x : X) → All P xs → slice_get xs i ≡ Some x → P x
all_at P [] i x all is = absurd (none-some _ is)
all_at P (y ∷ ys) zero x all is = subst P (same_Some _ _ is) (All-head P y ys all)
all_at P (y ∷ ys) (suc i) x all is = all_at P ys i x (All-tail P y ys all) is

-- the text of an answer behind what its statement dropped
text_of : (name : List ℕ) (reply : Reply) (dropped : List Dropped) (statement : Statement) → IsInsert statement ⊎ (dropped ≡ []) → IsTextOf name reply statement (dropped_text dropped ++ reply_text name reply)
text_of name reply dropped (statements.Insert table values) drops = BehindDropped table values dropped
text_of name reply dropped statement (inl insert) = absurd insert
text_of name reply dropped statement (inr none) = subst (λ (d : List Dropped). IsTextOf name reply statement (dropped_text d ++ reply_text name reply)) (sym none) (OfReply statement)

taken_idle : (p : Place) (n : ℕ) (statement : Statement) (q : Place) → Submits p n statement None q → p.hands n ≡ None
taken_idle p n statement _ (Taken none) = nothing_first (p.hands n) _ none

-- the layout and the opening of a place
record IsOf (layout : DiskLayout) (opening : DatabaseState) (p : Place) : Type 0 where
  layout_is : p.layout ≡ layout
  opening_is : p.opening ≡ opening

submit_stays : (layout : DiskLayout) (opening : DatabaseState) (p : Place) (n : ℕ) (statement : Statement) (told : Option Refusal) (q : Place) → IsOf layout opening p → Submits p n statement told q → IsOf layout opening q
submit_stays layout opening p n statement _ _ of (Taken none) = record { layout_is = of.layout_is; opening_is = of.opening_is }
submit_stays layout opening p n statement _ _ of (NotTaken refusal is) = of
submit_stays layout opening p n statement _ _ of (WantsMemory none may) = of

module _ (layout : DiskLayout) (names : List (List ℕ)) (script : List Line) (opening : DatabaseState) where
  place_of : (said : List Said) (p : Place) → Schedule layout names script opening said p → IsOf layout opening p
  place_of _ _ (AtOpening p opens) = record { layout_is = opens.layout_is; opening_is = opens.opening_is }
  place_of _ _ (AtStart p start new) = record { layout_is = start.layout_is; opening_is = start.opening ∙ sym new }
  place_of _ _ (Takes said p q n number statement before next takes) = submit_stays layout opening p n statement None q (place_of said p before) takes
  place_of _ _ (Refuses said p q n number statement refusal before idle next refused) = submit_stays layout opening p n statement (Some refusal) q (place_of said p before) refused
  place_of _ _ (MakesStep said told p q n number statement outcome before next step tell) =
      let of = place_of said p before in
      let stay = both_stay p q n step.hand outcome step.steps in
      record { layout_is = stay.0 ∙ of.layout_is; opening_is = stay.1 ∙ of.opening_is }

  module _ (fits : FitsSchema layout.schema script) where
    fits_at : (said : List Said) (n number : ℕ) (statement : Statement) → IsNext script said n number statement → IsStatementFor layout.schema statement
    fits_at said n number statement next = all_at (λ (line : Line). IsStatementFor layout.schema line.statement) script number (record { session = n; statement = statement }) fits next.is

    pub comes_there : (said : List Said) (p : Place) → Schedule layout names script opening said p → IsReached layout p
    comes_there _ _ (AtOpening p opens) = BehindNames p names (reached.AtOpening opening p opens)
    comes_there _ _ (AtStart p start new) = BehindNames p names (reached.AtStart p start)
    comes_there _ _ (Takes said p q n number statement before next takes) = BehindSubmit p q n statement None (comes_there said p before) (fits_at said n number statement next) takes
    comes_there _ _ (Refuses said p q n number statement refusal before idle next refused) =
        BehindSubmit p q n statement (Some refusal) (comes_there said p before) (fits_at said n number statement next) refused
    comes_there _ _ (MakesStep said told p q n number statement outcome before next step tell) = BehindStep p q n outcome (comes_there said p before) step

    -- ---- the transcript

    module _ (places : PlacesAreTold) (takes_ahead : TakenIsAhead) (refused_told : RefusedIsTold) (entries : AnswersAreEntries) (begins : BeginsAhead) (in_place : AnswersAreInPlace) (drop : OnlyInsertsDrop)
        (within : first_broken_rule layout.schema layout.sizes ≡ None) (opens : IsOpening opening) where
      abbrev Right : List Said → Place → Type 0
      Right said p = IsRightlyTold layout names script opening said p

      at_first : (p : Place) → serial_run p.opening p.journal ≡ opening → ((n : ℕ) → p.hands n ≡ None) → Right [] (record p { names = names })
      at_first p same idle =
          let ahead : IsAhead (next_statement script []) p.hands (serial_run p.opening p.journal) opening =
          subst (λ (d : DatabaseState). IsAhead (next_statement script []) p.hands d opening) (sym same) (begins (next_statement script []) p.hands opening idle) in
          record { s = opening; right = Empty; table = ahead.table; ahead = ahead }

      -- an answer is one entry more
      one_more : (said : List Said) (p q : Place) (n number : ℕ) (statement : Statement) (reply : Reply) (text : List ℕ) (r : Right said p) → IsNext script said n number statement
          → IsTextOf (slice_index_or names n []) reply statement text → IsAnswered (limits_of p.layout) (next_statement script said) q.hands (database_at q) r.s n statement reply → p.layout ≡ layout
          → Right (said ++ entry_of n number text ∷ []) q
      one_more said p q n number statement reply text r next is answered same =
          let told : IsAnswered (limits_of layout) (next_statement script said) q.hands (database_at q) r.s n statement reply =
          subst (λ (l : DiskLayout). IsAnswered (limits_of l) (next_statement script said) q.hands (database_at q) r.s n statement reply) same answered in
          let more = entries (limits_of layout) names script opening (database_at q) r.s said q.hands (entry_of n number text) statement reply r.right next is told in
          record { s = more.0; right = more.1; table = more.2.table; ahead = more.2 }

      nothing_more : (said : List Said) (p q : Place) (r : Right said p) → IsAhead (next_statement script said) q.hands (database_at q) r.s → Right (said ++ []) q
      nothing_more said p q r ahead = subst (λ (l : List Said). Right l q) (sym (append-nil said)) (record { s = r.s; right = r.right; table = ahead.table; ahead = ahead })

      one_step : (said told : List Said) (p q : Place) (n number : ℕ) (statement : Statement) (outcome : Outcome) (r : Right said p) → IsNext script said n number statement → p.layout ≡ layout
          → ((reply : Reply) → outcome ≡ Ended reply → IsInsert statement ⊎ (dropped_at q n ≡ [])) → AreTold q names n number outcome told
          → IsTold (limits_of p.layout) (next_statement script said) q.hands (database_at q) r.s n statement outcome → Right (said ++ told) q
      one_step said _ p q n number statement _ r next same drops (NotByMove point) is = nothing_more said p q r is
      one_step said _ p q n number statement _ r next same drops (NotByWait told) is = nothing_more said p q r is
      one_step said _ p q n number statement _ r next same drops (ByReply reply) is =
          one_more said p q n number statement reply (dropped_text (dropped_at q n) ++ reply_text (slice_index_or names n []) reply) r next
          (text_of (slice_index_or names n []) reply (dropped_at q n) statement (drops reply refl)) is same

      pub rightly_told : (said : List Said) (p : Place) → Schedule layout names script opening said p → Right said p
      rightly_told _ _ (AtOpening p is) = at_first p (λ i. serial_run (is.opening_is i) (is.journal i)) is.hands
      rightly_told _ _ (AtStart p is new) = at_first p (λ i. serial_run ((is.opening ∙ sym new) i) (is.journal i)) is.hands
      rightly_told _ _ (Takes said p q n number statement before next takes) =
          let r = rightly_told said p before in
          let ahead = takes_ahead p q r.s (next_statement script said) n statement r.ahead (taken_idle p n statement q takes) (next_is_said script said n number statement next) takes in
          record { s = r.s; right = r.right; table = ahead.table; ahead = ahead }
      rightly_told _ _ (Refuses said p q n number statement refusal before idle next refused) =
          let r = rightly_told said p before in
          one_more said p q n number statement (replies.Refused refusal) (reply_text (slice_index_or names n []) (replies.Refused refusal)) r next (OfReply statement)
          (refused_told p q r.s (next_statement script said) n statement refusal r.ahead idle refused) (place_of said p before).layout_is
      rightly_told _ _ (MakesStep said told p q n number statement outcome before next step tell) =
          let r = rightly_told said p before in
          let of = place_of said p before in
          let come = comes_there said p before in
          let hand : Hand = step.hand in
          let same : hand.statement ≡ statement = same_Some _ _ (sym (r.ahead.lines n hand step.in_hand) ∙ next_is_said script said n number statement next) in
          let is : IsTold (limits_of p.layout) (next_statement script said) q.hands (database_at q) r.s n hand.statement outcome =
          places p q r.s (next_statement script said) n hand outcome (subst IsOpening (sym of.opening_is) opens) r.ahead step.in_hand (in_place layout p n hand within come step.in_hand) step.steps in
          one_step said told p q n number statement outcome r next of.layout_is
          (λ reply ends. subst (λ (st : Statement). IsInsert st ⊎ (dropped_at q n ≡ [])) same (drop layout p q n hand reply within come step.in_hand (subst (λ (o : Outcome). StepsTo p n hand o q) ends step.steps)))
          tell (subst (λ (st : Statement). IsTold (limits_of p.layout) (next_statement script said) q.hands (database_at q) r.s n st outcome) same is)
