-- steps and submissions at a place
use Rattle.std.proofs.Common.{◌≡◌, ◌⊎◌, inl, inr, ℕ, true, Option, None, Some, refl, sym, ap, subst, ◌∙◌}
use Rattle.std.proofs.lemmas.Bool.{cases_eq, false≢true}
use Rattle.std.proofs.lemmas.Option.{none-some}
use Rattle.std.specs.FinMap as map
use Rattle.block_model.specs.declared.reply.Refusal.{Refusal}
use Rattle.block_model.specs.declared.reply.Refusal.TheVariants as refusals
use Rattle.block_model.specs.declared.reply.Reply.TheVariants as replies
use Rattle.block_model.specs.DatabaseState.{DatabaseState}
use Rattle.block_model.specs.SerialRun.{serial_run}
use Rattle.store_layout.specs.declared.statement.Statement.{Statement}
use Rattle.store_layout.specs.declared.statement.Statement.TheVariants as statements
use Rattle.store_layout.specs.StatementRequests.{refusal_at}
use Rattle.model_laws.specs.NoRowRemovedTwice.{IsOpening}
use Rattle.script_semantics.specs.LineTexts.{NotTaken, Submits, Taken, WantsMemory, block_refusal, in_hand_refusal, may_want_memory, or_else, submit_refusal}
use Rattle.script_semantics.specs.Place.{Hand, Place, database_at, updated}
use Rattle.script_semantics.specs.RequestSteps.{RequestStep}
use Rattle.script_semantics.specs.StatementSteps.{AtOnce, GoesOn, IsRefused, IsWaiting, LacksMemoryAtOnce, MeetsConflict, NoNumber, NothingAsked, Outcome, Replies, StepsTo}
use Rattle.script_semantics.proofs.Entering.{enters_its_own}
use Rattle.transcripts.specs.Told as told
use Rattle.transcripts.specs.Told.{BeginLacksMemory, IsOutside, Outside, Tells}
use Rattle.transcript_laws.specs.Ahead.{IsAhead}
use Rattle.transcript_laws.specs.PlaceLaws.{RefusedIsTold, TakenIsAhead}
use Rattle.transcript_laws.specs.StepLaws.{IsAnswered, IsTold, limits_of}
use Rattle.transcript_laws.proofs.Events.{updated_here, updated_there}
use Rattle.transcript_laws.proofs.More.{others_ahead, same_copy, taken}
use Rattle.transcript_laws.proofs.Stepping.{steps_told}
use Rattle.transcripts.proofs.Allowed.{begin_allowed}

-- layout and opening stay
pub both_stay : (p q : Place) (n : ℕ) (hand : Hand) (outcome : Outcome) → StepsTo p n hand outcome q → (q.layout ≡ p.layout) × (q.opening ≡ p.opening)
both_stay p _ n hand _ (GoesOn point c q turn named busy makes leads) = (leads.layout, leads.opening)
both_stay p _ n hand _ (Replies point c reply q turn named rests all replied leads) = (leads.layout, leads.opening)
both_stay p _ n hand _ (MeetsConflict id c q turn named all replied leads) = (leads.layout, leads.opening)
both_stay p _ n hand _ (IsRefused why tag told q turn named so leads) = (leads.layout, leads.opening)
both_stay p _ n hand _ (AtOnce c reply q once all replied stay leads) = (leads.layout, leads.opening)
both_stay p _ n hand _ (NothingAsked q work rest empty stay leads) = (leads.layout, leads.opening)
both_stay p _ n hand _ (LacksMemoryAtOnce q may rest stay leads) = (leads.layout, leads.opening)
both_stay p _ n hand _ (NoNumber q begin number stay leads) = (leads.layout, leads.opening)
both_stay p _ n hand _ (IsWaiting table told on own blocked waits) = (refl, refl)

-- all but one stay, so they are the old ones with that one new
but_one : {A : Type 0} (f g : ℕ → A) (n : ℕ) (x : A) → g n ≡ x → ((m : ℕ) → (m ≡ n) ⊎ (g m ≡ f m)) → updated f n x ≡ g
but_one f g n x here others = λ i. λ m. each m i
  where
    each : (m : ℕ) → updated f n x m ≡ g m
    each m = elim (cases_eq m n) [
      | inl same ↦ subst (λ k. updated f n x k ≡ g k) (sym same) (updated_here f n x ∙ sym here)
      | inr apart ↦ updated_there f n m x apart ∙ elim (others m) [ inl same ↦ absurd (apart same) | inr is ↦ sym is ]
    ]

pub place_told : (p q : Place) (s : DatabaseState) (next : ℕ → Option Statement) (n : ℕ) (hand : Hand) (outcome : Outcome) → IsOpening p.opening → IsAhead next p.hands (database_at p) s → p.hands n ≡ Some hand
    → RequestStep p.layout p.opening n hand p.journal outcome (q.hands n) q.journal → StepsTo p n hand outcome q → IsTold (limits_of p.layout) next q.hands (database_at q) s n hand.statement outcome
place_told p q s next n hand outcome opens was has enters step =
    subst (λ (h : ℕ → Option Hand). IsTold (limits_of p.layout) next h (database_at q) s n hand.statement outcome)
    (but_one p.hands q.hands n (q.hands n) refl (enters_its_own p q n hand outcome step).others)
    (subst (λ (o : DatabaseState). IsTold (limits_of p.layout) next (updated p.hands n (q.hands n)) (serial_run o q.journal) s n hand.statement outcome) (sym (both_stay p q n hand outcome step).1)
    (steps_told p.layout p.opening s next p.hands n hand (q.hands n) p.journal q.journal outcome opens was has enters))

-- ---- submissions

second_none : (a b : Option Refusal) → or_else a b ≡ None → b ≡ None
second_none None b e = e
second_none (Some refusal) b e = absurd (none-some _ (sym e))

free : (p : Place) (n : ℕ) (statement : Statement) → submit_refusal p n statement ≡ None → refusal_at (database_at p) n statement ≡ None
free p n statement e =
    second_none (block_refusal p.layout.sizes.heap_blocks statement) (refusal_at (database_at p) n statement)
    (second_none (in_hand_refusal (p.hands n)) (or_else (block_refusal p.layout.sizes.heap_blocks statement) (refusal_at (database_at p) n statement)) e)

taken_at : (p : Place) (s : DatabaseState) (next : ℕ → Option Statement) (n : ℕ) (statement : Statement) (q : Place) → IsAhead next p.hands (database_at p) s → p.hands n ≡ None
    → next n ≡ Some statement → Submits p n statement None q → IsAhead next q.hands (database_at q) s
taken_at p s next n statement _ was idle line (Taken none) = (taken next p.hands (database_at p) s n statement was idle).1 (free p n statement none) line

pub taken_ahead : TakenIsAhead
taken_ahead p q s next n statement was idle line takes = taken_at p s next n statement q was idle line takes

block_outside : (limit : ℕ) (statement : Statement) (refusal : Refusal) → block_refusal limit statement ≡ Some refusal → IsOutside statement
block_outside limit (statements.Summarize index block) refusal e = tt
block_outside limit (statements.Desummarize index block) refusal e = tt
block_outside limit statement refusal e = absurd (none-some _ e)

module _ (p : Place) (s : DatabaseState) (next : ℕ → Option Statement) (n : ℕ) (was : IsAhead next p.hands (database_at p) s) (idle : p.hands n ≡ None) where
  alike : (statement : Statement) → refusal_at s n statement ≡ refusal_at (database_at p) n statement
  alike statement = (taken next p.hands (database_at p) s n statement was idle).0

  by_block : (statement : Statement) (refusal : Refusal) (o : Option Refusal) → block_refusal p.layout.sizes.heap_blocks statement ≡ o → or_else o (refusal_at (database_at p) n statement) ≡ Some refusal
      → Tells (limits_of p.layout) next s n statement (replies.Refused refusal) s
  by_block statement refusal None block is = told.NotTaken statement refusal (alike statement ∙ is)
  by_block statement refusal (Some first) block is = Outside statement (replies.Refused refusal) (block_outside p.layout.sizes.heap_blocks statement first block)

  wants_memory : (statement : Statement) → may_want_memory statement ≡ true → refusal_at s n statement ≡ None → Tells (limits_of p.layout) next s n statement (replies.Refused refusals.Memory) s
  wants_memory statements.Begin may none = BeginLacksMemory (begin_allowed (map.get s.sessions n) none)
  wants_memory (statements.Explain q) may none = Outside (statements.Explain q) (replies.Refused refusals.Memory) tt
  wants_memory (statements.Summarize index block) may none = Outside (statements.Summarize index block) (replies.Refused refusals.Memory) tt
  wants_memory (statements.Desummarize index block) may none = Outside (statements.Desummarize index block) (replies.Refused refusals.Memory) tt
  wants_memory (statements.Vacuum table) may none = Outside (statements.Vacuum table) (replies.Refused refusals.Memory) tt
  wants_memory statements.Work may none = Outside statements.Work (replies.Refused refusals.Memory) tt
  wants_memory statement may none = absurd (false≢true may)

  tells : (q : Place) (statement : Statement) (refusal : Refusal) → Submits p n statement (Some refusal) q → (q ≡ p) × Tells (limits_of p.layout) next s n statement (replies.Refused refusal) s
  tells _ statement _ (NotTaken refusal is) = (refl, by_block statement refusal (block_refusal p.layout.sizes.heap_blocks statement) refl (sym (ap (λ (h : Option Hand). or_else (in_hand_refusal h) (or_else (block_refusal p.layout.sizes.heap_blocks statement) (refusal_at (database_at p) n statement))) idle) ∙ is))
  tells _ statement _ (WantsMemory none may) = (refl, wants_memory statement may (alike statement ∙ free p n statement none))

  answered : (statement : Statement) (refusal : Refusal) → Tells (limits_of p.layout) next s n statement (replies.Refused refusal) s
      → IsAnswered (limits_of p.layout) next p.hands (database_at p) s n statement (replies.Refused refusal)
  answered statement refusal tell = (
    s,
    tell,
    λ next' nexts. subst (λ (h : ℕ → Option Hand). IsAhead next' h (database_at p) s) (but_one p.hands p.hands n None idle (λ m. inr refl))
        (others_ahead next next' p.hands (database_at p) s n was (same_copy next p.hands (database_at p) s n was idle) nexts),
  )

pub refused_told : RefusedIsTold
refused_told p q s next n statement refusal was idle refused =
    let t = tells p s next n was idle q statement refusal refused in
    subst (λ (r : Place). IsAnswered (limits_of p.layout) next r.hands (database_at r) s n statement (replies.Refused refusal)) (sym t.0) (answered p s next n was idle statement refusal t.1)
