-- What orders do: a plain line against a start and what follows it, and the order of the checks.
use Rattle.std.proofs.Common.{◌≡◌, ◌⊎◌, inl, inr, ℕ, List, true, Option, None, Some, Ok, Err, if◌then◌else◌, refl, sym, ap, ◌∙◌}
use Rattle.std.proofs.lemmas.Bool.{eq-eqb, false≢true}
use Rattle.std.proofs.lemmas.Option.{same_Some, none-some}
use Rattle.block_model.specs.declared.reply.Refusal.{Refusal}
use Rattle.block_model.specs.declared.reply.Refusal.TheVariants as refusals
use Rattle.query_words.specs.declared.line.Line.TheVariants as lines
use Rattle.query_words.specs.declared.line.LineFault.{LineFault}
use Rattle.query_words.specs.declared.line.Order.{Order}
use Rattle.query_words.specs.declared.line.Order.TheVariants as orders
use Rattle.reply_texts.specs.StepTexts.{started_text}
use Rattle.store_layout.specs.declared.limits.TheConstants.{MAX_SESSIONS}
use Rattle.store_layout.specs.declared.statement.Statement.{Statement}
use Rattle.store_layout.specs.SessionNumbers.{is_past_sessions}
use Rattle.store_layout.specs.StatementRequests.{refusal_at}
use Rattle.script_semantics.specs.Place.{Hand, Place, new_hand, database_at, updated}
use Rattle.script_semantics.specs.StatementSteps.{Outcome, Moved}
use Rattle.script_semantics.specs.LineTexts.{Answers, IsNotRead, PastSessions, Orders, Does, Starts, RefusesStart, StepsOnce, IsFinished, NoStep, NoFinish, Plain, RefusesPlain}
use Rattle.script_semantics.specs.LineTexts.{Finishes, LastStep, Further, Submits, Taken, NotTaken, WantsMemory, block_refusal, dropped_at, fault_text, in_hand_refusal}
use Rattle.script_semantics.specs.LineTexts.{or_else, outcome_text, refused_text, submit_refusal, with_statement}
use Rattle.script_semantics.specs.Laws.{IsNotTaken, IsToldAlone, StepLines, LastLine, OneLine, PlainIsStartAndSteps, PlainIsStartAndFinish}

pub updated_here : {A : Type 0} (f : ℕ → A) (n : ℕ) (x : A) → updated f n x n ≡ x
updated_here f n x = ap (λ b. if b then x else f n) (eq-eqb n n refl)

-- a plain line

steps_of : (n : ℕ) (name : List ℕ) (p q : Place) (outcome : Outcome) → Finishes n p outcome q → StepLines n name p (outcome_text name (dropped_at q n) outcome) q
steps_of n name _ _ _ (LastStep p q outcome last steps) = LastLine p q _ (StepsOnce outcome q steps)
steps_of n name _ _ _ (Further p q r point outcome steps more) = OneLine p q r _ _ (StepsOnce (Moved point) q steps) (steps_of n name q r outcome more)

pub plain_steps : PlainIsStartAndSteps
plain_steps p _ n name _ _ (Plain statement outcome q r taken finishes) = inr (q, Starts statement q taken, steps_of n name q r outcome finishes)
plain_steps p _ n name _ _ (RefusesPlain statement refusal r refused) = inl (RefusesStart statement refusal r refused)

pub plain_finish : PlainIsStartAndFinish
plain_finish p _ n name _ _ (Plain statement outcome q r taken finishes) = inr (q, Starts statement q taken, IsFinished outcome r finishes)
plain_finish p _ n name _ _ (RefusesPlain statement refusal r refused) = inl (RefusesStart statement refusal r refused)

taken_in_hand : (p : Place) (n : ℕ) (statement : Statement) (q : Place) → Submits p n statement None q → q.hands n ≡ None → ⊥
taken_in_hand p n statement _ (Taken none) empty = none-some _ (sym empty ∙ updated_here p.hands n _)

finish_behind : (p q : Place) (n : ℕ) (name text : List ℕ) (statement : Statement) (r : Place) → Submits p n statement None q → Does q n name orders.Finish text r
    → Does p n name (orders.Whole statement) text r
finish_behind p q n name _ statement _ taken (IsFinished outcome r finishes) = Plain statement outcome q r taken finishes
finish_behind p q n name _ statement _ taken (NoFinish empty) = absurd (taken_in_hand p n statement q taken empty)

pub finish_is_plain : (p q r : Place) (n : ℕ) (name text : List ℕ) (statement : Statement) → Submits p n statement None q → Does q n name orders.Finish text r
    → Does p n name (orders.Whole statement) text r
finish_is_plain p q r n name text statement taken does = finish_behind p q n name text statement r taken does

-- the order of the checks

submits_not : (p : Place) (n : ℕ) (statement : Statement) (refusal : Refusal) → submit_refusal p n statement ≡ Some refusal → (told : Option Refusal) (q : Place)
    → Submits p n statement told q → (told ≡ Some refusal) × (q ≡ p)
submits_not p n statement refusal is _ _ (Taken none) = absurd (none-some _ (sym none ∙ is))
submits_not p n statement refusal is _ _ (NotTaken other because) = (sym because ∙ is, refl)
submits_not p n statement refusal is _ _ (WantsMemory none may) = absurd (none-some _ (sym none ∙ is))

start_not : (p : Place) (n : ℕ) (name : List ℕ) (statement : Statement) (refusal : Refusal) → submit_refusal p n statement ≡ Some refusal
    → IsToldAlone p n name (orders.Start statement) refusal
start_not p n name _ refusal is _ _ (Starts statement q submits) = absurd (none-some _ (submits_not p n statement refusal is None q submits).0)
start_not p n name _ refusal is _ _ (RefusesStart statement other q submits) =
    let not = submits_not p n statement refusal is (Some other) q submits in
    (ap (refused_text name) (same_Some _ _ not.0), not.1)

plain_not : (p : Place) (n : ℕ) (name : List ℕ) (statement : Statement) (refusal : Refusal) → submit_refusal p n statement ≡ Some refusal
    → IsToldAlone p n name (orders.Whole statement) refusal
plain_not p n name _ refusal is _ _ (Plain statement outcome q r submits finishes) = absurd (none-some _ (submits_not p n statement refusal is None q submits).0)
plain_not p n name _ refusal is _ _ (RefusesPlain statement other q submits) =
    let not = submits_not p n statement refusal is (Some other) q submits in
    (ap (refused_text name) (same_Some _ _ not.0), not.1)

not_taken : (p : Place) (n : ℕ) (name : List ℕ) (statement : Statement) (refusal : Refusal) → submit_refusal p n statement ≡ Some refusal
    → IsNotTaken p n name statement refusal
not_taken p n name statement refusal is = record { start = start_not p n name statement refusal is; plain = plain_not p n name statement refusal is }

refusal_in_hand : (p : Place) (n : ℕ) (statement : Statement) (hand : Option Hand) → p.hands n ≡ hand
    → submit_refusal p n statement ≡ or_else (in_hand_refusal hand) (or_else (block_refusal p.layout.sizes.heap_blocks statement) (refusal_at (database_at p) n statement))
refusal_in_hand p n statement hand is = ap (λ o. or_else (in_hand_refusal o) (or_else (block_refusal p.layout.sizes.heap_blocks statement) (refusal_at (database_at p) n statement))) is

pub refusal_by_block : (p : Place) (n : ℕ) (statement : Statement) (refusal : Option Refusal) → p.hands n ≡ None → block_refusal p.layout.sizes.heap_blocks statement ≡ refusal
    → submit_refusal p n statement ≡ or_else refusal (refusal_at (database_at p) n statement)
refusal_by_block p n statement refusal empty is = refusal_in_hand p n statement None empty ∙ ap (λ o. or_else o (refusal_at (database_at p) n statement)) is

pub in_hand_first : (p : Place) (n : ℕ) (name : List ℕ) (hand : Hand) (statement : Statement) → p.hands n ≡ Some hand → IsNotTaken p n name statement refusals.InHand
in_hand_first p n name hand statement is = not_taken p n name statement refusals.InHand (refusal_in_hand p n statement (Some hand) is)

pub taken_then : (p : Place) (n : ℕ) (statement : Statement) (q : Place) → Submits p n statement None q → q.hands n ≡ Some (new_hand statement)
taken_then p n statement _ (Taken none) = updated_here p.hands n _

pub until_reply : (p q : Place) (n : ℕ) (name : List ℕ) (statement other : Statement) → Submits p n statement None q → IsNotTaken q n name other refusals.InHand
until_reply p q n name statement other taken = in_hand_first q n name (new_hand statement) other (taken_then p n statement q taken)

pub block_next : (p : Place) (n : ℕ) (name : List ℕ) (statement : Statement) (refusal : Refusal) → p.hands n ≡ None
    → block_refusal p.layout.sizes.heap_blocks statement ≡ Some refusal → IsNotTaken p n name statement refusal
block_next p n name statement refusal empty is = not_taken p n name statement refusal (refusal_by_block p n statement (Some refusal) empty is)

pub transaction_next : (p : Place) (n : ℕ) (name : List ℕ) (statement : Statement) (refusal : Refusal) → p.hands n ≡ None
    → block_refusal p.layout.sizes.heap_blocks statement ≡ None → refusal_at (database_at p) n statement ≡ Some refusal → IsNotTaken p n name statement refusal
transaction_next p n name statement refusal empty low is = not_taken p n name statement refusal (refusal_by_block p n statement None empty low ∙ is)

submitted : (p : Place) (n : ℕ) (statement : Statement) → submit_refusal p n statement ≡ None → (told : Option Refusal) (q : Place) → Submits p n statement told q
    → ((told ≡ None) × (q ≡ with_statement p n statement)) ⊎ ((told ≡ Some refusals.Memory) × (q ≡ p))
submitted p n statement is _ _ (Taken none) = inl (refl, refl)
submitted p n statement is _ _ (NotTaken other because) = absurd (none-some _ (sym is ∙ because))
submitted p n statement is _ _ (WantsMemory none may) = inr (refl, refl)

taken_place : (p : Place) (n : ℕ) (statement : Statement) (q : Place) (told : Option Refusal) → told ≡ None
    → ((told ≡ None) × (q ≡ with_statement p n statement)) ⊎ ((told ≡ Some refusals.Memory) × (q ≡ p)) → q ≡ with_statement p n statement
taken_place p n statement q told none (inl taken) = taken.1
taken_place p n statement q told none (inr short) = absurd (none-some _ (sym none ∙ short.0))

short_place : (p : Place) (n : ℕ) (statement : Statement) (q : Place) (told : Option Refusal) (other : Refusal) → told ≡ Some other
    → ((told ≡ None) × (q ≡ with_statement p n statement)) ⊎ ((told ≡ Some refusals.Memory) × (q ≡ p)) → (other ≡ refusals.Memory) × (q ≡ p)
short_place p n statement q told other is (inl taken) = absurd (none-some _ (sym taken.0 ∙ is))
short_place p n statement q told other is (inr short) = (same_Some _ _ (sym is ∙ short.0), short.1)

started_by : (p : Place) (n : ℕ) (name text : List ℕ) (statement : Statement) (q : Place) → submit_refusal p n statement ≡ None → Does p n name (orders.Start statement) text q
    → ((text ≡ started_text name) × (q ≡ with_statement p n statement)) ⊎ ((text ≡ refused_text name refusals.Memory) × (q ≡ p))
started_by p n name _ _ _ is (Starts statement q submits) = inl (refl, taken_place p n statement q None refl (submitted p n statement is None q submits))
started_by p n name _ _ _ is (RefusesStart statement other q submits) =
    let short = short_place p n statement q (Some other) other refl (submitted p n statement is (Some other) q submits) in
    inr (ap (refused_text name) short.0, short.1)

pub started : (p q : Place) (n : ℕ) (name text : List ℕ) (statement : Statement) → p.hands n ≡ None → block_refusal p.layout.sizes.heap_blocks statement ≡ None
    → refusal_at (database_at p) n statement ≡ None → Does p n name (orders.Start statement) text q
    → ((text ≡ started_text name) × (q ≡ with_statement p n statement)) ⊎ ((text ≡ refused_text name refusals.Memory) × (q ≡ p))
started p q n name text statement empty low allowed does = started_by p n name text statement q (refusal_by_block p n statement None empty low ∙ allowed) does

step_not : (p : Place) (n : ℕ) (name : List ℕ) → p.hands n ≡ None → IsToldAlone p n name orders.Step refusals.NothingStarted
step_not p n name empty _ _ (StepsOnce outcome q steps) = absurd (none-some _ (sym empty ∙ steps.in_hand))
step_not p n name empty _ _ (NoStep none) = (refl, refl)

finishes_not : (n : ℕ) (p q : Place) (outcome : Outcome) → p.hands n ≡ None → Finishes n p outcome q → ⊥
finishes_not n _ _ _ empty (LastStep p q outcome last steps) = none-some _ (sym empty ∙ steps.in_hand)
finishes_not n _ _ _ empty (Further p q r point outcome steps more) = none-some _ (sym empty ∙ steps.in_hand)

finish_not : (p : Place) (n : ℕ) (name : List ℕ) → p.hands n ≡ None → IsToldAlone p n name orders.Finish refusals.NothingStarted
finish_not p n name empty _ _ (IsFinished outcome q finishes) = absurd (finishes_not n p q outcome empty finishes)
finish_not p n name empty _ _ (NoFinish none) = (refl, refl)

pub nothing_started : (p : Place) (n : ℕ) (name : List ℕ) → p.hands n ≡ None
    → IsToldAlone p n name orders.Step refusals.NothingStarted × IsToldAlone p n name orders.Finish refusals.NothingStarted
nothing_started p n name empty = (step_not p n name empty, finish_not p n name empty)

unread_alone : (p : Place) (fault : LineFault) (text : List ℕ) (q : Place) → Answers p (Err fault) text q → (text ≡ fault_text fault) × (q ≡ p)
unread_alone p _ _ _ (IsNotRead fault) = (refl, refl)

pub unread_first : (p q : Place) (fault : LineFault) (text : List ℕ) → Answers p (Err fault) text q → (text ≡ fault_text fault) × (q ≡ p)
unread_first p q fault text answers = unread_alone p fault text q answers

past_alone : (p : Place) (name : List ℕ) (order : Order) (text : List ℕ) (q : Place) → is_past_sessions p.names name ≡ true → Answers p (Ok (lines.Say name order)) text q
    → (text ≡ refused_text name (refusals.Limit MAX_SESSIONS)) × (q ≡ p)
past_alone p _ _ _ _ is (PastSessions name order past) = (refl, refl)
past_alone p _ _ _ _ is (Orders name order text q within does) = absurd (false≢true (sym within ∙ is))

pub past_next : (p q : Place) (name text : List ℕ) (order : Order) → is_past_sessions p.names name ≡ true → Answers p (Ok (lines.Say name order)) text q
    → (text ≡ refused_text name (refusals.Limit MAX_SESSIONS)) × (q ≡ p)
past_next p q name text order is answers = past_alone p name order text q is answers
