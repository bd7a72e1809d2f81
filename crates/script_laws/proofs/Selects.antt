-- No request of a select in hand has been answered before its reply, so that is of its session's copy.
use Rattle.std.proofs.Common.{◌≡◌, ◌≢◌, ◌⊎◌, inl, inr, ℕ, eqb, true, false, List, [], ◌∷◌, Option, None, Some, refl, sym, ap, ◌∙◌, subst}
use Rattle.std.specs.Prelude.{if◌then◌else◌}
use Rattle.std.proofs.lemmas.Bool.Decides.{eqb_tells}
use Rattle.std.proofs.lemmas.Option.{none-some, same_Some}
use Rattle.block_model.specs.declared.reply.Point.{Point}
use Rattle.block_model.specs.declared.reply.Point.TheVariants as points
use Rattle.block_model.specs.declared.reply.Refusal.{Refusal}
use Rattle.block_model.specs.declared.request.Entry.{Entry}
use Rattle.block_model.specs.declared.row.Query.{Query}
use Rattle.block_model.specs.RequestEffect.{Answer}
use Rattle.store_layout.specs.declared.statement.Statement.{Statement}
use Rattle.store_layout.specs.declared.statement.Statement.TheVariants as statements
use Rattle.store_layout.specs.DiskLayout.{DiskLayout}
use Rattle.script_semantics.specs.LineTexts.{NotTaken, Submits, Taken, WantsMemory, with_statement}
use Rattle.script_semantics.specs.Place.{Hand, Place, new_hand}
use Rattle.script_semantics.specs.Requests.{Course, next_request}
use Rattle.script_semantics.specs.StatementSteps.{AtOnce, GoesOn, IsRefused, IsWaiting, LacksMemoryAtOnce, MakesAt, MeetsConflict, NoNumber, NothingAsked, Outcome, Replies, StepsTo}
use Rattle.script_semantics.specs.Turns.{Leads, Turn, point_of}
use Rattle.script_semantics.proofs.RowTurns.{row_is_insert}
use Rattle.script_laws.specs.Reached.{AtOpening, AtStart, BehindNames, BehindStep, BehindSubmit, IsReached}

-- a select puts no row
puts_none : (p q : Place) (n : ℕ) (query : Query) (turn : Turn p n (statements.Select query) q) → point_of turn ≡ Some points.Row → ⊥
puts_none p q n query turn named = row_is_insert p q n (statements.Select query) turn named

-- ---- what a select in hand was answered

one_left : (n : ℕ) (query : Query) (answers : List Answer) (e : Entry) → next_request n (statements.Select query) answers ≡ Some e → answers ≡ []
one_left n query [] e is = refl
one_left n query (answer ∷ answers) e is = absurd (none-some _ is)

abbrev pub select_hand : Query → List Answer → Hand
select_hand query answers = record { statement = statements.Select query; answers = answers }

none_at : (point : Point) (p : Place) (n : ℕ) (query : Query) (c : Course) → (point ≡ points.Row → ⊥) → MakesAt point p n (select_hand query []) c → c.answers ≡ []
none_at points.Row p n query c not made = absurd (not refl)
none_at points.Mark p n query c not made = one_left n query c.answers made.1.0 made.1.1
none_at point p n query c not made = ap (λ (d : Course). d.answers) made

abbrev pub AreFresh : Place → Type 0
AreFresh p = (n : ℕ) (query : Query) (answers : List Answer) → p.hands n ≡ Some (select_hand query answers) → answers ≡ []

abbrev statement_of : Hand → Statement
statement_of hand = hand.statement

abbrev answers_of : Hand → List Answer
answers_of hand = hand.answers

fresh_then : (p q : Place) (n : ℕ) (now : Option Hand) (entries : List Entry) → AreFresh p → Leads p n now entries q
    → ((query : Query) (answers : List Answer) → now ≡ Some (select_hand query answers) → answers ≡ []) → AreFresh q
fresh_then p q n now entries fresh leads own m query answers has = by (leads.others m)
  where
    by : (m ≡ n) ⊎ (q.hands m ≡ p.hands m) → answers ≡ []
    by (inl is) = own query answers (sym leads.hand ∙ ap q.hands (sym is) ∙ has)
    by (inr same) = fresh m query answers (sym same ∙ has)

fresh_over : (p q : Place) (n : ℕ) (entries : List Entry) → AreFresh p → Leads p n None entries q → AreFresh q
fresh_over p q n entries fresh leads = fresh_then p q n None entries fresh leads (λ query answers is. absurd (none-some _ is))

-- a step that isn't a put, whatever its statement
abbrev IsNoPut : (p q : Place) (n : ℕ) → Statement → Type 0
IsNoPut p q n statement = (turn : Turn p n statement q) → point_of turn ≡ Some points.Row → ⊥

goes_fresh : (p : Place) (n : ℕ) (hand : Hand) (point : Point) (c : Course) (q : Place) (turn : Turn p n hand.statement q) → AreFresh p → p.hands n ≡ Some hand
    → point_of turn ≡ Some point → MakesAt point p n hand c → (query : Query) → hand.statement ≡ statements.Select query → c.answers ≡ []
goes_fresh p n hand point c q turn fresh has is made query select =
    let same : hand ≡ select_hand query hand.answers = ap (λ st. record { statement = st; answers = hand.answers }) select in
    let none : hand.answers ≡ [] = fresh n query hand.answers (has ∙ ap Some same) in
    let all : hand ≡ select_hand query [] = same ∙ ap (select_hand query) none in
    let no_put : IsNoPut p q n hand.statement = subst (IsNoPut p q n) (sym select) (puts_none p q n query) in
    none_at point p n query c (λ row. no_put turn (is ∙ ap Some row)) (subst (λ h. MakesAt point p n h c) all made)

-- ---- steps

pub fresh_step : (p : Place) (n : ℕ) (hand : Hand) (outcome : Outcome) (q : Place) → AreFresh p → p.hands n ≡ Some hand → StepsTo p n hand outcome q → AreFresh q
fresh_step p n hand _ _ fresh has (GoesOn point c q turn is more makes leads) =
    fresh_then p q n (Some (record hand { answers = c.answers })) c.journal fresh leads
    (λ query answers now.
    sym (ap answers_of (same_Some _ _ now)) ∙ goes_fresh p n hand point c q turn fresh has is makes query (ap statement_of (same_Some _ _ now)))
fresh_step p n hand _ _ fresh has (Replies point c reply q turn is rest makes says leads) = fresh_over p q n c.journal fresh leads
fresh_step p n hand _ _ fresh has (MeetsConflict id c q turn is makes says leads) = fresh_over p q n c.journal fresh leads
fresh_step p n hand _ _ fresh has (IsRefused why tag told q turn is so leads) = fresh_over p q n _ fresh leads
fresh_step p n hand _ _ fresh has (AtOnce c reply q once makes says stay leads) = fresh_over p q n c.journal fresh leads
fresh_step p n hand _ _ fresh has (NothingAsked q work rest none stay leads) = fresh_over p q n _ fresh leads
fresh_step p n hand _ _ fresh has (LacksMemoryAtOnce q looking rest stay leads) = fresh_over p q n _ fresh leads
fresh_step p n hand _ _ fresh has (NoNumber q begin full stay leads) = fresh_over p q n _ fresh leads
fresh_step p n hand _ _ fresh has (IsWaiting table told on own blocked waits) = fresh

-- ---- statements

pub fresh_taken : (p : Place) (n : ℕ) (statement : Statement) → AreFresh p → AreFresh (with_statement p n statement)
fresh_taken p n statement fresh m query answers has = by (eqb_tells m n)
  where
    by : ((eqb m n ≡ true) × (m ≡ n)) ⊎ ((eqb m n ≡ false) × (m ≢ n)) → answers ≡ []
    by (inl is) = sym (ap answers_of (same_Some _ _ (sym (ap (λ b. if b then Some (new_hand statement) else p.hands m) is.0) ∙ has)))
    by (inr not) = fresh m query answers (sym (ap (λ b. if b then Some (new_hand statement) else p.hands m) not.0) ∙ has)

fresh_submit : (p : Place) (n : ℕ) (statement : Statement) (told : Option Refusal) (q : Place) → AreFresh p → Submits p n statement told q → AreFresh q
fresh_submit p n statement _ _ fresh (Taken none) = fresh_taken p n statement fresh
fresh_submit p n statement _ _ fresh (NotTaken refusal because) = fresh
fresh_submit p n statement _ _ fresh (WantsMemory none may) = fresh

pub reached_is_fresh : (layout : DiskLayout) (p : Place) → IsReached layout p → AreFresh p
reached_is_fresh layout _ (AtStart p start) = λ n query answers has. absurd (none-some _ (sym (start.hands n) ∙ has))
reached_is_fresh layout _ (AtOpening opening p start) = λ n query answers has. absurd (none-some _ (sym (start.hands n) ∙ has))
reached_is_fresh layout _ (BehindNames p names reached) = reached_is_fresh layout p reached
reached_is_fresh layout _ (BehindSubmit p q n statement told reached fits submits) = fresh_submit p n statement told q (reached_is_fresh layout p reached) submits
reached_is_fresh layout _ (BehindStep p q n outcome reached step) = fresh_step p n step.hand outcome q (reached_is_fresh layout p reached) step.in_hand step.steps
