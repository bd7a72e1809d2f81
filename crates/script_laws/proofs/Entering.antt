-- A step lengthens the journal, by one request or two.
use Rattle.std.proofs.Common.{◌≡◌, ℕ, ◌≤◌, List, [], ◌∷◌, ◌++◌, length, Some, refl, sym, ap, subst, arith, append_assoc, append-nil}
use Rattle.std.proofs.lemmas.List.{length_push}
use Rattle.std.proofs.lemmas.Option.{none-some}
use Rattle.block_model.specs.declared.reply.Point.{Point}
use Rattle.block_model.specs.declared.reply.Point.TheVariants as points
use Rattle.block_model.specs.declared.request.Entry.{Entry}
use Rattle.block_model.specs.declared.request.Tag.{Tag}
use Rattle.block_model.specs.DatabaseState.{DatabaseState}
use Rattle.block_model.specs.RequestEffect.{Answer}
use Rattle.store_layout.specs.declared.statement.Statement.{Statement}
use Rattle.store_layout.specs.declared.statement.Statement.TheVariants as statements
use Rattle.script_semantics.specs.Place.{Hand, Place}
use Rattle.script_semantics.specs.Requests.{Course, Enters, First, Further, MakesAll, MakesMark, MakesOne, NoneLeft, OneMore, next_request, refused_request}
use Rattle.script_semantics.specs.StatementSteps.{AtOnce, GoesOn, IsRefused, IsWaiting, LacksMemoryAtOnce, MakesAt, MeetsConflict, Moved, NoNumber, NothingAsked, Outcome, Replies, StepsTo, course_of}
use Rattle.script_laws.specs.RequestBounds.{IsDelete, IsLongerBy, StepsEnterFewRequests}

none_more : (most : ℕ) (journal : List Entry) → IsLongerBy most journal journal
none_more most journal = ([], sym (append-nil journal), (let few : 0 ≤ most = omega arith in few))

one_more : (most : ℕ) (journal : List Entry) (e : Entry) → 1 ≤ most → IsLongerBy most journal (journal ++ e ∷ [])
one_more most journal e few = (e ∷ [], refl, few)

two_more : (journal : List Entry) (e f : Entry) → IsLongerBy 2 journal ((journal ++ e ∷ []) ++ f ∷ [])
two_more journal e f = (e ∷ f ∷ [], append_assoc journal (e ∷ []) (f ∷ []), (let few : 2 ≤ 2 = omega arith in few))

as_journal : (most : ℕ) (before after other : List Entry) → other ≡ after → IsLongerBy most before after → IsLongerBy most before other
as_journal most before after other same longer = subst (IsLongerBy most before) (sym same) longer

-- ---- requests of a statement that is no delete

-- it has one, its first
pub first_alone : (n : ℕ) (statement : Statement) (answers : List Answer) (e : Entry) → ¬ (IsDelete statement) → next_request n statement answers ≡ Some e → answers ≡ []
first_alone n statement [] e not is = refl
first_alone n (statements.Delete q) (answer ∷ answers) e not is = absurd (not tt)
first_alone n statements.Begin (answer ∷ answers) e not is = absurd (none-some _ is)
first_alone n statements.Commit (answer ∷ answers) e not is = absurd (none-some _ is)
first_alone n statements.Rollback (answer ∷ answers) e not is = absurd (none-some _ is)
first_alone n (statements.Insert table values) (answer ∷ answers) e not is = absurd (none-some _ is)
first_alone n (statements.Select q) (answer ∷ answers) e not is = absurd (none-some _ is)
first_alone n (statements.Explain q) (answer ∷ answers) e not is = absurd (none-some _ is)
first_alone n (statements.Summarize index block) (answer ∷ answers) e not is = absurd (none-some _ is)
first_alone n (statements.Desummarize index block) (answer ∷ answers) e not is = absurd (none-some _ is)
first_alone n (statements.Vacuum table) (answer ∷ answers) e not is = absurd (none-some _ is)
first_alone n statements.Work (answer ∷ answers) e not is = absurd (none-some _ is)

pub no_push : {A : Type 0} (xs : List A) (x : A) → xs ++ x ∷ [] ≡ [] → ⊥
no_push xs x is = let long = length_push xs x in let none = ap length is in omega (arith, long, none)

pub no_second : (n : ℕ) (statement : Statement) (answers : List Answer) (answer : Answer) (e : Entry) → ¬ (IsDelete statement) → next_request n statement (answers ++ answer ∷ []) ≡ Some e → ⊥
no_second n statement answers answer e not is = no_push answers answer (first_alone n statement (answers ++ answer ∷ []) e not is)

module _ (o : DatabaseState) (n : ℕ) (statement : Statement) (not : ¬ (IsDelete statement)) where
  one_of_all : (c d : Course) → MakesAll o n statement c d → IsLongerBy 1 c.journal d.journal
  one_of_all _ _ (NoneLeft c none) = none_more 1 c.journal
  one_of_all _ _ (OneMore c _ _ (Enters e next) (NoneLeft _ none)) = one_more 1 c.journal e (omega arith)
  one_of_all _ _ (OneMore c _ _ (Enters e next) (OneMore _ _ _ (Enters f behind) more)) = absurd (no_second n statement c.answers _ f not behind)

  one_of_mark : (c d : Course) → MakesMark o n statement c d → IsLongerBy 1 c.journal d.journal
  one_of_mark c _ (First _ _ none (Enters e next) (Enters f behind)) = absurd (no_second n statement c.answers _ f not behind)
  one_of_mark c _ (Further first more _ some (Enters e next)) = one_more 1 c.journal e (omega arith)

two_of_mark : (o : DatabaseState) (n : ℕ) (statement : Statement) (c d : Course) → MakesMark o n statement c d → IsLongerBy 2 c.journal d.journal
two_of_mark o n statement c _ (First _ _ none (Enters e next) (Enters f behind)) = two_more c.journal e f
two_of_mark o n statement c _ (Further first more _ some (Enters e next)) = one_more 2 c.journal e (omega arith)

-- ---- a step

longer_one : (most : ℕ) (o : DatabaseState) (n : ℕ) (statement : Statement) (c d : Course) → 1 ≤ most → MakesOne o n statement c d → IsLongerBy most c.journal d.journal
longer_one most o n statement c _ few (Enters e next) = one_more most c.journal e few

going_on : (most : ℕ) (point : Point) (p : Place) (n : ℕ) (hand : Hand) (c : Course) → 1 ≤ most → (MakesMark p.opening n hand.statement (course_of p hand) c → IsLongerBy most p.journal c.journal)
    → MakesAt point p n hand c → IsLongerBy most p.journal c.journal
going_on most points.Row p n hand c few marks made = longer_one most p.opening n hand.statement (course_of p hand) c few made
going_on most points.Mark p n hand c few marks made = marks made.0
going_on most point p n hand c few marks made = as_journal most p.journal p.journal c.journal (ap (λ (d : Course). d.journal) made) (none_more most p.journal)

step_going : (p q : Place) (n : ℕ) (hand : Hand) (point : Point) → StepsTo p n hand (Moved point) q → IsLongerBy 2 p.journal q.journal
step_going p _ n hand _ (GoesOn point c q turn is more makes leads) =
    as_journal 2 p.journal c.journal q.journal leads.journal (going_on 2 point p n hand c (omega arith) (two_of_mark p.opening n hand.statement (course_of p hand) c) makes)

-- a refusal enters what failed
refused_alone : (n : ℕ) (tag : Tag) (statement : Statement) (journal : List Entry) → IsLongerBy 1 journal (journal ++ refused_request n tag statement)
refused_alone n tag (statements.Insert table values) journal = one_more 1 journal _ (omega arith)
refused_alone n tag (statements.Select q) journal = one_more 1 journal _ (omega arith)
refused_alone n tag (statements.Delete q) journal = one_more 1 journal _ (omega arith)
refused_alone n tag statement journal = as_journal 1 journal journal (journal ++ []) (append-nil journal) (none_more 1 journal)

step_one : (p q : Place) (n : ℕ) (hand : Hand) (outcome : Outcome) → ¬ (IsDelete hand.statement) → StepsTo p n hand outcome q → IsLongerBy 1 p.journal q.journal
step_one p _ n hand _ not (GoesOn point c q turn is more makes leads) =
    as_journal 1 p.journal c.journal q.journal leads.journal (going_on 1 point p n hand c (omega arith) (one_of_mark p.opening n hand.statement not (course_of p hand) c) makes)
step_one p _ n hand _ not (Replies point c reply q turn is rest makes says leads) =
    as_journal 1 p.journal c.journal q.journal leads.journal (one_of_all p.opening n hand.statement not (course_of p hand) c makes)
step_one p _ n hand _ not (MeetsConflict id c q turn is makes says leads) =
    as_journal 1 p.journal c.journal q.journal leads.journal (one_of_all p.opening n hand.statement not (course_of p hand) c makes)
step_one p _ n hand _ not (IsRefused why tag told q turn is so leads) = as_journal 1 p.journal _ q.journal leads.journal (refused_alone n tag hand.statement p.journal)
step_one p _ n hand _ not (AtOnce c reply q once makes says stay leads) =
    as_journal 1 p.journal c.journal q.journal leads.journal (one_of_all p.opening n hand.statement not (course_of p hand) c makes)
step_one p _ n hand _ not (NothingAsked q work rest none stay leads) = as_journal 1 p.journal p.journal q.journal leads.journal (none_more 1 p.journal)
step_one p _ n hand _ not (LacksMemoryAtOnce q looking rest stay leads) = as_journal 1 p.journal _ q.journal leads.journal (refused_alone n _ hand.statement p.journal)
step_one p _ n hand _ not (NoNumber q begin full stay leads) = as_journal 1 p.journal p.journal q.journal leads.journal (none_more 1 p.journal)
step_one p _ n hand _ not (IsWaiting table told on own blocked waits) = none_more 1 p.journal

pub steps_enter_few : StepsEnterFewRequests
steps_enter_few = record { going = step_going; one = step_one }
