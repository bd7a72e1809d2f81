-- Lines come to the places to which their sessions' events lead.
use Rattle.std.proofs.Common.{◌≡◌, ℕ, List, [], ◌∷◌, Ok, refl, sym, subst}
use Rattle.std.specs.Prelude.{Result}
use Rattle.query_words.specs.declared.line.Line.{Line}
use Rattle.query_words.specs.declared.line.Line.TheVariants as lines
use Rattle.query_words.specs.declared.line.LineFault.{LineFault}
use Rattle.query_words.specs.declared.line.Order.{Order}
use Rattle.query_words.specs.LineFits.{IsLineFor, IsOrderFor}
use Rattle.query_words.specs.Lines.{line_of}
use Rattle.query_words.proofs.FitLemmas.{KnowsValues}
use Rattle.script_run.specs.Answers.{AreAnswers}
use Rattle.store_layout.specs.DiskLayout.{DiskLayout}
use Rattle.store_layout.specs.SessionNumbers.{with_session}
use Rattle.script_semantics.specs.LineTexts.{Answers, Does, Finishes, Further, IsFinished, IsLineText, IsNotRead, LastStep, NoFinish, NoStep, Orders, PastSessions, Plain, RefusesPlain, RefusesStart, SaysNothing, Starts, StepsOnce, named}
use Rattle.script_semantics.specs.Place.{Place}
use Rattle.script_semantics.specs.StatementSteps.{Outcome}
use Rattle.script_semantics.specs.Stops.{Begun, ComesTo, LineComesTo, MovedTo, OfFinish, OfPlain, OfStep, OnTo, Still}
use Rattle.script_laws.specs.Reached.{BehindNames, BehindStep, BehindSubmit, IsReached}
use Rattle.script_laws.proofs.Fits.{read_fits}

module _ (layout : DiskLayout) where
  abbrev Reaches : Place → Type 0
  Reaches p = IsReached layout p

  -- what is read of a line fits
  abbrev FitsRead : Result Line LineFault → Type 0
  FitsRead said = (read : Line) → said ≡ Ok read → IsLineFor layout.schema read

  finish_reaches : (n : ℕ) (p : Place) (outcome : Outcome) (q : Place) → Reaches p → Finishes n p outcome q → Reaches q
  finish_reaches n _ _ _ reached (LastStep p q outcome last step) = BehindStep p q n outcome reached step
  finish_reaches n _ _ _ reached (Further p q r point outcome step more) = finish_reaches n q outcome r (BehindStep p q n _ reached step) more

  moved_reaches : (n : ℕ) (p q : Place) → Reaches p → MovedTo n p q → Reaches q
  moved_reaches n _ _ reached (Still p) = reached
  moved_reaches n _ _ reached (OnTo p q r point step more) = moved_reaches n q r (BehindStep p q n _ reached step) more

  does_reaches : (p : Place) (n : ℕ) (name : List ℕ) (order : Order) (text : List ℕ) (q : Place) → Reaches p → IsOrderFor layout.schema order → Does p n name order text q → Reaches q
  does_reaches p n name _ _ _ reached fit (Starts statement q submits) = BehindSubmit p q n statement _ reached fit submits
  does_reaches p n name _ _ _ reached fit (RefusesStart statement refusal q submits) = BehindSubmit p q n statement _ reached fit submits
  does_reaches p n name _ _ _ reached fit (StepsOnce outcome q step) = BehindStep p q n outcome reached step
  does_reaches p n name _ _ _ reached fit (IsFinished outcome q finishes) = finish_reaches n p outcome q reached finishes
  does_reaches p n name _ _ _ reached fit (NoStep none) = reached
  does_reaches p n name _ _ _ reached fit (NoFinish none) = reached
  does_reaches p n name _ _ _ reached fit (Plain statement outcome q r submits finishes) = finish_reaches n q outcome r (BehindSubmit p q n statement _ reached fit submits) finishes
  does_reaches p n name _ _ _ reached fit (RefusesPlain statement refusal q submits) = BehindSubmit p q n statement _ reached fit submits

  comes_reaches : (p : Place) (n : ℕ) (order : Order) (q : Place) → Reaches p → IsOrderFor layout.schema order → ComesTo p n order q → Reaches q
  comes_reaches p n _ _ reached fit OfStep = reached
  comes_reaches p n _ _ reached fit (OfFinish q moved) = moved_reaches n p q reached moved
  comes_reaches p n _ _ reached fit (OfPlain statement q r submits moved) = moved_reaches n q r (BehindSubmit p q n statement _ reached fit submits) moved

  answer_reaches : (p : Place) (said : Result Line LineFault) (text : List ℕ) (q : Place) → FitsRead said → Reaches p → Answers p said text q → Reaches q
  answer_reaches p _ _ _ fit reached (IsNotRead fault) = reached
  answer_reaches p _ _ _ fit reached SaysNothing = reached
  answer_reaches p _ _ _ fit reached (PastSessions name order past) = reached
  answer_reaches p _ _ _ fit reached (Orders name order text q within does) = does_reaches (named p name) _ name order text q (BehindNames p (with_session p.names name) reached) (fit (lines.Say name order) refl) does

  within_reaches : (p : Place) (said : Result Line LineFault) (n : ℕ) (q : Place) → FitsRead said → Reaches p → LineComesTo p said n q → Reaches q
  within_reaches p _ _ _ fit reached (Begun name order q within comes) = comes_reaches (named p name) _ order q (BehindNames p (with_session p.names name) reached) (fit (lines.Say name order) refl) comes

module _ (knows : KnowsValues) (layout : DiskLayout) where
  pub line_reaches : (p q : Place) (line text : List ℕ) → IsReached layout p → IsLineText layout.schema p line text q → IsReached layout q
  line_reaches p q line text reached answers = answer_reaches layout p (line_of layout.schema line) text q (read_fits knows layout.schema line) reached answers

  pub front_reaches : (p q : Place) (line : List ℕ) (n : ℕ) → IsReached layout p → LineComesTo p (line_of layout.schema line) n q → IsReached layout q
  front_reaches p q line n reached comes = within_reaches layout p (line_of layout.schema line) n q (read_fits knows layout.schema line) reached comes

  pub lines_reach : (p q : Place) (lines texts : List (List ℕ)) → IsReached layout p → AreAnswers (IsLineText layout.schema) p lines texts q → IsReached layout q
  lines_reach p q [] [] reached e = subst (IsReached layout) (sym e) reached
  lines_reach p q [] (text ∷ texts) reached e = absurd e
  lines_reach p q (line ∷ more) [] reached e = absurd e
  lines_reach p q (line ∷ more) (text ∷ texts) reached e = lines_reach e.0 q more texts (line_reaches p e.0 line text reached e.1) e.2
