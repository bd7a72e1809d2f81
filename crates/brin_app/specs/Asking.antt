-- what a line is answered, and the text that the answer has
use Rattle.std.specs.Prelude.{◌≡◌, ℕ, List, Some, Result, Ok, Err}
use Rattle.block_model.specs.declared.reply.Refusal.{Refusal}
use Rattle.block_model.specs.declared.schema.Schema.{Schema}
use Rattle.disk_trait.specs.Told.{Told}
use Rattle.query_words.specs.declared.line.Line.{Line}
use Rattle.query_words.specs.declared.line.Line.TheVariants as lines
use Rattle.query_words.specs.declared.line.LineFault.{LineFault}
use Rattle.query_words.specs.Lines.{line_of}
use Rattle.query_words.specs.LineRefusals.{refusal_of}
use Rattle.reply_texts.specs.declared.dropped.Dropped.{Dropped}
use Rattle.demo_script.specs.declared.answer.Answer.{Answer}
use Rattle.demo_script.specs.declared.answer.Answer.TheVariants as answers
use Rattle.script_semantics.specs.LineTexts.{Answers}
use Rattle.script_semantics.specs.Place.{Place}
use Rattle.brin_app.specs.declared.sessions.Sessions.{Sessions}
use Rattle.session_orders.specs.Leading.{PlacesLead}
use Rattle.session_orders.specs.Orders.{answer_text}

-- An order's text is that of its answer, to the session of that name, with the requests that were dropped. A line that isn't read is refused; one that says
-- nothing has no answer.
abbrev pub IsTextOf : Result Line LineFault → List ℕ → Answer → Type 0
IsTextOf (Err fault) text answer = (refusal : Refusal) × (refusal_of fault ≡ Some refusal) × (answer ≡ answers.Refused refusal)
IsTextOf (Ok lines.Nothing) text answer = Unit {0}
IsTextOf (Ok (lines.Say name order)) text answer = (dropped : List Dropped) × (text ≡ answer_text name dropped answer)

-- from this place what a line says is answered so, by its text, and leads to that place
pub record IsAnswered (p : Place) (said : Result Line LineFault) (answer : Answer) (q : Place) : Type 0 where
  pub text : List ℕ
  pub answers : Answers p said text q
  pub is : IsTextOf said text answer

abbrev pub IsLineAnswered : Schema → Place → List ℕ → Answer → Place → Type 0
IsLineAnswered schema p line answer q = IsAnswered p (line_of schema line) answer q

-- the sessions answer a line of the demo so, from each place that they show
abbrev pub AsksLine : {D : Type 0} → (D → Told) → Sessions D → List ℕ → Answer → Sessions D → Type 0
AsksLine told a line answer b = PlacesLead told a.store b.store (λ p q. IsLineAnswered a.store.pages.layout.schema p line answer q)
