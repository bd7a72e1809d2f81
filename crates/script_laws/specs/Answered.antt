-- What the lines of a statement are told.
use Rattle.std.specs.Prelude.{◌≡◌, ℕ, codes, List, [], ◌∷◌, ◌++◌, map, None}
use Rattle.script_semantics.specs.LineTexts.{Does, with_statement}
use Rattle.script_semantics.specs.Place.{Place}
use Rattle.query_words.specs.declared.line.Order.TheVariants as orders
use Rattle.store_layout.specs.declared.statement.Statement.{Statement}
use Rattle.coverage.specs.Accounts.{Asked}

-- lines that step the session's statement, one after the other, have these texts
pub data StepTexts (n : ℕ) (name : List ℕ) : Place → List (List ℕ) → Place → Type 0 where
  NoLine : (p : Place) → StepTexts n name p [] p
  OneLine : (p q r : Place) (text : List ℕ) (more : List (List ℕ)) → Does p n name orders.Step text q → StepTexts n name q more r → StepTexts n name p (text ∷ more) r

-- the text of a step that goes on, by its word
abbrev pub moved : List ℕ → List ℕ → List ℕ
moved name word = name ++ codes " moved " ++ word ++ codes "\n"

-- A plain line of the statement has this text. So has the last line of its steps, where it is started, behind lines that tell these words. Both lead
-- to one place, where nothing is in hand and the queue is this one.
pub record IsAnswered (p : Place) (n : ℕ) (name : List ℕ) (statement : Statement) (words : List (List ℕ)) (text : List ℕ) (queue : List Asked) : Type 0 where
  pub behind : Place
  pub plain : Does p n name (orders.Whole statement) text behind
  pub starts : Does p n name (orders.Start statement) (name ++ codes " started\n") (with_statement p n statement)
  pub steps : StepTexts n name (with_statement p n statement) (map (moved name) words ++ text ∷ []) behind
  pub idle : behind.hands n ≡ None
  pub queue_is : behind.queue ≡ queue

-- a line that steps the session's statement has this text, and no other, and changes nothing
abbrev pub IsToldSo : Place → ℕ → List ℕ → List ℕ → Type 0
IsToldSo p n name text = Does p n name orders.Step text p × ((told : List ℕ) (q : Place) → Does p n name orders.Step told q → (told ≡ text) × (q ≡ p))
