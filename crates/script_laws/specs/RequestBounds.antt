-- How many requests a script makes at most, and which scripts fit the journal.
use Rattle.std.specs.Prelude.{◌≡◌, ℕ, ◌+◌, ◌*◌, ◌≤◌, List, [], ◌∷◌, ◌++◌, length, All, None, Result, Ok, sum_by}
use Rattle.block_model.specs.DatabaseState.{DatabaseState}
use Rattle.block_model.specs.TableState.{rows_in}
use Rattle.block_model.specs.declared.reply.Point.{Point}
use Rattle.block_model.specs.declared.request.Entry.{Entry}
use Rattle.block_model.specs.declared.schema.Schema.{Schema}
use Rattle.query_words.specs.declared.line.Line.{Line}
use Rattle.query_words.specs.declared.line.Line.TheVariants as lines
use Rattle.query_words.specs.declared.line.LineFault.{LineFault}
use Rattle.query_words.specs.declared.line.Order.{Order}
use Rattle.query_words.specs.declared.line.Order.TheVariants as orders
use Rattle.query_words.specs.Lines.{line_of}
use Rattle.script_run.specs.declared.engine.AnswerFault.TheVariants.{Full}
use Rattle.script_run.specs.Answers.{AreAnswers}
use Rattle.store_layout.specs.declared.limits.TheConstants.{MAX_ENTRIES}
use Rattle.store_layout.specs.declared.statement.Statement.{Statement}
use Rattle.store_layout.specs.declared.statement.Statement.TheVariants as statements
use Rattle.store_layout.specs.DiskLayout.{DiskLayout}
use Rattle.script_semantics.specs.LineTexts.{IsLineText}
use Rattle.script_semantics.specs.Openings.{NoneOpen}
use Rattle.script_semantics.specs.Place.{Hand, Place}
use Rattle.script_semantics.specs.Starts.{IsOpening, IsStart}
use Rattle.script_semantics.specs.StatementSteps.{Moved, Outcome, StepsTo}
use Rattle.script_semantics.specs.Stops.{IsLineStopped}

-- The requests of a statement at most, where the tables have so many rows at most. A begin counts for two: an insert of its transaction that is put and
-- then finds an index full makes a second request, by which the transaction fails. A delete looks, marks each row that it finds, and may be refused.
abbrev pub most_of_statement : (rows : ℕ) → Statement → ℕ
most_of_statement rows statements.Begin = 2
most_of_statement rows statements.Commit = 1
most_of_statement rows statements.Rollback = 1
most_of_statement rows (statements.Insert table values) = 1
most_of_statement rows (statements.Select q) = 1
most_of_statement rows (statements.Delete q) = rows + 2
most_of_statement rows statement = 0

-- They count for the line that takes the statement. A step and a finish have none of their own.
abbrev pub most_of_order : (rows : ℕ) → Order → ℕ
most_of_order rows (orders.Whole statement) = most_of_statement rows statement
most_of_order rows (orders.Start statement) = most_of_statement rows statement
most_of_order rows order = 0

abbrev pub most_of_line : (rows : ℕ) → Result Line LineFault → ℕ
most_of_line rows (Ok (lines.Say name order)) = most_of_order rows order
most_of_line rows said = 0

abbrev pub most_of_lines : Schema → (rows : ℕ) → List (List ℕ) → ℕ
most_of_lines schema rows script = sum_by (λ line. most_of_line rows (line_of schema line)) script

-- A script begins here: nobody has a statement in hand or a transaction under way, no request was made, and the tables have so many rows at most.
pub record IsFirstPlace (rows : ℕ) (p : Place) : Type 0 where
  pub hands : (n : ℕ) → p.hands n ≡ None
  pub journal : p.journal ≡ []
  pub none_open : NoneOpen p.opening
  pub few : length (rows_in p.opening.table) ≤ rows

-- over new tables, and in a store that was opened
pub record ScriptsBegin : Type 0 where
  pub new : (layout : DiskLayout) (p : Place) → IsStart layout p → IsFirstPlace 0 p
  pub opened : (layout : DiskLayout) (opening : DatabaseState) (p : Place) → IsOpening layout opening p → NoneOpen opening → IsFirstPlace (length (rows_in opening.table)) p

-- the lines of a script that were answered made no more requests than theirs at most; each of them may have put a row
abbrev pub LinesMakeFewRequests : Type 0
LinesMakeFewRequests = (schema : Schema) (rows : ℕ) (start p : Place) (script texts : List (List ℕ)) → IsFirstPlace rows start → AreAnswers (IsLineText schema) start script texts p
    → length p.journal ≤ most_of_lines schema (rows + length script) script

-- The lines of the script are answered, but for the last one: the journal has no room for it.
pub record FillJournal (schema : Schema) (rows : ℕ) (script : List (List ℕ)) : Type 0 where
  pub start : Place
  pub begins : IsFirstPlace rows start
  pub done : List (List ℕ)
  pub line : List ℕ
  pub are : script ≡ done ++ line ∷ []
  pub texts : List (List ℕ)
  pub place : Place
  pub answers : AreAnswers (IsLineText schema) start done texts place
  pub after : Place
  pub stops : IsLineStopped schema place line Full after

-- The lines make no more requests than the journal has places, where the tables have so many rows when the script begins and each line may put one more.
abbrev pub HasRoom : Schema → (rows : ℕ) → List (List ℕ) → Type 0
HasRoom schema rows script = most_of_lines schema (rows + length script) script ≤ MAX_ENTRIES

-- then no line of theirs finds the journal full
abbrev pub ScriptsWithRoomFit : Type 0
ScriptsWithRoomFit = (schema : Schema) (rows : ℕ) (script : List (List ℕ)) → HasRoom schema rows script → ¬ (FillJournal schema rows script)

abbrev pub IsDelete : Statement → Type 0
IsDelete (statements.Delete q) = Unit {0}
IsDelete statement = ⊥

-- the order makes a delete, or starts one
abbrev pub Deletes : Order → Type 0
Deletes (orders.Whole statement) = IsDelete statement
Deletes (orders.Start statement) = IsDelete statement
Deletes order = ⊥

abbrev pub IsNoDelete : Schema → List ℕ → Type 0
IsNoDelete schema line = (name : List ℕ) (order : Order) → line_of schema line ≡ Ok (lines.Say name order) → ¬ (Deletes order)

-- the line begins a transaction
abbrev pub begins_of_order : Order → ℕ
begins_of_order (orders.Whole statements.Begin) = 1
begins_of_order (orders.Start statements.Begin) = 1
begins_of_order order = 0

abbrev pub begins_of_line : Result Line LineFault → ℕ
begins_of_line (Ok (lines.Say name order)) = begins_of_order order
begins_of_line said = 0

-- in how many lines one begins
abbrev pub begins_of : Schema → List (List ℕ) → ℕ
begins_of schema script = sum_by (λ line. begins_of_line (line_of schema line)) script

-- Lines without deletes have room where they and their begins are no more than the journal has places, however large the tables are. Any lines have it
-- where each of them may mark all rows, those that were there and one for each line. First lines of those that have it do.
pub record ScriptsHaveRoom : Type 0 where
  pub without : (schema : Schema) (rows : ℕ) (script : List (List ℕ)) → All (IsNoDelete schema) script → length script + begins_of schema script ≤ MAX_ENTRIES → HasRoom schema rows script
  pub any : (schema : Schema) (rows : ℕ) (script : List (List ℕ)) → length script * (rows + length script + 2) ≤ MAX_ENTRIES → HasRoom schema rows script
  pub front : (schema : Schema) (rows : ℕ) (script more : List (List ℕ)) → HasRoom schema rows (script ++ more) → HasRoom schema rows script

-- the second journal is the first one with so many requests at most behind it
abbrev pub IsLongerBy : (most : ℕ) → (before after : List Entry) → Type 0
IsLongerBy most before after = (more : List Entry) × (after ≡ before ++ more) × (length more ≤ most)

-- At any place at all a step behind which its statement goes on enters two requests at most, a look and a mark, and each step of a statement that is no
-- delete enters one.
pub record StepsEnterFewRequests : Type 0 where
  pub going : (p q : Place) (n : ℕ) (hand : Hand) (point : Point) → StepsTo p n hand (Moved point) q → IsLongerBy 2 p.journal q.journal
  pub one : (p q : Place) (n : ℕ) (hand : Hand) (outcome : Outcome) → ¬ (IsDelete hand.statement) → StepsTo p n hand outcome q → IsLongerBy 1 p.journal q.journal
