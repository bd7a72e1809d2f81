-- the places to which a script comes
use Rattle.std.specs.Prelude.{ℕ, List, Option}
use Rattle.block_model.specs.declared.reply.Refusal.{Refusal}
use Rattle.block_model.specs.DatabaseState.{DatabaseState}
use Rattle.store_layout.specs.declared.statement.Statement.{Statement}
use Rattle.store_layout.specs.DiskLayout.{DiskLayout}
use Rattle.store_layout.specs.StatementFits.{IsStatementFor}
use Rattle.script_semantics.specs.LineTexts.{Submits}
use Rattle.script_semantics.specs.Place.{Place}
use Rattle.script_semantics.specs.Starts.{IsOpening, IsStart}
use Rattle.script_semantics.specs.StatementSteps.{Outcome, Steps}

-- Sessions over tables of the layout come to this place, whatever they do and however their steps interleave: it is the first one, over new tables or in a
-- store that was opened; or it lies behind other names of the sessions, behind a statement that fits the schema and was submitted, or behind a step.
pub data IsReached (layout : DiskLayout) : Place → Type 0 where
  AtStart : (p : Place) → IsStart layout p → IsReached layout p
  AtOpening : (opening : DatabaseState) (p : Place) → IsOpening layout opening p → IsReached layout p
  BehindNames : (p : Place) (names : List (List ℕ)) → IsReached layout p → IsReached layout (record p { names = names })
  BehindSubmit : (p q : Place) (n : ℕ) (statement : Statement) (told : Option Refusal) → IsReached layout p → IsStatementFor layout.schema statement
      → Submits p n statement told q → IsReached layout q
  BehindStep : (p q : Place) (n : ℕ) (outcome : Outcome) → IsReached layout p → Steps p n outcome q → IsReached layout q
