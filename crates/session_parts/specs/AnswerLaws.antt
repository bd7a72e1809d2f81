-- what the answers of a statement in hand tell of its table, where a store shows the place
use Rattle.std.specs.Prelude.{◌≡◌, ◌≢◌, ℕ, ◌<◌, List, [], length, Some}
use Rattle.block_model.specs.declared.row.Query.{Query}
use Rattle.block_model.specs.RequestEffect.{Answer}
use Rattle.store_layout.specs.declared.statement.Statement.TheVariants as statements
use Rattle.snapshot_core.specs.StoredVersions.{transaction_of}
use Rattle.coverage.specs.Refusals.{LacksMemory}
use Rattle.script_semantics.specs.Beginnings.{IsAtRest}
use Rattle.script_semantics.specs.Place.{Hand as HandAt, Place}
use Rattle.script_semantics.specs.RequestSteps.{IsAnsweredInPlace, IsMarking}
use Rattle.script_semantics.specs.Turns.{Turn, refusal_of}
use Rattle.session_parts.specs.HandFits.{FitsHand}
use Rattle.session_parts.specs.ShowsPlace.{IsPlaceOf}
use Rattle.session_parts.specs.StoreStates.{ShownStore, hand_in}

-- the session's delete is at its marks: so it isn't at rest, and no step of it lacks memory
pub record IsAtItsMarks (p : Place) (n : ℕ) (query : Query) : Type 0 where
  pub marks : IsMarking ((p.tables query.table).task n)
  pub busy : IsAtRest p n → ⊥
  pub memory : (q : Place) (turn : Turn p n (statements.Delete query) q) → refusal_of turn ≢ Some LacksMemory

-- a delete of which a request was answered
abbrev pub AnsweredDeletesMark : Type 0
AnsweredDeletesMark = (s : ShownStore) (p : Place) (n : ℕ) (query : Query) (answers : List Answer) → IsPlaceOf s p → query.table < length p.layout.schema.tables
    → p.hands n ≡ Some (record { statement = statements.Delete query; answers = answers }) → answers ≢ [] → IsAtItsMarks p n query

-- each statement that is fit for its next step
abbrev pub AnswersAreInPlace : Type 0
AnswersAreInPlace = (s : ShownStore) (p : Place) (n : ℕ) (hand : HandAt) → IsPlaceOf s p → FitsHand s.layout (transaction_of s.transactions.opens n) (hand_in s.hands n)
    → p.hands n ≡ Some hand → IsAnsweredInPlace p n hand
