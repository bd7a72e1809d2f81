-- what holds at every place to which a script comes
use Rattle.std.specs.FinMap as map
use Rattle.std.specs.Prelude.{◌≡◌, ◌≢◌, ◌⊎◌, ◌↔◌, ℕ, ◌≤◌, ◌<◌, false, List, length, Option, None, Some}
use Rattle.block_model.specs.declared.reply.Refusal.{Refusal}
use Rattle.block_model.specs.declared.reply.Refusal.TheVariants as refusals
use Rattle.block_model.specs.declared.reply.What.{What}
use Rattle.block_model.specs.declared.place.Spot.{Spot}
use Rattle.block_model.specs.declared.reply.Reply.TheVariants as replies
use Rattle.index_steps.specs.IndexTuples.{index_at}
use Rattle.store_layout.specs.declared.statement.Statement.TheVariants as statements
use Rattle.coverage.specs.Counts.{IsCountBelow}
use Rattle.coverage.specs.IndexView.{IndexTuple}
use Rattle.coverage.specs.Table.{EachRange, Index, Resting}
use Rattle.coverage.specs.TableSteps.{HasRange, range_in}
use Rattle.block_model.specs.declared.row.Query.{Query}
use Rattle.block_model.specs.declared.row.Row.{Row}
use Rattle.block_model.specs.DatabaseState.{OpenTransaction}
use Rattle.block_model.specs.RequestEffect.{Answer, rows_found}
use Rattle.query_words.specs.Lines.{line_of}
use Rattle.script_run.specs.Answers.{AreAnswers}
use Rattle.store_layout.specs.DiskLayout.{DiskLayout}
use Rattle.store_layout.specs.FirstBrokenRule.{first_broken_rule}
use Rattle.script_semantics.specs.Beginnings.{StandsAt}
use Rattle.script_semantics.specs.LineTexts.{Finishes, IsLineText}
use Rattle.script_semantics.specs.Names.{name_of}
use Rattle.script_semantics.specs.Place.{Hand, Place, database_at, new_hand}
use Rattle.script_semantics.specs.StatementSteps.{Ended, StepsTo, Waits}
use Rattle.script_semantics.specs.Stops.{LineComesTo}
use Rattle.script_laws.specs.Reached.{IsReached}

-- a refusal tells another session, which has a statement in hand
pub record TellsAnotherInHand (p : Place) (n : ℕ) (told : Refusal) : Type 0 where
  pub other : ℕ
  pub apart : other ≢ n
  pub hand : Hand
  pub in_hand : p.hands other ≡ Some hand
  pub what : What
  pub is : told ≡ refusals.Blocked what (name_of p other)

-- a step that waits tells a session that has a statement in hand
abbrev pub OnlyHandsAreWaitedFor : Type 0
OnlyHandsAreWaitedFor = (layout : DiskLayout) (p q : Place) (n : ℕ) (hand : Hand) (told : Refusal) → first_broken_rule layout.schema layout.sizes ≡ None → IsReached layout p → p.hands n ≡ Some hand
    → StepsTo p n hand (Waits told) q → TellsAnotherInHand p n told

-- no other session has a statement in hand
abbrev pub IsAlone : Place → ℕ → Type 0
IsAlone p n = (m : ℕ) → (m ≡ n) ⊎ (p.hands m ≡ None)

-- so where no other session has one, no step waits
abbrev pub NoStepWaitsAlone : Type 0
NoStepWaitsAlone = (layout : DiskLayout) (p q : Place) (n : ℕ) (hand : Hand) (told : Refusal) → first_broken_rule layout.schema layout.sizes ≡ None → IsReached layout p → p.hands n ≡ Some hand
    → IsAlone p n → StepsTo p n hand (Waits told) q → ⊥

-- a session without a statement in hand is at nothing in any table of the layout, and a statement that is taken then begins there
abbrev pub RestsWithoutStatement : Type 0
RestsWithoutStatement = (layout : DiskLayout) (p : Place) (n table : ℕ) → first_broken_rule layout.schema layout.sizes ≡ None → IsReached layout p → p.hands n ≡ None
    → table < length layout.schema.tables → (p.tables table).task n ≡ Resting

-- a place behind lines that were answered is one to which the script comes, where the one before them is
abbrev pub AnsweredLinesReach : Type 0
AnsweredLinesReach = (layout : DiskLayout) (start p : Place) (lines texts : List (List ℕ)) → IsReached layout start → AreAnswers (IsLineText layout.schema) start lines texts p → IsReached layout p

-- so is a place behind one line, and one between two of its steps
abbrev pub AnsweredLineReaches : Type 0
AnsweredLineReaches = (layout : DiskLayout) (p q : Place) (line text : List ℕ) → IsReached layout p → IsLineText layout.schema p line text q → IsReached layout q

abbrev pub BegunLineReaches : Type 0
BegunLineReaches = (layout : DiskLayout) (p q : Place) (line : List ℕ) (n : ℕ) → IsReached layout p → LineComesTo p (line_of layout.schema line) n q → IsReached layout q

-- a desummarize counted its range: one exactly where that had an entry, and it has none now
pub record IsCleared (before after : Option Spot) (count : ℕ) : Type 0 where
  pub one : (count ≡ 1) ↔ (before ≢ None)
  pub most : count ≤ 1
  pub behind : after ≡ None

-- a desummarize of this block's range in that index counted it so, from the first place to the second
pub record AnswersItsRange (table index block : ℕ) (p q : Place) (count : ℕ) : Type 0 where
  pub at : ℕ
  pub stands : StandsAt p.layout index at
  pub cleared : IsCleared (((p.tables table).index at).entry (range_in (p.tables table) at block)) (((q.tables table).index at).entry (range_in (p.tables table) at block)) count

-- a desummarize that no other session steps beside answers 1 where its range has an entry, and 0 where not; and behind it there is none
abbrev pub DesummarizeAnswersItsRange : Type 0
DesummarizeAnswersItsRange = (p q : Place) (n index block count : ℕ) → p.hands n ≡ Some (new_hand (statements.Desummarize index block))
    → (p.tables (index_at p.layout index).table).task n ≡ Resting → Finishes n p (Ended (replies.Desummarized count)) q
    → AnswersItsRange (index_at p.layout index).table index block p q count

-- the map of an index names a final tuple for the range
abbrev pub HasFinal : Index → ℕ → Type 0
HasFinal x range = (t : IndexTuple) × ((y : Spot) × (x.entry range ≡ Some y) × (x.tuple y ≡ Some t)) × (t.placeholder ≡ false)

-- A summarize of the whole table goes over the ranges that begin below its blocks, which are those below some number. It counted those of them
-- that had no final tuple at the first place, and at the second each of them has one.
pub record CountsItsRanges (table index : ℕ) (p q : Place) (count : ℕ) : Type 0 where
  pub at : ℕ
  pub stands : StandsAt p.layout index at
  pub below : ℕ
  pub ranges : (m : ℕ) → m < below → HasRange (p.tables table) (EachRange (p.tables table).blocks) at m
  pub past : HasRange (p.tables table) (EachRange (p.tables table).blocks) at below → ⊥
  pub counted : IsCountBelow (λ m. HasFinal ((p.tables table).index at) m → ⊥) below count
  pub finals : (m : ℕ) → m < below → HasFinal ((q.tables table).index at) m

-- a summarize of a whole table that no other session steps beside, at any place to which a script comes
abbrev pub SummarizeCountsItsRanges : Type 0
SummarizeCountsItsRanges = (layout : DiskLayout) (p q : Place) (n index count : ℕ) → first_broken_rule layout.schema layout.sizes ≡ None → IsReached layout p
    → p.hands n ≡ Some (new_hand (statements.Summarize index None)) → (p.tables (index_at p.layout index).table).task n ≡ Resting
    → Finishes n p (Ended (replies.Summarized count)) q → CountsItsRanges (index_at p.layout index).table index p q count

-- at any place to which a script comes, a select is answered exactly the rows of its session's copy that match
abbrev pub SelectsMissNothing : Type 0
SelectsMissNothing = (layout : DiskLayout) (p q : Place) (n : ℕ) (query : Query) (answers : List Answer) (rows : List Row) (x : OpenTransaction) → IsReached layout p
    → p.hands n ≡ Some (record { statement = statements.Select query; answers = answers }) → map.get (database_at p).sessions n ≡ Some x
    → StepsTo p n (record { statement = statements.Select query; answers = answers }) (Ended (replies.Found rows)) q → rows ≡ rows_found x query
