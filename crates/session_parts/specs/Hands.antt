-- what a statement in hand is in the definition of texts
use Rattle.std.specs.Prelude.{◌≡◌, ℕ, ◌+◌, List, [], ◌∷◌, drop, map, replicate, slice_get, Option, None, Some}
use Rattle.block_model.specs.declared.place.Spot.{Spot}
use Rattle.block_model.specs.declared.row.Query.{Query}
use Rattle.block_model.specs.declared.row.Row.{Row}
use Rattle.block_model.specs.declared.row.RowId.{RowId}
use Rattle.block_model.specs.RequestEffect.{Answer, Inserted, Found, Marked}
use Rattle.store_layout.specs.declared.statement.Statement.{Statement}
use Rattle.store_layout.specs.declared.statement.Statement.TheVariants as statements
use Rattle.coverage.specs.Accounts.{Account, no_account}
use Rattle.summarise_core.specs.Desummarises.{count_at}
use Rattle.summarise_core.specs.declared.wish.Wish.{Wish}
use Rattle.summarise_core.specs.declared.wish.Wish.TheVariants as wishes
use Rattle.summarise_core.specs.Summarises.{SummariseState, count_of}
use Rattle.vacuum_core.specs.declared.standing.Standing.{Standing as CleaningStanding}
use Rattle.vacuum_core.specs.declared.standing.Standing.TheVariants as cleaning_standings
use Rattle.vacuum_core.specs.Vacuums.{VacuumState}
use Rattle.script_semantics.specs.Place.{Hand as HandAt}
use Rattle.session_parts.specs.declared.hand.Completing.{Completing}
use Rattle.session_parts.specs.declared.hand.Hand.{Hand}
use Rattle.session_parts.specs.declared.hand.Hand.TheVariants as hands
use Rattle.session_parts.specs.declared.hand.Hit.{Hit}
use Rattle.session_parts.specs.declared.hand.Marking.{Marking}

-- the block of a summarise line, if it has one
abbrev pub block_of : Wish → Option ℕ
block_of wishes.New = None
block_of (wishes.Block block) = Some block
block_of wishes.Complete = None

-- the statement that it is
abbrev pub statement_of : Hand → Statement
statement_of (hands.Begins numbers) = statements.Begin
statement_of hands.Commits = statements.Commit
statement_of hands.RollsBack = statements.Rollback
statement_of (hands.Puts table values) = statements.Insert table values
statement_of (hands.Inserts insert) = statements.Insert insert.row.table insert.row.values
statement_of (hands.Selecting query) = statements.Select query
statement_of (hands.Selects scan) = statements.Select scan.judging.query
statement_of (hands.Deleting query) = statements.Delete query
statement_of (hands.Deletes scan) = statements.Delete scan.judging.query
statement_of (hands.Marks marking) = statements.Delete marking.query
statement_of (hands.Explains explain) = statements.Explain explain.judging.query
statement_of (hands.Summarises a) = statements.Summarize a.index (block_of a.wish)
statement_of (hands.Desummarises a) = statements.Desummarize a.index a.block
statement_of (hands.Cleans c) = statements.Vacuum c.vacuum.table
statement_of (hands.Completes c) = statements.Vacuum c.table
statement_of hands.Working = statements.Work
statement_of (hands.Works r) = statements.Work

-- the summary that a vacuum makes now, or next
abbrev pub summary_now : Completing → Option SummariseState
summary_now c = slice_get c.summaries.items c.next

-- how many ranges it has given a final tuple
abbrev pub count_in : Option SummariseState → ℕ
count_in None = 0
count_in (Some a) = count_of a

-- what a vacuum's cleaning has dropped so far; before its first step nothing is told
abbrev pub cleaned_at : VacuumState → CleaningStanding → Account
cleaned_at a cleaning_standings.Begins = no_account
cleaned_at a standing = record no_account { rows = a.rows; unnamed = a.unnamed }

-- what it tells at its summaries
abbrev pub completed_by : Completing → Account
completed_by c = record no_account { rows = c.rows; unnamed = c.unnamed; ranges = c.ranges + count_in (summary_now c) }

-- the rows that a delete has still to mark
abbrev pub hits_left : Marking → List Hit
hits_left marking = drop marking.next marking.hits.items

abbrev pub ids_of : List Hit → List RowId
ids_of hits = map (λ (h : Hit). h.id) hits

-- a put that was made is answered by its row
abbrev pub put_answers : Option Spot → RowId → List Answer
put_answers None id = []
put_answers (Some x) id = Inserted id ∷ []

-- a delete's look found these rows, and so many are marked; before the look nothing is answered
abbrev pub MarkAnswers : (look : Option Query) → Marking → List Answer → Type 0
MarkAnswers (Some look) marking answers = (answers ≡ []) × (marking.next ≡ 0)
MarkAnswers None marking answers = (rows : List Row) × (map (λ (r : Row). r.id) rows ≡ ids_of marking.hits.items) × (answers ≡ Found rows ∷ replicate marking.next Marked)

-- what its requests so far were answered
abbrev pub AnswersAre : Hand → List Answer → Type 0
AnswersAre (hands.Inserts insert) answers = answers ≡ put_answers insert.place insert.row.id
AnswersAre (hands.Marks marking) answers = MarkAnswers marking.look marking answers
AnswersAre hand answers = answers ≡ []

-- what it has to tell so far
abbrev pub TellsSo : Hand → Account → Type 0
TellsSo (hands.Summarises a) account = account ≡ record no_account { ranges = count_of a }
TellsSo (hands.Desummarises a) account = account ≡ record no_account { ranges = count_at a.stage }
TellsSo (hands.Cleans c) account = account ≡ cleaned_at c.vacuum c.vacuum.standing
TellsSo (hands.Completes c) account = account ≡ completed_by c
TellsSo (hands.Works r) account = account ≡ record no_account { ranges = count_of r.summarise }
TellsSo (hands.Inserts insert) account = account ≡ record no_account { dropped = account.dropped }
TellsSo hand account = account ≡ no_account

-- so it stands in a place of the definition; nothing in hand is nothing there
abbrev pub HandShows : Option Hand → Option HandAt → Account → Type 0
HandShows None shown account = shown ≡ None
HandShows (Some hand) shown account = (at : HandAt) × (shown ≡ Some at) × (at.statement ≡ statement_of hand) × AnswersAre hand at.answers × TellsSo hand account
