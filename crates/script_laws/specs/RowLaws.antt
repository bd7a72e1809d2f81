-- What the worked rows with maintenance say of the definition of texts.
use Rattle.std.specs.Prelude.{◌≡◌, ◌≢◌, ◌⊎◌, ◌↔◌, ℕ, ◌≤◌, ◌<◌, codes, decimal, List, [], ◌∷◌, ◌++◌, length, None, Some}
use Rattle.block_model.specs.DatabaseState.{OpenTransaction}
use Rattle.block_model.specs.RequestEffect.{Answer, next_row}
use Rattle.block_model.specs.declared.place.Spot.{Spot}
use Rattle.block_model.specs.declared.row.Row.{Row}
use Rattle.block_model.specs.declared.value.Value.{Value}
use Rattle.coverage.specs.Counts.{IsCountOf}
use Rattle.coverage.specs.IndexView.{IndexTuple}
use Rattle.coverage.specs.PageOrder.{IsForTuples}
use Rattle.coverage.specs.Statements.{Copied, Held, NotBuilding}
use Rattle.coverage.specs.Steps.{IsUnnamed}
use Rattle.index_steps.specs.IndexTuples.{index_at}
use Rattle.script_semantics.specs.Beginnings.{IsAtRest, StandsAt}
use Rattle.script_semantics.specs.Laws.{IsHeldFrom}
use Rattle.script_semantics.specs.LineTexts.{Does}
use Rattle.script_semantics.specs.Names.{index_name}
use Rattle.script_semantics.specs.Place.{Place, new_hand}
use Rattle.script_semantics.specs.Starts.{IsStart}
use Rattle.script_semantics.specs.StatementSteps.{numbers_of}
use Rattle.query_words.specs.declared.line.Order.TheVariants as orders
use Rattle.store_layout.specs.declared.limits.TheConstants.{MAX_ENTRIES}
use Rattle.store_layout.specs.declared.statement.Statement.TheVariants as statements
use Rattle.store_layout.specs.declared.statement.Statement.{Statement}
use Rattle.store_layout.specs.DiskLayout.{DiskLayout}
use Rattle.coverage.specs.Accounts.{Asked}
use Rattle.coverage.specs.Table.{Desummarising, Inserts, Maintains, index_view_at}
use Rattle.coverage.specs.TableSteps.{range_in}
use Rattle.script_laws.specs.Answered.{IsAnswered, IsToldSo}
use Rattle.script_laws.specs.Finds.{IsCalm, LacksTuple, HasTuple, IsUnderWay, IsNewWithIndex, AsksFirst, HasDeadRows, IsOnlyIn}
use Rattle.script_laws.specs.Words.{blocks_of, summary_words, inserted_text, ask_words, vacuumed_text, work_text, page_text}

-- a summarize of a range without a tuple gives it one, and counts it
abbrev pub ARangeIsSummarized : Type 0
ARangeIsSummarized = (p : Place) (n index at block : ℕ) (name : List ℕ) → StandsAt p.layout index at → block < p.layout.sizes.heap_blocks
    → IsCalm p n (index_at p.layout index).table at
    → LacksTuple (p.tables (index_at p.layout index).table) at (range_in (p.tables (index_at p.layout index).table) at block)
    → IsAnswered p n name (statements.Summarize index (Some block))
    (summary_words (blocks_of (p.tables (index_at p.layout index).table) at (range_in (p.tables (index_at p.layout index).table) at block)))
    (name ++ codes " summarized 1\n") p.queue

-- so does one of a whole table that is one range
abbrev pub AOneRangeTableIsSummarized : Type 0
AOneRangeTableIsSummarized = (p : Place) (n index at : ℕ) (name : List ℕ) → StandsAt p.layout index at → IsCalm p n (index_at p.layout index).table at
    → (p.tables (index_at p.layout index).table).blocks ≤ ((p.tables (index_at p.layout index).table).index at).pages_per_range
    → LacksTuple (p.tables (index_at p.layout index).table) at 0
    → IsAnswered p n name (statements.Summarize index None) (summary_words (blocks_of (p.tables (index_at p.layout index).table) at 0)) (name ++ codes " summarized 1\n") p.queue

-- a row that is put into a new table leads to a place at which any session without a statement may summarize its range
abbrev pub ANewRowIsSummarized : Type 0
ANewRowIsSummarized = (p : Place) (n m index : ℕ) (name other : List ℕ) (x : OpenTransaction) (values : List Value) → StandsAt p.layout index 0
    → IsUnderWay p n (index_at p.layout index).table x → IsNewWithIndex (p.tables (index_at p.layout index).table) → p.hands m ≡ None
    → (q : Place) × (Does p n name (orders.Whole (statements.Insert (index_at p.layout index).table values)) (inserted_text name (next_row x (index_at p.layout index).table values).id) q
    × IsAnswered q m other (statements.Summarize index None) (summary_words 1) (other ++ codes " summarized 1\n") q.queue)

-- A whole row, from where a script stands at its first line: one session begins and puts a row, and another summarizes its range.
abbrev pub AScriptSummarizesItsRow : Type 0
AScriptSummarizesItsRow = (layout : DiskLayout) (p : Place) (n m index : ℕ) (name other : List ℕ) (values : List Value) → IsStart layout p → 1 < numbers_of layout
    → StandsAt p.layout index 0 → IsNewWithIndex (p.tables (index_at p.layout index).table)
    → (q : Place) × (r : Place) × Does p n name (orders.Whole statements.Begin) (name ++ codes " begun 1\n") q
    × Does q n name (orders.Whole (statements.Insert (index_at p.layout index).table values)) (inserted_text name (record { t = 1; k = 0 })) r
    × IsAnswered r m other (statements.Summarize index None) (summary_words 1) (other ++ codes " summarized 1\n") r.queue

-- one of a range with a final tuple reads that, and counts nothing
abbrev pub ASummarizedRangeIsLeft : Type 0
ASummarizedRangeIsLeft = (p : Place) (n index at block : ℕ) (name : List ℕ) → StandsAt p.layout index at → block < p.layout.sizes.heap_blocks
    → IsCalm p n (index_at p.layout index).table at
    → HasTuple (p.tables (index_at p.layout index).table) at (range_in (p.tables (index_at p.layout index).table) at block)
    → IsAnswered p n name (statements.Summarize index (Some block)) (codes "right" ∷ codes "map" ∷ []) (name ++ codes " summarized 0\n") p.queue

-- a desummarize of a range with an entry takes that out of the map, drops its tuple, and counts it
abbrev pub ARangeIsDesummarized : Type 0
ARangeIsDesummarized = (p : Place) (n index at block : ℕ) (name : List ℕ) (x : Spot) → StandsAt p.layout index at → block < p.layout.sizes.heap_blocks
    → IsCalm p n (index_at p.layout index).table at
    → ((p.tables (index_at p.layout index).table).index at).entry (range_in (p.tables (index_at p.layout index).table) at block) ≡ Some x
    → IsAnswered p n name (statements.Desummarize index block) (codes "right" ∷ codes "map" ∷ codes "clear" ∷ []) (name ++ codes " desummarized 1\n") p.queue

-- one of a range without an entry reads the map, and counts nothing
abbrev pub NothingIsDesummarized : Type 0
NothingIsDesummarized = (p : Place) (n index at block : ℕ) (name : List ℕ) → StandsAt p.layout index at → block < p.layout.sizes.heap_blocks
    → IsCalm p n (index_at p.layout index).table at
    → ((p.tables (index_at p.layout index).table).index at).entry (range_in (p.tables (index_at p.layout index).table) at block) ≡ None
    → IsAnswered p n name (statements.Desummarize index block) (codes "right" ∷ []) (name ++ codes " desummarized 0\n") p.queue

-- work takes the first summary that is asked for out of the queue, and tells its index, its range and what it counts
abbrev pub WorkTakesTheFirst : Type 0
WorkTakesTheFirst = (p : Place) (n : ℕ) (name : List ℕ) (asked : Asked) (rest : List Asked) → p.queue ≡ asked ∷ rest → IsAtRest p n
    → asked.table < length p.layout.schema.tables → IsCalm p n asked.table asked.at → LacksTuple (p.tables asked.table) asked.at asked.range
    → IsAnswered p n name statements.Work (summary_words (blocks_of (p.tables asked.table) asked.at asked.range))
    (name ++ codes " worked " ++ index_name p.layout asked.table asked.at ++ codes " " ++ decimal asked.range ++ codes " 1\n") rest

-- where none is asked for, it tells that by its first step; and a plain line of it is told that, or that memory is short
abbrev pub WorkFindsNone : Type 0
WorkFindsNone = (p : Place) (n : ℕ) (name : List ℕ) → p.hands n ≡ None → length p.journal ≤ MAX_ENTRIES → IsAtRest p n → p.queue ≡ []
    → IsAnswered p n name statements.Work [] (name ++ codes " worked none\n") []
    × ((text : List ℕ) (q : Place) → Does p n name (orders.Whole statements.Work) text q → (text ≡ name ++ codes " worked none\n") ⊎ (text ≡ name ++ codes " error 13\n"))

-- where 64 summaries are asked for, an insert that asks for one more drops that, and tells its index and range before its reply
abbrev pub AnAskIsDropped : Type 0
AnAskIsDropped = (p : Place) (n table block before : ℕ) (name : List ℕ) (x : OpenTransaction) (values : List Value) → IsUnderWay p n table x
    → AsksFirst (p.tables table) block before → 64 ≤ length p.queue
    → IsAnswered p n name (statements.Insert table values) ask_words
    ((codes "- dropped " ++ index_name p.layout table 0 ++ codes " " ++ decimal before ++ codes "\n") ++ inserted_text name (next_row x table values).id) p.queue

-- where fewer are, it joins the queue as the last one
abbrev pub AnAskJoins : Type 0
AnAskJoins = (p : Place) (n table block before : ℕ) (name : List ℕ) (x : OpenTransaction) (values : List Value) → IsUnderWay p n table x
    → AsksFirst (p.tables table) block before → length p.queue < 64
    → IsAnswered p n name (statements.Insert table values) ask_words (inserted_text name (next_row x table values).id)
    (p.queue ++ record { table = table; at = 0; range = before } ∷ [])

-- A vacuum drops these rows, and counts them. Where the index has no page with tuples, and its one range is whole and has no tuple, it gives that one.
abbrev pub AVacuumCountsRowsAndRanges : Type 0
AVacuumCountsRowsAndRanges = (p : Place) (n table rows : ℕ) (name : List ℕ) → IsCalm p n table 0 → HasDeadRows p table rows
    → ((page : ℕ) → IsForTuples ((p.tables table).index 0).pages page → ⊥) → ((p.tables table).index 0).pages_per_range ≡ 1 → LacksTuple (p.tables table) 0 0
    → IsAnswered p n name (statements.Vacuum table) (codes "right" ∷ codes "prune" ∷ summary_words (blocks_of (p.tables table) 0 0)) (vacuumed_text name rows 0 1) p.queue

-- where the index has one page with tuples, and its one range isn't whole, it drops and counts the unnamed tuples there, and makes no range
abbrev pub AVacuumCountsRowsAndTuples : Type 0
AVacuumCountsRowsAndTuples = (p : Place) (n table rows page unnamed : ℕ) (name : List ℕ) → IsCalm p n table 0 → HasDeadRows p table rows
    → ((q : ℕ) → IsForTuples ((p.tables table).index 0).pages q ↔ (q ≡ page)) → 1 < ((p.tables table).index 0).pages_per_range
    → IsCountOf (λ (k : ℕ). IsUnnamed (index_view_at 0 (p.tables table)) (record { block = page; slot = k })) unnamed
    → IsAnswered p n name (statements.Vacuum table) (codes "right" ∷ codes "prune" ∷ codes "sweep" ∷ []) (vacuumed_text name rows unnamed 0) p.queue

-- a maintenance statement that has made no step waits for a summarise lock that another session has
abbrev pub ALockIsWaitedFor : Type 0
ALockIsWaitedFor = (p : Place) (n m table : ℕ) (name : List ℕ) (statement : Statement) → p.hands n ≡ Some (new_hand statement)
    → IsHeldFrom p n m table statement → IsOnlyIn p n statement table → IsToldSo p n name (work_text p name table m)

-- an insert that has copied a tuple waits for its page, which another session locks
abbrev pub AnInsertWaitsForAPage : Type 0
AnInsertWaitsForAPage = (p : Place) (n m table at b k : ℕ) (name : List ℕ) (values : List Value) (answers : List Answer) (r : Row) (x : Spot) (old new : IndexTuple)
    → p.hands n ≡ Some (record { statement = statements.Insert table values; answers = answers }) → length p.journal ≤ MAX_ENTRIES
    → (p.tables table).task n ≡ Inserts b k r at (Copied x old new) → ((p.tables table).index at).lock x.block ≡ Some m → m ≢ n
    → IsToldSo p n name (page_text p name table at x.block m)

-- so does a desummarize that has read its range's entry
abbrev pub ADesummarizeWaitsForAPage : Type 0
ADesummarizeWaitsForAPage = (p : Place) (n m index block at range only : ℕ) (name : List ℕ) (x : Spot)
    → p.hands n ≡ Some (new_hand (statements.Desummarize index block)) → length p.journal ≤ MAX_ENTRIES
    → (p.tables (index_at p.layout index).table).task n ≡ Maintains (Desummarising only) at range (NotBuilding (Held x))
    → ((p.tables (index_at p.layout index).table).index at).lock x.block ≡ Some m → m ≢ n
    → IsToldSo p n name (page_text p name (index_at p.layout index).table at x.block m)
