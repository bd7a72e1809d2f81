-- what is printed for a reply
use Rattle.std.specs.Prelude.{ℕ, ◌+◌, ◌==◌, List, [], ◌∷◌, ◌++◌, length, codes, decimal, if◌then◌else◌}
use Rattle.std.specs.List.{flat_map}
use Rattle.value_text.specs.CanonicalTexts.{values_text}
use Rattle.block_model.specs.declared.row.RowId.{RowId}
use Rattle.block_model.specs.declared.row.Row.{Row}
use Rattle.block_model.specs.declared.reply.Reply.{Reply}
use Rattle.block_model.specs.declared.reply.Reply.TheVariants as replies
use Rattle.block_model.specs.declared.reply.Refusal.{Refusal}
use Rattle.block_model.specs.declared.reply.Refusal.TheVariants as refusals
use Rattle.block_model.specs.declared.reply.What.{What}
use Rattle.block_model.specs.declared.reply.What.TheVariants as whats

-- T.K
abbrev pub id_text : RowId → List ℕ
id_text id = decimal id.t ++ codes "." ++ decimal id.k

-- a row's line
abbrev pub row_text : List ℕ → Row → List ℕ
row_text name row = name ++ codes " row " ++ id_text row.id ++ values_text row.values ++ codes "\n"

-- a line that ends in a number
abbrev pub count_text : List ℕ → List ℕ → ℕ → List ℕ
count_text name words n = name ++ words ++ decimal n ++ codes "\n"

-- a line per row, and one with their number
abbrev pub rows_text : List ℕ → List Row → List ℕ
rows_text name rows = flat_map (row_text name) rows ++ count_text name (codes " rows ") (length rows)

-- the runs of consecutive numbers, each by its first and its last one, behind a run that goes on
abbrev pub runs_from : ℕ → ℕ → List ℕ → List (ℕ × ℕ)
runs_from first last [] = (first, last) ∷ []
runs_from first last (b ∷ bs) = if b == last + 1 then runs_from first b bs else (first, last) ∷ runs_from b b bs

-- the runs of a list
abbrev pub runs_of : List ℕ → List (ℕ × ℕ)
runs_of [] = []
runs_of (b ∷ bs) = runs_from b b bs

-- one number, or the first and the last one
abbrev pub run_text : ℕ × ℕ → List ℕ
run_text run = if run.0 == run.1 then codes " " ++ decimal run.0 else codes " " ++ decimal run.0 ++ codes "-" ++ decimal run.1

-- the runs, or `none`
abbrev pub blocks_text : List ℕ → List ℕ
blocks_text [] = codes " none"
blocks_text (b ∷ bs) = flat_map run_text (runs_of (b ∷ bs))

-- what another session holds
abbrev pub held_text : What → List ℕ
held_text (whats.Page relation block) = codes "page " ++ relation ++ codes " " ++ decimal block
held_text (whats.Work table) = codes "work " ++ table

-- a line that isn't read names no session
abbrev pub refusal_text : List ℕ → Refusal → List ℕ
refusal_text name (refusals.Syntax at) = count_text (codes "-") (codes " error 1 ") at
refusal_text name (refusals.NoTable at) = count_text (codes "-") (codes " error 2 ") at
refusal_text name (refusals.NoColumn at) = count_text (codes "-") (codes " error 3 ") at
refusal_text name refusals.NoTransaction = name ++ codes " error 4\n"
refusal_text name refusals.UnderWay = name ++ codes " error 5\n"
refusal_text name refusals.Doomed = name ++ codes " error 6\n"
refusal_text name (refusals.Conflict id) = name ++ codes " error 7 " ++ id_text id ++ codes "\n"
refusal_text name (refusals.Full relation number) = name ++ codes " error 8 " ++ count_text relation (codes " ") number
refusal_text name (refusals.NoIndex at) = count_text (codes "-") (codes " error 9 ") at
refusal_text name (refusals.Limit limit) = count_text name (codes " error 10 ") limit
refusal_text name (refusals.Blocked what holder) = name ++ codes " error 11 " ++ held_text what ++ codes " " ++ holder ++ codes "\n"
refusal_text name refusals.InHand = name ++ codes " error 12\n"
refusal_text name refusals.Memory = name ++ codes " error 13\n"
refusal_text name refusals.NothingStarted = name ++ codes " error 14\n"

-- what a vacuum did
abbrev pub vacuum_text : List ℕ → ℕ → ℕ → ℕ → List ℕ
vacuum_text name rows orphans ranges =
    name ++ codes " vacuumed rows " ++ decimal rows ++ codes " orphans " ++ decimal orphans ++ codes " ranges " ++ decimal ranges ++ codes "\n"

-- what a request of the queue did
abbrev pub worked_text : List ℕ → List ℕ → ℕ → ℕ → List ℕ
worked_text name index range count = name ++ codes " worked " ++ index ++ codes " " ++ decimal range ++ codes " " ++ decimal count ++ codes "\n"

-- the lines of a reply to the session of that name
unfoldable pub reply_text : List ℕ → Reply → List ℕ
reply_text name (replies.Begun t) = count_text name (codes " begun ") t
reply_text name (replies.Inserted id) = name ++ codes " inserted " ++ id_text id ++ codes "\n"
reply_text name (replies.Found rows) = rows_text name rows
reply_text name (replies.Deleted count) = count_text name (codes " deleted ") count
reply_text name replies.Committed = name ++ codes " committed\n"
reply_text name replies.RolledBack = name ++ codes " rolled back\n"
reply_text name (replies.Kept blocks) = name ++ codes " blocks" ++ blocks_text blocks ++ codes "\n"
reply_text name (replies.Summarized count) = count_text name (codes " summarized ") count
reply_text name (replies.Desummarized count) = count_text name (codes " desummarized ") count
reply_text name (replies.Vacuumed rows orphans ranges) = vacuum_text name rows orphans ranges
reply_text name (replies.Worked index range count) = worked_text name index range count
reply_text name replies.Idle = name ++ codes " worked none\n"
reply_text name (replies.Refused refusal) = refusal_text name refusal
