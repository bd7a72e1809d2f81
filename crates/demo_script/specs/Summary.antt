-- what the demo sums up
use Rattle.std.specs.Prelude.{◌≡◌, ℕ, zero, suc, ◌+◌, ◌/◌, List, [], ◌∷◌, ◌++◌, length, slice_index_or, codes, decimal}
use Rattle.block_model.specs.declared.reply.Reply.TheVariants as replies
use Rattle.demo_script.specs.declared.answer.Answer.{Answer}
use Rattle.demo_script.specs.declared.answer.Answer.TheVariants as answers
use Rattle.demo_script.specs.declared.counts.Counts.{Counts}
use Rattle.demo_script.specs.Conversation.{Said}

-- a row was inserted
abbrev pub inserted : Answer → ℕ
inserted (answers.Ended (replies.Inserted id)) = 1
inserted answer = 0

-- in how many of the answers one was
abbrev pub inserted_rows : List Said → ℕ
inserted_rows [] = 0
inserted_rows (s ∷ said) = inserted s.answer + inserted_rows said

-- how many rows were found, and how many blocks were named: none, where the line was refused
abbrev pub found_rows : Answer → ℕ
found_rows (answers.Ended (replies.Found rows)) = length rows
found_rows answer = 0

abbrev pub named_blocks : Answer → ℕ
named_blocks (answers.Ended (replies.Kept blocks)) = length blocks
named_blocks answer = 0

-- what the nth of these lines was answered
abbrev pub answer_of : List Said → ℕ → Answer
answer_of [] n = answers.Started
answer_of (s ∷ said) zero = s.answer
answer_of (s ∷ said) (suc n) = answer_of said n

-- the counts of a conversation: of the last lines those from the fourth on are the selects, and behind them comes the explain
pub record AreCounts (rounds last : List Said) (counts : Counts) : Type 0 where
  pub rows : counts.rows ≡ inserted_rows rounds
  pub first : counts.found ≡ found_rows (answer_of last 3) ∷ found_rows (answer_of last 4) ∷ found_rows (answer_of last 5) ∷ found_rows (answer_of last 6) ∷ []
  pub read : counts.read ≡ named_blocks (answer_of last 7)

-- the five lines, of these counts and of so many blocks of the table; ranges have sixteen blocks each, but for the last one
abbrev pub counted : List ℕ → ℕ → List ℕ
counted word n = word ++ codes " " ++ decimal n ++ codes "\n"

abbrev pub summary_text : Counts → ℕ → List ℕ
summary_text counts blocks =
    counted (codes "rows") counts.rows ++ counted (codes "blocks") blocks ++ counted (codes "ranges") ((blocks + 15) / 16)
    ++ codes "found " ++ decimal (slice_index_or counts.found 0 0) ++ codes " " ++ decimal (slice_index_or counts.found 1 0) ++ codes " "
    ++ decimal (slice_index_or counts.found 2 0) ++ codes " " ++ decimal (slice_index_or counts.found 3 0) ++ codes "\n"
    ++ counted (codes "read") counts.read
