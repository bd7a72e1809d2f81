-- what is printed of requests that a full queue dropped
use Rattle.std.specs.Prelude.{ℕ, List, ◌++◌, codes, decimal}
use Rattle.std.specs.List.{flat_map}
use Rattle.reply_texts.specs.declared.dropped.Dropped.{Dropped}

-- the index and the number of the range
abbrev pub dropped_line : Dropped → List ℕ
dropped_line dropped = codes "- dropped " ++ dropped.index ++ codes " " ++ decimal dropped.range ++ codes "\n"

-- one line for each, in order
abbrev pub dropped_text : List Dropped → List ℕ
dropped_text dropped = flat_map dropped_line dropped
