-- what is printed of a statement that goes on
use Rattle.std.specs.Prelude.{ℕ, List, ◌++◌, codes}
use Rattle.block_model.specs.declared.reply.Point.{Point}
use Rattle.block_model.specs.declared.reply.Point.TheVariants as points

-- what a step did, as it is written
abbrev pub point_word : Point → List ℕ
point_word points.Row = codes "row"
point_word points.Ask = codes "ask"
point_word points.Map = codes "map"
point_word points.Copy = codes "copy"
point_word points.Again = codes "again"
point_word points.Swap = codes "swap"
point_word points.Put = codes "put"
point_word points.Set = codes "set"
point_word points.Drop = codes "drop"
point_word points.Extent = codes "extent"
point_word points.Tuple = codes "tuple"
point_word points.Page = codes "page"
point_word points.Mark = codes "mark"
point_word points.Right = codes "right"
point_word points.Pass = codes "pass"
point_word points.Clear = codes "clear"
point_word points.Prune = codes "prune"
point_word points.Sweep = codes "sweep"
point_word points.Grow = codes "grow"
point_word points.Meta = codes "meta"
point_word points.Flag = codes "flag"
point_word points.Turn = codes "turn"

-- a statement that is started
abbrev pub started_text : List ℕ → List ℕ
started_text name = name ++ codes " started\n"

-- a step before the last
abbrev pub moved_text : List ℕ → Point → List ℕ
moved_text name point = name ++ codes " moved " ++ point_word point ++ codes "\n"
