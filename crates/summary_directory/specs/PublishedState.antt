-- what posts show, one after the other
use Rattle.std.specs.Prelude.{◌==◌, ◌&&◌, if◌then◌else◌, List, fold, None, Some}
use Rattle.summary_directory.specs.Shown.{Shown}
use Rattle.summary_directory.specs.declared.post.Post.{Post}
use Rattle.summary_directory.specs.declared.post.Post.TheVariants.{Set, Clear, Extent}

-- no range has a tuple, and no table a block
abbrev pub nothing_shown : Shown
nothing_shown = record { tuple = λ index range. None; extent = λ table. 0 }

-- a post changes the tuple of one range, or the blocks of one table
abbrev pub posted : Shown → Post → Shown
posted shown (Set index range bytes) = record { tuple = λ i r. if (i == index) && (r == range) then Some bytes else shown.tuple i r; extent = shown.extent }
posted shown (Clear index range) = record { tuple = λ i r. if (i == index) && (r == range) then None else shown.tuple i r; extent = shown.extent }
posted shown (Extent table blocks) = record { tuple = shown.tuple; extent = λ t. if t == table then blocks else shown.extent t }

-- what is shown after these posts
abbrev pub shown_after : List Post → Shown
shown_after posts = fold posted nothing_shown posts
