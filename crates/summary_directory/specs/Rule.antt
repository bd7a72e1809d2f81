-- what the shelf is, and what each seat knows of it
use Rattle.std.specs.Prelude.{◌≡◌, ℕ, List, [], ◌++◌}
use mathlib.Core.Option.{some}
use lib.ListN.{get_elem?}
use Rattle.summary_directory.specs.declared.post.Post.{Post}
use Rattle.summary_directory.specs.declared.kept.Kept.{Kept}
use Rattle.summary_directory.specs.declared.kept.Learnt.{Learnt}
use Rattle.summary_directory.specs.declared.shelf.Shelf.{Shelf}
use Rattle.summary_directory.specs.PublishedState.{shown_after}
use Rattle.summary_directory.specs.ShelfFold.{fold_of, shown_of}

abbrev pub StartsWith : List Post → List Post → Type 0
StartsWith posts front = (rest : List Post) × (posts ≡ front ++ rest)

abbrev pub kept : Shelf → Kept
kept s = record { tuples = s.tuples.items; extents = s.extents.items; posts = s.posts }

-- the posts begin with what the seat has seen, and with what it was told of
abbrev pub Knows : List Post → Learnt → Type 0
Knows posts v = StartsWith posts v.seen × StartsWith posts v.told

-- The shelf is the fold of one list of posts, which begins with what each seat has seen and with what it was told of.
abbrev pub Keeps : Shelf → List Learnt → Type 0
Keeps x views = (posts : List Post) × (kept x ≡ fold_of posts) × ((seat : ℕ) (v : Learnt) → get_elem? views seat ≡ some v → Knows posts v)

-- a new seat has seen nothing, and was told of nothing
abbrev pub newcomer : Learnt
newcomer = record { seen = []; told = [] }

-- a reader takes the shelf, which shows what is shown after the posts that the reader has seen then
abbrev pub Looked : Learnt → Shelf → Shelf → Learnt → Type 0
Looked v x y w = StartsWith w.seen v.seen × StartsWith w.seen v.told × (shown_of (kept y) ≡ shown_after w.seen) × (w.told ≡ v.told)

-- the writer shows its posts behind those that it had shown
abbrev pub Published : List Post → Learnt → Shelf → Shelf → Learnt → Type 0
Published batch v x y w = (w.seen ≡ v.seen ++ batch) × (kept y ≡ fold_of w.seen)

-- a reader that was told of what another has seen
abbrev pub informed : Learnt → Learnt → Learnt
informed v note = record { seen = v.seen; told = note.seen }
