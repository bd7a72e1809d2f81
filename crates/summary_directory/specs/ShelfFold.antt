-- posts as a shelf takes them in
use Rattle.std.specs.Prelude.{◌+◌, List, [], fold, slice_index, slice_index_or, None, Some}
use Rattle.summary_directory.specs.Shown.{Shown}
use Rattle.kept_tuples.specs.Places.{placed}
use Rattle.summary_directory.specs.declared.post.Post.{Post}
use Rattle.summary_directory.specs.declared.post.Post.TheVariants.{Set, Clear, Extent}
use Rattle.summary_directory.specs.declared.kept.Kept.{Kept}

abbrev pub step : Kept → Post → Kept
step k (Set index range bytes) = record { tuples = placed [] k.tuples index (placed None (slice_index_or k.tuples index []) range (Some bytes)); extents = k.extents; posts = k.posts + 1 }
step k (Clear index range) = record { tuples = placed [] k.tuples index (placed None (slice_index_or k.tuples index []) range None); extents = k.extents; posts = k.posts + 1 }
step k (Extent table blocks) = record { tuples = k.tuples; extents = placed 0 k.extents table blocks; posts = k.posts + 1 }

-- before any post
abbrev pub no_posts : Kept
no_posts = record { tuples = []; extents = []; posts = 0 }

abbrev pub fold_of : List Post → Kept
fold_of posts = fold step no_posts posts

-- what a shelf shows
abbrev pub shown_of : Kept → Shown
shown_of k = record { tuple = λ index range. slice_index_or (slice_index_or k.tuples index []) range None; extent = λ table. slice_index k.extents table }
