-- what a clause sees of a directory, and of a reader
use Rattle.std.specs.Prelude.{List}
use Rattle.bitmap_scan.specs.ScanHands.{ScannedIndex}
use Rattle.summary_directory.specs.declared.post.Post.{Post}

-- the posts that readers see, and those that wait
pub record Posts : Type 0 where
  pub shown : List Post
  pub waiting : List Post

-- the posts of which a reader has seen the fold, those that it was told of, and the indexes whose tuples it judges
pub record Known : Type 0 where
  pub seen : List Post
  pub told : List Post
  pub indexes : List ScannedIndex
