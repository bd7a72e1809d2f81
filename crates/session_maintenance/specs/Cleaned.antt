-- what comes behind the last step of a vacuum's cleaning
use Rattle.std.specs.Prelude.{◌≡◌, ◌≢◌, ℕ, List, [], ◌∷◌, Option, None, Some, slice_set}
use Rattle.block_model.specs.declared.reply.Point.{Point}
use Rattle.block_model.specs.declared.reply.Reply.TheVariants as replies
use Rattle.page_locks.specs.RightHolders.{right_of}
use Rattle.summarise_core.specs.Summarises.{SummariseState}
use Rattle.session_parts.specs.declared.hand.Cleaning.{Cleaning}
use Rattle.session_parts.specs.declared.hand.Completing.{Completing}
use Rattle.session_parts.specs.declared.hand.Hand.TheVariants as hands
use Rattle.session_parts.specs.declared.hand.Stepped.{Stepped}
use Rattle.session_parts.specs.declared.hand.Stepped.TheVariants as stepped

-- the vacuum before its first summary
abbrev pub completing_of : Cleaning → Completing
completing_of c = record { table = c.vacuum.table; rows = c.vacuum.rows; unnamed = c.vacuum.unnamed; summaries = c.summaries; next = 0; ranges = 0 }

-- it goes on with its summaries; with none it has replied
abbrev pub behind : Point → Cleaning → List SummariseState → Stepped
behind point c [] = stepped.Done (replies.Vacuumed c.vacuum.rows c.vacuum.unnamed 0)
behind point c (a ∷ more) = stepped.Moved point (hands.Completes (completing_of c))

-- where it has replied its session gives the table's summarise lock
pub record EndsCleaning (session : ℕ) (point : Point) (c : Cleaning) (old new : List (Option ℕ)) (came : Stepped) : Type 0 where
  pub answer : came ≡ behind point c c.summaries.items
  pub given : c.summaries.items ≡ [] → right_of old c.vacuum.table ≡ Some session → new ≡ slice_set old c.vacuum.table None
  pub same : c.summaries.items ≡ [] → right_of old c.vacuum.table ≢ Some session → new ≡ old
  pub held : c.summaries.items ≢ [] → new ≡ old
