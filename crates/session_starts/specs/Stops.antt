-- what a stop amid a step of a session may leave
use Rattle.std.specs.Prelude.{ℕ, Result, Ok, Err}
use Rattle.block_model.specs.declared.reply.Reply.TheVariants as replies
use Rattle.disk_trait.specs.Told.{Told}
use Rattle.page_map.specs.PageMap.{View}
use Rattle.tx_table.specs.Durable.{IsDurable}
use Rattle.transactions.specs.TransactionsState.{TransactionsState}
use Rattle.session_parts.specs.declared.faults.Step.{Step}
use Rattle.session_parts.specs.declared.faults.Step.TheVariants as steps
use Rattle.session_parts.specs.declared.faults.StoreFault.{StoreFault}
use Rattle.session_parts.specs.declared.faults.StoreFault.TheVariants as stops
use Rattle.session_parts.specs.declared.hand.Hand.{Hand}
use Rattle.session_parts.specs.declared.hand.Hand.TheVariants as hands
use Rattle.transactions.specs.Passes.{PassesCommit, PassesNothing}

-- a commit is told only when each image that a crash may leave opens to the pages with it, and none is begun where the journal lacks room for it
abbrev pub IsSureBehind : {D : Type 0} → (D → Told) → (old new : View D) → Result Step StoreFault → Type 0
IsSureBehind told old new (Ok (steps.Done replies.Committed)) = IsDurable told new
IsSureBehind told old new (Err (stops.Spent entries)) = PassesNothing told old new
IsSureBehind told old new answer = Unit {0}

-- At every moment of a step, inside each call of the disk too, an image opens to the pages as they were before the step, or to what an image of
-- before opened to; within a commit also to those pages with the session's transaction committed.
abbrev pub StopsSo : {D : Type 0} → (D → Told) → TransactionsState → (n : ℕ) → (old new : View D) → Hand → Result Step StoreFault → Type 0
StopsSo told t n old new hands.Commits answer = PassesCommit told t n old new × IsSureBehind told old new answer
StopsSo told t n old new hand answer = PassesNothing told old new
