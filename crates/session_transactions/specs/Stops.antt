-- when a commit is sure
use Rattle.block_model.specs.declared.reply.Reply.TheVariants as replies
use Rattle.disk_trait.specs.Told.{Told}
use Rattle.page_map.specs.PageMap.{View}
use Rattle.tx_table.specs.Durable.{IsDurable}
use Rattle.transactions.specs.Passes.{PassesNothing}
use Rattle.session_parts.specs.declared.faults.StoreFault.TheVariants as stops
use Rattle.session_parts.specs.declared.hand.Stepped.{Stepped}
use Rattle.session_parts.specs.declared.hand.Stepped.TheVariants as stepped

-- a commit is told only when it is sure, and none is begun where the journal lacks room for it
abbrev pub IsSureThen : {D : Type 0} → (D → Told) → (old new : View D) → Stepped → Type 0
IsSureThen told old new (stepped.Done replies.Committed) = IsDurable told new
IsSureThen told old new (stepped.Undone (stops.Spent entries) hand) = PassesNothing told old new
IsSureThen told old new answer = Unit {0}
