-- a commit that is told is sure; and which statement in hand is no put
use Rattle.std.proofs.Common.{◌≡◌, ℕ, List, refl}
use Rattle.block_model.specs.declared.value.Value.{Value}
use Rattle.disk_trait.specs.Told.{Told}
use Rattle.page_map.specs.PageMap.{View}
use Rattle.block_model.specs.declared.reply.Reply.TheVariants as replies
use Rattle.session_parts.specs.declared.faults.StoreFault.TheVariants as stops
use Rattle.session_parts.specs.declared.hand.Hand.{Hand}
use Rattle.session_parts.specs.declared.hand.Hand.TheVariants as hands
use Rattle.session_parts.specs.declared.hand.Stepped.{Stepped}
use Rattle.session_parts.specs.declared.hand.Stepped.TheVariants as stepped
use Rattle.session_parts.specs.StepIs.{answer_of}
use Rattle.session_transactions.specs.Stops.{IsSureThen}
use Rattle.session_core.specs.Sessions.{IsNoPut}
use Rattle.session_starts.specs.Stops.{IsSureBehind}

pub sure_behind : {D : Type 0} (told : D → Told) (old new : View D) (answer : Stepped) → IsSureThen told old new answer → IsSureBehind told old new (answer_of answer)
sure_behind told old new (stepped.Moved point hand) sure = tt
sure_behind told old new (stepped.Blocked what holder hand) sure = tt
sure_behind told old new (stepped.Undone (stops.Spent entries) hand) sure = sure
sure_behind told old new (stepped.Undone stops.Disk hand) sure = tt
sure_behind told old new (stepped.Undone (stops.Reopen faults) hand) sure = tt
sure_behind told old new (stepped.Undone (stops.Damaged at) hand) sure = tt
sure_behind told old new (stepped.Done (replies.Begun t)) sure = tt
sure_behind told old new (stepped.Done (replies.Inserted id)) sure = tt
sure_behind told old new (stepped.Done (replies.Found rows)) sure = tt
sure_behind told old new (stepped.Done (replies.Deleted count)) sure = tt
sure_behind told old new (stepped.Done replies.Committed) sure = sure
sure_behind told old new (stepped.Done replies.RolledBack) sure = tt
sure_behind told old new (stepped.Done (replies.Kept blocks)) sure = tt
sure_behind told old new (stepped.Done (replies.Summarized count)) sure = tt
sure_behind told old new (stepped.Done (replies.Desummarized count)) sure = tt
sure_behind told old new (stepped.Done (replies.Vacuumed rows orphans ranges)) sure = tt
sure_behind told old new (stepped.Done (replies.Worked index range count)) sure = tt
sure_behind told old new (stepped.Done replies.Idle) sure = tt
sure_behind told old new (stepped.Done (replies.Refused refusal)) sure = tt

pub no_put : (hand : Hand) → ((table : ℕ) (values : List Value) → hand ≡ hands.Puts table values → ⊥) → IsNoPut hand
no_put (hands.Begins numbers) not = tt
no_put hands.Commits not = tt
no_put hands.RollsBack not = tt
no_put (hands.Puts table values) not = not table values refl
no_put (hands.Inserts insert) not = tt
no_put (hands.Selecting query) not = tt
no_put (hands.Selects scan) not = tt
no_put (hands.Deleting query) not = tt
no_put (hands.Deletes scan) not = tt
no_put (hands.Marks marking) not = tt
no_put (hands.Explains explain) not = tt
no_put (hands.Summarises summarise) not = tt
no_put (hands.Desummarises desummarise) not = tt
no_put (hands.Cleans cleaning) not = tt
no_put (hands.Completes completing) not = tt
no_put hands.Working not = tt
no_put (hands.Works requested) not = tt
