-- who asked for a summary
use Rattle.std.specs.Prelude.{ℕ, List}
use Rattle.block_model.specs.declared.reply.Reply.{Reply}
use Rattle.block_model.specs.declared.reply.Reply.TheVariants as replies
use Rattle.summarise_core.specs.Summarises.{SummariseState}
use Rattle.session_parts.specs.declared.hand.Hand.{Hand}
use Rattle.session_parts.specs.declared.hand.Hand.TheVariants as hands
use Rattle.session_maintenance.specs.declared.asker.Asker.{Asker}
use Rattle.session_maintenance.specs.declared.asker.Asker.TheVariants as askers

-- the statement in hand, with its summarise
abbrev pub hand_for : Asker → SummariseState → Hand
hand_for askers.Line a = hands.Summarises a
hand_for (askers.Insert range) a = hands.Works (record { summarise = a; range = range })

-- what it replies, by the name of the index and by how many ranges got a final tuple
abbrev pub reply_for : Asker → (index : List ℕ) → (count : ℕ) → Reply
reply_for askers.Line index count = replies.Summarized count
reply_for (askers.Insert range) index count = replies.Worked index range count
