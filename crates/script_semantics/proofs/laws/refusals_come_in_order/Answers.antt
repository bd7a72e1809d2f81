use Rattle.script_semantics.proofs.Orders.{block_next, in_hand_first, nothing_started, past_next, started, transaction_next, unread_first, until_reply}
use Rattle.script_semantics.proofs.laws.refusals_come_in_order.Goals as goal

pub returns-clause-unread : goal.returns-clause-unread
returns-clause-unread c = unread_first

pub returns-clause-sessions : goal.returns-clause-sessions
returns-clause-sessions c = past_next

pub returns-clause-in_hand : goal.returns-clause-in_hand
returns-clause-in_hand c = in_hand_first

pub returns-clause-nothing_started : goal.returns-clause-nothing_started
returns-clause-nothing_started c = nothing_started

pub returns-clause-blocks : goal.returns-clause-blocks
returns-clause-blocks c = block_next

pub returns-clause-transactions : goal.returns-clause-transactions
returns-clause-transactions c = transaction_next

pub returns-clause-started : goal.returns-clause-started
returns-clause-started c = started

pub returns-clause-until_reply : goal.returns-clause-until_reply
returns-clause-until_reply c = until_reply
