-- what the steps of an insert take of the laws of the parts
use Rattle.transactions.specs.Laws.{FailureCounts, FailureIsShown, PutCounts, PutIsShown, PutIsUnseen, RefusalIsFailure, SessionsAreShown, ShowAlike}
use Rattle.session_parts.specs.LeadLaws.{FailureCountsNoMore, FailureStaysWithin, FewerCountsFew, NoRequestLeads, NothingLeavesSlots, PutLeavesSlots, PutStaysWithin, RequestLeads, SameCountsFew}
use Rattle.session_parts.specs.PlaceLaws.{AskingStepIsShown, PlaceStaysShown, TableStepIsShown}
use Rattle.session_parts.specs.RefusalLaws.{InsertIsRefused, RefusalIsShown, RowIsRefused}
use Rattle.session_parts.specs.RequestLaws.{PutIsLegal}
use Rattle.session_parts.specs.StepLaws.{MachineAsks, TurnAsks, TurnIsRefused, TurnReplies, TurnWaits}
use Rattle.session_parts.specs.TableLaws.{OwnTableGoesOn}

-- a step in an index, and one that waits
pub record IndexLaws : Type 0 where
  pub machine : MachineAsks
  pub goes : TurnAsks
  pub replies : TurnReplies
  pub waits : TurnWaits
  pub shown : AskingStepIsShown
  pub stays : PlaceStaysShown
  pub own : OwnTableGoesOn
  pub alike : ShowAlike
  pub leads : NoRequestLeads
  pub few : SameCountsFew
  pub slots : NothingLeavesSlots

-- the put of a row
pub record RowLaws : Type 0 where
  pub machine : MachineAsks
  pub goes : TurnAsks
  pub replies : TurnReplies
  pub shown : AskingStepIsShown
  pub own : OwnTableGoesOn
  pub leads : RequestLeads
  pub within : PutStaysWithin
  pub legal : PutIsLegal
  pub few : SameCountsFew
  pub slots : PutLeavesSlots
  pub put : PutIsShown
  pub unseen : PutIsUnseen
  pub counts : PutCounts
  pub sessions : SessionsAreShown

-- a refusal
pub record RefusalLaws : Type 0 where
  pub row : RowIsRefused
  pub insert : InsertIsRefused
  pub refused : TurnIsRefused
  pub shown : TableStepIsShown
  pub table_shown : RefusalIsShown
  pub leads : RequestLeads
  pub within : FailureStaysWithin
  pub legal : PutIsLegal
  pub fewer : FewerCountsFew
  pub no_more : FailureCountsNoMore
  pub failure : FailureIsShown
  pub is_failure : RefusalIsFailure
  pub counts : FailureCounts
  pub sessions : SessionsAreShown
  pub alike : ShowAlike
