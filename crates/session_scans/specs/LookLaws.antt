-- what a scan and a look take of the laws of transactions
use Rattle.transactions.specs.Laws.{CopyIsSeen, FailureCounts, FailureIsShown, FoundIsShown, IdsDiffer, LookIsShown, PutIsUnseen, RefusalIsFailure, SeenRowCounts, SessionsAreShown}

pub record LookLaws : Type 0 where
  pub sessions : SessionsAreShown
  pub copies : CopyIsSeen
  pub seen : SeenRowCounts
  pub unseen : PutIsUnseen
  pub apart : IdsDiffer
  pub found : FoundIsShown
  pub look : LookIsShown
  pub failure : FailureIsShown
  pub is_failure : RefusalIsFailure
  pub failed : FailureCounts
