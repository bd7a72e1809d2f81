-- what a store of sessions takes of the laws of its parts
use Rattle.disk_trait.specs.Told.{Told}
use Rattle.transactions.specs.Laws.{SessionsAreShown}
use Rattle.session_parts.specs.ShareLaws.{FewLocksEach, PromisesStay, ShareIsWithin}
use Rattle.session_parts.specs.StoreLaws.{FitEverywhere, HandChanges, OthersStayFit}
use Rattle.session_parts.specs.SubmitLaws.{NamedIsShown, SubmittedIsShown}

pub record SessionLaws {D : Type 0} (told : D → Told) : Type 0 where
  pub changes : HandChanges
  pub everywhere : FitEverywhere told
  pub others : OthersStayFit told
  pub within : ShareIsWithin
  pub promised : PromisesStay
  pub few : FewLocksEach
  pub submitted : SubmittedIsShown
  pub named : NamedIsShown
  pub sessions : SessionsAreShown
