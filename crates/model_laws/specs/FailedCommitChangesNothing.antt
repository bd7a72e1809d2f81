-- the commit of a transaction that has failed changes nothing but that it ends
use Rattle.std.specs.Prelude.{◌≡◌, true}
use Rattle.block_model.specs.declared.request.Entry.{Entry}
use Rattle.block_model.specs.DatabaseState.{DatabaseState, OpenTransaction}
use Rattle.block_model.specs.RequestEffect.{after_request, reply_to, RolledBack}
use Rattle.model_laws.specs.Commits.{Commits, EndsAlone}

-- the table stays, and but for the end of the transaction so does all else
pub record ChangesNothing (s : DatabaseState) (e : Entry) : Type 0 where
  pub table : (after_request s e).table ≡ s.table
  pub ends : EndsAlone s (after_request s e) e.session
  pub reply : reply_to s e ≡ RolledBack

-- wherever a transaction that has failed commits
abbrev pub FailedCommitChangesNothing : Type 0
FailedCommitChangesNothing = (s : DatabaseState) (e : Entry) (x : OpenTransaction) → Commits s e x → x.failed ≡ true → ChangesNothing s e
