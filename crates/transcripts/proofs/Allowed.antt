-- a statement that is taken has its transaction
use Rattle.std.proofs.Common.{◌≡◌, ℕ, Bool, true, false, cond, List, [], ◌∷◌, Option, None, Some, refl, sym}
use Rattle.std.specs.Prelude.{if◌then◌else◌}
use Rattle.std.proofs.lemmas.Option.{none-some, same_Some}
use Rattle.std.specs.FinMap as map
use Rattle.block_model.specs.declared.reply.Refusal.TheVariants as refusals
use Rattle.block_model.specs.declared.reply.Reply.{Reply}
use Rattle.block_model.specs.declared.reply.Reply.TheVariants as replies
use Rattle.block_model.specs.declared.row.Query.{Query}
use Rattle.block_model.specs.declared.value.Value.{Value}
use Rattle.block_model.specs.DatabaseState.{DatabaseState, OpenTransaction}
use Rattle.block_model.specs.RequestEffect.{Committed, RolledBack}
use Rattle.store_layout.specs.declared.statement.Statement.{Statement}
use Rattle.store_layout.specs.declared.statement.Statement.TheVariants as statements
use Rattle.store_layout.specs.StatementRequests.{end_reply, refusal_at, submission_refusal}
use Rattle.transcripts.specs.Told.{IsSound}

-- an insert, a select or a delete: one that hasn't failed
pub sound_at : (s : DatabaseState) (n : ℕ) (statement : Statement) → ((o : Option OpenTransaction) → submission_refusal o statement ≡ None → (x : OpenTransaction) × (o ≡ Some x) × (x.failed ≡ false))
    → refusal_at s n statement ≡ None → (x : OpenTransaction) × IsSound s n x
sound_at s n statement allows taken = let a = allows (map.get s.sessions n) taken in (a.0, record { under_way = a.1; whole = a.2 })

not_failed : (b : Bool) → cond b (Some refusals.Doomed) None ≡ None → b ≡ false
not_failed true e = absurd (none-some _ (sym e))
not_failed false e = refl

pub insert_allowed : (table : ℕ) (values : List Value) (o : Option OpenTransaction) → submission_refusal o (statements.Insert table values) ≡ None → (x : OpenTransaction) × (o ≡ Some x) × (x.failed ≡ false)
insert_allowed table values None e = absurd (none-some _ (sym e))
insert_allowed table values (Some x) e = (x, refl, not_failed x.failed e)

pub select_allowed : (q : Query) (o : Option OpenTransaction) → submission_refusal o (statements.Select q) ≡ None → (x : OpenTransaction) × (o ≡ Some x) × (x.failed ≡ false)
select_allowed q None e = absurd (none-some _ (sym e))
select_allowed q (Some x) e = (x, refl, not_failed x.failed e)

pub delete_allowed : (q : Query) (o : Option OpenTransaction) → submission_refusal o (statements.Delete q) ≡ None → (x : OpenTransaction) × (o ≡ Some x) × (x.failed ≡ false)
delete_allowed q None e = absurd (none-some _ (sym e))
delete_allowed q (Some x) e = (x, refl, not_failed x.failed e)

-- a begin: none; its end: one
pub begin_allowed : (o : Option OpenTransaction) → submission_refusal o statements.Begin ≡ None → o ≡ None
begin_allowed None e = refl
begin_allowed (Some x) e = absurd (none-some _ (sym e))

pub commit_allowed : (o : Option OpenTransaction) → submission_refusal o statements.Commit ≡ None → (x : OpenTransaction) × (o ≡ Some x)
commit_allowed None e = absurd (none-some _ (sym e))
commit_allowed (Some x) e = (x, refl)

pub rollback_allowed : (o : Option OpenTransaction) → submission_refusal o statements.Rollback ≡ None → (x : OpenTransaction) × (o ≡ Some x)
rollback_allowed None e = absurd (none-some _ (sym e))
rollback_allowed (Some x) e = (x, refl)

-- by its answer a transaction that has failed is rolled back
pub end_is : (failed : Bool) (reply : Reply) → Some reply ≡ end_reply ((if failed then RolledBack else Committed) ∷ []) → reply ≡ (if failed then replies.RolledBack else replies.Committed)
end_is true reply e = same_Some _ _ e
end_is false reply e = same_Some _ _ e
