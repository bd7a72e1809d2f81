-- the effect of a request, seen from one session's transaction and from the others'
use Rattle.std.proofs.Common.{◌≡◌, ℕ, Bool, true, false, if◌then◌else◌, refl, sym, ap, subst, ◌∙◌, Option, Some, None}
use Rattle.std.specs.FinMap.{get}
use Rattle.std.specs.FinSet as set
use Rattle.std.proofs.lemmas.Cmp.{nat_cmp_total}
use Rattle.block_model.specs.declared.row.RowId.{RowId}
use Rattle.block_model.specs.declared.request.Entry.{Entry}
use Rattle.block_model.specs.declared.request.Request.{Request}
use Rattle.block_model.specs.declared.request.Request.TheVariants.{Begin, Put, Look, Mark, Commit, Rollback}
use Rattle.block_model.specs.declared.request.Tag.{Tag}
use Rattle.block_model.specs.declared.request.Tag.TheVariants as tags
use Rattle.block_model.specs.DatabaseState.{DatabaseState, OpenTransaction}
use Rattle.block_model.specs.RequestEffect.{Answer, effect, effect_at, effect_is, effect_within, effect_outside, after_request, with_transaction, without_transaction, after_begin, after_commit, after_failure, after_mark, failed_transaction, new_transaction, merged, is_conflict, is_own, Conflict, Marked}
use Rattle.block_model.specs.NumberMaps.{get_put_apart, get_removed_apart, numbers_apart}

-- the effect by what is found at the session's number
pub effect_by : (s : DatabaseState) (e : Entry) (o : Option OpenTransaction) → get s.sessions e.session ≡ o → effect s e ≡ effect_at o s e
effect_by s e o got = effect_is s e ∙ ap (λ x. effect_at x s e) got

-- the state in which the transaction's rows and marks are merged, and it is over
abbrev pub after_merge : DatabaseState → ℕ → OpenTransaction → DatabaseState
after_merge s n x = record (without_transaction s n) { table = merged s.table x }

pub commit_merges : (s : DatabaseState) (n : ℕ) (x : OpenTransaction) → x.failed ≡ false → after_commit s n x ≡ after_merge s n x
commit_merges s n x e = λ i. record (without_transaction s n) { table = if e i then s.table else merged s.table x }

pub failed_commit_ends : (s : DatabaseState) (n : ℕ) (x : OpenTransaction) → x.failed ≡ true → after_commit s n x ≡ without_transaction s n
failed_commit_ends s n x e = λ i. record (without_transaction s n) { table = if e i then s.table else merged s.table x }

-- a mark, by whether it conflicts
abbrev pub mark_effect : DatabaseState → ℕ → OpenTransaction → RowId → Bool → DatabaseState × Answer
mark_effect s n x id conflicts = if conflicts then (after_failure s n x, Conflict id) else (with_transaction s n (after_mark x id), Marked)

-- The states that a request of a session with the transaction x may lead to: the same one, one in which x has the same
-- number and marks, one in which it has marked one more row, one without it, and the one after its commit.
module _ (P : DatabaseState → Type 0) (s : DatabaseState) (n : ℕ) (x : OpenTransaction)
    (same : P s)
    (kept : (y : OpenTransaction) → y.t ≡ x.t → y.marks ≡ x.marks → P (with_transaction s n y))
    (marked : (id : RowId) (y : OpenTransaction) → is_own x id ≡ false → is_conflict s n x id ≡ false → y.t ≡ x.t → y.marks ≡ set.insert x.marks id → P (with_transaction s n y))
    (gone : P (without_transaction s n))
    (merges : x.failed ≡ false → P (after_merge s n x)) where
  after_mark_leads : (id : RowId) → is_conflict s n x id ≡ false → P (with_transaction s n (after_mark x id))
  after_mark_leads id free =
      elim (is_own x id) as (λ b. is_own x id ≡ b → P (with_transaction s n (after_mark x id))) [
        | true ↦ λ own. kept (after_mark x id) refl (ap (λ b. if b then x.marks else set.insert x.marks id) own)
        | false ↦ λ own. marked id (after_mark x id) own free refl (ap (λ b. if b then x.marks else set.insert x.marks id) own)
      ] refl

  mark_leads : (id : RowId) (b : Bool) → is_conflict s n x id ≡ b → P (mark_effect s n x id b).0
  mark_leads id true e = kept (failed_transaction x) refl refl
  mark_leads id false e = after_mark_leads id e

  commit_leads : (b : Bool) → x.failed ≡ b → P (after_commit s n x)
  commit_leads true e = subst P (sym (failed_commit_ends s n x e)) gone
  commit_leads false e = subst P (sym (commit_merges s n x e)) (merges e)

  pub within_leads : (table : ℕ) (request : Request) (tag : Tag) → P (effect_within s n x table request tag).0
  within_leads table (Put values) tags.Ok = kept _ refl refl
  within_leads table (Put values) tags.Full = kept _ refl refl
  within_leads table (Put values) tags.NoMemory = kept _ refl refl
  within_leads table (Look q) tags.NoMemory = kept _ refl refl
  within_leads table (Look q) tags.Ok = same
  within_leads table (Look q) tags.Full = same
  within_leads table (Mark id) tag = mark_leads id (is_conflict s n x id) refl
  within_leads table Commit tag = commit_leads x.failed refl
  within_leads table Rollback tag = gone
  within_leads table Begin tag = same

-- and one of a session that has none
module _ (P : DatabaseState → Type 0) (s : DatabaseState) (n : ℕ) (same : P s) (begun : P (after_begin s n)) where
  pub outside_leads : (request : Request) → P (effect_outside s n request).0
  outside_leads Begin = begun
  outside_leads (Put values) = same
  outside_leads (Look q) = same
  outside_leads (Mark id) = same
  outside_leads Commit = same
  outside_leads Rollback = same

-- ---- the other sessions

within_others : (s : DatabaseState) (n m : ℕ) (x : OpenTransaction) (table : ℕ) (request : Request) (tag : Tag) → (m ≡ n → ⊥) → get (effect_within s n x table request tag).0.sessions m ≡ get s.sessions m
within_others s n m x table request tag apart =
    let same_at = λ (s' : DatabaseState). get s'.sessions m ≡ get s.sessions m in
    let away = numbers_apart m n apart in
    within_leads same_at s n x refl (λ y _ _. get_put_apart nat_cmp_total s.sessions n m y away) (λ id y _ _ _ _. get_put_apart nat_cmp_total s.sessions n m y away)
    (get_removed_apart nat_cmp_total s.sessions n m away) (λ _. get_removed_apart nat_cmp_total s.sessions n m away) table request tag

at_others : (s : DatabaseState) (e : Entry) (m : ℕ) (o : Option OpenTransaction) → (m ≡ e.session → ⊥) → get (effect_at o s e).0.sessions m ≡ get s.sessions m
at_others s e m None apart = outside_leads (λ (s' : DatabaseState). get s'.sessions m ≡ get s.sessions m) s e.session refl (get_put_apart nat_cmp_total s.sessions e.session m (new_transaction s) (numbers_apart m e.session apart)) e.request
at_others s e m (Some x) apart = within_others s e.session m x e.table e.request e.tag apart

-- a request leaves the other sessions' transactions alone
pub others_stay : (s : DatabaseState) (e : Entry) (m : ℕ) → (m ≡ e.session → ⊥) → get (after_request s e).sessions m ≡ get s.sessions m
others_stay s e m apart = ap (λ (p : DatabaseState × Answer). get p.0.sessions m) (effect_is s e) ∙ at_others s e m (get s.sessions e.session) apart
