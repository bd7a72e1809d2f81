-- the rows that an open transaction saw before its own deletes
use Rattle.std.proofs.Common.{◌≡◌, inl, inr, ℕ, Bool, true, false, ◌&&◌, ◌||◌, eqb, List, set, refl, sym, ap, subst, ◌∙◌}
use Rattle.std.proofs.lemmas.Bool.{and_left, and_right}
use Rattle.block_model.specs.declared.row.RowId.{RowId}
use Rattle.snapshot_core.specs.declared.statuses.Status.{Status}
use Rattle.snapshot_core.specs.declared.statuses.Status.TheVariants.{Begun}
use Rattle.snapshot_core.specs.Visibility.{had_ended, has_done, in_snapshot, is_committed}
use Rattle.snapshot_core.specs.declared.sessions.Open.{Open}
use Rattle.transactions.specs.GivenStatuses.{given_status}
use Rattle.transactions.proofs.Others.{begin_unseen, end_unseen}
use Rattle.transactions.proofs.Shown.{one_list_shown, open_one}
use Rattle.session_parts.specs.SeenBefore.{SawRowsAtBegin, SawRowsAtEnd, SawRowsStay}

-- a row that stays, perhaps marked by one that is open
pub saw_rows_stay : SawRowsStay
saw_rows_stay layout pages t s stored o sees old new shows has go saw x row there sees_it =
    let was = go x row there sees_it in
    let before = saw x was.0 was.1 sees_it in
    let status : ℕ → Status = given_status t.tx.first stored in
    record {
      put = subst (λ (id : RowId). has_done o.snapshot o.t id.t (status id.t) ≡ true) was.2 before.put;
      undeleted = elim was.3 [
        | inl same ↦ subst (λ u. in_snapshot o.snapshot u (status u) ≡ false) same before.undeleted
        | inr under ↦
            let begun = ap status under.3 ∙ ap (λ (l : List Status). given_status t.tx.first l under.1.t) (one_list_shown shows stored has) ∙ (open_one shows under.0 under.1 under.2).given in
            and_left (is_committed (status row.deleter)) (had_ended o.snapshot row.deleter) (ap is_committed begun)
      ];
    }

-- other statuses by which the same have committed, of those that the snapshot has
module _ (o : Open) (old new : ℕ → Status) (same : (u : ℕ) → had_ended o.snapshot u ≡ true → is_committed (new u) ≡ is_committed (old u)) where
  same_in_snapshot : (u : ℕ) (ended : Bool) → had_ended o.snapshot u ≡ ended → in_snapshot o.snapshot u (new u) ≡ in_snapshot o.snapshot u (old u)
  same_in_snapshot u true is = ap (λ b. b && had_ended o.snapshot u) (same u is)
  same_in_snapshot u false is = and_right (is_committed (new u)) (had_ended o.snapshot u) is ∙ sym (and_right (is_committed (old u)) (had_ended o.snapshot u) is)

  same_seen : (u : ℕ) → in_snapshot o.snapshot u (new u) ≡ in_snapshot o.snapshot u (old u)
  same_seen u = same_in_snapshot u (had_ended o.snapshot u) refl

  pub put_still : (u : ℕ) → has_done o.snapshot o.t u (old u) ≡ true → has_done o.snapshot o.t u (new u) ≡ true
  put_still u done = ap (λ b. eqb u o.t || b) (same_seen u) ∙ done

  pub undeleted_still : (u : ℕ) → in_snapshot o.snapshot u (old u) ≡ false → in_snapshot o.snapshot u (new u) ≡ false
  undeleted_still u is = same_seen u ∙ is

pub saw_rows_at_begin : SawRowsAtBegin
saw_rows_at_begin layout pages t s stored o sees blocks shows has below saw x row there sees_it =
    let before = saw x row there sees_it in
    let old : ℕ → Status = given_status t.tx.first stored in
    let new : ℕ → Status = given_status t.tx.first (set stored t.tx.next Begun) in
    let same = λ (u : ℕ) (had : had_ended o.snapshot u ≡ true). begin_unseen layout pages t s stored u shows has below in
    record { put = put_still o old new same row.id.t before.put; undeleted = undeleted_still o old new same row.deleter before.undeleted }

pub saw_rows_at_end : SawRowsAtEnd
saw_rows_at_end layout pages t s stored session other ending o end sees blocks shows was was_o apart saw x row there sees_it =
    let before = saw x row there sees_it in
    let old : ℕ → Status = given_status t.tx.first stored in
    let new : ℕ → Status = given_status t.tx.first (set stored ending.t end) in
    let same = λ (u : ℕ) (had : had_ended o.snapshot u ≡ true). end_unseen shows session other ending o was was_o apart stored u end had in
    record { put = put_still o old new same row.id.t before.put; undeleted = undeleted_still o old new same row.deleter before.undeleted }
