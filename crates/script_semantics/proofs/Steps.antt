-- what one request leaves of the numbers, of what has ended and of what is gone
use Rattle.std.proofs.Common.{◌≡◌, ℕ, ◌<◌, ◌≤◌, false, inl, inr, refl, sym, ap, subst, ◌∙◌, Option, Some, None, arith, ne_eqb}
use Rattle.std.specs.FinMap.{get, contains_key}
use Rattle.block_model.specs.declared.row.RowId.{RowId}
use Rattle.block_model.specs.declared.request.Entry.{Entry}
use Rattle.block_model.specs.declared.request.Request.TheVariants.{Begin}
use Rattle.block_model.specs.DatabaseState.{DatabaseState, OpenTransaction}
use Rattle.block_model.specs.RequestEffect.{Answer, effect_at, effect_is, effect_outside, after_request, with_transaction, without_transaction, after_begin, new_transaction}
use Rattle.block_model.specs.NumberMaps.{found_after_put, found_after_removal}
use Rattle.block_model.specs.RequestLaws.{effect_by, within_leads, outside_leads, after_merge}
use Rattle.script_semantics.specs.DeadRows.{IsOpen}
use Rattle.script_semantics.specs.GoneRows.{IsGone}
use Rattle.script_semantics.proofs.Rows.{merged_lacks}

-- The states that a request may lead to.
module _ (P : DatabaseState → Type 0) (s : DatabaseState) (e : Entry)
    (same : P s)
    (begun : P (after_begin s e.session))
    (kept : (x y : OpenTransaction) → get s.sessions e.session ≡ Some x → y.t ≡ x.t → P (with_transaction s e.session y))
    (over : P (without_transaction s e.session))
    (merges : (x : OpenTransaction) → get s.sessions e.session ≡ Some x → P (after_merge s e.session x)) where
  at_leads : (o : Option OpenTransaction) → get s.sessions e.session ≡ o → P (effect_at o s e).0
  at_leads None got = outside_leads P s e.session same begun e.request
  at_leads (Some x) got = within_leads P s e.session x same (λ y number marks. kept x y got number) (λ id y other free number marks. kept x y got number) over (λ sound. merges x got) e.table e.request e.tag

  pub request_leads : P (after_request s e)
  request_leads = subst (λ (p : DatabaseState × Answer). P p.0) (sym (effect_is s e)) (at_leads (get s.sessions e.session) refl)

-- a begin takes the next number
pub begin_is : (s : DatabaseState) (e : Entry) → get s.sessions e.session ≡ None → e.request ≡ Begin → after_request s e ≡ after_begin s e.session
begin_is s e idle begins = ap (λ (p : DatabaseState × Answer). p.0) (effect_by s e None idle ∙ ap (λ r. effect_outside s e.session r) begins)

pub record Step (s after : DatabaseState) : Type 0 where
  pub next : s.next ≤ after.next
  pub opens : (t : ℕ) → t < s.next → IsOpen after t → IsOpen s t
  pub rows : (id : RowId) → IsGone s id → contains_key after.table id ≡ false

step_put : (s : DatabaseState) (n : ℕ) (x y : OpenTransaction) → get s.sessions n ≡ Some x → y.t ≡ x.t → Step s (with_transaction s n y)
step_put s n x y got same = record {
  next = omega arith;
  opens = λ t low under_way. elim (found_after_put s.sessions n under_way.0 y under_way.1 under_way.2) [
    | inl here ↦ (n, x, got, sym same ∙ ap (λ (z : OpenTransaction). z.t) here.1 ∙ under_way.3)
    | inr there ↦ (under_way.0, under_way.1, there.1, under_way.3)
  ];
  rows = λ id gone. gone.absent;
}

step_begun : (s : DatabaseState) (n : ℕ) → Step s (after_begin s n)
step_begun s n = record {
  next = omega arith;
  opens = λ t low under_way. elim (found_after_put s.sessions n under_way.0 (new_transaction s) under_way.1 under_way.2) [
    | inl here ↦ absurd (too_low t low (ap (λ (z : OpenTransaction). z.t) here.1 ∙ under_way.3))
    | inr there ↦ (under_way.0, under_way.1, there.1, under_way.3)
  ];
  rows = λ id gone. gone.absent;
}
  where
    too_low : (t : ℕ) → t < s.next → s.next ≡ t → ⊥
    too_low t low same = omega arith

open_less : (s : DatabaseState) (n t : ℕ) → IsOpen (without_transaction s n) t → IsOpen s t
open_less s n t under_way = (under_way.0, under_way.1, (found_after_removal s.sessions n under_way.0 under_way.1 under_way.2).1, under_way.3)

step_over : (s : DatabaseState) (n : ℕ) → Step s (without_transaction s n)
step_over s n = record { next = omega arith; opens = λ t low under_way. open_less s n t under_way; rows = λ id gone. gone.absent }

step_merged : (s : DatabaseState) (n : ℕ) (x : OpenTransaction) → get s.sessions n ≡ Some x → Step s (after_merge s n x)
step_merged s n x got = record {
  next = omega arith;
  opens = λ t low under_way. open_less s n t under_way;
  rows = λ id gone. merged_lacks s.table x id (ne_eqb id.t x.t (λ own. gone.ended.1 (n, x, got, sym own))) gone.absent;
}

step_same : (s : DatabaseState) → Step s s
step_same s = record { next = omega arith; opens = λ t low under_way. under_way; rows = λ id gone. gone.absent }

pub request_step : (s : DatabaseState) (e : Entry) → Step s (after_request s e)
request_step s e = request_leads (Step s) s e (step_same s) (step_begun s e.session) (step_put s e.session) (step_over s e.session) (step_merged s e.session)
