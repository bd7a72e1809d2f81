-- numbers rise over a journal, and what is gone stays so
use Rattle.std.proofs.Common.{◌≡◌, ℕ, ◌<◌, ◌≤◌, inl, inr, List, [], ◌∷◌, sym, ap, subst, ◌∙◌, Some, arith}
use Rattle.std.specs.FinMap.{get}
use Rattle.block_model.specs.declared.request.Entry.{Entry}
use Rattle.block_model.specs.DatabaseState.{DatabaseState, OpenTransaction}
use Rattle.block_model.specs.RequestEffect.{after_request, with_transaction, without_transaction, after_begin, new_transaction}
use Rattle.block_model.specs.RequestLaws.{after_merge}
use Rattle.block_model.specs.SerialRun.{serial_run}
use Rattle.block_model.specs.NumberMaps.{found_after_put, found_after_removal, none_Some}
use Rattle.script_semantics.specs.DeadRows.{HasEnded}
use Rattle.script_semantics.specs.Openings.{NoneOpen}
use Rattle.script_semantics.specs.Numbers.{AreNumbered, NumbersRise}
use Rattle.script_semantics.specs.GoneRows.{GoneRowsStayGone}
use Rattle.script_semantics.proofs.Steps.{request_leads, request_step}

pub run_next : (s : DatabaseState) (journal : List Entry) → s.next ≤ (serial_run s journal).next
run_next s [] = omega arith
run_next s (e ∷ es) = let first : s.next ≤ (after_request s e).next = (request_step s e).next in let rest = run_next (after_request s e) es in omega (arith, first, rest)

pub ended_step : (s : DatabaseState) (e : Entry) (t : ℕ) → HasEnded s t → HasEnded (after_request s e) t
ended_step s e t ended = let step = request_step s e in (omega (arith, ended.0, step.next), λ under_way. ended.1 (step.opens t ended.0 under_way))

pub run_ended : (s : DatabaseState) (journal : List Entry) (t : ℕ) → HasEnded s t → HasEnded (serial_run s journal) t
run_ended s [] t ended = ended
run_ended s (e ∷ es) t ended = run_ended (after_request s e) es t (ended_step s e t ended)

pub run_gone : GoneRowsStayGone
run_gone s [] id gone = gone
run_gone s (e ∷ es) id gone = run_gone (after_request s e) es id (record { ended = ended_step s e id.t gone.ended; absent = (request_step s e).rows id gone })

-- ---- numbers of their own

module _ (first : ℕ) where
  numbered_put : (s : DatabaseState) (n : ℕ) → AreNumbered first s → (x y : OpenTransaction) → get s.sessions n ≡ Some x → y.t ≡ x.t → AreNumbered first (with_transaction s n y)
  numbered_put s n h x y got same = record {
    since = λ m z found. elim (found_after_put s.sessions n m y z found) [ inl here ↦ subst (λ t. first ≤ t) (number z here.1) (h.since n x got) | inr there ↦ h.since m z there.1 ];
    below = λ m z found. elim (found_after_put s.sessions n m y z found) [ inl here ↦ subst (λ t. t < s.next) (number z here.1) (h.below n x got) | inr there ↦ h.below m z there.1 ];
    apart = λ m k z w found found' e. elim (found_after_put s.sessions n m y z found) [
      | inl here ↦ elim (found_after_put s.sessions n k y w found') [
        | inl here' ↦ here.0 ∙ sym here'.0
        | inr there' ↦ here.0 ∙ h.apart n k x w got there'.1 (number z here.1 ∙ e)
      ]
      | inr there ↦ elim (found_after_put s.sessions n k y w found') [
        | inl here' ↦ h.apart m n z x there.1 got (e ∙ sym (number w here'.1)) ∙ sym here'.0
        | inr there' ↦ h.apart m k z w there.1 there'.1 e
      ]
    ];
  }
    where
      number : (z : OpenTransaction) → y ≡ z → x.t ≡ z.t
      number z is = sym same ∙ ap (λ (v : OpenTransaction). v.t) is

  numbered_over : (s : DatabaseState) (n : ℕ) → AreNumbered first s → AreNumbered first (without_transaction s n)
  numbered_over s n h = record {
    since = λ m z found. h.since m z (found_after_removal s.sessions n m z found).1;
    below = λ m z found. h.below m z (found_after_removal s.sessions n m z found).1;
    apart = λ m k z w found found' e. h.apart m k z w (found_after_removal s.sessions n m z found).1 (found_after_removal s.sessions n k w found').1 e;
  }

  numbered_merged : (s : DatabaseState) (n : ℕ) → AreNumbered first s → (x : OpenTransaction) → get s.sessions n ≡ Some x → AreNumbered first (after_merge s n x)
  numbered_merged s n h x got = let less = numbered_over s n h in record { since = less.since; below = less.below; apart = less.apart }

  numbered_begun : (s : DatabaseState) (n : ℕ) → first ≤ s.next → AreNumbered first s → AreNumbered first (after_begin s n)
  numbered_begun s n low h = record {
    since = λ m z found. elim (found_after_put s.sessions n m (new_transaction s) z found) [ inl here ↦ subst (λ t. first ≤ t) (number z here.1) low | inr there ↦ h.since m z there.1 ];
    below = λ m z found. elim (found_after_put s.sessions n m (new_transaction s) z found) [
      | inl here ↦ let e = number z here.1 in omega (arith, e)
      | inr there ↦ let e = h.below m z there.1 in omega (arith, e)
    ];
    apart = λ m k z w found found' e. elim (found_after_put s.sessions n m (new_transaction s) z found) [
      | inl here ↦ elim (found_after_put s.sessions n k (new_transaction s) w found') [
        | inl here' ↦ here.0 ∙ sym here'.0
        | inr there' ↦ absurd (above w.t (h.below k w there'.1) (number z here.1 ∙ e))
      ]
      | inr there ↦ elim (found_after_put s.sessions n k (new_transaction s) w found') [
        | inl here' ↦ absurd (above z.t (h.below m z there.1) (number w here'.1 ∙ sym e))
        | inr there' ↦ h.apart m k z w there.1 there'.1 e
      ]
    ];
  }
    where
      number : (z : OpenTransaction) → new_transaction s ≡ z → s.next ≡ z.t
      number z is = ap (λ (v : OpenTransaction). v.t) is

      above : (t : ℕ) → t < s.next → s.next ≡ t → ⊥
      above t low same = omega arith

  numbered_step : (s : DatabaseState) (e : Entry) → first ≤ s.next → AreNumbered first s → AreNumbered first (after_request s e)
  numbered_step s e low h = request_leads (AreNumbered first) s e h (numbered_begun s e.session low h) (numbered_put s e.session h) (numbered_over s e.session h) (numbered_merged s e.session h)

  run_numbered : (s : DatabaseState) (journal : List Entry) → first ≤ s.next → AreNumbered first s → AreNumbered first (serial_run s journal)
  run_numbered s [] low h = h
  run_numbered s (e ∷ es) low h = let first_step : s.next ≤ (after_request s e).next = (request_step s e).next in
      run_numbered (after_request s e) es (omega (arith, low, first_step)) (numbered_step s e low h)

pub numbered_after : (o : DatabaseState) (journal : List Entry) → NoneOpen o → AreNumbered o.next (serial_run o journal)
numbered_after o journal none =
    let nobody = λ (n : ℕ) (x : OpenTransaction) (found : get o.sessions n ≡ Some x). none_Some x (sym (none n) ∙ found) in
    run_numbered o.next o journal (omega arith) (record {
      since = λ n x found. absurd (nobody n x found);
      below = λ n x found. absurd (nobody n x found);
      apart = λ n m x y found found' same. absurd (nobody n x found);
    })

pub numbers_rise : NumbersRise
numbers_rise = record { next = run_next; ended = run_ended; numbered = numbered_after }
