-- one row, part by part
use Rattle.std.proofs.Common.{◌≡◌, ℕ, ◌+◌, Bool, true, false, not, List, [], ◌∷◌, ◌++◌, codes, refl, sym, ◌∙◌, subst, inl, inr, arith}
use Rattle.std.proofs.lemmas.List.{append-nil}
use Rattle.std.proofs.lemmas.Bool.{false≢true, not-false, not-true}
use Rattle.script_run.specs.declared.engine.AnswerFault.{AnswerFault}
use Rattle.script_run.specs.declared.engine.AnswerFault.TheVariants.{Memory}
use Rattle.demo_script.specs.declared.answer.Answer.{Answer}
use Rattle.demo_script.specs.declared.heard.Heard.{Heard}
use Rattle.demo_script.specs.Conversation.{IsRow, Puts, Said, StepsOn, has_hand, is_blocked, keeper}
use Rattle.demo_script.specs.DemoLines.{insert_line, line, session_of}
use Rattle.demo_script.specs.Played.{AreSaid}
use Rattle.demo_script.specs.Saying.{Hears, IsCut, IsSaid, LeavesKeeper}
use Rattle.demo_script.proofs.Joins.{both_said, cut_at_line, cut_at_memory, cut_behind, cut_first, one_said}
use Rattle.demo_script.proofs.Endings.{committed, some_put, some_step}

-- ---- the keeper's step

pub idle_step : {S : Type 0} (R : S → List ℕ → Answer → S → Type 0) (s : S) → IsSaid R (λ (said : List Said). StepsOn false said false) s s 0
idle_step R s = record { said = []; part = (refl, refl); answers = refl; counted = refl }

pub busy_step : {S : Type 0} (R : S → List ℕ → Answer → S → Type 0) (busy : Bool) (s t : S) (heard : Heard) → busy ≡ true → Hears R s (keeper (codes "step")) heard t
    → IsSaid R (λ (said : List Said). StepsOn busy said heard.busy) s t heard.rows
busy_step R false s t heard e h = absurd (false≢true e)
busy_step R true s t heard e h = one_said R (λ (said : List Said). StepsOn true said heard.busy) s t (keeper (codes "step")) heard h (h.answer, refl, h.tells.busy)

pub cut_step : {S : Type 0} (R : S → List ℕ → Answer → S → Type 0) (U : S → List ℕ → AnswerFault → S → Type 0) (busy : Bool) (s s' : S) (fault : AnswerFault) → busy ≡ true → U s (keeper (codes "step")) fault s'
    → IsCut R U (LeavesKeeper (StepsOn busy)) s s' fault
cut_step R U false s s' fault e u = absurd (false≢true e)
cut_step R U true s s' fault e u =
    let some = some_step true in
    cut_at_line R U (LeavesKeeper (StepsOn true)) s s s' fault [] refl (keeper (codes "step")) (committed []).answer [] some.1 u

-- ---- the insert

module _ {S : Type 0} (R : S → List ℕ → Answer → S → Type 0) (U : S → List ℕ → AnswerFault → S → Type 0) (seed row : ℕ) (busy : Bool) (s : S) where
  -- three lines, where the insert is blocked
  abbrev three : Answer → Answer → Answer → List Said
  three first kept own =
      record { line = insert_line seed row; answer = first } ∷ record { line = keeper (codes "finish"); answer = kept }
      ∷ record { line = line (session_of row) (codes "finish"); answer = own } ∷ []

  puts_three : (first kept own : Answer) → is_blocked first ≡ true → LeavesKeeper (Puts seed row busy) (three first kept own)
  puts_three first kept own blocked = (has_hand kept, inr (record { first = first; kept = kept; own = own; blocked = blocked; is = refl; busy = refl }))

  pub short_insert : (s' : S) (fault : AnswerFault) → fault ≡ Memory → s' ≡ s → IsCut R U (LeavesKeeper (Puts seed row busy)) s s' fault
  short_insert s' fault is same =
      let some = some_put seed row busy in
      cut_at_memory R U (LeavesKeeper (Puts seed row busy)) s s s' fault [] refl some.0 some.1 is same

  pub cut_insert : (s' : S) (fault : AnswerFault) → U s (insert_line seed row) fault s' → IsCut R U (LeavesKeeper (Puts seed row busy)) s s' fault
  cut_insert s' fault u =
      let some = some_put seed row busy in
      cut_at_line R U (LeavesKeeper (Puts seed row busy)) s s s' fault [] refl (insert_line seed row) (committed []).answer [] some.1 u

  pub said_insert : (t : S) (heard : Heard) → not heard.blocked ≡ true → Hears R s (insert_line seed row) heard t → IsSaid R (λ (said : List Said). Puts seed row busy said busy) s t heard.rows
  said_insert t heard unblocked h =
      one_said R (λ (said : List Said). Puts seed row busy said busy) s t (insert_line seed row) heard h (inl (h.answer, sym h.tells.blocked ∙ not-true heard.blocked unblocked, refl, refl))

  -- behind an insert that is blocked
  module _ (t : S) (first : Heard) (is_so : not first.blocked ≡ false) (h : Hears R s (insert_line seed row) first t) where
    asked : AreSaid R s (record { line = insert_line seed row; answer = h.answer } ∷ []) t
    asked = (t, h.answers, refl)

    blocked : is_blocked h.answer ≡ true
    blocked = sym h.tells.blocked ∙ not-false first.blocked is_so

    pub cut_keeper : (s' : S) (fault : AnswerFault) → U t (keeper (codes "finish")) fault s' → IsCut R U (LeavesKeeper (Puts seed row busy)) s s' fault
    cut_keeper s' fault u =
        let any = (committed []).answer in
        cut_at_line R U (LeavesKeeper (Puts seed row busy)) s t s' fault (record { line = insert_line seed row; answer = h.answer } ∷ []) asked (keeper (codes "finish")) any
        (record { line = line (session_of row) (codes "finish"); answer = any } ∷ []) (puts_three h.answer any any blocked) u

    module _ (v : S) (kept : Heard) (k : Hears R t (keeper (codes "finish")) kept v) where
      both : AreSaid R s (record { line = insert_line seed row; answer = h.answer } ∷ record { line = keeper (codes "finish"); answer = k.answer } ∷ []) v
      both = (t, h.answers, (v, k.answers, refl))

      pub short_finish : (s' : S) (fault : AnswerFault) → fault ≡ Memory → s' ≡ v → IsCut R U (LeavesKeeper (Puts seed row busy)) s s' fault
      short_finish s' fault is_memory same =
          let any = (committed []).answer in
          cut_at_memory R U (LeavesKeeper (Puts seed row busy)) s v s' fault (record { line = insert_line seed row; answer = h.answer } ∷ record { line = keeper (codes "finish"); answer = k.answer } ∷ []) both
          (record { line = line (session_of row) (codes "finish"); answer = any } ∷ []) (puts_three h.answer k.answer any blocked) is_memory same

      pub cut_finish : (s' : S) (fault : AnswerFault) → U v (line (session_of row) (codes "finish")) fault s' → IsCut R U (LeavesKeeper (Puts seed row busy)) s s' fault
      cut_finish s' fault u =
          let any = (committed []).answer in
          cut_at_line R U (LeavesKeeper (Puts seed row busy)) s v s' fault (record { line = insert_line seed row; answer = h.answer } ∷ record { line = keeper (codes "finish"); answer = k.answer } ∷ []) both
          (line (session_of row) (codes "finish")) any [] (puts_three h.answer k.answer any blocked) u

      pub said_blocked : (w : S) (own : Heard) → Hears R v (line (session_of row) (codes "finish")) own w
          → IsSaid R (λ (said : List Said). Puts seed row busy said kept.busy) s w (first.rows + kept.rows + own.rows)
      said_blocked w own o = record {
        said = three h.answer k.answer o.answer;
        part = inr (record { first = h.answer; kept = k.answer; own = o.answer; blocked = blocked; is = refl; busy = k.tells.busy });
        answers = (t, h.answers, (v, k.answers, (w, o.answers, refl)));
        counted = omega (arith, h.tells.rows, k.tells.rows, o.tells.rows);
      }

-- ---- the row

row_of : (seed row : ℕ) (busy : Bool) (put stepped : List Said) (between end : Bool) → Puts seed row busy put between → StepsOn between stepped end → IsRow seed row busy (put ++ stepped) end
row_of seed row busy put stepped between end puts steps = record { put = put; stepped = stepped; between = between; puts = puts; steps = steps; is = refl }

module _ {S : Type 0} {R : S → List ℕ → Answer → S → Type 0} {seed row : ℕ} {busy : Bool} {s : S} where
  pub said_row : {t u : S} {m n : ℕ} (between end : Bool) → IsSaid R (λ (said : List Said). Puts seed row busy said between) s t m → IsSaid R (λ (said : List Said). StepsOn between said end) t u n
      → IsSaid R (λ (said : List Said). IsRow seed row busy said end) s u (m + n)
  said_row between end put stepped = both_said (λ (said : List Said). IsRow seed row busy said end) (λ a b p q. row_of seed row busy a b between end p q) put stepped

  pub cut_put : {U : S → List ℕ → AnswerFault → S → Type 0} {s' : S} {fault : AnswerFault} → IsCut R U (LeavesKeeper (Puts seed row busy)) s s' fault → IsCut R U (LeavesKeeper (IsRow seed row busy)) s s' fault
  cut_put cut = cut_first (LeavesKeeper (IsRow seed row busy)) ends cut
    where
      ends : (said : List Said) → LeavesKeeper (Puts seed row busy) said → (rest : List Said) × LeavesKeeper (IsRow seed row busy) (said ++ rest)
      ends said p =
          let step = some_step p.0 in
          (step.0, (step.1.0, row_of seed row busy said step.0 p.0 step.1.0 p.1 step.1.1))

  pub cut_stepped : {U : S → List ℕ → AnswerFault → S → Type 0} {t s' : S} {fault : AnswerFault} {m : ℕ} (between : Bool) → IsSaid R (λ (said : List Said). Puts seed row busy said between) s t m
      → IsCut R U (LeavesKeeper (StepsOn between)) t s' fault → IsCut R U (LeavesKeeper (IsRow seed row busy)) s s' fault
  cut_stepped between put cut = cut_behind (LeavesKeeper (IsRow seed row busy)) s put.said put.answers ends cut
    where
      ends : (said : List Said) → LeavesKeeper (StepsOn between) said → (rest : List Said) × LeavesKeeper (IsRow seed row busy) (put.said ++ (said ++ rest))
      ends said p = ([], (p.0, row_of seed row busy put.said (said ++ []) between p.0 put.part (subst (λ (l : List Said). StepsOn between l p.0) (sym (append-nil said)) p.1)))
