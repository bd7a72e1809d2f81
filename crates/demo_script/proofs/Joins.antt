-- how what was said joins, and where it stops
use Rattle.std.proofs.Common.{◌≡◌, ◌⊎◌, ℕ, ◌+◌, List, [], ◌∷◌, ◌++◌, refl, sym, ap, ◌∙◌, subst, inl, inr, append_assoc, add_assoc, zero-add, add-zero}
use Rattle.script_run.specs.declared.engine.AnswerFault.{AnswerFault}
use Rattle.script_run.specs.declared.engine.AnswerFault.TheVariants.{Memory}
use Rattle.demo_script.specs.declared.answer.Answer.{Answer}
use Rattle.demo_script.specs.declared.heard.Heard.{Heard}
use Rattle.demo_script.specs.Conversation.{Said}
use Rattle.demo_script.specs.Played.{AreSaid}
use Rattle.demo_script.specs.Saying.{Hears, IsCut, IsFrontOf, IsSaid}
use Rattle.demo_script.specs.Summary.{inserted, inserted_rows}

-- lines are said behind others
pub AreSaid-append : {S : Type 0} (R : S → List ℕ → Answer → S → Type 0) (s t u : S) (a b : List Said) → AreSaid R s a t → AreSaid R t b u → AreSaid R s (a ++ b) u
AreSaid-append R s t u [] b h k = subst (λ x. AreSaid R x b u) h k
AreSaid-append R s t u (one ∷ a) b h k = (h.0, h.1, AreSaid-append R h.0 t u a b h.2 k)

pub inserted_rows-append : (a b : List Said) → inserted_rows (a ++ b) ≡ inserted_rows a + inserted_rows b
inserted_rows-append [] b = sym (zero-add (inserted_rows b))
inserted_rows-append (s ∷ a) b =
    ap (λ n. inserted s.answer + n) (inserted_rows-append a b) ∙ sym (add_assoc (inserted s.answer) (inserted_rows a) (inserted_rows b))

-- one line was said
pub one_said : {S : Type 0} (R : S → List ℕ → Answer → S → Type 0) (P : List Said → Type 0) (s t : S) (line : List ℕ) (heard : Heard) → (h : Hears R s line heard t)
    → P (record { line = line; answer = h.answer } ∷ []) → IsSaid R P s t heard.rows
one_said R P s t line heard h p = record {
  said = record { line = line; answer = h.answer } ∷ [];
  part = p;
  answers = (t, h.answers, refl);
  counted = h.tells.rows ∙ sym (add-zero (inserted h.answer));
}

-- one part was said, and then another
pub both_said : {S : Type 0} {R : S → List ℕ → Answer → S → Type 0} {P Q : List Said → Type 0} {s t u : S} {m n : ℕ} (W : List Said → Type 0) → ((a b : List Said) → P a → Q b → W (a ++ b))
    → IsSaid R P s t m → IsSaid R Q t u n → IsSaid R W s u (m + n)
both_said {S} {R} {P} {Q} {s} {t} {u} {m} {n} W make a b = record {
  said = a.said ++ b.said;
  part = make a.said b.said a.part b.part;
  answers = AreSaid-append R s t u a.said b.said a.answers b.answers;
  counted = ap (λ x. x + n) a.counted ∙ ap (λ x. inserted_rows a.said + x) b.counted ∙ sym (inserted_rows-append a.said b.said);
}

-- behind these lines, one of the part wasn't answered
pub cut_at_line : {S : Type 0} (R : S → List ℕ → Answer → S → Type 0) (U : S → List ℕ → AnswerFault → S → Type 0) (P : List Said → Type 0) (s t s' : S) (fault : AnswerFault) (front : List Said) → AreSaid R s front t
    → (line : List ℕ) (answer : Answer) (rest : List Said) → P (front ++ record { line = line; answer = answer } ∷ rest) → U t line fault s' → IsCut R U P s s' fault
cut_at_line R U P s t s' fault front said line answer rest p u = record {
  front = front;
  is_front = (record { line = line; answer = answer } ∷ rest, p);
  state = t;
  answers = said;
  stops = inl (line, answer, (rest, subst P (sym (append_assoc front (record { line = line; answer = answer } ∷ []) rest)) p), u);
}

-- behind these lines memory was short
pub cut_at_memory : {S : Type 0} (R : S → List ℕ → Answer → S → Type 0) (U : S → List ℕ → AnswerFault → S → Type 0) (P : List Said → Type 0) (s t s' : S) (fault : AnswerFault) (front : List Said) → AreSaid R s front t
    → (rest : List Said) → P (front ++ rest) → fault ≡ Memory → s' ≡ t → IsCut R U P s s' fault
cut_at_memory R U P s t s' fault front said rest p is same = record {
  front = front;
  is_front = (rest, p);
  state = t;
  answers = said;
  stops = inr (is, same);
}

-- behind these lines a part of it was cut, which can be completed however it goes on
pub cut_behind : {S : Type 0} {R : S → List ℕ → Answer → S → Type 0} {U : S → List ℕ → AnswerFault → S → Type 0} {P : List Said → Type 0} {t s' : S} {fault : AnswerFault} (Q : List Said → Type 0) (s : S) (before : List Said)
    → AreSaid R s before t → ((said : List Said) → P said → (rest : List Said) × Q (before ++ (said ++ rest))) → IsCut R U P t s' fault → IsCut R U Q s s' fault
cut_behind {S} {R} {U} {P} {t} {s'} {fault} Q s before said ends cut = record {
  front = before ++ cut.front;
  is_front = further cut.front cut.is_front;
  state = cut.state;
  answers = AreSaid-append R s t cut.state before cut.front said cut.answers;
  stops = stops cut.stops;
}
  where
    further : (front : List Said) → IsFrontOf P front → IsFrontOf Q (before ++ front)
    further front is =
        let more = ends (front ++ is.0) is.1 in
        let joined : before ++ ((front ++ is.0) ++ more.0) ≡ (before ++ front) ++ (is.0 ++ more.0) = simp append_assoc in
        (is.0 ++ more.0, subst Q joined more.1)

    stops : ((line : List ℕ) × (answer : Answer) × IsFrontOf P (cut.front ++ record { line = line; answer = answer } ∷ []) × U cut.state line fault s') ⊎ ((fault ≡ Memory) × (s' ≡ cut.state))
        → ((line : List ℕ) × (answer : Answer) × IsFrontOf Q ((before ++ cut.front) ++ record { line = line; answer = answer } ∷ []) × U cut.state line fault s') ⊎ ((fault ≡ Memory) × (s' ≡ cut.state))
    stops (inl h) =
        let one : List Said = record { line = h.0; answer = h.1 } ∷ [] in
        inl (h.0, h.1, subst (IsFrontOf Q) (sym (append_assoc before cut.front one)) (further (cut.front ++ one) h.2), h.3)
    stops (inr h) = inr h

-- the first of its parts was cut
pub cut_first : {S : Type 0} {R : S → List ℕ → Answer → S → Type 0} {U : S → List ℕ → AnswerFault → S → Type 0} {P : List Said → Type 0} {s s' : S} {fault : AnswerFault} (Q : List Said → Type 0)
    → ((said : List Said) → P said → (rest : List Said) × Q (said ++ rest)) → IsCut R U P s s' fault → IsCut R U Q s s' fault
cut_first {s} Q ends cut = cut_behind Q s [] refl ends cut
