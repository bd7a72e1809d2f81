-- a run of an engine is one of the engine that it simulates
use Rattle.std.proofs.Common.{◌≡◌, ◌≢◌, ℕ, List, [], ◌∷◌, Option, Ok, Err, refl, sym, subst, ◌⊎◌, inl, inr}
use Rattle.script_run.specs.declared.engine.AnswerFault.{AnswerFault}
use Rattle.script_run.specs.declared.engine.AnswerFault.TheVariants.{Memory}
use Rattle.script_run.specs.declared.fault.RunFault.TheVariants as faults
use Rattle.script_run.specs.Answers.{AreAnswers}
use Rattle.script_run.specs.Runs.{Ran, RunEnd, Stopped, Wrote}
use Rattle.brin_app.specs.Simulations.{EndsAs, Simulates}

-- a run ends since a line isn't answered, or otherwise
pub ending : (end : RunEnd) → ((fault : AnswerFault) × (end ≡ Err (faults.Unanswered fault))) ⊎ ((fault : AnswerFault) → end ≢ Err (faults.Unanswered fault))
ending (Ok done) = inr (λ fault e. cc)
ending (Err faults.Read) = inr (λ fault e. cc)
ending (Err faults.Spent) = inr (λ fault e. cc)
ending (Err faults.Write) = inr (λ fault e. cc)
ending (Err (faults.Unanswered fault)) = inl (fault, refl)

same_fault : (a b : AnswerFault) (end : RunEnd) → end ≡ Err (faults.Unanswered a) → end ≡ Err (faults.Unanswered b) → a ≡ b
same_fault a b end e f = cc

module _ {S P : Type 0} (Shows : S → P → Type 0) (Ends : AnswerFault → S → P → Type 0) where
  ends_shown : (end : RunEnd) (s : S) (p : P) → ((fault : AnswerFault) → end ≢ Err (faults.Unanswered fault)) → Shows s p → EndsAs Shows Ends end s p
  ends_shown (Ok done) s p other shows = shows
  ends_shown (Err faults.Read) s p other shows = shows
  ends_shown (Err faults.Spent) s p other shows = shows
  ends_shown (Err faults.Write) s p other shows = shows
  ends_shown (Err (faults.Unanswered fault)) s p other shows = absurd (other fault refl)

module _ {S P : Type 0} (Shows : S → P → Type 0) (Ends : AnswerFault → S → P → Type 0) (R : S → List ℕ → List ℕ → S → Type 0) (U : S → List ℕ → AnswerFault → S → Type 0)
    (R' : P → List ℕ → List ℕ → P → Type 0) (U' : P → List ℕ → AnswerFault → P → Type 0) (sim : Simulates Shows Ends R U R' U') where
  lifted : (s t : S) (p : P) (lines texts : List (List ℕ)) → Shows s p → AreAnswers R s lines texts t → (q : P) × Shows t q × AreAnswers R' p lines texts q
  lifted s t p [] [] shows e = (p, subst (λ (u : S). Shows u p) (sym e) shows, refl)
  lifted s t p [] (text ∷ texts) shows e = absurd e
  lifted s t p (line ∷ lines) [] shows e = absurd e
  lifted s t p (line ∷ lines) (text ∷ texts) shows e =
      let one = sim.answers s e.0 p line text shows e.1 in
      let rest = lifted e.0 t one.0 lines texts one.1 e.2 in
      (rest.0, rest.1, (one.0, one.2, rest.2))

  unbegun : (s t : S) (p : P) (fault : AnswerFault) → fault ≡ Memory → t ≡ s → Shows s p → Ends fault t p
  unbegun s t p fault is same shows = subst (λ (f : AnswerFault). Ends f t p) (sym is) (subst (λ (u : S). Ends Memory u p) (sym same) (sim.unbegun s p shows))

  stopped : (s t : S) (p : P) (script : List ℕ) (left : Option (List ℕ)) (done : List (List ℕ)) (fault : AnswerFault) → Shows s p → Stopped U s t script left done fault
      → (q : P) × Ends fault t q × Stopped U' p q script left done fault
  stopped s t p script left done fault shows (inl at) =
      let one = sim.stops s t p at.line fault shows at.stops in
      (one.0, one.1, inl (record { line = at.line; first = at.first; stops = one.2 }))
  stopped s t p script left done fault shows (inr at) = (p, unbegun s t p fault at.0 at.2 shows, inr (at.0, at.1, refl))

  module _ (start after final : S) (limit : ℕ) (end : RunEnd) (left : Option (List ℕ)) (script out : List ℕ) (done texts : List (List ℕ)) (wrote : Wrote R U start after final limit end left script out done texts)
      (p f : P) (ends : Shows final f) (answers : AreAnswers R' p done texts f) where
    -- at such an end the state behind is this one
    wrote_at : (q : P) → (((fault : AnswerFault) → end ≢ Err (faults.Unanswered fault)) → q ≡ f) → ((fault : AnswerFault) → end ≡ Err (faults.Unanswered fault) → Stopped U' f q script left done fault)
        → Wrote R' U' p q f limit end left script out done texts
    wrote_at q state stops = record {
      lines = wrote.lines;
      answers = answers;
      front = wrote.front;
      state = state;
      within = wrote.within;
      whole = wrote.whole;
      faulty = wrote.faulty;
      spent = wrote.spent;
      stopped = λ fault e. (stops fault e, (wrote.stopped fault e).1);
      cut = wrote.cut;
    }

    wrote_by : ((fault : AnswerFault) × (end ≡ Err (faults.Unanswered fault))) ⊎ ((fault : AnswerFault) → end ≢ Err (faults.Unanswered fault))
        → (q : P) × EndsAs Shows Ends end after q × Wrote R' U' p q f limit end left script out done texts
    wrote_by (inl one) =
        let far = stopped final after f script left done one.0 ends (wrote.stopped one.0 one.1).0 in (
          far.0,
          subst (λ (e : RunEnd). EndsAs Shows Ends e after far.0) (sym one.1) far.1,
          wrote_at far.0 (λ other. absurd (other one.0 one.1))
              (λ fault e. subst (λ (g : AnswerFault). Stopped U' f far.0 script left done g) (same_fault one.0 fault end one.1 e) far.2),
        )
    wrote_by (inr other) = (
      f,
      ends_shown Shows Ends end after f other (subst (λ (u : S). Shows u f) (sym (wrote.state other)) ends),
      wrote_at f (λ _. refl) (λ fault e. absurd (other fault e)),
    )

  pub lifted_run : (start after : S) (p : P) (limit : ℕ) (end : RunEnd) (l l' k k' : Option (List ℕ)) → Shows start p → Ran R U start after limit end l l' k k'
      → (q : P) × EndsAs Shows Ends end after q × Ran R' U' p q limit end l l' k k'
  lifted_run start after p limit end l l' k k' shows r =
      let far = lifted start r.4 p r.2 r.3 shows r.7.answers in
      let wrote = wrote_by start after r.4 limit end l' r.0 r.1 r.2 r.3 r.7 p far.0 far.1 far.2 (ending end) in
      (wrote.0, wrote.1, (r.0, r.1, r.2, r.3, far.0, r.5, r.6, wrote.2))

-- A run has one end: where lines stop by one of several relations, one of them is that of the whole run.
module _ {S : Type 0} (R : S → List ℕ → List ℕ → S → Type 0) (U : ℕ → S → List ℕ → AnswerFault → S → Type 0) where
  abbrev ByAny : S → List ℕ → AnswerFault → S → Type 0
  ByAny a line fault b = (n : ℕ) × U n a line fault b

  one_of : (s t : S) (script : List ℕ) (left : Option (List ℕ)) (done : List (List ℕ)) (fault : AnswerFault) → Stopped ByAny s t script left done fault → (n : ℕ) × Stopped (U n) s t script left done fault
  one_of s t script left done fault (inl at) = (at.stops.0, inl (record { line = at.line; first = at.first; stops = at.stops.1 }))
  one_of s t script left done fault (inr short) = (0, inr short)

  module _ (start after final : S) (limit : ℕ) (end : RunEnd) (left : Option (List ℕ)) (script out : List ℕ) (done texts : List (List ℕ)) (wrote : Wrote R ByAny start after final limit end left script out done texts) where
    wrote_one : (n : ℕ) → ((fault : AnswerFault) → end ≡ Err (faults.Unanswered fault) → Stopped (U n) final after script left done fault) → Wrote R (U n) start after final limit end left script out done texts
    wrote_one n stops = record {
      lines = wrote.lines;
      answers = wrote.answers;
      front = wrote.front;
      state = wrote.state;
      within = wrote.within;
      whole = wrote.whole;
      faulty = wrote.faulty;
      spent = wrote.spent;
      stopped = λ fault e. (stops fault e, (wrote.stopped fault e).1);
      cut = wrote.cut;
    }

    wrote_some : ((fault : AnswerFault) × (end ≡ Err (faults.Unanswered fault))) ⊎ ((fault : AnswerFault) → end ≢ Err (faults.Unanswered fault)) → (n : ℕ) × Wrote R (U n) start after final limit end left script out done texts
    wrote_some (inl one) =
        let far = one_of final after script left done one.0 (wrote.stopped one.0 one.1).0 in
        (far.0, wrote_one far.0 (λ fault e. subst (λ (g : AnswerFault). Stopped (U far.0) final after script left done g) (same_fault one.0 fault end one.1 e) far.1))
    wrote_some (inr other) = (0, wrote_one 0 (λ fault e. absurd (other fault e)))

  pub one_stop : (start after : S) (limit : ℕ) (end : RunEnd) (l l' k k' : Option (List ℕ)) → Ran R (λ a line fault b. (n : ℕ) × U n a line fault b) start after limit end l l' k k' → (n : ℕ) × Ran R (U n) start after limit end l l' k k'
  one_stop start after limit end l l' k k' r =
      let wrote = wrote_some start after r.4 limit end l' r.0 r.1 r.2 r.3 r.7 (ending end) in
      (wrote.0, (r.0, r.1, r.2, r.3, r.4, r.5, r.6, wrote.1))
