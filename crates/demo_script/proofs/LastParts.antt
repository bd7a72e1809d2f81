-- the lines behind the last round, and the whole demo
use Rattle.std.proofs.Common.{◌≡◌, ◌⊎◌, ℕ, ◌+◌, ◌<◌, List, [], ◌∷◌, ◌++◌, length, codes, refl, sym, ap, ◌∙◌, subst, inl, inr, length-append, arith}
use Rattle.std.proofs.lemmas.List.{append-nil, length-map}
use Rattle.script_run.specs.declared.engine.AnswerFault.{AnswerFault}
use Rattle.script_run.specs.declared.engine.AnswerFault.TheVariants.{Memory}
use Rattle.demo_script.specs.declared.answer.Answer.{Answer}
use Rattle.demo_script.specs.declared.heard.Heard.{Heard}
use Rattle.demo_script.specs.Conversation.{AreRounds, IsDemo, IsDemoFront, Said, Says, keeper, last_lines, rounds_of, selects}
use Rattle.demo_script.specs.DemoLines.{middle_conditions, select_line}
use Rattle.demo_script.specs.Played.{HasPlayed, HasStopped}
use Rattle.demo_script.specs.Saying.{HasFound, HasLooked, Hears, IsCut, IsFrontOf, IsSaid}
use Rattle.demo_script.specs.Summary.{answer_of, found_rows, inserted_rows, named_blocks}
use Rattle.demo_script.proofs.Joins.{AreSaid-append, cut_behind, cut_first}
use Rattle.demo_script.proofs.Endings.{some_lines}
use Rattle.demo_script.proofs.LineParts.{LinesSoFar, Says-append, answer_of-behind, answer_of-front, no_lines}

-- what stands before the selects
abbrev pub prepares : List (List ℕ)
prepares = keeper (codes "summarize di") ∷ keeper (codes "vacuum d") ∷ codes "d0 begin" ∷ []

abbrev pub explain_line : ℕ → List ℕ
explain_line rows = codes "d0 explain d where " ++ middle_conditions rows

-- what stands behind the selects
abbrev pub ends : ℕ → List (List ℕ)
ends rows = explain_line rows ∷ codes "d0 commit" ∷ []

-- ---- the selects

module _ {S : Type 0} (R : S → List ℕ → Answer → S → Type 0) (rows : ℕ) (s : S) where
  pub none_found : LinesSoFar R (selects rows) s s (selects rows) 0
  none_found = no_lines R (selects rows) s

  pub found_all : (t u v w : S) (first second third fourth : Heard) → Hears R s (select_line (middle_conditions rows)) first t → Hears R t (select_line (codes "v = 7")) second u
      → Hears R u (select_line (codes "r @> [500,501)")) third v → Hears R v (select_line (codes "a = 10.0.0.7")) fourth w
      → HasFound R rows s w (first.found ∷ second.found ∷ third.found ∷ fourth.found ∷ [])
  found_all t u v w first second third fourth a b c d = record {
    said = record { line = select_line (middle_conditions rows); answer = a.answer } ∷ record { line = select_line (codes "v = 7"); answer = b.answer }
        ∷ record { line = select_line (codes "r @> [500,501)"); answer = c.answer } ∷ record { line = select_line (codes "a = 10.0.0.7"); answer = d.answer } ∷ [];
    are_selects = refl;
    answers = (t, a.answers, (u, b.answers, (v, c.answers, (w, d.answers, refl))));
    counted = λ i. a.tells.found i ∷ b.tells.found i ∷ c.tells.found i ∷ d.tells.found i ∷ [];
  }

-- ---- all of the last lines

pub found_said : {S : Type 0} {R : S → List ℕ → Answer → S → Type 0} {rows : ℕ} {s t : S} {found : List ℕ} → (some : HasFound R rows s t found) → IsSaid R (Says (selects rows)) s t (inserted_rows some.said)
found_said some = record { said = some.said; part = some.are_selects; answers = some.answers; counted = refl }

many_said : (lines : List (List ℕ)) (said : List Said) → Says lines said → length said ≡ length lines
many_said lines said h = sym (length-map said (λ (s : Said). s.line)) ∙ ap length h

pub looked : {S : Type 0} {R : S → List ℕ → Answer → S → Type 0} {rows : ℕ} {s t u : S} {m : ℕ} {found : List ℕ} → IsSaid R (Says prepares) s t m → HasFound R rows t u found → (v w : S) (explained ended : Heard)
    → Hears R u (explain_line rows) explained v → Hears R v (codes "d0 commit") ended w → HasLooked R rows s w found explained.read
looked {S} {R} {rows} {s} {t} {u} {m} {found} prepared some v w explained ended a b =
    let tail : List Said = record { line = explain_line rows; answer = a.answer } ∷ record { line = codes "d0 commit"; answer = b.answer } ∷ [] in
    let front : List Said = prepared.said ++ some.said in
    let three : length prepared.said ≡ 3 = many_said prepares prepared.said prepared.part in
    let four : length some.said ≡ 4 = many_said (selects rows) some.said some.are_selects in
    let seven : length front ≡ 7 = omega (arith, length-append prepared.said some.said) in
    let at = λ (n k : ℕ) (is : length prepared.said + k ≡ n) (within : n < length front).
    answer_of-front front tail n within ∙ ap (answer_of front) (sym is) ∙ answer_of-behind prepared.said some.said k in
    record {
      last = front ++ tail;
      are_last = Says-append (prepares ++ selects rows) (ends rows) front tail (Says-append prepares (selects rows) prepared.said some.said prepared.part some.are_selects) refl;
      answers = AreSaid-append R s u w front tail (AreSaid-append R s t u prepared.said some.said prepared.answers some.answers) (v, a.answers, (w, b.answers, refl));
      first = some.counted ∙ sym (λ i. found_rows (at 3 0 (omega arith) (omega arith) i) ∷ found_rows (at 4 1 (omega arith) (omega arith) i) ∷ found_rows (at 5 2 (omega arith) (omega arith) i)
          ∷ found_rows (at 6 3 (omega arith) (omega arith) i) ∷ []);
      read_blocks = let is : length front + 0 ≡ 7 = omega arith in a.tells.read ∙ ap named_blocks (sym (answer_of-behind front tail 0) ∙ ap (answer_of (front ++ tail)) is);
    }

-- ---- the whole demo

-- lines that are a whole demo
abbrev pub IsWhole : ℕ → ℕ → List Said → Type 0
IsWhole seed rows said = (rounds : List Said) × (last : List Said) × IsDemo seed rows rounds last × (said ≡ rounds ++ last)

front_of : (seed rows : ℕ) (front : List Said) → IsFrontOf (IsWhole seed rows) front → IsDemoFront seed rows front
front_of seed rows front is = record { rounds = is.1.0; last = is.1.1; rest = is.0; demo = is.1.2; is = is.1.3 }

module _ {S : Type 0} {R : S → List ℕ → Answer → S → Type 0} {seed rows : ℕ} {s s' : S} where
  stopped : {U : S → List ℕ → AnswerFault → S → Type 0} {fault : AnswerFault} → IsCut R U (IsWhole seed rows) s s' fault → HasStopped R U seed rows s s' fault
  stopped {U} {fault} cut = record {
    front = cut.front;
    is_front = front_of seed rows cut.front cut.is_front;
    state = cut.state;
    said = cut.answers;
    stops = at_end cut.stops;
  }
    where
      at_end : ((line : List ℕ) × (answer : Answer) × IsFrontOf (IsWhole seed rows) (cut.front ++ record { line = line; answer = answer } ∷ []) × U cut.state line fault s') ⊎ ((fault ≡ Memory) × (s' ≡ cut.state))
          → ((line : List ℕ) × (answer : Answer) × IsDemoFront seed rows (cut.front ++ record { line = line; answer = answer } ∷ []) × U cut.state line fault s') ⊎ ((fault ≡ Memory) × (s' ≡ cut.state))
      at_end (inl h) = inl (h.0, h.1, front_of seed rows (cut.front ++ record { line = h.0; answer = h.1 } ∷ []) h.2, h.3)
      at_end (inr h) = inr h

  pub stopped_rounds : {U : S → List ℕ → AnswerFault → S → Type 0} {fault : AnswerFault} → IsCut R U (AreRounds seed rows 0 (rounds_of rows)) s s' fault → HasStopped R U seed rows s s' fault
  stopped_rounds cut = stopped (cut_first (IsWhole seed rows) behind cut)
    where
      behind : (said : List Said) → AreRounds seed rows 0 (rounds_of rows) said → (rest : List Said) × IsWhole seed rows (said ++ rest)
      behind said p =
          let last = some_lines (last_lines rows) in
          (last.0, (said, last.0, record { are_rounds = p; are_last = last.1 }, refl))

  pub stopped_last : {U : S → List ℕ → AnswerFault → S → Type 0} {t : S} {m : ℕ} {fault : AnswerFault} → IsSaid R (AreRounds seed rows 0 (rounds_of rows)) s t m → IsCut R U (Says (last_lines rows)) t s' fault → HasStopped R U seed rows s s' fault
  stopped_last rounds cut = stopped (cut_behind (IsWhole seed rows) s rounds.said rounds.answers behind cut)
    where
      behind : (said : List Said) → Says (last_lines rows) said → (rest : List Said) × IsWhole seed rows (rounds.said ++ (said ++ rest))
      behind said p = ([], (rounds.said, said ++ [], record { are_rounds = rounds.part; are_last = subst (Says (last_lines rows)) (sym (append-nil said)) p }, refl))

  pub played : {t : S} {m : ℕ} {found : List ℕ} {read : ℕ} → IsSaid R (AreRounds seed rows 0 (rounds_of rows)) s t m → HasLooked R rows t s' found read
      → HasPlayed R seed rows s s' (record { rows = m; found = found; read = read })
  played {t} rounds looks = record {
    rounds = rounds.said;
    last = looks.last;
    demo = record { are_rounds = rounds.part; are_last = looks.are_last };
    said = AreSaid-append R s t s' rounds.said looks.last rounds.answers looks.answers;
    counted = record { rows = rounds.counted; first = looks.first; read = looks.read_blocks };
  }
