-- how far the rows of a round, the rounds, and some lines have come
use Rattle.std.proofs.Common.{◌≡◌, ℕ, suc, ◌+◌, Bool, List, [], ◌++◌, refl, sym, ap, ◌∙◌, subst, append_assoc, add-one}
use Rattle.std.proofs.lemmas.List.{append-nil}
use Rattle.script_run.specs.declared.engine.AnswerFault.{AnswerFault}
use Rattle.demo_script.specs.declared.answer.Answer.{Answer}
use Rattle.demo_script.specs.Conversation.{AreRounds, AreRows, IsRound, IsRow, Said}
use Rattle.demo_script.specs.Played.{AreSaid}
use Rattle.demo_script.specs.Saying.{IsCut, IsSaid, LeavesKeeper}
use Rattle.demo_script.specs.Summary.{inserted_rows}
use Rattle.demo_script.proofs.Joins.{AreSaid-append, cut_behind, inserted_rows-append}
use Rattle.demo_script.proofs.Endings.{some_rounds, some_rows}

-- these lines were said, and so many rows inserted
pub record SaidSoFar {S : Type 0} (R : S → List ℕ → Answer → S → Type 0) (s t : S) (n : ℕ) (said : List Said) : Type 0 where
  pub answers : AreSaid R s said t
  pub counted : n ≡ inserted_rows said

pub said_more : {S : Type 0} {R : S → List ℕ → Answer → S → Type 0} {P : List Said → Type 0} {s t u : S} {m n : ℕ} {before : List Said} → SaidSoFar R s t m before → (part : IsSaid R P t u n)
    → SaidSoFar R s u (m + n) (before ++ part.said)
said_more {S} {R} {P} {s} {t} {u} {m} {n} {before} far part = record {
  answers = AreSaid-append R s t u before part.said far.answers part.answers;
  counted = ap (λ x. x + n) far.counted ∙ ap (λ x. inserted_rows before + x) part.counted ∙ sym (inserted_rows-append before part.said);
}

-- ---- rows

-- Some rows were said: whatever are the rows that are left, they make all rows behind them.
pub record RowsSoFar {S : Type 0} (R : S → List ℕ → Answer → S → Type 0) (seed first count : ℕ) (busy : Bool) (s t : S) (row left : ℕ) (now : Bool) (n : ℕ) : Type 0 where
  pub said : List Said
  pub far : SaidSoFar R s t n said
  pub onward : (rest : List Said) (end : Bool) → AreRows seed row left now rest end → AreRows seed first count busy (said ++ rest) end

pub no_rows : {S : Type 0} (R : S → List ℕ → Answer → S → Type 0) (seed first count : ℕ) (busy : Bool) (s : S) (left : ℕ) → left ≡ count → RowsSoFar R seed first count busy s s first left busy 0
no_rows R seed first count busy s left is = record {
  said = [];
  far = record { answers = refl; counted = refl };
  onward = λ rest end h. subst (λ (c : ℕ). AreRows seed first c busy rest end) is h;
}

module _ {S : Type 0} {R : S → List ℕ → Answer → S → Type 0} {seed first count : ℕ} {busy : Bool} {s t : S} {row left : ℕ} {now : Bool} {m : ℕ}
    (far : RowsSoFar R seed first count busy s t row left now m) where
  -- one row, and those behind it
  next_rows : (left' : ℕ) → left ≡ suc left' → (one : List Said) (between : Bool) → IsRow seed row now one between → (rest : List Said) (end : Bool) → AreRows seed (suc row) left' between rest end
      → AreRows seed first count busy (far.said ++ (one ++ rest)) end
  next_rows left' is one between row_said rest end h =
      far.onward (one ++ rest) end (subst (λ (c : ℕ). AreRows seed row c now (one ++ rest) end) (sym is) (one, rest, between, row_said, h, refl))

  pub more_rows : {u : S} {n : ℕ} (left' : ℕ) → left ≡ suc left' → (between : Bool) → IsSaid R (λ (said : List Said). IsRow seed row now said between) t u n
      → RowsSoFar R seed first count busy s u (row + 1) left' between (m + n)
  more_rows left' is between one = record {
    said = far.said ++ one.said;
    far = said_more far.far one;
    onward = λ rest end h.
        subst (λ (l : List Said). AreRows seed first count busy l end) (sym (append_assoc far.said one.said rest))
        (next_rows left' is one.said between one.part rest end (subst (λ (r : ℕ). AreRows seed r left' between rest end) (add-one row) h));
  }

  pub all_rows : left ≡ 0 → IsSaid R (λ (said : List Said). AreRows seed first count busy said now) s t m
  all_rows is = record {
    said = far.said;
    part = subst (λ (l : List Said). AreRows seed first count busy l now) (append-nil far.said) (far.onward [] now (subst (λ (c : ℕ). AreRows seed row c now [] now) (sym is) (refl, refl)));
    answers = far.far.answers;
    counted = far.far.counted;
  }

  pub cut_rows : {U : S → List ℕ → AnswerFault → S → Type 0} {s' : S} {fault : AnswerFault} (left' : ℕ) → left ≡ suc left' → IsCut R U (LeavesKeeper (IsRow seed row now)) t s' fault → IsCut R U (LeavesKeeper (AreRows seed first count busy)) s s' fault
  cut_rows left' is cut = cut_behind (LeavesKeeper (AreRows seed first count busy)) s far.said far.far.answers ends cut
    where
      ends : (said : List Said) → LeavesKeeper (IsRow seed row now) said → (rest : List Said) × LeavesKeeper (AreRows seed first count busy) (far.said ++ (said ++ rest))
      ends said p =
          let rest = some_rows seed (suc row) left' p.0 in
          (rest.0, (rest.1.0, next_rows left' is said p.0 p.1 rest.0 rest.1.0 rest.1.1))

-- ---- rounds

-- Some rounds were said: whatever are the rounds that are left, they make all rounds behind them.
pub record RoundsSoFar {S : Type 0} (R : S → List ℕ → Answer → S → Type 0) (seed rows count : ℕ) (s t : S) (round left n : ℕ) : Type 0 where
  pub said : List Said
  pub far : SaidSoFar R s t n said
  pub onward : (rest : List Said) → AreRounds seed rows round left rest → AreRounds seed rows 0 count (said ++ rest)

pub no_rounds : {S : Type 0} (R : S → List ℕ → Answer → S → Type 0) (seed rows count : ℕ) (s : S) (left : ℕ) → left ≡ count → RoundsSoFar R seed rows count s s 0 left 0
no_rounds R seed rows count s left is = record {
  said = [];
  far = record { answers = refl; counted = refl };
  onward = λ rest h. subst (λ (c : ℕ). AreRounds seed rows 0 c rest) is h;
}

module _ {S : Type 0} {R : S → List ℕ → Answer → S → Type 0} {seed rows count : ℕ} {s t : S} {round left m : ℕ} (far : RoundsSoFar R seed rows count s t round left m) where
  next_rounds : (left' : ℕ) → left ≡ suc left' → (one : List Said) → IsRound seed rows round one → (rest : List Said) → AreRounds seed rows (suc round) left' rest → AreRounds seed rows 0 count (far.said ++ (one ++ rest))
  next_rounds left' is one round_said rest h = far.onward (one ++ rest) (subst (λ (c : ℕ). AreRounds seed rows round c (one ++ rest)) (sym is) (one, rest, round_said, h, refl))

  pub more_rounds : {u : S} {n : ℕ} (left' : ℕ) → left ≡ suc left' → IsSaid R (IsRound seed rows round) t u n → RoundsSoFar R seed rows count s u (round + 1) left' (m + n)
  more_rounds left' is one = record {
    said = far.said ++ one.said;
    far = said_more far.far one;
    onward = λ rest h.
        subst (AreRounds seed rows 0 count) (sym (append_assoc far.said one.said rest)) (next_rounds left' is one.said one.part rest (subst (λ (r : ℕ). AreRounds seed rows r left' rest) (add-one round) h));
  }

  pub all_rounds : left ≡ 0 → IsSaid R (AreRounds seed rows 0 count) s t m
  all_rounds is = record {
    said = far.said;
    part = subst (AreRounds seed rows 0 count) (append-nil far.said) (far.onward [] (subst (λ (c : ℕ). AreRounds seed rows round c []) (sym is) refl));
    answers = far.far.answers;
    counted = far.far.counted;
  }

  pub cut_rounds : {U : S → List ℕ → AnswerFault → S → Type 0} {s' : S} {fault : AnswerFault} (left' : ℕ) → left ≡ suc left' → IsCut R U (IsRound seed rows round) t s' fault → IsCut R U (AreRounds seed rows 0 count) s s' fault
  cut_rounds left' is cut = cut_behind (AreRounds seed rows 0 count) s far.said far.far.answers ends cut
    where
      ends : (said : List Said) → IsRound seed rows round said → (rest : List Said) × AreRounds seed rows 0 count (far.said ++ (said ++ rest))
      ends said p =
          let rest = some_rounds seed rows (suc round) left' in
          (rest.0, next_rounds left' is said p rest.0 rest.1)
