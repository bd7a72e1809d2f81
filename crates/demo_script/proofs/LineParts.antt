-- lines that are said one after the other, whatever they are answered
use Rattle.std.proofs.Common.{◌≡◌, ℕ, zero, suc, ◌+◌, ◌<◌, ◌≤◌, List, [], ◌∷◌, ◌++◌, length, map, drop, get_or, add-one, refl, sym, ap, ◌∙◌, subst, append_assoc, zero-add, arith}
use Rattle.std.proofs.lemmas.List.{append-nil, drop_all}
use Rattle.std.proofs.Math.Seq.{drop-cons}
use Rattle.std.specs.Borrow.{Bor}
use Rattle.script_run.specs.declared.engine.AnswerFault.{AnswerFault}
use Rattle.script_run.specs.declared.engine.AnswerFault.TheVariants.{Memory}
use Rattle.demo_script.specs.declared.answer.Answer.{Answer}
use Rattle.demo_script.specs.declared.heard.Heard.{Heard}
use Rattle.demo_script.specs.Conversation.{Said, Says}
use Rattle.demo_script.specs.Saying.{Hears, IsCut, IsSaid}
use Rattle.demo_script.specs.Summary.{answer_of}
use Rattle.demo_script.proofs.Joins.{cut_at_line, cut_at_memory, cut_behind, one_said}
use Rattle.demo_script.proofs.Endings.{committed, some_lines}
use Rattle.demo_script.proofs.Progress.{SaidSoFar, said_more}

-- the bytes of the lines
abbrev pub texts_of : List (Bor (List ℕ)) → List (List ℕ)
texts_of lines = map (λ (line : Bor (List ℕ)). line.now) lines

pub next_text : (lines : List (Bor (List ℕ))) (i : ℕ) (d : Bor (List ℕ)) → i < length lines → texts_of (drop i lines) ≡ (get_or lines i d).now ∷ texts_of (drop (i + 1) lines)
next_text lines i d h = ap texts_of (drop-cons lines i d h) ∙ ap (λ (k : ℕ). (get_or lines i d).now ∷ texts_of (drop k lines)) (sym (add-one i))

pub no_text : (lines : List (Bor (List ℕ))) (i : ℕ) → length lines ≤ i → texts_of (drop i lines) ≡ []
no_text lines i h = ap texts_of (drop_all i lines h)

-- Some of these lines were said: whatever is said to those that are left, all are said behind it.
pub record LinesSoFar {S : Type 0} (R : S → List ℕ → Answer → S → Type 0) (lines : List (List ℕ)) (s t : S) (left : List (List ℕ)) (n : ℕ) : Type 0 where
  pub said : List Said
  pub far : SaidSoFar R s t n said
  pub onward : (rest : List Said) → Says left rest → Says lines (said ++ rest)

pub no_lines : {S : Type 0} (R : S → List ℕ → Answer → S → Type 0) (lines : List (List ℕ)) (s : S) → LinesSoFar R lines s s lines 0
no_lines R lines s = record {
  said = [];
  far = record { answers = refl; counted = refl };
  onward = λ rest h. h;
}

lines_of-append : (a b : List Said) → map (λ (s : Said). s.line) (a ++ b) ≡ map (λ (s : Said). s.line) a ++ map (λ (s : Said). s.line) b
lines_of-append [] b = refl
lines_of-append (one ∷ a) b = ap (λ (ls : List (List ℕ)). one.line ∷ ls) (lines_of-append a b)

pub Says-append : (l m : List (List ℕ)) (a b : List Said) → Says l a → Says m b → Says (l ++ m) (a ++ b)
Says-append l m a b h k = lines_of-append a b ∙ (λ i. h i ++ k i)

module _ {S : Type 0} {R : S → List ℕ → Answer → S → Type 0} {lines : List (List ℕ)} {s t : S} {left : List (List ℕ)} {m : ℕ} (far : LinesSoFar R lines s t left m) where
  -- a part of the lines that are left, and those behind it
  next_lines : (part left' : List (List ℕ)) → left ≡ part ++ left' → (one : List Said) → Says part one → (rest : List Said) → Says left' rest → Says lines (far.said ++ (one ++ rest))
  next_lines part left' is one p rest h = far.onward (one ++ rest) (Says-append part left' one rest p h ∙ sym is)

  pub more_parts : {u : S} {n : ℕ} (part left' : List (List ℕ)) → left ≡ part ++ left' → IsSaid R (Says part) t u n → LinesSoFar R lines s u left' (m + n)
  more_parts part left' is one = record {
    said = far.said ++ one.said;
    far = said_more far.far one;
    onward = λ rest h. subst (Says lines) (sym (append_assoc far.said one.said rest)) (next_lines part left' is one.said one.part rest h);
  }

  pub more_lines : {u : S} (line : List ℕ) (left' : List (List ℕ)) → left ≡ line ∷ left' → (heard : Heard) → Hears R t line heard u → LinesSoFar R lines s u left' (m + heard.rows)
  more_lines {u} line left' is heard h = more_parts (line ∷ []) left' is (one_said R (Says (line ∷ [])) t u line heard h refl)

  pub all_lines : left ≡ [] → IsSaid R (Says lines) s t m
  all_lines is = record {
    said = far.said;
    part = subst (Says lines) (append-nil far.said) (far.onward [] (sym is));
    answers = far.far.answers;
    counted = far.far.counted;
  }

  pub cut_parts : {U : S → List ℕ → AnswerFault → S → Type 0} {s' : S} {fault : AnswerFault} (part left' : List (List ℕ)) → left ≡ part ++ left' → IsCut R U (Says part) t s' fault → IsCut R U (Says lines) s s' fault
  cut_parts part left' is cut = cut_behind (Says lines) s far.said far.far.answers ends cut
    where
      ends : (said : List Said) → Says part said → (rest : List Said) × Says lines (far.said ++ (said ++ rest))
      ends said p =
          let rest = some_lines left' in
          (rest.0, next_lines part left' is said p rest.0 rest.1)

module _ {S : Type 0} {R : S → List ℕ → Answer → S → Type 0} (U : S → List ℕ → AnswerFault → S → Type 0) {lines : List (List ℕ)} {s t : S} {left : List (List ℕ)} {m : ℕ} (far : LinesSoFar R lines s t left m) where
  pub cut_lines : (s' : S) (fault : AnswerFault) (line : List ℕ) (left' : List (List ℕ)) → left ≡ line ∷ left' → U t line fault s' → IsCut R U (Says lines) s s' fault
  cut_lines s' fault line left' is u =
      let rest = some_lines left' in
      cut_at_line R U (Says lines) s t s' fault far.said far.far.answers line (committed []).answer rest.0
      (far.onward (committed line ∷ rest.0) (ap (λ (ls : List (List ℕ)). line ∷ ls) rest.1 ∙ sym is)) u

  pub short_lines : (s' : S) (fault : AnswerFault) → fault ≡ Memory → s' ≡ t → IsCut R U (Says lines) s s' fault
  short_lines s' fault is same =
      let rest = some_lines left in
      cut_at_memory R U (Says lines) s t s' fault far.said far.far.answers rest.0 (far.onward rest.0 rest.1) is same

-- ---- which line was answered so

pub answer_of-behind : (a b : List Said) (n : ℕ) → answer_of (a ++ b) (length a + n) ≡ answer_of b n
answer_of-behind [] b n = ap (answer_of b) (zero-add n)
answer_of-behind (one ∷ a) b n =
    let next : length (one ∷ a) + n ≡ suc (length a + n) = omega arith in
    ap (answer_of (one ∷ (a ++ b))) next ∙ answer_of-behind a b n

pub answer_of-front : (a b : List Said) (n : ℕ) → n < length a → answer_of (a ++ b) n ≡ answer_of a n
answer_of-front [] b n h = absurd (omega arith)
answer_of-front (one ∷ a) b zero h = refl
answer_of-front (one ∷ a) b (suc n) h = answer_of-front a b n (omega arith)
