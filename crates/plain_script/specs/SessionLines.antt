-- The lines of each session: their numbers in the script, and that all sessions' lines are all lines.
use Rattle.std.specs.Prelude.{◌≡◌, ℕ, zero, suc, ◌+◌, ◌<◌, ◌≤◌, ◌==◌, Bool, true, false, List, [], ◌∷◌, All, filter, length, take, slice_get, Some, refl, if◌then◌else◌}
use Rattle.std.proofs.Common.{◌⊎◌, inl, inr, cond, eqb, sym, ap, ◌∙◌, subst, arith}
use Rattle.std.proofs.lemmas.Bool.{cases_eq, cases_lt, eq-eqb, ne_eqb, eqb-true}
use Rattle.transcripts.specs.Transcript.{Line, lines_of}

-- the numbers of the session's lines, where the first line has that number
abbrev pub numbers_from : ℕ → ℕ → List Line → List ℕ
numbers_from number session [] = []
numbers_from number session (line ∷ lines) = if line.session == session then number ∷ numbers_from (number + 1) session lines else numbers_from (number + 1) session lines

-- the numbers of a session's lines, in their order
abbrev pub numbers_of : ℕ → List Line → List ℕ
numbers_of session lines = numbers_from 0 session lines

-- the sum of what the numbers below one have
abbrev pub sum_below : ℕ → (ℕ → ℕ) → ℕ
sum_below zero count = 0
sum_below (suc n) count = sum_below n count + count n

-- one where it holds
abbrev pub one_if : Bool → ℕ
one_if true = 1
one_if false = 0

-- ---- the numbers of a session's lines

-- there are as many as lines
pub length-numbers_from : (number session : ℕ) (lines : List Line) → length (numbers_from number session lines) ≡ length (lines_of session lines)
length-numbers_from number session [] = refl
length-numbers_from number session (line ∷ lines) = at (line.session == session) (length-numbers_from (number + 1) session lines)
  where
    at : (b : Bool) → length (numbers_from (number + 1) session lines) ≡ length (lines_of session lines)
        → length (cond b (number ∷ numbers_from (number + 1) session lines) (numbers_from (number + 1) session lines)) ≡ length (cond b (line ∷ lines_of session lines) (lines_of session lines))
    at true e = ap suc e
    at false e = e

-- a line of the session has that number, and so many of its lines stand before it
pub record IsNumberOf (session : ℕ) (lines : List Line) (number rank : ℕ) : Type 0 where
  pub line : Line
  pub is : slice_get lines number ≡ Some line
  pub of : line.session ≡ session
  pub behind : length (lines_of session (take number lines)) ≡ rank

-- the same of a number that counts on from one
record IsNumberFrom (first session : ℕ) (lines : List Line) (number rank : ℕ) : Type 0 where
  at : ℕ
  sum : number ≡ first + at
  is : IsNumberOf session lines at rank

number_next : (first session : ℕ) (line : Line) (lines : List Line) (number rank more : ℕ) → one_if (line.session == session) ≡ more → IsNumberFrom (first + 1) session lines number rank
    → IsNumberFrom first session (line ∷ lines) number (more + rank)
number_next first session line lines number rank more b n = record {
  at = suc n.at;
  sum = omega (arith, n.sum);
  is = record {
    line = n.is.line;
    is = n.is.is;
    of = n.is.of;
    behind = counted (line.session == session) ∙ (λ i. b i + n.is.behind i);
  };
}
  where
    counted : (c : Bool) → length (cond c (line ∷ lines_of session (take n.at lines)) (lines_of session (take n.at lines))) ≡ one_if c + length (lines_of session (take n.at lines))
    counted true = omega arith
    counted false = omega arith

number_from : (first session : ℕ) (lines : List Line) (rank number : ℕ) → slice_get (numbers_from first session lines) rank ≡ Some number → IsNumberFrom first session lines number rank
number_from first session [] rank number e = absurd (cc)
number_from first session (line ∷ lines) rank number e = at (λ r f. number_from (first + 1) session lines r number f) (line.session == session) refl rank e
  where
    at : ((r : ℕ) → slice_get (numbers_from (first + 1) session lines) r ≡ Some number → IsNumberFrom (first + 1) session lines number r) → (b : Bool) → (line.session == session) ≡ b → (rank : ℕ) → slice_get (cond b (first ∷ numbers_from (first + 1) session lines) (numbers_from (first + 1) session lines)) rank ≡ Some number
        → IsNumberFrom first session (line ∷ lines) number rank
    at next true is zero f = record {
      at = 0;
      sum = (let same : first ≡ number = cc in omega (arith, same));
      is = record { line = line; is = refl; of = eqb-true line.session session is; behind = refl };
    }
    at next true is (suc rank) f =
        subst (IsNumberFrom first session (line ∷ lines) number) (let same : 1 + rank ≡ suc rank = omega arith in same)
        (number_next first session line lines number rank 1 (ap (λ b. one_if b) is) (next rank f))
    at next false is rank f =
        subst (IsNumberFrom first session (line ∷ lines) number) (let same : 0 + rank ≡ rank = omega arith in same)
        (number_next first session line lines number rank 0 (ap (λ b. one_if b) is) (next rank f))

-- the numbers stand in the order of the session's lines
pub number_of_session : (session : ℕ) (lines : List Line) (rank number : ℕ) → slice_get (numbers_of session lines) rank ≡ Some number → IsNumberOf session lines number rank
number_of_session session lines rank number e =
    let n = number_from 0 session lines rank number e in
    subst (λ k. IsNumberOf session lines k rank) (let same : n.at ≡ number = omega (arith, n.sum) in same) n.is

-- ---- sums over sessions

sum_none : (n : ℕ) → sum_below n (λ k. 0) ≡ 0
sum_none zero = refl
sum_none (suc n) = omega (arith, sum_none n)

sum_added : (n : ℕ) (f g h : ℕ → ℕ) → ((k : ℕ) → h k ≡ f k + g k) → sum_below n h ≡ sum_below n f + sum_below n g
sum_added zero f g h e = omega arith
sum_added (suc n) f g h e = omega (arith, sum_added n f g h e, e n)

one_past : (n m : ℕ) → n ≤ m → sum_below n (λ k. one_if (eqb m k)) ≡ 0
one_past zero m h = refl
one_past (suc n) m h =
    let not : one_if (eqb m n) ≡ 0 = ap (λ b. one_if b) (ne_eqb m n (λ e. absurd (omega (arith, h, e)))) in
    omega (arith, one_past n m (omega (arith, h)), not)

-- below a number, but not the one before it
below_from : (m n : ℕ) → m < suc n → (m ≡ n → ⊥) → m < n
below_from m n h not = elim (cases_lt m n) [ inl below ↦ below | inr above ↦ absurd (not (let same : m ≡ n = omega (arith, h, above) in same)) ]

one_below : (n m : ℕ) → m < n → sum_below n (λ k. one_if (eqb m k)) ≡ 1
one_below zero m h = absurd (omega (arith, h))
one_below (suc n) m h = at (cases_eq m n) (one_below n m)
  where
    at : (m ≡ n) ⊎ (m ≡ n → ⊥) → (m < n → sum_below n (λ k. one_if (eqb m k)) ≡ 1) → sum_below n (λ k. one_if (eqb m k)) + one_if (eqb m n) ≡ 1
    at (inl e) further =
        let one : one_if (eqb m n) ≡ 1 = ap (λ b. one_if b) (eq-eqb m n e) in
        omega (arith, one_past n m (omega (arith, e)), one)
    at (inr not) further =
        let none : one_if (eqb m n) ≡ 0 = ap (λ b. one_if b) (ne_eqb m n not) in
        omega (arith, further (below_from m n h not), none)

-- all that have keys below a number are as many as those of each key, one key after the other
pub sum_below-counts : {A : Type 0} (key : A → ℕ) (xs : List A) (n : ℕ) → All (λ x. key x < n) xs → sum_below n (λ k. length (filter (λ x. key x == k) xs)) ≡ length xs
sum_below-counts key [] n below = sum_none n
sum_below-counts {A} key (x ∷ xs) n below =
    sum_added n (λ k. one_if (eqb (key x) k)) (λ k. length (filter (λ y. key y == k) xs)) (λ k. length (filter (λ y. key y == k) (x ∷ xs))) (λ k. one_more (eqb (key x) k) (filter (λ y. key y == k) xs))
    ∙ (λ i. one_below n (key x) (below zero x (omega arith)) i + sum_below-counts key xs n (λ k d within. below (suc k) d (omega (arith, within))) i)
    ∙ (let last : 1 + length xs ≡ suc (length xs) = omega arith in last)
  where
    one_more : (b : Bool) (ys : List A) → length (cond b (x ∷ ys) ys) ≡ one_if b + length ys
    one_more true ys = omega arith
    one_more false ys = omega arith

-- the sessions' lines are all lines
pub sum_below-numbers : (lines : List Line) (n : ℕ) → All (λ (line : Line). line.session < n) lines → sum_below n (λ k. length (numbers_of k lines)) ≡ length lines
sum_below-numbers lines n below = sum_same n (λ k. length (numbers_of k lines)) (λ k. length (lines_of k lines)) (λ k. length-numbers_from 0 k lines) ∙ sum_below-counts (λ (line : Line). line.session) lines n below
  where
    sum_same : (n : ℕ) (f g : ℕ → ℕ) → ((k : ℕ) → f k ≡ g k) → sum_below n f ≡ sum_below n g
    sum_same zero f g e = refl
    sum_same (suc n) f g e = λ i. sum_same n f g e i + e n i

sum_least : (n : ℕ) (f g : ℕ → ℕ) → ((k : ℕ) → k < n → f k ≤ g k) → sum_below n f ≤ sum_below n g
sum_least zero f g most = omega arith
sum_least (suc n) f g most = omega (arith, sum_least n f g (λ k below. most k (omega (arith, below))), most n (omega arith))

-- where no summand is greater and the sums are equal, each is
pub each_equal : (n : ℕ) (f g : ℕ → ℕ) → ((k : ℕ) → k < n → f k ≤ g k) → sum_below n f ≡ sum_below n g → (k : ℕ) → k < n → f k ≡ g k
each_equal zero f g most e k below = absurd (omega (arith, below))
each_equal (suc n) f g most e k below = at (cases_eq k n) (each_equal n f g before sums k)
  where
    before : (j : ℕ) → j < n → f j ≤ g j
    before j h = most j (omega (arith, h))

    last : f n ≡ g n
    last = omega (arith, e, sum_least n f g before, most n (omega arith))

    sums : sum_below n f ≡ sum_below n g
    sums = omega (arith, e, last)

    at : (k ≡ n) ⊎ (k ≡ n → ⊥) → (k < n → f k ≡ g k) → f k ≡ g k
    at (inl same) further = ap f same ∙ last ∙ ap g (sym same)
    at (inr not) further = further (below_from k n below not)
