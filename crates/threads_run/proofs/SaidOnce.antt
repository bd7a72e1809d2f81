-- each line stands in a transcript at most once, and where each session has as many entries as lines each stands in it
use Rattle.std.proofs.Common.{arith, ◌≡◌, ◌≢◌, ◌⊎◌, inl, inr, ℕ, zero, suc, ◌+◌, ◌<◌, ◌≤◌, Bool, true, false, cond, ◌==◌, List, [], ◌∷◌, ◌++◌, length, Some, refl, sym, ap, subst, ◌∙◌, eq-eqb, ne_eqb, nat_lt}
use Rattle.std.specs.Prelude.{filter, take, slice_get, count_by, All}
use Rattle.std.specs.List.{Contains}
use Rattle.std.proofs.lemmas.Bool.{cases_eq, eqb-true, le-ltb, lt-ltb}
use Rattle.std.proofs.lemmas.List.{take_all}
use Rattle.std.proofs.lemmas.List.Elements.{All-contains, All-head, All-nil, All-push, All-tail}
use Rattle.std.proofs.lemmas.List.Sums.{sum_by-append}
use Rattle.std.proofs.lemmas.Option.{none-some, same_Some}
use Rattle.plain_script.specs.SessionLines.{each_equal, sum_below, sum_below-counts}
use Rattle.transcripts.specs.Told.{Limits}
use Rattle.transcripts.specs.Transcript.{Empty, Further, IsNext, IsTranscript, Line, Said, entries_of, lines_of}
use Rattle.block_model.specs.DatabaseState.{DatabaseState}
use Rattle.store_layout.specs.declared.statement.Statement.{Statement}
use Rattle.threads_run.specs.Output.{AreAllSaid}

-- ---- one element more

abbrev one_if : Bool → ℕ
one_if b = cond b 1 0

with_first : {X : Type 0} (b : Bool) (x : X) (xs : List X) → length (cond b (x ∷ xs) xs) ≡ length xs + one_if b
with_first true x xs = omega arith
with_first false x xs = omega arith

with_last : {X : Type 0} (f : X → Bool) (xs : List X) (x : X) → length (filter f (xs ++ x ∷ [])) ≡ length (filter f xs) + one_if (f x)
with_last f [] x = with_first (f x) x []
with_last f (y ∷ ys) x = omega (arith, with_first (f y) y (filter f (ys ++ x ∷ [])), with_first (f y) y (filter f ys), with_last f ys x)

-- ---- how many lines of a session stand before a line

-- of two lines, the first of them that session's, the later one has more before it
more_before : (n : ℕ) (lines : List Line) (i j : ℕ) (line : Line) → slice_get lines i ≡ Some line → line.session ≡ n → i < j → length (lines_of n (take i lines)) < length (lines_of n (take j lines))
more_before n [] i j line is own l = absurd (none-some line is)
more_before n (x ∷ xs) i zero line is own l = absurd (omega arith)
more_before n (x ∷ xs) zero (suc j) line is own l =
    let passes : (x.session == n) ≡ true = eq-eqb x.session n (ap (λ (y : Line). y.session) (same_Some x line is) ∙ own) in
    omega (arith, with_first (x.session == n) x (lines_of n (take j xs)), ap one_if passes)
more_before n (x ∷ xs) (suc i) (suc j) line is own l =
    omega (arith, with_first (x.session == n) x (lines_of n (take i xs)), with_first (x.session == n) x (lines_of n (take j xs)), more_before n xs i j line is own (omega arith))

-- a line that is there is told by its number
there : (lines : List Line) (i : ℕ) → i < length lines → (line : Line) × (slice_get lines i ≡ Some line)
there [] i l = absurd (omega arith)
there (x ∷ xs) zero l = (x, refl)
there (x ∷ xs) (suc i) l = there xs i (omega arith)

-- ---- how often a line stands in a transcript

less_or_not : (a b : ℕ) → (a < b) ⊎ (b ≤ a)
less_or_not a zero = inr (omega arith)
less_or_not zero (suc b) = inl (omega arith)
less_or_not (suc a) (suc b) = elim (less_or_not a b) [
  | inl l ↦ inl (omega arith)
  | inr m ↦ inr (omega arith)
]

one_if_less : ℕ → ℕ → ℕ
one_if_less a b = one_if (nat_lt a b)

less : (a b : ℕ) → a < b → one_if_less a b ≡ 1
unfolding one_if_less
less a b l = ap one_if (lt-ltb a b l)

not_less : (a b : ℕ) → b ≤ a → one_if_less a b ≡ 0
unfolding one_if_less
not_less a b l = ap one_if (le-ltb a b l)

-- the count of an entry's line is that of a line behind one more entry
further_count : (mine : Bool) (a b c : ℕ) → (mine ≡ true → a ≢ b) → one_if_less a b ≡ c → one_if_less a (b + one_if mine) ≡ c
unfolding one_if_less
further_count true a b c apart e = elim (less_or_not a b) [
  | inl l ↦ less a (b + 1) (omega arith) ∙ sym (less a b l) ∙ e
  | inr m ↦ not_less a (b + 1) (let ne = apart refl in omega arith) ∙ sym (not_less a b m) ∙ e
]
further_count false a b c apart e = ap (λ k. one_if_less a k) (omega arith) ∙ e

-- a line that is told by its number is one of them
is_one_of : (lines : List Line) (i : ℕ) (line : Line) → slice_get lines i ≡ Some line → Contains lines line
is_one_of [] i line is = absurd (none-some line is)
is_one_of (x ∷ xs) zero line is = (0, omega arith, same_Some x line is)
is_one_of (x ∷ xs) (suc i) line is = let at = is_one_of xs i line is in (suc at.0, omega (arith, at.1), at.2)

-- no line is of a session past all
none_past : (n : ℕ) (lines : List Line) (count : ℕ) → All (λ (line : Line). line.session < count) lines → count ≤ n → length (lines_of n lines) ≡ 0
none_past n [] count within m = refl
none_past n (x ∷ xs) count within m =
    let below = All-head (λ (line : Line). line.session < count) x xs within in
    let other : (x.session == n) ≡ false = ne_eqb x.session n (λ same. absurd (omega (arith, same))) in
    omega (arith, with_first (x.session == n) x (lines_of n xs), ap one_if other, none_past n xs count (All-tail (λ (line : Line). line.session < count) x xs within) m)

module _ (limits : Limits) (names : List (List ℕ)) (lines : List Line) (opening : DatabaseState) where
  stands : (number : ℕ) (line : Line) → slice_get lines number ≡ Some line → (said : List Said) (s : DatabaseState) → IsTranscript limits names lines opening said s
      → count_by (λ (e : Said). e.line == number) said ≡ one_if_less (length (lines_of line.session (take number lines))) (length (entries_of line.session said))
  stands number line is _ _ Empty = sym (not_less (length (lines_of line.session (take number lines))) 0 (omega arith))
  stands number line is _ _ (Further said s after e statement reply before next text tells) =
      let n = line.session in
      let rank = length (lines_of n (take number lines)) in
      let had = stands number line is said s before in
      let sums : count_by (λ (x : Said). x.line == number) (said ++ e ∷ []) ≡ count_by (λ (x : Said). x.line == number) said + (0 + one_if (e.line == number)) = sum_by-append (λ (x : Said). one_if (x.line == number)) said (e ∷ []) in
      let more = with_last (λ (x : Said). x.session == n) said e in
      elim (cases_eq e.line number) [
        | inl same ↦
            let e_line : slice_get lines e.line ≡ Some line = ap (slice_get lines) same ∙ is in
            let line_is : record { session = e.session; statement = statement } ≡ line = same_Some _ line (sym next.is ∙ e_line) in
            let own : e.session ≡ n = ap (λ (x : Line). x.session) line_is in
            let at : rank ≡ length (entries_of n said) = subst (λ k. length (lines_of k (take number lines)) ≡ length (entries_of k said)) own (subst (λ k. length (lines_of e.session (take k lines)) ≡ length (entries_of e.session said)) same next.rank) in
            let none : count_by (λ (x : Said). x.line == number) said ≡ 0 = had ∙ not_less rank (length (entries_of n said)) (omega arith) in
            let one = less rank (length (entries_of n (said ++ e ∷ []))) (omega (arith, more, ap one_if (eq-eqb e.session n own))) in
            omega (arith, sums, none, one, ap one_if (eq-eqb e.line number same))
        | inr other ↦
            let kept : one_if_less rank (length (entries_of n said) + one_if (e.session == n)) ≡ count_by (λ (x : Said). x.line == number) said =
            further_count (e.session == n) rank (length (entries_of n said)) _ (λ mine. apart_from said e statement next mine other) (sym had) in
            omega (arith, sums, ap one_if (ne_eqb e.line number other), kept, ap (one_if_less rank) more)
      ]
    where
      apart_from : (said : List Said) (e : Said) (statement : Statement) → IsNext lines said e.session e.line statement → (e.session == line.session) ≡ true → e.line ≢ number
          → length (lines_of line.session (take number lines)) ≢ length (entries_of line.session said)
      apart_from said e statement next mine other = λ same.
          let own : e.session ≡ line.session = eqb-true e.session line.session mine in
          let at : length (lines_of line.session (take e.line lines)) ≡ length (entries_of line.session said) = subst (λ k. length (lines_of k (take e.line lines)) ≡ length (entries_of k said)) own next.rank in
          elim (less_or_not e.line number) [
            | inl l ↦ let more = more_before line.session lines e.line number (record { session = e.session; statement = statement }) next.is own l in absurd (omega arith)
            | inr m ↦ let more = more_before line.session lines number e.line line is refl (omega arith) in absurd (omega arith)
          ]

  pub all_said_once : (s : DatabaseState) (said : List Said) → IsTranscript limits names lines opening said s → ((n : ℕ) → length (lines_of n lines) ≤ length (entries_of n said)) → AreAllSaid lines said
  all_said_once s said right all number l =
      let t = there lines number l in
      let n = t.0.session in
      stands number t.0 t.1 said s right
      ∙ less _ _ (let more = more_before n lines number (length lines) t.0 t.1 refl l in
      omega (arith, more, ap (λ (ls : List Line). length (lines_of n ls)) (take_all (length lines) lines (omega arith)), all n))

  -- ---- as many entries as lines

  said_within : (count : ℕ) → All (λ (line : Line). line.session < count) lines → (said : List Said) (s : DatabaseState) → IsTranscript limits names lines opening said s → All (λ (e : Said). e.session < count) said
  said_within count within _ _ Empty = All-nil (λ (e : Said). e.session < count)
  said_within count within _ _ (Further said s after e statement reply before next text tells) =
      All-push (λ (e : Said). e.session < count) said e (said_within count within said s before)
      (All-contains (λ (line : Line). line.session < count) lines (record { session = e.session; statement = statement }) within (is_one_of lines e.line _ next.is))

  -- where there are as many entries as lines, and no session has more, each line stands in the transcript once
  pub all_said : (s : DatabaseState) (said : List Said) → IsTranscript limits names lines opening said s → (count : ℕ) → ((n : ℕ) → length (entries_of n said) ≤ length (lines_of n lines))
      → All (λ (line : Line). line.session < count) lines → length said ≡ length lines → AreAllSaid lines said
  all_said s said right count once within long = all_said_once s said right each
    where
      sums : sum_below count (λ n. length (entries_of n said)) ≡ sum_below count (λ n. length (lines_of n lines))
      sums = sum_below-counts (λ (e : Said). e.session) said count (said_within count within said s right) ∙ long ∙ sym (sum_below-counts (λ (line : Line). line.session) lines count within)

      each : (n : ℕ) → length (lines_of n lines) ≤ length (entries_of n said)
      each n = elim (less_or_not n count) [
        | inl l ↦ let same = each_equal count (λ n. length (entries_of n said)) (λ n. length (lines_of n lines)) (λ k _. once k) sums n l in omega (arith, same)
        | inr m ↦ let none = none_past n lines count within m in omega (arith, none)
      ]
