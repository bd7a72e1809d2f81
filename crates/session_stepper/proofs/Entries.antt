-- entries, lines in hand and statements that are held, one session at a time
use Rattle.std.proofs.Common.{◌≡◌, ◌≢◌, inl, inr, ℕ, zero, suc, ◌+◌, ◌<◌, Bool, true, false, cond, ◌==◌, List, [], ◌∷◌, ◌++◌, length, Some, refl, sym, ap, ◌∙◌, subst, arith, eq-eqb, ne_eqb, add-one}
use Rattle.std.proofs.lemmas.Bool.{cases_eq}
use Rattle.std.proofs.lemmas.List.{get_or-set_same, get_or-set_other, length-set}
use Rattle.std.proofs.lemmas.Option.{none-some}
use Rattle.std.specs.Prelude.{filter, take, slice_get, slice_index_or, slice_set, Option, None}
use Rattle.store_layout.specs.declared.statement.Statement.{Statement}
use Rattle.transcripts.specs.Transcript.{IsNext, Line, Said, entries_of, lines_of}
use Rattle.transcript_laws.specs.Schedule.{entry_of}
use Rattle.plain_script.specs.HeldScripts.{IsLineOf}
use Rattle.session_stepper.specs.TranscribedState.{line_at}

-- ---- one entry more

left_out : {X : Type 0} (f : X → Bool) (xs : List X) (x : X) → f x ≡ false → filter f (xs ++ x ∷ []) ≡ filter f xs
left_out f [] x fails = ap (λ b. cond b (x ∷ []) []) fails
left_out {X} f (y ∷ ys) x fails = ap (λ (l : List X). cond (f y) (y ∷ l) l) (left_out f ys x fails)

one_more : {X : Type 0} (f : X → Bool) (xs : List X) (x : X) → f x ≡ true → length (filter f (xs ++ x ∷ [])) ≡ suc (length (filter f xs))
one_more f [] x passes = ap (λ b. length (cond b (x ∷ []) [])) passes
one_more f (y ∷ ys) x passes = elim (f y) as (λ b. length (cond b (y ∷ filter f (ys ++ x ∷ [])) (filter f (ys ++ x ∷ []))) ≡ suc (length (cond b (y ∷ filter f ys) (filter f ys)))) [
  | true ↦ ap suc (one_more f ys x passes)
  | false ↦ one_more f ys x passes
]

module _ (said : List Said) (n number : ℕ) (text : List ℕ) where
  pub own_entry : length (entries_of n (said ++ entry_of n number text ∷ [])) ≡ length (entries_of n said) + 1
  own_entry = one_more (λ (e : Said). e.session == n) said (entry_of n number text) (eq-eqb n n refl) ∙ sym (add-one (length (entries_of n said)))

  pub other_entry : (m : ℕ) → m ≢ n → entries_of m (said ++ entry_of n number text ∷ []) ≡ entries_of m said
  other_entry m apart = left_out (λ (e : Said). e.session == m) said (entry_of n number text) (ne_eqb n m (λ same. apart (sym same)))

  -- what an entry of one session leaves of the others' next lines
  pub next_stays : (script : List Line) (m line : ℕ) (statement : Statement) → m ≢ n → IsNext script said m line statement → IsNext script (said ++ entry_of n number text ∷ []) m line statement
  next_stays script m line statement apart next = record { is = next.is; rank = next.rank ∙ sym (ap (length {A = Said}) (other_entry m apart)) }

-- the counts with it
pub counted_on : (said : List Said) (n number : ℕ) (text : List ℕ) (counts : List ℕ) → n < length counts → ((m : ℕ) → m < length counts → slice_index_or counts m 0 ≡ length (entries_of m said)) → (m : ℕ)
    → m < length (slice_set counts n (slice_index_or counts n 0 + 1)) → slice_index_or (slice_set counts n (slice_index_or counts n 0 + 1)) m 0 ≡ length (entries_of m (said ++ entry_of n number text ∷ []))
counted_on said n number text counts within counted m few =
    let fewer : m < length counts = omega (arith, few, length-set counts n (slice_index_or counts n 0 + 1)) in
    elim (cases_eq m n) [
      | inl same ↦ subst (λ (k : ℕ). slice_index_or (slice_set counts n (slice_index_or counts n 0 + 1)) k 0 ≡ length (entries_of k (said ++ entry_of n number text ∷ []))) (sym same)
          (get_or-set_same counts n (slice_index_or counts n 0 + 1) 0 within ∙ ap (λ (k : ℕ). k + 1) (counted n within) ∙ sym (own_entry said n number text))
      | inr apart ↦ get_or-set_other counts n m (slice_index_or counts n 0 + 1) 0 apart ∙ counted m fewer ∙ sym (ap (length {A = Said}) (other_entry said n number text m apart))
    ]

-- ---- a line in hand, of one session

module _ (in_hand : List (Option ℕ)) (n : ℕ) (line : Option ℕ) where
  pub own_line : n < length in_hand → line_at (slice_set in_hand n line) n ≡ line
  own_line within = get_or-set_same in_hand n line None within

  pub other_line : (m : ℕ) → m ≢ n → line_at (slice_set in_hand n line) m ≡ line_at in_hand m
  other_line m apart = get_or-set_other in_hand n m line None apart

-- ---- lines by their numbers

session_in : Option Line → ℕ
session_in None = 0
session_in (Some line) = line.session

-- a line is of one session
pub one_session : (script : List Line) (n m number : ℕ) (a b : Statement) → slice_get script number ≡ Some (record { session = n; statement = a }) → slice_get script number ≡ Some (record { session = m; statement = b }) → n ≡ m
unfolding session_in
one_session script n m number a b is other = sym (ap session_in is) ∙ ap session_in other

-- another rank is another line
pub another_line : (script : List Line) (n m number other rank behind : ℕ) (a b : Statement) → IsLineOf script n number rank a → IsLineOf script m other behind b → (m ≡ n → behind ≢ rank) → other ≢ number
another_line script n m number other rank behind a b is that apart same =
    let here : slice_get script number ≡ Some (record { session = m; statement = b }) = subst (λ (k : ℕ). slice_get script k ≡ Some (record { session = m; statement = b })) same that.is in
    let alike : n ≡ m = one_session script n m number a b is.is here in
    apart (sym alike) (sym that.behind ∙ ap (λ (k : ℕ). length (lines_of m (take k script))) same ∙ ap (λ (k : ℕ). length (lines_of k (take number script))) (sym alike) ∙ is.behind)

get_set_other : (held : List Bool) (i j : ℕ) (b : Bool) → j ≢ i → slice_get held j ≡ Some true → slice_get (slice_set held i b) j ≡ Some true
get_set_other [] i j b apart is = absurd (none-some true is)
get_set_other (x ∷ xs) zero zero b apart is = absurd (apart refl)
get_set_other (x ∷ xs) zero (suc j) b apart is = is
get_set_other (x ∷ xs) (suc i) zero b apart is = is
get_set_other (x ∷ xs) (suc i) (suc j) b apart is = get_set_other xs i j b (λ same. apart (ap suc same)) is

-- a statement that is taken out leaves the others
pub held_on : (script : List Line) (held : List Bool) (n m number other rank behind : ℕ) (a b : Statement) → IsLineOf script n number rank a → IsLineOf script m other behind b → (m ≡ n → behind ≢ rank)
    → slice_get held other ≡ Some true → slice_get (slice_set held number false) other ≡ Some true
held_on script held n m number other rank behind a b is that apart was = get_set_other held number other false (another_line script n m number other rank behind a b is that apart) was
