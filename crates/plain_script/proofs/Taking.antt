-- what is so where the statement of a line is taken out
use Rattle.std.proofs.Common.{◌≡◌, ℕ, zero, suc, ◌+◌, ◌<◌, true, false, cond, eqb, List, [], ◌∷◌, length, map, set, get_or, take, Option, None, Some, ◌⊎◌, inl, inr, refl, sym, ap, ◌∙◌, subst, arith}
use Rattle.std.specs.Prelude.{slice_get, unwrap_or, IfSome, IfNone}
use Rattle.std.specs.Option.{is_some, option_map}
use Rattle.std.proofs.lemmas.List.{length-map, length-set, map-set, set-get_or}
use Rattle.std.proofs.lemmas.Option.{slice_get-map, slice_get-get_or, slice_get_within}
use Rattle.store_layout.specs.declared.statement.Statement.{Statement}
use Rattle.store_layout.specs.declared.statement.Statement.TheVariants as statements
use Rattle.transcripts.specs.Transcript.{Line, lines_of}
use Rattle.plain_script.specs.HeldScripts.{IsLineOf}
use Rattle.plain_script.specs.KeptLines.{IsHeld, IsLeftOf, TakesOut, is_there, line_kept, line_there, lines_kept}
use Rattle.plain_script.specs.SessionLines.{numbers_from, numbers_of}
use Rattle.plain_script.specs.declared.kept.ScriptLine.{ScriptLine}
use Rattle.plain_script.proofs.ListLemmas.{set_cases, some_same, there}
use Rattle.plain_script.proofs.Ranks.{stands_at}

-- ---- a line of the list

pub no_session : (lines : List ScriptLine) (session number rank : ℕ) (d : ScriptLine) (statement : Statement) → number < length lines → ((get_or lines number d).session ≡ session → ⊥)
    → slice_get lines number ≡ Some (line_there session rank statement) → ⊥
no_session lines session number rank d statement within not e =
    not (ap (λ (x : ScriptLine). x.session) (some_same (get_or lines number d) (line_there session rank statement) (sym (slice_get-get_or lines number d within) ∙ e)))

pub no_rank : (lines : List ScriptLine) (session number rank : ℕ) (d : ScriptLine) (statement : Statement) → number < length lines → ((get_or lines number d).rank ≡ rank → ⊥)
    → slice_get lines number ≡ Some (line_there session rank statement) → ⊥
no_rank lines session number rank d statement within not e =
    not (ap (λ (x : ScriptLine). x.rank) (some_same (get_or lines number d) (line_there session rank statement) (sym (slice_get-get_or lines number d within) ∙ e)))

-- what is there is taken
module _ (lines : List ScriptLine) (session number rank : ℕ) (d : ScriptLine) (within : number < length lines) (of : (get_or lines number d).session ≡ session) (ranked : (get_or lines number d).rank ≡ rank) where
  pub taken_out : (result left : Option Statement) → result ≡ (get_or lines number d).statement → left ≡ None
      → TakesOut lines (set lines number (record { session = (get_or lines number d).session; rank = (get_or lines number d).rank; statement = left })) session number rank result
  taken_out (Some statement) left is none = (
    slice_get-get_or lines number d within ∙ (λ i. Some (record { session = of i; rank = ranked i; statement = sym is i })),
    (λ i. set lines number (record { session = of i; rank = ranked i; statement = none i })),
  )
  taken_out None left is none = (
    (λ i. set lines number (record { session = (get_or lines number d).session; rank = (get_or lines number d).rank; statement = (none ∙ is) i })) ∙ set-get_or lines number d,
    (λ statement e.
        let same = ap (λ (x : ScriptLine). x.statement) (some_same (get_or lines number d) (line_there session rank statement) (sym (slice_get-get_or lines number d within) ∙ e)) in
        let wrong : None ≡ Some statement = is ∙ same in absurd (cc)),
  )

-- ---- a script of which something is left

module _ (whole kept : List ScriptLine) (held : IsHeld whole kept) where
  -- a line that was read is left there, but perhaps for its statement
  left_there : (i : ℕ) (k : ScriptLine) → slice_get kept i ≡ Some k → (w : ScriptLine) × (slice_get whole i ≡ Some w) × IsLeftOf w k
  left_there i k e =
      let w = there whole i (omega (arith, slice_get_within kept i k e, held.many)) in
      (w.0, w.1, held.left i w.0 k w.1 e)

  whole_there : (i : ℕ) (w : ScriptLine) → slice_get whole i ≡ Some w → (k : ScriptLine) × (slice_get kept i ≡ Some k) × IsLeftOf w k
  whole_there i w e =
      let k = there kept i (omega (arith, slice_get_within whole i w e, held.many)) in
      (k.0, k.1, held.left i w k.0 e k.1)

  emptied_left : (session number rank : ℕ) (statement : Statement) → slice_get kept number ≡ Some (line_there session rank statement) → (one other : ScriptLine) → slice_get whole number ≡ Some one
      → other ≡ record { session = session; rank = rank; statement = None } → IsLeftOf one other
  emptied_left session number rank statement e one other at is =
      let old = held.left number one (line_there session rank statement) at e in
      record { session = ap (λ (x : ScriptLine). x.session) is ∙ old.session; rank = ap (λ (x : ScriptLine). x.rank) is ∙ old.rank; statement = inr (ap (λ (x : ScriptLine). x.statement) is) }

  held_set : (session number rank : ℕ) (statement : Statement) → slice_get kept number ≡ Some (line_there session rank statement)
      → IsHeld whole (set kept number (record { session = session; rank = rank; statement = None }))
  held_set session number rank statement e = record {
    read = held.read;
    many = length-set kept number (record { session = session; rank = rank; statement = None }) ∙ held.many;
    left = λ i one other at now. cases i one other at (set_cases kept number i (record { session = session; rank = rank; statement = None }) other now);
  }
    where
      cases : (i : ℕ) (one other : ScriptLine) → slice_get whole i ≡ Some one
          → ((i ≡ number) × (other ≡ record { session = session; rank = rank; statement = None })) ⊎ (slice_get kept i ≡ Some other) → IsLeftOf one other
      cases i one other at (inl p) = emptied_left session number rank statement e one other (ap (slice_get whole) (sym p.0) ∙ at) p.1
      cases i one other at (inr f) = held.left i one other at f

  -- so much is held still
  pub held_then : (now : List ScriptLine) (session number rank : ℕ) (result : Option Statement) → TakesOut kept now session number rank result → IsHeld whole now
  held_then now session number rank (Some statement) out = subst (IsHeld whole) (sym out.1) (held_set session number rank statement out.0)
  held_then now session number rank None out = subst (IsHeld whole) (sym out.0) held

  -- what is left of a statement is what was read
  as_read : (w k : ScriptLine) (statement : Statement) → IsLeftOf w k → k.statement ≡ Some statement → w.statement ≡ Some statement
  as_read w k statement left is = cases left.statement
    where
      cases : (k.statement ≡ w.statement) ⊎ (k.statement ≡ None) → w.statement ≡ Some statement
      cases (inl e) = sym e ∙ is
      cases (inr e) = let wrong : None ≡ Some statement = sym e ∙ is in absurd (cc)

  is_line : (session number rank : ℕ) (statement : Statement) → slice_get kept number ≡ Some (line_there session rank statement) → IsLineOf (lines_kept whole) session number rank statement
  is_line session number rank statement e =
      let found = left_there number (line_there session rank statement) e in
      let w = found.0 in
      let left = found.2 in
      let stands = stands_at whole held.read number w found.1 in
      let said : w.statement ≡ Some statement = as_read w (line_there session rank statement) statement left refl in
      record {
        is = slice_get-map line_kept whole number ∙ ap (option_map line_kept) found.1 ∙ (λ i. Some (record { session = sym left.session i; statement = unwrap_or (said i) statements.Begin }));
        behind = ap (λ n. length (lines_of n (take number (lines_kept whole)))) left.session ∙ sym stands.rank ∙ sym left.rank;
      }

  pub taken : (now : List ScriptLine) (session number rank : ℕ) (result : Option Statement) → TakesOut kept now session number rank result
      → IfSome result (λ statement. IsLineOf (lines_kept whole) session number rank statement)
  taken now session number rank (Some statement) out = is_line session number rank statement out.0
  taken now session number rank None out = tt

  pub was_there : (now : List ScriptLine) (session number rank : ℕ) (result : Option Statement) → TakesOut kept now session number rank result
      → IfSome result (λ _. slice_get (map is_there kept) number ≡ Some true)
  was_there now session number rank (Some statement) out = slice_get-map is_there kept number ∙ ap (option_map is_there) out.0
  was_there now session number rank None out = tt

  pub held_still : (now : List ScriptLine) (session number rank : ℕ) (result : Option Statement) → TakesOut kept now session number rank result
      → map is_there now ≡ cond (is_some result) (set (map is_there kept) number false) (map is_there kept)
  held_still now session number rank (Some statement) out = ap (map is_there) out.1 ∙ map-set is_there kept number (record { session = session; rank = rank; statement = None })
  held_still now session number rank None out = ap (map is_there) out.0

  gone : (w k : ScriptLine) (session rank : ℕ) (statement : Statement) → IsLeftOf w k → w.session ≡ session → w.rank ≡ rank → w.statement ≡ Some statement → (k ≡ line_there session rank statement → ⊥) → is_there k ≡ false
  gone w k session rank statement left of ranked said not = cases left.statement
    where
      cases : (k.statement ≡ w.statement) ⊎ (k.statement ≡ None) → is_there k ≡ false
      cases (inl e) = absurd (not (λ i. record { session = (left.session ∙ of) i; rank = (left.rank ∙ ranked) i; statement = (e ∙ said) i }))
      cases (inr e) = ap is_some e

  lost : (session number rank : ℕ) (statement : Statement) → (slice_get kept number ≡ Some (line_there session rank statement) → ⊥) → IsLineOf (lines_kept whole) session number rank statement
      → slice_get (map is_there kept) number ≡ Some false
  lost session number rank statement not line =
      let number_within = slice_get_within (lines_kept whole) number (record { session = session; statement = statement }) line.is in
      let found = there whole number (omega (arith, number_within, length-map whole line_kept)) in
      let w = found.0 in
      let same : line_kept w ≡ record { session = session; statement = statement } =
      some_same (line_kept w) (record { session = session; statement = statement }) (ap (option_map line_kept) (sym found.1) ∙ sym (slice_get-map line_kept whole number) ∙ line.is) in
      let stands = stands_at whole held.read number w found.1 in
      let said : w.statement ≡ Some statement = stands.there ∙ ap Some (ap (λ o. unwrap_or o statements.Begin) (sym stands.there) ∙ ap (λ (l : Line). l.statement) same) in
      let of : w.session ≡ session = ap (λ (l : Line). l.session) same in
      let ranked : w.rank ≡ rank = stands.rank ∙ ap (λ n. length (lines_of n (take number (lines_kept whole)))) of ∙ line.behind in
      let k = whole_there number w found.1 in
      slice_get-map is_there kept number ∙ ap (option_map is_there) k.1 ∙ ap Some (gone w k.0 session rank statement k.2 of ranked said (λ e. not (k.1 ∙ ap Some e)))

  pub none_taken : (now : List ScriptLine) (session number rank : ℕ) (result : Option Statement) → TakesOut kept now session number rank result
      → IfNone result ((statement : Statement) → IsLineOf (lines_kept whole) session number rank statement → slice_get (map is_there kept) number ≡ Some false)
  none_taken now session number rank (Some statement) out = tt
  none_taken now session number rank None out = λ statement line. lost session number rank statement (out.1 statement) line

-- no line is lost
pub taken_length : (old now : List ScriptLine) (session number rank : ℕ) (result : Option Statement) → TakesOut old now session number rank result → length now ≡ length old
taken_length old now session number rank (Some statement) out = ap length out.1 ∙ length-set old number (record { session = session; rank = rank; statement = None })
taken_length old now session number rank None out = ap length out.0

-- the numbers of a session's lines stay
numbers_same : (n session : ℕ) (xs ys : List ScriptLine) → length ys ≡ length xs → ((i : ℕ) (x y : ScriptLine) → slice_get xs i ≡ Some x → slice_get ys i ≡ Some y → y.session ≡ x.session)
    → numbers_from n session (lines_kept ys) ≡ numbers_from n session (lines_kept xs)
numbers_same n session [] [] many same = refl
numbers_same n session [] (y ∷ ys) many same = absurd (omega (arith, many))
numbers_same n session (x ∷ xs) [] many same = absurd (omega (arith, many))
numbers_same n session (x ∷ xs) (y ∷ ys) many same =
    let rest = numbers_same (n + 1) session xs ys (omega (arith, many)) (λ i one other e f. same (suc i) one other e f) in
    (λ i. cond (eqb (same zero x y refl refl i) session) (n ∷ rest i) (rest i))

pub numbers_left : (whole kept : List ScriptLine) (session : ℕ) → IsHeld whole kept → numbers_of session (lines_kept kept) ≡ numbers_of session (lines_kept whole)
numbers_left whole kept session held = numbers_same 0 session whole kept held.many (λ i one other e f. (held.left i one other e f).session)
