-- lines and entries of one session
use Rattle.std.proofs.Common.{arith, ◌≡◌, inl, inr, ℕ, zero, suc, ◌≤◌, Bool, true, false, cond, ◌==◌, List, [], ◌∷◌, ◌++◌, length, Some, refl, sym, ap, subst, ◌∙◌, eq-eqb, ne_eqb}
use Rattle.std.specs.Prelude.{map, filter, take, slice_get}
use Rattle.std.proofs.lemmas.Option.{none-some, same_Some}
use Rattle.std.proofs.lemmas.Bool.{cases_eq}
use Rattle.transcripts.specs.Laws.{NextIsSaid, NextOfOthersStays, NoneSaidTwice}
use Rattle.transcripts.specs.Transcript.{Empty, Further, Line, Said, entries_of, lines_of, next_statement}

-- ---- one element more at the end

left_out : {X : Type 0} (f : X → Bool) (xs : List X) (x : X) → f x ≡ false → filter f (xs ++ x ∷ []) ≡ filter f xs
left_out f [] x fails = ap (λ b. cond b (x ∷ []) []) fails
left_out {X} f (y ∷ ys) x fails = ap (λ (l : List X). cond (f y) (y ∷ l) l) (left_out f ys x fails)

one_more : {X : Type 0} (f : X → Bool) (xs : List X) (x : X) → f x ≡ true → length (filter f (xs ++ x ∷ [])) ≡ suc (length (filter f xs))
one_more f [] x passes = ap (λ b. length (cond b (x ∷ []) [])) passes
one_more f (y ∷ ys) x passes = elim (f y) as (λ b. length (cond b (y ∷ filter f (ys ++ x ∷ [])) (filter f (ys ++ x ∷ []))) ≡ suc (length (cond b (y ∷ filter f ys) (filter f ys)))) [
  | true ↦ ap suc (one_more f ys x passes)
  | false ↦ one_more f ys x passes
]

pub others_stay : NextOfOthersStays
others_stay script said e m other =
    ap (λ (l : List Said). slice_get (map (λ (line : Line). line.statement) (lines_of m script)) (length l)) (left_out (λ (x : Said). x.session == m) said e (ne_eqb e.session m (λ same. other (sym same))))

-- ---- an element by its rank among those that pass

module _ {X Y : Type 0} (f : X → Bool) (g : X → Y) where
  ranked : (xs : List X) (i : ℕ) (x : X) → slice_get xs i ≡ Some x → f x ≡ true → slice_get (map g (filter f xs)) (length (filter f (take i xs))) ≡ Some (g x)
  ranked [] i x is passes = absurd (none-some x is)
  ranked (y ∷ ys) zero x is passes =
      let same = same_Some y x is in ap (λ b. slice_get (map g (cond b (y ∷ filter f ys) (filter f ys))) 0) (ap f same ∙ passes) ∙ ap (λ z. Some (g z)) same
  ranked (y ∷ ys) (suc i) x is passes =
      elim (f y) as (λ b. slice_get (map g (cond b (y ∷ filter f ys) (filter f ys))) (length (cond b (y ∷ filter f (take i ys)) (filter f (take i ys)))) ≡ Some (g x)) [
        | true ↦ ranked ys i x is passes
        | false ↦ ranked ys i x is passes
      ]

pub next_is_said : NextIsSaid
next_is_said script said n number statement next =
    ap (slice_get (map (λ (line : Line). line.statement) (lines_of n script))) (sym next.rank)
    ∙ ranked (λ (line : Line). line.session == n) (λ (line : Line). line.statement) script number (record { session = n; statement = statement }) next.is (eq-eqb n n refl)

within : {X Y : Type 0} (g : X → Y) (xs : List X) (i : ℕ) (y : Y) → slice_get (map g xs) i ≡ Some y → suc i ≤ length xs
within g [] i y is = absurd (none-some y is)
within g (x ∷ xs) zero y is = omega arith
within g (x ∷ xs) (suc i) y is = let h = within g xs i y is in omega arith

pub none_twice : NoneSaidTwice
none_twice limits names script opening _ _ n Empty = omega arith
none_twice limits names script opening _ _ n (Further said s after e statement reply before next text tells) =
    elim (cases_eq e.session n) [
      | inr other ↦ subst (λ (l : List Said). length l ≤ length (lines_of n script)) (sym (left_out (λ (x : Said). x.session == n) said e (ne_eqb e.session n other)))
          (none_twice limits names script opening s said n before)
      | inl same ↦ subst (λ k. k ≤ length (lines_of n script)) (sym (one_more (λ (x : Said). x.session == n) said e (eq-eqb e.session n same)))
          (within (λ (line : Line). line.statement) (lines_of n script) (length (entries_of n said)) statement
          (subst (λ k. next_statement script said k ≡ Some statement) same (next_is_said script said e.session e.line statement next)))
    ]
