-- one that locks a page holds a lock
use Rattle.std.proofs.Common.{◌≡◌, ◌==◌, ℕ, ◌+◌, ◌≤◌, Bool, cond, List, [], ◌∷◌, map, count_by, Some, sym, ap, ◌∙◌, inl, inr, arith}
use Rattle.std.specs.Ordering.{is_eq}
use Rattle.std.specs.FinMap.{entries, find, get-entries}
use Rattle.std.proofs.lemmas.Bool.{cases_Bool, cond-false, cond-true, eq-eqb}
use Rattle.std.proofs.lemmas.List.Sums.{sum_by-cons}
use Rattle.std.proofs.lemmas.Option.{none-some, same_Some}
use Rattle.block_model.specs.declared.place.Place.{Place}
use Rattle.page_locks.specs.LockHolders.{place_cmp}
use Rattle.session_parts.specs.ShareLaws.{HolderHasLock}

abbrev one : Bool → ℕ
one b = cond b 1 0

abbrev holds : ℕ → ℕ → Bool
holds actor n = n == actor

abbrev holders_in : List (Place × ℕ) → List ℕ
holders_in entries = map (λ (e : Place × ℕ). e.1) entries

counted : (actor n : ℕ) (rest : List ℕ) → count_by (holds actor) (n ∷ rest) ≡ one (holds actor n) + count_by (holds actor) rest
counted actor n rest = sum_by-cons (λ (m : ℕ). one (holds actor m)) n rest

found_once : (page : Place) (actor : ℕ) (listed : List (Place × ℕ)) → find place_cmp page listed ≡ Some actor → 1 ≤ count_by (holds actor) (holders_in listed)
found_once page actor [] is = absurd (none-some actor is)
found_once page actor (e ∷ rest) is = elim (cases_Bool (is_eq (place_cmp page e.0))) [
  | inl there ↦
      let own : e.1 ≡ actor = same_Some e.1 actor (sym (cond-true (is_eq (place_cmp page e.0)) (Some e.1) (find place_cmp page rest) there) ∙ is) in
      omega (arith, counted actor e.1 (holders_in rest), ap one (eq-eqb e.1 actor own))
  | inr other ↦ omega (
    arith,
    counted actor e.1 (holders_in rest),
    found_once page actor rest (sym (cond-false (is_eq (place_cmp page e.0)) (Some e.1) (find place_cmp page rest) other) ∙ is),
  )
]

pub holder_has_lock : HolderHasLock
holder_has_lock locks page actor is = found_once page actor (entries locks.holders) (sym (get-entries locks.holders page) ∙ is)
