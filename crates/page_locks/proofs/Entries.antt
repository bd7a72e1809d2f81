-- who holds a page by a list of locks, after a push and after a filter
use Rattle.std.proofs.Common.{◌≡◌, ℕ, ◌+◌, Bool, true, false, cond, List, [], ◌∷◌, ◌++◌, length, filter, Option, Some, None, is_some, refl, sym, ap, ◌∙◌, subst, inl, inr, arith}
use Rattle.std.specs.Ordering.{eq_by_cmp}
use Rattle.std.specs.FinMap.{find, get, insert, from_entries, len, contains_key, get-insert, get-from_entries, from_entries_push, len-empty, len-insert, same_map}
use Rattle.std.specs.FinMap.Entries.{find-append}
use Rattle.std.proofs.lemmas.Bool.{cond-true, cond-false, cases_Bool}
use Rattle.block_model.specs.declared.place.Place.{Place}
use Rattle.block_model.specs.NumberMaps.{none_Some}
use Rattle.page_locks.specs.declared.held.Held.{Held}
use Rattle.page_locks.specs.LockHolders.{Holders, place_cmp, places_total, places_exact}
use Rattle.page_locks.specs.HeldLocks.{AreApart, entries_of, found, holders_of}
use Rattle.page_locks.proofs.Places.{same_choice, same_place, ties_back, ties_itself}

-- the map has what the list has
pub held_in_map : (held : List Held) (q : Place) → get (holders_of held) q ≡ found held q
held_in_map held q = get-from_entries places_total (entries_of held) q

-- ---- a lock more

entries_push : (held : List Held) (x : Held) → entries_of (held ++ x ∷ []) ≡ entries_of held ++ (x.page, x.by) ∷ []
entries_push [] x = refl
entries_push (y ∷ held) x = ap (λ (es : List (Place × ℕ)). (y.page, y.by) ∷ es) (entries_push held x)

pub found_push : (held : List Held) (x : Held) (q : Place) → found held x.page ≡ None → found (held ++ x ∷ []) q ≡ cond (eq_by_cmp place_cmp q x.page) (Some x.by) (found held q)
found_push held x q none = ap (λ (es : List (Place × ℕ)). find place_cmp q es) (entries_push held x) ∙ find-append place_cmp places_total (entries_of held) x.page x.by q none

pub holders_push : (held : List Held) (x : Held) → found held x.page ≡ None → holders_of (held ++ x ∷ []) ≡ insert (holders_of held) x.page x.by
holders_push held x none = ap (λ (es : List (Place × ℕ)). from_entries es) (entries_push held x) ∙ from_entries_push places_total places_exact (entries_of held) x.page x.by none

-- a page that isn't found ties with no page of the list
missed : (b : Bool) (n : ℕ) (rest : Option ℕ) → cond b (Some n) rest ≡ None → (b ≡ false) × (rest ≡ None)
missed true n rest e = absurd (none_Some n (sym e))
missed false n rest e = (refl, e)

pub apart_push : (held : List Held) (x : Held) → AreApart held → found held x.page ≡ None → AreApart (held ++ x ∷ [])
apart_push [] x apart none = (refl, tt)
apart_push (y ∷ held) x apart none =
    let m = missed (eq_by_cmp place_cmp x.page y.page) y.by (found held x.page) none in
    (found_push held x y.page m.1 ∙ cond-false (eq_by_cmp place_cmp y.page x.page) (Some x.by) (found held y.page) (ties_back y.page x.page ∙ m.0) ∙ apart.0, apart_push held x apart.1 m.1)

-- to hold a page that one holds is to hold as before
pub insert_same : (m : Holders) (q : Place) (n : ℕ) → get m q ≡ Some n → m ≡ insert m q n
insert_same m q n is =
    same_map places_total places_exact m (insert m q n) (λ (r : Place). sym (get-insert places_total m q n r
    ∙ same_choice (eq_by_cmp place_cmp r q) (Some n) (get m r) (λ (e : eq_by_cmp place_cmp r q ≡ true). sym is ∙ ap (get m) (sym (same_place r q e)))))

-- ---- locks that stay

-- what is found where only the locks that pass stay
abbrev pub kept : (Held → Bool) → Place → Option ℕ → Option ℕ
kept p q None = None
kept p q (Some n) = cond (p (record { page = q; by = n })) (Some n) None

filter_skips : (p : Held → Bool) (x : Held) (held : List Held) (q : Place) → eq_by_cmp place_cmp q x.page ≡ false → found (filter p (x ∷ held)) q ≡ found (filter p held) q
filter_skips p x held q other = elim (p x) as (λ (b : Bool). found (cond b (x ∷ filter p held) (filter p held)) q ≡ found (filter p held) q) [
  | true ↦ cond-false (eq_by_cmp place_cmp q x.page) (Some x.by) (found (filter p held) q) other
  | false ↦ refl
]

filter_here : (p : Held → Bool) (x : Held) (held : List Held) → found (filter p held) x.page ≡ None → found (filter p (x ∷ held)) x.page ≡ kept p x.page (Some x.by)
filter_here p x held none = elim (p x) as (λ (b : Bool). found (cond b (x ∷ filter p held) (filter p held)) x.page ≡ cond b (Some x.by) None) [
  | true ↦ cond-true (eq_by_cmp place_cmp x.page x.page) (Some x.by) (found (filter p held) x.page) (ties_itself x.page)
  | false ↦ none
]

pub found_filter : (p : Held → Bool) (held : List Held) (q : Place) → AreApart held → found (filter p held) q ≡ kept p q (found held q)
found_filter p [] q apart = refl
found_filter p (x ∷ held) q apart = elim (cases_Bool (eq_by_cmp place_cmp q x.page)) [
  | inl t ↦ subst (λ (r : Place). found (filter p (x ∷ held)) r ≡ kept p r (found (x ∷ held) r)) (sym (same_place q x.page t))
      (filter_here p x held (found_filter p held x.page apart.1 ∙ ap (kept p x.page) apart.0)
      ∙ ap (kept p x.page) (sym (cond-true (eq_by_cmp place_cmp x.page x.page) (Some x.by) (found held x.page) (ties_itself x.page))))
  | inr f ↦ filter_skips p x held q f ∙ found_filter p held q apart.1 ∙ ap (kept p q) (sym (cond-false (eq_by_cmp place_cmp q x.page) (Some x.by) (found held q) f))
]

pub apart_filter : (p : Held → Bool) (held : List Held) → AreApart held → AreApart (filter p held)
apart_filter p [] apart = tt
apart_filter p (x ∷ held) apart = elim (p x) as (λ (b : Bool). AreApart (cond b (x ∷ filter p held) (filter p held))) [
  | true ↦ (found_filter p held x.page apart.1 ∙ ap (kept p x.page) apart.0, apart_filter p held apart.1)
  | false ↦ apart_filter p held apart.1
]

-- ---- how many there are

pub len_listed : (held : List Held) → AreApart held → len (holders_of held) ≡ length held
len_listed [] apart = len-empty place_cmp ℕ
len_listed (x ∷ held) apart =
    let missing : contains_key (holders_of held) x.page ≡ false = ap is_some (held_in_map held x.page ∙ apart.0) in
    omega (arith, len_listed held apart.1, len-insert places_total (holders_of held) x.page x.by ∙ cond-false (contains_key (holders_of held) x.page) (len (holders_of held)) (len (holders_of held) + 1) missing)
