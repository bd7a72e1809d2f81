-- what a call makes of the locks where an actor gives some
use Rattle.std.proofs.Common.{◌≡◌, ◌≢◌, ◌==◌, ℕ, ◌≤◌, Bool, true, false, cond, not, ◌&&◌, eqb, List, [], ◌∷◌, length, filter, Option, Some, None, refl, sym, ap, ◌∙◌, subst, inl, inr, arith}
use Rattle.std.specs.Ordering.{eq_by_cmp}
use Rattle.std.specs.FinMap.{get, remove, get-remove, same_map}
use Rattle.std.proofs.lemmas.Bool.{cond-true, cond-false, cases_Bool, eq-eqb, eqb-true, ne_eqb, cases_eq, and_left, not-true}
use Rattle.block_model.specs.declared.place.Place.{Place}
use Rattle.block_model.specs.NumberMaps.{none_Some, same_Some}
use Rattle.page_locks.specs.declared.held.Held.{Held}
use Rattle.page_locks.specs.LockHolders.{place_cmp, places_total, places_exact}
use Rattle.page_locks.specs.LockChanges.{GivesAll}
use Rattle.page_locks.specs.HeldLocks.{AreApart, found, holders_of, is_left, is_others}
use Rattle.page_locks.proofs.Places.{same_place, ties_back, ties_itself}
use Rattle.page_locks.proofs.Entries.{held_in_map, kept, found_filter, apart_filter, len_listed}
use Rattle.page_locks.proofs.Counts.{held_by, counted_listed, count_filter_le, count_filter_same, count_filter_none}
use Rattle.page_locks.proofs.Takings.{SomeMore}

pub filter_short : (p : Held → Bool) (xs : List Held) → length (filter p xs) ≤ length xs
filter_short p [] = omega arith
filter_short p (x ∷ xs) = elim (p x) as (λ (b : Bool). length (cond b (x ∷ filter p xs) (filter p xs)) ≤ length (x ∷ xs)) [ true ↦ omega (arith, filter_short p xs) | false ↦ omega (arith, filter_short p xs) ]

module _ (held : List Held) (apart : AreApart held) where
  -- the map of the locks that stay
  pub left_in_map : (p : Held → Bool) (q : Place) → get (holders_of (filter p held)) q ≡ kept p q (found held q)
  left_in_map p q = held_in_map (filter p held) q ∙ found_filter p held q apart

  keeps_other : (page : Place) (actor : ℕ) (q : Place) (o : Option ℕ) → eq_by_cmp place_cmp q page ≡ false → kept (is_left page actor) q o ≡ o
  keeps_other page actor q None other = refl
  keeps_other page actor q (Some n) other =
      ap (λ (b : Bool). cond (not b) (Some n) None) (and_left (eq_by_cmp place_cmp page q) (eqb n actor) (ties_back page q ∙ other))

  keeps_anothers : (page : Place) (actor : ℕ) (o : Option ℕ) → o ≢ Some actor → kept (is_left page actor) page o ≡ o
  keeps_anothers page actor None other = refl
  keeps_anothers page actor (Some n) other =
      ap (λ (b : Bool). cond (not (eq_by_cmp place_cmp page page && b)) (Some n) None) (ne_eqb n actor (λ e. other (ap Some e)))
      ∙ ap (λ (b : Bool). cond (not (b && false)) (Some n) None) (ties_itself page)

  lets_own : (page : Place) (actor : ℕ) → kept (is_left page actor) page (Some actor) ≡ None
  lets_own page actor =
      ap (λ (b : Bool). cond (not (eq_by_cmp place_cmp page page && b)) (Some actor) None) (eq-eqb actor actor refl)
      ∙ ap (λ (b : Bool). cond (not (b && true)) (Some actor) None) (ties_itself page)

  pub given : (page : Place) (actor : ℕ) → found held page ≡ Some actor → holders_of (filter (is_left page actor) held) ≡ remove (holders_of held) page
  given page actor is = same_map places_total places_exact _ _ (λ (q : Place). left_in_map (is_left page actor) q ∙ at q ∙ sym (get-remove places_total (holders_of held) page q))
    where
      at : (q : Place) → kept (is_left page actor) q (found held q) ≡ cond (eq_by_cmp place_cmp q page) None (get (holders_of held) q)
      at q = elim (cases_Bool (eq_by_cmp place_cmp q page)) [
        | inl t ↦ subst (λ (r : Place). kept (is_left page actor) r (found held r) ≡ None) (sym (same_place q page t)) (ap (kept (is_left page actor) page) is ∙ lets_own page actor)
            ∙ sym (cond-true (eq_by_cmp place_cmp q page) None (get (holders_of held) q) t)
        | inr f ↦ keeps_other page actor q (found held q) f ∙ sym (held_in_map held q) ∙ sym (cond-false (eq_by_cmp place_cmp q page) None (get (holders_of held) q) f)
      ]

  pub not_given : (page : Place) (actor : ℕ) → found held page ≢ Some actor → holders_of (filter (is_left page actor) held) ≡ holders_of held
  not_given page actor other = same_map places_total places_exact _ _ (λ (q : Place). left_in_map (is_left page actor) q ∙ at q ∙ sym (held_in_map held q))
    where
      at : (q : Place) → kept (is_left page actor) q (found held q) ≡ found held q
      at q = elim (cases_Bool (eq_by_cmp place_cmp q page)) [
        | inl t ↦ subst (λ (r : Place). kept (is_left page actor) r (found held r) ≡ found held r) (sym (same_place q page t)) (keeps_anothers page actor (found held page) other)
        | inr f ↦ keeps_other page actor q (found held q) f
      ]

  -- where all locks of an actor are given
  lacks_own : (actor : ℕ) (q : Place) (o : Option ℕ) → kept (is_others actor) q o ≡ Some actor → ⊥
  lacks_own actor q None is = none_Some actor is
  lacks_own actor q (Some n) is = elim (cases_eq n actor) [
    | inl e ↦ none_Some actor (sym (ap (λ (b : Bool). cond (not b) (Some n) None) (eq-eqb n actor e)) ∙ is)
    | inr other ↦ other (same_Some n actor (sym (ap (λ (b : Bool). cond (not b) (Some n) None) (ne_eqb n actor other)) ∙ is))
  ]

  keeps_others : (actor : ℕ) (q : Place) (n : ℕ) → n ≢ actor → kept (is_others actor) q (Some n) ≡ Some n
  keeps_others actor q n other = ap (λ (b : Bool). cond (not b) (Some n) None) (ne_eqb n actor other)

  were_held : (actor : ℕ) (q : Place) (n : ℕ) (o : Option ℕ) → kept (is_others actor) q o ≡ Some n → o ≡ Some n
  were_held actor q n None is = is
  were_held actor q n (Some m) is = elim (cases_eq m actor) [
    | inl e ↦ absurd (none_Some n (sym (ap (λ (b : Bool). cond (not b) (Some m) None) (eq-eqb m actor e)) ∙ is))
    | inr other ↦ sym (keeps_others actor q m other) ∙ is
  ]

  pub given_all : (actor : ℕ) → GivesAll (get (holders_of held)) (get (holders_of (filter (is_others actor) held))) actor
  given_all actor = record {
    none = λ q is. lacks_own actor q (found held q) (sym (left_in_map (is_others actor) q) ∙ is);
    kept = λ q n other is. left_in_map (is_others actor) q ∙ ap (kept (is_others actor) q) (sym (held_in_map held q) ∙ is) ∙ keeps_others actor q n other;
    only = λ q n is. held_in_map held q ∙ were_held actor q n (found held q) (sym (left_in_map (is_others actor) q) ∙ is);
  }

  -- counts where only the locks that pass stay, and others' pass
  pub left_counted : (p : Held → Bool) (actor : ℕ) → ((x : Held) → x.by ≢ actor → p x ≡ true) → SomeMore (holders_of held) (holders_of (filter p held)) actor 0
  left_counted p actor keeps =
      let apart' : AreApart (filter p held) = apart_filter p held apart in
      record {
        own = omega (arith, counted_listed held actor apart, counted_listed (filter p held) actor apart', count_filter_le (λ (x : Held). x.by == actor) p held);
        others = λ a other. counted_listed (filter p held) a apart'
            ∙ count_filter_same (λ (x : Held). x.by == a) p (λ (x : Held) (is : (x.by == a) ≡ true). keeps x (λ e. other (sym (eqb-true x.by a is) ∙ e))) held
            ∙ sym (counted_listed held a apart);
        all = omega (arith, len_listed held apart, len_listed (filter p held) apart', filter_short p held);
      }

  pub others_pass_left : (page : Place) (actor : ℕ) (x : Held) → x.by ≢ actor → is_left page actor x ≡ true
  others_pass_left page actor x other = elim (eq_by_cmp place_cmp page x.page) as (λ (b : Bool). not (b && eqb x.by actor) ≡ true) [ true ↦ ap not (ne_eqb x.by actor other) | false ↦ refl ]

  pub others_pass : (actor : ℕ) (x : Held) → x.by ≢ actor → is_others actor x ≡ true
  others_pass actor x other = ap not (ne_eqb x.by actor other)

  pub none_left : (actor : ℕ) → held_by (holders_of (filter (is_others actor) held)) actor ≡ 0
  none_left actor = counted_listed (filter (is_others actor) held) actor (apart_filter (is_others actor) held apart)
      ∙ count_filter_none (λ (x : Held). x.by == actor) (is_others actor) (λ (x : Held) (is : not (eqb x.by actor) ≡ true). not-true (eqb x.by actor) is) held
