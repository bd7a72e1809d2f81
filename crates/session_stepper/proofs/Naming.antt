-- sessions of names that are apart, made one after the other in a store that has none
use Rattle.std.proofs.Common.{◌≡◌, ℕ, zero, suc, ◌+◌, ◌<◌, ◌≤◌, Bool, true, false, List, [], ◌∷◌, ◌++◌, length, Option, None, Some, Ok, Err, refl, sym, ap, ◌∙◌, subst, arith, add-one, zero-add}
use Rattle.std.proofs.lemmas.List.{take_all}
use Rattle.std.proofs.lemmas.Option.{none-some, same_Some}
use Rattle.std.proofs.lemmas.Slice.Eq.{bytes_eq-Decides}
use Rattle.std.specs.Prelude.{take, slice_get, slice_index_or, nat_lt, Result, if◌then◌else◌}
use Rattle.std.specs.Str.{bytes_eq}
use Rattle.disk_trait.specs.Told.{Told}
use Rattle.page_map.specs.Keeps.{Tells}
use Rattle.page_map.specs.PageMap.{View}
use Rattle.store_layout.specs.SessionNumbers.{session_from, session_number, with_session}
use Rattle.script_semantics.specs.LineTexts.{named}
use Rattle.script_semantics.specs.Place.{Place}
use Rattle.session_parts.specs.declared.hand.Hand.{Hand}
use Rattle.session_parts.specs.ShowsPlace.{ShowsPlace}
use Rattle.session_parts.specs.StepIs.{LeadsOn}
use Rattle.session_parts.specs.StoreStates.{StoreState, hand_at}
use Rattle.session_core.specs.declared.faults.SessionFault.{SessionFault}
use Rattle.session_core.specs.declared.faults.SessionFault.TheVariants as session_faults
use Rattle.session_core.specs.Sessions.{HasSession, with_name}
use Rattle.session_stepper.specs.Beginning.{HasAllSessions}

-- ---- the names

new_step : (m name : List ℕ) (ms : List (List ℕ)) (n : ℕ) → (m ≡ name → ⊥) → session_from ms (n + 1) name ≡ n + 1 + length ms → (b : Bool) → bytes_eq m name ≡ b
    → (if b then n else session_from ms (n + 1) name) ≡ n + length (m ∷ ms)
new_step m name ms n apart rest true is = absurd (apart ((bytes_eq-Decides m name).0 is))
new_step m name ms n apart rest false is = omega (arith, rest)

new_from : (ms : List (List ℕ)) (n : ℕ) (name : List ℕ) → ((j : ℕ) → slice_get ms j ≡ Some name → ⊥) → session_from ms n name ≡ n + length ms
new_from [] n name apart = omega arith
new_from (m ∷ ms) n name apart = new_step m name ms n (λ same. apart zero (ap Some same)) (new_from ms (n + 1) name (λ j at. apart (suc j) at)) (bytes_eq m name) refl

-- what a front of a list has
in_front : {X : Type 0} (xs : List X) (i j : ℕ) (x : X) → slice_get (take i xs) j ≡ Some x → (j < i) × (slice_get xs j ≡ Some x)
in_front [] zero j x is = absurd (none-some x is)
in_front [] (suc i) j x is = absurd (none-some x is)
in_front (y ∷ ys) zero j x is = absurd (none-some x is)
in_front (y ∷ ys) (suc i) zero x is = (omega arith, is)
in_front (y ∷ ys) (suc i) (suc j) x is = let rest = in_front ys i j x is in (omega (arith, rest.0), rest.1)

take_more : {X : Type 0} (xs : List X) (i : ℕ) (x : X) → slice_get xs i ≡ Some x → take i xs ++ x ∷ [] ≡ take (suc i) xs
take_more [] i x is = absurd (none-some x is)
take_more (y ∷ ys) zero x is = ap (λ z. z ∷ []) (sym (same_Some y x is))
take_more {X} (y ∷ ys) (suc i) x is = ap (λ (l : List X). y ∷ l) (take_more ys i x is)

not_below : (n : ℕ) → nat_lt n n ≡ false
not_below n = grind arith

abbrev pub AreApart : List (List ℕ) → Type 0
AreApart names = (i j : ℕ) (name : List ℕ) → slice_get names i ≡ Some name → slice_get names j ≡ Some name → i ≡ j

one_name : (names : List (List ℕ)) (i : ℕ) (name : List ℕ) → AreApart names → slice_get names i ≡ Some name → with_session (take i names) name ≡ take (i + 1) names
one_name names i name apart is =
    let number : session_number (take i names) name ≡ length (take i names) =
    new_from (take i names) 0 name (λ j at. let there = in_front names i j name at in let same = apart j i name there.1 is in absurd (omega (arith, there.0, same))) ∙ zero-add (length (take i names)) in
    ap (λ (b : Bool). if b then take i names else take i names ++ name ∷ []) (ap (λ (k : ℕ). nat_lt k (length (take i names))) number ∙ not_below (length (take i names)))
    ∙ take_more names i name is ∙ ap (λ (k : ℕ). take k names) (sym (add-one i))

-- ---- nothing in hand

one_idle : (hands : List (Option Hand)) → ((n : ℕ) → slice_index_or hands n None ≡ None) → (n : ℕ) → slice_index_or (hands ++ None ∷ []) n None ≡ None
one_idle [] idle zero = refl
one_idle [] idle (suc n) = refl
one_idle (h ∷ hs) idle zero = idle zero
one_idle (h ∷ hs) idle (suc n) = one_idle hs (λ m. idle (suc m)) n

all_idle : (b : Bool) (hands : List (Option Hand)) → ((n : ℕ) → slice_index_or hands n None ≡ None) → (n : ℕ) → slice_index_or (if b then hands else hands ++ None ∷ []) n None ≡ None
all_idle true hands idle n = idle n
all_idle false hands idle n = one_idle hands idle n

-- no session that is made changes a page
pub pages_stay : {D : Type 0} (s s' : StoreState D) (name : List ℕ) (result : Result ℕ SessionFault) → HasSession s name s' result → s'.pages ≡ s.pages
pages_stay {D} s s' name (Ok n) has = ap (λ (x : StoreState D). x.pages) has.2
pages_stay {D} s s' name (Err (session_faults.Limit limit)) has = ap (λ (x : StoreState D). x.pages) has.2
pages_stay {D} s s' name (Err session_faults.Memory) has = ap (λ (x : StoreState D). x.pages) has.1

-- ---- the sessions so far

-- sessions of the first names are made, as many as that
pub record SoFar {D : Type 0} (told : D → Told) (names : List (List ℕ)) (first s : StoreState D) (i : ℕ) : Type 0 where
  pub names_are : s.names ≡ take i names
  pub idle : (n : ℕ) → hand_at s n ≡ None
  pub pages : s.pages ≡ first.pages
  pub places : Tells told first.pages → first.pages.failed ≡ None → (p : Place) → ShowsPlace first p → ShowsPlace s (record p { names = take i names })

module _ {D : Type 0} (told : D → Told) (names : List (List ℕ)) (first : StoreState D) where
  nobody : (hands : List (Option Hand)) → hands ≡ [] → (n : ℕ) → slice_index_or hands n None ≡ None
  nobody hands none n = ap (λ (l : List (Option Hand)). slice_index_or l n None) none

  pub none_made : first.names ≡ [] → first.hands ≡ [] → SoFar told names first first 0
  none_made unnamed idle = record {
    names_are = unnamed;
    idle = nobody first.hands idle;
    pages = refl;
    places = λ tells ready p shown. subst (λ (l : List (List ℕ)). ShowsPlace first (record p { names = l })) (shown.names ∙ unnamed) shown;
  }

  pub one_made : AreApart names → (s s' : StoreState D) (i n : ℕ) (name : List ℕ) → SoFar told names first s i → slice_get names i ≡ Some name → HasSession s name s' (Ok n) → LeadsOn told s s' (λ p q. q ≡ named p name) → SoFar told names first s' (i + 1)
  one_made apart s s' i n name far is has leads =
      let made : s' ≡ with_name s name = has.2 in
      let pages : s'.pages ≡ s.pages = ap (λ (x : StoreState D). x.pages) made in
      let more : with_session (take i names) name ≡ take (i + 1) names = one_name names i name apart is in
      record {
        names_are = ap (λ (x : StoreState D). x.names) made ∙ ap (λ (l : List (List ℕ)). with_session l name) far.names_are ∙ more;
        idle = λ m. ap (λ (x : StoreState D). hand_at x m) made ∙ all_idle (nat_lt (session_number s.names name) (length s.names)) s.hands far.idle m;
        pages = pages ∙ far.pages;
        places = λ tells ready p shown.
            let ready' : s.pages.failed ≡ None = ap (λ (v : View D). v.failed) far.pages ∙ ready in
            let on = leads (subst (λ (v : View D). Tells told v) (sym far.pages) tells) ready' (ap (λ (v : View D). v.failed) pages ∙ ready') (record p { names = take i names }) (far.places tells ready p shown) in
            subst (λ (l : List (List ℕ)). ShowsPlace s' (record p { names = l })) more (subst (λ (q : Place). ShowsPlace s' q) on.2 on.1);
      }

  pub all_made : (s : StoreState D) (i : ℕ) → SoFar told names first s i → length names ≤ i → HasAllSessions told first s names
  all_made s i far past =
      let all : take i names ≡ names = take_all i names past in
      record {
        names_are = far.names_are ∙ all;
        idle = far.idle;
        pages = far.pages;
        places = λ tells ready p shown. subst (λ (l : List (List ℕ)). ShowsPlace s (record p { names = l })) all (far.places tells ready p shown);
      }
