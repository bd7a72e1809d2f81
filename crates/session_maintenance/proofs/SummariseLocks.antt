-- the summarise locks of the tables, where a session takes and gives one
use Rattle.std.proofs.Common.{◌≡◌, ◌≢◌, inl, inr, ℕ, ◌<◌, List, length, Option, None, Some, refl, sym, ap, ◌∙◌}
use Rattle.std.specs.Prelude.{slice_set}
use Rattle.std.proofs.lemmas.Bool.{cases_eq}
use Rattle.std.proofs.lemmas.List.{get_or-set_other, get_or-set_same, length-set}
use Rattle.std.proofs.lemmas.Option.{none-some, same_Some}
use Rattle.page_locks.specs.RightHolders.{right_of}

-- as many locks as there were; those of the other tables are as they were; and no other actor has one that it hadn't
pub record OthersStay (table actor : ℕ) (old new : List (Option ℕ)) : Type 0 where
  pub tables : length new ≡ length old
  pub apart : (other : ℕ) → other ≢ table → right_of new other ≡ right_of old other
  pub theirs : (m other : ℕ) → m ≢ actor → right_of new other ≡ Some m → right_of old other ≡ Some m

pub same_stays : (table actor : ℕ) (old new : List (Option ℕ)) → new ≡ old → OthersStay table actor old new
same_stays table actor old new same = record {
  tables = ap (λ (l : List (Option ℕ)). length l) same;
  apart = λ other apart. ap (λ (l : List (Option ℕ)). right_of l other) same;
  theirs = λ m other apart holds. ap (λ (l : List (Option ℕ)). right_of l other) (sym same) ∙ holds;
}

pub stays_on : (table actor : ℕ) (old mid new : List (Option ℕ)) → OthersStay table actor old mid → OthersStay table actor mid new → OthersStay table actor old new
stays_on table actor old mid new first second = record {
  tables = second.tables ∙ first.tables;
  apart = λ other apart. second.apart other apart ∙ first.apart other apart;
  theirs = λ m other apart holds. first.theirs m other apart (second.theirs m other apart holds);
}

pub set_there : (table : ℕ) (holder : Option ℕ) (old new : List (Option ℕ)) → table < length old → new ≡ slice_set old table holder → right_of new table ≡ holder
set_there table holder old new below is = ap (λ (l : List (Option ℕ)). right_of l table) is ∙ get_or-set_same old table holder None below

pub set_stays : (table actor : ℕ) (holder : Option ℕ) (old new : List (Option ℕ)) → table < length old → ((m : ℕ) → holder ≡ Some m → m ≡ actor) → new ≡ slice_set old table holder → OthersStay table actor old new
set_stays table actor holder old new below own is = record {
  tables = ap (λ (l : List (Option ℕ)). length l) is ∙ length-set old table holder;
  apart = λ other apart. away other apart;
  theirs = λ m other apart holds. elim (cases_eq other table) [
    | inl same ↦ absurd (apart (own m (sym (set_there table holder old new below is) ∙ ap (λ (t : ℕ). right_of new t) (sym same) ∙ holds)))
    | inr beside ↦ sym (away other beside) ∙ holds
  ];
}
  where
    away : (other : ℕ) → other ≢ table → right_of new other ≡ right_of old other
    away other apart = ap (λ (l : List (Option ℕ)). right_of l other) is ∙ get_or-set_other old table other holder None apart

-- an actor gives the lock, or hasn't got it
module _ (table actor : ℕ) (old new : List (Option ℕ)) (below : table < length old) (given : right_of old table ≡ Some actor → new ≡ slice_set old table None) (same : right_of old table ≢ Some actor → new ≡ old) where
  -- what holds where it gives the lock, and where it hasn't got it
  by_holder : (P : Type 0) → (right_of old table ≡ Some actor → P) → (right_of old table ≢ Some actor → P) → (o : Option ℕ) → right_of old table ≡ o → P
  by_holder P has lacks None is = lacks (λ held. none-some actor (sym is ∙ held))
  by_holder P has lacks (Some m) is = elim (cases_eq m actor) [
    | inl own ↦ has (is ∙ ap Some own)
    | inr other ↦ lacks (λ held. other (same_Some m actor (sym is ∙ held)))
  ]

  pub gives_stay : OthersStay table actor old new
  gives_stay = by_holder (OthersStay table actor old new) (λ held. set_stays table actor None old new below (λ m is. absurd (none-some m is)) (given held)) (λ lacks. same_stays table actor old new (same lacks))
      (right_of old table) refl

  pub gives_there : right_of old table ≡ Some actor → right_of new table ≡ None
  gives_there held = set_there table None old new below (given held)

  -- in any case it hasn't got it then
  pub gives_own : right_of new table ≢ Some actor
  gives_own = by_holder (right_of new table ≢ Some actor) (λ held has. none-some actor (sym (gives_there held) ∙ has))
      (λ lacks has. lacks (ap (λ (l : List (Option ℕ)). right_of l table) (sym (same lacks)) ∙ has)) (right_of old table) refl
