-- locks of an index's pages that are taken, given, or stay
use Rattle.std.proofs.Common.{◌≡◌, ◌≢◌, inl, inr, ⊎_elim, ℕ, ◌+◌, ◌≤◌, List, [], ◌∷◌, Option, None, Some, refl, sym, ap, ◌∙◌, arith}
use Rattle.std.specs.Prelude.{◌↔◌}
use Rattle.std.proofs.lemmas.Option.{none-some, same_Some}
use Rattle.block_model.specs.declared.place.Place.{Place}
use Rattle.page_locks.specs.LockChanges.{GivesAll, IsFirstHeld, FirstHeld, LaterHeld, IsFreeFor, IsOneOf, TakesAll, page_of}
use Rattle.page_locks.specs.LockCounts.{AddsAtMost, locks_of}
use Rattle.page_locks.specs.LockHolders.{LockState}
use Rattle.coverage.specs.Changes.{OwnLocks}
use Rattle.coverage.specs.Knowing.{IsOneOf as IsAmong, LocksNone, LocksThese}
use Rattle.coverage.specs.Verdicts.{First, IsFirstLocked, Later}
use Rattle.index_steps.specs.SwapAnswers.{LeavesLocks, TakesAtMost}

-- the two ways to say that a page is one of these
pub among : (these : List ℕ) (p : ℕ) → IsOneOf these p → IsAmong these p
among [] p one = one
among (q ∷ more) p (inl is) = inl is
among (q ∷ more) p (inr later) = inr (among more p later)

pub one_of : (these : List ℕ) (p : ℕ) → IsAmong these p → IsOneOf these p
one_of [] p one = one
one_of (q ∷ more) p (inl is) = inl is
one_of (q ∷ more) p (inr later) = inr (one_of more p later)

module _ (relation s : ℕ) (h k : Place → Option ℕ) (these : List ℕ) (lock : ℕ → Option ℕ) (old : (page : ℕ) → lock page ≡ h (page_of relation page)) (takes : TakesAll h k relation these s) where
  -- what other sessions lock stays theirs
  pub takes_own : OwnLocks s lock (λ page. k (page_of relation page))
  takes_own = record {
    others = λ page n locked other. ⊎_elim
        (λ (mine : (relation ≡ relation) × IsOneOf these page). absurd (other (takes.free page mine.1 n (sym (old page) ∙ locked))))
        (λ (same : k (page_of relation page) ≡ h (page_of relation page)). same ∙ sym (old page) ∙ locked)
        (takes.others (page_of relation page));
    taken = λ page n locked other. ⊎_elim
        (λ (mine : (relation ≡ relation) × IsOneOf these page). absurd (other (same_Some n s (sym locked ∙ takes.now page mine.1))))
        (λ (same : k (page_of relation page) ≡ h (page_of relation page)). old page ∙ sym same ∙ locked)
        (takes.others (page_of relation page));
  }

  pub takes_these : LocksNone lock s → LocksThese (λ page. k (page_of relation page)) s these
  takes_these none = record {
    locked = λ page one. takes.now page (one_of these page one);
    only = λ page locked. ⊎_elim
        (λ (mine : (relation ≡ relation) × IsOneOf these page). among these page mine.1)
        (λ (same : k (page_of relation page) ≡ h (page_of relation page)). absurd (none page (old page ∙ sym same ∙ locked)))
        (takes.others (page_of relation page));
  }

-- where the first page is free, it is one of the others that is held
pub first_rest : (h : Place → Option ℕ) (relation s x : ℕ) (more : List ℕ) (q : ℕ) → IsFreeFor h s (page_of relation x) → IsFirstHeld h relation s (x ∷ more) q → IsFirstHeld h relation s more q
first_rest h relation s x more q free (FirstHeld _ n _ locked other) = absurd (other (free n locked))
first_rest h relation s x more q free (LaterHeld _ _ _ none later) = later

-- the first page that is held is the first one that another session locks
pub first_locked : (h : Place → Option ℕ) (relation s : ℕ) (lock : ℕ → Option ℕ) (pages : List ℕ) (q : ℕ) → ((page : ℕ) → lock page ≡ h (page_of relation page)) → IsFirstHeld h relation s pages q → IsFirstLocked lock s pages q
first_locked h relation s lock _ _ old (FirstHeld p n more locked other) = First p more (n, old p ∙ locked, other)
first_locked h relation s lock _ _ old (LaterHeld p q more none later) = Later p q more (λ n locked. none n (sym (old p) ∙ locked)) (first_locked h relation s lock more q old later)

-- the locks of other relations stay, and those of other actors
pub takes_apart : (relation at s : ℕ) (h k : Place → Option ℕ) (these : List ℕ) → relation ≡ at → TakesAll h k relation these s → LeavesLocks h k at s
takes_apart relation at s h k these is takes = record { elsewhere = elsewhere; others = others }
  where
    elsewhere : (page : Place) → page.relation ≢ at → h page ≢ Some s → k page ≡ h page
    elsewhere page other none = ⊎_elim
        (λ (mine : (page.relation ≡ relation) × IsOneOf these page.block). absurd (other (mine.0 ∙ is)))
        (λ (same : k page ≡ h page). same)
        (takes.others page)

    here : (page : Place) → page.relation ≡ relation → page_of relation page.block ≡ page
    here page is_here = ap (λ (r : ℕ). page_of r page.block) (sym is_here)

    was_too : (page : Place) (n : ℕ) → n ≢ s → k page ≡ Some n → h page ≡ Some n
    was_too page n other now = ⊎_elim
        (λ (mine : (page.relation ≡ relation) × IsOneOf these page.block). absurd (other (same_Some n s (sym now ∙ ap k (sym (here page mine.0)) ∙ takes.now page.block mine.1))))
        (λ (same : k page ≡ h page). sym same ∙ now)
        (takes.others page)

    is_still : (page : Place) (n : ℕ) → n ≢ s → h page ≡ Some n → k page ≡ Some n
    is_still page n other was = ⊎_elim
        (λ (mine : (page.relation ≡ relation) × IsOneOf these page.block). absurd (other (takes.free page.block mine.1 n (ap h (here page mine.0) ∙ was))))
        (λ (same : k page ≡ h page). same ∙ was)
        (takes.others page)

    others : (page : Place) (n : ℕ) → n ≢ s → (k page ≡ Some n) ↔ (h page ≡ Some n)
    others page n other = (was_too page n other, is_still page n other)

pub gives_apart : (at s : ℕ) (h k : Place → Option ℕ) → GivesAll h k s → LeavesLocks h k at s
gives_apart at s h k gives = record {
  elsewhere = λ page other none. by_holder page none (h page) (k page) refl refl;
  others = λ page n other. (gives.only page n, gives.kept page n other);
}
  where
    by_holder : (page : Place) → h page ≢ Some s → (a b : Option ℕ) → h page ≡ a → k page ≡ b → b ≡ a
    by_holder page none None None was now = refl
    by_holder page none None (Some m) was now = absurd (none-some m (sym was ∙ gives.only page m now))
    by_holder page none (Some n) b was now = sym now ∙ gives.kept page n (λ same. none (was ∙ ap Some same)) was

-- locks that are given
pub gives_own : (relation s : ℕ) (h k : Place → Option ℕ) (lock : ℕ → Option ℕ) → ((page : ℕ) → lock page ≡ h (page_of relation page)) → GivesAll h k s → OwnLocks s lock (λ page. k (page_of relation page))
gives_own relation s h k lock old gives = record {
  others = λ page n locked other. gives.kept (page_of relation page) n other (sym (old page) ∙ locked);
  taken = λ page n locked other. old page ∙ gives.only (page_of relation page) n locked;
}

-- locks that stay
pub same_apart : (relation s : ℕ) (h : Place → Option ℕ) → LeavesLocks h h relation s
same_apart relation s h = record { elsewhere = λ page other none. refl; others = λ page n other. (λ is. is, λ is. is) }

pub takes_none : (n : ℕ) (locks : LockState) (s : ℕ) → TakesAtMost n locks locks s
takes_none n locks s = record { limit = refl; adds = record { own = omega arith; others = λ a other. refl; all = omega arith } }

-- so many, or more
pub takes_more : (m n : ℕ) (old new : LockState) (s : ℕ) → m ≤ n → new.limit ≡ old.limit → AddsAtMost old new s m → TakesAtMost n old new s
takes_more m n old new s few limit adds = record { limit = limit; adds = record { own = omega (arith, adds.own, few); others = adds.others; all = omega (arith, adds.all, few) } }

-- so many locks more than none
pub few_more : (n held some : ℕ) (old new : LockState) (s : ℕ) → AddsAtMost old new s n → locks_of old s ≤ held → held + n ≤ some → locks_of new s ≤ some
few_more n held some old new s adds few fits = omega (arith, adds.own, few, fits)
