-- what a call makes of the locks where an actor takes some
use Rattle.std.proofs.Common.{◌≡◌, ◌≢◌, ℕ, zero, suc, ◌+◌, ◌<◌, ◌≤◌, get_or, drop, Bool, true, false, cond, List, [], ◌∷◌, ◌++◌, length, Option, Some, None, refl, sym, ap, ◌∙◌, subst, inl, inr, ⊎_elim, arith}
use Rattle.std.specs.Ordering.{eq_by_cmp}
use Rattle.std.specs.FinMap.{get, insert, remove, len, get-insert, get-remove, len-insert, contains_key, same_map}
use Rattle.std.proofs.lemmas.List.{drop_more}
use Rattle.std.proofs.lemmas.Bool.{cond-true, cond-false, cases_Bool, eq-eqb, ne_eqb}
use Rattle.block_model.specs.declared.place.Place.{Place}
use Rattle.block_model.specs.NumberMaps.{none_Some, same_Some}
use Rattle.page_locks.specs.declared.held.Held.{Held}
use Rattle.page_locks.specs.LockHolders.{Holders, LockState, place_cmp, places_total, places_exact, holder, with_lock}
use Rattle.page_locks.specs.LockChanges.{page_of, IsOneOf, IsFreeFor, IsAnothers, TakesAll, IsFirstHeld, FirstHeld, LaterHeld}
use Rattle.page_locks.specs.LockCounts.{AddsAtMost}
use Rattle.page_locks.specs.HeldLocks.{found, holders_of, shown, with_locks}
use Rattle.page_locks.proofs.Places.{same_place, ties_itself}
use Rattle.page_locks.proofs.Entries.{held_in_map, holders_push, insert_same}
use Rattle.page_locks.proofs.Counts.{one, held_by, insert_counted}

pub counts_same : (s : LockState) (actor more : ℕ) → AddsAtMost s s actor more
counts_same s actor more = record { own = omega arith; others = λ a _. refl; all = omega arith }

-- how counts of an actor change
pub record SomeMore (m k : Holders) (actor more : ℕ) : Type 0 where
  pub own : held_by k actor ≤ held_by m actor + more
  pub others : (a : ℕ) → a ≢ actor → held_by k a ≡ held_by m a
  pub all : len k ≤ len m + more

pub adds : (s t : LockState) (actor more : ℕ) → SomeMore s.holders t.holders actor more → AddsAtMost s t actor more
adds s t actor more h = record { own = h.own; others = h.others; all = h.all }

len_bounded : (b : Bool) (n : ℕ) → cond b n (n + 1) ≤ n + 1
len_bounded true n = omega arith
len_bounded false n = omega arith

pub one_more : (m : Holders) (q : Place) (actor : ℕ) → IsFreeFor (get m) actor q → SomeMore m (insert m q actor) actor 1
one_more m q actor free = elim (get m q) as (λ (o : Option ℕ). get m q ≡ o → SomeMore m (insert m q actor) actor 1) [
  | None ↦ λ none. record {
    own = omega (arith, insert_counted m q actor actor none, ap one (eq-eqb actor actor refl));
    others = λ a other. omega (arith, insert_counted m q actor a none, ap one (ne_eqb actor a (λ e. other (sym e))));
    all = omega (arith, len-insert places_total m q actor, len_bounded (contains_key m q) (len m));
  }
  | Some n ↦ λ is.
      let same : m ≡ insert m q actor = insert_same m q actor (is ∙ ap Some (free n is)) in
      subst (λ (k : Holders). SomeMore m k actor 1) same (record { own = omega arith; others = λ a _. refl; all = omega arith })
] refl

-- who holds a page after one was taken
pub taken_here : (m : Holders) (q : Place) (actor : ℕ) → get (insert m q actor) q ≡ Some actor
taken_here m q actor = get-insert places_total m q actor q ∙ cond-true (eq_by_cmp place_cmp q q) (Some actor) (get m q) (ties_itself q)

pub taken_elsewhere : (m : Holders) (q r : Place) (actor : ℕ) → eq_by_cmp place_cmp r q ≡ false → get (insert m q actor) r ≡ get m r
taken_elsewhere m q r actor other = get-insert places_total m q actor r ∙ cond-false (eq_by_cmp place_cmp r q) (Some actor) (get m r) other

-- a page that is free for the actor stays free for it
pub stays_free : (m : Holders) (q r : Place) (actor : ℕ) → IsFreeFor (get m) actor r → IsFreeFor (get (insert m q actor)) actor r
stays_free m q r actor free n is = elim (cases_Bool (eq_by_cmp place_cmp r q)) [
  | inl t ↦ sym (same_Some actor n (sym (taken_here m q actor) ∙ ap (get (insert m q actor)) (sym (same_place r q t)) ∙ is))
  | inr f ↦ free n (sym (taken_elsewhere m q r actor f) ∙ is)
]

-- no other actor holds one of the blocks
abbrev pub AllFree : (Place → Option ℕ) → ℕ → ℕ → List ℕ → Type 0
AllFree h relation actor blocks = (p : ℕ) → IsOneOf blocks p → IsFreeFor h actor (page_of relation p)

module _ (relation actor : ℕ) where
  later_free : (m : Holders) (b : ℕ) (blocks : List ℕ) → AllFree (get m) relation actor (b ∷ blocks) → AllFree (get (insert m (page_of relation b) actor)) relation actor blocks
  later_free m b blocks free p among = stays_free m (page_of relation b) (page_of relation p) actor (free p (inr among))

  pub taken_all : (m : Holders) (blocks : List ℕ) → AllFree (get m) relation actor blocks → TakesAll (get m) (get (with_locks m relation blocks actor)) relation blocks actor
  taken_all m [] free = record { free = free; now = λ p among. absurd among; others = λ q. inr refl }
  taken_all m (b ∷ blocks) free =
      let first : Place = page_of relation b in
      let m' : Holders = insert m first actor in
      let k : Place → Option ℕ = get (with_locks m' relation blocks actor) in
      let rest : TakesAll (get m') k relation blocks actor = taken_all m' blocks (later_free m b blocks free) in
      record {
        free = free;
        now = λ p among. ⊎_elim
            (λ (is : p ≡ b). subst (λ (x : ℕ). k (page_of relation x) ≡ Some actor) (sym is)
            (⊎_elim (λ (twice : (relation ≡ relation) × IsOneOf blocks b). rest.now b twice.1) (λ (same : k first ≡ get m' first). same ∙ taken_here m first actor) (rest.others first)))
            (λ (later : IsOneOf blocks p). rest.now p later) among;
        others = λ q. ⊎_elim
            (λ (one : (q.relation ≡ relation) × IsOneOf blocks q.block). inl (one.0, inr one.1))
            (λ (same : k q ≡ get m' q). elim (cases_Bool (eq_by_cmp place_cmp q first)) [
              | inl t ↦ inl (ap (λ (x : Place). x.relation) (same_place q first t), inl (ap (λ (x : Place). x.block) (same_place q first t)))
              | inr f ↦ inr (same ∙ taken_elsewhere m first q actor f)
            ]) (rest.others q);
      }

  pub some_more : (m : Holders) (blocks : List ℕ) → AllFree (get m) relation actor blocks → SomeMore m (with_locks m relation blocks actor) actor (length blocks)
  some_more m [] free = record { own = omega arith; others = λ a _. refl; all = omega arith }
  some_more m (b ∷ blocks) free =
      let first : Place = page_of relation b in
      let one : SomeMore m (insert m first actor) actor 1 = one_more m first actor (free b (inl refl)) in
      let rest : SomeMore (insert m first actor) (with_locks (insert m first actor) relation blocks actor) actor (length blocks) = some_more (insert m first actor) blocks (later_free m b blocks free) in
      record {
        own = omega (arith, one.own, rest.own);
        others = λ a other. rest.others a other ∙ one.others a other;
        all = omega (arith, one.all, rest.all);
      }

-- a free page that is taken and given
pub given_back : (m : Holders) (q : Place) (actor : ℕ) → get m q ≡ None → remove (insert m q actor) q ≡ m
given_back m q actor none = same_map places_total places_exact (remove (insert m q actor) q) m (λ (r : Place). get-remove places_total (insert m q actor) q r ∙ at r)
  where
    at : (r : Place) → cond (eq_by_cmp place_cmp r q) None (get (insert m q actor) r) ≡ get m r
    at r = elim (cases_Bool (eq_by_cmp place_cmp r q)) [
      | inl t ↦ cond-true (eq_by_cmp place_cmp r q) None (get (insert m q actor) r) t ∙ sym none ∙ ap (get m) (sym (same_place r q t))
      | inr f ↦ cond-false (eq_by_cmp place_cmp r q) None (get (insert m q actor) r) f ∙ taken_elsewhere m q r actor f
    ]

-- ---- the first that another holds

module _ (h : Place → Option ℕ) (relation actor : ℕ) where
  one_free_more : (b : ℕ) (blocks : List ℕ) → IsFreeFor h actor (page_of relation b) → AllFree h relation actor blocks → AllFree h relation actor (b ∷ blocks)
  one_free_more b blocks here rest p among = ⊎_elim
      (λ (is : p ≡ b). subst (λ (x : ℕ). IsFreeFor h actor (page_of relation x)) (sym is) here)
      (λ (later : IsOneOf blocks p). rest p later) among

  module _ (blocks : List ℕ) (i : ℕ) (below : i < length blocks) where
    abbrev block : ℕ
    block = get_or blocks i 0

    split : drop i blocks ≡ block ∷ drop (i + 1) blocks
    split = drop_more blocks i 0 below

    -- the block at hand is the first
    pub first_here : (lock : Held) → IsAnothers h actor (page_of relation block) lock.by → lock.page ≡ page_of relation block → IsFirstHeld h relation actor (drop i blocks) lock.page.block
    first_here lock another is =
        subst (λ (bs : List ℕ). IsFirstHeld h relation actor bs lock.page.block) (sym split)
        (subst (λ (b : ℕ). IsFirstHeld h relation actor (block ∷ drop (i + 1) blocks) b) (sym (ap (λ (page : Place). page.block) is)) (FirstHeld block lock.by (drop (i + 1) blocks) another.0 another.1))

    -- the block at hand is free
    pub first_later : (q : ℕ) → IsFreeFor h actor (page_of relation block) → IsFirstHeld h relation actor (drop (i + 1) blocks) q → IsFirstHeld h relation actor (drop i blocks) q
    first_later q free later = subst (λ (bs : List ℕ). IsFirstHeld h relation actor bs q) (sym split) (LaterHeld block q (drop (i + 1) blocks) free later)

    pub free_with : IsFreeFor h actor (page_of relation block) → AllFree h relation actor (drop (i + 1) blocks) → AllFree h relation actor (drop i blocks)
    free_with free rest = subst (AllFree h relation actor) (sym split) (one_free_more block (drop (i + 1) blocks) free rest)

-- the block at a place of the list is one of them
pub one_at : (blocks : List ℕ) (i : ℕ) → i < length blocks → IsOneOf blocks (get_or blocks i 0)
one_at [] i below = absurd (omega (arith, below))
one_at (b ∷ blocks) zero below = inl refl
one_at (b ∷ blocks) (suc i) below = inr (one_at blocks i (omega (arith, below)))

-- one block taken, and then those behind it
pub held_more : (m k : Holders) (relation actor : ℕ) (blocks : List ℕ) (i : ℕ) → i < length blocks → k ≡ insert m (page_of relation (get_or blocks i 0)) actor
    → with_locks k relation (drop (i + 1) blocks) actor ≡ with_locks m relation (drop i blocks) actor
held_more m k relation actor blocks i below is =
    ap (λ (x : Holders). with_locks x relation (drop (i + 1) blocks) actor) is
    ∙ sym (ap (λ (bs : List ℕ). with_locks m relation bs actor) (drop_more blocks i 0 below))

-- what is free for the actor stays so where it takes a page
pub all_stay_free : (held new : List Held) (page : Place) (relation actor : ℕ) (blocks : List ℕ) → holders_of new ≡ insert (holders_of held) page actor → AllFree (found held) relation actor blocks → AllFree (found new) relation actor blocks
all_stay_free held new page relation actor blocks is free p among n found_there =
    stays_free (holders_of held) page (page_of relation p) actor (λ k e. free p among k (sym (held_in_map held (page_of relation p)) ∙ e)) n
    (sym (ap (λ (m : Holders). get m (page_of relation p)) is) ∙ held_in_map new (page_of relation p) ∙ found_there)

-- ---- of lists, as contracts see them

-- who holds a page, by the map and by the list
pub same_holders : (held : List Held) → get (holders_of held) ≡ found held
same_holders held = λ i q. held_in_map held q i

pub free_of_none : (s : LockState) (page : Place) (actor : ℕ) → holder s page ≡ None → IsFreeFor (holder s) actor page
free_of_none s page actor none n is = absurd (none_Some n (sym none ∙ is))

pub adds_taken : (s t : LockState) (page : Place) (actor : ℕ) → t ≡ with_lock s page actor → IsFreeFor (holder s) actor page → AddsAtMost s t actor 1
adds_taken s t page actor is free = adds s t actor 1 (subst (λ (k : Holders). SomeMore s.holders k actor 1) (sym (ap (λ (x : LockState). x.holders) is)) (one_more s.holders page actor free))

pub holds_taken : (s t : LockState) (page : Place) (actor : ℕ) → t ≡ with_lock s page actor → holder t page ≡ Some actor
holds_taken s t page actor is = ap (λ (x : LockState). holder x page) is ∙ taken_here s.holders page actor

pub pushed : (held new : List Held) (x : Held) (limit : ℕ) → new ≡ held ++ x ∷ [] → found held x.page ≡ None → shown new limit ≡ with_lock (shown held limit) x.page x.by
pushed held new x limit is none = ap (λ (m : Holders). record (shown held limit) { holders = m }) (ap holders_of is ∙ holders_push held x none)

pub held_already : (s : LockState) (page : Place) (actor : ℕ) → holder s page ≡ Some actor → s ≡ with_lock s page actor
held_already s page actor is = ap (λ (m : Holders). record s { holders = m }) (insert_same s.holders page actor is)

module _ (held new : List Held) (limit relation actor : ℕ) (blocks : List ℕ) (is : holders_of new ≡ with_locks (holders_of held) relation blocks actor) (free : AllFree (found held) relation actor blocks) where
  free_in_map : AllFree (get (holders_of held)) relation actor blocks
  free_in_map = subst (λ (h : Place → Option ℕ). AllFree h relation actor blocks) (sym (same_holders held)) free

  pub list_takes : TakesAll (holder (shown held limit)) (holder (shown new limit)) relation blocks actor
  list_takes = subst (λ (k : Holders). TakesAll (get (holders_of held)) (get k) relation blocks actor) (sym is) (taken_all relation actor (holders_of held) blocks free_in_map)

  pub list_adds : AddsAtMost (shown held limit) (shown new limit) actor (length blocks)
  list_adds = adds (shown held limit) (shown new limit) actor (length blocks)
      (subst (λ (k : Holders). SomeMore (holders_of held) k actor (length blocks)) (sym is) (some_more relation actor (holders_of held) blocks free_in_map))
