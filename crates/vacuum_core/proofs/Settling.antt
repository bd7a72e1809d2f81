-- where a vacuum comes by a step in its table
use Rattle.std.proofs.Common.{◌≡◌, ◌≢◌, inl, inr, ℕ, zero, suc, ◌+◌, ◌≤◌, ◌<◌, List, [], ◌∷◌, length, Option, None, Some, refl, sym, ap, subst, ◌∙◌, arith}
use Rattle.std.specs.Prelude.{drop, slice_get}
use Rattle.std.proofs.lemmas.Bool.{cases_eq, cases_lt}
use Rattle.store_layout.specs.DiskLayout.{DiskLayout}
use Rattle.page_map.specs.PageMap.{PageMap}
use Rattle.coverage.specs.IndexView.{Pages, Unstarted}
use Rattle.coverage.specs.PageOrder.{IsForTuples}
use Rattle.coverage.specs.Machines.{ShownTable, Unseen, table_state, task_turned}
use Rattle.coverage.specs.Table.{Resting, Task, TableState, pick}
use Rattle.coverage.specs.TableSteps.{GivesLock, GoesOn, HasTuples, IsFrom, IsMaintained, IsNextPage, Onward, SameRows, Settles, TaskTurns}
use Rattle.index_contents.specs.IndexContents.{contents}
use Rattle.vacuum_core.specs.NextPages.{HasNoneFrom, InALaterOne, InThisIndex, IsNextIn, NoIndexLeft}
use Rattle.vacuum_core.specs.TableSteps.{lock_turned}
use Rattle.vacuum_core.proofs.PageKinds.{unstarted_has_none}

pub pick_same : (i : ℕ) → {A : Type 0} → (a b : A) → pick i i a b ≡ a
pick_same zero a b = refl
pick_same (suc i) a b = pick_same i a b

pub pick_other : (i j : ℕ) → {A : Type 0} → (a b : A) → i ≢ j → pick i j a b ≡ b
pick_other zero zero a b apart = absurd (apart refl)
pick_other zero (suc j) a b apart = refl
pick_other (suc i) zero a b apart = refl
pick_other (suc i) (suc j) a b apart = pick_other i j a b (λ e. apart (ap suc e))

-- in a kept index none has tuples from there on
pub none_from : (pages : Pages) (from : ℕ) → ((p q : ℕ) → p < q → pages.kind p ≡ Unstarted → pages.kind q ≡ Unstarted)
    → ((p : ℕ) → pages.kind p ≢ Unstarted → p < pages.limit) → HasNoneFrom pages from → (p : ℕ) → from ≤ p → IsForTuples pages p → ⊥
none_from pages from started below none p low has = elim (cases_lt p none.end) [
  | inl before ↦ none.none p low before has
  | inr past ↦ elim none.ends [
    | inl unstarted ↦ elim (cases_eq p none.end) [
      | inl same ↦ unstarted_has_none pages p (ap pages.kind same ∙ unstarted) has
      | inr other ↦ unstarted_has_none pages p (started none.end p (omega (arith, past, other)) unstarted) has
    ]
    | inr limit ↦
        let there : p < pages.limit = below p (λ unstarted. unstarted_has_none pages p unstarted has) in
        absurd (omega (arith, there, limit, past))
  ]
]

-- The table's index at each place is the one of these numbers that stands there, and its pages stand in order.
pub record ShowsIndexes (v : TableState) (layout : DiskLayout) (stored : PageMap) (numbers : List ℕ) : Type 0 where
  pub count : v.indexes ≡ length numbers
  pub kinds : (at n p : ℕ) → slice_get numbers at ≡ Some n → (v.index at).pages.kind p ≡ (contents layout stored n).pages.kind p
  pub started : (at n p q : ℕ) → slice_get numbers at ≡ Some n → p < q → (contents layout stored n).pages.kind p ≡ Unstarted → (contents layout stored n).pages.kind q ≡ Unstarted
  pub below : (at n p : ℕ) → slice_get numbers at ≡ Some n → ((contents layout stored n).pages.kind p ≡ Unstarted → ⊥) → p < (contents layout stored n).pages.limit

-- the page that comes next in the table
abbrev pub IsNextThere : TableState → (at from : ℕ) → Option (ℕ × ℕ) → Type 0
IsNextThere v at from (Some next) = IsNextPage v at from next.0 next.1
IsNextThere v at from None = (m p : ℕ) → HasTuples v m p → IsFrom at from m p → ⊥

for_tuples : (pages other : Pages) (p : ℕ) → pages.kind p ≡ other.kind p → IsForTuples pages p → IsForTuples other p
for_tuples pages other p same is = elim is [
  | inl regular ↦ inl (sym same ∙ regular)
  | inr emptying ↦ inr (sym same ∙ emptying)
]

module _ (v : TableState) (layout : DiskLayout) (stored : PageMap) (numbers : List ℕ) (shows : ShowsIndexes v layout stored numbers) where
  here : (at n p : ℕ) → slice_get numbers at ≡ Some n → HasTuples v at p → IsForTuples (contents layout stored n).pages p
  here at n p is has = for_tuples (v.index at).pages (contents layout stored n).pages p (shows.kinds at n p is) has.1

  there : (at n p : ℕ) → at < length numbers → slice_get numbers at ≡ Some n → IsForTuples (contents layout stored n).pages p → HasTuples v at p
  there at n p below is has = (omega (arith, below, shows.count), for_tuples (contents layout stored n).pages (v.index at).pages p (sym (shows.kinds at n p is)) has)

  none_in : (at n from : ℕ) → slice_get numbers at ≡ Some n → HasNoneFrom (contents layout stored n).pages from → (p : ℕ) → from ≤ p → HasTuples v at p → ⊥
  none_in at n from is none p low has =
      none_from (contents layout stored n).pages from (λ x y. shows.started at n x y is) (λ x. shows.below at n x is) none p low (here at n p is has)

  -- one index without such a page is passed
  passes : (at from : ℕ) (next : Option (ℕ × ℕ)) → ((p : ℕ) → from ≤ p → HasTuples v at p → ⊥) → IsNextThere v (at + 1) 0 next → IsNextThere v at from next
  passes at from None none last = λ m p has after. elim after [
    | inl later ↦ last m p has (elim (cases_eq m (at + 1)) [
      | inl same ↦ inr (sym same, omega arith)
      | inr other ↦ inl (omega (arith, later, other))
    ])
    | inr same ↦ none p same.1 (subst (λ (k : ℕ). HasTuples v k p) (sym same.0) has)
  ]
  passes at from (Some next) none is = record {
    has = is.has;
    after = elim is.after [
      | inl later ↦ inl (omega (arith, later))
      | inr same ↦ inl (let e = same.0 in omega (arith, e))
    ];
    first = λ n q has after. elim after [
      | inl later ↦ is.first n q has (elim (cases_eq n (at + 1)) [
        | inl same ↦ inr (sym same, omega arith)
        | inr other ↦ inl (omega (arith, later, other))
      ])
      | inr same ↦ absurd (none q same.1 (subst (λ (k : ℕ). HasTuples v k q) (sym same.0) has))
    ];
  }

  pub next_there : (rest : List ℕ) (at from : ℕ) (next : Option (ℕ × ℕ)) → at + length rest ≡ length numbers → ((k n : ℕ) → slice_get rest k ≡ Some n → slice_get numbers (at + k) ≡ Some n) → IsNextIn layout stored rest at from next → IsNextThere v at from next
  next_there _ _ _ _ long each (NoIndexLeft at from) = λ m p has after. elim after [
    | inl later ↦ absurd (let below = has.0 in omega (arith, below, later, long, shows.count))
    | inr same ↦ absurd (let below = has.0 in let e = same.0 in omega (arith, below, e, long, shows.count))
  ]
  next_there _ _ _ _ long each (InThisIndex index at from page indexes first) =
      let e : at + 0 ≡ at = omega arith in
      let is : slice_get numbers at ≡ Some index = subst (λ (k : ℕ). slice_get numbers k ≡ Some index) e (each 0 index refl) in
      record {
        has = there at index page (omega (arith, long)) is first.is;
        after = inr (refl, first.behind);
        first = λ n q has after. elim after [
          | inl later ↦ inl later
          | inr same ↦ elim (cases_lt q page) [
            | inl before ↦ absurd (first.first q same.1 before (here at index q is (subst (λ (k : ℕ). HasTuples v k q) (sym same.0) has)))
            | inr past ↦ inr (same.0, past)
          ]
        ];
      }
  next_there _ _ _ _ long each (InALaterOne index at from indexes next none later) =
      let e : at + 0 ≡ at = omega arith in
      let is : slice_get numbers at ≡ Some index = subst (λ (k : ℕ). slice_get numbers k ≡ Some index) e (each 0 index refl) in
      passes at from next (λ p low has. none_in at index from is none p low has)
      (next_there indexes (at + 1) 0 next (omega (arith, long)) (λ k n there. let f : at + suc k ≡ at + 1 + k = omega arith in subst (λ (i : ℕ). slice_get numbers i ≡ Some n) f (each (suc k) n there)) later)

-- the places of what is left of a list
pub get_drop : (at k : ℕ) (l : List ℕ) → slice_get (drop at l) k ≡ slice_get l (at + k)
get_drop zero k l = let e : k ≡ 0 + k = omega arith in ap (λ (n : ℕ). slice_get l n) e
get_drop (suc at) k [] = refl
get_drop (suc at) k (x ∷ l) = let e : suc (at + k) ≡ suc at + k = omega arith in get_drop at k l ∙ ap (λ (n : ℕ). slice_get (x ∷ l) n) e

module _ (s : ℕ) (shown : ShownTable) (u : Unseen) (held : Option ℕ) where
  abbrev pub at_task : Task → TableState
  at_task task = table_state shown (lock_turned held (task_turned s task u))

  turns_by : (old new : Task) (held_then : Option ℕ) → TaskTurns s (at_task old) (table_state shown (lock_turned held_then (task_turned s new u))) old new
  turns_by old new held_then = record {
    was = pick_same s old (u.task s);
    now = pick_same s new (u.task s);
    others = λ n. elim (cases_eq n s) [
      | inl is ↦ inl is
      | inr other ↦ inr (pick_other n s new (u.task n) other ∙ sym (pick_other n s old (u.task n) other))
    ];
  }

  same_rows : (old new : Task) (held_then : Option ℕ) → SameRows (at_task old) (table_state shown (lock_turned held_then (task_turned s new u)))
  same_rows old new held_then = record { layout = record { indexes = refl; rows_per_page = refl; heap_limit = refl }; blocks = refl; row = λ b k. refl; counts = λ t. refl }

  pub settles_by : (old new : Task) → Onward (at_task old) old new → Settles s (at_task old) (at_task new)
  settles_by old new onward = GoesOn old new onward (turns_by old new held)
      (record { rows = same_rows old new held; indexes = record { index = λ i. refl }; summarise_lock = refl })

  pub replies_by : (old : Task) → IsMaintained (at_task old) old → Settles s (at_task old) (table_state shown (lock_turned None (task_turned s Resting u)))
  replies_by old done = GivesLock old done (turns_by old Resting None) refl (same_rows old Resting None) (record { index = λ i. refl })
