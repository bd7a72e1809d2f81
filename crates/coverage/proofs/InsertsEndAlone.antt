-- An insert whose session steps alone ends, or waits, within six steps an index.
use Rattle.std.proofs.Common.{◌≡◌, ◌⊎◌, inl, inr, ⊎_elim, ℕ, ◌+◌, ◌*◌, ◌≤◌, ◌<◌, sym, ◌∙◌, ap, subst, arith, suc}
use Rattle.std.specs.Prelude.{refl}
use Rattle.block_model.specs.declared.row.Row.{Row}
use Rattle.coverage.specs.Statements.{OnIndex, Empty, Idle, Inserting, building_of, loose_of}
use Rattle.coverage.specs.Stuck.{InsertsAlone, LastStep, OneMore, AreNamed}
use Rattle.coverage.proofs.InsertsEnd.{insert_bound, begun_bound}
use Rattle.coverage.specs.Table.{Index, Task, Resting, Reaches, Asks, Inserts, TableState, seen_by, index_view_at}
use Rattle.coverage.specs.TableSteps.{OnlyTurns, Onward, Stays, ToAsk, ToIndex, Inserted, IsMaintained, Settles, GoesOn, GivesLock, TableStep}
use Rattle.coverage.specs.GoingOn.{IsInserting, StepsAlone, LastAlone, OneMoreAlone}
use Rattle.coverage.specs.TableCovered.{IsInTable, IsTableKept}
use Rattle.coverage.proofs.TableSettled.{does_layout, settles_layout}
use Rattle.coverage.proofs.StepDid.{Did, DidAsk, DidInsert, DidComplete, step_did}
use Rattle.coverage.proofs.TableSeen.{table_step_kept}

-- where it comes by that
module _ (u : TableState) (b k : ℕ) (r : Row) (at : ℕ) where
  insert_onward : (h : OnIndex) (t : Task) → Onward u (Inserts b k r at h) t → t ≡ Inserts b k r at h
  insert_onward h _ (Stays _ has) = refl

  reach_onward : (t : Task) → Onward u (Reaches b k r at) t → (t ≡ Asks b k r at) ⊎ (t ≡ Inserts b k r at Empty) ⊎ (t ≡ Resting)
  reach_onward _ (Stays _ has) = absurd has
  reach_onward _ (ToAsk _ _ _ _ inside asks) = inl refl
  reach_onward _ (ToIndex _ _ _ _ inside not) = inr (inl refl)
  reach_onward _ (Inserted _ _ _ _ all) = inr (inr refl)

  insert_unmaintained : (h : OnIndex) → IsMaintained u (Inserts b k r at h) → ⊥
  insert_unmaintained h done = elim done [ ]

  reach_unmaintained : IsMaintained u (Reaches b k r at) → ⊥
  reach_unmaintained done = elim done [ ]

-- where nothing but tasks may have changed, and those haven't, an index shows the same
pub same_view : (at : ℕ) (u v : TableState) → OnlyTurns u v → ((n : ℕ) → v.task n ≡ u.task n) → index_view_at at v ≡ index_view_at at u
same_view at u v only tasks = λ j. record {
  contents = ap (λ (x : Index). x.contents) (only.indexes.index at) j;
  pages_per_range = ap (λ (x : Index). x.pages_per_range) (only.indexes.index at) j;
  blocks = only.rows.blocks j;
  row = λ b k. only.rows.row b k j;
  entry = λ m. ap (λ (x : Index). x.entry m) (only.indexes.index at) j;
  tuple = λ y. ap (λ (x : Index). x.tuple y) (only.indexes.index at) j;
  pages = ap (λ (x : Index). x.pages) (only.indexes.index at) j;
  lock = λ p. ap (λ (x : Index). x.lock p) (only.indexes.index at) j;
  summarise_lock = only.summarise_lock j;
  building = λ n. building_of (seen_by at (tasks n j));
  loose = λ n. loose_of (seen_by at (tasks n j));
  unnamed = λ y. ap (λ (x : Index). x.unnamed y) (only.indexes.index at) j;
}

module _ (s : ℕ) (u v : TableState) (b k : ℕ) (r : Row) (at : ℕ) where
  settle_stays : (h : OnIndex) → Settles s u v → u.task s ≡ Inserts b k r at h
      → (v.task s ≡ Inserts b k r at h) × (index_view_at at v ≡ index_view_at at u)
  settle_stays h settles is = by settles
    where
      by : Settles s u v → (v.task s ≡ Inserts b k r at h) × (index_view_at at v ≡ index_view_at at u)
      by (GoesOn old new onward turns only) =
          let same : new ≡ Inserts b k r at h = insert_onward u b k r at h new (subst (λ t. Onward u t new) (sym turns.was ∙ is) onward) in (
            turns.now ∙ same,
            same_view at u v only (λ n. elim (turns.others n) [ inl here ↦ ap v.task here ∙ turns.now ∙ same ∙ sym is ∙ ap u.task (sym here) | inr e ↦ e ]),
          )
      by (GivesLock old done turns given rows indexes) =
          absurd (insert_unmaintained u b k r at h (subst (IsMaintained u) (sym turns.was ∙ is) done))

  settle_reaches : Settles s u v → u.task s ≡ Reaches b k r at
      → (v.task s ≡ Asks b k r at) ⊎ (v.task s ≡ Inserts b k r at Empty) ⊎ (v.task s ≡ Resting)
  settle_reaches settles is = by settles
    where
      by : Settles s u v → (v.task s ≡ Asks b k r at) ⊎ (v.task s ≡ Inserts b k r at Empty) ⊎ (v.task s ≡ Resting)
      by (GoesOn old new onward turns only) = ⊎_elim
          (λ (asks : new ≡ Asks b k r at). inl (turns.now ∙ asks))
          (λ (other : (new ≡ Inserts b k r at Empty) ⊎ (new ≡ Resting)). ⊎_elim
          (λ (inserts : new ≡ Inserts b k r at Empty). inr (inl (turns.now ∙ inserts)))
          (λ (rests : new ≡ Resting). inr (inr (turns.now ∙ rests)))
          other)
          (reach_onward u b k r at new (subst (λ t. Onward u t new) (sym turns.was ∙ is) onward))
      by (GivesLock old done turns given rows indexes) = absurd (reach_unmaintained u b k r at (subst (IsMaintained u) (sym turns.was ∙ is) done))

-- how many steps are left, by what the insert is at
abbrev Within : ℕ → ℕ → TableState → Task → Type 0
Within s n w (Asks b k r at) = n + 6 * at ≤ 6 * w.indexes
Within s n w (Inserts b k r at g) = (m : ℕ) × (j : ℕ) × InsertsAlone s b k r m (index_view_at at w) g × (n ≡ m + j) × (j + 6 * suc at ≤ 6 * w.indexes)
Within s n w task = Unit

one_left : (a n : ℕ) → a < n → 1 + 6 * a ≤ 6 * n
one_left a n less = omega arith

named_at : (w : TableState) (at : ℕ) → IsTableKept w → at < w.indexes → AreNamed (index_view_at at w)
named_at w at kept below range x is = (kept.indexes at below).sound.entries_name_tuples range x is

module _ (s : ℕ) where
  module _ (w v : TableState) (step : TableStep s w v) (kept : IsTableKept w) where
    abbrev u : TableState
    u = step.between

    last_within : (task new : Task) → Did s w u task new → IsInTable w task → Within s 1 w task
    last_within _ _ (DidAsk b k r at) below = one_left at w.indexes below
    last_within _ _ (DidInsert b k r at g h done) below =
        (1, 0, LastStep (index_view_at at w) (index_view_at at u) g (Inserting b k r h) done, refl, omega arith)
    last_within _ _ (DidComplete b k r at g done) below =
        (1, 0, LastStep (index_view_at at w) (index_view_at at u) g Idle done, refl, omega arith)
    last_within _ _ _ below = tt

    same_indexes : v.indexes ≡ w.indexes
    same_indexes = settles_layout s u v step.settles ∙ does_layout s w u step.does

    below_on : (at : ℕ) → at < w.indexes → at < v.indexes
    below_on at below = subst (λ n. at < n) (sym same_indexes) below

    ask_left : (n m j a i : ℕ) → n ≡ m + j → m ≤ 5 → j + 6 * suc a ≤ 6 * i → suc n + 6 * a ≤ 6 * i
    ask_left n m j a i is le more = omega arith

    next_within : (n : ℕ) → IsTableKept v → (v.task s ≡ Resting → ⊥) → Within s n v (v.task s) → (task new : Task) → Did s w u task new → u.task s ≡ new
        → IsInTable w task → Within s (suc n) w task
    next_within n kept_v going more _ _ (DidAsk b k r at) is below =
        let stays = settle_stays s u v b k r at Empty step.settles is in
        let left = subst (Within s n v) stays.0 more in
        ask_left n left.0 left.1 at w.indexes left.3
        (begun_bound s b k r left.0 (index_view_at at v) (named_at v at kept_v (below_on at below)) left.2)
        (subst (λ i. left.1 + 6 * suc at ≤ 6 * i) same_indexes left.4)
    next_within n kept_v going more _ _ (DidInsert b k r at g h done) is below =
        let stays = settle_stays s u v b k r at h step.settles is in
        let left = subst (Within s n v) stays.0 more in (
          suc left.0,
          left.1,
          OneMore left.0 (index_view_at at w) (index_view_at at u) g h done (subst (λ z. InsertsAlone s b k r left.0 z h) stays.1 left.2),
          omega (arith, left.3),
          subst (λ i. left.1 + 6 * suc at ≤ 6 * i) same_indexes left.4,
        )
    next_within n kept_v going more _ _ (DidComplete b k r at g done) is below = (
      1,
      n,
      LastStep (index_view_at at w) (index_view_at at u) g Idle done,
      omega arith,
      ⊎_elim
          (λ (asks : v.task s ≡ Asks b k r (suc at)).
          subst (λ i. n + 6 * suc at ≤ 6 * i) same_indexes (subst (Within s n v) asks more))
          (λ (other : (v.task s ≡ Inserts b k r (suc at) Empty) ⊎ (v.task s ≡ Resting)). ⊎_elim
          (λ (inserts : v.task s ≡ Inserts b k r (suc at) Empty).
          let left = subst (Within s n v) inserts more in
          let inside : suc at < v.indexes = subst (IsInTable v) inserts (kept_v.inside s) in
          subst (λ i. n + 6 * suc at ≤ 6 * i) same_indexes
          (omega (arith, left.3, begun_bound s b k r left.0 (index_view_at (suc at) v) (named_at v (suc at) kept_v inside) left.2, left.4)))
          (λ (rests : v.task s ≡ Resting). absurd (going rests))
          other)
          (settle_reaches s u v b k r (suc at) step.settles is),
    )
    next_within n kept_v going more _ _ _ is below = tt

  within : (n : ℕ) (w : TableState) → StepsAlone s n w → IsTableKept w → Within s n w (w.task s)
  within _ _ (LastAlone w v step p point) kept =
      last_within w v step kept (w.task s) (step.between.task s) (step_did s w step.between p step.does point) (kept.inside s)
  within _ _ (OneMoreAlone n w v step p point going more) kept =
      let kept_v = table_step_kept s w v kept step in
      next_within w v step kept n kept_v going (within n v more kept_v) (w.task s) (step.between.task s)
      (step_did s w step.between p step.does point) refl (kept.inside s)

  pub insert_within : (n : ℕ) (w : TableState) → IsTableKept w → IsInserting (w.task s) → StepsAlone s n w → n ≤ 6 * w.indexes
  insert_within n w kept inserting alone = by (w.task s) refl inserting (within n w alone kept)
    where
      ask_bound : (n a i : ℕ) → n + 6 * a ≤ 6 * i → n ≤ 6 * i
      ask_bound n a i le = omega arith

      by : (task : Task) → w.task s ≡ task → IsInserting task → Within s n w task → n ≤ 6 * w.indexes
      by (Asks b k r at) is it le = ask_bound n at w.indexes le
      by (Inserts b k r at g) is it left =
          let below : at < w.indexes = subst (IsInTable w) is (kept.inside s) in
          omega (arith, left.3, insert_bound s b k r left.0 (index_view_at at w) g (named_at w at kept below) left.2, left.4)
      by _ is it left = absurd it

  -- with the step that puts its row it is one more
  pub begun_within : (n : ℕ) (w v : TableState) → TableStep s w v → IsTableKept w → IsInserting (v.task s) → StepsAlone s n v → suc n ≤ 1 + 6 * w.indexes
  begun_within n w v step kept inserting alone =
      omega (arith, subst (λ i. n ≤ 6 * i) (same_indexes w v step kept) (insert_within n v (table_step_kept s w v kept step) inserting alone))
