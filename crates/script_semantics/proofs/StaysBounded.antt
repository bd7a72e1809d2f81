-- A table stays as small as it is while nothing joins it: over a turn, a dropped row, and a swept page.
use Rattle.std.proofs.Common.{◌≡◌, ⊎_elim, ℕ, ◌≤◌, ◌<◌, Bool, IsTrue, Some, sym, ap, ◌∙◌, subst}
use Rattle.std.proofs.lemmas.Option.{none-some}
use Rattle.block_model.specs.declared.place.Spot.{Spot}
use Rattle.coverage.specs.Changes.{IsUntouched}
use Rattle.coverage.specs.IndexView.{IndexTuple}
use Rattle.coverage.specs.Steps.{SweepsTuples}
use Rattle.coverage.specs.Table.{Index, TableState, index_view_at}
use Rattle.coverage.specs.TableSteps.{DropsRows, SameIndexes, SameRows, StepsIn}
use Rattle.script_semantics.specs.Bounds.{IsBounded, most_blocks, most_pages, most_slots}

pub same_bounds : (w v : TableState) → SameRows w v → SameIndexes w v → IsBounded w → IsBounded v
same_bounds w v rows same bounded =
    let before = λ (i : ℕ) (less : i < v.indexes). subst (λ n. i < n) rows.layout.indexes less in
    record {
      indexes = subst (λ n. n ≤ 8) (sym rows.layout.indexes) bounded.indexes;
      blocks = subst (λ n. n ≤ most_blocks) (sym rows.blocks) bounded.blocks;
      ranges = λ i less. subst (λ (x : Index). x.pages_per_range ≤ most_blocks) (sym (same.index i)) (bounded.ranges i (before i less));
      pages = λ i less. subst (λ (x : Index). x.pages.limit ≤ most_pages) (sym (same.index i)) (bounded.pages i (before i less));
      rows = λ b k r is. bounded.rows b k r (sym (rows.row b k) ∙ is);
      tuples = λ i less x t is. bounded.tuples i (before i less) x t (ap (λ (y : Index). y.tuple x) (sym (same.index i)) ∙ is);
    }

pub dropped_bounds : (w v : TableState) (block : ℕ) (dropped : ℕ → ℕ → Bool) → DropsRows w v block dropped → IsBounded w → IsBounded v
dropped_bounds w v block dropped drops bounded =
    let before = λ (i : ℕ) (less : i < v.indexes). subst (λ n. i < n) drops.layout.indexes less in
    record {
      indexes = subst (λ n. n ≤ 8) (sym drops.layout.indexes) bounded.indexes;
      blocks = subst (λ n. n ≤ most_blocks) (sym drops.blocks) bounded.blocks;
      ranges = λ i less. subst (λ (x : Index). x.pages_per_range ≤ most_blocks) (sym (drops.indexes.index i)) (bounded.ranges i (before i less));
      pages = λ i less. subst (λ (x : Index). x.pages.limit ≤ most_pages) (sym (drops.indexes.index i)) (bounded.pages i (before i less));
      rows = λ b k r is. ⊎_elim
          (λ (same : v.row b k ≡ w.row b k). bounded.rows b k r (sym same ∙ is))
          (λ (gone : IsTrue (dropped b k)). absurd (none-some r (sym (drops.gone b k gone) ∙ is)))
          (drops.rows b k);
      tuples = λ i less x t is. bounded.tuples i (before i less) x t (ap (λ (y : Index). y.tuple x) (sym (drops.indexes.index i)) ∙ is);
    }

module _ (s : ℕ) (w v : TableState) (at page : ℕ) (Sweeping : Spot → Type 0) (stepped : StepsIn at w v) (sweeps : SweepsTuples s (index_view_at at w) (index_view_at at v) page Sweeping) where
  tuple_before : (x : Spot) (t : IndexTuple) → (v.index at).tuple x ≡ Some t → (w.index at).tuple x ≡ Some t
  tuple_before x t is = ⊎_elim
      (λ (same : IsUntouched (index_view_at at w) (index_view_at at v) x). sym same.0 ∙ is)
      (λ (swept : (x.block ≡ page) × Sweeping x). absurd (none-some t (sym (sweeps.gone x swept.1).0 ∙ is)))
      (sweeps.places x)

  -- so it is of the index that is swept, and of each other one
  by_index : (P : Index → Type 0) → (P (w.index at) → P (v.index at)) → (i : ℕ) → P (w.index i) → P (v.index i)
  by_index P here i before = ⊎_elim
      (λ (is : i ≡ at). subst (λ j. P (v.index j)) (sym is) (here (subst (λ j. P (w.index j)) is before)))
      (λ (same : v.index i ≡ w.index i). subst P (sym same) before)
      (stepped.others i)

  pub swept_bounds : IsBounded w → IsBounded v
  swept_bounds bounded =
      let before = λ (i : ℕ) (less : i < v.indexes). subst (λ n. i < n) stepped.rows.layout.indexes less in
      record {
        indexes = subst (λ n. n ≤ 8) (sym stepped.rows.layout.indexes) bounded.indexes;
        blocks = subst (λ n. n ≤ most_blocks) (sym stepped.rows.blocks) bounded.blocks;
        ranges = λ i less. by_index (λ (x : Index). x.pages_per_range ≤ most_blocks) (λ le. subst (λ n. n ≤ most_blocks) (sym sweeps.frame.heap.pages_per_range) le) i
            (bounded.ranges i (before i less));
        pages = λ i less. by_index (λ (x : Index). x.pages.limit ≤ most_pages) (λ le. subst (λ n. n ≤ most_pages) (sym sweeps.page.limit) le) i (bounded.pages i (before i less));
        rows = λ b k r is. bounded.rows b k r (sym (stepped.rows.row b k) ∙ is);
        tuples = λ i less. by_index (λ (y : Index). (x : Spot) (t : IndexTuple) → y.tuple x ≡ Some t → x.slot < most_slots) (λ few x t is. few x t (tuple_before x t is)) i
            (bounded.tuples i (before i less));
      }
