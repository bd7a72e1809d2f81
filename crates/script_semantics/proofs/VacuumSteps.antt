-- How many steps a vacuum takes at most from where it is: at its cleaning, before an index, and amid an index's ranges.
use Rattle.std.proofs.Common.{◌≡◌, ◌≢◌, ◌⊎◌, inl, inr, ⊎_elim, ℕ, zero, suc, ◌+◌, ◌-◌, ◌*◌, ◌≤◌, ◌<◌, None, refl, sym, subst, arith, le_trans, mul-le-mul}
use Rattle.block_model.specs.declared.place.Spot.{Spot}
use Rattle.coverage.specs.Knowing.{Knows}
use Rattle.coverage.specs.PageOrder.{KnowsPages}
use Rattle.coverage.specs.Statements.{Empty, Maintaining, NotBuilding, Phase}
use Rattle.coverage.specs.Steps.{IsUnnamed}
use Rattle.coverage.specs.GoingOn.{LastAlone, OneMoreAlone, StepsAlone}
use Rattle.coverage.specs.StepsLeft.{AreAtMost, IsCleaning, IsSummarise, cleaning_steps, later_ranges}
use Rattle.coverage.specs.Table.{Considers, Index, Maintains, Prunes, Restarts, Resting, Sweeps, SweepsFrom, TableState, Task, WholeRanges, index_view_at}
use Rattle.coverage.specs.TableCovered.{IsInTable, IsTableKept}
use Rattle.coverage.specs.TableSteps.{HasRange, IsMaintained, OnlyTurns, Onward, Pruned, Stays, Swept, ToPage}
use Rattle.coverage.proofs.StepDid.{Did, DidAsk, DidBegin, DidComplete, DidInsert, DidJudge, DidMaintain, DidMark, DidPrune, DidRange, DidRead, DidRestart, DidSweep, step_did, step_settles}
use Rattle.coverage.proofs.SummariseEnds.{FromStays, alone_left, considers_onward, nothing_moved, only_stays}
use Rattle.coverage.proofs.MachinesIn.{maintain_knows}
use Rattle.coverage.proofs.SweepsEnd.{cleaning_fewer}
use Rattle.coverage.proofs.TableSeen.{table_step_kept}
use Rattle.script_semantics.specs.Bounds.{IsBounded, most_blocks, most_pages, most_slots}
use Rattle.script_semantics.proofs.RangeLeft.{left_at}
use Rattle.script_semantics.proofs.Sizes.{IsSmallAt, few_steps, in_index_few, later_few, most_in_index, prunes_few, small_at, sweeps_few}
use Rattle.script_semantics.proofs.StaysBounded.{dropped_bounds, same_bounds, swept_bounds}

self : (n : ℕ) → n ≤ n
self n = omega arith

-- with the step that begins at an index
abbrev an_index : ℕ
an_index = 6645000000001

-- ---- its indexes, which from the one that it is at on are as they were in the table w0

module _ (s : ℕ) (w0 : TableState) (small : (at : ℕ) → at < w0.indexes → IsSmallAt w0 at) where
  small_on : (at : ℕ) (w : TableState) → at < w0.indexes → FromStays at w0 w → IsSmallAt w at
  small_on at w below stays =
      let here = stays.index at (self at) in
      let before = small at below in
      record {
        blocks = subst (λ n. n ≤ most_blocks) (sym stays.blocks) before.blocks;
        ranges = subst (λ (x : Index). x.pages_per_range ≤ most_blocks) (sym here) before.ranges;
        pages = subst (λ (x : Index). x.pages.limit ≤ most_pages) (sym here) before.pages;
        tuples = subst (λ (x : Index). AreAtMost (λ (y : Spot). x.tuple y ≢ None) (most_pages * most_slots)) (sym here) before.tuples;
      }

  module _ (at rest : ℕ) (below : at < w0.indexes) (behind : (k : ℕ) (w : TableState) → StepsAlone s k w → IsTableKept w → w.task s ≡ Restarts (suc at) → FromStays (suc at) w0 w → k ≤ rest) where
    later_stays : (w : TableState) → FromStays at w0 w → FromStays (suc at) w0 w
    later_stays w stays = record { indexes = stays.indexes; blocks = stays.blocks; index = λ i le. stays.index i (weaker i le) }
      where
        weaker : (i : ℕ) → suc at ≤ i → at ≤ i
        weaker i le = omega arith

    pub amid : (k extent range : ℕ) (phase : Phase) (w : TableState) → StepsAlone s k w → IsTableKept w → w.task s ≡ Maintains (WholeRanges extent) at range phase → FromStays at w0 w → k ≤ most_in_index + rest
    amid k extent range phase w alone kept is stays =
        le_trans
        (alone_left w0 s (WholeRanges extent) tt at (w.index at).pages_per_range (tuples + suc later) rest (λ i n v more kept' next. le_trans (behind i v more kept' next.1 next.2) next.3)
        k w alone kept enough range later phase is refl (
          later_stays w stays,
          left_at (index_view_at at w) s range (tuples + suc later) later tail tuples enough here.tuples (room tuples later) here.ranges here.blocks (self enough) phase known.0.1 known.1,
        ))
        (beside (131082 + growth) own (in_index_few w at here 131082 later (self 131082) (later_few w at here (WholeRanges extent) range inside.1)))
      where
        here : IsSmallAt w at
        here = small_on at w below stays

        inside : IsInTable w (Maintains (WholeRanges extent) at range phase)
        inside = subst (IsInTable w) is (kept.inside s)

        known : Knows (index_view_at at w) s (Maintaining range phase) × KnowsPages (index_view_at at w) s (Maintaining range phase)
        known = maintain_knows s (WholeRanges extent) at range w phase kept inside.0 is

        tuples : ℕ
        tuples = most_pages * most_slots

        later : ℕ
        later = later_ranges w (WholeRanges extent) at range

        growth : ℕ
        growth = ((w.index at).pages.limit - (w.index at).pages.map_pages) * (3 * (tuples + suc later) + 3)

        own : ℕ
        own = later * ((w.index at).pages_per_range + 9)

        tail : ℕ
        tail = own + rest

        enough : ℕ
        enough = 131082 + growth + tail

        room : (a b : ℕ) → suc a + b ≤ a + suc b
        room a b = omega arith

        beside : (a b : ℕ) → a + b ≤ most_in_index → a + (b + rest) ≤ most_in_index + rest
        beside a b le = omega arith

  none_left : (a b : ℕ) → a + zero ≡ b → a < b → ⊥
  none_left a b is less = omega arith

  one_left : (d a b : ℕ) → a + suc d ≡ b → a < b
  one_left d a b is = omega arith

  nearer : (d a b : ℕ) → a + suc d ≡ b → suc a + d ≡ b
  nearer d a b is = omega arith

  last_step : (d : ℕ) → 1 ≤ suc d * an_index
  last_step d = omega arith

  step_at : (d k : ℕ) → k ≤ most_in_index + d * an_index → suc k ≤ suc d * an_index
  step_at d k le = omega arith

  step_past : (d k : ℕ) → k ≤ d * an_index → suc k ≤ suc d * an_index
  step_past d k le = omega arith

  restarted : (w u : TableState) (at : ℕ) (new : Task) → Did s w u (Restarts at) new → (new ≡ Considers (WholeRanges w.blocks) at 0) × OnlyTurns w u
  restarted w u _ _ (DidRestart _ only) = (refl, only)

  -- from an index on, with so many indexes left
  pub from_index : (d at : ℕ) → at + d ≡ w0.indexes → (k : ℕ) (w : TableState) → StepsAlone s k w → IsTableKept w → w.task s ≡ Restarts at → FromStays at w0 w → k ≤ d * an_index
  from_index zero at ends k w alone kept was stays =
      absurd (none_left at w0.indexes ends (subst (λ n. at < n) stays.indexes (subst (IsInTable w) was (kept.inside s))))
  from_index (suc d) at ends _ _ (LastAlone w v step p point) kept was stays = last_step d
  from_index (suc d) at ends _ _ (OneMoreAlone k w v step p point going more) kept was stays =
      let u = step.between in
      let did = restarted w u at (u.task s) (subst (λ t. Did s w u t (u.task s)) was (step_did s w u p step.does point)) in
      let below = one_left d at w0.indexes ends in
      let behind = from_index d (suc at) (nearer d at w0.indexes ends) in
      ⊎_elim
      (λ (on : Onward u (Considers (WholeRanges w.blocks) at 0) (v.task s) × OnlyTurns u v).
      let here = only_stays at w0 u v on.1 (only_stays at w0 w u did.1 stays) in
      ⊎_elim
      (λ (begins : HasRange u (WholeRanges w.blocks) at 0 × (v.task s ≡ Maintains (WholeRanges w.blocks) at 0 (NotBuilding Empty))).
      step_at d k (amid at (d * an_index) below behind k w.blocks 0 (NotBuilding Empty) v more (table_step_kept s w v kept step) begins.1 here))
      (λ (next : (IsSummarise (WholeRanges w.blocks) → ⊥) × (v.task s ≡ Restarts (suc at))).
      step_past d k (behind k v more (table_step_kept s w v kept step) next.1 (later_stays at (d * an_index) below behind v here)))
      (considers_onward u (WholeRanges w.blocks) at 0 (v.task s) on.0))
      (λ (done : IsMaintained u (Considers (WholeRanges w.blocks) at 0) × (v.task s ≡ Resting)). absurd (going done.1))
      (step_settles s u v step.settles (Considers (WholeRanges w.blocks) at 0) did.0)

-- ---- from where it is in a table that is no larger than a layout may make it

module _ (s : ℕ) where
  all_indexes : (m at : ℕ) → m ≤ 8 → (m - at) * an_index ≤ 8 * an_index
  all_indexes m at le = mul-le-mul (less m at le) (self an_index)
    where
      less : (a b : ℕ) → a ≤ 8 → a - b ≤ 8
      less a b le = omega arith

  restarts_few : (k at : ℕ) (w : TableState) → IsTableKept w → IsBounded w → w.task s ≡ Restarts at → StepsAlone s k w → k ≤ 8 * an_index
  restarts_few k at w kept bounded is alone =
      le_trans
      (from_index s w (λ i below. small_at w i kept bounded below) (w.indexes - at) at (counts at w.indexes (subst (IsInTable w) is (kept.inside s))) k w alone kept is (nothing_moved at w))
      (all_indexes w.indexes at bounded.indexes)
    where
      counts : (a b : ℕ) → a < b → a + (b - a) ≡ b
      counts a b less = omega arith

  completes_few : (k extent at range : ℕ) (phase : Phase) (w : TableState) → IsTableKept w → IsBounded w → w.task s ≡ Maintains (WholeRanges extent) at range phase → StepsAlone s k w
      → k ≤ most_in_index + 8 * an_index
  completes_few k extent at range phase w kept bounded is alone =
      wider (w.indexes - suc at)
      (amid s w small at ((w.indexes - suc at) * an_index) below (from_index s w small (w.indexes - suc at) (suc at) (counts at w.indexes below)) k extent range phase w alone kept is
      (nothing_moved at w))
      (all_indexes w.indexes (suc at) bounded.indexes)
    where
      small : (i : ℕ) → i < w.indexes → IsSmallAt w i
      small i less = small_at w i kept bounded less

      below : at < w.indexes
      below = (subst (IsInTable w) is (kept.inside s)).0

      counts : (a b : ℕ) → a < b → suc a + (b - suc a) ≡ b
      counts a b less = omega arith

      wider : (d : ℕ) → k ≤ most_in_index + d * an_index → d * an_index ≤ 8 * an_index → k ≤ most_in_index + 8 * an_index
      wider d le le' = omega arith

  -- ---- its cleaning

  abbrev IsCleaned : Task → Type 0
  IsCleaned t = IsCleaning t ⊎ (t ≡ Restarts 0)

  sweeps_on : (u : TableState) (at from : ℕ) (t : Task) → Onward u (SweepsFrom at from) t → IsCleaned t
  sweeps_on u at from _ (Stays _ has) = absurd has
  sweeps_on u at from _ (ToPage _ _ m p next) = inl tt
  sweeps_on u at from _ (Swept _ _ none some) = inr refl

  prunes_on : (u : TableState) (extent next : ℕ) (t : Task) → Onward u (Prunes extent next) t → IsCleaned t
  prunes_on u extent next _ (Stays _ has) = inl tt
  prunes_on u extent next t (Pruned _ _ _ all more) = sweeps_on u 0 0 t more

  -- its step leaves the table as small, and goes on with the cleaning, or comes before the first index
  abbrev CleansTo : TableState → Task → Type 0
  CleansTo u new = IsBounded u × ((t : Task) → Onward u new t → IsCleaned t)

  cleans_to : (w u : TableState) (old new : Task) → Did s w u old new → IsCleaning old → IsBounded w → CleansTo u new
  cleans_to w u _ _ (DidPrune extent next dropped less drops) cleaning bounded = (dropped_bounds w u next dropped drops bounded, prunes_on u extent (suc next))
  cleans_to w u _ _ (DidSweep at page stepped sweeps) cleaning bounded = (swept_bounds s w u at page (λ x. (x.block ≡ page) × IsUnnamed (index_view_at at w) x) stepped sweeps bounded, sweeps_on u at (suc page))
  cleans_to w u _ _ (DidBegin new) cleaning bounded = absurd cleaning
  cleans_to w u _ _ (DidAsk b k r at) cleaning bounded = absurd cleaning
  cleans_to w u _ _ (DidInsert b k r at old new done) cleaning bounded = absurd cleaning
  cleans_to w u _ _ (DidComplete b k r at old done) cleaning bounded = absurd cleaning
  cleans_to w u _ _ (DidMaintain job at range old new stepped done) cleaning bounded = absurd cleaning
  cleans_to w u _ _ (DidRange job at range old stepped done) cleaning bounded = absurd cleaning
  cleans_to w u _ _ (DidRestart at only) cleaning bounded = absurd cleaning
  cleans_to w u _ _ (DidJudge old new inside low judge only) cleaning bounded = absurd cleaning
  cleans_to w u _ _ (DidRead scan next found reads only) cleaning bounded = absurd cleaning
  cleans_to w u _ _ (DidMark scan id rest only) cleaning bounded = absurd cleaning

  -- so many behind the cleaning
  abbrev behind_all : ℕ
  behind_all = 1 + 8 * an_index

  cleaning_within : (k : ℕ) (w : TableState) → StepsAlone s k w → IsTableKept w → IsBounded w → IsCleaning (w.task s) → k ≤ cleaning_steps w (w.task s) + behind_all
  cleaning_within _ _ (LastAlone w v step p point) kept bounded cleaning = one (cleaning_steps w (w.task s))
    where
      one : (n : ℕ) → 1 ≤ n + behind_all
      one n = omega arith
  cleaning_within _ _ (OneMoreAlone k w v step p point going more) kept bounded cleaning =
      let u = step.between in
      let to = cleans_to w u (w.task s) (u.task s) (step_did s w u p step.does point) cleaning bounded in
      let kept' = table_step_kept s w v kept step in
      ⊎_elim
      (λ (on : Onward u (u.task s) (v.task s) × OnlyTurns u v).
      let bounded' = same_bounds u v on.1.rows on.1.indexes to.0 in
      ⊎_elim
      (λ (cleans : IsCleaning (v.task s)).
      fewer (cleaning_steps w (w.task s)) (cleaning_steps v (v.task s)) (cleaning_fewer s w v step kept p point cleaning cleans) (cleaning_within k v more kept' bounded' cleans))
      (λ (restarts : v.task s ≡ Restarts 0). last (cleaning_steps w (w.task s)) (restarts_few k 0 v kept' bounded' restarts more))
      (to.1 (v.task s) on.0))
      (λ (done : IsMaintained u (u.task s) × (v.task s ≡ Resting)). absurd (going done.1))
      (step_settles s u v step.settles (u.task s) refl)
    where
      fewer : (n m : ℕ) → m < n → k ≤ m + behind_all → suc k ≤ n + behind_all
      fewer n m less le = omega arith

      last : (n : ℕ) → k ≤ 8 * an_index → suc k ≤ n + behind_all
      last n le = omega arith

  -- ---- all of it

  few_of : (k n : ℕ) → n ≤ 278528 → k ≤ n + behind_all → k ≤ few_steps
  few_of k n few le = omega arith

  pub vacuum_prunes : (k extent next : ℕ) (w : TableState) → IsTableKept w → IsBounded w → w.task s ≡ Prunes extent next → StepsAlone s k w → k ≤ few_steps
  vacuum_prunes k extent next w kept bounded is alone =
      few_of k (cleaning_steps w (Prunes extent next)) (prunes_few w bounded extent next (subst (IsInTable w) is (kept.inside s)))
      (subst (λ t. k ≤ cleaning_steps w t + behind_all) is (cleaning_within k w alone kept bounded (subst IsCleaning (sym is) tt)))

  pub vacuum_sweeps : (k at page : ℕ) (w : TableState) → IsTableKept w → IsBounded w → w.task s ≡ Sweeps at page → StepsAlone s k w → k ≤ few_steps
  vacuum_sweeps k at page w kept bounded is alone =
      few_of k (cleaning_steps w (Sweeps at page)) (sweeps_few w bounded at page (subst (IsInTable w) is (kept.inside s)))
      (subst (λ t. k ≤ cleaning_steps w t + behind_all) is (cleaning_within k w alone kept bounded (subst IsCleaning (sym is) tt)))

  pub vacuum_restarts : (k at : ℕ) (w : TableState) → IsTableKept w → IsBounded w → w.task s ≡ Restarts at → StepsAlone s k w → k ≤ few_steps
  vacuum_restarts k at w kept bounded is alone = few (restarts_few k at w kept bounded is alone)
    where
      few : k ≤ 8 * an_index → k ≤ few_steps
      few le = omega arith

  pub vacuum_completes : (k extent at range : ℕ) (phase : Phase) (w : TableState) → IsTableKept w → IsBounded w → w.task s ≡ Maintains (WholeRanges extent) at range phase → StepsAlone s k w
      → k ≤ few_steps
  vacuum_completes k extent at range phase w kept bounded is alone = few (completes_few k extent at range phase w kept bounded is alone)
    where
      few : k ≤ most_in_index + 8 * an_index → k ≤ few_steps
      few le = omega arith
