-- What each step leaves of the pages' order, and of what its own statement knows of pages and page locks.
use Rattle.std.proofs.Common.{◌≡◌, ◌≢◌, ◌⊎◌, inl, inr, ⊎_elim, ℕ, ◌+◌, ◌*◌, ◌/◌, ◌≤◌, ◌<◌, Option, Some, None, List, [], ◌∷◌, length, sym, ◌∙◌, ap, subst, arith}
use Rattle.std.specs.Prelude.{refl}
use Rattle.std.proofs.lemmas.Option.{none-some}
use Rattle.std.proofs.lemmas.Bool.{cases_eq}
use Rattle.std.proofs.Math.Nat.{le_refl}
use Rattle.block_model.specs.declared.row.Row.{Row}
use Rattle.block_model.specs.declared.place.Spot.{Spot}
use Rattle.coverage.specs.IndexView.{IndexTuple, Progress, ExtentUnread, Passing, PageKind, Unstarted, Mapping, Regular, Emptying, Pages, IndexView}
use Rattle.coverage.specs.IndexView.{placeholder_length, map_page_of, next_map_page, IsPastMap, range_of_block, NamesPlaceholder}
use Rattle.coverage.specs.IsSound.{IsSound}
use Rattle.coverage.specs.Changes.{SameHeap, OwnLocks, IsUntouched}
use Rattle.coverage.specs.Rooms.{bytes_of}
use Rattle.coverage.specs.Verdicts.{Puts, Fits, IsTarget, PutVerdict, PutGoes, SwapVerdict, SwapFits, SwapMoves}
use Rattle.coverage.specs.Statements.{OnIndex, Empty, Held, Copied, Dropping, Phase, NotBuilding, Vacant, Growing, IsAt, Statement, Idle, Inserting}
use Rattle.coverage.specs.Statements.{Maintaining, Holding, IsAdded}
use Rattle.coverage.specs.Knowing.{LocksThese, KnowsOnIndex, KnowsPhase}
use Rattle.coverage.specs.PageOrder.{AreOrdered, IsForTuples, HasNamedSort, LocksOnIndex, IsPassWithin, IsTurnToUnite, KnowsPagesOfPhase, KnowsPages}
use Rattle.coverage.specs.Steps.{ReadsIndex, ReplacesTuple, SetsEntry, SameLocks, ClearsEntry, DropsTuple, SweepsTuples, OnIndexStep, Maps, Gone, Again}
use Rattle.coverage.specs.Steps.{MovePut, InsertStep, InsertOnIndex, InsertNoEntry, InsertCopies, InsertUnchanged, InsertSwap, InsertSet, InsertDrop, TurnsKind}
use Rattle.coverage.specs.Steps.{CountsPage, GrowthStep, Grow, CountLeftOver, Count, Flag, EvacuatePut, EvacuateSet, EvacuateDrop, EvacuateSweep, Turn}
use Rattle.coverage.specs.Steps.{SummariseStep, LookMap, LookGone, IsFinal, Found, ReadNoEntry, GrowMap, Put, Set, Extent, Pass, Unite, UniteCopies, SwapFinal}
use Rattle.coverage.specs.Steps.{SetFinal, DropOld, DesummariseStep, ClearMap, ClearNone, Clear, ClearAgain, DropCleared, MaintainStep, Summarises}
use Rattle.coverage.specs.Steps.{Desummarises}
use Rattle.coverage.specs.Waiting.{IsNextTuple}
use Rattle.coverage.proofs.Numbers.{lt_or_ge, lowest_below}
use Rattle.coverage.proofs.Stable.{held_named}
use Rattle.coverage.proofs.OnIndexSteps.{move_compares}
use Rattle.coverage.proofs.InsertSteps.{on_index_keeps}
use Rattle.coverage.proofs.PagesOrdered.{IsStarted, for_tuples, turned_same, order_same, entries_same, tuples_same, order_turned, order_puts, order_counted}
use Rattle.coverage.proofs.PagesGoOn.{Quiet, PagesGoOn, PagesAfter, same_blocks, quiet_same, kinds_turned, still_after, quiet_put, quiet_swap, quiet_set, quiet_drop}

-- the page of a put is the target that was chosen
pub put_target : (w : IndexView) (s range need : ℕ) (y : Spot) → PutVerdict w s range need (Puts y) → IsTarget w.pages (bytes_of w.tuple) need y.block
put_target w s range need y (PutGoes _ target free map) = target.0

pub move_target : (w : IndexView) (s range : ℕ) (x y : Spot) (old new : IndexTuple) → SwapVerdict w s range x old new (Puts y)
    → IsTarget w.pages (bytes_of w.tuple) (length new.bytes) y.block
move_target w s range x y old new (SwapMoves _ free here must puts) = put_target w s range (length new.bytes) y puts

swap_regular : (w : IndexView) (s range : ℕ) (x : Spot) (old new : IndexTuple) → SwapVerdict w s range x old new Fits → w.pages.kind x.block ≡ Regular
swap_regular w s range x old new (SwapFits free here kind fits) = kind
swap_regular w s range x old new (SwapMoves _ free here must puts) = never puts
  where
    never : PutVerdict w s range (length new.bytes) Fits → w.pages.kind x.block ≡ Regular
    never puts = elim puts [ ]

module _ (s : ℕ) (w v : IndexView) where
  goes_on : SameHeap w v → OwnLocks s w.lock v.lock → ((p n : ℕ) → w.lock p ≡ Some n → n ≢ s → v.pages.kind p ≡ w.pages.kind p)
      → (w.summarise_lock ≡ Some s) ⊎ Quiet w v → PagesGoOn s w v
  goes_on heap locks kinds quiet = record {
    pages_per_range = heap.pages_per_range;
    blocks = same_blocks w v heap;
    locks = locks;
    kinds = kinds;
    quiet = quiet;
  }

  same_kinds : v.pages ≡ w.pages → (p n : ℕ) → w.lock p ≡ Some n → n ≢ s → v.pages.kind p ≡ w.pages.kind p
  same_kinds pages p n is other = ap (λ (g : Pages). g.kind p) pages

  these_same : SameLocks w.lock v.lock → (these : List ℕ) → LocksThese w.lock s these → LocksThese v.lock s these
  these_same same these locks =
      record { locked = λ p one. same.lock p ∙ locks.locked p one; only = λ p is. locks.only p (sym (same.lock p) ∙ is) }

module _ (s : ℕ) (w v : IndexView) (ordered : AreOrdered w) where
  read_after : (new : Statement) → ReadsIndex s w v → KnowsPages v s new → PagesAfter s w v new
  read_after new reads knows =
      still_after s w v new reads.frame.heap.pages_per_range (same_blocks w v reads.frame.heap) reads.frame.map reads.frame.tuples reads.pages
      reads.frame.locks ordered knows

  swap_ordered : (x : Spot) (old new : IndexTuple) → ReplacesTuple s w v x old new → w.pages.kind x.block ≡ Regular → AreOrdered v
  swap_ordered x old new swap kind =
      order_same w v ordered (turned_same w v x.block Regular swap.page kind) swap.page.map_pages swap.page.limit
      (λ z t here. ⊎_elim
      (λ (at : z ≡ x). subst (λ (y : Spot). IsForTuples w.pages y.block) (sym at) (inl kind))
      (λ (e : v.tuple z ≡ w.tuple z). ordered.tuples z t (sym e ∙ here))
      (swap.tuple.others z))
      (entries_same w v ordered swap.frame.map)

  set_ordered : (range : ℕ) (x : Spot) → SetsEntry s w v range x → map_page_of range ≤ w.pages.map_pages → AreOrdered v
  set_ordered range x sets within =
      order_same w v ordered (λ p. ap (λ (g : Pages). g.kind p) sets.pages) (ap (λ (g : Pages). g.map_pages) sets.pages)
      (ap (λ (g : Pages). g.limit) sets.pages) (tuples_same w v ordered sets.frame.tuples)
      (λ m z named. ⊎_elim
      (λ (at : m ≡ range). subst (λ n. map_page_of n ≤ w.pages.map_pages) (sym at) within)
      (λ (e : v.entry m ≡ w.entry m). ordered.entries m z (sym e ∙ named))
      (sets.entry.others m))

  clear_ordered : (range : ℕ) (x : Spot) → ClearsEntry s w v range x → AreOrdered v
  clear_ordered range x clears =
      order_same w v ordered (λ p. ap (λ (g : Pages). g.kind p) clears.pages) (ap (λ (g : Pages). g.map_pages) clears.pages)
      (ap (λ (g : Pages). g.limit) clears.pages) (tuples_same w v ordered clears.frame.tuples)
      (λ m z named. ⊎_elim
      (λ (at : m ≡ range). absurd (none-some _ (sym clears.entry.now ∙ ap v.entry (sym at) ∙ named)))
      (λ (e : v.entry m ≡ w.entry m). ordered.entries m z (sym e ∙ named))
      (clears.entry.others m))

  drop_ordered : (x : Spot) → DropsTuple s w v x → AreOrdered v
  drop_ordered x drops =
      order_same w v ordered (turned_same w v x.block (w.pages.kind x.block) drops.page refl) drops.page.map_pages drops.page.limit
      (λ z t here. ⊎_elim
      (λ (at : z ≡ x). absurd (none-some _ (sym drops.tuple.now ∙ ap v.tuple (sym at) ∙ here)))
      (λ (e : v.tuple z ≡ w.tuple z). ordered.tuples z t (sym e ∙ here))
      (drops.tuple.others z))
      (entries_same w v ordered drops.frame.map)

  drop_on : (x : Spot) → DropsTuple s w v x → (w.summarise_lock ≡ Some s) ⊎ Quiet w v → PagesGoOn s w v
  drop_on x drops quiet =
      goes_on s w v drops.frame.heap drops.frame.locks (λ p n is other. turned_same w v x.block (w.pages.kind x.block) drops.page refl p) quiet

  -- tuples of a page go
  pub sweep_after : (p : ℕ) (Sweeping : Spot → Type 0) (new : Statement) → SweepsTuples s w v p Sweeping → w.summarise_lock ≡ Some s → KnowsPages v s new
      → PagesAfter s w v new
  sweep_after p Sweeping new sweeps held knows = record {
    ordered = order_same w v ordered (turned_same w v p (w.pages.kind p) sweeps.page refl) sweeps.page.map_pages sweeps.page.limit
        (λ x t here. ⊎_elim
        (λ (same : IsUntouched w v x). ordered.tuples x t (sym same.0 ∙ here))
        (λ (swept : (x.block ≡ p) × Sweeping x). absurd (none-some _ (sym (sweeps.gone x swept.1).0 ∙ here)))
        (sweeps.places x))
        (entries_same w v ordered sweeps.frame.map);
    on = goes_on s w v sweeps.frame.heap sweeps.frame.locks (λ q n is other. turned_same w v p (w.pages.kind p) sweeps.page refl q) (inl held);
    knows = knows;
  }

  module _ (range : ℕ) (quiet : (w.summarise_lock ≡ Some s) ⊎ Quiet w v) where
    on_index_after : (g h : OnIndex) → OnIndexStep s range w v g h → AreOrdered v × PagesGoOn s w v × LocksOnIndex v.lock s range h
    on_index_after _ _ (Maps x named reads) = let after = read_after Idle reads tt in (after.ordered, after.on, tt)
    on_index_after _ _ (Gone x gone reads) = let after = read_after Idle reads tt in (after.ordered, after.on, tt)
    on_index_after _ _ (Again x old new verdict reads) = let after = read_after Idle reads tt in (after.ordered, after.on, tt)
    on_index_after _ _ (MovePut x y old new verdict puts these) = (
      order_puts w v ordered s (length new.bytes) y new puts (move_target w s range x y old new verdict),
      goes_on s w v puts.frame.heap puts.frame.locks (kinds_turned s w v y.block Regular puts.page puts.free) quiet,
      these,
    )

module _ (s b k : ℕ) (r : Row) (w v : IndexView) (sound : IsSound w) (ordered : AreOrdered w) where
  on_index_quiet : (g h : OnIndex) → OnIndexStep s (range_of_block w b) w v g h → KnowsOnIndex w s (range_of_block w b) (IsAdded r) g → Quiet w v
  on_index_quiet _ _ (Maps x named reads) known = quiet_same w v reads.frame.map reads.frame.tuples (ap (λ (g : Pages). g.map_pages) reads.pages)
  on_index_quiet _ _ (Gone x gone reads) known = quiet_same w v reads.frame.map reads.frame.tuples (ap (λ (g : Pages). g.map_pages) reads.pages)
  on_index_quiet _ _ (Again x old new verdict reads) known =
      quiet_same w v reads.frame.map reads.frame.tuples (ap (λ (g : Pages). g.map_pages) reads.pages)
  on_index_quiet _ _ (MovePut x y old new verdict puts these) known =
      let compared = move_compares w s (range_of_block w b) x y old new verdict in
      let named = held_named w s (range_of_block w b) x old sound known.1 compared.1 known.2 compared.0 known.0 in
      quiet_put w v (range_of_block w b) x y old new named compared.1 (known.3.range ∙ known.2) known.3.placeholder puts.tuple puts.frame.map
      puts.page.map_pages

  pub insert_after : (g : OnIndex) (e : Statement) → InsertStep s b k r w v g e → KnowsOnIndex w s (range_of_block w b) (IsAdded r) g
      → LocksOnIndex w.lock s (range_of_block w b) g → PagesAfter s w v e
  insert_after _ _ (InsertOnIndex old new step) known locks =
      let after = on_index_after s w v ordered (range_of_block w b) (inr (on_index_quiet old new step known)) old new step in
      record {
        ordered = after.0;
        on = after.1;
        knows = subst (λ m. LocksOnIndex v.lock s (b / m) new) (sym after.1.pages_per_range) after.2;
      }
  insert_after _ _ (InsertNoEntry none reads) known locks = read_after s w v ordered Idle reads tt
  insert_after _ _ (InsertCopies x old new stands added changes reads) known locks = read_after s w v ordered (Inserting b k r (Copied x old new)) reads tt
  insert_after _ _ (InsertUnchanged x t stands added free reads) known locks = read_after s w v ordered Idle reads tt
  insert_after _ _ (InsertSwap x old new verdict swap) known locks =
      let named = held_named w s (range_of_block w b) x old sound known.1 swap.tuple.was known.2 swap.free known.0 in
      record {
        ordered = swap_ordered s w v ordered x old new swap (swap_regular w s (range_of_block w b) x old new verdict);
        on = goes_on s w v swap.frame.heap swap.frame.locks (kinds_turned s w v x.block Regular swap.page swap.free)
            (inr (quiet_swap w v (range_of_block w b) x old new named (known.3.range ∙ known.2) known.3.placeholder swap.tuple swap.frame.map swap.page.map_pages));
        knows = tt;
      }
  insert_after _ _ (InsertSet x y old new sets same) known locks = record {
    ordered = set_ordered s w v ordered (range_of_block w b) y sets (ordered.entries (range_of_block w b) x known.2);
    on = goes_on s w v sets.frame.heap sets.frame.locks (same_kinds s w v sets.pages)
        (inr (quiet_set s w v (range_of_block w b) x y old new known.2 known.3 known.4 known.6.placeholder sets));
    knows = subst (λ m. LocksOnIndex v.lock s (b / m) (Dropping x)) (sym sets.frame.heap.pages_per_range)
        (y.block, these_same s w v same (x.block ∷ y.block ∷ map_page_of (range_of_block w b) ∷ []) locks);
  }
  insert_after _ _ (InsertDrop x drops) known locks = record {
    ordered = drop_ordered s w v ordered x drops;
    on = drop_on s w v ordered x drops (inr (quiet_drop w v x known.1 drops.tuple.now drops.tuple.others drops.frame.map drops.page.map_pages));
    knows = tt;
  }

-- a page without a next tuple has none
module _ (w : IndexView) (page : ℕ) (none : (x : Spot) (t : IndexTuple) → IsNextTuple w.tuple page x t → ⊥) where
  abbrev pub place : ℕ → Spot
  place k = record { block = page; slot = k }

  abbrev pub HasTuple : ℕ → Type 0
  HasTuple k = (t : IndexTuple) × (w.tuple (place k) ≡ Some t)

  pub has_or_not : (k : ℕ) → HasTuple k ⊎ (HasTuple k → ⊥)
  has_or_not k = by (w.tuple (place k)) refl
    where
      by : (o : Option IndexTuple) → w.tuple (place k) ≡ o → HasTuple k ⊎ (HasTuple k → ⊥)
      by None is = inr (λ has. none-some _ (sym is ∙ has.1))
      by (Some t) is = inl (t, is)

  pub none_left : (x : Spot) (t : IndexTuple) → x.block ≡ page → w.tuple x ≡ Some t → ⊥
  none_left x t on here = ⊎_elim
      (λ (all : (i : ℕ) → i < x.slot + 1 → HasTuple i → ⊥). all x.slot (omega arith) (t, ap w.tuple (sym same) ∙ here))
      (λ (one : (i : ℕ) × HasTuple i × ((j : ℕ) → HasTuple j → i ≤ j)). none (place one.0) one.1.0 (record {
        on = refl;
        stands = one.1.1;
        first = λ y u on_page there.
            one.2 y.slot (u, ap w.tuple (λ i. record { block = sym on_page i; slot = y.slot }) ∙ there);
      }))
      (lowest_below HasTuple has_or_not (x.slot + 1))
    where
      same : x ≡ place x.slot
      same = λ i. record { block = on i; slot = x.slot }

-- the map names the placeholder as before
pub names_reads : (s range : ℕ) (w v : IndexView) → ReadsIndex s w v → NamesPlaceholder w range → NamesPlaceholder v range
names_reads s range w v reads names =
    (names.0, names.1, reads.frame.map.entry range ∙ names.2, reads.frame.tuples.tuple names.0 ∙ names.3, names.4)

names_on_index : (s range m : ℕ) (w v : IndexView) (g h : OnIndex) → OnIndexStep s m w v g h → NamesPlaceholder w range → NamesPlaceholder v range
names_on_index s range m w v _ _ (Maps x named reads) names = names_reads s range w v reads names
names_on_index s range m w v _ _ (Gone x gone reads) names = names_reads s range w v reads names
names_on_index s range m w v _ _ (Again x old new verdict reads) names = names_reads s range w v reads names
names_on_index s range m w v _ _ (MovePut x y old new verdict puts these) names = (
  names.0,
  names.1,
  puts.frame.map.entry range ∙ names.2,
  elim (puts.tuple.others names.0) [ inl at ↦ absurd (none-some _ (sym puts.tuple.was ∙ ap w.tuple (sym at) ∙ names.3)) | inr e ↦ e ∙ names.3 ],
  names.4,
)

within_same : (range : ℕ) (w v : IndexView) (p : Progress) → SameHeap w v → IsPassWithin w range p → IsPassWithin v range p
within_same range w v ExtentUnread heap within = tt
within_same range w v (Passing extent next result) heap within = (
  subst (λ n. extent ≤ n) (sym heap.blocks) within.0,
  elim within.1 [ inl le ↦ inl le | inr is ↦ inr (is ∙ ap (λ m. range * m) (sym heap.pages_per_range)) ],
)

uniting : (s range : ℕ) (w v : IndexView) (extent next : ℕ) (result : IndexTuple) → extent ≤ next → (g h : OnIndex) → OnIndexStep s range w v g h
    → IsTurnToUnite (Passing extent next result) h
uniting s range w v extent next result all _ _ (Maps x named reads) = all
uniting s range w v extent next result all _ _ (Gone x gone reads) = tt
uniting s range w v extent next result all _ _ (Again x old new verdict reads) = tt
uniting s range w v extent next result all _ _ (MovePut x y old new verdict puts these) = all

module _ (s range : ℕ) (w v : IndexView) (ordered : AreOrdered w) (held : w.summarise_lock ≡ Some s) where
  -- the page after the map turns to another kind
  turn_ordered : (kind : PageKind) (these : List ℕ) → TurnsKind s w v kind these → next_map_page w.pages < w.pages.limit → (kind ≡ Unstarted → ⊥)
      → ((x : Spot) (t : IndexTuple) → x.block ≡ next_map_page w.pages → w.tuple x ≡ Some t → (kind ≡ Regular) ⊎ (kind ≡ Emptying)) → AreOrdered v
  turn_ordered kind these turns low started holds =
      order_turned w v ordered (next_map_page w.pages) kind turns.page (omega arith) low started (λ is. le_refl (next_map_page w.pages)) first
      (λ x t here.
      let was : w.tuple x ≡ Some t = sym (turns.frame.tuples.tuple x) ∙ here in
      elim (cases_eq x.block (next_map_page w.pages)) [ inl at ↦ inl (at, holds x t at was) | inr other ↦ inr (other, ordered.tuples x t was) ])
      (entries_same w v ordered turns.frame.map)
    where
      first : (p : ℕ) → p < next_map_page w.pages → w.pages.kind p ≢ Unstarted
      first p less is = subst IsStarted (sym (ordered.map p (omega arith)) ∙ is) tt

  grown : (these : List ℕ) (turns : TurnsKind s w v Mapping these) → these ≡ (next_map_page w.pages ∷ 0 ∷ []) → KnowsPagesOfPhase v s range Growing
  grown these turns are = (
    ap (λ m. v.pages.kind (m + 1)) turns.page.map_pages ∙ turns.page.now,
    subst (λ m. LocksThese v.lock s ((m + 1) ∷ 0 ∷ [])) (sym turns.page.map_pages) (subst (LocksThese v.lock s) are turns.locks),
  )

  count_after : CountsPage s w v → w.pages.kind (next_map_page w.pages) ≡ Mapping → PagesAfter s w v (Maintaining range Vacant)
  count_after counts next = record {
    ordered = order_counted w v ordered counts.pages next counts.frame.map counts.frame.tuples;
    on = goes_on s w v counts.frame.heap counts.frame.locks (λ p n is other. ap (λ (g : Pages). g.kind p) counts.pages) (inl held);
    knows = tt;
  }

  growth_after : (old new : Phase) → GrowthStep s range w v old new → KnowsPhase w s range old → KnowsPagesOfPhase w s range old
      → PagesAfter s w v (Maintaining range new)
  growth_after _ _ (Grow grows free meta turns) known pages = record {
    ordered = turn_ordered Mapping (next_map_page w.pages ∷ 0 ∷ []) turns grows.below (λ is. subst IsStarted is tt)
        (λ x t at here. absurd (subst IsStarted (ap w.pages.kind at ∙ grows.is) (for_tuples w x.block (ordered.tuples x t here)).0));
    on = goes_on s w v turns.frame.heap turns.frame.locks (kinds_turned s w v (next_map_page w.pages) Mapping turns.page free) (inl held);
    knows = grown (next_map_page w.pages ∷ 0 ∷ []) turns refl;
  }
  growth_after _ _ (CountLeftOver grows meta counts) known pages = count_after counts grows.is
  growth_after _ _ (Count counts) known pages = count_after counts pages.0
  growth_after _ _ (Flag grows free turns) known pages = record {
    ordered = turn_ordered Emptying [] turns grows.below (λ is. subst IsStarted is tt) (λ x t at here. inr refl);
    on = goes_on s w v turns.frame.heap turns.frame.locks (kinds_turned s w v (next_map_page w.pages) Emptying turns.page free) (inl held);
    knows = tt;
  }
  growth_after _ _ (EvacuatePut x y t grows next named free verdict puts these) known pages = record {
    ordered = order_puts w v ordered s (length t.bytes) y t puts (put_target w s t.range (length t.bytes) y verdict);
    on = goes_on s w v puts.frame.heap puts.frame.locks (kinds_turned s w v y.block Regular puts.page puts.free) (inl held);
    knows = (these, tt);
  }
  growth_after _ _ (EvacuateSet m x y t u sets same) known pages = record {
    ordered = set_ordered s w v ordered m y sets (ordered.entries m x known.1.2);
    on = goes_on s w v sets.frame.heap sets.frame.locks (same_kinds s w v sets.pages) (inl held);
    knows = ((y.block, these_same s w v same (x.block ∷ y.block ∷ map_page_of m ∷ []) pages.0), tt);
  }
  growth_after _ _ (EvacuateDrop m x drops) known pages =
      record { ordered = drop_ordered s w v ordered x drops; on = drop_on s w v ordered x drops (inl held); knows = tt }
  growth_after _ _ (EvacuateSweep x t grows next unnamed sweeps) known pages =
      sweep_after s w v ordered (next_map_page w.pages) (λ y. y ≡ x) (Maintaining range Vacant) sweeps held tt
  growth_after _ _ (Turn grows empty free meta turns) known pages = record {
    ordered = turn_ordered Mapping (next_map_page w.pages ∷ 0 ∷ []) turns grows.below (λ is. subst IsStarted is tt)
        (λ x t at here. absurd (none_left w (next_map_page w.pages) empty x t at here));
    on = goes_on s w v turns.frame.heap turns.frame.locks (kinds_turned s w v (next_map_page w.pages) Mapping turns.page free) (inl held);
    knows = grown (next_map_page w.pages ∷ 0 ∷ []) turns refl;
  }

  long_enough : (IsPastMap w.pages range → ⊥) → map_page_of range ≤ w.pages.map_pages
  long_enough long = elim (lt_or_ge w.pages.map_pages (map_page_of range)) [ inl past ↦ absurd (long past) | inr le ↦ le ]

  -- where the map was read, the tuple at the place is the one that it names
  sort_read : (x : Spot) → w.entry range ≡ Some x → ReadsIndex s w v → HasNamedSort v range x
  sort_read x named reads t here of = (x, t, reads.frame.map.entry range ∙ named, here, refl)

  summarise_after : (old : Phase) (new : Statement) → SummariseStep s range w v old new → KnowsPhase w s range old → KnowsPagesOfPhase w s range old
      → PagesAfter s w v new
  summarise_after _ _ (LookMap x named reads) known pages =
      read_after s w v ordered (Maintaining range (NotBuilding (Held x))) reads (tt, sort_read x named reads)
  summarise_after _ _ (LookGone x gone reads) known pages = read_after s w v ordered (Maintaining range (NotBuilding Empty)) reads (tt, tt)
  summarise_after _ _ (IsFinal x t stands final reads) known pages = read_after s w v ordered Holding reads tt
  summarise_after _ _ (Found x t stands flag reads) known pages =
      let h = pages.1 t stands.0 stands.1 in
      read_after s w v ordered (Maintaining range (IsAt ExtentUnread Empty)) reads
      (tt, (h.0, h.1, reads.frame.map.entry range ∙ h.2, reads.frame.tuples.tuple h.0 ∙ h.3, h.4 ∙ flag), tt, tt)
  summarise_after _ _ (ReadNoEntry none of reads) known pages = read_after s w v ordered (Maintaining range Vacant) reads tt
  summarise_after _ _ (GrowMap old new step) known pages = growth_after old new step known pages
  summarise_after _ _ (Put x t is long verdict puts these) known pages = record {
    ordered = order_puts w v ordered s (placeholder_length w range) x t puts (put_target w s range (placeholder_length w range) x verdict);
    on = goes_on s w v puts.frame.heap puts.frame.locks (kinds_turned s w v x.block Regular puts.page puts.free) (inl held);
    knows = ((λ past. long (subst (λ m. m < map_page_of range) puts.page.map_pages past)), these);
  }
  summarise_after _ _ (Set x sets none) known pages = record {
    ordered = set_ordered s w v ordered range x sets (long_enough pages.0);
    on = goes_on s w v sets.frame.heap sets.frame.locks (same_kinds s w v sets.pages) (inl held);
    knows = (tt, (x, known.1.1.0, sets.entry.now, sets.frame.tuples.tuple x ∙ known.1.1.1, known.1.1.3), tt, tt);
  }
  summarise_after _ _ (Extent extent result start is reads) known pages =
      read_after s w v ordered (Maintaining range (IsAt (Passing extent (range * w.pages_per_range) result) Empty)) reads (
        tt,
        names_reads s range w v reads pages.1,
        (
          subst (λ n. extent ≤ n) (sym reads.frame.heap.blocks) (omega arith),
          inr (ap (λ m. range * m) (sym reads.frame.heap.pages_per_range)),
        ),
        tt,
      )
  summarise_after _ _ (Pass extent next slots result wider below none made reads) known pages =
      read_after s w v ordered (Maintaining range (IsAt (Passing extent (next + 1) wider) Empty)) reads (
        tt,
        names_reads s range w v reads pages.1,
        (subst (λ n. extent ≤ n) (sym reads.frame.heap.blocks) pages.2.0, inl (omega arith)),
        tt,
      )
  summarise_after _ _ (Unite extent next result old new all step) known pages =
      let after = on_index_after s w v ordered range (inl held) old new step in
      record {
        ordered = after.0;
        on = after.1;
        knows = (
          after.2,
          names_on_index s range range w v old new step pages.1,
          within_same range w v (Passing extent next result) (on_index_keeps s range w v old new step).0 pages.2,
          uniting s range w v extent next result all old new step,
        );
      }
  summarise_after _ _ (UniteCopies extent next result x old new all stands united reads) known pages =
      read_after s w v ordered (Maintaining range (IsAt (Passing extent next result) (Copied x old new))) reads
      (tt, names_reads s range w v reads pages.1, within_same range w v (Passing extent next result) reads.frame.heap pages.2, all)
  summarise_after _ _ (SwapFinal p x old new verdict swap) known pages = record {
    ordered = swap_ordered s w v ordered x old new swap (swap_regular w s range x old new verdict);
    on = goes_on s w v swap.frame.heap swap.frame.locks (kinds_turned s w v x.block Regular swap.page swap.free) (inl held);
    knows = tt;
  }
  summarise_after _ _ (SetFinal p x y old new sets same) known pages = record {
    ordered = set_ordered s w v ordered range y sets (ordered.entries range x known.0.2);
    on = goes_on s w v sets.frame.heap sets.frame.locks (same_kinds s w v sets.pages) (inl held);
    knows = ((y.block, these_same s w v same (x.block ∷ y.block ∷ map_page_of range ∷ []) pages.0), tt);
  }
  summarise_after _ _ (DropOld x drops) known pages =
      record { ordered = drop_ordered s w v ordered x drops; on = drop_on s w v ordered x drops (inl held); knows = tt }

  desummarise_after : (old : Phase) (new : Statement) → DesummariseStep s range w v old new → KnowsPhase w s range old → KnowsPagesOfPhase w s range old
      → PagesAfter s w v new
  desummarise_after _ _ (ClearMap x named reads) known pages =
      read_after s w v ordered (Maintaining range (NotBuilding (Held x))) reads (tt, sort_read x named reads)
  desummarise_after _ _ (ClearNone none reads) known pages = read_after s w v ordered Holding reads tt
  desummarise_after _ _ (Clear x verdict clears these) known pages = record {
    ordered = clear_ordered s w v ordered range x clears;
    on = goes_on s w v clears.frame.heap clears.frame.locks (same_kinds s w v clears.pages) (inl held);
    knows = (
      (
        x.block,
        record {
          locked = λ p one. elim one [ inl at ↦ these.locked p (inl at) | inr more ↦ these.locked p more ];
          only = λ p is. inr (these.only p is);
        },
      ),
      tt,
    );
  }
  desummarise_after _ _ (ClearAgain x verdict reads) known pages = read_after s w v ordered (Maintaining range (NotBuilding Empty)) reads (tt, tt)
  desummarise_after _ _ (DropCleared x drops) known pages =
      record { ordered = drop_ordered s w v ordered x drops; on = drop_on s w v ordered x drops (inl held); knows = tt }

  pub maintain_after : (old : Phase) (new : Statement) → MaintainStep s range w v old new → KnowsPhase w s range old → KnowsPagesOfPhase w s range old
      → PagesAfter s w v new
  maintain_after old new (Summarises step) known pages = summarise_after old new step known pages
  maintain_after old new (Desummarises step) known pages = desummarise_after old new step known pages
