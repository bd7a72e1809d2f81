-- A step in an index depends on what it shows of its map, tuples, pages and locks alone: it is one to any view that shows the same.
use Rattle.std.proofs.Common.{◌≡◌, ℕ, Option, List}
use Rattle.std.specs.Prelude.{refl}
use Rattle.block_model.specs.declared.row.Row.{Row}
use Rattle.block_model.specs.declared.place.Spot.{Spot}
use Rattle.coverage.specs.IndexView.{IndexTuple, Building, PageKind, IndexView, range_of_block}
use Rattle.coverage.specs.Changes.{Touched, TouchesNothing, TouchesRows, TouchesEntries, TouchesTuples, TouchesUnnamed, TouchesSummariseLock, KeepsHeap}
use Rattle.coverage.specs.Changes.{KeepsMap, KeepsTuples, KeepsUnnamed, KeepsSummariseLock, Frame}
use Rattle.coverage.specs.Statements.{OnIndex, Phase, Statement}
use Rattle.coverage.specs.IndexPart.{part_of, with_part, InsertMakes, SummariseMakes, DesummariseMakes, SweepMakes}
use Rattle.coverage.specs.Points.{on_index_point, insert_point, growth_point, summarise_point, desummarise_point}
use Rattle.coverage.specs.Counts.{summarise_count, desummarise_count}
use Rattle.coverage.specs.Steps.{IsUnnamed, ReadsIndex, PutsTuple, ReplacesTuple, SetsEntry, ClearsEntry, DropsTuple, SweepsTuples, TurnsKind, CountsPage}
use Rattle.coverage.specs.Steps.{OnIndexStep, Maps, Gone, Again, MovePut, InsertStep, InsertOnIndex, InsertNoEntry, InsertCopies, InsertUnchanged, InsertSwap}
use Rattle.coverage.specs.Steps.{InsertSet, InsertDrop, GrowthStep, Grow, CountLeftOver, Count, Flag, EvacuatePut, EvacuateSet, EvacuateDrop, EvacuateSweep}
use Rattle.coverage.specs.Steps.{Turn, SummariseStep, LookMap, LookGone, IsFinal, Found, ReadNoEntry, GrowMap, Put, Set, Extent, Pass, Unite, UniteCopies}
use Rattle.coverage.specs.Steps.{SwapFinal, SetFinal, DropOld, DesummariseStep, ClearMap, ClearNone, Clear, ClearAgain, DropCleared}

module _ (s : ℕ) (w v : IndexView) (building : ℕ → Option Building) (loose : ℕ → Option Spot) where
  abbrev u : IndexView
  u = with_part w (part_of v) building loose

  heap_on : (touched : Touched) → KeepsHeap touched w u
  heap_on TouchesRows = tt
  heap_on _ = record { pages_per_range = refl; blocks = refl; row = λ b k. refl }

  map_on : (touched : Touched) → KeepsMap touched w v → KeepsMap touched w u
  map_on TouchesEntries same = tt
  map_on _ same = record { entry = same.entry }

  tuples_on : (touched : Touched) → KeepsTuples touched w v → KeepsTuples touched w u
  tuples_on TouchesTuples same = tt
  tuples_on TouchesUnnamed same = tt
  tuples_on _ same = record { tuple = same.tuple }

  unnamed_on : (touched : Touched) → KeepsUnnamed touched w v → KeepsUnnamed touched w u
  unnamed_on TouchesUnnamed same = tt
  unnamed_on _ same = record { unnamed = same.unnamed }

  lock_on : (touched : Touched) → KeepsSummariseLock touched w u
  lock_on TouchesSummariseLock = tt
  lock_on _ = refl

  frame_on : (touched : Touched) → Frame s touched w v → Frame s touched w u
  frame_on touched frame = record {
    heap = heap_on touched;
    map = map_on touched frame.map;
    tuples = tuples_on touched frame.tuples;
    unnamed_tuples = unnamed_on touched frame.unnamed_tuples;
    summarise_lock = lock_on touched;
    locks = record { others = frame.locks.others; taken = frame.locks.taken };
    contents = refl;
  }

  reads_on : ReadsIndex s w v → ReadsIndex s w u
  reads_on reads = record { frame = frame_on TouchesNothing reads.frame; pages = reads.pages; none = reads.none }

  puts_on : (y : Spot) (t : IndexTuple) → PutsTuple s w v y t → PutsTuple s w u y t
  puts_on y t puts = record { tuple = puts.tuple; free = puts.free; page = puts.page; frame = frame_on TouchesTuples puts.frame }

  replaces_on : (x : Spot) (old new : IndexTuple) → ReplacesTuple s w v x old new → ReplacesTuple s w u x old new
  replaces_on x old new swap = record {
    tuple = swap.tuple;
    free = swap.free;
    page = swap.page;
    frame = frame_on TouchesTuples swap.frame;
    none = swap.none;
  }

  sets_on : (range : ℕ) (x : Spot) → SetsEntry s w v range x → SetsEntry s w u range x
  sets_on range x sets = record { entry = sets.entry; pages = sets.pages; frame = frame_on TouchesEntries sets.frame }

  clears_on : (range : ℕ) (x : Spot) → ClearsEntry s w v range x → ClearsEntry s w u range x
  clears_on range x clears = record { entry = clears.entry; free = clears.free; pages = clears.pages; frame = frame_on TouchesEntries clears.frame }

  drops_on : (x : Spot) → DropsTuple s w v x → DropsTuple s w u x
  drops_on x drops = record {
    tuple = drops.tuple;
    page = drops.page;
    frame = frame_on TouchesTuples drops.frame;
    none = drops.none;
  }

  sweeps_on : (page : ℕ) (Sweeping : Spot → Type 0) → SweepsTuples s w v page Sweeping → SweepsTuples s w u page Sweeping
  sweeps_on page Sweeping sweeps = record {
    free = sweeps.free;
    gone = sweeps.gone;
    places = sweeps.places;
    page = sweeps.page;
    frame = frame_on TouchesUnnamed sweeps.frame;
    none = sweeps.none;
  }

  turns_on : (kind : PageKind) (these : List ℕ) → TurnsKind s w v kind these → TurnsKind s w u kind these
  turns_on kind these turns = record {
    frame = frame_on TouchesNothing turns.frame;
    page = turns.page;
    locks = turns.locks;
  }

  counts_on : CountsPage s w v → CountsPage s w u
  counts_on counts = record { frame = frame_on TouchesNothing counts.frame; pages = counts.pages; none = counts.none }

  on_index_on : (range : ℕ) (old new : OnIndex) → OnIndexStep s range w v old new → OnIndexStep s range w u old new
  on_index_on range _ _ (Maps x named reads) = Maps x named (reads_on reads)
  on_index_on range _ _ (Gone x gone reads) = Gone x gone (reads_on reads)
  on_index_on range _ _ (Again x old new verdict reads) = Again x old new verdict (reads_on reads)
  on_index_on range _ _ (MovePut x y old new verdict puts these) = MovePut x y old new verdict (puts_on y new puts) these

  pub insert_on : (b k : ℕ) (r : Row) (old : OnIndex) (new : Statement) → InsertStep s b k r w v old new → InsertStep s b k r w u old new
  insert_on b k r _ _ (InsertOnIndex old new step) = InsertOnIndex old new (on_index_on (range_of_block w b) old new step)
  insert_on b k r _ _ (InsertNoEntry none reads) = InsertNoEntry none (reads_on reads)
  insert_on b k r _ _ (InsertCopies x old new stands added changes reads) = InsertCopies x old new stands added changes (reads_on reads)
  insert_on b k r _ _ (InsertUnchanged x t stands added free reads) = InsertUnchanged x t stands added free (reads_on reads)
  insert_on b k r _ _ (InsertSwap x old new verdict swap) = InsertSwap x old new verdict (replaces_on x old new swap)
  insert_on b k r _ _ (InsertSet x y old new sets same) = InsertSet x y old new (sets_on _ y sets) same
  insert_on b k r _ _ (InsertDrop x drops) = InsertDrop x (drops_on x drops)

  growth_on : (range : ℕ) (old new : Phase) → GrowthStep s range w v old new → GrowthStep s range w u old new
  growth_on range _ _ (Grow grows free meta turns) = Grow grows free meta (turns_on _ _ turns)
  growth_on range _ _ (CountLeftOver grows meta counts) = CountLeftOver grows meta (counts_on counts)
  growth_on range _ _ (Count counts) = Count (counts_on counts)
  growth_on range _ _ (Flag grows free turns) = Flag grows free (turns_on _ _ turns)
  growth_on range _ _ (EvacuatePut x y t grows next named free verdict puts these) =
      EvacuatePut x y t grows next named free verdict (puts_on y t puts) these
  growth_on range _ _ (EvacuateSet m x y t old sets same) = EvacuateSet m x y t old (sets_on m y sets) same
  growth_on range _ _ (EvacuateDrop m x drops) = EvacuateDrop m x (drops_on x drops)
  growth_on range _ _ (EvacuateSweep x t grows next unnamed sweeps) = EvacuateSweep x t grows next unnamed (sweeps_on _ _ sweeps)
  growth_on range _ _ (Turn grows empty free meta turns) = Turn grows empty free meta (turns_on _ _ turns)

  pub summarise_on : (range : ℕ) (old : Phase) (new : Statement) → SummariseStep s range w v old new → SummariseStep s range w u old new
  summarise_on range _ _ (LookMap x named reads) = LookMap x named (reads_on reads)
  summarise_on range _ _ (LookGone x gone reads) = LookGone x gone (reads_on reads)
  summarise_on range _ _ (IsFinal x t stands final reads) = IsFinal x t stands final (reads_on reads)
  summarise_on range _ _ (Found x t stands flag reads) = Found x t stands flag (reads_on reads)
  summarise_on range _ _ (ReadNoEntry none of reads) = ReadNoEntry none of (reads_on reads)
  summarise_on range _ _ (GrowMap old new step) = GrowMap old new (growth_on range old new step)
  summarise_on range _ _ (Put x t is long verdict puts these) = Put x t is long verdict (puts_on x t puts) these
  summarise_on range _ _ (Set x sets none) = Set x (sets_on range x sets) none
  summarise_on range _ _ (Extent extent result start is reads) = Extent extent result start is (reads_on reads)
  summarise_on range _ _ (Pass extent next slots result wider below none made reads) = Pass extent next slots result wider below none made (reads_on reads)
  summarise_on range _ _ (Unite extent next result old new all step) = Unite extent next result old new all (on_index_on range old new step)
  summarise_on range _ _ (UniteCopies extent next result x old new all stands united reads) =
      UniteCopies extent next result x old new all stands united (reads_on reads)
  summarise_on range _ _ (SwapFinal p x old new verdict swap) = SwapFinal p x old new verdict (replaces_on x old new swap)
  summarise_on range _ _ (SetFinal p x y old new sets same) = SetFinal p x y old new (sets_on range y sets) same
  summarise_on range _ _ (DropOld x drops) = DropOld x (drops_on x drops)

  pub desummarise_on : (range : ℕ) (old : Phase) (new : Statement) → DesummariseStep s range w v old new → DesummariseStep s range w u old new
  desummarise_on range _ _ (ClearMap x named reads) = ClearMap x named (reads_on reads)
  desummarise_on range _ _ (ClearNone none reads) = ClearNone none (reads_on reads)
  desummarise_on range _ _ (Clear x verdict clears these) = Clear x verdict (clears_on range x clears) these
  desummarise_on range _ _ (ClearAgain x verdict reads) = ClearAgain x verdict (reads_on reads)
  desummarise_on range _ _ (DropCleared x drops) = DropCleared x (drops_on x drops)

  -- the step on the other view has the same name, and counts the same
  on_index_point_on : (range : ℕ) (old new : OnIndex) (step : OnIndexStep s range w v old new) → on_index_point (on_index_on range old new step) ≡ on_index_point step
  unfolding on_index_on
  on_index_point_on range _ _ (Maps x named reads) = refl
  on_index_point_on range _ _ _ = refl

  insert_point_on : (b k : ℕ) (r : Row) (old : OnIndex) (new : Statement) (step : InsertStep s b k r w v old new)
      → insert_point (insert_on b k r old new step) ≡ insert_point step
  unfolding insert_on
  insert_point_on b k r _ _ (InsertOnIndex old new step) = on_index_point_on (range_of_block w b) old new step
  insert_point_on b k r _ _ _ = refl

  growth_point_on : (range : ℕ) (old new : Phase) (step : GrowthStep s range w v old new) → growth_point (growth_on range old new step) ≡ growth_point step
  unfolding growth_on
  growth_point_on range _ _ (Grow grows free meta turns) = refl
  growth_point_on range _ _ _ = refl

  summarise_point_on : (range : ℕ) (old : Phase) (new : Statement) (step : SummariseStep s range w v old new)
      → summarise_point (summarise_on range old new step) ≡ summarise_point step
  unfolding summarise_on
  summarise_point_on range _ _ (GrowMap old new step) = growth_point_on range old new step
  summarise_point_on range _ _ (Unite extent next result old new all step) = on_index_point_on range old new step
  summarise_point_on range _ _ _ = refl

  summarise_count_on : (range : ℕ) (old : Phase) (new : Statement) (step : SummariseStep s range w v old new)
      → summarise_count (summarise_on range old new step) ≡ summarise_count step
  unfolding summarise_on
  summarise_count_on range _ _ (LookMap x named reads) = refl
  summarise_count_on range _ _ _ = refl

  desummarise_point_on : (range : ℕ) (old : Phase) (new : Statement) (step : DesummariseStep s range w v old new)
      → desummarise_point (desummarise_on range old new step) ≡ desummarise_point step
  unfolding desummarise_on
  desummarise_point_on range _ _ (ClearMap x named reads) = refl
  desummarise_point_on range _ _ _ = refl

  desummarise_count_on : (range : ℕ) (old : Phase) (new : Statement) (step : DesummariseStep s range w v old new)
      → desummarise_count (desummarise_on range old new step) ≡ desummarise_count step
  unfolding desummarise_on
  desummarise_count_on range _ _ (ClearMap x named reads) = refl
  desummarise_count_on range _ _ _ = refl

pub insert_makes : (s b k : ℕ) (r : Row) (w v : IndexView) (old : OnIndex) (new : Statement) (step : InsertStep s b k r w v old new)
    → InsertMakes s b k r w (part_of v) old new (insert_point step)
insert_makes s b k r w v old new step building loose =
    (insert_on s w v building loose b k r old new step, insert_point_on s w v building loose b k r old new step)

pub summarise_makes : (s range : ℕ) (w v : IndexView) (old : Phase) (new : Statement) (step : SummariseStep s range w v old new)
    → SummariseMakes s range w (part_of v) old new (summarise_point step) (summarise_count step)
summarise_makes s range w v old new step building loose = (
  summarise_on s w v building loose range old new step,
  summarise_point_on s w v building loose range old new step,
  summarise_count_on s w v building loose range old new step,
)

pub desummarise_makes : (s range : ℕ) (w v : IndexView) (old : Phase) (new : Statement) (step : DesummariseStep s range w v old new)
    → DesummariseMakes s range w (part_of v) old new (desummarise_point step) (desummarise_count step)
desummarise_makes s range w v old new step building loose = (
  desummarise_on s w v building loose range old new step,
  desummarise_point_on s w v building loose range old new step,
  desummarise_count_on s w v building loose range old new step,
)

pub sweep_makes : (s page : ℕ) (w v : IndexView) → SweepsTuples s w v page (λ x. (x.block ≡ page) × IsUnnamed w x) → SweepMakes s page w (part_of v)
sweep_makes s page w v sweeps building loose = sweeps_on s w v building loose page (λ (x : Spot). (x.block ≡ page) × IsUnnamed w x) sweeps
