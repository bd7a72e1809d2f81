-- The name of each step on an index's pages, as it is printed.
use Rattle.std.specs.Prelude.{ℕ}
use Rattle.block_model.specs.declared.reply.Point.{Point}
use Rattle.block_model.specs.declared.reply.Point.TheVariants as points
use Rattle.block_model.specs.declared.row.Row.{Row}
use Rattle.coverage.specs.IndexView.{IndexView}
use Rattle.coverage.specs.Statements.{OnIndex, Phase, Statement}
use Rattle.coverage.specs.Steps.{OnIndexStep, Maps, Gone, Again, MovePut, InsertStep, InsertOnIndex, InsertNoEntry, InsertCopies, InsertUnchanged, InsertSwap}
use Rattle.coverage.specs.Steps.{InsertSet, InsertDrop, GrowthStep, Grow, CountLeftOver, Count, Flag, EvacuatePut, EvacuateSet, EvacuateDrop, EvacuateSweep}
use Rattle.coverage.specs.Steps.{Turn, SummariseStep, LookMap, LookGone, IsFinal, Found, ReadNoEntry, GrowMap, Put, Set, Extent, Pass, Unite, UniteCopies}
use Rattle.coverage.specs.Steps.{SwapFinal, SetFinal, DropOld, DesummariseStep, ClearMap, ClearNone, Clear, ClearAgain, DropCleared}

abbrev pub on_index_point : {s range : ℕ} {w v : IndexView} {old new : OnIndex} → OnIndexStep s range w v old new → Point
on_index_point (Maps x named reads) = points.Map
on_index_point (Gone x gone reads) = points.Copy
on_index_point (Again x old new verdict reads) = points.Again
on_index_point (MovePut x y old new verdict puts these) = points.Put

abbrev pub insert_point : {s b k : ℕ} {r : Row} {w v : IndexView} {old : OnIndex} {new : Statement} → InsertStep s b k r w v old new → Point
insert_point (InsertOnIndex old new step) = on_index_point step
insert_point (InsertNoEntry none reads) = points.Map
insert_point (InsertCopies x old new stands added changes reads) = points.Copy
insert_point (InsertUnchanged x t stands added free reads) = points.Copy
insert_point (InsertSwap x old new verdict swap) = points.Swap
insert_point (InsertSet x y old new sets same) = points.Set
insert_point (InsertDrop x drops) = points.Drop

abbrev pub growth_point : {s range : ℕ} {w v : IndexView} {old new : Phase} → GrowthStep s range w v old new → Point
growth_point (Grow grows free meta turns) = points.Grow
growth_point (CountLeftOver grows meta counts) = points.Meta
growth_point (Count counts) = points.Meta
growth_point (Flag grows free turns) = points.Flag
growth_point (EvacuatePut x y t grows next named free verdict puts these) = points.Put
growth_point (EvacuateSet m x y t u sets same) = points.Set
growth_point (EvacuateDrop m x drops) = points.Drop
growth_point (EvacuateSweep x t grows next unnamed sweeps) = points.Drop
growth_point (Turn grows empty free meta turns) = points.Turn

abbrev pub summarise_point : {s range : ℕ} {w v : IndexView} {old : Phase} {new : Statement} → SummariseStep s range w v old new → Point
summarise_point (LookMap x named reads) = points.Map
summarise_point (LookGone x gone reads) = points.Tuple
summarise_point (IsFinal x t stands final reads) = points.Tuple
summarise_point (Found x t stands flag reads) = points.Tuple
summarise_point (ReadNoEntry none of reads) = points.Map
summarise_point (GrowMap old new step) = growth_point step
summarise_point (Put x t is long verdict puts these) = points.Put
summarise_point (Set x sets none) = points.Set
summarise_point (Extent extent result start is reads) = points.Extent
summarise_point (Pass extent next slots result wider below none made reads) = points.Pass
summarise_point (Unite extent next result old new all step) = on_index_point step
summarise_point (UniteCopies extent next result x old new all stands united reads) = points.Copy
summarise_point (SwapFinal p x old new verdict swap) = points.Swap
summarise_point (SetFinal p x y old new sets same) = points.Set
summarise_point (DropOld x drops) = points.Drop

abbrev pub desummarise_point : {s range : ℕ} {w v : IndexView} {old : Phase} {new : Statement} → DesummariseStep s range w v old new → Point
desummarise_point (ClearMap x named reads) = points.Map
desummarise_point (ClearNone none reads) = points.Map
desummarise_point (Clear x verdict clears these) = points.Clear
desummarise_point (ClearAgain x verdict reads) = points.Again
desummarise_point (DropCleared x drops) = points.Drop
