-- Of the steps that a statement could take on an index there is one point alone, and none where it is blocked: each step has the
-- facts that fix its point, and the facts hold for one point.
use Rattle.std.proofs.Common.{◌≡◌, ℕ, ◌≤◌, ◌<◌, Some, sym, ◌∙◌, ap, subst}
use Rattle.std.specs.Prelude.{refl, length}
use Rattle.std.proofs.lemmas.Option.{same_Some}
use Rattle.std.proofs.Math.Nat.{le_antisymm, not-le_of_lt}
use Rattle.block_model.specs.declared.reply.Point.{Point}
use Rattle.block_model.specs.declared.reply.Point.TheVariants as points
use Rattle.block_model.specs.declared.row.Row.{Row}
use Rattle.block_model.specs.declared.place.Spot.{Spot}
use Rattle.coverage.specs.IndexView.{IndexTuple, Progress, ExtentUnread, Passing, PageKind, Unstarted, Mapping, Regular, Emptying, IndexView}
use Rattle.coverage.specs.IndexView.{placeholder_length, range_of_block, next_map_page, IsPastMap}
use Rattle.coverage.specs.Changes.{IsFree}
use Rattle.coverage.specs.Verdicts.{Verdict, Waits, Differs, Fits, Puts, PutVerdict, SwapVerdict, ClearVerdict}
use Rattle.coverage.specs.Statements.{OnIndex, Empty, Held, Copied, Moving, Dropping, Phase, NotBuilding, Vacant, Growing, Evacuating, Placing, IsAt, Statement}
use Rattle.coverage.specs.Steps.{IsUnnamed, OnIndexStep, Maps, Gone, Again, MovePut, InsertStep, InsertOnIndex, InsertNoEntry, InsertCopies, InsertUnchanged}
use Rattle.coverage.specs.Steps.{InsertSwap, InsertSet, InsertDrop, GrowthStep, Grow, CountLeftOver, Count, Flag, EvacuatePut, EvacuateSet, EvacuateDrop}
use Rattle.coverage.specs.Steps.{EvacuateSweep, Turn, SummariseStep, LookMap, LookGone, IsFinal, Found, ReadNoEntry, GrowMap, Put, Set, Extent, Pass, Unite}
use Rattle.coverage.specs.Steps.{UniteCopies, SwapFinal, SetFinal, DropOld, DesummariseStep, ClearMap, ClearNone, Clear, ClearAgain, DropCleared}
use Rattle.coverage.specs.Waiting.{IsNextTuple, Grows, IsPhaseWaiting, FinalWaits, PlaceWaits, GrowWaits, CountWaits, FlagWaits, EvacuateWaits}
use Rattle.coverage.specs.Waiting.{EvacuatePutWaits, TurnWaits}
use Rattle.coverage.specs.Points.{on_index_point, insert_point, growth_point, summarise_point, desummarise_point}
use Rattle.coverage.proofs.Verdicts.{free_not_locked, both_free, put_once, swap_once, clear_once}

-- the verdict on a step that isn't blocked
abbrev IsUnblocked : Verdict → Type 0
IsUnblocked (Waits p) = ⊥
IsUnblocked verdict = Unit

abbrev swap_point : Verdict → Point
swap_point Differs = points.Again
swap_point (Puts y) = points.Put
swap_point verdict = points.Swap

abbrev clear_point : Verdict → Point
clear_point Differs = points.Again
clear_point verdict = points.Clear

-- the next tuple of a page is one
pub next_once : (w : IndexView) (page : ℕ) (x y : Spot) (t u : IndexTuple) → IsNextTuple w.tuple page x t → IsNextTuple w.tuple page y u → (x ≡ y) × (t ≡ u)
next_once w page x y t u one two = (place, same_Some _ _ (sym one.stands ∙ ap w.tuple place ∙ two.stands))
  where
    block : x.block ≡ y.block
    block = one.on ∙ sym two.on

    slot : x.slot ≡ y.slot
    slot = le_antisymm (one.first y u two.on two.stands) (two.first x t one.on one.stands)

    place : x ≡ y
    place = λ i. record { block = block i; slot = slot i }

-- the next tuple isn't named and unnamed at once
pub named_or_not : (w : IndexView) (page : ℕ) (x y : Spot) (t u : IndexTuple)
    → IsNextTuple w.tuple page x t → IsNextTuple w.tuple page y u → w.entry t.range ≡ Some x → IsUnnamed w y → ⊥
named_or_not w page x y t u one two named unnamed =
    let same = next_once w page x y t u one two in
    let tuple : t ≡ unnamed.0 = same.1 ∙ same_Some _ _ (sym two.stands ∙ unnamed.1) in
    unnamed.2 (ap (λ (q : IndexTuple). w.entry q.range) (sym tuple) ∙ named ∙ ap Some same.0)

-- the points of an insert, by its state on the index
data OnIndexPoint (w : IndexView) (s range : ℕ) : OnIndex → Point → Type 0 where
  ToMap : OnIndexPoint w s range Empty points.Map
  ToCopy : (x : Spot) → OnIndexPoint w s range (Held x) points.Copy
  ToJudge : (x : Spot) (old new : IndexTuple) (verdict : Verdict) → IsUnblocked verdict → SwapVerdict w s range x old new verdict
      → OnIndexPoint w s range (Copied x old new) (swap_point verdict)
  ToSet : (x y : Spot) (old new : IndexTuple) → OnIndexPoint w s range (Moving x y old new) points.Set
  ToDrop : (x : Spot) → OnIndexPoint w s range (Dropping x) points.Drop

on_index_once : (w : IndexView) (s range : ℕ) (on_index : OnIndex) (p q : Point) → OnIndexPoint w s range on_index p → OnIndexPoint w s range on_index q → p ≡ q
on_index_once w s range _ _ _ ToMap ToMap = refl
on_index_once w s range _ _ _ (ToCopy x) (ToCopy x') = refl
on_index_once w s range _ _ _ (ToJudge x old new p free one) (ToJudge x' old' new' q free' two) = ap swap_point (swap_once w s range x old new p q one two)
on_index_once w s range _ _ _ (ToSet x y old new) (ToSet x' y' old' new') = refl
on_index_once w s range _ _ _ (ToDrop x) (ToDrop x') = refl

on_index_blocked : (w : IndexView) (s range q : ℕ) (x : Spot) (old new : IndexTuple) (p : Point)
    → SwapVerdict w s range x old new (Waits q) → OnIndexPoint w s range (Copied x old new) p → ⊥
on_index_blocked w s range q x old new _ waits (ToJudge _ _ _ p free one) = subst IsUnblocked (swap_once w s range x old new p (Waits q) one waits) free

on_index_fact : (s range : ℕ) (w v : IndexView) (old new : OnIndex) (step : OnIndexStep s range w v old new) → OnIndexPoint w s range old (on_index_point step)
on_index_fact s range w v _ _ (Maps x named reads) = ToMap
on_index_fact s range w v _ _ (Gone x gone reads) = ToCopy x
on_index_fact s range w v _ _ (Again x old new verdict reads) = ToJudge x old new Differs tt verdict
on_index_fact s range w v _ _ (MovePut x y old new verdict puts these) = ToJudge x old new (Puts y) tt verdict

insert_fact : (s b k : ℕ) (r : Row) (w v : IndexView) (on_index : OnIndex) (e : Statement) (step : InsertStep s b k r w v on_index e)
    → OnIndexPoint w s (range_of_block w b) on_index (insert_point step)
insert_fact s b k r w v _ _ (InsertOnIndex old new step) = on_index_fact s (range_of_block w b) w v old new step
insert_fact s b k r w v _ _ (InsertNoEntry none reads) = ToMap
insert_fact s b k r w v _ _ (InsertCopies x old new stands added changes reads) = ToCopy x
insert_fact s b k r w v _ _ (InsertUnchanged x t stands added free reads) = ToCopy x
insert_fact s b k r w v _ _ (InsertSwap x old new verdict swap) = ToJudge x old new Fits tt verdict
insert_fact s b k r w v _ _ (InsertSet x y old new sets same) = ToSet x y old new
insert_fact s b k r w v _ _ (InsertDrop x drops) = ToDrop x

pub insert_one_point : (s b k : ℕ) (r : Row) (w v u : IndexView) (on_index : OnIndex) (e f : Statement)
    → (one : InsertStep s b k r w v on_index e) → (two : InsertStep s b k r w u on_index f) → insert_point one ≡ insert_point two
insert_one_point s b k r w v u on_index e f one two =
    on_index_once w s (range_of_block w b) on_index _ _ (insert_fact s b k r w v on_index e one) (insert_fact s b k r w u on_index f two)

pub insert_blocked : (s b k p : ℕ) (r : Row) (w v : IndexView) (x : Spot) (old new : IndexTuple) (e : Statement)
    → SwapVerdict w s (range_of_block w b) x old new (Waits p) → InsertStep s b k r w v (Copied x old new) e → ⊥
insert_blocked s b k p r w v x old new e waits step = on_index_blocked w s (range_of_block w b) p x old new _ waits (insert_fact s b k r w v _ e step)

-- the points of a page that is emptied for the map
data EmptyingPoint (w : IndexView) (s : ℕ) : Point → Type 0 where
  NamedNext : (x y : Spot) (t : IndexTuple) → IsNextTuple w.tuple (next_map_page w.pages) x t → w.entry t.range ≡ Some x → IsFree w.lock s x.block
      → PutVerdict w s t.range (length t.bytes) (Puts y) → EmptyingPoint w s points.Put
  UnnamedNext : (x : Spot) (t : IndexTuple) → IsNextTuple w.tuple (next_map_page w.pages) x t → IsUnnamed w x → IsFree w.lock s (next_map_page w.pages)
      → EmptyingPoint w s points.Drop
  NoneNext : ((x : Spot) (t : IndexTuple) → IsNextTuple w.tuple (next_map_page w.pages) x t → ⊥) → IsFree w.lock s (next_map_page w.pages) → IsFree w.lock s 0
      → EmptyingPoint w s points.Turn

emptying_once : (w : IndexView) (s : ℕ) (p q : Point) → EmptyingPoint w s p → EmptyingPoint w s q → p ≡ q
emptying_once w s _ _ (NamedNext x y t next named free verdict) (UnnamedNext x' t' next' unnamed free') =
    absurd (named_or_not w (next_map_page w.pages) x x' t t' next next' named unnamed)
emptying_once w s _ _ (NamedNext x y t next named free verdict) (NoneNext none free' meta) = absurd (none x t next)
emptying_once w s _ _ (UnnamedNext x t next unnamed free) (NamedNext x' y t' next' named free' verdict) =
    absurd (named_or_not w (next_map_page w.pages) x' x t' t next' next named unnamed)
emptying_once w s _ _ (UnnamedNext x t next unnamed free) (NoneNext none free' meta) = absurd (none x t next)
emptying_once w s _ _ (NoneNext none free meta) (NamedNext x y t next named free' verdict) = absurd (none x t next)
emptying_once w s _ _ (NoneNext none free meta) (UnnamedNext x t next unnamed free') = absurd (none x t next)
emptying_once w s _ _ _ _ = refl

-- the points of the map's growth, by the kind of its next page
abbrev KindPoint : IndexView → ℕ → PageKind → Point → Type 0
KindPoint w s Unstarted p = (p ≡ points.Grow) × IsFree w.lock s (next_map_page w.pages) × IsFree w.lock s 0
KindPoint w s Mapping p = (p ≡ points.Meta) × IsFree w.lock s 0
KindPoint w s Regular p = (p ≡ points.Flag) × IsFree w.lock s (next_map_page w.pages)
KindPoint w s Emptying p = EmptyingPoint w s p

kind_once : (w : IndexView) (s : ℕ) (kind : PageKind) (p q : Point) → KindPoint w s kind p → KindPoint w s kind q → p ≡ q
kind_once w s Emptying p q one two = emptying_once w s p q one two
kind_once w s _ p q one two = one.0 ∙ sym two.0

-- the points of a summariser that read that the map has no entry
data VacantPoint (w : IndexView) (s range : ℕ) : Point → Type 0 where
  MapSuffices : (x : Spot) → (IsPastMap w.pages range → ⊥) → PutVerdict w s range (placeholder_length w range) (Puts x) → VacantPoint w s range points.Put
  MapGrows : (kind : PageKind) (p : Point) → Grows w.pages range kind → KindPoint w s kind p → VacantPoint w s range p

vacant_once : (w : IndexView) (s range : ℕ) (p q : Point) → VacantPoint w s range p → VacantPoint w s range q → p ≡ q
vacant_once w s range _ _ (MapSuffices x long verdict) (MapSuffices x' long' verdict') = refl
vacant_once w s range _ _ (MapSuffices x long verdict) (MapGrows kind q grows at) = absurd (long grows.short)
vacant_once w s range _ _ (MapGrows kind p grows at) (MapSuffices x long verdict) = absurd (long grows.short)
vacant_once w s range _ _ (MapGrows kind p grows at) (MapGrows kind' q grows' at') =
    kind_once w s kind p q at (subst (λ l. KindPoint w s l q) (sym grows'.is ∙ grows.is) at')

-- all blocks are passed where a summariser goes on to the map
abbrev IsUniting : OnIndex → Progress → Type 0
IsUniting Empty ExtentUnread = ⊥
IsUniting Empty (Passing extent next result) = extent ≤ next
IsUniting on_index progress = Unit

-- the points of a summariser, by its phase
data SummarisePoint (w : IndexView) (s range : ℕ) : Phase → Point → Type 0 where
  LooksAtMap : SummarisePoint w s range (NotBuilding Empty) points.Map
  LooksAtTuple : (x : Spot) → SummarisePoint w s range (NotBuilding (Held x)) points.Tuple
  DropsOld : (x : Spot) → SummarisePoint w s range (NotBuilding (Dropping x)) points.Drop
  WantsEntry : (p : Point) → VacantPoint w s range p → SummarisePoint w s range Vacant p
  ToCount : SummarisePoint w s range Growing points.Meta
  MovesOther : (m : ℕ) (on_index : OnIndex) (p : Point) → OnIndexPoint w s m on_index p → SummarisePoint w s range (Evacuating m on_index) p
  SetsPlaceholder : (x : Spot) → SummarisePoint w s range (Placing x) points.Set
  ToExtent : SummarisePoint w s range (IsAt ExtentUnread Empty) points.Extent
  PassesNext : (extent next : ℕ) (result : IndexTuple) → next < extent → SummarisePoint w s range (IsAt (Passing extent next result) Empty) points.Pass
  MakesFinal : (progress : Progress) (on_index : OnIndex) (p : Point) → IsUniting on_index progress → OnIndexPoint w s range on_index p
      → SummarisePoint w s range (IsAt progress on_index) p

summarise_once : (w : IndexView) (s range : ℕ) (phase : Phase) (p q : Point) → SummarisePoint w s range phase p → SummarisePoint w s range phase q → p ≡ q
summarise_once w s range _ _ _ LooksAtMap LooksAtMap = refl
summarise_once w s range _ _ _ (LooksAtTuple x) (LooksAtTuple x') = refl
summarise_once w s range _ _ _ (DropsOld x) (DropsOld x') = refl
summarise_once w s range _ _ _ (WantsEntry p one) (WantsEntry q two) = vacant_once w s range p q one two
summarise_once w s range _ _ _ ToCount ToCount = refl
summarise_once w s range _ _ _ (MovesOther m on_index p one) (MovesOther m' on_index' q two) = on_index_once w s m on_index p q one two
summarise_once w s range _ _ _ (SetsPlaceholder x) (SetsPlaceholder x') = refl
summarise_once w s range _ _ _ ToExtent ToExtent = refl
summarise_once w s range _ _ _ ToExtent (MakesFinal _ _ q none two) = absurd none
summarise_once w s range _ _ _ (PassesNext extent next result below) (PassesNext extent' next' result' below') = refl
summarise_once w s range _ _ _ (PassesNext extent next result below) (MakesFinal _ _ q all two) = absurd (not-le_of_lt below all)
summarise_once w s range _ _ _ (MakesFinal _ _ p none one) ToExtent = absurd none
summarise_once w s range _ _ _ (MakesFinal _ _ p all one) (PassesNext extent next result below) = absurd (not-le_of_lt below all)
summarise_once w s range _ _ _ (MakesFinal progress on_index p all one) (MakesFinal progress' on_index' q all' two) =
    on_index_once w s range on_index p q one two

growth_fact : (s range : ℕ) (w v : IndexView) (old new : Phase) (step : GrowthStep s range w v old new) → SummarisePoint w s range old (growth_point step)
growth_fact s range w v _ _ (Grow grows free meta turns) = WantsEntry points.Grow (MapGrows Unstarted points.Grow grows (refl, free, meta))
growth_fact s range w v _ _ (CountLeftOver grows meta counts) = WantsEntry points.Meta (MapGrows Mapping points.Meta grows (refl, meta))
growth_fact s range w v _ _ (Count counts) = ToCount
growth_fact s range w v _ _ (Flag grows free turns) = WantsEntry points.Flag (MapGrows Regular points.Flag grows (refl, free))
growth_fact s range w v _ _ (EvacuatePut x y t grows next named free verdict puts these) =
    WantsEntry points.Put (MapGrows Emptying points.Put grows (NamedNext x y t next named free verdict))
growth_fact s range w v _ _ (EvacuateSet m x y t u sets same) = MovesOther m (Moving x y t u) points.Set (ToSet x y t u)
growth_fact s range w v _ _ (EvacuateDrop m x drops) = MovesOther m (Dropping x) points.Drop (ToDrop x)
growth_fact s range w v _ _ (EvacuateSweep x t grows next unnamed sweeps) =
    WantsEntry points.Drop (MapGrows Emptying points.Drop grows (UnnamedNext x t next unnamed sweeps.free))
growth_fact s range w v _ _ (Turn grows empty free meta turns) = WantsEntry points.Turn (MapGrows Emptying points.Turn grows (NoneNext empty free meta))

uniting : (on_index : OnIndex) (extent next : ℕ) (result : IndexTuple) → extent ≤ next → IsUniting on_index (Passing extent next result)
uniting Empty extent next result all = all
uniting _ extent next result all = tt

summarise_fact : (s range : ℕ) (w v : IndexView) (phase : Phase) (e : Statement) (step : SummariseStep s range w v phase e)
    → SummarisePoint w s range phase (summarise_point step)
summarise_fact s range w v _ _ (LookMap x named reads) = LooksAtMap
summarise_fact s range w v _ _ (LookGone x gone reads) = LooksAtTuple x
summarise_fact s range w v _ _ (IsFinal x t stands final reads) = LooksAtTuple x
summarise_fact s range w v _ _ (Found x t stands flag reads) = LooksAtTuple x
summarise_fact s range w v _ _ (ReadNoEntry none of reads) = LooksAtMap
summarise_fact s range w v _ _ (GrowMap old new step) = growth_fact s range w v old new step
summarise_fact s range w v _ _ (Put x t is long verdict puts these) = WantsEntry points.Put (MapSuffices x long verdict)
summarise_fact s range w v _ _ (Set x sets none) = SetsPlaceholder x
summarise_fact s range w v _ _ (Extent extent result start is reads) = ToExtent
summarise_fact s range w v _ _ (Pass extent next slots result wider below none made reads) = PassesNext extent next result below
summarise_fact s range w v _ _ (Unite extent next result old new all step) =
    MakesFinal (Passing extent next result) old (on_index_point step) (uniting old extent next result all) (on_index_fact s range w v old new step)
summarise_fact s range w v _ _ (UniteCopies extent next result x old new all stands united reads) =
    MakesFinal (Passing extent next result) (Held x) points.Copy tt (ToCopy x)
summarise_fact s range w v _ _ (SwapFinal p x old new verdict swap) = MakesFinal p (Copied x old new) points.Swap tt (ToJudge x old new Fits tt verdict)
summarise_fact s range w v _ _ (SetFinal p x y old new sets same) = MakesFinal p (Moving x y old new) points.Set tt (ToSet x y old new)
summarise_fact s range w v _ _ (DropOld x drops) = DropsOld x

pub summarise_one_point : (s range : ℕ) (w v u : IndexView) (phase : Phase) (e f : Statement)
    → (one : SummariseStep s range w v phase e) → (two : SummariseStep s range w u phase f) → summarise_point one ≡ summarise_point two
summarise_one_point s range w v u phase e f one two =
    summarise_once w s range phase _ _ (summarise_fact s range w v phase e one) (summarise_fact s range w u phase f two)

-- a put that waits doesn't go
no_put : (w : IndexView) (s range need q : ℕ) (y : Spot) → PutVerdict w s range need (Waits q) → PutVerdict w s range need (Puts y) → ⊥
no_put w s range need q y waits goes = subst IsUnblocked (put_once w s range need (Puts y) (Waits q) goes waits) tt

module _ (w : IndexView) (s range : ℕ) where
  -- where the map may grow onto a page of this kind, the facts are those of the kind
  kind_at : (kind : PageKind) (p : Point) → Grows w.pages range kind → SummarisePoint w s range Vacant p → KindPoint w s kind p
  kind_at kind _ grows (WantsEntry p (MapSuffices x long verdict)) = absurd (long grows.short)
  kind_at kind _ grows (WantsEntry p (MapGrows kind' _ grows' at)) = subst (λ l. KindPoint w s l p) (sym grows'.is ∙ grows.is) at

  place_waits : (q : ℕ) (p : Point) → (IsPastMap w.pages range → ⊥) → PutVerdict w s range (placeholder_length w range) (Waits q)
      → SummarisePoint w s range Vacant p → ⊥
  place_waits q _ long waits (WantsEntry p (MapSuffices x long' verdict)) = no_put w s range (placeholder_length w range) q x waits verdict
  place_waits q _ long waits (WantsEntry p (MapGrows kind _ grows at)) = long grows.short

  put_waits : (q : ℕ) (x : Spot) (t : IndexTuple) (p : Point) → IsNextTuple w.tuple (next_map_page w.pages) x t → w.entry t.range ≡ Some x
      → PutVerdict w s t.range (length t.bytes) (Waits q) → EmptyingPoint w s p → ⊥
  put_waits q x t _ next named waits (NamedNext x' y t' next' named' free verdict) =
      let same : t ≡ t' = (next_once w (next_map_page w.pages) x x' t t' next next').1 in
      no_put w s t'.range (length t'.bytes) q y (subst (λ (z : IndexTuple). PutVerdict w s z.range (length z.bytes) (Waits q)) same waits) verdict
  put_waits q x t _ next named waits (UnnamedNext x' t' next' unnamed free) = named_or_not w (next_map_page w.pages) x x' t t' next next' named unnamed
  put_waits q x t _ next named waits (NoneNext none free meta) = none x t next

  lock_waits : (x : Spot) (t : IndexTuple) (p : Point) → IsNextTuple w.tuple (next_map_page w.pages) x t
      → (IsFree w.lock s (next_map_page w.pages) → ⊥) → EmptyingPoint w s p
      → ⊥
  lock_waits x t _ next locked (NamedNext x' y t' next' named free verdict) = locked (subst (IsFree w.lock s) next'.on free)
  lock_waits x t _ next locked (UnnamedNext x' t' next' unnamed free) = locked free
  lock_waits x t _ next locked (NoneNext none free meta) = none x t next

  turn_waits : (p : Point) → ((x : Spot) (t : IndexTuple) → IsNextTuple w.tuple (next_map_page w.pages) x t → ⊥)
      → (IsFree w.lock s (next_map_page w.pages) → IsFree w.lock s 0 → ⊥) → EmptyingPoint w s p → ⊥
  turn_waits _ none locked (NamedNext x y t next named free verdict) = none x t next
  turn_waits _ none locked (UnnamedNext x t next unnamed free) = none x t next
  turn_waits _ none locked (NoneNext none' free meta) = locked free meta

  phase_blocked : (q : ℕ) (phase : Phase) (p : Point) → IsPhaseWaiting w s range phase q → SummarisePoint w s range phase p → ⊥
  phase_blocked _ _ p (FinalWaits q _ x old new waits) (MakesFinal _ _ _ all at) = on_index_blocked w s range q x old new p waits at
  phase_blocked _ _ p (PlaceWaits q long waits) at = place_waits q p long waits at
  phase_blocked _ _ p (GrowWaits q grows locked) at =
      let free = kind_at Unstarted p grows at in both_free w s (next_map_page w.pages) 0 q free.1 free.2 locked
  phase_blocked _ _ p (CountWaits grows locked) at = free_not_locked w s 0 (kind_at Mapping p grows at).1 locked
  phase_blocked _ _ p (FlagWaits grows locked) at = free_not_locked w s (next_map_page w.pages) (kind_at Regular p grows at).1 locked
  phase_blocked _ _ p (EvacuateWaits x t grows next locked) at =
      lock_waits x t p next (λ free. free_not_locked w s (next_map_page w.pages) free locked) (kind_at Emptying p grows at)
  phase_blocked _ _ p (EvacuatePutWaits q x t grows next named free waits) at = put_waits q x t p next named waits (kind_at Emptying p grows at)
  phase_blocked _ _ p (TurnWaits q grows none locked) at =
      turn_waits p none (λ free meta. both_free w s (next_map_page w.pages) 0 q free meta locked) (kind_at Emptying p grows at)

pub summarise_blocked : (s range : ℕ) (w v : IndexView) (p : ℕ) (phase : Phase) (e : Statement) → IsPhaseWaiting w s range phase p
    → SummariseStep s range w v phase e → ⊥
summarise_blocked s range w v p phase e waits step = phase_blocked w s range p phase _ waits (summarise_fact s range w v phase e step)

-- the points of a desummarise, by its phase
data DesummarisePoint (w : IndexView) (s range : ℕ) : Phase → Point → Type 0 where
  ToEntry : DesummarisePoint w s range (NotBuilding Empty) points.Map
  ToClear : (x : Spot) (verdict : Verdict) → IsUnblocked verdict → ClearVerdict w s range x verdict
      → DesummarisePoint w s range (NotBuilding (Held x)) (clear_point verdict)
  ToDropCleared : (x : Spot) → DesummarisePoint w s range (NotBuilding (Dropping x)) points.Drop

desummarise_once : (w : IndexView) (s range : ℕ) (phase : Phase) (p q : Point) → DesummarisePoint w s range phase p → DesummarisePoint w s range phase q → p ≡ q
desummarise_once w s range _ _ _ ToEntry ToEntry = refl
desummarise_once w s range _ _ _ (ToClear x p free one) (ToClear x' q free' two) = ap clear_point (clear_once w s range x p q one two)
desummarise_once w s range _ _ _ (ToDropCleared x) (ToDropCleared x') = refl

desummarise_fact : (s range : ℕ) (w v : IndexView) (phase : Phase) (e : Statement) (step : DesummariseStep s range w v phase e)
    → DesummarisePoint w s range phase (desummarise_point step)
desummarise_fact s range w v _ _ (ClearMap x named reads) = ToEntry
desummarise_fact s range w v _ _ (ClearNone none reads) = ToEntry
desummarise_fact s range w v _ _ (Clear x verdict clears these) = ToClear x Fits tt verdict
desummarise_fact s range w v _ _ (ClearAgain x verdict reads) = ToClear x Differs tt verdict
desummarise_fact s range w v _ _ (DropCleared x drops) = ToDropCleared x

pub desummarise_one_point : (s range : ℕ) (w v u : IndexView) (phase : Phase) (e f : Statement)
    → (one : DesummariseStep s range w v phase e) → (two : DesummariseStep s range w u phase f) → desummarise_point one ≡ desummarise_point two
desummarise_one_point s range w v u phase e f one two =
    desummarise_once w s range phase _ _ (desummarise_fact s range w v phase e one) (desummarise_fact s range w u phase f two)

desummarise_unblocked : (w : IndexView) (s range q : ℕ) (x : Spot) (p : Point)
    → ClearVerdict w s range x (Waits q) → DesummarisePoint w s range (NotBuilding (Held x)) p → ⊥
desummarise_unblocked w s range q x _ waits (ToClear _ p free one) = subst IsUnblocked (clear_once w s range x p (Waits q) one waits) free

pub desummarise_blocked : (s range p : ℕ) (w v : IndexView) (x : Spot) (e : Statement)
    → ClearVerdict w s range x (Waits p) → DesummariseStep s range w v (NotBuilding (Held x)) e → ⊥
desummarise_blocked s range p w v x e waits step = desummarise_unblocked w s range p x _ waits (desummarise_fact s range w v _ e step)
