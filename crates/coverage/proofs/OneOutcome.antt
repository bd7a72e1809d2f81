-- Where a statement comes by its step on an index is one thing: what stands on the pages decides it.
use Rattle.std.proofs.Common.{◌≡◌, ◌≢◌, ◌⊎◌, inl, inr, ⊎_elim, ℕ, ◌+◌, ◌*◌, ◌≤◌, ◌<◌, min, Option, Some, None, true, false, length, sym, ◌∙◌, ap, subst, arith, zero, suc}
use Rattle.std.specs.Prelude.{refl}
use Rattle.std.proofs.lemmas.Option.{same_Some, none-some}
use Rattle.std.proofs.lemmas.Bool.{cases_eq, false≢true}
use Rattle.std.proofs.Math.Nat.{le_of_lt, not-le_of_lt}
use Rattle.block_model.specs.declared.row.Row.{Row}
use Rattle.block_model.specs.declared.place.Spot.{Spot}
use Rattle.coverage.specs.IndexView.{IndexTuple, Contents, Progress, ExtentUnread, Passing, PageKind, Unstarted, Mapping, Regular, Emptying, placeholder_length}
use Rattle.coverage.specs.IndexView.{IndexView, range_of_block, next_map_page, IsPastMap}
use Rattle.coverage.specs.Changes.{IsFree}
use Rattle.coverage.specs.Verdicts.{IsLocked, Verdict, Differs, Fits, Puts, PutVerdict, SwapVerdict}
use Rattle.coverage.specs.Statements.{OnIndex, Empty, Held, Copied, Moving, Dropping, Phase, NotBuilding, Vacant, Growing, Evacuating, Placing, IsAt, Statement}
use Rattle.coverage.specs.Statements.{Idle, Inserting, Maintaining, Holding, rows_added, row_added, HasNoMoreRows}
use Rattle.coverage.specs.Steps.{IsUnnamed, IsGone, Stands, OnIndexStep, Maps, Gone, Again, MovePut, InsertStep, InsertOnIndex, InsertNoEntry, InsertCopies}
use Rattle.coverage.specs.Steps.{InsertUnchanged, InsertSwap, InsertSet, InsertDrop, GrowthStep, Grow, CountLeftOver, Count, Flag, EvacuatePut, EvacuateSet}
use Rattle.coverage.specs.Steps.{EvacuateDrop, EvacuateSweep, Turn, SummariseStep, LookMap, LookGone, IsFinal, Found, ReadNoEntry, GrowMap, Put, Set, Extent}
use Rattle.coverage.specs.Steps.{Pass, Unite, UniteCopies, SwapFinal, SetFinal, DropOld, DesummariseStep, ClearMap, ClearNone, Clear, ClearAgain, DropCleared}
use Rattle.coverage.specs.Waiting.{IsNextTuple, Grows}
use Rattle.coverage.proofs.Numbers.{lt_or_ge}
use Rattle.coverage.proofs.Verdicts.{free_not_locked, put_once, swap_once, clear_once}
use Rattle.coverage.proofs.NextSteps.{next_once, named_or_not}

-- what comes of a verdict on a swap, for the statement's state on the index
abbrev place_of : Verdict → Spot → Spot
place_of (Puts y) x = y
place_of verdict x = x

abbrev pub IsSwap : Verdict → Type 0
IsSwap Fits = Unit
IsSwap verdict = ⊥

abbrev pub IsPut : Verdict → Type 0
IsPut (Puts y) = Unit
IsPut verdict = ⊥

-- A statement's next state on the index, and what decides it.
pub data NextOnIndex (w : IndexView) (s range : ℕ) : OnIndex → OnIndex → Type 0 where
  Named : (x : Spot) → w.entry range ≡ Some x → NextOnIndex w s range Empty (Held x)
  Lost : (x : Spot) → IsGone w range x → NextOnIndex w s range (Held x) Empty
  Changed : (x : Spot) (old new : IndexTuple) → SwapVerdict w s range x old new Differs → NextOnIndex w s range (Copied x old new) Empty
  Moved : (x y : Spot) (old new : IndexTuple) → SwapVerdict w s range x old new (Puts y) → NextOnIndex w s range (Copied x old new) (Moving x y old new)

on_index_next : (s range : ℕ) (w v : IndexView) (g h : OnIndex) → OnIndexStep s range w v g h → NextOnIndex w s range g h
on_index_next s range w v _ _ (Maps x named reads) = Named x named
on_index_next s range w v _ _ (Gone x gone reads) = Lost x gone
on_index_next s range w v _ _ (Again x old new verdict reads) = Changed x old new verdict
on_index_next s range w v _ _ (MovePut x y old new verdict puts these) = Moved x y old new verdict

module _ (w : IndexView) (s range : ℕ) where
  on_index_same : (g h k : OnIndex) → NextOnIndex w s range g h → NextOnIndex w s range g k → h ≡ k
  on_index_same _ _ _ (Named x one) (Named y two) = ap Held (same_Some _ _ (sym one ∙ two))
  on_index_same _ _ _ (Lost x one) (Lost x' two) = refl
  on_index_same _ _ _ (Changed x old new one) (Changed x' old' new' two) = refl
  on_index_same _ _ _ (Changed x old new one) (Moved x' y old' new' two) =
      absurd (subst IsPut (sym (swap_once w s range x old new Differs (Puts y) one two)) tt)
  on_index_same _ _ _ (Moved x y old new one) (Changed x' old' new' two) =
      absurd (subst IsPut (swap_once w s range x old new (Puts y) Differs one two) tt)
  on_index_same _ _ _ (Moved x y old new one) (Moved x' z old' new' two) =
      ap (λ q. Moving x (place_of q x) old new) (swap_once w s range x old new (Puts y) (Puts z) one two)

  -- what is copied isn't gone, and what has no entry isn't named
  named_entry : (h : OnIndex) → NextOnIndex w s range Empty h → w.entry range ≡ None → ⊥
  named_entry _ (Named x named) none = none-some _ (sym none ∙ named)

  lost_stands : (x : Spot) (t : IndexTuple) (h : OnIndex) → NextOnIndex w s range (Held x) h → Stands w range x t → ⊥
  lost_stands x t _ (Lost _ gone) stands = gone t stands.0 stands.1

  judged_fits : (x : Spot) (old new : IndexTuple) (h : OnIndex) → NextOnIndex w s range (Copied x old new) h → SwapVerdict w s range x old new Fits → ⊥
  judged_fits x old new _ (Changed _ _ _ one) fits = subst IsSwap (swap_once w s range x old new Fits Differs fits one) tt
  judged_fits x old new _ (Moved _ y _ _ one) fits = subst IsSwap (swap_once w s range x old new Fits (Puts y) fits one) tt

  none_moving : (x y : Spot) (old new : IndexTuple) (h : OnIndex) → NextOnIndex w s range (Moving x y old new) h → ⊥
  none_moving x y old new h next = elim next [ ]

  none_dropping : (x : Spot) (h : OnIndex) → NextOnIndex w s range (Dropping x) h → ⊥
  none_dropping x h next = elim next [ ]

  there_same : (x : Spot) (t u : IndexTuple) → Stands w range x t → Stands w range x u → t ≡ u
  there_same x t u one two = same_Some _ _ (sym one.0 ∙ two.0)

-- An insert's next state, and what decides it.
pub data NextInsert (w : IndexView) (s b k : ℕ) (r : Row) : OnIndex → Statement → Type 0 where
  GoesOn : (g h : OnIndex) → NextOnIndex w s (range_of_block w b) g h → NextInsert w s b k r g (Inserting b k r h)
  Unsummarised : w.entry (range_of_block w b) ≡ None → NextInsert w s b k r Empty Idle
  Copies : (x : Spot) (old new : IndexTuple) → Stands w (range_of_block w b) x old → new ≡ w.contents.added r old
      → (new ≢ old) ⊎ IsLocked w.lock s x.block → NextInsert w s b k r (Held x) (Inserting b k r (Copied x old new))
  Unchanged : (x : Spot) (t : IndexTuple) → Stands w (range_of_block w b) x t → t ≡ w.contents.added r t → IsFree w.lock s x.block
      → NextInsert w s b k r (Held x) Idle
  Swapped : (x : Spot) (old new : IndexTuple) → SwapVerdict w s (range_of_block w b) x old new Fits → NextInsert w s b k r (Copied x old new) Idle
  SetNew : (x y : Spot) (old new : IndexTuple) → NextInsert w s b k r (Moving x y old new) (Inserting b k r (Dropping x))
  DropsOld : (x : Spot) → NextInsert w s b k r (Dropping x) Idle

pub insert_next : (s b k : ℕ) (r : Row) (w v : IndexView) (g : OnIndex) (e : Statement) → InsertStep s b k r w v g e → NextInsert w s b k r g e
insert_next s b k r w v _ _ (InsertOnIndex old new step) = GoesOn old new (on_index_next s (range_of_block w b) w v old new step)
insert_next s b k r w v _ _ (InsertNoEntry none reads) = Unsummarised none
insert_next s b k r w v _ _ (InsertCopies x old new stands added changes reads) = Copies x old new stands added changes
insert_next s b k r w v _ _ (InsertUnchanged x t stands added free reads) = Unchanged x t stands added free
insert_next s b k r w v _ _ (InsertSwap x old new verdict swap) = Swapped x old new verdict
insert_next s b k r w v _ _ (InsertSet x y old new sets same) = SetNew x y old new
insert_next s b k r w v _ _ (InsertDrop x drops) = DropsOld x

module _ (w : IndexView) (s b k : ℕ) (r : Row) where
  -- a copy goes on exactly where it isn't complete
  copies_or_not : (x : Spot) (old new t : IndexTuple) → Stands w (range_of_block w b) x old → new ≡ w.contents.added r old
      → (new ≢ old) ⊎ IsLocked w.lock s x.block → Stands w (range_of_block w b) x t → t ≡ w.contents.added r t → IsFree w.lock s x.block → ⊥
  copies_or_not x old new t stands added changes stands' same free =
      let one : old ≡ t = there_same w s (range_of_block w b) x old t stands stands' in
      elim changes [ inl other ↦ other (added ∙ ap (w.contents.added r) one ∙ sym same ∙ sym one) | inr locked ↦ free_not_locked w s x.block free locked ]

  insert_same : (g : OnIndex) (e f : Statement) → NextInsert w s b k r g e → NextInsert w s b k r g f → e ≡ f
  insert_same _ _ _ (GoesOn g h one) (GoesOn g' h' two) = ap (Inserting b k r) (on_index_same w s (range_of_block w b) g h h' one two)
  insert_same _ _ _ (GoesOn _ h one) (Unsummarised none) = absurd (named_entry w s (range_of_block w b) h one none)
  insert_same _ _ _ (GoesOn _ h one) (Copies x old new stands added changes) = absurd (lost_stands w s (range_of_block w b) x old h one stands)
  insert_same _ _ _ (GoesOn _ h one) (Unchanged x t stands added free) = absurd (lost_stands w s (range_of_block w b) x t h one stands)
  insert_same _ _ _ (GoesOn _ h one) (Swapped x old new verdict) = absurd (judged_fits w s (range_of_block w b) x old new h one verdict)
  insert_same _ _ _ (GoesOn _ h one) (SetNew x y old new) = absurd (none_moving w s (range_of_block w b) x y old new h one)
  insert_same _ _ _ (GoesOn _ h one) (DropsOld x) = absurd (none_dropping w s (range_of_block w b) x h one)
  insert_same _ _ _ (Unsummarised none) (GoesOn _ h two) = absurd (named_entry w s (range_of_block w b) h two none)
  insert_same _ _ _ (Copies x old new stands added changes) (GoesOn _ h two) = absurd (lost_stands w s (range_of_block w b) x old h two stands)
  insert_same _ _ _ (Copies x old new stands added changes) (Copies x' old' new' stands' added' changes') =
      let one : old ≡ old' = there_same w s (range_of_block w b) x old old' stands stands' in
      let two : new ≡ new' = added ∙ ap (w.contents.added r) one ∙ sym added' in
      λ i. Inserting b k r (Copied x (one i) (two i))
  insert_same _ _ _ (Copies x old new stands added changes) (Unchanged x' t stands' same free) =
      absurd (copies_or_not x old new t stands added changes stands' same free)
  insert_same _ _ _ (Unchanged x t stands same free) (GoesOn _ h two) = absurd (lost_stands w s (range_of_block w b) x t h two stands)
  insert_same _ _ _ (Unchanged x t stands same free) (Copies x' old new stands' added changes) =
      absurd (copies_or_not x old new t stands' added changes stands same free)
  insert_same _ _ _ (Swapped x old new verdict) (GoesOn _ h two) = absurd (judged_fits w s (range_of_block w b) x old new h two verdict)
  insert_same _ _ _ (SetNew x y old new) (GoesOn _ h two) = absurd (none_moving w s (range_of_block w b) x y old new h two)
  insert_same _ _ _ (DropsOld x) (GoesOn _ h two) = absurd (none_dropping w s (range_of_block w b) x h two)
  insert_same _ _ _ _ _ = refl

pub insert_one_outcome : (s b k : ℕ) (r : Row) (w v u : IndexView) (g : OnIndex) (e f : Statement) → InsertStep s b k r w v g e → InsertStep s b k r w u g f → e ≡ f
insert_one_outcome s b k r w v u g e f one two = insert_same w s b k r g e f (insert_next s b k r w v g e one) (insert_next s b k r w u g f two)

-- the rows of a block are added in one way
rows_until : (contents : Contents) (row : ℕ → Option Row) (t : IndexTuple) (n : ℕ) → HasNoMoreRows row n → (m : ℕ) → n ≤ m
    → rows_added contents row m t ≡ rows_added contents row n t
rows_until contents row t n none zero le = ap (λ j. rows_added contents row j t) (least n le)
  where
    least : (n : ℕ) → n ≤ zero → zero ≡ n
    least n le = omega arith
rows_until contents row t n none (suc m) le = ⊎_elim
    (λ (is : n ≡ suc m). ap (λ j. rows_added contents row j t) (sym is))
    (λ (other : n ≢ suc m).
    ap (λ o. row_added contents o (rows_added contents row m t)) (none m (omega arith))
    ∙ rows_until contents row t n none m (omega arith))
    (cases_eq n (suc m))

rows_same : (contents : Contents) (row : ℕ → Option Row) (n m : ℕ) (t : IndexTuple) → HasNoMoreRows row n → HasNoMoreRows row m
    → rows_added contents row n t ≡ rows_added contents row m t
rows_same contents row n m t none none' = ⊎_elim
    (λ (less : n < m). sym (rows_until contents row t n none m (le_of_lt less)))
    (λ (more : m ≤ n). rows_until contents row t m none' n more)
    (lt_or_ge n m)

-- A summariser's next state, and what decides it.
pub data NextGrowth (w : IndexView) (s : ℕ) : PageKind → Phase → Type 0 where
  Starts : NextGrowth w s Unstarted Growing
  Counts : NextGrowth w s Mapping Vacant
  Flags : NextGrowth w s Regular Vacant
  MovesNext : (x y : Spot) (t : IndexTuple) → IsNextTuple w.tuple (next_map_page w.pages) x t → w.entry t.range ≡ Some x
      → PutVerdict w s t.range (length t.bytes) (Puts y) → NextGrowth w s Emptying (Evacuating t.range (Moving x y t t))
  SweepsNext : (x : Spot) (t : IndexTuple) → IsNextTuple w.tuple (next_map_page w.pages) x t → IsUnnamed w x → NextGrowth w s Emptying Vacant
  Turns : ((x : Spot) (t : IndexTuple) → IsNextTuple w.tuple (next_map_page w.pages) x t → ⊥) → NextGrowth w s Emptying Growing

pub data NextPhase (w : IndexView) (s range : ℕ) : Phase → Statement → Type 0 where
  LooksNamed : (x : Spot) → w.entry range ≡ Some x → NextPhase w s range (NotBuilding Empty) (Maintaining range (NotBuilding (Held x)))
  LooksVacant : w.entry range ≡ None → NextPhase w s range (NotBuilding Empty) (Maintaining range Vacant)
  LooksLost : (x : Spot) → IsGone w range x → NextPhase w s range (NotBuilding (Held x)) (Maintaining range (NotBuilding Empty))
  LooksFinal : (x : Spot) (t : IndexTuple) → Stands w range x t → t.placeholder ≡ false → NextPhase w s range (NotBuilding (Held x)) Holding
  LooksFound : (x : Spot) (t : IndexTuple) → Stands w range x t → t.placeholder ≡ true
      → NextPhase w s range (NotBuilding (Held x)) (Maintaining range (IsAt ExtentUnread Empty))
  Drops : (x : Spot) → NextPhase w s range (NotBuilding (Dropping x)) Holding
  Lengthens : (kind : PageKind) (new : Phase) → Grows w.pages range kind → NextGrowth w s kind new → NextPhase w s range Vacant (Maintaining range new)
  Places : (y : Spot) → (IsPastMap w.pages range → ⊥) → PutVerdict w s range (placeholder_length w range) (Puts y)
      → NextPhase w s range Vacant (Maintaining range (Placing y))
  CountsStarted : NextPhase w s range Growing (Maintaining range Vacant)
  SetsOther : (m : ℕ) (x y : Spot) (t u : IndexTuple)
      → NextPhase w s range (Evacuating m (Moving x y t u)) (Maintaining range (Evacuating m (Dropping x)))
  DropsOther : (m : ℕ) (x : Spot) → NextPhase w s range (Evacuating m (Dropping x)) (Maintaining range Vacant)
  Names : (x : Spot) → NextPhase w s range (Placing x) (Maintaining range (IsAt ExtentUnread Empty))
  ReadsExtent : (extent : ℕ) (result : IndexTuple) → result ≡ w.contents.empty range → extent ≡ min w.blocks ((range + 1) * w.pages_per_range)
      → NextPhase w s range (IsAt ExtentUnread Empty) (Maintaining range (IsAt (Passing extent (range * w.pages_per_range) result) Empty))
  Passes : (extent next slots : ℕ) (result wider : IndexTuple) → next < extent → HasNoMoreRows (w.row next) slots
      → wider ≡ rows_added w.contents (w.row next) slots result
      → NextPhase w s range (IsAt (Passing extent next result) Empty) (Maintaining range (IsAt (Passing extent (next + 1) wider) Empty))
  Unites : (extent next : ℕ) (result : IndexTuple) (g h : OnIndex) → extent ≤ next → NextOnIndex w s range g h
      → NextPhase w s range (IsAt (Passing extent next result) g) (Maintaining range (IsAt (Passing extent next result) h))
  CopiesUnited : (extent next : ℕ) (result : IndexTuple) (x : Spot) (old new : IndexTuple) → Stands w range x old → new ≡ w.contents.united old result
      → NextPhase w s range (IsAt (Passing extent next result) (Held x)) (Maintaining range (IsAt (Passing extent next result) (Copied x old new)))
  SwapsFinal : (p : Progress) (x : Spot) (old new : IndexTuple) → SwapVerdict w s range x old new Fits
      → NextPhase w s range (IsAt p (Copied x old new)) Holding
  SetsFinal : (p : Progress) (x y : Spot) (old new : IndexTuple)
      → NextPhase w s range (IsAt p (Moving x y old new)) (Maintaining range (NotBuilding (Dropping x)))

growth_next : (s range : ℕ) (w v : IndexView) (old new : Phase) → GrowthStep s range w v old new → NextPhase w s range old (Maintaining range new)
growth_next s range w v _ _ (Grow grows free meta turns) = Lengthens Unstarted Growing grows Starts
growth_next s range w v _ _ (CountLeftOver grows meta counts) = Lengthens Mapping Vacant grows Counts
growth_next s range w v _ _ (Count counts) = CountsStarted
growth_next s range w v _ _ (Flag grows free turns) = Lengthens Regular Vacant grows Flags
growth_next s range w v _ _ (EvacuatePut x y t grows next named free verdict puts these) =
    Lengthens Emptying (Evacuating t.range (Moving x y t t)) grows (MovesNext x y t next named verdict)
growth_next s range w v _ _ (EvacuateSet m x y t u sets same) = SetsOther m x y t u
growth_next s range w v _ _ (EvacuateDrop m x drops) = DropsOther m x
growth_next s range w v _ _ (EvacuateSweep x t grows next unnamed sweeps) = Lengthens Emptying Vacant grows (SweepsNext x t next unnamed)
growth_next s range w v _ _ (Turn grows empty free meta turns) = Lengthens Emptying Growing grows (Turns empty)

pub summarise_next : (s range : ℕ) (w v : IndexView) (phase : Phase) (e : Statement) → SummariseStep s range w v phase e → NextPhase w s range phase e
summarise_next s range w v _ _ (LookMap x named reads) = LooksNamed x named
summarise_next s range w v _ _ (LookGone x gone reads) = LooksLost x gone
summarise_next s range w v _ _ (IsFinal x t stands final reads) = LooksFinal x t stands final
summarise_next s range w v _ _ (Found x t stands flag reads) = LooksFound x t stands flag
summarise_next s range w v _ _ (ReadNoEntry none of reads) = LooksVacant none
summarise_next s range w v _ _ (GrowMap old new step) = growth_next s range w v old new step
summarise_next s range w v _ _ (Put x t is long verdict puts these) = Places x long verdict
summarise_next s range w v _ _ (Set x sets none) = Names x
summarise_next s range w v _ _ (Extent extent result start is reads) = ReadsExtent extent result start is
summarise_next s range w v _ _ (Pass extent next slots result wider below none made reads) = Passes extent next slots result wider below none made
summarise_next s range w v _ _ (Unite extent next result old new all step) =
    Unites extent next result old new all (on_index_next s range w v old new step)
summarise_next s range w v _ _ (UniteCopies extent next result x old new all stands united reads) = CopiesUnited extent next result x old new stands united
summarise_next s range w v _ _ (SwapFinal p x old new verdict swap) = SwapsFinal p x old new verdict
summarise_next s range w v _ _ (SetFinal p x y old new sets same) = SetsFinal p x y old new
summarise_next s range w v _ _ (DropOld x drops) = Drops x

module _ (w : IndexView) (s range : ℕ) where
  growth_same : (kind : PageKind) (p q : Phase) → NextGrowth w s kind p → NextGrowth w s kind q → p ≡ q
  growth_same _ _ _ Starts Starts = refl
  growth_same _ _ _ Counts Counts = refl
  growth_same _ _ _ Flags Flags = refl
  growth_same _ _ _ (MovesNext x y t next named verdict) (MovesNext x' y' t' next' named' verdict') =
      let same = next_once w (next_map_page w.pages) x x' t t' next next' in
      let target : y ≡ y' = ap (λ q. place_of q y)
      (put_once w s t.range (length t.bytes) (Puts y) (Puts y') verdict
      (subst (λ (u : IndexTuple). PutVerdict w s u.range (length u.bytes) (Puts y')) (sym same.1) verdict')) in
      λ i. Evacuating (same.1 i).range (Moving (same.0 i) (target i) (same.1 i) (same.1 i))
  growth_same _ _ _ (MovesNext x y t next named verdict) (SweepsNext x' t' next' unnamed) =
      absurd (named_or_not w (next_map_page w.pages) x x' t t' next next' named unnamed)
  growth_same _ _ _ (MovesNext x y t next named verdict) (Turns none) = absurd (none x t next)
  growth_same _ _ _ (SweepsNext x t next unnamed) (MovesNext x' y' t' next' named verdict) =
      absurd (named_or_not w (next_map_page w.pages) x' x t' t next' next named unnamed)
  growth_same _ _ _ (SweepsNext x t next unnamed) (SweepsNext x' t' next' unnamed') = refl
  growth_same _ _ _ (SweepsNext x t next unnamed) (Turns none) = absurd (none x t next)
  growth_same _ _ _ (Turns none) (MovesNext x y t next named verdict) = absurd (none x t next)
  growth_same _ _ _ (Turns none) (SweepsNext x t next unnamed) = absurd (none x t next)
  growth_same _ _ _ (Turns none) (Turns none') = refl

  final_or_not : (x : Spot) (t u : IndexTuple) → Stands w range x t → t.placeholder ≡ false → Stands w range x u → u.placeholder ≡ true → ⊥
  final_or_not x t u stands final stands' flag =
      false≢true (sym final ∙ ap (λ (q : IndexTuple). q.placeholder) (there_same w s range x t u stands stands') ∙ flag)

  phase_same : (phase : Phase) (e f : Statement) → NextPhase w s range phase e → NextPhase w s range phase f → e ≡ f
  phase_same _ _ _ (LooksNamed x named) (LooksNamed y named') =
      ap (λ z. Maintaining range (NotBuilding (Held z))) (same_Some _ _ (sym named ∙ named'))
  phase_same _ _ _ (LooksNamed x named) (LooksVacant none) = absurd (none-some _ (sym none ∙ named))
  phase_same _ _ _ (LooksVacant none) (LooksNamed x named) = absurd (none-some _ (sym none ∙ named))
  phase_same _ _ _ (LooksVacant none) (LooksVacant none') = refl
  phase_same _ _ _ (LooksLost x gone) (LooksLost x' gone') = refl
  phase_same _ _ _ (LooksLost x gone) (LooksFinal x' t stands final) = absurd (gone t stands.0 stands.1)
  phase_same _ _ _ (LooksLost x gone) (LooksFound x' t stands flag) = absurd (gone t stands.0 stands.1)
  phase_same _ _ _ (LooksFinal x t stands final) (LooksLost x' gone) = absurd (gone t stands.0 stands.1)
  phase_same _ _ _ (LooksFinal x t stands final) (LooksFinal x' t' stands' final') = refl
  phase_same _ _ _ (LooksFinal x t stands final) (LooksFound x' t' stands' flag) = absurd (final_or_not x t t' stands final stands' flag)
  phase_same _ _ _ (LooksFound x t stands flag) (LooksLost x' gone) = absurd (gone t stands.0 stands.1)
  phase_same _ _ _ (LooksFound x t stands flag) (LooksFinal x' t' stands' final) = absurd (final_or_not x t' t stands' final stands flag)
  phase_same _ _ _ (LooksFound x t stands flag) (LooksFound x' t' stands' flag') = refl
  phase_same _ _ _ (Drops x) (Drops x') = refl
  phase_same _ _ _ (Lengthens kind p grows one) (Lengthens kind' q grows' two) =
      ap (Maintaining range) (growth_same kind p q one (subst (λ l. NextGrowth w s l q) (sym grows'.is ∙ grows.is) two))
  phase_same _ _ _ (Lengthens kind p grows one) (Places y long verdict) = absurd (long grows.short)
  phase_same _ _ _ (Places y long verdict) (Lengthens kind p grows two) = absurd (long grows.short)
  phase_same _ _ _ (Places y long verdict) (Places z long' verdict') =
      ap (λ q. Maintaining range (Placing (place_of q y))) (put_once w s range (placeholder_length w range) (Puts y) (Puts z) verdict verdict')
  phase_same _ _ _ CountsStarted CountsStarted = refl
  phase_same _ _ _ (SetsOther m x y t u) (SetsOther m' x' y' t' u') = refl
  phase_same _ _ _ (DropsOther m x) (DropsOther m' x') = refl
  phase_same _ _ _ (Names x) (Names x') = refl
  phase_same _ _ _ (ReadsExtent extent result start is) (ReadsExtent extent' result' start' is') =
      let one : extent ≡ extent' = is ∙ sym is' in
      let two : result ≡ result' = start ∙ sym start' in
      λ i. Maintaining range (IsAt (Passing (one i) (range * w.pages_per_range) (two i)) Empty)
  phase_same _ _ _ (Passes extent next slots result wider below none made) (Passes extent' next' slots' result' wider' below' none' made') =
      ap (λ q. Maintaining range (IsAt (Passing extent (next + 1) q) Empty))
      (made ∙ rows_same w.contents (w.row next) slots slots' result none none' ∙ sym made')
  phase_same _ _ _ (Passes extent next slots result wider below none made) (Unites _ _ _ _ h all two) = absurd (not-le_of_lt below all)
  phase_same _ _ _ (Unites _ _ _ _ h all one) (Passes extent next slots result wider below none made) = absurd (not-le_of_lt below all)
  phase_same _ _ _ (Unites extent next result g h all one) (Unites _ _ _ _ k all' two) =
      ap (λ q. Maintaining range (IsAt (Passing extent next result) q)) (on_index_same w s range g h k one two)
  phase_same _ _ _ (Unites _ _ _ _ h all one) (CopiesUnited extent next result x old new stands united) =
      absurd (lost_stands w s range x old h one stands)
  phase_same _ _ _ (Unites _ _ _ _ h all one) (SwapsFinal p x old new verdict) = absurd (judged_fits w s range x old new h one verdict)
  phase_same _ _ _ (Unites _ _ _ _ h all one) (SetsFinal p x y old new) = absurd (none_moving w s range x y old new h one)
  phase_same _ _ _ (CopiesUnited extent next result x old new stands united) (Unites _ _ _ _ h all two) =
      absurd (lost_stands w s range x old h two stands)
  phase_same _ _ _ (CopiesUnited extent next result x old new stands united) (CopiesUnited _ _ _ _ old' new' stands' united') =
      let one : old ≡ old' = there_same w s range x old old' stands stands' in
      let two : new ≡ new' = united ∙ ap (λ q. w.contents.united q result) one ∙ sym united' in
      λ i. Maintaining range (IsAt (Passing extent next result) (Copied x (one i) (two i)))
  phase_same _ _ _ (SwapsFinal p x old new verdict) (Unites _ _ _ _ h all two) = absurd (judged_fits w s range x old new h two verdict)
  phase_same _ _ _ (SwapsFinal p x old new verdict) (SwapsFinal _ _ _ _ verdict') = refl
  phase_same _ _ _ (SetsFinal p x y old new) (Unites _ _ _ _ h all two) = absurd (none_moving w s range x y old new h two)
  phase_same _ _ _ (SetsFinal p x y old new) (SetsFinal _ _ _ _ _) = refl

pub summarise_one_outcome : (s range : ℕ) (w v u : IndexView) (phase : Phase) (e f : Statement) → SummariseStep s range w v phase e → SummariseStep s range w u phase f
    → e ≡ f
summarise_one_outcome s range w v u phase e f one two =
    phase_same w s range phase e f (summarise_next s range w v phase e one) (summarise_next s range w u phase f two)

pub desummarise_one_outcome : (s range : ℕ) (w v u : IndexView) (phase : Phase) (e f : Statement) → DesummariseStep s range w v phase e
    → DesummariseStep s range w u phase f → e ≡ f
desummarise_one_outcome s range w v u _ _ _ (ClearMap x named reads) (ClearMap y named' reads') =
    ap (λ z. Maintaining range (NotBuilding (Held z))) (same_Some _ _ (sym named ∙ named'))
desummarise_one_outcome s range w v u _ _ _ (ClearMap x named reads) (ClearNone none reads') = absurd (none-some _ (sym none ∙ named))
desummarise_one_outcome s range w v u _ _ _ (ClearNone none reads) (ClearMap x named reads') = absurd (none-some _ (sym none ∙ named))
desummarise_one_outcome s range w v u _ _ _ (ClearNone none reads) (ClearNone none' reads') = refl
desummarise_one_outcome s range w v u _ _ _ (Clear x verdict clears these) (Clear x' verdict' clears' these') = refl
desummarise_one_outcome s range w v u _ _ _ (Clear x verdict clears these) (ClearAgain x' verdict' reads) =
    absurd (subst IsSwap (clear_once w s range x Fits Differs verdict verdict') tt)
desummarise_one_outcome s range w v u _ _ _ (ClearAgain x verdict reads) (Clear x' verdict' clears these) =
    absurd (subst IsSwap (clear_once w s range x Fits Differs verdict' verdict) tt)
desummarise_one_outcome s range w v u _ _ _ (ClearAgain x verdict reads) (ClearAgain x' verdict' reads') = refl
desummarise_one_outcome s range w v u _ _ _ (DropCleared x drops) (DropCleared x' drops') = refl
