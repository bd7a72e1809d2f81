-- A summariser's step on its range, where nobody steps beside it: which ranges have final tuples, and what it counts.
use Rattle.std.proofs.Common.{◌≡◌, ◌≢◌, ◌⊎◌, inl, inr, ⊎_elim, ℕ, suc, ◌+◌, false, Option, Some, sym, ap, ◌∙◌, subst, arith}
use Rattle.std.proofs.lemmas.Bool.{false≢true}
use Rattle.std.proofs.lemmas.Option.{none-some, same_Some}
use Rattle.block_model.specs.declared.place.Spot.{Spot}
use Rattle.coverage.specs.Changes.{IsUntouched}
use Rattle.coverage.specs.Counts.{NamesFinal, summarise_count}
use Rattle.coverage.specs.IndexView.{ExtentUnread, IndexTuple, IndexView, Passing, Progress}
use Rattle.coverage.specs.IsSound.{IsSound}
use Rattle.coverage.specs.Knowing.{KnowsPhase, MakesUnited}
use Rattle.coverage.specs.Statements.{Copied, Dropping, Empty, Held, Holding, Maintaining, Moving, NotBuilding, OnIndex, Phase, Statement}
use Rattle.coverage.specs.Steps.{Again, Count, CountLeftOver, DropOld, DropsTuple, EvacuateDrop, EvacuatePut, EvacuateSet, EvacuateSweep, Extent, Flag, Found, Gone, Grow, GrowMap, GrowthStep}
use Rattle.coverage.specs.Steps.{IsFinal, IsUnnamed, LookGone, LookMap, Maps, MovePut, OnIndexStep, Pass, Put, PutsTuple, ReadNoEntry, ReadsIndex, ReplacesTuple, Set, SetFinal, SetsEntry}
use Rattle.coverage.specs.Steps.{SummariseStep, SwapFinal, SweepsTuples, Turn, Unite, UniteCopies}
use Rattle.coverage.specs.Stuck.{AreNamed}
use Rattle.coverage.proofs.Stable.{held_named}

-- What its phase says of the range: whether that had a final tuple at first, and has one now; and where the map names it. Behind the count c
-- of the ranges before it, it is counted where it had none and has one now.
abbrev pub PhaseSays : (First Now : Type 0) → (entry : Option Spot) → (c count : ℕ) → Phase → Type 0
PhaseSays First Now entry c count (NotBuilding Empty) = (count ≡ c) × (Now → First)
PhaseSays First Now entry c count (NotBuilding (Held x)) = (count ≡ c) × (Now → First) × (entry ≡ Some x)
PhaseSays First Now entry c count (NotBuilding (Copied x old new)) = ⊥
PhaseSays First Now entry c count (NotBuilding (Moving x y old new)) = ⊥
PhaseSays First Now entry c count (NotBuilding (Dropping x)) = (count ≡ suc c) × (First → ⊥) × Now
PhaseSays First Now entry c count phase = (count ≡ c) × (First → ⊥)

abbrev pub IsOver : (First Now : Type 0) → (c count : ℕ) → Type 0
IsOver First Now c count = Now × (((count ≡ c) × First) ⊎ ((count ≡ suc c) × (First → ⊥)))

abbrev pub StatementSays : (First Now : Type 0) → (entry : Option Spot) → (c count : ℕ) → Statement → Type 0
StatementSays First Now entry c count (Maintaining m phase) = PhaseSays First Now entry c count phase
StatementSays First Now entry c count Holding = IsOver First Now c count
StatementSays First Now entry c count statement = ⊥

united_final : (p : Progress) (old new : IndexTuple) → MakesUnited p old new → new.placeholder ≡ false
united_final ExtentUnread old new how = absurd how
united_final (Passing extent next result) old new how = how.1.placeholder

module _ (s : ℕ) (w v : IndexView) where
  -- ---- final tuples stay

  reads_on : (m : ℕ) → ReadsIndex s w v → NamesFinal w m → NamesFinal v m
  reads_on m reads final = (final.0, (final.1.0, reads.frame.map.entry m ∙ final.1.1, reads.frame.tuples.tuple final.1.0 ∙ final.1.2), final.2)

  reads_back : (m : ℕ) → ReadsIndex s w v → NamesFinal v m → NamesFinal w m
  reads_back m reads final = (final.0, (final.1.0, sym (reads.frame.map.entry m) ∙ final.1.1, sym (reads.frame.tuples.tuple final.1.0) ∙ final.1.2), final.2)

  drops_on : (m : ℕ) (x : Spot) → ((k : ℕ) → w.entry k ≢ Some x) → DropsTuple s w v x → NamesFinal w m → NamesFinal v m
  drops_on m x unnamed drops final = ⊎_elim
      (λ (is : final.1.0 ≡ x). absurd (unnamed m (final.1.1 ∙ ap Some is)))
      (λ (same : v.tuple final.1.0 ≡ w.tuple final.1.0). (final.0, (final.1.0, drops.frame.map.entry m ∙ final.1.1, same ∙ final.1.2), final.2))
      (drops.tuple.others final.1.0)

  puts_on : (m : ℕ) (y : Spot) (t : IndexTuple) → PutsTuple s w v y t → NamesFinal w m → NamesFinal v m
  puts_on m y t puts final = ⊎_elim
      (λ (is : final.1.0 ≡ y). absurd (none-some _ (sym puts.tuple.was ∙ sym (ap w.tuple is) ∙ final.1.2)))
      (λ (same : v.tuple final.1.0 ≡ w.tuple final.1.0). (final.0, (final.1.0, puts.frame.map.entry m ∙ final.1.1, same ∙ final.1.2), final.2))
      (puts.tuple.others final.1.0)

  sweeps_on : (m : ℕ) → AreNamed w → (p : ℕ) (Sweeping : Spot → Type 0) → ((x : Spot) → Sweeping x → IsUnnamed w x) → SweepsTuples s w v p Sweeping → NamesFinal w m → NamesFinal v m
  sweeps_on m named p Sweeping unnamed sweeps final = ⊎_elim
      (λ (same : IsUntouched w v final.1.0). (final.0, (final.1.0, sweeps.frame.map.entry m ∙ final.1.1, same.0 ∙ final.1.2), final.2))
      (λ (swept : (final.1.0.block ≡ p) × Sweeping final.1.0).
      let un = unnamed final.1.0 swept.1 in
      let there = named m final.1.0 final.1.1 in
      let one : un.0 ≡ there.0 = same_Some _ _ (sym un.1 ∙ there.1) in
      absurd (un.2 (ap w.entry (ap (λ (t : IndexTuple). t.range) one ∙ there.2) ∙ final.1.1)))
      (sweeps.places final.1.0)

  sets_on : (m range : ℕ) → m ≢ range → (y : Spot) → SetsEntry s w v range y → NamesFinal w m → NamesFinal v m
  sets_on m range other y sets final = ⊎_elim
      (λ (is : m ≡ range). absurd (other is))
      (λ (same : v.entry m ≡ w.entry m). (final.0, (final.1.0, same ∙ final.1.1, sets.frame.tuples.tuple final.1.0 ∙ final.1.2), final.2))
      (sets.entry.others m)

  -- a tuple that moves for the map stays as it is
  moves_on : (m n : ℕ) (x y : Spot) (t u : IndexTuple) → w.entry n ≡ Some x → w.tuple x ≡ Some t → w.tuple y ≡ Some u → u ≡ t → SetsEntry s w v n y → NamesFinal w m → NamesFinal v m
  moves_on m n x y t u entry there put same sets final = ⊎_elim
      (λ (is : m ≡ n).
      let place : final.1.0 ≡ x = same_Some _ _ (sym final.1.1 ∙ ap w.entry is ∙ entry) in
      let one : final.0 ≡ t = same_Some _ _ (sym final.1.2 ∙ ap w.tuple place ∙ there) in
      (u, (y, ap v.entry is ∙ sets.entry.now, sets.frame.tuples.tuple y ∙ put), ap (λ (z : IndexTuple). z.placeholder) (same ∙ sym one) ∙ final.2))
      (λ (other : v.entry m ≡ w.entry m). (final.0, (final.1.0, other ∙ final.1.1, sets.frame.tuples.tuple final.1.0 ∙ final.1.2), final.2))
      (sets.entry.others m)

  swaps_on : (m range : ℕ) → m ≢ range → AreNamed w → (x : Spot) (old new : IndexTuple) → old.range ≡ range → ReplacesTuple s w v x old new → NamesFinal w m → NamesFinal v m
  swaps_on m range other named x old new of swap final = ⊎_elim
      (λ (is : final.1.0 ≡ x).
      let there = named m final.1.0 final.1.1 in
      let one : there.0 ≡ old = same_Some _ _ (sym there.1 ∙ ap w.tuple is ∙ swap.tuple.was) in
      absurd (other (sym there.2 ∙ ap (λ (t : IndexTuple). t.range) one ∙ of)))
      (λ (same : v.tuple final.1.0 ≡ w.tuple final.1.0). (final.0, (final.1.0, swap.frame.map.entry m ∙ final.1.1, same ∙ final.1.2), final.2))
      (swap.tuple.others final.1.0)

  growth_on : (m range : ℕ) (old new : Phase) → AreNamed w → KnowsPhase w s range old → GrowthStep s range w v old new → NamesFinal w m → NamesFinal v m
  growth_on m range _ _ named known (Grow grows free meta turns) final =
      (final.0, (final.1.0, turns.frame.map.entry m ∙ final.1.1, turns.frame.tuples.tuple final.1.0 ∙ final.1.2), final.2)
  growth_on m range _ _ named known (CountLeftOver grows meta counts) final =
      (final.0, (final.1.0, counts.frame.map.entry m ∙ final.1.1, counts.frame.tuples.tuple final.1.0 ∙ final.1.2), final.2)
  growth_on m range _ _ named known (Count counts) final =
      (final.0, (final.1.0, counts.frame.map.entry m ∙ final.1.1, counts.frame.tuples.tuple final.1.0 ∙ final.1.2), final.2)
  growth_on m range _ _ named known (Flag grows free turns) final =
      (final.0, (final.1.0, turns.frame.map.entry m ∙ final.1.1, turns.frame.tuples.tuple final.1.0 ∙ final.1.2), final.2)
  growth_on m range _ _ named known (EvacuatePut x y t grows next names free verdict puts these) final = puts_on m y t puts final
  growth_on m range _ _ named known (EvacuateSet n x y t u sets same) final = moves_on m n x y t u known.1.2 known.1.3 known.1.4 known.1.6 sets final
  growth_on m range _ _ named known (EvacuateDrop n x drops) final = drops_on m x known.1.1 drops final
  growth_on m range _ _ named known (EvacuateSweep x t grows next unnamed sweeps) final =
      sweeps_on m named _ _ (λ y is. subst (IsUnnamed w) (sym is) unnamed) sweeps final
  growth_on m range _ _ named known (Turn grows empty free meta turns) final =
      (final.0, (final.1.0, turns.frame.map.entry m ∙ final.1.1, turns.frame.tuples.tuple final.1.0 ∙ final.1.2), final.2)

  on_index_on : (m range : ℕ) (old new : OnIndex) → OnIndexStep s range w v old new → NamesFinal w m → NamesFinal v m
  on_index_on m range _ _ (Maps x names reads) = reads_on m reads
  on_index_on m range _ _ (Gone x gone reads) = reads_on m reads
  on_index_on m range _ _ (Again x old new verdict reads) = reads_on m reads
  on_index_on m range _ _ (MovePut x y old new verdict puts these) = puts_on m y new puts

  pub elsewhere_on : (m range : ℕ) (old : Phase) (new : Statement) → AreNamed w → KnowsPhase w s range old → m ≢ range → SummariseStep s range w v old new → NamesFinal w m → NamesFinal v m
  elsewhere_on m range _ _ named known other (LookMap x names reads) = reads_on m reads
  elsewhere_on m range _ _ named known other (LookGone x gone reads) = reads_on m reads
  elsewhere_on m range _ _ named known other (IsFinal x t stands final reads) = reads_on m reads
  elsewhere_on m range _ _ named known other (Found x t stands flag reads) = reads_on m reads
  elsewhere_on m range _ _ named known other (ReadNoEntry none of reads) = reads_on m reads
  elsewhere_on m range _ _ named known other (GrowMap old new step) = growth_on m range old new named known step
  elsewhere_on m range _ _ named known other (Put x t is long verdict puts these) = puts_on m x t puts
  elsewhere_on m range _ _ named known other (Set x sets none) = sets_on m range other x sets
  elsewhere_on m range _ _ named known other (Extent extent result start is reads) = reads_on m reads
  elsewhere_on m range _ _ named known other (Pass extent next slots result wider below none made reads) = reads_on m reads
  elsewhere_on m range _ _ named known other (Unite extent next result old new all step) = on_index_on m range old new step
  elsewhere_on m range _ _ named known other (UniteCopies extent next result x old new all stands united reads) = reads_on m reads
  elsewhere_on m range _ _ named known other (SwapFinal p x old new verdict swap) = swaps_on m range other named x old new known.0.2 swap
  elsewhere_on m range _ _ named known other (SetFinal p x y old new sets same) = sets_on m range other y sets
  elsewhere_on m range _ _ named known other (DropOld x drops) = drops_on m x known.1 drops

  -- ---- its own range

  module _ (First : Type 0) (range c count : ℕ) where
    abbrev Before : Phase → Type 0
    Before phase = PhaseSays First (NamesFinal w range) (w.entry range) c count phase

    growth_lacks : (old new : Phase) → GrowthStep s range w v old new → Before old → (count ≡ c) × (First → ⊥)
    growth_lacks _ _ (Grow grows free meta turns) says = says
    growth_lacks _ _ (CountLeftOver grows meta counts) says = says
    growth_lacks _ _ (Count counts) says = says
    growth_lacks _ _ (Flag grows free turns) says = says
    growth_lacks _ _ (EvacuatePut x y t grows next names free verdict puts these) says = says
    growth_lacks _ _ (EvacuateSet n x y t u sets same) says = says
    growth_lacks _ _ (EvacuateDrop n x drops) says = says
    growth_lacks _ _ (EvacuateSweep x t grows next unnamed sweeps) says = says
    growth_lacks _ _ (Turn grows empty free meta turns) says = says

    growth_to : (old new : Phase) → GrowthStep s range w v old new → (count + 0 ≡ c) × (First → ⊥) → PhaseSays First (NamesFinal v range) (v.entry range) c (count + 0) new
    growth_to _ _ (Grow grows free meta turns) says = says
    growth_to _ _ (CountLeftOver grows meta counts) says = says
    growth_to _ _ (Count counts) says = says
    growth_to _ _ (Flag grows free turns) says = says
    growth_to _ _ (EvacuatePut x y t grows next names free verdict puts these) says = says
    growth_to _ _ (EvacuateSet n x y t u sets same) says = says
    growth_to _ _ (EvacuateDrop n x drops) says = says
    growth_to _ _ (EvacuateSweep x t grows next unnamed sweeps) says = says
    growth_to _ _ (Turn grows empty free meta turns) says = says

    -- where it had a final tuple at first, it keeps it
    pub own_on : (old : Phase) (new : Statement) → Before old → SummariseStep s range w v old new → First → NamesFinal w range → NamesFinal v range
    own_on _ _ says (LookMap x names reads) first = reads_on range reads
    own_on _ _ says (LookGone x gone reads) first = reads_on range reads
    own_on _ _ says (IsFinal x t stands final reads) first = reads_on range reads
    own_on _ _ says (Found x t stands flag reads) first = reads_on range reads
    own_on _ _ says (ReadNoEntry none of reads) first = reads_on range reads
    own_on _ _ says (GrowMap old new step) first = absurd ((growth_lacks old new step says).1 first)
    own_on _ _ says (Put x t is long verdict puts these) first = absurd (says.1 first)
    own_on _ _ says (Set x sets none) first = absurd (says.1 first)
    own_on _ _ says (Extent extent result start is reads) first = absurd (says.1 first)
    own_on _ _ says (Pass extent next slots result wider below none made reads) first = absurd (says.1 first)
    own_on _ _ says (Unite extent next result old new all step) first = absurd (says.1 first)
    own_on _ _ says (UniteCopies extent next result x old new all stands united reads) first = absurd (says.1 first)
    own_on _ _ says (SwapFinal p x old new verdict swap) first = absurd (says.1 first)
    own_on _ _ says (SetFinal p x y old new sets same) first = absurd (says.1 first)
    own_on _ _ says (DropOld x drops) first = absurd (says.1 first)

    -- what it says behind the step
    pub own_says : (old : Phase) (new : Statement) → IsSound w → KnowsPhase w s range old → (First → NamesFinal w range) → Before old → (step : SummariseStep s range w v old new)
        → StatementSays First (NamesFinal v range) (v.entry range) c (count + summarise_count step) new
    own_says _ _ sound known on says (LookMap x names reads) = (omega (arith, says.0), (λ final. says.1 (reads_back range reads final)), reads.frame.map.entry range ∙ names)
    own_says _ _ sound known on says (LookGone x gone reads) = (omega (arith, says.0), λ final. says.1 (reads_back range reads final))
    own_says _ _ sound known on says (IsFinal x t stands final reads) =
        ((t, (x, reads.frame.map.entry range ∙ says.2, reads.frame.tuples.tuple x ∙ stands.0), final), inl (omega (arith, says.0), says.1 (t, (x, says.2, stands.0), final)))
    own_says _ _ sound known on says (Found x t stands flag reads) = (
      omega (arith, says.0),
      λ first.
          let final = on first in
          let place : final.1.0 ≡ x = same_Some _ _ (sym final.1.1 ∙ says.2) in
          let one : final.0 ≡ t = same_Some _ _ (sym final.1.2 ∙ ap w.tuple place ∙ stands.0) in
          false≢true (sym final.2 ∙ ap (λ (z : IndexTuple). z.placeholder) one ∙ flag),
    )
    own_says _ _ sound known on says (ReadNoEntry none of reads) = (omega (arith, says.0), λ first. none-some _ (sym none ∙ (on first).1.1))
    own_says _ _ sound known on says (GrowMap old new step) = let lacks = growth_lacks old new step says in growth_to old new step (omega (arith, lacks.0), lacks.1)
    own_says _ _ sound known on says (Put x t is long verdict puts these) = (omega (arith, says.0), says.1)
    own_says _ _ sound known on says (Set x sets none) = (omega (arith, says.0), says.1)
    own_says _ _ sound known on says (Extent extent result start is reads) = (omega (arith, says.0), says.1)
    own_says _ _ sound known on says (Pass extent next slots result wider below none made reads) = (omega (arith, says.0), says.1)
    own_says _ _ sound known on says (Unite extent next result old new all step) = (omega (arith, says.0), says.1)
    own_says _ _ sound known on says (UniteCopies extent next result x old new all stands united reads) = (omega (arith, says.0), says.1)
    own_says _ _ sound known on says (SwapFinal p x old new verdict swap) =
        let named = held_named w s range x old sound known.0.1 swap.tuple.was known.0.2 swap.free known.0.0 in
        ((new, (x, swap.frame.map.entry range ∙ named, swap.tuple.now), united_final p old new known.0.3), inr (omega (arith, says.0), says.1))
    own_says _ _ sound known on says (SetFinal p x y old new sets same) =
        (omega (arith, says.0), says.1, (new, (y, sets.entry.now, sets.frame.tuples.tuple y ∙ known.0.4), united_final p old new known.0.6))
    own_says _ _ sound known on says (DropOld x drops) = (drops_on range x known.1 drops says.2, inr (omega (arith, says.0), says.1))

  -- ---- how many blocks a range has

  on_index_per : (range : ℕ) (old new : OnIndex) → OnIndexStep s range w v old new → v.pages_per_range ≡ w.pages_per_range
  on_index_per range _ _ (Maps x names reads) = reads.frame.heap.pages_per_range
  on_index_per range _ _ (Gone x gone reads) = reads.frame.heap.pages_per_range
  on_index_per range _ _ (Again x old new verdict reads) = reads.frame.heap.pages_per_range
  on_index_per range _ _ (MovePut x y old new verdict puts these) = puts.frame.heap.pages_per_range

  growth_per : (range : ℕ) (old new : Phase) → GrowthStep s range w v old new → v.pages_per_range ≡ w.pages_per_range
  growth_per range _ _ (Grow grows free meta turns) = turns.frame.heap.pages_per_range
  growth_per range _ _ (CountLeftOver grows meta counts) = counts.frame.heap.pages_per_range
  growth_per range _ _ (Count counts) = counts.frame.heap.pages_per_range
  growth_per range _ _ (Flag grows free turns) = turns.frame.heap.pages_per_range
  growth_per range _ _ (EvacuatePut x y t grows next names free verdict puts these) = puts.frame.heap.pages_per_range
  growth_per range _ _ (EvacuateSet n x y t u sets same) = sets.frame.heap.pages_per_range
  growth_per range _ _ (EvacuateDrop n x drops) = drops.frame.heap.pages_per_range
  growth_per range _ _ (EvacuateSweep x t grows next unnamed sweeps) = sweeps.frame.heap.pages_per_range
  growth_per range _ _ (Turn grows empty free meta turns) = turns.frame.heap.pages_per_range

  pub step_per : (range : ℕ) (old : Phase) (new : Statement) → SummariseStep s range w v old new → v.pages_per_range ≡ w.pages_per_range
  step_per range _ _ (LookMap x names reads) = reads.frame.heap.pages_per_range
  step_per range _ _ (LookGone x gone reads) = reads.frame.heap.pages_per_range
  step_per range _ _ (IsFinal x t stands final reads) = reads.frame.heap.pages_per_range
  step_per range _ _ (Found x t stands flag reads) = reads.frame.heap.pages_per_range
  step_per range _ _ (ReadNoEntry none of reads) = reads.frame.heap.pages_per_range
  step_per range _ _ (GrowMap old new step) = growth_per range old new step
  step_per range _ _ (Put x t is long verdict puts these) = puts.frame.heap.pages_per_range
  step_per range _ _ (Set x sets none) = sets.frame.heap.pages_per_range
  step_per range _ _ (Extent extent result start is reads) = reads.frame.heap.pages_per_range
  step_per range _ _ (Pass extent next slots result wider below none made reads) = reads.frame.heap.pages_per_range
  step_per range _ _ (Unite extent next result old new all step) = on_index_per range old new step
  step_per range _ _ (UniteCopies extent next result x old new all stands united reads) = reads.frame.heap.pages_per_range
  step_per range _ _ (SwapFinal p x old new verdict swap) = swap.frame.heap.pages_per_range
  step_per range _ _ (SetFinal p x y old new sets same) = sets.frame.heap.pages_per_range
  step_per range _ _ (DropOld x drops) = drops.frame.heap.pages_per_range
