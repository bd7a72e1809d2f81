-- A summariser gives no other range a final tuple, and a sweep gives none to any.
use Rattle.std.proofs.Common.{◌≡◌, ◌≢◌, ⊎_elim, ℕ, Some, sym, ◌∙◌, ap}
use Rattle.std.proofs.lemmas.Option.{same_Some, none-some}
use Rattle.std.proofs.lemmas.Bool.{cases_eq}
use Rattle.block_model.specs.declared.place.Spot.{Spot}
use Rattle.coverage.specs.IndexView.{IndexTuple, IndexView}
use Rattle.coverage.specs.Changes.{SameMap, SameTuples, IsUntouched}
use Rattle.coverage.specs.Statements.{OnIndex, Phase, Statement}
use Rattle.coverage.specs.Knowing.{KnowsPhase}
use Rattle.coverage.specs.Steps.{ReadsIndex, PutsTuple, ReplacesTuple, SetsEntry, DropsTuple, SweepsTuples, OnIndexStep, Maps, Gone, Again, MovePut}
use Rattle.coverage.specs.Steps.{SummariseStep, LookMap, LookGone, IsFinal, Found, ReadNoEntry, GrowMap, Put, Set, Extent, Pass, Unite, UniteCopies, SwapFinal}
use Rattle.coverage.specs.Steps.{SetFinal, DropOld, GrowthStep, Grow, CountLeftOver, Count, Flag, EvacuatePut, EvacuateSet, EvacuateDrop, EvacuateSweep, Turn}
use Rattle.coverage.specs.Stuck.{AreNamed}
use Rattle.coverage.specs.Counts.{NamesFinal}

module _ (s : ℕ) (w v : IndexView) (m : ℕ) where
  pub same_final : SameMap w v → SameTuples w v → NamesFinal v m → NamesFinal w m
  same_final map tuples final =
      (final.0, (final.1.0, sym (map.entry m) ∙ final.1.1, sym (tuples.tuple final.1.0) ∙ final.1.2), final.2)

  reads_final : ReadsIndex s w v → NamesFinal v m → NamesFinal w m
  reads_final reads final = same_final reads.frame.map reads.frame.tuples final

  drops_final : (x : Spot) → DropsTuple s w v x → NamesFinal v m → NamesFinal w m
  drops_final x drops final = ⊎_elim
      (λ (is : final.1.0 ≡ x). absurd (none-some _ (sym drops.tuple.now ∙ sym (ap v.tuple is) ∙ final.1.2)))
      (λ (same : v.tuple final.1.0 ≡ w.tuple final.1.0).
      (final.0, (final.1.0, sym (drops.frame.map.entry m) ∙ final.1.1, sym same ∙ final.1.2), final.2))
      (drops.tuple.others final.1.0)

  puts_final : AreNamed w → (y : Spot) (t : IndexTuple) → PutsTuple s w v y t → NamesFinal v m → NamesFinal w m
  puts_final named y t puts final =
      let before : w.entry m ≡ Some final.1.0 = sym (puts.frame.map.entry m) ∙ final.1.1 in
      ⊎_elim
      (λ (is : final.1.0 ≡ y). absurd (none-some _ (sym puts.tuple.was ∙ sym (ap w.tuple is) ∙ (named m final.1.0 before).1)))
      (λ (same : v.tuple final.1.0 ≡ w.tuple final.1.0). (final.0, (final.1.0, before, sym same ∙ final.1.2), final.2))
      (puts.tuple.others final.1.0)

  pub sweeps_final : (p : ℕ) (Sweeping : Spot → Type 0) → SweepsTuples s w v p Sweeping → NamesFinal v m → NamesFinal w m
  sweeps_final p Sweeping sweeps final = ⊎_elim
      (λ (same : IsUntouched w v final.1.0).
      (final.0, (final.1.0, sym (sweeps.frame.map.entry m) ∙ final.1.1, sym same.0 ∙ final.1.2), final.2))
      (λ (swept : (final.1.0.block ≡ p) × Sweeping final.1.0). absurd (none-some _ (sym (sweeps.gone final.1.0 swept.1).0 ∙ final.1.2)))
      (sweeps.places final.1.0)

  -- the tuple of one range gives way, and another range doesn't name it
  swaps_final : AreNamed w → (range : ℕ) → m ≢ range → (x : Spot) (old new : IndexTuple) → old.range ≡ range → ReplacesTuple s w v x old new
      → NamesFinal v m → NamesFinal w m
  swaps_final named range other x old new of swap final =
      let before : w.entry m ≡ Some final.1.0 = sym (swap.frame.map.entry m) ∙ final.1.1 in
      let there = named m final.1.0 before in
      ⊎_elim
      (λ (is : final.1.0 ≡ x).
      let one : there.0 ≡ old = same_Some _ _ (sym there.1 ∙ ap w.tuple is ∙ swap.tuple.was) in
      absurd (other (sym there.2 ∙ ap (λ (t : IndexTuple). t.range) one ∙ of)))
      (λ (same : v.tuple final.1.0 ≡ w.tuple final.1.0). (final.0, (final.1.0, before, sym same ∙ final.1.2), final.2))
      (swap.tuple.others final.1.0)

  sets_final : (range : ℕ) → m ≢ range → (y : Spot) → SetsEntry s w v range y → NamesFinal v m → NamesFinal w m
  sets_final range other y sets final = ⊎_elim
      (λ (is : m ≡ range). absurd (other is))
      (λ (same : v.entry m ≡ w.entry m).
      (final.0, (final.1.0, sym same ∙ final.1.1, sym (sets.frame.tuples.tuple final.1.0) ∙ final.1.2), final.2))
      (sets.entry.others m)

  -- a tuple that moves for the map stays as it is
  moves_final : (n : ℕ) (x y : Spot) (t u : IndexTuple) → w.entry n ≡ Some x → w.tuple x ≡ Some t → w.tuple y ≡ Some u → u ≡ t → SetsEntry s w v n y
      → NamesFinal v m → NamesFinal w m
  moves_final n x y t u entry there put same sets final = ⊎_elim
      (λ (is : m ≡ n).
      let place : final.1.0 ≡ y = same_Some _ _ (sym final.1.1 ∙ ap v.entry is ∙ sets.entry.now) in
      let one : final.0 ≡ t = same_Some _ _ (sym final.1.2 ∙ ap v.tuple place ∙ sets.frame.tuples.tuple y ∙ put) ∙ same in
      (t, (x, ap w.entry is ∙ entry, there), sym (ap (λ (z : IndexTuple). z.placeholder) one) ∙ final.2))
      (λ (other : m ≢ n). sets_final n other y sets final)
      (cases_eq m n)

  growth_final : (range : ℕ) (old new : Phase) → AreNamed w → KnowsPhase w s range old → GrowthStep s range w v old new → NamesFinal v m → NamesFinal w m
  growth_final range _ _ named known (Grow grows free meta turns) = same_final turns.frame.map turns.frame.tuples
  growth_final range _ _ named known (CountLeftOver grows meta counts) = same_final counts.frame.map counts.frame.tuples
  growth_final range _ _ named known (Count counts) = same_final counts.frame.map counts.frame.tuples
  growth_final range _ _ named known (Flag grows free turns) = same_final turns.frame.map turns.frame.tuples
  growth_final range _ _ named known (EvacuatePut x y t grows next names free verdict puts these) = puts_final named y t puts
  growth_final range _ _ named known (EvacuateSet n x y t u sets same) =
      moves_final n x y t u known.1.2 known.1.3 known.1.4 known.1.6 sets
  growth_final range _ _ named known (EvacuateDrop n x drops) = drops_final x drops
  growth_final range _ _ named known (EvacuateSweep x t grows next unnamed sweeps) = sweeps_final _ _ sweeps
  growth_final range _ _ named known (Turn grows empty free meta turns) = same_final turns.frame.map turns.frame.tuples

  on_index_final : (range : ℕ) (old new : OnIndex) → AreNamed w → OnIndexStep s range w v old new → NamesFinal v m → NamesFinal w m
  on_index_final range _ _ named (Maps x names reads) = reads_final reads
  on_index_final range _ _ named (Gone x gone reads) = reads_final reads
  on_index_final range _ _ named (Again x old new verdict reads) = reads_final reads
  on_index_final range _ _ named (MovePut x y old new verdict puts these) = puts_final named y new puts

  pub summarise_elsewhere : (range : ℕ) (old : Phase) (new : Statement) → AreNamed w → KnowsPhase w s range old → m ≢ range
      → SummariseStep s range w v old new → NamesFinal v m → NamesFinal w m
  summarise_elsewhere range _ _ named known other (LookMap x names reads) = reads_final reads
  summarise_elsewhere range _ _ named known other (LookGone x gone reads) = reads_final reads
  summarise_elsewhere range _ _ named known other (IsFinal x t stands final reads) = reads_final reads
  summarise_elsewhere range _ _ named known other (Found x t stands flag reads) = reads_final reads
  summarise_elsewhere range _ _ named known other (ReadNoEntry none of reads) = reads_final reads
  summarise_elsewhere range _ _ named known other (GrowMap old new step) = growth_final range old new named known step
  summarise_elsewhere range _ _ named known other (Put x t is long verdict puts these) = puts_final named x t puts
  summarise_elsewhere range _ _ named known other (Set x sets none) = sets_final range other x sets
  summarise_elsewhere range _ _ named known other (Extent extent result start is reads) = reads_final reads
  summarise_elsewhere range _ _ named known other (Pass extent next slots result wider below none made reads) = reads_final reads
  summarise_elsewhere range _ _ named known other (Unite extent next result old new all step) = on_index_final range old new named step
  summarise_elsewhere range _ _ named known other (UniteCopies extent next result x old new all stands united reads) = reads_final reads
  summarise_elsewhere range _ _ named known other (SwapFinal p x old new verdict swap) = swaps_final named range other x old new known.0.2 swap
  summarise_elsewhere range _ _ named known other (SetFinal p x y old new sets same) = sets_final range other y sets
  summarise_elsewhere range _ _ named known other (DropOld x drops) = drops_final x drops
