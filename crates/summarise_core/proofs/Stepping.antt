-- the steps of a summarise at a range, by what its calls found and made there
use Rattle.std.proofs.Common.{◌≡◌, ℕ, ◌+◌, ◌*◌, ◌≤◌, ◌<◌, min, true, false, [], ◌∷◌, length, Option, None, Some, refl, sym, subst}
use Rattle.block_model.specs.declared.place.Spot.{Spot}
use Rattle.block_model.specs.declared.reply.Point.TheVariants as points
use Rattle.coverage.specs.IndexPart.{IndexPart, SummariseMakes, with_part}
use Rattle.coverage.specs.IndexView.{Building, IndexTuple, IndexView, Progress, ExtentUnread, Passing, IsPastMap, IsRangeOf, map_page_of}
use Rattle.coverage.specs.Knowing.{LocksNone, LocksThese}
use Rattle.coverage.specs.Statements.{Empty, Held, Copied, Moving, Dropping, NotBuilding, Vacant, Placing, IsAt, Holding, Maintaining, HasNoMoreRows, rows_added}
use Rattle.coverage.specs.Steps.{Again, DropOld, DropsTuple, Extent, Found, Gone, IsFinal, IsGone, LookGone, LookMap, Maps, MovePut, Pass, Put, PutsTuple, ReadNoEntry, ReadsIndex, ReplacesTuple, Set, SetFinal, SetsEntry, Stands, SwapFinal, Unite, UniteCopies}
use Rattle.coverage.specs.Verdicts.{Differs, Fits, PutVerdict, Puts, SwapVerdict}

module _ (s range : ℕ) (w : IndexView) (p : IndexPart) where
  abbrev pub After : (IndexView → Type 0) → Type 0
  After P = (building : ℕ → Option Building) (loose : ℕ → Option Spot) → P (with_part w p building loose)

  module _ (reads : After (ReadsIndex s w)) where
    pub looks : (x : Spot) → w.entry range ≡ Some x → SummariseMakes s range w p (NotBuilding Empty) (Maintaining range (NotBuilding (Held x))) points.Map 0
    looks x named building loose = (LookMap x named (reads building loose), refl, refl)

    pub no_entry : w.entry range ≡ None → IsRangeOf w range → SummariseMakes s range w p (NotBuilding Empty) (Maintaining range Vacant) points.Map 0
    no_entry none of building loose = (ReadNoEntry none of (reads building loose), refl, refl)

    pub look_gone : (x : Spot) → IsGone w range x → SummariseMakes s range w p (NotBuilding (Held x)) (Maintaining range (NotBuilding Empty)) points.Tuple 0
    look_gone x gone building loose = (LookGone x gone (reads building loose), refl, refl)

    pub is_final : (x : Spot) (t : IndexTuple) → Stands w range x t → t.placeholder ≡ false → SummariseMakes s range w p (NotBuilding (Held x)) Holding points.Tuple 0
    is_final x t stands final building loose = (IsFinal x t stands final (reads building loose), refl, refl)

    pub found : (x : Spot) (t : IndexTuple) → Stands w range x t → t.placeholder ≡ true → SummariseMakes s range w p (NotBuilding (Held x)) (Maintaining range (IsAt ExtentUnread Empty)) points.Tuple 0
    found x t stands flag building loose = (Found x t stands flag (reads building loose), refl, refl)

    pub reads_extent : (extent first : ℕ) (result : IndexTuple) → result ≡ w.contents.empty range → extent ≡ min w.blocks ((range + 1) * w.pages_per_range) → first ≡ range * w.pages_per_range
        → SummariseMakes s range w p (IsAt ExtentUnread Empty) (Maintaining range (IsAt (Passing extent first result) Empty)) points.Extent 0
    reads_extent extent first result start is at =
        subst (λ (n : ℕ). SummariseMakes s range w p (IsAt ExtentUnread Empty) (Maintaining range (IsAt (Passing extent n result) Empty)) points.Extent 0) (sym at)
        (λ building loose. (Extent extent result start is (reads building loose), refl, refl))

    pub passes : (extent next slots : ℕ) (result wider : IndexTuple) → next < extent → HasNoMoreRows (w.row next) slots → wider ≡ rows_added w.contents (w.row next) slots result
        → SummariseMakes s range w p (IsAt (Passing extent next result) Empty) (Maintaining range (IsAt (Passing extent (next + 1) wider) Empty)) points.Pass 0
    passes extent next slots result wider below none made building loose = (Pass extent next slots result wider below none made (reads building loose), refl, refl)

    module _ (extent next : ℕ) (result : IndexTuple) (all : extent ≤ next) where
      pub looks_again : (x : Spot) → w.entry range ≡ Some x → SummariseMakes s range w p (IsAt (Passing extent next result) Empty) (Maintaining range (IsAt (Passing extent next result) (Held x))) points.Map 0
      looks_again x named building loose = (Unite extent next result Empty (Held x) all (Maps x named (reads building loose)), refl, refl)

      pub gone : (x : Spot) → IsGone w range x → SummariseMakes s range w p (IsAt (Passing extent next result) (Held x)) (Maintaining range (IsAt (Passing extent next result) Empty)) points.Copy 0
      gone x is building loose = (Unite extent next result (Held x) Empty all (Gone x is (reads building loose)), refl, refl)

      pub copies : (x : Spot) (old new : IndexTuple) → Stands w range x old → new ≡ w.contents.united old result
          → SummariseMakes s range w p (IsAt (Passing extent next result) (Held x)) (Maintaining range (IsAt (Passing extent next result) (Copied x old new))) points.Copy 0
      copies x old new stands united building loose = (UniteCopies extent next result x old new all stands united (reads building loose), refl, refl)

      pub again : (x : Spot) (old new : IndexTuple) → SwapVerdict w s range x old new Differs
          → SummariseMakes s range w p (IsAt (Passing extent next result) (Copied x old new)) (Maintaining range (IsAt (Passing extent next result) Empty)) points.Again 0
      again x old new verdict building loose = (Unite extent next result (Copied x old new) Empty all (Again x old new verdict (reads building loose)), refl, refl)

  pub puts_new : (x : Spot) (t : IndexTuple) → t ≡ w.contents.empty range → (IsPastMap w.pages range → ⊥) → PutVerdict w s range (length t.bytes) (Puts x) → After (λ v. PutsTuple s w v x t)
      → LocksThese p.lock s (x.block ∷ map_page_of range ∷ []) → SummariseMakes s range w p Vacant (Maintaining range (Placing x)) points.Put 0
  puts_new x t is long verdict puts these building loose =
      (Put x t is long (subst (λ (u : IndexTuple). PutVerdict w s range (length u.bytes) (Puts x)) is verdict) (puts building loose) these, refl, refl)

  pub names : (x : Spot) → After (λ v. SetsEntry s w v range x) → LocksNone p.lock s → SummariseMakes s range w p (Placing x) (Maintaining range (IsAt ExtentUnread Empty)) points.Set 0
  names x sets none building loose = (Set x (sets building loose) none, refl, refl)

  pub swaps : (q : Progress) (x : Spot) (old new : IndexTuple) → SwapVerdict w s range x old new Fits → After (λ v. ReplacesTuple s w v x old new) → SummariseMakes s range w p (IsAt q (Copied x old new)) Holding points.Swap 1
  swaps q x old new verdict replaces building loose = (SwapFinal q x old new verdict (replaces building loose), refl, refl)

  pub moves : (extent next : ℕ) (result : IndexTuple) (x y : Spot) (old new : IndexTuple) → extent ≤ next → SwapVerdict w s range x old new (Puts y) → After (λ v. PutsTuple s w v y new)
      → LocksThese p.lock s (x.block ∷ y.block ∷ map_page_of range ∷ [])
      → SummariseMakes s range w p (IsAt (Passing extent next result) (Copied x old new)) (Maintaining range (IsAt (Passing extent next result) (Moving x y old new))) points.Put 0
  moves extent next result x y old new all verdict puts these building loose =
      (Unite extent next result (Copied x old new) (Moving x y old new) all (MovePut x y old new verdict (puts building loose) these), refl, refl)

  pub sets : (q : Progress) (x y : Spot) (old new : IndexTuple) → After (λ v. SetsEntry s w v range y) → ((page : ℕ) → p.lock page ≡ w.lock page)
      → SummariseMakes s range w p (IsAt q (Moving x y old new)) (Maintaining range (NotBuilding (Dropping x))) points.Set 1
  sets q x y old new entry same building loose = (SetFinal q x y old new (entry building loose) (record { lock = same }), refl, refl)

  pub drops : (x : Spot) → After (λ v. DropsTuple s w v x) → SummariseMakes s range w p (NotBuilding (Dropping x)) Holding points.Drop 0
  drops x gone building loose = (DropOld x (gone building loose), refl, refl)
