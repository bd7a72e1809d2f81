-- the steps of an insert in an index, by what its calls found and made there
use Rattle.std.proofs.Common.{◌≡◌, ◌≢◌, ◌⊎◌, ℕ, [], ◌∷◌, Option, None, Some, refl}
use Rattle.block_model.specs.declared.place.Spot.{Spot}
use Rattle.block_model.specs.declared.reply.Point.TheVariants as points
use Rattle.block_model.specs.declared.row.Row.{Row}
use Rattle.coverage.specs.Changes.{IsFree}
use Rattle.coverage.specs.IndexPart.{IndexPart, InsertMakes, with_part}
use Rattle.coverage.specs.IndexView.{Building, IndexTuple, IndexView, map_page_of, range_of_block}
use Rattle.coverage.specs.Knowing.{LocksThese}
use Rattle.coverage.specs.Statements.{Empty, Held, Copied, Moving, Dropping, Idle, Inserting}
use Rattle.coverage.specs.Steps.{Again, DropsTuple, Gone, InsertCopies, InsertDrop, InsertNoEntry, InsertOnIndex, InsertSet, InsertSwap, InsertUnchanged, IsGone, Maps, MovePut, PutsTuple, ReadsIndex, ReplacesTuple, SetsEntry, Stands}
use Rattle.coverage.specs.Verdicts.{Differs, Fits, IsLocked, Puts, SwapVerdict}

module _ (s b k : ℕ) (r : Row) (w : IndexView) (p : IndexPart) where
  module _ (reads : (building : ℕ → Option Building) (loose : ℕ → Option Spot) → ReadsIndex s w (with_part w p building loose)) where
    pub maps : (x : Spot) → w.entry (range_of_block w b) ≡ Some x → InsertMakes s b k r w p Empty (Inserting b k r (Held x)) points.Map
    maps x named building loose = (InsertOnIndex Empty (Held x) (Maps x named (reads building loose)), refl)

    pub no_entry : w.entry (range_of_block w b) ≡ None → InsertMakes s b k r w p Empty Idle points.Map
    no_entry none building loose = (InsertNoEntry none (reads building loose), refl)

    pub gone : (x : Spot) → IsGone w (range_of_block w b) x → InsertMakes s b k r w p (Held x) (Inserting b k r Empty) points.Copy
    gone x is building loose = (InsertOnIndex (Held x) Empty (Gone x is (reads building loose)), refl)

    pub copies : (x : Spot) (old new : IndexTuple) → Stands w (range_of_block w b) x old → new ≡ w.contents.added r old → (new ≢ old) ⊎ IsLocked w.lock s x.block
        → InsertMakes s b k r w p (Held x) (Inserting b k r (Copied x old new)) points.Copy
    copies x old new stands added why building loose = (InsertCopies x old new stands added why (reads building loose), refl)

    pub unchanged : (x : Spot) (t : IndexTuple) → Stands w (range_of_block w b) x t → t ≡ w.contents.added r t → IsFree w.lock s x.block
        → InsertMakes s b k r w p (Held x) Idle points.Copy
    unchanged x t stands added free building loose = (InsertUnchanged x t stands added free (reads building loose), refl)

    pub again : (x : Spot) (old new : IndexTuple) → SwapVerdict w s (range_of_block w b) x old new Differs → InsertMakes s b k r w p (Copied x old new) (Inserting b k r Empty) points.Again
    again x old new verdict building loose = (InsertOnIndex (Copied x old new) Empty (Again x old new verdict (reads building loose)), refl)

  pub swaps : (x : Spot) (old new : IndexTuple) → SwapVerdict w s (range_of_block w b) x old new Fits
      → ((building : ℕ → Option Building) (loose : ℕ → Option Spot) → ReplacesTuple s w (with_part w p building loose) x old new) → InsertMakes s b k r w p (Copied x old new) Idle points.Swap
  swaps x old new verdict replaces building loose = (InsertSwap x old new verdict (replaces building loose), refl)

  pub moves : (x y : Spot) (old new : IndexTuple) → SwapVerdict w s (range_of_block w b) x old new (Puts y)
      → ((building : ℕ → Option Building) (loose : ℕ → Option Spot) → PutsTuple s w (with_part w p building loose) y new) → LocksThese p.lock s (x.block ∷ y.block ∷ map_page_of (range_of_block w b) ∷ [])
      → InsertMakes s b k r w p (Copied x old new) (Inserting b k r (Moving x y old new)) points.Put
  moves x y old new verdict puts these building loose = (InsertOnIndex (Copied x old new) (Moving x y old new) (MovePut x y old new verdict (puts building loose) these), refl)

  pub sets : (x y : Spot) (old new : IndexTuple) → ((building : ℕ → Option Building) (loose : ℕ → Option Spot) → SetsEntry s w (with_part w p building loose) (range_of_block w b) y) → ((page : ℕ) → p.lock page ≡ w.lock page)
      → InsertMakes s b k r w p (Moving x y old new) (Inserting b k r (Dropping x)) points.Set
  sets x y old new entry same building loose = (InsertSet x y old new (entry building loose) (record { lock = same }), refl)

  pub drops : (x : Spot) → ((building : ℕ → Option Building) (loose : ℕ → Option Spot) → DropsTuple s w (with_part w p building loose) x) → InsertMakes s b k r w p (Dropping x) Idle points.Drop
  drops x gone building loose = (InsertDrop x (gone building loose), refl)
