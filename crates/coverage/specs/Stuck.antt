-- When a statement has no step, and how many steps an insert takes alone.
use Rattle.std.specs.Prelude.{◌≡◌, ℕ, suc, Some}
use Rattle.block_model.specs.declared.row.Row.{Row}
use Rattle.block_model.specs.declared.place.Spot.{Spot}
use Rattle.coverage.specs.IndexView.{IndexTuple, IndexView}
use Rattle.coverage.specs.Verdicts.{Waits, Full, SwapVerdict, ClearVerdict}
use Rattle.coverage.specs.Waiting.{IsPhaseWaiting, IsPhaseFull}
use Rattle.coverage.specs.Statements.{OnIndex, Held, Copied, Phase, NotBuilding, Statement, Inserting, HasNoMoreRows}
use Rattle.coverage.specs.Steps.{InsertStep, SummariseStep, DesummariseStep}

-- a summariser in this phase has no step
abbrev pub IsSummariseStuck : IndexView → (s range : ℕ) → Phase → Type 0
IsSummariseStuck w s range phase = (e : Statement) (v : IndexView) → SummariseStep s range w v phase e → ⊥

-- it waits for no page, and lacks none
abbrev pub IsPhaseFree : IndexView → (s range : ℕ) → Phase → Type 0
IsPhaseFree w s range phase = ((p : ℕ) → IsPhaseWaiting w s range phase p → ⊥) × ((number : ℕ) → IsPhaseFull w s range phase number → ⊥)

-- the rows of each block end at some slot
abbrev pub HasBlocksOfRows : IndexView → Type 0
HasBlocksOfRows w = (b : ℕ) → (n : ℕ) × HasNoMoreRows (w.row b) n

-- an insert in this state on the index has no step
abbrev pub IsInsertStuck : IndexView → (s b k : ℕ) → Row → OnIndex → Type 0
IsInsertStuck w s b k r on_index = (e : Statement) (v : IndexView) → InsertStep s b k r w v on_index e → ⊥

-- where its tuple is copied, it finds the index not full, and waits for no page
abbrev pub IsSwapFree : IndexView → (s range : ℕ) → OnIndex → Type 0
IsSwapFree w s range on_index = (x : Spot) (old new : IndexTuple) → on_index ≡ Copied x old new
    → ((number : ℕ) → SwapVerdict w s range x old new (Full number) → ⊥) × ((p : ℕ) → SwapVerdict w s range x old new (Waits p) → ⊥)

-- a desummarise in this state on the index has no step
abbrev pub IsDesummariseStuck : IndexView → (s range : ℕ) → OnIndex → Type 0
IsDesummariseStuck w s range on_index = (e : Statement) (v : IndexView) → DesummariseStep s range w v (NotBuilding on_index) e → ⊥

-- where it holds a place, it waits for no page
abbrev pub IsClearFree : IndexView → (s range : ℕ) → OnIndex → Type 0
IsClearFree w s range on_index = (x : Spot) (p : ℕ) → on_index ≡ Held x → ClearVerdict w s range x (Waits p) → ⊥

-- an insert takes so many steps in the index, one right after the other, while no other session steps
pub data InsertsAlone (s b k : ℕ) (r : Row) : (steps : ℕ) → IndexView → OnIndex → Type 0 where
  LastStep : (w v : IndexView) (on_index : OnIndex) (new : Statement) → InsertStep s b k r w v on_index new → InsertsAlone s b k r 1 w on_index
  OneMore : (steps : ℕ) (w v : IndexView) (old new : OnIndex) → InsertStep s b k r w v old (Inserting b k r new) → InsertsAlone s b k r steps v new
      → InsertsAlone s b k r (suc steps) w old

-- each entry names a tuple of its range
abbrev pub AreNamed : IndexView → Type 0
AreNamed w = (range : ℕ) (x : Spot) → w.entry range ≡ Some x → (t : IndexTuple) × (w.tuple x ≡ Some t) × (t.range ≡ range)
