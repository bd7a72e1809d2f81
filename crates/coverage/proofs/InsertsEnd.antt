-- An insert that is stepped alone is done with an index within six steps.
use Rattle.std.proofs.Common.{◌≡◌, ℕ, ◌/◌, ◌≤◌, Some, sym, ◌∙◌, ap, arith, suc}
use Rattle.block_model.specs.declared.row.Row.{Row}
use Rattle.block_model.specs.declared.place.Spot.{Spot}
use Rattle.coverage.specs.IndexView.{IndexTuple, IndexView, range_of_block}
use Rattle.coverage.specs.Verdicts.{Differs, SwapVerdict}
use Rattle.coverage.specs.Statements.{OnIndex, Empty, Held, Copied, Moving, Dropping, Statement, Inserting}
use Rattle.coverage.specs.Steps.{ReadsIndex, IsGone, Stands, OnIndexStep, Maps, Gone, Again, MovePut, InsertStep, InsertOnIndex, InsertCopies, InsertSet}
use Rattle.coverage.specs.Stuck.{InsertsAlone, LastStep, OneMore, AreNamed}
use Rattle.coverage.proofs.Verdicts.{swap_differs}

-- where an insert goes on in the index
data GoesTo (s range : ℕ) (w v : IndexView) : OnIndex → OnIndex → Type 0 where
  ToPlace : (x : Spot) → w.entry range ≡ Some x → ReadsIndex s w v → GoesTo s range w v Empty (Held x)
  BackFromPlace : (x : Spot) → IsGone w range x → ReadsIndex s w v → GoesTo s range w v (Held x) Empty
  ToCopy : (x : Spot) (old new : IndexTuple) → Stands w range x old → ReadsIndex s w v → GoesTo s range w v (Held x) (Copied x old new)
  BackFromCopy : (x : Spot) (old new : IndexTuple) → SwapVerdict w s range x old new Differs → ReadsIndex s w v → GoesTo s range w v (Copied x old new) Empty
  ToMove : (x y : Spot) (old new : IndexTuple) → GoesTo s range w v (Copied x old new) (Moving x y old new)
  ToDrop : (x y : Spot) (old new : IndexTuple) → GoesTo s range w v (Moving x y old new) (Dropping x)

on_index_goes : (s range : ℕ) (w v : IndexView) (g h : OnIndex) → OnIndexStep s range w v g h → GoesTo s range w v g h
on_index_goes s range w v _ _ (Maps x named reads) = ToPlace x named reads
on_index_goes s range w v _ _ (Gone x gone reads) = BackFromPlace x gone reads
on_index_goes s range w v _ _ (Again x old new verdict reads) = BackFromCopy x old new verdict reads
on_index_goes s range w v _ _ (MovePut x y old new verdict puts these) = ToMove x y old new

-- what an insert is at in the index
abbrev on_index_of : Statement → OnIndex
on_index_of (Inserting b k r on_index) = on_index
on_index_of statement = Empty

abbrev IsGoingOn : Statement → Type 0
IsGoingOn (Inserting b k r on_index) = Unit
IsGoingOn statement = ⊥

insert_goes : (s b k : ℕ) (r : Row) (w v : IndexView) (g : OnIndex) (e : Statement) → InsertStep s b k r w v g e → IsGoingOn e
    → GoesTo s (range_of_block w b) w v g (on_index_of e)
insert_goes s b k r w v _ _ (InsertOnIndex old new step) going = on_index_goes s (range_of_block w b) w v old new step
insert_goes s b k r w v _ _ (InsertCopies x old new stands added changes reads) going = ToCopy x old new stands reads
insert_goes s b k r w v _ _ (InsertSet x y old new sets same) going = ToDrop x y old new
insert_goes s b k r w v _ _ _ going = absurd going

named_on : (s : ℕ) (w v : IndexView) → ReadsIndex s w v → AreNamed w → AreNamed v
named_on s w v reads named range x is =
    let t = named range x (sym (reads.frame.map.entry range) ∙ is) in (t.0, reads.frame.tuples.tuple x ∙ t.1, t.2)

range_on : (s b : ℕ) (w v : IndexView) → ReadsIndex s w v → range_of_block v b ≡ range_of_block w b
range_on s b w v reads = ap (λ m. b / m) reads.frame.heap.pages_per_range

next : (n m : ℕ) → n ≤ m → suc n ≤ suc m
next n m le = omega arith

at_most : (m : ℕ) → 1 ≤ suc m
at_most m = omega arith

module _ (s b k : ℕ) (r : Row) where
  drop_bound : (n : ℕ) (w : IndexView) (x : Spot) → InsertsAlone s b k r n w (Dropping x) → n ≤ 1
  drop_bound _ w x (LastStep _ v _ new step) = at_most 0
  drop_bound _ w x (OneMore n _ v _ new step more) = no_way (insert_goes s b k r w v (Dropping x) (Inserting b k r new) step tt)
    where
      no_way : GoesTo s (range_of_block w b) w v (Dropping x) new → suc n ≤ 1
      no_way goes = elim goes [ ]

  move_bound : (n : ℕ) (w : IndexView) (x y : Spot) (old new : IndexTuple) → InsertsAlone s b k r n w (Moving x y old new) → n ≤ 2
  move_bound _ w x y old new (LastStep _ v _ e step) = at_most 1
  move_bound _ w x y old new (OneMore n _ v _ h step more) = by h (insert_goes s b k r w v (Moving x y old new) (Inserting b k r h) step tt) more
    where
      by : (h : OnIndex) → GoesTo s (range_of_block w b) w v (Moving x y old new) h → InsertsAlone s b k r n v h → suc n ≤ 2
      by _ (ToDrop _ _ _ _) more = next n 1 (drop_bound n v x more)

  -- what is copied stands there still
  copy_bound : (n : ℕ) (w : IndexView) (x : Spot) (old new : IndexTuple) → w.tuple x ≡ Some old → InsertsAlone s b k r n w (Copied x old new) → n ≤ 3
  copy_bound _ w x old new here (LastStep _ v _ e step) = at_most 2
  copy_bound _ w x old new here (OneMore n _ v _ h step more) = by h (insert_goes s b k r w v (Copied x old new) (Inserting b k r h) step tt) more
    where
      by : (h : OnIndex) → GoesTo s (range_of_block w b) w v (Copied x old new) h → InsertsAlone s b k r n v h → suc n ≤ 3
      by _ (BackFromCopy _ _ _ verdict reads) more = absurd (swap_differs w s (range_of_block w b) x old new verdict here)
      by _ (ToMove _ y _ _) more = next n 2 (move_bound n v x y old new more)

  -- a tuple of the range stands at the held place
  place_bound : (n : ℕ) (w : IndexView) (x : Spot) (t : IndexTuple) → Stands w (range_of_block w b) x t → InsertsAlone s b k r n w (Held x) → n ≤ 4
  place_bound _ w x t stands (LastStep _ v _ e step) = at_most 3
  place_bound _ w x t stands (OneMore n _ v _ h step more) = by h (insert_goes s b k r w v (Held x) (Inserting b k r h) step tt) more
    where
      by : (h : OnIndex) → GoesTo s (range_of_block w b) w v (Held x) h → InsertsAlone s b k r n v h → suc n ≤ 4
      by _ (BackFromPlace _ gone reads) more = absurd (gone t stands.0 stands.1)
      by _ (ToCopy _ old new stands' reads) more = next n 3 (copy_bound n v x old new (reads.frame.tuples.tuple x ∙ stands'.0) more)

  pub begun_bound : (n : ℕ) (w : IndexView) → AreNamed w → InsertsAlone s b k r n w Empty → n ≤ 5
  begun_bound _ w named (LastStep _ v _ e step) = at_most 4
  begun_bound _ w named (OneMore n _ v _ h step more) = by h (insert_goes s b k r w v Empty (Inserting b k r h) step tt) more
    where
      by : (h : OnIndex) → GoesTo s (range_of_block w b) w v Empty h → InsertsAlone s b k r n v h → suc n ≤ 5
      by _ (ToPlace x is reads) more =
          let t = named (range_of_block w b) x is in
          next n 4 (place_bound n v x t.0 (reads.frame.tuples.tuple x ∙ t.1, t.2 ∙ sym (range_on s b w v reads)) more)

  within : (n m : ℕ) → n ≤ m → m ≤ 6 → n ≤ 6
  within n m le le' = omega arith

  pub insert_bound : (n : ℕ) (w : IndexView) (g : OnIndex) → AreNamed w → InsertsAlone s b k r n w g → n ≤ 6
  insert_bound n w Empty named alone = within n 5 (begun_bound n w named alone) (omega arith)
  insert_bound n w (Moving x y old new) named alone = within n 2 (move_bound n w x y old new alone) (omega arith)
  insert_bound n w (Dropping x) named alone = within n 1 (drop_bound n w x alone) (omega arith)
  insert_bound _ w (Held x) named (LastStep _ v _ e step) = at_most 5
  insert_bound _ w (Held x) named (OneMore n _ v _ h step more) = by h (insert_goes s b k r w v (Held x) (Inserting b k r h) step tt) more
    where
      by : (h : OnIndex) → GoesTo s (range_of_block w b) w v (Held x) h → InsertsAlone s b k r n v h → suc n ≤ 6
      by _ (BackFromPlace _ gone reads) more = next n 5 (begun_bound n v (named_on s w v reads named) more)
      by _ (ToCopy _ old new stands reads) more =
          next n 5 (within' n 3 (copy_bound n v x old new (reads.frame.tuples.tuple x ∙ stands.0) more) (omega arith))
        where
          within' : (n m : ℕ) → n ≤ m → m ≤ 5 → n ≤ 5
          within' n m le le' = omega arith
  insert_bound _ w (Copied x old new) named (LastStep _ v _ e step) = at_most 5
  insert_bound _ w (Copied x old new) named (OneMore n _ v _ h step more) = by h (insert_goes s b k r w v (Copied x old new) (Inserting b k r h) step tt) more
    where
      by : (h : OnIndex) → GoesTo s (range_of_block w b) w v (Copied x old new) h → InsertsAlone s b k r n v h → suc n ≤ 6
      by _ (BackFromCopy _ _ _ verdict reads) more = next n 5 (begun_bound n v (named_on s w v reads named) more)
      by _ (ToMove _ y _ _) more = next n 5 (within' n 2 (move_bound n v x y old new more) (omega arith))
        where
          within' : (n m : ℕ) → n ≤ m → m ≤ 5 → n ≤ 5
          within' n m le le' = omega arith
