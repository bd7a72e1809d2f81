-- At any moment at a range so many steps are enough for it: a vacuum's too, of which coverage's law speaks from an index's begin on alone.
use Rattle.std.proofs.Common.{◌≡◌, ℕ, suc, ◌+◌, ◌-◌, ◌*◌, ◌≤◌, Bool, true, false, Some, length, refl, sym, ◌∙◌, arith, le_trans, mul-le-mul}
use Rattle.std.proofs.lemmas.Option.{none-some}
use Rattle.block_model.specs.declared.place.Spot.{Spot}
use Rattle.coverage.specs.IndexView.{ExtentUnread, IndexTuple, IndexView, Passing, Progress}
use Rattle.coverage.specs.Knowing.{KnowsPhase}
use Rattle.coverage.specs.PageOrder.{KnowsPagesOfPhase}
use Rattle.coverage.specs.Statements.{Copied, Dropping, Empty, Evacuating, Growing, Held, IsAt, Moving, NotBuilding, OnIndex, Phase, Placing, Vacant}
use Rattle.coverage.specs.StepsLeft.{AreAtMost}
use Rattle.coverage.proofs.SummariseLeft.{Base, Grows', IsTaken, Left, Own, OwnCopiedGone, OwnDropping, OwnEvacuates, OwnExtent, OwnHeldGone, OwnMap, OwnMoving}
use Rattle.coverage.proofs.SummariseLeft.{OwnPass, OwnPlacing, OwnTupleGone, OwnVacant, OwnVacates, Works, with_one}
use Rattle.script_semantics.specs.Bounds.{most_blocks}

six_few : 6 ≤ 131082
six_few = omega arith

two_few : 2 ≤ 131082
two_few = omega arith

one_few : 1 ≤ 131082
one_few = omega arith

module _ (w : IndexView) (s range most later tail tuples n : ℕ) (has : AreAtMost (IsTaken w) tuples) (room : suc tuples + later ≤ most) (per_few : w.pages_per_range ≤ most_blocks) (blocks_few : w.blocks ≤ most_blocks)
    (enough : 131082 + (w.pages.limit - w.pages.map_pages) * (3 * most + 3) + tail ≤ n) where
  abbrev per : ℕ
  per = w.pages_per_range

  abbrev g : ℕ
  g = w.pages.limit - w.pages.map_pages

  abbrev Starts : Phase → Type 0
  Starts phase = Left w range per most later tail n phase

  counted : (moving : Bool) → AreAtMost (IsTaken w) (with_one moving tuples)
  counted false = has
  counted true = λ xs apart all. wider (length xs) (has xs apart all)
    where
      wider : (m : ℕ) → m ≤ tuples → m ≤ suc tuples
      wider m le = omega arith

  fits : (unput : Bool) → with_one unput tuples + later ≤ most
  fits true = room
  fits false = lower room
    where
      lower : suc tuples + later ≤ most → tuples + later ≤ most
      lower le = omega arith

  base_of : (moving unput : Bool) → Base w per most later g tuples moving unput
  base_of moving unput = record { per_is = refl; tuples_are = counted moving; room = fits unput; pages = refl }

  through : (own a : ℕ) → own ≤ 131082 → 131082 + a + tail ≤ n → own + a + tail ≤ n
  through own a le all = omega arith

  starts : (phase : Phase) (own : ℕ) (moving unput : Bool) → Own w range per phase own moving unput → own ≤ 131082 → Starts phase
  starts phase own moving unput own_is le = Works phase own g tuples moving unput own_is (base_of moving unput) (through own (g * (3 * most + 3)) le enough)

  few : (a : ℕ) → a ≤ 10 → per + a ≤ 131082
  few a le = sum per a per_few le
    where
      sum : (m k : ℕ) → m ≤ 131072 → k ≤ 10 → m + k ≤ 131082
      sum m k le le' = omega arith

  taken_of : (x : Spot) → ((t : IndexTuple) × (w.tuple x ≡ Some t)) → IsTaken w x
  taken_of x there none = none-some _ (sym none ∙ there.1)

  not_building : (on_index : OnIndex) → KnowsPhase w s range (NotBuilding on_index) → Starts (NotBuilding on_index)
  not_building Empty known = starts (NotBuilding Empty) (per + 9) false true OwnMap (few 9 (omega arith))
  not_building (Held x) known = starts (NotBuilding (Held x)) (per + 10) false true (OwnTupleGone x) (few 10 (omega arith))
  not_building (Copied x old new) known = absurd known.3
  not_building (Moving x y old new) known = absurd known.6
  not_building (Dropping x) known = starts (NotBuilding (Dropping x)) 1 true false (OwnDropping x (taken_of x known.2)) one_few

  evacuating : (m : ℕ) (on_index : OnIndex) → KnowsPhase w s range (Evacuating m on_index) → KnowsPagesOfPhase w s range (Evacuating m on_index) → Starts (Evacuating m on_index)
  evacuating m Empty known pages = absurd pages.1
  evacuating m (Held x) known pages = absurd pages.1
  evacuating m (Copied x old new) known pages = absurd pages.1
  evacuating m (Moving x y old new) known pages =
      starts (Evacuating m (Moving x y old new)) (per + 10) true true (OwnEvacuates m x y old new (taken_of x (old, known.1.3))) (few 10 (omega arith))
  evacuating m (Dropping x) known pages = starts (Evacuating m (Dropping x)) (per + 9) true true (OwnVacates m x (taken_of x known.1.2)) (few 9 (omega arith))

  at_range : (p : Progress) (on_index : OnIndex) → KnowsPhase w s range (IsAt p on_index) → KnowsPagesOfPhase w s range (IsAt p on_index) → Starts (IsAt p on_index)
  at_range ExtentUnread Empty known pages = starts (IsAt ExtentUnread Empty) (per + 6) false false OwnExtent (few 6 (omega arith))
  at_range (Passing extent next result) Empty known pages =
      starts (IsAt (Passing extent next result) Empty) ((extent - next) + 5) false false (OwnPass extent next result) (five extent (le_trans pages.2.0 blocks_few))
    where
      five : (a : ℕ) → a ≤ 131072 → (a - next) + 5 ≤ 131082
      five a le = omega arith
  at_range p (Held x) known pages = starts (IsAt p (Held x)) 6 false false (OwnHeldGone p x) six_few
  at_range p (Copied x old new) known pages = starts (IsAt p (Copied x old new)) 6 false false (OwnCopiedGone p x old new) six_few
  at_range p (Moving x y old new) known pages = starts (IsAt p (Moving x y old new)) 2 true false (OwnMoving p x y old new (taken_of x (old, known.0.3))) two_few
  at_range ExtentUnread (Dropping x) known pages = absurd pages.3
  at_range (Passing extent next result) (Dropping x) known pages = absurd pages.3

  growing : Starts Growing
  growing = Grows' g tuples (base_of false true)
      (still ((g - 1) * (3 * most + 3)) (g * (3 * most + 3)) (few 9 (omega arith)) (mul-le-mul (less g) (self (3 * most + 3))) enough)
    where
      less : (a : ℕ) → a - 1 ≤ a
      less a = omega arith

      self : (a : ℕ) → a ≤ a
      self a = omega arith

      still : (a b : ℕ) → per + 9 ≤ 131082 → a ≤ b → 131082 + b + tail ≤ n → (per + 9) + a + tail ≤ n
      still a b le le' all = omega arith

  pub left_at : (phase : Phase) → KnowsPhase w s range phase → KnowsPagesOfPhase w s range phase → Starts phase
  left_at (NotBuilding on_index) known pages = not_building on_index known
  left_at Vacant known pages = starts Vacant (per + 8) false true OwnVacant (few 8 (omega arith))
  left_at Growing known pages = growing
  left_at (Evacuating m on_index) known pages = evacuating m on_index known pages
  left_at (Placing x) known pages = starts (Placing x) (per + 7) false false (OwnPlacing x) (few 7 (omega arith))
  left_at (IsAt p on_index) known pages = at_range p on_index known pages
