-- how many requests an insert asks for in vain at most, and that one without a row has asked for none
use Rattle.std.proofs.Common.{◌≡◌, ℕ, ◌+◌, ◌≤◌, ◌==◌, Bool, true, false, cond, All, List, [], ◌∷◌, length, Option, None, Some, refl, sym, ap, subst, ◌∙◌, arith}
use Rattle.std.specs.Prelude.{IsSome}
use Rattle.std.proofs.lemmas.Bool.{false≢true}
use Rattle.std.proofs.lemmas.List.{length-map, nil_from_length}
use Rattle.std.proofs.lemmas.Option.{none-some, slice_get_within}
use Rattle.block_model.specs.declared.place.Spot.{Spot}
use Rattle.block_model.specs.declared.reply.Point.TheVariants as points
use Rattle.block_model.specs.declared.schema.Index.{Index}
use Rattle.store_layout.specs.DiskLayout.{DiskLayout}
use Rattle.index_steps.specs.ShownTable.{indexes_of, numbers_from}
use Rattle.page_locks.specs.declared.did.Did.{Did}
use Rattle.page_locks.specs.declared.did.Did.TheVariants as did
use Rattle.brin_insert.specs.AskedFor.{AsksFirst, AsksNothingMore}
use Rattle.brin_insert.specs.declared.insert.Insert.{Insert}
use Rattle.brin_insert.specs.InsertAnswers.{StandsPlaced}
use Rattle.brin_insert.specs.InsertHands.{InsertHand}
use Rattle.brin_insert.specs.Inserts.{HasStepLeft, IsDroppedFew, IsInsertFor, IsOfIndexes}
use Rattle.brin_insert.proofs.Tasks.{none_was}
use Rattle.session_inserts.proofs.Beside.{at_work_of}

-- a table has no more indexes than there are
numbers_few : (table n : ℕ) (indexes : List Index) → length (numbers_from table n indexes) ≤ length indexes
numbers_few table n [] = omega arith
numbers_few table n (index ∷ more) = by_test (index.table == table) (numbers_few table (n + 1) more)
  where
    by_test : (b : Bool) → length (numbers_from table (n + 1) more) ≤ length more → length (cond b (n ∷ numbers_from table (n + 1) more) (numbers_from table (n + 1) more)) ≤ length (index ∷ more)
    by_test true few = omega (arith, few)
    by_test false few = omega (arith, few)

indexes_few : (layout : DiskLayout) (table : ℕ) → length (indexes_of layout table) ≤ length layout.schema.indexes
unfolding indexes_of
indexes_few layout table = numbers_few table 0 layout.schema.indexes

-- one for each index that it was in
few_there : (place : Option Spot) (x : Spot) (asking : Bool) (at n : ℕ) → place ≡ Some x → IsDroppedFew place asking at n → n ≤ at + 1
few_there place x asking at n placed few = by_asking asking (subst (λ (o : Option Spot). IsDroppedFew o asking at n) placed few)
  where
    by_asking : (b : Bool) → IsDroppedFew (Some x) b at n → n ≤ at + 1
    by_asking true few = omega (arith, few)
    by_asking false few = few

pub few_dropped : (layout : DiskLayout) (insert : Insert) → IsInsertFor layout insert → HasStepLeft insert → IsSome insert.place → length insert.dropped.items ≤ length layout.schema.indexes
few_dropped layout insert made step_left some =
    let work = at_work_of insert step_left some in
    let below = slice_get_within insert.works.items insert.at work.hand work.got in
    let few = few_there insert.place work.x insert.asking insert.at (length insert.dropped.items) work.placed made.few in
    let many : length insert.works.items ≡ length (indexes_of layout insert.row.table) = sym (length-map insert.works.items (λ (h : InsertHand). h.index)) ∙ ap length made.numbers in
    omega (arith, below, few, many, indexes_few layout insert.row.table)

-- in the layout that the pages have then
pub dropped_within : (layout other : DiskLayout) → other ≡ layout → (insert : Insert) (requests : List (ℕ × ℕ)) → requests ≡ insert.dropped.items → IsInsertFor layout insert → HasStepLeft insert → IsSome insert.place
    → length requests ≤ length other.schema.indexes
dropped_within layout other same insert requests are made step_left some =
    let few = few_dropped layout insert made step_left some in
    let as_many : length requests ≡ length insert.dropped.items = ap length are in
    let indexes : length other.schema.indexes ≡ length layout.schema.indexes = ap (λ (l : DiskLayout). length l.schema.indexes) same in
    omega (arith, few, as_many, indexes)

pub dropped_named : (layout other : DiskLayout) → other ≡ layout → (insert : Insert) (requests : List (ℕ × ℕ)) → requests ≡ insert.dropped.items → IsInsertFor layout insert
    → All (IsOfIndexes (length other.schema.indexes)) requests
dropped_named layout other same insert requests are made =
    subst (λ (l : DiskLayout). All (IsOfIndexes (length l.schema.indexes)) requests) (sym same)
    (subst (λ (l : List (ℕ × ℕ)). All (IsOfIndexes (length layout.schema.indexes)) l) (sym are) made.named)

-- the row of an insert stands where it stood
pub stands_still : (was now : Option Spot) → IsSome was → StandsPlaced was now → IsSome now
stands_still None now some placed = absurd (false≢true some)
stands_still (Some x) now some placed = subst (λ (o : Option Spot). IsSome o) (sym placed) refl

-- one that answers anything else than that it asks had nothing to ask for
pub silent_end : (asking : Bool) (answer : Did) → AsksFirst asking answer → (answer ≡ did.Moved points.Ask → ⊥) → asking ≡ false
silent_end true answer first other = absurd (other first)
silent_end false answer first other = refl

-- one whose row stands nowhere has nothing to ask for
pub silent_nowhere : (layout : DiskLayout) (insert : Insert) → IsInsertFor layout insert → insert.place ≡ None → insert.asking ≡ false
silent_nowhere layout insert made none = by_asking insert.asking refl
  where
    by_asking : (b : Bool) → insert.asking ≡ b → insert.asking ≡ false
    by_asking false is = is
    by_asking true is = let asking = made.asks is in absurd (none-some asking.spot (sym none ∙ asking.placed))

-- so the step leaves both
pub silent_step : (asking : Bool) (queue queued dropped after : List (ℕ × ℕ)) → asking ≡ false → AsksNothingMore asking queue queued dropped after → (queued ≡ queue) × (after ≡ dropped)
silent_step asking queue queued dropped after silent nothing = subst (λ (b : Bool). AsksNothingMore b queue queued dropped after) silent nothing

-- no request is dropped before an insert's row is put
pub none_dropped : (layout : DiskLayout) (before : Insert) (after : List (ℕ × ℕ)) → IsInsertFor layout before → before.place ≡ None → after ≡ before.dropped.items → after ≡ []
none_dropped layout before after made none same = same ∙ nil_from_length before.dropped.items (none_was before.place before.asking before.at (length before.dropped.items) none made.few)
