-- A row that is put into a new table, and the summarize behind it.
use Rattle.std.proofs.Common.{◌≡◌, ◌≢◌, ◌⊎◌, inl, inr, ℕ, zero, suc, ◌+◌, ◌*◌, ◌-◌, ◌/◌, ◌≤◌, ◌<◌, min, max, List, [], ◌∷◌, ◌++◌, length, Option, None, Some, refl, sym, ap, ◌∙◌, subst, arith}
use Rattle.std.specs.Prelude.{codes}
use Rattle.std.proofs.Math.Nat.{zero-div}
use Rattle.block_model.specs.declared.place.Spot.{Spot}
use Rattle.block_model.specs.declared.reply.Point.TheVariants as points
use Rattle.block_model.specs.declared.reply.Reply.TheVariants as replies
use Rattle.block_model.specs.declared.row.Row.{Row}
use Rattle.block_model.specs.declared.value.Value.{Value}
use Rattle.block_model.specs.DatabaseState.{OpenTransaction}
use Rattle.block_model.specs.RequestEffect.{next_row}
use Rattle.coverage.specs.IndexView.{IndexTuple, Pages, Regular, Unstarted}
use Rattle.coverage.specs.PageOrder.{AreNewPages}
use Rattle.coverage.specs.Statements.{Empty}
use Rattle.coverage.specs.Verdicts.{IsTargetPlace, OnNew}
use Rattle.coverage.proofs.SmallIndex.{differ, kind_number}
use Rattle.index_steps.specs.IndexTuples.{index_at}
use Rattle.script_semantics.specs.Beginnings.{StandsAt}
use Rattle.script_semantics.specs.LineTexts.{Does, Plain, dropped_at, outcome_text, with_statement}
use Rattle.script_semantics.specs.Names.{dropped_of}
use Rattle.script_semantics.specs.Place.{Place, updated}
use Rattle.script_semantics.specs.StatementSteps.{Ended}
use Rattle.script_semantics.proofs.Bare.{no_move, updated_there}
use Rattle.script_semantics.proofs.Orders.{updated_here}
use Rattle.query_words.specs.declared.line.Order.TheVariants as orders
use Rattle.reply_texts.specs.Texts.{reply_text}
use Rattle.store_layout.specs.declared.statement.Statement.TheVariants as statements
use Rattle.coverage.specs.Accounts.{Account}
use Rattle.coverage.specs.Table.{Inserts, Reaches, Resting, TableState, Task, pick}
use Rattle.coverage.specs.TableSteps.{AsksFor, GoesOn, Settles, ToIndex}
use Rattle.coverage.proofs.Views.{pick_both, pick_other, pick_same, pick_there}
use Rattle.script_laws.specs.RowLaws.{ANewRowIsSummarized}
use Rattle.script_laws.specs.Answered.{IsAnswered}
use Rattle.script_laws.specs.Finds.{IsCalm, IsNewWithIndex, IsUnderWay, LacksTuple}
use Rattle.script_laws.specs.Words.{blocks_of, inserted_text, summary_words}
use Rattle.script_laws.proofs.Places.{Run, RunEnds, RunGoes, run_finishes}
use Rattle.script_laws.proofs.RoomInPlace.{empty_room}
use Rattle.script_laws.proofs.RowSteps as row
use Rattle.script_laws.proofs.RowSteps.{HasSeat, done_so, grown, has_index, is_taken, only, puts, turns}
use Rattle.script_laws.proofs.Said.{said_inserted}
use Rattle.script_laws.proofs.Summarized.{summarizes_a_table}

from_first : (c j : ℕ) → (0 < c) ⊎ ((0 ≡ c) × (0 ≤ j))
from_first zero j = inr (refl, omega arith)
from_first (suc c) j = inl (omega arith)

module _ (pages : Pages) (new : AreNewPages pages) (tuple : Spot → Option IndexTuple) (none : (x : Spot) → tuple x ≡ None) (more : 2 < pages.limit) (need : ℕ) where
  no_regular : (q : ℕ) → pages.kind q ≡ Regular → ⊥
  no_regular zero is = differ 1 2 (ap kind_number (sym (new.map 0 (omega arith)) ∙ is)) (omega arith)
  no_regular (suc zero) is = differ 1 2 (ap kind_number (sym (new.map 1 (omega arith)) ∙ is)) (omega arith)
  no_regular (suc (suc q)) is = differ 0 2 (ap kind_number (sym (new.rest (suc (suc q)) (omega arith)) ∙ is)) (omega arith)

  pub from_two : (q : ℕ) → pages.kind q ≡ Unstarted → 2 ≤ q
  from_two zero is = absurd (differ 0 1 (ap kind_number (sym is ∙ new.map 0 (omega arith))) (omega arith))
  from_two (suc zero) is = absurd (differ 0 1 (ap kind_number (sym is ∙ new.map 1 (omega arith))) (omega arith))
  from_two (suc (suc q)) is = omega arith

  target : IsTargetPlace pages tuple need (record { block = 2; slot = 0 })
  target = (OnNew (λ q has. no_regular q has.1) (new.rest 2 (omega arith), from_two) more, (none (record { block = 2; slot = 0 }), λ k free. omega arith))

zero_below : (per blocks : ℕ) → 1 ≤ blocks → 0 * per < blocks
zero_below per blocks le = omega arith

first_entry : (m : ℕ) → m ≡ 1 → 0 / 1020 + 1 ≤ m
first_entry m is = omega arith

one_of : (blocks per : ℕ) → blocks ≡ 1 → 0 < per → min blocks ((0 + 1) * per) - 0 * per ≡ 1
one_of blocks per is more = omega arith

one_at_most : (blocks per : ℕ) → blocks ≡ 1 → 0 < per → blocks ≤ per
one_at_most blocks per is more = omega arith

none_less : (n : ℕ) → n ≡ 0 → 0 < n → ⊥
none_less n is less = omega arith

slot_apart : (slots k : ℕ) → 0 < slots → slots ≤ k → k ≢ 0
slot_apart slots k more le is = omega arith

at_least : (n : ℕ) → n ≡ 1 → 1 ≤ n
at_least n is = omega arith

max_one : (blocks : ℕ) → blocks ≡ 0 → max blocks (0 + 1) ≡ 1
max_one blocks is = omega arith

module _ (p : Place) (n t : ℕ) (x : OpenTransaction) (values : List Value) (way : IsUnderWay p n t x) (new : IsNewWithIndex (p.tables t)) where
  abbrev w : TableState
  w = p.tables t

  abbrev r : Row
  r = next_row x t values

  pub seat : HasSeat w 0
  seat = record {
    only = new.only;
    place = record { vacant = (new.slots, new.new.row 0 0); below = new.room; first = λ c j vacant. from_first c j };
    empty = new.new.entry 0 (0 / (w.index 0).pages_per_range);
    unlocked = λ page. new.new.lock 0 page;
  }

  abbrev state : Task → TableState
  state = grown w n 0 r seat way.rests

  no_ask : AsksFor (state (Reaches 0 0 r 0)) 0 0 0 → ⊥
  no_ask asks = none_less (0 / (w.index 0).pages_per_range) (zero-div (w.index 0).pages_per_range) asks.3

  to_index : Settles n (state (Reaches 0 0 r 0)) (state (Inserts 0 0 r 0 Empty))
  to_index = GoesOn (Reaches 0 0 r 0) (Inserts 0 0 r 0 Empty) (ToIndex 0 0 r 0 (has_index w n 0 r seat way.rests) no_ask)
      (turns w n 0 r seat way.rests (Reaches 0 0 r 0) (Inserts 0 0 r 0 Empty)) (only w n 0 r seat way.rests (Reaches 0 0 r 0) (Inserts 0 0 r 0 Empty))

  not_done : Inserts 0 0 r 0 Empty ≡ Resting → ⊥
  not_done is = absurd (cc)

  abbrev q0 : Place
  q0 = with_statement p n (statements.Insert t values)

  abbrev q1 : Place
  q1 = row.q1 p n t 0 x values way seat (Inserts 0 0 r 0 Empty) to_index not_done

  abbrev pub q : Place
  q = row.q3 p n t 0 x values way seat p.queue []

  whole : Run n q0 (codes "row" ∷ []) (Ended (replies.Inserted r.id)) q
  whole = RunGoes q0 q1 q points.Row [] (Ended (replies.Inserted r.id)) (puts p n t 0 x values way seat (Inserts 0 0 r 0 Empty) to_index not_done)
      (RunEnds q1 q (Ended (replies.Inserted r.id)) (done_so p n t 0 x values way seat p.queue []))

  inserted : (name : List ℕ) → Does p n name (orders.Whole (statements.Insert t values)) (reply_text name (replies.Inserted r.id)) q
  inserted name =
      let said : outcome_text name (dropped_at q n) (Ended (replies.Inserted r.id)) ≡ reply_text name (replies.Inserted r.id) =
      ap (λ (a : Account). outcome_text name (dropped_of p.layout a.dropped) (Ended (replies.Inserted r.id))) (updated_here p.accounts n (row.telling p n t 0 x values way seat p.queue [])) in
      subst (λ (o : List ℕ). Does p n name (orders.Whole (statements.Insert t values)) o q) said
      (Plain (statements.Insert t values) (Ended (replies.Inserted r.id)) q0 q (is_taken p n t 0 x values way seat)
      (run_finishes n (Ended (replies.Inserted r.id)) (no_move (replies.Inserted r.id)) _ _ _ _ refl whole))

  here : q.tables t ≡ state Resting
  here = updated_here p.tables t (state Resting)

  below : 0 < w.indexes
  below = has_index w n 0 r seat way.rests

  task_rests : (m : ℕ) → (state Resting).task m ≡ Resting
  task_rests m = by (pick_there m n Resting (w.task m))
    where
      by : (m ≡ n) ⊎ (pick m n Resting (w.task m) ≡ w.task m) → pick m n Resting (w.task m) ≡ Resting
      by (inl is) = subst (λ (j : ℕ). pick m j Resting (w.task m) ≡ Resting) is (pick_same m Resting (w.task m))
      by (inr same) = same ∙ new.new.resting m

  abbrev CalmAt : ℕ → TableState → Type 0
  CalmAt m v = (0 < v.indexes) × (v.task m ≡ Resting) × (v.summarise_lock ≡ None) × ((page : ℕ) → (v.index 0).lock page ≡ None)

  calm_at : (m : ℕ) → p.hands m ≡ None → IsCalm q m t 0
  calm_at m idle =
      let calm = subst (CalmAt m) (sym here) (below, task_rests m, new.new.free, (λ page. new.new.lock 0 page)) in
      record { idle = by (updated_there p.hands n None m); fits = row.fits p n t 0 x values way seat; below = calm.0; rests = calm.1; free = calm.2; unlocked = calm.3 }
    where
      by : (m ≡ n) ⊎ (updated p.hands n None m ≡ p.hands m) → updated p.hands n None m ≡ None
      by (inl is) = ap (updated p.hands n None) is ∙ updated_here p.hands n None
      by (inr same) = same ∙ idle

  no_slot : (c k : ℕ) → w.rows_per_page ≤ k → (state Resting).row c k ≡ None
  no_slot c k le =
      let apart : k ≢ 0 = slot_apart w.rows_per_page k new.slots le in
      ap (λ (o : Option Row). pick c 0 o (w.row c k)) (pick_other k 0 (Some r) (w.row c k) apart) ∙ pick_both c 0 (w.row c k) ∙ new.new.row c k

  lacks : LacksTuple (state Resting) 0 0
  lacks = record {
    begins = zero_below (w.index 0).pages_per_range (max w.blocks (0 + 1)) (at_least (max w.blocks (0 + 1)) (max_one w.blocks new.blocks));
    few = new.ranges;
    none = new.new.entry 0 0;
    mapped = first_entry (w.index 0).pages.map_pages (new.new.pages 0 below).one;
    place = record { block = 2; slot = 0 };
    target = target (w.index 0).pages (new.new.pages 0 below) (w.index 0).tuple (λ y. new.new.tuple 0 y) new.pages (length ((w.index 0).contents.empty 0).bytes);
    roomy = empty_room (w.index 0).tuple 2 (w.index 0).contents.greatest (λ y. new.new.tuple 0 y) (new.new.lawful 0 below).greatest;
    lawful = new.new.lawful 0 below;
    slots = no_slot;
  }

  one_block : (q.tables t).blocks ≡ 1
  one_block = ap (λ (v : TableState). v.blocks) here ∙ max_one w.blocks new.blocks

  ranged : 0 < ((q.tables t).index 0).pages_per_range
  ranged = subst (λ (v : TableState). 0 < (v.index 0).pages_per_range) (sym here) (new.new.ranged 0 below)

  pub first_row : (m index : ℕ) (name other : List ℕ) → (index_at p.layout index).table ≡ t → StandsAt p.layout index 0 → p.hands m ≡ None
      → Does p n name (orders.Whole (statements.Insert t values)) (inserted_text name r.id) q
      × IsAnswered q m other (statements.Summarize index None) (summary_words 1) (other ++ codes " summarized 1\n") q.queue
  first_row m index name other is stands idle = (
    subst (λ (o : List ℕ). Does p n name (orders.Whole (statements.Insert t values)) o q) (said_inserted name r.id) (inserted name),
    subst (λ (k : ℕ). IsAnswered q m other (statements.Summarize index None) (summary_words k) (other ++ codes " summarized 1\n") q.queue)
        (ap (λ (i : ℕ). blocks_of (q.tables i) 0 0) is ∙ one_of (q.tables t).blocks ((q.tables t).index 0).pages_per_range one_block ranged)
        (summarizes_a_table q m index 0 other stands (subst (λ (i : ℕ). IsCalm q m i 0) (sym is) (calm_at m idle))
        (subst (λ (i : ℕ). (q.tables i).blocks ≤ ((q.tables i).index 0).pages_per_range) (sym is) (one_at_most (q.tables t).blocks ((q.tables t).index 0).pages_per_range one_block ranged))
        (subst (λ (i : ℕ). LacksTuple (q.tables i) 0 0) (sym is) (subst (λ (v : TableState). LacksTuple v 0 0) (sym here) lacks))),
  )

pub a_new_row_is_summarized : ANewRowIsSummarized
a_new_row_is_summarized p n m index name other x values stands way new idle =
    (q p n (index_at p.layout index).table x values way new, first_row p n (index_at p.layout index).table x values way new m index name other refl stands idle)
