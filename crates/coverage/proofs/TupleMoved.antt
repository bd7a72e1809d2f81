-- A run in which an insert moves a tuple: its page is being emptied for the map, which a stop cut off; so the tuple with the row leaves it.
use Rattle.std.proofs.Common.{◌≡◌, ◌⊎◌, inl, inr, ⊎_elim, ◌∙◌, ℕ, Some, None, [], ◌∷◌, sym, ap, arith, zero, suc}
use Rattle.std.specs.Prelude.{refl, length}
use Rattle.std.proofs.lemmas.Bool.{false≢true}
use Rattle.std.proofs.lemmas.Option.{none-some, same_Some}
use Rattle.block_model.specs.declared.row.Row.{Row}
use Rattle.block_model.specs.declared.place.Spot.{Spot}
use Rattle.coverage.specs.IndexView.{IndexTuple}
use Rattle.coverage.specs.Statements.{OnIndex, Empty, Held, Copied, Moving, Dropping, Statement, Idle, Inserting}
use Rattle.coverage.specs.Verdicts.{OnNew, PutGoes, SwapMoves}
use Rattle.coverage.specs.IsCovered.{IndexState, IsIndexKept}
use Rattle.coverage.specs.Steps.{Step, PutRow, InsertOnIndex, InsertCopies, InsertSet, InsertDrop, Maps, MovePut, Run, Done, Next, Stops}
use Rattle.coverage.proofs.Runs.{step_kept}
use Rattle.coverage.proofs.ExampleTuples.{final_tuple, wide_tuple}
use Rattle.coverage.proofs.SmallIndex.{no_rows, one_row, place, no_tuples, placed_others, differ, Small, index_of, at_statement, put_at, set_at, drop_at}
use Rattle.coverage.proofs.SmallIndex.{turned, inserts, free, locks_these, nobody, reads, puts, sets, drops}
use Rattle.coverage.proofs.Opening.{stopped_kept}
use Rattle.coverage.proofs.RangeSummarised.{idle}
use Rattle.coverage.proofs.MapGrown.{moved_place, page_flagged, flagged_kept, none_regular, lowest}

-- the state after the stop: nobody is at work, and the page is still flagged
abbrev cut_off : Small
cut_off = record page_flagged { statement = Idle; held = None }

named_there : (x : Spot) (t : IndexTuple) → cut_off.tuple x ≡ Some t → cut_off.entry t.range ≡ Some x
named_there x t there = ⊎_elim
    (λ (is : x ≡ place). ap (λ (u : IndexTuple). cut_off.entry u.range) (same_Some _ _ (sym there ∙ ap cut_off.tuple is)) ∙ ap Some (sym is))
    (λ (e : cut_off.tuple x ≡ None). absurd (none-some _ (sym e ∙ there)))
    (placed_others place (Some final_tuple) no_tuples x)

cuts_off : Stops (index_of no_rows page_flagged) (index_of no_rows cut_off)
cuts_off = record {
  rest = record { idle = λ n. sym (idle n); unlocked = λ p. refl; free = refl; unnamed_tuples = λ x is. absurd (false≢true is) };
  contents = refl;
  pages_per_range = refl;
  blocks = omega arith;
  row = λ b k. refl;
  map = record { entry = λ m. refl };
  tuples = λ x. inl refl;
  pages = inl refl;
  unnamed = λ x t there. inl (named_there x t there);
  counts = λ t is. is;
  running = λ s b k r on_index is. refl;
}

cut_kept : IsIndexKept (index_of no_rows cut_off)
cut_kept = stopped_kept (index_of no_rows page_flagged) (index_of no_rows cut_off) flagged_kept cuts_off

-- the insert of this row, in this state on the index
abbrev insert : Row → OnIndex → Statement
insert r on_index = Inserting 0 0 r on_index

-- the states of the run, each named for the step that led to it
abbrev row_comes : Row → Small
row_comes r = at_statement (insert r Empty) cut_off

abbrev entry_read : Row → Small
entry_read r = at_statement (insert r (Held place)) (row_comes r)

abbrev tuple_copied : Row → Small
tuple_copied r = at_statement (insert r (Copied place final_tuple wide_tuple)) (entry_read r)

abbrev copy_put : Row → Small
copy_put r = at_statement (insert r (Moving place moved_place final_tuple wide_tuple)) (put_at moved_place wide_tuple (2 ∷ 3 ∷ 1 ∷ []) (tuple_copied r))

abbrev entry_set : Row → Small
entry_set r = at_statement (insert r (Dropping place)) (set_at 0 moved_place (2 ∷ 3 ∷ 1 ∷ []) (copy_put r))

abbrev old_dropped : Row → Small
old_dropped r = at_statement Idle (drop_at place (entry_set r))

abbrev pub row_put : Row → IndexState
row_put r = index_of (one_row r) (row_comes r)

abbrev pub tuple_moved : Row → IndexState
tuple_moved r = index_of (one_row r) (old_dropped r)

row_others : (r : Row) (c j : ℕ) → ((c ≡ 0) × (j ≡ 0)) ⊎ (one_row r c j ≡ None)
row_others r zero zero = inl (refl, refl)
row_others r zero (suc j) = inr refl
row_others r (suc c) j = inr refl

put_row : (r : Row) → Step 0 (index_of no_rows cut_off) (row_put r)
put_row r = PutRow 0 0 r (record { was = refl; now = refl; others = (turned (one_row r) cut_off (row_comes r) Idle (insert r Empty) refl refl).others })
    (record {
      row = record { was = refl; now = refl; others = row_others r; pages_per_range = refl; grown = omega arith; below = omega arith };
      pages = refl;
      frame = record {
        heap = tt;
        map = record { entry = λ m. refl };
        tuples = record { tuple = λ x. refl };
        unnamed_tuples = record { unnamed = λ x. refl };
        summarise_lock = refl;
        locks = record { others = λ p n is other. absurd (none-some _ is); taken = λ p n is other. absurd (none-some _ is) };
        contents = refl;
      };
      none = nobody [] refl;
    })
    (record { counts = λ t. refl })

pub put_kept : (r : Row) → IsIndexKept (row_put r)
put_kept r = step_kept 0 (index_of no_rows cut_off) (row_put r) cut_kept (put_row r)

maps : (r : Row) → Step 0 (row_put r) (index_of (one_row r) (entry_read r))
maps r = inserts (one_row r) (row_comes r) (entry_read r) 0 0 r Empty (insert r (Held place)) refl refl
    (InsertOnIndex Empty (Held place) (Maps place refl (reads (one_row r) (row_comes r) (insert r (Held place)) refl)))

lengths_differ : final_tuple ≡ wide_tuple → ⊥
lengths_differ is = differ 8 9 (ap (λ (t : IndexTuple). length t.bytes) is) (omega arith)

copies : (r : Row) → Step 0 (index_of (one_row r) (entry_read r)) (index_of (one_row r) (tuple_copied r))
copies r = inserts (one_row r) (entry_read r) (tuple_copied r) 0 0 r (Held place) (insert r (Copied place final_tuple wide_tuple)) refl refl
    (InsertCopies place final_tuple wide_tuple (refl, refl) refl (inl (λ is. lengths_differ (sym is)))
    (reads (one_row r) (entry_read r) (insert r (Copied place final_tuple wide_tuple)) refl))

move_put : (r : Row) → Step 0 (index_of (one_row r) (tuple_copied r)) (index_of (one_row r) (copy_put r))
move_put r =
    let moving = Moving place moved_place final_tuple wide_tuple in
    inserts (one_row r) (tuple_copied r) (copy_put r) 0 0 r (Copied place final_tuple wide_tuple) (insert r moving) refl refl
    (InsertOnIndex (Copied place final_tuple wide_tuple) moving
    (MovePut place moved_place final_tuple wide_tuple
    (SwapMoves _ (free (one_row r) (tuple_copied r) 2) refl (inl (none_regular 2))
    (PutGoes moved_place ((OnNew (λ q has. none_regular q has.1) (refl, lowest) (omega arith)), (refl, λ q none. omega arith))
    (free (one_row r) (tuple_copied r) 3) (free (one_row r) (tuple_copied r) 1)))
    (puts (one_row r) (tuple_copied r) moved_place wide_tuple (2 ∷ 3 ∷ 1 ∷ []) (insert r moving) refl)
    (locks_these (one_row r) (copy_put r))))

move_set : (r : Row) → Step 0 (index_of (one_row r) (copy_put r)) (index_of (one_row r) (entry_set r))
move_set r = inserts (one_row r) (copy_put r) (entry_set r) 0 0 r (Moving place moved_place final_tuple wide_tuple) (insert r (Dropping place)) refl refl
    (InsertSet place moved_place final_tuple wide_tuple (sets (one_row r) (copy_put r) 0 moved_place (2 ∷ 3 ∷ 1 ∷ []) (insert r (Dropping place)))
    (record { lock = λ p. refl }))

old_drop : (r : Row) → Step 0 (index_of (one_row r) (entry_set r)) (tuple_moved r)
old_drop r = inserts (one_row r) (entry_set r) (old_dropped r) 0 0 r (Dropping place) Idle refl refl
    (InsertDrop place (drops (one_row r) (entry_set r) place Idle))

pub moved_run : (r : Row) → Run (0 ∷ 0 ∷ 0 ∷ 0 ∷ 0 ∷ []) (row_put r) (tuple_moved r)
moved_run r = Next 0 _ _ _ _ (maps r) (Next 0 _ _ _ _ (copies r) (Next 0 _ _ _ _ (move_put r) (Next 0 _ _ _ _ (move_set r)
    (Next 0 _ _ _ _ (old_drop r) (Done (tuple_moved r))))))

pub blocks_differ : place.block ≡ moved_place.block → ⊥
blocks_differ is = differ 2 3 is (omega arith)

pub places_differ : place ≡ moved_place → ⊥
places_differ is = blocks_differ (ap (λ (x : Spot). x.block) is)
