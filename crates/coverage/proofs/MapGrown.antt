-- A run in which the map grows by a page on which a tuple stands: it is flagged, the tuple moves, the page is turned and counted; then
-- the placeholder is put and named for which the map was too short.
use Rattle.std.proofs.Common.{◌≡◌, ⊎_elim, ℕ, ◌≤◌, Some, None, true, false, [], ◌∷◌, sym, ◌∙◌, ap, arith, zero, suc}
use Rattle.std.specs.Prelude.{refl, List}
use Rattle.std.specs.Option.{option_map}
use Rattle.std.proofs.lemmas.Option.{none-some}
use Rattle.block_model.specs.declared.place.Spot.{Spot}
use Rattle.coverage.specs.IndexView.{IndexTuple, ExtentUnread, Unstarted, Mapping, Regular, Emptying, IsPastMap, NamesPlaceholder}
use Rattle.coverage.specs.Statements.{Empty, Moving, Dropping, Phase, NotBuilding, Vacant, Growing, Evacuating, Placing, IsAt, Idle, Maintaining, Holding}
use Rattle.coverage.specs.Verdicts.{OnNew, OnStarted, PutGoes}
use Rattle.coverage.specs.IsCovered.{IndexState, IsIndexKept}
use Rattle.coverage.specs.Waiting.{Grows}
use Rattle.coverage.specs.Steps.{Step, TakeSummariseLock, BeginRange, GrowthStep, ReadNoEntry, GrowMap, Put, Set, Count, Flag, EvacuatePut, EvacuateSet}
use Rattle.coverage.specs.Steps.{EvacuateDrop, Turn, Run, Done, Next}
use Rattle.coverage.proofs.ExampleTuples.{tuple_of, final_tuple}
use Rattle.coverage.proofs.SmallIndex.{at_here, at_number, no_rows, placed_others, no_tuples, place, kind_number, differ, Small, index_of, view, at_statement}
use Rattle.coverage.proofs.SmallIndex.{put_at, set_at, drop_at, kind_at, count_at, held_by, turned, summarises, free, locks_these, nobody, reads, puts, sets}
use Rattle.coverage.proofs.SmallIndex.{drops, turns_kind, counts_page, passes}
use Rattle.index_layout.specs.IndexPages.{taken}
use Rattle.index_layout.specs.IndexReading.{free_slot_of}
use Rattle.index_layout.specs.IndexWrites.{before, room_for_further, trimmed}
use Rattle.coverage.specs.Rooms.{bytes_of, first_slots, page_room}
use Rattle.coverage.proofs.PageRooms.{no_slots}
use Rattle.coverage.proofs.Runs.{run_kept}
use Rattle.coverage.proofs.RangeSummarised.{summarised, summarised_kept, range_done}

abbrev pub moved_place : Spot
moved_place = record { block = 3; slot = 0 }

abbrev pub new_place : Spot
new_place = record { block = 3; slot = 1 }

abbrev pub new_tuple : IndexTuple
new_tuple = tuple_of 1020 true false

abbrev at_last : Phase → Small → Small
at_last phase w = at_statement (Maintaining 1020 phase) w

-- the states of the run, each named for the step that led to it
abbrev lock_taken : Small
lock_taken = held_by (Some 0) Holding summarised

abbrev range_begun : Small
range_begun = at_last (NotBuilding Empty) lock_taken

abbrev entry_missing : Small
entry_missing = at_last Vacant range_begun

abbrev pub page_flagged : Small
page_flagged = at_last Vacant (kind_at Emptying [] entry_missing)

abbrev copy_put : Small
copy_put = at_last (Evacuating 0 (Moving place moved_place final_tuple final_tuple)) (put_at moved_place final_tuple (2 ∷ 3 ∷ 1 ∷ []) page_flagged)

abbrev entry_set : Small
entry_set = at_last (Evacuating 0 (Dropping place)) (set_at 0 moved_place (2 ∷ 3 ∷ 1 ∷ []) copy_put)

abbrev old_dropped : Small
old_dropped = at_last Vacant (drop_at place entry_set)

abbrev page_turned : Small
page_turned = at_last Growing (kind_at Mapping (2 ∷ 0 ∷ []) old_dropped)

abbrev page_counted : Small
page_counted = at_last Vacant (count_at page_turned)

abbrev placeholder_put : Small
placeholder_put = at_last (Placing new_place) (put_at new_place new_tuple (3 ∷ 2 ∷ []) page_counted)

abbrev placeholder_named : Small
placeholder_named = at_last (IsAt ExtentUnread Empty) (set_at 1020 new_place [] placeholder_put)

abbrev pub map_grown : IndexState
map_grown = index_of no_rows placeholder_named

grows : (w v : Small) (old new : Phase) → w.statement ≡ Maintaining 1020 old → v.statement ≡ Maintaining 1020 new
    → GrowthStep 0 1020 (view no_rows w) (view no_rows v) old new → Step 0 (index_of no_rows w) (index_of no_rows v)
grows w v old new was now step = summarises no_rows w v 1020 old (Maintaining 1020 new) was now (GrowMap old new step)

takes : Step 0 range_done (index_of no_rows lock_taken)
takes = TakeSummariseLock (turned no_rows summarised lock_taken Idle Holding refl refl) (passes no_rows summarised None (Some 0) Holding refl refl)
    (record { counts = λ t. refl })

begins : Step 0 (index_of no_rows lock_taken) (index_of no_rows range_begun)
begins = BeginRange 1020 (turned no_rows lock_taken range_begun Holding (Maintaining 1020 (NotBuilding Empty)) refl refl)
    (reads no_rows lock_taken (Maintaining 1020 (NotBuilding Empty)) refl) (record { counts = λ t. refl })

looks : Step 0 (index_of no_rows range_begun) (index_of no_rows entry_missing)
looks = summarises no_rows range_begun entry_missing 1020 (NotBuilding Empty) (Maintaining 1020 Vacant) refl refl
    (ReadNoEntry refl (omega arith, omega arith) (reads no_rows range_begun (Maintaining 1020 Vacant) refl))

flags : Step 0 (index_of no_rows entry_missing) (index_of no_rows page_flagged)
flags = grows entry_missing page_flagged Vacant Vacant refl refl
    (Flag (record { short = omega arith; below = omega arith; is = refl }) (free no_rows entry_missing 2)
    (turns_kind no_rows entry_missing Emptying [] (Maintaining 1020 Vacant)))

-- no page takes tuples while that one is flagged
pub none_regular : (q : ℕ) → page_flagged.pages.kind q ≡ Regular → ⊥
none_regular zero is = differ 1 2 (ap kind_number is) (omega arith)
none_regular (suc zero) is = differ 1 2 (ap kind_number is) (omega arith)
none_regular (suc (suc zero)) is = differ 2 3 (sym (ap kind_number is)) (omega arith)
none_regular (suc (suc (suc q))) is = differ 0 2 (ap kind_number is) (omega arith)

pub flagged_kept : IsIndexKept (index_of no_rows page_flagged)
flagged_kept = run_kept (0 ∷ 0 ∷ 0 ∷ 0 ∷ []) range_done (index_of no_rows page_flagged) summarised_kept
    (Next 0 _ _ _ _ takes (Next 0 _ _ _ _ begins (Next 0 _ _ _ _ looks (Next 0 _ _ _ _ flags (Done _)))))

pub lowest : (q : ℕ) → page_flagged.pages.kind q ≡ Unstarted → 3 ≤ q
lowest zero is = absurd (differ 0 1 (sym (ap kind_number is)) (omega arith))
lowest (suc zero) is = absurd (differ 0 1 (sym (ap kind_number is)) (omega arith))
lowest (suc (suc zero)) is = absurd (differ 0 3 (sym (ap kind_number is)) (omega arith))
lowest (suc (suc (suc q))) is = omega arith

emptying : Grows (view no_rows page_flagged).pages 1020 Emptying
emptying = record { short = omega arith; below = omega arith; is = refl }

copies : Step 0 (index_of no_rows page_flagged) (index_of no_rows copy_put)
copies =
    let moving = Evacuating 0 (Moving place moved_place final_tuple final_tuple) in
    grows page_flagged copy_put Vacant moving refl refl
    (EvacuatePut place moved_place final_tuple emptying (record { on = refl; stands = refl; first = λ y u on here. omega arith }) refl
    (free no_rows page_flagged 2)
    (PutGoes moved_place ((OnNew (λ q has. none_regular q has.1) (refl, lowest) (omega arith)), (refl, λ q none. omega arith))
    (free no_rows page_flagged 3) (free no_rows page_flagged 1))
    (puts no_rows page_flagged moved_place final_tuple (2 ∷ 3 ∷ 1 ∷ []) (Maintaining 1020 moving) refl)
    (locks_these no_rows copy_put))

move_set : Step 0 (index_of no_rows copy_put) (index_of no_rows entry_set)
move_set = grows copy_put entry_set (Evacuating 0 (Moving place moved_place final_tuple final_tuple)) (Evacuating 0 (Dropping place)) refl refl
    (EvacuateSet 0 place moved_place final_tuple final_tuple
    (sets no_rows copy_put 0 moved_place (2 ∷ 3 ∷ 1 ∷ []) (Maintaining 1020 (Evacuating 0 (Dropping place)))) (record { lock = λ p. refl }))

old_drop : Step 0 (index_of no_rows entry_set) (index_of no_rows old_dropped)
old_drop = grows entry_set old_dropped (Evacuating 0 (Dropping place)) Vacant refl refl
    (EvacuateDrop 0 place (drops no_rows entry_set place (Maintaining 1020 Vacant)))

-- no tuple stands on the emptied page
emptied : (x : Spot) (t : IndexTuple) → x.block ≡ 2 → old_dropped.tuple x ≡ Some t → ⊥
emptied x t on here = ⊎_elim
    (λ (is : x ≡ place). gone is)
    (λ (e : old_dropped.tuple x ≡ copy_put.tuple x). ⊎_elim
    (λ (is : x ≡ moved_place). differ 2 3 (sym on ∙ ap (λ (y : Spot). y.block) is) (omega arith))
    (λ (d : copy_put.tuple x ≡ summarised.tuple x). ⊎_elim
    (λ (is : x ≡ place). gone is)
    (λ (c : summarised.tuple x ≡ None). none-some _ (sym c ∙ sym d ∙ sym e ∙ here))
    (placed_others place (Some final_tuple) no_tuples x))
    (placed_others moved_place (Some final_tuple) summarised.tuple x))
    (placed_others place None copy_put.tuple x)
  where
    gone : x ≡ place → ⊥
    gone is = none-some _ (sym (ap old_dropped.tuple is) ∙ here)

turns_page : Step 0 (index_of no_rows old_dropped) (index_of no_rows page_turned)
turns_page = grows old_dropped page_turned Vacant Growing refl refl
    (Turn (record { short = omega arith; below = omega arith; is = refl }) (λ x t next. emptied x t next.on next.stands)
    (free no_rows old_dropped 2) (free no_rows old_dropped 0) (turns_kind no_rows old_dropped Mapping (2 ∷ 0 ∷ []) (Maintaining 1020 Growing)))

counts : Step 0 (index_of no_rows page_turned) (index_of no_rows page_counted)
counts = grows page_turned page_counted Growing Vacant refl refl (Count (counts_page no_rows page_turned (Maintaining 1020 Vacant)))

-- the page to which the tuple was moved has it alone, and takes a further one
one_slot : (tuple : List ℕ) (n : ℕ) → room_for_further (trimmed (first_slots (λ k. option_map (λ (t : IndexTuple). t.bytes) (at_number k 0 (Some final_tuple) None)) (suc n))) ≡ 8144
unfolding trimmed first_slots taken free_slot_of
one_slot tuple n = ap (λ l. room_for_further (before (Some final_tuple.bytes) l)) (no_slots (λ k. None) n (λ k. refl))

takes_one : 8 ≤ page_room (bytes_of page_counted.tuple) 3
takes_one = let room : page_room (bytes_of page_counted.tuple) 3 ≡ 8144 = one_slot final_tuple.bytes 2039 in omega (arith, room)

next_slot : (k : ℕ) → page_counted.tuple (record { block = 3; slot = k }) ≡ None → 1 ≤ k
next_slot zero is = absurd (none-some _ (sym is))
next_slot (suc k) is = omega arith

new_put : Step 0 (index_of no_rows page_counted) (index_of no_rows placeholder_put)
new_put = summarises no_rows page_counted placeholder_put 1020 Vacant (Maintaining 1020 (Placing new_place)) refl refl
    (Put new_place new_tuple refl (λ past. absurd (omega arith))
    (PutGoes new_place (OnStarted ((omega arith, refl, takes_one), λ q has. has.0), (refl, next_slot))
    (free no_rows page_counted 3) (free no_rows page_counted 2))
    (puts no_rows page_counted new_place new_tuple (3 ∷ 2 ∷ []) (Maintaining 1020 (Placing new_place)) refl)
    (locks_these no_rows placeholder_put))

new_set : Step 0 (index_of no_rows placeholder_put) map_grown
new_set = summarises no_rows placeholder_put placeholder_named 1020 (Placing new_place) (Maintaining 1020 (IsAt ExtentUnread Empty)) refl refl
    (Set new_place (sets no_rows placeholder_put 1020 new_place [] (Maintaining 1020 (IsAt ExtentUnread Empty))) (nobody [] refl))

pub growth_run : Run (0 ∷ 0 ∷ 0 ∷ 0 ∷ 0 ∷ 0 ∷ 0 ∷ 0 ∷ 0 ∷ 0 ∷ 0 ∷ []) range_done map_grown
growth_run = Next 0 _ _ _ _ takes (Next 0 _ _ _ _ begins (Next 0 _ _ _ _ looks (Next 0 _ _ _ _ flags (Next 0 _ _ _ _ copies (Next 0 _ _ _ _ move_set
    (Next 0 _ _ _ _ old_drop (Next 0 _ _ _ _ turns_page (Next 0 _ _ _ _ counts (Next 0 _ _ _ _ new_put (Next 0 _ _ _ _ new_set (Done map_grown)))))))))))

-- the map was too short for the range's entry, and names a placeholder for it afterwards
pub was_short : IsPastMap (view no_rows summarised).pages 1020
was_short = omega arith

pub names_new : NamesPlaceholder (view no_rows placeholder_named) 1020
names_new = (new_place, new_tuple, at_here 1020 (Some new_place) (placeholder_put.entry 1020), refl, refl)
