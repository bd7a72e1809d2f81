-- A run that takes a range of a new index to its final tuple: the steps, one after the other.
use Rattle.std.proofs.Common.{◌≡◌, ℕ, ◌<◌, ◌≤◌, Some, None, false, [], ◌∷◌, sym, ap, subst, arith, zero, suc}
use Rattle.std.specs.Prelude.{refl}
use Rattle.coverage.specs.IndexView.{ExtentUnread, Passing, Unstarted, Mapping, Regular}
use Rattle.coverage.specs.Statements.{Empty, Held, Copied, NotBuilding, Vacant, Placing, IsAt, Idle, Maintaining, Holding}
use Rattle.coverage.specs.Verdicts.{OnNew, PutGoes, SwapFits}
use Rattle.coverage.specs.PageOrder.{AreNewPages}
use Rattle.coverage.specs.IsCovered.{IndexState, new_index, IsIndexKept}
use Rattle.coverage.specs.Steps.{Step, TakeSummariseLock, BeginRange, GiveSummariseLock, ReadNoEntry, Put, Set, Extent, Pass, Unite, UniteCopies, SwapFinal}
use Rattle.coverage.specs.Steps.{Maps, Run, Done, Next}
use Rattle.coverage.proofs.Opening.{new_kept}
use Rattle.coverage.proofs.Runs.{run_kept}
use Rattle.coverage.proofs.ExampleTuples.{contents, lawful, empty_tuple, final_tuple}
use Rattle.coverage.proofs.SmallIndex.{no_rows, no_tuples, place, one_tuple, new_kind, pages, kind_number, differ, Small, statement_at, index_of, at_statement}
use Rattle.coverage.proofs.SmallIndex.{put_at, set_at, held_by, placed_again, turned, summarises, free, locks_these, nobody, reads, puts, sets, replaces}
use Rattle.coverage.proofs.SmallIndex.{passes}

-- the states of the run, each named for the step that led to it
abbrev new : Small
new = record { entry = λ m. None; tuple = no_tuples; pages = pages new_kind; locks = []; held = None; statement = Idle }

abbrev lock_taken : Small
lock_taken = held_by (Some 0) Holding new

abbrev range_begun : Small
range_begun = at_statement (Maintaining 0 (NotBuilding Empty)) lock_taken

abbrev entry_missing : Small
entry_missing = at_statement (Maintaining 0 Vacant) range_begun

abbrev placeholder_put : Small
placeholder_put = at_statement (Maintaining 0 (Placing place)) (put_at place empty_tuple (2 ∷ 1 ∷ []) entry_missing)

abbrev placeholder_named : Small
placeholder_named = at_statement (Maintaining 0 (IsAt ExtentUnread Empty)) (set_at 0 place [] placeholder_put)

abbrev extent_read : Small
extent_read = at_statement (Maintaining 0 (IsAt (Passing 1 0 empty_tuple) Empty)) placeholder_named

abbrev block_passed : Small
block_passed = at_statement (Maintaining 0 (IsAt (Passing 1 1 empty_tuple) Empty)) extent_read

abbrev placeholder_read : Small
placeholder_read = at_statement (Maintaining 0 (IsAt (Passing 1 1 empty_tuple) (Held place))) block_passed

abbrev result_copied : Small
result_copied = at_statement (Maintaining 0 (IsAt (Passing 1 1 empty_tuple) (Copied place empty_tuple final_tuple))) placeholder_read

abbrev final_swapped : Small
final_swapped = at_statement Holding (record result_copied { tuple = one_tuple (Some final_tuple) })

abbrev pub summarised : Small
summarised = held_by None Idle final_swapped

abbrev pub range_done : IndexState
range_done = index_of no_rows summarised

abbrev pub new_state : IndexState
new_state = index_of no_rows new

one : Step 0 new_state (index_of no_rows lock_taken)
one = TakeSummariseLock (turned no_rows new lock_taken Idle Holding refl refl) (passes no_rows new None (Some 0) Holding refl refl) (record { counts = λ t. refl })

two : Step 0 (index_of no_rows lock_taken) (index_of no_rows range_begun)
two = BeginRange 0 (turned no_rows lock_taken range_begun Holding (Maintaining 0 (NotBuilding Empty)) refl refl)
    (reads no_rows lock_taken (Maintaining 0 (NotBuilding Empty)) refl) (record { counts = λ t. refl })

three : Step 0 (index_of no_rows range_begun) (index_of no_rows entry_missing)
three = summarises no_rows range_begun entry_missing 0 (NotBuilding Empty) (Maintaining 0 Vacant) refl refl
    (ReadNoEntry refl (omega arith, omega arith) (reads no_rows range_begun (Maintaining 0 Vacant) refl))

-- no page is one of tuples yet
none_regular : (q : ℕ) → new_kind q ≡ Regular → ⊥
none_regular zero is = differ 1 2 (ap kind_number is) (omega arith)
none_regular (suc zero) is = differ 1 2 (ap kind_number is) (omega arith)
none_regular (suc (suc q)) is = differ 0 2 (ap kind_number is) (omega arith)

lowest : (q : ℕ) → new_kind q ≡ Unstarted → 2 ≤ q
lowest zero is = absurd (differ 0 1 (sym (ap kind_number is)) (omega arith))
lowest (suc zero) is = absurd (differ 0 1 (sym (ap kind_number is)) (omega arith))
lowest (suc (suc q)) is = omega arith

four : Step 0 (index_of no_rows entry_missing) (index_of no_rows placeholder_put)
four = summarises no_rows entry_missing placeholder_put 0 Vacant (Maintaining 0 (Placing place)) refl refl
    (Put place empty_tuple refl (λ past. absurd (omega arith))
    (PutGoes place ((OnNew (λ q has. none_regular q has.1) (refl, lowest) (omega arith)), (refl, λ q none. omega arith))
    (free no_rows entry_missing 2) (free no_rows entry_missing 1))
    (puts no_rows entry_missing place empty_tuple (2 ∷ 1 ∷ []) (Maintaining 0 (Placing place)) refl)
    (locks_these no_rows placeholder_put))

five : Step 0 (index_of no_rows placeholder_put) (index_of no_rows placeholder_named)
five = summarises no_rows placeholder_put placeholder_named 0 (Placing place) (Maintaining 0 (IsAt ExtentUnread Empty)) refl refl
    (Set place (sets no_rows placeholder_put 0 place [] (Maintaining 0 (IsAt ExtentUnread Empty))) (nobody [] refl))

six : Step 0 (index_of no_rows placeholder_named) (index_of no_rows extent_read)
six = summarises no_rows placeholder_named extent_read 0 (IsAt ExtentUnread Empty) (Maintaining 0 (IsAt (Passing 1 0 empty_tuple) Empty)) refl refl
    (Extent 1 empty_tuple refl refl (reads no_rows placeholder_named (Maintaining 0 (IsAt (Passing 1 0 empty_tuple) Empty)) refl))

seven : Step 0 (index_of no_rows extent_read) (index_of no_rows block_passed)
seven = summarises no_rows extent_read block_passed 0 (IsAt (Passing 1 0 empty_tuple) Empty) (Maintaining 0 (IsAt (Passing 1 1 empty_tuple) Empty)) refl refl
    (Pass 1 0 0 empty_tuple empty_tuple (omega arith) (λ k le. refl) refl
    (reads no_rows extent_read (Maintaining 0 (IsAt (Passing 1 1 empty_tuple) Empty)) refl))

eight : Step 0 (index_of no_rows block_passed) (index_of no_rows placeholder_read)
eight = summarises no_rows block_passed placeholder_read 0 (IsAt (Passing 1 1 empty_tuple) Empty)
    (Maintaining 0 (IsAt (Passing 1 1 empty_tuple) (Held place))) refl refl
    (Unite 1 1 empty_tuple Empty (Held place) (omega arith)
    (Maps place refl (reads no_rows block_passed (Maintaining 0 (IsAt (Passing 1 1 empty_tuple) (Held place))) refl)))

nine : Step 0 (index_of no_rows placeholder_read) (index_of no_rows result_copied)
nine = summarises no_rows placeholder_read result_copied 0 (IsAt (Passing 1 1 empty_tuple) (Held place))
    (Maintaining 0 (IsAt (Passing 1 1 empty_tuple) (Copied place empty_tuple final_tuple))) refl refl
    (UniteCopies 1 1 empty_tuple place empty_tuple final_tuple (omega arith) (refl, refl) refl
    (reads no_rows placeholder_read (Maintaining 0 (IsAt (Passing 1 1 empty_tuple) (Copied place empty_tuple final_tuple))) refl))

ten : Step 0 (index_of no_rows result_copied) (index_of no_rows final_swapped)
ten = summarises no_rows result_copied final_swapped 0 (IsAt (Passing 1 1 empty_tuple) (Copied place empty_tuple final_tuple)) Holding refl refl
    (SwapFinal (Passing 1 1 empty_tuple) place empty_tuple final_tuple (SwapFits (free no_rows result_copied 2) refl refl (omega arith))
    (replaces no_rows result_copied place empty_tuple final_tuple (one_tuple (Some final_tuple)) Holding
    (record { was = refl; now = refl; others = placed_again place (Some final_tuple) (Some empty_tuple) no_tuples }) refl refl))

eleven : Step 0 (index_of no_rows final_swapped) range_done
eleven = GiveSummariseLock (turned no_rows final_swapped summarised Holding Idle refl refl) (passes no_rows final_swapped (Some 0) None Idle refl refl)
    (record { counts = λ t. refl })

pub new_pages : AreNewPages (pages new_kind)
new_pages = record { one = refl; map = map; rest = rest; below = omega arith }
  where
    map : (p : ℕ) → p < 2 → new_kind p ≡ Mapping
    map zero low = refl
    map (suc zero) low = refl
    map (suc (suc p)) low = absurd (omega arith)

    rest : (p : ℕ) → 2 ≤ p → new_kind p ≡ Unstarted
    rest zero high = absurd (omega arith)
    rest (suc zero) high = absurd (omega arith)
    rest (suc (suc p)) high = refl

abbrev empty_index : IndexState
empty_index = new_index contents 1 1021 (pages new_kind) (λ t. false)

pub idle : (n : ℕ) → Idle ≡ statement_at Idle n
idle zero = refl
idle (suc n) = refl

-- the index of a new table is the first state
is_new : empty_index ≡ new_state
is_new = λ i. record empty_index { statement = λ n. idle n i }

pub first_kept : IsIndexKept new_state
first_kept = subst IsIndexKept is_new (new_kept contents 1 1021 (pages new_kind) (λ t. false) lawful (omega arith) new_pages)

pub range_run : Run (0 ∷ 0 ∷ 0 ∷ 0 ∷ 0 ∷ 0 ∷ 0 ∷ 0 ∷ 0 ∷ 0 ∷ 0 ∷ []) new_state range_done
range_run = Next 0 _ _ _ _ one (Next 0 _ _ _ _ two (Next 0 _ _ _ _ three (Next 0 _ _ _ _ four (Next 0 _ _ _ _ five (Next 0 _ _ _ _ six (Next 0 _ _ _ _ seven
    (Next 0 _ _ _ _ eight (Next 0 _ _ _ _ nine (Next 0 _ _ _ _ ten (Next 0 _ _ _ _ eleven (Done range_done)))))))))))

pub summarised_kept : IsIndexKept range_done
summarised_kept = run_kept _ new_state range_done first_kept range_run
