-- A run of a vacuum over two indexes, each with a tuple that was unnamed at the opening.
use Rattle.std.proofs.Common.{◌≡◌, ◌⊎◌, inl, inr, ⊎_elim, ℕ, ◌<◌, ◌≤◌, Bool, Option, Some, None, true, false, [], ◌∷◌, sym, ◌∙◌, ap, arith, zero, suc}
use Rattle.std.specs.Prelude.{refl, ◌≢◌}
use Rattle.std.proofs.lemmas.Option.{none-some}
use Rattle.std.proofs.lemmas.Bool.{false≢true}
use Rattle.std.proofs.Math.Nat.{lt_irrefl}
use Rattle.block_model.specs.declared.row.Row.{Row}
use Rattle.block_model.specs.declared.place.Spot.{Spot}
use Rattle.coverage.specs.IndexView.{IndexTuple, Regular, Emptying, IndexView}
use Rattle.coverage.specs.Steps.{SweepsTuples, IsUnnamed}
use Rattle.coverage.specs.Statements.{Scan, Idle, Scanning}
use Rattle.coverage.specs.PageOrder.{AreOrdered}
use Rattle.coverage.specs.IsCovered.{IsCovered, IsAtRest}
use Rattle.coverage.proofs.SmallIndex.{at_number, at_both, at_spot, no_rows, one_row, grown_kind, differ, pages, place, one_tuple, no_locks}
use Rattle.coverage.proofs.SmallTable.{first_at, others_rest, table, same_rows, only_turns}
use Rattle.coverage.proofs.ExampleTuples.{contents, lawful, final_tuple}
use Rattle.coverage.proofs.RangeSummarised.{summarised_kept}
use Rattle.coverage.specs.Table.{Index, WholeRanges, Task, Resting, Considers, Prunes, SweepsFrom, Sweeps, Restarts, TableState, index_state, index_view_at}
use Rattle.coverage.specs.TableSteps.{TaskTurns, HasPut, SeesPlace, Vacuum, TakesLock, PrunesBlock, SweepsPage, RestartsIndex, HasTuples, IsFrom, Stays}
use Rattle.coverage.specs.TableSteps.{NextIndex, Pruned, ToPage, Swept, RangesDone, GoesOn, GivesLock, TableStep, TableRun, TableDone, TableNext}
use Rattle.coverage.specs.TableCovered.{IsTableKept}
use Rattle.coverage.proofs.TableOpening.{table_opened}

abbrev left_at : Bool → Spot → Bool
left_at left x = at_number x.block 2 (at_number x.slot 0 left false) false

abbrev index_with : Option IndexTuple → Bool → Index
index_with o left = record {
  contents = contents;
  pages_per_range = 2;
  autosummarize = false;
  entry = λ m. None;
  tuple = one_tuple o;
  pages = pages grown_kind;
  lock = no_locks;
  unnamed = left_at left;
}

abbrev full : Index
full = index_with (Some final_tuple) true

abbrev swept : Index
swept = index_with None false

abbrev all_full : ℕ → Index
all_full i = full

abbrev first_swept : ℕ → Index
first_swept zero = swept
first_swept (suc i) = full

abbrev both_swept : ℕ → Index
both_swept zero = swept
both_swept (suc zero) = swept
both_swept (suc (suc i)) = full

abbrev two_indexes : (ℕ → Index) → (ℕ → ℕ → Option Row) → Option ℕ → (ℕ → Task) → TableState
two_indexes index row held task = table 2 1 1 index row held task

-- the states of the run, each named for the step that led to it
abbrev pub at_rest : Row → TableState
at_rest r = two_indexes all_full (one_row r) None (λ n. Resting)

abbrev vacuum_begun : Row → TableState
vacuum_begun r = two_indexes all_full (one_row r) (Some 0) (first_at (Prunes 1 0))

abbrev block_pruned : Task → TableState
block_pruned e = two_indexes all_full no_rows (Some 0) (first_at e)

abbrev first_index_swept : Task → TableState
first_index_swept e = two_indexes first_swept no_rows (Some 0) (first_at e)

abbrev both_indexes_swept : Task → TableState
both_indexes_swept e = two_indexes both_swept no_rows (Some 0) (first_at e)

abbrev pub vacuum_ended : TableState
vacuum_ended = two_indexes both_swept no_rows None (first_at Resting)

same_place : {A : Type 0} → (d : A) (x : Spot) → at_number x.block 2 (at_number x.slot 0 d d) d ≡ d
same_place d x = ap (λ z. at_number x.block 2 z d) (at_both x.slot 0 d) ∙ at_both x.block 2 d

-- the table at rest
tuple_left : (x : Spot) (t : IndexTuple) → one_tuple (Some final_tuple) x ≡ Some t → left_at true x ≡ true
tuple_left x t here = elim (at_spot place (Some final_tuple) None x) [ inl is ↦ ap (left_at true) is | inr e ↦ absurd (none-some _ (sym e ∙ here)) ]

left_stands : (x : Spot) → left_at true x ≡ true → one_tuple (Some final_tuple) x ≡ None → ⊥
left_stands x left gone = ⊎_elim
    (λ (is : x ≡ place). none-some final_tuple (sym gone ∙ ap (one_tuple (Some final_tuple)) is))
    (λ (e : left_at true x ≡ false). absurd (false≢true (sym e ∙ left)))
    (at_spot place true false x)

idle_scan : (scan : Scan) → Idle ≡ Scanning scan → ⊥
idle_scan scan e = cc

row_below : (r : Row) (b k : ℕ) (q : Row) → one_row r b k ≡ Some q → b < 1
row_below r zero k q there = omega arith
row_below r (suc b) k q there = absurd (none-some _ there)

ordered_with : (r : Row) (i : ℕ) → AreOrdered (index_view_at i (at_rest r))
ordered_with r i = record {
  counted = summarised_kept.ordered.counted;
  map = summarised_kept.ordered.map;
  left_over = summarised_kept.ordered.left_over;
  started = summarised_kept.ordered.started;
  below = summarised_kept.ordered.below;
  tuples = summarised_kept.ordered.tuples;
  entries = λ range x named. absurd (none-some _ named);
}

index_covered : (r : Row) (i : ℕ) → IsCovered (index_state i (at_rest r))
index_covered r i = record {
  rows_settled = λ b k q there counts. absurd (false≢true counts);
  entries_name_tuples = λ range x named. absurd (none-some _ named);
  tuples_are_named = λ x t here. inr (inr (tuple_left x t here));
  one_builder_a_table = λ s n range m p q is other. absurd (none-some _ is);
  held_places_were_named = λ s range x holds. absurd holds;
  held_tuples_include = λ s scan is range x held t here of final b k q sees there lies. absurd (idle_scan scan is);
}

index_rests : (r : Row) (i : ℕ) → IsAtRest (index_state i (at_rest r))
index_rests r i = record {
  idle = λ s. refl;
  unlocked = λ p. refl;
  free = refl;
  unnamed_tuples = λ x left. record { stands = λ gone. left_stands x left gone; unnamed = λ range is. none-some _ is; apart = λ s is. none-some _ is };
}

pub vacuum_kept : (r : Row) → IsTableKept (at_rest r)
vacuum_kept r = table_opened (at_rest r)
    (record { indexes = λ i below. index_covered r i; one_builder = λ i j s n range m p q below below' is other. absurd (none-some _ is) })
    (record {
      resting = λ s. refl;
      free = refl;
      rest = λ i below. index_rests r i;
      ordered = λ i below. ordered_with r i;
      lawful = λ i below. lawful;
      ranged = λ i below. omega arith;
      rows_below = row_below r;
    })

turns_first : (f : Task) (n : ℕ) → (n ≡ 0) ⊎ (first_at f n ≡ Resting)
turns_first f zero = inl refl
turns_first f (suc n) = inr refl

turned : (index index' : ℕ → Index) (row row' : ℕ → ℕ → Option Row) (held held' : Option ℕ) (e f : Task)
    → TaskTurns 0 (two_indexes index row held (first_at e)) (two_indexes index' row' held' (first_at f)) e f
turned index index' row row' held held' e f = record { was = refl; now = refl; others = others_rest e f }

takes : (r : Row) → TableStep 0 (at_rest r) (vacuum_begun r)
takes r = record {
  between = vacuum_begun r;
  does = TakesLock (Prunes 1 0) Vacuum (record { was = refl; now = refl; others = turns_first (Prunes 1 0) }) refl refl (same_rows _ _ _ _)
      (record { index = λ i. refl });
  settles = GoesOn _ _ (Stays (Prunes 1 0) (omega arith)) (turned _ _ _ _ _ _ _ _) (only_turns _ _);
}

abbrev dropped : ℕ → ℕ → Bool
dropped b k = at_number b 0 (at_number k 0 true false) false

dropped_on : (b k : ℕ) → dropped b k ≡ true → b ≡ 0
dropped_on zero k is = refl
dropped_on (suc b) k is = absurd (false≢true is)

dropped_rows : (r : Row) (b k : ℕ) → (no_rows b k ≡ one_row r b k) ⊎ (dropped b k ≡ true)
dropped_rows r zero zero = inr refl
dropped_rows r zero (suc k) = inl refl
dropped_rows r (suc b) k = inl refl

spares : (n b k : ℕ) → n ≢ 0 → dropped b k ≡ true → (HasPut b k (first_at (Prunes 1 0) n) ⊎ SeesPlace b k (first_at (Prunes 1 0) n)) → ⊥
spares zero b k other is seen = other refl
spares (suc n) b k other is seen = ⊎_elim (λ (put : ⊥). put) (λ (sees : ⊥). sees) seen

tuple_page : (q : ℕ) → (grown_kind q ≡ Regular) ⊎ (grown_kind q ≡ Emptying) → q ≡ 2
tuple_page zero is = elim is [ inl e ↦ cc | inr e ↦ cc ]
tuple_page (suc zero) is = elim is [ inl e ↦ cc | inr e ↦ cc ]
tuple_page (suc (suc zero)) is = refl
tuple_page (suc (suc (suc q))) is = elim is [ inl e ↦ cc | inr e ↦ cc ]

first_of_all : (e : Task) (n q : ℕ) → HasTuples (block_pruned e) n q → IsFrom 0 0 n q → IsFrom 0 2 n q
first_of_all e zero q has from = inr (refl, omega (arith, tuple_page q has.1))
first_of_all e (suc n) q has from = inl (omega arith)

prunes : (r : Row) → TableStep 0 (vacuum_begun r) (block_pruned (Sweeps 0 2))
prunes r = record {
  between = block_pruned (Prunes 1 1);
  does = PrunesBlock 1 0 dropped (omega arith) spares (turned _ _ _ _ _ _ _ _) (record {
    layout = record { indexes = refl; rows_per_page = refl; heap_limit = refl };
    on = dropped_on;
    gone = λ b k is. refl;
    rows = dropped_rows r;
    blocks = refl;
    counts = λ t. refl;
    indexes = record { index = λ i. refl };
    summarise_lock = refl;
  });
  settles = GoesOn _ _ (Pruned 1 1 (Sweeps 0 2) (omega arith) (ToPage 0 0 0 2 (record {
    has = (omega arith, inl refl);
    after = inr (refl, omega arith);
    first = first_of_all (Prunes 1 1);
  }))) (turned _ _ _ _ _ _ _ _) (only_turns _ _);
}

first_others : (i : ℕ) → (i ≡ 0) ⊎ (first_swept i ≡ all_full i)
first_others zero = inl refl
first_others (suc i) = inr refl

both_others : (i : ℕ) → (i ≡ 1) ⊎ (both_swept i ≡ first_swept i)
both_others zero = inr refl
both_others (suc zero) = inl refl
both_others (suc (suc i)) = inr refl

abbrev Places : Spot → Type 0
Places x = ((one_tuple None x ≡ one_tuple (Some final_tuple) x) × (left_at false x ≡ left_at true x))
    ⊎ ((x.block ≡ 2) × ((x.block ≡ 2) × ((t : IndexTuple) × (one_tuple (Some final_tuple) x ≡ Some t) × (None ≢ Some x))))

sweep_places : (x : Spot) → Places x
sweep_places x = ⊎_elim
    (λ (is : x ≡ place). on_place is)
    (λ (e : one_tuple (Some final_tuple) x ≡ None). ⊎_elim
    (λ (is : x ≡ place). on_place is)
    (λ (d : left_at true x ≡ false). inl (same_place None x ∙ sym e, same_place false x ∙ sym d))
    (at_spot place true false x))
    (at_spot place (Some final_tuple) None x)
  where
    on_place : x ≡ place → Places x
    on_place is =
        let block : x.block ≡ 2 = ap (λ (y : Spot). y.block) is in
        inr (block, (block, (final_tuple, ap (one_tuple (Some final_tuple)) is, λ named. none-some _ named)))

-- an index with its tuple left, and without
abbrev left_view : ℕ → IndexView
left_view at = index_view_at at (two_indexes (λ i. full) no_rows (Some 0) (first_at (Sweeps at 2)))

abbrev swept_view : ℕ → IndexView
swept_view at = index_view_at at (two_indexes (λ i. swept) no_rows (Some 0) (first_at (SweepsFrom at 3)))

page_swept : (at : ℕ) → SweepsTuples 0 (left_view at) (swept_view at) 2 (λ x. (x.block ≡ 2) × IsUnnamed (left_view at) x)
page_swept at = record {
  free = λ n is. absurd (none-some _ is);
  gone = λ x is. (same_place None x, same_place false x);
  places = sweep_places;
  page = record {
    now = refl;
    kinds = λ p. inr refl;
    map_pages = refl;
    limit = refl;
  };
  frame = record {
    heap = record { pages_per_range = refl; blocks = refl; row = λ b k. refl };
    map = record { entry = λ m. refl };
    tuples = tt;
    unnamed_tuples = tt;
    summarise_lock = refl;
    locks = record { others = λ p n is other. is; taken = λ p n is other. is };
    contents = refl;
  };
  none = λ p is. none-some _ is;
}

sweep_first : TableStep 0 (block_pruned (Sweeps 0 2)) (first_index_swept (Sweeps 1 2))
sweep_first = record {
  between = first_index_swept (SweepsFrom 0 3);
  does = SweepsPage 0 2 (turned _ _ _ _ _ _ _ _)
      (record { below = omega arith; rows = same_rows _ _ _ _; others = first_others; autosummarize = refl })
      (page_swept 0);
  settles = GoesOn _ _ (ToPage 0 3 1 2 (record {
    has = (omega arith, inl refl);
    after = inl (omega arith);
    first = next_of_all;
  })) (turned _ _ _ _ _ _ _ _) (only_turns _ _);
}
  where
    next_of_all : (n q : ℕ) → HasTuples (first_index_swept (SweepsFrom 0 3)) n q → IsFrom 0 3 n q → IsFrom 1 2 n q
    next_of_all zero q has from = absurd (elim from [ inl less ↦ lt_irrefl 0 less | inr high ↦ omega (arith, tuple_page q has.1, high.1) ])
    next_of_all (suc zero) q has from = inr (refl, omega (arith, tuple_page q has.1))
    next_of_all (suc (suc n)) q has from = inl (omega arith)

sweep_second : TableStep 0 (first_index_swept (Sweeps 1 2)) (both_indexes_swept (Restarts 0))
sweep_second = record {
  between = both_indexes_swept (SweepsFrom 1 3);
  does = SweepsPage 1 2 (turned _ _ _ _ _ _ _ _)
      (record { below = omega arith; rows = same_rows _ _ _ _; others = both_others; autosummarize = refl })
      (page_swept 1);
  settles = GoesOn _ _ (Swept 1 3 none_left (omega arith)) (turned _ _ _ _ _ _ _ _) (only_turns _ _);
}
  where
    past : (m : ℕ) → suc (suc m) < 2 → ⊥
    past m less = omega arith

    none_left : (m p : ℕ) → HasTuples (both_indexes_swept (SweepsFrom 1 3)) m p → IsFrom 1 3 m p → ⊥
    none_left zero p has from = elim from [ inl less ↦ absurd (omega arith) | inr high ↦ differ 0 1 (sym high.0) (omega arith) ]
    none_left (suc zero) p has from = elim from [ inl less ↦ lt_irrefl 1 less | inr high ↦ omega (arith, tuple_page p has.1, high.1) ]
    none_left (suc (suc m)) p has from = past m has.0

no_range : 2 ≤ 1 → ⊥
no_range le = omega arith

restart_first : TableStep 0 (both_indexes_swept (Restarts 0)) (both_indexes_swept (Restarts 1))
restart_first = record {
  between = both_indexes_swept (Considers (WholeRanges 1) 0 0);
  does = RestartsIndex 0 (turned _ _ _ _ _ _ _ _) (only_turns _ _);
  settles = GoesOn _ _ (NextIndex 1 0 0 no_range (omega arith)) (turned _ _ _ _ _ _ _ _) (only_turns _ _);
}

restart_second : TableStep 0 (both_indexes_swept (Restarts 1)) vacuum_ended
restart_second = record {
  between = both_indexes_swept (Considers (WholeRanges 1) 1 0);
  does = RestartsIndex 1 (turned _ _ _ _ _ _ _ _) (only_turns _ _);
  settles = GivesLock _ (RangesDone (WholeRanges 1) 1 0 no_range refl) (turned _ _ _ _ _ _ _ _) refl (same_rows _ _ _ _)
      (record { index = λ i. refl });
}

pub vacuum_run : (r : Row) → TableRun (0 ∷ 0 ∷ 0 ∷ 0 ∷ 0 ∷ 0 ∷ []) (at_rest r) vacuum_ended
vacuum_run r = TableNext 0 _ _ _ _ (takes r) (TableNext 0 _ _ _ _ (prunes r) (TableNext 0 _ _ _ _ sweep_first (TableNext 0 _ _ _ _ sweep_second
    (TableNext 0 _ _ _ _ restart_first (TableNext 0 _ _ _ _ restart_second (TableDone vacuum_ended))))))

pub tuples_went : (r : Row) (i : ℕ) → i < 2 → (((at_rest r).index i).tuple place ≢ None) × ((vacuum_ended.index i).tuple place ≡ None)
tuples_went r zero low = ((λ is. none-some _ (sym is)), refl)
tuples_went r (suc zero) low = ((λ is. none-some _ (sym is)), refl)
tuples_went r (suc (suc i)) low = absurd (omega arith)
