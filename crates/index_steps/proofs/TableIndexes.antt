-- the indexes of a table that pages and locks show, by their places among the table's
use Rattle.std.proofs.Common.{◌≡◌, ◌≢◌, ℕ, zero, suc, ◌+◌, ◌/◌, ◌≤◌, ◌==◌, Bool, true, false, cond, List, [], ◌∷◌, Option, Some, refl, sym, ap, subst, ◌∙◌, arith}
use Rattle.std.specs.Prelude.{slice_get}
use Rattle.std.proofs.lemmas.Option.{none-some, same_Some}
use Rattle.block_model.specs.declared.place.Spot.{Spot}
use Rattle.block_model.specs.declared.row.Row.{Row}
use Rattle.block_model.specs.declared.schema.Index.{Index as AnIndex}
use Rattle.store_layout.specs.DiskLayout.{DiskLayout}
use Rattle.page_map.specs.PageMap.{PageMap}
use Rattle.page_locks.specs.LockHolders.{LockState}
use Rattle.coverage.specs.IndexView.{IndexView, range_of_block}
use Rattle.coverage.specs.Statements.{building_of, loose_of}
use Rattle.coverage.specs.Machines.{Unseen, table_state}
use Rattle.coverage.specs.Table.{Index, TableState, index_view_at, seen_by}
use Rattle.index_contents.specs.IndexContents.{contents}
use Rattle.index_steps.specs.IndexTuples.{contents_of, index_at, shape_of}
use Rattle.index_steps.specs.ShownIndex.{Shows, lock_in, tuple_in_place}
use Rattle.index_steps.specs.ShownTable.{indexes_of, numbers_from, shown_at, shown_table}

-- the numbers of a table's indexes ascend, so no two are one
at_least : (table n : ℕ) (l : List AnIndex) (i m : ℕ) → slice_get (numbers_from table n l) i ≡ Some m → n ≤ m
at_least table n [] i m is = absurd (none-some m is)
at_least table n (index ∷ more) i m is = by_test (λ j later. at_least table (n + 1) more j m later) (index.table == table) i is
  where
    by_test : ((j : ℕ) → slice_get (numbers_from table (n + 1) more) j ≡ Some m → n + 1 ≤ m) → (b : Bool) (i : ℕ) → slice_get (cond b (n ∷ numbers_from table (n + 1) more) (numbers_from table (n + 1) more)) i ≡ Some m → n ≤ m
    by_test later true zero is = omega (arith, same_Some n m is)
    by_test later true (suc i) is = omega (arith, later i is)
    by_test later false i is = omega (arith, later i is)

one_place : (table n : ℕ) (l : List AnIndex) (i j m : ℕ) → slice_get (numbers_from table n l) i ≡ Some m → slice_get (numbers_from table n l) j ≡ Some m → i ≡ j
one_place table n [] i j m is is_too = absurd (none-some m is)
one_place table n (index ∷ more) i j m is is_too = by_test (λ x y one two. one_place table (n + 1) more x y m one two) (index.table == table) i j is is_too
  where
    by_test : ((x y : ℕ) → slice_get (numbers_from table (n + 1) more) x ≡ Some m → slice_get (numbers_from table (n + 1) more) y ≡ Some m → x ≡ y) → (b : Bool) (i j : ℕ) → slice_get (cond b (n ∷ numbers_from table (n + 1) more) (numbers_from table (n + 1) more)) i ≡ Some m
        → slice_get (cond b (n ∷ numbers_from table (n + 1) more) (numbers_from table (n + 1) more)) j ≡ Some m → i ≡ j
    by_test later true zero zero one two = refl
    by_test later true zero (suc j) one two = absurd (omega (arith, same_Some n m one, at_least table (n + 1) more j m two))
    by_test later true (suc i) zero one two = absurd (omega (arith, same_Some n m two, at_least table (n + 1) more i m one))
    by_test later true (suc i) (suc j) one two = ap suc (later i j one two)
    by_test later false i j one two = later i j one two

pub apart_numbers : (layout : DiskLayout) (table i at n m : ℕ) → i ≢ at → slice_get (indexes_of layout table) i ≡ Some m → slice_get (indexes_of layout table) at ≡ Some n → m ≢ n
unfolding indexes_of
apart_numbers layout table i at n m apart is there same = apart (one_place table 0 layout.schema.indexes i at m is (there ∙ ap Some (sym same)))

-- an index of the table, as the pages and locks show it, by its number if it is there
abbrev pub shown_one : DiskLayout → PageMap → LockState → (Spot → Bool) → Option ℕ → Index
shown_one layout pages locks unnamed o = record {
  contents = (shown_at layout pages locks o).contents;
  pages_per_range = (shown_at layout pages locks o).pages_per_range;
  autosummarize = (shown_at layout pages locks o).autosummarize;
  entry = (shown_at layout pages locks o).entry;
  tuple = (shown_at layout pages locks o).tuple;
  pages = (shown_at layout pages locks o).pages;
  lock = (shown_at layout pages locks o).lock;
  unnamed = unnamed;
}

-- it is the same where its pages and locks are
pub same_one : (layout : DiskLayout) (pages paged : PageMap) (locks locked : LockState) (unnamed : Spot → Bool) (m : ℕ) → contents layout paged m ≡ contents layout pages m → ((page : ℕ) → lock_in layout locked m page ≡ lock_in layout locks m page)
    → shown_one layout pages locks unnamed (Some m) ≡ shown_one layout paged locked unnamed (Some m)
same_one layout pages paged locks locked unnamed m same held = λ j. record {
  contents = contents_of (shape_of layout m);
  pages_per_range = (index_at layout m).pages_per_range;
  autosummarize = (index_at layout m).auto;
  entry = (sym same j).entry;
  tuple = tuple_in_place (shape_of layout m) (sym same j);
  pages = (sym same j).pages;
  lock = λ page. sym (held page) j;
  unnamed = unnamed;
}

-- the index at a place, as the table shows it
module _ (layout : DiskLayout) (pages : PageMap) (locks : LockState) (table rows_per_page blocks : ℕ) (row : ℕ → ℕ → Option Row) (at n : ℕ) (there : slice_get (indexes_of layout table) at ≡ Some n) (u : Unseen) where
  abbrev w : TableState
  w = table_state (shown_table layout pages locks table rows_per_page blocks row) u

  abbrev view_of : Option ℕ → IndexView
  view_of o = record {
    contents = (shown_at layout pages locks o).contents;
    pages_per_range = (shown_at layout pages locks o).pages_per_range;
    blocks = blocks;
    row = row;
    entry = (shown_at layout pages locks o).entry;
    tuple = (shown_at layout pages locks o).tuple;
    pages = (shown_at layout pages locks o).pages;
    lock = (shown_at layout pages locks o).lock;
    summarise_lock = u.summarise_lock;
    building = λ m. building_of (seen_by at (u.task m));
    loose = λ m. loose_of (seen_by at (u.task m));
    unnamed = u.unnamed at;
  }

  pub shows_here : Shows (shape_of layout n) (contents layout pages n) (lock_in layout locks n) (index_view_at at w)
  shows_here = subst (λ (o : Option ℕ). Shows (shape_of layout n) (contents layout pages n) (lock_in layout locks n) (view_of o)) (sym there)
      (record { contents = refl; entry = λ range. refl; tuple = λ x. refl; pages = refl; lock = λ page. refl })

  pub ranged : (b : ℕ) → range_of_block (index_view_at at w) b ≡ b / (index_at layout n).pages_per_range
  ranged b = ap (λ (o : Option ℕ). b / (shown_at layout pages locks o).pages_per_range) there

  pub each_here : (w.index at).pages_per_range ≡ (index_at layout n).pages_per_range
  each_here = ap (λ (o : Option ℕ). (shown_at layout pages locks o).pages_per_range) there
