-- each step of a vacuum in its table
use Rattle.std.proofs.Common.{◌≡◌, ◌≢◌, ℕ, zero, suc, ◌+◌, ◌≤◌, ◌<◌, Bool, List, length, Option, None, Some, refl, sym, ap, subst, ◌∙◌, arith}
use Rattle.std.specs.Prelude.{drop, slice_get}
use Rattle.std.proofs.lemmas.List.{length-drop}
use Rattle.std.proofs.lemmas.Option.{slice_get_within}
use Rattle.block_model.specs.declared.place.Spot.{Spot}
use Rattle.block_model.specs.declared.reply.Point.TheVariants as points
use Rattle.store_layout.specs.DiskLayout.{DiskLayout}
use Rattle.page_layout.specs.PageContents.{Slot}
use Rattle.page_locks.specs.LockHolders.{LockState}
use Rattle.page_map.specs.PageMap.{PageMap}
use Rattle.coverage.specs.Counts.{AreTuplesGone}
use Rattle.coverage.specs.IndexPart.{IndexPart, SweepMakes}
use Rattle.coverage.specs.IndexView.{Pages, Unstarted}
use Rattle.coverage.specs.PageOrder.{AreOrdered}
use Rattle.coverage.specs.InOneIndex.{DoesAt, index_with, with_index, with_unnamed}
use Rattle.coverage.specs.Machines.{ShownTable, Unseen, table_state, task_turned}
use Rattle.coverage.specs.Table.{Index, Prunes, Restarts, Resting, Sweeps, SweepsFrom, Task, TableState, index_view_at}
use Rattle.coverage.specs.TableCovered.{IsMaintenance, IsTableKept}
use Rattle.coverage.specs.TableSteps.{NothingToSweep, Onward, Pruned, Settles, Stays, Swept, ToPage}
use Rattle.index_contents.specs.IndexContents.{contents}
use Rattle.index_steps.specs.IndexTuples.{contents_of, index_at, shape_of}
use Rattle.index_steps.specs.ShownIndex.{lock_in, tuple_in_place}
use Rattle.index_steps.specs.ShownRows.{shown_by}
use Rattle.index_steps.specs.ShownTable.{indexes_of, shown_at}
use Rattle.vacuum_core.specs.declared.standing.Standing.{Standing}
use Rattle.vacuum_core.specs.declared.standing.Standing.TheVariants as standings
use Rattle.vacuum_core.specs.NextPages.{IsNextIn}
use Rattle.vacuum_core.specs.TableSteps.{held_done, lock_turned, task_done}
use Rattle.vacuum_core.specs.Vacuums.{ComesTo, ToBlock, ToPages, standing_at}
use Rattle.vacuum_core.proofs.Settling.{IsNextThere, ShowsIndexes, get_drop, next_there, replies_by, settles_by}

-- the laws that are taken up
abbrev pub SweepsLaw : Type 0
SweepsLaw = (s at page : ℕ) (w : TableState) (p : IndexPart) (count : ℕ) → at < w.indexes → w.task s ≡ Sweeps at page
    → SweepMakes s page (index_view_at at w) p → AreTuplesGone (w.index at).tuple p.tuple page count
    → DoesAt s w (with_index at p s (SweepsFrom at (suc page)) w) points.Sweep (with_unnamed count)

abbrev pub IndexHere : Type 0
IndexHere = (at s : ℕ) (p : IndexPart) (task : Task) (w : TableState) → (with_index at p s task w).index at ≡ index_with p (w.index at)

abbrev pub OtherIndexes : Type 0
OtherIndexes = (at s i : ℕ) (p : IndexPart) (task : Task) (w : TableState) → i ≢ at → (with_index at p s task w).index i ≡ w.index i

abbrev pub Ascending : Type 0
Ascending = (layout : DiskLayout) (table i j m n : ℕ) → i < j → slice_get (indexes_of layout table) i ≡ Some m → slice_get (indexes_of layout table) j ≡ Some n → m < n

-- an index of the table, as the pages and locks show it, by its number if it is there
abbrev pub shown_one : DiskLayout → PageMap → LockState → (Spot → Bool) → Option ℕ → Index
shown_one layout pages locks unnamed o = record {
  contents = (shown_at layout pages locks o).contents;
  pages_per_range = (shown_at layout pages locks o).pages_per_range;
  autosummarize = (shown_at layout pages locks o).autosummarize;
  entry = (shown_at layout pages locks o).entry;
  tuple = (shown_at layout pages locks o).tuple;
  pages = (shown_at layout pages locks o).pages;
  lock = (shown_at layout pages locks o).lock;
  unnamed = unnamed;
}

-- it is the same where its contents are
same_one : (layout : DiskLayout) (pages paged : PageMap) (locks : LockState) (unnamed : Spot → Bool) (m : ℕ) → contents layout paged m ≡ contents layout pages m → shown_one layout paged locks unnamed (Some m) ≡ shown_one layout pages locks unnamed (Some m)
same_one layout pages paged locks unnamed m same = λ j. record {
  contents = contents_of (shape_of layout m);
  pages_per_range = (index_at layout m).pages_per_range;
  autosummarize = (index_at layout m).auto;
  entry = (same j).entry;
  tuple = tuple_in_place (shape_of layout m) (same j);
  pages = (same j).pages;
  lock = lock_in layout locks m;
  unnamed = unnamed;
}

module _ (layout : DiskLayout) (pages paged : PageMap) (locks : LockState) (unnamed : Spot → Bool) (same : (index : ℕ) → contents layout paged index ≡ contents layout pages index) where
  pub same_shown : (o : Option ℕ) → shown_one layout paged locks unnamed o ≡ shown_one layout pages locks unnamed o
  same_shown None = refl
  same_shown (Some m) = same_one layout pages paged locks unnamed m (same m)

-- the session holds the summarise lock while a maintenance statement of it is in hand
pub locked_by : (s : ℕ) (shown : ShownTable) (u : Unseen) (task : Task) → IsMaintenance task → u.task s ≡ task → IsTableKept (table_state shown u) → u.summarise_lock ≡ Some s
locked_by s shown u task is at kept = (kept.summarise_lock s).1 (subst (λ (t : Task). IsMaintenance t) (sym at) is)

-- what a kept table says of the order of its indexes' pages, by the pages that were stored
module _ (layout : DiskLayout) (pages : PageMap) (locks : LockState) (table : ℕ) (blocks : List (List Slot)) (u : Unseen) (kept : IsTableKept (table_state (shown_by layout pages locks table blocks) u)) where
  abbrev w : TableState
  w = table_state (shown_by layout pages locks table blocks) u

  abbrev numbers : List ℕ
  numbers = indexes_of layout table

  pages_here : (at n : ℕ) → slice_get numbers at ≡ Some n → (w.index at).pages ≡ (contents layout pages n).pages
  pages_here at n is = ap (λ (o : Option ℕ). (shown_at layout pages locks o).pages) is

  ordered : (at n : ℕ) → slice_get numbers at ≡ Some n → AreOrdered (index_view_at at w)
  ordered at n is = (kept.indexes at (slice_get_within numbers at n is)).ordered

  started_here : (at n p q : ℕ) → slice_get numbers at ≡ Some n → p < q → (contents layout pages n).pages.kind p ≡ Unstarted → (contents layout pages n).pages.kind q ≡ Unstarted
  started_here at n p q is less unstarted =
      subst (λ (x : Pages). x.kind q ≡ Unstarted) (pages_here at n is) ((ordered at n is).started p q less (subst (λ (x : Pages). x.kind p ≡ Unstarted) (sym (pages_here at n is)) unstarted))

  below_here : (at n p : ℕ) → slice_get numbers at ≡ Some n → ((contents layout pages n).pages.kind p ≡ Unstarted → ⊥) → p < (contents layout pages n).pages.limit
  below_here at n p is started =
      subst (λ (x : Pages). p < x.limit) (pages_here at n is) ((ordered at n is).below p (λ unstarted. started (subst (λ (x : Pages). x.kind p ≡ Unstarted) (pages_here at n is) unstarted)))

  -- so it is of a table whose indexes have pages of the same kinds
  pub shows_indexes : (v : TableState) → v.indexes ≡ length numbers → ((at n p : ℕ) → slice_get numbers at ≡ Some n → (v.index at).pages.kind p ≡ (contents layout pages n).pages.kind p) → ShowsIndexes v layout pages numbers
  shows_indexes v count kinds = record { count = count; kinds = kinds; started = started_here; below = below_here }

-- where it stands next, of so many indexes, and who holds the summarise lock then
abbrev pub task_behind : (count extent : ℕ) → Standing → Task
task_behind count extent standings.Begins = Resting
task_behind count extent (standings.Prunes block) = Prunes extent block
task_behind count extent (standings.Sweeps at block) = Sweeps at block
task_behind count extent standings.Done = task_done count

abbrev pub held_behind : (s count : ℕ) → Standing → Option ℕ
held_behind s count standings.Begins = Some s
held_behind s count (standings.Prunes block) = Some s
held_behind s count (standings.Sweeps at block) = Some s
held_behind s count standings.Done = held_done s count

module _ (s : ℕ) (shown : ShownTable) (u : Unseen) (layout : DiskLayout) (stored : PageMap) (numbers : List ℕ) (count : shown.indexes ≡ length numbers)
    (shows : (task : Task) → ShowsIndexes (table_state shown (lock_turned (Some s) (task_turned s task u))) layout stored numbers) where
  abbrev there : Task → TableState
  there task = table_state shown (lock_turned (Some s) (task_turned s task u))

  -- from a page on, of an index that is there
  onward_from : (at from : ℕ) (next : Option (ℕ × ℕ)) (m : ℕ) → length numbers ≡ suc m → (task : Task) → IsNextThere (there task) at from next → Onward (there task) (SweepsFrom at from) (task_behind (length numbers) 0 (standing_at next))
  onward_from at from None m some task none =
      subst (λ (n : ℕ). Onward (there task) (SweepsFrom at from) (task_done n)) (sym some) (Swept at from none (omega (arith, count, some)))
  onward_from at from (Some next) m some task is = ToPage at from next.0 next.1 is

  held_some : (next : Option (ℕ × ℕ)) (m : ℕ) → length numbers ≡ suc m → held_behind s (length numbers) (standing_at next) ≡ Some s
  held_some None m some = ap (held_done s) some
  held_some (Some next) m some = refl

  -- behind a page
  pub settles_pages : (at from : ℕ) (next : Option (ℕ × ℕ)) → at < length numbers → IsNextIn layout stored (drop at numbers) at from next
      → Settles s (there (SweepsFrom at from)) (table_state shown (lock_turned (held_behind s (length numbers) (standing_at next)) (task_turned s (task_behind (length numbers) 0 (standing_at next)) u)))
  settles_pages at from next below is =
      let some : (m : ℕ) × (length numbers ≡ suc m) = not_none (length numbers) below in
      let e : at + length (drop at numbers) ≡ length numbers = (let l = length-drop at numbers in omega (arith, l, below)) in
      let found : IsNextThere (there (SweepsFrom at from)) at from next = next_there (there (SweepsFrom at from)) layout stored numbers (shows (SweepsFrom at from)) (drop at numbers) at from next e
      (λ k n is_there. sym (get_drop at k numbers) ∙ is_there) is in
      subst (λ (h : Option ℕ). Settles s (there (SweepsFrom at from)) (table_state shown (lock_turned h (task_turned s (task_behind (length numbers) 0 (standing_at next)) u)))) (sym (held_some next some.0 some.1))
      (settles_by s shown u (Some s) (SweepsFrom at from) (task_behind (length numbers) 0 (standing_at next)) (onward_from at from next some.0 some.1 (SweepsFrom at from) found))
    where
      not_none : (n : ℕ) → at < n → (m : ℕ) × (n ≡ suc m)
      not_none zero below = absurd (omega (arith, below))
      not_none (suc m) below = (m, refl)

  -- behind a block
  to_pages : (extent block n : ℕ) (next : Option (ℕ × ℕ)) → length numbers ≡ n → extent ≤ block → IsNextThere (there (Prunes extent block)) 0 0 next
      → Settles s (there (Prunes extent block)) (table_state shown (lock_turned (held_behind s (length numbers) (standing_at next)) (task_turned s (task_behind (length numbers) extent (standing_at next)) u)))
  to_pages extent block zero None none past is =
      subst (λ (k : ℕ). Settles s (there (Prunes extent block)) (table_state shown (lock_turned (held_done s k) (task_turned s (task_done k) u)))) (sym none)
      (replies_by s shown u (Some s) (Prunes extent block) (NothingToSweep extent block past (count ∙ none)))
  to_pages extent block zero (Some next) none past is = absurd (let below = is.has.0 in omega (arith, below, count, none))
  to_pages extent block (suc m) None some past is =
      subst (λ (k : ℕ). Settles s (there (Prunes extent block)) (table_state shown (lock_turned (held_done s k) (task_turned s (task_done k) u)))) (sym some)
      (settles_by s shown u (Some s) (Prunes extent block) (Restarts 0) (Pruned extent block (Restarts 0) past (Swept 0 0 is (omega (arith, count, some)))))
  to_pages extent block (suc m) (Some next) some past is =
      settles_by s shown u (Some s) (Prunes extent block) (Sweeps next.0 next.1) (Pruned extent block (Sweeps next.0 next.1) past (ToPage 0 0 next.0 next.1 is))

  pub settles_blocks : (extent block : ℕ) (next : Standing) → ComesTo layout stored numbers extent block next
      → Settles s (there (Prunes extent block)) (table_state shown (lock_turned (held_behind s (length numbers) next) (task_turned s (task_behind (length numbers) extent next) u)))
  settles_blocks extent block _ (ToBlock below) = settles_by s shown u (Some s) (Prunes extent block) (Prunes extent block) (Stays (Prunes extent block) below)
  settles_blocks extent block _ (ToPages next past is) =
      to_pages extent block (length numbers) next refl past
      (next_there (there (Prunes extent block)) layout stored numbers (shows (Prunes extent block)) numbers 0 0 next (omega arith) (λ k n is_there. let e : k ≡ 0 + k = omega arith in subst (λ (i : ℕ). slice_get numbers i ≡ Some n) e is_there) is)
