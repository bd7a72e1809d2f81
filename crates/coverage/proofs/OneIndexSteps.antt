-- A step in one index is one of its table, and so is a row put.
use Rattle.std.proofs.Common.{◌≡◌, ◌≢◌, inr, ℕ, ◌+◌, ◌<◌, max, Option, Some, suc, refl, sym, ap, subst}
use Rattle.block_model.specs.declared.place.Spot.{Spot}
use Rattle.block_model.specs.declared.reply.Point.{Point}
use Rattle.block_model.specs.declared.reply.Point.TheVariants as points
use Rattle.block_model.specs.declared.row.Row.{Row}
use Rattle.coverage.specs.IndexView.{Building, IndexView}
use Rattle.coverage.specs.Statements.{OnIndex, Phase, Statement, Idle, Inserting, Maintaining, Holding, building_of, loose_of}
use Rattle.coverage.specs.Steps.{IsUnnamed, SweepsTuples, InsertStep}
use Rattle.coverage.specs.Points.{insert_point}
use Rattle.coverage.specs.Counts.{AreTuplesGone}
use Rattle.coverage.specs.IndexPart.{IndexPart, with_part, InsertMakes, SweepMakes}
use Rattle.coverage.specs.Table.{Index, Job, Task, Resting, Reaches, Inserts, Considers, Maintains, SweepsFrom, Sweeps, TableState, seen_by, index_view_at}
use Rattle.coverage.specs.TableSteps.{TaskTurns, SameRows, StepsIn, IsFirstPlace, JobStep, PutsRow, InsertGoes, InsertCompletes, MaintainGoes}
use Rattle.coverage.specs.TableSteps.{MaintainCompletes, SweepsPage, HasStep, Settles, GoesOn, Stays}
use Rattle.coverage.specs.TablePoints.{job_point}
use Rattle.coverage.specs.Accounts.{AccountIs, no_account, job_count}
use Rattle.coverage.specs.InOneIndex.{index_with, with_index, with_rows, RowComesTo, JobMakes, with_ranges, with_unnamed, DoesAt}
use Rattle.coverage.proofs.Views.{pick_same, pick_other, pick_there}

pub index_here : (at s : ℕ) (p : IndexPart) (task : Task) (w : TableState) → (with_index at p s task w).index at ≡ index_with p (w.index at)
index_here at s p task w = pick_same at (index_with p (w.index at)) (w.index at)

pub index_other : (at s i : ℕ) (p : IndexPart) (task : Task) (w : TableState) → i ≢ at → (with_index at p s task w).index i ≡ w.index i
index_other at s i p task w apart = pick_other i at (index_with p (w.index at)) (w.index i) apart

pub task_here : (at s : ℕ) (p : IndexPart) (task : Task) (w : TableState) → (with_index at p s task w).task s ≡ task
task_here at s p task w = pick_same s task (w.task s)

pub task_other : (at s n : ℕ) (p : IndexPart) (task : Task) (w : TableState) → n ≢ s → (with_index at p s task w).task n ≡ w.task n
task_other at s n p task w apart = pick_other n s task (w.task n) apart

same_rows : (w : TableState) → SameRows w w
same_rows w = record { layout = record { indexes = refl; rows_per_page = refl; heap_limit = refl }; blocks = refl; row = λ b k. refl; counts = λ t. refl }

-- a statement that has a step stays at it
pub stays_at : (s : ℕ) (w : TableState) (task : Task) → w.task s ≡ task → HasStep w task → Settles s w w
stays_at s w task is has =
    GoesOn task task (Stays task has) (record { was = is; now = is; others = λ n. inr refl })
    (record { rows = same_rows w; indexes = record { index = λ i. refl }; summarise_lock = refl })

module _ (at s : ℕ) (w : TableState) (p : IndexPart) (old task : Task) (below : at < w.indexes) (was : w.task s ≡ old) where
  abbrev after : TableState
  after = with_index at p s task w

  turns : TaskTurns s w after old task
  turns = record { was = was; now = pick_same s task (w.task s); others = λ n. pick_there n s task (w.task n) }

  stepped : StepsIn at w after
  stepped = record {
    below = below;
    rows = record { layout = record { indexes = refl; rows_per_page = refl; heap_limit = refl }; blocks = refl; row = λ b k. refl; counts = λ t. refl };
    others = λ i. pick_there i at (index_with p (w.index at)) (w.index i);
    autosummarize = ap (λ (i : Index). i.autosummarize) (index_here at s p task w);
  }

  -- the step that is made whatever the sessions have in hand is made with what they have then
  on_view : (P : IndexView → Type 0)
      → ((building : ℕ → Option Building) (loose : ℕ → Option Spot) → P (with_part (index_view_at at w) p building loose)) → P (index_view_at at after)
  on_view P makes = subst (λ (i : Index). P (view_with i)) (sym (index_here at s p task w)) (makes building loose)
    where
      building : ℕ → Option Building
      building = λ n. building_of (seen_by at (after.task n))

      loose : ℕ → Option Spot
      loose = λ n. loose_of (seen_by at (after.task n))

      view_with : Index → IndexView
      view_with i = record {
        contents = i.contents;
        pages_per_range = i.pages_per_range;
        blocks = w.blocks;
        row = w.row;
        entry = i.entry;
        tuple = i.tuple;
        pages = i.pages;
        lock = i.lock;
        summarise_lock = w.summarise_lock;
        building = building;
        loose = loose;
        unnamed = i.unnamed;
      }

pub goes_on_insert : (s b k : ℕ) (r : Row) (at : ℕ) (w : TableState) (p : IndexPart) (old new : OnIndex) (point : Point) → at < w.indexes
    → w.task s ≡ Inserts b k r at old → InsertMakes s b k r (index_view_at at w) p old (Inserting b k r new) point
    → DoesAt s w (with_index at p s (Inserts b k r at new) w) point (λ account. account)
goes_on_insert s b k r at w p old new point below was makes =
    let d = Inserts b k r at old in
    let e = Inserts b k r at new in
    let made = on_view at s w p d e below was
    (λ (u : IndexView). (step : InsertStep s b k r (index_view_at at w) u old (Inserting b k r new)) × (insert_point step ≡ point)) makes in
    record {
      does = InsertGoes b k r at old new (turns at s w p d e below was) (stepped at s w p d e below was) made.0;
      point_is = ap Some made.1;
      adds = λ a c is. is;
    }

pub completes_insert : (s b k : ℕ) (r : Row) (at : ℕ) (w : TableState) (p : IndexPart) (old : OnIndex) (point : Point) → at < w.indexes
    → w.task s ≡ Inserts b k r at old → InsertMakes s b k r (index_view_at at w) p old Idle point
    → DoesAt s w (with_index at p s (Reaches b k r (suc at)) w) point (λ account. account)
completes_insert s b k r at w p old point below was makes =
    let d = Inserts b k r at old in
    let e = Reaches b k r (suc at) in
    let made = on_view at s w p d e below was
    (λ (u : IndexView). (step : InsertStep s b k r (index_view_at at w) u old Idle) × (insert_point step ≡ point)) makes in
    record {
      does = InsertCompletes b k r at old (turns at s w p d e below was) (stepped at s w p d e below was) made.0;
      point_is = ap Some made.1;
      adds = λ a c is. is;
    }

-- a maintenance statement's step to one view of the index, with its point and what it counts
abbrev JobMade : (job : Job) (s range : ℕ) (w v : IndexView) (old : Phase) (new : Statement) → Point → ℕ → Type 0
JobMade job s range w v old new point count = (step : JobStep job s range w v old new) × (job_point job s range w v old new step ≡ point)
    × (job_count job s range w v old new step ≡ count)

pub goes_on_maintain : (s : ℕ) (job : Job) (at range : ℕ) (w : TableState) (p : IndexPart) (old new : Phase) (point : Point) (count : ℕ) → at < w.indexes
    → w.task s ≡ Maintains job at range old → JobMakes job s range (index_view_at at w) p old (Maintaining range new) point count
    → DoesAt s w (with_index at p s (Maintains job at range new) w) point (with_ranges count)
goes_on_maintain s job at range w p old new point count below was makes =
    let d = Maintains job at range old in
    let e = Maintains job at range new in
    let made = on_view at s w p d e below was (λ (u : IndexView). JobMade job s range (index_view_at at w) u old (Maintaining range new) point count) makes in
    record {
      does = MaintainGoes job at range old new (turns at s w p d e below was) (stepped at s w p d e below was) made.0;
      point_is = ap Some made.1;
      adds = λ a c is. subst (λ n. AccountIs s a c (with_ranges n (a.of s))) (sym made.2) is;
    }

pub completes_maintain : (s : ℕ) (job : Job) (at range : ℕ) (w : TableState) (p : IndexPart) (old : Phase) (point : Point) (count : ℕ) → at < w.indexes
    → w.task s ≡ Maintains job at range old → JobMakes job s range (index_view_at at w) p old Holding point count
    → DoesAt s w (with_index at p s (Considers job at (suc range)) w) point (with_ranges count)
completes_maintain s job at range w p old point count below was makes =
    let d = Maintains job at range old in
    let e = Considers job at (suc range) in
    let made = on_view at s w p d e below was (λ (u : IndexView). JobMade job s range (index_view_at at w) u old Holding point count) makes in
    record {
      does = MaintainCompletes job at range old (turns at s w p d e below was) (stepped at s w p d e below was) made.0;
      point_is = ap Some made.1;
      adds = λ a c is. subst (λ n. AccountIs s a c (with_ranges n (a.of s))) (sym made.2) is;
    }

pub sweeps_one : (s at page : ℕ) (w : TableState) (p : IndexPart) (count : ℕ) → at < w.indexes → w.task s ≡ Sweeps at page
    → SweepMakes s page (index_view_at at w) p → AreTuplesGone (w.index at).tuple p.tuple page count
    → DoesAt s w (with_index at p s (SweepsFrom at (suc page)) w) points.Sweep (with_unnamed count)
sweeps_one s at page w p count below was makes gone =
    let d = Sweeps at page in
    let e = SweepsFrom at (suc page) in
    record {
      does = SweepsPage at page (turns at s w p d e below was) (stepped at s w p d e below was)
          (on_view at s w p d e below was
          (λ (u : IndexView). SweepsTuples s (index_view_at at w) u page (λ x. (x.block ≡ page) × IsUnnamed (index_view_at at w) x)) makes);
      point_is = refl;
      adds = λ a c is. (
        count,
        subst (λ (i : Index). AreTuplesGone (w.index at).tuple i.tuple page count) (sym (index_here at s p e w)) gone,
        is,
      );
    }

pub row_begins : (s b k : ℕ) (r : Row) (w : TableState) (row : ℕ → ℕ → Option Row) → w.task s ≡ Resting → IsFirstPlace w b k → RowComesTo w.row row b k r
    → DoesAt s w (with_rows row (max w.blocks (b + 1)) s (Reaches b k r 0) w) points.Row (λ account. no_account)
row_begins s b k r w row rests place comes =
    let task = Reaches b k r 0 in
    record {
      does = PutsRow b k r place (record { was = rests; now = pick_same s task (w.task s); others = λ n. pick_there n s task (w.task n) })
          (record {
            layout = record { indexes = refl; rows_per_page = refl; heap_limit = refl };
            now = comes.now;
            others = comes.others;
            blocks = refl;
            counts = λ t. refl;
            indexes = record { index = λ i. refl };
            summarise_lock = refl;
          });
      point_is = refl;
      adds = λ a c is. is;
    }
