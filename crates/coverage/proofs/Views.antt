-- How each index of a table sees its statements, and what it sees of their steps.
use Rattle.std.proofs.Common.{◌≡◌, ◌≢◌, ◌⊎◌, inl, inr, ⊎_elim, ℕ, ◌<◌, Option, Some, None, Bool, sym, ◌∙◌, ap, subst, arith, zero, suc}
use Rattle.std.specs.Prelude.{refl, IsTrue}
use Rattle.std.proofs.lemmas.Bool.{cases_eq}
use Rattle.block_model.specs.declared.row.Row.{Row}
use Rattle.block_model.specs.declared.place.Spot.{Spot}
use Rattle.coverage.specs.Changes.{SameHeap, SameMap, SameTuples, SameUnnamed, OwnLocks, TouchesRows, Frame}
use Rattle.coverage.specs.Statements.{OnIndex, Empty, Phase, Statement, Idle, Inserting, Maintaining, Holding, Scanning}
use Rattle.coverage.specs.Knowing.{LocksNone, Spares}
use Rattle.coverage.specs.Steps.{ReadsIndex, SummariseLockPasses, Rests, Turned}
use Rattle.coverage.specs.Table.{Index, TableScan, Task, Resting, Reaches, Asks, Inserts, Maintains, Scans, Marks, TableState, pick, on_index_by, inserting_of}
use Rattle.coverage.specs.Table.{held_at, scan_at, seen_by, index_state, index_view_at}
use Rattle.coverage.specs.TableSteps.{TaskTurns, SameRows, BeginsWith, Summarize, HasPut, SeesPlace}

pub pick_same : (i : ℕ) → {A : Type 0} → (a b : A) → pick i i a b ≡ a
pick_same zero a b = refl
pick_same (suc i) a b = pick_same i a b

pub pick_other : (i j : ℕ) → {A : Type 0} → (a b : A) → i ≢ j → pick i j a b ≡ b
pick_other zero zero a b apart = absurd (apart refl)
pick_other zero (suc j) a b apart = refl
pick_other (suc i) zero a b apart = refl
pick_other (suc i) (suc j) a b apart = pick_other i j a b (λ e. apart (ap suc e))

pub pick_there : {A : Type 0} → (n m : ℕ) (a b : A) → (n ≡ m) ⊎ (pick n m a b ≡ b)
pick_there n m a b = ⊎_elim (λ (is : n ≡ m). inl is) (λ (other : n ≢ m). inr (pick_other n m a b other)) (cases_eq n m)

pub pick_both : (i j : ℕ) → {A : Type 0} → (a : A) → pick i j a a ≡ a
pick_both zero zero a = refl
pick_both zero (suc j) a = refl
pick_both (suc i) zero a = refl
pick_both (suc i) (suc j) a = pick_both i j a

-- where a scan holds no place, no index sees one
pub held_none : (i at range : ℕ) (held : Option Spot) → held ≡ None → pick i at (held_at range held) None ≡ None
held_none i at range held none = ap (λ h. pick i at (held_at range h) None) none ∙ pick_both i at None

pub on_index_first : (i : ℕ) → on_index_by i zero Empty ≡ Some Empty
on_index_first zero = refl
on_index_first (suc i) = refl

pub on_index_here : (i : ℕ) (on_index : OnIndex) → on_index_by i i on_index ≡ Some on_index
on_index_here zero on_index = refl
on_index_here (suc i) on_index = on_index_here i on_index

pub on_index_below : (i at : ℕ) (on_index : OnIndex) → i < at → on_index_by i at on_index ≡ None
on_index_below zero zero on_index below = absurd (omega arith)
on_index_below zero (suc at) on_index below = refl
on_index_below (suc i) zero on_index below = absurd (omega arith)
on_index_below (suc i) (suc at) on_index below = on_index_below i at on_index (omega arith)

pub on_index_other : (i at : ℕ) (old new : OnIndex) → i ≢ at → on_index_by i at new ≡ on_index_by i at old
on_index_other zero zero old new apart = absurd (apart refl)
on_index_other zero (suc at) old new apart = refl
on_index_other (suc i) zero old new apart = refl
on_index_other (suc i) (suc at) old new apart = on_index_other i at old new (λ e. apart (ap suc e))

pub on_index_next : (i at : ℕ) (old : OnIndex) → i ≢ at → on_index_by i (suc at) Empty ≡ on_index_by i at old
on_index_next zero zero old apart = absurd (apart refl)
on_index_next zero (suc at) old apart = refl
on_index_next (suc zero) zero old apart = refl
on_index_next (suc (suc i)) zero old apart = refl
on_index_next (suc i) (suc at) old apart = on_index_next i at old (λ e. apart (ap suc e))

-- the indexes that an insert isn't at are those that are complete, and those that it hasn't begun
pub on_index_apart : (i at : ℕ) (on_index : OnIndex) → i ≢ at → (on_index_by i at on_index ≡ None) ⊎ (on_index_by i at on_index ≡ Some Empty)
on_index_apart zero zero on_index apart = absurd (apart refl)
on_index_apart zero (suc at) on_index apart = inl refl
on_index_apart (suc i) zero on_index apart = inr refl
on_index_apart (suc i) (suc at) on_index apart = on_index_apart i at on_index (λ e. apart (ap suc e))

-- what an index sees as an insert is one
inserting_put : (b k c j : ℕ) (r q : Row) (o : Option OnIndex) (on_index : OnIndex) → inserting_of c j q o ≡ Inserting b k r on_index → (c ≡ b) × (j ≡ k)
inserting_put b k c j r q None on_index e = absurd (idle_not b k r on_index e)
  where
    is_idle : Statement → Type 0
    is_idle Idle = Unit {0}
    is_idle _ = ⊥

    idle_not : (b k : ℕ) (r : Row) (on_index : OnIndex) → Idle ≡ Inserting b k r on_index → ⊥
    idle_not b k r on_index e = subst is_idle e tt
inserting_put b k c j r q (Some g) on_index e = (ap block_of e, ap slot_of e)
  where
    block_of : Statement → ℕ
    block_of (Inserting b k r on_index) = b
    block_of _ = 0

    slot_of : Statement → ℕ
    slot_of (Inserting b k r on_index) = k
    slot_of _ = 0

abbrev IsInserting : Statement → Type 0
IsInserting (Inserting c j q on_index) = Unit
IsInserting _ = ⊥

is_inserting : (b k : ℕ) (r : Row) (on_index : OnIndex) (d : Statement) → d ≡ Inserting b k r on_index → IsInserting d
is_inserting b k r on_index d e = subst IsInserting (sym e) tt

pick_not_inserting : (i at range : ℕ) (phase : Phase) → IsInserting (pick i at (Maintaining range phase) Holding) → ⊥
pick_not_inserting zero zero range phase is = is
pick_not_inserting zero (suc at) range phase is = is
pick_not_inserting (suc i) zero range phase is = is
pick_not_inserting (suc i) (suc at) range phase is = pick_not_inserting i at range phase is

-- an insert that an index sees has put the row
pub seen_put : (i b k : ℕ) (r : Row) (on_index : OnIndex) (task : Task) → seen_by i task ≡ Inserting b k r on_index → HasPut b k task
seen_put i b k r on_index Resting e = absurd (is_inserting b k r on_index Idle e)
seen_put i b k r on_index (Reaches c j q at) e = inserting_put b k c j r q (on_index_by i at Empty) on_index e
seen_put i b k r on_index (Asks c j q at) e = inserting_put b k c j r q (on_index_by i at Empty) on_index e
seen_put i b k r on_index (Inserts c j q at g) e = inserting_put b k c j r q (on_index_by i at g) on_index e
seen_put i b k r on_index (Maintains job at range phase) e = absurd (pick_not_inserting i at range phase (is_inserting b k r on_index _ e))
seen_put i b k r on_index (Scans scan) e = absurd (is_inserting b k r on_index (Scanning (scan_at i scan)) e)
seen_put i b k r on_index (Marks scan ids) e = absurd (is_inserting b k r on_index Idle e)
seen_put i b k r on_index _ e = absurd (is_inserting b k r on_index Holding e)

-- rows that no statement of the table has put or sees are spared in each index
spares_on_index : (dropped : ℕ → ℕ → Bool) (b k : ℕ) (r : Row) (o : Option OnIndex) → (IsTrue (dropped b k) → ⊥) → Spares dropped (inserting_of b k r o)
spares_on_index dropped b k r None alive = tt
spares_on_index dropped b k r (Some on_index) alive = alive

spares_pick : (dropped : ℕ → ℕ → Bool) (i at range : ℕ) (phase : Phase) → Spares dropped (pick i at (Maintaining range phase) Holding)
spares_pick dropped zero zero range phase = tt
spares_pick dropped zero (suc at) range phase = tt
spares_pick dropped (suc i) zero range phase = tt
spares_pick dropped (suc i) (suc at) range phase = spares_pick dropped i at range phase

pub seen_spares : (dropped : ℕ → ℕ → Bool) (i : ℕ) (task : Task) → ((b k : ℕ) → IsTrue (dropped b k) → (HasPut b k task ⊎ SeesPlace b k task) → ⊥)
    → Spares dropped (seen_by i task)
seen_spares dropped i (Reaches b k r at) alive = spares_on_index dropped b k r (on_index_by i at Empty) (λ dead. alive b k dead (inl (refl, refl)))
seen_spares dropped i (Asks b k r at) alive = spares_on_index dropped b k r (on_index_by i at Empty) (λ dead. alive b k dead (inl (refl, refl)))
seen_spares dropped i (Inserts b k r at on_index) alive = spares_on_index dropped b k r (on_index_by i at on_index) (λ dead. alive b k dead (inl (refl, refl)))
seen_spares dropped i (Maintains job at range phase) alive = spares_pick dropped i at range phase
seen_spares dropped i (Scans scan) alive = λ b k sees dead. alive b k dead (inr sees)
seen_spares dropped i _ alive = tt

-- where index i is the same
module _ (i s : ℕ) (w v : TableState) (index : v.index i ≡ w.index i) where
  map_at : SameMap (index_view_at i w) (index_view_at i v)
  map_at = record { entry = λ m. ap (λ (x : Index). x.entry m) index }

  tuples_at : SameTuples (index_view_at i w) (index_view_at i v)
  tuples_at = record { tuple = λ y. ap (λ (x : Index). x.tuple y) index }

  unnamed_at : SameUnnamed (index_view_at i w) (index_view_at i v)
  unnamed_at = record { unnamed = λ y. ap (λ (x : Index). x.unnamed y) index }

  contents_at : (v.index i).contents ≡ (w.index i).contents
  contents_at = ap (λ (x : Index). x.contents) index

  lock_at : (p : ℕ) → (v.index i).lock p ≡ (w.index i).lock p
  lock_at p = ap (λ (x : Index). x.lock p) index

  locks_at : OwnLocks s (w.index i).lock (v.index i).lock
  locks_at = record { others = λ p n is other. lock_at p ∙ is; taken = λ p n is other. sym (lock_at p) ∙ is }

  pub none_at : LocksNone (w.index i).lock s → LocksNone (v.index i).lock s
  none_at none p is = none p (sym (lock_at p) ∙ is)

  pub rows_frame : v.summarise_lock ≡ w.summarise_lock → Frame s TouchesRows (index_view_at i w) (index_view_at i v)
  rows_frame summarise_lock = record {
    heap = tt;
    map = map_at;
    tuples = tuples_at;
    unnamed_tuples = unnamed_at;
    summarise_lock = summarise_lock;
    locks = locks_at;
    contents = contents_at;
  }

  pub reads_by : SameHeap (index_view_at i w) (index_view_at i v) → v.summarise_lock ≡ w.summarise_lock → LocksNone (w.index i).lock s
      → ReadsIndex s (index_view_at i w) (index_view_at i v)
  reads_by heap summarise_lock none = record {
    frame = record { heap = heap; map = map_at; tuples = tuples_at; unnamed_tuples = unnamed_at; summarise_lock = summarise_lock; locks = locks_at; contents = contents_at };
    pages = ap (λ (x : Index). x.pages) index;
    none = none_at none;
  }

-- a table's step as index i sees it
module _ (i s : ℕ) (w v : TableState) (old new : Task) (turns : TaskTurns s w v old new) where
  pub turned_at : (d e : Statement) → seen_by i old ≡ d → seen_by i new ≡ e → Turned s (index_state i w) (index_state i v) d e
  turned_at d e was now = record {
    was = ap (seen_by i) turns.was ∙ was;
    now = ap (seen_by i) turns.now ∙ now;
    others = λ n. ⊎_elim (λ (is : n ≡ s). inl is) (λ (same : v.task n ≡ w.task n). inr (ap (seen_by i) same)) (turns.others n);
  }

  module _ (rows : SameRows w v) (index : v.index i ≡ w.index i) where
    heap_at : SameHeap (index_view_at i w) (index_view_at i v)
    heap_at = record { pages_per_range = ap (λ (x : Index). x.pages_per_range) index; blocks = rows.blocks; row = rows.row }

    pub rests_at : v.summarise_lock ≡ w.summarise_lock → seen_by i new ≡ seen_by i old → Rests (index_state i w) (index_state i v)
    rests_at summarise_lock same = record {
      contents = contents_at i s w v index;
      heap = heap_at;
      map = map_at i s w v index;
      tuples = tuples_at i s w v index;
      unnamed_tuples = unnamed_at i s w v index;
      pages = ap (λ (x : Index). x.pages) index;
      lock = λ p. ap (λ (x : Index). x.lock p) index;
      summarise_lock = summarise_lock;
      statement = λ n. ⊎_elim
          (λ (is : n ≡ s).
          ap (λ m. seen_by i (v.task m)) is ∙ ap (seen_by i) turns.now ∙ same ∙ sym (ap (seen_by i) turns.was) ∙ ap (λ m. seen_by i (w.task m)) (sym is))
          (λ (kept : v.task n ≡ w.task n). ap (seen_by i) kept)
          (turns.others n);
      counts = record { counts = rows.counts };
    }

    pub reads_at : v.summarise_lock ≡ w.summarise_lock → LocksNone (w.index i).lock s → ReadsIndex s (index_view_at i w) (index_view_at i v)
    reads_at summarise_lock none = reads_by i s w v index heap_at summarise_lock none

    pub passes_at : (from to : Option ℕ) → w.summarise_lock ≡ from → v.summarise_lock ≡ to → LocksNone (w.index i).lock s
        → SummariseLockPasses s (index_view_at i w) (index_view_at i v) from to
    passes_at from to was now none = record {
      was = was;
      now = now;
      frame = record {
        heap = heap_at;
        map = map_at i s w v index;
        tuples = tuples_at i s w v index;
        unnamed_tuples = unnamed_at i s w v index;
        summarise_lock = tt;
        locks = locks_at i s w v index;
        contents = contents_at i s w v index;
      };
      pages = ap (λ (x : Index). x.pages) index;
      none = none_at i s w v index none;
    }

-- the scan of a task
abbrev pub scan_of : Task → Option TableScan
scan_of (Scans scan) = Some scan
scan_of task = None

pub begins_no_scan : (w : TableState) (first : Task) → BeginsWith w first → scan_of first ≡ None
begins_no_scan w _ (Summarize at below) = refl
begins_no_scan w _ _ = refl
