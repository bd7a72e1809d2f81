-- refusals in their tables
use Rattle.std.proofs.Common.{◌≡◌, ◌≢◌, inl, inr, ℕ, Bool, false, List, ◌∷◌, Option, None, Some, refl, sym, ap, subst, ◌∙◌, arith}
use Rattle.block_model.specs.declared.place.Place.{Place as PagePlace}
use Rattle.block_model.specs.declared.row.Row.{Row}
use Rattle.block_model.specs.declared.row.RowId.{RowId}
use Rattle.block_model.specs.declared.value.Value.{Value}
use Rattle.page_locks.specs.LockChanges.{GivesAll}
use Rattle.page_locks.specs.LockHolders.{holder}
use Rattle.page_locks.specs.RightHolders.{right_of}
use Rattle.page_map.specs.PageMap.{page_at}
use Rattle.heap_rows.specs.Heaps.{relation_of as heap_of}
use Rattle.snapshot_core.specs.declared.statuses.Status.{Status}
use Rattle.store_layout.specs.declared.statement.Statement.{Statement}
use Rattle.store_layout.specs.declared.statement.Statement.TheVariants as statements
use Rattle.snapshot_core.specs.StoredVersions.{transaction_of}
use Rattle.transactions.specs.CountedRows.{counts as counts_of}
use Rattle.index_contents.specs.IndexContents.{relation_of}
use Rattle.coverage.specs.Statements.{Phase}
use Rattle.coverage.specs.Steps.{SummariseLockPasses}
use Rattle.coverage.specs.Accounts.{Account, no_account}
use Rattle.coverage.specs.Machines.{ShownTable, Unseen, table_state, task_turned}
use Rattle.coverage.specs.Refusals.{HasConflict, LacksMemory, Refusal, insert_refusal, maintain_refusal, row_refusal}
use Rattle.coverage.specs.Table.{Job, Maintains, Marks, Resting, Scans, TableScan, TableState, Task, index_view_at}
use Rattle.coverage.specs.TableSteps.{Conflicts, Fails, GoesOn, IndexFull, IsInsertRefused, IsMaintainRefused, IsRowRefused, RefusesInsert, RefusesMaintain, RefusesRow, RefusesScan, Settles, Stays, StepsIn, TableStep, TaskTurns}
use Rattle.coverage.proofs.Views.{pick_other, pick_same, pick_there}
use Rattle.script_semantics.specs.ShownRows.{shown_by}
use Rattle.script_semantics.specs.Beginnings.{IsIn}
use Rattle.script_semantics.specs.Place.{Place}
use Rattle.session_parts.specs.HandsInTables.{IsTaskOf, sight_of, table_in}
use Rattle.session_parts.specs.Leaving.{LeavesOthers}
use Rattle.session_parts.specs.PlacesAfter.{TurnsIn, refusal_in}
use Rattle.session_parts.specs.RefusalLaws.{CountsNoMore, InsertIsRefused, MaintenanceIsRefused, MarkIsRefused, RefusalIsShown, RowIsRefused, ScanIsRefused, refused_in}
use Rattle.session_parts.specs.ShowsPlace.{ShowsTable}
use Rattle.session_parts.specs.StoreStates.{ShownStore, hand_in}
use Rattle.session_parts.specs.TableLaws.{IsQuiet}
use Rattle.session_parts.proofs.Locks.{gives_none}
use Rattle.session_parts.proofs.Seeing.{rests_elsewhere}
use Rattle.session_parts.proofs.Slots.{same_slots}
use Rattle.session_parts.proofs.Steps.{takes_none, takes_on}
use Rattle.session_parts.proofs.Tables.{locks_none, own_table_goes_on, same_blocks, same_contents, shown_alike}

-- the statement is at nothing then
refused_turns : (n : ℕ) (counts : ℕ → Bool) (w : TableState) (task : Task) → w.task n ≡ task → TaskTurns n w (refused_in n counts w) task Resting
refused_turns n counts w task at = record {
  was = at;
  now = pick_same n Resting (w.task n);
  others = λ m. pick_there m n Resting (w.task m);
}

-- nothing else changes but which rows count
refused_fails : (n : ℕ) (counts : ℕ → Bool) (w : TableState) (t : ℕ) → CountsNoMore w counts t → Fails w (refused_in n counts w) t
refused_fails n counts w t no_more = record {
  layout = record { indexes = refl; rows_per_page = refl; heap_limit = refl };
  blocks = refl;
  row = λ b k. refl;
  indexes = record { index = λ i. refl };
  summarise_lock = refl;
  failed = no_more.failed;
  fewer = no_more.fewer;
}

-- a statement that is at nothing stays there
settles_at_rest : (n : ℕ) (v : TableState) → v.task n ≡ Resting → Settles n v v
settles_at_rest n v rests = GoesOn Resting Resting (Stays Resting tt) (record { was = rests; now = rests; others = λ m. inr refl }) (record {
  rows = record { layout = record { indexes = refl; rows_per_page = refl; heap_limit = refl }; blocks = refl; row = λ b k. refl; counts = λ t. refl };
  indexes = record { index = λ i. refl };
  summarise_lock = refl;
})

-- a refused turn, said of each state that the table may be
abbrev IsTurnRefused : Place → (n table : ℕ) → Statement → TableState → Account → Refusal → Type 0
IsTurnRefused p n table statement v account why = (turns : TurnsIn p n statement table v account) × (refusal_in turns ≡ Some why)

not_resting : (w : TableState) (n : ℕ) (task : Task) → w.task n ≡ task → task ≢ Resting → w.task n ≢ Resting
not_resting w n task at busy rests = busy (sym at ∙ rests)

module _ (p : Place) (n table : ℕ) (statement : Statement) (other : statement ≢ statements.Work) (on : IsIn p n statement table) where
  abbrev here : TableState
  here = p.tables table

  module _ (counts : ℕ → Bool) where
    abbrev after : TableState
    after = refused_in n counts here

    settled : Settles n after after
    settled = settles_at_rest n after (pick_same n Resting (here.task n))

    scan_here : (t : ℕ) (scan : TableScan) → here.task n ≡ Scans scan → scan.explains ≡ false → CountsNoMore here counts t → IsTurnRefused p n table statement after (p.accounts n) LacksMemory
    scan_here t scan at reads no_more = (
      record {
        on = on;
        step = record { between = after; does = RefusesScan scan t (refused_turns n counts here (Scans scan) at) (inl (reads, refused_fails n counts here t no_more)); settles = settled };
        own = inl (not_resting here n (Scans scan) at (λ (is : Scans scan ≡ Resting). cc));
        dead = tt;
        adds = λ b has. has;
        takes = takes_none statement (here.task n) p.queue p.queue (omega arith) other;
      },
      refl,
    )

    mark_here : (t : ℕ) (scan : TableScan) (id : RowId) (rest : List RowId) → here.task n ≡ Marks scan (id ∷ rest) → CountsNoMore here counts t → IsTurnRefused p n table statement after (p.accounts n) (HasConflict id)
    mark_here t scan id rest at no_more = (
      record {
        on = on;
        step = record { between = after; does = Conflicts scan id rest t (refused_turns n counts here (Marks scan (id ∷ rest)) at) (refused_fails n counts here t no_more); settles = settled };
        own = inl (not_resting here n (Marks scan (id ∷ rest)) at (λ (is : Marks scan (id ∷ rest) ≡ Resting). cc));
        dead = tt;
        adds = λ b has. has;
        takes = takes_none statement (here.task n) p.queue p.queue (omega arith) other;
      },
      refl,
    )

    insert_here : (b k : ℕ) (r : Row) (task : Task) → here.task n ≡ task → (refused : IsInsertRefused here n b k r task) → CountsNoMore here counts r.id.t
        → IsTurnRefused p n table statement after (p.accounts n) (insert_refusal refused)
    insert_here b k r task at refused no_more = (
      record {
        on = on;
        step = record { between = after; does = RefusesInsert b k r task refused (refused_turns n counts here task at) (refused_fails n counts here r.id.t no_more); settles = settled };
        own = inl (not_resting here n task at (busy task refused));
        dead = tt;
        adds = λ b has. has;
        takes = takes_none statement (here.task n) p.queue p.queue (omega arith) other;
      },
      refl,
    )
      where
        busy : (task : Task) → IsInsertRefused here n b k r task → task ≢ Resting
        busy _ (IndexFull number at x old new verdict) is = cc

-- an index is full for maintenance
module _ (p : Place) (n table : ℕ) (statement : Statement) (on : IsIn p n statement table) where
  maintenance_here : (at range : ℕ) (v : TableState) (job : Job) (phase : Phase) → (p.tables table).task n ≡ Maintains job at range phase → (refused : IsMaintainRefused (index_view_at at (p.tables table)) n range phase)
      → TaskTurns n (p.tables table) v (Maintains job at range phase) Resting → StepsIn at (p.tables table) v → SummariseLockPasses n (index_view_at at (p.tables table)) (index_view_at at v) (Some n) None
      → IsTurnRefused p n table statement v (p.accounts n) (maintain_refusal at refused)
  maintenance_here at range v job phase is refused turns steps passes = (
    record {
      on = on;
      step = record { between = v; does = RefusesMaintain job at range phase refused turns steps passes; settles = settles_at_rest n v turns.now };
      own = inl busy_here;
      dead = tt;
      adds = λ b has. has;
      takes = takes_on statement ((p.tables table).task n) p.queue busy_here;
    },
    refl,
  )
    where
      busy_here : (p.tables table).task n ≢ Resting
      busy_here = not_resting (p.tables table) n (Maintains job at range phase) is (λ (e : Maintains job at range phase ≡ Resting). cc)

row_here : (p : Place) (n table t : ℕ) (values : List Value) (counts : ℕ → Bool) → (p.tables table).task n ≡ Resting → (refused : IsRowRefused (p.tables table)) → CountsNoMore (p.tables table) counts t
    → IsTurnRefused p n table (statements.Insert table values) (refused_in n counts (p.tables table)) no_account (row_refusal (p.tables table) refused)
row_here p n table t values counts rests refused no_more = (
  record {
    on = refl;
    step = record {
      between = refused_in n counts (p.tables table);
      does = RefusesRow t refused (refused_turns n counts (p.tables table) Resting rests) (refused_fails n counts (p.tables table) t no_more);
      settles = settles_at_rest n (refused_in n counts (p.tables table)) (pick_same n Resting ((p.tables table).task n));
    };
    own = inr (inl (pick_same n Resting ((p.tables table).task n)));
    dead = tt;
    adds = λ b has. has;
    takes = takes_none (statements.Insert table values) ((p.tables table).task n) p.queue p.queue (omega arith) insert_other;
  },
  refl,
)
  where
    insert_other : statements.Insert table values ≢ statements.Work
    insert_other is = cc

pub row_is_refused : RowIsRefused
row_is_refused p n table t values w counts is =
    subst (λ (x : TableState). x.task n ≡ Resting → (refused : IsRowRefused x) → CountsNoMore x counts t
    → IsTurnRefused p n table (statements.Insert table values) (refused_in n counts x) no_account (row_refusal x refused)) is
    (row_here p n table t values counts)

pub insert_is_refused : InsertIsRefused
insert_is_refused p n table b k r values w task counts is =
    subst (λ (x : TableState). x.task n ≡ task → (refused : IsInsertRefused x n b k r task) → CountsNoMore x counts r.id.t
    → IsTurnRefused p n table (statements.Insert table values) (refused_in n counts x) (p.accounts n) (insert_refusal refused)) is
    (insert_here p n table (statements.Insert table values) insert_other refl counts b k r task)
  where
    insert_other : statements.Insert table values ≢ statements.Work
    insert_other is = cc

pub scan_is_refused : ScanIsRefused
scan_is_refused p n table t statement w scan counts is other on =
    subst (λ (x : TableState). x.task n ≡ Scans scan → scan.explains ≡ false → CountsNoMore x counts t → IsTurnRefused p n table statement (refused_in n counts x) (p.accounts n) LacksMemory) is
    (scan_here p n table statement other on counts t scan)

pub mark_is_refused : MarkIsRefused
mark_is_refused p n table t statement w scan id rest counts is other on =
    subst (λ (x : TableState). x.task n ≡ Marks scan (id ∷ rest) → CountsNoMore x counts t → IsTurnRefused p n table statement (refused_in n counts x) (p.accounts n) (HasConflict id)) is
    (mark_here p n table statement other on counts t scan id rest)

pub maintenance_is_refused : MaintenanceIsRefused
maintenance_is_refused p n table at range statement w v job phase is on =
    subst (λ (x : TableState). x.task n ≡ Maintains job at range phase → (refused : IsMaintainRefused (index_view_at at x) n range phase)
    → TaskTurns n x v (Maintains job at range phase) Resting → StepsIn at x v → SummariseLockPasses n (index_view_at at x) (index_view_at at v) (Some n) None
    → IsTurnRefused p n table statement v (p.accounts n) (maintain_refusal at refused)) is
    (maintenance_here p n table statement on at range v job phase)

-- ---- the table of a refused statement

module _ (old new : ShownStore) (stored : List Status) (n table : ℕ) (w : TableState) (shows : ShowsTable old stored table w) (leaves : LeavesOthers n old new)
    (pages : (place : PagePlace) → page_at new.pages place ≡ page_at old.pages place) (gives : GivesAll (holder old.locks) (holder new.locks) n) (rights : new.rights ≡ old.rights)
    (quiet : IsQuiet (w.task n)) (elsewhere : table_in old.layout (hand_in new.hands n) ≢ Some table) where
  abbrev counts_then : ℕ → Bool
  counts_then = counts_of new.transactions stored

  abbrev unseen_then : Unseen
  unseen_then = record (task_turned n Resting shows.unseen) { counts = counts_then }

  alike_then : shown_by old.layout new.pages new.locks table shows.blocks ≡ shown_by old.layout old.pages old.locks table shows.blocks
  alike_then = shown_alike old.layout old.pages new.pages old.locks new.locks table shows.blocks
      (λ index inside of. same_contents old.layout old.pages new.pages index (λ block. pages (record { relation = relation_of old.layout index; block = block })))
      (λ index page inside of. gives_none old.layout old.locks new.locks n index page gives (locks_none old stored n table w shows quiet index page inside of))

  refused_shown : refused_in n counts_then w ≡ table_state (shown_by old.layout new.pages new.locks table shows.blocks) unseen_then
  refused_shown = ap (refused_in n counts_then) shows.shown ∙ ap (λ (t : ShownTable). table_state t unseen_then) (sym alike_then)

  own_refused : IsTaskOf old.layout table shows.blocks new.transactions.tx stored (transaction_of new.transactions.opens n) (hand_in new.hands n) (unseen_then.task n)
  own_refused = subst (λ (q : Task). IsTaskOf old.layout table shows.blocks new.transactions.tx stored (transaction_of new.transactions.opens n) (hand_in new.hands n) q) (sym (pick_same n Resting (shows.unseen.task n)))
      (rests_elsewhere old.layout table shows.blocks new.transactions.tx stored (transaction_of new.transactions.opens n) (hand_in new.hands n) elsewhere)

  pub refused_table : TableStep n w (refused_in n counts_then w) → ShowsTable new stored table (refused_in n counts_then w)
  refused_table step = own_table_goes_on old new stored n table w (refused_in n counts_then w) unseen_then shows.blocks shows leaves step refused_shown
      (same_blocks old.layout old.pages new.pages table shows.blocks (λ block. pages (record { relation = heap_of table; block = block })) shows.has)
      (shows.lock ∙ ap (λ (r : List (Option ℕ)). right_of r table) (sym rights)) (λ t. refl) (λ m other. pick_other m n Resting (shows.unseen.task m) other) own_refused
      (record { rows = (same_slots shows.blocks).rows; seen = λ m o other is. (same_slots shows.blocks).seen (sight_of old.transactions.tx stored o); lacks = λ m o other is. (same_slots shows.blocks).lacks (sight_of old.transactions.tx stored o) })

pub refusal_is_shown : RefusalIsShown
refusal_is_shown old new stored n table w shows leaves pages gives rights quiet elsewhere step = refused_table old new stored n table w shows leaves pages gives rights quiet elsewhere step
