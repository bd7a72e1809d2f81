-- a maintenance statement whose index is full, in its table
use Rattle.std.proofs.Common.{◌≡◌, ◌≢◌, inl, inr, ℕ, ◌<◌, Bool, List, Option, None, Some, refl, sym, ap, subst, ◌∙◌}
use Rattle.std.specs.Prelude.{slice_get}
use Rattle.std.proofs.lemmas.Bool.{cases_eq}
use Rattle.std.proofs.lemmas.Option.{none-some, slice_get_within}
use Rattle.block_model.specs.declared.place.Place.{Place as PagePlace}
use Rattle.block_model.specs.declared.place.Spot.{Spot}
use Rattle.store_layout.specs.DiskLayout.{DiskLayout}
use Rattle.page_locks.specs.LockChanges.{GivesAll, page_of}
use Rattle.page_locks.specs.LockHolders.{LockState, holder}
use Rattle.page_map.specs.PageMap.{PageMap, page_at}
use Rattle.heap_rows.specs.Heaps.{relation_of as heap_of}
use Rattle.snapshot_core.specs.declared.statuses.Status.{Status}
use Rattle.snapshot_core.specs.StoredVersions.{transaction_of}
use Rattle.index_contents.specs.IndexContents.{contents, relation_of}
use Rattle.coverage.specs.Changes.{Frame, OwnLocks, TouchesSummariseLock}
use Rattle.coverage.specs.Knowing.{Knows, LocksNone}
use Rattle.coverage.specs.Statements.{Holding, Maintaining, Phase, Statement as AtIndex}
use Rattle.coverage.specs.Steps.{SummariseLockPasses}
use Rattle.coverage.specs.Machines.{ShownIndex, ShownTable, Unseen, table_state, task_turned}
use Rattle.coverage.specs.Table.{Index, Job, Maintains, Resting, TableState, Task, index_view_at, seen_by}
use Rattle.coverage.specs.TableCovered.{IsInTable, IsMaintenance, IsTableKept}
use Rattle.coverage.specs.TableSteps.{StepsIn, TableStep, TaskTurns}
use Rattle.coverage.proofs.Views.{pick_other, pick_same, pick_there}
use Rattle.script_semantics.specs.IndexTuples.{contents_of, index_at, shape_of}
use Rattle.script_semantics.specs.ShownIndex.{tuple_in_place}
use Rattle.script_semantics.specs.ShownRows.{shown_by}
use Rattle.script_semantics.specs.ShownTable.{indexes_of, shown_at}
use Rattle.session_parts.specs.HandsInTables.{IsTaskOf}
use Rattle.session_parts.specs.RefusalLaws.{MaintenanceRefusalIsShown}
use Rattle.session_parts.specs.ShowsPlace.{ShowsTable}
use Rattle.session_parts.specs.StoreStates.{ShownStore, hand_in}
use Rattle.session_parts.proofs.Leads.{nothing_leaves_slots}
use Rattle.session_parts.proofs.Locks.{gives_none}
use Rattle.session_parts.proofs.Refusals.{maintenance_is_refused}
use Rattle.session_parts.proofs.Seeing.{rests_elsewhere}
use Rattle.session_parts.proofs.Tables.{own_table_goes_on, same_blocks, same_contents, shown_alike}

-- an index as the pages and locks show it, with its unnamed tuples
abbrev index_of : (Spot → Bool) → ShownIndex → Index
index_of unnamed shown = record {
  contents = shown.contents;
  pages_per_range = shown.pages_per_range;
  autosummarize = shown.autosummarize;
  entry = shown.entry;
  tuple = shown.tuple;
  pages = shown.pages;
  lock = shown.lock;
  unnamed = unnamed;
}

-- an index shows the same under other locks, but for these
module _ (layout : DiskLayout) (pages : PageMap) (locks locked : LockState) where
  per_range_same : (o : Option ℕ) → (shown_at layout pages locked o).pages_per_range ≡ (shown_at layout pages locks o).pages_per_range
  per_range_same None = refl
  per_range_same (Some m) = refl

  asks_same : (o : Option ℕ) → (shown_at layout pages locked o).autosummarize ≡ (shown_at layout pages locks o).autosummarize
  asks_same None = refl
  asks_same (Some m) = refl

  contents_same : (o : Option ℕ) → (shown_at layout pages locked o).contents ≡ (shown_at layout pages locks o).contents
  contents_same None = refl
  contents_same (Some m) = refl

  entry_same : (o : Option ℕ) (range : ℕ) → (shown_at layout pages locked o).entry range ≡ (shown_at layout pages locks o).entry range
  entry_same None range = refl
  entry_same (Some m) range = refl

  tuple_same : (o : Option ℕ) (x : Spot) → (shown_at layout pages locked o).tuple x ≡ (shown_at layout pages locks o).tuple x
  tuple_same None x = refl
  tuple_same (Some m) x = refl

  pages_same : (o : Option ℕ) → (shown_at layout pages locked o).pages ≡ (shown_at layout pages locks o).pages
  pages_same None = refl
  pages_same (Some m) = refl

  module _ (n : ℕ) (gives : GivesAll (holder locks) (holder locked) n) where
    own_locks : (o : Option ℕ) → OwnLocks n (shown_at layout pages locks o).lock (shown_at layout pages locked o).lock
    own_locks None = record { others = λ p m is other. is; taken = λ p m is other. is }
    own_locks (Some k) = record {
      others = λ p m is other. gives.kept (page_of (relation_of layout k) p) m other is;
      taken = λ p m is other. gives.only (page_of (relation_of layout k) p) m is;
    }

    none_left : (o : Option ℕ) → LocksNone (shown_at layout pages locked o).lock n
    none_left None p is = none-some n is
    none_left (Some k) p is = gives.none (page_of (relation_of layout k) p) is

    -- an index of which the actor locked no page is the same
    same_index : (unnamed : Spot → Bool) (o : Option ℕ) → LocksNone (shown_at layout pages locks o).lock n → index_of unnamed (shown_at layout pages locked o) ≡ index_of unnamed (shown_at layout pages locks o)
    same_index unnamed None none = refl
    same_index unnamed (Some m) none = λ j. record {
      contents = contents_of (shape_of layout m);
      pages_per_range = (index_at layout m).pages_per_range;
      autosummarize = (index_at layout m).auto;
      entry = (contents layout pages m).entry;
      tuple = tuple_in_place (shape_of layout m) (contents layout pages m);
      pages = (contents layout pages m).pages;
      lock = λ page. gives_none layout locks locked n m page gives (none page) j;
      unnamed = unnamed;
    }

-- a maintenance statement at one index holds the summarise lock alone at each other one
holds_there : (i at range : ℕ) (phase : Phase) (job : Job) → i ≢ at → seen_by i (Maintains job at range phase) ≡ Holding
holds_there i at range phase job apart = pick_other i at (Maintaining range phase) Holding apart

module _ (old new : ShownStore) (stored : List Status) (n table at range : ℕ) (w : TableState) (job : Job) (phase : Phase) (shows : ShowsTable old stored table w)
    (pages : (place : PagePlace) → page_at new.pages place ≡ page_at old.pages place) (gives : GivesAll (holder old.locks) (holder new.locks) n) (is : w.task n ≡ Maintains job at range phase) where
  abbrev numbers : List ℕ
  numbers = indexes_of old.layout table

  abbrev was : TableState
  was = table_state (shown_by old.layout old.pages old.locks table shows.blocks) shows.unseen

  abbrev unseen_then : Unseen
  unseen_then = record (task_turned n Resting shows.unseen) { summarise_lock = None }

  -- the state behind it, on the pages as they were
  abbrev given : TableState
  given = table_state (shown_by old.layout old.pages new.locks table shows.blocks) unseen_then

  abbrev after : TableState
  after = table_state (shown_by old.layout new.pages new.locks table shows.blocks) unseen_then

  given_is_after : given ≡ after
  given_is_after = ap (λ (t : ShownTable). table_state t unseen_then) (sym (shown_alike old.layout old.pages new.pages new.locks new.locks table shows.blocks
      (λ index inside of. same_contents old.layout old.pages new.pages index (λ block. pages (record { relation = relation_of old.layout index; block = block })))
      (λ index page inside of. refl)))

  kept_there : IsTableKept was
  kept_there = subst IsTableKept shows.shown shows.kept

  at_there : was.task n ≡ Maintains job at range phase
  at_there = sym (ap (λ (x : TableState). x.task n) shows.shown) ∙ is

  inside_there : at < was.indexes
  inside_there = (subst (IsInTable was) at_there (kept_there.inside n)).0

  holds : was.summarise_lock ≡ Some n
  holds = (kept_there.summarise_lock n).1 (subst IsMaintenance (sym at_there) tt)

  locks_none_there : (i : ℕ) → i ≢ at → i < was.indexes → LocksNone (was.index i).lock n
  locks_none_there i apart below =
      let knows : Knows (index_view_at i was) n (seen_by i (was.task n)) = (kept_there.indexes i below).knows n in
      let holding : seen_by i (was.task n) ≡ Holding = ap (seen_by i) at_there ∙ holds_there i at range phase job apart in
      (subst (λ (q : AtIndex). Knows (index_view_at i was) n q) holding knows).1

  index_there : (i : ℕ) → i ≢ at → (o : Option ℕ) → slice_get numbers i ≡ o → given.index i ≡ was.index i
  index_there i apart None none =
      subst (λ (o : Option ℕ). index_of (shows.unseen.unnamed i) (shown_at old.layout old.pages new.locks o) ≡ index_of (shows.unseen.unnamed i) (shown_at old.layout old.pages old.locks o)) (sym none) refl
  index_there i apart (Some m) there = same_index old.layout old.pages old.locks new.locks n gives (shows.unseen.unnamed i) (slice_get numbers i)
      (locks_none_there i apart (slice_get_within numbers i m there))

  steps_in : StepsIn at was given
  steps_in = record {
    below = inside_there;
    rows = record { layout = record { indexes = refl; rows_per_page = refl; heap_limit = refl }; blocks = refl; row = λ b k. refl; counts = λ t. refl };
    others = λ i. elim (cases_eq i at) [
      | inl same ↦ inl same
      | inr apart ↦ inr (index_there i apart (slice_get numbers i) refl)
    ];
    autosummarize = asks_same old.layout old.pages old.locks new.locks (slice_get numbers at);
  }

  frame_there : Frame n TouchesSummariseLock (index_view_at at was) (index_view_at at given)
  frame_there = record {
    heap = record { pages_per_range = per_range_same old.layout old.pages old.locks new.locks (slice_get numbers at); blocks = refl; row = λ b k. refl };
    map = record { entry = entry_same old.layout old.pages old.locks new.locks (slice_get numbers at) };
    tuples = record { tuple = tuple_same old.layout old.pages old.locks new.locks (slice_get numbers at) };
    unnamed_tuples = record { unnamed = λ x. refl };
    summarise_lock = tt;
    locks = own_locks old.layout old.pages old.locks new.locks n gives (slice_get numbers at);
    contents = contents_same old.layout old.pages old.locks new.locks (slice_get numbers at);
  }

  passes : SummariseLockPasses n (index_view_at at was) (index_view_at at given) (Some n) None
  passes = record {
    was = holds;
    now = refl;
    pages = pages_same old.layout old.pages old.locks new.locks (slice_get numbers at);
    frame = frame_there;
    none = none_left old.layout old.pages old.locks new.locks n gives (slice_get numbers at);
  }

  turns_there : TaskTurns n was given (Maintains job at range phase) Resting
  turns_there = record {
    was = at_there;
    now = pick_same n Resting (was.task n);
    others = λ m. pick_there m n Resting (was.task m);
  }

  -- what a refusal needs of its step
  record IsGiven (x v : TableState) : Type 0 where
    turns : TaskTurns n x v (Maintains job at range phase) Resting
    steps : StepsIn at x v
    lock : SummariseLockPasses n (index_view_at at x) (index_view_at at v) (Some n) None

  given_then : IsGiven w after
  given_then = subst (λ (v : TableState). IsGiven w v) given_is_after
      (subst (λ (x : TableState). IsGiven x given) (sym shows.shown) (record { turns = turns_there; steps = steps_in; lock = passes }))

pub maintenance_refusal_is_shown : MaintenanceRefusalIsShown
maintenance_refusal_is_shown old new stored p n table at range statement w job phase shows leaves pages gives free counts elsewhere here on is refused =
    let so = given_then old new stored n table at range w job phase shows pages gives is in
    let u : Unseen = record (task_turned n Resting shows.unseen) { summarise_lock = None } in
    let v : TableState = table_state (shown_by old.layout new.pages new.locks table shows.blocks) u in
    let made = maintenance_is_refused p n table at range statement w v job phase here on is refused so.turns so.steps so.lock in
    record {
      after = v;
      shows = own_table_goes_on old new stored n table w v u shows.blocks shows leaves (subst (λ (x : TableState). TableStep n x v) here made.0.step) refl
          (same_blocks old.layout old.pages new.pages table shows.blocks (λ block. pages (record { relation = heap_of table; block = block })) shows.has)
          (sym free) (λ t. shows.counts t ∙ sym (counts t)) (λ m away. pick_other m n Resting (shows.unseen.task m) away)
          (subst (λ (q : Task). IsTaskOf old.layout table shows.blocks new.transactions.tx stored (transaction_of new.transactions.opens n) (hand_in new.hands n) q) (sym (pick_same n Resting (shows.unseen.task n)))
          (rests_elsewhere old.layout table shows.blocks new.transactions.tx stored (transaction_of new.transactions.opens n) (hand_in new.hands n) elsewhere))
          (nothing_leaves_slots old stored n shows.blocks);
      turns = made.0;
      refused = made.1;
    }
