-- the first step of work that takes up a request, in a place that the store shows
use Rattle.std.proofs.Common.{◌≡◌, ◌≢◌, ◌⊎◌, inr, ℕ, ◌<◌, Bool, false, List, ◌∷◌, length, drop, Option, None, Some, refl, sym, ap, subst, ◌∙◌}
use Rattle.std.specs.Prelude.{slice_get}
use Rattle.std.proofs.lemmas.Bool.{false≢true}
use Rattle.std.proofs.lemmas.Option.{none-some, same_Some, slice_get_within}
use Rattle.block_model.specs.declared.place.Spot.{Spot}
use Rattle.block_model.specs.declared.reply.Point.{Point}
use Rattle.block_model.specs.declared.reply.Point.TheVariants as points
use Rattle.page_layout.specs.PageContents.{Slot}
use Rattle.page_locks.specs.RightHolders.{right_of}
use Rattle.store_layout.specs.declared.statement.Statement.TheVariants as statements
use Rattle.coverage.specs.Accounts.{Account, AccountIs, Accounts, Adds, Asked, no_account}
use Rattle.coverage.specs.Machines.{ShownTable, Unseen, table_state}
use Rattle.coverage.specs.Table.{Considers, Job, OneRange, Resting, TableState, Task}
use Rattle.coverage.specs.TablePoints.{does_point}
use Rattle.coverage.specs.TableSteps.{AsksSummary, BeginsScan, Blocked, Conflicts, Does, InsertCompletes, InsertGoes, Judges, MaintainCompletes, MaintainGoes, MarksRow, PrunesBlock, PutsRow, ReadsBlock, RefusesInsert, RefusesMaintain, RefusesRow, RefusesScan, RefusesVacuum, RestartsIndex, SameIndexes, SameRows, SweepsPage, TakesLock, Transacts, Work}
use Rattle.coverage.proofs.Views.{pick_same}
use Rattle.index_steps.specs.IndexTuples.{index_at}
use Rattle.index_steps.specs.ShownRows.{shown_by}
use Rattle.index_steps.specs.ShownTable.{indexes_of}
use Rattle.summarise_core.specs.declared.course.Standing.{Standing}
use Rattle.summarise_core.specs.declared.course.Standing.TheVariants as standings
use Rattle.summarise_core.specs.declared.wish.Wish.{Wish}
use Rattle.summarise_core.specs.declared.wish.Wish.TheVariants as wishes
use Rattle.summarise_core.specs.Summarises.{SummariseState, first_of, in_range_of}
use Rattle.summarise_core.specs.SummariseTable.{IsFirstWithin, SummariseGoes, first_task, job_of, task_of}
use Rattle.brin_insert.specs.AskedFor.{AreRequestsOf}
use Rattle.script_semantics.specs.Beginnings.{TakesUp}
use Rattle.script_semantics.specs.Place.{Place, accounts_at}
use Rattle.session_parts.specs.declared.hand.Hand.TheVariants as hands
use Rattle.session_parts.specs.ShowsPlace.{IsPlaceOf, ShowsTable}
use Rattle.session_parts.specs.StoreStates.{ShownStore, hand_in}
use Rattle.session_maintenance.specs.FirstRequests.{IsOfRange}
use Rattle.session_maintenance.proofs.SummariseTurns.{is_new}
use Rattle.session_maintenance.proofs.SummaryReplies.{block_not_complete}
use Rattle.session_maintenance.proofs.UpkeepAt.{IsUpkeep, at_task, here, kept_here, pages_show, unseen_here, w}
use Rattle.session_maintenance.proofs.UpkeepPoints.{IsPlain, is_considering, is_resting}
use Rattle.session_maintenance.proofs.UpkeepSteps.{MadeIn, turned}
use Rattle.session_maintenance.proofs.WorkAsked.{IsAskedSo, IsRestingAt, asked, asked_first, asked_table, asked_there, on_asked, same_place}

-- ---- a step from nothing to a range takes the summarise lock

record TakesTheLock (n : ℕ) (w v : TableState) (point : Point) : Type 0 where
  others : (m : ℕ) → (m ≡ n) ⊎ (v.task m ≡ w.task m)
  free : w.summarise_lock ≡ None
  held : v.summarise_lock ≡ Some n
  rows : SameRows w v
  indexes : SameIndexes w v
  right : points.Right ≡ point

module _ (n : ℕ) (w v : TableState) (point : Point) (job : Job) (at range : ℕ) (was : w.task n ≡ Resting) (now : v.task n ≡ Considers job at range) where
  not_here : (task : Task) → w.task n ≡ task → is_resting task ≡ false → ⊥
  not_here task is other = false≢true (sym other ∙ ap is_resting (sym is ∙ was))

  not_then : (task : Task) → v.task n ≡ task → is_considering task ≡ false → ⊥
  not_then task is other = false≢true (sym other ∙ ap is_considering (sym is ∙ now))

  takes_the_lock : (does : Does n w v) → does_point n w v does ≡ Some point → TakesTheLock n w v point
  takes_the_lock (PutsRow b k r place turns takes) is = absurd (not_then _ turns.now refl)
  takes_the_lock (RefusesRow t refused turns fails) is = absurd (none-some _ is)
  takes_the_lock (AsksSummary b k r i turns only) is = absurd (not_here _ turns.was refl)
  takes_the_lock (InsertGoes b k r i old new turns stepped step) is = absurd (not_here _ turns.was refl)
  takes_the_lock (InsertCompletes b k r i old turns stepped step) is = absurd (not_here _ turns.was refl)
  takes_the_lock (RefusesInsert b k r old refused turns fails) is = absurd (none-some _ is)
  takes_the_lock (TakesLock first begins turns free held rows indexes) is = record { others = turns.others; free = free; held = held; rows = rows; indexes = indexes; right = same_Some _ _ is }
  takes_the_lock (MaintainGoes j i m old new turns stepped step) is = absurd (not_here _ turns.was refl)
  takes_the_lock (MaintainCompletes j i m old turns stepped step) is = absurd (not_here _ turns.was refl)
  takes_the_lock (RefusesMaintain j i m q refused turns stepped passes) is = absurd (none-some _ is)
  takes_the_lock (RefusesVacuum old vacuuming turns given rows indexes) is = absurd (none-some _ is)
  takes_the_lock (PrunesBlock extent next dropped inside spared turns drops) is = absurd (not_here _ turns.was refl)
  takes_the_lock (SweepsPage i page turns stepped sweeps) is = absurd (not_here _ turns.was refl)
  takes_the_lock (RestartsIndex i turns only) is = absurd (not_here _ turns.was refl)
  takes_the_lock (BeginsScan scan begins turns only) is = absurd (not_then _ turns.now refl)
  takes_the_lock (Judges old new inside low step turns only) is = absurd (not_here _ turns.was refl)
  takes_the_lock (ReadsBlock scan next found reads turns only) is = absurd (not_here _ turns.was refl)
  takes_the_lock (RefusesScan scan t turns how) is = absurd (none-some _ is)
  takes_the_lock (MarksRow scan id rest turns only) is = absurd (not_here _ turns.was refl)
  takes_the_lock (Conflicts scan id rest t turns fails) is = absurd (none-some _ is)
  takes_the_lock (Blocked task blocked turns only) is = absurd (none-some _ is)
  takes_the_lock (Transacts counts resting few same) is = absurd (none-some _ is)

-- ---- the step in the place

-- with the empty account that each statement begins with
abbrev pub emptied : Account → Account
emptied account = no_account

module _ (old new : ShownStore) (n : ℕ) (a b : SummariseState) (range : ℕ) (is : IsUpkeep old.layout hands.Working a.index (IsRestingAt old.layout a.index) no_account) (had : hand_in old.hands n ≡ Some hands.Working) (p : Place) (shown : IsPlaceOf old p)
    (begins : a.standing ≡ standings.Begins) (ranged : IsOfRange old.layout a range) (first : slice_get old.queue 0 ≡ Some (a.index, range)) (later : new.queue ≡ drop 1 old.queue) where
  abbrev number : ℕ
  number = (index_at old.layout a.index).table

  abbrev shows : ShowsTable old shown.database.stored number (p.tables number)
  shows = here old n hands.Working a.index (IsRestingAt old.layout a.index) no_account is had p shown

  abbrev blocks : List (List Slot)
  blocks = shows.blocks

  abbrev u : Unseen
  u = unseen_here old n hands.Working a.index (IsRestingAt old.layout a.index) no_account is had p shown

  abbrev before : TableState
  before = w old n hands.Working a.index (IsRestingAt old.layout a.index) no_account is had p shown

  abbrev it : IsRestingAt old.layout a.index (u.task n)
  it = at_task old n hands.Working a.index (IsRestingAt old.layout a.index) no_account is had p shown

  abbrev shown_then : ShownTable
  shown_then = shown_by old.layout new.pages new.locks number blocks

  abbrev one : IsAskedSo old.layout old.queue p.queue (a.index, range)
  one = asked old n had p shown (a.index, range) first

  pub not_complete : a.wish ≢ wishes.Complete
  not_complete complete = block_not_complete ranged.0 (sym ranged.1 ∙ complete)

  same_at : one.one.at ≡ it.0
  same_at = same_place old.layout number one.one.at it.0 a.index (asked_there old n had p shown (a.index, range) first) it.1

  same_table : one.one.table ≡ number
  same_table = asked_table old n had p shown (a.index, range) first

  -- what it is at before it is judged where it goes on
  abbrev pub its_first : Task
  its_first = Considers (OneRange (length blocks) range) it.0 range

  first_is : first_task old.layout it.0 (length blocks) a ≡ its_first
  first_is = ap (λ (wish : Wish). Considers (job_of wish (in_range_of old.layout a.index) (length blocks)) it.0 (first_of wish (in_range_of old.layout a.index))) ranged.1
      ∙ ap (λ (r : ℕ). Considers (OneRange (length blocks) r) it.0 r) ranged.2

  queue_is : p.queue ≡ record { table = number; at = it.0; range = range } ∷ one.rest
  queue_is = one.is ∙ (λ j. record { table = same_table j; at = same_at j; range = one.of.range j } ∷ one.rest)

  module _ (point : Point) (between : Task) (unnamed : ℕ → Spot → Bool) (does : Does n before (table_state shown_then (turned n (Some n) between unnamed u)))
      (named : does_point n before (table_state shown_then (turned n (Some n) between unnamed u)) does ≡ Some point) (between_is : between ≡ its_first) where
    abbrev within : TableState
    within = table_state shown_then (turned n (Some n) between unnamed u)

    within_is : within.task n ≡ its_first
    within_is = pick_same n between (u.task n) ∙ between_is

    takes : TakesTheLock n before within point
    takes = takes_the_lock n before within point (OneRange (length blocks) range) it.0 range it.2 within_is does named

    below : it.0 < before.indexes
    below = slice_get_within (indexes_of old.layout number) it.0 a.index it.1

    abbrev as_work : Does n before within
    as_work = TakesLock its_first (Work it.0 range below) (record { was = it.2; now = within_is; others = takes.others }) takes.free takes.held takes.rows takes.indexes

    adds_so : (c : Accounts) → AccountIs n (record (accounts_at p number) { queue = one.rest }) c no_account → Adds n before within as_work (accounts_at p number) c
    adds_so c has = (has.account, queue_is ∙ ap (λ (l : List Asked). record { table = number; at = it.0; range = range } ∷ l) (sym has.queue))

    plain : IsPlain point
    plain = subst IsPlain takes.right tt

  -- a step that goes on, or replies
  pub made_first : (point : Point) (account : Account → Account) (held_then : Option ℕ)
      → SummariseGoes n (pages_show old n hands.Working a.index (IsRestingAt old.layout a.index) no_account is had p shown) shown_then (right_of old.rights number) held_then (task_of old.layout it.0 a) (task_of old.layout it.0 b) point account a.standing
      (first_task old.layout it.0 (length blocks) a)
      → held_then ≡ right_of new.rights number
      → (made : MadeIn old new n hands.Working a.index (IsRestingAt old.layout a.index) no_account is had p shown point) × (made.after ≡ task_of old.layout it.0 b) × (made.between ≡ its_first) × (made.adds ≡ emptied)
  made_first point account held_then goes right =
      let kept = kept_here old n hands.Working a.index (IsRestingAt old.layout a.index) no_account is had p shown in
      let new_task = it.2 ∙ sym (is_new old.layout it.0 a not_complete begins) in
      let so = goes.0 u new_task shows.lock kept in
      let between_is = subst (λ (q : Standing). IsFirstWithin q (first_task old.layout it.0 (length blocks) a) so.2) begins (goes.1 u new_task shows.lock kept) ∙ first_is in (
        record {
          adds = emptied;
          between = so.2;
          after = task_of old.layout it.0 b;
          held = held_then;
          unnamed = so.0;
          queue = one.rest;
          requests = subst (λ (l : List (ℕ × ℕ)). AreRequestsOf old.layout l one.rest) (sym later) one.left;
          turns = record {
            on = on_asked old n had p shown (a.index, range) first;
            takes = subst (λ (t : Task). TakesUp statements.Work t p.queue one.rest) (sym it.2) (one.one, one.is);
            does = as_work point so.2 so.0 so.3.does so.3.point_is between_is;
            point_is = ap Some (takes point so.2 so.0 so.3.does so.3.point_is between_is).right;
            adds = adds_so point so.2 so.0 so.3.does so.3.point_is between_is;
            settles = so.4;
            own = inr (one.one, asked_first old n had p shown (a.index, range) first, between_is ∙ sym (λ j. Considers (OneRange (length blocks) (one.of.range j)) (same_at j) (one.of.range j)));
            plain = plain point so.2 so.0 so.3.does so.3.point_is between_is;
          };
          right = right;
        },
        refl,
        between_is,
        refl,
      )
