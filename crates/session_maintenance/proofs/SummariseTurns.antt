-- a step of a summarise, in a place that the store shows: of the statement itself, or of work
use Rattle.std.proofs.Common.{◌≡◌, ◌≢◌, ◌⊎◌, inl, inr, ℕ, ◌/◌, ◌<◌, Bool, List, [], length, Option, None, Some, refl, sym, ap, subst, ◌∙◌, arith}
use Rattle.std.specs.Prelude.{slice_get}
use Rattle.std.proofs.lemmas.Option.{none-some, same_Some}
use Rattle.block_model.specs.declared.reply.Point.{Point}
use Rattle.block_model.specs.declared.request.Tag.{Tag}
use Rattle.block_model.specs.DatabaseState.{OpenTransaction}
use Rattle.block_model.specs.declared.place.Spot.{Spot}
use Rattle.store_layout.specs.DiskLayout.{DiskLayout}
use Rattle.page_layout.specs.PageContents.{Slot}
use Rattle.page_map.specs.PageMap.{PageMap}
use Rattle.page_locks.specs.declared.did.Did.{Did}
use Rattle.page_locks.specs.declared.did.Did.TheVariants as did
use Rattle.page_locks.specs.LockHolders.{LockState}
use Rattle.page_locks.specs.RightHolders.{right_of}
use Rattle.snapshot_core.specs.declared.sessions.Open.{Open}
use Rattle.store_layout.specs.declared.statement.Statement.TheVariants as statements
use Rattle.coverage.specs.Statements.{Phase}
use Rattle.index_steps.specs.IndexTuples.{index_at, shape_of}
use Rattle.index_steps.specs.ShownRows.{shown_by}
use Rattle.index_steps.specs.ShownTable.{indexes_of, shown_at}
use Rattle.coverage.specs.Accounts.{Account, Asked, no_account}
use Rattle.coverage.specs.InOneIndex.{DoesAt}
use Rattle.coverage.specs.Machines.{ShownTable, Unseen, table_state}
use Rattle.coverage.specs.Table.{Considers, Job, Maintains, OneRange, Resting, TableState, Task}
use Rattle.coverage.specs.TableCovered.{IsMaintenance}
use Rattle.coverage.proofs.Views.{pick_same}
use Rattle.summarise_core.specs.SummariseHands.{table_of}
use Rattle.summarise_core.specs.SummariseSteps.{phase_of}
use Rattle.summarise_core.specs.declared.course.Standing.{Standing}
use Rattle.summarise_core.specs.declared.course.Standing.TheVariants as standings
use Rattle.summarise_core.specs.declared.wish.Wish.{Wish}
use Rattle.summarise_core.specs.declared.wish.Wish.TheVariants as wishes
use Rattle.summarise_core.specs.Summarises.{IsSummariseOf, RightAnswers, StoreStep, SummariseDoes, SummariseState, count_of, first_of, held_by, in_range_of}
use Rattle.summarise_core.specs.SummariseTable.{DoesInTable, HasCounted, IsFirstWithin, LeavesTheRest, SummariseGoes, account_by, before_first, behind_last, first_task, held_behind, indexes_left, job_of, task_at, task_of}
use Rattle.brin_insert.specs.AskedFor.{AreRequestsOf}
use Rattle.script_semantics.specs.Beginnings.{Begins, IsIn, StandsAt, TakesUp}
use Rattle.script_semantics.specs.Place.{Place, accounts_at}
use Rattle.script_semantics.specs.Requests.{refused_request}
use Rattle.script_semantics.specs.StatementSteps.{PutsTuples}
use Rattle.session_parts.specs.declared.hand.Hand.{Hand}
use Rattle.session_parts.specs.declared.hand.Hand.TheVariants as hands
use Rattle.session_parts.specs.Hands.{block_of, statement_of}
use Rattle.session_parts.specs.HandFits.{IsHandFor, locks_held, right_at, right_held}
use Rattle.session_parts.specs.Shares.{hand_share}
use Rattle.session_parts.specs.ShowsPlace.{IsLeftToMark, IsPlaceOf}
use Rattle.session_parts.specs.StoreStates.{ShownStore, hand_in}
use Rattle.session_parts.proofs.Steps.{takes_none}
use Rattle.session_maintenance.proofs.SummariseLocks.{OthersStay, same_stays, set_stays, set_there}
use Rattle.session_maintenance.proofs.UpkeepAt.{IsUpkeep, IsUpkeepAt, at_task, counted, here, kept_here, pages_show, table, unseen_here, w}
use Rattle.session_maintenance.proofs.UpkeepPoints.{IsPlain, first_point, maintain_point}
use Rattle.session_maintenance.proofs.UpkeepSteps.{MadeIn, turned}

-- ---- a summarise in hand

not_work : (index : ℕ) (block : Option ℕ) → statements.Summarize index block ≢ statements.Work
not_work index block is = cc

of_any_copy : (copy : Option OpenTransaction) (a : SummariseState) → IsLeftToMark copy (hands.Summarises a)
of_any_copy None a = tt
of_any_copy (Some x) a = tt

pub right_of_its : (own table : ℕ) (standing : Standing) → right_at own standing ≡ Some table → table ≡ own
right_of_its own table standings.Begins has = absurd (none-some table has)
right_of_its own table standings.AtRange has = sym (same_Some own table has)
right_of_its own table standings.Done has = absurd (none-some table has)

-- at its index's place among the table's, it is at this
abbrev pub IsSummaryAt : DiskLayout → SummariseState → Task → Type 0
IsSummaryAt layout a = IsUpkeepAt layout a.index (λ at. task_of layout at a)

pub is_summarise : (layout : DiskLayout) (a : SummariseState) → a.index < length layout.schema.indexes → (index_at layout a.index).table < length layout.schema.tables
    → IsUpkeep layout (hands.Summarises a) a.index (IsSummaryAt layout a) (counted (count_of a))
is_summarise layout a within below = record {
  within = within;
  below = below;
  lock = refl;
  asks = λ n answers. refl;
  answers = λ answers is. is;
  answered = refl;
  tells = λ account is. is;
  told = refl;
  none = refl;
  own = λ transaction copy. of_any_copy copy a;
  in_table = λ table has. sym (same_Some (index_at layout a.index).table table has);
  no_insert = tt;
  asked = λ asked. tt;
  right = λ table has. right_of_its (index_at layout a.index).table table a.standing has;
  task_is = λ table blocks tx stored transaction now is. is;
  is_task = λ table blocks tx stored transaction now is. is;
}

-- ---- what its first step begins with

begins_by : (p : Place) (n : ℕ) (w : TableState) (index at in_range : ℕ) (wish : Wish) → wish ≢ wishes.Complete → StandsAt p.layout index at → (w.index at).pages_per_range ≡ in_range
    → Begins p n w (statements.Summarize index (block_of wish)) (Considers (job_of wish in_range w.blocks) at (first_of wish in_range))
begins_by p n w index at in_range wishes.New other stands each = (at, stands, refl)
begins_by p n w index at in_range (wishes.Block block) other stands each = (at, stands, ap (λ (m : ℕ). Considers (OneRange w.blocks (block / m)) at (block / m)) (sym each))
begins_by p n w index at in_range wishes.Complete other stands each = absurd (other refl)

begins_there : (layout : DiskLayout) (pages : PageMap) (locks : LockState) (blocks : List (List Slot)) (u : Unseen) (p : Place) (n at : ℕ) (a : SummariseState) → p.layout ≡ layout → a.wish ≢ wishes.Complete → StandsAt layout a.index at
    → Begins p n (table_state (shown_by layout pages locks (index_at layout a.index).table blocks) u) (statements.Summarize a.index (block_of a.wish)) (first_task layout at (length blocks) a)
begins_there layout pages locks blocks u p n at a same other stands =
    begins_by p n (table_state (shown_by layout pages locks (index_at layout a.index).table blocks) u) a.index at (in_range_of layout a.index) a.wish other
    (subst (λ (l : DiskLayout). StandsAt l a.index at) (sym same) stands) (ap (λ (o : Option ℕ). (shown_at layout pages locks o).pages_per_range) stands)

-- ---- by where it stands

first_rests : (wish : Wish) (at : ℕ) → wish ≢ wishes.Complete → before_first wish at ≡ Resting
first_rests wishes.New at other = refl
first_rests (wishes.Block block) at other = refl
first_rests wishes.Complete at other = absurd (other refl)

last_rests : (wish : Wish) (at left : ℕ) → wish ≢ wishes.Complete → behind_last wish at left ≡ Resting
last_rests wishes.New at left other = refl
last_rests (wishes.Block block) at left other = refl
last_rests wishes.Complete at left other = absurd (other refl)

pub last_gives : (wish : Wish) (s left : ℕ) → wish ≢ wishes.Complete → held_behind wish s left ≡ None
last_gives wishes.New s left other = refl
last_gives (wishes.Block block) s left other = refl
last_gives wishes.Complete s left other = absurd (other refl)

empty_first : (wish : Wish) (count : ℕ) (account : Account) → wish ≢ wishes.Complete → account_by wish standings.Begins count account ≡ no_account
empty_first wishes.New count account other = refl
empty_first (wishes.Block block) count account other = refl
empty_first wishes.Complete count account other = absurd (other refl)

pub counts_on : (wish : Wish) (standing : Standing) (before count after : ℕ) → wish ≢ wishes.Complete → HasCounted standing before count after → account_by wish standing count (counted before) ≡ counted after
counts_on wish standings.Begins before count after other counts = empty_first wish count (counted before) other ∙ ap counted (sym counts)
counts_on wish standings.AtRange before count after other counts = ap counted (sym counts)
counts_on wish standings.Done before count after other counts = ap counted (sym counts)

maintains_on : (job : Job) (at range : ℕ) (phase : Phase) → Maintains job at range phase ≢ Resting
maintains_on job at range phase is = cc

-- at a range it is a maintenance statement of its table
pub at_range : (layout : DiskLayout) (at : ℕ) (a : SummariseState) → a.standing ≡ standings.AtRange
    → task_of layout at a ≡ Maintains (job_of a.wish (in_range_of layout a.index) a.extent) at a.range (phase_of (shape_of layout a.index) a.hand)
at_range layout at a is = ap (λ (q : Standing). task_at layout at a q) is

pub is_busy : (layout : DiskLayout) (at : ℕ) (a : SummariseState) → a.standing ≡ standings.AtRange → task_of layout at a ≢ Resting
is_busy layout at a is rests = maintains_on _ _ _ _ (sym (at_range layout at a is) ∙ rests)

pub is_over : (layout : DiskLayout) (at : ℕ) (a : SummariseState) → a.wish ≢ wishes.Complete → a.standing ≡ standings.Done → task_of layout at a ≡ Resting
is_over layout at a other is = ap (λ (q : Standing). task_at layout at a q) is ∙ last_rests a.wish at (indexes_left layout a.index at) other

-- before its first step it is at nothing
pub is_new : (layout : DiskLayout) (at : ℕ) (a : SummariseState) → a.wish ≢ wishes.Complete → a.standing ≡ standings.Begins → task_of layout at a ≡ Resting
is_new layout at a other is = ap (λ (q : Standing). task_at layout at a q) is ∙ first_rests a.wish at other

-- ---- the statements that make its steps

-- A statement that makes the steps of a summarise, with it in hand: a summarise itself, or work at the range of its request.
pub record IsBySummarise (layout : DiskLayout) (own : Option Open) (hand : SummariseState → Hand) : Type 0 where
  pub of : (a : SummariseState) → IsHandFor layout own (hand a) → IsSummariseOf layout a
  pub left : (a : SummariseState) → IsHandFor layout own (hand a) → a.standing ≢ standings.Done
  pub wish : (a : SummariseState) → IsHandFor layout own (hand a) → a.wish ≢ wishes.Complete
  -- it stays fit where the summarise is at a range then, or stands where it stood
  pub goes : (a b : SummariseState) → IsHandFor layout own (hand a) → IsSummariseOf layout b → b.index ≡ a.index → b.wish ≡ a.wish → (b.standing ≡ standings.AtRange) ⊎ (b.standing ≡ a.standing) → IsHandFor layout own (hand b)
  pub upkeep : (a : SummariseState) → IsHandFor layout own (hand a) → (index_at layout a.index).table < length layout.schema.tables
      → IsUpkeep layout (hand a) a.index (IsSummaryAt layout a) (counted (count_of a))
  pub same : (a b : SummariseState) → b.index ≡ a.index → b.wish ≡ a.wish → statement_of (hand b) ≡ statement_of (hand a)
  pub locks : (a : SummariseState) → locks_held (Some (hand a)) ≡ held_by a
  pub right : (a : SummariseState) → right_held layout (Some (hand a)) ≡ right_at (index_at layout a.index).table a.standing
  pub share : (a : SummariseState) → hand_share (Some (hand a)) ≡ 0
  pub enters : (a : SummariseState) (n : ℕ) (tag : Tag) → refused_request n tag (statement_of (hand a)) ≡ []
  pub puts : (a : SummariseState) → PutsTuples (statement_of (hand a))
  pub begins : (a : SummariseState) → IsHandFor layout own (hand a) → a.standing ≡ standings.Begins → (pages : PageMap) (locks : LockState) (blocks : List (List Slot)) (u : Unseen) (p : Place) (n at : ℕ) → p.layout ≡ layout
      → StandsAt layout a.index at → Begins p n (table_state (shown_by layout pages locks (index_at layout a.index).table blocks) u) (statement_of (hand a)) (first_task layout at (length blocks) a)
  pub on : (a : SummariseState) → IsHandFor layout own (hand a) → (index_at layout a.index).table < length layout.schema.tables → (p : Place) (n at : ℕ) → p.layout ≡ layout
      → (p.tables (index_at layout a.index).table).task n ≡ task_of layout at a → IsIn p n (statement_of (hand a)) (index_at layout a.index).table
  pub takes : (a : SummariseState) → IsHandFor layout own (hand a) → (at : ℕ) (queue : List Asked) → TakesUp (statement_of (hand a)) (task_of layout at a) queue queue

not_done : standings.AtRange ≢ standings.Done
not_done is = cc

goes_left : (a b : SummariseState) → a.standing ≢ standings.Done → (b.standing ≡ standings.AtRange) ⊎ (b.standing ≡ a.standing) → b.standing ≢ standings.Done
goes_left a b left stands done = elim stands [
  | inl at ↦ not_done (sym at ∙ done)
  | inr same ↦ left (sym same ∙ done)
]

pub by_summarise : (layout : DiskLayout) (own : Option Open) → IsBySummarise layout own (λ a. hands.Summarises a)
by_summarise layout own = record {
  of = λ a fit. fit.0;
  left = λ a fit. fit.1;
  wish = λ a fit. fit.2;
  goes = λ a b fit of index wish stands. (of, goes_left a b fit.1 stands, λ complete. fit.2 (sym wish ∙ complete));
  upkeep = λ a fit below. is_summarise layout a fit.0.index below;
  same = λ a b index wish. λ j. statements.Summarize (index j) (block_of (wish j));
  locks = λ a. refl;
  right = λ a. refl;
  share = λ a. refl;
  enters = λ a n tag. refl;
  puts = λ a. tt;
  begins = λ a fit begins pages locks blocks u p n at same stands. begins_there layout pages locks blocks u p n at a same fit.2 stands;
  on = λ a fit below p n at same is. ap (λ (l : DiskLayout). (index_at l a.index).table) (sym same);
  takes = λ a fit at queue. takes_none (statements.Summarize a.index (block_of a.wish)) (task_of layout at a) queue queue (omega arith) (not_work a.index (block_of a.wish));
}

-- ---- the summarise lock behind its step

-- a step that isn't blocked has it
abbrev pub HasIt : Did → Type 0
HasIt (did.Moved point) = Unit {0}
HasIt (did.Finished point) = Unit {0}
HasIt answer = ⊥

pub right_left : (table s : ℕ) (rights righted : List (Option ℕ)) (standing : Standing) (answer : Did) → table < length rights → RightAnswers table s rights righted standing answer → OthersStay table s rights righted
right_left own s rights righted standings.Begins (did.Moved point) below right = set_stays own s (Some s) rights righted below (λ m is. sym (same_Some s m is)) right.1
right_left own s rights righted standings.Begins (did.Finished point) below right = set_stays own s (Some s) rights righted below (λ m is. sym (same_Some s m is)) right.1
right_left own s rights righted standings.Begins (did.Blocked held) below right = set_stays own s (Some s) rights righted below (λ m is. sym (same_Some s m is)) right.1
right_left own s rights righted standings.Begins (did.NoRight by) below right = same_stays own s rights righted right.2
right_left own s rights righted standings.AtRange answer below right = same_stays own s rights righted right
right_left own s rights righted standings.Done answer below right = same_stays own s rights righted right

pub right_taken : (table s : ℕ) (rights righted : List (Option ℕ)) (standing : Standing) (answer : Did) → RightAnswers table s rights righted standing answer → HasIt answer → table < length rights
    → (standing ≡ standings.AtRange → right_of rights table ≡ Some s) → standing ≢ standings.Done → right_of righted table ≡ Some s
right_taken own s rights righted standings.Begins (did.Moved point) right has below held left = set_there own (Some s) rights righted below right.1
right_taken own s rights righted standings.Begins (did.Finished point) right has below held left = set_there own (Some s) rights righted below right.1
right_taken own s rights righted standings.Begins (did.Blocked h) right has below held left = absurd has
right_taken own s rights righted standings.Begins (did.NoRight by) right has below held left = absurd has
right_taken own s rights righted standings.AtRange answer right has below held left = ap (λ (l : List (Option ℕ)). right_of l own) right ∙ held refl
right_taken own s rights righted standings.Done answer right has below held left = absurd (left refl)

-- ---- its step in the place

-- what the law of its machine says
abbrev pub StepsInTable : Type 0
StepsInTable = (step : StoreStep) (at : ℕ) (a b : SummariseState) (answer : Did) → slice_get (indexes_of step.layout (table_of step.layout a.index)) at ≡ Some a.index → IsSummariseOf step.layout a
    → LeavesTheRest step a.index → SummariseDoes step a b answer → DoesInTable step at a b answer

-- at a range it holds the summarise lock of its table
pub holds_there : (old : ShownStore) (n : ℕ) (was : Hand) (a : SummariseState) (is : IsUpkeep old.layout was a.index (IsSummaryAt old.layout a) (counted (count_of a))) (had : hand_in old.hands n ≡ Some was)
    → (p : Place) (shown : IsPlaceOf old p) → a.standing ≡ standings.AtRange → right_of old.rights (index_at old.layout a.index).table ≡ Some n
holds_there old n was a is had p shown at =
    let shows = here old n was a.index (IsSummaryAt old.layout a) (counted (count_of a)) is had p shown in
    let it = at_task old n was a.index (IsSummaryAt old.layout a) (counted (count_of a)) is had p shown in
    let kept = kept_here old n was a.index (IsSummaryAt old.layout a) (counted (count_of a)) is had p shown in
    sym shows.lock ∙ (kept.summarise_lock n).1 (subst (λ (t : Task). IsMaintenance t) (sym (it.2 ∙ at_range old.layout it.0 a at)) tt)

module _ (old new : ShownStore) (n : ℕ) (own : Option Open) (hand : SummariseState → Hand) (by : IsBySummarise old.layout own hand) (a b : SummariseState) (fit : IsHandFor old.layout own (hand a)) (is : IsUpkeep old.layout (hand a) a.index (IsSummaryAt old.layout a) (counted (count_of a))) (had : hand_in old.hands n ≡ Some (hand a))
    (p : Place) (shown : IsPlaceOf old p) where
  abbrev number : ℕ
  number = table old n (hand a) a.index (IsSummaryAt old.layout a) (counted (count_of a)) is had p shown

  abbrev blocks : List (List Slot)
  blocks = (here old n (hand a) a.index (IsSummaryAt old.layout a) (counted (count_of a)) is had p shown).blocks

  abbrev u : Unseen
  u = unseen_here old n (hand a) a.index (IsSummaryAt old.layout a) (counted (count_of a)) is had p shown

  abbrev there : IsSummaryAt old.layout a (u.task n)
  there = at_task old n (hand a) a.index (IsSummaryAt old.layout a) (counted (count_of a)) is had p shown

  abbrev shown_then : ShownTable
  shown_then = shown_by old.layout new.pages new.locks number blocks

  module _ (point : Point) (account : Account → Account) (between : Task) (unnamed : ℕ → Spot → Bool)
      (does : DoesAt n (w old n (hand a) a.index (IsSummaryAt old.layout a) (counted (count_of a)) is had p shown) (table_state shown_then (turned n (Some n) between unnamed u)) point account)
      (first : IsFirstWithin a.standing (first_task old.layout there.0 (length blocks) a) between) where
    abbrev Own : Type 0
    Own = (u.task n ≢ Resting) ⊎ Begins p n (w old n (hand a) a.index (IsSummaryAt old.layout a) (counted (count_of a)) is had p shown) (statement_of (hand a)) between

    own_by : (standing : Standing) → a.standing ≡ standing → Own × IsPlain point
    own_by standings.Begins at =
        let between_is : between ≡ first_task old.layout there.0 (length blocks) a = subst (λ (q : Standing). IsFirstWithin q (first_task old.layout there.0 (length blocks) a) between) at first in (
          inr (subst (λ (t : Task). Begins p n (w old n (hand a) a.index (IsSummaryAt old.layout a) (counted (count_of a)) is had p shown) (statement_of (hand a)) t) (sym between_is)
              (by.begins a fit at old.pages old.locks blocks u p n there.0 shown.layout there.1)),
          first_point n _ _ point _ _ _ (there.2 ∙ is_new old.layout there.0 a (by.wish a fit) at) (pick_same n between (u.task n) ∙ between_is) does.does does.point_is,
        )
    own_by standings.AtRange at = (
      inl (λ rests. is_busy old.layout there.0 a at (sym there.2 ∙ rests)),
      maintain_point n _ _ point _ _ _ _ (there.2 ∙ at_range old.layout there.0 a at) does.does does.point_is,
    )
    own_by standings.Done at = absurd (by.left a fit at)

    pub own_so : Own × IsPlain point
    own_so = own_by a.standing refl

  -- a step that goes on, or replies
  pub made_by : (point : Point) (count : ℕ) (held_then : Option ℕ)
      → SummariseGoes n (pages_show old n (hand a) a.index (IsSummaryAt old.layout a) (counted (count_of a)) is had p shown) shown_then (right_of old.rights number) held_then (task_of old.layout there.0 a) (task_of old.layout there.0 b) point
      (account_by a.wish a.standing count) a.standing (first_task old.layout there.0 (length blocks) a)
      → held_then ≡ right_of new.rights number → new.queue ≡ old.queue
      → (made : MadeIn old new n (hand a) a.index (IsSummaryAt old.layout a) (counted (count_of a)) is had p shown point) × (made.after ≡ task_of old.layout there.0 b) × (made.adds ≡ account_by a.wish a.standing count)
  made_by point count held_then goes right same_queue =
      let kept = kept_here old n (hand a) a.index (IsSummaryAt old.layout a) (counted (count_of a)) is had p shown in
      let shows = here old n (hand a) a.index (IsSummaryAt old.layout a) (counted (count_of a)) is had p shown in
      let lock = shows.lock in
      let it = goes.0 u there.2 lock kept in
      let so = own_so point (account_by a.wish a.standing count) it.2 it.0 it.3 (goes.1 u there.2 lock kept) in (
        record {
          adds = account_by a.wish a.standing count;
          between = it.2;
          after = task_of old.layout there.0 b;
          held = held_then;
          unnamed = it.0;
          queue = p.queue;
          requests = subst (λ (l : List (ℕ × ℕ)). AreRequestsOf old.layout l p.queue) (sym same_queue) shown.queue;
          turns = record {
            on = by.on a fit is.below p n there.0 shown.layout (ap (λ (x : TableState). x.task n) shows.shown ∙ there.2);
            takes = subst (λ (t : Task). TakesUp (statement_of (hand a)) t p.queue p.queue) (sym there.2) (by.takes a fit there.0 p.queue);
            does = it.3.does;
            point_is = it.3.point_is;
            adds = λ b has. it.3.adds (accounts_at p number) b has;
            settles = it.4;
            own = so.0;
            plain = so.1;
          };
          right = right;
        },
        refl,
        refl,
      )
