-- A maintenance statement that steps at a range of one index, from place to place.
use Rattle.std.proofs.Common.{◌≡◌, ◌≢◌, ◌⊎◌, inl, inr, ℕ, suc, ◌+◌, ◌≤◌, ◌<◌, List, [], ◌∷◌, length, Option, None, Some, refl, sym, ap, ◌∙◌}
use Rattle.block_model.specs.declared.reply.Point.{Point}
use Rattle.block_model.specs.declared.reply.Point.TheVariants as points
use Rattle.block_model.specs.declared.reply.Reply.{Reply}
use Rattle.coverage.specs.IndexPart.{IndexPart}
use Rattle.coverage.specs.Statements.{Empty, Phase, NotBuilding, Maintaining, Holding}
use Rattle.script_semantics.specs.Beginnings.{Begins, IsIn, TakesUp}
use Rattle.script_semantics.specs.LineTexts.{with_statement}
use Rattle.script_semantics.specs.Place.{Hand, Place, accounts_at, new_hand, updated}
use Rattle.script_semantics.specs.Requests.{next_request}
use Rattle.script_semantics.specs.StatementSteps.{Ended, MakesAt, course_of, reply_after}
use Rattle.script_semantics.specs.Turns.{PrunesTheDead, Recounts}
use Rattle.script_semantics.proofs.Bare.{updated_there}
use Rattle.script_semantics.proofs.Orders.{updated_here}
use Rattle.reply_texts.specs.StepTexts.{point_word}
use Rattle.store_layout.specs.declared.limits.TheConstants.{MAX_ENTRIES}
use Rattle.store_layout.specs.declared.statement.Statement.{Statement}
use Rattle.coverage.specs.Accounts.{Account, Accounts, Adds, Asked, no_account}
use Rattle.coverage.specs.InOneIndex.{index_with, with_ranges}
use Rattle.coverage.specs.Table.{Index, Job, Task, Resting, Considers, Maintains, Prunes, TableState}
use Rattle.coverage.specs.TableSteps.{BeginsWith, Does, HasRange, IsLastIndex, PrunesBlock, SameRows, TakesLock, TaskTurns}
use Rattle.script_laws.proofs.Places.{Answer, Made, RunEnds, before, goes, replies_with, updated_both}
use Rattle.script_laws.proofs.Stages.{Counting, Makes, Moves, Stage, finally, first, further, state_of}

-- a statement that prunes no block prunes the dead
pub no_prune : (q : Place) {s : ℕ} {w v : TableState} (does : Does s w v) → ((extent next : ℕ) → w.task s ≡ Prunes extent next → ⊥) → PrunesTheDead q does
no_prune q (PrunesBlock extent next dropped inside spared turns drops) not = absurd (not extent next turns.was)
no_prune q does not = tt

not_resting : (job : Job) (at range : ℕ) (phase : Phase) (task : Task) → task ≡ Maintains job at range phase → task ≢ Resting
not_resting job at range phase task is rests = absurd (cc)

not_prunes : (job : Job) (at range : ℕ) (phase : Phase) (task : Task) → task ≡ Maintains job at range phase → (extent next : ℕ) → task ≡ Prunes extent next → ⊥
not_prunes job at range phase task is extent next other = absurd (cc)

pub rests_not_prunes : (task : Task) → task ≡ Resting → (extent next : ℕ) → task ≡ Prunes extent next → ⊥
rests_not_prunes task is extent next other = absurd (cc)

-- so many rows, unnamed tuples and ranges are counted
abbrev pub counted : (rows unnamed k : ℕ) → Account
counted rows unnamed k = record { rows = rows; unnamed = unnamed; ranges = k; dropped = [] }

module _ (p : Place) (n t at : ℕ) (st : Statement) (rows unnamed : ℕ) where
  -- the session's hand, this table, and what the statement counted rows unnamed so far; and the queue
  abbrev pub scene : Option Hand → TableState → ℕ → List Asked → Place
  scene hand w k queue =
      record p { hands = updated p.hands n hand; tables = updated p.tables t w; accounts = updated p.accounts n (counted rows unnamed k); queue = queue }

  -- what the statement is, whatever it is at
  pub record Suits : Type 0 where
    pub in_table : (q : Place) → q.layout ≡ p.layout → (q.tables t).task n ≢ Resting → IsIn q n st t
    pub none_left : next_request n st [] ≡ None
    pub stays_queued : (task : Task) → task ≢ Resting → (queue : List Asked) → TakesUp st task queue queue

  pub recounts : (w v : TableState) (i : ℕ) → (i ≡ t) ⊎ Recounts (updated p.tables t w i) (updated p.tables t v i)
  recounts w v i = by (updated_both p.tables t w v i)
    where
      by : (i ≡ t) ⊎ (updated p.tables t v i ≡ updated p.tables t w i) → (i ≡ t) ⊎ Recounts (updated p.tables t w i) (updated p.tables t v i)
      by (inl is) = inl is
      by (inr same) = inr ((updated p.tables t w i).counts, same)

  pub recounts_first : (v : TableState) (i : ℕ) → (i ≡ t) ⊎ Recounts (p.tables i) (updated p.tables t v i)
  recounts_first v i = by (updated_there p.tables t v i)
    where
      by : (i ≡ t) ⊎ (updated p.tables t v i ≡ p.tables i) → (i ≡ t) ⊎ Recounts (p.tables i) (updated p.tables t v i)
      by (inl is) = inl is
      by (inr same) = inr ((p.tables i).counts, same)

  module _ (suits : Suits) (fits : length p.journal ≤ MAX_ENTRIES) (below : at < (p.tables t).indexes) where
    abbrev pub at_stage : {x : Index} {task : Task} → Stage (p.tables t) n at x task → ℕ → List Asked → Place
    at_stage stage k queue = scene (Some (new_hand st)) (state_of (p.tables t) n at stage) k queue

    busy_here : (w : TableState) (k : ℕ) (queue : List Asked) → w.task n ≢ Resting → IsIn (scene (Some (new_hand st)) w k queue) n st t
    busy_here w k queue busy =
        suits.in_table (scene (Some (new_hand st)) w k queue) refl (λ rests. busy (sym (ap (λ (x : TableState). x.task n) (updated_here p.tables t w)) ∙ rests))

    counts_on : (hand other : Option Hand) (w v : TableState) (k count : ℕ) (queue : List Asked)
        → Counting n count (accounts_at (scene hand w k queue) t) (accounts_at (scene other v (k + count) queue) t)
    counts_on hand other w v k count queue = record {
      account = updated_here p.accounts n (counted rows unnamed (k + count)) ∙ sym (ap (with_ranges count) (updated_here p.accounts n (counted rows unnamed k)));
      queue = refl;
    }

    made : (other : Option Hand) (w v : TableState) (k count : ℕ) (queue : List Asked) (point : Point) (within : Task) → w.task n ≢ Resting
        → ((extent next : ℕ) → w.task n ≡ Prunes extent next → ⊥) → Moves n w v point within (Counting n count)
        → Made n t st (scene (Some (new_hand st)) w k queue) w v (accounts_at (scene (Some (new_hand st)) w k queue) t) (accounts_at (scene other v (k + count) queue) t) point within
    made other w v k count queue point within busy not moves = record {
      step = record { between = moves.between; does = moves.does; settles = moves.settles };
      own = inl busy;
      dead = no_prune (scene (Some (new_hand st)) w k queue) moves.does not;
      accounts = record {
        table = refl;
        others = λ m. updated_both p.accounts n (counted rows unnamed k) (counted rows unnamed (k + count)) m;
        adds = moves.adds _ _ (counts_on (Some (new_hand st)) other w v k count queue);
      };
      takes = suits.stays_queued (w.task n) busy queue;
      point_is = moves.point_is;
      within_is = moves.within_is;
    }

    -- a step from one stage to another, and the last one
    pub moves_on : (x y : Index) (old new : Task) (point : Point) (within : Task) (count k : ℕ) (queue : List Asked) (stage : Stage (p.tables t) n at x old) (next : Stage (p.tables t) n at y new)
        → Moves n (state_of (p.tables t) n at stage) (state_of (p.tables t) n at next) point within (Counting n count) → old ≢ Resting → ((extent after : ℕ) → old ≡ Prunes extent after → ⊥)
        → new ≢ Resting → ((q : Place) → MakesAt point q n (new_hand st) (course_of q (new_hand st))) → (words : List (List ℕ)) (reply : Reply)
        → Answer n (at_stage next (k + count) queue) words reply queue → Answer n (at_stage stage k queue) (point_word point ∷ words) reply queue
    moves_on x y old new point within count k queue stage next moves busy not busy_then enters words reply more =
        let w = state_of (p.tables t) n at stage in
        let v = state_of (p.tables t) n at next in
        let here : w.task n ≢ Resting = λ rests. busy (sym stage.task_is ∙ rests) in
        before n (at_stage stage k queue) (at_stage next (k + count) queue) point words reply queue
        (goes n t st (at_stage stage k queue) (at_stage next (k + count) queue) w v point within
        (updated_here p.tables t w) (updated_here p.tables t v) (busy_here w k queue here) (recounts w v) (updated_here p.hands n (Some (new_hand st))) fits
        (made (Some (new_hand st)) w v k count queue point within here (λ extent after is. not extent after (sym stage.task_is ∙ is)) moves)
        (λ rests. busy_then (sym next.task_is ∙ rests)) (enters (at_stage stage k queue))
        (record { layout = refl; opening = refl; names = refl; hand = updated_here p.hands n (Some (new_hand st)); others = λ m. inr refl; journal = refl }))
        more

    pub ends_on : (x : Index) (old : Task) (point : Point) (within : Task) (count k : ℕ) (queue : List Asked) (stage : Stage (p.tables t) n at x old) (after : TableState)
        → Moves n (state_of (p.tables t) n at stage) after point within (Counting n count) → old ≢ Resting → ((extent next : ℕ) → old ≡ Prunes extent next → ⊥)
        → after.task n ≡ Resting → (reply : Reply) → Some reply ≡ reply_after p.layout t within (counted rows unnamed (k + count)) [] st → Answer n (at_stage stage k queue) [] reply queue
    ends_on x old point within count k queue stage after moves busy not rests reply replied =
        let w = state_of (p.tables t) n at stage in
        let r = scene None after (k + count) queue in
        let here : w.task n ≢ Resting = λ is. busy (sym stage.task_is ∙ is) in
        record {
          behind = r;
          run = RunEnds _ r (Ended reply) (replies_with n t st (at_stage stage k queue) r w after point within
              (updated_here p.tables t w) (updated_here p.tables t after) (busy_here w k queue here)
              (recounts w after) (updated_here p.hands n (Some (new_hand st))) fits (counted rows unnamed (k + count)) reply
              (made None w after k count queue point within here (λ extent next is. not extent next (sym stage.task_is ∙ is)) moves) rests suits.none_left
              (updated_here p.accounts n (counted rows unnamed (k + count))) replied
              (record {
                layout = refl;
                opening = refl;
                names = refl;
                hand = updated_here p.hands n None;
                others = λ m. updated_both p.hands n (Some (new_hand st)) None m;
                journal = refl;
              }));
          idle = updated_here p.hands n None;
          told = ap (λ (a : Account). a.dropped) (updated_here p.accounts n (counted rows unnamed (k + count)));
          queue_is = refl;
        }

    pub stays_at_range : (job : Job) (range : ℕ) (x : Index) (part : IndexPart) (old new : Phase) (point : Point) (count k : ℕ) (queue : List Asked)
        (stage : Stage (p.tables t) n at x (Maintains job at range old)) → Makes (p.tables t) n at job range x part old (Maintaining range new) point count
        → ((q : Place) → MakesAt point q n (new_hand st) (course_of q (new_hand st))) → (words : List (List ℕ)) (reply : Reply)
        → ((next : Stage (p.tables t) n at (index_with part x) (Maintains job at range new)) → Answer n (at_stage next (k + count) queue) words reply queue)
        → Answer n (at_stage stage k queue) (point_word point ∷ words) reply queue
    stays_at_range job range x part old new point count k queue stage makes enters words reply more =
        let on = further (p.tables t) n at below job range x part old new point count stage makes in
        let was = Maintains job at range old in
        moves_on x (index_with part x) was (Maintains job at range new) point (Maintains job at range new) count k queue stage on.next on.moves
        (not_resting job at range old was refl) (not_prunes job at range old was refl) (not_resting job at range new (Maintains job at range new) refl) enters words reply (more on.next)

    pub ends_at_range : (job : Job) (range : ℕ) (x : Index) (part : IndexPart) (old : Phase) (point : Point) (count k : ℕ) (queue : List Asked)
        (stage : Stage (p.tables t) n at x (Maintains job at range old)) → Makes (p.tables t) n at job range x part old Holding point count
        → ((w : TableState) → (w.index at).pages_per_range ≡ x.pages_per_range → HasRange w job at (suc range) → ⊥)
        → ((w : TableState) → w.indexes ≡ (p.tables t).indexes → IsLastIndex w job at) → (reply : Reply)
        → Some reply ≡ reply_after p.layout t (Considers job at (suc range)) (counted rows unnamed (k + count)) [] st → Answer n (at_stage stage k queue) [] reply queue
    ends_at_range job range x part old point count k queue stage makes no_range last reply replied =
        let end = finally (p.tables t) n at below job range x part old point count stage makes no_range last in
        let was = Maintains job at range old in
        ends_on x was point (Considers job at (suc range)) count k queue stage end.after end.moves (not_resting job at range old was refl) (not_prunes job at range old was refl) end.rests reply replied

module _ (p : Place) (n t at : ℕ) (st : Statement) (suits : Suits p n t at st 0 0) (fits : length p.journal ≤ MAX_ENTRIES) (below : at < (p.tables t).indexes) where
  -- the step `right`
  pub begins_at_range : (job : Job) (range : ℕ) (begins : BeginsWith (p.tables t) (Considers job at range)) (queue : List Asked)
      → (p.tables t).task n ≡ Resting → (p.tables t).summarise_lock ≡ None
      → ((v : TableState) (turns : TaskTurns n (p.tables t) v Resting (Considers job at range)) (held : v.summarise_lock ≡ Some n) (rows : SameRows (p.tables t) v)
      (indexes : (i : ℕ) → v.index i ≡ (p.tables t).index i) (free : (p.tables t).summarise_lock ≡ None) (a b : Accounts) → (b.of n ≡ no_account) × (a.table ≡ t) × (a.queue ≡ p.queue) × (b.queue ≡ queue)
      → Adds n (p.tables t) v (TakesLock (Considers job at range) begins turns free held rows (record { index = indexes })) a b)
      → ((w : TableState) → (w.index at).pages_per_range ≡ ((p.tables t).index at).pages_per_range → HasRange w job at range)
      → IsIn (with_statement p n st) n st t
      → ((task : Task) → task ≡ Considers job at range → Begins (with_statement p n st) n (p.tables t) st task)
      → TakesUp st ((p.tables t).task n) p.queue queue → (words : List (List ℕ)) (reply : Reply)
      → ((next : Stage (p.tables t) n at ((p.tables t).index at) (Maintains job at range (NotBuilding Empty))) → Answer n (at_stage p n t at st 0 0 suits fits below next 0 queue) words reply queue)
      → Answer n (with_statement p n st) (point_word points.Right ∷ words) reply queue
  begins_at_range job range begins queue rests free adds has on first_task takes words reply more =
      let w = p.tables t in
      let q = with_statement p n st in
      let Allowed = λ (a b : Accounts). (b.of n ≡ no_account) × (a.table ≡ t) × (a.queue ≡ p.queue) × (b.queue ≡ queue) in
      let start = first w n at below job range begins Allowed rests free adds has in
      let v = state_of w n at start.0 in
      let m = start.1 in
      before n q (at_stage p n t at st 0 0 suits fits below start.0 0 queue) points.Right words reply queue
      (goes n t st q (at_stage p n t at st 0 0 suits fits below start.0 0 queue) w v points.Right (Considers job at range) refl (updated_here p.tables t v) on (recounts_first p n t at st 0 0 v)
      (updated_here p.hands n (Some (new_hand st))) fits
      (record {
        step = record { between = m.between; does = m.does; settles = m.settles };
        own = inr (first_task (m.between.task n) m.within_is);
        dead = no_prune q m.does (rests_not_prunes (w.task n) rests);
        accounts = record {
          table = refl;
          others = λ i. updated_both p.accounts n no_account (counted 0 0 0) i;
          adds = m.adds (accounts_at q t) (accounts_at (at_stage p n t at st 0 0 suits fits below start.0 0 queue) t) (updated_here p.accounts n no_account, refl, refl, refl);
        };
        takes = takes;
        point_is = m.point_is;
        within_is = m.within_is;
      })
      (not_resting job at range (NotBuilding Empty) (v.task n) start.0.task_is) refl
      (record { layout = refl; opening = refl; names = refl; hand = updated_here p.hands n (Some (new_hand st)); others = λ i. inr refl; journal = refl }))
      (more start.0)
