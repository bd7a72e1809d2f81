-- A vacuum of a table of one block and one index.
use Rattle.std.proofs.Common.{◌≡◌, ◌≢◌, ◌⊎◌, inl, inr, ℕ, zero, suc, ◌+◌, ◌*◌, ◌≤◌, ◌<◌, Bool, true, false, List, ◌∷◌, Option, None, Some, refl, sym, ap, ◌∙◌, subst, arith, add-zero, zero-add}
use Rattle.std.specs.Prelude.{IsTrue, codes, ◌↔◌}
use Rattle.std.specs.FinMap as map
use Rattle.std.proofs.lemmas.Bool.{false≢true}
use Rattle.std.proofs.lemmas.Option.{none-some}
use Rattle.block_model.specs.declared.reply.Point.TheVariants as points
use Rattle.block_model.specs.declared.reply.Reply.{Reply}
use Rattle.block_model.specs.declared.reply.Reply.TheVariants as replies
use Rattle.block_model.specs.declared.row.Row.{Row}
use Rattle.block_model.specs.declared.row.RowId.{RowId}
use Rattle.block_model.specs.DatabaseState.{OpenTransaction}
use Rattle.coverage.specs.Counts.{AreRowsGone, HasGone}
use Rattle.coverage.specs.PageOrder.{IsForTuples}
use Rattle.coverage.specs.Statements.{Empty, NotBuilding}
use Rattle.script_semantics.specs.DeadRows.{Deleted, IsCommitted, IsDead, RolledBack}
use Rattle.script_semantics.specs.LineTexts.{Submits, Taken, with_statement}
use Rattle.script_semantics.specs.Place.{Hand, Place, accounts_at, database_at, new_hand, updated}
use Rattle.script_semantics.specs.StatementSteps.{Moved, Steps}
use Rattle.script_semantics.specs.Turns.{Recounts}
use Rattle.script_semantics.proofs.Bare.{not_behind, updated_there}
use Rattle.script_semantics.proofs.Orders.{refusal_by_block, updated_here}
use Rattle.reply_texts.specs.Texts.{reply_text}
use Rattle.store_layout.specs.declared.statement.Statement.{Statement}
use Rattle.store_layout.specs.declared.statement.Statement.TheVariants as statements
use Rattle.store_layout.specs.StatementRequests.{submission_refusal}
use Rattle.coverage.specs.Accounts.{Account, AccountIs, Accounts, Asked, no_account}
use Rattle.coverage.specs.Table.{Considers, Index, Job, Maintains, Prunes, Restarts, Resting, SweepsFrom, TableState, Task, WholeRanges, pick}
use Rattle.coverage.specs.TableSteps.{Does, GoesOn, HasPut, Onward, Pruned, PrunesBlock, RestartsIndex, SameRows, SeesPlace, Settles, Swept, TakesLock, TaskTurns, ToRange, Vacuum}
use Rattle.coverage.proofs.OneIndexSteps.{stays_at}
use Rattle.coverage.proofs.Views.{pick_same, pick_there}
use Rattle.script_laws.specs.RowLaws.{AVacuumCountsRowsAndRanges}
use Rattle.script_laws.specs.Finds.{HasDeadRows, IsCalm, IsDeadAt, LacksTuple}
use Rattle.script_laws.specs.Answered.{IsAnswered}
use Rattle.script_laws.specs.Words.{blocks_of, summary_words}
use Rattle.script_laws.proofs.Deciding.{count_same, decided, decided_is, is_decided}
use Rattle.script_laws.proofs.Maintained.{Suits, at_stage, counted, moves_on, no_prune, rests_not_prunes}
use Rattle.script_laws.proofs.Places.{Answer, answered, before, goes, updated_both}
use Rattle.script_laws.proofs.Said.{said_vacuumed}
use Rattle.script_laws.proofs.Stages.{Counting, Moves, Stage, state_of}
use Rattle.script_laws.proofs.Summaries.{EndsHere, summarises}

-- which rows are dead rests on the opening and the journal alone
module _ (p : Place) (hands : ℕ → Option Hand) (tables : ℕ → TableState) (accounts : ℕ → Account) (queue : List Asked) where
  abbrev other : Place
  other = record p { hands = hands; tables = tables; accounts = accounts; queue = queue }

  committed_on : (t : ℕ) → IsCommitted p t → IsCommitted other t
  committed_on t c = record {
    before = c.before;
    entry = c.entry;
    behind = c.behind;
    split = c.split;
    commits = c.commits;
    transaction = c.transaction;
    under_way = c.under_way;
    number = c.number;
    sound = c.sound;
  }

  committed_back : (t : ℕ) → IsCommitted other t → IsCommitted p t
  committed_back t c = record {
    before = c.before;
    entry = c.entry;
    behind = c.behind;
    split = c.split;
    commits = c.commits;
    transaction = c.transaction;
    under_way = c.under_way;
    number = c.number;
    sound = c.sound;
  }

  dead_on : (id : RowId) → IsDead p id → IsDead other id
  dead_on id (RolledBack since ended not) = RolledBack since ended (λ c. not (committed_back id.t c))
  dead_on id (Deleted first then split ended gone none) = Deleted first then split ended gone none

  dead_back : (id : RowId) → IsDead other id → IsDead p id
  dead_back id (RolledBack since ended not) = RolledBack since ended (λ c. not (committed_on id.t c))
  dead_back id (Deleted first then split ended gone none) = Deleted first then split ended gone none

-- a row, unless it is dropped
abbrev pub kept : Bool → Option Row → Option Row
kept true o = None
kept false o = o

kept_or : (d : Bool) (o : Option Row) → (kept d o ≡ o) ⊎ (d ≡ true)
kept_or true o = inr refl
kept_or false o = inl refl

module _ (w : TableState) (dead : ℕ → Bool) where
  abbrev pub rows_left : ℕ → ℕ → Option Row
  rows_left zero k = kept (dead k) (w.row zero k)
  rows_left (suc b) k = w.row (suc b) k

  abbrev dropped : ℕ → ℕ → Bool
  dropped zero k = dead k
  dropped (suc b) k = false

  dropped_on : (b k : ℕ) → IsTrue (dropped b k) → b ≡ 0
  dropped_on zero k is = refl
  dropped_on (suc b) k is = absurd (false≢true is)

  dropped_gone : (b k : ℕ) → IsTrue (dropped b k) → rows_left b k ≡ None
  dropped_gone zero k is = ap (λ d. kept d (w.row 0 k)) is
  dropped_gone (suc b) k is = absurd (false≢true is)

  others_left : (b k : ℕ) → (rows_left b k ≡ w.row b k) ⊎ IsTrue (dropped b k)
  others_left zero k = kept_or (dead k) (w.row 0 k)
  others_left (suc b) k = inl refl

  none_left : (b k : ℕ) → w.row b k ≡ None → rows_left b k ≡ None
  none_left zero k is = by (dead k)
    where
      by : (d : Bool) → kept d (w.row 0 k) ≡ None
      by true = refl
      by false = is
  none_left (suc b) k is = is

  gone_is : (k : ℕ) → HasGone (w.row 0 k) (rows_left 0 k) → IsTrue (dead k)
  gone_is k gone = by (kept_or (dead k) (w.row 0 k))
    where
      by : (kept (dead k) (w.row 0 k) ≡ w.row 0 k) ⊎ (dead k ≡ true) → dead k ≡ true
      by (inl same) = absurd (gone.0 (sym same ∙ gone.1))
      by (inr is) = is

module _ (p : Place) (n t rows : ℕ) (calm : IsCalm p n t 0) (has : HasDeadRows p t rows) where
  abbrev pub w : TableState
  w = p.tables t

  abbrev pub st : Statement
  st = statements.Vacuum t

  abbrev pub dead : ℕ → Bool
  dead = decided (IsDeadAt p w 0) rows has.dead

  abbrev pub left : ℕ → ℕ → Option Row
  left = rows_left w dead

  are_gone : AreRowsGone w.row left 0 rows
  are_gone = count_same (IsDeadAt p w 0) (λ k. HasGone (w.row 0 k) (left 0 k)) goes_away back rows has.dead
    where
      goes_away : (k : ℕ) → IsDeadAt p w 0 k → HasGone (w.row 0 k) (left 0 k)
      goes_away k is = ((λ none. none-some _ (sym none ∙ is.1)), dropped_gone w dead 0 k (is_decided (IsDeadAt p w 0) rows has.dead k is))

      back : (k : ℕ) → HasGone (w.row 0 k) (left 0 k) → IsDeadAt p w 0 k
      back k gone = decided_is (IsDeadAt p w 0) rows has.dead k (gone_is w dead k gone)

  abbrev pub at_task : Task → ℕ → Task
  at_task task m = pick m n task (w.task m)

  -- the table with the lock taken, and then with the rows gone
  abbrev taken : TableState
  taken = record w { summarise_lock = Some n; task = at_task (Prunes w.blocks 0) }

  abbrev pub pruned : Task → TableState
  pruned task = record w { row = left; summarise_lock = Some n; task = at_task task }

  both_at : (old new : Task) (m : ℕ) → (m ≡ n) ⊎ (at_task new m ≡ at_task old m)
  both_at old new m = by (pick_there m n old (w.task m)) (pick_there m n new (w.task m))
    where
      by : (m ≡ n) ⊎ (at_task old m ≡ w.task m) → (m ≡ n) ⊎ (at_task new m ≡ w.task m) → (m ≡ n) ⊎ (at_task new m ≡ at_task old m)
      by (inl is) one = inl is
      by (inr one) (inl is) = inl is
      by (inr one) (inr two) = inr (two ∙ sym one)

  pub is_at : (task : Task) → at_task task n ≡ task
  is_at task = pick_same n task (w.task n)

  others_rest : (m : ℕ) → m ≢ n → at_task (Prunes w.blocks 0) m ≡ Resting
  others_rest m apart = by (pick_there m n (Prunes w.blocks 0) (w.task m))
    where
      by : (m ≡ n) ⊎ (at_task (Prunes w.blocks 0) m ≡ w.task m) → at_task (Prunes w.blocks 0) m ≡ Resting
      by (inl is) = absurd (apart is)
      by (inr same) = same ∙ has.alone m

  one_block : 0 < w.blocks
  one_block = omega (arith, has.one_block)

  all_blocks : w.blocks ≤ 1
  all_blocks = omega (arith, has.one_block)

  -- the steps `right` and `prune`
  right : Moves n w taken points.Right (Prunes w.blocks 0) (λ a b. AccountIs n a b no_account)
  right = record {
    between = taken;
    does = TakesLock (Prunes w.blocks 0) Vacuum (record { was = calm.rests; now = is_at (Prunes w.blocks 0); others = λ m. pick_there m n (Prunes w.blocks 0) (w.task m) }) calm.free refl
        (record { layout = record { indexes = refl; rows_per_page = refl; heap_limit = refl }; blocks = refl; row = λ b k. refl; counts = λ t. refl }) (record { index = λ i. refl });
    point_is = refl;
    within_is = is_at (Prunes w.blocks 0);
    adds = λ a b is. is;
    settles = stays_at n taken (Prunes w.blocks 0) (is_at (Prunes w.blocks 0)) one_block;
  }

  prunes : Does n taken (pruned (Prunes w.blocks 1))
  prunes = PrunesBlock w.blocks 0 (dropped w dead) one_block spares
      (record { was = is_at (Prunes w.blocks 0); now = is_at (Prunes w.blocks 1); others = λ m. both_at (Prunes w.blocks 0) (Prunes w.blocks 1) m })
      (record {
        layout = record { indexes = refl; rows_per_page = refl; heap_limit = refl };
        on = dropped_on w dead;
        gone = dropped_gone w dead;
        rows = others_left w dead;
        blocks = refl;
        counts = λ t. refl;
        indexes = record { index = λ i. refl };
        summarise_lock = refl;
      })
    where
      spares : (m b k : ℕ) → m ≢ n → IsTrue (dropped w dead b k) → (HasPut b k (taken.task m) ⊎ SeesPlace b k (taken.task m)) → ⊥
      spares m b k apart is (inl put) = subst (HasPut b k) (others_rest m apart) put
      spares m b k apart is (inr sees) = subst (SeesPlace b k) (others_rest m apart) sees

  settles : (new : Task) → Onward (pruned (Prunes w.blocks 1)) (SweepsFrom 0 0) new → Settles n (pruned (Prunes w.blocks 1)) (pruned new)
  settles new onward = GoesOn (Prunes w.blocks 1) new (Pruned w.blocks 1 new all_blocks onward)
      (record { was = is_at (Prunes w.blocks 1); now = is_at new; others = λ m. both_at (Prunes w.blocks 1) new m })
      (record {
        rows = record { layout = record { indexes = refl; rows_per_page = refl; heap_limit = refl }; blocks = refl; row = λ b k. refl; counts = λ t. refl };
        indexes = record { index = λ i. refl };
        summarise_lock = refl;
      })

  -- ---- the places

  abbrev pub line : List Asked
  line = p.queue

  abbrev pub q0 : Place
  q0 = with_statement p n st

  abbrev q1 : Place
  q1 = record p { hands = updated p.hands n (Some (new_hand st)); tables = updated p.tables t taken; accounts = updated p.accounts n no_account }

  -- the place with the rows gone, from which the vacuum goes over its index
  abbrev pub base : Place
  base = record p { tables = updated p.tables t (record w { row = left }) }

  pub base_is : base.tables t ≡ record w { row = left }
  base_is = updated_here p.tables t (record w { row = left })

  pub suits : (unnamed : ℕ) → Suits base n t 0 st rows unnamed
  suits unnamed = record { in_table = λ q same busy. refl; none_left = refl; stays_queued = λ task busy queue asked same. not_behind asked queue same }

  pub below : 0 < (base.tables t).indexes
  below = subst (λ (u : TableState). 0 < u.indexes) (sym base_is) calm.below

  -- what the vacuum comes to by its prune
  abbrev pub start : (new : Task) → Stage (base.tables t) n 0 ((base.tables t).index 0) new
  start new = record { index = (base.tables t).index; tasks = at_task new; index_is = refl; task_is = is_at new }

  start_is : (new : Task) → state_of (base.tables t) n 0 (start new) ≡ pruned new
  start_is new = ap (λ (u : TableState). record u { task = at_task new; summarise_lock = Some n }) base_is

  abbrev pub q2 : Task → Place
  q2 new = at_stage base n t 0 st rows 0 (suits 0) calm.fits below (start new) 0 line

  q2_is : (new : Task) → (q2 new).tables t ≡ pruned new
  q2_is new = updated_here base.tables t (state_of (base.tables t) n 0 (start new)) ∙ start_is new

  recounts_one : (i : ℕ) → (i ≡ t) ⊎ Recounts (p.tables i) (q1.tables i)
  recounts_one i = by (updated_there p.tables t taken i)
    where
      by : (i ≡ t) ⊎ (q1.tables i ≡ p.tables i) → (i ≡ t) ⊎ Recounts (p.tables i) (q1.tables i)
      by (inl is) = inl is
      by (inr same) = inr ((p.tables i).counts, same)

  recounts_two : (new : Task) (i : ℕ) → (i ≡ t) ⊎ Recounts (q1.tables i) ((q2 new).tables i)
  recounts_two new i = by (updated_there p.tables t taken i) (updated_there base.tables t (state_of (base.tables t) n 0 (start new)) i) (updated_there p.tables t (record w { row = left }) i)
    where
      by : (i ≡ t) ⊎ (q1.tables i ≡ p.tables i) → (i ≡ t) ⊎ ((q2 new).tables i ≡ base.tables i) → (i ≡ t) ⊎ (base.tables i ≡ p.tables i)
          → (i ≡ t) ⊎ Recounts (q1.tables i) ((q2 new).tables i)
      by (inl is) two three = inl is
      by (inr one) (inl is) three = inl is
      by (inr one) (inr two) (inl is) = inl is
      by (inr one) (inr two) (inr three) = inr ((q1.tables i).counts, two ∙ three ∙ sym one)

  rights : Steps q0 n (Moved points.Right) q1
  rights = goes n t st q0 q1 w taken points.Right (Prunes w.blocks 0) refl (updated_here p.tables t taken) refl recounts_one (updated_here p.hands n (Some (new_hand st))) calm.fits
      (record {
        step = record { between = right.between; does = right.does; settles = right.settles };
        own = inr right.within_is;
        dead = no_prune q0 right.does (rests_not_prunes (w.task n) calm.rests);
        accounts = record { table = refl; others = λ m. inr refl; adds = right.adds (accounts_at q0 t) (accounts_at q1 t) (record { account = updated_here p.accounts n no_account; queue = refl }) };
        takes = λ asked same. not_behind asked p.queue same;
        point_is = right.point_is;
        within_is = right.within_is;
      })
      (λ rests. absurd (busy_prunes (sym (is_at (Prunes w.blocks 0)) ∙ rests))) refl
      (record { layout = refl; opening = refl; names = refl; hand = updated_here p.hands n (Some (new_hand st)); others = λ m. inr refl; journal = refl })
    where
      busy_prunes : Prunes w.blocks 0 ≡ Resting → ⊥
      busy_prunes is = absurd (cc)

  the_dead : (k : ℕ) → IsTrue (dropped w dead 0 k) ↔ ((r : Row) × (taken.row 0 k ≡ Some r) × IsDead q1 r.id)
  the_dead k = (
    (λ is. let it = decided_is (IsDeadAt p w 0) rows has.dead k is in (it.0, it.1, dead_on p q1.hands q1.tables q1.accounts p.queue it.0.id it.2)),
    (λ it. is_decided (IsDeadAt p w 0) rows has.dead k (it.0, it.1, dead_back p q1.hands q1.tables q1.accounts p.queue it.0.id it.2)),
  )

  module _ (new : Task) (onward : Onward (pruned (Prunes w.blocks 1)) (SweepsFrom 0 0) new) (busy : new ≢ Resting) where
    rows_told : (q2 new).accounts n ≡ record (q1.accounts n) { rows = (q1.accounts n).rows + rows }
    rows_told = updated_here p.accounts n (counted rows 0 0) ∙ ap (λ r. counted r 0 0) (sym (zero-add rows))
        ∙ sym (ap (λ (a : Account). record a { rows = a.rows + rows }) (updated_here p.accounts n no_account))

    prunes_so : Steps q1 n (Moved points.Prune) (q2 new)
    unfolding prunes
    prunes_so = goes n t st q1 (q2 new) taken (pruned new) points.Prune (Prunes w.blocks 1) (updated_here p.tables t taken) (q2_is new) refl (recounts_two new)
        (updated_here p.hands n (Some (new_hand st))) calm.fits
        (record {
          step = record { between = pruned (Prunes w.blocks 1); does = prunes; settles = settles new onward };
          own = inl (λ rests. absurd (cc_prunes (sym (is_at (Prunes w.blocks 0)) ∙ rests)));
          dead = the_dead;
          accounts = record {
            table = refl;
            others = λ m. updated_both p.accounts n no_account (counted rows 0 0) m;
            adds = (rows, are_gone, record { account = rows_told; queue = refl });
          };
          takes = λ asked same. not_behind asked p.queue same;
          point_is = refl;
          within_is = is_at (Prunes w.blocks 1);
        })
        (λ rests. busy (sym (is_at new) ∙ rests)) refl
        (record { layout = refl; opening = refl; names = refl; hand = updated_here p.hands n (Some (new_hand st)); others = λ m. inr refl; journal = refl })
      where
        cc_prunes : Prunes w.blocks 0 ≡ Resting → ⊥
        cc_prunes is = absurd (cc)

    pub begun : (words : List (List ℕ)) (reply : Reply) → Answer n (q2 new) words reply line → Answer n q0 (codes "right" ∷ codes "prune" ∷ words) reply line
    begun words reply more = before n q0 q1 points.Right (codes "prune" ∷ words) reply line rights (before n q1 (q2 new) points.Prune words reply line prunes_so more)

  pub is_taken : Submits p n st None q0
  is_taken = Taken (refusal_by_block p n st None calm.idle refl ∙ allowed (map.get (database_at p).sessions n))
    where
      allowed : (transaction : Option OpenTransaction) → submission_refusal transaction st ≡ None
      allowed None = refl
      allowed (Some x) = refl

-- ---- the index is gone over

pub not_restarts : Restarts 0 ≡ Resting → ⊥
not_restarts is = absurd (cc)

pub not_prunes : (extent next : ℕ) → Restarts 0 ≡ Prunes extent next → ⊥
not_prunes extent next is = absurd (cc)

pub only_index : (m indexes : ℕ) → m < indexes → indexes ≡ 1 → m ≡ 0
only_index m indexes less is = omega arith

module _ (p : Place) (n t rows : ℕ) (calm : IsCalm p n t 0) (has : HasDeadRows p t rows) where
  abbrev u : TableState
  u = (base p n t rows calm has).tables t

  u_is : u ≡ record (p.tables t) { row = left p n t rows calm has }
  u_is = base_is p n t rows calm has

  abbrev restarted : Task
  restarted = Considers (WholeRanges u.blocks) 0 0

  module _ (index : ℕ → Index) where
    abbrev pub state_at : Task → TableState
    state_at task = record u { index = index; task = at_task p n t rows calm has task; summarise_lock = Some n }

    restart_turns : (old new : Task) → TaskTurns n (state_at old) (state_at new) old new
    restart_turns old new = record { was = is_at p n t rows calm has old; now = is_at p n t rows calm has new; others = λ m. both_at p n t rows calm has old new m }

    restart_rows : (old new : Task) → SameRows (state_at old) (state_at new)
    restart_rows old new = record { layout = record { indexes = refl; rows_per_page = refl; heap_limit = refl }; blocks = refl; row = λ b k. refl; counts = λ t. refl }

    restarts : Does n (state_at (Restarts 0)) (state_at restarted)
    restarts = RestartsIndex 0 (restart_turns (Restarts 0) restarted) (record { rows = restart_rows (Restarts 0) restarted; indexes = record { index = λ i. refl }; summarise_lock = refl })

    pub same_account : (a b : Accounts) → Counting n 0 a b → AccountIs n a b (a.of n)
    same_account a b is = record { account = is.account ∙ ap (λ (k : ℕ). record (a.of n) { ranges = k }) (add-zero (a.of n).ranges); queue = is.queue }

module _ (p : Place) (n t rows : ℕ) (calm : IsCalm p n t 0) (has : HasDeadRows p t rows) (bare : (page : ℕ) → IsForTuples ((p.tables t).index 0).pages page → ⊥)
    (per : ((p.tables t).index 0).pages_per_range ≡ 1) (lacks : LacksTuple (p.tables t) 0 0) where
  abbrev b : Place
  b = base p n t rows calm has

  abbrev v : TableState
  v = b.tables t

  abbrev job : Job
  job = WholeRanges v.blocks

  abbrev at_range : Task
  at_range = Maintains job 0 0 (NotBuilding Empty)

  nothing_to_sweep : Onward (pruned p n t rows calm has (Prunes (p.tables t).blocks 1)) (SweepsFrom 0 0) (Restarts 0)
  nothing_to_sweep = Swept 0 0 (λ m page tuples from. bare page (subst (λ i. IsForTuples ((p.tables t).index i).pages page) (only_index m (p.tables t).indexes tuples.0 has.one_index) tuples.1)) calm.below

  v_per : (v.index 0).pages_per_range ≡ 1
  v_per = ap (λ (x : TableState). (x.index 0).pages_per_range) (base_is p n t rows calm has) ∙ per

  v_blocks : v.blocks ≡ 1
  v_blocks = ap (λ (x : TableState). x.blocks) (base_is p n t rows calm has) ∙ has.one_block

  v_indexes : v.indexes ≡ 1
  v_indexes = ap (λ (x : TableState). x.indexes) (base_is p n t rows calm has) ∙ has.one_index

  v_lacks : LacksTuple v 0 0
  v_lacks = subst (λ (x : TableState). LacksTuple x 0 0) (sym (base_is p n t rows calm has)) (record {
    begins = lacks.begins;
    few = lacks.few;
    none = lacks.none;
    mapped = lacks.mapped;
    place = lacks.place;
    target = lacks.target;
    roomy = lacks.roomy;
    lawful = lacks.lawful;
    slots = λ c k le. none_left (p.tables t) (dead p n t rows calm has) c k (lacks.slots c k le);
  })

  v_unlocked : (page : ℕ) → (v.index 0).lock page ≡ None
  v_unlocked page = ap (λ (x : TableState). (x.index 0).lock page) (base_is p n t rows calm has) ∙ calm.unlocked page

  whole_one : (per blocks : ℕ) → per ≡ 1 → blocks ≡ 1 → (0 + 1) * per ≤ blocks
  whole_one per blocks one two = omega arith

  whole_two : (per its blocks : ℕ) → per ≡ its → its ≡ 1 → blocks ≡ 1 → (1 + 1) * per ≤ blocks → ⊥
  whole_two per its blocks is one two le = omega arith

  abbrev reply : Reply
  reply = replies.Vacuumed rows 0 1

  ends : EndsHere b n t 0 (statements.Vacuum t) rows 0 (suits p n t rows calm has 0) calm.fits (below p n t rows calm has) job 0 p.queue reply
  ends = record {
    lift = λ o part old new point count makes. makes;
    no_range = λ x its more. whole_two (x.index 0).pages_per_range (v.index 0).pages_per_range v.blocks its v_per v_blocks more;
    last = λ x same. sym (same ∙ v_indexes);
  }

  restart_moves : Moves n (state_of v n 0 (start p n t rows calm has (Restarts 0))) (state_of v n 0 (start p n t rows calm has at_range)) points.Right (restarted p n t rows calm has) (Counting n 0)
  unfolding restarts
  restart_moves = record {
    between = state_at p n t rows calm has v.index (restarted p n t rows calm has);
    does = restarts p n t rows calm has v.index;
    point_is = refl;
    within_is = is_at p n t rows calm has (restarted p n t rows calm has);
    adds = λ a c is. same_account p n t rows calm has v.index a c is;
    settles = GoesOn (restarted p n t rows calm has) at_range (ToRange job 0 0 (whole_one (v.index 0).pages_per_range v.blocks v_per v_blocks))
        (restart_turns p n t rows calm has v.index (restarted p n t rows calm has) at_range)
        (record { rows = restart_rows p n t rows calm has v.index (restarted p n t rows calm has) at_range; indexes = record { index = λ i. refl }; summarise_lock = refl });
  }

  ranges_told : Answer n (q2 p n t rows calm has (Restarts 0)) (summary_words (blocks_of v 0 0)) reply p.queue
  ranges_told = moves_on b n t 0 (statements.Vacuum t) rows 0 (suits p n t rows calm has 0) calm.fits (below p n t rows calm has) (v.index 0) (v.index 0) (Restarts 0) at_range points.Right
      (restarted p n t rows calm has) 0 0 p.queue (start p n t rows calm has (Restarts 0)) (start p n t rows calm has at_range) restart_moves not_restarts not_prunes (λ is. absurd (cc)) (λ q. refl)
      _ reply
      (summarises b n t 0 (statements.Vacuum t) rows 0 (suits p n t rows calm has 0) calm.fits (below p n t rows calm has) job 0 p.queue reply ends refl v_lacks.slots v_lacks v_unlocked
      (start p n t rows calm has at_range))

  pub rows_and_ranges : (name : List ℕ) → IsAnswered p n name (statements.Vacuum t) (codes "right" ∷ codes "prune" ∷ summary_words (blocks_of (p.tables t) 0 0)) (reply_text name reply) p.queue
  rows_and_ranges name = answered p n name (statements.Vacuum t) (codes "right" ∷ codes "prune" ∷ summary_words (blocks_of (p.tables t) 0 0)) reply p.queue (is_taken p n t rows calm has)
      (begun p n t rows calm has (Restarts 0) nothing_to_sweep not_restarts (summary_words (blocks_of (p.tables t) 0 0)) reply
      (subst (λ (x : TableState). Answer n (q2 p n t rows calm has (Restarts 0)) (summary_words (blocks_of x 0 0)) reply p.queue) (base_is p n t rows calm has) ranges_told))

pub a_vacuum_counts_rows_and_ranges : AVacuumCountsRowsAndRanges
a_vacuum_counts_rows_and_ranges p n t rows name calm has bare per lacks =
    subst (λ text. IsAnswered p n name (statements.Vacuum t) (codes "right" ∷ codes "prune" ∷ summary_words (blocks_of (p.tables t) 0 0)) text p.queue) (said_vacuumed name rows 0 1)
    (rows_and_ranges p n t rows calm has bare per lacks name)
