-- An insert whose row comes to the first slot of a block, in a table with one index that has no entry for its range.
use Rattle.std.proofs.Common.{◌≡◌, ◌≢◌, ◌⊎◌, inl, inr, ℕ, ◌+◌, ◌≤◌, ◌<◌, max, List, [], ◌∷◌, length, Option, None, Some, if◌then◌else◌, refl, sym, ap, ◌∙◌, arith, length-append}
use Rattle.std.proofs.lemmas.Option.{none-some}
use Rattle.block_model.specs.declared.reply.Point.TheVariants as points
use Rattle.block_model.specs.declared.reply.Refusal.TheVariants as refusals
use Rattle.block_model.specs.declared.reply.Reply.TheVariants as replies
use Rattle.block_model.specs.declared.request.Entry.{Entry}
use Rattle.block_model.specs.declared.request.Request.TheVariants as requests
use Rattle.block_model.specs.declared.row.Row.{Row}
use Rattle.block_model.specs.declared.value.Value.{Value}
use Rattle.block_model.specs.DatabaseState.{DatabaseState, OpenTransaction}
use Rattle.block_model.specs.RequestEffect.{Answer, Inserted, effect_at, effect_is, next_row, reply_to}
use Rattle.coverage.specs.Statements.{Empty}
use Rattle.coverage.specs.Steps.{InsertNoEntry, ReadsIndex}
use Rattle.script_semantics.specs.LineTexts.{Submits, Taken, with_statement}
use Rattle.script_semantics.specs.Place.{Hand, Place, accounts_at, database_at, new_hand, updated}
use Rattle.script_semantics.specs.Requests.{Course, Enters, NoneLeft, entered}
use Rattle.script_semantics.specs.StatementSteps as line
use Rattle.script_semantics.specs.StatementSteps.{Ended, Moved, Replies, Steps, course_of}
use Rattle.script_semantics.specs.Turns.{Recounts}
use Rattle.script_semantics.proofs.Bare.{not_behind, updated_there}
use Rattle.script_semantics.proofs.OneStep.{refusal_is}
use Rattle.script_semantics.proofs.Orders.{updated_here}
use Rattle.store_layout.specs.declared.limits.TheConstants.{MAX_ENTRIES}
use Rattle.store_layout.specs.declared.statement.Statement.{Statement}
use Rattle.store_layout.specs.declared.statement.Statement.TheVariants as statements
use Rattle.store_layout.specs.HeapRoom.{full_table}
use Rattle.store_layout.specs.StatementRequests.{insert_reply, request_entry, submission_refusal}
use Rattle.coverage.specs.Accounts.{Account, Asked, no_account}
use Rattle.coverage.specs.InOneIndex.{RowComesTo, with_rows}
use Rattle.coverage.specs.Table.{Inserts, Reaches, Resting, TableState, Task, index_view_at, pick}
use Rattle.coverage.specs.TableSteps.{AsksFor, AsksSummary, GoesOn, InsertCompletes, IsFirstPlace, OnlyTurns, SameRows, Settles, StepsIn, TaskTurns, ToAsk, range_in}
use Rattle.coverage.specs.TableSteps as table_steps
use Rattle.coverage.proofs.OneIndexSteps.{row_begins}
use Rattle.coverage.proofs.Views.{pick_both, pick_same, pick_there}
use Rattle.script_laws.specs.Finds.{IsUnderWay}
use Rattle.script_laws.proofs.Maintained.{no_prune, rests_not_prunes}
use Rattle.script_laws.proofs.Places.{Made, made_there, turn_of, updated_both}

picked_both : {A : Type 0} (n : ℕ) (x y : A) (f : ℕ → A) (m : ℕ) → (m ≡ n) ⊎ (pick m n y (f m) ≡ pick m n x (f m))
picked_both n x y f m = by (pick_there m n x (f m)) (pick_there m n y (f m))
  where
    by : (m ≡ n) ⊎ (pick m n x (f m) ≡ f m) → (m ≡ n) ⊎ (pick m n y (f m) ≡ f m) → (m ≡ n) ⊎ (pick m n y (f m) ≡ pick m n x (f m))
    by (inl is) other = inl is
    by (inr one) (inl is) = inl is
    by (inr one) (inr two) = inr (two ∙ sym one)

pub above_none : (n before : ℕ) → n ≡ before + 1 → 0 < n
above_none n before is = omega arith

-- The table's only index has no entry for the range of the block, whose first slot is the next place; and nobody locks its pages.
pub record HasSeat (w : TableState) (b : ℕ) : Type 0 where
  pub only : w.indexes ≡ 1
  pub place : IsFirstPlace w b 0
  pub empty : (w.index 0).entry (range_in w 0 b) ≡ None
  pub unlocked : (page : ℕ) → (w.index 0).lock page ≡ None

-- ---- the steps of the table

module _ (w : TableState) (n b : ℕ) (r : Row) (seat : HasSeat w b) (rests : w.task n ≡ Resting) where
  abbrev pub rows : ℕ → ℕ → Option Row
  rows c j = pick c b (pick j 0 (Some r) (w.row c j)) (w.row c j)

  pub comes : RowComesTo w.row rows b 0 r
  comes = record { now = pick_same b (pick 0 0 (Some r) (w.row b 0)) (w.row b 0) ∙ pick_same 0 (Some r) (w.row b 0); others = λ c j. by c j (pick_there c b _ _) (pick_there j 0 (Some r) (w.row c j)) }
    where
      by : (c j : ℕ) → (c ≡ b) ⊎ (rows c j ≡ w.row c j) → (j ≡ 0) ⊎ (pick j 0 (Some r) (w.row c j) ≡ w.row c j) → ((c ≡ b) × (j ≡ 0)) ⊎ (rows c j ≡ w.row c j)
      by c j (inr same) other = inr same
      by c j (inl is) (inl at) = inl (is, at)
      by c j (inl is) (inr same) = inr (ap (λ o. pick c b o (w.row c j)) same ∙ pick_both c b (w.row c j))

  -- the table with the row, and the session at this task
  abbrev pub grown : Task → TableState
  grown task = with_rows rows (max w.blocks (b + 1)) n task w

  pub turns : (old new : Task) → TaskTurns n (grown old) (grown new) old new
  turns old new = record { was = pick_same n old (w.task n); now = pick_same n new (w.task n); others = λ m. picked_both n old new w.task m }

  pub same_rows : (old new : Task) → SameRows (grown old) (grown new)
  same_rows old new = record { layout = record { indexes = refl; rows_per_page = refl; heap_limit = refl }; blocks = refl; row = λ c j. refl; counts = λ t. refl }

  pub only : (old new : Task) → OnlyTurns (grown old) (grown new)
  only old new = record { rows = same_rows old new; indexes = record { index = λ i. refl }; summarise_lock = refl }

  pub has_index : 0 < w.indexes
  has_index = omega (arith, seat.only)

  pub to_reply : Settles n (grown (Reaches b 0 r 1)) (grown Resting)
  to_reply = GoesOn (Reaches b 0 r 1) Resting (table_steps.Inserted b 0 r 1 (sym seat.only)) (turns (Reaches b 0 r 1) Resting) (only (Reaches b 0 r 1) Resting)

  pub reads : ReadsIndex n (index_view_at 0 (grown (Inserts b 0 r 0 Empty))) (index_view_at 0 (grown (Reaches b 0 r 1)))
  reads = record {
    frame = record {
      heap = record { pages_per_range = refl; blocks = refl; row = λ c j. refl };
      map = record { entry = λ m. refl };
      tuples = record { tuple = λ x. refl };
      unnamed_tuples = record { unnamed = λ x. refl };
      summarise_lock = refl;
      locks = record { others = λ p m is other. is; taken = λ p m is other. is };
      contents = refl;
    };
    pages = refl;
    none = λ p is. none-some _ (sym (seat.unlocked p) ∙ is);
  }

  pub steps_in : StepsIn 0 (grown (Inserts b 0 r 0 Empty)) (grown (Reaches b 0 r 1))
  steps_in = record { below = has_index; rows = same_rows (Inserts b 0 r 0 Empty) (Reaches b 0 r 1); others = λ i. inr refl; autosummarize = refl }

  pub is_at : (task : Task) → (grown task).task n ≡ task
  is_at task = pick_same n task (w.task n)

-- ---- the steps of the statement

module _ (p : Place) (n t b : ℕ) (x : OpenTransaction) (values : List Value) (way : IsUnderWay p n t x) (seat : HasSeat (p.tables t) b) where
  abbrev pub w : TableState
  w = p.tables t

  abbrev pub r : Row
  r = next_row x t values

  abbrev pub st : Statement
  st = statements.Insert t values

  abbrev pub state : Task → TableState
  state = grown w n b r seat way.rests

  abbrev pub e : Entry
  e = request_entry n t (requests.Put values)

  abbrev pub c : Course
  c = entered p.opening (record { journal = p.journal; answers = [] }) e

  abbrev pub hand : Hand
  hand = record { statement = st; answers = c.answers }

  abbrev pub scene : Option Hand → Task → Account → List Asked → Place
  scene h task account line =
      record p { hands = updated p.hands n h; tables = updated p.tables t (state task); accounts = updated p.accounts n account; queue = line; journal = c.journal }

  abbrev pub q0 : Place
  q0 = with_statement p n st

  pub fits : length c.journal ≤ MAX_ENTRIES
  fits = omega (arith, way.room, length-append p.journal (e ∷ []))

  pub recounts_first : (v : TableState) (i : ℕ) → (i ≡ t) ⊎ Recounts (p.tables i) (updated p.tables t v i)
  recounts_first v i = by (updated_there p.tables t v i)
    where
      by : (i ≡ t) ⊎ (updated p.tables t v i ≡ p.tables i) → (i ≡ t) ⊎ Recounts (p.tables i) (updated p.tables t v i)
      by (inl is) = inl is
      by (inr same) = inr ((p.tables i).counts, same)

  pub recounts : (u v : TableState) (i : ℕ) → (i ≡ t) ⊎ Recounts (updated p.tables t u i) (updated p.tables t v i)
  recounts u v i = by (updated_both p.tables t u v i)
    where
      by : (i ≡ t) ⊎ (updated p.tables t v i ≡ updated p.tables t u i) → (i ≡ t) ⊎ Recounts (updated p.tables t u i) (updated p.tables t v i)
      by (inl is) = inl is
      by (inr same) = inr ((updated p.tables t u i).counts, same)

  pub busy_at : (task : Task) → (task ≡ Resting → ⊥) → (updated p.tables t (state task) t).task n ≢ Resting
  busy_at task busy is = busy (sym (is_at w n b r seat way.rests task) ∙ sym (ap (λ (u : TableState). u.task n) (updated_here p.tables t (state task))) ∙ is)

  pub busy : (task : Task) → (task ≡ Resting → ⊥) → (state task).task n ≢ Resting
  busy task other is = other (sym (is_at w n b r seat way.rests task) ∙ is)

  -- the row is put
  module _ (new : Task) (settles : Settles n (state (Reaches b 0 r 0)) (state new)) (busy_new : new ≡ Resting → ⊥) where
    abbrev pub q1 : Place
    q1 = scene (Some hand) new no_account p.queue

    made_row : Made n t st q0 w (state new) (accounts_at q0 t) (accounts_at q1 t) points.Row (Reaches b 0 r 0)
    made_row =
        let did = row_begins n b 0 r w (rows w n b r seat way.rests) way.rests seat.place (comes w n b r seat way.rests) in
        record {
          step = record { between = state (Reaches b 0 r 0); does = did.does; settles = settles };
          own = inr (inr (x, b, 0, way.transaction, is_at w n b r seat way.rests (Reaches b 0 r 0)));
          dead = no_prune q0 did.does (rests_not_prunes (w.task n) way.rests);
          accounts = record { table = refl; others = λ m. inr refl; adds = did.adds _ _ (record { account = updated_here p.accounts n no_account; queue = refl }) };
          takes = λ asked same. not_behind asked p.queue same;
          point_is = did.point_is;
          within_is = is_at w n b r seat way.rests (Reaches b 0 r 0);
        }

    pub puts : Steps q0 n (Moved points.Row) q1
    puts =
        let there = made_there n t st q0 q1 w (state new) points.Row (Reaches b 0 r 0) refl (updated_here p.tables t (state new)) refl (recounts_first (state new)) (accounts_at q0 t) (accounts_at q1 t) made_row in
        record {
          hand = new_hand st;
          in_hand = updated_here p.hands n (Some (new_hand st));
          steps = line.GoesOn points.Row c q1
              (turn_of n t st q0 q1 w (state new) points.Row (Reaches b 0 r 0) refl (updated_here p.tables t (state new)) refl (recounts_first (state new)) there)
              there.point_is (busy_at new busy_new) (Enters e refl)
              (record {
                layout = refl;
                opening = refl;
                names = refl;
                hand = updated_here p.hands n (Some hand);
                others = λ m. updated_both p.hands n (Some (new_hand st)) (Some hand) m;
                journal = refl;
              });
          fits = fits;
        }

  -- it finds no entry of its range, and replies
  module _ (queue dropped : List Asked) where
    abbrev pub telling : Account
    telling = record no_account { dropped = dropped }

    abbrev pub q2 : Place
    q2 = scene (Some hand) (Inserts b 0 r 0 Empty) telling queue

    abbrev pub q3 : Place
    q3 = scene None Resting telling queue

    done_now : Made n t st q2 (state (Inserts b 0 r 0 Empty)) (state Resting) (accounts_at q2 t) (accounts_at q3 t) points.Map (Reaches b 0 r 1)
    done_now = record {
      step = record {
        between = state (Reaches b 0 r 1);
        does = InsertCompletes b 0 r 0 Empty (turns w n b r seat way.rests (Inserts b 0 r 0 Empty) (Reaches b 0 r 1)) (steps_in w n b r seat way.rests)
            (InsertNoEntry seat.empty (reads w n b r seat way.rests));
        settles = to_reply w n b r seat way.rests;
      };
      own = inl (λ rests. busy (Inserts b 0 r 0 Empty) (λ is. absurd (cc)) rests);
      dead = tt;
      accounts = record { table = refl; others = λ m. inr refl; adds = record { account = refl; queue = refl } };
      takes = λ asked same. not_behind asked queue same;
      point_is = refl;
      within_is = is_at w n b r seat way.rests (Reaches b 0 r 1);
    }

    put_answer : reply_to (database_at p) e ≡ Inserted r.id
    put_answer = ap (λ (o : DatabaseState × Answer). o.1) (effect_is (database_at p) e) ∙ ap (λ o. (effect_at o (database_at p) e).1) way.transaction

    pub done_so : Steps q2 n (Ended (replies.Inserted r.id)) q3
    done_so =
        let old = updated_here p.tables t (state (Inserts b 0 r 0 Empty)) in
        let new = updated_here p.tables t (state Resting) in
        let others = recounts (state (Inserts b 0 r 0 Empty)) (state Resting) in
        let there = made_there n t st q2 q3 (state (Inserts b 0 r 0 Empty)) (state Resting) points.Map (Reaches b 0 r 1) old new refl others (accounts_at q2 t) (accounts_at q3 t) done_now in
        record {
          hand = hand;
          in_hand = updated_here p.hands n (Some hand);
          steps = Replies points.Map (course_of q2 hand) (replies.Inserted r.id) q3
              (turn_of n t st q2 q3 (state (Inserts b 0 r 0 Empty)) (state Resting) points.Map (Reaches b 0 r 1) old new refl others there)
              there.point_is (ap (λ (u : TableState). u.task n) new ∙ is_at w n b r seat way.rests Resting) (NoneLeft _ refl)
              (sym (ap (λ a. insert_reply (full_table p.layout t) (a ∷ [])) put_answer))
              (record {
                layout = refl;
                opening = refl;
                names = refl;
                hand = updated_here p.hands n None;
                others = λ m. updated_both p.hands n (Some hand) None m;
                journal = refl;
              });
          fits = fits;
        }

  pub is_taken : Submits p n st None q0
  is_taken = Taken (refusal_is p n st way.idle tt ∙ ap (λ o. submission_refusal o st) way.transaction ∙ ap (λ d. if d then Some refusals.Doomed else None) way.sound)
