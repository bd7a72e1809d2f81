-- An insert into a table without indexes and rows is answered.
use Rattle.std.proofs.Common.{◌≡◌, ◌≢◌, ◌⊎◌, inl, inr, ℕ, zero, suc, ◌<◌, ◌≤◌, max, eqb, true, false, List, [], ◌∷◌, length, Option, None, Some, if◌then◌else◌, refl, sym, ap, ◌∙◌, subst, arith, length-append}
use Rattle.std.specs.FinMap as map
use Rattle.std.proofs.lemmas.Bool.Decides.{eqb_tells}
use Rattle.block_model.specs.declared.reply.Point.{Point}
use Rattle.block_model.specs.declared.reply.Point.TheVariants as points
use Rattle.block_model.specs.declared.reply.Refusal.TheVariants as refusals
use Rattle.block_model.specs.declared.reply.Reply.{Reply}
use Rattle.block_model.specs.declared.reply.Reply.TheVariants as replies
use Rattle.block_model.specs.declared.request.Entry.{Entry}
use Rattle.block_model.specs.declared.request.Request.TheVariants as requests
use Rattle.block_model.specs.declared.row.Row.{Row}
use Rattle.block_model.specs.declared.value.Value.{Value}
use Rattle.block_model.specs.DatabaseState.{DatabaseState, OpenTransaction}
use Rattle.block_model.specs.RequestEffect.{Answer, Inserted, effect_at, effect_is, reply_to, next_row}
use Rattle.query_words.specs.declared.line.Order.TheVariants as orders
use Rattle.reply_texts.specs.Texts.{reply_text}
use Rattle.store_layout.specs.declared.limits.TheConstants.{MAX_ENTRIES}
use Rattle.store_layout.specs.declared.statement.Statement.{Statement}
use Rattle.store_layout.specs.declared.statement.Statement.TheVariants as statements
use Rattle.store_layout.specs.HeapRoom.{full_table}
use Rattle.store_layout.specs.StatementRequests.{insert_reply, request_entry, submission_refusal}
use Rattle.coverage.specs.Accounts.{Asked, Account, no_account}
use Rattle.coverage.specs.Table.{Task, Resting, Reaches, TableState}
use Rattle.coverage.specs.TableSteps as table
use Rattle.coverage.specs.TableSteps.{TaskTurns, PutsRow, GoesOn, TableStep}
use Rattle.script_semantics.specs.Place.{Place, new_hand, database_at, updated}
use Rattle.script_semantics.specs.Requests.{Course, Enters, NoneLeft, OneMore, entered}
use Rattle.script_semantics.specs.Turns.{Recounts, Turn}
use Rattle.script_semantics.specs.Names.{dropped_of}
use Rattle.script_semantics.specs.StatementSteps.{Outcome, Moved, Ended, Replies, Steps}
use Rattle.script_semantics.specs.LineTexts.{Does, Plain, Taken, LastStep, dropped_at, submit_refusal, with_statement, outcome_text}
use Rattle.script_semantics.specs.Laws.{IsBare, AnInsertIsAnswered}
use Rattle.script_semantics.proofs.Orders.{updated_here}
use Rattle.script_semantics.proofs.OneStep.{refusal_is}

pub updated_there : {A : Type 0} (f : ℕ → A) (n : ℕ) (x : A) (m : ℕ) → (m ≡ n) ⊎ (updated f n x m ≡ f m)
updated_there f n x m = by (eqb_tells m n)
  where
    by : ((eqb m n ≡ true) × (m ≡ n)) ⊎ ((eqb m n ≡ false) × (m ≢ n)) → (m ≡ n) ⊎ (updated f n x m ≡ f m)
    by (inl (is, same)) = inl same
    by (inr (not, other)) = inr (ap (λ b. if b then x else f m) not)

pub not_behind : (asked : Asked) (queue : List Asked) → queue ≡ asked ∷ queue → ⊥
not_behind asked queue same = omega (arith, ap (λ (l : List Asked). length l) same)

-- a row in the first slot
abbrev with_first : Row → (ℕ → ℕ → Option Row) → ℕ → ℕ → Option Row
with_first r rows zero zero = Some r
with_first r rows b k = rows b k

only_first : (r : Row) (rows : ℕ → ℕ → Option Row) (c j : ℕ) → ((c ≡ 0) × (j ≡ 0)) ⊎ (with_first r rows c j ≡ rows c j)
only_first r rows zero zero = inl (refl, refl)
only_first r rows zero (suc j) = inr refl
only_first r rows (suc c) j = inr refl

from_first : (c j : ℕ) → (0 < c) ⊎ ((0 ≡ c) × (0 ≤ j))
from_first zero j = inr (refl, omega (arith))
from_first (suc c) j = inl (omega (arith))

pub task_turns : (n : ℕ) (w v : TableState) (old new : Task) → w.task n ≡ old → v.task ≡ updated w.task n new → TaskTurns n w v old new
task_turns n w v old new was is = record {
  was = was;
  now = ap (λ f. f n) is ∙ updated_here w.task n new;
  others = λ m. subst (λ f. (m ≡ n) ⊎ (f m ≡ w.task m)) (sym is) (updated_there w.task n new m);
}

module _ (w : TableState) (bare : IsBare w) (n : ℕ) (r : Row) where
  abbrev put : TableState
  put = record w { row = with_first r w.row; blocks = max w.blocks 1; task = updated w.task n (Reaches 0 0 r 0) }

  abbrev done : TableState
  done = record put { task = updated put.task n Resting }

  abbrev step : TableStep n w done
  step = record {
    between = put;
    does = PutsRow 0 0 r (record { vacant = (bare.slots, bare.row 0 0); below = bare.blocks; first = λ c j vacant. from_first c j })
        (task_turns n w put Resting (Reaches 0 0 r 0) (bare.resting n) refl)
        (record { layout = record { indexes = refl; rows_per_page = refl; heap_limit = refl }; now = refl; others = only_first r w.row; blocks = refl; counts = λ _. refl; indexes = record { index = λ _. refl }; summarise_lock = refl });
    settles = GoesOn (Reaches 0 0 r 0) Resting (table.Inserted 0 0 r 0 (sym bare.indexes)) (task_turns n put done (Reaches 0 0 r 0) Resting (updated_here w.task n _) refl)
        (record { rows = record { layout = record { indexes = refl; rows_per_page = refl; heap_limit = refl }; blocks = refl; row = λ _ _. refl; counts = λ _. refl }; indexes = record { index = λ _. refl }; summarise_lock = refl });
  }

module _ (p : Place) (n : ℕ) (x : OpenTransaction) (values : List Value) (got : map.get (database_at p).sessions n ≡ Some x) (bare : IsBare (p.tables 0)) where
  abbrev st : Statement
  st = statements.Insert 0 values

  abbrev q : Place
  q = with_statement p n st

  abbrev e : Entry
  e = request_entry n 0 (requests.Put values)

  abbrev tables : ℕ → TableState
  tables = updated p.tables 0 (done (p.tables 0) bare n (next_row x 0 values))

  abbrev c : Course
  c = entered p.opening (record { journal = p.journal; answers = [] }) e

  abbrev after : Place
  after = record q { hands = updated q.hands n None; accounts = updated q.accounts n no_account; journal = c.journal; tables = tables }

  put_answer : reply_to (database_at p) e ≡ Inserted (next_row x 0 values).id
  put_answer = ap (λ (r : DatabaseState × Answer). r.1) (effect_is (database_at p) e) ∙ ap (λ o. (effect_at o (database_at p) e).1) got

  stays : (i : ℕ) → (i ≡ 0) ⊎ Recounts (p.tables i) (tables i)
  stays i = by (updated_there p.tables 0 _ i)
    where
      by : (i ≡ 0) ⊎ (tables i ≡ p.tables i) → (i ≡ 0) ⊎ Recounts (p.tables i) (tables i)
      by (inl is) = inl is
      by (inr same) = inr ((p.tables i).counts, same)

  abbrev turn : Turn q n st after
  turn = record {
    table = 0;
    on = refl;
    step = step (p.tables 0) bare n (next_row x 0 values);
    own = inr (inr (x, 0, 0, got, updated_here (p.tables 0).task n _));
    dead = tt;
    accounts = record { table = refl; others = λ m. updated_there q.accounts n no_account m; adds = record { account = updated_here q.accounts n no_account; queue = refl } };
    takes = λ asked same. not_behind asked p.queue same;
    others = stays;
  }

  steps : length p.journal < MAX_ENTRIES → Steps q n (Ended (replies.Inserted (next_row x 0 values).id)) after
  steps room = record {
    hand = new_hand st;
    in_hand = updated_here p.hands n _;
    steps = Replies points.Row c _ after turn refl (updated_here (put (p.tables 0) bare n (next_row x 0 values)).task n Resting) (OneMore _ c c (Enters e refl) (NoneLeft c refl))
        (sym (ap (λ a. insert_reply (full_table p.layout 0) (a ∷ [])) put_answer))
        (record { layout = refl; opening = refl; names = refl; hand = updated_here q.hands n None; others = λ m. updated_there q.hands n None m; journal = refl });
    fits = omega (arith, room, length-append p.journal (e ∷ []));
  }

  said : (name : List ℕ) → outcome_text name (dropped_at after n) (Ended (replies.Inserted (next_row x 0 values).id)) ≡ reply_text name (replies.Inserted (next_row x 0 values).id)
  said name = ap (λ (a : Account). outcome_text name (dropped_of p.layout a.dropped) (Ended (replies.Inserted (next_row x 0 values).id))) (updated_here q.accounts n no_account)

is_taken : (p : Place) (n : ℕ) (x : OpenTransaction) (values : List Value) → p.hands n ≡ None → map.get (database_at p).sessions n ≡ Some x → x.failed ≡ false
    → submit_refusal p n (statements.Insert 0 values) ≡ None
is_taken p n x values idle got sound = refusal_is p n (statements.Insert 0 values) idle tt ∙ ap (λ o. submission_refusal o (statements.Insert 0 values)) got
    ∙ ap (λ b. if b then Some refusals.Doomed else None) sound

abbrev pub IsEnd : Outcome → Type 0
IsEnd (Ended reply) = Unit
IsEnd outcome = ⊥

pub no_move : (reply : Reply) (point : Point) → Ended reply ≡ Moved point → ⊥
no_move reply point is = subst IsEnd is tt

pub answered : AnInsertIsAnswered
answered p n name x values idle got sound bare room = (
  after p n x values got bare,
  subst (λ text. Does p n name (orders.Whole (statements.Insert 0 values)) text (after p n x values got bare)) (said p n x values got bare name)
      (Plain _ _ (q p n x values got bare) (after p n x values got bare) (Taken (is_taken p n x values idle got sound)) (LastStep _ _ _ (no_move _) (steps p n x values got bare room))),
)
