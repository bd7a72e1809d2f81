-- A summarize of a table without blocks is answered.
use Rattle.std.proofs.Common.{◌≡◌, ◌⊎◌, inl, inr, ℕ, ◌*◌, ◌<◌, ◌≤◌, List, length, Option, None, Some, refl, sym, ap, ◌∙◌, subst, arith}
use Rattle.std.specs.FinMap as map
use Rattle.block_model.specs.declared.reply.Point.TheVariants as points
use Rattle.block_model.specs.declared.reply.Reply.TheVariants as replies
use Rattle.block_model.specs.DatabaseState.{OpenTransaction}
use Rattle.index_steps.specs.IndexTuples.{index_at}
use Rattle.query_words.specs.declared.line.Order.TheVariants as orders
use Rattle.reply_texts.specs.Texts.{reply_text}
use Rattle.store_layout.specs.declared.limits.TheConstants.{MAX_ENTRIES}
use Rattle.store_layout.specs.declared.statement.Statement.{Statement}
use Rattle.store_layout.specs.declared.statement.Statement.TheVariants as statements
use Rattle.store_layout.specs.StatementRequests.{submission_refusal}
use Rattle.coverage.specs.Accounts.{Account, Accounts, AccountsStep, no_account}
use Rattle.coverage.specs.Table.{EachRange, Task, Resting, Considers, TableState}
use Rattle.coverage.specs.TablePoints.{does_point}
use Rattle.coverage.specs.TableSteps.{GivesLock, HasRange, RangesDone, Summarize, TableStep, TakesLock}
use Rattle.script_semantics.specs.Place.{Place, accounts_at, new_hand, database_at, updated}
use Rattle.script_semantics.specs.Requests.{NoneLeft}
use Rattle.script_semantics.specs.Beginnings.{StandsAt}
use Rattle.script_semantics.specs.Turns.{PrunesTheDead, Recounts, Turn}
use Rattle.script_semantics.specs.Names.{dropped_of}
use Rattle.script_semantics.specs.StatementSteps.{Ended, Replies, Steps, course_of}
use Rattle.script_semantics.specs.LineTexts as texts
use Rattle.script_semantics.specs.LineTexts.{LastStep, Plain, Taken, dropped_at, outcome_text, submit_refusal, with_statement}
use Rattle.script_semantics.specs.Laws.{AnEmptyTableIsSummarized}
use Rattle.script_semantics.proofs.Orders.{refusal_by_block, updated_here}
use Rattle.script_semantics.proofs.Bare.{no_move, not_behind, task_turns, updated_there}

module _ (w : TableState) (n at : ℕ) (below : at < w.indexes) (empty : w.blocks ≡ 0) (free : w.summarise_lock ≡ None) (rests : w.task n ≡ Resting) where
  abbrev first : Task
  first = Considers (EachRange w.blocks) at 0

  abbrev held : TableState
  held = record w { summarise_lock = Some n; task = updated w.task n first }

  abbrev done : TableState
  done = record w { summarise_lock = None; task = updated held.task n Resting }

  no_range : HasRange held (EachRange w.blocks) at 0 → ⊥
  no_range has = omega (arith, subst (λ b. (0 * (w.index at).pages_per_range) < b) empty has)

  abbrev step : TableStep n w done
  step = record {
    between = held;
    does = TakesLock first (Summarize at below) (task_turns n w held Resting first rests refl) free refl
        (record { layout = record { indexes = refl; rows_per_page = refl; heap_limit = refl }; blocks = refl; row = λ _ _. refl; counts = λ _. refl }) (record { index = λ _. refl });
    settles = GivesLock first (RangesDone (EachRange w.blocks) at 0 no_range tt) (task_turns n held done first Resting (updated_here w.task n first) refl) refl
        (record { layout = record { indexes = refl; rows_per_page = refl; heap_limit = refl }; blocks = refl; row = λ _ _. refl; counts = λ _. refl }) (record { index = λ _. refl });
  }

  -- the step to a table, with all that a turn tells of it
  record OneTurn (p : Place) (a b : Accounts) (v : TableState) : Type 0 where
    turns : TableStep n w v
    dead : PrunesTheDead p turns.does
    accounts : AccountsStep n w turns.between turns.does a b
    begins : turns.between.task n ≡ first
    point : does_point n w turns.between turns.does ≡ Some points.Right
    ended : v.task n ≡ Resting

  one_turn : (p : Place) (a b : Accounts) → b.table ≡ a.table → b.queue ≡ a.queue → b.of ≡ updated a.of n no_account → OneTurn p a b done
  one_turn p a b table queue of = record {
    turns = step;
    dead = tt;
    accounts = record {
      table = table;
      others = λ m. subst (λ (f : ℕ → Account). (m ≡ n) ⊎ (f m ≡ a.of m)) (sym of) (updated_there a.of n no_account m);
      adds = record { account = ap (λ (f : ℕ → Account). f n) of ∙ updated_here a.of n no_account; queue = queue };
    };
    begins = updated_here w.task n first;
    point = refl;
    ended = updated_here held.task n Resting;
  }

module _ (p : Place) (n index at : ℕ) (stands : StandsAt p.layout index at) (below : at < (p.tables (index_at p.layout index).table).indexes)
    (empty : (p.tables (index_at p.layout index).table).blocks ≡ 0) (free : (p.tables (index_at p.layout index).table).summarise_lock ≡ None)
    (rests : (p.tables (index_at p.layout index).table).task n ≡ Resting) where
  abbrev t : ℕ
  t = (index_at p.layout index).table

  abbrev st : Statement
  st = statements.Summarize index None

  abbrev q : Place
  q = with_statement p n st

  abbrev tables : ℕ → TableState
  tables = updated p.tables t (done (p.tables t) n at below empty free rests)

  abbrev after : Place
  after = record q { hands = updated q.hands n None; accounts = updated q.accounts n no_account; tables = tables }

  one : OneTurn (p.tables t) n at below empty free rests q (accounts_at q t) (accounts_at after t) (tables t)
  one = subst (OneTurn (p.tables t) n at below empty free rests q (accounts_at q t) (accounts_at after t)) (sym (updated_here p.tables t _))
      (one_turn (p.tables t) n at below empty free rests q (accounts_at q t) (accounts_at after t) refl refl refl)

  stays : (i : ℕ) → (i ≡ t) ⊎ Recounts (p.tables i) (tables i)
  stays i = by (updated_there p.tables t _ i)
    where
      by : (i ≡ t) ⊎ (tables i ≡ p.tables i) → (i ≡ t) ⊎ Recounts (p.tables i) (tables i)
      by (inl is) = inl is
      by (inr same) = inr ((p.tables i).counts, same)

  abbrev turn : Turn q n st after
  turn = record {
    table = t;
    on = refl;
    step = one.turns;
    own = inr (at, stands, one.begins);
    dead = one.dead;
    accounts = one.accounts;
    takes = λ asked same. not_behind asked p.queue same;
    others = stays;
  }

  steps : length p.journal ≤ MAX_ENTRIES → Steps q n (Ended (replies.Summarized 0)) after
  steps fits = record {
    hand = new_hand st;
    in_hand = updated_here p.hands n _;
    steps = Replies points.Right (course_of q (new_hand st)) (replies.Summarized 0) after turn one.point one.ended (NoneLeft _ refl)
        (sym (ap (λ (a : Account). Some (replies.Summarized a.ranges)) (updated_here q.accounts n no_account)))
        (record { layout = refl; opening = refl; names = refl; hand = updated_here q.hands n None; others = λ m. updated_there q.hands n None m; journal = refl });
    fits = fits;
  }

  said : (name : List ℕ) → outcome_text name (dropped_at after n) (Ended (replies.Summarized 0)) ≡ reply_text name (replies.Summarized 0)
  said name = ap (λ (a : Account). outcome_text name (dropped_of p.layout a.dropped) (Ended (replies.Summarized 0))) (updated_here q.accounts n no_account)

is_allowed : (index : ℕ) (transaction : Option OpenTransaction) → submission_refusal transaction (statements.Summarize index None) ≡ None
is_allowed index None = refl
is_allowed index (Some x) = refl

is_taken : (p : Place) (n index : ℕ) → p.hands n ≡ None → submit_refusal p n (statements.Summarize index None) ≡ None
is_taken p n index idle = refusal_by_block p n (statements.Summarize index None) None idle refl ∙ is_allowed index (map.get (database_at p).sessions n)

pub empty_summarized : AnEmptyTableIsSummarized
empty_summarized p n index at name idle stands below empty free rests fits = (
  after p n index at stands below empty free rests,
  subst (λ text. texts.Does p n name (orders.Whole (statements.Summarize index None)) text (after p n index at stands below empty free rests)) (said p n index at stands below empty free rests name)
      (Plain _ _ (q p n index at stands below empty free rests) (after p n index at stands below empty free rests) (Taken (is_taken p n index idle))
      (LastStep _ _ _ (no_move _) (steps p n index at stands below empty free rests fits))),
)
