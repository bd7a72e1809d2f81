-- An insert that asks for the summary of the range before that of its row.
use Rattle.std.proofs.Common.{◌≡◌, ◌≢◌, ◌⊎◌, inl, inr, ℕ, zero, suc, ◌+◌, ◌≤◌, ◌<◌, max, List, [], ◌∷◌, ◌++◌, length, Option, None, Some, true, false, if◌then◌else◌, refl, sym, ap, ◌∙◌, subst, arith, length-append}
use Rattle.std.specs.Prelude.{codes, decimal}
use Rattle.std.proofs.Common as common
use Rattle.std.proofs.lemmas.List.{append-nil}
use Rattle.block_model.specs.declared.reply.Point.TheVariants as points
use Rattle.block_model.specs.declared.reply.Reply.TheVariants as replies
use Rattle.block_model.specs.declared.row.Row.{Row}
use Rattle.block_model.specs.declared.value.Value.{Value}
use Rattle.block_model.specs.DatabaseState.{OpenTransaction}
use Rattle.block_model.specs.RequestEffect.{next_row}
use Rattle.coverage.specs.Statements.{Empty}
use Rattle.script_semantics.specs.LineTexts.{Does, Plain, Starts, dropped_at, outcome_text, with_statement}
use Rattle.script_semantics.specs.Names.{dropped_of, index_name}
use Rattle.script_semantics.specs.Place.{Hand, Place, accounts_at}
use Rattle.script_semantics.specs.StatementSteps as line
use Rattle.script_semantics.specs.StatementSteps.{Ended, Moved, Replies, Steps, course_of}
use Rattle.script_semantics.proofs.Bare.{no_move, not_behind}
use Rattle.script_semantics.proofs.Orders.{updated_here}
use Rattle.query_words.specs.declared.line.Order.TheVariants as orders
use Rattle.reply_texts.specs.DroppedTexts.{dropped_text}
use Rattle.reply_texts.specs.Texts.{reply_text}
use Rattle.store_layout.specs.declared.statement.Statement.{Statement}
use Rattle.store_layout.specs.declared.statement.Statement.TheVariants as statements
use Rattle.coverage.specs.Accounts.{Account, Accounts, Asked, Asking, IsDropped, Joins, no_account}
use Rattle.coverage.specs.Table.{Asks, Inserts, Reaches, Resting, TableState, Task}
use Rattle.coverage.specs.TableSteps.{AsksFor, AsksSummary, GoesOn, Settles, ToAsk, range_in}
use Rattle.coverage.proofs.OneIndexSteps.{stays_at}
use Rattle.script_laws.specs.RowLaws.{AnAskIsDropped, AnAskJoins}
use Rattle.script_laws.specs.Finds.{AsksFirst, IsUnderWay}
use Rattle.script_laws.specs.Answered.{IsAnswered, StepTexts, moved}
use Rattle.script_laws.specs.Words.{ask_words}
use Rattle.script_laws.proofs.Places.{Made, Run, RunEnds, RunGoes, made_there, run_finishes, run_texts, turn_of, updated_both}
use Rattle.script_laws.proofs.Said.{said_inserted}
use Rattle.script_laws.proofs.RowSteps.{HasSeat, above_none, busy, busy_at, done_so, fits, grown, has_index, is_at, is_taken, only, puts, recounts, turns}
use Rattle.script_laws.proofs.RowSteps as row

module _ (p : Place) (n t b before : ℕ) (x : OpenTransaction) (values : List Value) (way : IsUnderWay p n t x) (asks : AsksFirst (p.tables t) b before)
    (queue : List Asked) (dropped : List Asked) (takes : (asked : Asked) → p.queue ≡ asked ∷ queue → ⊥)
    (asking : (a c : Accounts) → a.table ≡ t → a.queue ≡ p.queue → c.queue ≡ queue → a.of n ≡ no_account → c.of n ≡ record no_account { dropped = dropped }
    → Asking n a c (record { table = a.table; at = 0; range = before }) None) where
  abbrev w : TableState
  w = p.tables t

  abbrev r : Row
  r = next_row x t values

  abbrev st : Statement
  st = statements.Insert t values

  seat : HasSeat w b
  seat = record { only = asks.only; place = asks.place; empty = asks.empty; unlocked = asks.unlocked }

  abbrev state : Task → TableState
  state = grown w n b r seat way.rests

  abbrev hand : Hand
  hand = row.hand p n t b x values way seat

  abbrev telling : Account
  telling = record no_account { dropped = dropped }

  asks_for : AsksFor (state (Reaches b 0 r 0)) b 0 0
  asks_for = (asks.asks, refl, asks.begins, above_none (range_in w 0 b) before asks.behind)

  to_ask : Settles n (state (Reaches b 0 r 0)) (state (Asks b 0 r 0))
  to_ask = GoesOn (Reaches b 0 r 0) (Asks b 0 r 0) (ToAsk b 0 r 0 (has_index w n b r seat way.rests) asks_for) (turns w n b r seat way.rests (Reaches b 0 r 0) (Asks b 0 r 0))
      (only w n b r seat way.rests (Reaches b 0 r 0) (Asks b 0 r 0))

  not_done : Asks b 0 r 0 ≡ Resting → ⊥
  not_done is = absurd (cc)

  not_done_yet : Inserts b 0 r 0 Empty ≡ Resting → ⊥
  not_done_yet is = absurd (cc)

  abbrev q0 : Place
  q0 = with_statement p n st

  abbrev q1 : Place
  q1 = row.q1 p n t b x values way seat (Asks b 0 r 0) to_ask not_done

  abbrev q2 : Place
  q2 = row.q2 p n t b x values way seat queue dropped

  abbrev q3 : Place
  q3 = row.q3 p n t b x values way seat queue dropped

  -- it asks
  asks_now : Made n t st q1 (state (Asks b 0 r 0)) (state (Inserts b 0 r 0 Empty)) (accounts_at q1 t) (accounts_at q2 t) points.Ask (Inserts b 0 r 0 Empty)
  asks_now = record {
    step = record {
      between = state (Inserts b 0 r 0 Empty);
      does = AsksSummary b 0 r 0 (turns w n b r seat way.rests (Asks b 0 r 0) (Inserts b 0 r 0 Empty)) (only w n b r seat way.rests (Asks b 0 r 0) (Inserts b 0 r 0 Empty));
      settles = stays_at n (state (Inserts b 0 r 0 Empty)) (Inserts b 0 r 0 Empty) (is_at w n b r seat way.rests (Inserts b 0 r 0 Empty)) tt;
    };
    own = inl (busy p n t b x values way seat (Asks b 0 r 0) not_done);
    dead = tt;
    accounts = record {
      table = refl;
      others = λ m. updated_both p.accounts n no_account telling m;
      adds = (
        before,
        asks.behind,
        subst (λ o. Asking n (accounts_at q1 t) (accounts_at q2 t) (record { table = t; at = 0; range = before }) o) (sym asks.asked)
            (asking (accounts_at q1 t) (accounts_at q2 t) refl refl refl (updated_here p.accounts n no_account) (updated_here p.accounts n telling)),
      );
    };
    takes = takes;
    point_is = refl;
    within_is = is_at w n b r seat way.rests (Inserts b 0 r 0 Empty);
  }

  asks_so : Steps q1 n (Moved points.Ask) q2
  asks_so =
      let old = updated_here p.tables t (state (Asks b 0 r 0)) in
      let new = updated_here p.tables t (state (Inserts b 0 r 0 Empty)) in
      let others = recounts p n t b x values way seat (state (Asks b 0 r 0)) (state (Inserts b 0 r 0 Empty)) in
      let there = made_there n t st q1 q2 (state (Asks b 0 r 0)) (state (Inserts b 0 r 0 Empty)) points.Ask (Inserts b 0 r 0 Empty) old new refl others (accounts_at q1 t) (accounts_at q2 t) asks_now in
      record {
        hand = hand;
        in_hand = updated_here p.hands n (Some hand);
        steps = line.GoesOn points.Ask (course_of q1 hand) q2
            (turn_of n t st q1 q2 (state (Asks b 0 r 0)) (state (Inserts b 0 r 0 Empty)) points.Ask (Inserts b 0 r 0 Empty) old new refl others there)
            there.point_is (busy_at p n t b x values way seat (Inserts b 0 r 0 Empty) not_done_yet) refl
            (record { layout = refl; opening = refl; names = refl; hand = updated_here p.hands n (Some hand); others = λ m. inr refl; journal = refl });
        fits = fits p n t b x values way seat;
      }

  whole : Run n q0 ask_words (Ended (replies.Inserted r.id)) q3
  whole = RunGoes q0 q1 q3 points.Row (codes "ask" ∷ []) (Ended (replies.Inserted r.id)) (puts p n t b x values way seat (Asks b 0 r 0) to_ask not_done)
      (RunGoes q1 q2 q3 points.Ask [] (Ended (replies.Inserted r.id)) asks_so (RunEnds q2 q3 (Ended (replies.Inserted r.id)) (done_so p n t b x values way seat queue dropped)))

  pub ask_answered : (name : List ℕ) → IsAnswered p n name st ask_words (dropped_text (dropped_of p.layout dropped) ++ reply_text name (replies.Inserted r.id)) queue
  ask_answered name =
      let text = dropped_text (dropped_of p.layout dropped) ++ reply_text name (replies.Inserted r.id) in
      let said : outcome_text name (dropped_at q3 n) (Ended (replies.Inserted r.id)) ≡ text =
      ap (λ (a : Account). outcome_text name (dropped_of p.layout a.dropped) (Ended (replies.Inserted r.id))) (updated_here p.accounts n telling) in
      record {
        behind = q3;
        plain = subst (λ (o : List ℕ). Does p n name (orders.Whole st) o q3) said
            (Plain st (Ended (replies.Inserted r.id)) q0 q3 (is_taken p n t b x values way seat) (run_finishes n (Ended (replies.Inserted r.id)) (no_move (replies.Inserted r.id)) _ _ _ _ refl whole));
        starts = Starts st q0 (is_taken p n t b x values way seat);
        steps = subst (λ (o : List ℕ). StepTexts n name q0 (common.map (moved name) ask_words ++ o ∷ []) q3) said (run_texts n name q0 ask_words (Ended (replies.Inserted r.id)) q3 whole);
        idle = updated_here p.hands n None;
        queue_is = refl;
      }

not_before : (asked last : Asked) (queue : List Asked) → queue ≡ asked ∷ (queue ++ last ∷ []) → ⊥
not_before asked last queue same = omega (arith, ap (λ (l : List Asked). length l) same, length-append queue (last ∷ []))

pub an_ask_is_dropped : AnAskIsDropped
an_ask_is_dropped p n t b before name x values way asks full =
    let asked : Asked = record { table = t; at = 0; range = before } in
    let line = codes "- dropped " ++ index_name p.layout t 0 ++ codes " " ++ decimal before ++ codes "\n" in
    subst (λ text. IsAnswered p n name (statements.Insert t values) ask_words text p.queue)
    (ap (λ (o : List ℕ). o ++ reply_text name (replies.Inserted (next_row x t values).id)) (append-nil line) ∙ ap (λ (o : List ℕ). line ++ o) (said_inserted name (next_row x t values).id))
    (ask_answered p n t b before x values way asks p.queue (asked ∷ []) (λ other same. not_behind other p.queue same)
    (λ a c table old new mine its. subst (λ (o : Asked). Asking n a c o None) (ap (λ (k : ℕ). record { table = k; at = 0; range = before }) (sym table))
    (IsDropped (subst (λ (l : List Asked). 64 ≤ length l) (sym old) full) (record { account = its ∙ sym (ap (λ (o : Account). record o { dropped = o.dropped ++ asked ∷ [] }) mine); queue = new ∙ sym old })))
    name)

pub an_ask_joins : AnAskJoins
an_ask_joins p n t b before name x values way asks few =
    let asked : Asked = record { table = t; at = 0; range = before } in
    subst (λ text. IsAnswered p n name (statements.Insert t values) ask_words text (p.queue ++ asked ∷ [])) (said_inserted name (next_row x t values).id)
    (ask_answered p n t b before x values way asks (p.queue ++ asked ∷ []) [] (λ other same. not_before other asked p.queue same)
    (λ a c table old new mine its. subst (λ (o : Asked). Asking n a c o None) (ap (λ (k : ℕ). record { table = k; at = 0; range = before }) (sym table))
    (Joins (subst (λ (l : List Asked). length l < 64) (sym old) few) (new ∙ ap (λ (l : List Asked). l ++ asked ∷ []) (sym old)) (its ∙ sym mine)))
    name)
