-- A step of the statement in hand, by a step of its table; and lines that step a statement up to its reply.
use Rattle.std.proofs.Common.{◌≡◌, ◌≢◌, ◌⊎◌, inl, inr, ℕ, ◌≤◌, List, [], ◌∷◌, ◌++◌, map, length, None, Some, refl, sym, ap, ◌∙◌, subst}
use Rattle.block_model.specs.declared.reply.Point.{Point}
use Rattle.block_model.specs.declared.reply.Reply.{Reply}
use Rattle.script_semantics.specs.Beginnings.{Begins, IsIn, TakesUp}
use Rattle.script_semantics.specs.LineTexts as texts
use Rattle.script_semantics.specs.LineTexts.{Does, Finishes, LastStep, Plain, Starts, StepsOnce, Submits, dropped_at, outcome_text, with_statement}
use Rattle.script_semantics.specs.Names.{dropped_of}
use Rattle.script_semantics.specs.Place.{Place, accounts_at, new_hand, updated}
use Rattle.script_semantics.specs.Requests.{NoneLeft, next_request}
use Rattle.script_semantics.specs.StatementSteps.{Ended, GoesOn, MakesAt, Moved, Outcome, Replies, Steps, course_of, reply_after}
use Rattle.script_semantics.specs.Turns.{Leads, PrunesTheDead, Recounts, Turn}
use Rattle.script_semantics.proofs.Bare.{no_move, updated_there}
use Rattle.query_words.specs.declared.line.Order.TheVariants as orders
use Rattle.reply_texts.specs.StepTexts.{point_word}
use Rattle.reply_texts.specs.Texts.{reply_text}
use Rattle.store_layout.specs.declared.limits.TheConstants.{MAX_ENTRIES}
use Rattle.store_layout.specs.declared.statement.Statement.{Statement}
use Rattle.coverage.specs.Accounts.{Account, Accounts, AccountsStep, Asked}
use Rattle.coverage.specs.Table.{Task, Resting, TableState}
use Rattle.coverage.specs.TablePoints.{does_point}
use Rattle.coverage.specs.TableSteps.{TableStep}
use Rattle.script_laws.specs.Answered.{IsAnswered, NoLine, OneLine, StepTexts, moved}

pub updated_both : {A : Type 0} (f : ℕ → A) (n : ℕ) (x y : A) (m : ℕ) → (m ≡ n) ⊎ (updated f n y m ≡ updated f n x m)
updated_both f n x y m = by (updated_there f n x m) (updated_there f n y m)
  where
    by : (m ≡ n) ⊎ (updated f n x m ≡ f m) → (m ≡ n) ⊎ (updated f n y m ≡ f m) → (m ≡ n) ⊎ (updated f n y m ≡ updated f n x m)
    by (inl is) other = inl is
    by (inr one) (inl is) = inl is
    by (inr one) (inr two) = inr (two ∙ sym one)

module _ (n t : ℕ) (st : Statement) where
  -- a step of the table, with all that a turn tells of it
  pub record Made (q : Place) (w v : TableState) (a b : Accounts) (point : Point) (within : Task) : Type 0 where
    pub step : TableStep n w v
    pub own : (w.task n ≢ Resting) ⊎ Begins q n w st (step.between.task n)
    pub dead : PrunesTheDead q step.does
    pub accounts : AccountsStep n w step.between step.does a b
    pub takes : TakesUp st (w.task n) a.queue b.queue
    pub point_is : does_point n w step.between step.does ≡ Some point
    pub within_is : step.between.task n ≡ within

  module _ (q r : Place) (w v : TableState) (point : Point) (within : Task) (old : q.tables t ≡ w) (new : r.tables t ≡ v) (on : IsIn q n st t)
      (others : (i : ℕ) → (i ≡ t) ⊎ Recounts (q.tables i) (r.tables i)) where
    pub made_there : (a b : Accounts) → Made q w v a b point within → Made q (q.tables t) (r.tables t) a b point within
    made_there a b made = subst (λ x. Made q x (r.tables t) a b point within) (sym old) (subst (λ y. Made q w y a b point within) (sym new) made)

    abbrev pub turn_of : Made q (q.tables t) (r.tables t) (accounts_at q t) (accounts_at r t) point within → Turn q n st r
    turn_of made = record {
      table = t;
      on = on;
      step = made.step;
      own = made.own;
      dead = made.dead;
      accounts = made.accounts;
      takes = made.takes;
      others = others;
    }

    module _ (in_hand : q.hands n ≡ Some (new_hand st)) (fits : length r.journal ≤ MAX_ENTRIES) where
      pub goes : Made q w v (accounts_at q t) (accounts_at r t) point within → v.task n ≢ Resting → MakesAt point q n (new_hand st) (course_of q (new_hand st))
          → Leads q n (Some (new_hand st)) q.journal r → Steps q n (Moved point) r
      goes made busy makes leads =
          let there = made_there (accounts_at q t) (accounts_at r t) made in
          record {
            hand = new_hand st;
            in_hand = in_hand;
            steps = GoesOn point (course_of q (new_hand st)) r (turn_of there) there.point_is (λ rests. busy (sym (ap (λ (x : TableState). x.task n) new) ∙ rests)) makes leads;
            fits = fits;
          }

      pub replies_with : (account : Account) (reply : Reply) → Made q w v (accounts_at q t) (accounts_at r t) point within → v.task n ≡ Resting → next_request n st [] ≡ None
          → r.accounts n ≡ account → Some reply ≡ reply_after q.layout t within account [] st → Leads q n None q.journal r → Steps q n (Ended reply) r
      replies_with account reply made rests none tells replied leads =
          let there = made_there (accounts_at q t) (accounts_at r t) made in
          record {
            hand = new_hand st;
            in_hand = in_hand;
            steps = Replies point (course_of q (new_hand st)) reply r (turn_of there) there.point_is (ap (λ (x : TableState). x.task n) new ∙ rests) (NoneLeft _ none)
                (replied ∙ sym (ap (λ (task : Task). reply_after q.layout t task account [] st) there.within_is)
                ∙ sym (ap (λ (a : Account). reply_after q.layout t (there.step.between.task n) a [] st) tells)) leads;
            fits = fits;
          }

-- steps whose points have these words, and the last one's outcome
pub data Run (n : ℕ) : Place → List (List ℕ) → Outcome → Place → Type 0 where
  RunEnds : (p q : Place) (outcome : Outcome) → Steps p n outcome q → Run n p [] outcome q
  RunGoes : (p q r : Place) (point : Point) (words : List (List ℕ)) (outcome : Outcome) → Steps p n (Moved point) q → Run n q words outcome r → Run n p (point_word point ∷ words) outcome r

pub run_finishes : (n : ℕ) (outcome : Outcome) → ((point : Point) → outcome ≡ Moved point → ⊥) → (p : Place) (words : List (List ℕ)) (o : Outcome) (q : Place) → o ≡ outcome → Run n p words o q
    → Finishes n p outcome q
run_finishes n outcome last _ _ _ _ is (RunEnds p q o steps) = LastStep p q outcome last (subst (λ x. Steps p n x q) is steps)
run_finishes n outcome last _ _ _ _ is (RunGoes p q r point words o steps more) = texts.Further p q r point outcome steps (run_finishes n outcome last q words o r is more)

pub run_texts : (n : ℕ) (name : List ℕ) (p : Place) (words : List (List ℕ)) (outcome : Outcome) (q : Place) → Run n p words outcome q
    → StepTexts n name p (map (moved name) words ++ outcome_text name (dropped_at q n) outcome ∷ []) q
run_texts n name _ _ _ _ (RunEnds p q outcome steps) = OneLine p q q _ [] (StepsOnce outcome q steps) (NoLine q)
run_texts n name _ _ _ _ (RunGoes p q r point words outcome steps more) = OneLine p q r _ _ (StepsOnce (Moved point) q steps) (run_texts n name q words outcome r more)

-- a run to the reply, behind which nothing is in hand or dropped
pub record Answer (n : ℕ) (q : Place) (words : List (List ℕ)) (reply : Reply) (queue : List Asked) : Type 0 where
  pub behind : Place
  pub run : Run n q words (Ended reply) behind
  pub idle : behind.hands n ≡ None
  pub told : (behind.accounts n).dropped ≡ []
  pub queue_is : behind.queue ≡ queue

pub before : (n : ℕ) (p q : Place) (point : Point) (words : List (List ℕ)) (reply : Reply) (queue : List Asked) → Steps p n (Moved point) q → Answer n q words reply queue
    → Answer n p (point_word point ∷ words) reply queue
before n p q point words reply queue steps answer = record {
  behind = answer.behind;
  run = RunGoes p q answer.behind point words (Ended reply) steps answer.run;
  idle = answer.idle;
  told = answer.told;
  queue_is = answer.queue_is;
}

pub answered : (p : Place) (n : ℕ) (name : List ℕ) (st : Statement) (words : List (List ℕ)) (reply : Reply) (queue : List Asked) → Submits p n st None (with_statement p n st)
    → Answer n (with_statement p n st) words reply queue → IsAnswered p n name st words (reply_text name reply) queue
answered p n name st words reply queue taken answer =
    let said : outcome_text name (dropped_at answer.behind n) (Ended reply) ≡ reply_text name reply =
    ap (λ (dropped : List Asked). outcome_text name (dropped_of answer.behind.layout dropped) (Ended reply)) answer.told in
    record {
      behind = answer.behind;
      plain = subst (λ text. Does p n name (orders.Whole st) text answer.behind) said
          (Plain st (Ended reply) (with_statement p n st) answer.behind taken (run_finishes n (Ended reply) (no_move reply) _ _ _ _ refl answer.run));
      starts = Starts st (with_statement p n st) taken;
      steps = subst (λ text. StepTexts n name (with_statement p n st) (map (moved name) words ++ text ∷ []) answer.behind) said
          (run_texts n name (with_statement p n st) words (Ended reply) answer.behind answer.run);
      idle = answer.idle;
      queue_is = answer.queue_is;
    }
