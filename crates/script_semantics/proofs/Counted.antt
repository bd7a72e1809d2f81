-- A summarize that no other session steps beside answers how many ranges it gave a final tuple.
use Rattle.std.proofs.Common.{◌≡◌, ◌≢◌, ◌⊎◌, inl, inr, ℕ, List, [], ◌∷◌, All, length, Option, None, Some, refl, sym, ap, ◌∙◌, subst}
use Rattle.std.proofs.lemmas.List.Elements.{All-nil, All-cons}
use Rattle.std.proofs.lemmas.Option.{same_Some, none-some}
use Rattle.block_model.specs.declared.reply.Point.{Point}
use Rattle.block_model.specs.declared.reply.Reply.{Reply}
use Rattle.block_model.specs.declared.reply.Reply.TheVariants as replies
use Rattle.block_model.specs.RequestEffect.{Answer}
use Rattle.index_steps.specs.IndexTuples.{index_at}
use Rattle.store_layout.specs.declared.statement.Statement.TheVariants as statements
use Rattle.coverage.specs.Accounts.{Accounts, AccountsStep, AccountsRun, AccountsDone, AccountsNext}
use Rattle.coverage.specs.RangesMade.{GivesFinals, IsInHand, AreMadeFinal}
use Rattle.coverage.specs.Table.{Task, Resting, TableState}
use Rattle.coverage.specs.TableCovered.{IsTableKept}
use Rattle.coverage.specs.TableSteps.{TableStep}
use Rattle.script_semantics.specs.Place.{Hand, Place, accounts_at, new_hand}
use Rattle.script_semantics.specs.Beginnings.{Begins}
use Rattle.script_semantics.specs.Turns.{Turn}
use Rattle.script_semantics.specs.StatementSteps.{Outcome, Moved, Ended, StepsTo, GoesOn, Replies, MeetsConflict, IsRefused, AtOnce, NothingAsked, LacksMemoryAtOnce, NoNumber, IsWaiting}
use Rattle.script_semantics.specs.LineTexts as texts
use Rattle.script_semantics.specs.LineTexts.{Finishes, LastStep}
use Rattle.script_semantics.specs.Laws.{CountsFinals}

abbrev summarized : Outcome → Option ℕ
summarized (Ended (replies.Summarized count)) = Some count
summarized outcome = None

abbrev FinalsAreCounted : Type 0
FinalsAreCounted = (s : ℕ) (rest : List ℕ) (w u v : TableState) (a b c : Accounts) (step : TableStep s w u)
    (adds : AccountsStep s w step.between step.does a b) (run : AccountsRun rest u v b c) → IsTableKept w → w.task s ≡ Resting
    → GivesFinals (step.between.task s) → IsInHand s run
    → (made : List (ℕ × ℕ)) × AreMadeFinal s (AccountsNext s rest w u v a b c step adds run) made × (length made ≡ (c.of s).ranges)

-- a step of the session on this table
record TurnsIn (n t : ℕ) (p q : Place) : Type 0 where
  step : TableStep n (p.tables t) (q.tables t)
  accounts : AccountsStep n (p.tables t) step.between step.does (accounts_at p t) (accounts_at q t)
  first : (p.tables t).task n ≡ Resting → GivesFinals (step.between.task n)

module _ (n index : ℕ) (block : Option ℕ) where
  abbrev hand_with : List Answer → Hand
  hand_with answers = record { statement = statements.Summarize index block; answers = answers }

  begins_so : (p : Place) (w : TableState) (task : Task) (chosen : Option ℕ) → Begins p n w (statements.Summarize index chosen) task → GivesFinals task
  begins_so p w task None begins = subst GivesFinals (sym begins.2) tt
  begins_so p w task (Some only) begins = subst GivesFinals (sym begins.2) tt

  turns_here : (p q : Place) (turn : Turn p n (statements.Summarize index block) q) → TurnsIn n turn.table p q
  turns_here p q turn = record { step = turn.step; accounts = turn.accounts; first = λ rests. by rests turn.own }
    where
      by : (p.tables turn.table).task n ≡ Resting
          → ((p.tables turn.table).task n ≢ Resting) ⊎ Begins p n (p.tables turn.table) (statements.Summarize index block) (turn.step.between.task n)
          → GivesFinals (turn.step.between.task n)
      by rests (inl busy) = absurd (busy rests)
      by rests (inr begins) = begins_so p (p.tables turn.table) (turn.step.between.task n) block begins

  -- a step that goes on
  record GoesIn (t : ℕ) (p q : Place) : Type 0 where
    turns : TurnsIn n t p q
    answers : List Answer
    in_hand : q.hands n ≡ Some (hand_with answers)
    busy : (q.tables t).task n ≡ Resting → ⊥
    layout : q.layout ≡ p.layout

  goes_in : (t : ℕ) (p : Place) (answers : List Answer) (point : Point) (q : Place) → (index_at p.layout index).table ≡ t
      → StepsTo p n (hand_with answers) (Moved point) q → GoesIn t p q
  goes_in t p answers _ _ is (GoesOn point c q turn named on made leads) = record {
    turns = subst (λ i. TurnsIn n i p q) (turn.on ∙ is) (turns_here p q turn);
    answers = c.answers;
    in_hand = leads.hand;
    busy = subst (λ i. (q.tables i).task n ≡ Resting → ⊥) (turn.on ∙ is) on;
    layout = leads.layout;
  }

  -- the step that replies
  record RepliesIn (t : ℕ) (p q : Place) (count : ℕ) : Type 0 where
    turns : TurnsIn n t p q
    counted : (q.accounts n).ranges ≡ count

  replies_in : (t count : ℕ) (p : Place) (answers : List Answer) (outcome : Outcome) (q : Place) → (index_at p.layout index).table ≡ t
      → summarized outcome ≡ Some count → StepsTo p n (hand_with answers) outcome q → RepliesIn t p q count
  replies_in t count p answers _ _ is told (GoesOn point c q turn named on made leads) = absurd (none-some _ told)
  replies_in t count p answers _ _ is told (Replies point c reply q turn named rests all replied leads) = record {
    turns = subst (λ i. TurnsIn n i p q) (turn.on ∙ is) (turns_here p q turn);
    counted = same_Some _ _ (sym (ap (λ (r : Reply). summarized (Ended r)) (same_Some _ _ replied)) ∙ told);
  }
  replies_in t count p answers _ _ is told (MeetsConflict id c q turn named all replied leads) = absurd (none-some _ told)
  replies_in t count p answers _ _ is told (IsRefused why tag because q turn named so leads) = absurd (none-some _ told)
  replies_in t count p answers _ _ is told (AtOnce c reply q once all replied stay leads) = elim once [ ]
  replies_in t count p answers _ _ is told (NothingAsked q work rest empty stay leads) = absurd (none-some _ told)
  replies_in t count p answers _ _ is told (LacksMemoryAtOnce q looking rest stay leads) = absurd (none-some _ told)
  replies_in t count p answers _ _ is told (NoNumber q begin next stay leads) = absurd (none-some _ told)
  replies_in t count p answers _ _ is told (IsWaiting table because on own blocked waits) = absurd (none-some _ told)

  -- the steps up to the reply
  record RunsIn (t : ℕ) (p q : Place) (count : ℕ) : Type 0 where
    steps : List ℕ
    run : AccountsRun steps (p.tables t) (q.tables t) (accounts_at p t) (accounts_at q t)
    alone : All (λ m. m ≡ n) steps
    in_hand : IsInHand n run
    counted : (q.accounts n).ranges ≡ count

  runs_in : (t count : ℕ) (p q : Place) (outcome : Outcome) (answers : List Answer) → summarized outcome ≡ Some count
      → p.hands n ≡ Some (hand_with answers) → (index_at p.layout index).table ≡ t → ((p.tables t).task n ≡ Resting → ⊥) → Finishes n p outcome q
      → RunsIn t p q count
  runs_in t count _ _ _ answers told there is busy (LastStep p q outcome last steps) =
      let last_one = replies_in t count p answers outcome q is told (subst (λ h. StepsTo p n h outcome q) (same_Some _ _ (sym steps.in_hand ∙ there)) steps.steps) in
      record {
        steps = n ∷ [];
        run = AccountsNext n [] (p.tables t) (q.tables t) (q.tables t) (accounts_at p t) (accounts_at q t) (accounts_at q t) last_one.turns.step last_one.turns.accounts
            (AccountsDone (q.tables t) (accounts_at q t));
        alone = All-cons (λ m. m ≡ n) n [] refl (All-nil (λ m. m ≡ n));
        in_hand = (busy, tt);
        counted = last_one.counted;
      }
  runs_in t count _ _ _ answers told there is busy (texts.Further p q r point outcome steps more) =
      let goes = goes_in t p answers point q is (subst (λ h. StepsTo p n h (Moved point) q) (same_Some _ _ (sym steps.in_hand ∙ there)) steps.steps) in
      let runs = runs_in t count q r outcome goes.answers told goes.in_hand (ap (λ l. (index_at l index).table) goes.layout ∙ is) goes.busy more in
      record {
        steps = n ∷ runs.steps;
        run = AccountsNext n runs.steps (p.tables t) (q.tables t) (r.tables t) (accounts_at p t) (accounts_at q t) (accounts_at r t) goes.turns.step goes.turns.accounts runs.run;
        alone = All-cons (λ m. m ≡ n) n runs.steps refl runs.alone;
        in_hand = (busy, runs.in_hand);
        counted = runs.counted;
      }

  module _ (counts : FinalsAreCounted) where
    counted_all : (t count : ℕ) (p q : Place) (outcome : Outcome) → summarized outcome ≡ Some count → p.hands n ≡ Some (hand_with [])
        → (index_at p.layout index).table ≡ t → (p.tables t).task n ≡ Resting → IsTableKept (p.tables t) → Finishes n p outcome q → CountsFinals n t p q count
    counted_all t count _ _ _ told there is rests kept (LastStep p q outcome last steps) =
        let last_one = replies_in t count p [] outcome q is told (subst (λ h. StepsTo p n h outcome q) (same_Some _ _ (sym steps.in_hand ∙ there)) steps.steps) in
        let finals = counts n [] (p.tables t) (q.tables t) (q.tables t) (accounts_at p t) (accounts_at q t) (accounts_at q t) last_one.turns.step last_one.turns.accounts
        (AccountsDone (q.tables t) (accounts_at q t)) kept rests (last_one.turns.first rests) tt in
        record { steps = _; run = _; alone = All-cons (λ m. m ≡ n) n [] refl (All-nil (λ m. m ≡ n)); made = finals.0; finals = finals.1; count_is = finals.2 ∙ last_one.counted }
    counted_all t count _ _ _ told there is rests kept (texts.Further p q r point outcome steps more) =
        let goes = goes_in t p [] point q is (subst (λ h. StepsTo p n h (Moved point) q) (same_Some _ _ (sym steps.in_hand ∙ there)) steps.steps) in
        let runs = runs_in t count q r outcome goes.answers told goes.in_hand (ap (λ l. (index_at l index).table) goes.layout ∙ is) goes.busy more in
        let finals = counts n runs.steps (p.tables t) (q.tables t) (r.tables t) (accounts_at p t) (accounts_at q t) (accounts_at r t) goes.turns.step goes.turns.accounts
        runs.run kept rests (goes.turns.first rests) runs.in_hand in
        record { steps = _; run = _; alone = All-cons (λ m. m ≡ n) n runs.steps refl runs.alone; made = finals.0; finals = finals.1; count_is = finals.2 ∙ runs.counted }

pub finals_are_counted : FinalsAreCounted → (p q : Place) (n index count : ℕ) (block : Option ℕ) → p.hands n ≡ Some (new_hand (statements.Summarize index block))
    → (p.tables (index_at p.layout index).table).task n ≡ Resting → IsTableKept (p.tables (index_at p.layout index).table)
    → Finishes n p (Ended (replies.Summarized count)) q → CountsFinals n (index_at p.layout index).table p q count
finals_are_counted counts p q n index count block there rests kept finishes =
    counted_all n index block counts (index_at p.layout index).table count p q (Ended (replies.Summarized count)) refl there refl rests kept finishes
