-- Work where no summary is asked for.
use Rattle.std.proofs.Common.{◌≡◌, ◌⊎◌, inl, inr, ℕ, ◌≤◌, List, [], ◌++◌, length, slice_get, Option, None, Some, refl, sym, ap, ◌∙◌, subst}
use Rattle.std.specs.Prelude.{codes}
use Rattle.std.specs.FinMap as map
use Rattle.std.proofs.lemmas.Option.{none-some, same_Some}
use Rattle.block_model.specs.declared.reply.Reply.TheVariants as replies
use Rattle.block_model.specs.DatabaseState.{OpenTransaction}
use Rattle.script_semantics.specs.Beginnings.{IsAtRest, IsWorkIn}
use Rattle.script_semantics.specs.LineTexts as texts
use Rattle.script_semantics.specs.LineTexts.{Finishes, LastStep, Taken, dropped_at, outcome_text, submit_refusal, with_statement}
use Rattle.script_semantics.specs.Names.{dropped_of}
use Rattle.script_semantics.specs.Place.{Hand, Place, database_at, new_hand, updated}
use Rattle.script_semantics.specs.StatementSteps as line
use Rattle.script_semantics.specs.StatementSteps.{AtOnce, Ended, IsRefused, IsWaiting, LacksMemoryAtOnce, MeetsConflict, Moved, NoNumber, NothingAsked, Outcome, Replies, Steps, StepsTo}
use Rattle.script_semantics.proofs.Bare.{no_move}
use Rattle.script_semantics.proofs.Orders.{refusal_by_block, updated_here}
use Rattle.reply_texts.specs.Texts.{reply_text}
use Rattle.store_layout.specs.declared.limits.TheConstants.{MAX_ENTRIES}
use Rattle.store_layout.specs.declared.statement.Statement.TheVariants as statements
use Rattle.store_layout.specs.StatementRequests.{submission_refusal}
use Rattle.coverage.specs.Accounts.{Account, Asked, no_account}
use Rattle.script_laws.specs.Answered.{IsAnswered}
use Rattle.script_laws.specs.RowLaws.{WorkFindsNone}
use Rattle.script_laws.proofs.Places.{RunEnds, answered, updated_both}
use Rattle.script_laws.proofs.PlainLines.{plain_told}
use Rattle.script_laws.proofs.Said.{said_none}

module _ (p : Place) (n : ℕ) (idle : p.hands n ≡ None) (fits : length p.journal ≤ MAX_ENTRIES) (still : IsAtRest p n) (empty : p.queue ≡ []) (name : List ℕ) where
  abbrev q : Place
  q = with_statement p n statements.Work

  abbrev r : Place
  r = record q { hands = updated p.hands n None }

  allowed : submit_refusal p n statements.Work ≡ None
  allowed = refusal_by_block p n statements.Work None idle refl ∙ by (map.get (database_at p).sessions n)
    where
      by : (transaction : Option OpenTransaction) → submission_refusal transaction statements.Work ≡ None
      by None = refl
      by (Some x) = refl

  in_hand : q.hands n ≡ Some (new_hand statements.Work)
  in_hand = updated_here p.hands n (Some (new_hand statements.Work))

  tells_none : Steps q n (Ended replies.Idle) r
  tells_none = record {
    hand = new_hand statements.Work;
    in_hand = in_hand;
    steps = NothingAsked r refl still empty (record { tables = λ i. ((p.tables i).counts, refl); accounts = refl; queue = refl }) (record {
      layout = refl;
      opening = refl;
      names = refl;
      hand = updated_here p.hands n None;
      others = λ m. updated_both p.hands n (Some (new_hand statements.Work)) None m;
      journal = refl;
    });
    fits = fits;
  }

  is_answered : IsAnswered p n name statements.Work [] (reply_text name replies.Idle) []
  is_answered = answered p n name statements.Work [] replies.Idle [] (Taken allowed) (record {
    behind = r;
    run = RunEnds q r (Ended replies.Idle) tells_none;
    idle = updated_here p.hands n None;
    told = ap (λ (a : Account). a.dropped) (updated_here p.accounts n no_account);
    queue_is = empty;
  })

  -- and nothing else
  nowhere : (i : ℕ) → IsWorkIn q n i → ⊥
  nowhere i (inl busy) = busy.1 (still i busy.0)
  nowhere i (inr first) = none-some _ (sym (ap (λ (l : List Asked). slice_get l 0) empty) ∙ first.1.1)

  ends_so : (outcome : Outcome) (v : Place) → StepsTo q n (new_hand statements.Work) outcome v → (outcome ≡ Ended replies.Idle) × (v.accounts ≡ q.accounts)
  ends_so _ _ (line.GoesOn point c v turn named on made leads) = absurd (nowhere turn.table turn.on)
  ends_so _ _ (Replies point c reply v turn named rests all replied leads) = absurd (nowhere turn.table turn.on)
  ends_so _ _ (MeetsConflict id c v turn named all replied leads) = absurd (nowhere turn.table turn.on)
  ends_so _ _ (IsRefused why tag told v turn named so leads) = absurd (nowhere turn.table turn.on)
  ends_so _ _ (AtOnce c reply v once all replied stay leads) = elim once [ ]
  ends_so _ _ (NothingAsked v work rest none stay leads) = (refl, stay.accounts)
  ends_so _ _ (LacksMemoryAtOnce v lacks rest stay leads) = absurd (none-some _ (sym (ap (λ (l : List Asked). slice_get l 0) empty) ∙ lacks.1))
  ends_so _ _ (NoNumber v begin next stay leads) = absurd (cc)
  ends_so _ _ (IsWaiting table told on own blocked waits) = absurd (nowhere table on)

  steps_so : (outcome : Outcome) (v : Place) → Steps q n outcome v → (outcome ≡ Ended replies.Idle) × (v.accounts ≡ q.accounts)
  steps_so outcome v steps = ends_so outcome v (subst (λ (h : Hand). StepsTo q n h outcome v) (same_Some _ _ (sym steps.in_hand ∙ in_hand)) steps.steps)

  finishes_so : (u : Place) (outcome : Outcome) (v : Place) → u ≡ q → Finishes n u outcome v → outcome_text name (dropped_at v n) outcome ≡ reply_text name replies.Idle
  finishes_so _ _ _ is (LastStep u v outcome last steps) =
      let so = steps_so outcome v (subst (λ (x : Place). Steps x n outcome v) is steps) in
      ap (λ (o : Outcome). outcome_text name (dropped_at v n) o) so.0
      ∙ ap (λ (a : Account). outcome_text name (dropped_of v.layout a.dropped) (Ended replies.Idle)) (ap (λ (f : ℕ → Account). f n) so.1 ∙ updated_here p.accounts n no_account)
  finishes_so _ _ _ is (texts.Further u v w point outcome steps more) =
      absurd (no_move replies.Idle point (sym (steps_so (Moved point) v (subst (λ (x : Place). Steps x n (Moved point) v) is steps)).0))

pub work_finds_none : WorkFindsNone
work_finds_none p n name idle fits still empty = (
  subst (λ text. IsAnswered p n name statements.Work [] text []) (said_none name) (is_answered p n idle fits still empty name),
  λ text q line. subst (λ (said : List ℕ). (text ≡ said) ⊎ (text ≡ name ++ codes " error 13\n")) (said_none name)
      (plain_told p n name statements.Work (allowed p n idle fits still empty name) (reply_text name replies.Idle) (finishes_so p n idle fits still empty name) text q line),
)
