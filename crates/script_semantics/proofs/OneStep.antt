-- A plain line of a transaction is done as in one step.
use Rattle.std.proofs.Common.{◌≡◌, ◌⊎◌, inl, inr, ℕ, List, [], None, Some, refl, sym, ap, ◌∙◌, subst}
use Rattle.std.proofs.lemmas.Option.{same_Some, none-some}
use Rattle.block_model.specs.declared.reply.Point.{Point}
use Rattle.block_model.specs.declared.reply.Point.TheVariants as points
use Rattle.block_model.specs.declared.reply.Refusal.{Refusal}
use Rattle.block_model.specs.declared.reply.Refusal.TheVariants as refusals
use Rattle.block_model.specs.declared.reply.Reply.{Reply}
use Rattle.block_model.specs.declared.reply.Reply.TheVariants as replies
use Rattle.block_model.specs.declared.request.Tag.{Tag}
use Rattle.block_model.specs.DatabaseState.{DatabaseState}
use Rattle.block_model.specs.RequestEffect.{Answer}
use Rattle.store_layout.specs.DiskLayout.{DiskLayout}
use Rattle.store_layout.specs.declared.statement.Statement.{Statement}
use Rattle.store_layout.specs.declared.statement.Statement.TheVariants as statements
use Rattle.store_layout.specs.HeapRoom.{full_table}
use Rattle.store_layout.specs.StatementRequests.{refusal_at, reply_to_statement}
use Rattle.coverage.specs.Accounts.{Account}
use Rattle.coverage.specs.Refusals as causes
use Rattle.coverage.specs.Table.{Task}
use Rattle.script_semantics.specs.Place.{Hand, Place, new_hand, database_at}
use Rattle.script_semantics.specs.Requests.{Course, MakesAll, OneMore, MakesMark, First, Further}
use Rattle.script_semantics.specs.StatementSteps.{Outcome, Moved, Ended, Waits, course_of, MakesAt, RefusesSo, ForMemory, HeapIsFull, IndexIsFull, reply_after, StepsTo}
use Rattle.script_semantics.specs.StatementSteps.{GoesOn, Replies, MeetsConflict, IsRefused, AtOnce, NothingAsked, LacksMemoryAtOnce, NoNumber, IsWaiting}
use Rattle.script_semantics.specs.LineTexts as texts
use Rattle.script_semantics.specs.LineTexts.{Submits, Taken, NotTaken, WantsMemory, Plain, RefusesPlain, Finishes, LastStep, block_refusal, dropped_at, outcome_text, refused_text}
use Rattle.script_semantics.specs.LineTexts.{submit_refusal, with_statement}
use Rattle.script_semantics.specs.Laws.{IsTransactional, IsWant, OfMemory, OfRoom, OfLock, IsOneStep, IsWanting, PlainIsAsOneStep}
use Rattle.script_semantics.proofs.Orders.{updated_here, refusal_by_block}
use Rattle.script_semantics.proofs.Requests.{as_one_step}

-- how a statement that goes on stands: further requests of it are further ones of the whole
record MovesOn (p q : Place) (n : ℕ) (hand : Hand) : Type 0 where
  next : Hand
  in_hand : q.hands n ≡ Some next
  statement : next.statement ≡ hand.statement
  opening : q.opening ≡ p.opening
  layout : q.layout ≡ p.layout
  makes : (f : Course) → MakesAll p.opening n hand.statement (course_of q next) f → MakesAll p.opening n hand.statement (course_of p hand) f

made_by_mark : (opening : DatabaseState) (n : ℕ) (statement : Statement) (c d f : Course) → MakesMark opening n statement c d → MakesAll opening n statement d f
    → MakesAll opening n statement c f
made_by_mark opening n statement c _ f (First d g none one two) all = OneMore c d f one (OneMore d g f two all)
made_by_mark opening n statement c _ f (Further first more d some one) all = OneMore c d f one all

made_at : (point : Point) (p : Place) (n : ℕ) (hand : Hand) (c f : Course) → MakesAt point p n hand c → MakesAll p.opening n hand.statement c f
    → MakesAll p.opening n hand.statement (course_of p hand) f
made_at points.Row p n hand c f one all = OneMore (course_of p hand) c f one all
made_at points.Mark p n hand c f made all = made_by_mark p.opening n hand.statement (course_of p hand) c f made.0 all
made_at point p n hand c f same all = subst (λ d. MakesAll p.opening n hand.statement d f) same all

moves_on : (p : Place) (n : ℕ) (hand : Hand) (point : Point) (q : Place) → StepsTo p n hand (Moved point) q → MovesOn p q n hand
moves_on p n hand _ _ (GoesOn point c q turn is on made leads) = record {
  next = record hand { answers = c.answers };
  in_hand = leads.hand;
  statement = refl;
  opening = leads.opening;
  layout = leads.layout;
  makes = λ f all. made_at point p n hand c f made (subst (λ j. MakesAll p.opening n hand.statement (record { journal = j; answers = c.answers }) f) leads.journal all);
}

-- the whole of a statement's requests was made, or something was wanting
data Made (p : Place) (n : ℕ) (hand : Hand) (outcome : Outcome) (q : Place) : Type 0 where
  Whole : (c : Course) (reply : Reply) → MakesAll p.opening n hand.statement (course_of p hand) c → q.journal ≡ c.journal
      → Some reply ≡ reply_to_statement (full_table p.layout) hand.statement c.answers → outcome ≡ Ended reply → Made p n hand outcome q
  Wants : (refusal : Refusal) → IsWant refusal → (outcome ≡ Ended (replies.Refused refusal)) ⊎ (outcome ≡ Waits refusal) → Made p n hand outcome q

pub reply_is : (layout : DiskLayout) (table : ℕ) (task : Task) (account : Account) (answers : List Answer) (statement : Statement) → IsTransactional statement
    → reply_after layout table task account answers statement ≡ reply_to_statement (full_table layout) statement answers
reply_is layout table task account answers statements.Begin is = refl
reply_is layout table task account answers statements.Commit is = refl
reply_is layout table task account answers statements.Rollback is = refl
reply_is layout table task account answers (statements.Insert number values) is = refl
reply_is layout table task account answers (statements.Select q) is = refl
reply_is layout table task account answers (statements.Delete q) is = refl
reply_is layout table task account answers (statements.Explain _) is = elim is [ ]
reply_is layout table task account answers (statements.Summarize _ _) is = elim is [ ]
reply_is layout table task account answers (statements.Desummarize _ _) is = elim is [ ]
reply_is layout table task account answers (statements.Vacuum _) is = elim is [ ]
reply_is layout table task account answers statements.Work is = elim is [ ]

wants_step : (p : Place) (table : ℕ) (statement : Statement) (why : causes.Refusal) (tag : Tag) (told : Refusal) → RefusesSo p table statement why tag told → IsWant told
wants_step p table statement _ _ _ (ForMemory takes) = OfMemory
wants_step p table statement _ _ _ (HeapIsFull number is) = OfRoom _ _
wants_step p table statement _ _ _ (IndexIsFull at number puts) = OfRoom _ _

work_is_none : (hand : Hand) → hand.statement ≡ statements.Work → IsTransactional hand.statement → ⊥
work_is_none hand is transactional = subst IsTransactional is transactional

made_last : (p : Place) (n : ℕ) (hand : Hand) (outcome : Outcome) (q : Place) → ((point : Point) → outcome ≡ Moved point → ⊥) → IsTransactional hand.statement
    → StepsTo p n hand outcome q → Made p n hand outcome q
made_last p n hand _ _ last is (GoesOn point c q turn named on made leads) = absurd (last point refl)
made_last p n hand _ _ last is (Replies point c reply q turn named rests all replied leads) =
    Whole c reply all leads.journal (replied ∙ reply_is p.layout turn.table (turn.step.between.task n) (q.accounts n) c.answers hand.statement is) refl
made_last p n hand _ _ last is (MeetsConflict id c q turn named all replied leads) = Whole c _ all leads.journal replied refl
made_last p n hand _ _ last is (IsRefused why tag told q turn named so leads) = Wants told (wants_step p turn.table hand.statement why tag told so) (inl refl)
made_last p n hand _ _ last is (AtOnce c reply q once all replied stay leads) = Whole c reply all leads.journal replied refl
made_last p n hand _ _ last is (NothingAsked q work rest empty stay leads) = absurd (work_is_none hand work is)
made_last p n hand _ _ last is (LacksMemoryAtOnce q looking rest stay leads) = Wants refusals.Memory OfMemory (inl refl)
made_last p n hand _ _ last is (NoNumber q begin next stay leads) = Wants _ (OfRoom _ _) (inl refl)
made_last p n hand _ _ last is (IsWaiting table told on own blocked waits) = Wants told (subst IsWant (sym waits.2) (OfLock _ _)) (inr refl)

made_further : (p q r : Place) (n : ℕ) (hand : Hand) (outcome : Outcome) (on : MovesOn p q n hand) → Made q n on.next outcome r → Made p n hand outcome r
made_further p q r n hand outcome on (Whole c reply all journal replied is) =
    Whole c reply (on.makes c (subst (λ o. MakesAll o n hand.statement (course_of q on.next) c) on.opening (subst (λ st. MakesAll q.opening n st (course_of q on.next) c) on.statement all)))
    journal (replied ∙ ap (λ st. reply_to_statement (full_table q.layout) st c.answers) on.statement ∙ ap (λ l. reply_to_statement (full_table l) hand.statement c.answers) on.layout) is
made_further p q r n hand outcome on (Wants refusal want is) = Wants refusal want is

made_all : (n : ℕ) (p q : Place) (outcome : Outcome) (hand : Hand) → p.hands n ≡ Some hand → IsTransactional hand.statement → Finishes n p outcome q
    → Made p n hand outcome q
made_all n _ _ _ hand there is (LastStep p q outcome last steps) =
    made_last p n hand outcome q last is (subst (λ h. StepsTo p n h outcome q) (same_Some _ _ (sym steps.in_hand ∙ there)) steps.steps)
made_all n _ _ _ hand there is (texts.Further p q r point outcome steps more) =
    let on = moves_on p n hand point q (subst (λ h. StepsTo p n h (Moved point) q) (same_Some _ _ (sym steps.in_hand ∙ there)) steps.steps) in
    made_further p q r n hand outcome on (made_all n q r outcome on.next on.in_hand (subst IsTransactional (sym on.statement) is) more)

not_blocked : (limit : ℕ) (st : Statement) → IsTransactional st → block_refusal limit st ≡ None
not_blocked limit statements.Begin is = refl
not_blocked limit statements.Commit is = refl
not_blocked limit statements.Rollback is = refl
not_blocked limit (statements.Insert table values) is = refl
not_blocked limit (statements.Select q) is = refl
not_blocked limit (statements.Delete q) is = refl
not_blocked limit (statements.Explain _) is = elim is [ ]
not_blocked limit (statements.Summarize _ _) is = elim is [ ]
not_blocked limit (statements.Desummarize _ _) is = elim is [ ]
not_blocked limit (statements.Vacuum _) is = elim is [ ]
not_blocked limit statements.Work is = elim is [ ]

pub refusal_is : (p : Place) (n : ℕ) (st : Statement) → p.hands n ≡ None → IsTransactional st → submit_refusal p n st ≡ refusal_at (database_at p) n st
refusal_is p n st idle is = refusal_by_block p n st None idle (not_blocked p.layout.sizes.heap_blocks st is)

module _ (p : Place) (n : ℕ) (name : List ℕ) (st : Statement) (idle : p.hands n ≡ None) (is : IsTransactional st) (taken : refusal_at (database_at p) n st ≡ None) where
  abbrev Either : Place → List ℕ → Type 0
  Either r text = IsOneStep p r n name text st ⊎ IsWanting name text

  whole : (outcome : Outcome) (r : Place) → Made (with_statement p n st) n (new_hand st) outcome r → Either r (outcome_text name (dropped_at r n) outcome)
  whole outcome r (Whole c reply all journal replied ends) =
      let one = as_one_step p.opening n st p.journal c all in
      inl (record {
        journal = journal ∙ one.journal_is;
        reply = reply;
        replied = replied ∙ ap (reply_to_statement (full_table p.layout) st) one.answers_are;
        dropped = dropped_at r n;
        text_is = ap (outcome_text name (dropped_at r n)) ends;
      })
  whole outcome r (Wants refusal want (inl ends)) = inr (record { refusal = refusal; want = want; dropped = dropped_at r n; text_is = ap (outcome_text name (dropped_at r n)) ends })
  whole outcome r (Wants refusal want (inr waits)) = inr (record { refusal = refusal; want = want; dropped = []; text_is = ap (outcome_text name (dropped_at r n)) waits })

  allowed : submit_refusal p n st ≡ None
  allowed = refusal_is p n st idle is ∙ taken

  plain : (r : Place) (outcome : Outcome) (q : Place) → Submits p n st None q → Finishes n q outcome r → Either r (outcome_text name (dropped_at r n) outcome)
  plain r outcome _ (Taken none) finishes = whole outcome r (made_all n (with_statement p n st) r outcome (new_hand st) (updated_here p.hands n _) is finishes)

  not_plain : (refusal : Refusal) (q : Place) → Submits p n st (Some refusal) q → Either q (refused_text name refusal)
  not_plain _ _ (NotTaken refusal because) = absurd (none-some _ (sym allowed ∙ because))
  not_plain _ _ (WantsMemory none may) = inr (record { refusal = refusals.Memory; want = OfMemory; dropped = []; text_is = refl })

pub plain_as_one_step : PlainIsAsOneStep
plain_as_one_step p _ n name _ _ idle is taken (Plain st outcome q r submits finishes) = plain p n name st idle is taken r outcome q submits finishes
plain_as_one_step p _ n name _ _ idle is taken (RefusesPlain st refusal q submits) = not_plain p n name st idle is taken refusal q submits
