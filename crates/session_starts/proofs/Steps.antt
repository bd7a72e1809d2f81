-- No step changes the committed table but a commit that is done.
use Rattle.std.proofs.Common.{◌≡◌, ◌⊎◌, inl, inr, ℕ, Bool, true, false, cond, List, [], ◌∷◌, ◌++◌, Option, None, Some, Ok, Err, refl, sym, ap, ◌∙◌, subst}
use Rattle.std.specs.Option.{option_map}
use Rattle.std.proofs.lemmas.Bool.{false≢true}
use Rattle.std.proofs.lemmas.Option.{same_Some}
use Rattle.block_model.specs.declared.reply.Point.{Point}
use Rattle.block_model.specs.declared.reply.Point.TheVariants as points
use Rattle.block_model.specs.declared.reply.Reply.{Reply}
use Rattle.block_model.specs.declared.reply.Reply.TheVariants as replies
use Rattle.block_model.specs.declared.request.Entry.{Entry}
use Rattle.block_model.specs.declared.request.Request.{Request}
use Rattle.block_model.specs.declared.request.Request.TheVariants as requests
use Rattle.block_model.specs.declared.request.Tag.{Tag}
use Rattle.block_model.specs.declared.row.Row.{Row}
use Rattle.block_model.specs.DatabaseState.{DatabaseState, OpenTransaction}
use Rattle.block_model.specs.RequestEffect.{Answer, after_request, effect_at, effect_is, reply_to}
use Rattle.block_model.specs.RequestEffect as effects
use Rattle.block_model.specs.SerialRun.{serial_run, serial_run-append}
use Rattle.store_layout.specs.declared.statement.Statement.{Statement}
use Rattle.store_layout.specs.declared.statement.Statement.TheVariants as statements
use Rattle.store_layout.specs.HeapRoom.{full_table}
use Rattle.store_layout.specs.StatementRequests.{end_reply, mark_entry, reply_to_statement, request_entry}
use Rattle.script_semantics.specs.Place.{Hand, Place, database_at}
use Rattle.script_semantics.specs.Requests.{Course, next_request, row_to_mark, refused_request, MakesOne, Enters, MakesAll, NoneLeft, OneMore, MakesMark, First, Further}
use Rattle.script_semantics.specs.StatementSteps.{Outcome, Ended, course_of, MakesAt, MayLackMemory, Steps, StepsTo, GoesOn, Replies, MeetsConflict, IsRefused, AtOnce, NothingAsked, LacksMemoryAtOnce, NoNumber, IsWaiting}
use Rattle.script_semantics.specs.Beginnings.{IsIn}
use Rattle.script_semantics.specs.Turns.{Leads}
use Rattle.script_semantics.proofs.Requests.{as_one_step, none_made}
use Rattle.transactions.specs.FoundLaws.{IsCommit, OnlyCommitsChangeTable, table_committed}
use Rattle.session_parts.specs.declared.faults.Step.TheVariants as steps
use Rattle.session_parts.specs.declared.faults.StoreFault.TheVariants as stops
use Rattle.session_starts.specs.ImageLaws.{IsCommitting, StepCommits, StepLeavesTable}

-- ---- which requests are commits

abbrev is_commit : Request → Bool
is_commit requests.Commit = true
is_commit request = false

abbrev asks_commit : Option Entry → Bool
asks_commit None = false
asks_commit (Some e) = is_commit e.request

abbrev pub ends_so : Statement → Bool
ends_so statements.Commit = true
ends_so statement = false

commit_or_other : (statement : Statement) → (statement ≡ statements.Commit) ⊎ (ends_so statement ≡ false)
commit_or_other statements.Commit = inl refl
commit_or_other statement = inr refl

no_mark_commits : (n table : ℕ) (row : Option Row) → asks_commit (option_map (mark_entry n table) row) ≡ false
no_mark_commits n table None = refl
no_mark_commits n table (Some row) = refl

-- a statement that isn't a commit asks for none
asks_none : (n : ℕ) (statement : Statement) (answers : List Answer) → ends_so statement ≡ false → asks_commit (next_request n statement answers) ≡ false
asks_none n statements.Commit [] other = absurd (false≢true (sym other))
asks_none n statements.Begin [] other = refl
asks_none n statements.Rollback [] other = refl
asks_none n (statements.Insert table values) [] other = refl
asks_none n (statements.Select q) [] other = refl
asks_none n (statements.Delete q) [] other = refl
asks_none n (statements.Delete q) (effects.Found rows ∷ marks) other = no_mark_commits n q.table (row_to_mark rows marks)
asks_none n statement answers other = refl

-- ---- what requests leave

-- the database that a step leads to, by the journal
run_at : (p q : Place) (n : ℕ) (now : Option Hand) (entries : List Entry) → Leads p n now entries q → database_at q ≡ serial_run p.opening entries
run_at p q n now entries leads = ap (λ (s : DatabaseState). serial_run s q.journal) leads.opening ∙ ap (serial_run p.opening) leads.journal

same_at : (p q : Place) (n : ℕ) (now : Option Hand) → Leads p n now p.journal q → (database_at q).table ≡ (database_at p).table
same_at p q n now leads = ap (λ (s : DatabaseState). s.table) (run_at p q n now p.journal leads)

module _ (only : OnlyCommitsChangeTable) where
  -- a request that isn't a commit leaves the table
  other_leaves : (s : DatabaseState) (e : Entry) → is_commit e.request ≡ false → (after_request s e).table ≡ s.table
  other_leaves s e other = only s e (λ commits. false≢true (sym other ∙ ap is_commit commits.asks))

  one_leaves : (opening : DatabaseState) (journal : List Entry) (e : Entry) → is_commit e.request ≡ false → (serial_run opening (journal ++ e ∷ [])).table ≡ (serial_run opening journal).table
  one_leaves opening journal e other = ap (λ (s : DatabaseState). s.table) (serial_run-append opening journal (e ∷ [])) ∙ other_leaves (serial_run opening journal) e other

  -- so does a request that was refused
  refused_leaves : (opening : DatabaseState) (journal : List Entry) (n : ℕ) (tag : Tag) (statement : Statement) → (serial_run opening (journal ++ refused_request n tag statement)).table ≡ (serial_run opening journal).table
  refused_leaves opening journal n tag statement = ap (λ (s : DatabaseState). s.table) (serial_run-append opening journal (refused_request n tag statement)) ∙ at statement
    where
      at : (statement : Statement) → (serial_run (serial_run opening journal) (refused_request n tag statement)).table ≡ (serial_run opening journal).table
      at (statements.Insert table values) = other_leaves (serial_run opening journal) _ refl
      at (statements.Select q) = other_leaves (serial_run opening journal) _ refl
      at (statements.Delete q) = other_leaves (serial_run opening journal) _ refl
      at statement = refl

  module _ (opening : DatabaseState) (n : ℕ) (statement : Statement) (other : ends_so statement ≡ false) where
    -- the table behind the course is that of before it
    abbrev LeavesTable : Course → Course → Type 0
    LeavesTable c d = (serial_run opening d.journal).table ≡ (serial_run opening c.journal).table

    makes_one_leaves : (c d : Course) → MakesOne opening n statement c d → LeavesTable c d
    makes_one_leaves c _ (Enters e next) = one_leaves opening c.journal e (sym (ap asks_commit next) ∙ asks_none n statement c.answers other)

    makes_all_leaves : (c d : Course) → MakesAll opening n statement c d → LeavesTable c d
    makes_all_leaves _ _ (NoneLeft c none) = refl
    makes_all_leaves _ _ (OneMore c d f one more) = makes_all_leaves d f more ∙ makes_one_leaves c d one

    makes_mark_leaves : (c d : Course) → MakesMark opening n statement c d → LeavesTable c d
    makes_mark_leaves c _ (First d f none one two) = makes_one_leaves d f two ∙ makes_one_leaves c d one
    makes_mark_leaves c _ (Further first more d some one) = makes_one_leaves c d one

  module _ (p : Place) (n : ℕ) (hand : Hand) where
    -- the table behind a course is that of the place
    abbrev IsLeft : Course → Type 0
    IsLeft c = (serial_run p.opening c.journal).table ≡ (database_at p).table

    left_at : (q : Place) (now : Option Hand) (entries : List Entry) → Leads p n now entries q → (serial_run p.opening entries).table ≡ (database_at p).table → (database_at q).table ≡ (database_at p).table
    left_at q now entries leads left = ap (λ (s : DatabaseState). s.table) (run_at p q n now entries leads) ∙ left

    makes_at_leaves : (point : Point) (c : Course) → ends_so hand.statement ≡ false → MakesAt point p n hand c → IsLeft c
    makes_at_leaves points.Row c other made = makes_one_leaves p.opening n hand.statement other (course_of p hand) c made
    makes_at_leaves points.Mark c other made = makes_mark_leaves p.opening n hand.statement other (course_of p hand) c made.0
    makes_at_leaves point c other same = ap (λ (d : Course). (serial_run p.opening d.journal).table) same

    all_leaves : (c : Course) → ends_so hand.statement ≡ false → MakesAll p.opening n hand.statement (course_of p hand) c → IsLeft c
    all_leaves c other all = makes_all_leaves p.opening n hand.statement other (course_of p hand) c all

    -- a step of a statement that isn't a commit leaves the table
    other_steps_leave : (outcome : Outcome) (q : Place) → ends_so hand.statement ≡ false → StepsTo p n hand outcome q → (database_at q).table ≡ (database_at p).table
    other_steps_leave _ _ other (GoesOn point c q turn named on made leads) = left_at q _ c.journal leads (makes_at_leaves point c other made)
    other_steps_leave _ _ other (Replies point c reply q turn named rests all replied leads) = left_at q _ c.journal leads (all_leaves c other all)
    other_steps_leave _ _ other (MeetsConflict id c q turn named all replied leads) = left_at q _ c.journal leads (all_leaves c other all)
    other_steps_leave _ _ other (IsRefused why tag told q turn named so leads) = left_at q _ _ leads (refused_leaves p.opening p.journal n tag hand.statement)
    other_steps_leave _ _ other (AtOnce c reply q once all replied stay leads) = left_at q _ c.journal leads (all_leaves c other all)
    other_steps_leave _ _ other (NothingAsked q work rest empty stay leads) = same_at p q n _ leads
    other_steps_leave _ _ other (LacksMemoryAtOnce q looking rest stay leads) = left_at q _ _ leads (refused_leaves p.opening p.journal n _ hand.statement)
    other_steps_leave _ _ other (NoNumber q begin next stay leads) = same_at p q n _ leads
    other_steps_leave _ _ other (IsWaiting table told on own blocked waits) = refl

-- ---- a commit

abbrev pub commit_of : ℕ → Entry
commit_of n = request_entry n 0 requests.Commit

-- the answer to the commit of a transaction that hasn't failed
commit_answer : (s : DatabaseState) (n : ℕ) → IsCommit s (commit_of n) → reply_to s (commit_of n) ≡ effects.Committed
commit_answer s n commits =
    ap (λ (r : DatabaseState × Answer). r.1) (effect_is s (commit_of n))
    ∙ ap (λ (o : Option OpenTransaction). (effect_at o s (commit_of n)).1) commits.under_way
    ∙ ap (λ (b : Bool). cond b effects.RolledBack effects.Committed) commits.unfailed

abbrev ended_by : Outcome → Option Reply
ended_by (Ended reply) = Some reply
ended_by outcome = None

-- the commit made its request, and was answered so
record MakesCommit (opening : DatabaseState) (n : ℕ) (journal : List Entry) (c : Course) : Type 0 where
  state : serial_run opening c.journal ≡ after_request (serial_run opening journal) (commit_of n)
  answers : c.answers ≡ reply_to (serial_run opening journal) (commit_of n) ∷ []

made_first : (opening : DatabaseState) (n : ℕ) (journal : List Entry) (c : Course) → MakesAll opening n statements.Commit (record { journal = journal; answers = [] }) c → MakesCommit opening n journal c
made_first opening n journal c all =
    let one = as_one_step opening n statements.Commit journal c all in
    record { state = ap (serial_run opening) one.journal_is ∙ serial_run-append opening journal (commit_of n ∷ []); answers = one.answers_are }

-- a step of a commit is at once: no table has a part in it
data IsAtOnceTo (p : Place) (n : ℕ) (hand : Hand) : Outcome → Place → Type 0 where
  Once : (c : Course) (reply : Reply) (q : Place) → MakesAll p.opening n statements.Commit (course_of p hand) c → Some reply ≡ end_reply c.answers
      → Leads p n None c.journal q → IsAtOnceTo p n hand (Ended reply) q

commit_at_once : (p : Place) (n : ℕ) (hand : Hand) (outcome : Outcome) (q : Place) → hand.statement ≡ statements.Commit → StepsTo p n hand outcome q → IsAtOnceTo p n hand outcome q
commit_at_once p n hand _ _ is (GoesOn point c q turn named on made leads) = absurd (subst (λ st. IsIn p n st turn.table) is turn.on)
commit_at_once p n hand _ _ is (Replies point c reply q turn named rests all replied leads) = absurd (subst (λ st. IsIn p n st turn.table) is turn.on)
commit_at_once p n hand _ _ is (MeetsConflict id c q turn named all replied leads) = absurd (subst (λ st. IsIn p n st turn.table) is turn.on)
commit_at_once p n hand _ _ is (IsRefused why tag told q turn named so leads) = absurd (subst (λ st. IsIn p n st turn.table) is turn.on)
commit_at_once p n hand _ _ is (AtOnce c reply q once all replied stay leads) =
    Once c reply q (subst (λ st. MakesAll p.opening n st (course_of p hand) c) is all) (replied ∙ ap (λ st. reply_to_statement (full_table p.layout) st c.answers) is) leads
commit_at_once p n hand _ _ is (NothingAsked q work rest empty stay leads) = absurd (false≢true (sym (ap ends_so work) ∙ ap ends_so is))
commit_at_once p n hand _ _ is (LacksMemoryAtOnce q looking rest stay leads) = absurd (subst (MayLackMemory p n) is looking)
commit_at_once p n hand _ _ is (NoNumber q begin next stay leads) = absurd (false≢true (sym (ap ends_so begin) ∙ ap ends_so is))
commit_at_once p n hand _ _ is (IsWaiting table told on own blocked waits) = absurd (subst (λ st. IsIn p n st table) is on)

-- behind a commit whose request hadn't been made stands the database with it
pub commit_steps : (p : Place) (n : ℕ) (hand : Hand) (outcome : Outcome) (q : Place) → hand.statement ≡ statements.Commit → hand.answers ≡ [] → StepsTo p n hand outcome q
    → database_at q ≡ after_request (database_at p) (commit_of n)
commit_steps p n hand outcome q is new step = at outcome q (commit_at_once p n hand outcome q is step)
  where
    at : (outcome : Outcome) (q : Place) → IsAtOnceTo p n hand outcome q → database_at q ≡ after_request (database_at p) (commit_of n)
    at _ _ (Once c reply q all replied leads) =
        run_at p q n None c.journal leads
        ∙ (made_first p.opening n p.journal c (subst (λ (answers : List Answer). MakesAll p.opening n statements.Commit (record { journal = p.journal; answers = answers }) c) new all)).state

module _ (only : OnlyCommitsChangeTable) (p : Place) (n : ℕ) where
  -- it leaves the table where it isn't answered as one that is done
  new_commit_leaves : (c : Course) (reply : Reply) → MakesAll p.opening n statements.Commit (record { journal = p.journal; answers = [] }) c → Some reply ≡ end_reply c.answers
      → (reply ≡ replies.Committed → ⊥) → (serial_run p.opening c.journal).table ≡ (database_at p).table
  new_commit_leaves c reply all replied undone =
      let made = made_first p.opening n p.journal c all in
      ap (λ (s : DatabaseState). s.table) made.state
      ∙ only (database_at p) (commit_of n) (λ commits. undone (same_Some _ _ (replied ∙ ap end_reply made.answers ∙ ap (λ (a : Answer). end_reply (a ∷ [])) (commit_answer (database_at p) n commits))))

  commit_leaves : (answers : List Answer) (c : Course) (reply : Reply) → MakesAll p.opening n statements.Commit (record { journal = p.journal; answers = answers }) c → Some reply ≡ end_reply c.answers
      → (answers ≡ [] → reply ≡ replies.Committed → ⊥) → (serial_run p.opening c.journal).table ≡ (database_at p).table
  commit_leaves [] c reply all replied undone = new_commit_leaves c reply all replied (undone refl)
  commit_leaves (a ∷ answers) c reply all replied undone =
      ap (λ (s : DatabaseState). s.table)
      (ap (serial_run p.opening) (none_made p.opening n statements.Commit (record { journal = p.journal; answers = a ∷ answers }) c refl all).journal_is ∙ serial_run-append p.opening p.journal [])

-- ---- every step

module _ (only : OnlyCommitsChangeTable) (p : Place) (n : ℕ) (hand : Hand) where
  commit_steps_leave : (outcome : Outcome) (q : Place) → IsAtOnceTo p n hand outcome q → (hand.answers ≡ [] → ended_by outcome ≡ Some replies.Committed → ⊥) → (database_at q).table ≡ (database_at p).table
  commit_steps_leave _ _ (Once c reply q all replied leads) undone =
      left_at only p n hand q None c.journal leads (commit_leaves only p n hand.answers c reply all replied (λ new same. undone new (ap (λ (r : Reply). Some r) same)))

  steps_leave : (outcome : Outcome) (q : Place) → StepsTo p n hand outcome q → (hand.statement ≡ statements.Commit → hand.answers ≡ [] → ended_by outcome ≡ Some replies.Committed → ⊥) → (database_at q).table ≡ (database_at p).table
  steps_leave outcome q step undone = elim (commit_or_other hand.statement) [
    | inl is ↦ commit_steps_leave outcome q (commit_at_once p n hand outcome q is step) (undone is)
    | inr other ↦ other_steps_leave only p n hand outcome q other step
  ]

pub step_leaves_table : OnlyCommitsChangeTable → StepLeavesTable
step_leaves_table only p q n (Ok (steps.Moved point)) s undone = steps_leave only p n s.hand _ q s.steps (λ is new ends. absurd (cc))
step_leaves_table only p q n (Ok (steps.Done reply)) s undone =
    steps_leave only p n s.hand _ q s.steps (λ is new ends. undone (record { hand = s.hand; in_hand = s.in_hand; is = is; new = new }) (ap (λ (r : Reply). Ok (steps.Done r)) (same_Some _ _ ends)))
step_leaves_table only p q n (Ok (steps.Blocked what by)) s undone = steps_leave only p n s.hand _ q s.steps (λ is new ends. absurd (cc))
step_leaves_table only p q n (Err (stops.Spent entries)) s undone = ap (λ (r : Place). (database_at r).table) s.2
step_leaves_table only p q n (Err stops.Disk) s undone = absurd s
step_leaves_table only p q n (Err (stops.Reopen faults)) s undone = absurd s
step_leaves_table only p q n (Err (stops.Damaged at)) s undone = absurd s

-- the commit in hand is the one whose step is answered
commits_by : (p q : Place) (n : ℕ) (outcome : Outcome) → IsCommitting p n → Steps p n outcome q → (database_at q).table ≡ table_committed (database_at p) n
commits_by p q n outcome c s =
    let same : c.hand ≡ s.hand = same_Some _ _ (sym c.in_hand ∙ s.in_hand) in
    ap (λ (state : DatabaseState). state.table)
    (commit_steps p n s.hand outcome q (ap (λ (h : Hand). h.statement) (sym same) ∙ c.is) (ap (λ (h : Hand). h.answers) (sym same) ∙ c.new) s.steps)

pub step_commits : StepCommits
step_commits p q n (steps.Moved point) c s = commits_by p q n _ c s
step_commits p q n (steps.Done reply) c s = commits_by p q n _ c s
step_commits p q n (steps.Blocked what by) c s = commits_by p q n _ c s
