-- which step of the definition of texts a step is
use Rattle.std.proofs.Common.{◌≡◌, ◌≢◌, ◌⊎◌, inl, inr, ℕ, suc, ◌≤◌, Bool, if◌then◌else◌, List, ◌∷◌, length, Option, None, Some, refl, sym, ap, subst, ◌∙◌, arith}
use Rattle.std.specs.Prelude.{IsTrue}
use Rattle.std.proofs.lemmas.Bool.{cases_eq, eq-eqb, ne_eqb}
use Rattle.std.proofs.lemmas.Option.{same_Some}
use Rattle.block_model.specs.declared.reply.Point.{Point}
use Rattle.block_model.specs.declared.reply.Point.TheVariants as points
use Rattle.block_model.specs.declared.reply.Refusal.{Refusal}
use Rattle.block_model.specs.declared.reply.Refusal.TheVariants as refusals
use Rattle.block_model.specs.declared.request.Entry.{Entry}
use Rattle.store_layout.specs.declared.statement.Statement.{Statement}
use Rattle.store_layout.specs.declared.statement.Statement.TheVariants as statements
use Rattle.coverage.specs.Accounts.{Account, AccountIs, Accounts, Adds, Asked}
use Rattle.coverage.specs.InOneIndex.{DoesAt}
use Rattle.coverage.specs.Table.{Resting, TableState, Task}
use Rattle.coverage.specs.TablePoints.{IsHeldBy, WaitedFor, does_point, waits_for}
use Rattle.coverage.specs.TableSteps.{Does, IsBlocked, PrunesBlock, Settles}
use Rattle.script_semantics.specs.Beginnings.{Begins, TakesUp, takes_lock}
use Rattle.script_semantics.specs.Names.{name_of}
use Rattle.script_semantics.specs.Place.{Hand as HandAt, Place, accounts_at, updated}
use Rattle.script_semantics.specs.StatementSteps.{AtOnce, GoesOn, IsRefused, IsWaiting, LacksMemoryAtOnce, MeetsConflict, NoNumber, NothingAsked, Replies, WaitsFor, reply_after, what_of}
use Rattle.script_semantics.specs.Turns.{Leads, PrunesTheDead, Turn}
use Rattle.session_parts.specs.PlaceLaws.{AfterLeads, AtOnceLeads, TableAfter}
use Rattle.session_parts.specs.PlacesAfter.{TurnsAsking, place_after, place_asking, place_at_once, recounted}
use Rattle.session_parts.specs.StepLaws.{FindsNothingAsked, IsOneRequest, LacksMemoryThere, LacksNumber, MachineAsks, MachineTurns, TurnAsks, TurnConflicts, TurnGoesOn, TurnIsRefused, TurnReplies, TurnWaits}

-- ---- what is updated

pub updated_here : {A : Type 0} (f : ℕ → A) (n : ℕ) (x : A) → updated f n x n ≡ x
updated_here f n x = ap (λ (b : Bool). if b then x else f n) (eq-eqb n n refl)

pub updated_apart : {A : Type 0} (f : ℕ → A) (n : ℕ) (x : A) (m : ℕ) → m ≢ n → updated f n x m ≡ f m
updated_apart f n x m apart = ap (λ (b : Bool). if b then x else f m) (ne_eqb m n apart)

pub updated_or : {A : Type 0} (f : ℕ → A) (n : ℕ) (x : A) (m : ℕ) → (m ≡ n) ⊎ (updated f n x m ≡ f m)
updated_or f n x m = elim (cases_eq m n) [
  | inl is ↦ inl is
  | inr apart ↦ inr (updated_apart f n x m apart)
]

pub table_after : TableAfter
table_after p n table at v account counts entries = ap (λ (b : Bool). if b then v else recounted (p.tables table) counts) (eq-eqb table table refl)

pub other_after : (p : Place) (n table : ℕ) (at : Option HandAt) (v : TableState) (account : Account) (counts : ℕ → Bool) (entries : List Entry) (i : ℕ) → i ≢ table
    → (place_after p n table at v account counts entries).tables i ≡ recounted (p.tables i) counts
other_after p n table at v account counts entries i apart = ap (λ (b : Bool). if b then v else recounted (p.tables i) counts) (ne_eqb i table apart)

pub asking_leads : (p : Place) (n table : ℕ) (at : Option HandAt) (v : TableState) (account : Account) (counts : ℕ → Bool) (entries : List Entry) (queue : List Asked)
    → Leads p n at entries (place_asking p n table at v account counts entries queue)
asking_leads p n table at v account counts entries queue = record {
  layout = refl;
  opening = refl;
  names = refl;
  hand = updated_here p.hands n at;
  others = updated_or p.hands n at;
  journal = refl;
}

pub after_leads : AfterLeads
after_leads p n table at v account counts entries = asking_leads p n table at v account counts entries p.queue

pub at_once_leads : AtOnceLeads
at_once_leads p n counts entries = record {
  leads = record {
    layout = refl;
    opening = refl;
    names = refl;
    hand = updated_here p.hands n None;
    others = updated_or p.hands n None;
    journal = refl;
  };
  stay = record { tables = λ i. (counts, refl); accounts = refl; queue = refl };
}

-- ---- a machine's step

none_goes : (before after : List Asked) → length before ≤ length after → (asked : Asked) → before ≡ asked ∷ after → ⊥
none_goes before after more asked is =
    let longer : length before ≡ suc (length after) = ap length is in
    absurd (omega (arith, longer, more))

pub takes_none : (statement : Statement) (task : Task) (before after : List Asked) → length before ≤ length after → statement ≢ statements.Work → TakesUp statement task before after
takes_none statements.Begin task before after more other = none_goes before after more
takes_none statements.Commit task before after more other = none_goes before after more
takes_none statements.Rollback task before after more other = none_goes before after more
takes_none (statements.Insert table values) task before after more other = none_goes before after more
takes_none (statements.Select q) task before after more other = none_goes before after more
takes_none (statements.Delete q) task before after more other = none_goes before after more
takes_none (statements.Explain q) task before after more other = none_goes before after more
takes_none (statements.Summarize index block) task before after more other = none_goes before after more
takes_none (statements.Desummarize index block) task before after more other = none_goes before after more
takes_none (statements.Vacuum table) task before after more other = none_goes before after more
takes_none statements.Work task before after more other = absurd (other refl)

-- nor does a step of a statement that has begun
pub takes_on : (statement : Statement) (task : Task) (queue : List Asked) → task ≢ Resting → TakesUp statement task queue queue
takes_on statements.Begin task queue busy = none_goes queue queue (omega arith)
takes_on statements.Commit task queue busy = none_goes queue queue (omega arith)
takes_on statements.Rollback task queue busy = none_goes queue queue (omega arith)
takes_on (statements.Insert table values) task queue busy = none_goes queue queue (omega arith)
takes_on (statements.Select q) task queue busy = none_goes queue queue (omega arith)
takes_on (statements.Delete q) task queue busy = none_goes queue queue (omega arith)
takes_on (statements.Explain q) task queue busy = none_goes queue queue (omega arith)
takes_on (statements.Summarize index block) task queue busy = none_goes queue queue (omega arith)
takes_on (statements.Desummarize index block) task queue busy = none_goes queue queue (omega arith)
takes_on (statements.Vacuum table) task queue busy = none_goes queue queue (omega arith)
takes_on statements.Work Resting queue busy = absurd (busy refl)
takes_on statements.Work task queue busy = none_goes queue queue (omega arith)

-- a step of another name prunes nothing
pub not_pruned : (p : Place) (n : ℕ) (w v : TableState) (does : Does n w v) (point : Point) → does_point n w v does ≡ Some point → point ≢ points.Prune → PrunesTheDead p does
not_pruned p n w v (PrunesBlock extent next dropped inside spared turns drops) point is other = absurd (other (sym (same_Some points.Prune point is)))
not_pruned p n w v does point is other = tt

pub machine_turns : MachineTurns
machine_turns p n table statement w between v point account is other on does no_prune settles own =
    let there : DoesAt n (p.tables table) between point account = subst (λ (x : TableState). DoesAt n x between point account) (sym is) does in (
      record {
        on = on;
        step = record { between = between; does = there.does; settles = settles };
        own = subst (λ (x : TableState). (x.task n ≢ Resting) ⊎ Begins p n x statement (between.task n)) (sym is) own;
        dead = not_pruned p n (p.tables table) between there.does point there.point_is no_prune;
        adds = λ b has. there.adds (accounts_at p table) b has;
        takes = takes_none statement ((p.tables table).task n) p.queue p.queue (omega arith) other;
      },
      there.point_is,
      refl,
    )

-- what a machine does in the table that it finds, with what that makes of the accounts
record DoesAsking (p : Place) (n table : ℕ) (x between : TableState) (point : Point) (account : Account) (queue : List Asked) : Type 0 where
  does : Does n x between
  point_is : does_point n x between does ≡ Some point
  adds : (b : Accounts) → AccountIs n (record (accounts_at p table) { queue = queue }) b account → Adds n x between does (accounts_at p table) b
  dead : PrunesTheDead p does

pub machine_asks : MachineAsks
machine_asks p n table statement w between v point account queue is takes on does named adds dead settles own =
    let there : DoesAsking p n table (p.tables table) between point account queue =
    subst (λ (x : TableState). DoesAsking p n table x between point account queue) (sym is) (record { does = does; point_is = named; adds = adds; dead = dead }) in (
      record {
        on = on;
        step = record { between = between; does = there.does; settles = settles };
        own = subst (λ (x : TableState). (x.task n ≢ Resting) ⊎ Begins p n x statement (between.task n)) (sym is) own;
        dead = there.dead;
        adds = there.adds;
        takes = subst (λ (x : TableState). TakesUp statement (x.task n) p.queue queue) (sym is) takes;
      },
      there.point_is,
      refl,
    )

-- ---- a turn

module _ (p : Place) (n table : ℕ) (statement : Statement) (at : Option HandAt) (v : TableState) (account : Account) (queue : List Asked) (counts : ℕ → Bool) (entries : List Entry)
    (turns : TurnsAsking p n statement table v account queue) where
  abbrev pub led : Place
  led = place_asking p n table at v account counts entries queue

  abbrev pub turned : Turn p n statement led
  turned = record {
    table = table;
    on = turns.on;
    step = record {
      between = turns.step.between;
      does = turns.step.does;
      settles = subst (Settles n turns.step.between) (sym (table_after p n table at v account counts entries)) turns.step.settles;
    };
    own = turns.own;
    dead = turns.dead;
    accounts = record {
      table = refl;
      others = updated_or p.accounts n account;
      adds = turns.adds (accounts_at led table) (record { account = updated_here p.accounts n account; queue = refl });
    };
    takes = turns.takes;
    others = λ i. elim (cases_eq i table) [
      | inl is ↦ inl is
      | inr apart ↦ inr (counts, other_after p n table at v account counts entries i apart)
    ];
  }

pub turn_asks : TurnAsks
turn_asks p n table hand v account queue counts point c turns named busy makes =
    let at : Option HandAt = Some (record hand { answers = c.answers }) in
    GoesOn point c (led p n table hand.statement at v account queue counts c.journal turns) (turned p n table hand.statement at v account queue counts c.journal turns) named
    (λ rests. busy (sym (ap (λ (w : TableState). w.task n) (table_after p n table at v account counts c.journal)) ∙ rests))
    makes (asking_leads p n table at v account counts c.journal queue)

pub turn_goes_on : TurnGoesOn
turn_goes_on p n table hand v account counts point c turns named busy makes = turn_asks p n table hand v account p.queue counts point c turns named busy makes

pub turn_replies : TurnReplies
turn_replies p n table hand v account counts point c reply turns named rests makes said =
    Replies point c reply (led p n table hand.statement None v account p.queue counts c.journal turns) (turned p n table hand.statement None v account p.queue counts c.journal turns) named
    (ap (λ (w : TableState). w.task n) (table_after p n table None v account counts c.journal) ∙ rests) makes
    (said ∙ ap (λ (a : Account). reply_after p.layout table (turns.step.between.task n) a c.answers hand.statement) (sym (updated_here p.accounts n account)))
    (after_leads p n table None v account counts c.journal)

pub turn_conflicts : TurnConflicts
turn_conflicts p n table hand v account counts id c turns refused makes said =
    MeetsConflict id c (led p n table hand.statement None v account p.queue counts c.journal turns) (turned p n table hand.statement None v account p.queue counts c.journal turns) refused makes said
    (after_leads p n table None v account counts c.journal)

pub turn_is_refused : TurnIsRefused
turn_is_refused p n table hand v account counts why tag told turns refused so =
    IsRefused why tag told (led p n table hand.statement None v account p.queue counts _ turns) (turned p n table hand.statement None v account p.queue counts _ turns) refused so
    (after_leads p n table None v account counts _)

pub one_request : IsOneRequest
one_request p n hand counts c reply once makes said =
    let after = at_once_leads p n counts c.journal in
    AtOnce c reply (place_at_once p n counts c.journal) once makes said after.stay after.leads

pub lacks_memory : LacksMemoryThere
lacks_memory p n hand counts lacks rests =
    let after = at_once_leads p n counts _ in
    LacksMemoryAtOnce (place_at_once p n counts _) lacks rests after.stay after.leads

pub finds_nothing : FindsNothingAsked
finds_nothing p n hand counts work rests none =
    let after = at_once_leads p n counts p.journal in
    NothingAsked (place_at_once p n counts p.journal) work rests none after.stay after.leads

pub lacks_number : LacksNumber
lacks_number p n hand counts begins full =
    let after = at_once_leads p n counts p.journal in
    NoNumber (place_at_once p n counts p.journal) begins full after.stay after.leads

-- ---- one that waits

-- it is blocked in this table, at what it is at, for this
record IsBlockedFor (x : TableState) (n : ℕ) (statement : Statement) (waited : WaitedFor) (by : ℕ) : Type 0 where
  blocked : IsBlocked x n (x.task n)
  waits : waits_for x n (x.task n) blocked ≡ waited
  held : IsHeldBy x waited by
  own : (x.task n ≢ Resting) ⊎ IsTrue (takes_lock statement)

-- at a task
abbrev IsBlockedAt : TableState → ℕ → Task → Statement → WaitedFor → Type 0
IsBlockedAt x n task statement waited = ((blocked : IsBlocked x n task) × (waits_for x n task blocked ≡ waited)) × ((task ≢ Resting) ⊎ IsTrue (takes_lock statement))

pub turn_waits : TurnWaits
turn_waits p n table hand w task waited by is on at own blocked waits held =
    let told : Refusal = refusals.Blocked (what_of p.layout table waited) (name_of p by) in
    let here : IsBlockedAt w n (w.task n) hand.statement waited =
    subst (λ (q : Task). IsBlockedAt w n q hand.statement waited) (sym at) ((blocked, waits), own) in
    let there : IsBlockedFor (p.tables table) n hand.statement waited by =
    subst (λ (x : TableState). IsBlockedFor x n hand.statement waited by) (sym is) (record { blocked = here.0.0; waits = here.0.1; held = held; own = here.1 }) in
    IsWaiting table told on there.own there.blocked
    (subst (λ (q : WaitedFor). WaitsFor p table q told) (sym there.waits) (by, there.held, refl))
