-- a store in which a session's statement is taken, or isn't
use Rattle.std.proofs.Common.{◌≡◌, ℕ, ◌+◌, ◌<◌, ◌≤◌, true, false, Bool, List, length, Option, None, Some, IsSome, MatchOption, if◌then◌else◌, refl, sym, ap, subst, ◌∙◌, arith, length-set, set}
use Rattle.std.proofs.lemmas.Option.{none-some}
use Rattle.block_model.specs.declared.reply.Refusal.{Refusal}
use Rattle.block_model.specs.declared.reply.Refusal.TheVariants as refusals
use Rattle.block_model.specs.declared.request.Entry.{Entry}
use Rattle.block_model.specs.DatabaseState.{OpenTransaction}
use Rattle.disk_trait.specs.Told.{Told}
use Rattle.store_layout.specs.declared.limits.TheConstants.{MAX_ENTRIES}
use Rattle.store_layout.specs.declared.statement.Statement.{Statement}
use Rattle.store_layout.specs.declared.statement.Statement.TheVariants as statements
use Rattle.store_layout.specs.StatementFits.{IsStatementFor}
use Rattle.block_model.specs.declared.value.Value.{Value}
use Rattle.store_layout.specs.StatementRequests.{refusal_at, submission_refusal}
use Rattle.store_layout.specs.DiskLayout.{DiskLayout}
use Rattle.snapshot_core.specs.declared.sessions.Open.{Open}
use Rattle.snapshot_core.specs.declared.standing.Standing.{Standing}
use Rattle.snapshot_core.specs.declared.standing.Standing.TheVariants as standings
use Rattle.snapshot_core.specs.StoredVersions.{transaction_of}
use Rattle.snapshot_core.specs.VersionsState.{standing_of}
use Rattle.transactions.specs.Sessions.{open_standing}
use Rattle.coverage.specs.Accounts.{Account}
use Rattle.script_semantics.specs.LineTexts.{NotTaken, Submits, Taken, WantsMemory, block_refusal, in_hand_refusal, may_want_memory, or_else, submit_refusal, with_statement}
use Rattle.script_semantics.specs.Place.{Hand as HandAt, Place, database_at}
use Rattle.reply_texts.specs.declared.dropped.Dropped.{Dropped}
use Rattle.session_parts.specs.declared.hand.Hand.{Hand}
use Rattle.session_parts.specs.declared.hand.Hand.TheVariants as hands
use Rattle.session_parts.specs.declared.parts.Parts.{Parts}
use Rattle.session_parts.specs.HandFits.{FitsHand, FitsStore, IsHandFor, IsUnderWay, locks_held, right_held}
use Rattle.session_parts.specs.Hands.{HandShows, statement_of}
use Rattle.session_parts.specs.JournalState.{JournalState}
use Rattle.session_parts.specs.Shares.{hand_share}
use Rattle.session_parts.specs.ShowsPlace.{IsPlaceOf, ShowsPlace}
use Rattle.session_parts.specs.StepAnswers.{LeavesSessions}
use Rattle.session_parts.specs.StepIs.{LeadsOn}
use Rattle.session_parts.specs.StoreLaws.{HasHand}
use Rattle.session_parts.specs.StoreStates.{StoreState, hand_at, hand_in, shown_of, store_of, with_hand}
use Rattle.session_parts.specs.SubmitLaws.{ForgetsDropped, HasNotBegun}
use Rattle.session_core.specs.SessionLaws.{SessionLaws}
use Rattle.session_core.specs.declared.slots.Slot.{Slot}
use Rattle.session_core.specs.Slots.{IsKeptSlot}
use Rattle.session_core.specs.StoreKept.{IsStoreKept}
use Rattle.session_core.specs.Submitting.{Allows, IsTakenUp, TakesHand, begin_refusal, end_refusal, refusal_here, request_refusal, standing_refusal}
use Rattle.session_core.proofs.Declared.{insert_below, insert_kinds}
use Rattle.session_core.proofs.Kept.{fits_now, nobody_now, promised_now}
use Rattle.session_core.proofs.Lists.{has_hand_set, slots_set}

-- ---- why a statement isn't taken

in_hand_shown : (hand : Option Hand) (at : Option HandAt) (account : Account) → HandShows hand at account → in_hand_refusal hand ≡ in_hand_refusal at
in_hand_shown None at account shows = sym (ap (λ (o : Option HandAt). in_hand_refusal o) shows)
in_hand_shown (Some hand) at account shows = sym (ap (λ (o : Option HandAt). in_hand_refusal o) shows.1)

begin_shown : (failed : Bool) → begin_refusal (if failed then standings.Failed else standings.UnderWay) ≡ Some refusals.UnderWay
begin_shown true = refl
begin_shown false = refl

end_shown : (failed : Bool) → end_refusal (if failed then standings.Failed else standings.UnderWay) ≡ None
end_shown true = refl
end_shown false = refl

request_shown : (failed : Bool) → request_refusal (if failed then standings.Failed else standings.UnderWay) ≡ (if failed then Some refusals.Doomed else None)
request_shown true = refl
request_shown false = refl

standing_shown : (transaction : Option OpenTransaction) (statement : Statement) → standing_refusal (standing_of transaction) statement ≡ submission_refusal transaction statement
standing_shown None statements.Begin = refl
standing_shown None statements.Commit = refl
standing_shown None statements.Rollback = refl
standing_shown None (statements.Insert table values) = refl
standing_shown None (statements.Select query) = refl
standing_shown None (statements.Delete query) = refl
standing_shown None (statements.Explain query) = refl
standing_shown None (statements.Summarize index block) = refl
standing_shown None (statements.Desummarize index block) = refl
standing_shown None (statements.Vacuum table) = refl
standing_shown None statements.Work = refl
standing_shown (Some x) statements.Begin = begin_shown x.failed
standing_shown (Some x) statements.Commit = end_shown x.failed
standing_shown (Some x) statements.Rollback = end_shown x.failed
standing_shown (Some x) (statements.Insert table values) = request_shown x.failed
standing_shown (Some x) (statements.Select query) = request_shown x.failed
standing_shown (Some x) (statements.Delete query) = request_shown x.failed
standing_shown (Some x) (statements.Explain query) = refl
standing_shown (Some x) (statements.Summarize index block) = refl
standing_shown (Some x) (statements.Desummarize index block) = refl
standing_shown (Some x) (statements.Vacuum table) = refl
standing_shown (Some x) statements.Work = refl

-- what the store has says why as the place does that it shows
pub refusal_shown : {D : Type 0} (told : D → Told) → SessionLaws told → (s : StoreState D) (p : Place) (n : ℕ) (statement : Statement) → ShowsPlace s p → refusal_here s n statement ≡ submit_refusal p n statement
refusal_shown told laws s p n statement shows =
    let hand : in_hand_refusal (hand_at s n) ≡ in_hand_refusal (p.hands n) = in_hand_shown (hand_at s n) (p.hands n) (p.accounts n) (shows.hands n) in
    let block : block_refusal s.pages.layout.sizes.heap_blocks statement ≡ block_refusal p.layout.sizes.heap_blocks statement =
    ap (λ (layout : DiskLayout). block_refusal layout.sizes.heap_blocks statement) (sym shows.layout) in
    let have = laws.sessions s.pages.layout s.pages.pages s.transactions (database_at p) shows.database in
    let standing : standing_refusal (open_standing (transaction_of s.transactions.opens n)) statement ≡ refusal_at (database_at p) n statement =
    ap (λ (standing : Standing). standing_refusal standing statement) (sym (have.stands n)) ∙ standing_shown _ statement in
    λ i. or_else (hand i) (or_else (block i) (standing i))

-- ---- what holds where nothing speaks against it

none_of : (first second : Option Refusal) → or_else first second ≡ None → (first ≡ None) × (second ≡ None)
none_of None second none = (refl, none)
none_of (Some refusal) second none = absurd (none-some refusal (sym none))

nothing_in_hand : {A : Type 0} (hand : Option A) → in_hand_refusal hand ≡ None → hand ≡ None
nothing_in_hand None none = refl
nothing_in_hand (Some hand) none = absurd (none-some refusals.InHand (sym none))

begins_alone : (own : Option Open) → begin_refusal (open_standing own) ≡ None → own ≡ None
begins_alone None none = refl
begins_alone (Some o) none = absurd (none-some refusals.UnderWay (sym none ∙ begin_shown o.failed))

ends_one : (own : Option Open) → end_refusal (open_standing own) ≡ None → IsSome own
ends_one None none = absurd (none-some refusals.NoTransaction (sym none))
ends_one (Some o) none = refl

not_failed : (failed : Bool) → request_refusal (if failed then standings.Failed else standings.UnderWay) ≡ None → failed ≡ false
not_failed true none = absurd (none-some refusals.Doomed (sym none))
not_failed false none = refl

is_under_way : (own : Option Open) → request_refusal (open_standing own) ≡ None → IsUnderWay own
is_under_way None none = absurd (none-some refusals.NoTransaction (sym none))
is_under_way (Some o) none = not_failed o.failed none

allowed : (own : Option Open) (statement : Statement) → standing_refusal (open_standing own) statement ≡ None → Allows own statement
allowed own statements.Begin none = begins_alone own none
allowed own statements.Commit none = ends_one own none
allowed own statements.Rollback none = ends_one own none
allowed own (statements.Insert table values) none = is_under_way own none
allowed own (statements.Select query) none = is_under_way own none
allowed own (statements.Delete query) none = is_under_way own none
allowed own (statements.Explain query) none = tt
allowed own (statements.Summarize index block) none = tt
allowed own (statements.Desummarize index block) none = tt
allowed own (statements.Vacuum table) none = tt
allowed own statements.Work none = tt

module _ {D : Type 0} (s : StoreState D) (n : ℕ) (statement : Statement) (none : refusal_here s n statement ≡ None) where
  both : (in_hand_refusal (hand_at s n) ≡ None) × (or_else (block_refusal s.pages.layout.sizes.heap_blocks statement) (standing_refusal (open_standing (transaction_of s.transactions.opens n)) statement) ≡ None)
  both = none_of (in_hand_refusal (hand_at s n)) _ none

  pub is_free : hand_at s n ≡ None
  is_free = nothing_in_hand (hand_at s n) both.0

  pub is_allowed : Allows (transaction_of s.transactions.opens n) statement
  is_allowed = allowed (transaction_of s.transactions.opens n) statement (none_of (block_refusal s.pages.layout.sizes.heap_blocks statement) _ both.1).1

-- ---- a statement that isn't taken

pub leads_refused : {D : Type 0} (told : D → Told) → SessionLaws told → (s : StoreState D) (n : ℕ) (statement : Statement) (refusal : Refusal) → refusal_here s n statement ≡ Some refusal
    → LeadsOn told s s (λ p q. Submits p n statement (Some refusal) q)
leads_refused told laws s n statement refusal is = λ tells before after p shows. (p, shows, NotTaken refusal (sym (refusal_shown told laws s p n statement shows) ∙ is))

pub leads_short : {D : Type 0} (told : D → Told) → SessionLaws told → (s : StoreState D) (n : ℕ) (statement : Statement) → refusal_here s n statement ≡ None → may_want_memory statement ≡ true
    → LeadsOn told s s (λ p q. Submits p n statement (Some refusals.Memory) q)
leads_short told laws s n statement none wants = λ tells before after p shows. (p, shows, WantsMemory (sym (refusal_shown told laws s p n statement shows) ∙ none) wants)

-- the refusal is the one that comes first, or want of memory where none does
abbrev IsRefusedSo : {D : Type 0} → StoreState D → ℕ → Statement → Refusal → Type 0
IsRefusedSo s n statement refusal = MatchOption (refusal_here s n statement) ((refusal ≡ refusals.Memory) × (may_want_memory statement ≡ true)) (λ because. refusal ≡ because)

pub judged_refused : {D : Type 0} (s : StoreState D) (n : ℕ) (statement : Statement) (refusal : Refusal) → refusal_here s n statement ≡ Some refusal → IsRefusedSo s n statement refusal
judged_refused s n statement refusal is =
    subst (λ (o : Option Refusal). MatchOption o ((refusal ≡ refusals.Memory) × (may_want_memory statement ≡ true)) (λ because. refusal ≡ because)) (sym is) refl

pub judged_short : {D : Type 0} (s : StoreState D) (n : ℕ) (statement : Statement) → refusal_here s n statement ≡ None → may_want_memory statement ≡ true → IsRefusedSo s n statement refusals.Memory
judged_short s n statement none wants =
    subst (λ (o : Option Refusal). MatchOption o ((refusals.Memory ≡ refusals.Memory) × (may_want_memory statement ≡ true)) (λ because. refusals.Memory ≡ because)) (sym none) (refl, wants)

-- ---- one that is taken

-- an insert, whose values are kept
pub put_taken : {D : Type 0} (parts : Parts D) (table : ℕ) (values : List Value) → IsStatementFor parts.pages.layout.schema (statements.Insert table values) → TakesHand parts parts (statements.Insert table values) (hands.Puts table values)
put_taken parts table values for = record {
  statement_is = refl;
  fresh = tt;
  fit = λ own allows. (allows, insert_below parts.pages.layout.schema table values for, insert_kinds parts.pages.layout table values for);
  entries = refl;
  promised = omega arith;
  rest = refl;
}

-- the parts of the store then, in which what the session asked for in vain is forgotten
abbrev pub forgetting : {D : Type 0} → Parts D → List (List Dropped) → Parts D
forgetting new dropped = record new { dropped = dropped }

module _ {D : Type 0} (told : D → Told) (laws : SessionLaws told) (parts : Parts D) (names : List (List ℕ)) (hands : List (Option Hand)) (slots : List Slot)
    (kept : IsStoreKept told (store_of parts names hands) slots) (n : ℕ) (statement : Statement) (there : n < length names) (none : refusal_here (store_of parts names hands) n statement ≡ None) (hand : Hand)
    (slot : Slot) (fine : IsKeptSlot parts.pages.layout slot) where
  abbrev before : StoreState D
  before = store_of parts names hands

  abbrev now : List (Option Hand)
  now = with_hand hands n (Some hand)

  free : hand_in hands n ≡ None
  free = is_free before n statement none

  changes : HasHand hands now n (Some hand)
  changes = has_hand_set hands n (Some hand) (omega (arith, there, kept.a_hand_each))

  module _ (j : JournalState) (dropped : List (List Dropped)) (forgets : ForgetsDropped parts.dropped dropped n) (entries : j.entries ≡ parts.journal.entries) (promised : j.promised ≡ parts.journal.promised + hand_share (Some hand))
      (is : statement_of hand ≡ statement) (fresh : HasNotBegun parts.pages.layout hand)
      (fits : IsHandFor parts.pages.layout (transaction_of parts.transactions.opens n) hand) where
    abbrev new : Parts D
    new = record parts { journal = j; dropped = dropped }

    abbrev after : StoreState D
    after = store_of new names now

    had : hand_share (hand_in hands n) ≡ 0
    had = ap (λ (h : Option Hand). hand_share h) free

    has : hand_share (hand_in now n) ≡ hand_share (Some hand)
    has = ap (λ (h : Option Hand). hand_share h) changes.own

    others : LeavesSessions told before after n
    others = record {
      leaves = record { layout = refl; tells = refl; faults = omega arith };
      transactions = λ m other. refl;
      locks = λ m other. refl;
      dropped = forgets.others;
      rights = λ m table other is. is;
      promised = omega (arith, promised, had, has);
    }

    fit_now : FitsStore told after n
    fit_now =
        let was = kept.fits n (omega (arith, there, kept.few_sessions)) in
        let held : locks_held (hand_in hands n) ≡ 0 = ap (λ (h : Option Hand). locks_held h) free in
        record {
          session = was.session;
          over = was.over;
          hand = subst (λ (h : Option Hand). FitsHand parts.pages.layout (transaction_of parts.transactions.opens n) h) (sym changes.own) fits;
          limit = was.limit;
          own = omega (arith, was.own, held);
          held = λ table is. absurd (none-some table (sym (ap (λ (h : Option Hand). right_held parts.pages.layout h) free) ∙ was.held table is));
          rights = was.rights;
          entries = subst (λ (es : List Entry). length es ≤ MAX_ENTRIES) (sym entries) was.entries;
          share = omega (arith, was.share, promised, had, has);
        }

    -- it leads from each place that was shown to the one with the statement
    shown_there : (p : Place) → ShowsPlace before p → ShowsPlace after (with_statement p n statement)
    shown_there p shows = subst (λ (statement : Statement). ShowsPlace after (with_statement p n statement)) is
        (subst (λ (es : List Entry). IsPlaceOf (record (shown_of before) { entries = es; dropped = dropped; hands = now }) (with_statement p n (statement_of hand))) (sym entries)
        (laws.submitted (shown_of before) p n now dropped hand shows free changes forgets fresh))

    kept_taken : IsStoreKept told after (set slots n slot)
    kept_taken = record {
      few_sessions = kept.few_sessions;
      a_hand_each = length-set hands n (Some hand) ∙ kept.a_hand_each;
      a_slot_each = length-set slots n slot ∙ kept.a_slot_each;
      fits = fits_now told laws parts names hands slots kept new n now (Some hand) there changes fit_now others;
      nobody = nobody_now told laws parts names hands slots kept new n now (Some hand) there changes fit_now others;
      promised = promised_now told laws parts names hands slots kept new n now (Some hand) there changes fit_now others;
      slot = slots_set (IsKeptSlot parts.pages.layout) slots n slot (omega (arith, there, kept.a_slot_each)) kept.slot fine;
      shown = λ tells ready. let was = kept.shown tells ready in (with_statement was.0 n statement, shown_there was.0 was.1);
    }

    leads_taken : LeadsOn told before after (λ p q. Submits p n statement None q)
    leads_taken = λ tells ready still p shows. (with_statement p n statement, shown_there p shows, Taken (sym (refusal_shown told laws before p n statement shows) ∙ none))

  -- all that the store promises then
  pub record IsTaken (new : Parts D) : Type 0 where
    pub kept_now : IsStoreKept told (store_of new names now) (set slots n slot)
    pub leads : LeadsOn told before (store_of new names now) (λ p q. Submits p n statement None q)
    pub up : IsTakenUp before (store_of new names now) n statement

  pub is_taken : (new : Parts D) (dropped : List (List Dropped)) → ForgetsDropped new.dropped dropped n → TakesHand parts new statement hand → IsTaken (forgetting new dropped)
  is_taken new dropped forgets takes = subst (λ (q : Parts D). IsTaken (forgetting q dropped)) (sym takes.rest) (record {
    kept_now = kept_taken new.journal dropped forgot takes.entries takes.promised takes.statement_is takes.fresh fits;
    leads = leads_taken new.journal dropped forgot takes.entries takes.promised takes.statement_is takes.fresh fits;
    up = record {
      hand = hand;
      in_hand = changes.own;
      statement_is = takes.statement_is;
      fresh = takes.fresh;
      others = changes.others;
      dropped = forgot;
      entries = takes.entries;
      rest = refl;
    };
  })
    where
      forgot : ForgetsDropped parts.dropped dropped n
      forgot = subst (λ (q : Parts D). ForgetsDropped q.dropped dropped n) takes.rest forgets

      fits : IsHandFor parts.pages.layout (transaction_of parts.transactions.opens n) hand
      fits = takes.fit (transaction_of parts.transactions.opens n) (is_allowed before n statement none)

pub taken_as : {D : Type 0} (P : StoreState D → StoreState D → Type 0) (old before : StoreState D) (new : Parts D) (names more : List (List ℕ)) (hands now : List (Option Hand))
    → before ≡ old → more ≡ names → now ≡ hands → P before (store_of new names hands) → P old (store_of new more now)
taken_as P old before new names more hands now a b c is =
    subst (λ (s : StoreState _). P s (store_of new more now)) a
    (subst (λ (l : List (List ℕ)). P before (store_of new l now)) (sym b)
    (subst (λ (l : List (Option Hand)). P before (store_of new names l)) (sym c) is))
