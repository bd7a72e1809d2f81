-- The end of a transaction as a step of its session.
use Rattle.std.proofs.Common.{◌≡◌, ℕ, ◌+◌, ◌≤◌, Bool, true, false, not, List, [], ◌∷◌, ◌++◌, length, length-append, set, Option, None, Some, refl, sym, ap, ◌∙◌, subst, arith}
use Rattle.std.specs.Prelude.{IsSome, IsTrue, if◌then◌else◌}
use Rattle.std.proofs.lemmas.List.{get_or-set_other}
use Rattle.std.proofs.lemmas.Bool.{true≢false}
use Rattle.std.proofs.lemmas.Option.{none-some}
use Rattle.block_model.specs.declared.reply.Reply.{Reply}
use Rattle.block_model.specs.declared.reply.Reply.TheVariants as replies
use Rattle.block_model.specs.declared.request.Entry.{Entry}
use Rattle.block_model.specs.declared.request.Request.TheVariants as requests
use Rattle.block_model.specs.RequestEffect.{Answer, Committed, IsLegalRequest, RolledBack}
use Rattle.disk_trait.specs.Told.{Told}
use Rattle.store_layout.specs.DiskLayout.{DiskLayout}
use Rattle.page_map.specs.Keeps.{Tells}
use Rattle.page_map.specs.PageMap.{View}
use Rattle.tx_table.specs.TxState.{IsOver}
use Rattle.snapshot_core.specs.SessionChanges.{ended}
use Rattle.snapshot_core.specs.declared.statuses.Status.TheVariants as status
use Rattle.session_parts.specs.JournalState.{JournalState}
use Rattle.session_parts.specs.Stepping.{IsFit}
use Rattle.session_parts.proofs.Requests.{end_is_legal}
use Rattle.snapshot_core.specs.declared.statuses.Status.{Status}
use Rattle.store_layout.specs.declared.limits.TheConstants.{MAX_ENTRIES}
use Rattle.store_layout.specs.StatementRequests.{request_entry}
use Rattle.snapshot_core.specs.declared.sessions.Open.{Open}
use Rattle.snapshot_core.specs.StoredVersions.{transaction_of}
use Rattle.tx_table.specs.LeavesRest.{LeavesRest}
use Rattle.tx_table.specs.Statuses.{HasStatuses, OfStatuses}
use Rattle.transactions.specs.CountedRows.{counts as counts_of}
use Rattle.transactions.specs.Sessions.{IsCopyOf}
use Rattle.transactions.specs.Laws.{CommitCounts, EndIsUnseen, RollbackCounts, SessionsAreShown}
use Rattle.transactions.specs.ShowsDatabase.{DoesRequest, OfDatabase, ShowsDatabase}
use Rattle.transactions.specs.TransactionsState.{OfOpen, TransactionsState, with_open}
use Rattle.script_semantics.specs.Place.{Place}
use Rattle.script_semantics.specs.StatementSteps as steps
use Rattle.script_semantics.specs.StatementSteps.{Ended, IsAtOnce, LacksRoom}
use Rattle.session_parts.specs.FrontsStand.{FrontsStand}
use Rattle.session_parts.proofs.Ending.{end_stands}
use Rattle.session_parts.specs.declared.hand.Hand.{Hand}
use Rattle.session_parts.specs.declared.hand.Hand.TheVariants as hands
use Rattle.session_parts.specs.declared.hand.Stepped.TheVariants as stepped
use Rattle.session_parts.specs.declared.parts.Parts.{Parts}
use Rattle.session_parts.specs.HandFits.{locks_held, right_held}
use Rattle.session_parts.specs.Hands.{statement_of}
use Rattle.session_parts.specs.HandsInTables.{table_in}
use Rattle.session_parts.specs.Shares.{hand_share, open_share}
use Rattle.session_parts.specs.UndoneLaws.{StepsSo}
use Rattle.session_parts.specs.FrontLaws.{IsEnding}
use Rattle.std.specs.FinMap as finite
use Rattle.block_model.specs.DatabaseState.{DatabaseState, OpenTransaction}
use Rattle.session_transactions.proofs.Frames.{set_here}
use Rattle.session_transactions.proofs.AtOnce.{IsOnly, Restates, does_so, heaps_follow, shown_parts}
use Rattle.session_parts.specs.Leaving.{CountsFew}
use Rattle.session_parts.proofs.Leads.{end_sees_alike, fewer_counts_few, same_counts_few}

-- ---- commit and rollback are one request each

pub commit_only : (n : ℕ) (committed : Bool) (layout : DiskLayout)
    → IsOnly n hands.Commits (request_entry n 0 requests.Commit) (if committed then Committed else RolledBack) (if committed then replies.Committed else replies.RolledBack) layout
commit_only n true layout = record { own = refl; none_answered = λ answers none. none; next = refl; last = refl; replied = refl }
commit_only n false layout = record { own = refl; none_answered = λ answers none. none; next = refl; last = refl; replied = refl }

pub rollback_only : (n : ℕ) (layout : DiskLayout) → IsOnly n hands.RollsBack (request_entry n 0 requests.Rollback) RolledBack replies.RolledBack layout
rollback_only n layout = record { own = refl; none_answered = λ answers none. none; next = refl; last = refl; replied = refl }

-- ---- a commit and a rollback, by what they ensure

-- the laws of transactions
pub record TransactionLaws : Type 0 where
  pub sessions : SessionsAreShown
  pub unseen : EndIsUnseen
  pub committed : CommitCounts
  pub rolled_back : RollbackCounts

end_promised : (new mid old unneeded share : ℕ) → new + unneeded ≡ mid → mid + 1 ≡ old → unneeded + 1 ≡ share → new + (0 + share) ≡ old + (0 + 0)
end_promised new mid old unneeded share released entered shared = omega arith

pub some_open : (own : Option Open) → IsSome own → (o : Open) × (own ≡ Some o)
some_open None is = absurd (true≢false (sym is))
some_open (Some o) is = (o, refl)

status_is : (failed : Bool) → (if not failed then status.Committed else status.RolledBack) ≡ ended failed
status_is true = refl
status_is false = refl

-- how a transaction ends: its status, and that no rows come to count by it
pub record EndsSo {D : Type 0} (told : D → Told) (old : Parts D) (pages : View D) (tx : TransactionsState) (n : ℕ) (hand : Hand) (e : Entry) (answer : Answer) (reply : Reply) (own : Open) (end : Status) : Type 0 where
  pub ending : IsEnding e.request own.failed end
  pub statuses : OfStatuses told old.pages (λ stored. HasStatuses old.pages.layout pages.pages (set stored own.t end))
  pub few : (s : DatabaseState) (stored : List Status) → ShowsDatabase old.pages.layout old.pages.pages old.transactions s → HasStatuses old.pages.layout old.pages.pages stored
      → CountsFew (shown_parts old) (shown_parts (record old { transactions = with_open old.transactions n None })) stored (set stored own.t end)
  pub does : OfDatabase told old.pages old.transactions (λ s. DoesRequest old.pages.layout pages.pages tx s e answer)
  pub legal : (s : DatabaseState) → ShowsDatabase old.pages.layout old.pages.pages old.transactions s → IsLegalRequest s e
  pub only : (layout : DiskLayout) → IsOnly n hand e answer reply layout
  pub may : (p : Place) → IsAtOnce p (statement_of hand)

module _ {D : Type 0} (told : D → Told) (laws : TransactionLaws) (old : Parts D) (pages : View D) (tx : TransactionsState) (mid j : JournalState) (n unneeded : ℕ)
    (ready : old.pages.failed ≡ None) (still : pages.failed ≡ None) (over : IsOver told tx.tx pages) (rest : LeavesRest told old.pages pages) (ended_is : tx ≡ with_open old.transactions n None)
    (room : length old.journal.entries + 1 ≤ MAX_ENTRIES) (shared : OfOpen old.transactions n (λ o. unneeded + 1 ≡ open_share (Some o))) (entered : mid.promised + 1 ≡ old.journal.promised) (released : j.promised + unneeded ≡ mid.promised)
    (same_entries : j.entries ≡ mid.entries) where
  abbrev new : Parts D
  new = record old { pages = pages; transactions = tx; journal = j }

  first_same : tx.tx.first ≡ old.transactions.tx.first
  first_same = ap (λ (t : TransactionsState). t.tx.first) ended_is

  abbrev found : (s : DatabaseState) → ShowsDatabase old.pages.layout old.pages.pages old.transactions s → (own : Open) → transaction_of old.transactions.opens n ≡ Some own
      → (x : OpenTransaction) × (finite.get s.sessions n ≡ Some x) × IsCopyOf own x
  found s shows own opened = (laws.sessions old.pages.layout old.pages.pages old.transactions s shows).shown n own opened

  module _ (hand : Hand) (fits : IsFit told old n hand) (held : 0 ≡ locks_held (Some hand)) (right : right_held old.pages.layout (Some hand) ≡ None) (no_share : hand_share (Some hand) ≡ 0)
      (in_none : (table : ℕ) → table_in old.pages.layout (Some hand) ≡ Some table → ⊥) (e : Entry) (answer : Answer) (reply : Reply) (own : Open) (opened : transaction_of old.transactions.opens n ≡ Some own) (end : Status)
      (so : EndsSo told old pages tx n hand e answer reply own end) (longer : mid.entries ≡ old.journal.entries ++ e ∷ []) where
    none_now : transaction_of tx.opens n ≡ None
    none_now = ap (λ (t : TransactionsState). transaction_of t.opens n) ended_is ∙ set_here old.transactions.opens n own None opened

    abbrev restates : Tells told old.pages → (s : DatabaseState) (shows : ShowsDatabase old.pages.layout old.pages.pages old.transactions s) → Restates old new n shows.stored
    restates tells s shows = record {
      later = set shows.stored own.t end;
      has = so.statuses tells shows.stored shows.has;
      alike = end_sees_alike laws.unseen (shown_parts old) (shown_parts new) s shows.stored n own end shows opened first_same;
      few = λ u counts. so.few s shows.stored shows shows.has u (subst (λ (t : TransactionsState). IsTrue (counts_of t (set shows.stored own.t end) u)) ended_is counts);
    }

    ends_so : StepsSo told old new n hand (stepped.Done reply)
    ends_so = does_so told old pages tx j n hand e answer reply (record {
      beside = record {
        left = record {
          fits = fits;
          ready = ready;
          still = still;
          leaves = rest.leaves;
          over = over;
          in_hand = tt;
          held = held;
          right = right;
          entries = omega (arith, room, ap length same_entries, ap length longer, length-append old.journal.entries (e ∷ []));
          promised = (λ i. j.promised + (no_share i + open_share (opened i))) ∙ end_promised j.promised mid.promised old.journal.promised unneeded (open_share (Some own)) released entered (shared own opened)
              ∙ (λ i. old.journal.promised + (0 + open_share (sym none_now i)));
          opens = λ m apart. ap (λ (t : TransactionsState). transaction_of t.opens m) ended_is ∙ get_or-set_other old.transactions.opens n m None None apart;
        };
        rest = rest;
        first = first_same;
        in_none = in_none;
      };
      only = so.only;
      entries = same_entries ∙ longer;
      does = so.does;
      legal = so.legal;
      may = λ p shows is. so.may p;
      restates = restates;
      -- its status says whether the journal has its commit
      fronts = λ tells p q shows stands goes. subst (λ (t : TransactionsState). FrontsStand old.pages.layout pages.pages t (set shows.stored own.t end) q) (sym ended_is)
          (end_stands old.pages.layout old.pages.pages pages.pages old.transactions shows.stored p q n own e end shows shows.has stands opened
          (so.only old.pages.layout).own so.ending goes (heaps_follow told old pages rest tells));
    })

  pub commits : IsFit told old n hands.Commits → (committed : Bool) → IsSome (transaction_of old.transactions.opens n) → OfOpen old.transactions n (λ o. committed ≡ not o.failed)
      → OfDatabase told old.pages old.transactions (λ s. DoesRequest old.pages.layout pages.pages tx s (request_entry n 0 requests.Commit) (if committed then Committed else RolledBack))
      → OfOpen old.transactions n (λ o. OfStatuses told old.pages (λ stored. HasStatuses old.pages.layout pages.pages (set stored o.t (if committed then status.Committed else status.RolledBack))))
      → mid.entries ≡ old.journal.entries ++ request_entry n 0 requests.Commit ∷ []
      → StepsSo told old new n hands.Commits (stepped.Done (if committed then replies.Committed else replies.RolledBack))
  commits fits committed is_open answered does statuses longer =
      let own = some_open (transaction_of old.transactions.opens n) is_open in
      let end : Status = if committed then status.Committed else status.RolledBack in
      let is : end ≡ ended own.0.failed = ap (λ (c : Bool). if c then status.Committed else status.RolledBack) (answered own.0 own.1) ∙ status_is own.0.failed in
      ends_so hands.Commits fits refl refl refl (λ table there. none-some table there) (request_entry n 0 requests.Commit) (if committed then Committed else RolledBack) (if committed then replies.Committed else replies.RolledBack)
      own.0 own.1 end (record {
        ending = is;
        statuses = statuses own.0 own.1;
        few = λ s stored shows has. same_counts_few (shown_parts old) (shown_parts (record old { transactions = with_open old.transactions n None })) stored (set stored own.0.t end)
            (λ u. ap (λ (end : Status). counts_of (with_open old.transactions n None) (set stored own.0.t end) u) is ∙ laws.committed old.pages.layout old.pages.pages old.transactions s stored n u own.0 shows has own.1);
        does = does;
        legal = λ s shows. let its = found s shows own.0 own.1 in (end_is_legal s n 0 its.0 its.1).commit;
        only = commit_only n committed;
        may = λ p. steps.Commit;
      }) longer

  pub rolls_back : IsFit told old n hands.RollsBack → IsSome (transaction_of old.transactions.opens n)
      → OfDatabase told old.pages old.transactions (λ s. DoesRequest old.pages.layout pages.pages tx s (request_entry n 0 requests.Rollback) RolledBack)
      → OfOpen old.transactions n (λ o. OfStatuses told old.pages (λ stored. HasStatuses old.pages.layout pages.pages (set stored o.t status.RolledBack)))
      → mid.entries ≡ old.journal.entries ++ request_entry n 0 requests.Rollback ∷ []
      → StepsSo told old new n hands.RollsBack (stepped.Done replies.RolledBack)
  rolls_back fits is_open does statuses longer =
      let own = some_open (transaction_of old.transactions.opens n) is_open in
      ends_so hands.RollsBack fits refl refl refl (λ table there. none-some table there) (request_entry n 0 requests.Rollback) RolledBack replies.RolledBack own.0 own.1 status.RolledBack (record {
        ending = refl;
        statuses = statuses own.0 own.1;
        few = λ s stored shows has. fewer_counts_few (shown_parts old) (shown_parts (record old { transactions = with_open old.transactions n None })) stored (set stored own.0.t status.RolledBack) own.0.t
            (λ u. laws.rolled_back old.pages.layout old.pages.pages old.transactions s stored n u own.0 shows has own.1);
        does = does;
        legal = λ s shows. let its = found s shows own.0 own.1 in (end_is_legal s n 0 its.0 its.1).rollback;
        only = rollback_only n;
        may = λ p. steps.Rollback;
      }) longer
