-- The begin of a transaction as a step of its session.
use Rattle.std.proofs.Common.{◌≡◌, inl, ℕ, ◌+◌, ◌<◌, ◌≤◌, Bool, List, [], ◌∷◌, ◌++◌, length, length-append, set, Option, None, Some, refl, sym, ap, ◌∙◌, subst, arith}
use Rattle.std.specs.Prelude.{codes}
use Rattle.std.specs.Global.{Vec}
use Rattle.std.specs.FinMap as finite
use Rattle.std.proofs.lemmas.List.{get_or-set_other, get_or-set_same}
use Rattle.std.proofs.lemmas.Option.{none-some}
use Rattle.block_model.specs.declared.reply.Refusal.TheVariants as refusals
use Rattle.block_model.specs.declared.reply.Reply.{Reply}
use Rattle.block_model.specs.declared.reply.Reply.TheVariants as replies
use Rattle.block_model.specs.declared.request.Entry.{Entry}
use Rattle.block_model.specs.declared.request.Request.TheVariants as requests
use Rattle.block_model.specs.DatabaseState.{DatabaseState}
use Rattle.block_model.specs.RequestEffect.{Begun}
use Rattle.block_model.specs.SerialRun.{IsLegal, serial_run}
use Rattle.disk_trait.specs.Told.{Told}
use Rattle.store_layout.specs.DiskLayout.{DiskLayout}
use Rattle.page_map.specs.Keeps.{Tells}
use Rattle.page_map.specs.PageMap.{View}
use Rattle.snapshot_core.specs.declared.statuses.Status.TheVariants as status
use Rattle.store_layout.specs.declared.limits.TheConstants.{MAX_ENTRIES, MAX_SESSIONS}
use Rattle.store_layout.specs.StatementRequests.{request_entry}
use Rattle.snapshot_core.specs.StoredVersions.{transaction_of}
use Rattle.tx_table.specs.LeavesRest.{LeavesRest}
use Rattle.tx_table.specs.TxState.{IsOver}
use Rattle.tx_table.specs.Statuses.{HasStatuses, OfStatuses, number_limit}
use Rattle.transactions.specs.CountedRows.{counts as counts_of}
use Rattle.transactions.specs.Laws.{BeginCounts, BeginIsUnseen, RowIsOfTransactions, SessionsAreShown}
use Rattle.transactions.specs.ShowsDatabase.{DoesRequest, OfDatabase, ShowsDatabase}
use Rattle.transactions.specs.TransactionsState.{TransactionsState, next_open, with_begun}
use Rattle.script_semantics.specs.Place.{Place, database_at}
use Rattle.script_semantics.specs.StatementSteps as steps
use Rattle.script_semantics.specs.StatementSteps.{Ended, IsAtOnce, LacksRoom, StepsTo, numbers_of}
use Rattle.session_parts.specs.FrontsStand.{FrontsStand}
use Rattle.session_parts.proofs.Beginning.{begin_stands}
use Rattle.session_parts.specs.declared.hand.Hand.{Hand}
use Rattle.session_parts.specs.declared.hand.Hand.TheVariants as hands
use Rattle.session_parts.specs.declared.hand.Stepped.TheVariants as stepped
use Rattle.session_parts.specs.declared.parts.Parts.{Parts}
use Rattle.session_parts.specs.Hands.{HandShows}
use Rattle.session_parts.specs.PlacesAfter.{place_at_once}
use Rattle.session_parts.specs.Shares.{open_share}
use Rattle.session_parts.specs.ShowsPlace.{ShowsPlace}
use Rattle.session_parts.specs.JournalState.{JournalState}
use Rattle.session_parts.specs.Stepping.{IsFit, MakesItsStep}
use Rattle.session_parts.specs.StoreStates.{hand_in, shown_of, store_of, with_hand}
use Rattle.session_parts.specs.UndoneLaws.{FitsParts, StepsSo}
use Rattle.session_parts.proofs.Fronts.{fronts_same}
use Rattle.session_parts.proofs.Requests.{begin_is_legal}
use Rattle.session_parts.proofs.Steps.{lacks_number as no_number}
use Rattle.session_parts.proofs.Undone.{fit_of_parts}
use Rattle.session_parts.proofs.Leads.{begin_sees_alike, more_counts_few, next_has_no_rows}
use Rattle.session_transactions.proofs.AtOnce.{IsOnly, Restates, StaysBeside, does_so, heaps_follow, shown_parts, shown_then}
use Rattle.session_transactions.proofs.Frames.{made_so}
use Rattle.session_transactions.proofs.Rooms.{answered, lacks}

-- ---- a begin is one request

pub begin_only : (n t : ℕ) (numbers : Vec ℕ) (layout : DiskLayout) → IsOnly n (hands.Begins numbers) (request_entry n 0 requests.Begin) (Begun t) (replies.Begun t) layout
begin_only n t numbers layout = record { own = refl; none_answered = λ answers none. none; next = refl; last = refl; replied = refl }

-- the laws that it takes
pub record BeginLaws : Type 0 where
  pub sessions : SessionsAreShown
  pub unseen : BeginIsUnseen
  pub counts : BeginCounts
  pub rows : RowIsOfTransactions

pub the_begin_laws : SessionsAreShown → BeginIsUnseen → BeginCounts → RowIsOfTransactions → BeginLaws
the_begin_laws sessions unseen counts rows = record { sessions = sessions; unseen = unseen; counts = counts; rows = rows }

-- ---- no room

module _ {D : Type 0} (laws : BeginLaws) (parts : Parts D) (n : ℕ) (numbers : Vec ℕ) (full : MAX_ENTRIES ≤ length parts.journal.entries)
    (idle : transaction_of parts.transactions.opens n ≡ None) (some : parts.transactions.tx.next < number_limit parts.pages.layout) where
  pub no_begin : (names : List (List ℕ)) (hands_ : List (Option Hand)) (p : Place) → hand_in hands_ n ≡ Some (hands.Begins numbers) → ShowsPlace (store_of parts names hands_) p → LacksRoom p n
  no_begin names hands_ p is shown =
      let has = laws.sessions parts.pages.layout parts.pages.pages parts.transactions (database_at p) shown.database in
      lacks parts n (hands.Begins numbers) full names hands_ p is shown (request_entry n 0 requests.Begin) (Begun (database_at p).next) (replies.Begun (database_at p).next)
      (begin_only n (database_at p).next numbers p.layout) (answered (database_at p) (request_entry n 0 requests.Begin) None (has.none n idle))
      (steps.Begin (subst (λ (next : ℕ). next < numbers_of p.layout) (sym has.next) (subst (λ (layout : DiskLayout). parts.transactions.tx.next < numbers_of layout) (sym shown.layout) some)))

-- ---- by what the calls ensure

begin_promised : (new old : ℕ) → new + 1 ≡ old → new + (3 + 0) ≡ old + (0 + 2)
begin_promised new old entered = omega arith

refused_promised : (new old : ℕ) → new + 3 ≡ old → new + (3 + 0) ≡ old + (0 + 0)
refused_promised new old released = omega arith

module _ {D : Type 0} (told : D → Told) (laws : BeginLaws) (old : Parts D) (n : ℕ) (numbers : Vec ℕ) (fits : IsFit told old n (hands.Begins numbers)) (ready : old.pages.failed ≡ None) where
  was : FitsParts told old n (Some (hands.Begins numbers))
  was = fit_of_parts told old n (hands.Begins numbers) fits

  pub idle : transaction_of old.transactions.opens n ≡ None
  idle = was.in_hand.0

  module _ (pages : View D) (tx : TransactionsState) (j : JournalState) (t : ℕ) (still : pages.failed ≡ None) (over : IsOver told tx.tx pages) (rest : LeavesRest told old.pages pages)
      (places : length old.transactions.opens ≡ MAX_SESSIONS) (some : old.transactions.tx.next < number_limit old.pages.layout) (begins : tx ≡ with_begun old.transactions n)
      (statuses : OfStatuses told old.pages (λ stored. HasStatuses old.pages.layout pages.pages (set stored old.transactions.tx.next status.Begun)))
      (does : OfDatabase told old.pages old.transactions (λ s. DoesRequest old.pages.layout pages.pages tx s (request_entry n 0 requests.Begin) (Begun t)))
      (longer : j.entries ≡ old.journal.entries ++ request_entry n 0 requests.Begin ∷ []) (entered : j.promised + 1 ≡ old.journal.promised) (room : length old.journal.entries + 1 ≤ MAX_ENTRIES) where
    first_same : tx.tx.first ≡ old.transactions.tx.first
    first_same = ap (λ (t : TransactionsState). t.tx.first) begins

    now_open : transaction_of tx.opens n ≡ Some (next_open old.transactions)
    now_open = ap (λ (x : TransactionsState). transaction_of x.opens n) begins ∙ get_or-set_same old.transactions.opens n (Some (next_open old.transactions)) None (omega (arith, was.session, places))

    abbrev restates : Tells told old.pages → (s : DatabaseState) (shows : ShowsDatabase old.pages.layout old.pages.pages old.transactions s)
        → Restates old (record old { pages = pages; transactions = tx; journal = j }) n shows.stored
    restates tells s shows = record {
      later = set shows.stored old.transactions.tx.next status.Begun;
      has = statuses tells shows.stored shows.has;
      alike = begin_sees_alike laws.unseen (shown_parts old) (shown_parts (record old { pages = pages; transactions = tx; journal = j })) s shows.stored n shows shows.has some first_same;
      few = more_counts_few (shown_parts old) (shown_parts (record old { pages = pages; transactions = tx; journal = j })) shows.stored (set shows.stored old.transactions.tx.next status.Begun) old.transactions.tx.next
          (next_has_no_rows laws.rows (shown_parts old) s shows.stored shows shows.has)
          (λ u. ap (λ (t : TransactionsState). counts_of t (set shows.stored old.transactions.tx.next status.Begun) u) begins
          ∙ laws.counts old.pages.layout old.pages.pages old.transactions s shows.stored n u shows shows.has was.session idle some);
    }

    pub begun : StepsSo told old (record old { pages = pages; transactions = tx; journal = j }) n (hands.Begins numbers) (stepped.Done (replies.Begun t))
    begun = does_so told old pages tx j n (hands.Begins numbers) (request_entry n 0 requests.Begin) (Begun t) (replies.Begun t) (record {
      beside = record {
        left = record {
          fits = fits;
          ready = ready;
          still = still;
          leaves = rest.leaves;
          over = over;
          in_hand = tt;
          held = refl;
          right = refl;
          entries = omega (arith, room, ap length longer, length-append old.journal.entries (request_entry n 0 requests.Begin ∷ []));
          promised = (λ i. j.promised + (3 + open_share (idle i))) ∙ begin_promised j.promised old.journal.promised entered ∙ (λ i. old.journal.promised + (0 + open_share (sym now_open i)));
          opens = λ m apart. ap (λ (t : TransactionsState). transaction_of t.opens m) begins ∙ get_or-set_other old.transactions.opens n m (Some (next_open old.transactions)) None apart;
        };
        rest = rest;
        first = first_same;
        in_none = λ table there. none-some table there;
      };
      only = begin_only n t numbers;
      entries = longer;
      does = does;
      legal = λ s shows. begin_is_legal s n 0 ((laws.sessions old.pages.layout old.pages.pages old.transactions s shows).none n idle);
      may = λ p shows is. steps.Begin (subst (λ (next : ℕ). next < numbers_of p.layout) (sym (laws.sessions old.pages.layout old.pages.pages old.transactions (database_at p) shows).next)
          (subst (λ (layout : DiskLayout). old.transactions.tx.next < numbers_of layout) (sym is) some));
      restates = restates;
      -- the new snapshot has exactly the transactions that had ended
      fronts = λ tells p q shows stands goes. subst (λ (t : TransactionsState). FrontsStand old.pages.layout pages.pages t (set shows.stored old.transactions.tx.next status.Begun) q) (sym begins)
          (begin_stands old.pages.layout old.pages.pages pages.pages old.transactions shows.stored p q n (request_entry n 0 requests.Begin) shows shows.has stands idle
          (record { session = refl; asks = refl }) goes (heaps_follow told old pages rest tells));
    })

  -- ---- no number is left: nothing changes but what is promised

  module _ (j : JournalState) (spent : old.transactions.tx.next ≡ number_limit old.pages.layout) (same : j.entries ≡ old.journal.entries) (released : j.promised + 3 ≡ old.journal.promised) where
    abbrev refusal : Reply
    refusal = replies.Refused (refusals.Full (codes "status") old.transactions.tx.next)

    beside : StaysBeside told old old.pages old.transactions j n (hands.Begins numbers)
    beside = record {
      left = record {
        fits = fits;
        ready = ready;
        still = ready;
        leaves = record { layout = refl; tells = refl; faults = omega arith };
        over = was.over;
        in_hand = tt;
        held = refl;
        right = refl;
        entries = omega (arith, was.entries, ap length same);
        promised = (λ i. j.promised + (3 + open_share (idle i))) ∙ refused_promised j.promised old.journal.promised released ∙ (λ i. old.journal.promised + (0 + open_share (sym idle i)));
        opens = λ m apart. refl;
      };
      rest = record { leaves = record { layout = refl; tells = refl; faults = omega arith }; pages = λ tells place apart. refl; started = λ tells block is. is };
      first = refl;
      in_none = λ table there. none-some table there;
    }

    lacks_number : MakesItsStep told old (record old { journal = j }) n (hands.Begins numbers) (stepped.Done refusal)
    lacks_number names hands_ is tells before_ after_ p shown =
        let journal_is : j.entries ≡ p.journal = same ∙ sym shown.journal in
        let run : serial_run p.opening j.entries ≡ database_at p = ap (serial_run p.opening) journal_is in
        let shows : HandShows (Some (hands.Begins numbers)) (p.hands n) (p.accounts n) = subst (λ (h : Option Hand). HandShows h (p.hands n) (p.accounts n)) is (shown.hands n) in
        let next_is : (database_at p).next ≡ old.transactions.tx.next = (laws.sessions old.pages.layout old.pages.pages old.transactions (database_at p) shown.database).next in
        let all_given : (database_at p).next ≡ numbers_of p.layout = next_is ∙ spent ∙ ap numbers_of (sym shown.layout) in
        let counts : ℕ → Bool = counts_of old.transactions shown.database.stored in (
          place_at_once p n counts j.entries,
          shown_then told old old.pages old.transactions j n (hands.Begins numbers) beside names hands_ is tells p shown
              (record { later = shown.database.stored; has = shown.database.has; alike = λ m p apart theirs_is. record { snapshot = refl; own = refl; ended = λ u had. refl }; few = λ u counted. inl counted })
              (subst (ShowsDatabase old.pages.layout old.pages.pages old.transactions) (sym run) shown.database) (subst (IsLegal p.opening) (sym journal_is) shown.legal)
              (fronts_same (shown_of (store_of old names hands_)) (shown_of (store_of (record old { journal = j }) names (with_hand hands_ n None))) p shown same refl refl)
              (λ m apart. ap (λ (s : DatabaseState). finite.get s.sessions m) run),
          record {
            hand = shows.0;
            in_hand = shows.1;
            steps = subst (λ (number : ℕ). StepsTo p n shows.0 (Ended (replies.Refused (refusals.Full (codes "status") number))) (place_at_once p n counts j.entries)) (sym all_given ∙ next_is)
                (subst (λ (entries : List Entry). StepsTo p n shows.0 (Ended (replies.Refused (refusals.Full (codes "status") (numbers_of p.layout)))) (place_at_once p n counts entries)) (sym journal_is)
                (no_number p n shows.0 counts shows.2 all_given));
            fits = beside.left.entries;
          },
        )

    refused : StepsSo told old (record old { journal = j }) n (hands.Begins numbers) (stepped.Done refusal)
    refused = made_so told old old.pages old.transactions j n (hands.Begins numbers) None beside.left (stepped.Done refusal) refl lacks_number (λ names hands_ is. tt) (ready, ready)

  -- with the name and the number as they are told
  pub refused_as : (name : List ℕ) (number : ℕ) (j : JournalState) → name ≡ codes "status" → number ≡ old.transactions.tx.next → old.transactions.tx.next ≡ number_limit old.pages.layout
      → j.entries ≡ old.journal.entries → j.promised + 3 ≡ old.journal.promised
      → StepsSo told old (record old { journal = j }) n (hands.Begins numbers) (stepped.Done (replies.Refused (refusals.Full name number)))
  refused_as name number j is_name is_number spent same released =
      subst (λ (name : List ℕ). StepsSo told old (record old { journal = j }) n (hands.Begins numbers) (stepped.Done (replies.Refused (refusals.Full name number)))) (sym is_name)
      (subst (λ (number : ℕ). StepsSo told old (record old { journal = j }) n (hands.Begins numbers) (stepped.Done (replies.Refused (refusals.Full (codes "status") number)))) (sym is_number)
      (refused j spent same released))
