-- work that replies before it has begun: it finds no request, or lacks memory
use Rattle.std.proofs.Common.{◌≡◌, ℕ, ◌+◌, ◌<◌, List, [], length, Option, None, Some, refl, sym, ap, subst, ◌∙◌}
use Rattle.std.specs.Prelude.{slice_get}
use Rattle.std.proofs.lemmas.List.{append-nil}
use Rattle.std.proofs.lemmas.Option.{none-some}
use Rattle.disk_trait.specs.Told.{Told}
use Rattle.block_model.specs.declared.reply.Refusal.TheVariants as refusals
use Rattle.block_model.specs.declared.reply.Reply.{Reply}
use Rattle.block_model.specs.declared.reply.Reply.TheVariants as replies
use Rattle.block_model.specs.declared.request.Entry.{Entry}
use Rattle.page_locks.specs.RightHolders.{right_of}
use Rattle.snapshot_core.specs.StoredVersions.{transaction_of}
use Rattle.store_layout.specs.declared.statement.Statement.TheVariants as statements
use Rattle.transactions.specs.CountedRows.{counts as counts_of}
use Rattle.transactions.specs.Laws.{ShowAlike}
use Rattle.coverage.specs.Accounts.{Asked}
use Rattle.coverage.specs.Table.{TableState}
use Rattle.index_steps.specs.IndexTuples.{index_at}
use Rattle.brin_insert.proofs.Numbers.{number_within}
use Rattle.script_semantics.specs.Place.{Place, new_hand}
use Rattle.script_semantics.specs.StatementSteps.{Ended, MayLackMemory, StepsTo}
use Rattle.session_parts.specs.declared.hand.Hand.{Hand}
use Rattle.session_parts.specs.declared.hand.Hand.TheVariants as hands
use Rattle.session_parts.specs.declared.hand.Stepped.TheVariants as stepped
use Rattle.session_parts.specs.declared.parts.Parts.{Parts}
use Rattle.session_parts.specs.Hands.{HandShows}
use Rattle.session_parts.specs.HandsAsk.{IsNoInsert}
use Rattle.session_parts.specs.HandsInTables.{table_in}
use Rattle.session_parts.specs.PlacesAfter.{place_at_once}
use Rattle.session_parts.specs.Shares.{share_of}
use Rattle.session_parts.specs.ShowsPlace.{IsPlaceOf, ShowsTable}
use Rattle.session_parts.specs.Stepping.{IsFit}
use Rattle.session_parts.specs.StoreStates.{ShownStore, hand_in, shown_of, store_of, with_hand}
use Rattle.session_parts.specs.UndoneLaws.{FitsParts, StepsSo}
use Rattle.session_parts.proofs.Leads.{no_request_leads, same_counts_few, same_sees_alike}
use Rattle.session_parts.proofs.Places.{step_at_once_is_shown}
use Rattle.session_parts.proofs.Steps.{finds_nothing, lacks_memory}
use Rattle.session_parts.proofs.Stores.{hand_changes}
use Rattle.session_parts.proofs.Undone.{fit_of_parts, fit_of_stores}
use Rattle.session_maintenance.specs.FirstRequests.{HasNoRequest}
use Rattle.session_maintenance.proofs.UpkeepParts.{leaves_same}
use Rattle.session_maintenance.proofs.WorkAsked.{asked, asked_first, asked_table, none_asked_for, rests_there, work_in_hand}

module _ {D : Type 0} (told : D → Told) (parts : Parts D) (n : ℕ) (fit : IsFit told parts n hands.Working) (ready : parts.pages.failed ≡ None) (alike : ShowAlike) where
  fits : FitsParts told parts n (Some hands.Working)
  fits = fit_of_parts told parts n hands.Working fit

  -- nothing is in hand then
  fits_then : FitsParts told parts n None
  fits_then = record {
    session = fits.session;
    over = fits.over;
    in_hand = tt;
    limit = fits.limit;
    own = fits.own;
    held = fits.held;
    rights = fits.rights;
    entries = fits.entries;
    share = fits.share;
  }

  module _ (names : List (List ℕ)) (hand_list : List (Option Hand)) (has : hand_in hand_list n ≡ Some hands.Working) where
    abbrev old : ShownStore
    old = shown_of (store_of parts names hand_list)

    abbrev new : ShownStore
    new = shown_of (store_of parts names (with_hand hand_list n None))

    now : hand_in (with_hand hand_list n None) n ≡ None
    now = (hand_changes hand_list n hands.Working None has).own

    shown_then : (p : Place) (shown : IsPlaceOf old p) → IsPlaceOf new (place_at_once p n (counts_of parts.transactions shown.database.stored) parts.journal.entries)
    shown_then p shown = step_at_once_is_shown old new p n shown.database.stored shown
        (record { layout = refl; names = refl; first = refl; hands = (hand_changes hand_list n hands.Working None has).others; opens = λ m apart. refl })
        (record {
          pages = λ place other. refl;
          locks = refl;
          rights = refl;
          was_in = λ table there. none-some table (ap (table_in parts.pages.layout) (sym has) ∙ there);
          is_in = λ table there. none-some table (ap (table_in parts.pages.layout) (sym now) ∙ there);
        })
        shown.database.has (same_sees_alike old new shown.database.stored n refl) (same_counts_few old new shown.database.stored shown.database.stored (λ t. refl)) now
        (no_request_leads alike old new p n None (p.accounts n) shown refl refl (λ block. refl) (λ table block below. refl) (record {
          hand = subst (λ (h : Option Hand). HandShows h None (p.accounts n)) (sym now) refl;
          own = λ hand there. absurd (none-some hand (sym now ∙ there));
          order = λ index below ordered. ordered;
        }))
        (record { queue = refl; dropped = refl; told = refl; hand = subst IsNoInsert (sym now) tt })

    others_so : (promised : ℕ) → promised + share_of (hand_in hand_list n) (transaction_of parts.transactions.opens n) ≡ promised + share_of (hand_in (with_hand hand_list n None) n) (transaction_of parts.transactions.opens n)
    others_so promised = ap (λ (h : Option Hand). promised + share_of h (transaction_of parts.transactions.opens n)) has
        ∙ ap (λ (h : Option Hand). promised + share_of h (transaction_of parts.transactions.opens n)) (sym now)

  -- its step in each place that is shown
  abbrev EndsSo : Reply → Type 0
  EndsSo reply = (names : List (List ℕ)) (hand_list : List (Option Hand)) (has : hand_in hand_list n ≡ Some hands.Working) (p : Place) (shown : IsPlaceOf (shown_of (store_of parts names hand_list)) p)
      → StepsTo p n (new_hand statements.Work) (Ended reply) (place_at_once p n (counts_of parts.transactions shown.database.stored) parts.journal.entries)

  at_once_so : (reply : Reply) → EndsSo reply → StepsSo told parts parts n hands.Working (stepped.Done reply)
  at_once_so reply ends = record {
    steps = λ names hand_list has tells before after p shown. (
      place_at_once p n (counts_of parts.transactions shown.database.stored) parts.journal.entries,
      shown_then names hand_list has p shown,
      record {
        hand = new_hand statements.Work;
        in_hand = work_in_hand (shown_of (store_of parts names hand_list)) n has p shown;
        steps = ends names hand_list has p shown;
        fits = fits.entries;
      },
    );
    fit = λ names hand_list has. fit_of_stores told parts n None names (with_hand hand_list n None) fits_then (now names hand_list has);
    others = λ names hand_list has. record {
      leaves = leaves_same told parts.pages;
      transactions = λ m apart. refl;
      locks = λ m apart. refl;
      dropped = λ m apart. refl;
      rights = λ m table apart holds. holds;
      promised = others_so names hand_list has parts.journal.promised;
    };
    stays = λ names hand_list has. tt;
    cause = (ready, ready);
  }

  -- it finds no request
  pub idle_so : HasNoRequest parts.pages.layout parts.queue → StepsSo told parts parts n hands.Working (stepped.Done replies.Idle)
  idle_so none = at_once_so replies.Idle (λ names hand_list has p shown.
      let empty : p.queue ≡ [] = none_asked_for parts.pages.layout parts.queue p.queue shown.queue
      (λ (request : ℕ × ℕ) (one : Asked) first of. none request first (number_within parts.pages.layout one.table one.at request.0 of.there) of.begins) in
      subst (λ (l : List Entry). StepsTo p n (new_hand statements.Work) (Ended replies.Idle) (place_at_once p n (counts_of parts.transactions shown.database.stored) l)) shown.journal
      (finds_nothing p n (new_hand statements.Work) (counts_of parts.transactions shown.database.stored) refl (rests_there (shown_of (store_of parts names hand_list)) n has p shown) empty))

  -- it lacks the memory for the summary that is asked for first, and nobody else has the summarise lock there
  module _ (request : ℕ × ℕ) (first : slice_get parts.queue 0 ≡ Some request) (below : (index_at parts.pages.layout request.0).table < length parts.pages.layout.schema.tables)
      (free : (m : ℕ) → right_of parts.rights (index_at parts.pages.layout request.0).table ≡ Some m → m ≡ n) where
    may_lack : (names : List (List ℕ)) (hand_list : List (Option Hand)) (has : hand_in hand_list n ≡ Some hands.Working) (p : Place) (shown : IsPlaceOf (shown_of (store_of parts names hand_list)) p) → MayLackMemory p n statements.Work
    may_lack names hand_list has p shown =
        let old : ShownStore = shown_of (store_of parts names hand_list) in
        let it = asked old n has p shown request first in
        let same = asked_table old n has p shown request first in
        let there : ShowsTable old shown.database.stored (index_at parts.pages.layout request.0).table (p.tables (index_at parts.pages.layout request.0).table) = shown.tables (index_at parts.pages.layout request.0).table below in (
          it.one,
          asked_first old n has p shown request first,
          λ m held.
              free m (sym there.lock ∙ ap (λ (x : TableState). x.summarise_lock) (sym there.shown) ∙ ap (λ (t : ℕ). (p.tables t).summarise_lock) (sym same) ∙ held),
        )

    pub short_so : StepsSo told parts parts n hands.Working (stepped.Done (replies.Refused refusals.Memory))
    short_so = at_once_so (replies.Refused refusals.Memory) (λ names hand_list has p shown.
        subst (λ (l : List Entry). StepsTo p n (new_hand statements.Work) (Ended (replies.Refused refusals.Memory)) (place_at_once p n (counts_of parts.transactions shown.database.stored) l)) (append-nil p.journal ∙ shown.journal)
        (lacks_memory p n (new_hand statements.Work) (counts_of parts.transactions shown.database.stored) (may_lack names hand_list has p shown) (rests_there (shown_of (store_of parts names hand_list)) n has p shown)))
