-- A request of a transaction that touches no table, as a step of its session.
use Rattle.std.proofs.Common.{◌≡◌, ◌≢◌, ℕ, Bool, List, [], ◌∷◌, ◌++◌, Option, None, Some, refl, sym, ap, ◌∙◌, subst, arith}
use Rattle.std.specs.FinMap as finite
use Rattle.std.proofs.lemmas.Option.{none-some}
use Rattle.block_model.specs.declared.reply.Reply.{Reply}
use Rattle.block_model.specs.declared.request.Entry.{Entry}
use Rattle.block_model.specs.DatabaseState.{DatabaseState}
use Rattle.block_model.specs.RequestEffect.{Answer, IsLegalRequest, after_request, reply_to}
use Rattle.block_model.specs.SerialRun.{IsLegal, serial_run}
use Rattle.disk_trait.specs.Told.{Told}
use Rattle.store_layout.specs.DiskLayout.{DiskLayout}
use Rattle.recovery.specs.PageOrder.{IsIndexInOrder}
use Rattle.heap_rows.specs.Heaps.{relation_of as heap_of}
use Rattle.page_map.specs.Keeps.{Tells}
use Rattle.page_map.specs.PageMap.{View}
use Rattle.snapshot_core.specs.declared.statuses.Status.{Status}
use Rattle.store_layout.specs.HeapRoom.{full_table}
use Rattle.store_layout.specs.StatementRequests.{reply_to_statement}
use Rattle.tx_table.specs.LeavesRest.{LeavesRest}
use Rattle.tx_table.specs.Statuses.{HasStatuses, status_relation}
use Rattle.transactions.specs.CountedRows.{counts as counts_of}
use Rattle.transactions.specs.ShowsDatabase.{DoesRequest, OfDatabase, ShowsDatabase}
use Rattle.index_contents.specs.IndexContents.{relation_of as index_relation}
use Rattle.script_semantics.specs.Place.{Hand as HandAt, Place, database_at}
use Rattle.script_semantics.specs.Requests.{Course, Enters, MakesAll, NoneLeft, OneMore, entered, next_request}
use Rattle.script_semantics.specs.StatementSteps.{Ended, IsAtOnce, StepsTo, course_of}
use Rattle.session_parts.specs.FrontsStand.{FrontsStand}
use Rattle.session_parts.specs.RowsFollow.{RowsFollow}
use Rattle.session_parts.specs.FrontLaws.{GoesOn}
use Rattle.session_parts.proofs.Following.{same_heaps_follow}
use Rattle.session_parts.proofs.Within.{any_statuses_stand}
use Rattle.session_parts.specs.declared.hand.Hand.{Hand}
use Rattle.session_parts.specs.declared.hand.Stepped.TheVariants as stepped
use Rattle.session_parts.specs.declared.parts.Parts.{Parts}
use Rattle.session_parts.specs.Hands.{AnswersAre, HandShows, statement_of}
use Rattle.session_parts.specs.HandsAsk.{IsNoInsert}
use Rattle.session_parts.specs.HandsInTables.{table_in}
use Rattle.session_parts.specs.Leaving.{CountsFew, FrontsThen, SeeAlike, StepsAtOnce}
use Rattle.session_parts.specs.PlacesAfter.{place_at_once}
use Rattle.session_parts.specs.ShowsPlace.{IsPlaceOf}
use Rattle.session_parts.specs.Stepping.{MakesItsStep}
use Rattle.session_parts.specs.StoreLaws.{HasHand}
use Rattle.session_parts.specs.StoreStates.{ShownStore, hand_in, shown_of, store_of, with_hand}
use Rattle.session_parts.specs.UndoneLaws.{StepsSo}
use Rattle.session_parts.proofs.Places.{step_at_once_is_shown}
use Rattle.session_parts.proofs.Requests.{copies_stay, one_more_is_legal, one_more_is_run}
use Rattle.session_parts.proofs.Steps.{one_request}
use Rattle.session_parts.proofs.Stores.{hand_changes}
use Rattle.session_parts.specs.JournalState.{JournalState}
use Rattle.transactions.specs.TransactionsState.{TransactionsState}
use Rattle.session_transactions.proofs.Frames.{LeavesParts, made_so}

-- ---- where the disk tells its contents

-- what of a store matters to transactions
abbrev pub shown_parts : {D : Type 0} → Parts D → ShownStore
shown_parts parts = shown_of (store_of parts [] [])

-- the statuses then: the others see by them as they did, and few rows come to count
pub record Restates {D : Type 0} (old new : Parts D) (n : ℕ) (stored : List Status) : Type 0 where
  pub later : List Status
  pub has : HasStatuses old.pages.layout new.pages.pages later
  pub alike : SeeAlike n (shown_parts old) (shown_parts new) stored later
  pub few : CountsFew (shown_parts old) (shown_parts new) stored later

-- it changes no pages but those of statuses, and the session has nothing in hand then
pub record StaysBeside {D : Type 0} (told : D → Told) (old : Parts D) (pages : View D) (tx : TransactionsState) (j : JournalState) (n : ℕ) (hand : Hand) : Type 0 where
  pub left : LeavesParts told old pages tx j n hand None
  pub rest : LeavesRest told old.pages pages
  pub first : tx.tx.first ≡ old.transactions.tx.first
  pub in_none : (table : ℕ) → table_in old.pages.layout (Some hand) ≡ Some table → ⊥

-- a request that changes pages of statuses alone leaves the rows
pub heaps_follow : {D : Type 0} (told : D → Told) (old : Parts D) (pages : View D) → LeavesRest told old.pages pages → Tells told old.pages → RowsFollow old.pages.layout old.pages.pages pages.pages old.transactions
heaps_follow told old pages rest tells = same_heaps_follow old.pages.layout old.pages.pages pages.pages old.transactions
    (λ table block below. rest.pages tells (record { relation = heap_of table; block = block }) (λ (is : heap_of table ≡ status_relation). absurd (omega (arith, is))))

-- an index has a relation behind that of the statuses
not_statuses : (layout : DiskLayout) (index : ℕ) → index_relation layout index ≢ status_relation
not_statuses layout index is = omega (arith, is)

module _ {D : Type 0} (told : D → Told) (old : Parts D) (pages : View D) (tx : TransactionsState) (j : JournalState) (n : ℕ) (hand : Hand) (beside : StaysBeside told old pages tx j n hand) (names : List (List ℕ))
    (hands : List (Option Hand)) (is : hand_in hands n ≡ Some hand) (tells : Tells told old.pages) where
  abbrev new : Parts D
  new = record old { pages = pages; transactions = tx; journal = j }

  abbrev before : ShownStore
  before = shown_of (store_of old names hands)

  abbrev after : ShownStore
  after = shown_of (store_of new names (with_hand hands n None))

  has_none : HasHand hands (with_hand hands n None) n None
  has_none = hand_changes hands n hand None is

  at_once : StepsAtOnce n before after
  at_once = record {
    pages = λ place apart. beside.rest.pages tells place apart;
    locks = refl;
    rights = refl;
    was_in = λ table there. beside.in_none table (ap (table_in old.pages.layout) (sym is) ∙ there);
    is_in = λ table there. none-some table (ap (table_in old.pages.layout) (sym has_none.own) ∙ there);
  }

  pub shown_then : (p : Place) (shown : IsPlaceOf before p) (restates : Restates old new n shown.database.stored)
      → ShowsDatabase old.pages.layout pages.pages tx (serial_run p.opening j.entries) → IsLegal p.opening j.entries → FrontsThen before after p
      → ((m : ℕ) → m ≢ n → finite.get (serial_run p.opening j.entries).sessions m ≡ finite.get (database_at p).sessions m)
      → IsPlaceOf after (place_at_once p n (counts_of tx restates.later) j.entries)
  shown_then p shown restates database legal fronts copies =
      step_at_once_is_shown before after p n restates.later shown
      (record { layout = beside.left.leaves.layout; names = refl; first = beside.first; hands = has_none.others; opens = beside.left.opens }) at_once restates.has restates.alike restates.few has_none.own
      (record {
        database = database;
        legal = legal;
        fronts = fronts;
        copies = copies;
        hand = subst (λ (h : Option Hand). HandShows h None (p.accounts n)) (sym has_none.own) refl;
        own = λ now there. absurd (none-some now (sym has_none.own ∙ there));
        order = λ index below order. subst (IsIndexInOrder old.pages.layout.sizes.index_blocks)
            (λ i block. sym (beside.rest.pages tells (record { relation = index_relation old.pages.layout index; block = block }) (not_statuses old.pages.layout index)) i) order;
      })
      (record { queue = refl; dropped = refl; told = refl; hand = subst IsNoInsert (sym has_none.own) tt })

-- ---- the request

-- so the statement makes its only request, and replies
pub record IsOnly (n : ℕ) (hand : Hand) (e : Entry) (answer : Answer) (reply : Reply) (layout : DiskLayout) : Type 0 where
  pub own : e.session ≡ n
  pub none_answered : (answers : List Answer) → AnswersAre hand answers → answers ≡ []
  pub next : next_request n (statement_of hand) [] ≡ Some e
  pub last : next_request n (statement_of hand) (answer ∷ []) ≡ None
  pub replied : Some reply ≡ reply_to_statement (full_table layout) (statement_of hand) (answer ∷ [])

module _ (n : ℕ) (hand : Hand) (e : Entry) (answer : Answer) (reply : Reply) (p : Place) (only : IsOnly n hand e answer reply p.layout)
    (answered : reply_to (database_at p) e ≡ answer) (may : IsAtOnce p (statement_of hand)) (shows : HandShows (Some hand) (p.hands n) (p.accounts n)) where
  abbrev at : HandAt
  at = record { statement = statement_of hand; answers = [] }

  at_is : shows.0 ≡ at
  at_is = λ i. record { statement = shows.2 i; answers = only.none_answered shows.0.answers shows.3 i }

  pub in_hand : p.hands n ≡ Some at
  in_hand = shows.1 ∙ ap Some at_is

  abbrev course : Course
  course = entered p.opening (course_of p at) e

  answers_are : course.answers ≡ answer ∷ []
  answers_are = ap (λ (a : Answer). a ∷ []) answered

  makes : MakesAll p.opening n (statement_of hand) (course_of p at) course
  makes = OneMore (course_of p at) course course (Enters e only.next) (NoneLeft course (ap (next_request n (statement_of hand)) answers_are ∙ only.last))

  pub is_step : (counts : ℕ → Bool) → StepsTo p n at (Ended reply) (place_at_once p n counts (p.journal ++ e ∷ []))
  is_step counts = one_request p n at counts course reply may makes (only.replied ∙ ap (reply_to_statement (full_table p.layout) (statement_of hand)) (sym answers_are))

-- it is done, and the journal has one entry more
pub record DoesRequestNow {D : Type 0} (told : D → Told) (old : Parts D) (pages : View D) (tx : TransactionsState) (j : JournalState) (n : ℕ) (hand : Hand) (e : Entry) (answer : Answer) (reply : Reply) : Type 0 where
  pub beside : StaysBeside told old pages tx j n hand
  pub only : (layout : DiskLayout) → IsOnly n hand e answer reply layout
  pub entries : j.entries ≡ old.journal.entries ++ e ∷ []
  pub does : OfDatabase told old.pages old.transactions (λ s. DoesRequest old.pages.layout pages.pages tx s e answer)
  pub legal : (s : DatabaseState) → ShowsDatabase old.pages.layout old.pages.pages old.transactions s → IsLegalRequest s e
  pub may : (p : Place) → ShowsDatabase old.pages.layout old.pages.pages old.transactions (database_at p) → p.layout ≡ old.pages.layout → IsAtOnce p (statement_of hand)
  pub restates : Tells told old.pages → (s : DatabaseState) (shows : ShowsDatabase old.pages.layout old.pages.pages old.transactions s) → Restates old (record old { pages = pages; transactions = tx; journal = j }) n shows.stored
  pub fronts : (tells : Tells told old.pages) (p q : Place) (shows : ShowsDatabase old.pages.layout old.pages.pages old.transactions (database_at p))
      → FrontsStand old.pages.layout old.pages.pages old.transactions shows.stored p → GoesOn p q (e ∷ [])
      → FrontsStand old.pages.layout pages.pages tx (restates tells (database_at p) shows).later q

module _ {D : Type 0} (told : D → Told) (old : Parts D) (pages : View D) (tx : TransactionsState) (j : JournalState) (n : ℕ) (hand : Hand) (e : Entry) (answer : Answer) (reply : Reply)
    (now : DoesRequestNow told old pages tx j n hand e answer reply) where
  makes_its_step : MakesItsStep told old (record old { pages = pages; transactions = tx; journal = j }) n hand (stepped.Done reply)
  makes_its_step names hands is tells before_ after_ p shown =
      let d : DatabaseState = database_at p in
      let does : DoesRequest old.pages.layout pages.pages tx d e answer = now.does tells d shown.database in
      let longer : j.entries ≡ p.journal ++ e ∷ [] = now.entries ∙ ap (λ (l : List Entry). l ++ e ∷ []) (sym shown.journal) in
      let run : serial_run p.opening j.entries ≡ after_request d e = ap (serial_run p.opening) longer ∙ one_more_is_run p.opening p.journal e in
      let restates : Restates old (record old { pages = pages; transactions = tx; journal = j }) n shown.database.stored = now.restates tells d shown.database in
      let shows : HandShows (Some hand) (p.hands n) (p.accounts n) = subst (λ (h : Option Hand). HandShows h (p.hands n) (p.accounts n)) is (shown.hands n) in
      let answered : reply_to d e ≡ answer = ap (λ (r : DatabaseState × Answer). r.1) does.1 in
      let may : IsAtOnce p (statement_of hand) = now.may p shown.database shown.layout in (
        place_at_once p n (counts_of tx restates.later) j.entries,
        shown_then told old pages tx j n hand now.beside names hands is tells p shown restates
            (subst (ShowsDatabase old.pages.layout pages.pages tx) (sym (run ∙ ap (λ (r : DatabaseState × Answer). r.0) does.1)) does.2)
            (subst (IsLegal p.opening) (sym longer) (one_more_is_legal p.opening p.journal e shown.legal (now.legal d shown.database)))
            (λ stored q has opening journal. any_statuses_stand old.pages.layout pages.pages tx restates.later stored q restates.has has
            (now.fronts tells p q shown.database shown.fronts (record { opening = opening; journal = journal ∙ longer })))
            (λ m apart. ap (λ (s : DatabaseState). finite.get s.sessions m) run ∙ copies_stay d e m (λ same. apart (same ∙ (now.only p.layout).own))),
        record {
          hand = record { statement = statement_of hand; answers = [] };
          in_hand = in_hand n hand e answer reply p (now.only p.layout) answered may shows;
          steps = subst (λ (entries : List Entry). StepsTo p n (record { statement = statement_of hand; answers = [] }) (Ended reply) (place_at_once p n (counts_of tx restates.later) entries)) (sym longer)
              (is_step n hand e answer reply p (now.only p.layout) answered may shows (counts_of tx restates.later));
          fits = now.beside.left.entries;
        },
      )

  pub does_so : StepsSo told old (record old { pages = pages; transactions = tx; journal = j }) n hand (stepped.Done reply)
  does_so = made_so told old pages tx j n hand None now.beside.left (stepped.Done reply) refl makes_its_step (λ names hands is. tt) (now.beside.left.ready, now.beside.left.still)
