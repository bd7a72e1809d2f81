-- an insert that is refused, as a step of the place that the store shows
use Rattle.std.proofs.Common.{◌≡◌, ◌≢◌, ℕ, ◌+◌, ◌<◌, ◌≤◌, Bool, true, false, not, List, [], ◌∷◌, ◌++◌, length, Option, None, Some, refl, sym, ap, subst, ◌∙◌, arith, length-append}
use Rattle.std.specs.Prelude.{◌&&◌, ◌==◌}
use Rattle.std.specs.FinMap as finite
use Rattle.std.proofs.lemmas.Bool.{and_parts, eq-eqb}
use Rattle.std.proofs.lemmas.Option.{none-some}
use Rattle.block_model.specs.declared.place.Place.{Place as PagePlace}
use Rattle.block_model.specs.declared.reply.Refusal.{Refusal}
use Rattle.block_model.specs.declared.reply.Reply.TheVariants as replies
use Rattle.block_model.specs.declared.request.Entry.{Entry}
use Rattle.block_model.specs.declared.request.Request.TheVariants as requests
use Rattle.block_model.specs.declared.request.Tag.{Tag}
use Rattle.block_model.specs.declared.request.Tag.TheVariants as tags
use Rattle.block_model.specs.declared.value.Value.{Value}
use Rattle.block_model.specs.DatabaseState.{DatabaseState, OpenTransaction}
use Rattle.block_model.specs.RequestEffect.{Answer, after_failure, effect}
use Rattle.page_map.specs.PageMap.{page_at}
use Rattle.page_locks.specs.LockChanges.{GivesAll}
use Rattle.page_locks.specs.LockHolders.{holder}
use Rattle.page_locks.specs.RightHolders.{right_of}
use Rattle.recovery.specs.PageOrder.{IsIndexInOrder}
use Rattle.heap_rows.specs.Heaps.{relation_of as heap_of}
use Rattle.snapshot_core.specs.declared.statuses.Status.{Status}
use Rattle.snapshot_core.specs.declared.sessions.Open.{Open}
use Rattle.snapshot_core.specs.StoredVersions.{transaction_of}
use Rattle.store_layout.specs.declared.limits.TheConstants.{MAX_ENTRIES}
use Rattle.store_layout.specs.StatementRequests.{tagged_entry}
use Rattle.tx_table.specs.Statuses.{status_relation}
use Rattle.transactions.specs.CountedRows.{counts as counts_of}
use Rattle.transactions.specs.Laws.{FailsOnly}
use Rattle.transactions.specs.ShowsDatabase.{DoesRequest, ShowsDatabase}
use Rattle.transactions.specs.TransactionsState.{TransactionsState, with_failed}
use Rattle.index_contents.specs.IndexContents.{index_page, relation_of as index_relation}
use Rattle.coverage.specs.Accounts.{Account}
use Rattle.coverage.specs.Refusals as causes
use Rattle.coverage.specs.Table.{TableState}
use Rattle.script_semantics.specs.Place.{Hand as HandAt, Place, database_at}
use Rattle.script_semantics.specs.Requests.{refused_request}
use Rattle.script_semantics.specs.StatementSteps.{Ended, LacksRoom, RefusesSo, Steps, StepsTo}
use Rattle.session_parts.specs.declared.hand.Hand.{Hand}
use Rattle.session_parts.specs.Hands.{HandShows}
use Rattle.session_parts.specs.HandsAsk.{IsNoInsert}
use Rattle.session_parts.specs.HandsInTables.{table_in}
use Rattle.session_parts.specs.Leaving.{GivesLocks, LeavesOthers, StepsInTable}
use Rattle.session_parts.specs.PlacesAfter.{TurnsIn, place_after, refusal_in}
use Rattle.session_parts.specs.RefusalLaws.{CountsNoMore, refused_in}
use Rattle.session_parts.specs.ShowsPlace.{IsPlaceOf, ShowsTable}
use Rattle.session_parts.specs.StepLaws.{TurnIsRefused}
use Rattle.session_parts.specs.StoreStates.{ShownStore, hand_in}
use Rattle.session_parts.specs.TableLaws.{IsQuiet}
use Rattle.session_inserts.specs.TakenLaws.{RefusalLaws}

-- what a refusal left of the store: the session's locks are given, its transaction has failed, and its put is entered with the tag
pub record Refuses (old new : ShownStore) (n table : ℕ) (values : List Value) (tag : Tag) (o : Open) : Type 0 where
  pub others : LeavesOthers n old new
  pub pages : (place : PagePlace) → page_at new.pages place ≡ page_at old.pages place
  pub given : GivesAll (holder old.locks) (holder new.locks) n
  pub rights : new.rights ≡ old.rights
  pub open_is : transaction_of old.transactions.opens n ≡ Some o
  pub whole : o.failed ≡ false
  pub failed : new.transactions ≡ with_failed old.transactions n o
  pub entries : new.entries ≡ old.entries ++ tagged_entry n table (requests.Put values) tag ∷ []
  pub room : length old.entries + 1 ≤ MAX_ENTRIES
  pub queue : new.queue ≡ old.queue
  pub dropped : new.dropped ≡ old.dropped
  pub now : hand_in new.hands n ≡ None
  pub below : table < length old.layout.schema.tables
  pub was_in : (other : ℕ) → table_in old.layout (hand_in old.hands n) ≡ Some other → other ≡ table

-- with one of these tags a put fails its transaction
abbrev pub IsFailing : Tag → Type 0
IsFailing tags.Ok = ⊥
IsFailing tag = Unit {0}

fails_so : (s : DatabaseState) (n table : ℕ) (x : OpenTransaction) (values : List Value) (tag : Tag) → IsFailing tag → FailsOnly s n table x
    → (answer : Answer) × (effect s (tagged_entry n table (requests.Put values) tag) ≡ (after_failure s n x, answer))
fails_so s n table x values tags.Ok failing only = absurd failing
fails_so s n table x values tags.Full failing only = (_, only.full values)
fails_so s n table x values tags.NoMemory failing only = (_, only.short values)

same_order : (old new : ShownStore) → ((place : PagePlace) → page_at new.pages place ≡ page_at old.pages place) → (index : ℕ)
    → IsIndexInOrder old.layout.sizes.index_blocks (index_page old.layout old.pages index) → IsIndexInOrder old.layout.sizes.index_blocks (index_page old.layout new.pages index)
same_order old new pages index ordered =
    let same : (block : ℕ) → index_page old.layout old.pages index block ≡ index_page old.layout new.pages index block = λ block. sym (pages (record { relation = index_relation old.layout index; block = block })) in
    let one : index_page old.layout old.pages index ≡ index_page old.layout new.pages index = λ j. λ block. same block j in
    subst (IsIndexInOrder old.layout.sizes.index_blocks) one ordered

module _ (laws : RefusalLaws) (old new : ShownStore) (n table : ℕ) (values : List Value) (tag : Tag) (o : Open) (r : Refuses old new n table values tag o) (failing : IsFailing tag) (p : Place) (shown : IsPlaceOf old p) where
  abbrev e : Entry
  e = tagged_entry n table (requests.Put values) tag

  abbrev stored : List Status
  stored = shown.database.stored

  abbrev counts : ℕ → Bool
  counts = counts_of new.transactions stored

  abbrev shows : ShowsTable old stored table (p.tables table)
  shows = shown.tables table r.below

  abbrev Copy : Type 0
  Copy = (x : OpenTransaction) × (finite.get (database_at p).sessions n ≡ Some x) × (x.failed ≡ false)

  copy : Copy
  copy =
      let it = (laws.sessions old.layout old.pages old.transactions (database_at p) shown.database).shown n o r.open_is in
      (it.0, it.1, it.2.failed ∙ r.whole)

  -- the rows of the transaction don't count any more
  not_counted : (t : ℕ) → counts t ≡ (counts_of old.transactions stored t && not (t == o.t))
  not_counted t =
      ap (λ (s : TransactionsState). counts_of s stored t) r.failed
      ∙ laws.counts old.layout old.pages old.transactions (database_at p) stored n t o shown.database shown.database.has r.open_is

  pub no_more : CountsNoMore (p.tables table) counts o.t
  no_more = laws.no_more old new stored table o.t (p.tables table) shows not_counted

  does : DoesRequest old.layout new.pages new.transactions (database_at p) e (fails_so (database_at p) n table copy.0 values tag failing (laws.is_failure (database_at p) n table copy.0 copy.1)).0
  does = (
    after_failure (database_at p) n copy.0,
    (fails_so (database_at p) n table copy.0 values tag failing (laws.is_failure (database_at p) n table copy.0 copy.1)).1,
    laws.alike old.layout old.pages new.pages new.transactions (after_failure (database_at p) n copy.0)
        (λ block. r.pages (record { relation = status_relation; block = block })) (λ other block below. r.pages (record { relation = heap_of other; block = block }))
        (subst (λ (s : TransactionsState). ShowsDatabase old.layout old.pages s (after_failure (database_at p) n copy.0)) (sym r.failed)
        (laws.failure old.layout old.pages old.transactions (database_at p) n o copy.0 shown.database r.open_is copy.1)),
  )

  steps_in : StepsInTable n table old new
  steps_in = record {
    below = r.below;
    pages = λ place other. r.pages place;
    locks = GivesLocks r.given;
    rights = λ other apart. ap (λ (rights : List (Option ℕ)). right_of rights other) r.rights;
    was_in = r.was_in;
    is_in = λ other is. absurd (none-some other (ap (table_in old.layout) (sym r.now) ∙ is));
  }

  in_none : table_in old.layout (hand_in new.hands n) ≢ Some table
  in_none is = none-some table (ap (table_in old.layout) (sym r.now) ∙ is)

  journal_is : new.entries ≡ p.journal ++ e ∷ []
  journal_is = r.entries ∙ ap (λ (l : List Entry). l ++ e ∷ []) (sym shown.journal)

  -- the refusal of a statement whose turn it is
  module _ (h : HandAt) (in_hand : p.hands n ≡ Some h) (makes : refused_request n tag h.statement ≡ e ∷ []) (account : Account) (nothing : account.dropped ≡ (p.accounts n).dropped) (why : causes.Refusal) (told : Refusal)
      (turns : TurnsIn p n h.statement table (refused_in n counts (p.tables table)) account) (because : refusal_in turns ≡ Some why) (so : RefusesSo p table h.statement why tag told) (quiet : IsQuiet ((p.tables table).task n)) where
    abbrev q : Place
    q = place_after p n table None (refused_in n counts (p.tables table)) account counts new.entries

    steps : StepsTo p n h (Ended (replies.Refused told)) q
    steps = subst (λ (l : List Entry). StepsTo p n h (Ended (replies.Refused told)) (place_after p n table None (refused_in n counts (p.tables table)) account counts l))
        (ap (λ (l : List Entry). p.journal ++ l) makes ∙ sym journal_is)
        (laws.refused p n table h (refused_in n counts (p.tables table)) account counts why tag told turns because so)

    fits : length new.entries ≤ MAX_ENTRIES
    fits = let many : length new.entries ≡ length (old.entries ++ e ∷ []) = ap (λ (l : List Entry). length l) r.entries in omega (arith, many, length-append old.entries (e ∷ []), r.room)

    pub is_refused : (q : Place) × IsPlaceOf new q × Steps p n (Ended (replies.Refused told)) q
    is_refused = (
      q,
      laws.shown old new p n table None (refused_in n counts (p.tables table)) account shown r.others steps_in
          (laws.fewer old new stored stored o.t not_counted)
          (laws.leads old new p n None account e (fails_so (database_at p) n table copy.0 values tag failing (laws.is_failure (database_at p) n table copy.0 copy.1)).0 shown refl
          (laws.legal (database_at p) n table copy.0 values tag copy.1 copy.2) r.entries does tt
          (laws.within old new n o r.open_is r.failed r.pages)
          (record {
            hand = subst (λ (o : Option Hand). HandShows o None account) (sym r.now) refl;
            own = λ hand is. absurd (none-some hand (sym r.now ∙ is));
            order = λ index below. same_order old new r.pages index;
          }))
          (laws.table_shown old new stored n table (p.tables table) shows r.others r.pages r.given r.rights quiet in_none turns.step)
          (record { queue = r.queue; dropped = r.dropped; told = nothing; hand = subst IsNoInsert (sym r.now) tt }),
      record { hand = h; in_hand = in_hand; steps = steps; fits = fits },
    )

-- where the journal has no room for that put, the same refusal would pass it
module _ (law : TurnIsRefused) (p : Place) (n table : ℕ) (values : List Value) (tag : Tag) (h : HandAt) (in_hand : p.hands n ≡ Some h)
    (makes : refused_request n tag h.statement ≡ tagged_entry n table (requests.Put values) tag ∷ []) (account : Account) (counts : ℕ → Bool) (why : causes.Refusal) (told : Refusal) (v : TableState)
    (turns : TurnsIn p n h.statement table v account) (because : refusal_in turns ≡ Some why) (so : RefusesSo p table h.statement why tag told) (full : MAX_ENTRIES ≤ length p.journal) where
  past : MAX_ENTRIES < length (p.journal ++ refused_request n tag h.statement)
  past =
      let many : length (p.journal ++ refused_request n tag h.statement) ≡ length (p.journal ++ tagged_entry n table (requests.Put values) tag ∷ []) = ap (λ (l : List Entry). length (p.journal ++ l)) makes in
      omega (arith, many, length-append p.journal (tagged_entry n table (requests.Put values) tag ∷ []), full)

  pub refusal_lacks_room : LacksRoom p n
  refusal_lacks_room = record {
    hand = h;
    in_hand = in_hand;
    outcome = Ended (replies.Refused told);
    further = place_after p n table None v account counts (p.journal ++ refused_request n tag h.statement);
    steps = law p n table h v account counts why tag told turns because so;
    past = past;
  }

-- the rows that count when one transaction's don't any more
pub record IsFewer (w : TableState) (t : ℕ) : Type 0 where
  pub counts : ℕ → Bool
  pub no_more : CountsNoMore w counts t

pub without : (w : TableState) (t : ℕ) → IsFewer w t
without w t = record {
  counts = λ u. w.counts u && not (u == t);
  no_more = record { failed = none_of (w.counts t); fewer = λ u is. (and_parts (w.counts u) (not (u == t)) is).0 };
}
  where
    none_of : (b : Bool) → (b && not (t == t)) ≡ false
    none_of true = ap not (eq-eqb t t refl)
    none_of false = refl
