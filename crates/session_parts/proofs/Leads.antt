-- what requests and changes of transactions lead to
use Rattle.std.proofs.Common.{◌≡◌, ◌≢◌, ◌⊎◌, inl, inr, ℕ, ◌<◌, ◌==◌, eqb, Bool, true, false, not, ◌&&◌, ◌||◌, All, List, [], ◌∷◌, ◌++◌, set, Option, Some, refl, sym, ap, subst, ◌∙◌, append_assoc, arith}
use Rattle.std.specs.Prelude.{IsTrue}
use Rattle.std.specs.FinMap as finite
use Rattle.std.proofs.lemmas.Bool.{and_left, and_parts, eq-eqb, eqb-true, false≢true, or_parts}
use Rattle.std.proofs.lemmas.List.Elements.{All-cons, All-nil}
use Rattle.block_model.specs.declared.request.Entry.{Entry}
use Rattle.block_model.specs.DatabaseState.{DatabaseState}
use Rattle.block_model.specs.RequestEffect.{Answer, IsLegalRequest, after_request}
use Rattle.block_model.specs.RequestLaws.{others_stay}
use Rattle.block_model.specs.SerialRun.{IsLegal, serial_run}
use Rattle.snapshot_core.specs.declared.statuses.Status.{Status}
use Rattle.snapshot_core.specs.declared.statuses.Status.TheVariants as statuses
use Rattle.snapshot_core.specs.Visibility.{had_ended, has_done, in_snapshot, is_committed}
use Rattle.snapshot_core.specs.declared.sessions.Open.{Open}
use Rattle.snapshot_core.specs.StoredVersions.{transaction_of}
use Rattle.tx_table.specs.Statuses.{HasStatuses}
use Rattle.transactions.specs.CountedRows.{counts as counts_of}
use Rattle.transactions.specs.GivenStatuses.{given_status}
use Rattle.transactions.specs.ShowsDatabase.{ShowsDatabase}
use Rattle.transactions.specs.TransactionsState.{TransactionsState}
use Rattle.transactions.proofs.Shown.{one_list_shown, open_one}
use Rattle.coverage.specs.Accounts.{Account}
use Rattle.coverage.specs.Table.{TableState}
use Rattle.script_semantics.specs.Place.{Hand as HandAt, Place, database_at}
use Rattle.session_parts.specs.FrontLaws.{IsWithin}
use Rattle.session_parts.specs.HandsInTables.{sight_of}
use Rattle.session_parts.specs.Leaving.{FrontsThen, HasNoRows, LeadsTo}
use Rattle.session_parts.specs.LeadLaws.{BeginSeesAlike, EndSeesAlike, FailureCountsNoMore, FewerCountsFew, HasInHand, MarkLeavesSlots, MoreCountsFew, NextHasNoRows, NoRequestLeads, NothingLeavesSlots, PutLeavesSlots, RequestLeads, SameCountsFew, SameSeesAlike, ScanSawRows, TwoRequestsLead}
use Rattle.session_parts.specs.ShowsPlace.{IsOfTransaction}
use Rattle.session_parts.specs.StoreStates.{ShownStore}
use Rattle.session_parts.proofs.Fronts.{fronts_stay, fronts_within}
use Rattle.session_parts.proofs.Requests.{one_more_is_legal, one_more_is_run}
use Rattle.session_parts.proofs.Slots.{filled_slot, marked_slot, same_slots}
use Rattle.session_parts.proofs.Tables.{sees_same}

-- the journal leads to this database
leads_by : (old new : ShownStore) (p : Place) (n : ℕ) (at : Option HandAt) (account : Account) (d : DatabaseState) → serial_run p.opening new.entries ≡ d
    → ShowsDatabase old.layout new.pages new.transactions d → IsLegal p.opening new.entries → FrontsThen old new p → ((m : ℕ) → m ≢ n → finite.get d.sessions m ≡ finite.get (database_at p).sessions m)
    → HasInHand old new n at account d → LeadsTo old new p n at account
leads_by old new p n at account d run shows legal fronts copies has = record {
  database = subst (λ (x : DatabaseState). ShowsDatabase old.layout new.pages new.transactions x) (sym run) shows;
  legal = legal;
  fronts = fronts;
  copies = λ m apart. ap (λ (x : DatabaseState). finite.get x.sessions m) run ∙ copies m apart;
  hand = has.hand;
  own = λ hand is. subst (λ (x : DatabaseState). IsOfTransaction (transaction_of new.transactions.opens n) (finite.get x.sessions n) hand) (sym run) (has.own hand is);
  order = has.order;
}

one_entry : (e : Entry) → IsWithin e.request → All (λ (x : Entry). IsWithin x.request) (e ∷ [])
one_entry e within = All-cons (λ (x : Entry). IsWithin x.request) e [] within (All-nil (λ (x : Entry). IsWithin x.request))

pub request_leads : RequestLeads
request_leads old new p n at account e answer shown own legal enters does within stays has =
    let journal_is : new.entries ≡ p.journal ++ e ∷ [] = enters ∙ ap (λ (j : List Entry). j ++ e ∷ []) (sym shown.journal) in
    leads_by old new p n at account (after_request (database_at p) e)
    (ap (serial_run p.opening) journal_is ∙ one_more_is_run p.opening p.journal e)
    (subst (λ (x : DatabaseState). ShowsDatabase old.layout new.pages new.transactions x) (sym (ap (λ (r : DatabaseState × Answer). r.0) does.1)) does.2)
    (subst (IsLegal p.opening) (sym journal_is) (one_more_is_legal p.opening p.journal e shown.legal legal))
    (fronts_within old new p shown (e ∷ []) enters (one_entry e within) stays)
    (λ m apart. others_stay (database_at p) e m (λ is. apart (is ∙ own))) has

pub two_requests_lead : TwoRequestsLead
two_requests_lead old new p n at account e f shown own own_too legal legal_too enters shows within within_too stays has =
    let journal_is : new.entries ≡ (p.journal ++ e ∷ []) ++ f ∷ [] = enters ∙ ap (λ (j : List Entry). (j ++ e ∷ []) ++ f ∷ []) (sym shown.journal) in
    let first : serial_run p.opening (p.journal ++ e ∷ []) ≡ after_request (database_at p) e = one_more_is_run p.opening p.journal e in
    leads_by old new p n at account (after_request (after_request (database_at p) e) f)
    (ap (serial_run p.opening) journal_is ∙ one_more_is_run p.opening (p.journal ++ e ∷ []) f ∙ ap (λ (x : DatabaseState). after_request x f) first)
    shows
    (subst (IsLegal p.opening) (sym journal_is) (one_more_is_legal p.opening (p.journal ++ e ∷ []) f (one_more_is_legal p.opening p.journal e shown.legal legal)
    (subst (λ (x : DatabaseState). IsLegalRequest x f) (sym first) legal_too)))
    (fronts_within old new p shown (e ∷ f ∷ []) (enters ∙ append_assoc old.entries (e ∷ []) (f ∷ [])) (All-cons (λ (x : Entry). IsWithin x.request) e (f ∷ []) within (one_entry f within_too)) stays)
    (λ m apart. others_stay (after_request (database_at p) e) f m (λ is. apart (is ∙ own_too)) ∙ others_stay (database_at p) e m (λ is. apart (is ∙ own))) has

pub no_request_leads : NoRequestLeads
no_request_leads alike old new p n at account shown enters same statuses_stay heaps_stay has =
    let journal_is : new.entries ≡ p.journal = enters ∙ sym shown.journal in
    leads_by old new p n at account (database_at p) (ap (serial_run p.opening) journal_is)
    (subst (λ (t : TransactionsState). ShowsDatabase old.layout new.pages t (database_at p)) (sym same)
    (alike old.layout old.pages new.pages old.transactions (database_at p) statuses_stay heaps_stay shown.database))
    (subst (IsLegal p.opening) (sym journal_is) shown.legal) (fronts_stay old new same statuses_stay heaps_stay p shown enters) (λ m apart. refl) has

-- ---- what the others see

pub put_leaves_slots : PutLeavesSlots
put_leaves_slots unseen s d stored n o count spot row blocks shows own number fills = record {
  rows = (filled_slot count spot row blocks fills).rows;
  seen = λ m p away is. (filled_slot count spot row blocks fills).unseen (sight_of s.transactions.tx stored p)
      (unseen s.layout s.pages s.transactions d stored n m o p row shows own is away number);
  lacks = λ m p away is. (filled_slot count spot row blocks fills).lacks (sight_of s.transactions.tx stored p);
}

-- an open transaction has begun, and nothing else
under_way : (s : ShownStore) (d : DatabaseState) (stored : List Status) (n : ℕ) (o : Open) → ShowsDatabase s.layout s.pages s.transactions d → HasStatuses s.layout s.pages stored
    → transaction_of s.transactions.opens n ≡ Some o → given_status s.transactions.tx.first stored o.t ≡ statuses.Begun
under_way s d stored n o shows has own = ap (λ (l : List Status). given_status s.transactions.tx.first l o.t) (one_list_shown shows stored has) ∙ (open_one shows n o own).given

pub mark_leaves_slots : MarkLeavesSlots
mark_leaves_slots unseen s d stored n table o spot row blocks now shows has own below stands free there changes = record {
  rows = (marked_slot spot row o.t blocks now there changes).rows;
  seen = λ m p away is. (marked_slot spot row o.t blocks now there changes).alike (sight_of s.transactions.tx stored p)
      (unseen s.layout s.pages s.transactions d stored n m table o p spot row shows has own is away below stands free);
  lacks = λ m p away is. (marked_slot spot row o.t blocks now there changes).lacks (sight_of s.transactions.tx stored p)
      (and_left (is_committed (given_status s.transactions.tx.first stored o.t)) (had_ended p.snapshot o.t) (ap is_committed (under_way s d stored n o shows has own)));
}

pub nothing_leaves_slots : NothingLeavesSlots
nothing_leaves_slots s stored n blocks = record {
  rows = (same_slots blocks).rows;
  seen = λ m o away is. (same_slots blocks).seen (sight_of s.transactions.tx stored o);
  lacks = λ m o away is. (same_slots blocks).lacks (sight_of s.transactions.tx stored o);
}

pub begin_sees_alike : BeginSeesAlike
begin_sees_alike unseen old new d stored n shows has room first m o away is = record {
  snapshot = refl;
  own = refl;
  ended = λ t ended. ap (λ (f : ℕ). is_committed (given_status f (set stored old.transactions.tx.next statuses.Begun) t)) first
      ∙ unseen old.layout old.pages old.transactions d stored t shows has room;
}

pub end_sees_alike : EndSeesAlike
end_sees_alike unseen old new d stored n o end shows own first m q away is = record {
  snapshot = refl;
  own = refl;
  ended = λ t ended. ap (λ (f : ℕ). is_committed (given_status f (set stored o.t end) t)) first
      ∙ unseen old.layout old.pages old.transactions d stored n m t o q end shows own is away ended;
}

pub same_sees_alike : SameSeesAlike
same_sees_alike old new stored n first m o away is = sees_same old new stored o first

-- ---- what a scan sees

false_from_not : (b : Bool) → not b ≡ true → b ≡ false
false_from_not true is = absurd (false≢true is)
false_from_not false is = refl

pub scan_saw_rows : ScanSawRows
scan_saw_rows tx stored o sees blocks now x row there seen =
    let status : ℕ → Status = given_status tx.first stored in
    let put : Bool = has_done o.snapshot o.t row.id.t (status row.id.t) in
    let gone : Bool = has_done o.snapshot o.t row.deleter (status row.deleter) in
    let parts = and_parts put (not gone) (sym (now x.block x.slot row there) ∙ seen) in
    record { put = parts.0; undeleted = (or_parts (eqb row.deleter o.t) (in_snapshot o.snapshot row.deleter (status row.deleter)) (false_from_not gone parts.1)).1 }

-- ---- which rows count

and_first : (a b : Bool) → IsTrue (a && b) → IsTrue a
and_first true b h = refl
and_first false b h = h

or_either : (a b : Bool) → IsTrue (a || b) → IsTrue a ⊎ IsTrue b
or_either true b h = inl refl
or_either false b h = inr h

and_none : (a : Bool) → (a && false) ≡ false
and_none true = refl
and_none false = refl

pub same_counts_few : SameCountsFew
same_counts_few old new stored later same t counted = inl (subst IsTrue (same t) counted)

pub fewer_counts_few : FewerCountsFew
fewer_counts_few old new stored later u fewer t counted = inl (and_first (counts_of old.transactions stored t) (not (t == u)) (subst IsTrue (fewer t) counted))

pub more_counts_few : MoreCountsFew
more_counts_few old new stored later u none more t counted = elim (or_either (counts_of old.transactions stored t) (t == u) (subst IsTrue (more t) counted)) [
  | inl was ↦ inl was
  | inr is ↦ inr (subst (HasNoRows old) (sym (eqb-true t u is)) none)
]

pub next_has_no_rows : NextHasNoRows
next_has_no_rows known s d stored shows has table spot row below stands is =
    let put : row.id.t < s.transactions.tx.next = (known s.layout s.pages s.transactions d stored table spot row shows has below stands).put in
    absurd (omega (arith, put, is))

pub failure_counts_no_more : FailureCountsNoMore
failure_counts_no_more old new stored table u w shows fewer = record {
  failed = fewer u ∙ ap (λ (b : Bool). counts_of old.transactions stored u && not b) (eq-eqb u u refl) ∙ and_none (counts_of old.transactions stored u);
  fewer = λ t counted. subst IsTrue (sym (ap (λ (x : TableState). x.counts t) shows.shown ∙ shows.counts t))
      (and_first (counts_of old.transactions stored t) (not (t == u)) (subst IsTrue (fewer t) counted));
}
