-- the fronts of a store behind a step that begins and ends no transaction
use Rattle.std.proofs.Common.{◌≡◌, ℕ, ◌<◌, ◌/◌, ◌%◌, All, List, [], ◌++◌, length, sym, ap, subst, ◌∙◌, refl, arith}
use Rattle.std.proofs.lemmas.List.{append-nil}
use Rattle.std.proofs.lemmas.List.Elements.{All-nil}
use Rattle.block_model.specs.declared.request.Entry.{Entry}
use Rattle.store_layout.specs.DiskLayout.{DiskLayout}
use Rattle.page_layout.specs.declared.format.TheConstants.{STATUS_ENTRIES}
use Rattle.page_map.specs.PageMap.{PageMap, block_at}
use Rattle.heap_rows.specs.Heaps.{relation_of as heap_of}
use Rattle.snapshot_core.specs.declared.statuses.Status.{Status}
use Rattle.tx_table.specs.Statuses.{HasEntry, HasStatuses, status_of, status_relation}
use Rattle.transactions.specs.StoredRows.{OtherRelationsStay}
use Rattle.transactions.specs.TransactionsState.{TransactionsState}
use Rattle.script_semantics.specs.Place.{Place}
use Rattle.session_parts.specs.FrontLaws.{IsWithin, OpensStay}
use Rattle.session_parts.proofs.Following.{mark_follows, put_follows, same_heaps_follow}
use Rattle.session_parts.proofs.Within.{any_statuses_stand, own_steps_keep_opens, step_within_stands}
use Rattle.session_parts.specs.LeadLaws.{FailureStaysWithin, LookStaysWithin, MarkStaysWithin, PutStaysWithin}
use Rattle.session_parts.specs.Leaving.{FrontsThen, StaysWithin}
use Rattle.session_parts.specs.ShowsPlace.{IsPlaceOf}
use Rattle.session_parts.specs.StoreStates.{ShownStore}

-- pages of statuses that stay have the same statuses
pub statuses_stay : (layout : DiskLayout) (pages paged : PageMap) (stored : List Status) → ((block : ℕ) → block_at paged status_relation block ≡ block_at pages status_relation block)
    → HasStatuses layout pages stored → HasStatuses layout paged stored
statuses_stay layout pages paged stored same has = record {
  counted = has.counted;
  each = λ t below. subst (λ (page : List ℕ). HasEntry page (t % STATUS_ENTRIES) (status_of stored t)) (sym (same (t / STATUS_ENTRIES))) (has.each t below);
}

-- ---- a step whose requests are puts, looks and marks

module _ (old new : ShownStore) (p : Place) (shown : IsPlaceOf old p) (more : List Entry) (entries : new.entries ≡ old.entries ++ more) (within : All (λ (e : Entry). IsWithin e.request) more) (stays : StaysWithin old new) where
  abbrev stored : List Status
  stored = shown.database.stored

  pub fronts_within : FrontsThen old new p
  fronts_within later q has opening journal =
      any_statuses_stand old.layout new.pages new.transactions stored later q (statuses_stay old.layout old.pages new.pages stored stays.statuses shown.database.has) has
      (step_within_stands old.layout old.pages new.pages old.transactions new.transactions stored p q more shown.database shown.fronts
      (record { opening = opening; journal = journal ∙ entries ∙ ap (λ (l : List Entry). l ++ more) (sym shown.journal) }) within stays.first stays.opens stays.rows)

-- ---- which steps these are

keeps_opens : (t now : TransactionsState) → now ≡ t → OpensStay t now
keeps_opens t now same = subst (OpensStay t) (sym same) (λ n o is. (o, is, refl, refl))

-- one that enters nothing, where the pages of statuses and of heaps stay, and so do the transactions
module _ (old new : ShownStore) (transactions : new.transactions ≡ old.transactions) (statuses : (block : ℕ) → block_at new.pages status_relation block ≡ block_at old.pages status_relation block)
    (heaps : (table block : ℕ) → table < length old.layout.schema.tables → block_at new.pages (heap_of table) block ≡ block_at old.pages (heap_of table) block) where
  nothing_within : StaysWithin old new
  nothing_within = record {
    statuses = statuses;
    first = ap (λ (t : TransactionsState). t.tx.first) transactions;
    opens = keeps_opens old.transactions new.transactions transactions;
    rows = same_heaps_follow old.layout old.pages new.pages old.transactions heaps;
  }

  pub fronts_stay : (p : Place) → IsPlaceOf old p → new.entries ≡ old.entries → FrontsThen old new p
  fronts_stay p shown entries = fronts_within old new p shown [] (entries ∙ sym (append-nil old.entries)) (All-nil (λ (e : Entry). IsWithin e.request)) nothing_within

-- and where no page changes
pub fronts_same : (old new : ShownStore) (p : Place) → IsPlaceOf old p → new.entries ≡ old.entries → new.transactions ≡ old.transactions → new.pages ≡ old.pages → FrontsThen old new p
fronts_same old new p shown entries transactions pages =
    fronts_stay old new transactions (λ block. ap (λ (m : PageMap). block_at m status_relation block) pages) (λ table block below. ap (λ (m : PageMap). block_at m (heap_of table) block) pages) p shown entries

-- a heap is no page of statuses
other_statuses : (old new : PageMap) (table block : ℕ) → OtherRelationsStay old new table → block_at new status_relation block ≡ block_at old status_relation block
other_statuses old new table block others = others (record { relation = status_relation; block = block }) (λ (same : status_relation ≡ heap_of table). absurd (omega (arith, same)))

pub put_stays_within : PutStaysWithin
put_stays_within old new n table o spot row own counted puts fresh = record {
  statuses = λ block. other_statuses old.pages new.pages table block puts.others;
  first = ap (λ (t : TransactionsState). t.tx.first) counted;
  opens = subst (OpensStay old.transactions) (sym counted) (own_steps_keep_opens old.transactions n o own).counted;
  rows = put_follows old.layout old.pages new.pages old.transactions table spot row puts fresh;
}

pub mark_stays_within : MarkStaysWithin
mark_stays_within old new n table o spot row own same marks = record {
  statuses = λ block. other_statuses old.pages new.pages table block marks.others;
  first = ap (λ (t : TransactionsState). t.tx.first) same;
  opens = keeps_opens old.transactions new.transactions same;
  rows = mark_follows old.layout old.pages new.pages old.transactions table spot row o.t marks (n, o, own, refl);
}

pub look_stays_within : LookStaysWithin
look_stays_within old new same pages =
    nothing_within old new same (λ block. pages (record { relation = status_relation; block = block })) (λ table block below. pages (record { relation = heap_of table; block = block }))

pub failure_stays_within : FailureStaysWithin
failure_stays_within old new n o own failed pages = record {
  statuses = λ block. pages (record { relation = status_relation; block = block });
  first = ap (λ (t : TransactionsState). t.tx.first) failed;
  opens = subst (OpensStay old.transactions) (sym failed) (own_steps_keep_opens old.transactions n o own).failed;
  rows = same_heaps_follow old.layout old.pages new.pages old.transactions (λ table block below. pages (record { relation = heap_of table; block = block }));
}
