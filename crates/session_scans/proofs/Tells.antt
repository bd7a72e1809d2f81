-- the last step of a scan behind which its statement replies: its look is entered
use Rattle.std.proofs.Common.{◌≡◌, ◌⊎◌, inl, inr, ℕ, ◌≤◌, Bool, false, List, [], ◌∷◌, ◌++◌, length, Option, None, Some, All, refl, sym, ap, subst, ◌∙◌}
use Rattle.std.proofs.lemmas.Option.{none-some}
use Rattle.block_model.specs.declared.place.Spot.{Spot}
use Rattle.block_model.specs.declared.reply.Point.{Point}
use Rattle.block_model.specs.declared.reply.Reply.{Reply}
use Rattle.block_model.specs.declared.request.Entry.{Entry}
use Rattle.block_model.specs.declared.request.Tag.TheVariants as tags
use Rattle.block_model.specs.declared.row.Query.{Query}
use Rattle.block_model.specs.declared.row.Row.{Row}
use Rattle.block_model.specs.DatabaseState.{DatabaseState}
use Rattle.block_model.specs.RequestEffect.{Answer, Found, IsLegalRequest, after_request, effect, rows_found}
use Rattle.store_layout.specs.DiskLayout.{DiskLayout}
use Rattle.page_layout.specs.PageContents.{Slot}
use Rattle.page_map.specs.PageMap.{PageMap, page_at}
use Rattle.page_locks.specs.declared.did.Did.TheVariants as did
use Rattle.snapshot_core.specs.declared.statuses.Status.{Status}
use Rattle.store_layout.specs.declared.limits.TheConstants.{MAX_ENTRIES}
use Rattle.store_layout.specs.StatementRequests.{deleted_reply, look_entry, select_reply}
use Rattle.snapshot_core.specs.declared.sessions.Open.{Open}
use Rattle.snapshot_core.specs.StoredVersions.{transaction_of}
use Rattle.transactions.specs.CountedRows.{counts as counts_of}
use Rattle.transactions.specs.ShowsDatabase.{ShowsDatabase}
use Rattle.transactions.specs.TransactionsState.{TransactionsState}
use Rattle.coverage.specs.Accounts.{Account, no_account}
use Rattle.coverage.specs.Machines.{table_state, task_turned}
use Rattle.coverage.specs.Table.{Resting, TableState, Task}
use Rattle.coverage.specs.TableSteps.{Scanned}
use Rattle.coverage.proofs.Views.{pick_same}
use Rattle.bitmap_scan.specs.Finds as scans
use Rattle.bitmap_scan.specs.Finds.{FindHand, is_found}
use Rattle.bitmap_scan.specs.ScanSteps.{account_at, point_at}
use Rattle.script_semantics.specs.Place.{Hand as HandAt, Place, database_at, new_hand}
use Rattle.script_semantics.specs.Requests.{Course, Enters, MakesAll, NoneLeft, OneMore, entered, next_request}
use Rattle.script_semantics.specs.StatementSteps.{Ended, Steps, StepsTo, course_of, reply_after}
use Rattle.session_parts.specs.HandsAsk.{IsNoInsert}
use Rattle.session_parts.specs.declared.hand.Hand.{Hand}
use Rattle.session_parts.specs.Hands.{HandShows}
use Rattle.session_parts.specs.HandsInTables.{IsTaskOf, table_in}
use Rattle.session_parts.specs.LeadLaws.{HasInHand}
use Rattle.session_parts.specs.Leaving.{LeadsTo}
use Rattle.session_parts.specs.PlacesAfter.{place_after}
use Rattle.session_parts.specs.ShowsPlace.{IsPlaceOf}
use Rattle.session_parts.specs.StoreStates.{ShownStore, hand_in}
use Rattle.session_parts.proofs.Fronts.{look_stays_within}
use Rattle.session_parts.proofs.Leads.{request_leads}
use Rattle.session_parts.proofs.Requests.{look_is_legal}
use Rattle.session_parts.proofs.Steps.{turn_replies}
use Rattle.session_scans.specs.declared.looking.Looking.{Looking}
use Rattle.session_scans.specs.declared.looking.Looking.TheVariants as lookings
use Rattle.session_scans.specs.Finishes.{IsReplyOf}
use Rattle.session_scans.specs.FoundLists.{ListsRows}
use Rattle.session_scans.specs.LookLaws.{LookLaws}
use Rattle.session_scans.specs.Looks.{deletes_of, statement_for}
use Rattle.session_scans.proofs.Found.{goes, now, read, rows_are, scan_then}
use Rattle.session_scans.proofs.Stepped.{MakesStep}
use Rattle.session_scans.proofs.Led.{IsInHand, ScanLeft, order_stays, place_shown}
use Rattle.session_scans.proofs.Standing.{LooksThere, account_is, in_hand, pages_show, shows}
use Rattle.session_scans.proofs.Stands.{IsThere}
use Rattle.session_scans.proofs.Turns.{copy, reads, tells_nothing, turns_there}
use Rattle.session_scans.proofs.Words.{looks}

-- nothing is left to ask
none_left : (looking : Looking) (query : Query) (n : ℕ) (found : List (Row × Spot)) (rows : List Row) (reply : Reply) (answers : List Answer) → answers ≡ Found rows ∷ [] → IsReplyOf looking found rows reply
    → next_request n (statement_for looking query) answers ≡ None
none_left lookings.Select query n found rows reply answers is replied = ap (next_request n (statement_for lookings.Select query)) is
none_left lookings.Delete query n found rows reply answers is replied = ap (next_request n (statement_for lookings.Delete query)) (is ∙ ap (λ (l : List Row). Found l ∷ []) replied.1)

-- and that is the reply
said : (looking : Looking) (query : Query) (layout : DiskLayout) (table : ℕ) (task : Task) (account : Account) (found : List (Row × Spot)) (rows : List Row) (reply : Reply) (answers : List Answer)
    → answers ≡ Found rows ∷ [] → IsReplyOf looking found rows reply → Some reply ≡ reply_after layout table task account answers (statement_for looking query)
said lookings.Select query layout table task account found rows reply answers is replied = ap Some replied ∙ sym (ap select_reply is)
said lookings.Delete query layout table task account found rows reply answers is replied = ap Some replied.2 ∙ sym (ap deleted_reply (is ∙ ap (λ (l : List Row). Found l ∷ []) replied.1))

-- one that replies has nothing to mark
nothing_to_mark : (looking : Looking) (found : List (Row × Spot)) (rows : List Row) (reply : Reply) → IsReplyOf looking found rows reply → (deletes_of looking ≡ false) ⊎ ((b k : ℕ) → is_found found b k ≡ false)
nothing_to_mark lookings.Select found rows reply replied = inl refl
nothing_to_mark lookings.Delete found rows reply replied = inr (λ b k. ap (λ (l : List (Row × Spot)). is_found l b k) replied.0)

-- nothing is in hand then
pub none_in_hand : (old new : ShownStore) (n table : ℕ) (blocks : List (List Slot)) (stored : List Status) → hand_in new.hands n ≡ None
    → IsInHand old new n table blocks stored Resting
none_in_hand old new n table blocks stored is = record {
  is_in = λ other there. absurd (none-some other (sym (ap (table_in old.layout) is) ∙ there));
  asks = subst IsNoInsert (sym is) tt;
  task = subst (λ (h : Option Hand). IsTaskOf old.layout table blocks new.transactions.tx stored (transaction_of new.transactions.opens n) h Resting) (sym is) refl;
}

pub none_then : (old new : ShownStore) (n : ℕ) (account : Account) (d : DatabaseState) → new.pages ≡ old.pages → hand_in new.hands n ≡ None → HasInHand old new n None account d
none_then old new n account d pages is = record {
  hand = subst (λ (h : Option Hand). HandShows h None account) (sym is) refl;
  own = λ h here. absurd (none-some h (sym is ∙ here));
  order = λ index below ordered. order_stays old new pages index ordered;
}

module _ (laws : LookLaws) (old new : ShownStore) (n : ℕ) (looking : Looking) (before after : FindHand) (o : Open) (there : LooksThere old n looking before o) (p : Place) (shown : IsPlaceOf old p)
    (left : ScanLeft old new n old.transactions) (few : length new.entries ≤ MAX_ENTRIES) (looked : new.entries ≡ old.entries ++ look_entry n before.judging.query ∷ []) (is : hand_in new.hands n ≡ None)
    (same : after.judging.query ≡ before.judging.query) (point : Point) (named : point ≡ point_at before.judging.stage) (steps : MakesStep laws old n looking before after o there p shown (did.Finished point))
    (stand : All (IsThere before.judging.query.table (shows laws old n looking before o there p shown).blocks) after.found) (ascend : scans.Ascend 0 0 after.found)
    (reply : Reply) (rows : List Row) (lists : ListsRows after.found rows) (replied : IsReplyOf looking after.found rows reply) where
  abbrev query : Query
  query = before.judging.query

  abbrev number : ℕ
  number = query.table

  abbrev hand : HandAt
  hand = new_hand (statement_for looking query)

  abbrev account : Account
  account = account_at before.judging.stage (p.accounts n)

  abbrev e : Entry
  e = look_entry n query

  abbrev d : DatabaseState
  d = database_at p

  empty : account ≡ no_account
  empty = tells_nothing before.judging.stage (p.accounts n) (account_is laws old n looking before o there p shown)

  its_rows : rows ≡ rows_found (copy laws old n looking before o there p shown).0 query
  its_rows = rows_are laws old n looking before after o there p shown same point steps stand ascend rows lists

  does : effect d e ≡ (d, Found (rows_found (copy laws old n looking before o there p shown).0 query))
  does = laws.look d n (copy laws old n looking before o there p shown).0 query (copy laws old n looking before o there p shown).1

  legal : IsLegalRequest d e
  legal = look_is_legal d n number (copy laws old n looking before o there p shown).0 query tags.Ok (copy laws old n looking before o there p shown).1 ((copy laws old n looking before o there p shown).2.failed ∙ there.whole) refl

  shows_then : ShowsDatabase old.layout new.pages new.transactions d
  shows_then = subst (λ (m : PageMap). ShowsDatabase old.layout m new.transactions d) (sym left.pages)
      (subst (λ (t : TransactionsState). ShowsDatabase old.layout old.pages t d) (sym left.transactions) shown.database)

  leads : LeadsTo old new p n None account
  leads = request_leads old new p n None account e (Found (rows_found (copy laws old n looking before o there p shown).0 query)) shown refl legal looked (d, does, shows_then) tt
      (look_stays_within old new left.transactions (λ place. ap (λ (m : PageMap). page_at m place) left.pages)) (none_then old new n account (after_request d e) left.pages is)

  abbrev course : Course
  course = entered p.opening (course_of p hand) e

  answers_are : course.answers ≡ Found rows ∷ []
  answers_are = ap (λ (r : DatabaseState × Answer). r.1 ∷ []) does ∙ ap (λ (l : List Row). Found l ∷ []) (sym its_rows)

  makes : MakesAll p.opening n (statement_for looking query) (course_of p hand) course
  makes = OneMore (course_of p hand) course course (Enters e ((looks looking query).next_is n)) (NoneLeft course (none_left looking query n after.found rows reply course.answers answers_are replied))

  entries_are : course.journal ≡ new.entries
  entries_are = ap (λ (j : List Entry). j ++ e ∷ []) shown.journal ∙ sym looked

  pub scan_tells : (q : Place) × IsPlaceOf new q × Steps p n (Ended reply) q
  scan_tells =
      let its_now = now laws old n looking before after o there p shown same point steps in
      let its_goes = goes laws old n looking before after o there p shown same point steps in
      let comes = its_goes.onward Resting (Scanned (scan_then laws old n looking before after o there p shown same point steps) (read laws old n looking before after o there p shown same point steps)
      (inr (nothing_to_mark looking after.found rows reply replied))) in
      let turns = turns_there laws old n looking before o there p shown after same its_now point its_goes Resting comes (λ is_prune. reads before.judging.stage (sym named ∙ is_prune)) in
      let v : TableState = table_state (pages_show laws old n looking before o there p shown) (task_turned n Resting (shows laws old n looking before o there p shown).unseen) in
      let counts : ℕ → Bool = counts_of new.transactions shown.database.stored in (
        place_after p n number None v account counts new.entries,
        place_shown laws old new n looking before o there p shown left Resting None account
            (none_in_hand old new n number (shows laws old n looking before o there p shown).blocks shown.database.stored is) leads turns.0 empty,
        record {
          hand = hand;
          in_hand = in_hand laws old n looking before o there p shown;
          steps = subst (λ (l : List Entry). StepsTo p n hand (Ended reply) (place_after p n number None v account counts l)) entries_are
              (turn_replies p n number hand v account counts point course reply turns.0 turns.1
              (pick_same n Resting ((shows laws old n looking before o there p shown).unseen.task n)) makes
              (said looking query p.layout number (turns.0.step.between.task n) account after.found rows reply course.answers answers_are replied));
          fits = few;
        },
      )
