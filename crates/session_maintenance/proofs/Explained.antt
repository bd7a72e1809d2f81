-- a step of an explain leads on
use Rattle.std.proofs.Common.{◌≡◌, ◌≢◌, inl, ℕ, zero, suc, ◌+◌, ◌<◌, ◌≤◌, Bool, true, false, List, [], ◌∷◌, length, Option, None, Some, refl, sym, ap, subst, ◌∙◌, arith}
use Rattle.std.specs.Prelude.{IsTrue, cond}
use Rattle.std.specs.List.{filter, range_with_len}
use Rattle.block_model.specs.declared.reply.Point.{Point}
use Rattle.block_model.specs.declared.reply.Point.TheVariants as points
use Rattle.block_model.specs.declared.reply.Reply.TheVariants as replies
use Rattle.block_model.specs.declared.request.Entry.{Entry}
use Rattle.page_locks.specs.declared.did.Did.TheVariants as did
use Rattle.store_layout.specs.declared.limits.TheConstants.{MAX_ENTRIES}
use Rattle.transactions.specs.CountedRows.{counts as counts_of}
use Rattle.coverage.specs.Accounts.{Account, no_account}
use Rattle.coverage.specs.Machines.{table_state, task_turned}
use Rattle.coverage.specs.Table.{Resting, Scans, TableScan, TableState, Task}
use Rattle.coverage.specs.TableCovered.{IsTableKept, JudgesExactly}
use Rattle.coverage.specs.TableSteps.{Scanned, Stays}
use Rattle.coverage.proofs.TableSeen.{table_between_kept}
use Rattle.coverage.proofs.Views.{pick_same}
use Rattle.bitmap_scan.specs.declared.stage.Stage.{Stage}
use Rattle.bitmap_scan.specs.declared.stage.Stage.TheVariants as stages
use Rattle.bitmap_scan.specs.Explains.{ExplainHand, ExplainSteps, candidate_blocks, explaining}
use Rattle.bitmap_scan.specs.ScanHands.{is_candidate}
use Rattle.bitmap_scan.specs.ScanSteps.{ScanGoes, account_at, point_at}
use Rattle.bitmap_scan.specs.TableScans.{table_scan}
use Rattle.script_semantics.specs.Place.{Hand as HandAt, Place, new_hand}
use Rattle.script_semantics.specs.Requests.{NoneLeft}
use Rattle.script_semantics.specs.StatementSteps.{Ended, MakesAt, Moved, Steps, StepsTo, blocks_given, course_of}
use Rattle.session_parts.specs.declared.hand.Hand.TheVariants as hands
use Rattle.session_parts.specs.PlacesAfter.{place_after}
use Rattle.session_parts.specs.ShowsPlace.{IsPlaceOf}
use Rattle.session_parts.specs.StoreStates.{ShownStore, hand_in}
use Rattle.session_parts.proofs.Steps.{turn_goes_on, turn_replies}
use Rattle.session_maintenance.proofs.ExplainTurns.{between, hand_is, judged, pages_show, reads, shows, statement, tells_nothing, told_is, turns_there, w}
use Rattle.session_maintenance.proofs.ExplainShown.{ExplainLeft, explain_in_hand, none_in_hand, place_shown}

-- ---- the candidates lie below the extent

filter_none : (p : ℕ → Bool) (a n : ℕ) → ((b : ℕ) → a ≤ b → p b ≡ false) → filter p (range_with_len a n) ≡ []
filter_none p a zero none = refl
filter_none p a (suc n) none = ap (λ (x : Bool). cond x (a ∷ filter p (range_with_len (a + 1) n)) (filter p (range_with_len (a + 1) n))) (none a (omega arith))
    ∙ filter_none p (a + 1) n (λ b low. none b (omega (arith, low)))

filter_below : (p : ℕ → Bool) (a m n : ℕ) → ((b : ℕ) → a + m ≤ b → p b ≡ false) → m ≤ n → filter p (range_with_len a n) ≡ filter p (range_with_len a m)
filter_below p a zero n none more = filter_none p a n (λ b low. none b (omega (arith, low)))
filter_below p a (suc m) zero none more = absurd (omega arith)
filter_below p a (suc m) (suc n) none more =
    ap (λ (l : List ℕ). cond (p a) (a ∷ l) l) (filter_below p (a + 1) m n (λ b low. none b (omega (arith, low))) (omega (arith, more)))

is_false : (b : Bool) → (IsTrue b → ⊥) → b ≡ false
is_false true h = absurd (h refl)
is_false false h = refl

-- a step under a scan's point enters nothing
enters_nothing : (p : Place) (n : ℕ) (hand : HandAt) (stage : Stage) → MakesAt (point_at stage) p n hand (course_of p hand)
enters_nothing p n hand stages.Extent = refl
enters_nothing p n hand (stages.Map at range) = refl
enters_nothing p n hand (stages.Tuple at range spot) = refl
enters_nothing p n hand stages.Judged = refl

module _ (old new : ShownStore) (n : ℕ) (before after : ExplainHand) (left : ExplainLeft old new n before) (p : Place) (shown : IsPlaceOf old p) (few : length old.entries ≤ MAX_ENTRIES)
    (same : after.judging.query ≡ before.judging.query) (point : Point) (named : point ≡ point_at before.judging.stage) where
  abbrev stage : Stage
  stage = before.judging.stage

  abbrev number : ℕ
  number = before.judging.query.table

  abbrev hand : HandAt
  hand = new_hand (statement old n before left.there p shown)

  no_prune : point ≢ points.Prune
  no_prune is = reads stage (sym named ∙ is)

  abbrev account : Account
  account = account_at stage (p.accounts n)

  empty : account ≡ no_account
  empty = tells_nothing stage (p.accounts n) (told_is old n before left.there p shown)

  entries_are : p.journal ≡ new.entries
  entries_are = shown.journal ∙ sym left.entries

  fits : length new.entries ≤ MAX_ENTRIES
  fits = subst (λ (e : List Entry). length e ≤ MAX_ENTRIES) (sym left.entries) few

  -- it goes on
  pub explain_goes_on : ExplainSteps old.layout old.pages before.judging after.judging (did.Moved point) → after.judging.stage ≢ stages.Extent → hand_in new.hands n ≡ Some (hands.Explains after)
      → (q : Place) × IsPlaceOf new q × Steps p n (Moved point) q
  explain_goes_on steps apart is =
      let here = shows old n before left.there p shown in
      let so = judged old n before left.there p shown in
      let it = steps n old.locks here.blocks so.judged here.unseen here.has so.is so.none in
      let now : ℕ → ℕ → Option Bool = it.0 in
      let next : Task = Scans (table_scan old.layout after.judging (explaining now)) in
      let comes = it.1.0.onward next (Stays next it.1.1) in
      let turns = turns_there old n before left.there p shown (did.Moved point) after.judging same now point it.1.0 next comes no_prune in
      let in_hand = explain_in_hand old new n before after now same apart is in
      let v : TableState = table_state (pages_show old n before left.there p shown) (task_turned n next here.unseen) in
      let counts : ℕ → Bool = counts_of new.transactions shown.database.stored in (
        place_after p n number (Some hand) v account counts new.entries,
        place_shown old new n before left p shown next (Some hand) in_hand account empty turns.0,
        record {
          hand = hand;
          in_hand = hand_is old n before left.there p shown;
          steps = subst (λ (e : List Entry). StepsTo p n hand (Moved point) (place_after p n number (Some hand) v account counts e)) entries_are
              (turn_goes_on p n number hand v account counts point (course_of p hand) turns.0 turns.1
              (λ rests. busy (sym (pick_same n next (here.unseen.task n)) ∙ rests)) (subst (λ (q : Point). MakesAt q p n hand (course_of p hand)) (sym named) (enters_nothing p n hand stage)));
          fits = fits;
        },
      )
    where
      busy : {scan : TableScan} → Scans scan ≡ Resting → ⊥
      busy is = cc

  -- it tells its blocks
  module _ (steps : ExplainSteps old.layout old.pages before.judging after.judging (did.Finished point)) (blocks : after.blocks ≡ candidate_blocks after.judging.candidates)
      (within : after.judging.extent ≤ length after.judging.candidates) where
    module _ (now : ℕ → ℕ → Option Bool) (goes : ScanGoes n (pages_show old n before left.there p shown) (shows old n before left.there p shown).unseen point (account_at stage) (table_scan old.layout after.judging (explaining now))) where
      abbrev within_step : TableState
      within_step = between old n before left.there p shown (did.Finished point) after.judging same now point goes

      kept : IsTableKept within_step
      kept = table_between_kept n (w old n before left.there p shown) within_step (subst IsTableKept (shows old n before left.there p shown).shown (shows old n before left.there p shown).kept) goes.does.does

      exact : JudgesExactly within_step goes.done
      exact = kept.exact n goes.done (pick_same n (Scans goes.done) ((shows old n before left.there p shown).unseen.task n))

      extent_is : goes.done.extent ≡ after.judging.extent
      extent_is = ap (λ (s : TableScan). s.extent) (sym goes.same)

      candidates_are : goes.done.candidate ≡ is_candidate after.judging.candidates
      candidates_are = ap (λ (s : TableScan). s.candidate) (sym goes.same)

      none_behind : (b : ℕ) → 0 + after.judging.extent ≤ b → is_candidate after.judging.candidates b ≡ false
      none_behind b low = is_false (is_candidate after.judging.candidates b) (λ candidate.
          let below : b < goes.done.extent = ((exact.candidate b).0 (subst (λ (f : ℕ → Bool). IsTrue (f b)) (sym candidates_are) candidate)).0 in
          absurd (omega (arith, below, extent_is, low)))

      blocks_are : after.blocks ≡ blocks_given (Scans goes.done)
      blocks_are = blocks ∙ filter_below (is_candidate after.judging.candidates) 0 after.judging.extent (length after.judging.candidates) none_behind within
          ∙ (λ i. filter (sym candidates_are i) (range_with_len 0 (sym extent_is i)))

    pub explain_is_told : hand_in new.hands n ≡ None → (q : Place) × IsPlaceOf new q × Steps p n (Ended (replies.Kept after.blocks)) q
    explain_is_told is =
        let here = shows old n before left.there p shown in
        let so = judged old n before left.there p shown in
        let it = steps n old.locks here.blocks so.judged here.unseen here.has so.is so.none in
        let now : ℕ → ℕ → Option Bool = it.0 in
        let comes = it.1.0.onward Resting (Scanned (table_scan old.layout after.judging (explaining now)) it.1.1 (inl refl)) in
        let turns = turns_there old n before left.there p shown (did.Finished point) after.judging same now point it.1.0 Resting comes no_prune in
        let in_hand = none_in_hand old new n before is in
        let v : TableState = table_state (pages_show old n before left.there p shown) (task_turned n Resting here.unseen) in
        let counts : ℕ → Bool = counts_of new.transactions shown.database.stored in
        let at_end : (turns.0.step.between).task n ≡ Scans it.1.0.done = ap (λ (x : TableState). x.task n) turns.2 ∙ pick_same n (Scans it.1.0.done) (here.unseen.task n) in (
          place_after p n number None v account counts new.entries,
          place_shown old new n before left p shown Resting None in_hand account empty turns.0,
          record {
            hand = hand;
            in_hand = hand_is old n before left.there p shown;
            steps = subst (λ (e : List Entry). StepsTo p n hand (Ended (replies.Kept after.blocks)) (place_after p n number None v account counts e)) entries_are
                (turn_replies p n number hand v account counts point (course_of p hand) (replies.Kept after.blocks) turns.0 turns.1
                (pick_same n Resting (here.unseen.task n)) (NoneLeft (course_of p hand) refl)
                (ap (λ (l : List ℕ). Some (replies.Kept l)) (blocks_are now it.1.0) ∙ ap (λ (q : Task). Some (replies.Kept (blocks_given q))) (sym at_end)));
            fits = fits;
          },
        )
