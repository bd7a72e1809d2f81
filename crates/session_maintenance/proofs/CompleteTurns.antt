-- a step of a vacuum's summary, in a place that the store shows
use Rattle.std.proofs.Common.{◌≡◌, ◌≢◌, inl, ℕ, Bool, List, length, Option, Some, refl, sym, subst, ◌∙◌, arith}
use Rattle.block_model.specs.declared.place.Spot.{Spot}
use Rattle.block_model.specs.declared.reply.Point.{Point}
use Rattle.page_layout.specs.PageContents.{Slot}
use Rattle.page_locks.specs.RightHolders.{right_of}
use Rattle.store_layout.specs.declared.statement.Statement.TheVariants as statements
use Rattle.brin_insert.specs.AskedFor.{AreRequestsOf}
use Rattle.index_steps.specs.IndexTuples.{index_at}
use Rattle.index_steps.specs.ShownRows.{shown_by}
use Rattle.coverage.specs.Accounts.{Account}
use Rattle.coverage.specs.InOneIndex.{DoesAt}
use Rattle.coverage.specs.Machines.{ShownTable, Unseen, table_state}
use Rattle.coverage.specs.Table.{Restarts, Resting, Task}
use Rattle.coverage.specs.TableCovered.{IsMaintenance}
use Rattle.summarise_core.specs.declared.course.Standing.{Standing}
use Rattle.summarise_core.specs.declared.course.Standing.TheVariants as standings
use Rattle.summarise_core.specs.declared.wish.Wish.TheVariants as wishes
use Rattle.summarise_core.specs.Summarises.{SummariseState}
use Rattle.summarise_core.specs.SummariseTable.{SummariseGoes, account_by, first_task, task_of}
use Rattle.script_semantics.specs.Place.{Place, accounts_at}
use Rattle.session_parts.specs.declared.hand.Completing.{Completing}
use Rattle.session_parts.specs.declared.hand.Hand.TheVariants as hands
use Rattle.session_parts.specs.Hands.{completed_by, summary_now}
use Rattle.session_parts.specs.HandsInTables.{IsCompletingAt}
use Rattle.session_parts.specs.ShowsPlace.{IsPlaceOf}
use Rattle.session_parts.specs.StoreStates.{ShownStore, hand_in}
use Rattle.session_parts.proofs.Steps.{takes_none}
use Rattle.session_maintenance.proofs.SummariseTurns.{at_range, is_busy}
use Rattle.session_maintenance.proofs.UpkeepPoints.{IsPlain, maintain_point}
use Rattle.session_maintenance.proofs.UpkeepSteps.{MadeIn, turned}
use Rattle.session_maintenance.proofs.UpkeepAt.{IsUpkeep, at_task, here, kept_here, pages_show, unseen_here, w}
use Rattle.session_maintenance.proofs.CompletePoints.{restart_point}
use Rattle.session_maintenance.proofs.Summaries.{new_task, task_now}

not_work : (table : ℕ) → statements.Vacuum table ≢ statements.Work
not_work table is = cc

pub restarts_apart : (at : ℕ) → Restarts at ≢ Resting
restarts_apart at is = cc

module _ (old : ShownStore) (n : ℕ) (c : Completing) (a : SummariseState) (got : summary_now c ≡ Some a) (is : IsUpkeep old.layout (hands.Completes c) a.index (IsCompletingAt old.layout c) (completed_by c))
    (had : hand_in old.hands n ≡ Some (hands.Completes c)) (p : Place) (shown : IsPlaceOf old p) where
  abbrev number : ℕ
  number = (index_at old.layout a.index).table

  abbrev blocks : List (List Slot)
  blocks = (here old n (hands.Completes c) a.index (IsCompletingAt old.layout c) (completed_by c) is had p shown).blocks

  abbrev u : Unseen
  u = unseen_here old n (hands.Completes c) a.index (IsCompletingAt old.layout c) (completed_by c) is had p shown

  pub there : u.task n ≡ task_of old.layout c.next a
  there = task_now c a got old.layout (u.task n) (at_task old n (hands.Completes c) a.index (IsCompletingAt old.layout c) (completed_by c) is had p shown)

  -- at a range it holds the summarise lock of its table
  pub holds_there : a.standing ≡ standings.AtRange → right_of old.rights number ≡ Some n
  holds_there at =
      let shows = here old n (hands.Completes c) a.index (IsCompletingAt old.layout c) (completed_by c) is had p shown in
      let kept = kept_here old n (hands.Completes c) a.index (IsCompletingAt old.layout c) (completed_by c) is had p shown in
      sym shows.lock ∙ (kept.summarise_lock n).1 (subst (λ (t : Task). IsMaintenance t) (sym (there ∙ at_range old.layout c.next a at)) tt)

  module _ (new : ShownStore) (b : SummariseState) (left : a.standing ≢ standings.Done) (wish : a.wish ≡ wishes.Complete) (own : number ≡ c.table) where
    abbrev shown_then : ShownTable
    shown_then = shown_by old.layout new.pages new.locks number blocks

    module _ (point : Point) (account : Account → Account) (between : Task) (unnamed : ℕ → Spot → Bool)
        (does : DoesAt n (w old n (hands.Completes c) a.index (IsCompletingAt old.layout c) (completed_by c) is had p shown) (table_state shown_then (turned n (Some n) between unnamed u)) point account) where
      plain_by : (standing : Standing) → a.standing ≡ standing → (u.task n ≢ Resting) × IsPlain point
      plain_by standings.Begins at = (
        (λ rests. restarts_apart c.next (sym (there ∙ new_task old.layout n c.next 0 a wish at) ∙ rests)),
        restart_point n _ _ point c.next (there ∙ new_task old.layout n c.next 0 a wish at) does.does does.point_is,
      )
      plain_by standings.AtRange at = (
        (λ rests. is_busy old.layout c.next a at (sym there ∙ rests)),
        maintain_point n _ _ point _ _ _ _ (there ∙ at_range old.layout c.next a at) does.does does.point_is,
      )
      plain_by standings.Done at = absurd (left at)

      plain_so : (u.task n ≢ Resting) × IsPlain point
      plain_so = plain_by a.standing refl

    -- a step that goes on, or replies
    pub made_by : (point : Point) (count : ℕ) (held_then : Option ℕ)
        → SummariseGoes n (pages_show old n (hands.Completes c) a.index (IsCompletingAt old.layout c) (completed_by c) is had p shown) shown_then (right_of old.rights number) held_then (task_of old.layout c.next a) (task_of old.layout c.next b) point
        (account_by a.wish a.standing count) a.standing (first_task old.layout c.next (length blocks) a)
        → held_then ≡ right_of new.rights number → new.queue ≡ old.queue
        → (made : MadeIn old new n (hands.Completes c) a.index (IsCompletingAt old.layout c) (completed_by c) is had p shown point) × (made.after ≡ task_of old.layout c.next b) × (made.adds ≡ account_by a.wish a.standing count)
    made_by point count held_then goes right same_queue =
        let kept = kept_here old n (hands.Completes c) a.index (IsCompletingAt old.layout c) (completed_by c) is had p shown in
        let lock = (here old n (hands.Completes c) a.index (IsCompletingAt old.layout c) (completed_by c) is had p shown).lock in
        let it = goes.0 u there lock kept in
        let so = plain_so point (account_by a.wish a.standing count) it.2 it.0 it.3 in (
          record {
            adds = account_by a.wish a.standing count;
            between = it.2;
            after = task_of old.layout c.next b;
            held = held_then;
            unnamed = it.0;
            queue = p.queue;
            requests = subst (λ (l : List (ℕ × ℕ)). AreRequestsOf old.layout l p.queue) (sym same_queue) shown.queue;
            turns = record {
              on = own;
              takes = takes_none (statements.Vacuum c.table) (u.task n) p.queue p.queue (omega arith) (not_work c.table);
              does = it.3.does;
              point_is = it.3.point_is;
              adds = λ b has. it.3.adds (accounts_at p number) b has;
              settles = it.4;
              own = inl so.0;
              plain = so.1;
            };
            right = right;
          },
          refl,
          refl,
        )
