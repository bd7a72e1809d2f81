-- what comes of a step of a vacuum's cleaning: it goes on, comes to its summaries, or replies
use Rattle.std.proofs.Common.{◌≡◌, ◌≢◌, ℕ, suc, ◌+◌, ◌<◌, List, [], ◌∷◌, length, map, Option, None, Some, refl, sym, ap, subst, ◌∙◌, arith}
use Rattle.std.specs.Prelude.{All, slice_get, slice_set}
use Rattle.std.proofs.lemmas.Option.{get_or_from_slice_get, slice_get_within}
use Rattle.disk_trait.specs.Told.{Told}
use Rattle.block_model.specs.DatabaseState.{OpenTransaction}
use Rattle.block_model.specs.declared.reply.Point.{Point}
use Rattle.block_model.specs.declared.reply.Reply.TheVariants as replies
use Rattle.store_layout.specs.DiskLayout.{DiskLayout}
use Rattle.page_map.specs.PageMap.{View}
use Rattle.page_locks.specs.declared.did.Did.{Did}
use Rattle.page_locks.specs.declared.did.Did.TheVariants as did
use Rattle.page_locks.specs.RightHolders.{right_of}
use Rattle.store_layout.specs.declared.statement.Statement.TheVariants as statements
use Rattle.coverage.specs.Accounts.{Account}
use Rattle.coverage.specs.Table.{Restarts, Task}
use Rattle.index_steps.specs.ShownTable.{indexes_of}
use Rattle.summarise_core.specs.declared.course.Standing.TheVariants as summary_standings
use Rattle.summarise_core.specs.declared.wish.Wish.{Wish}
use Rattle.summarise_core.specs.declared.wish.Wish.TheVariants as wishes
use Rattle.summarise_core.specs.Summarises.{IsSummariseOf, SummariseState, count_at}
use Rattle.summarise_core.specs.SummariseTable as summarises
use Rattle.vacuum_core.specs.declared.standing.Standing.{Standing}
use Rattle.vacuum_core.specs.declared.standing.Standing.TheVariants as standings
use Rattle.vacuum_core.specs.TableSteps.{account_by, held_done, task_at, task_done, task_of}
use Rattle.vacuum_core.specs.Vacuums.{DoesOver, IsUnderWay, PrunesAt, RightAnswers, VacuumState, step_of}
use Rattle.session_maintenance.specs.DeadToAll.{oldest_snapshots}
use Rattle.session_parts.specs.declared.hand.Cleaning.{Cleaning}
use Rattle.session_parts.specs.declared.hand.Completing.{Completing}
use Rattle.session_parts.specs.declared.hand.Hand.{Hand}
use Rattle.session_parts.specs.declared.hand.Hand.TheVariants as hands
use Rattle.session_parts.specs.declared.hand.Stepped.TheVariants as stepped
use Rattle.session_parts.specs.declared.parts.Parts.{Parts}
use Rattle.session_parts.specs.HandFits.{AreSummariesOf, IsCompletingFor}
use Rattle.session_parts.specs.Hands.{cleaned_at, count_in, summary_now}
use Rattle.session_parts.specs.ShowsPlace.{IsLeftToMark}
use Rattle.session_parts.specs.StepAnswers.{StaysReady}
use Rattle.session_parts.specs.Stepping.{IsFit}
use Rattle.session_parts.specs.UndoneLaws.{StepsSo}
use Rattle.session_parts.proofs.Stores.{hand_changes}
use Rattle.session_maintenance.proofs.SummariseLocks.{OthersStay, gives_own, gives_stay, gives_there, stays_on}
use Rattle.session_maintenance.specs.Cleaned.{behind, completing_of}
use Rattle.session_maintenance.proofs.CleaningAt.{IsVacuumHand, cleaned, counts_on, here, told_is}
use Rattle.session_maintenance.proofs.CleaningMade.{is_begun, is_busy, is_left, is_named, made_so}
use Rattle.session_maintenance.proofs.CleaningParts.{DeadLaws, MachineLeft, StepsInTable, fits, fits_then, held_by, held_none, holds_there, leaves_others, left_so, new_store, of, old_store, stays_fit, still_so, with_these, within}
use Rattle.session_maintenance.proofs.CleaningRights.{right_begun, right_left, right_taken}
use Rattle.session_maintenance.proofs.CleaningSteps.{goes_on, is_done}

all_there : {X : Type 0} (P : X → Type 0) (xs : List X) (k : ℕ) (x : X) → All P xs → slice_get xs k ≡ Some x → P x
all_there P xs k x all is = subst P (get_or_from_slice_get xs k x x is) (all k x (slice_get_within xs k x is))

-- ---- the vacuum in hand then

of_any_copy : (copy : Option OpenTransaction) (c : Cleaning) → IsLeftToMark copy (hands.Cleans c)
of_any_copy None c = tt
of_any_copy (Some x) c = tt

of_any_copy_then : (copy : Option OpenTransaction) (k : Completing) → IsLeftToMark copy (hands.Completes k)
of_any_copy_then None k = tt
of_any_copy_then (Some x) k = tt

begun_tells : (b : VacuumState) (standing : Standing) → standing ≢ standings.Begins → cleaned b ≡ cleaned_at b standing
begun_tells b standings.Begins begun = absurd (begun refl)
begun_tells b (standings.Prunes block) begun = refl
begun_tells b (standings.Sweeps at block) begun = refl
begun_tells b standings.Done begun = refl

-- it still cleans
cleans_on : (layout : DiskLayout) (table : ℕ) (c : Cleaning) → c.vacuum.table ≡ table → c.vacuum.standing ≢ standings.Begins → IsVacuumHand layout table (hands.Cleans c) (task_of c.vacuum) (cleaned c.vacuum)
cleans_on layout table c same begun = record {
  statement = ap statements.Vacuum same;
  answered = refl;
  told = begun_tells c.vacuum c.vacuum.standing begun;
  own = λ transaction copy. of_any_copy copy c;
  in_table = ap Some same;
  no_insert = tt;
  at = λ blocks tx stored transaction. ((λ own. refl), (λ away. absurd (away same)));
}

-- or is before its first summary
first_task : (layout : DiskLayout) (a : SummariseState) → a.standing ≡ summary_standings.Begins → a.wish ≡ wishes.Complete → summarises.task_of layout 0 a ≡ Restarts 0
first_task layout a begins complete = ap (summarises.task_at layout 0 a) begins ∙ ap (λ (w : Wish). summarises.before_first w 0) complete

completes_first : (layout : DiskLayout) (table : ℕ) (c : Cleaning) (a : SummariseState) → c.vacuum.table ≡ table → slice_get c.summaries.items 0 ≡ Some a → a.standing ≡ summary_standings.Begins → a.wish ≡ wishes.Complete
    → IsVacuumHand layout table (hands.Completes (completing_of c)) (Restarts 0) (cleaned c.vacuum)
completes_first layout table c a same first begins complete = record {
  statement = ap statements.Vacuum same;
  answered = refl;
  told = λ i. record { rows = c.vacuum.rows; unnamed = c.vacuum.unnamed; ranges = none i; dropped = [] };
  own = λ transaction copy. of_any_copy_then copy (completing_of c);
  in_table = ap Some same;
  no_insert = tt;
  at = λ blocks tx stored transaction. ((λ own. (a, first, sym (first_task layout a begins complete))), (λ away. absurd (away same)));
}
  where
    counts_none : count_in (summary_now (completing_of c)) ≡ 0
    counts_none = ap count_in first ∙ ap (count_at a) begins

    none : 0 ≡ 0 + count_in (summary_now (completing_of c))
    none = omega (arith, counts_none)

module _ {D : Type 0} (told : D → Told) (parts : Parts D) (n : ℕ) (c : Cleaning) (fit : IsFit told parts n (hands.Cleans c)) (pages : View D) (b : VacuumState) (left : MachineLeft told parts n c fit pages b)
    (law : StepsInTable) (laws : DeadLaws) (righted : List (Option ℕ)) where
  abbrev was : Hand
  was = hands.Cleans c

  abbrev next : Cleaning
  next = record { vacuum = b; summaries = c.summaries }

  summaries_then : AreSummariesOf parts.pages.layout b.table c.summaries.items
  summaries_then = subst (λ (t : ℕ). AreSummariesOf parts.pages.layout t c.summaries.items) (sym left.table) (fits told parts n c fit).in_hand.summaries

  abbrev Does : Did → Type 0
  Does answer = DoesOver told parts.pages pages parts.locks parts.rights righted n c.vacuum b answer

  abbrev Pruned : Type 0
  Pruned = PrunesAt told parts.pages pages (oldest_snapshots parts.transactions.opens) parts.transactions.tx.first c.vacuum c.vacuum.standing

  -- ---- it goes on

  pub moved : (point : Point) → Does (did.Moved point) → Pruned → IsUnderWay b.standing → RightAnswers c.vacuum.table n parts.rights righted c.vacuum.standing (did.Moved point) → StaysReady parts.pages pages
      → StepsSo told parts (with_these parts pages righted) n was (stepped.Moved point (hands.Cleans next))
  moved point does pruned way right ready =
      let stays = right_left c.vacuum.table n parts.rights righted c.vacuum.standing (did.Moved point) (within told parts n c fit) right in
      let begun = is_begun b.standing way in
      record {
        steps = λ names hand_list has tells first then p shown.
            let old = old_store told parts n c fit pages b left righted stays names hand_list has tells in
            let new = new_store told parts n c fit pages b left righted stays names hand_list has tells (Some (hands.Cleans next)) in
            let below = (of told parts n c fit).table in
            let it = does tells (here old n c has below p shown).blocks (here old n c has below p shown).has in
            let step = step_of parts.pages.layout parts.pages.pages pages.pages parts.locks parts.rights righted n (here old n c has below p shown).blocks it.0 in
            let came = law step c.vacuum b (did.Moved point) (of told parts n c fit) it.2 in
            let still = still_so told parts n c fit pages b left righted stays names hand_list has tells p shown laws (Some (hands.Cleans next)) it.0 it.1 righted (did.Moved point) it.2 pruned in
            let taken = right_taken c.vacuum.table n parts.rights righted c.vacuum.standing (did.Moved point) right tt (within told parts n c fit)
            (holds_there told parts n c fit pages b left righted stays names hand_list has tells p shown) in
            let made = made_so old new n c has below p shown it.0 it.1 still (fits told parts n c fit).in_hand.left b point came.0 (Some n) came.2 (is_named step c.vacuum b (did.Moved point) it.2) (sym taken) in
            goes_on old new n c (left_so told parts n c fit pages b left righted stays names hand_list has tells (Some (hands.Cleans next))) p shown point made.0
            (hands.Cleans next) (cleaned b) (subst (λ (t : Task). IsVacuumHand parts.pages.layout c.vacuum.table (hands.Cleans next) t (cleaned b)) (sym made.1) (cleans_on parts.pages.layout c.vacuum.table next left.table begun))
            (hand_changes hand_list n was (Some (hands.Cleans next)) has).own (λ rests. is_busy b b.standing way (sym made.1 ∙ rests))
            (ap (λ (f : Account → Account). f (p.accounts n)) made.2 ∙ ap (account_by c.vacuum.standing came.0) (told_is old n c has below p shown) ∙ counts_on c.vacuum b c.vacuum.standing came.0 came.1) refl;
        fit = stays_fit told parts n c fit pages b left righted stays (stepped.Moved point (hands.Cleans next)) (fits_then told parts n c fit pages b left righted stays (Some (hands.Cleans next))
            (record { vacuum = left.of_then; left = is_left b.standing way; summaries = summaries_then; new = (fits told parts n c fit).in_hand.new }) refl
            (held_by told parts n c fit pages b left righted stays (Some (hands.Cleans next)) (right_begun b.table b.standing begun ∙ ap Some left.table)));
        others = leaves_others told parts n c fit pages b left righted stays (stepped.Moved point (hands.Cleans next)) refl;
        stays = λ names hand_list has. ap statements.Vacuum left.table;
        cause = ready;
      }

  -- ---- it comes to its summaries, or replies

  -- it has as many indexes as summaries
  as_many : (items : List SummariseState) → c.summaries.items ≡ items → length b.indexes ≡ length items
  as_many items is = ap (λ (l : List ℕ). length l) (left.of_then.indexes ∙ sym summaries_then.indexes ∙ ap (map (λ (a : SummariseState). a.index)) is) ∙ counted items
    where
      counted : (items : List SummariseState) → length (map (λ (a : SummariseState). a.index) items) ≡ length items
      counted [] = refl
      counted (a ∷ more) = ap suc (counted more)

  as_many_before : (items : List SummariseState) → c.summaries.items ≡ items → length c.vacuum.indexes ≡ length items
  as_many_before items is = ap (λ (l : List ℕ). length l) ((of told parts n c fit).indexes ∙ ap (indexes_of parts.pages.layout) (sym left.table) ∙ sym left.of_then.indexes) ∙ as_many items is

  task_then : (items : List SummariseState) → c.summaries.items ≡ items → b.standing ≡ standings.Done → task_of b ≡ task_done (length items)
  task_then items is done = ap (task_at b) done ∙ ap task_done (as_many items is)

  completing : (a : SummariseState) (more : List SummariseState) → c.summaries.items ≡ a ∷ more → IsCompletingFor parts.pages.layout (completing_of next)
  completing a more is =
      let new = (fits told parts n c fit).in_hand.new in
      let first : slice_get c.summaries.items 0 ≡ Some a = ap (λ (l : List SummariseState). slice_get l 0) is in
      record {
        table = left.of_then.table;
        summaries = summaries_then;
        now = a;
        is = first;
        left = λ done. absurd (let begins = sym (all_there (λ (x : SummariseState). x.standing ≡ summary_standings.Begins) c.summaries.items 0 a new first) ∙ done in cc);
        new = λ at x later there. all_there (λ (x : SummariseState). x.standing ≡ summary_standings.Begins) c.summaries.items at x new there;
        few = omega arith;
      }

  module _ (point : Point) (does : Does (did.Finished point)) (pruned : Pruned) (done : b.standing ≡ standings.Done) (right : RightAnswers c.vacuum.table n parts.rights righted c.vacuum.standing (did.Finished point)) (ready : StaysReady parts.pages pages)
      (given : List (Option ℕ)) where
    begun : b.standing ≢ standings.Begins
    begun begins = absurd (let same = sym done ∙ begins in cc)

    taken_by : OthersStay c.vacuum.table n parts.rights righted
    taken_by = right_left c.vacuum.table n parts.rights righted c.vacuum.standing (did.Finished point) (within told parts n c fit) right

    to_summaries : (a : SummariseState) (more : List SummariseState) → c.summaries.items ≡ a ∷ more → given ≡ righted → StepsSo told parts (with_these parts pages given) n was (stepped.Moved point (hands.Completes (completing_of next)))
    to_summaries a more is same =
        let stays = subst (OthersStay c.vacuum.table n parts.rights) (sym same) taken_by in
        let new = (fits told parts n c fit).in_hand.new in
        let first : slice_get c.summaries.items 0 ≡ Some a = ap (λ (l : List SummariseState). slice_get l 0) is in
        let begins = all_there (λ (x : SummariseState). x.standing ≡ summary_standings.Begins) c.summaries.items 0 a new first in
        let wish = (all_there (λ (x : SummariseState). IsSummariseOf parts.pages.layout x × (x.wish ≡ wishes.Complete)) c.summaries.items 0 a summaries_then.of first).1 in
        record {
          steps = λ names hand_list has tells ready_then then p shown.
              let old = old_store told parts n c fit pages b left given stays names hand_list has tells in
              let after = new_store told parts n c fit pages b left given stays names hand_list has tells (Some (hands.Completes (completing_of next))) in
              let below = (of told parts n c fit).table in
              let it = does tells (here old n c has below p shown).blocks (here old n c has below p shown).has in
              let step = step_of parts.pages.layout parts.pages.pages pages.pages parts.locks parts.rights righted n (here old n c has below p shown).blocks it.0 in
              let came = law step c.vacuum b (did.Finished point) (of told parts n c fit) it.2 in
              let still = still_so told parts n c fit pages b left given stays names hand_list has tells p shown laws (Some (hands.Completes (completing_of next))) it.0 it.1 righted (did.Finished point) it.2 pruned in
              let taken = right_taken c.vacuum.table n parts.rights righted c.vacuum.standing (did.Finished point) right tt (within told parts n c fit)
              (holds_there told parts n c fit pages b left given stays names hand_list has tells p shown) in
              let held : held_done n (length c.vacuum.indexes) ≡ right_of given c.vacuum.table =
              ap (held_done n) (as_many_before (a ∷ more) is) ∙ sym taken ∙ ap (λ (l : List (Option ℕ)). right_of l c.vacuum.table) (sym same) in
              let made = made_so old after n c has below p shown it.0 it.1 still (fits told parts n c fit).in_hand.left b point came.0 (held_done n (length c.vacuum.indexes)) came.2
              (is_named step c.vacuum b (did.Finished point) it.2) held in
              let at : made.0.after ≡ Restarts 0 = made.1 ∙ task_then (a ∷ more) is done in
              goes_on old after n c (left_so told parts n c fit pages b left given stays names hand_list has tells (Some (hands.Completes (completing_of next)))) p shown point made.0
              (hands.Completes (completing_of next)) (cleaned b) (subst (λ (t : Task). IsVacuumHand parts.pages.layout c.vacuum.table (hands.Completes (completing_of next)) t (cleaned b)) (sym at)
              (completes_first parts.pages.layout c.vacuum.table next a left.table first begins wish))
              (hand_changes hand_list n was (Some (hands.Completes (completing_of next))) has).own (λ rests. absurd (let same_task = sym at ∙ rests in cc))
              (ap (λ (f : Account → Account). f (p.accounts n)) made.2 ∙ ap (account_by c.vacuum.standing came.0) (told_is old n c has below p shown) ∙ counts_on c.vacuum b c.vacuum.standing came.0 came.1) refl;
          fit = stays_fit told parts n c fit pages b left given stays (stepped.Moved point (hands.Completes (completing_of next))) (fits_then told parts n c fit pages b left given stays (Some (hands.Completes (completing_of next)))
              (completing a more is) refl (held_by told parts n c fit pages b left given stays (Some (hands.Completes (completing_of next))) (ap Some left.table)));
          others = leaves_others told parts n c fit pages b left given stays (stepped.Moved point (hands.Completes (completing_of next))) refl;
          stays = λ names hand_list has. ap statements.Vacuum left.table;
          cause = ready;
        }

    replies_then : c.summaries.items ≡ [] → (right_of righted c.vacuum.table ≡ Some n → given ≡ slice_set righted c.vacuum.table None) → (right_of righted c.vacuum.table ≢ Some n → given ≡ righted)
        → StepsSo told parts (with_these parts pages given) n was (stepped.Done (replies.Vacuumed b.rows b.unnamed 0))
    replies_then is gives keeps =
        let still_within : c.vacuum.table < length righted = let many = taken_by.tables in let inside = within told parts n c fit in omega (arith, many, inside) in
        let stays = stays_on c.vacuum.table n parts.rights righted given taken_by (gives_stay c.vacuum.table n righted given still_within gives keeps) in
        record {
          steps = λ names hand_list has tells ready_then then p shown.
              let old = old_store told parts n c fit pages b left given stays names hand_list has tells in
              let after = new_store told parts n c fit pages b left given stays names hand_list has tells None in
              let below = (of told parts n c fit).table in
              let it = does tells (here old n c has below p shown).blocks (here old n c has below p shown).has in
              let step = step_of parts.pages.layout parts.pages.pages pages.pages parts.locks parts.rights righted n (here old n c has below p shown).blocks it.0 in
              let came = law step c.vacuum b (did.Finished point) (of told parts n c fit) it.2 in
              let still = still_so told parts n c fit pages b left given stays names hand_list has tells p shown laws None it.0 it.1 righted (did.Finished point) it.2 pruned in
              let taken = right_taken c.vacuum.table n parts.rights righted c.vacuum.standing (did.Finished point) right tt (within told parts n c fit)
              (holds_there told parts n c fit pages b left given stays names hand_list has tells p shown) in
              let held : held_done n (length c.vacuum.indexes) ≡ right_of given c.vacuum.table =
              ap (held_done n) (as_many_before [] is) ∙ sym (gives_there c.vacuum.table n righted given still_within gives keeps taken) in
              let made = made_so old after n c has below p shown it.0 it.1 still (fits told parts n c fit).in_hand.left b point came.0 (held_done n (length c.vacuum.indexes)) came.2
              (is_named step c.vacuum b (did.Finished point) it.2) held in
              is_done old after n c (left_so told parts n c fit pages b left given stays names hand_list has tells None) p shown point made.0
              (hand_changes hand_list n was None has).own (made.1 ∙ task_then [] is done) (cleaned b)
              (ap (λ (f : Account → Account). f (p.accounts n)) made.2 ∙ ap (account_by c.vacuum.standing came.0) (told_is old n c has below p shown) ∙ counts_on c.vacuum b c.vacuum.standing came.0 came.1) refl;
          fit = stays_fit told parts n c fit pages b left given stays (stepped.Done (replies.Vacuumed b.rows b.unnamed 0)) (fits_then told parts n c fit pages b left given stays None tt refl
              (held_none told parts n c fit pages b left given stays (gives_own c.vacuum.table n righted given still_within gives keeps)));
          others = leaves_others told parts n c fit pages b left given stays (stepped.Done (replies.Vacuumed b.rows b.unnamed 0)) refl;
          stays = λ names hand_list has. tt;
          cause = ready;
        }

    pub finished : (items : List SummariseState) → c.summaries.items ≡ items → (items ≡ [] → right_of righted c.vacuum.table ≡ Some n → given ≡ slice_set righted c.vacuum.table None)
        → (items ≡ [] → right_of righted c.vacuum.table ≢ Some n → given ≡ righted) → (items ≢ [] → given ≡ righted) → StepsSo told parts (with_these parts pages given) n was (behind point next items)
    finished [] is gives keeps same = replies_then is (gives refl) (keeps refl)
    finished (a ∷ more) is gives keeps same = to_summaries a more is (same (λ none. cc))
