-- a step of a maintenance machine, over the parts of a store
use Rattle.std.proofs.Common.{List, None, Option, Some, [], ap, arith, inl, inr, length, refl, subst, sym, ℕ, ◌+◌, ◌<◌, ◌∙◌, ◌≡◌, ◌≢◌, ◌≤◌, ◌⊎◌}
use Rattle.block_model.specs.declared.place.Place.{Place as PagePlace}
use Rattle.block_model.specs.declared.reply.Point.{Point}
use Rattle.block_model.specs.declared.reply.Reply.{Reply}
use Rattle.block_model.specs.declared.reply.What.{What}
use Rattle.coverage.specs.Accounts.{Account}
use Rattle.coverage.specs.Table.{Resting}
use Rattle.disk_trait.specs.Told.{Told}
use Rattle.index_contents.specs.IndexChanges.{LeavesOthers as LeavesOtherIndexes}
use Rattle.index_contents.specs.IndexContents.{index_page, relation_of as index_relation}
use Rattle.index_contents.specs.KeepsOrder.{KeepsOrder}
use Rattle.index_steps.specs.IndexTuples.{index_at}
use Rattle.index_steps.specs.SwapAnswers.{LeavesLocks, TakesAtMost}
use Rattle.page_locks.specs.LockChanges.{GivesAll}
use Rattle.page_locks.specs.LockCounts.{locks_of}
use Rattle.page_locks.specs.LockHolders.{LockState, holder}
use Rattle.page_locks.specs.RightHolders.{right_of}
use Rattle.page_map.specs.Keeps.{Keeps, Leaves, Tells, Untold}
use Rattle.page_map.specs.Outcome.{Refused}
use Rattle.page_map.specs.PageMap.{PageMap, View, page_at}
use Rattle.page_map.specs.declared.faults.StoreError.{StoreError}
use Rattle.recovery.specs.PageOrder.{IsIndexInOrder}
use Rattle.script_semantics.specs.Names.{name_of}
use Rattle.script_semantics.specs.Place.{Place}
use Rattle.script_semantics.specs.StatementSteps.{Ended, Steps, Waits, reply_after}
use Rattle.session_maintenance.proofs.MachineHands.{IsPlainHand, IsSeenSo, StandsIn, here}
use Rattle.session_maintenance.proofs.MachinePlaces.{MadeSo, StepLeft, goes_on, is_done, no_statuses, stays_shown}
use Rattle.session_maintenance.proofs.SummariseLocks.{OthersStay}
use Rattle.session_maintenance.specs.MaintenanceSteps.{MachineView}
use Rattle.session_parts.proofs.Stores.{hand_changes}
use Rattle.session_parts.proofs.Undone.{fit_of_parts, fit_of_stores}
use Rattle.session_parts.specs.DamagedPages.{NamesAPage}
use Rattle.session_parts.specs.HandFits.{FitsHand, IsHandFor, locks_held, right_held}
use Rattle.session_parts.specs.Hands.{TellsSo, statement_of}
use Rattle.session_parts.specs.Leaving.{ChangesLocks, GivesLocks, IsRelationOf, LocksIn, SameLocks}
use Rattle.session_parts.specs.Shares.{hand_share, share_of}
use Rattle.session_parts.specs.ShowsPlace.{IsPlaceOf}
use Rattle.session_parts.specs.StepAnswers.{StaysReady}
use Rattle.session_parts.specs.StepIs.{hand_after}
use Rattle.session_parts.specs.Stepping.{IsFit, LeavesTheOthers, StaysFit}
use Rattle.session_parts.specs.StoreFaults.{fault_of}
use Rattle.session_parts.specs.StoreStates.{ShownStore, hand_in, shown_of, store_of, with_hand}
use Rattle.session_parts.specs.UndoneLaws.{FitsParts, StepsSo}
use Rattle.session_parts.specs.declared.hand.Hand.{Hand}
use Rattle.session_parts.specs.declared.hand.Stepped.{Stepped}
use Rattle.session_parts.specs.declared.parts.Parts.{Parts}
use Rattle.snapshot_core.specs.StoredVersions.{transaction_of}
use Rattle.std.proofs.lemmas.Bool.{cases_eq}
use Rattle.store_layout.specs.DiskLayout.{DiskLayout}
use Rattle.tx_table.specs.Kept.{over_kept}
use Rattle.tx_table.specs.Statuses.{status_relation}
use Rattle.tx_table.specs.TxState.{IsOver}
use Rattle.block_model.specs.declared.reply.Refusal.TheVariants as refusals
use Rattle.session_parts.specs.declared.hand.Stepped.TheVariants as stepped
use Rattle.session_maintenance.proofs.UpkeepParts.{enters_none, has_cause, never_shown}

-- what a step left of the pages of its table's relations, and of the page locks
pub record PartsLeft {D : Type 0} (told : D → Told) (parts : Parts D) (pages : View D) (locks : LockState) (n table : ℕ) : Type 0 where
  pub leaves : Leaves told parts.pages pages
  pub pages_left : Tells told parts.pages → (place : PagePlace) → (IsRelationOf parts.pages.layout table place.relation → ⊥) → page_at pages.pages place ≡ page_at parts.pages.pages place
  pub order : (index : ℕ) → index < length parts.pages.layout.schema.indexes → KeepsOrder told index parts.pages pages
  pub limit : locks.limit ≡ parts.locks.limit
  pub counts : (m : ℕ) → m ≢ n → locks_of locks m ≡ locks_of parts.locks m

-- its session's locks are as they were, or changed in a relation of its table, or it gave them
abbrev pub LocksLeft : DiskLayout → (old new : LockState) → (n table : ℕ) → Type 0
LocksLeft layout old new n table = (new ≡ old) ⊎ (((relation : ℕ) × IsRelationOf layout table relation × LeavesLocks (holder old) (holder new) relation n) ⊎ GivesAll (holder old) (holder new) n)

-- with these pages, locks and requests for summaries
abbrev pub with_queue : {D : Type 0} → Parts D → View D → LockState → List (Option ℕ) → List (ℕ × ℕ) → Parts D
with_queue parts pages locks rights queue = record parts { pages = pages; locks = locks; rights = rights; queue = queue }

-- what a step in one index of the table left
pub index_left : {D : Type 0} (told : D → Told) (parts : Parts D) (pages : View D) (locks : LockState) (n index k : ℕ) → index < length parts.pages.layout.schema.indexes → LeavesOtherIndexes told index parts.pages pages → KeepsOrder told index parts.pages pages
    → TakesAtMost k parts.locks locks n → PartsLeft told parts pages locks n (index_at parts.pages.layout index).table
index_left told parts pages locks n index k within others order counts = record {
  leaves = others.leaves;
  pages_left = λ tells place apart. others.pages tells place (λ same. apart (inr (index, within, refl, same)));
  order = λ i below tells ordered. elim (cases_eq i index) [
    | inl same ↦ subst (λ (m : ℕ). IsIndexInOrder parts.pages.layout.sizes.index_blocks (index_page parts.pages.layout pages.pages m)) (sym same)
        (order tells (subst (λ (m : ℕ). IsIndexInOrder parts.pages.layout.sizes.index_blocks (index_page parts.pages.layout parts.pages.pages m)) same ordered))
    | inr other ↦ subst (IsIndexInOrder parts.pages.layout.sizes.index_blocks) (λ j block. sym (others.pages tells (record { relation = index_relation parts.pages.layout i; block = block })
        (λ (same : index_relation parts.pages.layout i ≡ index_relation parts.pages.layout index). other (omega (arith, same)))) j) ordered
  ];
  limit = counts.limit;
  counts = λ m other. counts.adds.others m other;
}

-- what a statement's machine needs of its session and of what it has in hand, and what it is seen as
pub record RunsIn {D : Type 0} (told : D → Told) (parts : Parts D) (n : ℕ) (was : Hand) (table : ℕ) (a : ℕ → MachineView) : Type 0 where
  pub fit : IsFit told parts n was
  pub plain : IsPlainHand was
  pub is : (k : ℕ) → IsSeenSo parts.pages.layout table was (a k)

module _ {D : Type 0} (told : D → Told) (parts : Parts D) (n : ℕ) (was : Hand) (table : ℕ) (a : ℕ → MachineView) (runs : RunsIn told parts n was table a) where
  pub fits : FitsParts told parts n (Some was)
  fits = fit_of_parts told parts n was runs.fit

  pub within : table < length parts.rights
  within = let as_many = fits.rights in let below = (runs.is 0).below in omega (arith, as_many, below)

  abbrev pub old_store : List (List ℕ) → List (Option Hand) → ShownStore
  old_store names hand_list = shown_of (store_of parts names hand_list)

  abbrev pub stands : (names : List (List ℕ)) (hand_list : List (Option Hand)) → hand_in hand_list n ≡ Some was → (p : Place) → IsPlaceOf (old_store names hand_list) p → StandsIn (old_store names hand_list) n was table
  stands names hand_list has p shown = record { had = has; below = (runs.is 0).below; place = p; shown = shown }

  -- so many blocks its table's heap has there
  abbrev pub blocks_in : (names : List (List ℕ)) (hand_list : List (Option Hand)) → hand_in hand_list n ≡ Some was → (p : Place) → IsPlaceOf (old_store names hand_list) p → ℕ
  blocks_in names hand_list has p shown = length (here (old_store names hand_list) n was table (stands names hand_list has p shown)).blocks

  module _ (pages : View D) (locks : LockState) (rights : List (Option ℕ)) (queue : List (ℕ × ℕ)) (left : PartsLeft told parts pages locks n table) (stays : OthersStay table n parts.rights rights) where
    abbrev pub new : Parts D
    new = with_queue parts pages locks rights queue

    abbrev pub new_store : List (List ℕ) → List (Option Hand) → Option Hand → ShownStore
    new_store names hand_list h = shown_of (store_of new names (with_hand hand_list n h))

    over : IsOver told parts.transactions.tx pages
    over = over_kept told parts.transactions.tx parts.pages pages fits.over left.leaves
        (λ tells block. left.pages_left tells (record { relation = status_relation; block = block }) (no_statuses parts.pages.layout table))

    fits_then : (h : Option Hand) → FitsHand parts.pages.layout (transaction_of parts.transactions.opens n) h → locks_of locks n ≤ locks_held h → hand_share h ≡ 0
        → ((t : ℕ) → right_of rights t ≡ Some n → right_held parts.pages.layout h ≡ Some t) → FitsParts told new n h
    fits_then h in_hand own share held = record {
      session = fits.session;
      over = over;
      in_hand = subst (λ (l : DiskLayout). FitsHand l (transaction_of parts.transactions.opens n) h) (sym left.leaves.layout) in_hand;
      limit = left.limit ∙ fits.limit;
      own = own;
      held = λ t holds. ap (λ (l : DiskLayout). right_held l h) left.leaves.layout ∙ held t holds;
      rights = stays.tables ∙ fits.rights ∙ ap (λ (l : DiskLayout). length l.schema.tables) (sym left.leaves.layout);
      entries = fits.entries;
      share = let more = fits.share in let none = runs.plain.share in omega (arith, more, share, none);
    }

    -- its session holds no summarise lock of another table, and of its own only what it has in hand
    held_as : (h : Option Hand) → (right_of rights table ≡ Some n → right_held parts.pages.layout h ≡ Some table) → (t : ℕ) → right_of rights t ≡ Some n → right_held parts.pages.layout h ≡ Some t
    held_as h own t holds = elim (cases_eq t table) [
      | inl same ↦ own (ap (λ (x : ℕ). right_of rights x) (sym same) ∙ holds) ∙ ap Some (sym same)
      | inr away ↦ absurd (away ((runs.is 0).right t (fits.held t (sym (stays.apart t away) ∙ holds))))
    ]

    held_same : (h : Option Hand) → right_held parts.pages.layout h ≡ right_held parts.pages.layout (Some was) → rights ≡ parts.rights → (t : ℕ) → right_of rights t ≡ Some n → right_held parts.pages.layout h ≡ Some t
    held_same h same same_rights t holds = same ∙ fits.held t (ap (λ (r : List (Option ℕ)). right_of r t) (sym same_rights) ∙ holds)

    stays_fit : (answer : Stepped) → FitsParts told new n (hand_after answer) → StaysFit told parts new n was answer
    stays_fit answer fits_so names hand_list has = fit_of_stores told new n (hand_after answer) names (with_hand hand_list n (hand_after answer)) fits_so (hand_changes hand_list n was (hand_after answer) has).own

    leaves_others : (answer : Stepped) → hand_share (hand_after answer) ≡ 0 → LeavesTheOthers told parts new n was answer
    leaves_others answer share names hand_list has = record {
      leaves = left.leaves;
      transactions = λ m apart. refl;
      locks = λ m apart. left.counts m apart;
      rights = λ m other apart holds. stays.theirs m other apart holds;
      dropped = λ m apart. refl;
      promised = ap (λ (h : Option Hand). parts.journal.promised + share_of h (transaction_of parts.transactions.opens n)) has
          ∙ ap (λ (s : ℕ). parts.journal.promised + s) same
          ∙ ap (λ (h : Option Hand). parts.journal.promised + share_of h (transaction_of parts.transactions.opens n)) (sym (hand_changes hand_list n was (hand_after answer) has).own);
    }
      where
        same : share_of (Some was) (transaction_of parts.transactions.opens n) ≡ share_of (hand_after answer) (transaction_of parts.transactions.opens n)
        same = let none = runs.plain.share in omega (arith, share, none)

    locks_so : LocksLeft parts.pages.layout parts.locks locks n table → (names : List (List ℕ)) (hand_list : List (Option Hand)) (h : Option Hand) → ChangesLocks n table (old_store names hand_list) (new_store names hand_list h)
    locks_so (inl same) names hand_list h = SameLocks same
    locks_so (inr (inl (relation, is, changes))) names hand_list h = LocksIn relation is changes
    locks_so (inr (inr gives)) names hand_list h = GivesLocks gives

    module _ (changes : LocksLeft parts.pages.layout parts.locks locks n table) (ready : StaysReady parts.pages pages) where
      pub left_so : (names : List (List ℕ)) (hand_list : List (Option Hand)) (has : hand_in hand_list n ≡ Some was) → Tells told parts.pages → (h : Option Hand) → StepLeft (old_store names hand_list) (new_store names hand_list h) n table
      left_so names hand_list has tells h = record {
        others = record { layout = left.leaves.layout; names = refl; first = refl; hands = (hand_changes hand_list n was h has).others; opens = λ m apart. refl };
        pages = left.pages_left tells;
        locks = locks_so changes names hand_list h;
        rights = stays.apart;
        order = λ i below ordered. left.order i below tells ordered;
        transactions = refl;
        entries = refl;
        dropped = refl;
        few = fits.entries;
      }

      -- its machine's step in each place that is shown
      abbrev pub Makes : Option Hand → (ℕ → MachineView) → Point → Type 0
      Makes h b point = (names : List (List ℕ)) (hand_list : List (Option Hand)) (has : hand_in hand_list n ≡ Some was) → Tells told parts.pages → (p : Place) (shown : IsPlaceOf (old_store names hand_list) p)
          → (made : MadeSo (old_store names hand_list) (new_store names hand_list h) n was table (stands names hand_list has p shown) point (b (blocks_in names hand_list has p shown)).task)
          × (b (blocks_in names hand_list has p shown)).tells made.account

      -- it goes on
      pub moved_so : (next : Hand) (b : ℕ → MachineView) → IsPlainHand next → ((k : ℕ) → IsSeenSo parts.pages.layout table next (b k)) → statement_of next ≡ statement_of was → IsHandFor parts.pages.layout (transaction_of parts.transactions.opens n) next
          → locks_of locks n ≤ locks_held (Some next) → right_held parts.pages.layout (Some next) ≡ Some table → ((k : ℕ) (so_far : Account) → (b k).tells so_far → TellsSo next so_far) → ((k : ℕ) → (b k).task ≢ Resting)
          → (point : Point) → Makes (Some next) b point → StepsSo told parts new n was (stepped.Moved point next)
      moved_so next b next_plain is_then same in_hand own right told_then busy point makes = record {
        steps = λ names hand_list has tells first then p shown.
            let made = makes names hand_list has tells p shown in
            let k = blocks_in names hand_list has p shown in
            goes_on (old_store names hand_list) (new_store names hand_list (Some next)) n was runs.plain table (stands names hand_list has p shown) (left_so names hand_list has tells (Some next)) (runs.is 0).in_table point (b k).task made.0
            next (b k) next_plain (is_then k) refl same (hand_changes hand_list n was (Some next) has).own (told_then k made.0.account made.1) (busy k);
        fit = stays_fit (stepped.Moved point next) (fits_then (Some next) in_hand own next_plain.share (held_as (Some next) (λ holds. right)));
        others = leaves_others (stepped.Moved point next) next_plain.share;
        stays = λ names hand_list has. same;
        cause = ready;
      }

      module _ (none : locks_of locks n ≡ 0) (lacks : right_of rights table ≢ Some n) where
        fits_none : FitsParts told new n None
        fits_none = fits_then None tt (omega (arith, none)) refl (held_as None (λ holds. absurd (lacks holds)))

        -- what the definition tells behind that step
        abbrev pub RepliesSo : (ℕ → MachineView) → Point → Reply → Type 0
        RepliesSo b point reply = (names : List (List ℕ)) (hand_list : List (Option Hand)) (has : hand_in hand_list n ≡ Some was) (p : Place) (shown : IsPlaceOf (old_store names hand_list) p)
            (made : MadeSo (old_store names hand_list) (new_store names hand_list None) n was table (stands names hand_list has p shown) point (b (blocks_in names hand_list has p shown)).task)
            → (b (blocks_in names hand_list has p shown)).tells made.account → (made.account.dropped ≡ []) × (Some reply ≡ reply_after p.layout table made.between made.account [] (statement_of was))

        -- it replies
        pub done_so : (b : ℕ → MachineView) → ((k : ℕ) → (b k).task ≡ Resting) → (point : Point) (reply : Reply) → RepliesSo b point reply → Makes None b point → StepsSo told parts new n was (stepped.Done reply)
        done_so b rests point reply replies makes = record {
          steps = λ names hand_list has tells first then p shown.
              let made = makes names hand_list has tells p shown in
              let said = replies names hand_list has p shown made.0 made.1 in
              is_done (old_store names hand_list) (new_store names hand_list None) n was runs.plain table (stands names hand_list has p shown) (left_so names hand_list has tells None) (runs.is 0).in_table point (b (blocks_in names hand_list has p shown)).task made.0
              (hand_changes hand_list n was None has).own (rests (blocks_in names hand_list has p shown)) said.0 reply said.1;
          fit = stays_fit (stepped.Done reply) fits_none;
          others = leaves_others (stepped.Done reply) refl;
          stays = λ names hand_list has. tt;
          cause = ready;
        }

        -- it is refused
        pub refused_so : (reply : Reply) → ((names : List (List ℕ)) (hand_list : List (Option Hand)) (has : hand_in hand_list n ≡ Some was) → Tells told parts.pages → (p : Place) (shown : IsPlaceOf (old_store names hand_list) p)
            → StepLeft (old_store names hand_list) (new_store names hand_list None) n table → hand_in (with_hand hand_list n None) n ≡ None → (q : Place) × IsPlaceOf (new_store names hand_list None) q × Steps p n (Ended reply) q)
            → StepsSo told parts new n was (stepped.Done reply)
        refused_so reply makes = record {
          steps = λ names hand_list has tells first then p shown. makes names hand_list has tells p shown (left_so names hand_list has tells None) (hand_changes hand_list n was None has).own;
          fit = stays_fit (stepped.Done reply) fits_none;
          others = leaves_others (stepped.Done reply) refl;
          stays = λ names hand_list has. tt;
          cause = ready;
        }

    -- what is in hand then is the same statement, with the summarise lock that it had
    module _ (next : Hand) (next_plain : IsPlainHand next) (same : statement_of next ≡ statement_of was) (in_hand : IsHandFor parts.pages.layout (transaction_of parts.transactions.opens n) next)
        (own : locks_of locks n ≤ locks_held (Some next)) (right : right_held parts.pages.layout (Some next) ≡ right_held parts.pages.layout (Some was)) (same_rights : rights ≡ parts.rights) where
      -- nothing changed but the statement, which is at the same task
      pub waits_so : (b : ℕ → MachineView) → ((k : ℕ) → IsSeenSo parts.pages.layout table next (b k)) → ((k : ℕ) → (b k).task ≡ (a k).task) → ((so_far : Account) → TellsSo was so_far → TellsSo next so_far) → StaysReady parts.pages pages
          → Keeps told parts.pages pages → locks ≡ parts.locks → queue ≡ parts.queue → (what : What) (by : ℕ) → (by ≢ n) × ((1 ≤ locks_of parts.locks by) ⊎ ((t : ℕ) × (right_of parts.rights t ≡ Some by)))
          → ((names : List (List ℕ)) (hand_list : List (Option Hand)) (has : hand_in hand_list n ≡ Some was) → Tells told parts.pages → (p : Place) (shown : IsPlaceOf (old_store names hand_list) p) → Steps p n (Waits (refusals.Blocked what (name_of p by))) p)
          → StepsSo told parts new n was (stepped.Blocked what by next)
      waits_so b is_then same_task told_then ready keeps same_locks same_queue what by holder_is waits = record {
        steps = λ names hand_list has tells first then p shown. (
          p,
          stays_shown (old_store names hand_list) (new_store names hand_list (Some next)) n was next runs.plain next_plain table (stands names hand_list has p shown) (left_so (inl same_locks) ready names hand_list has tells (Some next)) (a 0) (b 0) (runs.is 0) (is_then 0) (same_task 0) (record {
            same = same;
            told = told_then;
            now = (hand_changes hand_list n was (Some next) has).own;
            pages = λ place. ap (λ (m : PageMap). page_at m place) (keeps.pages tells);
            locks = same_locks;
            rights = same_rights;
            queue = same_queue;
          }),
          waits names hand_list has tells p shown,
        );
        fit = stays_fit (stepped.Blocked what by next) (fits_then (Some next) in_hand own next_plain.share (held_same (Some next) right same_rights));
        others = leaves_others (stepped.Blocked what by next) next_plain.share;
        stays = λ names hand_list has. (record { pages = keeps; transactions = refl; locks = same_locks; rights = same_rights; journal = refl; queue = same_queue; dropped = refl }, same, holder_is);
        cause = ready;
      }

      -- the pages refuse it
      pub undone_so : (error : StoreError) → Refused told (Untold told parts.pages) parts.pages pages error → NamesAPage parts.pages.layout error → StepsSo told parts new n was (stepped.Undone (fault_of error) next)
      undone_so error refused names_page = record {
        steps = λ names hand_list has tells first then p shown. absurd (never_shown told parts.pages pages error refused tells first then);
        fit = stays_fit (stepped.Undone (fault_of error) next) (fits_then (Some next) in_hand own next_plain.share (held_same (Some next) right same_rights));
        others = leaves_others (stepped.Undone (fault_of error) next) next_plain.share;
        stays = λ names hand_list has. enters_none told _ _ n was next error refl same;
        cause = has_cause told parts.pages pages error refused names_page;
      }
