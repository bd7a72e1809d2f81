-- a step of a vacuum's cleaning, over the parts of a store
use Rattle.std.proofs.Common.{◌≡◌, ◌≢◌, inl, inr, ℕ, ◌+◌, ◌<◌, List, length, Option, None, Some, refl, sym, ap, subst, ◌∙◌, arith}
use Rattle.std.proofs.lemmas.Bool.{cases_eq}
use Rattle.disk_trait.specs.Told.{Told}
use Rattle.block_model.specs.declared.place.Place.{Place as PagePlace}
use Rattle.store_layout.specs.DiskLayout.{DiskLayout}
use Rattle.page_layout.specs.PageContents.{Slot}
use Rattle.page_map.specs.Keeps.{Leaves, Tells}
use Rattle.page_map.specs.PageMap.{View, page_at}
use Rattle.page_locks.specs.declared.did.Did.{Did}
use Rattle.page_locks.specs.RightHolders.{right_of}
use Rattle.heap_rows.specs.HeapBlocks.{HasBlocks}
use Rattle.snapshot_core.specs.StoredVersions.{transaction_of}
use Rattle.tx_table.specs.Kept.{over_kept}
use Rattle.tx_table.specs.Statuses.{status_relation}
use Rattle.tx_table.specs.TxState.{IsOver}
use Rattle.transactions.proofs.Standing.{one_blocks}
use Rattle.index_contents.specs.KeepsOrder.{KeepsOrder}
use Rattle.coverage.specs.TableCovered.{IsMaintenance}
use Rattle.vacuum_core.specs.declared.standing.Standing.{Standing}
use Rattle.vacuum_core.specs.declared.standing.Standing.TheVariants as standings
use Rattle.vacuum_core.specs.DeadRows.{DropsTheDead, living}
use Rattle.vacuum_core.specs.TableSteps.{DoesInTable, task_at, task_of}
use Rattle.vacuum_core.specs.Vacuums.{HasHeap, IsVacuumOf, LeavesTheRest, PrunesAt, VacuumDoes, VacuumState, VacuumStep, step_of}
use Rattle.vacuum_core.proofs.Tables.{locked_by}
use Rattle.script_semantics.specs.Place.{Place}
use Rattle.session_maintenance.specs.DeadToAll.{DropsTheDeadByJournal, OldestSpeaksForAll, oldest_snapshots}
use Rattle.session_maintenance.specs.Watched.{TableIsSpared}
use Rattle.session_parts.specs.declared.hand.Cleaning.{Cleaning}
use Rattle.session_parts.specs.declared.hand.Hand.{Hand}
use Rattle.session_parts.specs.declared.hand.Hand.TheVariants as hands
use Rattle.session_parts.specs.declared.hand.Stepped.{Stepped}
use Rattle.session_parts.specs.declared.parts.Parts.{Parts}
use Rattle.session_parts.specs.HandFits.{FitsHand, right_held}
use Rattle.session_parts.specs.Leaving.{IsRelationOf}
use Rattle.session_parts.specs.Shares.{hand_share, share_of}
use Rattle.session_parts.specs.ShowsPlace.{IsPlaceOf}
use Rattle.session_parts.specs.StepIs.{hand_after}
use Rattle.session_parts.specs.Stepping.{IsFit, IsShown, LeavesTheOthers, StaysFit}
use Rattle.session_parts.specs.StoreStates.{ShownStore, hand_in, shown_of, store_of, with_hand}
use Rattle.session_parts.specs.UndoneLaws.{FitsParts}
use Rattle.session_parts.proofs.Stores.{hand_changes}
use Rattle.session_parts.proofs.Undone.{fit_of_parts, fit_of_stores}
use Rattle.session_maintenance.proofs.SummariseLocks.{OthersStay}
use Rattle.session_maintenance.proofs.CleaningAt.{CleaningLeft, at_task, here, kept_here, pages_show, u}
use Rattle.session_maintenance.proofs.CleaningMade.{StillShown}
use Rattle.session_maintenance.proofs.CleaningRights.{IsBegun, drops_from, heaps_left, its_right, rest_left}
use Rattle.session_maintenance.proofs.CleaningSteps.{no_statuses}
use Rattle.session_maintenance.proofs.StillShown.{IsBeside, beside_shown, pruned_shown}

-- the parts with these pages and summarise locks
abbrev pub with_these : {D : Type 0} → Parts D → View D → List (Option ℕ) → Parts D
with_these parts pages rights = record parts { pages = pages; rights = rights }

-- what the law of its machine says
abbrev pub StepsInTable : Type 0
StepsInTable = (step : VacuumStep) (a b : VacuumState) (answer : Did) → IsVacuumOf step.layout a → VacuumDoes step a b answer → DoesInTable step a b answer

-- which rows are dead, by the oldest open transaction's snapshot and by the journal, and that nobody wants them
pub record DeadLaws : Type 0 where
  pub oldest : OldestSpeaksForAll
  pub by_journal : DropsTheDeadByJournal
  pub spared : TableIsSpared

module _ {D : Type 0} (told : D → Told) (parts : Parts D) (n : ℕ) (c : Cleaning) (fit : IsFit told parts n (hands.Cleans c)) where
  abbrev pub was : Hand
  was = hands.Cleans c

  pub fits : FitsParts told parts n (Some (hands.Cleans c))
  fits = fit_of_parts told parts n (hands.Cleans c) fit

  pub of : IsVacuumOf parts.pages.layout c.vacuum
  of = fits.in_hand.vacuum

  pub within : c.vacuum.table < length parts.rights
  within = let as_many = fits.rights in let below = of.table in omega (arith, as_many, below)

  -- where the store shows a place its table has its heap
  pub heap_there : IsShown told parts n (hands.Cleans c) → parts.pages.failed ≡ None → Tells told parts.pages → HasHeap parts.pages.layout parts.pages.pages c.vacuum.table
  heap_there shown first tells =
      let shows = (shown tells first).3.1.tables c.vacuum.table of.table in
      record { blocks = shows.blocks; has = shows.has }

  -- what its machine's step told of the pages and itself
  pub record MachineLeft (pages : View D) (b : VacuumState) : Type 0 where
    pub of_then : IsVacuumOf parts.pages.layout b
    pub table : b.table ≡ c.vacuum.table
    pub others : LeavesTheRest told c.vacuum c.vacuum.standing parts.pages pages
    pub leaves : Leaves told parts.pages pages
    pub order : (index : ℕ) → index < length parts.pages.layout.schema.indexes → KeepsOrder told index parts.pages pages

  module _ (pages : View D) (b : VacuumState) (left : MachineLeft pages b) where
    pub pages_left : Tells told parts.pages → (place : PagePlace) → (IsRelationOf parts.pages.layout c.vacuum.table place.relation → ⊥) → page_at pages.pages place ≡ page_at parts.pages.pages place
    pages_left tells = rest_left told c.vacuum parts.pages pages of.indexes tells c.vacuum.standing of.stands left.others

    pub over : IsOver told parts.transactions.tx pages
    over = over_kept told parts.transactions.tx parts.pages pages fits.over left.leaves
        (λ tells block. pages_left tells (record { relation = status_relation; block = block }) (no_statuses parts.pages.layout c.vacuum.table))

    -- ---- with these summarise locks

    module _ (rights : List (Option ℕ)) (stays : OthersStay c.vacuum.table n parts.rights rights) where
      abbrev new : Parts D
      new = with_these parts pages rights

      pub fits_then : (h : Option Hand) → FitsHand parts.pages.layout (transaction_of parts.transactions.opens n) h → hand_share h ≡ 0
          → ((t : ℕ) → right_of rights t ≡ Some n → right_held parts.pages.layout h ≡ Some t) → FitsParts told new n h
      fits_then h in_hand share held = record {
        session = fits.session;
        over = over;
        in_hand = subst (λ (l : DiskLayout). FitsHand l (transaction_of parts.transactions.opens n) h) (sym left.leaves.layout) in_hand;
        limit = fits.limit;
        own = let none = fits.own in omega (arith, none);
        held = λ t holds. ap (λ (l : DiskLayout). right_held l h) left.leaves.layout ∙ held t holds;
        rights = stays.tables ∙ fits.rights ∙ ap (λ (l : DiskLayout). length l.schema.tables) (sym left.leaves.layout);
        entries = fits.entries;
        share = let more = fits.share in omega (arith, more, share);
      }

      -- its session holds no summarise lock of another table
      apart_free : (t : ℕ) → t ≢ c.vacuum.table → right_of rights t ≡ Some n → ⊥
      apart_free t away holds = away (its_right c.vacuum.table t c.vacuum.standing (fits.held t (sym (stays.apart t away) ∙ holds)))

      -- and of its own only what it has in hand
      pub held_by : (h : Option Hand) → right_held parts.pages.layout h ≡ Some c.vacuum.table → (t : ℕ) → right_of rights t ≡ Some n → right_held parts.pages.layout h ≡ Some t
      held_by h has t holds = elim (cases_eq t c.vacuum.table) [
        | inl same ↦ has ∙ ap Some (sym same)
        | inr away ↦ absurd (apart_free t away holds)
      ]

      pub held_none : right_of rights c.vacuum.table ≢ Some n → (t : ℕ) → right_of rights t ≡ Some n → right_held parts.pages.layout None ≡ Some t
      held_none lacks t holds = elim (cases_eq t c.vacuum.table) [
        | inl same ↦ absurd (lacks (ap (λ (x : ℕ). right_of rights x) (sym same) ∙ holds))
        | inr away ↦ absurd (apart_free t away holds)
      ]

      pub stays_fit : (answer : Stepped) → FitsParts told new n (hand_after answer) → StaysFit told parts new n was answer
      stays_fit answer fits_so names hand_list has = fit_of_stores told new n (hand_after answer) names (with_hand hand_list n (hand_after answer)) fits_so (hand_changes hand_list n was (hand_after answer) has).own

      pub leaves_others : (answer : Stepped) → hand_share (hand_after answer) ≡ 0 → LeavesTheOthers told parts new n was answer
      leaves_others answer share names hand_list has = record {
        leaves = left.leaves;
        transactions = λ m apart. refl;
        locks = λ m apart. refl;
        rights = λ m other apart holds. stays.theirs m other apart holds;
        dropped = λ m apart. refl;
        promised = ap (λ (h : Option Hand). parts.journal.promised + share_of h (transaction_of parts.transactions.opens n)) has
            ∙ ap (λ (s : ℕ). parts.journal.promised + s) same
            ∙ ap (λ (h : Option Hand). parts.journal.promised + share_of h (transaction_of parts.transactions.opens n)) (sym (hand_changes hand_list n was (hand_after answer) has).own);
      }
        where
          same : share_of (Some was) (transaction_of parts.transactions.opens n) ≡ share_of (hand_after answer) (transaction_of parts.transactions.opens n)
          same = omega (arith, share)

      -- ---- in each place that is shown

      module _ (names : List (List ℕ)) (hand_list : List (Option Hand)) (has : hand_in hand_list n ≡ Some was) (tells : Tells told parts.pages) where
        abbrev pub old_store : ShownStore
        old_store = shown_of (store_of parts names hand_list)

        abbrev pub new_store : Option Hand → ShownStore
        new_store h = shown_of (store_of new names (with_hand hand_list n h))

        abbrev pub left_so : (h : Option Hand) → CleaningLeft old_store (new_store h) n c
        left_so h = record {
          had = has;
          below = of.table;
          others = record {
            layout = left.leaves.layout;
            names = refl;
            first = refl;
            hands = (hand_changes hand_list n was h has).others;
            opens = λ m apart. refl;
          };
          pages = pages_left tells;
          locks = refl;
          rights = stays.apart;
          order = λ i below ordered. left.order i below tells ordered;
          transactions = refl;
          entries = refl;
          queue = refl;
          dropped = refl;
          few = fits.entries;
        }

        module _ (p : Place) (shown : IsPlaceOf old_store p) where
          -- behind its first step it has the summarise lock
          pub holds_there : IsBegun c.vacuum.standing → right_of parts.rights c.vacuum.table ≡ Some n
          holds_there begun = sym (here old_store n c has of.table p shown).lock
              ∙ locked_by n (pages_show old_store n c has of.table p shown) (u old_store n c has of.table p shown) (task_of c.vacuum) (maintains c.vacuum.standing begun fits.in_hand.left)
              (at_task old_store n c has of.table p shown) (kept_here old_store n c has of.table p shown)
            where
              maintains : (standing : Standing) → IsBegun standing → standing ≢ standings.Done → IsMaintenance (task_at c.vacuum standing)
              maintains standings.Begins begun left = absurd begun
              maintains (standings.Prunes block) begun left = tt
              maintains (standings.Sweeps at block) begun left = tt
              maintains standings.Done begun left = absurd (left refl)

          -- and where its step leaves these blocks, the same is shown
          module _ (laws : DeadLaws) (h : Option Hand) (now : List (List Slot)) (has_now : HasBlocks parts.pages.layout pages.pages c.vacuum.table now) (righted : List (Option ℕ)) (answer : Did)
              (does : VacuumDoes (step_of parts.pages.layout parts.pages.pages pages.pages parts.locks parts.rights righted n (here old_store n c has of.table p shown).blocks now) c.vacuum b answer)
              (pruned : PrunesAt told parts.pages pages (oldest_snapshots parts.transactions.opens) parts.transactions.tx.first c.vacuum c.vacuum.standing) where
            abbrev Still : Type 0
            Still = StillShown old_store (new_store h) n c has of.table p shown now

            beside : IsBeside c.vacuum.standing → Still
            beside at = beside_shown old_store (new_store h) n c has of.table p shown now has_now
                (λ block. pages_left tells (record { relation = status_relation; block = block }) (no_statuses parts.pages.layout c.vacuum.table))
                (λ table block below. heaps_left told c.vacuum parts.pages pages of.indexes tells c.vacuum.standing at left.others table block below) at

            dead_went : (block : ℕ) → c.vacuum.standing ≡ standings.Prunes block
                → DropsTheDead (living (oldest_snapshots parts.transactions.opens) parts.transactions.tx.first shown.database.stored) (here old_store n c has of.table p shown).blocks now block
            dead_went block at =
                let it = subst (PrunesAt told parts.pages pages (oldest_snapshots parts.transactions.opens) parts.transactions.tx.first c.vacuum) at pruned tells shown.database.stored shown.database.has
                tells (here old_store n c has of.table p shown).blocks (here old_store n c has of.table p shown).has in
                subst (λ (l : List (List Slot)). DropsTheDead (living (oldest_snapshots parts.transactions.opens) parts.transactions.tx.first shown.database.stored) (here old_store n c has of.table p shown).blocks l block)
                (one_blocks parts.pages.layout pages.pages c.vacuum.table it.0 now it.1 has_now) it.2

            still_by : (standing : Standing) → c.vacuum.standing ≡ standing → Still
            still_by standings.Begins at = beside (subst IsBeside (sym at) tt)
            still_by (standings.Prunes block) at =
                let from = drops_from (step_of parts.pages.layout parts.pages.pages pages.pages parts.locks parts.rights righted n (here old_store n c has of.table p shown).blocks now) c.vacuum b answer does block at in
                let rest = subst (λ (q : Standing). LeavesTheRest told c.vacuum q parts.pages pages) at left.others in
                pruned_shown old_store (new_store h) n c has of.table p shown now has_now laws.oldest laws.by_journal laws.spared block from.0 at (rest.pages tells) from.1 (dead_went block at)
            still_by (standings.Sweeps at block) is = beside (subst IsBeside (sym is) tt)
            still_by standings.Done at = absurd (fits.in_hand.left at)

            pub still_so : Still
            still_so = still_by c.vacuum.standing refl
