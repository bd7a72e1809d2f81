-- what stays shown behind a step of a vacuum's cleaning: one that leaves its table's heap, and one that drops the dead rows of a block
use Rattle.std.proofs.Common.{◌≡◌, ◌≢◌, ◌⊎◌, inl, inr, ⊎_elim, ℕ, ◌<◌, false, List, length, None, Some, refl, sym, ap, subst, ◌∙◌}
use Rattle.std.specs.Prelude.{◌↔◌, IsTrue}
use Rattle.std.proofs.lemmas.Option.{none-some, same_Some}
use Rattle.block_model.specs.declared.place.Spot.{Spot}
use Rattle.block_model.specs.declared.row.Row.{Row}
use Rattle.page_layout.specs.PageContents.{Slot}
use Rattle.page_layout.specs.RowBytes.{StoredRow}
use Rattle.page_map.specs.PageMap.{block_at}
use Rattle.heap_rows.specs.HeapBlocks.{HasBlocks}
use Rattle.heap_rows.specs.Heaps.{relation_of as heap_of}
use Rattle.heap_rows.specs.RowPlaces.{slot_at}
use Rattle.index_steps.specs.ShownRows.{row_in, rows_in, shown_by}
use Rattle.snapshot_core.specs.declared.statuses.Status.{Status}
use Rattle.snapshot_core.specs.Visibility.{in_snapshot}
use Rattle.tx_table.specs.Statuses.{status_relation}
use Rattle.transactions.specs.StoredRows.{OtherRelationsStay}
use Rattle.transactions.proofs.Alike.{shown_alike}
use Rattle.transactions.proofs.Standing.{one_blocks}
use Rattle.coverage.specs.Table.{Prunes}
use Rattle.coverage.specs.TableSteps.{HasPut, SeesPlace}
use Rattle.vacuum_core.specs.DeadRows.{DropsFrom, DropsTheDead, living}
use Rattle.vacuum_core.specs.declared.standing.Standing.{Standing}
use Rattle.vacuum_core.specs.declared.standing.Standing.TheVariants as standings
use Rattle.vacuum_core.specs.TableSteps.{has_gone, task_at}
use Rattle.vacuum_core.specs.Vacuums.{VacuumState}
use Rattle.vacuum_core.proofs.InTable.{none_spared}
use Rattle.script_semantics.specs.DeadRows.{IsDead}
use Rattle.script_semantics.specs.Place.{Place, database_at}
use Rattle.session_parts.specs.RowsFollow.{DropsRows}
use Rattle.session_parts.proofs.Following.{drop_follows, same_heaps_follow}
use Rattle.session_maintenance.specs.DeadToAll.{DropsTheDeadByJournal, OldestSpeaksForAll, living_of, oldest_snapshots}
use Rattle.session_maintenance.specs.Watched.{TableIsSpared}
use Rattle.session_parts.specs.declared.hand.Cleaning.{Cleaning}
use Rattle.session_parts.specs.declared.hand.Hand.TheVariants as hands
use Rattle.session_parts.specs.HandsInTables.{sight_of}
use Rattle.session_parts.specs.Leaving.{SeenRowsStay, SeenSlotsStay}
use Rattle.session_parts.specs.ShowsPlace.{IsPlaceOf}
use Rattle.session_parts.specs.StoreStates.{ShownStore, hand_in}
use Rattle.session_parts.proofs.Leads.{nothing_leaves_slots}
use Rattle.session_parts.proofs.Tables.{all_rows_stay, same_blocks}
use Rattle.session_maintenance.proofs.CleaningAt.{at_task, here, u}
use Rattle.session_maintenance.proofs.CleaningMade.{StillShown}
use Rattle.session_maintenance.proofs.DeadUnseen.{dead_unseen}
use Rattle.session_maintenance.proofs.DroppedRows.{dropped_shown}

-- at no block of its heap
abbrev pub IsBeside : Standing → Type 0
IsBeside standings.Begins = Unit {0}
IsBeside (standings.Sweeps at block) = Unit {0}
IsBeside standing = ⊥

no_prune : (a : VacuumState) (standing : Standing) → IsBeside standing → (extent next : ℕ) → task_at a standing ≢ Prunes extent next
no_prune a standings.Begins beside extent next = λ is. cc
no_prune a (standings.Prunes block) beside extent next = absurd beside
no_prune a (standings.Sweeps at block) beside extent next = λ is. cc
no_prune a standings.Done beside extent next = absurd beside

at_its_block : (a : VacuumState) (block extent next : ℕ) → task_at a (standings.Prunes block) ≡ Prunes extent next → block ≡ next
at_its_block a block extent next is = cc

gone_from : (table : ℕ) (row : StoredRow) (before after : Slot) → before ≡ Some row → after ≡ None → IsTrue (has_gone (row_in table before) (row_in table after))
gone_from table row None after was none = absurd (none-some row was)
gone_from table row (Some x) None was none = refl
gone_from table row (Some x) (Some y) was none = absurd (none-some y (sym none))

module _ (old new : ShownStore) (n : ℕ) (c : Cleaning) (had : hand_in old.hands n ≡ Some (hands.Cleans c)) (below : c.vacuum.table < length old.layout.schema.tables) (p : Place) (shown : IsPlaceOf old p) (now : List (List Slot))
    (has : HasBlocks old.layout new.pages c.vacuum.table now) where
  abbrev table : ℕ
  table = c.vacuum.table

  abbrev stored : List Status
  stored = shown.database.stored

  abbrev blocks : List (List Slot)
  blocks = (here old n c had below p shown).blocks

  -- the pages of statuses and of heaps stay
  module _ (statuses : (block : ℕ) → block_at new.pages status_relation block ≡ block_at old.pages status_relation block)
      (heaps : (other block : ℕ) → other < length old.layout.schema.tables → block_at new.pages (heap_of other) block ≡ block_at old.pages (heap_of other) block) (beside : IsBeside c.vacuum.standing) where
    same_now : blocks ≡ now
    same_now = one_blocks old.layout new.pages table blocks now (same_blocks old.layout old.pages new.pages table blocks (λ block. heaps table block below) (here old n c had below p shown).has) has

    seen_same : SeenSlotsStay n old (u old n c had below p shown).task stored blocks blocks
    seen_same =
        let slots = nothing_leaves_slots old stored n blocks in
        record { rows = λ m away. all_rows_stay ((u old n c had below p shown).task m) blocks blocks slots.rows; seen = slots.seen; lacks = slots.lacks }

    pub beside_shown : StillShown old new n c had below p shown now
    beside_shown = record {
      database = shown_alike old.layout old.pages new.pages old.transactions (database_at p) statuses heaps shown.database;
      rows = same_heaps_follow old.layout old.pages new.pages old.transactions heaps;
      slots = subst (SeenSlotsStay n old (u old n c had below p shown).task stored blocks) same_now seen_same;
      spared = none_spared n (shown_by old.layout old.pages old.locks table blocks) (shown_by old.layout new.pages old.locks table now) (u old n c had below p shown)
          (λ b k. ap (λ (l : List (List Slot)). rows_in table l b k) (sym same_now));
      dead = λ extent next is. absurd (no_prune c.vacuum c.vacuum.standing beside extent next (sym (at_task old n c had below p shown) ∙ is));
    }

  -- the rows of a block go that are dead by the oldest open transaction's snapshot
  module _ (oldest : OldestSpeaksForAll) (by_journal : DropsTheDeadByJournal) (are_spared : TableIsSpared) (block count : ℕ) (at : c.vacuum.standing ≡ standings.Prunes block)
      (others : OtherRelationsStay old.pages new.pages table) (from : DropsFrom blocks now block count)
      (drops : DropsTheDead (living (oldest_snapshots old.transactions.opens) old.transactions.tx.first stored) blocks now block) where
    all_dead : DropsTheDead (living_of old.transactions stored) blocks now block
    all_dead = oldest old p table block blocks now shown below (here old n c had below p shown).has drops

    abbrev rows_go : DropsRows old.layout old.pages new.pages table
    rows_go = record {
      blocks = blocks;
      has = (here old n c had below p shown).has;
      later = now;
      leaves = has;
      slots = λ spot. ⊎_elim (λ (same : slot_at now spot ≡ slot_at blocks spot). inl same) (λ (gone : (spot.block ≡ block) × (slot_at now spot ≡ None)). inr gone.1) (from.slots spot);
      others = others;
    }

    spared : (m : ℕ) (spot : Spot) → m ≢ n → IsTrue (has_gone (row_in table (slot_at blocks spot)) (row_in table (slot_at now spot)))
        → HasPut spot.block spot.slot ((u old n c had below p shown).task m) ⊎ SeesPlace spot.block spot.slot ((u old n c had below p shown).task m) → ⊥
    spared m spot other = are_spared old p n table block (p.tables table) new.pages old.locks now shown (here old n c had below p shown) below all_dead m spot.block spot.slot other

    -- a row that stands then stood there
    stood : (spot : Spot) (row : StoredRow) → slot_at now spot ≡ Some row → slot_at blocks spot ≡ Some row
    stood spot row is = ⊎_elim (λ (same : slot_at now spot ≡ slot_at blocks spot). sym same ∙ is)
        (λ (gone : (spot.block ≡ block) × (slot_at now spot ≡ None)). absurd (none-some row (sym gone.1 ∙ is))) (from.slots spot)

    seen_rows : (m : ℕ) → m ≢ n → SeenRowsStay ((u old n c had below p shown).task m) blocks now
    seen_rows m other spot row sees there = ⊎_elim
        (λ (same : slot_at now spot ≡ slot_at blocks spot). (row, same ∙ there, refl, refl))
        (λ (gone : (spot.block ≡ block) × (slot_at now spot ≡ None)). absurd (spared m spot other
        (gone_from table row (slot_at blocks spot) (slot_at now spot) there gone.1) (inr sees))) (from.slots spot)

    slots_stay : SeenSlotsStay n old (u old n c had below p shown).task stored blocks now
    slots_stay = record {
      rows = seen_rows;
      seen = λ m o other is spot row there. inl (row, stood spot row there, refl);
      lacks = λ m o other is spot row later there then unmarked. subst (λ (x : StoredRow). in_snapshot o.snapshot x.deleter ((sight_of old.transactions.tx stored o).status x.deleter) ≡ false)
          (same_Some row later (sym there ∙ stood spot later then)) unmarked;
    }

    pub pruned_shown : StillShown old new n c had below p shown now
    pruned_shown = record {
      database = dropped_shown old.layout old.pages new.pages old.transactions (database_at p) shown.database table rows_go
          (λ spot row there none. dead_unseen old.layout old.pages old.transactions (database_at p) shown.database table spot row below
          (record { blocks = blocks; has = (here old n c had below p shown).has; there = there }) (all_dead.gone spot row there none).1);
      rows = drop_follows old.layout old.pages new.pages old.transactions table rows_go;
      slots = slots_stay;
      spared = are_spared old p n table block (p.tables table) new.pages old.locks now shown (here old n c had below p shown) below all_dead;
      dead = λ extent next is k.
          subst (λ (b : ℕ). IsTrue (has_gone (rows_in table blocks b k) (rows_in table now b k)) ↔ ((r : Row) × (rows_in table blocks b k ≡ Some r) × IsDead p r.id))
          (at_its_block c.vacuum block extent next (sym (ap (task_at c.vacuum) at) ∙ sym (at_task old n c had below p shown) ∙ is))
          (by_journal old p table block blocks now shown below (here old n c had below p shown).has all_dead k);
    }
