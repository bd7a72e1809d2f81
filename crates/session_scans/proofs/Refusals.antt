-- which step a look is for which memory is short
use Rattle.std.proofs.Common.{◌≡◌, ◌≢◌, ◌⊎◌, inl, inr, ℕ, ◌+◌, ◌<◌, Bool, false, List, [], ◌∷◌, ◌++◌, length, length-append, None, Some, refl, sym, ap, subst, ◌∙◌, arith}
use Rattle.std.proofs.lemmas.Bool.{true≢false}
use Rattle.block_model.specs.declared.reply.Refusal.TheVariants as refusals
use Rattle.block_model.specs.declared.reply.Reply.TheVariants as replies
use Rattle.block_model.specs.declared.request.Entry.{Entry}
use Rattle.block_model.specs.declared.request.Request.TheVariants as requests
use Rattle.block_model.specs.declared.request.Tag.TheVariants as tags
use Rattle.block_model.specs.declared.row.Query.{Query}
use Rattle.store_layout.specs.DiskLayout.{DiskLayout}
use Rattle.store_layout.specs.declared.limits.TheConstants.{MAX_ENTRIES}
use Rattle.store_layout.specs.StatementRequests.{tagged_entry}
use Rattle.snapshot_core.specs.declared.sessions.Open.{Open}
use Rattle.snapshot_core.specs.StoredVersions.{transaction_of}
use Rattle.coverage.specs.Refusals.{LacksMemory}
use Rattle.coverage.specs.Table.{Scans, TableScan, TableState}
use Rattle.bitmap_scan.specs.declared.stage.Stage.{Stage}
use Rattle.bitmap_scan.specs.declared.stage.Stage.TheVariants as stages
use Rattle.bitmap_scan.specs.Finds.{FindHand, scanning}
use Rattle.bitmap_scan.specs.TableScans.{table_scan}
use Rattle.script_semantics.specs.Beginnings.{IsAtRest}
use Rattle.script_semantics.specs.Place.{Hand as HandAt, Place, new_hand}
use Rattle.script_semantics.specs.Requests.{refused_request}
use Rattle.script_semantics.specs.StatementSteps.{Ended, ForMemory, LacksRoom, StepsTo}
use Rattle.session_parts.specs.HandsInTables.{table_in}
use Rattle.session_parts.specs.PlacesAfter.{TurnsIn, place_after, place_at_once, refusal_in}
use Rattle.session_parts.specs.RefusalLaws.{CountsNoMore, refused_in}
use Rattle.session_parts.specs.ShowsPlace.{IsPlaceOf, ShowsTable}
use Rattle.session_parts.specs.StoreStates.{ShownStore, hand_in}
use Rattle.session_parts.proofs.Refusals.{scan_is_refused}
use Rattle.session_parts.proofs.Seeing.{task_elsewhere}
use Rattle.session_parts.proofs.Steps.{lacks_memory, turn_is_refused}
use Rattle.session_scans.specs.declared.looking.Looking.{Looking}
use Rattle.session_scans.specs.LookLaws.{LookLaws}
use Rattle.session_scans.specs.Looks.{deletes_of, hand_before, statement_for}
use Rattle.session_scans.proofs.GoesOn.{begun_task}
use Rattle.session_scans.proofs.Standing.{LooksThere, in_hand, scans_at, shows}
use Rattle.session_scans.proofs.Words.{first_in_none, looks}

-- a scan is before its first step, or has begun
pub begun_or_not : (stage : Stage) → (stage ≡ stages.Extent) ⊎ (stage ≢ stages.Extent)
begun_or_not stages.Extent = inl refl
begun_or_not stage = inr (λ is. cc)

abbrev pub refused_entry : ℕ → Query → Entry
refused_entry n query = tagged_entry n query.table (requests.Look query) tags.NoMemory

-- ---- which step it is, whichever rows count then

module _ (laws : LookLaws) (old : ShownStore) (n : ℕ) (looking : Looking) (before : FindHand) (o : Open) (there : LooksThere old n looking before o) (p : Place) (shown : IsPlaceOf old p) where
  abbrev query : Query
  query = before.judging.query

  abbrev number : ℕ
  number = query.table

  abbrev hand : HandAt
  hand = new_hand (statement_for looking query)

  abbrev pub entries_then : List Entry
  entries_then = p.journal ++ refused_entry n query ∷ []

  request_is : p.journal ++ refused_request n tags.NoMemory (statement_for looking query) ≡ entries_then
  request_is = ap (λ (l : List Entry). p.journal ++ l) ((looks looking query).refused_is n tags.NoMemory)

  module _ (first : before.judging.stage ≡ stages.Extent) where
    pub none_before : (i : ℕ) → table_in old.layout (hand_in old.hands n) ≡ Some i → ⊥
    none_before i is = first_in_none old.layout i looking query
        (ap (λ (stage : Stage). table_in old.layout (Some (hand_before looking before stage))) (sym first) ∙ sym (ap (table_in old.layout) there.was) ∙ is)

    rests : IsAtRest p n
    rests i below =
        let inside : i < length old.layout.schema.tables = subst (λ (l : DiskLayout). i < length l.schema.tables) shown.layout below in
        let it : ShowsTable old shown.database.stored i (p.tables i) = shown.tables i inside in
        ap (λ (x : TableState). x.task n) it.shown
        ∙ task_elsewhere old.layout i it.blocks old.transactions.tx shown.database.stored (transaction_of old.transactions.opens n) (hand_in old.hands n) (it.unseen.task n) (none_before i) (it.tasks n)

    pub first_step : (counts : ℕ → Bool) → StepsTo p n hand (Ended (replies.Refused refusals.Memory)) (place_at_once p n counts entries_then)
    first_step counts = subst (λ (l : List Entry). StepsTo p n hand (Ended (replies.Refused refusals.Memory)) (place_at_once p n counts l)) request_is
        (lacks_memory p n hand counts ((looks looking query).may_lack p n) rests)

  module _ (begun : before.judging.stage ≢ stages.Extent) where
    abbrev its_scan : TableScan
    its_scan = table_scan old.layout before.judging (scanning (scans_at laws old n looking before o there p shown).sees (scans_at laws old n looking before o there p shown).judged (deletes_of looking) before)

    scans_there : (p.tables number).task n ≡ Scans its_scan
    scans_there = ap (λ (x : TableState). x.task n) (shows laws old n looking before o there p shown).shown ∙ (scans_at laws old n looking before o there p shown).is
        ∙ begun_task old.layout before.judging.stage before.judging _ begun

    module _ (t : ℕ) (counts : ℕ → Bool) (no_more : CountsNoMore (p.tables number) counts t) where
      pub turns : (turns : TurnsIn p n (statement_for looking query) number (refused_in n counts (p.tables number)) (p.accounts n)) × (refusal_in turns ≡ Some LacksMemory)
      turns = scan_is_refused p n number t (statement_for looking query) (p.tables number) its_scan counts refl (looks looking query).not_work ((looks looking query).on_table p n) scans_there refl no_more

      pub later_step : (others : ℕ → Bool)
          → StepsTo p n hand (Ended (replies.Refused refusals.Memory)) (place_after p n number None (refused_in n counts (p.tables number)) (p.accounts n) others entries_then)
      later_step others = subst (λ (l : List Entry). StepsTo p n hand (Ended (replies.Refused refusals.Memory)) (place_after p n number None (refused_in n counts (p.tables number)) (p.accounts n) others l)) request_is
          (turn_is_refused p n number hand (refused_in n counts (p.tables number)) (p.accounts n) others LacksMemory tags.NoMemory refusals.Memory turns.0 turns.1 (ForMemory (looks looking query).takes_memory))

  -- the journal may lack room for it
  module _ (full : MAX_ENTRIES < length old.entries + 1) where
    past : MAX_ENTRIES < length entries_then
    past = omega (arith, full, ap length shown.journal, length-append p.journal (refused_entry n query ∷ []))

    pub lacks_room : LacksRoom p n
    lacks_room = elim (begun_or_not before.judging.stage) [
      | inl first ↦ record {
        hand = hand;
        in_hand = in_hand laws old n looking before o there p shown;
        outcome = Ended (replies.Refused refusals.Memory);
        further = place_at_once p n (λ t. false) entries_then;
        steps = first_step first (λ t. false);
        past = past;
      }
      | inr begun ↦ record {
        hand = hand;
        in_hand = in_hand laws old n looking before o there p shown;
        outcome = Ended (replies.Refused refusals.Memory);
        further = place_after p n number None (refused_in n (λ t. false) (p.tables number)) (p.accounts n) (λ t. false) entries_then;
        steps = later_step begun 0 (λ t. false) (record { failed = refl; fewer = λ u none. absurd (true≢false (sym none)) }) (λ t. false);
        past = past;
      }
    ]
