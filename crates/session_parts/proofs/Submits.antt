-- statements that are taken, and sessions that are made
use Rattle.std.proofs.Common.{◌≡◌, ◌≢◌, inl, inr, ℕ, ◌<◌, List, [], length, Option, None, Some, refl, sym, ap, subst, ◌∙◌}
use Rattle.std.specs.FinMap as finite
use Rattle.std.proofs.lemmas.Bool.{cases_eq}
use Rattle.std.proofs.lemmas.Option.{same_Some}
use Rattle.block_model.specs.DatabaseState.{OpenTransaction}
use Rattle.store_layout.specs.DiskLayout.{DiskLayout}
use Rattle.page_layout.specs.PageContents.{Slot}
use Rattle.snapshot_core.specs.declared.statuses.Status.{Status}
use Rattle.snapshot_core.specs.declared.sessions.Open.{Open}
use Rattle.snapshot_core.specs.StoredVersions.{transaction_of}
use Rattle.tx_table.specs.TxState.{TxState}
use Rattle.reply_texts.specs.declared.dropped.Dropped.{Dropped}
use Rattle.coverage.specs.Accounts.{Account, no_account}
use Rattle.coverage.specs.Table.{Resting, Task}
use Rattle.script_semantics.specs.IndexTuples.{index_at}
use Rattle.summarise_core.specs.declared.desummarise_stage.Stage.{Stage as DesummariseStage}
use Rattle.summarise_core.specs.Desummarises.{count_at as desummarised_at, range_of}
use Rattle.summarise_core.specs.DesummariseTable as desummarises
use Rattle.bitmap_scan.specs.declared.stage.Stage.{Stage}
use Rattle.bitmap_scan.specs.Explains.{explaining}
use Rattle.bitmap_scan.specs.TableScans as scans
use Rattle.summarise_core.specs.declared.course.Standing.{Standing}
use Rattle.summarise_core.specs.Summarises.{count_at}
use Rattle.summarise_core.specs.declared.wish.Wish.{Wish}
use Rattle.summarise_core.specs.declared.wish.Wish.TheVariants as wishes
use Rattle.summarise_core.specs.SummariseTable as summarises
use Rattle.vacuum_core.specs.TableSteps as vacuums
use Rattle.script_semantics.specs.LineTexts.{with_statement}
use Rattle.script_semantics.specs.Names.{dropped_of}
use Rattle.script_semantics.specs.Place.{Hand as HandAt, Place, database_at, new_hand}
use Rattle.session_parts.proofs.Within.{any_place_stands}
use Rattle.session_parts.specs.declared.hand.Hand.{Hand}
use Rattle.session_parts.specs.declared.hand.Hand.TheVariants as hands
use Rattle.session_parts.specs.Hands.{HandShows, TellsSo, AnswersAre, cleaned_at, statement_of}
use Rattle.session_parts.specs.HandsAsk.{HandAsked, IsNoInsert}
use Rattle.session_parts.specs.HandsInTables.{IsDesummariseAt, IsExplainAt, IsSummariseAt, IsTaskOf}
use Rattle.session_parts.specs.ShowsPlace.{IsOfTransaction, IsPlaceOf, ShowsTable}
use Rattle.session_parts.specs.StoreLaws.{HasHand}
use Rattle.session_parts.specs.StoreStates.{ShownStore, dropped_in, hand_in}
use Rattle.session_parts.specs.SubmitLaws.{ForgetsDropped, HasNotBegun, NamedIsShown, SubmittedIsShown}
use Rattle.session_parts.proofs.Asks.{none_asked}
use Rattle.session_parts.proofs.Steps.{updated_apart, updated_here}
use Rattle.session_parts.proofs.Tables.{unlisted}

-- but for a vacuum's, a summarise is at nothing before its first step
first_rests : (wish : Wish) (at : ℕ) → wish ≢ wishes.Complete → summarises.before_first wish at ≡ Resting
first_rests wishes.New at apart = refl
first_rests (wishes.Block block) at apart = refl
first_rests wishes.Complete at apart = absurd (apart refl)

-- so it is at nothing in each table
rests : (layout : DiskLayout) (table : ℕ) (blocks : List (List Slot)) (tx : TxState) (stored : List Status) (transaction : Option Open) (hand : Hand) → HasNotBegun layout hand
    → IsTaskOf layout table blocks tx stored transaction (Some hand) Resting
rests layout table blocks tx stored transaction (hands.Begins numbers) fresh = refl
rests layout table blocks tx stored transaction hands.Commits fresh = refl
rests layout table blocks tx stored transaction hands.RollsBack fresh = refl
rests layout table blocks tx stored transaction (hands.Puts number values) fresh = refl
rests layout table blocks tx stored transaction (hands.Inserts insert) fresh = absurd fresh
rests layout table blocks tx stored transaction (hands.Selecting query) fresh = refl
rests layout table blocks tx stored transaction (hands.Selects scan) fresh = absurd fresh
rests layout table blocks tx stored transaction (hands.Deleting query) fresh = refl
rests layout table blocks tx stored transaction (hands.Deletes scan) fresh = absurd fresh
rests layout table blocks tx stored transaction (hands.Marks marking) fresh = absurd fresh
rests layout table blocks tx stored transaction (hands.Explains explain) fresh = (λ own. here, λ away. refl)
  where
    here : IsExplainAt layout explain.judging Resting
    here = (λ i range. None, sym (ap (λ (s : Stage). scans.task_of layout s explain.judging (explaining (λ i range. None))) fresh))
rests layout table blocks tx stored transaction (hands.Summarises a) fresh = (λ own. here, λ away. refl)
  where
    here : IsSummariseAt layout a Resting
    here =
        let listed = unlisted layout (index_at layout a.index).table a.index fresh.1 refl in
        (listed.0, listed.1, sym (ap (λ (s : Standing). summarises.task_at layout listed.0 a s) fresh.0 ∙ first_rests a.wish listed.0 fresh.2))
rests layout table blocks tx stored transaction (hands.Desummarises a) fresh = (λ own. here, λ away. refl)
  where
    here : IsDesummariseAt layout a Resting
    here =
        let listed = unlisted layout (index_at layout a.index).table a.index fresh.1 refl in
        (listed.0, listed.1, sym (ap (λ (s : DesummariseStage). desummarises.task_at listed.0 (range_of layout a) s) fresh.0))
rests layout table blocks tx stored transaction (hands.Cleans c) fresh = (λ own. sym (ap (vacuums.task_at c.vacuum) fresh), λ away. refl)
rests layout table blocks tx stored transaction (hands.Completes c) fresh = absurd fresh
rests layout table blocks tx stored transaction hands.Working fresh = refl
rests layout table blocks tx stored transaction (hands.Works r) fresh = absurd fresh

-- and it was answered nothing, and has nothing to tell
answers_none : (layout : DiskLayout) (hand : Hand) → HasNotBegun layout hand → AnswersAre hand []
answers_none layout (hands.Begins numbers) fresh = refl
answers_none layout hands.Commits fresh = refl
answers_none layout hands.RollsBack fresh = refl
answers_none layout (hands.Puts number values) fresh = refl
answers_none layout (hands.Inserts insert) fresh = absurd fresh
answers_none layout (hands.Selecting query) fresh = refl
answers_none layout (hands.Selects scan) fresh = absurd fresh
answers_none layout (hands.Deleting query) fresh = refl
answers_none layout (hands.Deletes scan) fresh = absurd fresh
answers_none layout (hands.Marks marking) fresh = absurd fresh
answers_none layout (hands.Explains explain) fresh = refl
answers_none layout (hands.Summarises a) fresh = refl
answers_none layout (hands.Desummarises a) fresh = refl
answers_none layout (hands.Cleans c) fresh = refl
answers_none layout (hands.Completes c) fresh = absurd fresh
answers_none layout hands.Working fresh = refl
answers_none layout (hands.Works r) fresh = absurd fresh

tells_none : (layout : DiskLayout) (hand : Hand) → HasNotBegun layout hand → TellsSo hand no_account
tells_none layout (hands.Begins numbers) fresh = refl
tells_none layout hands.Commits fresh = refl
tells_none layout hands.RollsBack fresh = refl
tells_none layout (hands.Puts number values) fresh = refl
tells_none layout (hands.Inserts insert) fresh = absurd fresh
tells_none layout (hands.Selecting query) fresh = refl
tells_none layout (hands.Selects scan) fresh = absurd fresh
tells_none layout (hands.Deleting query) fresh = refl
tells_none layout (hands.Deletes scan) fresh = absurd fresh
tells_none layout (hands.Marks marking) fresh = absurd fresh
tells_none layout (hands.Explains explain) fresh = refl
tells_none layout (hands.Summarises a) fresh = λ i. record no_account { ranges = sym (ap (count_at a) fresh.0) i }
tells_none layout (hands.Desummarises a) fresh = λ i. record no_account { ranges = sym (ap desummarised_at fresh.0) i }
tells_none layout (hands.Cleans c) fresh = sym (ap (cleaned_at c.vacuum) fresh)
tells_none layout (hands.Completes c) fresh = absurd fresh
tells_none layout hands.Working fresh = refl
tells_none layout (hands.Works r) fresh = absurd fresh

-- how it stands to its session's transaction
is_of_any : (layout : DiskLayout) (transaction : Option Open) (copy : Option OpenTransaction) (hand : Hand) → HasNotBegun layout hand → IsOfTransaction transaction copy hand
is_of_any layout transaction None (hands.Begins numbers) fresh = tt
is_of_any layout transaction None hands.Commits fresh = tt
is_of_any layout transaction None hands.RollsBack fresh = tt
is_of_any layout transaction None (hands.Puts number values) fresh = tt
is_of_any layout transaction None (hands.Inserts insert) fresh = absurd fresh
is_of_any layout transaction None (hands.Selecting query) fresh = tt
is_of_any layout transaction None (hands.Selects scan) fresh = absurd fresh
is_of_any layout transaction None (hands.Deleting query) fresh = tt
is_of_any layout transaction None (hands.Deletes scan) fresh = absurd fresh
is_of_any layout transaction None (hands.Marks marking) fresh = absurd fresh
is_of_any layout transaction None (hands.Explains explain) fresh = tt
is_of_any layout transaction None (hands.Summarises a) fresh = tt
is_of_any layout transaction None (hands.Desummarises a) fresh = tt
is_of_any layout transaction None (hands.Cleans c) fresh = tt
is_of_any layout transaction None (hands.Completes c) fresh = absurd fresh
is_of_any layout transaction None hands.Working fresh = tt
is_of_any layout transaction None (hands.Works r) fresh = absurd fresh
is_of_any layout transaction (Some x) (hands.Begins numbers) fresh = tt
is_of_any layout transaction (Some x) hands.Commits fresh = tt
is_of_any layout transaction (Some x) hands.RollsBack fresh = tt
is_of_any layout transaction (Some x) (hands.Puts number values) fresh = tt
is_of_any layout transaction (Some x) (hands.Inserts insert) fresh = absurd fresh
is_of_any layout transaction (Some x) (hands.Selecting query) fresh = tt
is_of_any layout transaction (Some x) (hands.Selects scan) fresh = absurd fresh
is_of_any layout transaction (Some x) (hands.Deleting query) fresh = tt
is_of_any layout transaction (Some x) (hands.Deletes scan) fresh = absurd fresh
is_of_any layout transaction (Some x) (hands.Marks marking) fresh = absurd fresh
is_of_any layout transaction (Some x) (hands.Explains explain) fresh = tt
is_of_any layout transaction (Some x) (hands.Summarises a) fresh = tt
is_of_any layout transaction (Some x) (hands.Desummarises a) fresh = tt
is_of_any layout transaction (Some x) (hands.Cleans c) fresh = tt
is_of_any layout transaction (Some x) (hands.Completes c) fresh = absurd fresh
is_of_any layout transaction (Some x) hands.Working fresh = tt
is_of_any layout transaction (Some x) (hands.Works r) fresh = absurd fresh

-- a statement that has made no step is no insert that has asked
asks_nothing : (layout : DiskLayout) (hand : Hand) → HasNotBegun layout hand → IsNoInsert (Some hand)
asks_nothing layout (hands.Inserts insert) fresh = absurd fresh
asks_nothing layout hand fresh = tt

module _ (s : ShownStore) (p : Place) (n : ℕ) (new : List (Option Hand)) (dropped : List (List Dropped)) (hand : Hand) (shown : IsPlaceOf s p) (none : hand_in s.hands n ≡ None) (changes : HasHand s.hands new n (Some hand))
    (forgets : ForgetsDropped s.dropped dropped n) (fresh : HasNotBegun s.layout hand) where
  abbrev stored : List Status
  stored = shown.database.stored

  abbrev taken : Place
  taken = with_statement p n (statement_of hand)

  hand_taken : (m : ℕ) → HandShows (hand_in new m) (taken.hands m) (taken.accounts m)
  hand_taken m = elim (cases_eq m n) [
    | inl is ↦ subst (λ (k : ℕ). HandShows (hand_in new k) (taken.hands k) (taken.accounts k)) (sym is)
        (subst (λ (h : Option Hand). HandShows h (taken.hands n) (taken.accounts n)) (sym changes.own)
        (subst (λ (a : Account). HandShows (Some hand) (taken.hands n) a) (sym (updated_here p.accounts n no_account))
        (new_hand (statement_of hand), updated_here p.hands n (Some (new_hand (statement_of hand))), refl, answers_none s.layout hand fresh, tells_none s.layout hand fresh)))
    | inr apart ↦ subst (λ (h : Option Hand). HandShows h (taken.hands m) (taken.accounts m)) (sym (changes.others m apart))
        (subst (λ (h : Option HandAt). HandShows (hand_in s.hands m) h (taken.accounts m)) (sym (updated_apart p.hands n (Some (new_hand (statement_of hand))) m apart))
        (subst (λ (a : Account). HandShows (hand_in s.hands m) (p.hands m) a) (sym (updated_apart p.accounts n no_account m apart)) (shown.hands m)))
  ]

  own_taken : (m : ℕ) (h : Hand) → hand_in new m ≡ Some h → IsOfTransaction (transaction_of s.transactions.opens m) (finite.get (database_at p).sessions m) h
  own_taken m h is = elim (cases_eq m n) [
    | inl same ↦ subst (λ (x : Hand). IsOfTransaction (transaction_of s.transactions.opens m) (finite.get (database_at p).sessions m) x)
        (same_Some hand h (sym changes.own ∙ ap (hand_in new) (sym same) ∙ is))
        (is_of_any s.layout (transaction_of s.transactions.opens m) (finite.get (database_at p).sessions m) hand fresh)
    | inr apart ↦ shown.own m h (sym (changes.others m apart) ∙ is)
  ]

  told_taken : (m : ℕ) → dropped_in dropped m ≡ dropped_of s.layout (taken.accounts m).dropped
  told_taken m = elim (cases_eq m n) [
    | inl is ↦ ap (dropped_in dropped) is ∙ forgets.own ∙ ap (λ (a : Account). dropped_of s.layout a.dropped) (sym (ap taken.accounts is ∙ updated_here p.accounts n no_account))
    | inr apart ↦ forgets.others m apart ∙ shown.told m ∙ ap (λ (a : Account). dropped_of s.layout a.dropped) (sym (updated_apart p.accounts n no_account m apart))
  ]

  asked_taken : (m : ℕ) → HandAsked s.layout (hand_in new m) (taken.accounts m).dropped
  asked_taken m = elim (cases_eq m n) [
    | inl is ↦ subst (λ (h : Option Hand). HandAsked s.layout h (taken.accounts m).dropped) (sym (ap (hand_in new) is ∙ changes.own))
        (none_asked s.layout (Some hand) (taken.accounts m).dropped (asks_nothing s.layout hand fresh))
    | inr apart ↦ subst (λ (h : Option Hand). HandAsked s.layout h (taken.accounts m).dropped) (sym (changes.others m apart))
        (subst (λ (a : Account). HandAsked s.layout (hand_in s.hands m) a.dropped) (sym (updated_apart p.accounts n no_account m apart)) (shown.asked m))
  ]

  module _ (i : ℕ) (below : i < length s.layout.schema.tables) where
    abbrev there : ShowsTable s stored i (p.tables i)
    there = shown.tables i below

    task_rests : there.unseen.task n ≡ Resting
    task_rests = subst (λ (h : Option Hand). IsTaskOf s.layout i there.blocks s.transactions.tx stored (transaction_of s.transactions.opens n) h (there.unseen.task n)) none (there.tasks n)

    task_taken : (m : ℕ) → IsTaskOf s.layout i there.blocks s.transactions.tx stored (transaction_of s.transactions.opens m) (hand_in new m) (there.unseen.task m)
    task_taken m = elim (cases_eq m n) [
      | inl is ↦ subst (λ (k : ℕ). IsTaskOf s.layout i there.blocks s.transactions.tx stored (transaction_of s.transactions.opens k) (hand_in new k) (there.unseen.task k)) (sym is)
          (subst (λ (h : Option Hand). IsTaskOf s.layout i there.blocks s.transactions.tx stored (transaction_of s.transactions.opens n) h (there.unseen.task n)) (sym changes.own)
          (subst (λ (q : Task). IsTaskOf s.layout i there.blocks s.transactions.tx stored (transaction_of s.transactions.opens n) (Some hand) q) (sym task_rests)
          (rests s.layout i there.blocks s.transactions.tx stored (transaction_of s.transactions.opens n) hand fresh)))
      | inr apart ↦ subst (λ (h : Option Hand). IsTaskOf s.layout i there.blocks s.transactions.tx stored (transaction_of s.transactions.opens m) h (there.unseen.task m)) (sym (changes.others m apart)) (there.tasks m)
    ]

    table_taken : ShowsTable (record s { hands = new; dropped = dropped }) stored i (p.tables i)
    table_taken = record {
      blocks = there.blocks;
      has = there.has;
      unseen = there.unseen;
      shown = there.shown;
      lock = there.lock;
      counts = there.counts;
      tasks = task_taken;
      kept = there.kept;
    }

pub submitted_is_shown : SubmittedIsShown
submitted_is_shown s p n new dropped hand shown none changes forgets fresh = record {
  layout = shown.layout;
  names = shown.names;
  queue = shown.queue;
  told = told_taken s p n new dropped hand shown none changes forgets fresh;
  asked = asked_taken s p n new dropped hand shown none changes forgets fresh;
  journal = shown.journal;
  legal = shown.legal;
  database = shown.database;
  fronts = any_place_stands s.layout s.pages s.transactions shown.database.stored p (with_statement p n (statement_of hand)) refl refl shown.fronts;
  hands = hand_taken s p n new dropped hand shown none changes forgets fresh;
  own = own_taken s p n new dropped hand shown none changes forgets fresh;
  tables = table_taken s p n new dropped hand shown none changes forgets fresh;
  order = shown.order;
}

pub named_is_shown : NamedIsShown
named_is_shown s p names new shown same = record {
  layout = shown.layout;
  names = refl;
  queue = shown.queue;
  told = shown.told;
  asked = λ m. subst (λ (h : Option Hand). HandAsked s.layout h (p.accounts m).dropped) (sym (same m)) (shown.asked m);
  journal = shown.journal;
  legal = shown.legal;
  database = shown.database;
  fronts = any_place_stands s.layout s.pages s.transactions shown.database.stored p (record p { names = names }) refl refl shown.fronts;
  hands = λ m. subst (λ (h : Option Hand). HandShows h (p.hands m) (p.accounts m)) (sym (same m)) (shown.hands m);
  own = λ m hand is. shown.own m hand (sym (same m) ∙ is);
  tables = λ i below. record {
    blocks = (shown.tables i below).blocks;
    has = (shown.tables i below).has;
    unseen = (shown.tables i below).unseen;
    shown = (shown.tables i below).shown;
    lock = (shown.tables i below).lock;
    counts = (shown.tables i below).counts;
    tasks = λ m. subst (λ (h : Option Hand). IsTaskOf s.layout i (shown.tables i below).blocks s.transactions.tx shown.database.stored (transaction_of s.transactions.opens m) h ((shown.tables i below).unseen.task m)) (sym (same m)) ((shown.tables i below).tasks m);
    kept = (shown.tables i below).kept;
  };
  order = shown.order;
}
