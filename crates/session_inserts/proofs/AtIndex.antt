-- an insert at an index, in a place that the store shows
use Rattle.std.proofs.Common.{◌≡◌, inr, ℕ, ◌<◌, Bool, true, false, List, [], ◌∷◌, length, Option, Some, refl, sym, ap, subst, ◌∙◌}
use Rattle.std.specs.Prelude.{slice_get}
use Rattle.block_model.specs.declared.place.Spot.{Spot}
use Rattle.block_model.specs.declared.row.Row.{Row}
use Rattle.block_model.specs.RequestEffect.{Inserted}
use Rattle.snapshot_core.specs.StoredVersions.{transaction_of}
use Rattle.store_layout.specs.declared.statement.Statement.{Statement}
use Rattle.store_layout.specs.declared.statement.Statement.TheVariants as statements
use Rattle.snapshot_core.specs.declared.statuses.Status.{Status}
use Rattle.coverage.specs.Knowing.{Knows}
use Rattle.coverage.specs.Statements.{Empty, Inserting, OnIndex, Statement as AtIndexStatement}
use Rattle.range_tuple.specs.TupleBytes.{tuple_bytes}
use Rattle.index_contents.specs.IndexContents.{relation_of as index_relation}
use Rattle.coverage.specs.Accounts.{Account, no_account}
use Rattle.coverage.specs.GoingOn.{IsInserting}
use Rattle.coverage.specs.Machines.{table_state}
use Rattle.coverage.specs.Table.{Asks, Inserts, index_view_at, inserting_of, seen_by}
use Rattle.coverage.specs.TableCovered.{IsInTable, IsTableKept}
use Rattle.coverage.proofs.Views.{on_index_here}
use Rattle.index_steps.specs.IndexTuples.{shape_of}
use Rattle.index_steps.specs.ShownRows.{shown_by}
use Rattle.index_steps.specs.ShownTable.{indexes_of}
use Rattle.script_semantics.specs.Place.{Hand as HandAt, Place}
use Rattle.brin_insert.specs.AskedFor.{AreRequestsOf}
use Rattle.brin_insert.specs.declared.insert.Insert.{Insert}
use Rattle.brin_insert.specs.InsertAnswers.{relation_at}
use Rattle.brin_insert.specs.InsertHands.{InsertHand}
use Rattle.brin_insert.specs.InsertSteps.{on_index}
use Rattle.brin_insert.specs.Inserts.{IsInsertFor, task_of, work_of}
use Rattle.brin_insert.proofs.Numbers.{number_within, own_table}
use Rattle.brin_insert.proofs.Outcomes.{index_next}
use Rattle.brin_insert.proofs.Tasks.{number_there, task_asks, task_is}
use Rattle.session_parts.specs.declared.hand.Hand.{Hand}
use Rattle.session_parts.specs.declared.hand.Hand.TheVariants as hands
use Rattle.session_parts.specs.Hands.{HandShows, put_answers}
use Rattle.session_parts.specs.HandsAsk.{HandAsked}
use Rattle.session_parts.specs.HandsInTables.{IsTaskOf, table_in}
use Rattle.session_parts.specs.Leaving.{IsRelationOf}
use Rattle.session_parts.specs.ShowsPlace.{IsPlaceOf, IsRowOf, ShowsTable, is_put}
use Rattle.session_parts.specs.StoreStates.{ShownStore, hand_in}
use Rattle.std.specs.Prelude.{IsSome}
use Rattle.disk_trait.specs.Told.{Told}
use Rattle.brin_insert.specs.Inserts.{HasStepLeft}
use Rattle.index_steps.specs.ShownRows.{ShowsKept}
use Rattle.session_parts.specs.declared.parts.Parts.{Parts}
use Rattle.session_parts.specs.ShowsPlace.{ShowsPlace}
use Rattle.session_parts.specs.Stepping.{InSomeStore}
use Rattle.session_parts.specs.StoreStates.{shown_of, store_of}
use Rattle.session_inserts.proofs.Beside.{at_work_of}

-- the session's insert has put its row, and has work in this index
pub record AtIndex (old : ShownStore) (n : ℕ) (before : Insert) (hand : InsertHand) (x : Spot) : Type 0 where
  pub was : hand_in old.hands n ≡ Some (hands.Inserts before)
  pub placed : before.place ≡ Some x
  pub got : work_of before ≡ Some hand
  pub made : IsInsertFor old.layout before

-- the statement of an insert, and how far the definition has it
abbrev pub insert_of : Row → Statement
insert_of r = statements.Insert r.table r.values

abbrev pub put_of : Row → HandAt
put_of r = record { statement = insert_of r; answers = Inserted r.id ∷ [] }

-- the hand of a row that stands
pub put_hand : (insert : Insert) (x : Spot) (at : Option HandAt) (account : Account) → insert.place ≡ Some x → HandShows (Some (hands.Inserts insert)) at account
    → (at ≡ Some (put_of insert.row)) × (account ≡ record no_account { dropped = account.dropped })
put_hand insert x at account placed (h, is, statement, answers, tells) = (
  is ∙ ap Some (λ j. record { statement = statement j; answers = (answers ∙ ap (λ (o : Option Spot). put_answers o insert.row.id) placed) j }),
  tells,
)

module _ (old : ShownStore) (n : ℕ) (before : Insert) (hand : InsertHand) (x : Spot) (at : AtIndex old n before hand x) where
  abbrev table : ℕ
  table = before.row.table

  abbrev pub on_there : OnIndex
  on_there = on_index (shape_of old.layout hand.index) hand.stage before.copied (tuple_bytes hand.widened)

  pub task_before : before.asking ≡ false → task_of old.layout before ≡ Inserts x.block x.slot before.row before.at on_there
  task_before = task_is old.layout before x hand at.placed at.got

  pub task_asking : before.asking ≡ true → task_of old.layout before ≡ Asks x.block x.slot before.row before.at
  task_asking = task_asks old.layout before x hand at.placed at.got

  pub busy_before : IsInserting (task_of old.layout before)
  busy_before = by_asking before.asking refl
    where
      by_asking : (b : Bool) → before.asking ≡ b → IsInserting (task_of old.layout before)
      by_asking true is = subst IsInserting (sym (task_asking is)) tt
      by_asking false is = subst IsInserting (sym (task_before is)) tt

  pub number_here : slice_get (indexes_of old.layout table) before.at ≡ Some hand.index
  number_here = number_there old.layout before before.at hand at.made at.got

  pub relation_here : relation_at old.layout before ≡ index_relation old.layout hand.index
  relation_here = index_next old.layout before x hand at.placed at.got

  pub own_relation : IsRelationOf old.layout table (relation_at old.layout before)
  own_relation = inr (hand.index, number_within old.layout table before.at hand.index number_here, own_table old.layout table before.at hand.index number_here, relation_here)

  pub in_table : table_in old.layout (hand_in old.hands n) ≡ Some table
  in_table = ap (table_in old.layout) at.was

  module _ (p : Place) (shown : IsPlaceOf old p) where
    abbrev stored : List Status
    stored = shown.database.stored

    abbrev pub shows_here : ShowsTable old stored table (p.tables table)
    shows_here = shown.tables table at.made.table

    pub task_here : shows_here.unseen.task n ≡ task_of old.layout before
    task_here =
        let it : IsTaskOf old.layout table shows_here.blocks old.transactions.tx stored (transaction_of old.transactions.opens n) (Some (hands.Inserts before)) (shows_here.unseen.task n) =
        subst (λ (h : Option Hand). IsTaskOf old.layout table shows_here.blocks old.transactions.tx stored (transaction_of old.transactions.opens n) h (shows_here.unseen.task n)) at.was (shows_here.tasks n) in
        it.0 refl

    pub kept_here : IsTableKept (table_state (shown_by old.layout old.pages old.locks table shows_here.blocks) shows_here.unseen)
    kept_here = subst IsTableKept shows_here.shown shows_here.kept

    shown_here : HandShows (Some (hands.Inserts before)) (p.hands n) (p.accounts n)
    shown_here = subst (λ (h : Option Hand). HandShows h (p.hands n) (p.accounts n)) at.was (shown.hands n)

    pub hand_here : p.hands n ≡ Some (put_of before.row)
    hand_here = (put_hand before x (p.hands n) (p.accounts n) at.placed shown_here).0

    pub told_here : p.accounts n ≡ record no_account { dropped = (p.accounts n).dropped }
    told_here = (put_hand before x (p.hands n) (p.accounts n) at.placed shown_here).1

    -- an insert that has to ask has put its row
    pub block_here : before.asking ≡ true → x.block < length shows_here.blocks
    block_here asking =
        let w = table_state (shown_by old.layout old.pages old.locks table shows_here.blocks) shows_here.unseen in
        let there : shows_here.unseen.task n ≡ Asks x.block x.slot before.row before.at = task_here ∙ task_asking asking in
        let inside : before.at < w.indexes = subst (IsInTable w) there (kept_here.inside n) in
        let seen : seen_by before.at (shows_here.unseen.task n) ≡ Inserting x.block x.slot before.row Empty =
        ap (seen_by before.at) there ∙ ap (inserting_of x.block x.slot before.row) (on_index_here before.at Empty) in
        let knows : Knows (index_view_at before.at w) n (Inserting x.block x.slot before.row Empty) = subst (λ (s : AtIndexStatement). Knows (index_view_at before.at w) n s) seen ((kept_here.indexes before.at inside).knows n) in
        kept_here.rows_below x.block x.slot before.row knows.0

    pub asked_here : AreRequestsOf old.layout before.dropped.items (p.accounts n).dropped
    asked_here = subst (λ (h : Option Hand). HandAsked old.layout h (p.accounts n).dropped) at.was (shown.asked n)

    pub own_row_here : IsRowOf (transaction_of old.transactions.opens n) (is_put before.place) before.row.id.t before.row.id.k
    own_row_here = shown.own n (hands.Inserts before) at.was

-- so the machine may step there
pub kept_at_index : {D : Type 0} (told : D → Told) (parts : Parts D) (n : ℕ) (insert : Insert) → IsInsertFor parts.pages.layout insert → HasStepLeft insert → IsSome insert.place
    → InSomeStore parts n (hands.Inserts insert) (λ s. (p : Place) × ShowsPlace s p) → ShowsKept parts.pages.layout parts.pages.pages parts.locks n insert.row.table (task_of parts.pages.layout insert)
kept_at_index told parts n insert made step_left some (names, hand_list, has, (p, shown)) =
    let work = at_work_of insert step_left some in
    let s = shown_of (store_of parts names hand_list) in
    let at : AtIndex s n insert work.hand work.x = record { was = has; placed = work.placed; got = work.got; made = made } in
    let shows = shows_here s n insert work.hand work.x at p shown in
    record { blocks = shows.blocks; has = shows.has; unseen = shows.unseen; at = task_here s n insert work.hand work.x at p shown; kept = kept_here s n insert work.hand work.x at p shown }
