-- an insert that has no row
use Rattle.std.proofs.Common.{◌≡◌, ℕ, ◌≤◌, length, List, Option, Some, refl, sym, ap, subst, ◌∙◌}
use Rattle.block_model.specs.declared.reply.Refusal.{Refusal}
use Rattle.block_model.specs.declared.reply.Refusal.TheVariants as refusals
use Rattle.block_model.specs.declared.reply.Reply.TheVariants as replies
use Rattle.block_model.specs.declared.request.Tag.{Tag}
use Rattle.block_model.specs.declared.request.Tag.TheVariants as tags
use Rattle.block_model.specs.declared.value.Value.{Value}
use Rattle.snapshot_core.specs.declared.sessions.Open.{Open}
use Rattle.snapshot_core.specs.StoredVersions.{transaction_of}
use Rattle.store_layout.specs.declared.limits.TheConstants.{MAX_ENTRIES}
use Rattle.store_layout.specs.declared.statement.Statement.TheVariants as statements
use Rattle.transactions.specs.CountedRows.{counts as counts_of}
use Rattle.coverage.specs.Accounts.{Account, no_account}
use Rattle.coverage.specs.Refusals as causes
use Rattle.coverage.specs.Refusals.{LacksMemory, row_refusal}
use Rattle.coverage.specs.Table.{Resting, TableState, Task}
use Rattle.coverage.specs.TableSteps.{IsRowRefused, RowLacksMemory}
use Rattle.script_semantics.specs.Place.{Place}
use Rattle.script_semantics.specs.StatementSteps.{Ended, ForMemory, LacksRoom, RefusesSo, Steps}
use Rattle.session_parts.specs.declared.hand.Hand.{Hand}
use Rattle.session_parts.specs.declared.hand.Hand.TheVariants as hands
use Rattle.session_parts.specs.Hands.{HandShows}
use Rattle.session_parts.specs.HandsInTables.{IsTaskOf}
use Rattle.session_parts.specs.RefusalLaws.{RowIsRefused, refused_in}
use Rattle.session_parts.specs.ShowsPlace.{IsPlaceOf, ShowsTable}
use Rattle.session_parts.specs.StepLaws.{TurnIsRefused}
use Rattle.session_parts.specs.StoreStates.{ShownStore, hand_in}
use Rattle.session_parts.specs.TableLaws.{IsQuiet}
use Rattle.session_inserts.proofs.Refused.{IsFailing, Refuses, is_refused, no_more, refusal_lacks_room, without}
use Rattle.session_inserts.proofs.RowStep.{begun_hand, begun_is, begun_tells}
use Rattle.session_inserts.specs.TakenLaws.{RefusalLaws}

-- before the first step of its insert a session is at nothing, and has this in hand
module _ (old : ShownStore) (n table : ℕ) (values : List Value) (was : hand_in old.hands n ≡ Some (hands.Puts table values)) (p : Place) (shown : IsPlaceOf old p) (shows : ShowsTable old shown.database.stored table (p.tables table)) where
  pub rests_here : shows.unseen.task n ≡ Resting
  rests_here = subst (λ (h : Option Hand). IsTaskOf old.layout table shows.blocks old.transactions.tx shown.database.stored (transaction_of old.transactions.opens n) h (shows.unseen.task n)) was (shows.tasks n)

  pub rests_there : (p.tables table).task n ≡ Resting
  rests_there = ap (λ (w : TableState). w.task n) shows.shown ∙ rests_here

  pub begun_here : p.hands n ≡ Some (begun_hand table values)
  begun_here = begun_is table values (p.hands n) (p.accounts n) (subst (λ (h : Option Hand). HandShows h (p.hands n) (p.accounts n)) was (shown.hands n))

  pub begun_told : p.accounts n ≡ no_account
  begun_told = begun_tells table values (p.hands n) (p.accounts n) (subst (λ (h : Option Hand). HandShows h (p.hands n) (p.accounts n)) was (shown.hands n))

  -- where the journal has no room for the put, one that is refused for want of memory would pass it
  pub row_lacks_room : RowIsRefused → TurnIsRefused → MAX_ENTRIES ≤ length p.journal → LacksRoom p n
  row_lacks_room row refused full =
      let fewer = without (p.tables table) 0 in
      let it = row p n table 0 values (p.tables table) fewer.counts refl rests_there RowLacksMemory fewer.no_more in
      refusal_lacks_room refused p n table values tags.NoMemory (begun_hand table values) begun_here refl no_account fewer.counts LacksMemory refusals.Memory (refused_in n fewer.counts (p.tables table)) it.0 it.1 (ForMemory tt) full

module _ (laws : RefusalLaws) (old new : ShownStore) (n table : ℕ) (values : List Value) (tag : Tag) (o : Open) (r : Refuses old new n table values tag o) (failing : IsFailing tag)
    (was : hand_in old.hands n ≡ Some (hands.Puts table values)) (p : Place) (shown : IsPlaceOf old p) where
  abbrev shows : ShowsTable old shown.database.stored table (p.tables table)
  shows = shown.tables table r.below

  pub row_refused : (refused : IsRowRefused (p.tables table)) (why : causes.Refusal) → row_refusal (p.tables table) refused ≡ why → (told : Refusal) → RefusesSo p table (statements.Insert table values) why tag told
      → (q : Place) × IsPlaceOf new q × Steps p n (Ended (replies.Refused told)) q
  row_refused refused why is told so =
      let it = laws.row p n table o.t values (p.tables table) (counts_of new.transactions shown.database.stored) refl (rests_there old n table values was p shown shows) refused
      (no_more laws old new n table values tag o r failing p shown) in
      is_refused laws old new n table values tag o r failing p shown (begun_hand table values) (begun_here old n table values was p shown shows) refl no_account (ap (λ (a : Account). a.dropped) (sym (begun_told old n table values was p shown shows))) why told it.0 (it.1 ∙ ap Some is) so
      (subst (λ (t : Task). IsQuiet t) (sym (rests_there old n table values was p shown shows)) tt)
