-- an index that is full for an insert
use Rattle.std.proofs.Common.{◌≡◌, ℕ, ◌≤◌, length, Bool, true, false, Some, refl, sym, ap, subst, ◌∙◌}
use Rattle.std.proofs.lemmas.Bool.{false≢true}
use Rattle.block_model.specs.declared.place.Spot.{Spot}
use Rattle.block_model.specs.declared.reply.Refusal.TheVariants as refusals
use Rattle.block_model.specs.declared.reply.Refusal.{Refusal}
use Rattle.block_model.specs.declared.reply.Reply.TheVariants as replies
use Rattle.block_model.specs.declared.request.Tag.TheVariants as tags
use Rattle.block_model.specs.declared.row.Row.{Row}
use Rattle.snapshot_core.specs.declared.sessions.Open.{Open}
use Rattle.store_layout.specs.declared.limits.TheConstants.{MAX_ENTRIES}
use Rattle.transactions.specs.CountedRows.{counts as counts_of}
use Rattle.coverage.specs.Statements.{OnIndex}
use Rattle.coverage.specs.Refusals.{IndexNumber, InsertFull, IsFull, IsTaskFull, MaintainFull, insert_refusal}
use Rattle.coverage.specs.Machines.{ShownTable}
use Rattle.coverage.specs.Table.{Asks, Inserts, TableState, Task}
use Rattle.coverage.specs.TableSteps.{IndexFull, IsInsertRefused}
use Rattle.index_steps.specs.ShownRows.{shown_by}
use Rattle.script_semantics.specs.Names.{index_name}
use Rattle.script_semantics.specs.Place.{Place}
use Rattle.script_semantics.specs.StatementSteps.{Ended, LacksRoom, RefusesSo, Steps}
use Rattle.brin_insert.specs.declared.insert.Insert.{Insert}
use Rattle.brin_insert.specs.InsertAnswers.{IsInsertFull}
use Rattle.brin_insert.specs.InsertHands.{InsertHand}
use Rattle.brin_insert.specs.Inserts.{task_of}
use Rattle.session_parts.specs.PlacesAfter.{TurnsIn, refusal_in}
use Rattle.session_parts.specs.RefusalLaws.{CountsNoMore, InsertIsRefused, refused_in}
use Rattle.session_parts.specs.ShowsPlace.{IsPlaceOf}
use Rattle.session_parts.specs.StepLaws.{TurnIsRefused}
use Rattle.session_parts.specs.StoreStates.{ShownStore}
use Rattle.session_parts.specs.TableLaws.{IsQuiet}
use Rattle.session_parts.proofs.FullRooms.{index_refuses}
use Rattle.session_inserts.proofs.AtIndex.{AtIndex, hand_here, insert_of, kept_here, number_here, on_there, put_of, shows_here, task_asking, task_before, task_here}
use Rattle.session_inserts.proofs.Points.{is_at_index}
use Rattle.session_inserts.proofs.Refused.{Refuses, is_refused, no_more, refusal_lacks_room, without}
use Rattle.session_inserts.specs.TakenLaws.{RefusalLaws}

abbrev row_at : Row → Task → Row
row_at d (Inserts b k r at on) = r
row_at d task = d

same_row : (w : TableState) (s c j : ℕ) (q : Row) (task : Task) → IsInsertRefused w s c j q task → (b k : ℕ) (r : Row) (at : ℕ) (on : OnIndex) → task ≡ Inserts b k r at on → q ≡ r
same_row w s c j q _ (IndexFull number i x old new verdict) b k r at on is = ap (row_at q) is

quiet_there : (w : TableState) (s c j : ℕ) (q : Row) (task : Task) → IsInsertRefused w s c j q task → IsQuiet task
quiet_there w s c j q _ (IndexFull number i x old new verdict) = tt

-- an insert that has to ask for a summary is not refused
abbrev is_asking : Task → Bool
is_asking (Asks b k r at) = true
is_asking task = false

asks_refused : (w : TableState) (s c j : ℕ) (q : Row) (task : Task) → IsInsertRefused w s c j q task → (b k : ℕ) (r : Row) (at : ℕ) → task ≡ Asks b k r at → ⊥
asks_refused w s c j q _ (IndexFull number i x old new verdict) b k r at is = false≢true (ap is_asking is)

asks_full : (w : TableState) (s : ℕ) (task : Task) (at number : ℕ) → IsTaskFull w s task at number → (b k : ℕ) (r : Row) (i : ℕ) → task ≡ Asks b k r i → ⊥
asks_full w s _ _ _ (InsertFull c j q task at number refused why) b k r i is = asks_refused w s c j q task refused b k r i is
asks_full w s _ _ _ (MaintainFull job at range number phase refused why) b k r i is = false≢true (ap is_asking is)

-- the insert of that row is refused there
record RefusedThere (w : TableState) (s : ℕ) (task : Task) (r : Row) (at number : ℕ) : Type 0 where
  c : ℕ
  j : ℕ
  q : Row
  refused : IsInsertRefused w s c j q task
  why : insert_refusal refused ≡ IsFull (IndexNumber at) number
  row : q ≡ r
  quiet : IsQuiet task

refused_there : (w : TableState) (s : ℕ) (task : Task) (at number : ℕ) → IsTaskFull w s task at number → (b k : ℕ) (r : Row) (i : ℕ) (on : OnIndex) → task ≡ Inserts b k r i on → RefusedThere w s task r at number
refused_there w s _ _ _ (InsertFull c j q task at number refused why) b k r i on is =
    record { c = c; j = j; q = q; refused = refused; why = why; row = same_row w s c j q task refused b k r i on is; quiet = quiet_there w s c j q task refused }
refused_there w s _ _ _ (MaintainFull job at range number phase refused why) b k r i on is = absurd (false≢true (ap is_at_index is))

module _ (law : InsertIsRefused) (old : ShownStore) (n : ℕ) (before : Insert) (hand : InsertHand) (x : Spot) (at : AtIndex old n before hand x) (p : Place) (shown : IsPlaceOf old p) (number : ℕ)
    (full : IsInsertFull n before.at (shown_by old.layout old.pages old.locks before.row.table (shows_here old n before hand x at p shown).blocks) (task_of old.layout before) number) where
  abbrev table : ℕ
  table = before.row.table

  abbrev w : TableState
  w = p.tables table

  abbrev task : Task
  task = Inserts x.block x.slot before.row before.at (on_there old n before hand x at)

  abbrev shown_table : ShownTable
  shown_table = shown_by old.layout old.pages old.locks before.row.table (shows_here old n before hand x at p shown).blocks

  silent : before.asking ≡ false
  silent = by_asking before.asking refl
    where
      by_asking : (b : Bool) → before.asking ≡ b → before.asking ≡ false
      by_asking false is = is
      by_asking true is =
          let there : IsInsertFull n before.at shown_table (Asks x.block x.slot before.row before.at) number =
          subst (λ (t : Task). IsInsertFull n before.at shown_table t number) (task_asking old n before hand x at is) full in
          absurd (asks_full _ n _ before.at number (there (shows_here old n before hand x at p shown).unseen (task_here old n before hand x at p shown ∙ task_asking old n before hand x at is) (kept_here old n before hand x at p shown))
          x.block x.slot before.row before.at refl)

  task_so : task_of old.layout before ≡ task
  task_so = task_before old n before hand x at silent

  task_is : w.task n ≡ task
  task_is = ap (λ (v : TableState). v.task n) (shows_here old n before hand x at p shown).shown ∙ task_here old n before hand x at p shown ∙ task_so

  task_full : IsTaskFull w n task before.at number
  task_full =
      let there : IsInsertFull n before.at (shown_by old.layout old.pages old.locks table (shows_here old n before hand x at p shown).blocks) task number =
      subst (λ (t : Task). IsInsertFull n before.at (shown_by old.layout old.pages old.locks table (shows_here old n before hand x at p shown).blocks) t number) task_so full in
      subst (λ (v : TableState). IsTaskFull v n task before.at number) (sym (shows_here old n before hand x at p shown).shown)
      (there (shows_here old n before hand x at p shown).unseen (task_here old n before hand x at p shown ∙ task_so) (kept_here old n before hand x at p shown))

  there : RefusedThere w n task before.row before.at number
  there = refused_there w n task before.at number task_full x.block x.slot before.row before.at (on_there old n before hand x at) refl

  abbrev Turns : (ℕ → Bool) → Type 0
  Turns counts = (turns : TurnsIn p n (insert_of before.row) table (refused_in n counts w) (p.accounts n)) × (refusal_in turns ≡ Some (IsFull (IndexNumber before.at) number))

  turns : (counts : ℕ → Bool) → CountsNoMore w counts before.row.id.t → Turns counts
  turns counts no_more =
      let it = law p n table there.c there.j there.q before.row.values w task counts refl task_is there.refused (subst (λ (r : Row). CountsNoMore w counts r.id.t) (sym there.row) no_more) in
      (it.0, it.1 ∙ ap Some there.why)

  abbrev told : Refusal
  told = refusals.Full (index_name p.layout table before.at) number

  so : (counts : ℕ → Bool) (turns : TurnsIn p n (insert_of before.row) table (refused_in n counts w) (p.accounts n)) → refusal_in turns ≡ Some (IsFull (IndexNumber before.at) number)
      → RefusesSo p table (insert_of before.row) (IsFull (IndexNumber before.at) number) tags.Full told
  so counts turns refused = index_refuses old p table shown at.made.table n before.at hand.index number (insert_of before.row) _ _ (number_here old n before hand x at) turns refused tt

  pub index_refused : (laws : RefusalLaws) (new : ShownStore) (o : Open) → Refuses old new n table before.row.values tags.Full o → before.row.id.t ≡ o.t
      → (q : Place) × IsPlaceOf new q × Steps p n (Ended (replies.Refused told)) q
  index_refused laws new o refuses own =
      let counted = no_more laws old new n table before.row.values tags.Full o refuses tt p shown in
      let it = turns (counts_of new.transactions shown.database.stored) (subst (λ (t : ℕ). CountsNoMore w (counts_of new.transactions shown.database.stored) t) (sym own) counted) in
      is_refused laws old new n table before.row.values tags.Full o refuses tt p shown (put_of before.row) (hand_here old n before hand x at p shown) refl (p.accounts n)
      refl (IsFull (IndexNumber before.at) number) told
      it.0 it.1 (so _ it.0 it.1) (subst IsQuiet (sym task_is) there.quiet)

  pub index_lacks_room : TurnIsRefused → MAX_ENTRIES ≤ length p.journal → LacksRoom p n
  index_lacks_room refused full =
      let fewer = without w before.row.id.t in
      let it = turns fewer.counts fewer.no_more in
      refusal_lacks_room refused p n table before.row.values tags.Full (put_of before.row) (hand_here old n before hand x at p shown) refl (p.accounts n) fewer.counts (IsFull (IndexNumber before.at) number) told
      (refused_in n fewer.counts w) it.0 it.1 (so _ it.0 it.1) full
