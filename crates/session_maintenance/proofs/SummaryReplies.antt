-- a summarise of the statement itself and that of work, and what each replies
use Rattle.std.proofs.Common.{◌≡◌, ◌≢◌, ◌⊎◌, inl, inr, ℕ, suc, ◌/◌, ◌<◌, [], length, Option, None, Some, refl, sym, ap, subst, ◌∙◌}
use Rattle.std.specs.Prelude.{slice_get}
use Rattle.std.proofs.lemmas.Option.{same_Some}
use Rattle.disk_trait.specs.Told.{Told}
use Rattle.block_model.specs.DatabaseState.{OpenTransaction}
use Rattle.block_model.specs.declared.reply.Point.{Point}
use Rattle.block_model.specs.declared.reply.Reply.{Reply}
use Rattle.block_model.specs.declared.reply.Reply.TheVariants as replies
use Rattle.store_layout.specs.DiskLayout.{DiskLayout}
use Rattle.page_map.specs.PageMap.{View}
use Rattle.page_locks.specs.LockHolders.{LockState}
use Rattle.snapshot_core.specs.declared.sessions.Open.{Open}
use Rattle.snapshot_core.specs.StoredVersions.{transaction_of}
use Rattle.store_layout.specs.declared.statement.Statement.TheVariants as statements
use Rattle.coverage.specs.Table.{Considers, OneRange, Resting, TableState, Task}
use Rattle.coverage.specs.TablePoints.{does_point}
use Rattle.coverage.specs.TableSteps.{Does, Settles}
use Rattle.coverage.proofs.Views.{pick_same}
use Rattle.index_steps.specs.IndexTuples.{index_at}
use Rattle.index_steps.specs.ShownTable.{indexes_of}
use Rattle.summarise_core.specs.declared.course.Standing.TheVariants as standings
use Rattle.summarise_core.specs.declared.wish.Wish.{Wish}
use Rattle.summarise_core.specs.declared.wish.Wish.TheVariants as wishes
use Rattle.summarise_core.specs.Summarises.{SummariseState, count_of, in_range_of}
use Rattle.summarise_core.specs.SummariseTable.{job_of, task_of}
use Rattle.script_semantics.specs.Names.{index_name}
use Rattle.script_semantics.specs.Place.{Place}
use Rattle.script_semantics.specs.StatementSteps.{reply_after, work_reply}
use Rattle.session_parts.specs.declared.hand.Hand.{Hand}
use Rattle.session_parts.specs.declared.hand.Hand.TheVariants as hands
use Rattle.session_parts.specs.declared.hand.Requested.{Requested}
use Rattle.session_parts.specs.declared.parts.Parts.{Parts}
use Rattle.session_parts.specs.Hands.{statement_of}
use Rattle.session_parts.specs.HandFits.{IsHandFor}
use Rattle.session_parts.specs.ShowsPlace.{IsLeftToMark}
use Rattle.session_parts.specs.Stepping.{IsFit}
use Rattle.session_parts.specs.StoreStates.{ShownStore, shown_of, store_of}
use Rattle.session_parts.proofs.Steps.{takes_on}
use Rattle.session_maintenance.specs.declared.asker.Asker.{Asker}
use Rattle.session_maintenance.specs.declared.asker.Asker.TheVariants as askers
use Rattle.session_maintenance.specs.Askers.{hand_for, reply_for}
use Rattle.session_maintenance.proofs.SummariseParts.{MachineLeft, RepliesSo, fits, is_it}
use Rattle.session_maintenance.proofs.SummariseTurns.{IsSummaryAt, IsBySummarise, at_range, by_summarise, is_busy, right_of_its}
use Rattle.session_maintenance.proofs.UpkeepAt.{IsUpkeep, at_task, counted, unseen_here}
use Rattle.session_maintenance.proofs.WorkEnds.{ends_behind}

-- ---- work at the range of its request

of_any_copy : (copy : Option OpenTransaction) (r : Requested) → IsLeftToMark copy (hands.Works r)
of_any_copy None r = tt
of_any_copy (Some x) r = tt

pub is_work : (layout : DiskLayout) (r : Requested) → r.summarise.index < length layout.schema.indexes → (index_at layout r.summarise.index).table < length layout.schema.tables
    → IsUpkeep layout (hands.Works r) r.summarise.index (IsSummaryAt layout r.summarise) (counted (count_of r.summarise))
is_work layout r within below = record {
  within = within;
  below = below;
  lock = refl;
  asks = λ n answers. refl;
  answers = λ answers is. is;
  answered = refl;
  tells = λ account is. is;
  told = refl;
  none = refl;
  own = λ transaction copy. of_any_copy copy r;
  in_table = λ table has. sym (same_Some (index_at layout r.summarise.index).table table has);
  no_insert = tt;
  asked = λ asked. tt;
  right = λ table has. right_of_its (index_at layout r.summarise.index).table table r.summarise.standing has;
  task_is = λ table blocks tx stored transaction now is. is;
  is_task = λ table blocks tx stored transaction now is. is;
}

range_not_done : standings.AtRange ≢ standings.Done
range_not_done is = cc

range_not_begins : standings.AtRange ≢ standings.Begins
range_not_begins is = cc

pub block_not_complete : (block : ℕ) → wishes.Block block ≢ wishes.Complete
block_not_complete block is = cc

stays_at : (a b : SummariseState) → a.standing ≡ standings.AtRange → (b.standing ≡ standings.AtRange) ⊎ (b.standing ≡ a.standing) → b.standing ≡ standings.AtRange
stays_at a b at stands = elim stands [
  | inl there ↦ there
  | inr same ↦ same ∙ at
]

by_work : (layout : DiskLayout) (own : Option Open) (range : ℕ) → IsBySummarise layout own (λ a. hands.Works (record { summarise = a; range = range }))
by_work layout own range = record {
  of = λ a fit. fit.of;
  left = λ a fit done. range_not_done (sym fit.at ∙ done);
  wish = λ a fit complete. block_not_complete fit.block (sym fit.wish ∙ complete);
  goes = λ a b fit of index wish stands. record {
    of = of;
    at = stays_at a b fit.at stands;
    block = fit.block;
    wish = wish ∙ fit.wish;
    range = ap (λ (i : ℕ). fit.block / in_range_of layout i) index ∙ fit.range;
  };
  upkeep = λ a fit below. is_work layout (record { summarise = a; range = range }) fit.of.index below;
  same = λ a b index wish. refl;
  locks = λ a. refl;
  right = λ a. refl;
  share = λ a. refl;
  enters = λ a n tag. refl;
  puts = λ a. tt;
  begins = λ a fit begins pages locks blocks u p n at same stands. absurd (range_not_begins (sym fit.at ∙ begins));
  on = λ a fit below p n at same is. inl (
    subst (λ (l : DiskLayout). (index_at layout a.index).table < length l.schema.tables) (sym same) below,
    λ rests. is_busy layout at a fit.at (sym is ∙ rests),
  );
  takes = λ a fit at queue. takes_on statements.Work (task_of layout at a) queue (is_busy layout at a fit.at);
}

pub by_asker : (layout : DiskLayout) (own : Option Open) (asker : Asker) → IsBySummarise layout own (hand_for asker)
by_asker layout own askers.Line = by_summarise layout own
by_asker layout own (askers.Insert range) = by_work layout own range

-- ---- what is told

abbrev Tells : Asker → DiskLayout → SummariseState → Place → (n number at : ℕ) → Task → (count : ℕ) → Type 0
Tells asker layout a p n number at within count = Some (reply_for asker (index_name layout number at) count) ≡ reply_after p.layout number within (counted count) [] (statement_of (hand_for asker a))

tells_by : (asker : Asker) (layout : DiskLayout) (own : Option Open) (a : SummariseState) → IsHandFor layout own (hand_for asker a) → (p : Place) (n number at : ℕ) (w v x : TableState) (point : Point) → p.layout ≡ layout
    → w.task n ≡ task_of layout at a → (does : Does n w v) → does_point n w v does ≡ Some point → Settles n v x → x.task n ≡ Resting → (count : ℕ) → Tells asker layout a p n number at (v.task n) count
tells_by askers.Line layout own a fit p n number at w v x point same was does named settles rests count = refl
tells_by (askers.Insert range) layout own a fit p n number at w v x point same was does named settles rests count =
    let then = ends_behind n w v point _ at a.range _ (was ∙ at_range layout at a fit.at) x does named settles rests in
    let job = ap (λ (wish : Wish). Considers (job_of wish (in_range_of layout a.index) a.extent) at (suc a.range)) fit.wish ∙ ap (λ (r : ℕ). Considers (OneRange a.extent r) at (suc a.range)) fit.range in
    sym (ap (λ (t : Task). work_reply p.layout number t count) (then ∙ job) ∙ ap (λ (l : DiskLayout). Some (replies.Worked (index_name l number at) range count)) same)

module _ {D : Type 0} (told : D → Told) (parts : Parts D) (n : ℕ) (asker : Asker) (a : SummariseState) (fit : IsFit told parts n (hand_for asker a)) (below : (index_at parts.pages.layout a.index).table < length parts.pages.layout.schema.tables)
    (pages : View D) (locks : LockState) (b : SummariseState) (left : MachineLeft told parts n a pages locks b) where
  abbrev by : IsBySummarise parts.pages.layout (transaction_of parts.transactions.opens n) (hand_for asker)
  by = by_asker parts.pages.layout (transaction_of parts.transactions.opens n) asker

  abbrev was : Hand
  was = hand_for asker a

  abbrev number : ℕ
  number = (index_at parts.pages.layout a.index).table

  -- by the names that the layout has
  pub replies_so : (point : Point) (reply : Reply) → ((table at : ℕ) → slice_get (indexes_of parts.pages.layout table) at ≡ Some a.index → reply ≡ reply_for asker (index_name parts.pages.layout table at) (count_of b))
      → RepliesSo told parts n (hand_for asker) by a fit below pages locks b left point reply
  replies_so point reply named = λ names hand_list has then p shown made rests.
      let old : ShownStore = shown_of (store_of parts names hand_list) in
      let it = at_task old n was a.index (IsSummaryAt parts.pages.layout a) (counted (count_of a)) (is_it told parts n (hand_for asker) by a fit below) has p shown in
      let u = unseen_here old n was a.index (IsSummaryAt parts.pages.layout a) (counted (count_of a)) (is_it told parts n (hand_for asker) by a fit below) has p shown in
      ap Some (named number it.0 it.1)
      ∙ tells_by asker parts.pages.layout (transaction_of parts.transactions.opens n) a (fits told parts n (hand_for asker) by a fit below).in_hand p n number it.0 _ _ _ point shown.layout it.2
      made.turns.does made.turns.point_is made.turns.settles (pick_same n made.after (u.task n) ∙ rests) (count_of b)
      ∙ ap (λ (t : Task). reply_after p.layout number t (counted (count_of b)) [] (statement_of was)) (pick_same n made.between (u.task n))
