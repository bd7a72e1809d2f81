-- A summarize, and work, of a range without a tuple; and a summarize of one that has a tuple.
use Rattle.std.proofs.Common.{◌≡◌, ◌≢◌, inl, inr, ℕ, suc, ◌*◌, ◌≤◌, ◌<◌, List, [], ◌∷◌, length, slice_get, Option, None, Some, if◌then◌else◌, refl, sym, ap, ◌∙◌, subst, arith}
use Rattle.std.specs.Prelude.{codes, nat_le}
use Rattle.std.specs.FinMap as map
use Rattle.std.proofs.lemmas.Bool.{lt-leb}
use Rattle.std.proofs.lemmas.Option.{none-some}
use Rattle.block_model.specs.declared.reply.Point.TheVariants as points
use Rattle.block_model.specs.declared.reply.Refusal.TheVariants as refusals
use Rattle.block_model.specs.declared.reply.Reply.{Reply}
use Rattle.block_model.specs.declared.reply.Reply.TheVariants as replies
use Rattle.block_model.specs.DatabaseState.{OpenTransaction}
use Rattle.coverage.specs.IndexPart.{part_of}
use Rattle.coverage.specs.Knowing.{LocksNone}
use Rattle.coverage.specs.Statements.{Empty, Held, NotBuilding}
use Rattle.index_steps.specs.IndexTuples.{index_at}
use Rattle.script_semantics.specs.Beginnings.{StandsAt, TakesUp}
use Rattle.script_semantics.specs.LineTexts.{Submits, Taken, block_refusal, submit_refusal, with_statement}
use Rattle.script_semantics.specs.Names.{index_name}
use Rattle.script_semantics.specs.Place.{Place, database_at}
use Rattle.script_semantics.proofs.Bare.{not_behind}
use Rattle.script_semantics.proofs.Orders.{refusal_by_block}
use Rattle.reply_texts.specs.Texts.{reply_text}
use Rattle.store_layout.specs.declared.statement.Statement.{Statement}
use Rattle.store_layout.specs.declared.statement.Statement.TheVariants as statements
use Rattle.store_layout.specs.StatementRequests.{submission_refusal}
use Rattle.store_layout.specs.DiskLayout.{DiskLayout}
use Rattle.coverage.specs.Accounts.{Asked}
use Rattle.coverage.specs.Table.{EachRange, Maintains, OneRange, Resting, TableState, Task}
use Rattle.coverage.specs.TableSteps.{Summarize, SummarizeOne, Work, first_block, range_in}
use Rattle.script_laws.specs.RowLaws.{AOneRangeTableIsSummarized, ARangeIsSummarized, ASummarizedRangeIsLeft, WorkTakesTheFirst}
use Rattle.script_laws.specs.Answered.{IsAnswered}
use Rattle.script_laws.specs.Finds.{HasTuple, IsCalm, LacksTuple}
use Rattle.script_laws.specs.Words.{blocks_of, summary_words}
use Rattle.script_laws.proofs.IndexMakes.{AreOwn, makes_final, makes_look}
use Rattle.script_laws.proofs.Maintained.{Suits, at_stage, begins_at_range, ends_at_range, stays_at_range}
use Rattle.script_laws.proofs.Places.{Answer, answered}
use Rattle.script_laws.proofs.Said.{said_left, said_summarized, said_worked}
use Rattle.script_laws.proofs.Stages.{Stage, shown}
use Rattle.script_laws.proofs.Summaries.{EndsHere, summarises}

pub summarize_allowed : (p : Place) (n index : ℕ) (block : Option ℕ) → p.hands n ≡ None → block_refusal p.layout.sizes.heap_blocks (statements.Summarize index block) ≡ None
    → submit_refusal p n (statements.Summarize index block) ≡ None
summarize_allowed p n index block idle low = refusal_by_block p n (statements.Summarize index block) None idle low ∙ allowed (map.get (database_at p).sessions n)
  where
    allowed : (transaction : Option OpenTransaction) → submission_refusal transaction (statements.Summarize index block) ≡ None
    allowed None = refl
    allowed (Some x) = refl

summarize_taken : (p : Place) (n index : ℕ) (block : Option ℕ) → p.hands n ≡ None → block_refusal p.layout.sizes.heap_blocks (statements.Summarize index block) ≡ None
    → Submits p n (statements.Summarize index block) None (with_statement p n (statements.Summarize index block))
summarize_taken p n index block idle low = Taken (summarize_allowed p n index block idle low)

work_taken : (p : Place) (n : ℕ) → p.hands n ≡ None → Submits p n statements.Work None (with_statement p n statements.Work)
work_taken p n idle = Taken (refusal_by_block p n statements.Work None idle refl ∙ allowed (map.get (database_at p).sessions n))
  where
    allowed : (transaction : Option OpenTransaction) → submission_refusal transaction statements.Work ≡ None
    allowed None = refl
    allowed (Some x) = refl

pub below_limit : (limit block : ℕ) → block < limit → (if nat_le limit block then Some (refusals.Limit limit) else None) ≡ None
below_limit limit block less = ap (λ b. if b then Some (refusals.Limit limit) else None) (lt-leb limit block less)

higher : (n : ℕ) → suc n ≡ n → ⊥
higher n is = omega arith

module _ (p : Place) (n index at : ℕ) (block : Option ℕ) where
  abbrev t : ℕ
  t = (index_at p.layout index).table

  abbrev st : Statement
  st = statements.Summarize index block

  summarize_suits : Suits p n t at st 0 0
  summarize_suits = record {
    in_table = λ q same busy. sym (ap (λ l. (index_at l index).table) same);
    none_left = refl;
    stays_queued = λ task busy queue asked same. not_behind asked queue same;
  }

-- the place of block among the ranges of the index
module _ (p : Place) (n index at block : ℕ) (name : List ℕ) (stands : StandsAt p.layout index at) (low : block < p.layout.sizes.heap_blocks)
    (calm : IsCalm p n (index_at p.layout index).table at) where
  abbrev w : TableState
  w = p.tables (index_at p.layout index).table

  abbrev range : ℕ
  range = range_in w at block

  abbrev one : Statement
  one = statements.Summarize index (Some block)

  abbrev suits : Suits p n (index_at p.layout index).table at one 0 0
  suits = summarize_suits p n index at (Some block)

  begins_one : (begins : first_block w at range < w.blocks) (words : List (List ℕ)) (reply : Reply)
      → ((next : Stage w n at (w.index at) (Maintains (OneRange w.blocks range) at range (NotBuilding Empty)))
      → Answer n (at_stage p n (index_at p.layout index).table at one 0 0 suits calm.fits calm.below next 0 p.queue) words reply p.queue)
      → IsAnswered p n name one (codes "right" ∷ words) (reply_text name reply) p.queue
  begins_one begins words reply more = answered p n name one (codes "right" ∷ words) reply p.queue
      (summarize_taken p n index (Some block) calm.idle (below_limit p.layout.sizes.heap_blocks block low))
      (begins_at_range p n (index_at p.layout index).table at one suits calm.fits calm.below (OneRange w.blocks range) range (SummarizeOne at range calm.below) p.queue
      calm.rests calm.free (λ v turns held rows indexes free a b is. record { account = is.0; queue = is.3 ∙ sym is.2 })
      (λ v per. (refl, subst (λ k. range * k < w.blocks) (sym per) begins)) refl (λ task is. (at, stands, is)) (λ asked same. not_behind asked p.queue same)
      words reply more)

  ends_one : EndsHere p n (index_at p.layout index).table at one 0 0 suits calm.fits calm.below (OneRange w.blocks range) range p.queue (replies.Summarized 1)
  ends_one = record { lift = λ u part old new point count makes. makes; no_range = λ v per has. higher range has.0; last = λ v same. tt }

  range_summarized : (lacks : LacksTuple w at range) → IsAnswered p n name one (summary_words (blocks_of w at range)) (reply_text name (replies.Summarized 1)) p.queue
  range_summarized lacks = begins_one lacks.begins _ (replies.Summarized 1)
      (summarises p n (index_at p.layout index).table at one 0 0 suits calm.fits calm.below (OneRange w.blocks range) range p.queue (replies.Summarized 1) ends_one refl lacks.slots lacks calm.unlocked)

  range_left : (has : HasTuple w at range) → IsAnswered p n name one (codes "right" ∷ codes "map" ∷ []) (reply_text name (replies.Summarized 0)) p.queue
  range_left has =
      let job = OneRange w.blocks range in
      let x = w.index at in
      let part = part_of (shown w n at x (λ s. None) (λ s. None)) in
      let mine : AreOwn n x.lock = λ page m is. absurd (none-some _ (sym (calm.unlocked page) ∙ is)) in
      let none : LocksNone x.lock n = λ page is. absurd (none-some _ (sym (calm.unlocked page) ∙ is)) in
      begins_one has.begins (codes "map" ∷ []) (replies.Summarized 0)
      (λ next. stays_at_range p n (index_at p.layout index).table at one 0 0 suits calm.fits calm.below job range x part (NotBuilding Empty) (NotBuilding (Held has.place)) points.Map 0 0 p.queue next
      (λ building loose. makes_look n range (shown w n at x building loose) mine none has.place has.named) (λ q. refl) [] (replies.Summarized 0)
      (λ on. ends_at_range p n (index_at p.layout index).table at one 0 0 suits calm.fits calm.below job range x part (NotBuilding (Held has.place)) points.Tuple 0 0 p.queue on
      (λ building loose. makes_final n range (shown w n at x building loose) mine none has.place has.tuple (has.stands, has.of) has.final)
      (λ v per has_more. higher range has_more.0) (λ v same. tt) (replies.Summarized 0) refl))

pub summarizes_a_range : ARangeIsSummarized
summarizes_a_range p n index at block name stands low calm lacks =
    subst (λ text. IsAnswered p n name (statements.Summarize index (Some block))
    (summary_words (blocks_of (p.tables (index_at p.layout index).table) at (range_in (p.tables (index_at p.layout index).table) at block))) text p.queue) (said_summarized name) (range_summarized p n index at block name stands low calm lacks)

pub leaves_a_range : ASummarizedRangeIsLeft
leaves_a_range p n index at block name stands low calm has =
    subst (λ text. IsAnswered p n name (statements.Summarize index (Some block)) (codes "right" ∷ codes "map" ∷ []) text p.queue) (said_left name)
    (range_left p n index at block name stands low calm has)

none_above : (blocks per its : ℕ) → blocks ≤ its → per ≡ its → 1 * per < blocks → ⊥
none_above blocks per its le is less = omega arith

pub summarizes_a_table : AOneRangeTableIsSummarized
summarizes_a_table p n index at name stands calm one_range lacks =
    let t = (index_at p.layout index).table in
    let w = p.tables t in
    let st = statements.Summarize index None in
    let suits = summarize_suits p n index at None in
    let job = EachRange w.blocks in
    let ends : EndsHere p n t at st 0 0 suits calm.fits calm.below job 0 p.queue (replies.Summarized 1) =
    record { lift = λ u part old new point count makes. makes; no_range = λ v per has. none_above w.blocks (v.index at).pages_per_range (w.index at).pages_per_range one_range per has; last = λ v same. tt } in
    subst (λ text. IsAnswered p n name st (summary_words (blocks_of w at 0)) text p.queue) (said_summarized name)
    (answered p n name st (summary_words (blocks_of w at 0)) (replies.Summarized 1) p.queue (summarize_taken p n index None calm.idle refl)
    (begins_at_range p n t at st suits calm.fits calm.below job 0 (Summarize at calm.below) p.queue
    calm.rests calm.free (λ v turns held rows indexes free a b is. record { account = is.0; queue = is.3 ∙ sym is.2 })
    (λ v per. subst (λ k. 0 * k < w.blocks) (sym per) lacks.begins) refl (λ task is. (at, stands, is)) (λ asked same. not_behind asked p.queue same)
    _ (replies.Summarized 1) (summarises p n t at st 0 0 suits calm.fits calm.below job 0 p.queue (replies.Summarized 1) ends refl lacks.slots lacks calm.unlocked)))

-- ---- work

work_stays : (task : Task) → task ≢ Resting → (queue : List Asked) → TakesUp statements.Work task queue queue
work_stays Resting busy queue = absurd (busy refl)
work_stays task busy queue = λ asked same. not_behind asked queue same

work_suits : (p : Place) (n t at : ℕ) → t < length p.layout.schema.tables → Suits p n t at statements.Work 0 0
work_suits p n t at declared = record {
  in_table = λ q same busy. inl (subst (λ (l : DiskLayout). t < length l.schema.tables) (sym same) declared, busy);
  none_left = refl;
  stays_queued = work_stays;
}

pub works_a_range : WorkTakesTheFirst
works_a_range p n name asked rest queued still declared calm lacks =
    let t = asked.table in
    let at = asked.at in
    let range = asked.range in
    let w = p.tables t in
    let st = statements.Work in
    let suits = work_suits p n t at declared in
    let job = OneRange w.blocks range in
    let reply = replies.Worked (index_name p.layout t at) range 1 in
    let first : slice_get p.queue 0 ≡ Some asked = ap (λ (l : List Asked). slice_get l 0) queued in
    let ends : EndsHere p n t at st 0 0 suits calm.fits calm.below job range rest reply =
    record { lift = λ u part old new point count makes. makes; no_range = λ v per has. higher range has.0; last = λ v same. tt } in
    subst (λ text. IsAnswered p n name st (summary_words (blocks_of w at range)) text rest) (said_worked name (index_name p.layout t at) range)
    (answered p n name st (summary_words (blocks_of w at range)) reply rest (work_taken p n calm.idle)
    (begins_at_range p n t at st suits calm.fits calm.below job range (Work at range calm.below) rest
    calm.rests calm.free
    (λ v turns held rows indexes free a b is. (
      is.0,
      is.2 ∙ queued ∙ ap (λ (k : ℕ). record { table = k; at = at; range = range } ∷ rest) (sym is.1)
          ∙ ap (λ (l : List Asked). record { table = a.table; at = at; range = range } ∷ l) (sym is.3),
    ))
    (λ v per. (refl, subst (λ k. range * k < w.blocks) (sym per) lacks.begins))
    (inr (still, (asked, first, refl))) (λ task is. (asked, first, is)) (subst (λ (task : Task). TakesUp st task p.queue rest) (sym calm.rests) (asked, queued))
    _ reply (summarises p n t at st 0 0 suits calm.fits calm.below job range rest reply ends refl lacks.slots lacks calm.unlocked)))
