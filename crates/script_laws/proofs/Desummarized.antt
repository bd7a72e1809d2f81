-- A desummarize of a range with an entry, and of one without.
use Rattle.std.proofs.Common.{◌≡◌, ℕ, suc, ◌<◌, List, [], ◌∷◌, Option, None, Some, refl, sym, ap, ◌∙◌, subst, arith}
use Rattle.std.specs.Prelude.{codes}
use Rattle.std.specs.FinMap as map
use Rattle.std.proofs.lemmas.Option.{none-some}
use Rattle.block_model.specs.declared.place.Spot.{Spot}
use Rattle.block_model.specs.declared.reply.Point.TheVariants as points
use Rattle.block_model.specs.declared.reply.Reply.{Reply}
use Rattle.block_model.specs.declared.reply.Reply.TheVariants as replies
use Rattle.block_model.specs.DatabaseState.{OpenTransaction}
use Rattle.coverage.specs.IndexPart.{part_of}
use Rattle.coverage.specs.IndexView.{map_page_of}
use Rattle.coverage.specs.Knowing.{LocksNone}
use Rattle.coverage.specs.Statements.{Dropping, Empty, Held, NotBuilding}
use Rattle.index_steps.specs.IndexTuples.{index_at}
use Rattle.script_semantics.specs.Beginnings.{StandsAt}
use Rattle.script_semantics.specs.LineTexts.{Submits, Taken, with_statement}
use Rattle.script_semantics.specs.Place.{Place, database_at}
use Rattle.script_semantics.proofs.Bare.{not_behind}
use Rattle.script_semantics.proofs.Orders.{refusal_by_block}
use Rattle.reply_texts.specs.Texts.{reply_text}
use Rattle.store_layout.specs.declared.statement.Statement.{Statement}
use Rattle.store_layout.specs.declared.statement.Statement.TheVariants as statements
use Rattle.store_layout.specs.StatementRequests.{submission_refusal}
use Rattle.coverage.specs.InOneIndex.{index_with}
use Rattle.coverage.specs.Table.{Desummarising, Index, Job, Maintains, TableState}
use Rattle.coverage.specs.TableSteps.{Desummarize, range_in}
use Rattle.script_laws.specs.RowLaws.{ARangeIsDesummarized, NothingIsDesummarized}
use Rattle.script_laws.specs.Answered.{IsAnswered}
use Rattle.script_laws.specs.Finds.{IsCalm}
use Rattle.script_laws.proofs.IndexMakes.{AreOwn, clears, clears_drop, clears_map, clears_none, own_locks, set_part, tuple_part}
use Rattle.script_laws.proofs.Maintained.{Suits, at_stage, begins_at_range, ends_at_range, stays_at_range}
use Rattle.script_laws.proofs.Places.{Answer, answered}
use Rattle.script_laws.proofs.Said.{said_desummarized, said_not_there}
use Rattle.script_laws.proofs.Stages.{Stage, shown}
use Rattle.script_laws.proofs.Summarized.{below_limit}

higher : (n : ℕ) → suc n ≡ n → ⊥
higher n is = omega arith

module _ (p : Place) (n index at block : ℕ) (name : List ℕ) (stands : StandsAt p.layout index at) (low : block < p.layout.sizes.heap_blocks)
    (calm : IsCalm p n (index_at p.layout index).table at) where
  abbrev t : ℕ
  t = (index_at p.layout index).table

  abbrev w : TableState
  w = p.tables t

  abbrev range : ℕ
  range = range_in w at block

  abbrev st : Statement
  st = statements.Desummarize index block

  abbrev job : Job
  job = Desummarising range

  abbrev x : Index
  x = w.index at

  suits : Suits p n t at st 0 0
  suits = record {
    in_table = λ q same busy. sym (ap (λ l. (index_at l index).table) same);
    none_left = refl;
    stays_queued = λ task busy queue asked same. not_behind asked queue same;
  }

  is_taken : Submits p n st None (with_statement p n st)
  is_taken = Taken (refusal_by_block p n st None calm.idle (below_limit p.layout.sizes.heap_blocks block low) ∙ allowed (map.get (database_at p).sessions n))
    where
      allowed : (transaction : Option OpenTransaction) → submission_refusal transaction st ≡ None
      allowed None = refl
      allowed (Some open_one) = refl

  mine : AreOwn n x.lock
  mine page m is = absurd (none-some _ (sym (calm.unlocked page) ∙ is))

  none : LocksNone x.lock n
  none page is = none-some _ (sym (calm.unlocked page) ∙ is)

  begins_it : (words : List (List ℕ)) (reply : Reply)
      → ((next : Stage w n at x (Maintains job at range (NotBuilding Empty))) → Answer n (at_stage p n t at st 0 0 suits calm.fits calm.below next 0 p.queue) words reply p.queue)
      → IsAnswered p n name st (codes "right" ∷ words) (reply_text name reply) p.queue
  begins_it words reply more = answered p n name st (codes "right" ∷ words) reply p.queue is_taken
      (begins_at_range p n t at st suits calm.fits calm.below job range (Desummarize at range calm.below) p.queue calm.rests calm.free
      (λ v turns held rows indexes free a b is. record { account = is.0; queue = is.3 ∙ sym is.2 })
      (λ v per. refl) refl (λ task is. (at, stands, is)) (λ asked same. not_behind asked p.queue same) words reply more)

  range_cleared : (y : Spot) → x.entry range ≡ Some y → IsAnswered p n name st (codes "right" ∷ codes "map" ∷ codes "clear" ∷ []) (reply_text name (replies.Desummarized 1)) p.queue
  range_cleared y named =
      let view = shown w n at x (λ s. None) (λ s. None) in
      let these = y.block ∷ map_page_of range ∷ [] in
      let part = set_part n range view mine None these in
      let x1 = index_with part x in
      let view1 = shown w n at x1 (λ s. None) (λ s. None) in
      let mine1 : AreOwn n x1.lock = own_locks n these in
      begins_it (codes "map" ∷ codes "clear" ∷ []) (replies.Desummarized 1)
      (λ next. stays_at_range p n t at st 0 0 suits calm.fits calm.below job range x (part_of view) (NotBuilding Empty) (NotBuilding (Held y)) points.Map 0 0 p.queue next
      (λ building loose. clears_map n range (shown w n at x building loose) mine none y named) (λ q. refl) (codes "clear" ∷ []) (replies.Desummarized 1)
      (λ on. stays_at_range p n t at st 0 0 suits calm.fits calm.below job range x part (NotBuilding (Held y)) (NotBuilding (Dropping y)) points.Clear 1 0 p.queue on
      (λ building loose. clears n range (shown w n at x building loose) mine y named) (λ q. refl) [] (replies.Desummarized 1)
      (λ last. ends_at_range p n t at st 0 0 suits calm.fits calm.below job range x1 (tuple_part n range view1 mine1 y None) (NotBuilding (Dropping y)) points.Drop 0 1 p.queue last
      (λ building loose. clears_drop n range (shown w n at x1 building loose) mine1 y)
      (λ v per has. higher range has) (λ v same. tt) (replies.Desummarized 1) refl)))

  nothing_cleared : x.entry range ≡ None → IsAnswered p n name st (codes "right" ∷ []) (reply_text name (replies.Desummarized 0)) p.queue
  nothing_cleared empty =
      begins_it [] (replies.Desummarized 0)
      (λ next. ends_at_range p n t at st 0 0 suits calm.fits calm.below job range x (part_of (shown w n at x (λ s. None) (λ s. None))) (NotBuilding Empty) points.Map 0 0 p.queue next
      (λ building loose. clears_none n range (shown w n at x building loose) mine none empty)
      (λ v per has. higher range has) (λ v same. tt) (replies.Desummarized 0) refl)

pub desummarizes_a_range : ARangeIsDesummarized
desummarizes_a_range p n index at block name y stands low calm named =
    subst (λ text. IsAnswered p n name (statements.Desummarize index block) (codes "right" ∷ codes "map" ∷ codes "clear" ∷ []) text p.queue) (said_desummarized name)
    (range_cleared p n index at block name stands low calm y named)

pub desummarizes_nothing : NothingIsDesummarized
desummarizes_nothing p n index at block name stands low calm empty =
    subst (λ text. IsAnswered p n name (statements.Desummarize index block) (codes "right" ∷ []) text p.queue) (said_not_there name)
    (nothing_cleared p n index at block name stands low calm empty)
