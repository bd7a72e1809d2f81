use Rattle.std.proofs.Common.{ℕ, List, refl, subst, arith}
use Rattle.opclass_any.specs.declared.classes.AnyClass.{AnyClass}
use Rattle.index_contents.specs.IndexContents.{contents}
use Rattle.range_tuple.specs.Judged.{IsJudged}
use Rattle.range_tuple.specs.Tuples.{parts_of}
use Rattle.index_steps.specs.DamagedPages.{names_page}
use Rattle.index_steps.specs.IndexTuples.{shape_of}
use Rattle.index_steps.proofs.Copying.{is_misread, shows_gone, shows_tuple}
use Rattle.index_steps.proofs.Damage.{none_misread}
use Rattle.index_steps.proofs.reading.judge_tuple.Goals as goal

pub returns-in-Ok-None-clause-gone : goal.returns-in-Ok-None-clause-gone
returns-in-Ok-None-clause-gone g c = λ none tells.
    let old = c.args.pages.now in
    shows_gone (shape_of old.layout c.args.index) (contents old.layout old.pages c.args.index) c.args.range c.args.spot (omega arith) (c.in-Ok-None.ensures.gone c.in-Ok-None.field-0-is tells)

pub returns-in-Ok-None-clause-undamaged : goal.returns-in-Ok-None-clause-undamaged
returns-in-Ok-None-clause-undamaged g c = λ tells.
    let old = c.args.pages.now in
    none_misread (shape_of old.layout c.args.index) (contents old.layout old.pages c.args.index) c.args.range c.args.spot (omega arith) (c.in-Ok-None.ensures.gone c.in-Ok-None.field-0-is tells)

pub returns-in-Err-clause-at : goal.returns-in-Err-clause-at
returns-in-Err-clause-at g c = names_page c.args.pages.now.layout c.args.pages.now.layout c.args.index c.args.spot.block c.in-Err.error refl c.requires.index c.in-Err.ensures.reopen c.in-Err.ensures.at

pub returns-in-Ok-clause-judged : goal.returns-in-Ok-clause-judged
returns-in-Ok-clause-judged g c = λ tells.
    let old = c.args.pages.now in
    let bytes = c.in-Ok-Some.bytes.now in
    let there = rw c.in-Ok-Some.field-0-is at c.in-Ok-Some.ensures.there in
    let of = rw c.in-Ok-Some.field-0-is at c.in-Ok-Some.ensures.range in
    record {
      bytes = bytes;
      there = shows_tuple (shape_of old.layout c.args.index) (contents old.layout old.pages c.args.index) c.args.range c.args.spot bytes (there tells) of;
      judged = subst (λ (parts : List (ℕ × AnyClass)). IsJudged parts bytes c.args.conds.now c.in-Ok.kept) c.requires.tuple c.in-Ok.ensures.judged;
    }

pub returns-in-Err-judged-clause-outcome : goal.returns-in-Err-judged-clause-outcome
returns-in-Err-judged-clause-outcome g c =
    let old = c.args.pages.now in
    let bytes = c.in-Ok-Some.bytes.now in
    let there = rw c.in-Ok-Some.field-0-is at c.in-Ok-Some.ensures.there in
    let of = rw c.in-Ok-Some.field-0-is at c.in-Ok-Some.ensures.range in
    let done = rw c.in-Ok-Some.is at c.tuple_at.follows.holds-at-none in (
      done.1.0,
      done.1.1,
      done.1.2,
      λ tells. is_misread (shape_of old.layout c.args.index) (contents old.layout old.pages c.args.index) (parts_of c.args.tuple.now.columns) c.args.range c.in-Err-judged.field-0.at c.args.spot bytes c.requires.tuple (there tells) of c.in-Err-judged.ensures.refused,
    )
