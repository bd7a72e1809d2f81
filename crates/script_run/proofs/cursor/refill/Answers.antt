use Rattle.std.proofs.Common.{◌∙◌, sym, subst, []}
use Rattle.std.proofs.lemmas.Result.{err_from_is_err_and}
use Rattle.script_run.specs.Reading.{LineReading, ReadsOn, Stops}
use Rattle.script_run.specs.Buffered.{reading}
use Rattle.script_run.proofs.Hands.{brought, brought_filling, answers_line, answers_last}
use Rattle.script_run.proofs.cursor.refill.Goals as goal

pub fill-requires : goal.fill-requires
fill-requires g c = brought_filling c.args.buffer.now c.keep_front-cursor.new.buffer c.args.cursor.now c.keep_front-cursor.result c.requires.cursor c.requires.going c.requires.unended c.keep_front-cursor.ensures.count c.keep_front-cursor.ensures.front c.keep_front-cursor.auto.buffer

pub returns-in-Some-clause-answers : goal.returns-in-Some-clause-answers
returns-in-Some-clause-answers g c =
    let same = brought c.args.buffer.now c.keep_front-cursor.new.buffer c.args.cursor.now c.keep_front-cursor.result c.requires.cursor c.requires.going c.requires.unended c.keep_front-cursor.ensures.count c.keep_front-cursor.ensures.front c.keep_front-cursor.auto.buffer in
    let told = rw c.in-Some.is at c.in_ok-at.ensures.fills in
    answers_line (reading c.args.buffer.now c.args.cursor.now) c.fill.new.buffer c.fill.new.cursor (g.S.Source.left c.args.source.now) (g.S.Source.left c.fill.new.source) told.0 told.1
    (subst (λ (a : LineReading). ReadsOn a (reading c.fill.new.buffer c.fill.new.cursor) told.0 []) same told.2)
    c.in-Some.at c.hand_out.result c.hand_out.new.cursor told.3.3 (told.3.2 ∙ sym c.requires.going) c.hand_out.ensures.span c.hand_out.ensures.rest

pub returns-in-None-clause-answers : goal.returns-in-None-clause-answers
returns-in-None-clause-answers g c =
    let same = brought c.args.buffer.now c.keep_front-cursor.new.buffer c.args.cursor.now c.keep_front-cursor.result c.requires.cursor c.requires.going c.requires.unended c.keep_front-cursor.ensures.count c.keep_front-cursor.ensures.front c.keep_front-cursor.auto.buffer in
    let told = rw c.in-None.is at c.in_ok-at.ensures.fills in
    answers_last (reading c.args.buffer.now c.args.cursor.now) c.fill.new.buffer c.fill.new.cursor (g.S.Source.left c.args.source.now) (g.S.Source.left c.fill.new.source) told.0 told.1
    (subst (λ (a : LineReading). ReadsOn a (reading c.fill.new.buffer c.fill.new.cursor) told.0 []) same told.2)
    c.last_line.result c.last_line.new.cursor told.3.0 told.3.3 told.3.2 c.last_line.ensures

pub returns-in_err-at-clause-answers : goal.returns-in_err-at-clause-answers
returns-in_err-at-clause-answers g c =
    let same = brought c.args.buffer.now c.keep_front-cursor.new.buffer c.args.cursor.now c.keep_front-cursor.result c.requires.cursor c.requires.going c.requires.unended c.keep_front-cursor.ensures.count c.keep_front-cursor.ensures.front c.keep_front-cursor.auto.buffer in
    let p = err_from_is_err_and c.from_residual.result c.from_residual.ensures.1 in
    rw (p.1, p.2)
    (subst (λ (a : LineReading). Stops a (reading c.fill.new.buffer c.fill.new.cursor) (g.S.Source.left c.args.source.now) (g.S.Source.left c.fill.new.source) c.in_err-at.field-0.0) same c.in_err-at.ensures.fills.0)
