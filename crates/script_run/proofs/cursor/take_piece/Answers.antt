use Rattle.std.proofs.Common.{ℕ, ◌∙◌, subst, take, drop, []}
use Rattle.std.proofs.lemmas.Result.{err_from_is_err_and}
use Rattle.std.proofs.KnownBytes.{Consumes-kept, Consumes-nil}
use Rattle.std.specs.Io.KnownBytes.{Consumes}
use Rattle.script_run.proofs.Pieces.{piece_part, piece_line, piece_end, piece_fault}
use Rattle.script_run.proofs.cursor.take_piece.Goals as goal

pub returns-in_err-count-clause-fills : goal.returns-in_err-count-clause-fills
returns-in_err-count-clause-fills g c =
    let p = err_from_is_err_and c.from_residual.result c.from_residual.ensures.1 in
    rw (p.1, p.2)
    (piece_fault c.args.buffer.now c.read_behind.new.buffer c.args.cursor.now (g.S.Source.left c.args.source.now) (g.S.Source.left c.read_behind.new.source) c.requires.filling (c.read_behind.auto.buffer ∙ c.requires.filling.cursor.size) c.read_behind.ensures.front
    (Consumes-kept (g.S.Source.left c.args.source.now) (g.S.Source.left c.args.source.now) (g.S.Source.left c.read_behind.new.source) [] (Consumes-nil (g.S.Source.left c.args.source.now)) c.in_err-count.ensures.same))

pub returns-then-count-eq0-clause-fills : goal.returns-then-count-eq0-clause-fills
returns-then-count-eq0-clause-fills g c =
    piece_end c.args.buffer.now c.read_behind.new.buffer c.args.cursor.now (g.S.Source.left c.args.source.now) (g.S.Source.left c.read_behind.new.source) c.requires.filling (c.read_behind.auto.buffer ∙ c.requires.filling.cursor.size) c.read_behind.ensures.front
    (let P : ℕ → _ = λ n. Consumes (g.S.Source.left c.args.source.now) (g.S.Source.left c.read_behind.new.source) (take n (drop c.args.cursor.now.end c.read_behind.new.buffer)) in subst P c.if-count-eq0.true c.in_ok-count.ensures.bytes.0)
    (c.in_ok-count.ensures.bytes.1 c.if-count-eq0.true)

pub returns-in-Some-clause-fills : goal.returns-in-Some-clause-fills
returns-in-Some-clause-fills g c =
    piece_line c.args.buffer.now c.read_behind.new.buffer c.args.cursor.now (g.S.Source.left c.args.source.now) (g.S.Source.left c.read_behind.new.source) c.in_ok-count.count
    c.requires.filling (c.read_behind.auto.buffer ∙ c.requires.filling.cursor.size) c.read_behind.ensures.front c.in_ok-count.ensures.within.0 c.in_ok-count.ensures.within.1 c.requires.more c.in-Some.at c.in_ok-count.ensures.bytes.0 c.in-Some.ensures

pub returns-in-None-clause-fills : goal.returns-in-None-clause-fills
returns-in-None-clause-fills g c =
    piece_part c.args.buffer.now c.read_behind.new.buffer c.args.cursor.now (g.S.Source.left c.args.source.now) (g.S.Source.left c.read_behind.new.source) c.in_ok-count.count
    c.requires.filling (c.read_behind.auto.buffer ∙ c.requires.filling.cursor.size) c.read_behind.ensures.front c.in_ok-count.ensures.within.0 c.in_ok-count.ensures.within.1 c.requires.more c.min-cursor.result c.min-cursor.ensures c.in_ok-count.ensures.bytes.0 c.in-None.ensures
