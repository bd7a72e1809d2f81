use Rattle.std.proofs.Common.{arith, ◌≡◌, ◌∙◌, sym, refl, [], Ok, Err, ◌++◌}
use Rattle.std.proofs.lemmas.Result.{err_from_is_err_and}
use Rattle.std.proofs.KnownBytes.{Consumes-trans, Consumes-kept, Consumes-nil}
use Rattle.script_run.specs.declared.cursor.Came.TheVariants as came
use Rattle.script_run.specs.declared.end.LinesEnd.TheVariants as ends
use Rattle.script_run.specs.Buffered.{reading}
use Rattle.script_run.proofs.Pieces.{fills_after, past_limit, piece_end, piece_fault}
use Rattle.script_run.proofs.Steps.{then}
use Rattle.script_run.proofs.cursor.fill.Goals as goal

pub pieces-preserved : goal.pieces-preserved
pieces-preserved g c =
    let before = c.pieces.invariant in
    let told = rw c.in-Part.is at c.in_ok-take_piece.ensures.fills in
    record {
      filling = told.3;
      reads = (
        before.reads.0 ++ told.0,
        Consumes-trans (g.S.Source.left c.args.source.now) (g.S.Source.left c.pieces.source) (g.S.Source.left c.take_piece.new.source) before.reads.0 told.0 before.reads.1 told.1,
        then (reading c.args.buffer.now c.args.cursor.now) (reading c.pieces.buffer c.pieces.cursor) (reading c.take_piece.new.buffer c.take_piece.new.cursor) before.reads.0 told.0 [] [] before.reads.2 told.2,
      );
      later = omega (arith, before.later, c.take_piece.ensures.later);
    }

pub returns-in-Line-clause-fills : goal.returns-in-Line-clause-fills
returns-in-Line-clause-fills g c =
    let before = c.pieces.invariant in
    fills_after c.args.buffer.now c.pieces.buffer c.take_piece.new.buffer c.args.cursor.now c.pieces.cursor c.take_piece.new.cursor (g.S.Source.left c.args.source.now) (g.S.Source.left c.pieces.source) (g.S.Source.left c.take_piece.new.source)
    before.reads.0 before.reads.1 before.reads.2 (c.requires.going ∙ sym before.filling.going) (Ok (came.Line c.in-Line.at)) (rw c.in-Line.is at c.in_ok-take_piece.ensures.fills)

pub returns-in-End-clause-fills : goal.returns-in-End-clause-fills
returns-in-End-clause-fills g c =
    let before = c.pieces.invariant in
    fills_after c.args.buffer.now c.pieces.buffer c.take_piece.new.buffer c.args.cursor.now c.pieces.cursor c.take_piece.new.cursor (g.S.Source.left c.args.source.now) (g.S.Source.left c.pieces.source) (g.S.Source.left c.take_piece.new.source)
    before.reads.0 before.reads.1 before.reads.2 (c.requires.going ∙ sym before.filling.going) (Ok came.End) (rw c.in-End.is at c.in_ok-take_piece.ensures.fills)

pub returns-in_err-take_piece-clause-fills : goal.returns-in_err-take_piece-clause-fills
returns-in_err-take_piece-clause-fills g c =
    let before = c.pieces.invariant in
    let p = err_from_is_err_and c.from_residual.result c.from_residual.ensures.1 in
    rw (p.1, p.2)
    (fills_after c.args.buffer.now c.pieces.buffer c.take_piece.new.buffer c.args.cursor.now c.pieces.cursor c.take_piece.new.cursor (g.S.Source.left c.args.source.now) (g.S.Source.left c.pieces.source) (g.S.Source.left c.take_piece.new.source)
    before.reads.0 before.reads.1 before.reads.2 (c.requires.going ∙ sym before.filling.going) (Err c.in_err-take_piece.field-0.0) c.in_err-take_piece.ensures.fills)

pub returns-then-branch-clause-fills : goal.returns-then-branch-clause-fills
returns-then-branch-clause-fills g c =
    let before = c.pieces.invariant in
    let told = rw c.if-branch.true at c.in_ok-ask_past.ensures.answers in
    let full : c.pieces.cursor.taken ≡ c.pieces.cursor.limit = omega (arith, before.filling.cursor.within) in
    fills_after c.args.buffer.now c.pieces.buffer c.pieces.buffer c.args.cursor.now c.pieces.cursor _ (g.S.Source.left c.args.source.now) (g.S.Source.left c.pieces.source) (g.S.Source.left c.ask_past.new.source)
    before.reads.0 before.reads.1 before.reads.2 (c.requires.going ∙ sym before.filling.going) (Err (ends.Spent c.pieces.cursor.limit))
    (past_limit c.pieces.buffer c.pieces.cursor (g.S.Source.left c.pieces.source) (g.S.Source.left c.ask_past.new.source) told.0 before.filling full told.1)

pub returns-clause-fills : goal.returns-clause-fills
returns-clause-fills g c =
    let before = c.pieces.invariant in
    let told = rw c.if-branch.false at c.in_ok-ask_past.ensures.answers in
    fills_after c.args.buffer.now c.pieces.buffer c.pieces.buffer c.args.cursor.now c.pieces.cursor _ (g.S.Source.left c.args.source.now) (g.S.Source.left c.pieces.source) (g.S.Source.left c.ask_past.new.source)
    before.reads.0 before.reads.1 before.reads.2 (c.requires.going ∙ sym before.filling.going) (Ok came.End)
    (piece_end c.pieces.buffer c.pieces.buffer c.pieces.cursor (g.S.Source.left c.pieces.source) (g.S.Source.left c.ask_past.new.source) before.filling before.filling.cursor.size refl told.0 told.1)

pub returns-in_err-ask_past-clause-fills : goal.returns-in_err-ask_past-clause-fills
returns-in_err-ask_past-clause-fills g c =
    let before = c.pieces.invariant in
    let same = Consumes-kept (g.S.Source.left c.pieces.source) (g.S.Source.left c.pieces.source) (g.S.Source.left c.ask_past.new.source) [] (Consumes-nil (g.S.Source.left c.pieces.source)) c.in_err-ask_past.ensures.answers in
    let p = err_from_is_err_and c.from_residual-in_err-ask_past.result c.from_residual-in_err-ask_past.ensures.1 in
    rw (p.1, p.2)
    (fills_after c.args.buffer.now c.pieces.buffer c.pieces.buffer c.args.cursor.now c.pieces.cursor c.pieces.cursor (g.S.Source.left c.args.source.now) (g.S.Source.left c.pieces.source) (g.S.Source.left c.ask_past.new.source)
    before.reads.0 before.reads.1 before.reads.2 (c.requires.going ∙ sym before.filling.going) (Err ends.Read)
    (piece_fault c.pieces.buffer c.pieces.buffer c.pieces.cursor (g.S.Source.left c.pieces.source) (g.S.Source.left c.ask_past.new.source) before.filling before.filling.cursor.size refl same))
