use Rattle.std.proofs.Common.{◌-◌, refl, ◌∙◌, arith}
use Rattle.index_layout.proofs.Moves.{moved_down, moved_same, moved_up}
use Rattle.index_layout.proofs.moving.move_bytes.Goals as goal

pub returns-then-to-low : goal.returns-then-to-low
returns-then-to-low c = record {
  moved = λ front rest zeros is at room. moved_same c.args.page.now front rest zeros c.args.low c.args.to (c.args.start - c.args.low) is at (omega (arith, c.if-to-low.true));
}

pub returns-then-to-low-2 : goal.returns-then-to-low-2
returns-then-to-low-2 c = record {
  moved = λ front rest zeros is at room. c.shift_bytes.ensures.after ∙ moved_down c.args.page.now front rest zeros c.args.low c.args.start c.args.to (c.args.start - c.args.low) is at room (omega arith) refl;
}

pub returns : goal.returns
returns c = record {
  moved = λ front rest zeros is at room. c.clear.ensures.cleared ∙ moved_up c.args.page.now c.shift_bytes.new.page front rest zeros c.args.low c.args.start c.args.to (c.args.start - c.args.low) (c.args.to - c.args.low) is at (omega arith) (omega arith) refl refl c.shift_bytes.ensures.after;
}
