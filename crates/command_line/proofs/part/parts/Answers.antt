use Rattle.std.proofs.Common.{refl}
use Rattle.command_line.proofs.PartsLoop.{parts_leave, parts_cut, parts_are}
use Rattle.command_line.proofs.part.parts.Goals as goal

pub overflow_sub-text : goal.overflow_sub-text
overflow_sub-text c = parts_leave c.args.text.now c.in_ok-rest.rest.now c.in_ok-rest.ensures.0 c.in_ok-rest.ensures.1

pub returns-clause-read : goal.returns-clause-read
returns-clause-read c =
    parts_cut c.args.text.now c.in_ok-rest.rest.now c.split_at.result.0.now c.split_at.result.1.now c.in_ok-rest.ensures.0 _ c.in_ok-rest.ensures.1 refl c.split_at.ensures.front c.split_at.ensures.back

pub returns-clause-parts : goal.returns-clause-parts
returns-clause-parts c =
    parts_are c.args.text.now c.in_ok-rest.rest.now c.split_at.result.0.now c.split_at.result.1.now c.in_ok-rest.ensures.0 _ c.in_ok-rest.ensures.1 refl c.split_at.ensures.front c.split_at.ensures.back
