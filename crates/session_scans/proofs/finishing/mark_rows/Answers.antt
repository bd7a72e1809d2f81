use Rattle.std.proofs.Common.{◌≡◌, ◌<◌, [], length, refl, sym, ap, ◌∙◌}
use Rattle.block_model.specs.declared.reply.Reply.TheVariants as replies
use Rattle.session_parts.specs.declared.hand.Stepped.TheVariants as stepped
use Rattle.session_scans.specs.Finishes.{GoesToMarks, LacksMemory, Tells}
use Rattle.session_scans.proofs.Listed.{has_some, is_none, none_listed, some_listed}
use Rattle.session_scans.proofs.Behind.{refuses_behind}
use Rattle.session_scans.proofs.finishing.mark_rows.Goals as goal

pub returns-then-is_empty : goal.returns-then-is_empty
returns-then-is_empty g c =
    let none : c.args.found.items ≡ [] = is_none c.args.found (sym c.is_empty.ensures ∙ c.if-is_empty.true) in
    Tells (replies.Deleted 0) [] (none_listed c.args.found.items none) (none, refl, refl) refl c.enter_look.ensures c.requires.room

pub returns-in-Ok : goal.returns-in-Ok
returns-in-Ok g c =
    let some : 0 < length c.args.found.items = has_some c.args.found (sym c.is_empty.ensures ∙ c.if-is_empty.false) in
    GoesToMarks c.in-Ok.hits c.in-Ok.look refl c.in-Ok.ensures.look c.in-Ok.ensures.hits (some_listed c.args.found.items c.in-Ok.hits.items c.in-Ok.ensures.hits some) (ap (stepped.Moved c.args.point) c.put.ensures)
    (record { entries = c.hits_for.ensures.entries; promised = c.in-Ok.ensures.promised; rest = c.hits_for.ensures.rest })

pub returns-in-Err : goal.returns-in-Err
returns-in-Err g c = LacksMemory (ap stepped.Done c.refuse_look.ensures.answer)
    (refuses_behind c.args.parts.now c.hits_for.new.parts c.refuse_look.new.parts c.release.new.self c.args.session c.args.query c.hits_for.ensures.rest c.hits_for.ensures.entries c.in-Err.ensures.same
    c.release.ensures.entries c.release.ensures.promised c.refuse_look.ensures.failed c.refuse_look.ensures.entries c.refuse_look.ensures.promised c.refuse_look.ensures.rest)
    c.requires.room
