use Rattle.std.proofs.Common.{◌<◌, List, Option, None, length, sym, ◌∙◌, ap, subst}
use Rattle.std.specs.Box.{boxed_slice_items}
use Rattle.std.proofs.lemmas.List.{get_or_read}
use Rattle.buffer_pool.specs.declared.held.Held.{Held}
use Rattle.buffer_pool.specs.Slots.{slot_at}
use Rattle.buffer_pool.proofs.page_table.PageTable.slot.Goals as goal

pub returns : goal.returns
returns c =
    let slots = boxed_slice_items c.self.inside.slots in
    let inside : c.args.frame < length slots = subst (λ (s : List (Option Held)). c.args.frame < length s) (sym c.self.view_is) c.requires in
    get_or_read slots c.args.frame c.index.result.now inside c.index.ensures None ∙ ap (λ (s : List (Option Held)). slot_at s c.args.frame) c.self.view_is
