use Rattle.std.proofs.Common.{◌≡◌, suc, ◌+◌, ◌-◌, List, sym, ap, ◌∙◌, arith}
use Rattle.store_format.specs.ControlReading.{list_from}
use Rattle.store_format.proofs.ControlLists.{list_more, list_ends}
use Rattle.store_format.proofs.stored.read_each.Goals as goal

pub items-preserved : goal.items-preserved
items-preserved g c =
    let left = c.args.count - (c.items.counter + 1) in
    let more : c.args.count - c.items.counter ≡ suc left = omega arith in
    c.items.invariant
    ∙ list_more g.T.Stored.read_of c.items.items (c.args.count - c.items.counter) left c.items.unread c.read.new.unread c.in-Ok.item more c.in-Ok.ensures
    ∙ ap (λ (l : List g.row.T.Denot). list_from g.T.Stored.read_of l left c.read.new.unread) (sym c.in-Ok-push.ensures.ok)

pub returns : goal.returns
returns g c =
    c.items.invariant ∙ list_ends g.T.Stored.read_of c.items.items (c.args.count - c.items.counter) c.items.unread (omega arith)
