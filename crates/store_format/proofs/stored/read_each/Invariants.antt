use Rattle.std.proofs.Common.{◌≡◌, ◌-◌, []}
use Rattle.store_format.specs.ControlReading.{list_from}
use Rattle.store_format.proofs.stored.read_each.Given as goal

abbrev pub invariant-items : goal.invariant-items
invariant-items g l = list_from g.T.Stored.read_of [] l.count l.initial.unread ≡ list_from g.T.Stored.read_of l.items (l.count - l.counter) l.unread
