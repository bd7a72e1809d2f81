use Rattle.std.proofs.Common.{◌≡◌, Bool, List, length}
use Rattle.std.specs.Str.{bytes_eq}
use Rattle.store_layout.specs.Limits.{are_distinct}
use Rattle.store_layout.proofs.layout.names.names_are_distinct.Given as goal

abbrev pub invariant-items : goal.invariant-items
invariant-items g l =
    let distinct : List g.row.T.Denot → Bool = are_distinct (λ a b. bytes_eq (g.T.Named.name_of a) (g.T.Named.name_of b)) in
    distinct l.fn.items ≡ distinct l.rest

abbrev pub decreases-items : goal.decreases-items
decreases-items g l = length l.rest
