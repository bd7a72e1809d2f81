use Rattle.std.proofs.Common.{◌≡◌, None, Option, List, ℕ, ap, ◌∙◌}
use Rattle.kept_tuples.specs.Places.{placed}
use Rattle.kept_tuples.specs.declared.bounds.Bounds.{Bounds}
use Rattle.kept_tuples.specs.declared.bounds.Bounds.TheVariants.{Unknown}
use Rattle.kept_tuples.proofs.KnownTuples.{bounds_placed}
use Rattle.kept_tuples.proofs.ranges.Ranges.put.Goals as goal

pub invariant_of-self-2 : goal.invariant_of-self-2
invariant_of-self-2 c =
    let at = c.args.range in
    let bounds = c.self.inside.bounds.items in
    let tuples = c.self.inside.cells.items in
    let b = c.bounds_of-bounds.result in
    let placed_bounds : c.put_within-2.new.list.items ≡ placed Unknown bounds at b = c.put_within-2.ensures ∙ ap (λ (l : List Bounds). placed Unknown l at b) c.make_room-2.ensures.same in
    let placed_tuples : c.put_within.new.list.items ≡ placed None tuples at c.args.tuple = c.put_within.ensures ∙ ap (λ (l : List (Option (List ℕ))). placed None l at c.args.tuple) c.make_room.ensures.same in
    rw (placed_bounds, placed_tuples) (bounds_placed bounds tuples at b c.args.tuple c.self.invariant c.bounds_of-bounds.ensures)
