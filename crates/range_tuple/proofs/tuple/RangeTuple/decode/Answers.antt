use Rattle.std.proofs.Common.{◌≡◌, List, length, sym, ap, ◌∙◌, subst, arith}
use Rattle.std.proofs.lemmas.List.{with_items_is}
use Rattle.range_tuple.specs.KeptColumns.{CanBeRead}
use Rattle.range_tuple.specs.Tuples.{IndexedColumn, parts_of}
use Rattle.range_tuple.proofs.ByPlace.{length-parts, same_room}
use Rattle.range_tuple.proofs.tuple.RangeTuple.decode.Goals as goal

pub invariant_of-self : goal.invariant_of-self
invariant_of-self c =
    let v = c.self.inside.spare.items in
    let new = c.read.new.spare in
    let long : length new ≡ v.len = length-parts new c.deref_mut.result.now c.read.ensures.same_spare ∙ ap length c.deref_mut.ensures.value ∙ sym v.ok.0 in
    subst (λ (spare : List IndexedColumn). CanBeRead c.read.new.tuple spare c.self.inside.scratch.items.items) (sym (with_items_is v new long)) (record {
      same_index = c.read.ensures.same_spare ∙ ap parts_of c.deref_mut.ensures.value ∙ c.self.invariant.same_index ∙ sym c.read.ensures.same_index;
      room = omega (arith, c.self.invariant.room, same_room c.read.new.tuple.columns c.self.inside.tuple.columns c.read.ensures.same_index);
    })
