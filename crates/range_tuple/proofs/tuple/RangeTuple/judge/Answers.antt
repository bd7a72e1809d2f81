use Rattle.std.proofs.Common.{List, length, sym, ap, ◌∙◌, subst, ◌≡◌}
use Rattle.std.proofs.lemmas.List.{with_items_is}
use Rattle.range_tuple.specs.KeptColumns.{CanBeRead}
use Rattle.range_tuple.specs.Tuples.{IndexedColumn, parts_of}
use Rattle.range_tuple.proofs.ByPlace.{length-parts}
use Rattle.range_tuple.proofs.tuple.RangeTuple.judge.Goals as goal

pub invariant_of-self : goal.invariant_of-self
invariant_of-self c =
    let v = c.self.inside.spare.items in
    let new = c.judge.new.spare in
    let long : length new ≡ v.len = length-parts new c.deref_mut.result.now c.judge.ensures.same_spare ∙ ap length c.deref_mut.ensures.value ∙ sym v.ok.0 in
    subst (λ (spare : List IndexedColumn). CanBeRead c.self.inside.tuple spare c.self.inside.scratch.items.items) (sym (with_items_is v new long)) (record {
      same_index = c.judge.ensures.same_spare ∙ ap parts_of c.deref_mut.ensures.value ∙ c.self.invariant.same_index;
      room = c.self.invariant.room;
    })
