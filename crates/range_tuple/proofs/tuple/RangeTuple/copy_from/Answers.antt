use Rattle.std.proofs.Common.{◌≡◌, ℕ, List, ◌++◌, length, take, drop, sym, ap, ◌∙◌, subst, arith}
use Rattle.std.proofs.lemmas.List.{with_items_is}
use Rattle.range_tuple.specs.KeptColumns.{CanBeRead}
use Rattle.range_tuple.specs.Tuples.{IndexedColumn, Tuple, parts_of}
use Rattle.range_tuple.proofs.ByPlace.{length-parts, same_room}
use Rattle.range_tuple.proofs.tuple.RangeTuple.copy_from.Goals as goal

pub encode-size-requires : goal.encode-size-requires
encode-size-requires c =
    let same : parts_of c.args.other.now.columns ≡ parts_of c.self.inside.tuple.columns = c.requires ∙ ap (λ (t : Tuple). parts_of t.columns) (sym c.self.view_is) in
    record { room = omega (arith, c.self.invariant.room, same_room c.args.other.now.columns c.self.inside.tuple.columns same, ap length c.deref_mut.ensures.value) }

pub invariant_of-self : goal.invariant_of-self
invariant_of-self c =
    let v = c.self.inside.spare.items in
    let scratch = c.self.inside.scratch.items in
    let new = c.read.new.spare in
    let out = c.encode-size.new.out in
    let long : length new ≡ v.len = length-parts new c.deref_mut-2.result.now c.read.ensures.same_spare ∙ ap length c.deref_mut-2.ensures.value ∙ sym v.ok.0 in
    let room : length out ≡ scratch.len = omega (arith, c.encode-size.auto.out, ap length c.deref_mut.ensures.value, scratch.ok.0) in
    let first : CanBeRead c.read.new.tuple (take v.len (new ++ drop (length new) v.items)) out = subst (λ (spare : List IndexedColumn). CanBeRead c.read.new.tuple spare out) (sym (with_items_is v new long)) (record {
      same_index = c.read.ensures.same_spare ∙ ap parts_of c.deref_mut-2.ensures.value ∙ c.self.invariant.same_index ∙ sym c.read.ensures.same_index;
      room = omega (arith, c.self.invariant.room, room, scratch.ok.0, same_room c.read.new.tuple.columns c.self.inside.tuple.columns c.read.ensures.same_index);
    }) in
    subst (λ (bytes : List ℕ). CanBeRead c.read.new.tuple (take v.len (new ++ drop (length new) v.items)) bytes) (sym (with_items_is scratch out room)) first
