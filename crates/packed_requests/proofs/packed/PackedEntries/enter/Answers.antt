use Rattle.std.proofs.Common.{◌∷◌, [], ◌++◌, ◌<◌, ap, ◌∙◌, arith}
use Rattle.block_model.specs.declared.request.Entry.{Entry}
use Rattle.packed_requests.specs.Packed.{Packed}
use Rattle.packed_requests.proofs.ReadBack.{entered}
use Rattle.packed_requests.proofs.packed.PackedEntries.enter.Goals as goal

pub invariant_of-self : goal.invariant_of-self
invariant_of-self c =
    let a = c.self.inside in
    let added = c.add_request-asked in
    let entry : Entry = record { session = c.args.session; table = c.args.table; request = c.args.request; tag = c.args.tag } in
    let some : 0 < a.room = omega (arith, c.requires, ap (λ (p : Packed). p.room) c.self.view_is) in
    record {
      packed = (entered a.heads.items a.shapes.items a.numbers.items a.queries.items entry added.result c.push_reserved.new.self.items added.new.shapes.items added.new.numbers.items added.new.queries.items c.self.invariant.packed added.ensures.is added.ensures.asked c.push_reserved.ensures.items added.ensures.shapes added.ensures.numbers added.ensures.queries).packed;
      heads_room = omega (arith, c.self.invariant.heads_room, c.push_reserved.ensures.len, c.push_reserved.ensures.capacity);
      shapes_room = omega (arith, c.self.invariant.shapes_room, added.ensures.shapes_few, added.ensures.shapes_room);
      numbers_room = omega (arith, c.self.invariant.numbers_room, added.ensures.numbers_few, added.ensures.numbers_room);
      queries_room = omega (arith, c.self.invariant.queries_room, added.ensures.queries_few, added.ensures.queries_room);
    }

pub returns-clause-entries : goal.returns-clause-entries
returns-clause-entries c =
    let a = c.self.inside in
    let added = c.add_request-asked in
    let entry : Entry = record { session = c.args.session; table = c.args.table; request = c.args.request; tag = c.args.tag } in
    (entered a.heads.items a.shapes.items a.numbers.items a.queries.items entry added.result c.push_reserved.new.self.items added.new.shapes.items added.new.numbers.items added.new.queries.items c.self.invariant.packed added.ensures.is added.ensures.asked c.push_reserved.ensures.items added.ensures.shapes added.ensures.numbers added.ensures.queries).entries
    ∙ ap (λ (p : Packed). p.entries ++ entry ∷ []) c.self.view_is
