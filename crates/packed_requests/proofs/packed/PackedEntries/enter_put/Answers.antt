use Rattle.std.proofs.Common.{◌∷◌, [], ◌++◌, ◌<◌, ap, ◌∙◌, arith, sym, subst, List, append-nil}
use Rattle.block_model.specs.declared.request.Entry.{Entry}
use Rattle.packed_requests.specs.Packed.{Packed}
use Rattle.packed_requests.proofs.ReadBack.{entered}
use Rattle.block_model.specs.declared.value.Value.{Value}
use Rattle.block_model.specs.declared.request.Request.TheVariants as requests
use Rattle.packed_requests.specs.Packing.{IsRequest, asked_of, request_numbers, request_shapes}
use Rattle.packed_requests.proofs.packed.PackedEntries.enter_put.Goals as goal

pub invariant_of-self : goal.invariant_of-self
invariant_of-self c =
    let a = c.self.inside in
    let added = c.add_put-asked in
    let entry : Entry = record { session = c.args.session; table = c.args.table; request = requests.Put c.args.values.now; tag = c.args.tag } in
    let some : 0 < a.room = omega (arith, c.requires, ap (λ (p : Packed). p.room) c.self.view_is) in
    record {
      packed = (entered a.heads.items a.shapes.items a.numbers.items a.queries.items entry added.result c.push_reserved.new.self.items added.new.shapes.items added.new.numbers.items a.queries.items c.self.invariant.packed
          (subst (λ (vs : List Value). IsRequest (requests.Put vs)) c.as_slice.ensures.values added.ensures.is)
          (added.ensures.asked ∙ ap (λ (vs : List Value). asked_of (requests.Put vs)) c.as_slice.ensures.values) c.push_reserved.ensures.items
          (added.ensures.shapes ∙ ap (λ (vs : List Value). a.shapes.items ++ request_shapes (requests.Put vs)) c.as_slice.ensures.values)
          (added.ensures.numbers ∙ ap (λ (vs : List Value). a.numbers.items ++ request_numbers (requests.Put vs)) c.as_slice.ensures.values)
          (sym (append-nil a.queries.items))).packed;
      heads_room = omega (arith, c.self.invariant.heads_room, c.push_reserved.ensures.len, c.push_reserved.ensures.capacity);
      shapes_room = omega (arith, c.self.invariant.shapes_room, added.ensures.shapes_few, added.ensures.shapes_room);
      numbers_room = omega (arith, c.self.invariant.numbers_room, added.ensures.numbers_few, added.ensures.numbers_room);
      queries_room = omega (arith, c.self.invariant.queries_room);
    }

pub returns-clause-entries : goal.returns-clause-entries
returns-clause-entries c =
    let a = c.self.inside in
    let added = c.add_put-asked in
    let entry : Entry = record { session = c.args.session; table = c.args.table; request = requests.Put c.args.values.now; tag = c.args.tag } in
    (entered a.heads.items a.shapes.items a.numbers.items a.queries.items entry added.result c.push_reserved.new.self.items added.new.shapes.items added.new.numbers.items a.queries.items c.self.invariant.packed
    (subst (λ (vs : List Value). IsRequest (requests.Put vs)) c.as_slice.ensures.values added.ensures.is)
    (added.ensures.asked ∙ ap (λ (vs : List Value). asked_of (requests.Put vs)) c.as_slice.ensures.values) c.push_reserved.ensures.items
    (added.ensures.shapes ∙ ap (λ (vs : List Value). a.shapes.items ++ request_shapes (requests.Put vs)) c.as_slice.ensures.values)
    (added.ensures.numbers ∙ ap (λ (vs : List Value). a.numbers.items ++ request_numbers (requests.Put vs)) c.as_slice.ensures.values)
    (sym (append-nil a.queries.items))).entries
    ∙ ap (λ (p : Packed). p.entries ++ entry ∷ []) c.self.view_is
