use Rattle.std.proofs.Common.{rules, ◌≡◌, ◌≤◌, List, ◌++◌, length, drop, length-append, refl, sym, ap, ◌∙◌, arith}
use Rattle.std.proofs.lemmas.List.{length-take, length-drop}
use Rattle.byte_fields.specs.Fields.{AreBytes}
use Rattle.opclass_api.specs.declared.class.Malformed.{Malformed}
use Rattle.opclass_multi.specs.declared.element.Element.{Element}
use Rattle.opclass_multi.specs.Elements.{AreApart, count_of}
use Rattle.opclass_multi.specs.Kept.{Kept}
use Rattle.opclass_multi.proofs.Decoding.{lawful_after, found_after, again_after, read_after}
use Rattle.opclass_multi.proofs.summary.Summary.read.Goals as goal

pub read-requires-clause-room : goal.read-requires-clause-room
read-requires-clause-room c = omega (arith, c.from.ensures, c.self.invariant.2)

pub invariant_of-self : goal.invariant_of-self
invariant_of-self c =
    let small : AreBytes c.args.bytes.now = λ i. let byte = c.type_inv.bytes i in omega (arith, byte) in
    let lawful : AreApart c.read.new.elements.items × (count_of c.read.new.elements.items ≤ c.from.result) =
    lawful_after c.read.result c.from.result c.args.bytes.now c.self.inside.elements.items c.read.new.elements.items small c.read.ensures.found c.read.ensures.unchanged c.self.invariant.1.apart
    (omega (arith, c.self.invariant.1.within, c.from.ensures)) in
    let spare : List Element = c.read.new.spare in
    let were : List Element = c.self.inside.spare.items.items in
    let size : length spare ≡ c.self.inside.limit = search rules in (
      c.self.invariant.0,
      record { own_limit = refl; apart = lawful.0; within = omega (arith, lawful.1, c.from.ensures) },
      c.read.ensures.room ∙ c.self.invariant.2,
      omega (arith, size, length-take c.self.inside.spare.items.len (spare ++ drop (length spare) were), length-append spare (drop (length spare) were), length-drop (length spare) were, c.self.invariant.3, c.self.inside.spare.items.ok),
    )

pub returns-clause-lawful : goal.returns-clause-lawful
returns-clause-lawful c =
    let small : AreBytes c.args.bytes.now = λ i. let byte = c.type_inv.bytes i in omega (arith, byte) in
    let lawful : AreApart c.read.new.elements.items × (count_of c.read.new.elements.items ≤ c.from.result) =
    lawful_after c.read.result c.from.result c.args.bytes.now c.self.inside.elements.items c.read.new.elements.items small c.read.ensures.found c.read.ensures.unchanged c.self.invariant.1.apart
    (omega (arith, c.self.invariant.1.within, c.from.ensures)) in
    let own_limit : c.self.inside.limit ≡ c.args.self.now.limit = ap (λ (s : Kept). s.limit) c.self.view_is in
    record { own_limit = own_limit; apart = lawful.0; within = omega (arith, lawful.1, c.from.ensures, own_limit) }

pub returns-clause-found : goal.returns-clause-found
returns-clause-found c =
    let small : AreBytes c.args.bytes.now = λ i. let byte = c.type_inv.bytes i in omega (arith, byte) in
    found_after c.read.result c.from.result c.args.bytes.now c.read.new.elements.items small c.read.ensures.found

pub returns-clause-again : goal.returns-clause-again
returns-clause-again c = λ s is_of is.
    let own_limit : c.self.inside.limit ≡ c.args.self.now.limit = ap (λ (s : Kept). s.limit) c.self.view_is in
    let both = again_after (λ (e : Malformed). e.at) c.read.result c.from.result c.args.bytes.now c.read.new.elements.items s.elements
    (omega (arith, c.from.ensures, c.self.invariant.0.greatest)) c.read.ensures.found c.read.ensures.place is_of.apart (omega (arith, is_of.within, c.from.ensures, own_limit)) is in
    (both.0, λ i. record { limit = (own_limit ∙ sym is_of.own_limit) i; elements = both.1 i })

pub returns-clause-read : goal.returns-clause-read
returns-clause-read c =
    let own_limit : c.self.inside.limit ≡ c.args.self.now.limit = ap (λ (s : Kept). s.limit) c.self.view_is in
    read_after (λ (e : Malformed). e.at) c.read.result c.from.result c.self.inside.limit c.args.self.now.limit c.args.bytes.now c.read.new.elements.items (omega (arith, c.from.ensures)) own_limit c.read.ensures.found c.read.ensures.place
