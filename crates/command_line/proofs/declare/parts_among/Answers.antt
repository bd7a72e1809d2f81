use Rattle.std.proofs.Common.{◌≡◌, ℕ, List, ◌∷◌, [], ◌++◌, Some, sym, ◌∙◌, ap, subst}
use Rattle.block_model.specs.declared.schema.Part.{Part}
use Rattle.command_line.specs.DeclaredSchema.{part_on, column_named}
use Rattle.command_line.specs.Words.{part_text, index_text}
use Rattle.command_line.proofs.PartsLoop.{others_of, AreFound, left_next, found_next}
use Rattle.command_line.proofs.declare.parts_among.Goals as goal

pub parts-preserved : goal.parts-preserved
parts-preserved c =
    let h = c.parts.invariant in
    let i = index_text c.args.index.now in
    let all : List ℕ = c.args.index.now.parts.now in
    let first = c.in-Some.ensures.first h.0 h.1.are h.1.bytes in
    let named : column_named c.in-Some.part.column.now c.args.columns.now ≡ Some c.in-Some-column_named.column = sym c.column_named.ensures ∙ c.in-Some-column_named.is in
    let pushed : c.parts.parts ++ part_on (part_text c.in-Some.part) c.in-Some-column_named.column ∷ [] ≡ c.push.new.self = ap (λ (p : Part). c.parts.parts ++ p ∷ []) (sym c.part_on.ensures) ∙ sym c.in-Ok.ensures.ok in (
      others_of h.0,
      left_next all c.parts.rest.now h.0 (c.in-Some.part, c.in-Some.others) h.1 first c.in-Some.ensures.shorter,
      subst (AreFound c.args.columns.now i all c.in-Some.others.now (others_of h.0)) pushed
          (found_next c.args.columns.now i all c.parts.rest.now h.0 c.parts.parts (c.in-Some.part, c.in-Some.others) c.in-Some-column_named.column h.1 h.2 first named),
    )
