use Rattle.std.proofs.Common.{◌+◌, pos, ◌++◌, List, take, drop, sym, ap, subst, ◌∙◌, arith}
use Rattle.std.proofs.lemmas.List.{drop_more}
use Rattle.opclass_multi.specs.declared.element.Element.{Element}
use Rattle.opclass_multi.specs.Elements.{point, AreApart}
use Rattle.opclass_multi.specs.Joined.{joined}
use Rattle.opclass_multi.proofs.Seams.{apart_rest}
use Rattle.opclass_multi.proofs.join.join.Goals as goal

pub put-seam-requires-clause-ordered : goal.put-seam-requires-clause-ordered
put-seam-requires-clause-ordered c =
    let os : List Element = c.args.others.now in
    let i = c.others.other-index in
    (subst AreApart (drop_more os i (point (pos 0)) c.others-test.true) (apart_rest os i c.requires.others_apart)).0

pub others-preserved : goal.others-preserved
others-preserved c =
    let os : List Element = c.args.others.now in
    let i = c.others.other-index in
    let inv = c.others.invariant in
    let split = drop_more os i (point (pos 0)) c.others-test.true in
    let apart = subst AreApart split (apart_rest os i c.requires.others_apart) in
    record {
      places = (omega (arith, inv.places.0, c.put-seam.ensures.places.0), omega (arith, inv.size, c.put-seam.ensures.size, c.put-seam.ensures.places.1));
      size = c.put-seam.ensures.size ∙ inv.size;
      room = c.put-seam.ensures.room ∙ inv.room;
      apart = c.put-seam.ensures.apart;
      so_far =
          c.put-seam.ensures.joined (drop (i + 1) os) apart.2 apart.1
          ∙ ap (λ (l : List Element). take c.others.seam.front c.others.elements.items ++ joined (drop c.others.seam.back c.others.elements.items) l) (sym split)
          ∙ inv.so_far;
    }
