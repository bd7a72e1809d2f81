use Rattle.std.proofs.Common.{◌≡◌, Bool, ◌||◌, map, length, get_or, sym, ap, ◌∙◌, subst, arith}
use Rattle.std.proofs.lemmas.List.{get_or-map, length-map}
use Rattle.std.proofs.lemmas.List.Elements.{All-more}
use Rattle.range_tuple.specs.TupleIncludes.{ColumnIncludes}
use Rattle.range_tuple.specs.Tuples.{with_row_at}
use Rattle.range_tuple.proofs.InPlace.{follows_all, follows_more, kept_more, read_there}
use Rattle.range_tuple.proofs.columns.add_to_each.Goals.{then-add_row, else-add_row}
use Rattle.range_tuple.proofs.columns.add_to_each.Goals as goal

changed_is : (c : goal.Joined-add_row) → c.if-add_row.changed ≡ (c.add_row.result || c.columns.changed)
changed_is c = elim c.if-add_row.branch [
  | then-add_row w ↦ w.changed-is ∙ w.if-add_row.true ∙ sym (ap (λ (b : Bool). b || c.columns.changed) w.if-add_row.true)
  | else-add_row w ↦ w.changed-is ∙ sym (ap (λ (b : Bool). b || c.columns.changed) w.if-add_row.false)
]

pub columns-preserved : goal.columns-preserved
columns-preserved c =
    let f = with_row_at c.args.values.now in
    let old = c.args.columns.now in
    let goals = map f old in
    let i = c.columns.at in
    let x = c.index-columns-at.result in
    let y = c.add_row.new.self in
    let long : length goals ≡ length old = length-map old f in
    let within = c.columns-test.true in
    let before = c.columns.invariant.follows in
    let was : x ≡ get_or old i x = c.index-columns-at.is ∙ read_there goals old c.columns.columns i x long within before.so_far in
    let is : y ≡ get_or goals i y = c.add_row.ensures.widened ∙ ap f (sym c.index-columns-at.is ∙ was) ∙ sym (get_or-map f old i x y within) in
    record {
      follows = rw (changed_is c) (follows_more goals old c.columns.columns i c.columns.changed c.add_row.result x y long within before c.index-columns-at.is is (λ stays. c.add_row.ensures.same stays ∙ sym c.index-columns-at.is) (λ yes e. c.add_row.ensures.changed yes (e ∙ c.index-columns-at.is)));
      included = All-more (ColumnIncludes c.args.values.now) goals i y (omega (arith, long, within)) c.columns.invariant.included (subst (ColumnIncludes c.args.values.now) is c.add_row.ensures.includes_the_row);
      kept = λ row all. kept_more (ColumnIncludes row) old goals i x y long within was is (λ inc. c.add_row.ensures.keeps_what_it_included row (subst (ColumnIncludes row) c.index-columns-at.is inc)) (c.columns.invariant.kept row) all;
    }

pub returns-clause-changed : goal.returns-clause-changed
returns-clause-changed c =
    let f = with_row_at c.args.values.now in
    (follows_all (map f c.args.columns.now) c.args.columns.now c.columns.columns c.columns.at c.columns.changed (length-map c.args.columns.now f) c.columns-test.false c.columns.invariant.follows).changes
