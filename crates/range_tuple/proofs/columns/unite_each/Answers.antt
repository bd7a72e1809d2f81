use Rattle.std.proofs.Common.{◌≡◌, Bool, ◌||◌, length, get_or, sym, ap, ◌∙◌, subst}
use Rattle.range_tuple.specs.TupleIncludes.{ColumnIncludes}
use Rattle.range_tuple.specs.Tuples.{IndexedColumn, united_column, united_columns}
use Rattle.range_tuple.proofs.ByPlace.{get_or-united, length-parts, length-united, part_at}
use Rattle.range_tuple.proofs.InPlace.{follows_all, follows_more, kept_more, read_there}
use Rattle.range_tuple.proofs.columns.unite_each.Goals.{then-unite, else-unite}
use Rattle.range_tuple.proofs.columns.unite_each.Goals as goal

changed_is : (c : goal.Joined-unite) → c.if-unite.changed ≡ (c.unite.result || c.columns.changed)
changed_is c = elim c.if-unite.branch [
  | then-unite w ↦ w.changed-is ∙ w.if-unite.true ∙ sym (ap (λ (b : Bool). b || c.columns.changed) w.if-unite.true)
  | else-unite w ↦ w.changed-is ∙ sym (ap (λ (b : Bool). b || c.columns.changed) w.if-unite.false)
]

pub unite-requires : goal.unite-requires
unite-requires c =
    let old = c.args.columns.now in
    let others = c.args.others.now in
    let goals = united_columns old others in
    let x = c.index-columns-at.result in
    let was : x ≡ get_or old c.columns.at x = c.index-columns-at.is ∙ read_there goals old c.columns.columns c.columns.at x (length-united old others) c.columns-test.true c.columns.invariant.follows.so_far in
    rw (← c.index-columns-at.is) (part_at others old c.columns.at c.index-others-at.result x c.requires c.columns-test.true c.index-others-at.is was)

pub columns-preserved : goal.columns-preserved
columns-preserved c =
    let old = c.args.columns.now in
    let others = c.args.others.now in
    let goals = united_columns old others in
    let i = c.columns.at in
    let x = c.index-columns-at.result in
    let o = c.index-others-at.result in
    let y = c.unite.new.self in
    let long : length goals ≡ length old = length-united old others in
    let both : length others ≡ length old = length-parts others old c.requires in
    let within = c.columns-test.true in
    let before = c.columns.invariant.follows in
    let was : x ≡ get_or old i x = c.index-columns-at.is ∙ read_there goals old c.columns.columns i x long within before.so_far in
    let is : y ≡ get_or goals i y = c.unite.ensures.widened ∙ ap (λ (column : IndexedColumn). united_column column o) (sym c.index-columns-at.is) ∙ sym (get_or-united old others i x o y both within was c.index-others-at.is) in
    record {
      follows = rw (changed_is c) (follows_more goals old c.columns.columns i c.columns.changed c.unite.result x y long within before c.index-columns-at.is is (λ stays. c.unite.ensures.same stays ∙ sym c.index-columns-at.is) (λ yes e. c.unite.ensures.changed yes (e ∙ c.index-columns-at.is)));
      kept = λ row all. kept_more (ColumnIncludes row) old goals i x y long within was is (λ inc. c.unite.ensures.keeps_what_it_included row (subst (ColumnIncludes row) c.index-columns-at.is inc)) (c.columns.invariant.kept row) all;
      taken = λ row all. kept_more (ColumnIncludes row) others goals i o y (long ∙ sym both) (rw both within) c.index-others-at.is is (c.unite.ensures.includes_the_others row) (c.columns.invariant.taken row) all;
    }

pub returns-clause-widened : goal.returns-clause-widened
returns-clause-widened c =
    let old = c.args.columns.now in
    (follows_all (united_columns old c.args.others.now) old c.columns.columns c.columns.at c.columns.changed (length-united old c.args.others.now) c.columns-test.false c.columns.invariant.follows).is

pub returns-clause-changed : goal.returns-clause-changed
returns-clause-changed c =
    let old = c.args.columns.now in
    (follows_all (united_columns old c.args.others.now) old c.columns.columns c.columns.at c.columns.changed (length-united old c.args.others.now) c.columns-test.false c.columns.invariant.follows).changes
