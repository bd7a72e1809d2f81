use Rattle.std.proofs.Common.{◌≡◌, ℕ, ◌+◌, List, take, refl, sym, ap, subst, ◌∙◌, arith}
use Rattle.opclass_any.specs.declared.classes.AnyClass.{AnyClass}
use Rattle.heap_rows.specs.declared.rows.Stored.{Stored}
use Rattle.range_tuple.specs.ExactTuples.{with_rows}
use Rattle.range_tuple.specs.Tuples.{IsTuple, Tuple, parts_of, with_row}
use Rattle.summarise_core.specs.BlockRows.{IsTakenBy, values_of}
use Rattle.summarise_core.proofs.Adding.{all_added, known_all, known_more, one_more, tuples_all, tuples_more}
use Rattle.summarise_core.proofs.rows.add_rows.Goals as goal

pub rows-init : goal.rows-init
rows-init c = record {
  added = refl;
  tuples = λ n low.
      let none : 0 ≡ n = omega (arith, low) in
      subst (λ (m : ℕ). IsTuple (with_rows (take m (values_of c.args.rows.now)) c.args.tuple.now)) none c.known.ensures.tuple;
  known = λ k d low. absurd (omega (arith, low));
  same_index = refl;
}

pub rows-preserved : goal.rows-preserved
rows-preserved c =
    let rows : List Stored = c.args.rows.now in
    let i : ℕ = c.rows.row-index in
    let item : Stored = c.row-item.result in
    let first : Tuple = c.args.tuple.now in
    let more : c.add_one.new.tuple ≡ with_rows (take (i + 1) (values_of rows)) first =
    c.add_one.ensures.row
    ∙ ap (with_row item.values) c.rows.invariant.added
    ∙ ap (λ (q : Stored). with_row q.values (with_rows (take i (values_of rows)) first)) c.row-item.is
    ∙ sym (one_more rows i item first c.rows-test.true) in
    record {
      added = more;
      tuples = tuples_more rows i first c.rows.invariant.tuples (subst (λ (t : Tuple). IsTuple t) more c.add_one.ensures.tuple);
      known = known_more rows i item c.row-item.is c.rows-test.true c.rows.invariant.known c.add_one.ensures.known;
      same_index = c.add_one.ensures.same_index ∙ c.rows.invariant.same_index;
    }

pub add_one-requires : goal.add_one-requires
add_one-requires c =
    let item : Stored = c.row-item.result in
    subst (λ (parts : List (ℕ × AnyClass)). IsTakenBy parts item.values) (sym c.rows.invariant.same_index)
    (subst (λ (q : Stored). IsTakenBy (parts_of c.args.tuple.now.columns) q.values) (sym c.row-item.is) (c.requires c.rows.row-index item c.rows-test.true))

pub returns-clause-rows : goal.returns-clause-rows
returns-clause-rows c = c.rows.invariant.added ∙ all_added c.args.rows.now c.rows.row-index c.args.tuple.now c.rows-test.false

pub returns-clause-tuples : goal.returns-clause-tuples
returns-clause-tuples c = tuples_all c.args.rows.now c.rows.row-index c.args.tuple.now c.rows-test.false c.rows.invariant.tuples

pub returns-clause-known : goal.returns-clause-known
returns-clause-known c = known_all c.args.rows.now c.rows.row-index c.rows-test.false c.rows.invariant.known
