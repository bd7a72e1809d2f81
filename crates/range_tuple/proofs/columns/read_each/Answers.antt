use Rattle.std.proofs.Common.{◌≡◌, ℕ, ◌<◌, ◌≤◌, ◌+◌, ◌*◌, Ok, Err, List, length, take, drop, sym, ap, ◌∙◌, subst, arith}
use Rattle.std.proofs.lemmas.List.{take_rest}
use Rattle.range_tuple.specs.TupleBytes.{summary_bytes}
use Rattle.range_tuple.specs.TupleReading.{summary_in}
use Rattle.range_tuple.specs.Tuples.{part_of, parts_of}
use Rattle.range_tuple.proofs.ByPlace.{length-parts, parts-set}
use Rattle.range_tuple.proofs.ColumnBytes.{field_is}
use Rattle.range_tuple.proofs.HeadFaults.{in_form, length_agrees, state_small}
use Rattle.range_tuple.proofs.ReadingColumns.{IsNext, all_found, none_read, read_fails, read_more}
use Rattle.range_tuple.proofs.columns.read_each.Goals as goal

pub columns-init : goal.columns-init
columns-init c =
    let form = in_form (length c.args.spare.now) c.args.bytes.now c.requires in
    none_read c.args.bytes.now c.args.spare.now (5 + 3 * length c.args.spare.now) (omega arith) form.long

pub of_number-state-requires : goal.of_number-state-requires
of_number-state-requires c =
    let form = in_form (length c.args.spare.now) c.args.bytes.now c.requires in
    state_small (length c.args.spare.now) c.args.bytes.now c.columns.i (form.states c.columns.i c.columns-test.true)

pub read-requires-clause-values : goal.read-requires-clause-values
read-requires-clause-values c =
    let count = length c.args.spare.now in
    let form = in_form count c.args.bytes.now c.requires in
    (length_agrees count c.args.bytes.now c.columns.i c.of_number-state.result c.from-size.result (form.lengths c.columns.i c.columns-test.true) c.of_number-state.ensures (c.from-size.ensures ∙ c.get_u16.ensures.got)).0

pub read-requires-clause-no_values : goal.read-requires-clause-no_values
read-requires-clause-no_values c =
    let count = length c.args.spare.now in
    let form = in_form count c.args.bytes.now c.requires in
    (length_agrees count c.args.bytes.now c.columns.i c.of_number-state.result c.from-size.result (form.lengths c.columns.i c.columns-test.true) c.of_number-state.ensures (c.from-size.ensures ∙ c.get_u16.ensures.got)).1

pub returns-in-Err-clause-same_index : goal.returns-in-Err-clause-same_index
returns-in-Err-clause-same_index c =
    let x = c.index-spare-i.result in
    parts-set c.columns.spare c.columns.i x c.read.new.self c.index-spare-i.is (c.read.ensures.same_part ∙ ap part_of (sym c.index-spare-i.is)) ∙ c.columns.invariant.same_index

pub returns-in-Err-clause-read : goal.returns-in-Err-clause-read
returns-in-Err-clause-read c =
    let bytes = c.args.bytes.now in
    let count = length c.args.spare.now in
    let parts = parts_of c.args.spare.now in
    let i = c.columns.i in
    let at = c.columns.at in
    let x = c.index-spare-i.result in
    let form = in_form count bytes c.requires in
    let inside : i < length c.columns.spare = omega (arith, c.columns.auto.spare, c.columns-test.true) in
    let size : c.get_u16.result ≡ c.from-size.result = sym c.from-size.ensures in
    let next : IsNext bytes count i at c.from-size.result x c.of_number-state.result = record {
      state_is = c.of_number-state.ensures;
      size_is = c.from-size.ensures ∙ c.get_u16.ensures.got;
      size_bytes = rw (← size) (field_is bytes (5 + count + 2 * i) 2 c.get_u16.result (omega (arith, form.long, c.columns-test.true)) c.get_u16.ensures.again);
    } in
    let wrong : summary_in x.class c.of_number-state.result c.from-size.result (drop at bytes) ≡ Err c.in-Err.fault.at =
    subst (λ (bs : List ℕ). summary_in x.class c.of_number-state.result c.from-size.result bs ≡ Err c.in-Err.fault.at) (take_rest bytes at) (rw c.index-spare-i.is c.in-Err.ensures.read)
    in
    read_fails parts bytes count i at c.from-size.result c.in-Err.fault.at c.columns.spare x c.of_number-state.result c.columns.invariant inside c.index-spare-i.is next wrong

pub columns-preserved : goal.columns-preserved
columns-preserved c =
    let bytes = c.args.bytes.now in
    let count = length c.args.spare.now in
    let parts = parts_of c.args.spare.now in
    let i = c.columns.i in
    let at = c.columns.at in
    let x = c.index-spare-i.result in
    let y = c.read.new.self in
    let form = in_form count bytes c.requires in
    let inside : i < length c.columns.spare = omega (arith, c.columns.auto.spare, c.columns-test.true) in
    let size : c.get_u16.result ≡ c.from-size.result = sym c.from-size.ensures in
    let next : IsNext bytes count i at c.from-size.result x c.of_number-state.result = record {
      state_is = c.of_number-state.ensures;
      size_is = c.from-size.ensures ∙ c.get_u16.ensures.got;
      size_bytes = rw (← size) (field_is bytes (5 + count + 2 * i) 2 c.get_u16.result (omega (arith, form.long, c.columns-test.true)) c.get_u16.ensures.again);
    } in
    let rest = take_rest bytes at in
    let read : summary_in x.class c.of_number-state.result c.from-size.result (drop at bytes) ≡ Ok y.summary =
    subst (λ (bs : List ℕ). summary_in x.class c.of_number-state.result c.from-size.result bs ≡ Ok y.summary) rest (rw c.index-spare-i.is c.in_default.ensures.read)
    in
    read_more parts bytes count i at c.from-size.result c.columns.spare x y c.of_number-state.result c.columns.invariant inside c.columns-test.true form.long c.index-spare-i.is next
    (c.read.ensures.same_part ∙ ap part_of (sym c.index-spare-i.is)) c.in_default.ensures.state
    (subst (λ (bs : List ℕ). c.from-size.result ≤ length bs) rest c.in_default.ensures.within)
    (subst (λ (bs : List ℕ). take c.from-size.result bs ≡ summary_bytes y) rest c.in_default.ensures.found) read

pub returns-clause-found : goal.returns-clause-found
returns-clause-found c =
    let bytes = c.args.bytes.now in
    let spare = c.columns.spare in
    let long : length c.args.spare.now ≡ length spare = length-parts c.args.spare.now spare (sym c.columns.invariant.same_index) in
    all_found (parts_of c.args.spare.now) bytes c.columns.i c.columns.at spare (rw (← long) c.columns.invariant) (omega (arith, long, c.columns-test.false, c.columns.auto.i-end)) c.if-at-bytes.false
