use Rattle.std.proofs.Common.{◌≡◌, ℕ, ◌<◌, true, false, min, List, Result, Ok, Err, length, take, sym, ap, ◌∙◌, subst, arith}
use Rattle.std.specs.Prelude.{MatchResult}
use Rattle.std.proofs.lemmas.Bool.Decides.{nat_tests}
use Rattle.std.proofs.lemmas.List.{take_min}
use Rattle.std.proofs.lemmas.Result.{err_from_is_err_and}
use Rattle.opclass_api.specs.declared.class.Malformed.{Malformed}
use Rattle.opclass_any.specs.AnyClass.{empty, read_of}
use Rattle.range_tuple.specs.NullStates.{has_values}
use Rattle.range_tuple.specs.TupleReading.{summary_in}
use Rattle.range_tuple.specs.Tuples.{IndexedColumn}
use Rattle.opclass_any.specs.declared.classes.AnyClass.{AnyClass}
use Rattle.opclass_any.specs.declared.classes.AnySummary.{AnySummary}
use Rattle.range_tuple.specs.declared.state.NullState.{NullState}
use Rattle.range_tuple.proofs.ColumnBytes.{summary_of_none, summary_of_values}
use Rattle.range_tuple.proofs.ReadBack.{read_fault, read_no_bytes, read_none, read_short, read_whole}
use Rattle.range_tuple.proofs.spare.SpareColumn.read.Goals as goal

pub returns-then-not-has_values-clause-found : goal.returns-then-not-has_values-clause-found
returns-then-not-has_values-clause-found c =
    let none : has_values c.args.state ≡ false = sym c.if-not-has_values.ensures in
    ap (λ (n : ℕ). take n c.args.bytes.now) (c.requires.no_values none) ∙ sym (summary_of_none c.clear.new.self (ap (λ (column : IndexedColumn). has_values column.state) c.clear.ensures ∙ none))

pub returns-then-not-has_values-clause-read : goal.returns-then-not-has_values-clause-read
returns-then-not-has_values-clause-read c =
    let none : has_values c.args.state ≡ false = sym c.if-not-has_values.ensures in
    read_none c.args.self.now.class c.args.state c.args.size c.args.bytes.now none ∙ ap Ok (ap (λ (column : IndexedColumn). empty column.class) (sym c.self.view_is)) ∙ ap Ok (sym (ap (λ (column : IndexedColumn). column.summary) c.clear.ensures))

pub returns-then-is_empty-clause-read : goal.returns-then-is_empty-clause-read
returns-then-is_empty-clause-read c =
    let none : length c.args.bytes.now ≡ 0 = grind (arith, nat_tests) in
    read_no_bytes c.args.self.now.class c.args.state c.args.size c.args.bytes.now (sym c.if-not-has_values.ensures) none

pub returns-in_err-read_values-clause-read : goal.returns-in_err-read_values-clause-read
returns-in_err-read_values-clause-read c =
    let bytes = c.args.bytes.now in
    let size = c.args.size in
    let class = c.self.inside.column.class in
    let there : 0 < length bytes = grind (arith, nat_tests) in
    let some : has_values c.args.state ≡ true = sym c.if-not-has_values.ensures in
    let cut : take (c.min.result) bytes ≡ take size bytes = ap (λ (n : ℕ). take n bytes) c.min.ensures ∙ take_min size bytes in
    let same : class ≡ c.args.self.now.class = ap (λ (column : IndexedColumn). column.class) c.self.view_is in
    let p = err_from_is_err_and c.from_residual.result c.from_residual.ensures.1 in
    let wrong : read_of class (take (c.min.result) bytes) ≡ Err c.in_err-read_values.field-0.0.at = c.in_err-read_values.ensures.read in
    let error : c.in_err-read_values.field-0.0 ≡ p.0 = let q = p.2 in cc in
    let fails : summary_in c.args.self.now.class c.args.state size bytes ≡ Err p.0.at =
    ap (λ (a : AnyClass). summary_in a c.args.state size bytes) (sym same) ∙ read_fault class c.args.state size p.0.at bytes some there (ap (read_of class) (sym cut) ∙ wrong ∙ ap (λ (e : Malformed). Err e.at) error)
    in
    subst (λ (r : Result (Unit {0}) Malformed). MatchResult r (λ ok. summary_in c.args.self.now.class c.args.state size bytes ≡ Ok c.read_values.new.self.summary) (λ fault. summary_in c.args.self.now.class c.args.state size bytes ≡ Err fault.at)) (sym p.1) fails

-- what the class reads of the bytes that are there is judged by the size
by_size : (class seen : AnyClass) (state : NullState) (size there : ℕ) (bytes : List ℕ) (s : AnySummary) (r : Result AnySummary ℕ) → class ≡ seen → there ≡ min size (length bytes) → read_of class (take there bytes) ≡ Ok s
    → (read_of class (take size bytes) ≡ Ok s → summary_in class state size bytes ≡ r) → summary_in seen state size bytes ≡ r
by_size class seen state size there bytes s r same is read judged =
    let cut : take there bytes ≡ take size bytes = ap (λ (n : ℕ). take n bytes) is ∙ take_min size bytes in
    ap (λ (a : AnyClass). summary_in a state size bytes) (sym same) ∙ judged (ap (read_of class) (sym cut) ∙ read)

pub returns-then-bytes-size-clause-read : goal.returns-then-bytes-size-clause-read
returns-then-bytes-size-clause-read c =
    let bytes = c.args.bytes.now in
    let class = c.self.inside.column.class in
    let new = c.read_values.new.self.summary in
    let there : 0 < length bytes = grind (arith, nat_tests) in
    by_size class c.args.self.now.class c.args.state c.args.size c.min.result bytes new _ (ap (λ (column : IndexedColumn). column.class) c.self.view_is) c.min.ensures c.in_ok-read_values.ensures.read
    (λ read. read_short class c.args.state c.args.size bytes new (sym c.if-not-has_values.ensures) there read c.if-bytes-size.true)

pub returns-clause-found : goal.returns-clause-found
returns-clause-found c =
    let bytes = c.args.bytes.now in
    let new = c.read_values.new.self in
    let cut : take (c.min.result) bytes ≡ take c.args.size bytes = ap (λ (n : ℕ). take n bytes) c.min.ensures ∙ take_min c.args.size bytes in
    sym cut ∙ c.in_ok-read_values.ensures.found ∙ sym (summary_of_values new (ap has_values c.in_ok-read_values.ensures.state ∙ sym c.if-not-has_values.ensures))

pub returns-clause-read : goal.returns-clause-read
returns-clause-read c =
    let bytes = c.args.bytes.now in
    let class = c.self.inside.column.class in
    let new = c.read_values.new.self.summary in
    let there : 0 < length bytes = grind (arith, nat_tests) in
    by_size class c.args.self.now.class c.args.state c.args.size c.min.result bytes new _ (ap (λ (column : IndexedColumn). column.class) c.self.view_is) c.min.ensures c.in_ok-read_values.ensures.read
    (λ read. read_whole class c.args.state c.args.size bytes new (sym c.if-not-has_values.ensures) there read c.if-bytes-size.false)
