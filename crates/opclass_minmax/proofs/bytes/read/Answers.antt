use Rattle.std.proofs.Common.{rules, arith, ◌≡◌, ◌<ℤ◌, ◌≤ℤ◌, length, FitsSigned, ◌∙◌}
use Rattle.std.proofs.lemmas.Int.{to_z-of_z, ints}
use Rattle.std.specs.Int.{w64}
use Rattle.opclass_minmax.specs.Bounds.{Between}
use Rattle.opclass_minmax.proofs.Reading.{bytes_again, out_of_order, wrong_size}
use Rattle.opclass_minmax.proofs.bytes.read.Goals as goal

pub returns-then-bytes-lt-GREATEST_SIZE-clause-refused :
    goal.returns-then-bytes-lt-GREATEST_SIZE-clause-refused
returns-then-bytes-lt-GREATEST_SIZE-clause-refused c = λ err.
    let some : length c.args.bytes.now ≡ 0 → ⊥ = λ none. search (rules, none) in
    wrong_size c.args.bytes.now some (λ full. omega (arith, full, c.if-bytes-lt-GREATEST_SIZE.true))

pub returns-then-greatest-least-clause-refused : goal.returns-then-greatest-least-clause-refused
returns-then-greatest-least-clause-refused c = λ err.
    let l = c.get_i64-least.result in
    let g = c.get_i64-greatest.result in
    let fits : FitsSigned w64 l = search rules in
    let also : FitsSigned w64 g = search rules in
    let below : g <ℤ l = omega (arith, ints) in
    out_of_order l g c.args.bytes.now c.if-bytes-lt-GREATEST_SIZE.false c.get_i64-least.ensures.got c.get_i64-greatest.ensures.got below

pub returns-then-bytes-gt-GREATEST_SIZE-clause-refused :
    goal.returns-then-bytes-gt-GREATEST_SIZE-clause-refused
returns-then-bytes-gt-GREATEST_SIZE-clause-refused c = λ err.
    wrong_size c.args.bytes.now (λ none. omega (arith, none, c.if-bytes-gt-GREATEST_SIZE.true)) (λ full. omega (arith, full, c.if-bytes-gt-GREATEST_SIZE.true))

pub returns-clause-found : goal.returns-clause-found
returns-clause-found c =
    let l = c.get_i64-least.result in
    let g = c.get_i64-greatest.result in
    let fits : FitsSigned w64 l = search rules in
    let also : FitsSigned w64 g = search rules in
    let in_order : l ≤ℤ g = omega (arith, ints) in
    let size : length c.args.bytes.now ≡ 16 = omega (arith, c.if-bytes-lt-GREATEST_SIZE.false, c.if-bytes-gt-GREATEST_SIZE.false) in
    let is : c.of.result ≡ Between l g = c.of.ensures ∙ (λ i. Between (to_z-of_z w64 l fits i) (to_z-of_z w64 g also i)) in
    rw is (record { least_fits = fits; greatest_fits = also; in_order = in_order }, bytes_again l g c.args.bytes.now size c.get_i64-least.ensures.again c.get_i64-greatest.ensures.again)
