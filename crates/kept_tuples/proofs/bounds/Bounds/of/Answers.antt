use Rattle.std.proofs.Common.{rules, arith, ◌≡◌, ℕ, ◌≤ℤ◌, false, true, FitsSigned, subst, w64}
use Rattle.std.proofs.lemmas.Int.{to_z-of_z, ints}
use Rattle.byte_fields.specs.Fields.{AreBytes, put_at}
use Rattle.kept_tuples.proofs.MinMaxBytes.{tells_bytes}
use Rattle.kept_tuples.proofs.bounds.Bounds.of.Goals as goal

pub returns-in-131088 : goal.returns-in-131088
returns-in-131088 c =
    let bytes = c.args.bytes.now in
    let l = c.get_i64-least.result in
    let g = c.get_i64-greatest.result in
    let fits : FitsSigned w64 l = search rules in
    let also : FitsSigned w64 g = search rules in
    let in_order : l ≤ℤ g = omega (arith, ints) in
    let small : AreBytes bytes = λ i. let byte = c.type_inv.bytes i in omega (arith, byte) in
    rw (to_z-of_z w64 l fits, to_z-of_z w64 g also)
    (tells_bytes bytes false l g small c.if-bytes-ne-SIZE.false (subst (λ (n : ℕ). put_at bytes 4 4 n ≡ bytes) c.in-131088.is c.get_u32-head.ensures.again)
    c.get_i64-least.ensures.again c.get_i64-greatest.ensures.again (record { least_fits = fits; greatest_fits = also; in_order = in_order }))

pub returns-in-196624 : goal.returns-in-196624
returns-in-196624 c =
    let bytes = c.args.bytes.now in
    let l = c.get_i64-least.result in
    let g = c.get_i64-greatest.result in
    let fits : FitsSigned w64 l = search rules in
    let also : FitsSigned w64 g = search rules in
    let in_order : l ≤ℤ g = omega (arith, ints) in
    let small : AreBytes bytes = λ i. let byte = c.type_inv.bytes i in omega (arith, byte) in
    rw (to_z-of_z w64 l fits, to_z-of_z w64 g also)
    (tells_bytes bytes true l g small c.if-bytes-ne-SIZE.false (subst (λ (n : ℕ). put_at bytes 4 4 n ≡ bytes) c.in-196624.is c.get_u32-head.ensures.again)
    c.get_i64-least.ensures.again c.get_i64-greatest.ensures.again (record { least_fits = fits; greatest_fits = also; in_order = in_order }))
