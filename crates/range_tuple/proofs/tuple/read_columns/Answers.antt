use Rattle.std.proofs.Common.{◌≡◌, ℕ, ◌<◌, None, Ok, length, refl, sym, ap, ◌∙◌, arith}
use Rattle.std.proofs.lemmas.List.{length-map}
use Rattle.range_tuple.specs.TupleFaults.{head_fault}
use Rattle.range_tuple.specs.TupleReading.{says_placeholder}
use Rattle.range_tuple.specs.Tuples.{part_of, parts_of, tuple_of}
use Rattle.range_tuple.proofs.ByPlace.{length-parts}
use Rattle.range_tuple.proofs.HeadFaults.{in_form}
use Rattle.range_tuple.proofs.TupleRead.{bytes_found, read_columns, read_head, read_tuple}
use Rattle.range_tuple.proofs.tuple.read_columns.Goals as goal

pub returns-in-Some-clause-read : goal.returns-in-Some-clause-read
returns-in-Some-clause-read c = read_head (parts_of c.args.spare.now) c.args.bytes.now (length c.args.spare.now) c.in-Some.at (sym (length-map c.args.spare.now part_of)) (sym c.head_fault.ensures.fault ∙ c.in-Some.is)

pub returns-in-Err-clause-read : goal.returns-in-Err-clause-read
returns-in-Err-clause-read c = read_columns (parts_of c.args.spare.now) c.args.bytes.now (length c.args.spare.now) c.in-Err.fault.at (sym (length-map c.args.spare.now part_of)) (sym c.head_fault.ensures.fault ∙ c.in_default.is) c.in-Err.ensures.read

pub get_u32-requires : goal.get_u32-requires
get_u32-requires c =
    let form = in_form (length c.args.spare.now) c.args.bytes.now (sym c.head_fault.ensures.fault ∙ c.in_default.is) in
    record { within = omega (arith, form.long) }

pub bounds-bytes-4 : goal.bounds-bytes-4
bounds-bytes-4 c =
    let form = in_form (length c.args.spare.now) c.args.bytes.now (sym c.head_fault.ensures.fault ∙ c.in_default.is) in
    omega (arith, form.long)

pub returns-clause-found : goal.returns-clause-found
returns-clause-found c =
    let bytes = c.args.bytes.now in
    let read = c.read_each.new.spare in
    let long : length read ≡ length c.args.spare.now = length-parts read c.args.spare.now c.read_each.ensures.same_index in
    let some : 0 < length read = omega (arith, long, c.requires.some) in
    let none : head_fault (length read) bytes ≡ None = ap (λ (n : ℕ). head_fault n bytes) long ∙ sym c.head_fault.ensures.fault ∙ c.in_default.is in
    bytes_found bytes read c.get_u32.result (says_placeholder bytes) some none c.get_u32.ensures.again refl c.in-Ok.ensures.found

pub returns-clause-read : goal.returns-clause-read
returns-clause-read c =
    read_tuple (parts_of c.args.spare.now) c.args.bytes.now (length c.args.spare.now) c.read_each.new.spare (sym (length-map c.args.spare.now part_of)) (sym c.head_fault.ensures.fault ∙ c.in_default.is) c.in-Ok.ensures.read
    ∙ (λ i. Ok (tuple_of (sym c.get_u32.ensures.got i) (says_placeholder c.args.bytes.now) c.read_each.new.spare))
