use Rattle.std.proofs.Common.{◌≡◌, ℕ, ◌+◌, ◌-◌, ◌≤◌, ◌∷◌, ◌++◌, List, length, set, take, drop, sym, ap, ◌∙◌, arith}
use Rattle.std.proofs.lemmas.List.{append_assoc, drop-drop, length-append, take_rest}
use Rattle.std.specs.List.{list_all}
use Rattle.std.specs.Int.{bytes_high_first}
use Rattle.byte_fields.specs.Fields.{length-number}
use Rattle.range_tuple.specs.TupleBytes.{columns_bytes, flags_of, tuple_bytes}
use Rattle.range_tuple.specs.Tuples.{has_nothing, tuple_of}
use Rattle.range_tuple.proofs.WholeTuples.{written_tuple}
use Rattle.range_tuple.proofs.listed.ListedTuple.encode.Goals as goal

pub returns-clause-size : goal.returns-clause-size
unfolding tuple_bytes
returns-clause-size c =
    let t = tuple_of c.self.inside.range c.self.inside.placeholder c.self.inside.columns.items.items in
    let flags = flags_of t.placeholder t.empty in
    let whole = length-append (bytes_high_first 4 t.range) (flags ∷ columns_bytes t.columns) in
    rw (← c.self.view_is) (omega (arith, c.write_each-size.ensures.size, ap (λ columns. length (columns_bytes columns)) c.deref.ensures.value, whole, length-number 4 t.range))

pub returns-clause-written : goal.returns-clause-written
unfolding tuple_bytes
returns-clause-written c =
    let t = tuple_of c.self.inside.range c.self.inside.placeholder c.self.inside.columns.items.items in
    let out = c.args.out.now in
    let n = c.write_each-size.result in
    let columns = columns_bytes t.columns in
    let long : 5 ≤ length out = omega (arith, c.requires.room) in
    let flags : c.flags_of.result ≡ flags_of t.placeholder t.empty = c.flags_of.ensures ∙ ap (flags_of t.placeholder) (c.have_nothing.ensures ∙ ap (list_all has_nothing) c.deref-2.ensures.value) in
    let rest : drop n (take (length out - 5) (drop 5 out)) ≡ drop (5 + n) out = ap (drop n) (take_rest out 5) ∙ drop-drop n 5 out in
    let back : c.write_each-size.new.out ≡ columns ++ drop (5 + n) out = c.write_each-size.ensures.written ∙ ap (λ d. columns_bytes c.deref.result.now ++ d) rest ∙ ap (λ columns. columns_bytes columns ++ drop (5 + n) out) c.deref.ensures.value in
    rw (← c.self.view_is)
    (ap (λ (bytes : List ℕ). set bytes 4 c.flags_of.result) c.put_u32.ensures.put ∙ written_tuple out c.write_each-size.new.out c.self.inside.range c.flags_of.result long ∙ (λ i. bytes_high_first 4 t.range ++ flags i ∷ back i) ∙ sym (append_assoc (bytes_high_first 4 t.range) (flags_of t.placeholder t.empty ∷ columns) (drop (5 + n) out)))
