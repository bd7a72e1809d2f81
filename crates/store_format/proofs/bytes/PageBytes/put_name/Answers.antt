use Rattle.std.proofs.Common.{◌++◌, ℕ, List, sym, ap, append_assoc, length-append, arith}
use Rattle.store_format.proofs.Padding.{name_length, name_padded, name_short}
use Rattle.store_format.proofs.bytes.PageBytes.put_name.Goals as goal

pub skip-requires : goal.skip-requires
skip-requires c =
    let name = c.args.name.now in
    rw (c.put.ensures, c.as_bytes-bytes.ensures)
    (omega (arith, length-append c.args.self.now name, name_length name, name_short name c.known.ensures, c.requires))

pub returns-clause-written : goal.returns-clause-written
returns-clause-written c =
    rw (c.skip.ensures, c.put.ensures, c.as_bytes-bytes.ensures, append_assoc)
    (ap (λ (l : List ℕ). c.args.self.now ++ l) (sym (name_padded c.args.name.now c.known.ensures)))
