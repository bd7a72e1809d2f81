-- What reading a list and an error tell.
use Rattle.std.proofs.Common.{◌≡◌, ℕ, true, ltb, List, length, get_or, refl, sym}
use Rattle.std.specs.Prelude.{Some, Ok, Err, Result, OnErr, slice_get}
use Rattle.std.proofs.lemmas.Bool.{ltb-true}
use Rattle.std.proofs.lemmas.Option.{slice_get_read}

pub got : {X : Type 0} (xs : List X) (n : ℕ) (x : X) → true ≡ ltb n (length xs) → x ≡ get_or xs n x → slice_get xs n ≡ Some x
got xs n x within is = slice_get_read xs (length xs) n x refl (ltb-true n (length xs) (sym within)) is

pub on_err : {T E Q : Type 0} (r : Result T E) → Q → OnErr r Q
on_err (Ok x) q = tt
on_err (Err e) q = q
