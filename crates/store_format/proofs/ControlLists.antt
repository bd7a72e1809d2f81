-- lists that are read one element after the other
use Rattle.std.proofs.Common.{◌≡◌, ℕ, zero, suc, List, [], ◌∷◌, ◌++◌, Option, Some, None, Err, ap, ◌∙◌}
use Rattle.store_format.specs.declared.control_fault.ControlFault.{ControlFault}
use Rattle.store_format.specs.declared.control_fault.ControlFault.TheVariants as faults
use Rattle.store_format.specs.ControlReading.{◌>>=◌, Gives, list_from}

-- the next element is read
pub list_more : {X : Type 0} (read : List ℕ → Option (X × List ℕ)) (done : List X) (n m : ℕ) (bytes rest : List ℕ) (x : X) → n ≡ suc m → read bytes ≡ Some (x, rest)
    → list_from read done n bytes ≡ list_from read (done ++ x ∷ []) m rest
list_more {X} read done n m bytes rest x more is =
    ap (λ (k : ℕ). list_from read done k bytes) more ∙ ap (λ (o : Option (X × List ℕ)). o >>= λ y. list_from read (done ++ y.0 ∷ []) m y.1) is

-- no element is read
pub list_none : {X : Type 0} (read : List ℕ → Option (X × List ℕ)) (done : List X) (n m : ℕ) (bytes : List ℕ) → n ≡ suc m → read bytes ≡ None
    → list_from read done n bytes ≡ None
list_none {X} read done n m bytes more is =
    ap (λ (k : ℕ). list_from read done k bytes) more ∙ ap (λ (o : Option (X × List ℕ)). o >>= λ y. list_from read (done ++ y.0 ∷ []) m y.1) is

-- all elements are read
pub list_ends : {X : Type 0} (read : List ℕ → Option (X × List ℕ)) (done : List X) (n : ℕ) (bytes : List ℕ) → n ≡ zero → list_from read done n bytes ≡ Some (done, bytes)
list_ends read done n bytes none = ap (λ (k : ℕ). list_from read done k bytes) none

-- where a part isn't read, the whole isn't either
pub gives_none : {X Y : Type 0} (fault : ControlFault) (rest left : List ℕ) (part : Option (X × List ℕ)) (whole : Option (Y × List ℕ)) → (part ≡ None → whole ≡ None)
    → Gives {X = X} (Err fault) rest part → Gives {X = Y} (Err fault) left whole
gives_none faults.NoStore rest left part whole none given = none given
gives_none faults.Memory rest left part whole none given = tt
