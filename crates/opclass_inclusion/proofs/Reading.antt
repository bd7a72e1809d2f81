-- what a reading of bytes is
use Rattle.std.proofs.Common.{◌≡◌, ℕ, List, Option, Some, Result, Ok, Err, length, ap, sym, ◌∙◌, subst}
use Rattle.std.specs.Prelude.{IfErr, IfOk, MatchResult}
use Rattle.opclass_api.specs.declared.class.Malformed.{Malformed}
use Rattle.opclass_inclusion.specs.Faults.{IsFirstFault, placed, read_unless}
use Rattle.opclass_inclusion.specs.declared.fields.Field.{Field}

-- a fault is what is read
pub fault_read : {S : Type 0} (fault : Option ℕ) (found : S) (at : ℕ) → fault ≡ Some at → read_unless fault found ≡ Err at
fault_read fault found at is = ap (λ (f : Option ℕ). read_unless f found) is

-- What is found in the fields of bytes of the size of the form is read, and else a fault is told: of summaries of one kind,
-- with their fields, the bytes of these, and the reading of what was written.
pub read_whole : {S F : Type 0} (is_of : S → Type 0) (fields_of : S → F) (bytes_of : F → List ℕ) (read_of : List ℕ → Result S ℕ) (again : (s : S) → is_of s → read_of (bytes_of (fields_of s)) ≡ Ok s)
    (bytes : List ℕ) (size : ℕ) (fields : F) (fault : Option ℕ) (end : ℕ → ℕ) (found : Result S Field) (answer : Result S Malformed)
    → (length bytes ≡ size → bytes ≡ bytes_of fields) → ((at : ℕ) → placed (length bytes) size end fault ≡ Some at → read_of bytes ≡ Err at)
    → IfOk found (λ s. is_of s × (fields_of s ≡ fields)) → IsFirstFault fault end found
    → IfOk answer (λ s. found ≡ Ok s) → IfOk answer (λ s. length bytes ≡ size) → IfErr answer (λ e. (fault : Option ℕ) (end : ℕ → ℕ) → IsFirstFault fault end found → placed (length bytes) size end fault ≡ Some e.at)
    → MatchResult answer (λ s. read_of bytes ≡ Ok s) (λ e. read_of bytes ≡ Err e.at)
read_whole {S} {F} is_of fields_of bytes_of read_of again bytes size fields fault end found (Ok s) whole refused lawful first is long place =
    let of : is_of s × (fields_of s ≡ fields) = subst (λ (r : Result S Field). IfOk r (λ s. is_of s × (fields_of s ≡ fields))) is lawful in
    ap read_of (whole long ∙ ap bytes_of (sym of.1)) ∙ again s of.0
read_whole is_of fields_of bytes_of read_of again bytes size fields fault end found (Err e) whole refused lawful first is long place = refused e.at (place fault end first)

-- what reads as something isn't out of form
pub faultless : {S : Type 0} (read : Result S ℕ) (s : S) (at : ℕ) → read ≡ Ok s → read ≡ Err at → ⊥
faultless read s at is was = cc

-- and reads as nothing else
pub one_reading : {S : Type 0} (read : Result S ℕ) (s t : S) → read ≡ Ok s → read ≡ Ok t → s ≡ t
one_reading read s t is was = cc
