-- the bytes of a summary of networks, written and read
use Rattle.std.proofs.Common.{◌≡◌, ℕ, ◌-◌, ◌%◌, ◌≤◌, ◌^◌, ◌<◌, true, false, Option, None, Some, Ok, List, [], ◌∷◌, ◌++◌, length, drop, set, get_or, refl, sym, ap, subst, ◌∙◌, arith}
use Rattle.std.specs.Prelude.{nat_le, nat_lt}
use Rattle.std.proofs.lemmas.Bool.{cond-false, le-ltb}
use Rattle.std.proofs.lemmas.List.{append-nil}
use Rattle.std.proofs.Math.ListN.{drop_of_length-le}
use Rattle.byte_fields.specs.Fields.{number_of, put_at, field_at, number-put}
use Rattle.block_model.specs.Networks.{Network, width_of}
use Rattle.opclass_inclusion.specs.NetEncoding.{address_bytes, bytes_of, field_bytes, fields_of}
use Rattle.opclass_inclusion.specs.Faults.{placed, read_unless}
use Rattle.opclass_inclusion.specs.NetFaults.{fault_in, field_end, field_fault, fields_in}
use Rattle.opclass_inclusion.specs.NetHulls.{IsHull, IsSummary}
use Rattle.opclass_inclusion.specs.NetReading.{from_fields, read_of}
use Rattle.opclass_inclusion.specs.declared.net_bytes.NetFields.{NetFields}
use Rattle.opclass_inclusion.specs.declared.net_summary.NetSummary.{NetSummary}
use Rattle.opclass_inclusion.specs.declared.net_summary.NetSummary.TheVariants.{NothingYet, Unmergeable, Hull}

length-address : (n : ℕ) → length (address_bytes n) ≡ 4
unfolding address_bytes
length-address n = refl

pub length-fields : (f : NetFields) → length (field_bytes f) ≡ 7
length-fields f = omega (arith, length-address f.address)

-- an address put behind three bytes
put_address : (n a b c : ℕ) (rest : List ℕ) → put_at (a ∷ b ∷ c ∷ rest) 3 4 n ≡ a ∷ b ∷ c ∷ (address_bytes n ++ drop 4 rest)
unfolding put_at address_bytes
put_address n a b c rest = refl

-- what three bytes and an address leave
pub written : (f : NetFields) (out new : List ℕ) → 7 ≤ length out → new ≡ put_at (set (set (set out 0 f.flags) 1 f.family) 2 f.prefix) 3 4 f.address → new ≡ field_bytes f ++ drop 7 out
written f [] new room put = absurd (omega (arith, room))
written f (a ∷ []) new room put = absurd (omega (arith, room))
written f (a ∷ b ∷ []) new room put = absurd (omega (arith, room))
written f (a ∷ b ∷ c ∷ rest) new room put = put ∙ put_address f.address f.flags f.family f.prefix rest

-- bytes that were read are those of what was read
pub bytes_again : (n : ℕ) (bytes : List ℕ) → length bytes ≡ 7 → put_at bytes 3 4 n ≡ bytes → bytes ≡ get_or bytes 0 0 ∷ get_or bytes 1 0 ∷ get_or bytes 2 0 ∷ address_bytes n
bytes_again n [] size put = absurd (omega (arith, size))
bytes_again n (a ∷ []) size put = absurd (omega (arith, size))
bytes_again n (a ∷ b ∷ []) size put = absurd (omega (arith, size))
bytes_again n (a ∷ b ∷ c ∷ rest) size put =
    let none : drop 4 rest ≡ [] = drop_of_length-le rest {i = 4} (omega (arith, size)) in
    sym put ∙ put_address n a b c rest ∙ ap (λ (d : List ℕ). a ∷ b ∷ c ∷ (address_bytes n ++ d)) none ∙ ap (λ (d : List ℕ). a ∷ b ∷ c ∷ d) (append-nil (address_bytes n))

-- what was written is read
address_read : (f : NetFields) → f.address < 2 ^ 32 → number_of (field_at (field_bytes f) 3 4) ≡ f.address
address_read f small =
    let none : drop 4 (address_bytes f.address) ≡ [] = drop_of_length-le (address_bytes f.address) {i = 4} (omega (arith, length-address f.address)) in
    let same : put_at (field_bytes f) 3 4 f.address ≡ field_bytes f =
    put_address f.address f.flags f.family f.prefix (address_bytes f.address)
    ∙ ap (λ (d : List ℕ). f.flags ∷ f.family ∷ f.prefix ∷ (address_bytes f.address ++ d)) none
    ∙ ap (λ (d : List ℕ). f.flags ∷ f.family ∷ f.prefix ∷ d) (append-nil (address_bytes f.address)) in
    ap (λ (x : List ℕ). number_of (field_at x 3 4)) (sym same) ∙ number-put (field_bytes f) 3 4 f.address (omega (arith, length-fields f)) (omega (arith, small))

address_small : (s : NetSummary) → IsSummary s → (fields_of s).address < 2 ^ 32
address_small NothingYet lawful = omega arith
address_small Unmergeable lawful = omega arith
address_small (Hull u) lawful = lawful.is_network.address

fields_read : (s : NetSummary) → IsSummary s → fields_in (bytes_of s) ≡ fields_of s
fields_read s lawful =
    let f = fields_of s in
    let bytes = bytes_of s in
    let whole : nat_lt (length bytes) 7 ≡ false = le-ltb (length bytes) 7 (omega (arith, length-fields f)) in
    let address = cond-false (nat_lt (length bytes) 7) 0 (number_of (field_at bytes 3 4)) whole ∙ address_read f (address_small s lawful) in
    λ i. record { flags = f.flags; family = f.family; prefix = f.prefix; address = address i }

-- the fields of a summary are in form
hull_in_form : (u : Network) → IsHull u → field_fault (record { flags = 2; family = u.family; prefix = u.prefix; address = u.address }) ≡ None
hull_in_form u lawful =
    let within : nat_le u.prefix 32 ≡ true = grind (arith, lawful.is_network.prefix) in
    let none : u.address % 2 ^ (32 - u.prefix) ≡ 0 = ap (λ (f : ℕ). u.address % 2 ^ (width_of f - u.prefix)) (sym lawful.is_network.family) ∙ lawful.no_host in
    rw (lawful.is_network.family, within, none) refl

in_form : (s : NetSummary) → IsSummary s → field_fault (fields_of s) ≡ None
in_form NothingYet lawful = refl
in_form Unmergeable lawful = refl
in_form (Hull u) lawful = hull_in_form u lawful

-- bytes of a summary have no fault
no_fault : (bytes : List ℕ) (s : NetSummary) → IsSummary s → bytes ≡ bytes_of s → fault_in bytes ≡ None
no_fault bytes s lawful is =
    ap fault_in is
    ∙ ap (λ (n : ℕ). placed n 7 field_end (field_fault (fields_in (bytes_of s)))) (length-fields (fields_of s))
    ∙ ap (λ (f : NetFields). placed 7 7 field_end (field_fault f)) (fields_read s lawful)
    ∙ ap (placed 7 7 field_end) (in_form s lawful)

-- the summary of its own fields
from_its_fields : (s : NetSummary) → from_fields (fields_of s) ≡ s
from_its_fields NothingYet = refl
from_its_fields Unmergeable = refl
from_its_fields (Hull u) = refl

-- bytes that were written are read again
pub read_again : (s : NetSummary) → IsSummary s → read_of (bytes_of s) ≡ Ok s
read_again s lawful =
    ap (λ (fault : Option ℕ). read_unless fault (from_fields (fields_in (bytes_of s)))) (no_fault (bytes_of s) s lawful refl)
    ∙ ap (λ (f : NetFields). Ok (from_fields f)) (fields_read s lawful)
    ∙ ap Ok (from_its_fields s)
