-- The slots of a directory are walked one by one.
use Rattle.std.proofs.Common.{◌≡◌, ℕ, suc, ◌+◌, ◌-◌, ◌<◌, Bool, eqb, List, take, drop, sym, ap, ◌∙◌, arith}
use Rattle.std.specs.Prelude.{Option, None, Some}
use Rattle.std.proofs.lemmas.Bool.Decides.{nat_tests}
use Rattle.std.proofs.lemmas.List.{drop-drop}
use Rattle.byte_fields.specs.Fields.{number_of, field_at}
use Rattle.index_layout.specs.IndexFaults.{first_of, shifted, zeros_fault, slot_fault, directory_fault}
use Rattle.index_layout.specs.IndexReading.{number_at}
use Rattle.index_layout.proofs.Faults.{shifted-twice}

-- the last slot has none behind it
pub last_slot : (slot count : ℕ) → slot < count → eqb (slot + 1) count ≡ eqb (count - (slot + 1)) 0
last_slot slot count below = grind (arith, nat_tests)

-- the fault of a slot by its two fields
own_fault : (floor end at offset size : ℕ) (last behind : Bool) (page : List ℕ) (o : Option ℕ) → last ≡ behind → offset ≡ number_of (field_at page at 2) → size ≡ number_of (field_at page (at + 2) 2) → o ≡ slot_fault floor end last offset size
    → o ≡ slot_fault floor end behind (number_at (drop at page) 0 2) (number_at (drop at page) 2 2)
own_fault floor end at offset size last behind page o le oe se found =
    let width : size ≡ number_at (drop at page) 2 2 = se ∙ ap (λ (l : List ℕ). number_of (take 2 l)) (sym (drop-drop 2 at page)) in
    found ∙ (λ i. slot_fault floor end (le i) (oe i) (width i))

pub directory-stop : (floor end m n at offset size fault : ℕ) (last : Bool) (page : List ℕ) (all : Option ℕ) → m ≡ suc n → last ≡ eqb n 0 → offset ≡ number_of (field_at page at 2) → size ≡ number_of (field_at page (at + 2) 2)
    → shifted at (directory_fault floor end m (drop at page)) ≡ all → Some fault ≡ slot_fault floor end last offset size → Some (at + fault) ≡ all
unfolding directory_fault
directory-stop floor end m n at offset size fault last page all more le oe se so_far found =
    let bytes = drop at page in
    let here = own_fault floor end at offset size last (eqb n 0) page (Some fault) le oe se found in
    ap (λ (o : Option ℕ). shifted at (first_of o (shifted 4 (directory_fault floor (end - number_at bytes 2 2) n (drop 4 bytes))))) here
    ∙ ap (λ (k : ℕ). shifted at (directory_fault floor end k bytes)) (sym more)
    ∙ so_far

pub directory-next : (floor end m n at next offset size : ℕ) (last : Bool) (page : List ℕ) (all : Option ℕ) → m ≡ suc n → last ≡ eqb n 0 → offset ≡ number_of (field_at page at 2) → size ≡ number_of (field_at page (at + 2) 2) → next ≡ at + 4
    → shifted at (directory_fault floor end m (drop at page)) ≡ all → None ≡ slot_fault floor end last offset size → shifted next (directory_fault floor (end - size) n (drop next page)) ≡ all
unfolding directory_fault
directory-next floor end m n at next offset size last page all more le oe se on so_far found =
    let bytes = drop at page in
    let here = own_fault floor end at offset size last (eqb n 0) page None le oe se found in
    let width : size ≡ number_at bytes 2 2 = se ∙ ap (λ (l : List ℕ). number_of (take 2 l)) (sym (drop-drop 2 at page)) in
    (λ i. shifted (on i) (directory_fault floor (end - width i) n (drop (on i) page)))
    ∙ sym (shifted-twice at 4 (directory_fault floor (end - number_at bytes 2 2) n (drop (at + 4) page)))
    ∙ ap (λ (l : List ℕ). shifted at (shifted 4 (directory_fault floor (end - number_at bytes 2 2) n l))) (sym (drop-drop 4 at page))
    ∙ ap (λ (o : Option ℕ). shifted at (first_of o (shifted 4 (directory_fault floor (end - number_at bytes 2 2) n (drop 4 bytes))))) here
    ∙ ap (λ (k : ℕ). shifted at (directory_fault floor end k bytes)) (sym more)
    ∙ so_far

-- the zeros behind the directory
pub directory-end : (floor end m at : ℕ) (page : List ℕ) (all o : Option ℕ) → m ≡ 0 → floor ≡ at → o ≡ zeros_fault (take (end - floor) (drop floor page)) → shifted at (directory_fault floor end m (drop at page)) ≡ all → shifted floor o ≡ all
unfolding directory_fault
directory-end floor end m at page all o none is found so_far =
    ap (shifted floor) found
    ∙ (λ i. shifted (is i) (zeros_fault (take (end - floor) (drop (is i) page))))
    ∙ ap (λ (k : ℕ). shifted at (directory_fault floor end k (drop at page))) (sym none)
    ∙ so_far
