-- What byteorder reads and writes in the part of a field.
use Rattle.std.proofs.Common.{◌≡◌, ℕ, ◌+◌, ◌≤◌, List, [], ◌++◌, length, take, drop, sym, ap, ◌∙◌, arith}
use Rattle.std.proofs.lemmas.List.{append-nil, drop_all, length-take}
use Rattle.std.specs.Int.{bytes_high_first}
use borrow.Rule.Slice.PartMut.{put_mid}
use Rattle.byteorder.specs.Endian.{big_from}
use Rattle.byte_fields.specs.Fields.{field_at, length-field, number-big, number_of, put-part, put_at}

-- what is read from the part of a field is its number
pub number-read : (bytes : List ℕ) (at n k : ℕ) → at + n ≤ length bytes → k ≡ n → big_from 0 n (take k (drop at bytes)) ≡ number_of (field_at bytes at n)
number-read bytes at n k within long =
    ap (λ (j : ℕ). big_from 0 n (take j (drop at bytes))) long
    ∙ ap (λ (j : ℕ). big_from 0 j (field_at bytes at n)) (sym (length-field bytes at n within))
    ∙ sym (number-big (field_at bytes at n))

-- a number that is written to the part of a field is put there
pub put-written : (bytes part : List ℕ) (at n k x : ℕ) → k ≡ n → part ≡ bytes_high_first n x ++ drop n (take k (drop at bytes)) → put_mid at k bytes part ≡ put_at bytes at n x
put-written bytes part at n k x long written =
    let rest : drop n (take k (drop at bytes)) ≡ [] = drop_all n (take k (drop at bytes)) (omega (arith, length-take k (drop at bytes))) in
    let all : part ≡ bytes_high_first n x = written ∙ ap (λ (l : List ℕ). bytes_high_first n x ++ l) rest ∙ append-nil (bytes_high_first n x) in
    ap (λ (j : ℕ). put_mid at j bytes part) long ∙ ap (put_mid at n bytes) all ∙ sym (put-part bytes at n x)
