-- bytes that are written behind those that stand at the front of a page of zeros
use Rattle.std.proofs.Common.{true, ◌&&◌, leb, ◌≡◌, ℕ, ◌+◌, ◌-◌, ◌≤◌, List, [], ◌∷◌, ◌++◌, length, take, drop, sym, ap, ◌∙◌, append_assoc, length-append, arith}
use Rattle.std.proofs.Math.ListN.{replicate}
use Rattle.std.proofs.lemmas.List.{drop-replicate, drop_at, take_at, take-replicate, length-take-le, length-replicate}
use Rattle.std.proofs.Math.Seq.{take-append-add}
use Rattle.store_format.specs.ControlBytes.{name_bytes}
use Rattle.std.specs.List.{list_all}
use Rattle.std.proofs.lemmas.Bool.{leb-true, and_parts}
use Rattle.block_model.specs.Names.{is_name, is_lower, is_more}
use borrow.Rule.Slice.PartMut.{put_mid}
use Rattle.block_model.specs.Padded.{padded, IsPadded, length_padded}

-- the page is that list, and zeros behind it
pub record Stands (n : ℕ) (page : List ℕ) (len : ℕ) (written : List ℕ) : Type 0 where
  pub padded : IsPadded n 0 page len
  pub front : take len page ≡ written

stands : (n : ℕ) (page written : List ℕ) (len : ℕ) → length written ≡ len → len ≤ n → page ≡ padded n 0 written → Stands n page len written
stands n page written len long fits is =
    let front : take len page ≡ written = ap (take len) is ∙ take_at written (replicate (n - length written) 0) len long in
    record { padded = record { fits = fits; fills = is ∙ ap (padded n 0) (sym front) }; front = front }

-- a part is written over the first zeros
pub part_stands : (n : ℕ) (page part : List ℕ) (len k : ℕ) → IsPadded n 0 page len → k ≡ length part → length (take len page) + length part ≤ n → Stands n (put_mid len k page part) (len + length part) (take len page ++ part)
part_stands n page part len k h is room =
    let front = take len page in
    let long : length front ≡ len = length_padded n 0 page len h in
    let fits : len + length part ≤ n = omega arith in
    let zeros : drop len page ≡ replicate (n - len) 0 =
    ap (drop len) h.fills ∙ drop_at front (replicate (n - length front) 0) len long ∙ ap (λ (j : ℕ). replicate (n - j) 0) long in
    let behind : drop k (drop len page) ≡ replicate (n - (len + length part)) 0 =
    ap (drop k) zeros ∙ drop-replicate k (n - len) 0 ∙ ap (λ (j : ℕ). replicate j 0) (let e : n - len - k ≡ n - (len + length part) = omega arith in e) in
    let both : length (front ++ part) ≡ len + length part = omega (arith, length-append front part) in
    let page_is : put_mid len k page part ≡ padded n 0 (front ++ part) =
    ap (λ (t : List ℕ). front ++ (part ++ t)) behind
    ∙ sym (append_assoc front part (replicate (n - (len + length part)) 0))
    ∙ ap (λ (j : ℕ). (front ++ part) ++ replicate (n - j) 0) (sym both) in
    stands n (put_mid len k page part) (front ++ part) (len + length part) both fits page_is

front_padded : (n : ℕ) (xs : List ℕ) → length xs ≤ n → take n (xs ++ replicate n 0) ≡ xs ++ replicate (n - length xs) 0
front_padded n xs short =
    ap (λ (k : ℕ). take k (xs ++ replicate n 0)) (let e : n ≡ length xs + (n - length xs) = omega arith in e)
    ∙ take-append-add xs (replicate n 0) (n - length xs)
    ∙ ap (λ (t : List ℕ). xs ++ t) (take-replicate (n - length xs) n 0 (omega arith))

-- a name has at most 16 bytes
pub name_short : (name : List ℕ) → is_name name ≡ true → length name ≤ 16
name_short [] is = absurd cc
name_short (c ∷ cs) is =
    let parts = and_parts (is_lower c && leb (length cs) 15) (list_all is_more cs) is in
    let first = and_parts (is_lower c) (leb (length cs) 15) parts.0 in
    omega (arith, leb-true (length cs) 15 first.1)

-- it stands in its field with zeros behind it
pub name_padded : (name : List ℕ) → is_name name ≡ true → name_bytes name ≡ name ++ replicate (16 - length name) 0
unfolding name_bytes
name_padded name is = front_padded 16 name (name_short name is)

-- the field has 16 bytes, whatever stands in it
pub name_length : (name : List ℕ) → length (name_bytes name) ≡ 16
unfolding name_bytes
name_length name =
    length-take-le 16 (name ++ replicate 16 0) (omega (arith, length-append name (replicate 16 0), length-replicate {A = ℕ} 16 0))

-- five parts that are written one behind the other
pub five_parts : (p q r s t u a b c d e : List ℕ) → q ≡ p ++ a → r ≡ q ++ b → s ≡ r ++ c → t ≡ s ++ d → u ≡ t ++ e → u ≡ p ++ (a ++ (b ++ (c ++ (d ++ e))))
five_parts p q r s t u a b c d e one two three four five =
    five ∙ ap (λ (x : List ℕ). x ++ e) (four ∙ ap (λ (x : List ℕ). x ++ d) (three ∙ ap (λ (x : List ℕ). x ++ c) (two ∙ ap (λ (x : List ℕ). x ++ b) one)))
    ∙ simp append_assoc
