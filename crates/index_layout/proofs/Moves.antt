-- Bytes that move on a page: what stands before and behind each other afterwards.
use Rattle.std.proofs.Common.{◌≡◌, ℕ, suc, ◌+◌, ◌-◌, ◌<◌, ◌≤◌, cond, eqb, List, ◌++◌, length, take, drop, refl, sym, ap, ◌∙◌, append_assoc, length-append, arith}
use Rattle.std.specs.Prelude.{replicate}
use Rattle.std.specs.List.{copy_within}
use Rattle.std.specs.Int.{bytes_high_first}
use Rattle.std.proofs.lemmas.List.{length-replicate, replicate-append-replicate, take_at, drop_at, drop-drop, take-append-drop, take-append-le, take-take, length-take-le, take-replicate}
use Rattle.byte_fields.specs.Fields.{number_of, field_at, put_at, put-part}
use borrow.Rule.Slice.PartMut.{put_mid}
use Rattle.index_layout.specs.IndexReading.{number_at}
use Rattle.index_layout.specs.IndexWrites.{laid, laid_entry, lengths_in}
use Rattle.index_layout.proofs.SlotLists.{take_more_of}

-- a front and a part of what stands behind it
pub take_behind : (xs ys : List ℕ) (k n : ℕ) → n ≡ length xs + k → take n (xs ++ ys) ≡ xs ++ take k ys
take_behind xs ys k n is =
    ap (λ (m : ℕ). take m (xs ++ ys)) is ∙ take_more_of (length xs) k (xs ++ ys) ∙ (λ i. take_at xs ys (length xs) refl i ++ take k (drop_at xs ys (length xs) refl i))

pub drop_behind : (xs ys : List ℕ) (k n : ℕ) → n ≡ length xs + k → drop n (xs ++ ys) ≡ drop k ys
drop_behind xs ys k n is =
    ap (λ (m : ℕ). drop m (xs ++ ys)) is ∙ sym (drop-drop k (length xs) (xs ++ ys)) ∙ ap (drop k) (drop_at xs ys (length xs) refl)

-- a front and some of the zeros behind it
zeros_front : (front rest : List ℕ) (z k n : ℕ) → n ≡ length front + k → k ≤ z → take n (front ++ (replicate z 0 ++ rest)) ≡ front ++ replicate k 0
zeros_front front rest z k n is few =
    take_behind front (replicate z 0 ++ rest) k n is
    ∙ ap (λ (l : List ℕ). front ++ l) (take-append-le k (replicate z 0) rest (omega (arith, length-replicate {A = ℕ} z 0)) ∙ take-replicate k z 0 few)

-- what stands behind a front and zeros
behind_zeros : (front rest : List ℕ) (z n : ℕ) → n ≡ length front + z → drop n (front ++ (replicate z 0 ++ rest)) ≡ rest
behind_zeros front rest z n is = drop_behind front (replicate z 0 ++ rest) z n is ∙ drop_at (replicate z 0) rest z (length-replicate z 0)

joined : (a b c d : List ℕ) → (a ++ b ++ c) ++ d ≡ a ++ (b ++ (c ++ d))
joined a b c d = append_assoc (a ++ b) c d ∙ append_assoc a b (c ++ d)

pub moved_down : (page front rest : List ℕ) (z low start to w : ℕ) → page ≡ front ++ (replicate z 0 ++ rest) → length front + z ≡ low → length front ≤ to → to ≤ low → w ≡ start - low
    → copy_within page low start to ≡ front ++ (replicate (to - length front) 0 ++ (take w rest ++ drop (to + w) page))
moved_down page front rest z low start to w is at room down width =
    let zeros = replicate {A = ℕ} (to - length front) 0 in
    let kept : take to page ≡ front ++ zeros = ap (take to) is ∙ zeros_front front rest z (to - length front) to (omega arith) (omega arith) in
    let moved : take (start - low) (drop low page) ≡ take w rest = (λ i. take (sym width i) (drop low (is i))) ∙ ap (take w) (behind_zeros front rest z low (sym at)) in
    (λ i. kept i ++ moved i ++ drop (to + sym width i) page) ∙ joined front zeros (take w rest) (drop (to + w) page)

pub moved_same : (page front rest : List ℕ) (z low to w : ℕ) → page ≡ front ++ (replicate z 0 ++ rest) → length front + z ≡ low → to ≡ low → page ≡ front ++ (replicate (to - length front) 0 ++ (take w rest ++ drop (to + w) page))
moved_same page front rest z low to w is at same =
    let n : z ≡ to - length front = omega arith in
    let behind : drop w rest ≡ drop (to + w) page = sym (sym (drop-drop w to page) ∙ ap (drop w) (ap (drop to) is ∙ behind_zeros front rest z to (omega arith))) in
    is ∙ (λ i. front ++ (replicate (n i) 0 ++ sym (take-append-drop w rest) i)) ∙ ap (λ (l : List ℕ). front ++ (replicate (to - length front) 0 ++ (take w rest ++ l))) behind

pub moved_up : (page mid front rest : List ℕ) (z low start to w k : ℕ) → page ≡ front ++ (replicate z 0 ++ rest) → length front + z ≡ low → low < to → to ≤ length page → w ≡ start - low → k ≡ to - low → mid ≡ copy_within page low start to
    → put_mid low k mid (replicate k 0) ≡ front ++ (replicate (to - length front) 0 ++ (take w rest ++ drop (to + w) page))
moved_up page mid front rest z low start to w k is at up within width size mid_is =
    let others = take w rest ++ drop (to + w) page in
    let moved : take (start - low) (drop low page) ≡ take w rest = (λ i. take (sym width i) (drop low (is i))) ∙ ap (take w) (behind_zeros front rest z low (sym at)) in
    let parts : mid ≡ take to page ++ others = mid_is ∙ (λ i. take to page ++ moved i ++ drop (to + sym width i) page) ∙ append_assoc (take to page) (take w rest) (drop (to + w) page) in
    let long : length (take to page) ≡ to = length-take-le to page within in
    let before : take low mid ≡ front ++ replicate z 0 =
    ap (take low) parts
    ∙ take-append-le low (take to page) others (omega arith)
    ∙ take-take low to page (omega arith)
    ∙ ap (take low) is
    ∙ zeros_front front rest z z low (sym at) (omega arith) in
    let after : drop k (drop low mid) ≡ others = drop-drop k low mid ∙ (λ i. drop (let e : low + k ≡ to = omega arith in e i) (parts i)) ∙ drop_at (take to page) others to long in
    let zeros : replicate z 0 ++ (replicate k 0 ++ others) ≡ replicate (to - length front) 0 ++ others =
    sym (append_assoc (replicate z 0) (replicate k 0) others) ∙ ap (λ (l : List ℕ). l ++ others) (replicate-append-replicate z k 0) ∙ ap (λ (n : ℕ). replicate n 0 ++ others) (let e : z + k ≡ to - length front = omega arith in e) in
    (λ i. before i ++ (replicate k 0 ++ after i)) ∙ append_assoc front (replicate z 0) (replicate k 0 ++ others) ∙ ap (λ (l : List ℕ). front ++ l) zeros

-- a tuple is copied behind what has moved
pub tuple_placed : (page moved front others old behind tuple : List ℕ) (z low start end to from k : ℕ) → page ≡ front ++ (replicate z 0 ++ (others ++ (old ++ behind))) → length front + z ≡ low → low + length others ≡ start → start + length old ≡ end → length tuple ≤ z + length old
    → to ≡ low + (end - start) - length tuple → from ≡ end - length tuple → k ≡ length tuple → moved ≡ front ++ (replicate (to - length front) 0 ++ (take (start - low) (others ++ (old ++ behind)) ++ drop (to + (start - low)) page))
    → put_mid from k moved tuple ≡ front ++ (replicate (z + length old - length tuple) 0 ++ (others ++ (tuple ++ behind)))
tuple_placed page moved front others old behind tuple z low start end to from k is at place ends room to_is from_is size moved_is =
    let zeros = replicate {A = ℕ} (z + length old - length tuple) 0 in
    let rest = others ++ (old ++ behind) in
    let wide : start - low ≡ length others = omega arith in
    let behind_moved = drop (to + length others) page in
    let n : to - length front ≡ z + length old - length tuple = omega arith in
    let parts : moved ≡ front ++ (zeros ++ (others ++ behind_moved)) =
    moved_is ∙ (λ i. front ++ (replicate (n i) 0 ++ (take (wide i) rest ++ drop (to + wide i) page))) ∙ ap (λ (l : List ℕ). front ++ (zeros ++ (l ++ behind_moved))) (take_at others (old ++ behind) (length others) refl) in
    let before = front ++ (zeros ++ others) in
    let grouped : moved ≡ before ++ behind_moved =
    parts ∙ ap (λ (l : List ℕ). front ++ l) (sym (append_assoc zeros others behind_moved)) ∙ sym (append_assoc front (zeros ++ others) behind_moved) in
    let long : length before ≡ from = omega (arith, length-append front (zeros ++ others), length-append zeros others, length-replicate {A = ℕ} (z + length old - length tuple) 0) in
    let last : drop k (drop from moved) ≡ behind =
    ap (drop k) (ap (drop from) grouped ∙ drop_at before behind_moved from long)
    ∙ drop-drop k (to + length others) page
    ∙ (λ i. drop (let e : to + length others + k ≡ length front + z + length others + length old = omega arith in e i) (is i))
    ∙ ap (λ (m : ℕ). drop m (front ++ (replicate z 0 ++ rest))) (let e : length front + z + length others + length old ≡ length front + (z + (length others + length old)) = omega arith in e)
    ∙ drop_behind front (replicate z 0 ++ rest) (z + (length others + length old)) _ refl
    ∙ drop_behind (replicate z 0) rest (length others + length old) _ (let e : z + (length others + length old) ≡ length (replicate {A = ℕ} z 0) + (length others + length old) = omega (arith, length-replicate {A = ℕ} z 0) in e)
    ∙ drop_behind others (old ++ behind) (length old) _ refl
    ∙ drop_at old behind (length old) refl in
    (λ i. (ap (take from) grouped ∙ take_at before behind_moved from long) i ++ (tuple ++ last i))
    ∙ append_assoc front (zeros ++ others) (tuple ++ behind)
    ∙ ap (λ (l : List ℕ). front ++ l) (append_assoc zeros others (tuple ++ behind))

-- offsets are written one by one

pub laid-start : (page all : List ℕ) (at p end count : ℕ) → p ≡ at → take at page ++ laid end count (drop at page) ≡ all → take p page ++ laid end (count - 0) (drop p page) ≡ all
laid-start page all at p end count is whole =
    (λ i. take (is i) page ++ laid end (let n : count - 0 ≡ count = omega arith in n i) (drop (is i) page)) ∙ whole

pub laid-lengths : (page : List ℕ) (at p end count : ℕ) → p ≡ at → lengths_in count (drop at page) ≤ end → lengths_in (count - 0) (drop p page) ≤ end
laid-lengths page at p end count is few =
    let same : lengths_in (count - 0) (drop p page) ≡ lengths_in count (drop at page) = (λ i. lengths_in (let n : count - 0 ≡ count = omega arith in n i) (drop (is i) page)) in
    omega (arith, few, same)

-- the first length of some
pub length_first : (page : List ℕ) (m n p size end : ℕ) → m ≡ suc n → size ≡ number_of (field_at page (p + 2) 2) → lengths_in m (drop p page) ≤ end → size + lengths_in n (drop 4 (drop p page)) ≤ end
unfolding lengths_in
length_first page m n p size end more is few =
    let width : size ≡ number_at (drop p page) 2 2 = is ∙ ap (λ (l : List ℕ). number_of (take 2 l)) (sym (drop-drop 2 p page)) in
    let whole : lengths_in m (drop p page) ≡ number_at (drop p page) 2 2 + lengths_in n (drop 4 (drop p page)) = ap (λ (k : ℕ). lengths_in k (drop p page)) more in
    omega (arith, few, width, whole)

-- a put leaves what stands behind its slot
pub behind_put : (page new : List ℕ) (p next x : ℕ) → next ≡ p + 4 → p + 4 ≤ length page → new ≡ put_at page p 2 x → drop next new ≡ drop 4 (drop p page)
behind_put page new p next x on within put =
    let long : length (take p page) ≡ p = length-take-le p page (omega arith) in
    (λ i. drop (on i) ((put ∙ put-part page p 2 x) i))
    ∙ drop_behind (take p page) (bytes_high_first 2 x ++ drop 2 (drop p page)) 4 (p + 4) (omega arith)
    ∙ drop-drop 2 2 (drop p page)

pub laid-next : (page new all : List ℕ) (p next m n end size x : ℕ) → m ≡ suc n → next ≡ p + 4 → p + 4 ≤ length page → size ≡ number_of (field_at page (p + 2) 2) → x ≡ cond (eqb size 0) 0 (end - size) → new ≡ put_at page p 2 x
    → take p page ++ laid end m (drop p page) ≡ all → take next new ++ laid (end - size) n (drop next new) ≡ all
unfolding laid
laid-next page new all p next m n end size x more on within is offset put so_far =
    let bytes = drop p page in
    let width : size ≡ number_at bytes 2 2 = is ∙ ap (λ (l : List ℕ). number_of (take 2 l)) (sym (drop-drop 2 p page)) in
    let entry : x ≡ cond (eqb (number_at bytes 2 2) 0) 0 (end - number_at bytes 2 2) = offset ∙ (λ i. cond (eqb (width i) 0) 0 (end - width i)) in
    let long : length (take p page) ≡ p = length-take-le p page (omega arith) in
    let own : take next new ≡ take p page ++ laid_entry end bytes =
    (λ i. take (on i) ((put ∙ put-part page p 2 x) i))
    ∙ take_behind (take p page) (bytes_high_first 2 x ++ drop 2 bytes) 4 (p + 4) (omega arith)
    ∙ ap (λ (y : ℕ). take p page ++ (bytes_high_first 2 y ++ take 2 (drop 2 bytes))) entry in
    (λ i. own i ++ laid (end - width i) n (behind_put page new p next x on within put i))
    ∙ append_assoc (take p page) (laid_entry end bytes) (laid (end - number_at bytes 2 2) n (drop 4 bytes))
    ∙ ap (λ (k : ℕ). take p page ++ laid end k bytes) (sym more)
    ∙ so_far

pub laid-end : (page all : List ℕ) (p m end : ℕ) → m ≡ 0 → take p page ++ laid end m (drop p page) ≡ all → page ≡ all
unfolding laid
laid-end page all p m end none so_far =
    sym (take-append-drop p page) ∙ ap (λ (k : ℕ). take p page ++ laid end k (drop p page)) (sym none) ∙ so_far
