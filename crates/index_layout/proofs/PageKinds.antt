-- Pages of an index: what has no fault is one, and one has no fault.
use Rattle.std.proofs.Common.{◌≡◌, ℕ, zero, suc, ◌+◌, ◌-◌, ◌*◌, ◌<◌, ◌≤◌, ◌^◌, ◌⊎◌, inl, inr, Bool, true, false, ◌||◌, cond, eqb, List, [], ◌∷◌, ◌++◌, length, take, drop, get_or, refl, sym, ap, subst, ◌∙◌, length-drop, arith}
use Rattle.std.specs.Prelude.{Option, None, Some, replicate, nat_le}
use Rattle.std.specs.Int.{bytes_high_first}
use Rattle.std.proofs.lemmas.Bool.{eqb-true, leb-true, le-leb}
use Rattle.std.proofs.lemmas.List.{append-nil, length-replicate, take_all, take-append-drop, length-take-le}
use Rattle.block_model.specs.declared.place.Spot.{Spot}
use Rattle.byte_fields.specs.Fields.{AreBytes, AreBytes-drop, AreBytes-take, number_of, number-fits, bytes-number}
use Rattle.index_layout.specs.IndexPages.{Slot, IsLastUsed, HasSlots, IsRegular, IsMeta, IsMap, IsIndexPage, Unstarted, Meta, Map, Regular, entries_bytes, taken, directory, tuples, header, regular_bytes, meta_bytes, map_bytes}
use Rattle.index_layout.specs.IndexFaults.{first_of, shifted, fault_unless, zeros_fault, directory_fault, regular_fault, meta_fault, map_fault, entries_fault, index_fault}
use Rattle.index_layout.specs.IndexReading.{is_regular, slots_in, entries_in}
use Rattle.index_layout.proofs.Faults.{first_none, holds-unless, shifted-none, zeros_take, zeros_pass}
use Rattle.index_layout.proofs.SlotLists.{slots-take, slots-pass, taken-is, two, two_bytes, length-in}
use Rattle.index_layout.proofs.Entries.{entries-take, entries-pass, length-entries_in}

-- a page without a fault

-- the zeros of a header without slots
plain_header : (x : ℕ) (c : List ℕ) → 31 ≤ length c → zeros_fault (take 31 c) ≡ None → x ∷ c ≡ header x 0 ++ drop 31 c
plain_header x c long f =
    let zeros : take 31 c ≡ replicate 31 0 = zeros_take (take 31 c) f ∙ ap (λ (n : ℕ). replicate n 0) (length-take-le 31 c long) in
    ap (λ (l : List ℕ). x ∷ l) (sym (take-append-drop 31 c) ∙ ap (λ (l : List ℕ). l ++ drop 31 c) zeros)

meta_takes : (x : ℕ) (c : List ℕ) → length (x ∷ c) ≡ 8192 → AreBytes (x ∷ c) → x ≡ 3 → meta_fault (x ∷ c) ≡ None → IsMeta (number_of (take 4 (drop 31 c))) (x ∷ c)
unfolding meta_fault meta_bytes
meta_takes x c len small kind f =
    let body = drop 31 c in
    let field = take 4 body in
    let tight : AreBytes field = AreBytes-take 4 body (AreBytes-drop 31 c (λ i. small (suc i))) in
    let long : length body ≡ 8161 - 1 = omega (arith, length-drop 31 c) in
    let four : length field ≡ 4 = length-take-le 4 body (omega arith) in
    let parts = first_none (shifted 1 (zeros_fault (take 31 c))) (shifted 36 (zeros_fault (drop 35 c))) f in
    let behind : drop 4 body ≡ drop 35 c = Rattle.std.proofs.lemmas.List.drop-drop 4 31 c in
    let zeros : drop 4 body ≡ replicate (8160 - 4) 0 =
    behind ∙ zeros_take (drop 35 c) (shifted-none 36 _ parts.1) ∙ ap (λ (n : ℕ). replicate n 0) (let n : length (drop 35 c) ≡ 8160 - 4 = omega (arith, length-drop 35 c) in n) in
    let fits : number_of field < 256 ^ 4 = subst (λ (k : ℕ). number_of field < 256 ^ k) four (number-fits field tight) in
    record {
      small = omega arith;
      bytes =
          plain_header x c (omega arith) (shifted-none 1 _ parts.0)
          ∙ (λ i. header (kind i) 0 ++ sym (take-append-drop 4 body) i)
          ∙ (λ i. header 3 0 ++ (sym (ap (λ (k : ℕ). bytes_high_first k (number_of field)) (sym four) ∙ bytes-number field tight) i ++ zeros i));
    }

map_takes : (x : ℕ) (c : List ℕ) (n : ℕ) → n ≡ 1020 → length (x ∷ c) ≡ 8192 → AreBytes (x ∷ c) → x ≡ 4 → first_of (shifted 1 (zeros_fault (take 31 c))) (shifted 32 (entries_fault n (drop 31 c))) ≡ None → IsMap (entries_in n (drop 31 c)) (x ∷ c)
unfolding map_bytes
map_takes x c n is len small kind f =
    let body = drop 31 c in
    let parts = first_none (shifted 1 (zeros_fault (take 31 c))) (shifted 32 (entries_fault n body)) f in
    let own = entries-take n body (omega (arith, length-drop 31 c)) (AreBytes-drop 31 c (λ i. small (suc i))) (shifted-none 32 _ parts.1) in
    record {
      counted = length-entries_in n body ∙ is;
      are = own.0;
      bytes = plain_header x c (omega arith) (shifted-none 1 _ parts.0) ∙ (λ i. header (kind i) 0 ++ own.1 i);
    }

kinds_of : (x : ℕ) → is_regular x ≡ true → (x ≡ 5) ⊎ (x ≡ 6)
kinds_of x e = by (eqb x 5) refl (eqb x 6) refl e
  where
    by : (five : Bool) → eqb x 5 ≡ five → (six : Bool) → eqb x 6 ≡ six → five || six ≡ true → (x ≡ 5) ⊎ (x ≡ 6)
    by true f six s e = inl (eqb-true x 5 f)
    by false f true s e = inr (eqb-true x 6 s)
    by false f false s e = absurd cc

regular_takes : (x z a b : ℕ) (rest : List ℕ) → length (x ∷ z ∷ a ∷ b ∷ rest) ≡ 8192 → AreBytes (x ∷ z ∷ a ∷ b ∷ rest) → is_regular x ≡ true → regular_fault (x ∷ z ∷ a ∷ b ∷ rest) ≡ None
    → IsRegular x (slots_in (x ∷ z ∷ a ∷ b ∷ rest) (number_of (a ∷ b ∷ [])) (drop 28 rest)) (x ∷ z ∷ a ∷ b ∷ rest)
unfolding regular_fault regular_bytes
regular_takes x z a b rest len small kind f =
    let page = x ∷ z ∷ a ∷ b ∷ rest in
    let count = number_of (a ∷ b ∷ []) in
    let body = drop 28 rest in
    let floor = 32 + count * 4 in
    let slots = slots_in page count body in
    let third = shifted 32 (directory_fault floor 8192 count body) in
    let second = first_of (shifted 4 (zeros_fault (take 28 rest))) third in
    let p = first_none (fault_unless (eqb z 0) 1) (first_of (fault_unless (nat_le (count * 4) 8160) 2) second) f in
    let q = first_none (fault_unless (nat_le (count * 4) 8160) 2) second p.1 in
    let r = first_none (shifted 4 (zeros_fault (take 28 rest))) third q.1 in
    let zero_byte : z ≡ 0 = eqb-true z 0 (holds-unless _ 1 p.0) in
    let fits : count * 4 ≤ 8160 = leb-true (count * 4) 8160 (holds-unless _ 2 q.0) in
    let zeros : take 28 rest ≡ replicate 28 0 = zeros_take (take 28 rest) (shifted-none 4 _ r.0) ∙ ap (λ (n : ℕ). replicate n 0) (length-take-le 28 rest (omega arith)) in
    let long : length body ≡ 8160 = omega (arith, length-drop 28 rest) in
    let own = slots-take count floor 8192 32 page body (AreBytes-drop 28 rest (λ i. small (suc (suc (suc (suc i)))))) refl refl (omega arith) (omega arith) (shifted-none 32 _ r.1) in
    let counted : length slots ≡ count = length-in page count body in
    let all : body ≡ take (8192 - 32) body = sym (take_all (8192 - 32) body (omega arith)) in
    let same : 8192 - floor - length (tuples slots) ≡ 8160 - taken slots = omega (arith, taken-is slots) in
    let number : a ∷ b ∷ [] ≡ bytes_high_first 2 (length slots) = sym (two_bytes a b (small 2) (small 3)) ∙ ap (bytes_high_first 2) (sym counted) in
    record {
      has = record {
        of = kinds_of x kind;
        fit = record { are = own.are; room = omega (arith, taken-is slots, own.room) };
        bytes =
            ap (λ (l : List ℕ). x ∷ z ∷ a ∷ b ∷ l) (sym (take-append-drop 28 rest))
            ∙ (λ i. x ∷ zero_byte i ∷ (number i ++ (zeros i ++ (all ∙ own.written) i)))
            ∙ (λ i. header x (length slots) ++ (directory 8192 slots ++ (replicate (same i) 0 ++ tuples slots)));
      };
      last = own.last;
    }

by_kind : (x z a b : ℕ) (rest : List ℕ) (n : ℕ) (unstarted meta map regular : Bool) → n ≡ 1020 → eqb x 0 ≡ unstarted → eqb x 3 ≡ meta → eqb x 4 ≡ map → is_regular x ≡ regular → length (x ∷ z ∷ a ∷ b ∷ rest) ≡ 8192 → AreBytes (x ∷ z ∷ a ∷ b ∷ rest)
    → cond unstarted (zeros_fault (x ∷ z ∷ a ∷ b ∷ rest)) (cond meta (meta_fault (x ∷ z ∷ a ∷ b ∷ rest)) (cond map (first_of (shifted 1 (zeros_fault (take 31 (z ∷ a ∷ b ∷ rest)))) (shifted 32 (entries_fault n (drop 31 (z ∷ a ∷ b ∷ rest))))) (cond regular (regular_fault (x ∷ z ∷ a ∷ b ∷ rest)) (Some 0)))) ≡ None
    → IsIndexPage (x ∷ z ∷ a ∷ b ∷ rest)
by_kind x z a b rest n true meta map regular is u m p r len small f = Unstarted (zeros_take (x ∷ z ∷ a ∷ b ∷ rest) f ∙ ap (λ (k : ℕ). replicate k 0) len)
by_kind x z a b rest n false true map regular is u m p r len small f = Meta (number_of (take 4 (drop 31 (z ∷ a ∷ b ∷ rest)))) (meta_takes x (z ∷ a ∷ b ∷ rest) len small (eqb-true x 3 m) f)
by_kind x z a b rest n false false true regular is u m p r len small f = Map (entries_in n (drop 31 (z ∷ a ∷ b ∷ rest))) (map_takes x (z ∷ a ∷ b ∷ rest) n is len small (eqb-true x 4 p) f)
by_kind x z a b rest n false false false true is u m p r len small f = Regular x (slots_in (x ∷ z ∷ a ∷ b ∷ rest) (number_of (a ∷ b ∷ [])) (drop 28 rest)) (regular_takes x z a b rest len small r f)
by_kind x z a b rest n false false false false is u m p r len small f = absurd cc

-- what has no fault is a page of an index
pub index_takes : (page : List ℕ) (n : ℕ) → n ≡ 1020 → length page ≡ 8192 → AreBytes page → index_fault page ≡ None → IsIndexPage page
unfolding index_fault map_fault
index_takes [] n is len small f = absurd (omega arith)
index_takes (x ∷ []) n is len small f = absurd (omega arith)
index_takes (x ∷ z ∷ []) n is len small f = absurd (omega arith)
index_takes (x ∷ z ∷ a ∷ []) n is len small f = absurd (omega arith)
index_takes (x ∷ z ∷ a ∷ b ∷ rest) n is len small f =
    by_kind x z a b rest n (eqb x 0) (eqb x 3) (eqb x 4) (is_regular x) is refl refl refl refl len small
    (ap (λ (k : ℕ). cond (eqb x 0) (zeros_fault (x ∷ z ∷ a ∷ b ∷ rest)) (cond (eqb x 3) (meta_fault (x ∷ z ∷ a ∷ b ∷ rest)) (cond (eqb x 4) (first_of (shifted 1 (zeros_fault (take 31 (z ∷ a ∷ b ∷ rest)))) (shifted 32 (entries_fault k (drop 31 (z ∷ a ∷ b ∷ rest))))) (cond (is_regular x) (regular_fault (x ∷ z ∷ a ∷ b ∷ rest)) (Some 0))))) is ∙ f)

-- a page of an index has no fault

zeros_page : (n : ℕ) → index_fault (replicate (suc n) 0) ≡ None
unfolding index_fault
zeros_page n = zeros_pass (suc n)

unstarted_passes : (n : ℕ) → 0 < n → index_fault (replicate n 0) ≡ None
unstarted_passes zero some = absurd (omega arith)
unstarted_passes (suc n) some = zeros_page n

meta_passes : (pages z : ℕ) → index_fault (header 3 0 ++ (bytes_high_first 4 pages ++ replicate z 0)) ≡ None
unfolding index_fault meta_fault
meta_passes pages z = ap (λ (o : Option ℕ). first_of (shifted 1 o) (shifted 36 (zeros_fault (replicate z 0)))) (zeros_pass 31) ∙ ap (shifted 36) (zeros_pass z)

map_passes : (entries : List (Option Spot)) → length entries ≡ 1020 → index_fault (header 4 0 ++ entries_bytes entries) ≡ None
unfolding index_fault map_fault
map_passes entries counted =
    ap (λ (o : Option ℕ). first_of (shifted 1 o) (shifted 32 (entries_fault 1020 (entries_bytes entries)))) (zeros_pass 31)
    ∙ ap (λ (n : ℕ). shifted 32 (entries_fault n (entries_bytes entries))) (sym counted)
    ∙ ap (shifted 32) (entries-pass entries)

regular_page : (kind : ℕ) (slots : List Slot) → HasSlots kind slots (regular_bytes kind slots) → IsLastUsed slots → regular_fault (regular_bytes kind slots) ≡ None
unfolding regular_fault regular_bytes
regular_page kind slots has last =
    let zeros = 8160 - taken slots in
    let body = directory 8192 slots ++ (replicate zeros 0 ++ tuples slots) in
    let room = has.fit.room in
    let count : number_of (bytes_high_first 2 (length slots)) ≡ length slots = two (length slots) (omega (arith, taken-is slots)) in
    let fits : nat_le (length slots * 4) 8160 ≡ true = le-leb (length slots * 4) 8160 (omega (arith, taken-is slots)) in
    (λ i. first_of (fault_unless (nat_le (count i * 4) 8160) 2) (first_of (shifted 4 (zeros_pass 28 i)) (shifted 32 (directory_fault (32 + count i * 4) 8192 (count i) body))))
    ∙ ap (λ (t : Bool). first_of (fault_unless t 2) (shifted 32 (directory_fault (32 + length slots * 4) 8192 (length slots) body))) fits
    ∙ ap (shifted 32) (slots-pass slots (32 + length slots * 4) 8192 zeros (tuples slots) has.fit.are last (omega arith) (omega (arith, taken-is slots)) (omega (arith, taken-is slots)))

front_regular : (kind : ℕ) (slots : List Slot) → get_or (regular_bytes kind slots) 0 0 ≡ kind
unfolding regular_bytes
front_regular kind slots = refl

regular_passes : (kind : ℕ) (slots : List Slot) → HasSlots kind slots (regular_bytes kind slots) → IsLastUsed slots → (kind ≡ 5) ⊎ (kind ≡ 6) → index_fault (regular_bytes kind slots) ≡ None
unfolding index_fault
regular_passes kind slots has last (inl five) =
    let page = regular_bytes kind slots in
    ap (λ (x : ℕ). cond (eqb x 0) (zeros_fault page) (cond (eqb x 3) (meta_fault page) (cond (eqb x 4) (map_fault page) (cond (is_regular x) (regular_fault page) (Some 0))))) (front_regular kind slots ∙ five)
    ∙ regular_page kind slots has last
regular_passes kind slots has last (inr six) =
    let page = regular_bytes kind slots in
    ap (λ (x : ℕ). cond (eqb x 0) (zeros_fault page) (cond (eqb x 3) (meta_fault page) (cond (eqb x 4) (map_fault page) (cond (is_regular x) (regular_fault page) (Some 0))))) (front_regular kind slots ∙ six)
    ∙ regular_page kind slots has last

meta_page_passes : (pages : ℕ) (page : List ℕ) → page ≡ meta_bytes pages → index_fault page ≡ None
unfolding meta_bytes
meta_page_passes pages page e = ap index_fault e ∙ meta_passes pages (8160 - 4)

map_page_passes : (entries : List (Option Spot)) (page : List ℕ) → length entries ≡ 1020 → page ≡ map_bytes entries → index_fault page ≡ None
unfolding map_bytes
map_page_passes entries page counted e = ap index_fault e ∙ map_passes entries counted

pub index_passes : (page : List ℕ) (n : ℕ) → n ≡ 8192 → IsIndexPage page → index_fault page ≡ None
index_passes page n is (Unstarted zeros) = ap index_fault (zeros ∙ ap (λ (k : ℕ). replicate k 0) (sym is)) ∙ unstarted_passes n (omega arith)
index_passes page n is (Meta pages meta) = meta_page_passes pages page meta.bytes
index_passes page n is (Map entries map) = map_page_passes entries page map.counted map.bytes
index_passes page n is (Regular kind slots regular) =
    ap index_fault regular.has.bytes ∙ regular_passes kind slots (record { of = regular.has.of; fit = regular.has.fit; bytes = refl }) regular.last regular.has.of
