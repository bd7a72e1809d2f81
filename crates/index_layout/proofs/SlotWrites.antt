-- What a page has after one of its slots got another tuple.
use Rattle.std.proofs.Common.{◌≡◌, ℕ, zero, suc, ◌+◌, ◌-◌, ◌*◌, ◌<◌, ◌≤◌, ◌⊎◌, false, cond, eqb, List, [], ◌∷◌, ◌++◌, length, take, drop, set, get_or, refl, sym, ap, ◌∙◌, append_assoc, length-append, length-drop, arith}
use Rattle.std.specs.Prelude.{None, Some, replicate}
use Rattle.std.specs.Int.{bytes_high_first}
use Rattle.std.proofs.lemmas.Bool.{ne_eqb}
use Rattle.std.proofs.lemmas.List.{append-nil, length-set, length-take-le, take_at, drop_at, set_split, set-get_or}
use Rattle.byte_fields.specs.Fields.{number_of, put_at, put-part}
use borrow.Rule.Slice.PartMut.{put_mid}
use Rattle.index_layout.specs.IndexPages.{Slot, IsSlot, AreSlots, FitPage, HasSlots, tuple_bytes, taken, directory_entry, directory, tuples, header, regular_bytes}
use Rattle.index_layout.specs.IndexReading.{number_at, end_from, free_of}
use Rattle.index_layout.specs.IndexWrites.{laid, laid_entry, lengths_in, slot_with}
use Rattle.index_layout.proofs.SlotLists.{taken-is, two, length-directory}
use Rattle.index_layout.proofs.SlotsRead.{end_all}
use Rattle.index_layout.proofs.Reading.{are_at}

-- slots one behind the other

pub directory-append : (xs ys : List Slot) (end : ℕ) → directory end (xs ++ ys) ≡ directory end xs ++ directory (end_from end (length xs) xs) ys
unfolding directory end_from
directory-append [] ys end = refl
directory-append (slot ∷ xs) ys end =
    let entry = directory_entry end slot in
    let next = end - length (tuple_bytes slot) in
    ap (λ (l : List ℕ). entry ++ l) (directory-append xs ys next) ∙ sym (append_assoc entry (directory next xs) (directory (end_from next (length xs) xs) ys))

pub tuples-append : (xs ys : List Slot) → tuples (xs ++ ys) ≡ tuples ys ++ tuples xs
unfolding tuples
tuples-append [] ys = sym (append-nil (tuples ys))
tuples-append (slot ∷ xs) ys = ap (λ (l : List ℕ). l ++ tuple_bytes slot) (tuples-append xs ys) ∙ append_assoc (tuples ys) (tuples xs) (tuple_bytes slot)

pub taken-append : (xs ys : List Slot) → taken (xs ++ ys) ≡ taken xs + taken ys
unfolding taken
taken-append [] ys = omega arith
taken-append (slot ∷ xs) ys = omega (arith, taken-append xs ys)

pub slots_split : (slots : List Slot) (n : ℕ) → n < length slots → slots ≡ take n slots ++ (get_or slots n None ∷ drop (suc n) slots)
slots_split slots n below = sym (set-get_or slots n None) ∙ set_split slots n (get_or slots n None) below

end_take : (n : ℕ) (slots : List Slot) (end : ℕ) → n ≤ length slots → end_from end n slots ≡ end_from end (length (take n slots)) (take n slots)
unfolding end_from
end_take zero slots end few = refl
end_take (suc n) [] end few = absurd (omega arith)
end_take (suc n) (slot ∷ slots) end few = end_take n slots (end - length (tuple_bytes slot)) (omega arith)

pub are_set : (slots : List Slot) (n : ℕ) (new : Slot) → AreSlots slots → IsSlot new → AreSlots (set slots n new)
are_set [] n new are is = tt
are_set (slot ∷ slots) zero new are is = (is, are.1)
are_set (slot ∷ slots) (suc n) new are is = (are.0, are_set slots n new are.1 is)

are_drop : (n : ℕ) (slots : List Slot) → AreSlots slots → AreSlots (drop n slots)
are_drop zero slots are = are
are_drop (suc n) [] are = tt
are_drop (suc n) (slot ∷ slots) are = are_drop n slots are.1

pub with_bytes : (tuple : List ℕ) → tuple_bytes (slot_with tuple) ≡ tuple
with_bytes [] = refl
with_bytes (byte ∷ bytes) = refl

pub with-is : (tuple : List ℕ) → IsSlot (slot_with tuple)
with-is [] = tt
with-is (byte ∷ bytes) = omega arith

-- two slots of one length have one entry
entry_same : (end : ℕ) (a b : Slot) → IsSlot a → IsSlot b → length (tuple_bytes a) ≡ length (tuple_bytes b) → directory_entry end a ≡ directory_entry end b
entry_same end None None ia ib e = refl
entry_same end None (Some tuple) ia ib e = absurd (omega arith)
entry_same end (Some tuple) None ia ib e = absurd (omega arith)
entry_same end (Some a) (Some b) ia ib e = λ i. bytes_high_first 2 (end - e i) ++ bytes_high_first 2 (e i)

-- offsets written anew

pub laid_directory : (slots : List Slot) (old end : ℕ) (rest : List ℕ) → AreSlots slots → length (tuples slots) < 65536 → laid end (length slots) (directory old slots ++ rest) ≡ directory end slots ++ rest
unfolding laid directory tuples number_of
laid_directory [] old end rest are small = refl
laid_directory (None ∷ slots) old end rest are small = ap (λ (l : List ℕ). 0 ∷ 0 ∷ 0 ∷ 0 ∷ l) (laid_directory slots (old - 0) (end - 0) rest are.1 (omega (arith, length-append (tuples slots) [])))
laid_directory (Some tuple ∷ slots) old end rest are small =
    let long = length-append (tuples slots) tuple in
    let size : number_of (bytes_high_first 2 (length tuple)) ≡ length tuple = two (length tuple) (omega arith) in
    let some : eqb (length tuple) 0 ≡ false = ne_eqb (length tuple) 0 (λ e. absurd (omega arith)) in
    let next = directory (old - length tuple) slots ++ rest in
    (λ i. bytes_high_first 2 (cond (eqb (size i) 0) 0 (end - size i)) ++ (bytes_high_first 2 (length tuple) ++ laid (end - size i) (length slots) next))
    ∙ (λ i. bytes_high_first 2 (cond (some i) 0 (end - length tuple)) ++ (bytes_high_first 2 (length tuple) ++ laid_directory slots (old - length tuple) (end - length tuple) rest are.1 (omega arith) i))

pub lengths_directory : (slots : List Slot) (end : ℕ) (rest : List ℕ) → length (tuples slots) < 65536 → lengths_in (length slots) (directory end slots ++ rest) ≡ length (tuples slots)
unfolding lengths_in directory tuples number_of
lengths_directory [] end rest small = refl
lengths_directory (None ∷ slots) end rest small =
    let long = length-append (tuples slots) [] in
    omega (arith, lengths_directory slots (end - 0) rest (omega arith))
lengths_directory (Some tuple ∷ slots) end rest small =
    let long = length-append (tuples slots) tuple in
    let size : number_of (bytes_high_first 2 (length tuple)) ≡ length tuple = two (length tuple) (omega arith) in
    omega (arith, size, lengths_directory slots (end - length tuple) rest (omega arith))

-- the entry of a slot whose length was written anew

put_length : (end x : ℕ) (slot : Slot) (rest : List ℕ) → put_mid 2 2 (directory_entry end slot ++ rest) (bytes_high_first 2 x) ≡ take 2 (directory_entry end slot) ++ (bytes_high_first 2 x ++ rest)
put_length end x None rest = refl
put_length end x (Some tuple) rest = refl

pub relaid_entry : (end old : ℕ) (slot : Slot) (tuple rest : List ℕ) → length tuple < 65536 → laid_entry end (take 2 (directory_entry old slot) ++ (bytes_high_first 2 (length tuple) ++ rest)) ≡ directory_entry end (slot_with tuple)
unfolding number_of
relaid_entry end old None [] rest small = refl
relaid_entry end old (Some other) [] rest small = refl
relaid_entry end old None (byte ∷ bytes) rest small =
    let size : number_of (bytes_high_first 2 (suc (length bytes))) ≡ suc (length bytes) = two (suc (length bytes)) small in
    let some : eqb (suc (length bytes)) 0 ≡ false = ne_eqb (suc (length bytes)) 0 (λ e. absurd (omega arith)) in
    (λ i. bytes_high_first 2 (cond (eqb (size i) 0) 0 (end - size i)) ++ bytes_high_first 2 (suc (length bytes)))
    ∙ (λ i. bytes_high_first 2 (cond (some i) 0 (end - suc (length bytes))) ++ bytes_high_first 2 (suc (length bytes)))
relaid_entry end old (Some other) (byte ∷ bytes) rest small =
    let size : number_of (bytes_high_first 2 (suc (length bytes))) ≡ suc (length bytes) = two (suc (length bytes)) small in
    let some : eqb (suc (length bytes)) 0 ≡ false = ne_eqb (suc (length bytes)) 0 (λ e. absurd (omega arith)) in
    (λ i. bytes_high_first 2 (cond (eqb (size i) 0) 0 (end - size i)) ++ bytes_high_first 2 (suc (length bytes)))
    ∙ (λ i. bytes_high_first 2 (cond (some i) 0 (end - suc (length bytes))) ++ bytes_high_first 2 (suc (length bytes)))

pub length_relaid : (old : ℕ) (slot : Slot) (tuple rest : List ℕ) → length tuple < 65536 → number_at (take 2 (directory_entry old slot) ++ (bytes_high_first 2 (length tuple) ++ rest)) 2 2 ≡ length tuple
length_relaid old None tuple rest small = two (length tuple) small
length_relaid old (Some other) tuple rest small = two (length tuple) small

pub behind_entry : (end : ℕ) (slot : Slot) (x : ℕ) (rest : List ℕ) → drop 4 (take 2 (directory_entry end slot) ++ (bytes_high_first 2 x ++ rest)) ≡ rest
behind_entry end None x rest = refl
behind_entry end (Some tuple) x rest = refl

-- a write behind a front
pub write_behind : (a k : ℕ) (xs ys zs : List ℕ) → put_mid (length xs + a) k (xs ++ ys) zs ≡ xs ++ put_mid a k ys zs
write_behind a k [] ys zs = let none : 0 + a ≡ a = omega arith in ap (λ (m : ℕ). put_mid m k ys zs) none
write_behind a k (x ∷ xs) ys zs =
    let more : suc (length xs) + a ≡ suc (length xs + a) = omega arith in
    ap (λ (m : ℕ). put_mid m k (x ∷ (xs ++ ys)) zs) more ∙ ap (λ (l : List ℕ). x ∷ l) (write_behind a k xs ys zs)

-- the whole page

-- zeros and tuples behind the directory
abbrev pub area : List Slot → List ℕ
area slots = replicate (8160 - taken slots) 0 ++ tuples slots

-- sizes of a page of which slot n gets another tuple
pub record Sizes (slots : List Slot) (n : ℕ) (tuple : List ℕ) : Type 0 where
  pub end : end_from 8192 n slots ≡ 8192 - length (tuples (take n slots))
  pub all : length (tuples slots) ≡ length (tuples (drop (suc n) slots)) + length (tuple_bytes (get_or slots n None)) + length (tuples (take n slots))
  pub taken_now : taken (set slots n (slot_with tuple)) + length (tuple_bytes (get_or slots n None)) ≡ taken slots + length tuple
  pub front : length (take n slots) ≡ n

pub sizes_of : (slots : List Slot) (n : ℕ) (tuple : List ℕ) → n < length slots → Sizes slots n tuple
unfolding tuples taken
sizes_of slots n tuple below =
    let a = take n slots in
    let s = get_or slots n None in
    let b = drop (suc n) slots in
    let new = slot_with tuple in
    let split = slots_split slots n below in
    let after = set_split slots n new below in
    record {
      end = end_take n slots 8192 (omega arith) ∙ end_all a 8192;
      all = omega (arith, ap length (ap tuples split ∙ tuples-append a (s ∷ b)), length-append (tuples b ++ tuple_bytes s) (tuples a), length-append (tuples b) (tuple_bytes s));
      taken_now = omega (arith, ap taken split, ap taken after, taken-append a (s ∷ b), taken-append a (new ∷ b), ap length (with_bytes tuple));
      front = length-take-le n slots (omega arith);
    }

pub set_fits : (slots : List Slot) (n : ℕ) (tuple : List ℕ) → n < length slots → FitPage slots → length tuple ≤ free_of slots + length (tuple_bytes (get_or slots n None)) → FitPage (set slots n (slot_with tuple))
set_fits slots n tuple below fit room = record {
  are = are_set slots n (slot_with tuple) fit.are (with-is tuple);
  room = omega (arith, fit.room, room, (sizes_of slots n tuple below).taken_now);
}

-- the bytes of a page by the tuples before and behind one
pub page_parts : (kind : ℕ) (slots : List Slot) (n : ℕ) (page : List ℕ) → n < length slots → page ≡ regular_bytes kind slots
    → page ≡ (header kind (length slots) ++ directory 8192 slots) ++ (replicate (8160 - taken slots) 0 ++ (tuples (drop (suc n) slots) ++ (tuple_bytes (get_or slots n None) ++ tuples (take n slots))))
unfolding regular_bytes tuples
page_parts kind slots n page below e =
    let a = take n slots in
    let s = get_or slots n None in
    let b = drop (suc n) slots in
    let parts : tuples slots ≡ tuples b ++ (tuple_bytes s ++ tuples a) = ap tuples (slots_split slots n below) ∙ tuples-append a (s ∷ b) ∙ append_assoc (tuples b) (tuple_bytes s) (tuples a) in
    e
    ∙ ap (λ (l : List ℕ). header kind (length slots) ++ (directory 8192 slots ++ (replicate (8160 - taken slots) 0 ++ l))) parts
    ∙ sym (append_assoc (header kind (length slots)) (directory 8192 slots) (replicate (8160 - taken slots) 0 ++ (tuples b ++ (tuple_bytes s ++ tuples a))))

pub front_long : (kind : ℕ) (slots : List Slot) → length (header kind (length slots) ++ directory 8192 slots) ≡ 32 + 4 * length slots
front_long kind slots = omega (arith, length-append (header kind (length slots)) (directory 8192 slots), length-directory 8192 slots)

-- the tuple in its place, and the directory as it was
pub placed_parts : (kind : ℕ) (slots : List Slot) (n : ℕ) (tuple page : List ℕ) → n < length slots → taken slots ≤ 8160 → length tuple ≤ free_of slots + length (tuple_bytes (get_or slots n None))
    → page ≡ (header kind (length slots) ++ directory 8192 slots) ++ (replicate (8160 - taken slots + length (tuple_bytes (get_or slots n None)) - length tuple) 0 ++ (tuples (drop (suc n) slots) ++ (tuple ++ tuples (take n slots))))
    → page ≡ header kind (length slots) ++ (directory 8192 slots ++ area (set slots n (slot_with tuple)))
unfolding tuples
placed_parts kind slots n tuple page below room fits e =
    let a = take n slots in
    let b = drop (suc n) slots in
    let new = slot_with tuple in
    let sizes = sizes_of slots n tuple below in
    let zeros : 8160 - taken slots + length (tuple_bytes (get_or slots n None)) - length tuple ≡ 8160 - taken (set slots n new) = omega (arith, sizes.taken_now) in
    let parts : tuples (set slots n new) ≡ tuples b ++ (tuple ++ tuples a) =
    ap tuples (set_split slots n new below) ∙ tuples-append a (new ∷ b) ∙ append_assoc (tuples b) (tuple_bytes new) (tuples a) ∙ ap (λ (l : List ℕ). tuples b ++ (l ++ tuples a)) (with_bytes tuple) in
    e
    ∙ (λ i. (header kind (length slots) ++ directory 8192 slots) ++ (replicate (zeros i) 0 ++ sym parts i))
    ∙ append_assoc (header kind (length slots)) (directory 8192 slots) (area (set slots n new))

-- a directory by its slots before and behind one
directory_parts : (slots : List Slot) (n : ℕ) (new : Slot) → n < length slots → directory 8192 (set slots n new) ≡ directory 8192 (take n slots) ++ (directory_entry (end_from 8192 n slots) new ++ directory (end_from 8192 n slots - length (tuple_bytes new)) (drop (suc n) slots))
unfolding directory
directory_parts slots n new below =
    let a = take n slots in
    let b = drop (suc n) slots in
    ap (directory 8192) (set_split slots n new below)
    ∙ directory-append a (new ∷ b) 8192
    ∙ ap (λ (e : ℕ). directory 8192 a ++ (directory_entry e new ++ directory (e - length (tuple_bytes new)) b)) (sym (end_take n slots 8192 (omega arith)))

old_parts : (slots : List Slot) (n : ℕ) → n < length slots → directory 8192 slots ≡ directory 8192 (take n slots) ++ (directory_entry (end_from 8192 n slots) (get_or slots n None) ++ directory (end_from 8192 n slots - length (tuple_bytes (get_or slots n None))) (drop (suc n) slots))
old_parts slots n below = ap (directory 8192) (sym (set-get_or slots n None)) ∙ directory_parts slots n (get_or slots n None) below

has_by : (kind : ℕ) (slots : List Slot) (n : ℕ) (tuple page : List ℕ) → (kind ≡ 5) ⊎ (kind ≡ 6) → FitPage (set slots n (slot_with tuple)) → page ≡ header kind (length slots) ++ (directory 8192 (set slots n (slot_with tuple)) ++ area (set slots n (slot_with tuple))) → HasSlots kind (set slots n (slot_with tuple)) page
unfolding regular_bytes
has_by kind slots n tuple page of fit e =
    let slots_now = set slots n (slot_with tuple) in
    record { of = of; fit = fit; bytes = e ∙ ap (λ (k : ℕ). header kind k ++ (directory 8192 slots_now ++ area slots_now)) (sym (length-set slots n (slot_with tuple))) }

-- a tuple of the length of the one before leaves the directory
pub same_length : (kind : ℕ) (slots : List Slot) (n : ℕ) (tuple page : List ℕ) → n < length slots → (kind ≡ 5) ⊎ (kind ≡ 6) → FitPage slots → length tuple ≤ free_of slots + length (tuple_bytes (get_or slots n None)) → length (tuple_bytes (get_or slots n None)) ≡ length tuple
    → page ≡ header kind (length slots) ++ (directory 8192 slots ++ area (set slots n (slot_with tuple))) → HasSlots kind (set slots n (slot_with tuple)) page
same_length kind slots n tuple page below of fit room same e =
    let s = get_or slots n None in
    let new = slot_with tuple in
    let at = end_from 8192 n slots in
    let b = drop (suc n) slots in
    let long : length (tuple_bytes s) ≡ length (tuple_bytes new) = same ∙ ap length (sym (with_bytes tuple)) in
    let entry = entry_same at s new (are_at slots n fit.are) (with-is tuple) long in
    let whole : directory 8192 slots ≡ directory 8192 (set slots n new) = old_parts slots n below ∙ (λ i. directory 8192 (take n slots) ++ (entry i ++ directory (at - long i) b)) ∙ sym (directory_parts slots n new below) in
    has_by kind slots n tuple page of (set_fits slots n tuple below fit room) (e ∙ ap (λ (l : List ℕ). header kind (length slots) ++ (l ++ area (set slots n new))) whole)

-- the page with the length written anew, by what stands before and behind the slot's entry
pub length_parts : (kind : ℕ) (slots : List Slot) (n at : ℕ) (tuple page new : List ℕ) → n < length slots → at ≡ 32 + n * 4 → page ≡ header kind (length slots) ++ (directory 8192 slots ++ area (set slots n (slot_with tuple))) → new ≡ put_at page (at + 2) 2 (length tuple)
    → new ≡ (header kind (length slots) ++ directory 8192 (take n slots)) ++ ((take 2 (directory_entry (end_from 8192 n slots) (get_or slots n None))) ++ (bytes_high_first 2 (length tuple) ++ (directory (end_from 8192 n slots - length (tuple_bytes (get_or slots n None))) (drop (suc n) slots) ++ area (set slots n (slot_with tuple)))))
length_parts kind slots n at tuple page new below place e put =
    let s = get_or slots n None in
    let end = end_from 8192 n slots in
    let entry = directory_entry end s in
    let others = directory (end - length (tuple_bytes s)) (drop (suc n) slots) in
    let tail = area (set slots n (slot_with tuple)) in
    let front = header kind (length slots) ++ directory 8192 (take n slots) in
    let size = bytes_high_first 2 (length tuple) in
    let long : length front ≡ at = omega (arith, length-append (header kind (length slots)) (directory 8192 (take n slots)), length-directory 8192 (take n slots), length-take-le n slots (omega arith)) in
    let grouped : page ≡ front ++ (entry ++ (others ++ tail)) =
    e
    ∙ ap (λ (l : List ℕ). header kind (length slots) ++ (l ++ tail)) (old_parts slots n below)
    ∙ ap (λ (l : List ℕ). header kind (length slots) ++ l) (append_assoc (directory 8192 (take n slots)) (entry ++ others) tail)
    ∙ sym (append_assoc (header kind (length slots)) (directory 8192 (take n slots)) ((entry ++ others) ++ tail))
    ∙ ap (λ (l : List ℕ). front ++ l) (append_assoc entry others tail) in
    put ∙ put-part page (at + 2) 2 (length tuple)
    ∙ (λ i. put_mid (sym long i + 2) 2 (grouped i) size)
    ∙ write_behind 2 2 front (entry ++ (others ++ tail)) size
    ∙ ap (λ (l : List ℕ). front ++ l) (put_length end (length tuple) s (others ++ tail))

pub relaid : (kind : ℕ) (slots : List Slot) (n at count : ℕ) (tuple page new : List ℕ) → n < length slots → at ≡ 32 + n * 4 → count ≡ length slots → (kind ≡ 5) ⊎ (kind ≡ 6) → FitPage slots → length tuple ≤ free_of slots + length (tuple_bytes (get_or slots n None))
    → page ≡ (header kind (length slots) ++ directory 8192 (take n slots)) ++ ((take 2 (directory_entry (end_from 8192 n slots) (get_or slots n None))) ++ (bytes_high_first 2 (length tuple) ++ (directory (end_from 8192 n slots - length (tuple_bytes (get_or slots n None))) (drop (suc n) slots) ++ area (set slots n (slot_with tuple)))))
    → new ≡ take at page ++ laid (end_from 8192 n slots) (count - n) (drop at page) → HasSlots kind (set slots n (slot_with tuple)) new
unfolding laid
relaid kind slots n at count tuple page new below place counted of fit room e lay =
    let s = get_or slots n None in
    let end = end_from 8192 n slots in
    let b = drop (suc n) slots in
    let others = directory (end - length (tuple_bytes s)) b in
    let fresh = slot_with tuple in
    let tail = area (set slots n fresh) in
    let front = header kind (length slots) ++ directory 8192 (take n slots) in
    let bytes = take 2 (directory_entry end s) ++ (bytes_high_first 2 (length tuple) ++ (others ++ tail)) in
    let sizes = sizes_of slots n tuple below in
    let small : length tuple < 65536 = omega (arith, room, fit.room, taken-is slots, sizes.all) in
    let few : length (tuples b) < 65536 = omega (arith, fit.room, taken-is slots, sizes.all) in
    let long : length front ≡ at = omega (arith, length-append (header kind (length slots)) (directory 8192 (take n slots)), length-directory 8192 (take n slots), sizes.front) in
    let more : count - n ≡ suc (length b) = omega (arith, length-drop (suc n) slots) in
    let size : number_at bytes 2 2 ≡ length tuple = length_relaid end s tuple (others ++ tail) small in
    let behind : drop 4 bytes ≡ others ++ tail = behind_entry end s (length tuple) (others ++ tail) in
    let own : laid end (suc (length b)) bytes ≡ directory_entry end fresh ++ (directory (end - length tuple) b ++ tail) =
    (λ i. relaid_entry end end s tuple (others ++ tail) small i ++ laid (end - size i) (length b) (behind i))
    ∙ ap (λ (l : List ℕ). directory_entry end fresh ++ l) (laid_directory b (end - length (tuple_bytes s)) (end - length tuple) tail (are_drop (suc n) slots fit.are) few) in
    let whole : (header kind (length slots) ++ directory 8192 (take n slots)) ++ (directory_entry end fresh ++ (directory (end - length tuple) b ++ tail)) ≡ header kind (length slots) ++ (directory 8192 (set slots n fresh) ++ tail) =
    append_assoc (header kind (length slots)) (directory 8192 (take n slots)) (directory_entry end fresh ++ (directory (end - length tuple) b ++ tail))
    ∙ ap (λ (l : List ℕ). header kind (length slots) ++ (directory 8192 (take n slots) ++ l)) (sym (append_assoc (directory_entry end fresh) (directory (end - length tuple) b) tail))
    ∙ ap (λ (l : List ℕ). header kind (length slots) ++ l) (sym (append_assoc (directory 8192 (take n slots)) (directory_entry end fresh ++ directory (end - length tuple) b) tail))
    ∙ ap (λ (k : ℕ). header kind (length slots) ++ ((directory 8192 (take n slots) ++ (directory_entry end fresh ++ directory (end - k) b)) ++ tail)) (ap length (sym (with_bytes tuple)))
    ∙ ap (λ (l : List ℕ). header kind (length slots) ++ (l ++ tail)) (sym (directory_parts slots n fresh below)) in
    has_by kind slots n tuple new of (set_fits slots n tuple below fit room)
    (lay
    ∙ (λ i. (ap (take at) e ∙ take_at front bytes at long) i ++ laid end (more i) ((ap (drop at) e ∙ drop_at front bytes at long) i))
    ∙ ap (λ (l : List ℕ). front ++ l) own
    ∙ whole)

-- the lengths from the slot on have room below the end of its tuple
pub lengths_room : (kind : ℕ) (slots : List Slot) (n at count : ℕ) (tuple page : List ℕ) → n < length slots → at ≡ 32 + n * 4 → count ≡ length slots → FitPage slots → length tuple ≤ free_of slots + length (tuple_bytes (get_or slots n None))
    → page ≡ (header kind (length slots) ++ directory 8192 (take n slots)) ++ ((take 2 (directory_entry (end_from 8192 n slots) (get_or slots n None))) ++ (bytes_high_first 2 (length tuple) ++ (directory (end_from 8192 n slots - length (tuple_bytes (get_or slots n None))) (drop (suc n) slots) ++ area (set slots n (slot_with tuple)))))
    → lengths_in (count - n) (drop at page) ≤ end_from 8192 n slots
unfolding lengths_in
lengths_room kind slots n at count tuple page below place counted fit room e =
    let s = get_or slots n None in
    let end = end_from 8192 n slots in
    let b = drop (suc n) slots in
    let others = directory (end - length (tuple_bytes s)) b in
    let tail = area (set slots n (slot_with tuple)) in
    let front = header kind (length slots) ++ directory 8192 (take n slots) in
    let bytes = take 2 (directory_entry end s) ++ (bytes_high_first 2 (length tuple) ++ (others ++ tail)) in
    let sizes = sizes_of slots n tuple below in
    let small : length tuple < 65536 = omega (arith, room, fit.room, taken-is slots, sizes.all) in
    let few : length (tuples b) < 65536 = omega (arith, fit.room, taken-is slots, sizes.all) in
    let long : length front ≡ at = omega (arith, length-append (header kind (length slots)) (directory 8192 (take n slots)), length-directory 8192 (take n slots), sizes.front) in
    let more : count - n ≡ suc (length b) = omega (arith, length-drop (suc n) slots) in
    let size : number_at bytes 2 2 ≡ length tuple = length_relaid end s tuple (others ++ tail) small in
    let behind : drop 4 bytes ≡ others ++ tail = behind_entry end s (length tuple) (others ++ tail) in
    let whole : lengths_in (count - n) (drop at page) ≡ length tuple + length (tuples b) =
    (λ i. lengths_in (more i) ((ap (drop at) e ∙ drop_at front bytes at long) i))
    ∙ (λ i. size i + lengths_in (length b) (behind i))
    ∙ ap (λ (k : ℕ). length tuple + k) (lengths_directory b (end - length (tuple_bytes s)) tail few) in
    omega (arith, whole, sizes.end, sizes.all, fit.room, room, taken-is slots)

-- where the tuple goes

pub record PlaceSizes (slots : List Slot) (n low end size : ℕ) (tuple : List ℕ) : Type 0 where
  pub fits : size ≤ end
  pub order : low ≤ end - size
  pub within : end ≤ 8192
  pub room : length tuple ≤ low + (end - (end - size))

pub place_sizes : (slots : List Slot) (n count low end size : ℕ) (tuple : List ℕ) → n < length slots → FitPage slots → length tuple ≤ free_of slots + length (tuple_bytes (get_or slots n None)) → count ≡ length slots → size ≡ length (tuple_bytes (get_or slots n None)) → end ≡ end_from 8192 n slots → low ≡ end_from 8192 count slots → PlaceSizes slots n low end size tuple
place_sizes slots n count low end size tuple below fit room counted size_is end_is low_is =
    let sizes = sizes_of slots n tuple below in
    let all : low ≡ 8192 - length (tuples slots) = low_is ∙ ap (λ (k : ℕ). end_from 8192 k slots) counted ∙ end_all slots 8192 in
    let last : end ≡ 8192 - length (tuples (take n slots)) = end_is ∙ sizes.end in
    let few = taken-is slots in
    let whole = sizes.all in
    let most = fit.room in
    record { fits = omega arith; order = omega arith; within = omega arith; room = omega arith }

-- what the page is with the tuple in its place
pub slot_placed : (kind : ℕ) (slots : List Slot) (n count low end size : ℕ) (tuple page new : List ℕ) → n < length slots → HasSlots kind slots page → length tuple ≤ free_of slots + length (tuple_bytes (get_or slots n None)) → count ≡ length slots → size ≡ length (tuple_bytes (get_or slots n None)) → end ≡ end_from 8192 n slots → low ≡ end_from 8192 count slots
    → ((front others old behind : List ℕ) (zeros : ℕ) → page ≡ front ++ (replicate zeros 0 ++ (others ++ (old ++ behind))) → length front + zeros ≡ low → low + length others ≡ end - size → end - size + length old ≡ end → length tuple ≤ zeros + length old → new ≡ front ++ (replicate (zeros + length old - length tuple) 0 ++ (others ++ (tuple ++ behind))))
    → new ≡ header kind (length slots) ++ (directory 8192 slots ++ area (set slots n (slot_with tuple)))
slot_placed kind slots n count low end size tuple page new below has room counted size_is end_is low_is placed =
    let sizes = sizes_of slots n tuple below in
    let front = header kind (length slots) ++ directory 8192 slots in
    let all : low ≡ 8192 - length (tuples slots) = low_is ∙ ap (λ (k : ℕ). end_from 8192 k slots) counted ∙ end_all slots 8192 in
    let last : end ≡ 8192 - length (tuples (take n slots)) = end_is ∙ sizes.end in
    let few = taken-is slots in
    let whole = sizes.all in
    let most = has.fit.room in
    let long = front_long kind slots in
    placed_parts kind slots n tuple new below has.fit.room room
    (placed front (tuples (drop (suc n) slots)) (tuple_bytes (get_or slots n None)) (tuples (take n slots)) (8160 - taken slots) (page_parts kind slots n page below has.bytes) (omega arith) (omega arith) (omega arith) (omega arith))
