-- an area that is read piece by piece, and the frames that are found in it
use Rattle.std.proofs.Common.{◌≡◌, ◌≢◌, ℕ, suc, ◌+◌, ◌<◌, ◌≤◌, List, [], ◌∷◌, ◌++◌, length, take, drop, get_or, refl, sym, ◌∙◌, ap, subst, arith, append_assoc, length-append, take-append-drop}
use Rattle.std.specs.Prelude.{slice_index}
use Rattle.std.specs.List.{AllByRecursion}
use Rattle.std.proofs.lemmas.List.{take_at, drop_at, drop_more, take-take, drop-drop, get_or-take, length-take, length-take-le, length-drop, map-append}
use Rattle.byte_fields.specs.Fields.{field_at, number_of, AreBytes, AreBytes-drop}
use Rattle.log_area.specs.Frames.{LogFrame, FitsFields, HoldsFrames, HasFrameThatPasses, frame_bytes, row_of, length_at}
use Rattle.log_area.specs.Opened.{IsWhole, frame_at, frame_in, frames_in}
use Rattle.log_area.specs.Reading.{Extends, IsFrontOf, PassesAt}
use Rattle.log_area.proofs.Rows.{row-push, fits_push, fits_read, read_back, take_more_part}
use Rattle.log_area.proofs.Standing.{same_at, same_part}

-- the next piece behind a front
pub front_more : (start count : ℕ) (old part contents : List ℕ) → IsFrontOf start old contents → part ≡ take count (drop (start + length old) contents) → length part ≡ count → IsFrontOf start (old ++ part) contents
front_more start count old part contents front is long =
    ap (λ (x : List ℕ). x ++ part) front
    ∙ ap (λ (x : List ℕ). take (length old) (drop start contents) ++ x) (is ∙ ap (take count) (sym (drop-drop (length old) start contents)))
    ∙ sym (take_more_part (length old) count (drop start contents))
    ∙ ap (λ (k : ℕ). take k (drop start contents)) (omega (arith, long, length-append old part))

pub front_read : (start at count : ℕ) (old new contents : List ℕ) → IsFrontOf start old contents → at ≡ start + length old → new ≡ old ++ take count (drop at contents) → IsFrontOf start new contents
front_read start at count old new contents front place is =
    let rest = drop at contents in
    let part = take count rest in
    let n = length part in
    let whole : take n rest ≡ part = ap (take n) (sym (take-append-drop count rest)) ∙ take_at part (drop count rest) n refl in
    subst (λ (x : List ℕ). IsFrontOf start x contents) (sym is)
    (front_more start n old part contents front (sym whole ∙ ap (λ (k : ℕ). take n (drop k contents)) place) refl)

pub extends_all : (a b c : List ℕ) → Extends a b → Extends b c → Extends a c
extends_all a b c one two = (one.0 ++ two.0, two.1 ∙ ap (λ (x : List ℕ). x ++ two.0) one.1 ∙ append_assoc a one.0 two.0)

-- a front of a front
pub take_front : (n : ℕ) (xs ys : List ℕ) → n ≤ length xs → take n (xs ++ ys) ≡ take n xs
take_front n xs ys le = sym (take-take n (length xs) (xs ++ ys) le) ∙ ap (take n) (take_at xs ys (length xs) refl)

drop_front : (n : ℕ) (xs ys : List ℕ) → n ≤ length xs → drop n (xs ++ ys) ≡ drop n xs ++ ys
drop_front n xs ys le =
    ap (λ (x : List ℕ). drop n (x ++ ys)) (sym (take-append-drop n xs))
    ∙ ap (drop n) (append_assoc (take n xs) (drop n xs) ys)
    ∙ drop_at (take n xs) (drop n xs ++ ys) n (length-take-le n xs le)

-- bytes from the front of the area
area_front : (start room : ℕ) (bytes contents : List ℕ) → length bytes ≤ room → IsFrontOf start bytes contents → bytes ≡ take (length bytes) (field_at contents start room)
area_front start room bytes contents le front = front ∙ sym (take-take (length bytes) room (drop start contents) le)

-- the length that a frame names is read from its first bytes
pub length_in_front : (gate : ℕ) (bytes more : List ℕ) → gate + 5 ≤ length bytes → length_at (drop (gate + 1) (bytes ++ more)) ≡ length_at (drop (gate + 1) bytes)
unfolding length_at
length_in_front gate bytes more le = ap number_of (same_part (gate + 1) 4 (bytes ++ more) bytes (take_front (gate + 1 + 4) bytes more (omega (arith, le))))

length_in_area : (gate : ℕ) (bytes area : List ℕ) → gate + 5 ≤ length bytes → bytes ≡ take (length bytes) area → length_at (drop (gate + 1) bytes) ≡ length_at (drop (gate + 1) area)
unfolding length_at
length_in_area gate bytes area le front =
    ap number_of (same_part (gate + 1) 4 bytes area (ap (take (gate + 1 + 4)) front ∙ take-take (gate + 1 + 4) (length bytes) area (omega (arith, le))))

-- a frame that leaves no byte for the next gate
pub passes_short : (start room gate : ℕ) (contents : List ℕ) → room ≤ gate + 7 → PassesAt (field_at contents start room) gate
passes_short start room gate contents short =
    omega (arith, short, length-drop (gate + 1) (field_at contents start room), length-take room (drop start contents))

pub passes_long : (start room gate len : ℕ) (bytes contents : List ℕ) → IsFrontOf start bytes contents → gate + 7 ≤ length bytes → length bytes ≤ room
    → len ≡ length_at (drop (gate + 1) bytes) → room ≤ gate + 7 + len → PassesAt (field_at contents start room) gate
passes_long start room gate len bytes contents front le within is long =
    let same : length_at (drop (gate + 1) bytes) ≡ length_at (drop (gate + 1) (field_at contents start room)) =
    length_in_area gate bytes (field_at contents start room) (omega (arith, le)) (area_front start room bytes contents within front) in
    omega (arith, same, is, long, length-drop (gate + 1) (field_at contents start room), length-take room (drop start contents))

-- a frame stays what it is where more is read
whole_more : (bytes more : List ℕ) (gate : ℕ) → IsWhole bytes gate → IsWhole (bytes ++ more) gate
whole_more bytes more gate whole =
    omega (arith, whole, length_in_front gate bytes more (omega (arith, whole)), length-append bytes more)

pub all_whole_more : (bytes more : List ℕ) (gates : List ℕ) → AllByRecursion (IsWhole bytes) gates → AllByRecursion (IsWhole (bytes ++ more)) gates
all_whole_more bytes more [] all = tt
all_whole_more bytes more (g ∷ gates) all = (whole_more bytes more g all.0, all_whole_more bytes more gates all.1)

all_whole_push : (bytes : List ℕ) (gates : List ℕ) (g : ℕ) → AllByRecursion (IsWhole bytes) gates → IsWhole bytes g → AllByRecursion (IsWhole bytes) (gates ++ g ∷ [])
all_whole_push bytes [] g all whole = (whole, tt)
all_whole_push bytes (h ∷ gates) g all whole = (all.0, all_whole_push bytes gates g all.1 whole)

front_frame : (bytes more : List ℕ) → 6 + length_at bytes ≤ length bytes → frame_at (bytes ++ more) ≡ frame_at bytes
unfolding frame_at length_at
front_frame bytes more le =
    let n = number_of (field_at bytes 0 4) in
    let len : number_of (field_at (bytes ++ more) 0 4) ≡ n = ap number_of (take_front 4 bytes more (omega (arith, le))) in
    let counted : field_at (bytes ++ more) 4 2 ≡ field_at bytes 4 2 = same_part 4 2 (bytes ++ more) bytes (take_front (4 + 2) bytes more (omega (arith, le))) in
    let changed : field_at (bytes ++ more) 6 n ≡ field_at bytes 6 n = same_part 6 n (bytes ++ more) bytes (take_front (6 + n) bytes more le) in
    λ i. record { changes = (ap (λ (k : ℕ). field_at (bytes ++ more) 6 k) len ∙ changed) i; count = number_of (counted i) }

frame_more : (bytes more : List ℕ) (gate : ℕ) → IsWhole bytes gate → frame_in (bytes ++ more) gate ≡ frame_in bytes gate
frame_more bytes more gate whole =
    ap frame_at (drop_front (gate + 1) bytes more (omega (arith, whole)))
    ∙ front_frame (drop (gate + 1) bytes) more (omega (arith, whole, length-drop (gate + 1) bytes))

frames_more : (bytes more : List ℕ) (gates : List ℕ) → AllByRecursion (IsWhole bytes) gates → frames_in (bytes ++ more) gates ≡ frames_in bytes gates
frames_more bytes more [] all = refl
frames_more bytes more (g ∷ gates) all =
    ap (λ (f : LogFrame). f ∷ frames_in (bytes ++ more) gates) (frame_more bytes more g all.0)
    ∙ ap (λ (fs : List LogFrame). frame_in bytes g ∷ fs) (frames_more bytes more gates all.1)

-- what is known of the frames that are read so far, up to the gate at an offset
pub record IsRead (bytes gates : List ℕ) (at : ℕ) : Type 0 where
  pub inside : at < length bytes
  pub row : take at bytes ≡ row_of (frames_in bytes gates)
  pub fields : AllByRecursion FitsFields (frames_in bytes gates)
  pub whole : AllByRecursion (IsWhole bytes) gates

pub none_read : (bytes : List ℕ) → 1 ≤ length bytes → IsRead bytes [] 0
none_read bytes le = record { inside = omega (arith, le); row = refl; fields = tt; whole = tt }

-- one frame more
pub read_more : (bytes more gates : List ℕ) (at next : ℕ) → AreBytes (bytes ++ more) → IsRead bytes gates at → slice_index bytes at ≡ 1
    → next ≡ at + 7 + length_at (drop (at + 1) (bytes ++ more)) → next < length (bytes ++ more) → IsRead (bytes ++ more) (gates ++ at ∷ []) next
read_more bytes more gates at next small r one is inside =
    let all = bytes ++ more in
    let behind = drop (at + 1) all in
    let n = length_at behind in
    let f = frame_at behind in
    let fs = frames_in bytes gates in
    let within : 6 + n ≤ length behind = omega (arith, is, inside, length-drop (at + 1) all) in
    let frames : frames_in all (gates ++ at ∷ []) ≡ fs ++ f ∷ [] = map-append (frame_in all) gates (at ∷ []) ∙ ap (λ (x : List LogFrame). x ++ f ∷ []) (frames_more bytes more gates r.whole) in
    let small_behind : AreBytes behind = AreBytes-drop (at + 1) all small in
    let e : next ≡ at + (1 + (6 + n)) = omega (arith, is) in
    let gate_here : slice_index all at ≡ 1 = same_at (at + 1) all bytes at (omega arith) (take_front (at + 1) bytes more (omega (arith, r.inside))) ∙ one in
    let split : drop at all ≡ 1 ∷ behind = drop_more all at 0 (omega (arith, is, inside)) ∙ ap (λ (g : ℕ). g ∷ behind) gate_here in
    let one_more : 1 + (6 + n) ≡ suc (6 + n) = omega arith in
    let part : take (1 + (6 + n)) (drop at all) ≡ 1 ∷ frame_bytes f =
    ap (take (1 + (6 + n))) split ∙ ap (λ (k : ℕ). take k (1 ∷ behind)) one_more ∙ ap (λ (x : List ℕ). 1 ∷ x) (sym (read_back behind small_behind within)) in
    record {
      inside = inside;
      row =
          ap (λ (k : ℕ). take k all) e
          ∙ take_more_part at (1 + (6 + n)) all
          ∙ ap (λ (x : List ℕ). x ++ take (1 + (6 + n)) (drop at all)) (take_front at bytes more (omega (arith, r.inside)) ∙ r.row)
          ∙ ap (λ (x : List ℕ). row_of fs ++ x) part
          ∙ sym (row-push fs f)
          ∙ ap row_of (sym frames);
      fields = subst (AllByRecursion FitsFields) (sym frames) (fits_push fs f r.fields (fits_read behind small_behind within));
      whole = all_whole_push all gates at (all_whole_more bytes more gates r.whole) (omega (arith, is, inside));
    }

pub read_on : (bytes all gates : List ℕ) (at next : ℕ) → Extends bytes all → AreBytes all → IsRead bytes gates at → slice_index bytes at ≡ 1
    → next ≡ at + 7 + length_at (drop (at + 1) all) → next < length all → IsRead all (gates ++ at ∷ []) next
read_on bytes all gates at next extends small r one is inside =
    subst (λ (b : List ℕ). AreBytes b → next ≡ at + 7 + length_at (drop (at + 1) b) → next < length b → IsRead b (gates ++ at ∷ []) next) (sym extends.1)
    (λ s i n. read_more bytes extends.0 gates at next s r one i n) small is inside

-- the area, cut at the gate
cut : (start room at : ℕ) (bytes gates contents : List ℕ) → IsRead bytes gates at → length bytes ≤ room → IsFrontOf start bytes contents
    → field_at contents start room ≡ row_of (frames_in bytes gates) ++ slice_index bytes at ∷ drop (at + 1) (field_at contents start room)
cut start room at bytes gates contents r within front =
    let area = field_at contents start room in
    let same : bytes ≡ take (length bytes) area = area_front start room bytes contents within front in
    let long : length bytes ≤ length area = omega (arith, ap (length {A = ℕ}) same, length-take (length bytes) area) in
    sym (take-append-drop at area)
    ∙ ap (λ (x : List ℕ). x ++ drop at area) (sym (ap (take at) same ∙ take-take at (length bytes) area (omega (arith, r.inside))) ∙ r.row)
    ∙ ap (λ (x : List ℕ). row_of (frames_in bytes gates) ++ x)
    (drop_more area at 0 (omega (arith, long, r.inside)) ∙ ap (λ (g : ℕ). g ∷ drop (at + 1) area) (sym (ap (λ (l : List ℕ). get_or l at 0) same ∙ get_or-take (length bytes) area at 0 r.inside)))

pub length-read : (bytes gates : List ℕ) (at : ℕ) → IsRead bytes gates at → length (row_of (frames_in bytes gates)) ≡ at
length-read bytes gates at r = ap (length {A = ℕ}) (sym r.row) ∙ length-take-le at bytes (omega (arith, r.inside))

pub holds_read : (start room at : ℕ) (bytes gates contents : List ℕ) → IsRead bytes gates at → length bytes ≤ room → IsFrontOf start bytes contents → slice_index bytes at ≢ 1
    → HoldsFrames (field_at contents start room) (frames_in bytes gates)
holds_read start room at bytes gates contents r within front shut = record {
  gate = slice_index bytes at;
  rest = drop (at + 1) (field_at contents start room);
  bytes = cut start room at bytes gates contents r within front;
  closed = shut;
  fields = r.fields;
}

pub passes_read : (start room at : ℕ) (bytes gates contents : List ℕ) → IsRead bytes gates at → length bytes ≤ room → IsFrontOf start bytes contents → slice_index bytes at ≡ 1
    → PassesAt (field_at contents start room) at → HasFrameThatPasses (field_at contents start room) at
passes_read start room at bytes gates contents r within front one passes = record {
  frames = frames_in bytes gates;
  rest = drop (at + 1) (field_at contents start room);
  bytes = cut start room at bytes gates contents r within front ∙ ap (λ (g : ℕ). row_of (frames_in bytes gates) ++ g ∷ drop (at + 1) (field_at contents start room)) one;
  stands = length-read bytes gates at r;
  passes = passes;
  fields = r.fields;
}
