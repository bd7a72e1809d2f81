-- an image on which a log stands, by its bytes
use Rattle.std.proofs.Common.{◌≡◌, ◌≢◌, inl, inr, ℕ, ◌+◌, ◌-◌, ◌*◌, ◌%◌, ◌<◌, ◌≤◌, List, [], ◌∷◌, ◌++◌, length, take, drop, get_or, refl, sym, ◌∙◌, ap, arith, append_assoc, length-append, take-append-drop}
use Rattle.std.specs.Prelude.{slice_index}
use Rattle.std.specs.List.{AllByRecursion}
use Rattle.std.proofs.lemmas.Bool.{cases_eq}
use Rattle.std.proofs.lemmas.List.{take_at, drop_more, take_more, take-take, drop-drop, drop-take, get_or-take, get_or-drop, get_or_at, length-take, length-take-le, length-drop}
use Rattle.byte_fields.specs.Fields.{field_at}
use Rattle.disk_trait.specs.Torn.{Torn}
use Rattle.log_area.specs.Frames.{LogFrame, FitsFields, frame_bytes, row_of}
use Rattle.log_area.specs.Log.{Log, Stands, SameBeside, area_start, areas_end, chosen_area, gate_of}
use Rattle.log_area.specs.Appended.{grown}
use Rattle.log_area.proofs.Rows.{length-frame_bytes, row-push, length-row-push, fits_push}

-- the image chooses the log's area, whose used part is the row of these frames, with a closed gate behind it
pub record Standing (log : Log) (frames : List LogFrame) (c : List ℕ) : Type 0 where
  pub side : slice_index c 1 % 2 ≡ log.byte % 2
  pub row : take log.used (drop (area_start log.room log.byte) c) ≡ row_of frames
  pub closed : slice_index c (gate_of log) ≢ 1
  pub used : length (row_of frames) ≡ log.used
  pub fields : AllByRecursion FitsFields frames

-- the chosen area lies between the control page and the relations
pub area_low : (log : Log) → 8192 ≤ area_start log.room log.byte
unfolding area_start
area_low log = omega arith

pub area_high : (log : Log) → area_start log.room log.byte + log.room ≤ areas_end log.room
unfolding area_start
area_high log = elim (cases_eq (log.byte % 2) 0) [
  | inl even ↦ let none : log.room * (log.byte % 2) ≡ log.room * 0 = ap (λ (k : ℕ). log.room * k) even in omega (arith, none)
  | inr odd ↦ let one : log.byte % 2 ≡ 1 = omega (arith, odd) in let once : log.room * (log.byte % 2) ≡ log.room * 1 = ap (λ (k : ℕ). log.room * k) one in omega (arith, once)
]

same_start : (log : Log) (b : ℕ) → b % 2 ≡ log.byte % 2 → area_start log.room b ≡ area_start log.room log.byte
unfolding area_start
same_start log b side = ap (λ (k : ℕ). 8192 + log.room * k) side

chosen_is : (log : Log) (c : List ℕ) → slice_index c 1 % 2 ≡ log.byte % 2 → chosen_area log.room c ≡ take log.room (drop (area_start log.room log.byte) c)
chosen_is log c side = ap (λ (k : ℕ). field_at c k log.room) (same_start log (slice_index c 1) side)

-- where the gate of a log that stands lies
pub record IsInside (log : Log) (c : List ℕ) : Type 0 where
  pub room : log.used < log.room
  pub gate : gate_of log < length c

module _ (log : Log) (fs : List LogFrame) (c : List ℕ) where
  abbrev at : ℕ
  at = area_start log.room log.byte

  pub standing_of : Stands log fs c → Standing log fs c × IsInside log c
  standing_of s =
      let area = take log.room (drop at c) in
      let gate = s.holds.gate in
      let whole : area ≡ row_of fs ++ gate ∷ s.holds.rest = sym (chosen_is log c s.side) ∙ s.holds.bytes in
      let long : length area ≡ log.used + (1 + length s.holds.rest) = omega (arith, ap (length {A = ℕ}) whole, length-append (row_of fs) (gate ∷ s.holds.rest), s.used) in
      let room : log.used < log.room = omega (arith, long, length-take log.room (drop at c)) in
      let behind : at + log.used < length c = omega (arith, long, length-take log.room (drop at c), length-drop at c) in
      let found : get_or c (at + log.used) 0 ≡ gate =
      sym (get_or-drop at c log.used 0) ∙ sym (get_or-take log.room (drop at c) log.used 0 room) ∙ ap (λ (l : List ℕ). get_or l log.used 0) whole ∙ get_or_at (row_of fs) gate s.holds.rest 0 log.used s.used in (
        record {
          side = s.side;
          row = sym (take-take log.used log.room (drop at c) (omega (arith, room))) ∙ ap (take log.used) whole ∙ take_at (row_of fs) (gate ∷ s.holds.rest) log.used s.used;
          closed = λ one. s.holds.closed (sym found ∙ one);
          used = s.used;
          fields = s.holds.fields;
        },
        record { room = room; gate = behind },
      )

  pub stands_of : Standing log fs c → IsInside log c → Stands log fs c
  stands_of s inside =
      let area = take log.room (drop at c) in
      let below : log.used < length area = omega (arith, inside.room, inside.gate, length-take log.room (drop at c), length-drop at c) in
      let whole : area ≡ row_of fs ++ slice_index c (gate_of log) ∷ drop (log.used + 1) area =
      sym (take-append-drop log.used area)
      ∙ ap (λ (x : List ℕ). x ++ drop log.used area) (take-take log.used log.room (drop at c) (omega (arith, inside.room)) ∙ s.row)
      ∙ ap (λ (x : List ℕ). row_of fs ++ x) (drop_more area log.used 0 below ∙ ap (λ (g : ℕ). g ∷ drop (log.used + 1) area) (get_or-take log.room (drop at c) log.used 0 inside.room ∙ get_or-drop at c log.used 0)) in
      record {
        side = s.side;
        holds = record { gate = slice_index c (gate_of log); rest = drop (log.used + 1) area; bytes = chosen_is log c s.side ∙ whole; closed = s.closed; fields = s.fields };
        used = s.used;
      }

-- two lists with one front
pub same_at : (n : ℕ) (c d : List ℕ) (i : ℕ) → i < n → take n c ≡ take n d → slice_index c i ≡ slice_index d i
same_at n c d i lt same = sym (get_or-take n c i 0 lt) ∙ ap (λ (x : List ℕ). get_or x i 0) same ∙ get_or-take n d i 0 lt

pub same_less : (n m : ℕ) (c d : List ℕ) → m ≤ n → take n c ≡ take n d → take m c ≡ take m d
same_less n m c d le same = sym (take-take m n c le) ∙ ap (take m) same ∙ take-take m n d le

pub same_part : (at n : ℕ) (c d : List ℕ) → take (at + n) c ≡ take (at + n) d → take n (drop at c) ≡ take n (drop at d)
same_part at n c d same = sym (drop-take at n c) ∙ ap (drop at) same ∙ drop-take at n d

-- a front, one element and what follows
parts : (n m : ℕ) (l : List ℕ) → n < length l → take (n + 1 + m) l ≡ take n l ++ get_or l n 0 ∷ take m (drop (n + 1) l)
parts n m l lt =
    let whole : l ≡ (take n l ++ get_or l n 0 ∷ []) ++ drop (n + 1) l =
    sym (take-append-drop n l) ∙ ap (λ (x : List ℕ). take n l ++ x) (drop_more l n 0 lt) ∙ sym (append_assoc (take n l) (get_or l n 0 ∷ []) (drop (n + 1) l)) in
    let long : length (take n l ++ get_or l n 0 ∷ []) ≡ n + 1 = omega (arith, length-append (take n l) (get_or l n 0 ∷ []), length-take-le n l (omega arith)) in
    sym (take-append-drop (n + 1) (take (n + 1 + m) l))
    ∙ ap (λ (x : List ℕ). x ++ drop (n + 1) (take (n + 1 + m) l)) (take-take (n + 1) (n + 1 + m) l (omega arith) ∙ take_more l n 0 lt)
    ∙ ap (λ (x : List ℕ). (take n l ++ get_or l n 0 ∷ []) ++ x) (drop-take (n + 1) m l)
    ∙ append_assoc (take n l) (get_or l n 0 ∷ []) (take m (drop (n + 1) l))

-- the same up to the gate, and a closed gate
pub kept : (log : Log) (fs : List LogFrame) (d c : List ℕ) → take (gate_of log) c ≡ take (gate_of log) d → slice_index c (gate_of log) ≢ 1 → Standing log fs d → Standing log fs c
kept log fs d c same shut s = record {
  side = ap (λ (b : ℕ). b % 2) (same_at (gate_of log) c d 1 (omega (arith, area_low log)) same) ∙ s.side;
  row = same_part (area_start log.room log.byte) log.used c d same ∙ s.row;
  closed = shut;
  used = s.used;
  fields = s.fields;
}

-- bytes behind the gate are torn
pub torn_behind : (log : Log) (fs : List LogFrame) (n : ℕ) (d c : List ℕ) → Torn (gate_of log + 1) n d c → Standing log fs d → Standing log fs c
torn_behind log fs n d c torn s =
    kept log fs d c (same_less (gate_of log + 1) (gate_of log) c d (omega arith) torn.before)
    (λ is. s.closed (sym (same_at (gate_of log + 1) c d (gate_of log) (omega arith) torn.before) ∙ is)) s

-- the gate is open, with the new frame and a closed gate behind it
pub opened : (log : Log) (fs : List LogFrame) (f : LogFrame) (d c : List ℕ) → gate_of log < length c → FitsFields f
    → take (gate_of log) c ≡ take (gate_of log) d → slice_index c (gate_of log) ≡ 1
    → take (length f.changes + 7) (drop (gate_of log + 1) c) ≡ frame_bytes f ++ 0 ∷ []
    → Standing log fs d → Standing (grown log f) (fs ++ f ∷ []) c
opened log fs f d c long fits same is behind s = record {
  side = ap (λ (b : ℕ). b % 2) (same_at (gate_of log) c d 1 (omega (arith, area_low log)) same) ∙ s.side;
  row =
      ap (λ (k : ℕ). take k (drop at c)) (omega arith)
      ∙ parts log.used (6 + n) (drop at c) (omega (arith, long, length-drop at c))
      ∙ ap (λ (x : List ℕ). x ++ get_or (drop at c) log.used 0 ∷ take (6 + n) (drop (log.used + 1) (drop at c))) (same_part at log.used c d same ∙ s.row)
      ∙ ap (λ (g : ℕ). row_of fs ++ g ∷ take (6 + n) (drop (log.used + 1) (drop at c))) (get_or-drop at c log.used 0 ∙ is)
      ∙ ap (λ (x : List ℕ). row_of fs ++ 1 ∷ take (6 + n) x) (drop-drop (log.used + 1) at c ∙ ap (λ (k : ℕ). drop k c) (omega arith))
      ∙ ap (λ (x : List ℕ). row_of fs ++ 1 ∷ x) inner
      ∙ sym (row-push fs f);
  closed = λ one. absurd (omega (arith, sym last ∙ one));
  used = length-row-push fs f ∙ ap (λ (k : ℕ). k + 7 + n) s.used;
  fields = fits_push fs f s.fields fits;
}
  where
    at : ℕ
    at = area_start log.room log.byte

    n : ℕ
    n = length f.changes

    inner : take (6 + n) (drop (gate_of log + 1) c) ≡ frame_bytes f
    inner = sym (take-take (6 + n) (n + 7) (drop (gate_of log + 1) c) (omega arith)) ∙ ap (take (6 + n)) behind ∙ take_at (frame_bytes f) (0 ∷ []) (6 + n) (length-frame_bytes f)

    last : slice_index c (gate_of (grown log f)) ≡ 0
    last =
        ap (λ (k : ℕ). get_or c k 0) (omega arith)
        ∙ sym (get_or-drop (gate_of log + 1) c (6 + n) 0)
        ∙ sym (get_or-take (n + 7) (drop (gate_of log + 1) c) (6 + n) 0 (omega arith))
        ∙ ap (λ (x : List ℕ). get_or x (6 + n) 0) behind
        ∙ get_or_at (frame_bytes f) 0 [] 0 (6 + n) (length-frame_bytes f)

-- a write within the areas
pub beside_torn : (room at n : ℕ) (d c : List ℕ) → 8192 ≤ at → at + n ≤ areas_end room → Torn at n d c → SameBeside room d c
beside_torn room at n d c low high torn = record {
  length = torn.length;
  gate = same_less at 1 c d (omega (arith, low)) torn.before;
  control = same_part 2 (8192 - 2) c d (same_less at (2 + (8192 - 2)) c d (omega (arith, low)) torn.before);
  pages = same_rest (at + n) (areas_end room) c d high torn.after;
}
  where
    same_rest : (n m : ℕ) (c d : List ℕ) → n ≤ m → drop n c ≡ drop n d → drop m c ≡ drop m d
    same_rest n m c d le same = ap (λ (k : ℕ). drop k c) (omega (arith, le)) ∙ sym (drop-drop (m - n) n c) ∙ ap (drop (m - n)) same ∙ drop-drop (m - n) n d ∙ ap (λ (k : ℕ). drop k d) (omega (arith, le))

pub beside_all : (room : ℕ) (d e c : List ℕ) → SameBeside room d e → SameBeside room e c → SameBeside room d c
beside_all room d e c one two = record {
  length = two.length ∙ one.length;
  gate = two.gate ∙ one.gate;
  control = two.control ∙ one.control;
  pages = two.pages ∙ one.pages;
}

pub beside_same : (room : ℕ) (c : List ℕ) → SameBeside room c c
beside_same room c = record { length = refl; gate = refl; control = refl; pages = refl }
