-- what a row of frames reads as, and the frames that are read from one
use Rattle.std.proofs.Common.{◌≡◌, ℕ, ◌+◌, ◌^◌, ◌<◌, ◌≤◌, List, [], ◌∷◌, ◌++◌, length, take, drop, refl, sym, ◌∙◌, ap, subst, arith, append_assoc, length-append, take-append-drop}
use Rattle.std.specs.Int.{bytes_high_first}
use Rattle.std.specs.List.{AllByRecursion}
use Rattle.std.proofs.lemmas.List.{append-nil, take_at, take-take, drop-take}
use Rattle.byte_fields.specs.Fields.{field_at, number_of, number-bytes, bytes-number, length-field, number-fits, AreBytes, AreBytes-drop, AreBytes-take}
use Rattle.log_area.specs.Frames.{LogFrame, FitsFields, frame_bytes, row_of, length_at}
use Rattle.log_area.specs.Opened.{frame_at}

pub length-frame_bytes : (f : LogFrame) → length (frame_bytes f) ≡ 6 + length f.changes
unfolding frame_bytes
length-frame_bytes f = omega (arith, length-append (bytes_high_first 4 (length f.changes) ++ bytes_high_first 2 f.count) f.changes)

-- length, count and changes are read back
pub length_back : (f : LogFrame) (more : List ℕ) → FitsFields f → length_at (frame_bytes f ++ more) ≡ length f.changes
unfolding frame_bytes length_at
length_back f more fits = number-bytes 4 (length f.changes) fits.length

changes_back : (f : LogFrame) (more : List ℕ) → take (length f.changes) (drop 6 (frame_bytes f ++ more)) ≡ f.changes
unfolding frame_bytes
changes_back f more = take_at f.changes more (length f.changes) refl

count_back : (f : LogFrame) (more : List ℕ) → FitsFields f → number_of (field_at (frame_bytes f ++ more) 4 2) ≡ f.count
unfolding frame_bytes
count_back f more fits = number-bytes 2 f.count fits.count

pub frame_back : (f : LogFrame) (more : List ℕ) → FitsFields f → frame_at (frame_bytes f ++ more) ≡ f
unfolding frame_at
frame_back f more fits =
    λ i. record { changes = (ap (λ (n : ℕ). field_at (frame_bytes f ++ more) 6 n) (length_back f more fits) ∙ changes_back f more) i; count = count_back f more fits i }

pub row-push : (fs : List LogFrame) (f : LogFrame) → row_of (fs ++ f ∷ []) ≡ row_of fs ++ 1 ∷ frame_bytes f
row-push [] f = ap (λ (l : List ℕ). 1 ∷ l) (append-nil (frame_bytes f))
row-push (g ∷ fs) f = ap (λ (l : List ℕ). 1 ∷ (frame_bytes g ++ l)) (row-push fs f) ∙ ap (λ (l : List ℕ). 1 ∷ l) (sym (append_assoc (frame_bytes g) (row_of fs) (1 ∷ frame_bytes f)))

pub length-row-push : (fs : List LogFrame) (f : LogFrame) → length (row_of (fs ++ f ∷ [])) ≡ length (row_of fs) + 7 + length f.changes
length-row-push fs f = omega (arith, ap (length {A = ℕ}) (row-push fs f), length-append (row_of fs) (1 ∷ frame_bytes f), length-frame_bytes f)

pub fits_push : (fs : List LogFrame) (f : LogFrame) → AllByRecursion FitsFields fs → FitsFields f → AllByRecursion FitsFields (fs ++ f ∷ [])
fits_push [] f all fits = (fits, tt)
fits_push (g ∷ fs) f all fits = (all.0, fits_push fs f all.1 fits)

pub take_more_part : (n m : ℕ) (l : List ℕ) → take (n + m) l ≡ take n l ++ take m (drop n l)
take_more_part n m l = sym (take-append-drop n (take (n + m) l)) ∙ ap (λ (x : List ℕ). x ++ drop n (take (n + m) l)) (take-take n (n + m) l (omega arith)) ∙ ap (λ (x : List ℕ). take n l ++ x) (drop-take n m l)

-- the bytes of a frame that was read are those that it was read from
pub read_back : (bytes : List ℕ) → AreBytes bytes → 6 + length_at bytes ≤ length bytes → frame_bytes (frame_at bytes) ≡ take (6 + length_at bytes) bytes
unfolding frame_bytes frame_at length_at
read_back bytes small fits =
    let n = number_of (field_at bytes 0 4) in
    let long : length (field_at bytes 6 n) ≡ n = length-field bytes 6 n fits in
    let four : bytes_high_first 4 n ≡ field_at bytes 0 4 =
    ap (λ (k : ℕ). bytes_high_first k n) (sym (length-field bytes 0 4 (omega (arith, fits)))) ∙ bytes-number (field_at bytes 0 4) (AreBytes-take 4 (drop 0 bytes) (AreBytes-drop 0 bytes small)) in
    let two : bytes_high_first 2 (number_of (field_at bytes 4 2)) ≡ field_at bytes 4 2 =
    ap (λ (k : ℕ). bytes_high_first k (number_of (field_at bytes 4 2))) (sym (length-field bytes 4 2 (omega (arith, fits)))) ∙ bytes-number (field_at bytes 4 2) (AreBytes-take 2 (drop 4 bytes) (AreBytes-drop 4 bytes small)) in
    ap (λ (k : ℕ). bytes_high_first 4 k ++ bytes_high_first 2 (number_of (field_at bytes 4 2)) ++ field_at bytes 6 n) long
    ∙ ap (λ (x : List ℕ). x ++ bytes_high_first 2 (number_of (field_at bytes 4 2)) ++ field_at bytes 6 n) four
    ∙ ap (λ (x : List ℕ). take 4 bytes ++ x ++ field_at bytes 6 n) two
    ∙ sym (take_more_part 6 n bytes ∙ ap (λ (x : List ℕ). x ++ take n (drop 6 bytes)) (take_more_part 4 2 bytes))

pub length-changes_at : (bytes : List ℕ) → 6 + length_at bytes ≤ length bytes → length (frame_at bytes).changes ≡ length_at bytes
unfolding frame_at
length-changes_at bytes fits = length-field bytes 6 (length_at bytes) fits

-- a frame that was read fits its fields
pub fits_read : (bytes : List ℕ) → AreBytes bytes → 6 + length_at bytes ≤ length bytes → FitsFields (frame_at bytes)
unfolding frame_at length_at
fits_read bytes small fits =
    let n = number_of (field_at bytes 0 4) in
    record {
      length =
          subst (λ (k : ℕ). k < 256 ^ 4) (sym (length-field bytes 6 n fits))
          (subst (λ (k : ℕ). n < 256 ^ k) (length-field bytes 0 4 (omega (arith, fits))) (number-fits (field_at bytes 0 4) (AreBytes-take 4 (drop 0 bytes) (AreBytes-drop 0 bytes small))));
      count =
          subst (λ (k : ℕ). number_of (field_at bytes 4 2) < 256 ^ k) (length-field bytes 4 2 (omega (arith, fits)))
          (number-fits (field_at bytes 4 2) (AreBytes-take 2 (drop 4 bytes) (AreBytes-drop 4 bytes small)));
    }
