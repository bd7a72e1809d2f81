-- an area is walked in one way
use Rattle.std.proofs.Common.{◌≡◌, ◌≢◌, ℕ, zero, suc, ◌+◌, ◌≤◌, List, [], ◌∷◌, ◌++◌, length, refl, sym, ◌∙◌, ap, arith, append_assoc, length-append}
use Rattle.std.specs.Prelude.{cond, ◌==◌, Result, Ok, Err}
use Rattle.std.specs.List.{AllByRecursion}
use Rattle.std.proofs.lemmas.Bool.Decides.{nat_tests}
use Rattle.log_area.specs.Frames.{LogFrame, FitsFields, HoldsFrames, HasFrameThatPasses, frame_bytes, row_of, length_at}
use Rattle.log_area.specs.Opened.{frame_at}
use Rattle.log_area.specs.OpensInOneWay.{OpensInOneWay}
use Rattle.log_area.proofs.Rows.{length-frame_bytes, length_back, frame_back}

abbrev with_front : LogFrame → Result (List LogFrame) ℕ → Result (List LogFrame) ℕ
with_front f (Ok fs) = Ok (f ∷ fs)
with_front f (Err k) = Err k

abbrev passed : ℕ → Result (List LogFrame) ℕ
passed k = Err k

-- the frames from an offset on, behind so many bytes that belong to the frame of the gate; or that gate, where the area ends
abbrev walk : ℕ → ℕ → ℕ → List ℕ → Result (List LogFrame) ℕ
walk gate at skip [] = Err gate
walk gate at zero (b ∷ bytes) = cond (b == 1) (with_front (frame_at bytes) (walk at (suc at) (6 + length_at bytes) bytes)) (Ok [])
walk gate at (suc n) (b ∷ bytes) = walk gate (suc at) n bytes

skipped : (gate at : ℕ) (xs ys : List ℕ) → walk gate at (length xs) (xs ++ ys) ≡ walk gate (at + length xs) 0 ys
skipped gate at [] ys = ap (λ (k : ℕ). walk gate k 0 ys) (omega arith)
skipped gate at (x ∷ xs) ys = skipped gate (suc at) xs ys ∙ ap (λ (k : ℕ). walk gate k 0 ys) (omega arith)

skip_past : (gate at n : ℕ) (bytes : List ℕ) → length bytes ≤ n → walk gate at n bytes ≡ Err gate
skip_past gate at zero [] le = refl
skip_past gate at zero (b ∷ bytes) le = absurd (omega (arith, le))
skip_past gate at (suc n) [] le = refl
skip_past gate at (suc n) (b ∷ bytes) le = skip_past gate (suc at) n bytes (omega (arith, le))

closed_here : (gate at g : ℕ) (rest : List ℕ) → g ≢ 1 → walk gate at 0 (g ∷ rest) ≡ Ok []
closed_here gate at g rest shut = grind (arith, nat_tests)

-- the walk over one frame
over_frame : (gate at : ℕ) (f : LogFrame) (row more : List ℕ) → FitsFields f
    → walk gate at 0 (1 ∷ ((frame_bytes f ++ row) ++ more)) ≡ with_front f (walk at (at + 7 + length f.changes) 0 (row ++ more))
over_frame gate at f row more fits =
    let rest = row ++ more in
    let bytes = frame_bytes f ++ rest in
    let skip : walk at (suc at) (6 + length_at bytes) bytes ≡ walk at (at + 7 + length f.changes) 0 rest =
    ap (λ (n : ℕ). walk at (suc at) n bytes) (ap (λ (n : ℕ). 6 + n) (length_back f rest fits) ∙ sym (length-frame_bytes f))
    ∙ skipped at (suc at) (frame_bytes f) rest
    ∙ ap (λ (k : ℕ). walk at k 0 rest) (omega (arith, length-frame_bytes f)) in
    ap (λ (l : List ℕ). walk gate at 0 (1 ∷ l)) (append_assoc (frame_bytes f) row more)
    ∙ ap (with_front (frame_at bytes)) skip
    ∙ ap (λ (g : LogFrame). with_front g (walk at (at + 7 + length f.changes) 0 rest)) (frame_back f rest fits)

walk_holds : (gate at : ℕ) (fs : List LogFrame) (g : ℕ) (rest : List ℕ) → AllByRecursion FitsFields fs → g ≢ 1 → walk gate at 0 (row_of fs ++ g ∷ rest) ≡ Ok fs
walk_holds gate at [] g rest fits shut = closed_here gate at g rest shut
walk_holds gate at (f ∷ fs) g rest fits shut =
    over_frame gate at f (row_of fs) (g ∷ rest) fits.0 ∙ ap (with_front f) (walk_holds at (at + 7 + length f.changes) fs g rest fits.1 shut)

walk_passes : (gate at : ℕ) (fs : List LogFrame) (rest : List ℕ) → AllByRecursion FitsFields fs → length rest ≤ 6 + length_at rest → walk gate at 0 (row_of fs ++ 1 ∷ rest) ≡ Err (at + length (row_of fs))
walk_passes gate at [] rest fits passes = ap (with_front (frame_at rest)) (skip_past at (suc at) (6 + length_at rest) rest passes) ∙ ap passed (omega arith)
walk_passes gate at (f ∷ fs) rest fits passes =
    over_frame gate at f (row_of fs) (1 ∷ rest) fits.0
    ∙ ap (with_front f) (walk_passes at (at + 7 + length f.changes) fs rest fits.1 passes)
    ∙ ap passed (omega (arith, length-append (frame_bytes f) (row_of fs), length-frame_bytes f))

-- what a walk found
abbrev found : Result (List LogFrame) ℕ → List LogFrame
found (Ok fs) = fs
found (Err k) = []

abbrev stopped : Result (List LogFrame) ℕ → ℕ
stopped (Ok fs) = 0
stopped (Err k) = suc k

holds_one : (area : List ℕ) (fs : List LogFrame) → HoldsFrames area fs → walk 0 0 0 area ≡ Ok fs
holds_one area fs h = ap (walk 0 0 0) h.bytes ∙ walk_holds 0 0 fs h.gate h.rest h.fields h.closed

passes_one : (area : List ℕ) (k : ℕ) → HasFrameThatPasses area k → walk 0 0 0 area ≡ Err k
passes_one area k h = ap (walk 0 0 0) h.bytes ∙ walk_passes 0 0 h.frames h.rest h.fields h.passes ∙ ap passed (omega (arith, h.stands))

pub one_way : (area : List ℕ) → OpensInOneWay area
one_way area = record {
  frames = λ some others a b. ap found (sym (holds_one area some a) ∙ holds_one area others b);
  offset = λ one other a b. (let e : suc one ≡ suc other = ap stopped (sym (passes_one area one a) ∙ passes_one area other b) in omega (arith, e));
  apart = λ fs k a b. (let e : 0 ≡ suc k = ap stopped (sym (holds_one area fs a) ∙ passes_one area k b) in absurd (omega (arith, e)));
}
