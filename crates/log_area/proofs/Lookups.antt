-- the frame of a number
use Rattle.std.proofs.Common.{◌≡◌, ℕ, zero, suc, ◌<◌, List, [], ◌∷◌, length, map, get_or, refl, ap, arith}
use Rattle.std.specs.Prelude.{Some, slice_get}
use Rattle.std.specs.List.{AllByRecursion}
use Rattle.log_area.specs.Frames.{LogFrame}

pub length-frames : (f : ℕ → LogFrame) (gates : List ℕ) → length (map f gates) ≡ length gates
length-frames f [] = refl
length-frames f (g ∷ gates) = ap suc (length-frames f gates)

pub frame_get : (f : ℕ → LogFrame) (gates : List ℕ) (i : ℕ) → i < length gates → slice_get (map f gates) i ≡ Some (f (get_or gates i 0))
frame_get f [] i lt = absurd (omega (arith, lt))
frame_get f (g ∷ gates) zero lt = refl
frame_get f (g ∷ gates) (suc i) lt = frame_get f gates i (omega (arith, lt))

pub all_at : (P : ℕ → Type 0) (gates : List ℕ) (i : ℕ) → i < length gates → AllByRecursion P gates → P (get_or gates i 0)
all_at P [] i lt all = absurd (omega (arith, lt))
all_at P (g ∷ gates) zero lt all = all.0
all_at P (g ∷ gates) (suc i) lt all = all_at P gates i (omega (arith, lt)) all.1

-- what stands at a place is no default
pub same_default : (xs : List ℕ) (i d e : ℕ) → i < length xs → get_or xs i d ≡ get_or xs i e
same_default [] i d e lt = absurd (omega (arith, lt))
same_default (x ∷ xs) zero d e lt = refl
same_default (x ∷ xs) (suc i) d e lt = same_default xs i d e (omega (arith, lt))
