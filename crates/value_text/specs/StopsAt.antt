-- where bytes that are no text of a grammar go wrong
use Rattle.std.specs.Prelude.{◌≡◌, ℕ, ◌+◌, ◌<◌, ◌≤◌, List, ◌++◌, length, take}

-- some text begins with the bytes
abbrev pub BeginsText : {A : Type 0} → (A → List ℕ) → (A → Type 0) → List ℕ → Type 0
BeginsText {A} written Is front = (text : A) × (more : List ℕ) × Is text × (written text ≡ front ++ more)

-- the bytes are no text; those before the place begin one, and with the byte there they don't
pub record StopsAt {A : Type 0} (written : A → List ℕ) (Is : A → Type 0) (bytes : List ℕ) (at : ℕ) : Type 0 where
  pub refused : (text : A) → Is text → bytes ≡ written text → ⊥
  pub within : at ≤ length bytes
  pub goes_on : BeginsText written Is (take at bytes)
  pub stops : at < length bytes → BeginsText written Is (take (at + 1) bytes) → ⊥
