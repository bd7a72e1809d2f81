-- words that stand for something
use Rattle.std.specs.Prelude.{ℕ, List, [], ◌∷◌, Option, None, Some, if◌then◌else◌}
use Rattle.std.specs.Str.{bytes_eq}

-- the first of some things, each with its text, that is written as the word
abbrev pub first_written : {A : Type 0} → (A → List ℕ) → List A → List ℕ → Option A
first_written text [] word = None
first_written text (one ∷ rest) word = if bytes_eq word (text one) then Some one else first_written text rest word
