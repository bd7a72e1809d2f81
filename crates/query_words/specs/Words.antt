-- the words of a line, and where they stand in it
use Rattle.std.specs.Prelude.{ℕ, ◌+◌, ◌==◌, List, [], ◌∷◌, ◌++◌, length, map, slice_get, Option, None, Some, if◌then◌else◌}

-- a word, and the byte of the line at which it begins
pub record PlacedWord : Type 0 where
  pub text : List ℕ
  pub at : ℕ

abbrev pub placed : List ℕ → ℕ → PlacedWord
placed text at = record { text = text; at = at }

-- a word that has ended, where there is one
abbrev pub ended : ℕ → List ℕ → List PlacedWord → List PlacedWord
ended at [] words = words
ended at (c ∷ cs) words = placed (c ∷ cs) at ∷ words

-- the words of the word so far, which begins at that byte, and of the bytes behind it: spaces part words
abbrev pub words_from : ℕ → List ℕ → List ℕ → List PlacedWord
words_from at word [] = ended at word []
words_from at word (c ∷ cs) =
    if c == 32 then ended at word (words_from (at + length word + 1) [] cs) else words_from at (word ++ c ∷ []) cs

-- what stands between the spaces of a line, each word with its place
abbrev pub words_of : List ℕ → List PlacedWord
words_of line = words_from 0 [] line

-- the words without their places
abbrev pub texts_of : List PlacedWord → List (List ℕ)
texts_of words = map (λ w. w.text) words

-- where a word begins, or the length of the line where it is missing
abbrev pub place_or : ℕ → Option PlacedWord → ℕ
place_or length None = length
place_or length (Some word) = word.at

-- where the word of that number begins, counted from 0
abbrev pub place_of : List ℕ → ℕ → ℕ
place_of line n = place_or (length line) (slice_get (words_of line) n)
