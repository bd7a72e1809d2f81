-- How a text is read from its front, part by part.
use Rattle.std.specs.Prelude.{◌≡◌, ℕ, ◌==◌, Bool, false, if◌then◌else◌, List, [], ◌∷◌, Result, Ok, Err}
use Rattle.std.specs.Borrow.{Bor}
use Rattle.block_model.specs.Names.{is_digit}

-- what stands at the front of bytes, and what is left behind it, or what is left where no text goes on
abbrev pub Reading : Type 0 → Type 0
Reading A = List ℕ → Result (A × List ℕ) (List ℕ)

-- what was read, handed to the next
infixl 10 ◌>>=◌
abbrev pub ◌>>=◌ : {A B : Type 0} → Result A (List ℕ) → (A → Result B (List ℕ)) → Result B (List ℕ)
(Ok x) >>= f = f x
(Err rest) >>= f = Err rest

-- what a function returned, seen by view, is what reading gives
abbrev pub Gives : {X Y : Type 0} → (X → Y) → Result X (Bor (List ℕ)) → Result Y (List ℕ) → Type 0
Gives view (Ok x) read = read ≡ Ok (view x)
Gives view (Err rest) read = read ≡ Err rest.now

-- what is read through a function
abbrev pub mapped : {A B : Type 0} → (A → B) → Reading A → Reading B
mapped f read bytes = read bytes >>= λ x. Ok (f x.0, x.1)

-- one thing, and another behind it
abbrev pub both : {A B : Type 0} → Reading A → Reading B → Reading (A × B)
both first second bytes = first bytes >>= λ x. second x.1 >>= λ y. Ok ((x.0, y.0), y.1)

-- there is a first byte, and it passes the test
abbrev pub begins : (ℕ → Bool) → List ℕ → Bool
begins test [] = false
begins test (c ∷ cs) = test c

-- one reading or another, by the first byte
abbrev pub choice : {A : Type 0} → (ℕ → Bool) → Reading A → Reading A → Reading A
choice test one other bytes = if begins test bytes then one bytes else other bytes

-- nothing, which is this
abbrev pub nothing : {A : Type 0} → A → Reading A
nothing a bytes = Ok (a, bytes)

-- the end of the text
abbrev pub end_at : Reading (Unit {0})
end_at [] = Ok (tt, [])
end_at (c ∷ cs) = Err (c ∷ cs)

-- one byte, which is this
abbrev pub byte_at : ℕ → Reading (Unit {0})
byte_at b [] = Err []
byte_at b (c ∷ cs) = if c == b then Ok (tt, cs) else Err (c ∷ cs)

-- the bytes of a word
abbrev pub word_at : List ℕ → Reading (Unit {0})
word_at [] bytes = Ok (tt, bytes)
word_at (w ∷ ws) bytes = byte_at w bytes >>= λ x. word_at ws x.1

-- one byte more in front of what was split off
abbrev pub with_first : ℕ → List ℕ × List ℕ → List ℕ × List ℕ
with_first c split = (c ∷ split.0, split.1)

-- the digits at the front, and what is behind them
abbrev pub split_digits : List ℕ → List ℕ × List ℕ
split_digits [] = ([], [])
split_digits (c ∷ cs) = if is_digit c then with_first c (split_digits cs) else ([], c ∷ cs)

-- one or more digits, as many as there are
unfoldable pub digits_at : Reading (List ℕ)
digits_at bytes = if begins is_digit bytes then Ok (split_digits bytes) else Err bytes

-- what stands at the front, where it is all of the bytes
abbrev pub whole : {A : Type 0} → Reading A → Reading A
whole read bytes = mapped (λ x. x.0) (both read end_at) bytes
