-- the lines of a script
use Rattle.std.specs.Prelude.{◌≡◌, refl, true, false, ℕ, ◌==◌, List, [], ◌∷◌, ◌++◌, take, if◌then◌else◌}
use Rattle.std.proofs.Common.{ap, eqb, cond}
use Rattle.script_run.specs.declared.cursor.TheConstants.{KEPT}

-- a line as it is handed out: its first bytes, as many as are kept
unfoldable pub clip : List ℕ → List ℕ
clip line = take KEPT line

-- the lines that a line feed ends, the first of which goes on from the line so far
abbrev pub ended_from : List ℕ → List ℕ → List (List ℕ)
ended_from line [] = []
ended_from line (b ∷ bs) = if b == 10 then clip line ∷ ended_from [] bs else ended_from (line ++ b ∷ []) bs

-- what stands behind the last line feed
abbrev pub rest_from : List ℕ → List ℕ → List ℕ
rest_from line [] = line
rest_from line (b ∷ bs) = if b == 10 then rest_from [] bs else rest_from (line ++ b ∷ []) bs

-- a last line without a line feed is one only where it isn't empty
abbrev pub last_line : List ℕ → List (List ℕ)
last_line [] = []
last_line (b ∷ bs) = (b ∷ bs) ∷ []

-- the lines of a script that a line feed ends
abbrev pub ended_lines : List ℕ → List (List ℕ)
ended_lines script = ended_from [] script

-- the front of what stands behind them
abbrev pub rest_line : List ℕ → List ℕ
rest_line script = clip (rest_from [] script)

-- the lines of a script
abbrev pub script_lines : List ℕ → List (List ℕ)
script_lines script = ended_lines script ++ last_line (rest_line script)

-- bytes behind bytes
pub ended_append : (line xs ys : List ℕ) → ended_from line (xs ++ ys) ≡ ended_from line xs ++ ended_from (rest_from line xs) ys
ended_append line [] ys = refl
ended_append line (b ∷ xs) ys =
    let next = ended_append [] xs ys in
    let same = ended_append (line ++ b ∷ []) xs ys in
    elim (eqb b 10) as (λ c. cond c (clip line ∷ ended_from [] (xs ++ ys)) (ended_from (line ++ b ∷ []) (xs ++ ys))
    ≡ cond c (clip line ∷ ended_from [] xs) (ended_from (line ++ b ∷ []) xs) ++ ended_from (cond c (rest_from [] xs) (rest_from (line ++ b ∷ []) xs)) ys) [
      | true ↦ ap (λ ls. clip line ∷ ls) next
      | false ↦ same
    ]

pub rest_append : (line xs ys : List ℕ) → rest_from line (xs ++ ys) ≡ rest_from (rest_from line xs) ys
rest_append line [] ys = refl
rest_append line (b ∷ xs) ys =
    let next = rest_append [] xs ys in
    let same = rest_append (line ++ b ∷ []) xs ys in
    elim (eqb b 10) as (λ c. cond c (rest_from [] (xs ++ ys)) (rest_from (line ++ b ∷ []) (xs ++ ys)) ≡ rest_from (cond c (rest_from [] xs) (rest_from (line ++ b ∷ []) xs)) ys) [ true ↦ next | false ↦ same ]
