-- the answers to the lines of a script
use Rattle.std.specs.Prelude.{◌≡◌, ℕ, List, [], ◌∷◌}

-- the lines are answered with the texts one after the other, from one state to another
abbrev pub AreAnswers : {S : Type 0} → (S → List ℕ → List ℕ → S → Type 0) → S → List (List ℕ) → List (List ℕ) → S → Type 0
AreAnswers R s [] [] s' = s' ≡ s
AreAnswers R s [] (text ∷ texts) s' = ⊥
AreAnswers R s (line ∷ lines) [] s' = ⊥
AreAnswers {S} R s (line ∷ lines) (text ∷ texts) s' = (t : S) × R s line text t × AreAnswers R t lines texts s'
