-- the parts of a printed line
use Rattle.std.proofs.Common.{◌≡◌, ℕ, List, [], ◌∷◌, refl}
use Rattle.block_model.specs.declared.value.Value.{Value}
use Rattle.block_model.specs.declared.value.Op.{Op}
use Rattle.block_model.specs.declared.value.Op.TheVariants as ops
use Rattle.value_text.specs.CanonicalTexts.{canonical_text}
use Rattle.query_words.specs.Operators.{op_text}
use Rattle.query_words.specs.Grammar.{words_of_cond}
use Rattle.query_words.specs.LineTexts.{test_of}

pub compared_words : (column : List ℕ) (op : Op) (key : Value) → (op ≡ ops.IsNull → ⊥) → (op ≡ ops.NotNull → ⊥)
    → words_of_cond (test_of column op key) ≡ column ∷ op_text op ∷ canonical_text key ∷ []
compared_words column ops.Lt key a b = refl
compared_words column ops.Le key a b = refl
compared_words column ops.Eq key a b = refl
compared_words column ops.Ge key a b = refl
compared_words column ops.Gt key a b = refl
compared_words column ops.Overlaps key a b = refl
compared_words column ops.Contains key a b = refl
compared_words column ops.Within key a b = refl
compared_words column ops.Before key a b = refl
compared_words column ops.After key a b = refl
compared_words column ops.WithinEq key a b = refl
compared_words column ops.ContainsEq key a b = refl
compared_words column ops.NotAfter key a b = refl
compared_words column ops.NotBefore key a b = refl
compared_words column ops.Adjacent key a b = refl
compared_words column ops.IsNull key a b = absurd (a refl)
compared_words column ops.NotNull key a b = absurd (b refl)
