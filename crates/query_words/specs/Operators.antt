-- the operators, as they are written
use Rattle.std.specs.Prelude.{ℕ, List, [], ◌∷◌, codes, Option}
use Rattle.block_model.specs.declared.value.Op.{Op}
use Rattle.block_model.specs.declared.value.Op.TheVariants as ops
use Rattle.query_words.specs.Written.{first_written}

-- how it is written
abbrev pub op_text : Op → List ℕ
op_text ops.Lt = codes "<"
op_text ops.Le = codes "<="
op_text ops.Eq = codes "="
op_text ops.Ge = codes ">="
op_text ops.Gt = codes ">"
op_text ops.Overlaps = codes "&&"
op_text ops.Contains = codes "@>"
op_text ops.Within = codes "<@"
op_text ops.Before = codes "<<"
op_text ops.After = codes ">>"
op_text ops.WithinEq = codes "<<="
op_text ops.ContainsEq = codes ">>="
op_text ops.NotAfter = codes "&<"
op_text ops.NotBefore = codes "&>"
op_text ops.Adjacent = codes "-|-"
op_text ops.IsNull = codes "is null"
op_text ops.NotNull = codes "is not null"

-- the operators that are one word, and compare with a value
abbrev pub comparisons : List Op
comparisons =
    ops.Lt ∷ ops.Le ∷ ops.Eq ∷ ops.Ge ∷ ops.Gt ∷ ops.Overlaps ∷ ops.Contains ∷ ops.Within ∷ ops.Before ∷ ops.After
    ∷ ops.WithinEq ∷ ops.ContainsEq ∷ ops.NotAfter ∷ ops.NotBefore ∷ ops.Adjacent ∷ []

-- the comparison that the word is
abbrev pub op_of : List ℕ → Option Op
op_of word = first_written op_text comparisons word
