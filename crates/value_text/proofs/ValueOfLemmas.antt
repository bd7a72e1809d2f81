-- the value of bytes is the one that they denote
use Rattle.std.proofs.Common.{◌≡◌, ℕ, List, Some, Result, Ok, Err, refl, ap, ◌∙◌}
use Rattle.block_model.specs.declared.value.Kind.{Kind}
use Rattle.block_model.specs.declared.value.Value.{Value}
use Rattle.value_text.specs.ValueTexts.{ValueText, meaning, Denotes}
use Rattle.value_text.specs.Reading.{whole_at}
use Rattle.value_text.specs.ValueOf.{representable, value_read, value_of}
use Rattle.value_text.proofs.ValueReading.{whole_complete, read_is_text}

of_representable : (m : Result Value ℕ) (value : Value) → representable m ≡ Some value → m ≡ Ok value
of_representable (Ok v) value e = cc
of_representable (Err at) value e = cc

denoted : (kind : Kind) (bytes : List ℕ) (value : Value) (read : Result (ValueText × List ℕ) (List ℕ)) → whole_at kind bytes ≡ read
    → value_read read ≡ Some value → Denotes kind bytes (Ok value)
denoted kind bytes value (Ok (text, rest)) is e =
    let t = read_is_text kind bytes text rest is in (text, t.0, t.1, of_representable (meaning text) value e)
denoted kind bytes value (Err rest) is e = cc

pub value_of_denoted : (kind : Kind) (bytes : List ℕ) (value : Value) → value_of kind bytes ≡ Some value → Denotes kind bytes (Ok value)
unfolding value_of
value_of_denoted kind bytes value e = denoted kind bytes value (whole_at kind bytes) refl e

pub denoted_value_of : (kind : Kind) (bytes : List ℕ) (value : Value) → Denotes kind bytes (Ok value) → value_of kind bytes ≡ Some value
unfolding value_of
denoted_value_of kind bytes value (text, is_text, bytes_are, means) =
    ap (λ b. value_read (whole_at kind b)) bytes_are ∙ ap value_read (whole_complete kind text is_text) ∙ ap representable means
