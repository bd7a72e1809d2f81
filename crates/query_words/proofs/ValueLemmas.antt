-- what read_value answers is the value of the bytes
use Rattle.std.proofs.Common.{◌≡◌, ℕ, List, Option, None, Some, Result, Ok, Err, refl, sym, subst}
use Rattle.block_model.specs.declared.value.Kind.{Kind}
use Rattle.block_model.specs.declared.value.Value.{Value}
use Rattle.value_text.specs.declared.read.TextFault.{TextFault}
use Rattle.value_text.specs.ValueTexts.{ValueText, IsTextOf, bytes_of, meaning, Denotes, Answers}
use Rattle.value_text.specs.ValueOf.{value_of, ValueOfIsDenoted}

pub value-read : ValueOfIsDenoted → (kind : Kind) (word : List ℕ) (value : Value) → Denotes kind word (Ok value) → Some value ≡ value_of kind word
value-read law kind word value denotes = sym ((law kind word value).1 denotes)

refused_by : (kind : Kind) (word : List ℕ) (value : Value) (fault : TextFault) → Denotes kind word (Ok value)
    → ((written : ValueText) → IsTextOf kind written → word ≡ bytes_of written → Answers (meaning written) (Err fault)) → ⊥
refused_by kind word value fault (text, is_text, bytes_are, means) only =
    let answer : Answers (meaning text) (Err fault) = only text is_text bytes_are in
    let told : Answers (Ok value) (Err fault) = subst (λ (m : Result Value ℕ). Answers m (Err fault)) means answer in cc

none_by : (o : Option Value) → ((value : Value) → o ≡ Some value → ⊥) → None ≡ o
none_by None h = refl
none_by (Some value) h = absurd (h value refl)

pub value_refused : ValueOfIsDenoted → (kind : Kind) (word : List ℕ) (fault : TextFault)
    → ((written : ValueText) → IsTextOf kind written → word ≡ bytes_of written → Answers (meaning written) (Err fault)) → None ≡ value_of kind word
value_refused law kind word fault only =
    none_by (value_of kind word) (λ value is. refused_by kind word value fault ((law kind word value).0 is) only)
