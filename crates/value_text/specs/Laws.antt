-- what texts and values are to one another
use Rattle.std.specs.Prelude.{◌≡◌, ℕ, ◌==◌, Bool, true, not, List, Ok}
use Rattle.std.specs.List.{list_all}
use Rattle.block_model.specs.declared.value.Kind.{Kind}
use Rattle.block_model.specs.declared.value.Value.{Value}
use Rattle.value_text.specs.ValueTexts.{ValueText, IsTextOf, bytes_of, Denotes}
use Rattle.value_text.specs.CanonicalTexts.{canonical_text}
use Rattle.block_model.specs.ValuesOfKind.{IsValueOf}

-- no bytes are written in two ways
abbrev pub BytesAreOneText : Type 0
BytesAreOneText = (kind : Kind) (a b : ValueText) → IsTextOf kind a → IsTextOf kind b → bytes_of a ≡ bytes_of b → a ≡ b

-- a value's text denotes it, in its kind
abbrev pub CanonicalTextDenotes : Type 0
CanonicalTextDenotes = (kind : Kind) (value : Value) → IsValueOf kind value → Denotes kind (canonical_text value) (Ok value)

-- no two values of one kind have one text
abbrev pub CanonicalTextIsOwn : Type 0
CanonicalTextIsOwn = (kind : Kind) (a b : Value) → IsValueOf kind a → IsValueOf kind b → canonical_text a ≡ canonical_text b → a ≡ b

-- a value that a text denotes is one of the text's kind
abbrev pub DenotedIsOfKind : Type 0
DenotedIsOfKind = (kind : Kind) (bytes : List ℕ) (value : Value) → Denotes kind bytes (Ok value) → IsValueOf kind value

-- a space
abbrev pub is_space : ℕ → Bool
is_space c = c == 32

-- no text has a space, so spaces part the values of a line
abbrev pub TextHasNoSpace : Type 0
TextHasNoSpace = (kind : Kind) (text : ValueText) → IsTextOf kind text → list_all (λ c. not (is_space c)) (bytes_of text) ≡ true
