-- what words and schemas are to one another, whether ` autosummarize` is answered or not
use Rattle.std.specs.Prelude.{◌≡◌, ℕ, Bool, List}
use Rattle.block_model.specs.declared.schema.Schema.{Schema}
use Rattle.command_line.specs.DeclarationTexts.{DeclarationText, bytes_of, IsDeclaration}
use Rattle.command_line.specs.DeclaredSchema.{DenotesWith}
use Rattle.command_line.specs.FirstFault.{IsFirstFault}

-- no bytes declare two things
abbrev pub BytesAreOneDeclaration : Type 0
BytesAreOneDeclaration = (autos : Bool) (a b : DeclarationText) → IsDeclaration autos a → IsDeclaration autos b → bytes_of a ≡ bytes_of b → a ≡ b

-- no words denote two schemas
abbrev pub WordsDenoteOneSchema : Type 0
WordsDenoteOneSchema = (autos : Bool) (words : List (List ℕ)) (a b : Schema) → DenotesWith autos words a → DenotesWith autos words b → a ≡ b

-- words with a fault denote no schema
abbrev pub FaultyWordsDenoteNothing : Type 0
FaultyWordsDenoteNothing = (autos : Bool) (words : List (List ℕ)) (word at : ℕ) → IsFirstFault autos words word at → (schema : Schema) → DenotesWith autos words schema → ⊥

-- no words have two first faults
abbrev pub FirstFaultIsOne : Type 0
FirstFaultIsOne = (autos : Bool) (words : List (List ℕ)) (word at other place : ℕ) → IsFirstFault autos words word at → IsFirstFault autos words other place → (word ≡ other) × (at ≡ place)
