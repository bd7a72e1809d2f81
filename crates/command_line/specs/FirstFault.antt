-- where words that are no list of declarations go wrong
use Rattle.std.specs.Prelude.{◌≡◌, ℕ, ◌<◌, Bool, List, [], slice_index_or, length, take, Result, Ok, Err, ◌⊎◌}
use Rattle.block_model.specs.declared.schema.Schema.{Schema}
use Rattle.value_text.specs.StopsAt.{StopsAt}
use Rattle.command_line.specs.declared.declarations.DeclFault.{DeclFault}
use Rattle.command_line.specs.declared.declarations.DeclFault.TheVariants as faults
use Rattle.command_line.specs.DeclarationTexts.{bytes_of, IsDeclaration}
use Rattle.command_line.specs.DeclaredSchema.{Declares, DenotesWith}

-- behind the schema no declaration goes on there, or one names there what the schema lacks; `autos` says whether
-- ` autosummarize` is answered
abbrev pub IsFaulty : Bool → Schema → List ℕ → ℕ → Type 0
IsFaulty autos before bytes at = StopsAt bytes_of (IsDeclaration autos) bytes at ⊎ Declares autos bytes before (Err at)

-- the words before that one are declarations, and it is at fault at that byte
pub record IsFirstFault (autos : Bool) (words : List (List ℕ)) (word at : ℕ) : Type 0 where
  pub before : Schema
  pub declared : DenotesWith autos (take word words) before
  pub within : word < length words
  pub faulty : IsFaulty autos before (slice_index_or words word []) at

-- what is answered for words that denote the schema; it may be want of memory
abbrev pub Answers : Schema → Result Schema DeclFault → Type 0
Answers schema (Ok answered) = answered ≡ schema
Answers schema (Err (faults.Form word at)) = ⊥
Answers schema (Err faults.Memory) = Unit {0}
