-- the values that words are
use Rattle.std.specs.Prelude.{ℕ, Bool, ◌||◌, List}
use Rattle.std.specs.Option.{is_some}
use Rattle.block_model.specs.declared.value.Kind.TheVariants as kinds
use Rattle.value_text.specs.ValueOf.{value_of}

-- a text of some kind whose value is representable
abbrev pub is_value_word : List ℕ → Bool
is_value_word word = is_some (value_of kinds.Int word) || is_some (value_of kinds.Span word) || is_some (value_of kinds.Net word)
