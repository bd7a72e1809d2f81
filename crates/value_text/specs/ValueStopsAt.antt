-- where bytes that are no text of a kind go wrong
use Rattle.std.specs.Prelude.{ℕ, List}
use Rattle.block_model.specs.declared.value.Kind.{Kind}
use Rattle.value_text.specs.StopsAt.{StopsAt}
use Rattle.value_text.specs.ValueTexts.{IsTextOf, bytes_of}

-- the bytes are no text of the kind; those before the place begin one, and with the byte there they don't
abbrev pub ValueStopsAt : Kind → List ℕ → ℕ → Type 0
ValueStopsAt kind bytes at = StopsAt bytes_of (IsTextOf kind) bytes at
