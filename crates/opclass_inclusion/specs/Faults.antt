-- where bytes of a form of so many go wrong
use Rattle.std.specs.Prelude.{◌≡◌, ◌<◌, ℕ, nat_lt, ◌==◌, min, if◌then◌else◌, Option, None, Some, Result, Ok, Err, MatchResult}
use Rattle.opclass_inclusion.specs.declared.fields.Field.{Field}

-- The place, from the first field that is out of form and where each field ends: where the bytes end before that field does,
-- it is their end. Where all fields are in form, too few bytes go wrong at their end, and too many behind the form.
abbrev pub placed : ℕ → ℕ → (ℕ → ℕ) → Option ℕ → Option ℕ
placed size whole end None = if size == whole then None else Some (min size whole)
placed size whole end (Some at) = Some (if nat_lt size (end at) then size else at)

-- a field that is out of form, by where the first such field begins and where each field ends
pub record IsFault (fault : Option ℕ) (end : ℕ → ℕ) (field : Field) : Type 0 where
  pub begins : fault ≡ Some field.at
  pub ends : field.end ≡ end field.at
  pub has_bytes : field.at < field.end

-- an answer that tells the first field out of form, if there is one
abbrev pub IsFirstFault : {S : Type 0} → Option ℕ → (ℕ → ℕ) → Result S Field → Type 0
IsFirstFault fault end answer = MatchResult answer (λ s. fault ≡ None) (IsFault fault end)

-- what was read, where there is no fault
abbrev pub read_unless : {S : Type 0} → Option ℕ → S → Result S ℕ
read_unless None s = Ok s
read_unless (Some at) s = Err at
