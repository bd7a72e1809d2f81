-- calls that are counted, and which of them are to fail
use Rattle.std.specs.Prelude.{◌≡◌, ℕ, ◌+◌, ◌-◌, ◌^◌, ◌≤◌, ◌⊎◌, min, List, Contains, IsSomeAnd, MatchResult, Some, None, Ok, Err}
use Rattle.std.specs.declared.option.Option.{Option}
use Rattle.std.specs.declared.result.Result.{Result}

-- one more, up to the greatest u64
abbrev pub one_more : ℕ → ℕ
one_more count = min (count + 1) (2 ^ 64 - 1)

-- a count rises by one where a call fails, and else stays
abbrev pub CountsFault : {T E : Type 0} → ℕ → ℕ → Result T E → Type 0
CountsFault before now result = MatchResult result (λ _. now ≡ before) (λ _. now ≡ one_more before)

-- which calls are to fail, by their numbers from 1, and from which number on all are; how many were made, and how many failed
pub record CallCounts : Type 0 where
  pub fails : List ℕ
  pub stop : Option ℕ
  pub made : ℕ
  pub faults : ℕ

-- before the first call
abbrev pub fresh : List ℕ → CallCounts
fresh fails = record { fails = fails; stop = None; made = 0; faults = 0 }

-- a call of this number is to fail
abbrev pub FailsAt : List ℕ → Option ℕ → ℕ → Type 0
FailsAt fails stop number = Contains fails number ⊎ IsSomeAnd stop (λ first. first ≤ number)

-- the next call is to fail
abbrev pub FailsNext : CallCounts → Type 0
FailsNext calls = FailsAt calls.fails calls.stop (calls.made + 1)

-- the counts after a call that succeeded
abbrev pub succeeded : CallCounts → CallCounts
succeeded calls = record calls { made = one_more calls.made }

-- the counts after a call that failed
abbrev pub failed : CallCounts → CallCounts
failed calls = record calls { made = one_more calls.made; faults = one_more calls.faults }

-- the counts after a call
abbrev pub after_call : {T E : Type 0} → CallCounts → Result T E → CallCounts
after_call calls (Ok x) = succeeded calls
after_call calls (Err e) = failed calls

-- the first of the numbers from which on all calls fail
abbrev pub first_stop : Option ℕ → ℕ → ℕ
first_stop None call = call
first_stop (Some earlier) call = min earlier call
