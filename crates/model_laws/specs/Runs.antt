-- what a run over a journal did
use Rattle.std.specs.Prelude.{◌≡◌, ℕ, Bool, true, false, List, length, take, map, slice_get, MatchOption}
use Rattle.block_model.specs.declared.request.Entry.{Entry}
use Rattle.block_model.specs.DatabaseState.{DatabaseState}
use Rattle.block_model.specs.RequestEffect.{is_legal_request}
use Rattle.block_model.specs.SerialRun.{serial_run, replies_to, is_legal}
use Rattle.model_laws.specs.declared.model.Answered.{Answered}
use Rattle.model_laws.specs.declared.model.End.{End}
use Rattle.model_laws.specs.declared.model.End.TheVariants.{Done, Illegal, OutOfNumbers}
use Rattle.model_laws.specs.Answers.{answer_of}
use Rattle.model_laws.specs.Numbers.{has_number}

-- there is a request at the place, and it fails the test
abbrev pub Fails : (Entry → Bool) → List Entry → ℕ → Type 0
Fails test journal at = MatchOption (slice_get journal at) ⊥ (λ e. test e ≡ false)

-- why it ended at that place, in that state
abbrev pub EndsBy : End → DatabaseState → List Entry → ℕ → Type 0
EndsBy Done s journal at = at ≡ length journal
EndsBy Illegal s journal at = Fails (is_legal_request s) journal at
EndsBy OutOfNumbers s journal at = Fails (has_number s) journal at

-- The first requests of the journal, as many as were answered, are legal, and state and answers are theirs.
pub record HasRun (old new : DatabaseState) (journal : List Entry) (answers : List Answered) (end : End) : Type 0 where
  pub legal : is_legal old (take (length answers) journal) ≡ true
  pub state : new ≡ serial_run old (take (length answers) journal)
  pub answered : map answer_of answers ≡ replies_to old (take (length answers) journal)
  pub ended : EndsBy end new journal (length answers)

-- the state is that after some of the first requests
abbrev pub HasBegunRun : DatabaseState → DatabaseState → List Entry → Type 0
HasBegunRun old new journal = (n : ℕ) × (new ≡ serial_run old (take n journal))
