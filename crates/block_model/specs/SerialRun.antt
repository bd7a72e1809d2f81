-- a journal of requests, applied one after the other
use Rattle.std.specs.Prelude.{◌≡◌, ℕ, Bool, true, ◌&&◌, List, [], ◌∷◌, ◌++◌, refl}
use Rattle.std.proofs.Common.{ap, ◌∙◌}
use Rattle.block_model.specs.declared.request.Entry.{Entry}
use Rattle.block_model.specs.DatabaseState.{DatabaseState}
use Rattle.block_model.specs.RequestEffect.{Answer, after_request, reply_to, is_legal_request}

-- the state after the journal
abbrev pub serial_run : DatabaseState → List Entry → DatabaseState
serial_run s [] = s
serial_run s (e ∷ es) = serial_run (after_request s e) es

-- the answers to its requests, in order
abbrev pub replies_to : DatabaseState → List Entry → List Answer
replies_to s [] = []
replies_to s (e ∷ es) = reply_to s e ∷ replies_to (after_request s e) es

-- each request is legal where it comes
abbrev pub is_legal : DatabaseState → List Entry → Bool
is_legal s [] = true
is_legal s (e ∷ es) = is_legal_request s e && is_legal (after_request s e) es

abbrev pub IsLegal : DatabaseState → List Entry → Type 0
IsLegal s journal = is_legal s journal ≡ true

-- a journal may be run in two parts
pub serial_run-append : (s : DatabaseState) (first second : List Entry) → serial_run s (first ++ second) ≡ serial_run (serial_run s first) second
serial_run-append s [] second = refl
serial_run-append s (e ∷ es) second = serial_run-append (after_request s e) es second

pub replies_to-append : (s : DatabaseState) (first second : List Entry) → replies_to s (first ++ second) ≡ replies_to s first ++ replies_to (serial_run s first) second
replies_to-append s [] second = refl
replies_to-append s (e ∷ es) second = ap (λ l. reply_to s e ∷ l) (replies_to-append (after_request s e) es second)

pub is_legal-append : (s : DatabaseState) (first second : List Entry) → is_legal s (first ++ second) ≡ (is_legal s first && is_legal (serial_run s first) second)
is_legal-append s [] second = refl
is_legal-append s (e ∷ es) second = ap (λ b. is_legal_request s e && b) (is_legal-append (after_request s e) es second) ∙ and_regroup (is_legal_request s e) (is_legal (after_request s e) es) _
  where
    and_regroup : (a b c : Bool) → (a && (b && c)) ≡ ((a && b) && c)
    and_regroup true b c = refl
    and_regroup Rattle.std.specs.Prelude.false b c = refl
