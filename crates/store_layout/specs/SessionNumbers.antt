-- how sessions get their numbers
use Rattle.std.specs.Prelude.{ℕ, ◌+◌, nat_lt, nat_le, Bool, List, [], ◌∷◌, ◌++◌, length, if◌then◌else◌}
use Rattle.std.specs.Str.{bytes_eq}
use Rattle.store_layout.specs.declared.limits.TheConstants.{MAX_SESSIONS}

-- the number of the first session of that name, where the first of all has number n, and the next number where there is none
abbrev pub session_from : List (List ℕ) → ℕ → List ℕ → ℕ
session_from [] n name = n
session_from (m ∷ ms) n name = if bytes_eq m name then n else session_from ms (n + 1) name

-- the number of a session's name, from 0: the next one, where it is new
abbrev pub session_number : List (List ℕ) → List ℕ → ℕ
session_number names name = session_from names 0 name

-- a session is made by its first line that is read
abbrev pub with_session : List (List ℕ) → List ℕ → List (List ℕ)
with_session names name = if nat_lt (session_number names name) (length names) then names else names ++ name ∷ []

-- the name would be that of a further session
abbrev pub is_past_sessions : List (List ℕ) → List ℕ → Bool
is_past_sessions names name = nat_le MAX_SESSIONS (session_number names name)
