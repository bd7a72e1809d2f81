-- where bytes that encode no tuple go wrong before the summaries: the first field that can't stand behind the fields before it
use Rattle.std.specs.Prelude.{ℕ, zero, suc, ◌+◌, ◌*◌, ◌-◌, ◌/◌, ◌==◌, min, nat_lt, Bool, true, false, not, ◌||◌, ◌&&◌, if◌then◌else◌, List, length, take, drop, slice_index, Option, None, Some}
use Rattle.std.specs.List.{list_all}
use Rattle.byte_fields.specs.Fields.{field_at, number_of}

abbrev pub earlier : Option ℕ → Bool → ℕ → Option ℕ
earlier (Some k) passes n = Some k
earlier None true n = Some n
earlier None false n = None

-- the first number below a bound that passes a test
abbrev pub first : (ℕ → Bool) → ℕ → Option ℕ
first test zero = None
first test (suc n) = earlier (first test n) (test n) n

abbrev pub is_zero : ℕ → Bool
is_zero n = n == 0

-- bit 1 of the flags
abbrev pub says_empty : List ℕ → Bool
says_empty bytes = nat_lt 1 (slice_index bytes 4)

-- the states stand behind the range and the flags
abbrev pub state_at : List ℕ → ℕ → ℕ
state_at bytes k = slice_index bytes (5 + k)

-- the lengths stand behind the states
abbrev pub length_at : ℕ → List ℕ → ℕ → ℕ
length_at count bytes k = number_of (field_at bytes (5 + count + 2 * k) 2)

-- so many first states are 0
abbrev pub are_nothing : List ℕ → ℕ → Bool
are_nothing bytes n = list_all is_zero (take n (drop 5 bytes))

-- no state has the number, or it is one with the empty flag, or all are 0 without it
abbrev pub is_wrong : ℕ → Bool → Bool → Bool
is_wrong state empty all_nothing = nat_lt 3 state || (if empty then nat_lt 0 state else all_nothing)

unfoldable pub state_is_wrong : ℕ → List ℕ → ℕ → Bool
state_is_wrong count bytes k = is_wrong (state_at bytes k) (says_empty bytes) (are_nothing bytes (k + 1) && (k + 1 == count))

-- the length is 0 in a state with values, or not in one without
abbrev pub is_wrong_length : ℕ → ℕ → Bool
is_wrong_length state size = if nat_lt 1 state then is_zero size else not (is_zero size)

unfoldable pub length_is_wrong : ℕ → List ℕ → ℕ → Bool
length_is_wrong count bytes k = is_wrong_length (state_at bytes k) (length_at count bytes k)

-- the bytes end before so many
abbrev pub missing : ℕ → List ℕ → Option ℕ
missing size bytes = if nat_lt (length bytes) size then Some (length bytes) else None

abbrev pub wrong_flags : List ℕ → Option ℕ
wrong_flags bytes = if nat_lt 3 (slice_index bytes 4) then Some 4 else None

abbrev pub place_of : ℕ → ℕ → Option ℕ → Option ℕ
place_of from width None = None
place_of from width (Some k) = Some (from + width * k)

-- the first of the states that are there
unfoldable pub wrong_state : ℕ → List ℕ → Option ℕ
wrong_state count bytes = place_of 5 1 (first (state_is_wrong count bytes) (min count (length bytes - 5)))

-- the first of the lengths that are there whole
unfoldable pub wrong_length : ℕ → List ℕ → Option ℕ
wrong_length count bytes = place_of (5 + count) 2 (first (length_is_wrong count bytes) (min count ((length bytes - (5 + count)) / 2)))

abbrev pub in_turn : Option ℕ → Option ℕ → Option ℕ
in_turn (Some at) next = Some at
in_turn None next = next

-- of a tuple with so many columns: the flags, the states, the lengths, each where bytes are there, else the end of the bytes
unfoldable pub head_fault : ℕ → List ℕ → Option ℕ
head_fault count bytes =
    in_turn (missing 5 bytes) (in_turn (wrong_flags bytes)
    (in_turn (wrong_state count bytes) (in_turn (missing (5 + count) bytes)
    (in_turn (wrong_length count bytes) (missing (5 + 3 * count) bytes)))))
