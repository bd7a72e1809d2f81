-- How a text is read from its front, part by part.
use Rattle.std.specs.Prelude.{ℕ, ◌+◌, ◌-◌, ◌*◌, nat_le, ◌==◌, Bool, true, false, ◌&&◌, ◌||◌, if◌then◌else◌, List, [], ◌∷◌, codes, Option, None, Some, Ok, Err}
use Rattle.value_text.specs.TextReading.{Reading, mapped, both, choice, nothing, byte_at, word_at, digits_at, whole}
use Rattle.block_model.specs.Names.{is_digit}
use Rattle.block_model.specs.declared.value.Kind.{Kind}
use Rattle.block_model.specs.declared.value.Kind.TheVariants as kinds
use Rattle.value_text.specs.IntTexts.{NumberText}
use Rattle.value_text.specs.RangeTexts.{BoundText}
use Rattle.value_text.specs.NetTexts.{NetText}
use Rattle.value_text.specs.ValueTexts.{ValueText, Null, Number, NoNumber, Bounds, Address}

-- the byte `-`
abbrev pub is_minus : ℕ → Bool
is_minus c = c == 45

-- an optional `-` and digits
unfoldable pub signed_at : Reading NumberText
signed_at bytes = choice is_minus (mapped (λ x. record { negative = true; digits = x.1 }) (both (byte_at 45) digits_at)) (mapped (λ ds. record { negative = false; digits = ds }) digits_at) bytes

-- a byte that begins a number
abbrev pub is_sign_or_digit : ℕ → Bool
is_sign_or_digit c = is_minus c || is_digit c

-- a number, or nothing
unfoldable pub side_at : Reading (Option NumberText)
side_at bytes = choice is_sign_or_digit (mapped Some signed_at) (nothing None) bytes

-- one bracket, or the other
abbrev pub bracket_at : ℕ → ℕ → Reading Bool
bracket_at square round [] = Err []
bracket_at square round (c ∷ cs) = if c == square then Ok (true, cs) else if c == round then Ok (false, cs) else Err (c ∷ cs)

-- a bracket and an optional number
unfoldable pub lower_at : Reading BoundText
lower_at bytes = mapped (λ x. record { number = x.1; inclusive = x.0 }) (both (bracket_at 91 40) side_at) bytes

-- an optional number and a bracket
unfoldable pub upper_at : Reading BoundText
upper_at bytes = mapped (λ x. record { number = x.0; inclusive = x.1 }) (both side_at (bracket_at 93 41)) bytes

-- both bounds, and `,` between them
unfoldable pub bounds_at : Reading ValueText
bounds_at bytes = mapped (λ x. Bounds x.0 x.1.1) (both lower_at (both (byte_at 44) upper_at)) bytes

-- `empty`, or bounds
abbrev pub range_at : Reading ValueText
range_at bytes = choice (λ c. c == 101) (mapped (λ x. NoNumber) (word_at (codes "empty"))) bounds_at bytes

-- the digits behind the number's, as far as it stays within the limit
abbrev pub grown : ℕ → ℕ → List ℕ → ℕ × List ℕ
grown limit n [] = (n, [])
grown limit n (c ∷ cs) = if is_digit c && nat_le (10 * n + (c - 48)) limit then grown limit (10 * n + (c - 48)) cs else (n, c ∷ cs)

-- a number without leading zeros, as far as it stays within the limit
unfoldable pub decimal_at : ℕ → Reading ℕ
decimal_at limit [] = Err []
decimal_at limit (c ∷ cs) = if c == 48 then Ok (0, cs) else if is_digit c then Ok (grown limit (c - 48) cs) else Err (c ∷ cs)

-- a byte, and a point behind it
unfoldable pub pointed_at : Reading ℕ
pointed_at bytes = mapped (λ x. x.0) (both (decimal_at 255) (byte_at 46)) bytes

-- a prefix behind its `/`, or nothing
unfoldable pub prefix_at : Reading (Option ℕ)
prefix_at bytes = choice (λ c. c == 47) (mapped (λ x. Some x.1) (both (byte_at 47) (decimal_at 32))) (nothing None) bytes

-- the last byte and a prefix
unfoldable pub ending_at : Reading (ℕ × Option ℕ)
ending_at bytes = both (decimal_at 255) prefix_at bytes

-- three bytes with points
unfoldable pub front_at : Reading (ℕ × (ℕ × ℕ))
front_at bytes = both pointed_at (both pointed_at pointed_at) bytes

-- an address of those parts
abbrev pub whole_net : (ℕ × (ℕ × ℕ)) × (ℕ × Option ℕ) → NetText
whole_net x = record { first = x.0.0; second = x.0.1.0; third = x.0.1.1; fourth = x.1.0; prefix = x.1.1 }

-- four bytes, and a prefix or none
unfoldable pub net_at : Reading NetText
net_at bytes = mapped whole_net (both front_at ending_at) bytes

-- a text of the kind that isn't null
abbrev pub kind_at : Kind → Reading ValueText
kind_at kinds.Int bytes = mapped Number signed_at bytes
kind_at kinds.Span bytes = range_at bytes
kind_at kinds.Net bytes = mapped Address net_at bytes

-- `null`, or a text of the kind
abbrev pub text_at : Kind → Reading ValueText
text_at kind bytes = choice (λ c. c == 110) (mapped (λ x. Null) (word_at (codes "null"))) (kind_at kind) bytes

-- all of the bytes
unfoldable pub whole_at : Kind → Reading ValueText
whole_at kind bytes = whole (text_at kind) bytes
