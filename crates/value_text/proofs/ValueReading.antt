-- The texts of each kind are what is read as them, and other bytes are refused where no text goes on.
use Rattle.std.proofs.Common.{◌≡◌, ℕ, ◌-◌, ◌≤◌, Bool, true, false, ◌==◌, List, [], ◌∷◌, ◌++◌, length, codes, decimal, Result, Ok, Err, Option, refl, sym, ap, ◌∙◌, append_assoc, append-nil, arith}
use Rattle.std.specs.List.{list_all}
use Rattle.std.proofs.lemmas.Bool.{and_parts}
use Rattle.block_model.specs.Names.{is_digit}
use Rattle.block_model.specs.declared.value.Kind.{Kind}
use Rattle.block_model.specs.declared.value.Kind.TheVariants as kinds
use Rattle.value_text.specs.IntTexts.{NumberText, IsNumber, number_bytes}
use Rattle.value_text.specs.RangeTexts.{lower_bytes, upper_bytes, bounds_bytes}
use Rattle.value_text.specs.NetTexts.{NetText, IsNet, prefix_bytes, net_bytes}
use Rattle.value_text.specs.ValueTexts.{ValueText, Null, Number, NoNumber, Bounds, Address, IsTextOf, bytes_of, Answers}
use Rattle.block_model.specs.declared.value.Value.{Value}
use Rattle.value_text.specs.declared.read.TextFault.TheVariants as faults
use Rattle.value_text.specs.ValueStopsAt.{ValueStopsAt}
use Rattle.value_text.specs.TextReading.{mapped, begins, word_at}
use Rattle.value_text.specs.Reading.{signed_at, range_at, net_at, kind_at, text_at, whole_at}
use Rattle.value_text.proofs.Lawful.{Lawful, mapped_lawful, choice_lawful, same_lawful, word_lawful, mapped_read, choice_second}
use Rattle.value_text.specs.Digits.{AreDigits}
use Rattle.value_text.proofs.DigitReading.{other_byte}
use Rattle.value_text.proofs.Whole.{whole_read, one_text as one-whole_text, read_is_text as whole-is_text, refused_is_no_text as whole-is_no_text, refused_leaves as whole-leaves, refused_stops_at as whole-stops_at}
use Rattle.value_text.proofs.NumberReading.{number_lawful, number_complete}
use Rattle.value_text.proofs.RangeReading.{range_lawful, empty_complete, bounds-complete}
use Rattle.value_text.proofs.NetReading.{net_lawful, net_complete}
use Rattle.value_text.proofs.Decimals.{decimal_digits}

pub null_is : (kind : Kind) → IsTextOf kind Null
null_is kinds.Int = tt
null_is kinds.Span = tt
null_is kinds.Net = tt

kind_lawful : (kind : Kind) → Lawful (kind_at kind) bytes_of (IsTextOf kind)
kind_lawful kinds.Int =
    same_lawful (kind_at kinds.Int) (mapped Number signed_at) bytes_of (IsTextOf kinds.Int) (λ bytes. refl)
    (mapped_lawful Number signed_at number_bytes bytes_of IsNumber (IsTextOf kinds.Int) (λ a i. (i, refl)) number_lawful)
kind_lawful kinds.Span = same_lawful (kind_at kinds.Span) range_at bytes_of (IsTextOf kinds.Span) (λ bytes. refl) range_lawful
kind_lawful kinds.Net =
    same_lawful (kind_at kinds.Net) (mapped Address net_at) bytes_of (IsTextOf kinds.Net) (λ bytes. refl)
    (mapped_lawful Address net_at net_bytes bytes_of IsNet (IsTextOf kinds.Net) (λ a i. (i, refl)) net_lawful)

abbrev is_n : ℕ → Bool
is_n c = c == 110

abbrev null_of : Unit {0} → ValueText
null_of x = Null

text_lawful : (kind : Kind) → Lawful (text_at kind) bytes_of (IsTextOf kind)
text_lawful kind =
    choice_lawful is_n (mapped null_of (word_at (codes "null"))) (kind_at kind) bytes_of (IsTextOf kind)
    (mapped_lawful null_of (word_at (codes "null")) (λ x. codes "null") bytes_of (λ x. Unit {0}) (IsTextOf kind) (λ a i. (null_is kind, refl)) (word_lawful (codes "null")))
    (kind_lawful kind)

-- a text of digits doesn't begin as `null` does
digits_begin : (ds rest : List ℕ) → AreDigits ds → begins is_n (ds ++ rest) ≡ false
digits_begin [] rest h = absurd (omega (arith, h.some))
digits_begin (d ∷ ds) rest h = other_byte is_digit 110 d refl (and_parts (is_digit d) (list_all is_digit ds) h.digits).0

number_begins : (b : Bool) (ds : List ℕ) → AreDigits ds → begins is_n (number_bytes (record { negative = b; digits = ds })) ≡ false
number_begins true ds h = refl
number_begins false ds h = ap (begins is_n) (sym (append-nil ds)) ∙ digits_begin ds [] h

bounds_begin : (i : Bool) (side : Option NumberText) (rest : List ℕ) → begins is_n ((lower_bytes (record { number = side; inclusive = i }) ++ codes ",") ++ rest) ≡ false
bounds_begin true side rest = refl
bounds_begin false side rest = refl

net_begins : (n : NetText) → IsNet n → begins is_n (net_bytes n) ≡ false
net_begins n i =
    let grouped : net_bytes n ≡ decimal n.first ++ (codes "." ++ decimal n.second ++ codes "." ++ decimal n.third ++ codes "." ++ decimal n.fourth ++ prefix_bytes n.prefix) = simp append_assoc in
    ap (begins is_n) grouped ∙ digits_begin (decimal n.first) _ (decimal_digits n.first (let h : n.first ≤ 255 = i.first in omega arith))

of_kind : (kind : Kind) (text : ValueText) → begins is_n (bytes_of text) ≡ false → kind_at kind (bytes_of text) ≡ Ok (text, []) → text_at kind (bytes_of text) ≡ Ok (text, [])
of_kind kind text b e = choice_second is_n (mapped null_of (word_at (codes "null"))) (kind_at kind) (bytes_of text) b ∙ e

text_complete : (kind : Kind) (text : ValueText) → IsTextOf kind text → text_at kind (bytes_of text) ≡ Ok (text, [])
text_complete kind Null i = refl
text_complete kinds.Int (Number n) i =
    of_kind kinds.Int (Number n) (number_begins n.negative n.digits (record { some = i.some; digits = i.digits }))
    (mapped_read Number signed_at (number_bytes n) (n, []) (ap signed_at (sym (append-nil (number_bytes n))) ∙ number_complete n [] i refl))
text_complete kinds.Span NoNumber i = of_kind kinds.Span NoNumber refl (empty_complete [])
text_complete kinds.Span (Bounds lower upper) i =
    of_kind kinds.Span (Bounds lower upper) (bounds_begin lower.inclusive lower.number (upper_bytes upper))
    (ap range_at (sym (append-nil (bounds_bytes lower upper))) ∙ bounds-complete lower upper [] i.0 i.1)
text_complete kinds.Net (Address n) i =
    of_kind kinds.Net (Address n) (net_begins n i) (mapped_read Address net_at (net_bytes n) (n, []) (net_complete n i))
text_complete kinds.Int NoNumber i = absurd i
text_complete kinds.Int (Bounds lower upper) i = absurd i
text_complete kinds.Int (Address n) i = absurd i
text_complete kinds.Span (Number n) i = absurd i
text_complete kinds.Span (Address n) i = absurd i
text_complete kinds.Net (Number n) i = absurd i
text_complete kinds.Net NoNumber i = absurd i
text_complete kinds.Net (Bounds lower upper) i = absurd i

-- a text of the kind is read as itself
pub whole_complete : (kind : Kind) (text : ValueText) → IsTextOf kind text → whole_at kind (bytes_of text) ≡ Ok (text, [])
unfolding whole_at
whole_complete kind text i = whole_read (text_at kind) (bytes_of text) text (text_complete kind text i)

-- what the bytes are read as is the only text that they are
pub one_text : (kind : Kind) (a b : ValueText) → IsTextOf kind a → IsTextOf kind b → bytes_of a ≡ bytes_of b → a ≡ b
one_text kind = one-whole_text (text_at kind) bytes_of (IsTextOf kind) (text_lawful kind) (text_complete kind)

-- what is read is a text of the kind, and all of the bytes
pub read_is_text : (kind : Kind) (bytes : List ℕ) (text : ValueText) (rest : List ℕ) → whole_at kind bytes ≡ Ok (text, rest) → IsTextOf kind text × (bytes ≡ bytes_of text)
unfolding whole_at
read_is_text kind = whole-is_text (text_at kind) bytes_of (IsTextOf kind) (text_lawful kind) (text_complete kind)

-- bytes that aren't read are no text of the kind
pub refused_is_no_text : (kind : Kind) (bytes rest : List ℕ) → whole_at kind bytes ≡ Err rest → (text : ValueText) → IsTextOf kind text → bytes ≡ bytes_of text → ⊥
unfolding whole_at
refused_is_no_text kind = whole-is_no_text (text_at kind) bytes_of (IsTextOf kind) (text_lawful kind) (text_complete kind)

-- what is left where no text goes on is no more than there is
pub refused_leaves : (kind : Kind) (bytes rest : List ℕ) → whole_at kind bytes ≡ Err rest → length rest ≤ length bytes
unfolding whole_at
refused_leaves kind = whole-leaves (text_at kind) bytes_of (IsTextOf kind) (text_lawful kind) (text_complete kind)

-- and are refused where no text of the kind goes on
pub refused_stops_at : (kind : Kind) (bytes rest : List ℕ) → whole_at kind bytes ≡ Err rest → (at : ℕ) → at ≡ length bytes - length rest → ValueStopsAt kind bytes at
unfolding whole_at
refused_stops_at kind = whole-stops_at (text_at kind) bytes_of (IsTextOf kind) (text_lawful kind) (text_complete kind)

-- the bytes are written in no other way
pub read_is_only : (kind : Kind) (bytes : List ℕ) (text : ValueText) (rest : List ℕ) → whole_at kind bytes ≡ Ok (text, rest)
    → (written : ValueText) → IsTextOf kind written → bytes ≡ bytes_of written → text ≡ written
read_is_only kind bytes text rest e written i same =
    let t = read_is_text kind bytes text rest e in
    one_text kind text written t.0 i (sym t.1 ∙ same)

-- what is answered for a text that was read
pub answers_value : (m : Result Value ℕ) (value : Value) → m ≡ Ok value → Answers m (Ok value)
answers_value (Ok v) value e = (let k : v ≡ value = cc in ap Ok (sym k))
answers_value (Err at) value e = cc

pub answers_range : (m : Result Value ℕ) (at : ℕ) → m ≡ Err at → Answers m (Err (faults.Range at))
answers_range (Ok v) at e = cc
answers_range (Err place) at e = (let k : place ≡ at = cc in ap (λ n. Err (faults.Range n)) (sym k))
