-- Indexed columns and their classes are what is read as them.
use Rattle.std.proofs.Common.{◌≡◌, ℕ, Bool, false, ◌==◌, ◌≤◌, List, [], ◌∷◌, ◌++◌, length, codes, None, Ok, refl, ap, ◌∙◌, append_assoc}
use Rattle.value_text.specs.Digits.{AreDigits}
use Rattle.value_text.specs.TextReading.{mapped, both, begins, choice, byte_at, word_at, digits_at}
use Rattle.value_text.proofs.Lawful.{left, Lawful, both_lawful, mapped_lawful, choice_lawful, same_lawful, byte_lawful, word_lawful, word_complete, both_read, mapped_read}
use Rattle.value_text.proofs.DigitReading.{one_digit, digits_lawful, digits_complete}
use Rattle.command_line.specs.DeclarationTexts.{setting_bytes, ClassText, MinMax, Multi, Inclusion, Bloom, class_bytes, PartText, part_bytes, parts_bytes, IsNamed, IsSetting, IsClass, IsPart, AreListed}
use Rattle.command_line.specs.DeclarationReading.{name_at, setting_at, m_class_at, bloom_at, other_class_at, class_at, part_at, parts_at}
use Rattle.command_line.proofs.NameReading.{one_letter, name_lawful, name_complete}
use Rattle.command_line.proofs.SettingReading.{Setting, setting_lawful, EndsSetting, comma_ends, setting_complete}
use Rattle.command_line.proofs.FrontReading.{lawful_leaves}
use Rattle.command_line.proofs.MoreItems.{is_comma}
use Rattle.command_line.proofs.ListReading.{listed_lawful, listed_complete}

abbrev is_u : ℕ → Bool
is_u c = c == 117

abbrev is_b : ℕ → Bool
is_b c = c == 98

abbrev is_m : ℕ → Bool
is_m c = c == 109

abbrev minmax_of : Unit {0} → ClassText
minmax_of x = MinMax

abbrev multi_of : Unit {0} × Setting → ClassText
multi_of x = Multi x.1

abbrev inclusion_of : Unit {0} → ClassText
inclusion_of x = Inclusion

abbrev bloom_of : Unit {0} × (List ℕ × (Unit {0} × List ℕ)) → ClassText
bloom_of x = Bloom x.1.0 x.1.1.1

abbrev class_behind : Unit {0} × ClassText → ClassText
class_behind x = x.1

-- a class that begins with an `m`
abbrev IsMClass : ClassText → Type 0
IsMClass MinMax = Unit {0}
IsMClass (Multi limit) = IsSetting limit
IsMClass Inclusion = ⊥
IsMClass (Bloom bits hashes) = ⊥

-- what stands behind it
abbrev behind_m : ClassText → List ℕ
behind_m MinMax = codes "inmax"
behind_m (Multi limit) = codes "ulti" ++ setting_bytes (codes " ") limit
behind_m Inclusion = []
behind_m (Bloom bits hashes) = []

m_class_lawful : Lawful m_class_at behind_m IsMClass
unfolding m_class_at
m_class_lawful =
    same_lawful m_class_at (choice is_u (mapped multi_of (both (word_at (codes "ulti")) (setting_at (codes " ")))) (mapped minmax_of (word_at (codes "inmax")))) behind_m IsMClass (λ bytes. refl)
    (choice_lawful is_u (mapped multi_of (both (word_at (codes "ulti")) (setting_at (codes " ")))) (mapped minmax_of (word_at (codes "inmax"))) behind_m IsMClass
    (mapped_lawful multi_of (both (word_at (codes "ulti")) (setting_at (codes " "))) (λ x. codes "ulti" ++ setting_bytes (codes " ") x.1) behind_m (λ x. Unit {0} × IsSetting x.1) IsMClass (λ a i. (i.1, refl))
    (both_lawful (word_at (codes "ulti")) (setting_at (codes " ")) (λ x. codes "ulti") (setting_bytes (codes " ")) (λ x. Unit {0}) IsSetting None tt (word_lawful (codes "ulti")) (setting_lawful (codes " "))))
    (mapped_lawful minmax_of (word_at (codes "inmax")) (λ x. codes "inmax") behind_m (λ x. Unit {0}) IsMClass (λ a i. (tt, refl)) (word_lawful (codes "inmax"))))

m_class_is : (c : ClassText) → IsMClass c → IsClass c × (class_bytes c ≡ (109 ∷ []) ++ behind_m c)
m_class_is MinMax i = (tt, refl)
m_class_is (Multi limit) i = (i, refl)
m_class_is Inclusion i = absurd i
m_class_is (Bloom bits hashes) i = absurd i

-- the bytes of a bloom class, one part behind another
bloom_grouped : (bits hashes : List ℕ) → class_bytes (Bloom bits hashes) ≡ codes "bloom " ++ (bits ++ ((32 ∷ []) ++ hashes))
bloom_grouped bits hashes = append_assoc (codes "bloom " ++ bits) (codes " ") hashes ∙ append_assoc (codes "bloom ") bits (codes " " ++ hashes)

bloom_lawful : Lawful bloom_at class_bytes IsClass
unfolding bloom_at
bloom_lawful =
    same_lawful bloom_at (mapped bloom_of (both (word_at (codes "bloom ")) (both digits_at (both (byte_at 32) digits_at)))) class_bytes IsClass (λ bytes. refl)
    (mapped_lawful bloom_of (both (word_at (codes "bloom ")) (both digits_at (both (byte_at 32) digits_at))) (λ x. codes "bloom " ++ (x.1.0 ++ ((32 ∷ []) ++ x.1.1.1))) class_bytes
    (λ x. Unit {0} × (AreDigits x.1.0 × (Unit {0} × AreDigits x.1.1.1))) IsClass (λ a i. ((i.1.0, i.1.1.1), bloom_grouped a.1.0 a.1.1.1))
    (both_lawful (word_at (codes "bloom ")) (both digits_at (both (byte_at 32) digits_at)) (λ x. codes "bloom ") (λ x. x.0 ++ ((32 ∷ []) ++ x.1.1)) (λ x. Unit {0}) (λ x. AreDigits x.0 × (Unit {0} × AreDigits x.1.1))
    (48 ∷ [], (tt, 48 ∷ [])) (one_digit, (tt, one_digit)) (word_lawful (codes "bloom "))
    (both_lawful digits_at (both (byte_at 32) digits_at) (λ ds. ds) (λ x. (32 ∷ []) ++ x.1) AreDigits (λ x. Unit {0} × AreDigits x.1) (tt, 48 ∷ []) (tt, one_digit) digits_lawful
    (both_lawful (byte_at 32) digits_at (λ x. 32 ∷ []) (λ ds. ds) (λ x. Unit {0}) AreDigits (48 ∷ []) one_digit (byte_lawful 32) digits_lawful))))

other_class_lawful : Lawful other_class_at class_bytes IsClass
unfolding other_class_at
other_class_lawful =
    same_lawful other_class_at (choice is_b bloom_at (mapped inclusion_of (word_at (codes "inclusion")))) class_bytes IsClass (λ bytes. refl)
    (choice_lawful is_b bloom_at (mapped inclusion_of (word_at (codes "inclusion"))) class_bytes IsClass bloom_lawful
    (mapped_lawful inclusion_of (word_at (codes "inclusion")) (λ x. codes "inclusion") class_bytes (λ x. Unit {0}) IsClass (λ a i. (tt, refl)) (word_lawful (codes "inclusion"))))

class_lawful : Lawful class_at class_bytes IsClass
unfolding class_at
class_lawful =
    same_lawful class_at (choice is_m (mapped class_behind (both (byte_at 109) m_class_at)) other_class_at) class_bytes IsClass (λ bytes. refl)
    (choice_lawful is_m (mapped class_behind (both (byte_at 109) m_class_at)) other_class_at class_bytes IsClass
    (mapped_lawful class_behind (both (byte_at 109) m_class_at) (λ x. (109 ∷ []) ++ behind_m x.1) class_bytes (λ x. Unit {0} × IsMClass x.1) IsClass (λ a i. m_class_is a.1 i.1)
    (both_lawful (byte_at 109) m_class_at (λ x. 109 ∷ []) behind_m (λ x. Unit {0}) IsMClass MinMax tt (byte_lawful 109) m_class_lawful))
    other_class_lawful)

abbrev part_of : List ℕ × (Unit {0} × ClassText) → PartText
part_of x = record { column = x.0; class = x.1.1 }

pub part_lawful : Lawful part_at part_bytes IsPart
unfolding part_at
part_lawful =
    same_lawful part_at (mapped part_of (both name_at (both (byte_at 32) class_at))) part_bytes IsPart (λ bytes. refl)
    (mapped_lawful part_of (both name_at (both (byte_at 32) class_at)) (λ x. x.0 ++ ((32 ∷ []) ++ class_bytes x.1.1)) part_bytes (λ x. IsNamed x.0 × (Unit {0} × IsClass x.1.1)) IsPart
    (λ a i. (record { named = i.0; class = i.1.1 }, append_assoc a.0 (codes " ") (class_bytes a.1.1)))
    (both_lawful name_at (both (byte_at 32) class_at) (λ name. name) (λ x. (32 ∷ []) ++ class_bytes x.1) IsNamed (λ x. Unit {0} × IsClass x.1) (tt, MinMax) (tt, tt) name_lawful
    (both_lawful (byte_at 32) class_at (λ x. 32 ∷ []) class_bytes (λ x. Unit {0}) IsClass MinMax tt (byte_lawful 32) class_lawful)))

-- an indexed column
abbrev pub some_part : PartText
some_part = record { column = 97 ∷ []; class = MinMax }

is_part : IsPart some_part
is_part = record { named = one_letter; class = tt }

pub are_some : AreListed IsPart (some_part ∷ [])
are_some = (is_part, tt)

-- a part that is read leaves no more than there is
pub part_leaves : (bytes : List ℕ) → length (left (part_at bytes)) ≤ length bytes
part_leaves = lawful_leaves part_at part_bytes IsPart part_lawful

pub parts_lawful : Lawful parts_at parts_bytes (AreListed IsPart)
parts_lawful = listed_lawful part_at part_bytes IsPart some_part is_part part_lawful

m_class_complete : (c : ClassText) (rest : List ℕ) → IsMClass c → EndsSetting rest → m_class_at (behind_m c ++ rest) ≡ Ok (c, rest)
unfolding m_class_at
m_class_complete MinMax rest i e = refl
m_class_complete (Multi limit) rest i e =
    let behind : List ℕ = setting_bytes (codes " ") limit ++ rest in
    ap (choice is_u (mapped multi_of (both (word_at (codes "ulti")) (setting_at (codes " ")))) (mapped minmax_of (word_at (codes "inmax")))) (append_assoc (codes "ulti") (setting_bytes (codes " ") limit) rest)
    ∙ mapped_read multi_of (both (word_at (codes "ulti")) (setting_at (codes " "))) (codes "ulti" ++ behind) ((tt, limit), rest)
    (both_read (word_at (codes "ulti")) (setting_at (codes " ")) (codes "ulti" ++ behind) (tt, behind) (limit, rest) refl (setting_complete [] limit rest i e))
m_class_complete Inclusion rest i e = absurd i
m_class_complete (Bloom bits hashes) rest i e = absurd i

class_m_complete : (c : ClassText) (rest : List ℕ) → IsMClass c → EndsSetting rest → class_at (class_bytes c ++ rest) ≡ Ok (c, rest)
unfolding class_at
class_m_complete c rest i e =
    ap (λ l. choice is_m (mapped class_behind (both (byte_at 109) m_class_at)) other_class_at (l ++ rest)) (m_class_is c i).1
    ∙ mapped_read class_behind (both (byte_at 109) m_class_at) (109 ∷ (behind_m c ++ rest)) ((tt, c), rest)
    (both_read (byte_at 109) m_class_at (109 ∷ (behind_m c ++ rest)) (tt, behind_m c ++ rest) (c, rest) refl (m_class_complete c rest i e))

bloom_complete : (bits hashes rest : List ℕ) → AreDigits bits → AreDigits hashes → EndsSetting rest → bloom_at (class_bytes (Bloom bits hashes) ++ rest) ≡ Ok (Bloom bits hashes, rest)
unfolding bloom_at
bloom_complete bits hashes rest i k e =
    let behind : List ℕ = bits ++ (32 ∷ (hashes ++ rest)) in
    let grouped : class_bytes (Bloom bits hashes) ++ rest ≡ codes "bloom " ++ behind = simp append_assoc in
    ap (mapped bloom_of (both (word_at (codes "bloom ")) (both digits_at (both (byte_at 32) digits_at)))) grouped
    ∙ mapped_read bloom_of (both (word_at (codes "bloom ")) (both digits_at (both (byte_at 32) digits_at))) (codes "bloom " ++ behind) ((tt, (bits, (tt, hashes))), rest)
    (both_read (word_at (codes "bloom ")) (both digits_at (both (byte_at 32) digits_at)) (codes "bloom " ++ behind) (tt, behind) ((bits, (tt, hashes)), rest) (word_complete (codes "bloom ") behind)
    (both_read digits_at (both (byte_at 32) digits_at) behind (bits, 32 ∷ (hashes ++ rest)) ((tt, hashes), rest) (digits_complete bits (32 ∷ (hashes ++ rest)) i refl)
    (both_read (byte_at 32) digits_at (32 ∷ (hashes ++ rest)) (tt, hashes ++ rest) (hashes, rest) refl (digits_complete hashes rest k e.no_digit))))

class_complete : (c : ClassText) (rest : List ℕ) → IsClass c → EndsSetting rest → class_at (class_bytes c ++ rest) ≡ Ok (c, rest)
unfolding class_at other_class_at
class_complete MinMax rest i e = class_m_complete MinMax rest i e
class_complete (Multi limit) rest i e = class_m_complete (Multi limit) rest i e
class_complete Inclusion rest i e = refl
class_complete (Bloom bits hashes) rest i e = bloom_complete bits hashes rest i.0 i.1 e

-- an indexed column behind which neither a number nor more of its class stands is read
pub part_complete : (p : PartText) (rest : List ℕ) → IsPart p → EndsSetting rest → part_at (part_bytes p ++ rest) ≡ Ok (p, rest)
unfolding part_at
part_complete p rest i e =
    let behind : List ℕ = class_bytes p.class ++ rest in
    let grouped : part_bytes p ++ rest ≡ p.column ++ (32 ∷ behind) = append_assoc (p.column ++ codes " ") (class_bytes p.class) rest ∙ append_assoc p.column (codes " ") behind in
    ap (mapped part_of (both name_at (both (byte_at 32) class_at))) grouped
    ∙ mapped_read part_of (both name_at (both (byte_at 32) class_at)) (p.column ++ (32 ∷ behind)) ((p.column, (tt, p.class)), rest)
    (both_read name_at (both (byte_at 32) class_at) (p.column ++ (32 ∷ behind)) (p.column, 32 ∷ behind) ((tt, p.class), rest) (name_complete p.column (32 ∷ behind) i.named refl)
    (both_read (byte_at 32) class_at (32 ∷ behind) (tt, behind) (p.class, rest) refl (class_complete p.class rest i.class e)))

-- indexed columns behind which no comma stands are read
pub parts_complete : (ps : List PartText) (rest : List ℕ) → AreListed IsPart ps → begins is_comma rest ≡ false → EndsSetting rest → parts_at (parts_bytes ps ++ rest) ≡ Ok (ps, rest)
parts_complete ps rest h e f = listed_complete part_at part_bytes IsPart EndsSetting part_leaves comma_ends part_complete ps rest h e f
