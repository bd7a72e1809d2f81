-- Columns are what is read as them.
use Rattle.std.proofs.Common.{◌≡◌, ℕ, Bool, false, ◌==◌, ◌≤◌, List, [], ◌∷◌, ◌++◌, length, codes, Ok, refl, ap, ◌∙◌, append_assoc}
use Rattle.block_model.specs.declared.value.Kind.{Kind}
use Rattle.block_model.specs.declared.value.Kind.TheVariants as kinds
use Rattle.block_model.specs.declared.schema.Column.{Column}
use Rattle.value_text.specs.TextReading.{mapped, both, begins, choice, nothing, byte_at, word_at}
use Rattle.value_text.proofs.Lawful.{left, Lawful, both_lawful, mapped_lawful, choice_lawful, nothing_lawful, same_lawful, byte_lawful, word_lawful, weaker_lawful, both_read, mapped_read, choice_second}
use Rattle.command_line.specs.DeclarationTexts.{kind_word, column_bytes, listed_bytes, IsNamed, IsColumn, AreListed}
use Rattle.command_line.specs.DeclarationReading.{name_at, number_kind_at, kind_at, column_at, columns_at}
use Rattle.command_line.proofs.NameReading.{one_letter, name_lawful, name_complete}
use Rattle.command_line.proofs.FrontReading.{lawful_leaves}
use Rattle.command_line.proofs.MoreItems.{is_comma}
use Rattle.command_line.proofs.ListReading.{listed_lawful, listed_complete}

abbrev is_r : ℕ → Bool
is_r c = c == 114

abbrev is_t : ℕ → Bool
is_t c = c == 116

abbrev of_ranges : Unit {0} → Kind
of_ranges x = kinds.Span

abbrev of_networks : Unit {0} → Kind
of_networks x = kinds.Net

abbrev kind_behind : Unit {0} × Kind → Kind
kind_behind x = x.1

-- a kind of numbers or of their ranges
abbrev OfNumbers : Kind → Type 0
OfNumbers kinds.Int = Unit {0}
OfNumbers kinds.Span = Unit {0}
OfNumbers kinds.Net = ⊥

abbrev IsAny : Kind → Type 0
IsAny k = Unit {0}

-- what stands behind `int8`
abbrev range_bytes : Kind → List ℕ
range_bytes kinds.Int = []
range_bytes kinds.Span = codes "range"
range_bytes kinds.Net = []

-- what stands behind `in`
abbrev behind_in : Kind → List ℕ
behind_in kinds.Int = codes "t8"
behind_in kinds.Span = codes "t8range"
behind_in kinds.Net = codes "et"

range_lawful : Lawful (choice is_r (mapped of_ranges (word_at (codes "range"))) (nothing kinds.Int)) range_bytes OfNumbers
range_lawful =
    choice_lawful is_r (mapped of_ranges (word_at (codes "range"))) (nothing kinds.Int) range_bytes OfNumbers
    (mapped_lawful of_ranges (word_at (codes "range")) (λ x. codes "range") range_bytes (λ x. Unit {0}) OfNumbers (λ a i. (tt, refl)) (word_lawful (codes "range")))
    (nothing_lawful kinds.Int range_bytes OfNumbers tt refl)

number_bytes : (k : Kind) → OfNumbers k → behind_in k ≡ codes "t8" ++ range_bytes k
number_bytes kinds.Int i = refl
number_bytes kinds.Span i = refl
number_bytes kinds.Net i = absurd i

number_kind_lawful : Lawful number_kind_at behind_in OfNumbers
unfolding number_kind_at
number_kind_lawful =
    same_lawful number_kind_at (mapped kind_behind (both (word_at (codes "t8")) (choice is_r (mapped of_ranges (word_at (codes "range"))) (nothing kinds.Int)))) behind_in OfNumbers (λ bytes. refl)
    (mapped_lawful kind_behind (both (word_at (codes "t8")) (choice is_r (mapped of_ranges (word_at (codes "range"))) (nothing kinds.Int))) (λ x. codes "t8" ++ range_bytes x.1) behind_in (λ x. Unit {0} × OfNumbers x.1) OfNumbers
    (λ a i. (i.1, number_bytes a.1 i.1))
    (both_lawful (word_at (codes "t8")) (choice is_r (mapped of_ranges (word_at (codes "range"))) (nothing kinds.Int)) (λ x. codes "t8") range_bytes (λ x. Unit {0}) OfNumbers kinds.Int tt (word_lawful (codes "t8")) range_lawful))

behind_in_lawful : Lawful (choice is_t number_kind_at (mapped of_networks (word_at (codes "et")))) behind_in IsAny
behind_in_lawful =
    choice_lawful is_t number_kind_at (mapped of_networks (word_at (codes "et"))) behind_in IsAny
    (weaker_lawful number_kind_at behind_in OfNumbers IsAny (λ k i. tt) number_kind_lawful)
    (mapped_lawful of_networks (word_at (codes "et")) (λ x. codes "et") behind_in (λ x. Unit {0}) IsAny (λ a i. (tt, refl)) (word_lawful (codes "et")))

kind_bytes : (k : Kind) → kind_word k ≡ codes "in" ++ behind_in k
kind_bytes kinds.Int = refl
kind_bytes kinds.Span = refl
kind_bytes kinds.Net = refl

kind_lawful : Lawful kind_at kind_word IsAny
unfolding kind_at
kind_lawful =
    same_lawful kind_at (mapped kind_behind (both (word_at (codes "in")) (choice is_t number_kind_at (mapped of_networks (word_at (codes "et")))))) kind_word IsAny (λ bytes. refl)
    (mapped_lawful kind_behind (both (word_at (codes "in")) (choice is_t number_kind_at (mapped of_networks (word_at (codes "et"))))) (λ x. codes "in" ++ behind_in x.1) kind_word (λ x. Unit {0} × IsAny x.1) IsAny
    (λ a i. (tt, kind_bytes a.1))
    (both_lawful (word_at (codes "in")) (choice is_t number_kind_at (mapped of_networks (word_at (codes "et")))) (λ x. codes "in") behind_in (λ x. Unit {0}) IsAny kinds.Int tt (word_lawful (codes "in")) behind_in_lawful))

abbrev named_column : List ℕ × (Unit {0} × Kind) → Column
named_column x = record { name = x.0; kind = x.1.1 }

column_lawful : Lawful column_at column_bytes IsColumn
unfolding column_at
column_lawful =
    same_lawful column_at (mapped named_column (both name_at (both (byte_at 32) kind_at))) column_bytes IsColumn (λ bytes. refl)
    (mapped_lawful named_column (both name_at (both (byte_at 32) kind_at)) (λ x. x.0 ++ ((32 ∷ []) ++ kind_word x.1.1)) column_bytes (λ x. IsNamed x.0 × (Unit {0} × IsAny x.1.1)) IsColumn
    (λ a i. (i.0, append_assoc a.0 (codes " ") (kind_word a.1.1)))
    (both_lawful name_at (both (byte_at 32) kind_at) (λ name. name) (λ x. (32 ∷ []) ++ kind_word x.1) IsNamed (λ x. Unit {0} × IsAny x.1) (tt, kinds.Int) (tt, tt) name_lawful
    (both_lawful (byte_at 32) kind_at (λ x. 32 ∷ []) kind_word (λ x. Unit {0}) IsAny kinds.Int tt (byte_lawful 32) kind_lawful)))

-- a column
abbrev pub some_column : Column
some_column = record { name = 97 ∷ []; kind = kinds.Int }

pub is_some : AreListed IsColumn (some_column ∷ [])
is_some = (one_letter, tt)

-- a column that is read leaves no more than there is
pub column_leaves : (bytes : List ℕ) → length (left (column_at bytes)) ≤ length bytes
column_leaves = lawful_leaves column_at column_bytes IsColumn column_lawful

pub columns_lawful : Lawful columns_at (listed_bytes column_bytes) (AreListed IsColumn)
columns_lawful = listed_lawful column_at column_bytes IsColumn some_column one_letter column_lawful

number_kind_int : (rest : List ℕ) → begins is_r rest ≡ false → number_kind_at (codes "t8" ++ rest) ≡ Ok (kinds.Int, rest)
unfolding number_kind_at
number_kind_int rest e =
    mapped_read kind_behind (both (word_at (codes "t8")) (choice is_r (mapped of_ranges (word_at (codes "range"))) (nothing kinds.Int))) (codes "t8" ++ rest) ((tt, kinds.Int), rest)
    (both_read (word_at (codes "t8")) (choice is_r (mapped of_ranges (word_at (codes "range"))) (nothing kinds.Int)) (codes "t8" ++ rest) (tt, rest) (kinds.Int, rest) refl
    (choice_second is_r (mapped of_ranges (word_at (codes "range"))) (nothing kinds.Int) rest e))

number_kind_span : (rest : List ℕ) → number_kind_at (codes "t8range" ++ rest) ≡ Ok (kinds.Span, rest)
unfolding number_kind_at
number_kind_span rest = refl

kind_complete : (k : Kind) (rest : List ℕ) → begins is_r rest ≡ false → kind_at (kind_word k ++ rest) ≡ Ok (k, rest)
unfolding kind_at
kind_complete kinds.Int rest e =
    mapped_read kind_behind (both (word_at (codes "in")) (choice is_t number_kind_at (mapped of_networks (word_at (codes "et"))))) (codes "int8" ++ rest) ((tt, kinds.Int), rest)
    (both_read (word_at (codes "in")) (choice is_t number_kind_at (mapped of_networks (word_at (codes "et")))) (codes "int8" ++ rest) (tt, codes "t8" ++ rest) (kinds.Int, rest) refl (number_kind_int rest e))
kind_complete kinds.Span rest e =
    mapped_read kind_behind (both (word_at (codes "in")) (choice is_t number_kind_at (mapped of_networks (word_at (codes "et"))))) (codes "int8range" ++ rest) ((tt, kinds.Span), rest)
    (both_read (word_at (codes "in")) (choice is_t number_kind_at (mapped of_networks (word_at (codes "et")))) (codes "int8range" ++ rest) (tt, codes "t8range" ++ rest) (kinds.Span, rest) refl (number_kind_span rest))
kind_complete kinds.Net rest e = refl

column_complete : (c : Column) (rest : List ℕ) → IsColumn c → begins is_r rest ≡ false → column_at (column_bytes c ++ rest) ≡ Ok (c, rest)
unfolding column_at
column_complete c rest i e =
    let grouped : column_bytes c ++ rest ≡ c.name ++ (32 ∷ (kind_word c.kind ++ rest)) = simp append_assoc in
    ap (mapped named_column (both name_at (both (byte_at 32) kind_at))) grouped
    ∙ mapped_read named_column (both name_at (both (byte_at 32) kind_at)) (c.name ++ (32 ∷ (kind_word c.kind ++ rest))) ((c.name, (tt, c.kind)), rest)
    (both_read name_at (both (byte_at 32) kind_at) (c.name ++ (32 ∷ (kind_word c.kind ++ rest))) (c.name, 32 ∷ (kind_word c.kind ++ rest)) ((tt, c.kind), rest)
    (name_complete c.name (32 ∷ (kind_word c.kind ++ rest)) i refl)
    (both_read (byte_at 32) kind_at (32 ∷ (kind_word c.kind ++ rest)) (tt, kind_word c.kind ++ rest) (c.kind, rest) refl (kind_complete c.kind rest e)))

-- no kind goes on there
abbrev pub EndsKind : List ℕ → Type 0
EndsKind rest = begins is_r rest ≡ false

-- columns behind which neither a comma nor more of a kind stands are read
pub columns_complete : (cs : List Column) (rest : List ℕ) → AreListed IsColumn cs → begins is_comma rest ≡ false → EndsKind rest → columns_at (listed_bytes column_bytes cs ++ rest) ≡ Ok (cs, rest)
columns_complete cs rest h e f = listed_complete column_at column_bytes IsColumn EndsKind column_leaves (λ bytes. refl) column_complete cs rest h e f
