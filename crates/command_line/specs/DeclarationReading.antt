-- How a declaration is read from its front, part by part.
use Rattle.std.specs.Prelude.{ℕ, zero, suc, ◌+◌, ◌==◌, ◌&&◌, Bool, true, false, if◌then◌else◌, List, [], ◌∷◌, length, codes, Option, None, Some, Ok, Err}
use Rattle.block_model.specs.Names.{is_lower, is_more}
use Rattle.block_model.specs.declared.value.Kind.{Kind}
use Rattle.block_model.specs.declared.value.Kind.TheVariants as kinds
use Rattle.block_model.specs.declared.schema.Column.{Column}
use Rattle.value_text.specs.TextReading.{Reading, mapped, both, choice, nothing, byte_at, word_at, digits_at}
use Rattle.command_line.specs.DeclarationTexts.{TableText, ClassText, MinMax, Multi, Inclusion, Bloom, PartText, IndexText, DeclarationText, OfTable, OfIndex}

-- the bytes at the front that go on with a name, up to so many, and what is behind them
abbrev pub split_name : ℕ → List ℕ → List ℕ × List ℕ
split_name zero bytes = ([], bytes)
split_name (suc n) [] = ([], [])
split_name (suc n) (c ∷ cs) = if is_more c then (c ∷ (split_name n cs).0, (split_name n cs).1) else ([], c ∷ cs)

-- a name, as long as there is one
unfoldable pub name_at : Reading (List ℕ)
name_at [] = Err []
name_at (c ∷ cs) = if is_lower c then Ok (c ∷ (split_name 15 cs).0, (split_name 15 cs).1) else Err (c ∷ cs)

-- `int8` or `int8range`, behind the `in` that every kind begins with
unfoldable pub number_kind_at : Reading Kind
number_kind_at bytes = mapped (λ x. x.1) (both (word_at (codes "t8")) (choice (λ c. c == 114) (mapped (λ x. kinds.Span) (word_at (codes "range"))) (nothing kinds.Int))) bytes

-- a kind
unfoldable pub kind_at : Reading Kind
kind_at bytes = mapped (λ x. x.1) (both (word_at (codes "in")) (choice (λ c. c == 116) number_kind_at (mapped (λ x. kinds.Net) (word_at (codes "et"))))) bytes

-- a name, a space and a kind
unfoldable pub column_at : Reading Column
column_at bytes = mapped (λ x. record { name = x.0; kind = x.1.1 }) (both name_at (both (byte_at 32) kind_at)) bytes

-- further items, up to so many, each behind a comma
unfoldable pub more_at : {A : Type 0} → Reading A → ℕ → Reading (List A)
more_at item zero bytes = nothing [] bytes
more_at item (suc n) bytes = choice (λ c. c == 44) (mapped (λ x. x.1.0 ∷ x.1.1) (both (byte_at 44) (both item (more_at item n)))) (nothing []) bytes

-- all further items: bytes hold no more of them than there are bytes
unfoldable pub others_at : {A : Type 0} → Reading A → Reading (List A)
others_at item bytes = more_at item (length bytes + 1) bytes

-- items with a comma between two
unfoldable pub listed_at : {A : Type 0} → Reading A → Reading (List A)
listed_at item bytes = mapped (λ x. x.0 ∷ x.1) (both item (others_at item)) bytes

-- columns
abbrev pub columns_at : Reading (List Column)
columns_at bytes = listed_at column_at bytes

-- a setting and digits, or nothing
unfoldable pub setting_at : List ℕ → Reading (Option (List ℕ))
setting_at setting bytes = choice (λ c. c == 32) (mapped (λ x. Some x.1) (both (word_at setting) digits_at)) (nothing None) bytes

-- the bracket behind columns, and a setting or none
unfoldable pub ending_at : List ℕ → Reading (Option (List ℕ))
ending_at setting bytes = mapped (λ x. x.1) (both (byte_at 41) (setting_at setting)) bytes

-- `table`, a name and a bracket
unfoldable pub table_head_at : Reading (List ℕ)
table_head_at bytes = mapped (λ x. x.1.0) (both (word_at (codes "table ")) (both name_at (byte_at 40))) bytes

-- a table
unfoldable pub table_at : Reading TableText
table_at bytes = mapped (λ x. record { name = x.0; columns = x.1.0; rows = x.1.1 }) (both table_head_at (both columns_at (ending_at (codes " rows_per_page ")))) bytes

-- `minmax` or `multi`, behind the `m` that both begin with
unfoldable pub m_class_at : Reading ClassText
m_class_at bytes = choice (λ c. c == 117) (mapped (λ x. Multi x.1) (both (word_at (codes "ulti")) (setting_at (codes " ")))) (mapped (λ x. MinMax) (word_at (codes "inmax"))) bytes

-- `bloom` and its two numbers
unfoldable pub bloom_at : Reading ClassText
bloom_at bytes = mapped (λ x. Bloom x.1.0 x.1.1.1) (both (word_at (codes "bloom ")) (both digits_at (both (byte_at 32) digits_at))) bytes

-- `bloom` or `inclusion`
unfoldable pub other_class_at : Reading ClassText
other_class_at bytes = choice (λ c. c == 98) bloom_at (mapped (λ x. Inclusion) (word_at (codes "inclusion"))) bytes

-- a class
unfoldable pub class_at : Reading ClassText
class_at bytes = choice (λ c. c == 109) (mapped (λ x. x.1) (both (byte_at 109) m_class_at)) other_class_at bytes

-- `index` and a name
unfoldable pub index_head_at : Reading (List ℕ)
index_head_at bytes = mapped (λ x. x.1) (both (word_at (codes "index ")) name_at) bytes

-- `on`, a name and a bracket
unfoldable pub on_at : Reading (List ℕ)
on_at bytes = mapped (λ x. x.1.0) (both (word_at (codes " on ")) (both name_at (byte_at 40))) bytes

-- a name, a space and a class
unfoldable pub part_at : Reading PartText
part_at bytes = mapped (λ x. record { column = x.0; class = x.1.1 }) (both name_at (both (byte_at 32) class_at)) bytes

-- indexed columns
abbrev pub parts_at : Reading (List PartText)
parts_at bytes = listed_at part_at bytes

-- ` autosummarize` where it is answered, or nothing
unfoldable pub auto_at : Bool → Reading Bool
auto_at autos bytes = choice (λ c. autos && c == 32) (mapped (λ x. true) (word_at (codes " autosummarize"))) (nothing false) bytes

-- pages per range with their digits, and perhaps ` autosummarize`
unfoldable pub pages_at : Bool → Reading (Option (List ℕ) × Bool)
pages_at autos bytes = mapped (λ x. (Some x.1.0, x.1.1)) (both (word_at (codes "pages_per_range ")) (both digits_at (auto_at autos))) bytes

-- `autosummarize` where it is answered, or pages per range, behind the space that both begin with
unfoldable pub option_at : Bool → Reading (Option (List ℕ) × Bool)
option_at autos bytes = choice (λ c. autos && c == 97) (mapped (λ x. (None, true)) (word_at (codes "autosummarize"))) (pages_at autos) bytes

-- what stands behind the columns of an index
unfoldable pub options_at : Bool → Reading (Option (List ℕ) × Bool)
options_at autos bytes = choice (λ c. c == 32) (mapped (λ x. x.1) (both (byte_at 32) (option_at autos))) (nothing (None, false)) bytes

-- an index
unfoldable pub index_at : Bool → Reading IndexText
index_at autos bytes =
    mapped (λ x. record { name = x.0; table = x.1.0; parts = x.1.1.0; pages = x.1.1.1.1.0; auto = x.1.1.1.1.1 }) (both index_head_at (both on_at (both parts_at (both (byte_at 41) (options_at autos))))) bytes

-- a table or an index
unfoldable pub declaration_at : Bool → Reading DeclarationText
declaration_at autos bytes = choice (λ c. c == 116) (mapped OfTable table_at) (mapped OfIndex (index_at autos)) bytes
