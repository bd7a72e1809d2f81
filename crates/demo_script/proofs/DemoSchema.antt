-- what the demo's declarations denote, which is within the limits
use Rattle.std.proofs.Common.{◌≡◌, ℕ, ◌+◌, ◌/◌, ◌≤◌, Bool, false, nat_le, not, cond, List, [], ◌∷◌, codes, Err, Some, None, refl, sym, ap, ◌∙◌, subst, arith, lit<}
use Rattle.std.proofs.lemmas.Bool.{le-leb, and_from}
use Rattle.block_model.specs.declared.value.Kind.TheVariants as kinds
use Rattle.block_model.specs.declared.schema.Class.TheVariants as classes
use Rattle.block_model.specs.declared.schema.Column.{Column}
use Rattle.block_model.specs.declared.schema.Table.{Table}
use Rattle.block_model.specs.declared.schema.Part.{Part}
use Rattle.block_model.specs.declared.schema.Index.{Index}
use Rattle.block_model.specs.declared.schema.Schema.{Schema}
use Rattle.store_layout.specs.FirstBrokenRule.{first_broken_rule}
use Rattle.command_line.specs.DeclarationTexts.{IsSetting, TableText, IsTable, MinMax, Multi, Inclusion, Bloom, IsClass, PartText, IsPart, AreListed, IndexText, IsIndex, OfTable, OfIndex}
use Rattle.command_line.specs.DeclaredSchema.{Denotes}
use Rattle.command_line.specs.FirstFault.{Answers}
use Rattle.command_line.specs.declared.declarations.DeclFault.{DeclFault}
use Rattle.command_line.specs.declared.declarations.DeclFault.TheVariants as faults
use Rattle.demo_script.specs.DemoStore.{demo_declarations, demo_sizes}

-- ---- the table and the index

abbrev demo_columns : List Column
demo_columns =
    record { name = codes "k"; kind = kinds.Int }
    ∷ record { name = codes "v"; kind = kinds.Int }
    ∷ record { name = codes "r"; kind = kinds.Span }
    ∷ record { name = codes "a"; kind = kinds.Net }
    ∷ []

abbrev demo_table : Table
demo_table = record { name = codes "d"; rows_per_page = 16; columns = demo_columns }

abbrev demo_parts : List Part
demo_parts =
    record { column = 0; class = classes.MinMax }
    ∷ record { column = 1; class = classes.Multi 16 }
    ∷ record { column = 2; class = classes.Inclusion }
    ∷ record { column = 3; class = classes.Bloom 4096 3 }
    ∷ []

abbrev demo_index : Index
demo_index = record { name = codes "di"; table = 0; pages_per_range = 16; auto = false; parts = demo_parts }

abbrev only_table : Schema
only_table = record { tables = demo_table ∷ []; indexes = [] }

unfoldable demo_schema : Schema
demo_schema = record { tables = demo_table ∷ []; indexes = demo_index ∷ [] }

-- ---- how they are written

abbrev table_text : TableText
table_text = record { name = codes "d"; columns = demo_columns; rows = Some (codes "16") }

abbrev part_texts : List PartText
part_texts =
    record { column = codes "k"; class = MinMax }
    ∷ record { column = codes "v"; class = Multi (Some (codes "16")) }
    ∷ record { column = codes "r"; class = Inclusion }
    ∷ record { column = codes "a"; class = Bloom (codes "4096") (codes "3") }
    ∷ []

abbrev index_text : IndexText
index_text = record { name = codes "di"; table = codes "d"; parts = part_texts; pages = Some (codes "16"); auto = false }

-- ---- both are of the grammar

sixteen : IsSetting (Some (codes "16"))
sixteen = record { some = lit< tt; digits = refl }

table_is_one : IsTable table_text
table_is_one = record { named = refl; columns = (refl, (refl, (refl, (refl, tt)))); rows = sixteen }

bloom_is_one : IsClass (Bloom (codes "4096") (codes "3"))
bloom_is_one = (record { some = lit< tt; digits = refl }, record { some = lit< tt; digits = refl })

parts_are_listed : AreListed IsPart part_texts
parts_are_listed = (
  record { named = refl; class = tt },
  (record { named = refl; class = sixteen }, (record { named = refl; class = tt }, (record { named = refl; class = bloom_is_one }, tt))),
)

index_is_one : IsIndex index_text
index_is_one = record { named = refl; table = refl; parts = parts_are_listed; pages = sixteen }

demo_schema_denoted : Denotes demo_declarations demo_schema
unfolding demo_declarations demo_schema
demo_schema_denoted = (
  only_table,
  record { text = OfTable table_text; of_grammar = table_is_one; bytes_are = refl; makes = refl },
  (demo_schema, record { text = OfIndex index_text; of_grammar = (index_is_one, tt); bytes_are = refl; makes = refl }, refl),
)

-- ---- what follows

-- they are declarations, so that no word of them is at fault
pub demo_is_of_form : (words : List (List ℕ)) (fault : DeclFault) (word at : ℕ) → words ≡ demo_declarations
    → ((schema : Schema) → Denotes words schema → Answers schema (Err fault)) → fault ≡ faults.Form word at → ⊥
demo_is_of_form words fault word at are only is =
    let denoted : Denotes words demo_schema = subst (λ (ws : List (List ℕ)). Denotes ws demo_schema) (sym are) demo_schema_denoted in
    subst (λ (f : DeclFault). Answers demo_schema (Err f)) is (only demo_schema denoted)

-- of the limits only that of the table's blocks hangs on the rows
demo_within : (rows : ℕ) → 1 ≤ rows → rows ≤ 200000 → first_broken_rule demo_schema (demo_sizes rows) ≡ None
unfolding first_broken_rule demo_schema
demo_within rows some few =
    let blocks : ℕ = (rows + 15) / 16 in
    let low : 1 ≤ blocks = omega arith in
    let high : blocks ≤ 131072 = omega arith in
    ap (λ (within : Bool). cond (not within) (Some 8) None) (and_from (nat_le 1 blocks) (nat_le blocks 131072) (le-leb 1 blocks low) (le-leb blocks 131072 high))

-- and so it is for a schema that is declared alone
pub schema_within : (schema : Schema) (rows : ℕ) → ((other : Schema) → Denotes demo_declarations other → schema ≡ other) → 1 ≤ rows → rows ≤ 200000 → first_broken_rule schema (demo_sizes rows) ≡ None
schema_within schema rows alone some few = ap (λ (s : Schema). first_broken_rule s (demo_sizes rows)) (alone demo_schema demo_schema_denoted) ∙ demo_within rows some few
