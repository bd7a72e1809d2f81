-- which rule of the limits is broken first
use Rattle.std.specs.Prelude.{◌≡◌, ℕ, ◌<◌, Bool, true, false, not, List, [], ◌∷◌, slice_index_or, Option, MatchOption}
use Rattle.std.specs.List.{position_from}
use Rattle.block_model.specs.declared.schema.Schema.{Schema}
use Rattle.block_model.specs.declared.schema.Sizes.{Sizes}
use Rattle.store_layout.specs.Limits.{has_lawful_tables, has_lawful_columns, has_lawful_indexes, has_lawful_rows_per_page, has_lawful_pages_per_range, has_lawful_classes, has_lawful_tuples}
use Rattle.store_layout.specs.Limits.{has_lawful_heap_blocks, has_lawful_index_blocks, has_lawful_status_blocks, has_lawful_log_pages, has_lawful_frames}

-- whether each rule holds, from rule 1 on
abbrev pub rules : Schema → Sizes → List Bool
rules schema sizes =
    has_lawful_tables schema
    ∷ has_lawful_columns schema
    ∷ has_lawful_indexes schema
    ∷ has_lawful_rows_per_page schema
    ∷ has_lawful_pages_per_range schema
    ∷ has_lawful_classes schema
    ∷ has_lawful_tuples schema
    ∷ has_lawful_heap_blocks sizes
    ∷ has_lawful_index_blocks sizes
    ∷ has_lawful_status_blocks sizes
    ∷ has_lawful_log_pages sizes
    ∷ has_lawful_frames sizes
    ∷ []

-- whether the rule of that number holds; a number that no rule has counts as one that holds
abbrev pub rule_holds : ℕ → Schema → Sizes → Bool
rule_holds rule schema sizes = slice_index_or (true ∷ rules schema sizes) rule true

-- the least number whose rule doesn't hold, where there is one
unfoldable pub first_broken_rule : Schema → Sizes → Option ℕ
first_broken_rule schema sizes = position_from not 1 (rules schema sizes)

-- each rule holds
abbrev pub KeepsLimits : Schema → Sizes → Type 0
KeepsLimits schema sizes = (rule : ℕ) → rule_holds rule schema sizes ≡ true

-- the rule doesn't hold, and each lower one does
pub record IsFirstBroken (schema : Schema) (sizes : Sizes) (rule : ℕ) : Type 0 where
  pub broken : rule_holds rule schema sizes ≡ false
  pub lower_hold : (lower : ℕ) → lower < rule → rule_holds lower schema sizes ≡ true

-- the law of first_broken_rule
abbrev pub IsLeastBroken : Schema → Sizes → Type 0
IsLeastBroken schema sizes = MatchOption (first_broken_rule schema sizes) (KeepsLimits schema sizes) (IsFirstBroken schema sizes)
