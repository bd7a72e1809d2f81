-- a place at which a script over new tables of a layout starts
use Rattle.std.proofs.Common.{◌≡◌, ℕ, zero, suc, ◌<◌, ◌≤◌, false, List, [], ◌∷◌, length, slice_get, Option, None, Some, refl, sym, subst, arith}
use Rattle.std.proofs.lemmas.Bool.{and_parts, leb-true}
use Rattle.std.proofs.lemmas.List.Sums.{AllPass-from_list_all}
use Rattle.std.specs.Prelude.{nat_le}
use Rattle.block_model.specs.declared.schema.Index as declared
use Rattle.block_model.specs.declared.schema.Table.{Table}
use Rattle.block_model.specs.ClassLimits.{is_within}
use Rattle.block_model.specs.DatabaseState.{initial_state}
use Rattle.store_layout.specs.DiskLayout.{DiskLayout}
use Rattle.store_layout.specs.FirstBrokenRule.{KeepsLimits, first_broken_rule}
use Rattle.store_layout.proofs.FirstBroken.{has_bounded_sizes, keeps_limits}
use Rattle.coverage.specs.IndexView.{Mapping, PageKind, Unstarted}
use Rattle.coverage.specs.Statements.{AreLawful}
use Rattle.coverage.specs.Accounts.{no_account}
use Rattle.coverage.specs.Table.{Index, Resting, TableState}
use Rattle.coverage.specs.TableCovered.{IsNewTable}
use Rattle.index_steps.specs.IndexTuples.{contents_of, index_at, no_index, shape_of}
use Rattle.index_steps.specs.ShownTable.{indexes_of}
use Rattle.script_semantics.specs.Place.{Place}
use Rattle.script_semantics.specs.Starts.{IsDeclared, IsLaidOut, IsStart}

-- block 0 and one map page
first_pages : ℕ → PageKind
first_pages zero = Mapping
first_pages (suc zero) = Mapping
first_pages (suc (suc p)) = Unstarted

mapping_first : (p : ℕ) → p < 2 → first_pages p ≡ Mapping
unfolding first_pages
mapping_first zero below = refl
mapping_first (suc zero) below = refl
mapping_first (suc (suc p)) below = absurd (omega (arith, below))

unstarted_rest : (p : ℕ) → 2 ≤ p → first_pages p ≡ Unstarted
unfolding first_pages
unstarted_rest zero above = absurd (omega (arith, above))
unstarted_rest (suc zero) above = absurd (omega (arith, above))
unstarted_rest (suc (suc p)) above = refl

number_there : (numbers : List ℕ) (at : ℕ) → at < length numbers → (n : ℕ) × (slice_get numbers at ≡ Some n)
number_there [] at below = absurd (omega (arith, below))
number_there (n ∷ numbers) zero below = (n, refl)
number_there (n ∷ numbers) (suc at) below = number_there numbers at (omega (arith, below))

-- the index of that number, new
abbrev new_index : DiskLayout → ℕ → Index
new_index layout number = record {
  contents = contents_of (shape_of layout number);
  pages_per_range = (index_at layout number).pages_per_range;
  autosummarize = (index_at layout number).auto;
  entry = λ _. None;
  tuple = λ _. None;
  pages = record { kind = first_pages; map_pages = 1; limit = layout.sizes.index_blocks };
  lock = λ _. None;
  unnamed = λ _. false;
}

abbrev number_if : Option ℕ → ℕ
number_if None = 0
number_if (Some number) = number

abbrev rows_if : Option Table → ℕ
rows_if None = 0
rows_if (Some table) = table.rows_per_page

-- the table of that number, new
abbrev new_table : DiskLayout → ℕ → TableState
new_table layout table = record {
  indexes = length (indexes_of layout table);
  index = λ at. new_index layout (number_if (slice_get (indexes_of layout table) at));
  rows_per_page = rows_if (slice_get layout.schema.tables table);
  heap_limit = layout.sizes.heap_blocks;
  blocks = 0;
  row = λ _ _. None;
  summarise_lock = None;
  task = λ _. Resting;
  counts = λ _. false;
}

abbrev start : DiskLayout → Place
start layout = record {
  layout = layout;
  opening = initial_state;
  names = [];
  hands = λ _. None;
  tables = new_table layout;
  accounts = λ _. no_account;
  queue = [];
  journal = [];
}

declared_if : (layout : DiskLayout) (found : Option ℕ) (number : ℕ) → found ≡ Some number → IsDeclared layout number (new_index layout (number_if found))
declared_if layout found number is =
    subst (λ (o : Option ℕ). IsDeclared layout number (new_index layout (number_if o))) (sym is) (record { contents = refl; pages_per_range = refl; autosummarize = refl; limit = refl })

laid_out : (layout : DiskLayout) (table : ℕ) → IsLaidOut layout table (new_table layout table)
laid_out layout table = record {
  indexes = refl;
  index = λ at number there. declared_if layout (slice_get (indexes_of layout table) at) number there;
  slots = λ declared there. subst (λ (o : Option Table). rows_if o ≡ declared.rows_per_page) (sym there) refl;
  limit = refl;
}

-- what holds of each index that a table lists holds of the one at that place
at_place : (layout : DiskLayout) (table at : ℕ) (P : ℕ → Type 0) → at < length (indexes_of layout table) → ((n : ℕ) → slice_get (indexes_of layout table) at ≡ Some n → P n)
    → P (number_if (slice_get (indexes_of layout table) at))
at_place layout table at P below each =
    let found = number_there (indexes_of layout table) at below in
    subst (λ (o : Option ℕ). P (number_if o)) (sym found.1) (each found.0 found.1)

-- the laws of the layers below
abbrev AreListed : Type 0
AreListed = (layout : DiskLayout) (table at n : ℕ) → slice_get (indexes_of layout table) at ≡ Some n → (n < length layout.schema.indexes) × ((index_at layout n).table ≡ table)

abbrev AreLawfulInLayouts : Type 0
AreLawfulInLayouts = (layout : DiskLayout) (index : ℕ) → KeepsLimits layout.schema layout.sizes → index < length layout.schema.indexes → AreLawful (contents_of (shape_of layout index))

module _ (listed : AreListed) (lawful : AreLawfulInLayouts) (layout : DiskLayout) (keeps : KeepsLimits layout.schema layout.sizes) where
  ranged : (n : ℕ) → n < length layout.schema.indexes → 0 < (index_at layout n).pages_per_range
  ranged n below =
      let least = leb-true 1 _ (and_parts (nat_le 1 (index_at layout n).pages_per_range) (nat_le (index_at layout n).pages_per_range 131072)
      (AllPass-from_list_all (λ (i : declared.Index). is_within 1 131072 i.pages_per_range) layout.schema.indexes (keeps 5) n no_index below)).0 in
      omega (arith, least)

  new : (table : ℕ) → IsNewTable (new_table layout table)
  new table = record {
    resting = λ _. refl;
    free = refl;
    row = λ _ _. refl;
    entry = λ _ _. refl;
    tuple = λ _ _. refl;
    lock = λ _ _. refl;
    unnamed = λ _ _. refl;
    pages = λ at below. record { one = refl; map = mapping_first; rest = unstarted_rest; below = omega (arith, (has_bounded_sizes layout keeps).some_index_blocks) };
    lawful = λ at below. at_place layout table at (λ n. AreLawful (contents_of (shape_of layout n))) below (λ n there. lawful layout n keeps (listed layout table at n there).0);
    ranged = λ at below. at_place layout table at (λ n. 0 < (index_at layout n).pages_per_range) below (λ n there. ranged n (listed layout table at n there).0);
  }

  starts : IsStart layout (start layout)
  starts = record {
    layout_is = refl;
    opening = refl;
    names = refl;
    journal = refl;
    queue = refl;
    hands = λ _. refl;
    accounts = λ _. refl;
    laid_out = λ table below. laid_out layout table;
    new = λ table below. new table;
    empty = λ table below. refl;
  }

pub has_start : AreListed → AreLawfulInLayouts → (layout : DiskLayout) → first_broken_rule layout.schema layout.sizes ≡ None → (p : Place) × IsStart layout p
has_start listed lawful layout within = (start layout, starts listed lawful layout (keeps_limits layout.schema layout.sizes within))
