-- new tables over new indexes
use Rattle.std.proofs.Common.{◌≡◌, ℕ, zero, suc, ◌<◌, Bool, List, [], ◌∷◌, length, refl, sym, ap, arith}
use Rattle.std.proofs.lemmas.Option.{none-some, same_Some}
use Rattle.std.specs.Prelude.{Option, None, Some, slice_get, slice_index_or}
use Rattle.std.specs.Option.{option_map}
use Rattle.block_model.specs.declared.place.Place.{Place}
use Rattle.block_model.specs.declared.place.Spot.{Spot}
use Rattle.block_model.specs.declared.schema.Table.{Table}
use Rattle.store_layout.specs.DiskLayout.{DiskLayout}
use Rattle.store_layout.specs.FirstBrokenRule.{KeepsLimits}
use Rattle.page_locks.specs.LockChanges.{page_of}
use Rattle.page_locks.specs.LockHolders.{LockState, holder}
use Rattle.page_map.specs.PageMap.{PageMap}
use Rattle.heap_rows.specs.Heaps.{no_table}
use Rattle.coverage.specs.PageOrder.{AreNewPages}
use Rattle.coverage.specs.Statements.{AreLawful}
use Rattle.index_contents.specs.IndexContents.{contents, relation_of}
use Rattle.coverage.specs.TableCovered.{IsNewTable}
use Rattle.index_steps.specs.IndexTuples.{contents_of, index_at, seen, shape_of}
use Rattle.index_steps.specs.ShownTable.{indexes_of, shown_at}
use Rattle.index_steps.proofs.Lawful.{its_pages}
use Rattle.script_semantics.specs.Starts.{IsLaidOut}
use Rattle.session_starts.specs.NewTables.{IsNewIndex, new_table}

-- an element at a place below the length
there_is : {A : Type 0} (xs : List A) (i : ℕ) → i < length xs → slice_get xs i ≡ None → ⊥
there_is [] i low none = absurd (omega (arith, low))
there_is (x ∷ xs) zero low none = none-some x (sym none)
there_is (x ∷ xs) (suc i) low none = there_is xs i (omega (arith, low)) none

-- an element that is there is the one by number
found_at : {A : Type 0} (xs : List A) (i : ℕ) (x d : A) → slice_get xs i ≡ Some x → slice_index_or xs i d ≡ x
found_at [] i x d is = absurd (none-some x is)
found_at (y ∷ xs) zero x d is = same_Some y x is
found_at (y ∷ xs) (suc i) x d is = found_at xs i x d is

-- which numbers are listed
abbrev pub AreListed : DiskLayout → Type 0
AreListed layout = (table at n : ℕ) → slice_get (indexes_of layout table) at ≡ Some n → (n < length layout.schema.indexes) × ((index_at layout n).table ≡ table)

module _ (layout : DiskLayout) (pages : PageMap) (locks : LockState) (limits : KeepsLimits layout.schema layout.sizes) (unlocked : (page : Place) → holder locks page ≡ None)
    (new : (index : ℕ) → index < length layout.schema.indexes → IsNewIndex (contents layout pages index))
    (lawful : (index : ℕ) → index < length layout.schema.indexes → AreLawful (contents_of (shape_of layout index))) where
  -- the number is one of the layout's, where there is one
  abbrev IsBelow : Option ℕ → Type 0
  IsBelow o = (n : ℕ) → o ≡ Some n → n < length layout.schema.indexes

  entry_at : (o : Option ℕ) → IsBelow o → (range : ℕ) → (shown_at layout pages locks o).entry range ≡ None
  entry_at None below range = refl
  entry_at (Some n) below range = (new n (below n refl)).entry range

  tuple_at : (o : Option ℕ) → IsBelow o → (x : Spot) → (shown_at layout pages locks o).tuple x ≡ None
  tuple_at None below x = refl
  tuple_at (Some n) below x = ap (option_map (seen (shape_of layout n))) ((new n (below n refl)).bytes x)

  lock_at : (o : Option ℕ) (page : ℕ) → (shown_at layout pages locks o).lock page ≡ None
  lock_at None page = refl
  lock_at (Some n) page = unlocked (page_of (relation_of layout n) page)

  pages_at : (o : Option ℕ) → IsBelow o → (o ≡ None → ⊥) → AreNewPages (shown_at layout pages locks o).pages
  pages_at None below some = absurd (some refl)
  pages_at (Some n) below some = (new n (below n refl)).pages

  lawful_at : (o : Option ℕ) → IsBelow o → (o ≡ None → ⊥) → AreLawful (shown_at layout pages locks o).contents
  lawful_at None below some = absurd (some refl)
  lawful_at (Some n) below some = lawful n (below n refl)

  ranged_at : (o : Option ℕ) → IsBelow o → (o ≡ None → ⊥) → 0 < (shown_at layout pages locks o).pages_per_range
  ranged_at None below some = absurd (some refl)
  ranged_at (Some n) below some = omega (arith, (its_pages layout n (below n refl) limits).0)

  pub new_table_shown : AreListed layout → (table : ℕ) (counts : ℕ → Bool) → IsNewTable (new_table layout pages locks table counts)
  new_table_shown listed table counts =
      let below : (i : ℕ) → IsBelow (slice_get (indexes_of layout table) i) = λ i n is. (listed table i n is).0 in
      let some : (i : ℕ) → i < length (indexes_of layout table) → slice_get (indexes_of layout table) i ≡ None → ⊥ = there_is (indexes_of layout table) in
      record {
        resting = λ s. refl;
        free = refl;
        row = λ b k. refl;
        entry = λ i range. entry_at (slice_get (indexes_of layout table) i) (below i) range;
        tuple = λ i x. tuple_at (slice_get (indexes_of layout table) i) (below i) x;
        lock = λ i p. lock_at (slice_get (indexes_of layout table) i) p;
        unnamed = λ i x. refl;
        pages = λ i low. pages_at (slice_get (indexes_of layout table) i) (below i) (some i low);
        lawful = λ i low. lawful_at (slice_get (indexes_of layout table) i) (below i) (some i low);
        ranged = λ i low. ranged_at (slice_get (indexes_of layout table) i) (below i) (some i low);
      }

module _ (layout : DiskLayout) (pages : PageMap) (locks : LockState) (table : ℕ) (counts : ℕ → Bool) where
  declared_at : (n : ℕ) (o : Option ℕ) → o ≡ Some n → ◌≡◌ {A = ℕ} (shown_at layout pages locks o).pages.limit layout.sizes.index_blocks
  unfolding contents
  declared_at n o is = ap (λ (p : Option ℕ). (shown_at layout pages locks p).pages.limit) is

  pub new_table_laid_out : IsLaidOut layout table (new_table layout pages locks table counts)
  new_table_laid_out = record {
    indexes = refl;
    index = λ at number is. record {
      contents = ap (λ (o : Option ℕ). (shown_at layout pages locks o).contents) is;
      pages_per_range = ap (λ (o : Option ℕ). (shown_at layout pages locks o).pages_per_range) is;
      autosummarize = ap (λ (o : Option ℕ). (shown_at layout pages locks o).autosummarize) is;
      limit = declared_at number (slice_get (indexes_of layout table) at) is;
    };
    slots = λ declared is. ap (λ (t : Table). t.rows_per_page) (found_at layout.schema.tables table declared no_table is);
    limit = refl;
  }
