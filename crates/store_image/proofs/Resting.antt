-- An index at which nobody is at work, told by its entries, tuples and rows: it rests, and is covered.
use Rattle.std.proofs.Common.{◌≡◌, inl, inr, ℕ, ◌/◌, ◌<◌, Bool, true, false, not, Option, None, Some, refl, sym, ap, ◌∙◌}
use Rattle.std.specs.Prelude.{IsTrue}
use Rattle.std.proofs.lemmas.Bool.{false≢true}
use Rattle.std.proofs.lemmas.Option.{none-some}
use Rattle.block_model.specs.declared.place.Spot.{Spot}
use Rattle.block_model.specs.declared.row.Row.{Row}
use Rattle.coverage.specs.IndexView.{IndexTuple, IsTupleOf}
use Rattle.coverage.specs.IsCovered.{IndexState, IsAtRest, IsCovered, index_view}
use Rattle.coverage.specs.IsSettled.{FinalIncludes, IsSettled, NoEntry, NobodyBuilding}
use Rattle.coverage.specs.IsSound.{IsLeftUnnamed}
use Rattle.coverage.specs.Machines.{ShownIndex}
use Rattle.coverage.specs.PageOrder.{AreOrdered}
use Rattle.coverage.specs.Statements.{AreLawful, Idle}
use Rattle.store_image.proofs.Unnamed.{is_named, is_unnamed, named_or_not, names}

-- an index and its table, while nobody is at work
abbrev pub resting_state : ShownIndex → (blocks : ℕ) → (ℕ → ℕ → Option Row) → (counts : ℕ → Bool) → (unnamed : Spot → Bool) → IndexState
resting_state c blocks row counts unnamed = record {
  contents = c.contents;
  pages_per_range = c.pages_per_range;
  blocks = blocks;
  row = row;
  entry = c.entry;
  tuple = c.tuple;
  pages = c.pages;
  lock = c.lock;
  summarise_lock = None;
  unnamed = unnamed;
  statement = λ s. Idle;
  counts = counts;
}

-- each tuple that the map doesn't name
abbrev pub loose_in : ShownIndex → Spot → Bool
loose_in c x = is_unnamed c.entry (c.tuple x) x

-- what is asked of the index alone
pub record IsSoundIndex (c : ShownIndex) (blocks : ℕ) (row : ℕ → ℕ → Option Row) (counts : ℕ → Bool) : Type 0 where
  pub lawful : AreLawful c.contents
  pub ranged : 0 < c.pages_per_range
  pub unlocked : (p : ℕ) → c.lock p ≡ None
  pub ordered : AreOrdered (index_view (resting_state c blocks row counts (loose_in c)))
  pub named : (range : ℕ) (x : Spot) → c.entry range ≡ Some x → (t : IndexTuple) × (c.tuple x ≡ Some t) × (t.range ≡ range) × IsTupleOf (index_view (resting_state c blocks row counts (loose_in c))) t
  pub rows : (b k : ℕ) (r : Row) (x : Spot) (t : IndexTuple) → row b k ≡ Some r → IsTrue (counts r.id.t) → c.entry (b / c.pages_per_range) ≡ Some x → c.tuple x ≡ Some t → t.placeholder ≡ false → IsTrue (t.includes r)

module _ (c : ShownIndex) (blocks : ℕ) (row : ℕ → ℕ → Option Row) (counts : ℕ → Bool) (sound : IsSoundIndex c blocks row counts) where
  abbrev state : IndexState
  state = resting_state c blocks row counts (loose_in c)

  left_unnamed : (x : Spot) → IsTrue (loose_in c x) → IsLeftUnnamed (index_view state) x
  left_unnamed x is = record {
    stands = λ none. false≢true (sym (ap (λ (o : Option IndexTuple). is_unnamed c.entry o x) none) ∙ is);
    unnamed = λ range named.
        let its = sound.named range x named in
        let own : c.entry its.0.range ≡ Some x = ap c.entry its.2 ∙ named in
        let no : loose_in c x ≡ false = ap (λ (o : Option IndexTuple). is_unnamed c.entry o x) its.1 ∙ ap (λ (o : Option Spot). not (names x o)) own ∙ ap not (is_named x) in
        false≢true (sym no ∙ is);
    apart = λ s loose. none-some x loose;
  }

  pub at_rest : IsAtRest (resting_state c blocks row counts (loose_in c))
  at_rest = record { idle = λ s. refl; unlocked = sound.unlocked; free = refl; unnamed_tuples = left_unnamed }

  settled : (b k : ℕ) (r : Row) → row b k ≡ Some r → IsTrue (counts r.id.t) → (e : Option Spot) → c.entry (b / c.pages_per_range) ≡ e → IsSettled (index_view state) b r
  settled b k r here counted None none = NoEntry none
  settled b k r here counted (Some x) named = by_sort its.0.placeholder refl
    where
      its : (t : IndexTuple) × (c.tuple x ≡ Some t) × (t.range ≡ b / c.pages_per_range) × IsTupleOf (index_view state) t
      its = sound.named (b / c.pages_per_range) x named

      by_sort : (sort : Bool) → its.0.placeholder ≡ sort → IsSettled (index_view state) b r
      by_sort true is = NobodyBuilding its.0 (x, named, its.1) is (λ s p building. none-some _ building)
      by_sort false is = FinalIncludes its.0 (x, named, its.1) is (sound.rows b k r x its.0 here counted named its.1 is)

  pub covered : IsCovered (resting_state c blocks row counts (loose_in c))
  covered = record {
    rows_settled = λ b k r here counted. inl (settled b k r here counted (c.entry (b / c.pages_per_range)) refl);
    entries_name_tuples = sound.named;
    tuples_are_named = λ x t here. elim (named_or_not c.entry (c.tuple x) x t here) [ inl named ↦ inl named | inr loose ↦ inr (inr loose) ];
    one_builder_a_table = λ s n range m p q building other. absurd (none-some _ building);
    held_places_were_named = λ s range x holds. absurd holds;
    held_tuples_include = λ s scan is. absurd cc;
  }
