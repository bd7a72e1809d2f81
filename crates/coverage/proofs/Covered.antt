-- What every step keeps makes the index covered.
use Rattle.std.proofs.Common.{◌≡◌, ◌⊎◌, inl, inr, ⊎_elim, ℕ, Some, sym, ◌∙◌, ap, subst}
use Rattle.std.specs.Prelude.{IsTrue}
use Rattle.std.proofs.lemmas.Option.{same_Some}
use Rattle.block_model.specs.declared.place.Spot.{Spot}
use Rattle.coverage.specs.IndexView.{IndexTuple, IndexView, range_of_block, IsTupleOf}
use Rattle.coverage.specs.GoesOn.{IsHeld}
use Rattle.coverage.specs.Statements.{OnIndex, Held, Copied, Phase, NotBuilding, Evacuating, IsAt, Statement, Idle, Inserting, Maintaining, Holding, Scanning}
use Rattle.coverage.specs.Statements.{IsAdded, loose_of}
use Rattle.coverage.specs.Knowing.{KnowsOnIndex, MakesUnited, MakesNone, MakesSame, KnowsPhase, Knows}
use Rattle.coverage.specs.IsCovered.{IndexState, index_view, OnIndexHolds, PhaseHolds, StatementHolds, IsCovered, IsIndexKept}
use Rattle.coverage.proofs.Settled.{accounted_settled}
use Rattle.coverage.proofs.Formed.{named_formed, held_formed}

on_index_held : (w : IndexView) (s m : ℕ) (Makes : IndexTuple → IndexTuple → Type 0) (on_index : OnIndex) → KnowsOnIndex w s m Makes on_index
    → (range : ℕ) (x : Spot) → OnIndexHolds m on_index range x → IsHeld w range x
on_index_held w s m Makes (Held y) known range x holds = subst (λ n. IsHeld w n x) holds.0 (subst (λ z. IsHeld w m z) holds.1 known.1)
on_index_held w s m Makes (Copied y old new) known range x holds = subst (λ n. IsHeld w n x) holds.0 (subst (λ z. IsHeld w m z) holds.1 known.1)
on_index_held w s m Makes _ known range x holds = absurd holds

phase_held : (w : IndexView) (s m : ℕ) (phase : Phase) → KnowsPhase w s m phase → (range : ℕ) (x : Spot) → PhaseHolds m phase range x → IsHeld w range x
phase_held w s m (NotBuilding on_index) known range x holds = on_index_held w s m MakesNone on_index known range x holds
phase_held w s m (Evacuating n on_index) known range x holds = on_index_held w s n MakesSame on_index known.1 range x holds
phase_held w s m (IsAt p on_index) known range x holds = on_index_held w s m (MakesUnited p) on_index known.0 range x holds
phase_held w s m _ known range x holds = absurd holds

statement_held : (w : IndexView) (s : ℕ) (d : Statement) → Knows w s d → (range : ℕ) (x : Spot) → StatementHolds w d range x → IsHeld w range x
statement_held w s Idle known range x holds = absurd holds
statement_held w s (Inserting b k r on_index) known range x holds = on_index_held w s (range_of_block w b) (IsAdded r) on_index known.2 range x holds
statement_held w s (Maintaining m phase) known range x holds = phase_held w s m phase known.1 range x holds
statement_held w s Holding known range x holds = absurd holds
statement_held w s (Scanning scan) known range x holds = known.1 range x holds

pub kept_covered : (w : IndexState) → IsIndexKept w → IsCovered w
kept_covered w kept = record {
  rows_settled = λ b k r there counts. elim (kept.rows b k r there counts) [ inl a ↦ inl (accounted_settled (index_view w) kept.sound b r a) | inr i ↦ inr i ];
  entries_name_tuples = λ range x named.
      let t = kept.sound.entries_name_tuples range x named in
      (t.0, t.1, t.2, named_formed (index_view w) range x t.0 kept.sound named t.1);
  tuples_are_named = λ x t here. ⊎_elim
      (λ (e : w.entry t.range ≡ Some x). inl e)
      (λ (o : ((s : ℕ) × (loose_of (w.statement s) ≡ Some x)) ⊎ IsTrue (w.unnamed x)). ⊎_elim
      (λ (l : (s : ℕ) × (loose_of (w.statement s) ≡ Some x)). inr (inl (l.0, l.1, kept.sound.loose_is_locked l.0 x l.1)))
      (λ (u : IsTrue (w.unnamed x)). inr (inr u))
      o)
      (kept.sound.tuples_are_named x t here);
  one_builder_a_table = λ s n range m p q is other. same_Some _ _ (sym (kept.sound.builder_holds s range p is) ∙ kept.sound.builder_holds n m q other);
  held_places_were_named = λ s range x holds. statement_held (index_view w) s (w.statement s) (kept.knows s) range x holds;
  held_tuples_include = λ s scan is range x held t here of final b k r sees there within.
      let known = subst (λ d. Knows (index_view w) s d) is (kept.knows s) in
      let row = known.2 b k sees in
      subst (λ q. IsTrue (t.includes q)) (same_Some _ _ (sym row.1.there ∙ there))
      (row.1.shown x (held ∙ ap (λ m. Some (m, x)) (sym within)) t here (of ∙ sym within) final);
}

-- a tuple of the range at a place that a statement holds is one of the index
pub read_formed : (w : IndexState) (s range : ℕ) (x : Spot) (t : IndexTuple) → IsIndexKept w → StatementHolds (index_view w) (w.statement s) range x
    → w.tuple x ≡ Some t → t.range ≡ range → IsTupleOf (index_view w) t
read_formed w s range x t kept holds here of = held_formed (index_view w) range x t kept.sound
    (statement_held (index_view w) s (w.statement s) (kept.knows s) range x holds) here of
