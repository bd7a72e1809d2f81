-- One more shape that is read.
use Rattle.std.proofs.Common.{◌≡◌, ℕ, ◌+◌, ◌<◌, List, [], ◌∷◌, ◌++◌, drop, length, get_or, sym, ap, ◌∙◌, append_assoc}
use Rattle.std.proofs.lemmas.List.{drop_more}
use Rattle.block_model.specs.declared.value.Value.{Value}
use Rattle.packed_requests.specs.declared.shape.Shape.{Shape}
use Rattle.packed_requests.specs.Shapes.{width}
use Rattle.packed_requests.specs.Reading.{numbers_behind, value_in, values_in}

pub behind_more : (ss : List Shape) (i : ℕ) (s : Shape) (ns ns' all : List ℕ) → i < length ss → s ≡ get_or ss i s → ns' ≡ drop (width s) ns → numbers_behind (drop i ss) ns ≡ all → numbers_behind (drop (i + 1) ss) ns' ≡ all
behind_more ss i s ns ns' all inside is rest told =
    ap (numbers_behind (drop (i + 1) ss)) rest
    ∙ sym (ap (λ (l : List Shape). numbers_behind l ns) (drop_more ss i s inside ∙ ap (λ (x : Shape). x ∷ drop (i + 1) ss) (sym is)))
    ∙ told

pub values_more : (ss : List Shape) (i : ℕ) (s : Shape) (ns ns' : List ℕ) (so so' all : List Value) → i < length ss → s ≡ get_or ss i s → so' ≡ so ++ value_in s ns ∷ [] → ns' ≡ drop (width s) ns
    → so ++ values_in (drop i ss) ns ≡ all → so' ++ values_in (drop (i + 1) ss) ns' ≡ all
values_more ss i s ns ns' so so' all inside is pushed rest told =
    (λ k. pushed k ++ values_in (drop (i + 1) ss) (rest k))
    ∙ append_assoc so (value_in s ns ∷ []) (values_in (drop (i + 1) ss) (drop (width s) ns))
    ∙ sym (ap (λ (l : List Shape). so ++ values_in l ns) (drop_more ss i s inside ∙ ap (λ (x : Shape). x ∷ drop (i + 1) ss) (sym is)))
    ∙ told
