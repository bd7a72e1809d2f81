-- Building the command, one argument at a time.
use Rattle.std.proofs.Common.{◌≡◌, ◌∙◌, ◌<◌, ◌+◌, ◌++◌, refl, sym, ap, List, [], ◌∷◌, map, take, length, slice_index_or, ℕ, Bor, zero, suc, arith, add-one}
use Rattle.clap.specs.Walk.{Rule}
use Rattle.clap.specs.Simple.{with_rule}
use Rattle.command_line.specs.CommandWords.{Text}
use Rattle.command_line.specs.ClapCommands.{leaf_app, raw_option}

raws_more : (xs : List (Bor Text)) (i : ℕ) (d : Bor Text) → i < length xs
    → map raw_option (map (λ o. o.now) (take (suc i) xs)) ≡ map raw_option (map (λ o. o.now) (take i xs)) ++ raw_option (slice_index_or xs i d).now ∷ []
raws_more [] i d lt = absurd (omega arith)
raws_more (x ∷ xs) zero d lt = refl
raws_more (x ∷ xs) (suc i) d lt = ap (λ (rs : List Rule). raw_option x.now ∷ rs) (raws_more xs i d (omega arith))

pub app_more : (name : Text) (xs : List (Bor Text)) (i : ℕ) (d : Bor Text) → i < length xs
    → with_rule (leaf_app name (map raw_option (map (λ o. o.now) (take i xs)))) (raw_option (slice_index_or xs i d).now) ≡ leaf_app name (map raw_option (map (λ o. o.now) (take (i + 1) xs)))
app_more name xs i d lt = ap (λ (rs : List Rule). leaf_app name rs) (sym (raws_more xs i d lt)) ∙ ap (λ k. leaf_app name (map raw_option (map (λ o. o.now) (take k xs)))) (sym (add-one i))
