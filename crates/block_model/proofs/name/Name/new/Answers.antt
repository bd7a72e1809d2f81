use Rattle.std.proofs.Common.{◌≡◌, ℕ, ◌∙◌, true, List, ◌++◌, length, take, drop, ap}
use Rattle.std.specs.Prelude.{replicate}
use Rattle.std.proofs.lemmas.List.{drop-replicate}
use Rattle.std.proofs.Math.Seq.{take-append_seam}
use Rattle.block_model.specs.Names.{is_name}
use Rattle.block_model.specs.Padded.{IsPadded, is_padded}
use Rattle.block_model.proofs.NameBytes.{name_fits}
use Rattle.block_model.proofs.name.Name.new.Goals as goal

-- the bytes of a name, written over zeros
over_zeros : (bytes written : List ℕ) → written ≡ bytes → is_name bytes ≡ true → IsPadded 16 0 (written ++ drop (length bytes) (replicate 16 0)) (length bytes)
over_zeros bytes written e h = is_padded 16 0 bytes _ (name_fits bytes h) (λ i. e i ++ drop-replicate (length bytes) 16 0 i)

its_name : (bytes written behind : List ℕ) → written ≡ bytes → is_name bytes ≡ true → is_name (take (length bytes) (written ++ behind)) ≡ true
its_name bytes written behind e h = ap (λ l. is_name (take (length bytes) (l ++ behind))) e ∙ ap is_name (take-append_seam bytes behind) ∙ h

pub invariant_of-result : goal.invariant_of-result
invariant_of-result c =
    let is : is_name c.args.bytes.now ≡ true = cc in
    (over_zeros c.args.bytes.now c.copy_from_slice.new.self c.copy_from_slice.ensures.after is, its_name c.args.bytes.now c.copy_from_slice.new.self _ c.copy_from_slice.ensures.after is)
