use Rattle.std.proofs.Common.{◌≡◌, ◌+◌, ◌++◌, ℕ, [], ◌∷◌, cond, refl, ap, ◌∙◌, arith}
use Rattle.bitmap_scan.specs.ScanHands.{is_candidate}
use Rattle.bitmap_scan.proofs.Listing.{one_more}
use Rattle.bitmap_scan.proofs.explain.list.Goals as goal

pub candidates-preserved : goal.candidates-preserved
candidates-preserved c =
    let n = c.candidates.candidate-index in
    let p = is_candidate c.args.candidates.now in
    let block : c.candidates.block ≡ n = c.candidates.invariant.block in
    record {
      block = ap (λ (b : ℕ). b + 1) block;
      listed = one_more p n c.candidates.blocks.items c.list_if.new.blocks.items c.candidates.invariant.listed (p n) refl
          (c.list_if.ensures.listed ∙ ap (λ (b : ℕ). c.candidates.blocks.items ++ cond (p n) (b ∷ []) []) block);
      few = omega (arith, c.list_if.ensures.few, c.candidates.invariant.few);
      room = c.list_if.ensures.room ∙ c.candidates.invariant.room;
    }
