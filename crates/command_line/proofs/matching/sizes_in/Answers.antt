use Rattle.std.proofs.Common.{◌∙◌, sym, refl}
use Rattle.command_line.proofs.SizeLemmas.{size_is, sizes_are}
use Rattle.command_line.proofs.matching.sizes_in.Goals as goal

pub returns : goal.returns
returns c = λ said s. sizes_are said _ _ _ _ _
    (size_is 4096 _ _ (sym c.in_ok-size_in.was ∙ c.size_in.ensures said s refl))
    (size_is 1024 _ _ (sym c.in_ok-size_in-2.was ∙ c.size_in-2.ensures said s refl))
    (size_is 4 _ _ (sym c.in_ok-size_in-3.was ∙ c.size_in-3.ensures said s refl))
    (size_is 128 _ _ (sym c.in_ok-size_in-4.was ∙ c.size_in-4.ensures said s refl))
    (size_is 256 _ _ (sym c.in_ok-size_in-5.was ∙ c.size_in-5.ensures said s refl))
