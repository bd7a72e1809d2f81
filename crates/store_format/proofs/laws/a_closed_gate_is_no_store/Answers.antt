use Rattle.std.proofs.Common.{List, ℕ, get_or, sym, ◌∙◌, ap, arith}
use Rattle.std.proofs.lemmas.List.{get_or-take}
use Rattle.store_format.proofs.Made.{first_of_control}
use Rattle.store_format.proofs.laws.a_closed_gate_is_no_store.Goals as goal

pub returns : goal.returns
returns c layout image closed has =
    closed
    (sym (get_or-take 8192 image 0 0 (omega arith)) ∙ ap (λ (l : List ℕ). get_or l 0 0) has.bytes ∙ first_of_control layout 1 _)
