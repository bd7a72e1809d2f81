use Rattle.std.proofs.Common.{ℕ, ◌^◌, nat_lt, Bool, ◌&&◌, cond, length, None, Some, ap, ◌∙◌}
use Rattle.block_model.specs.Names.{is_digit}
use Rattle.std.specs.List.{list_all}
use Rattle.value_text.specs.Digits.{digits_from}
use Rattle.query_words.proofs.CappedNumbers.{capped}
use Rattle.query_words.proofs.block.read_block.Goals as goal

pub returns : goal.returns
returns c =
    c.below_limit.ensures
    ∙ ap (λ (b : Bool). cond (b && nat_lt c.number_up_to.result (2 ^ 32)) (Some c.number_up_to.result) None) c.are_digits.ensures
    ∙ ap (λ (n : ℕ). cond ((nat_lt 0 (length c.args.word.now) && list_all is_digit c.args.word.now) && nat_lt n (2 ^ 32)) (Some n) None) c.number_up_to.ensures
    ∙ capped (nat_lt 0 (length c.args.word.now) && list_all is_digit c.args.word.now) (digits_from 0 c.args.word.now)
