use Rattle.std.proofs.Common.{◌≡◌, ◌≤◌, ◌^◌, ◌-◌, min, drop}
use Rattle.std.specs.List.{list_all}
use Rattle.block_model.specs.Names.{is_digit}
use Rattle.command_line.specs.CommandWords.{digits_from, number_of}
use Rattle.command_line.proofs.number.read_number.Given as goal

abbrev pub invariant-digits : goal.invariant-digits
invariant-digits l = record {
  rest : min (digits_from l.number (drop l.digit-index l.digits)) (2 ^ 32 - 1) ≡ number_of l.digits;
  small : l.number ≤ 2 ^ 32 - 1;
  digits : list_all is_digit (drop l.digit-index l.digits) ≡ list_all is_digit l.digits;
}
