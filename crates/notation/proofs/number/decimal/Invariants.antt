use Rattle.std.proofs.Common.{◌≡◌, min, true, take}
use Rattle.std.specs.Char.{is_ascii_digit}
use Rattle.std.specs.List.{list_all}
use Rattle.notation.specs.Numbers.{number}
use Rattle.notation.proofs.Sizes.{top}
use Rattle.notation.proofs.number.decimal.Given as goal

abbrev pub invariant-loop-c : goal.invariant-loop-c
invariant-loop-c l = record {
  value : l.n ≡ min (number (take l.c-index l.word)) top;
  digits : list_all is_ascii_digit (take l.c-index l.word) ≡ true;
}
