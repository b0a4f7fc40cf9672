use Rattle.std.proofs.Common.{◌≡◌, ◌^◌, ◌<◌, true, take}
use Rattle.std.specs.List.{list_all}
use Rattle.notation.specs.Hex.{is_digit, value}
use Rattle.notation.proofs.hex.pattern.Given as goal

abbrev pub invariant-loop-c : goal.invariant-loop-c
invariant-loop-c l = record {
  value : l.bits ≡ value (take l.c-index l.word);
  fits : l.bits < 16 ^ l.c-index;
  digits : list_all is_digit (take l.c-index l.word) ≡ true;
}
