-- Numbers of a script. Assumes nothing.
use Rattle.std.specs.Prelude.{ℕ, ◌+◌, ◌-◌, ◌*◌, min, cond, not, ◌&&◌, List, length, Some, None, fold, Option, ◌==◌, nat_le}
use Rattle.std.specs.Char.{is_ascii_digit}
use Rattle.std.specs.List.{list_all}
use Rattle.std.specs.Option.{option_map}

-- the number that decimal digits write
abbrev pub number : List ℕ → ℕ
number word = fold (λ n c. n * 10 + (c - 0x30)) 0 word

-- one or more decimal digits, of a number of any size
abbrev pub decimal : List ℕ → Option ℕ
decimal word = cond (list_all is_ascii_digit word && not (length word == 0)) (Some (number word)) None

-- the same, of a number from 0 to the largest
abbrev pub size : ℕ → List ℕ → Option ℕ
size largest word = cond (nat_le (number word) largest) (decimal word) None

-- the number of digits, or the most where it is larger
abbrev pub size_up_to : ℕ → List ℕ → Option ℕ
size_up_to most word = option_map (λ n. min n most) (decimal word)
