-- The arguments of a line. Assumes nothing.
use Rattle.std.proofs.Common.{◌≡◌, ℕ, List, Some, None, Ok, Option, Result, refl, ap, ◌∙◌}
use Rattle.std.specs.Option.{option_map, ok_or}
use Rattle.script_words.specs.Arguments.{◌then◌, due, argument}
use Rattle.script_words.specs.Told.{told}
use Rattle.script_words.specs.declared.fault.Fault.{Fault}

meant : {A : Type 0} (f : Fault) (o : Option A) (rest : List ℕ) → told (λ x. x) (ok_or o f) rest ≡ ok_or (option_map (λ x. (x, rest)) o) f
meant f None rest = refl
meant f (Some x) rest = refl

-- an argument whose word was read
pub one_word : {A : Type 0} (meaning : List ℕ → Option A) (f : Fault) (r : Result A Fault) (line w rest : List ℕ) → Ok (w, rest) ≡ due line → r ≡ ok_or (meaning w) f → told (λ x. x) r rest ≡ argument meaning f line
one_word meaning f r line w rest here e = ap (λ r. told (λ x. x) r rest) e ∙ meant f (meaning w) rest ∙ ap (λ d. d then λ w rest. ok_or (option_map (λ x. (x, rest)) (meaning w)) f) here
