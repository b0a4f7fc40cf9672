-- How a line that is carried out leaves things. Assumes nothing.
use Rattle.std.specs.Prelude.{◌≡◌, ◌⊎◌, Ok, Err, Result}

-- Where a line is answered, x becomes y; where memory was wanting for the answer, it is x or y.
abbrev pub Left : {A E X : Type 0} → Result A E → X → X → X → Type 0
Left (Ok a) x y z = z ≡ y
Left (Err e) x y z = (z ≡ x) ⊎ (z ≡ y)
