-- What was carried out stays so, whatever becomes of the answer. Assumes nothing.
use Rattle.std.proofs.Common.{◌≡◌, ◌⊎◌, Ok, Err, Result, inr}
use Rattle.answers.specs.Leaving.{Left}

pub left : {A E X : Type 0} (r : Result A E) (x y z : X) → z ≡ y → Left r x y z
left (Ok a) x y z e = e
left (Err w) x y z e = inr e

-- in either case
pub left_either : {A E X : Type 0} (r : Result A E) (x y z : X) → Left r x y z → (z ≡ x) ⊎ (z ≡ y)
left_either (Ok a) x y z e = inr e
left_either (Err w) x y z e = e
