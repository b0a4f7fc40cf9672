use Rattle.std.proofs.Common.{refl, [], ◌∷◌}
use Rattle.std.proofs.lemmas.Bool.{false≢true}
use Rattle.agreement.specs.Stored.{none_left, picked, passed_by}
use Rattle.agreement.proofs.worked_transcripts.Goals as goal

pub returns-clause-stores : goal.returns-clause-stores
returns-clause-stores c = (
  picked tt (passed_by false≢true none_left),
  picked tt (passed_by false≢true none_left),
  passed_by (λ b. b) (passed_by (λ b. b) (passed_by (λ b. b) none_left)),
  picked tt (passed_by false≢true none_left),
  picked refl none_left,
  ((0x4f ∷ 0x4b ∷ []) ∷ [], picked tt (passed_by false≢true none_left)),
)
