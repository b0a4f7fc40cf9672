-- The two lists that the table of send buffers stands for, oldest first. Assumes nothing.
use Rattle.std.specs.Prelude.{◌≡◌, ℕ, ◌+◌, ◌-◌, List, [], ◌∷◌, ◌++◌, replicate, slice_index_or}
use Rattle.std.proofs.Common.{lit≤}
use Rattle.buffer.specs.Buffers.{contents}
use Rattle.buffer.specs.Turns.{turns}
use Rattle.primary.specs.declared.outcome.Outcome.TheVariants.{Arrived}
use Rattle.primary.specs.declared.buffers.SendBuffer.{SendBuffer}
use Rattle.primary.specs.declared.buffers.SendBuffers.{SendBuffers}
use Rattle.primary.specs.Outcomes.{outcome_number}

abbrev pub message_in : SendBuffer → List ℕ
message_in b = contents b.message

abbrev pub outcome_in : SendBuffer → ℕ
outcome_in b = outcome_number b.outcome

abbrev pub blank : SendBuffer
blank = record { message = record { memory = replicate 96 0; len = 0; fits = lit≤ tt }; outcome = Arrived }

-- the messages without outcome
abbrev pub unsettled : SendBuffers → List (List ℕ)
unsettled t = turns message_in blank t.buffers t.head t.done (t.used - t.done)

-- the numbers of the outcomes not collected
abbrev pub uncollected : SendBuffers → List ℕ
uncollected t = turns outcome_in blank t.buffers t.head 0 t.done

-- the message in the record at a place of the table, whether it is in use or free
abbrev pub message_at : ℕ → SendBuffers → List ℕ
message_at place t = message_in (slice_index_or t.buffers place blank)

-- from t to t' the message m was added
pub record Accepted (m : List ℕ) (t t' : SendBuffers) : Type 0 where
  pub waits : unsettled t' ≡ unsettled t ++ m ∷ []
  pub told : uncollected t' ≡ uncollected t
  pub done : t'.done ≡ t.done
  pub used : t'.used ≡ t.used + 1
