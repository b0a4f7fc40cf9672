-- What a line promises, in words that come from its calls and their answers alone.
use Rattle.std.specs.Prelude.{◌≡◌, ℕ, ◌≤◌, List, [], ◌++◌, length, Option}
use Rattle.packet.specs.Refusals.{Answer, gave}
use Rattle.medium.specs.declared.offer.Offer.{Offer}
use Rattle.station.specs.End.{Done}
use Rattle.agreement.specs.declared.sides.Side.{Side}
use Rattle.agreement.specs.declared.sides.Side.TheVariants.{West, East}
use Rattle.agreement.specs.Line.{Burst, across, Line}
use Rattle.agreement.specs.Calls.{Call, Said, burst_of, Offers, Step}
use Rattle.agreement.specs.Opening.{opening}
use Rattle.agreement.specs.Transcript.{Transcript, opened, then, accepted, last_answer, read_by, outcome_count, ledger}
use Rattle.agreement.specs.Stored.{Gives, Picks, Begins}
use Rattle.agreement.specs.InTime.{InTime}

-- The line l stands after the calls of the transcript: an opening with nothing under way, and each call.
pub data Reached (c : ℕ) (check : List ℕ → List ℕ) : Transcript → Line → Type 0 where
  at_opening : {w e : List ℕ} (d : Done × Done) {o p : Option Offer} {eastward westward : List Burst}
      → opening w e [] [] ≡ gave d → Offers [] (burst_of check d.0.sent) o eastward → Offers [] (burst_of check d.1.sent) p westward
      → Reached c check (opened w e o p) (record { west_end = d.0.next; east_end = d.1.next; eastward = eastward; westward = westward })
  after : {h : Transcript} {l' : Line} (l : Line) {n : ℕ} {k : Call} {a : Answer Said} {o : Option Offer}
      → Reached c check h l → Step c check l n k a o l' → Reached c check (then h n k a o) l'

-- The promise with side s as the near one.
pub record KeptFor (c : ℕ) (check : List ℕ → List ℕ) (s : Side) (h : Transcript) (l : Line) : Type 0 where
  -- Stored at the far side is what its read-outs gave, then what further ones would.
  pub more : List (List ℕ)
  pub would_give : Gives c check (across s) l more
  pub stored : Picks (last_answer (across s) h) (accepted (ledger s h)) (read_by (across s) h ++ more)
  -- no message that was not accepted, none altered, repeated or out of order ever reaches a user there
  pub read_in_order : Begins (last_answer (across s) h) (accepted (ledger s h)) (read_by (across s) h)
  pub in_time : InTime (ledger s h).waits
  -- each outcome that was told is that of one accepted message, so no more are told than messages were accepted
  pub outcomes : outcome_count s h ≡ length (ledger s h).closed
  pub no_more_outcomes : outcome_count s h ≤ length (accepted (ledger s h))

pub record Kept (c : ℕ) (check : List ℕ → List ℕ) (h : Transcript) (l : Line) : Type 0 where
  pub from_west : KeptFor c check West h l
  pub from_east : KeptFor c check East h l
