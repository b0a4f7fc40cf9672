-- How long a message can be without outcome at one end. Assumes nothing.
use Rattle.std.specs.Prelude.{◌≡◌, ℕ, ◌+◌, ◌<◌, Bool, true, false, ◌||◌, List, [], ◌∷◌, nat_lt}
use Rattle.packet.specs.Refusals.{Answer, refused, gave}
use Rattle.station.specs.End.{End, Done, submission, arrival, timeout, awaiting}
use Rattle.station.specs.Runs.{Call, Submit, Arrive, Expire, Take, Give, Collect, Set, after}

-- the oldest message without outcome arrived or was given up
abbrev pub settles : Answer Done → Bool
settles (refused n) = false
settles (gave d) = nat_lt 0 (d.arrivals + d.give_ups)

-- how many timeouts are among the calls
abbrev pub timeouts : List Call → ℕ
timeouts [] = 0
timeouts (Submit m ∷ ks) = timeouts ks
timeouts (Arrive b ∷ ks) = timeouts ks
timeouts (Expire ∷ ks) = 1 + timeouts ks
timeouts (Take n ∷ ks) = timeouts ks
timeouts (Give line buffer ∷ ks) = timeouts ks
timeouts (Collect ∷ ks) = timeouts ks
timeouts (Set f ∷ ks) = timeouts ks

-- by a kind with c check bytes
module _ (c : ℕ) (check : List ℕ → List ℕ) where
  abbrev pub call_settles : Call → End → Bool
  call_settles (Submit m) e = settles (submission e m)
  call_settles (Arrive b) e = settles (arrival c check e b)
  call_settles Expire e = settles (timeout e)
  call_settles (Take n) e = false
  call_settles (Give line buffer) e = false
  call_settles Collect e = false
  call_settles (Set f) e = false

  -- one of the calls gives the message that is current at first its outcome
  abbrev pub outcome_comes : End → List Call → Bool
  outcome_comes e [] = false
  outcome_comes e (k ∷ ks) = call_settles k e || outcome_comes (after c check k e) ks

  -- While a message is under way it gets its outcome within M + 1 timeouts, whatever else is called; M is the attempt
  -- limit, which no call changes then.
  abbrev pub InTime : End → Type 0
  InTime e =
      awaiting e.primary.phase ≡ true → (ks : List Call) → e.settings.attempt_limit < timeouts ks → outcome_comes e ks ≡ true
