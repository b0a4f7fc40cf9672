-- What a call on an end did, in print. Assumes nothing.
use Rattle.std.specs.Prelude.{ℕ, List, [], ◌∷◌, ◌++◌, take, codes, decimal, Option}
use Rattle.std.specs.Option.{option_map, unwrap_or}
use Rattle.notation.specs.Hex.{hex}
use Rattle.packet.specs.Refusals.{Answer, refused, gave}
use Rattle.primary.specs.declared.event.Timer.{Timer}
use Rattle.primary.specs.Names.{timer_text}
use Rattle.primary.specs.declared.outcome.Tally.{Tally}
use Rattle.primary.specs.Outcomes.{tally_text}
use Rattle.station.specs.End.{Done, burst}
use Rattle.station.specs.Reports.{Told, telling}
use Rattle.answers.specs.Lines.{end, refusal, text_or_none}

-- the letter that is sent
abbrev pub letter_text : Option ℕ → List ℕ
letter_text l = text_or_none (λ x. x ∷ []) l

-- `enq:200`
abbrev pub started_text : Timer × ℕ → List ℕ
started_text t = timer_text t.0 ++ (codes ":" ++ decimal t.1)

abbrev pub tally : Told → Tally
tally t = record { arrived = t.arrivals; given_up = t.give_ups; no_connection = t.no_connections }

-- `sent=E burst=024503C8`, with the burst that was sent
abbrev pub sent_text : Told → List ℕ → List ℕ
sent_text t b = codes "sent=" ++ (letter_text (option_map (λ p. p.0) t.sent) ++ (codes " burst=" ++ hex b))

-- `timer=enq:200 outcomes=0,0,0`
abbrev pub rest_text : Told → List ℕ
rest_text t = codes "timer=" ++ (text_or_none started_text t.timer ++ (codes " outcomes=" ++ tally_text (tally t)))

-- `sent=E burst=024503C8 timer=enq:200 outcomes=0,0,0`
abbrev pub report : Told → List ℕ → List ℕ
report t b = sent_text t b ++ (codes " " ++ (rest_text t ++ end))

abbrev pub sent_length : Told → ℕ
sent_length t = unwrap_or (option_map (λ p. p.1) t.sent) 0

-- the burst that was sent, at the front of its place
abbrev pub placed_burst : Told → List ℕ → List ℕ
placed_burst t place = take (sent_length t) place

-- what a call answers, behind a word
abbrev pub told_line : List ℕ → Answer Told → List ℕ → List ℕ
told_line word (refused n) place = refusal n
told_line word (gave t) place = word ++ report t (placed_burst t place)

-- what a call does, behind a word, by the check bytes of a kind
abbrev pub done_line : (List ℕ → List ℕ) → List ℕ → Answer Done → List ℕ
done_line check word (refused n) = refusal n
done_line check word (gave d) = word ++ report (telling check d) (burst check d.sent)

-- `outcome=1`
abbrev pub outcome_line : Answer ℕ → List ℕ
outcome_line (refused n) = refusal n
outcome_line (gave o) = codes "outcome=" ++ (decimal o ++ end)

abbrev pub set_line : {A : Type 0} → Answer A → List ℕ
set_line (refused n) = refusal n
set_line (gave s) = codes "set" ++ end
