-- Worked transcripts: what the words of the promise say of each.
use Rattle.std.specs.Prelude.{◌≡◌, ℕ, Bool, true, false, List, [], ◌∷◌, Some, None, Option}
use Rattle.packet.specs.Refusals.{Answer, refused, gave}
use Rattle.primary.specs.declared.outcome.Outcome.TheVariants.{Arrived, GivenUp, NoConnection}
use Rattle.settings.specs.Frame.{settings_in}
use Rattle.medium.specs.declared.offer.Offer.{Offer}
use Rattle.medium.specs.declared.offer.Offer.TheVariants.{Whole, Spoilt}
use Rattle.agreement.specs.declared.sides.Side.TheVariants.{West, East}
use Rattle.agreement.specs.Calls.{Submit, Arrive, Expire, ReadOut, Set, Said, reported, read, adopted}
use Rattle.agreement.specs.Transcript.{Transcript, opened, then, Fate, unsettled, got, Accepted, accepted, settings_now, last_answer, read_by, outcome_count, ledger}
use Rattle.agreement.specs.Stored.{Picks, Begins}

-- M = 2 at west, M = 3 at east
abbrev frame : ℕ → List ℕ
frame M = 0x01 ∷ 0x00 ∷ 0x06 ∷ 0x00 ∷ 0xc8 ∷ 0x01 ∷ 0x2c ∷ M ∷ 0x08 ∷ []

-- what an end returns that heard this letter and sent a packet of this letter and length, with so many outcomes of each kind
abbrev says : Option ℕ → Option (ℕ × ℕ) → ℕ → ℕ → ℕ → Answer Said
says heard sent a g n = gave (reported heard (record { sent = sent; timer = None; arrivals = a; give_ups = g; no_connections = n }))

abbrev hears : Transcript → ℕ → ℕ → Option (ℕ × ℕ) → Option Offer → Transcript
hears h side letter sent offer = then h side Arrive (says (Some letter) sent 0 0 0) offer

-- both ENQs arrive, and both RESETs that answer them
abbrev up : Transcript
up =
    hears
    (hears (hears (hears (opened (frame 2) (frame 3) (Some Whole) (Some Whole)) 1 0x45 (Some (0x52, 4)) (Some Whole)) 0 0x45 (Some (0x52, 4)) (Some Whole)) 0 0x52 None None) 1 0x52 None None

abbrev OK : List ℕ
OK = 0x4f ∷ 0x4b ∷ []

abbrev NO : List ℕ
NO = 0x4e ∷ 0x4f ∷ []

-- west submits a message, which is sent as DATA_0, or waits
abbrev first : List ℕ → Transcript → Transcript
first m h = then h 0 (Submit m) (says None (Some (0x30, 6)) 0 0 0) (Some Whole)

abbrev waits : List ℕ → Transcript → Transcript
waits m h = then h 0 (Submit m) (says None None 0 0 0) None

-- east stores DATA_0 and acknowledges it; west hears that and sends the next message as DATA_1, which is lost
abbrev passes : Transcript → Transcript
passes h = then (hears h 1 0x30 (Some (0x41, 5)) (Some Whole)) 0 Arrive (says (Some 0x41) (Some (0x31, 6)) 1 0 0) (Some Spoilt)

-- a timeout that sends ENQ, and one that gives up with so many messages behind
abbrev asks_again : Transcript → Transcript
asks_again h = then h 0 Expire (says None (Some (0x45, 4)) 0 0 0) (Some Spoilt)

abbrev gives_up : ℕ → Transcript → Transcript
gives_up n h = then h 0 Expire (says None (Some (0x45, 4)) 0 1 n) (Some Spoilt)

-- two messages, of which the first arrives; then the second is given up, three timeouts later
abbrev two : Transcript
two = passes (waits NO (first OK up))

abbrev lost : Transcript
lost = gives_up 0 (asks_again (asks_again two))

-- three messages, two of them alike, of which none arrives: the first is given up, and the others get no connection
abbrev cut : Transcript
cut = gives_up 2 (asks_again (asks_again (waits NO (waits OK (first OK up)))))

-- two messages that are alike, of which the first arrives
abbrev alike : Transcript
alike = passes (waits OK (first OK up))

-- the first is given up although it was stored, since the answers were lost
abbrev unheard : Transcript
unheard = gives_up 0 (asks_again (asks_again (hears (first OK up) 1 0x30 (Some (0x41, 5)) (Some Spoilt))))

-- east submits a message, which waits
abbrev answering : Transcript
answering = then two 1 (Submit OK) (says None None 0 0 0) None

abbrev entry : List ℕ → Option Bool → Fate → ℕ → ℕ → ℕ → Accepted
entry m n f behind M timeouts = record { message = m; number = n; fate = f; behind = behind; limit = M; timeouts = timeouts }

-- east stored just these of west's messages
abbrev StoredOf : Transcript → List (List ℕ) → Type 0
StoredOf h ms = Picks (last_answer East h) (accepted (ledger West h)) ms

-- the ledgers, and what stands in them of each message
abbrev pub WorkedLedgers : Type 0
WorkedLedgers =
    (accepted (ledger West two) ≡ entry OK (Some false) (got Arrived (Some false)) 0 2 0 ∷ entry NO (Some true) unsettled 1 2 0 ∷ [])
    × (accepted (ledger East two) ≡ [])
    × (last_answer East two ≡ Some false)
    × (accepted (ledger West lost) ≡ entry OK (Some false) (got Arrived (Some false)) 0 2 0 ∷ entry NO (Some true) (got GivenUp (Some false)) 1 2 3 ∷ [])
    -- several outcomes in one call; messages without connection have no number
    × (accepted (ledger West cut) ≡ entry OK (Some false) (got GivenUp None) 0 2 3 ∷ entry OK None (got NoConnection None) 1 2 3 ∷ entry NO None (got NoConnection None) 2 2 3 ∷ [])
    × (outcome_count West cut ≡ 3)
    -- east is a near side too, with its own limit
    × (accepted (ledger East answering) ≡ entry OK None unsettled 0 3 0 ∷ [])
    × (accepted (ledger West answering) ≡ accepted (ledger West two))
    -- a refused call changes no word, and neither does one at no side
    × (ledger West (then two 0 Expire (refused 27) None) ≡ ledger West two)
    × (ledger West (then two 2 Expire (says None (Some (0x45, 4)) 0 1 0) None) ≡ ledger West two)
    × (ledger East (then two 2 (Submit OK) (says None None 0 0 0) None) ≡ ledger East two)
    -- RESET told as sent is the last answer
    × (last_answer East (hears two 1 0x45 (Some (0x52, 4)) (Some Whole)) ≡ None)
    -- read-outs, and a new frame
    × (read_by East (then (then two 1 (ReadOut 96) (gave (read OK)) None) 1 (ReadOut 96) (refused 23) None) ≡ OK ∷ [])
    × (settings_now West (then up 0 (Set (frame 7)) (gave adopted) None) ≡ settings_in (frame 7))
    × (settings_now East (then up 0 (Set (frame 7)) (gave adopted) None) ≡ settings_in (frame 3))

-- what is stored by the ledgers
abbrev pub WorkedStores : Type 0
WorkedStores = StoredOf two (OK ∷ []) × StoredOf lost (OK ∷ []) × StoredOf cut [] × StoredOf alike (OK ∷ []) × StoredOf unheard (OK ∷ []) × Begins (last_answer East two) (accepted (ledger West two)) []
