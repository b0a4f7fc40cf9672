-- The delivery that an end has out, over the calls that leave it out. Assumes nothing.
use Rattle.std.proofs.Common.{◌≡◌, ℕ, ◌+◌, ◌-◌, ◌%◌, ◌<◌, min, Bool, true, false, cond, not, eqb, ltb, List, [], ◌∷◌, length, get_or, Some, None, Option, refl, ap, arith, length-append}
use Rattle.packet.specs.declared.number.Number.{Number}
use Rattle.packet.specs.declared.number.Number.TheVariants.{Zero, One}
use Rattle.packet.specs.Format.{Parts, parts, reading}
use Rattle.packet.specs.Letters.{between}
use Rattle.packet.specs.Refusals.{Answer, refused, gave, ◌⇒◌, judged}
use Rattle.primary.specs.Station as primary
use Rattle.primary.specs.Table.{step_of}
use Rattle.secondary.specs.declared.reply.Answer.{Answer as Reply}
use Rattle.secondary.specs.Station.{Station, or_kept, free_buffers, stored}
use Rattle.secondary.proofs.Outs.{turned, roomy}
use Rattle.settings.specs.declared.values.Settings.{Settings}
use Rattle.station.specs.End.{End, limit, hears, by_primary, by_secondary, enq_heard, data_heard, after_reading, arrival, left_by, set_by, seen}
use Rattle.end_bench.specs.Fair.{Slip, lent_by}

-- the delivery that is out at an end
abbrev pub lent_at : End → Option Slip
lent_at e = lent_by e.secondary

by_primary_lent : (e : End) (x : Answer primary.Did) → lent_at (left_by (seen (by_primary e) x) e) ≡ lent_at e
by_primary_lent e (refused n) = refl
by_primary_lent e (gave d) = refl

pub heard_lent : (e : End) (h : primary.Heard) → lent_at (left_by (hears e h) e) ≡ lent_at e
heard_lent e h = by_primary_lent e (step_of e.settings.attempt_limit e.primary h)

pub set_lent : (e : End) (x : Answer Settings) → lent_at (set_by x e) ≡ lent_at e
set_lent e (refused n) = refl
set_lent e (gave s) = refl

stored_lent : (n : Number) (m : List ℕ) (s : Station) → length s.held < 8 → lent_by (stored n m s) ≡ lent_by s
stored_lent n m s lt =
    ap (λ b. cond s.out (Some (s.line, b)) None) (turned s.next (length s.held) _ lt (length-append s.held (m ∷ [])))

-- `t` refuses the message, `u` says that a buffer is free
data_lent : (e : End) (t u : Bool) (n : Number) (m : List ℕ) (r : Option Reply) → (u ≡ true → length e.secondary.held < 8)
    → lent_at (left_by (seen (by_secondary e (or_kept (judged (t ⇒ 16 ∷ []) (cond u (stored n m e.secondary) e.secondary)) e.secondary)) (judged (t ⇒ 16 ∷ []) r)) e) ≡ lent_at e
data_lent e true u n m r lt = refl
data_lent e false true n m r lt = stored_lent n m e.secondary (lt refl)
data_lent e false false n m r lt = refl

data_heard_lent : (e : End) (n : Number) (m : List ℕ) → lent_at (left_by (data_heard e n m) e) ≡ lent_at e
data_heard_lent e n m =
    data_lent e (not (between 1 96 (length m))) (ltb 0 (free_buffers (limit e) e.secondary)) n m _ (roomy (limit e) (length e.secondary.held))

reading_lent : (e : End) (a : Answer Parts) → lent_at (left_by (after_reading e a) e) ≡ lent_at e
reading_lent e (refused n) = refl
reading_lent e (gave (parts l p f)) = go (eqb l 0x45) (eqb l 0x30) (eqb l 0x31) (eqb l 0x41) (eqb l 0x42)
  where
    go : (a b c d x : Bool)
        → lent_at (left_by (cond a (enq_heard e) (cond b (data_heard e Zero f) (cond c (data_heard e One f) (cond d (hears e (primary.ack false (get_or f 0 0 - 0x30))) (cond x (hears e (primary.ack true (get_or f 0 0 - 0x30))) (hears e primary.reset)))))) e)
        ≡ lent_at e
    go true b c d x = refl
    go false true c d x = data_heard_lent e Zero f
    go false false true d x = data_heard_lent e One f
    go false false false true x = heard_lent e (primary.ack false (get_or f 0 0 - 0x30))
    go false false false false true = heard_lent e (primary.ack true (get_or f 0 0 - 0x30))
    go false false false false false = heard_lent e primary.reset

pub arrival_lent : (c : ℕ) (check : List ℕ → List ℕ) (e : End) (b : List ℕ) → lent_at (left_by (arrival c check e b) e) ≡ lent_at e
arrival_lent c check e b = reading_lent e (reading c check b)
