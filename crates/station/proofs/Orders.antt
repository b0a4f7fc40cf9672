-- The order of deliveries, from that of the secondary station. Assumes nothing.
use Rattle.std.proofs.Common.{◌≡◌, ℕ, ◌-◌, Bool, true, false, cond, not, eqb, List, [], ◌∷◌, ◌++◌, length, get_or, Option, sym, refl, ap, ◌∙◌}
use Rattle.packet.specs.declared.number.Number.{Number}
use Rattle.packet.specs.declared.number.Number.TheVariants.{Zero, One}
use Rattle.packet.specs.Format.{Parts, parts, reading}
use Rattle.packet.specs.Letters.{between}
use Rattle.packet.specs.Refusals.{Answer, refused, gave, ◌⇒◌, judged}
use Rattle.primary.specs.Station as primary
use Rattle.primary.specs.Table.{step_of}
use Rattle.secondary.specs.declared.reply.Answer.{Answer as Reply}
use Rattle.secondary.specs.Laws as deliveries
use Rattle.secondary.specs.Station as secondary
use Rattle.settings.specs.declared.values.Settings.{Settings}
use Rattle.station.specs.End.{End, limit, hears, by_primary, by_secondary, enq_heard, data_heard, after_reading, left_by, set_by, seen, change}
use Rattle.station.specs.Runs.{Call, Submit, Arrive, Expire, Take, Give, Collect, Set, asked_by, after, after_all, asked, asked_all, LeaveInOrder, StaysOut}

-- the primary station's calls leave the secondary alone
apart : (e : End) (x : Answer primary.Did) → (left_by (seen (by_primary e) x) e).secondary ≡ e.secondary
apart e (refused n) = refl
apart e (gave d) = refl

set_apart : (e : End) (x : Answer Settings) → (set_by x e).secondary ≡ e.secondary
set_apart e (refused n) = refl
set_apart e (gave s) = refl

-- DATA is stored or not, as the secondary station has it
either_way : (e : End) (t : Bool) (r : Option Reply) (y : secondary.Station)
    → (left_by (seen (by_secondary e (secondary.or_kept (judged (t ⇒ 16 ∷ []) y) e.secondary)) (judged (t ⇒ 16 ∷ []) r)) e).secondary ≡ secondary.or_kept (judged (t ⇒ 16 ∷ []) y) e.secondary
either_way e true r y = refl
either_way e false r y = refl

data_is : (e : End) (n : Number) (m : List ℕ) → (left_by (data_heard e n m) e).secondary ≡ secondary.after_data (limit e) n m e.secondary
data_is e n m = either_way e (not (between 1 96 (length m))) _ _

arrived : (e : End) (a : Answer Parts) → (left_by (after_reading e a) e).secondary ≡ deliveries.after_all (asked_by e a) e.secondary
arrived e (refused n) = refl
arrived e (gave (parts l p f)) = go (eqb l 0x45) (eqb l 0x30) (eqb l 0x31) (eqb l 0x41) (eqb l 0x42)
  where
    go : (a b c d x : Bool)
        → (left_by (cond a (enq_heard e) (cond b (data_heard e Zero f) (cond c (data_heard e One f) (cond d (hears e (primary.ack false (get_or f 0 0 - 0x30))) (cond x (hears e (primary.ack true (get_or f 0 0 - 0x30))) (hears e primary.reset)))))) e).secondary
        ≡ deliveries.after_all (cond a (deliveries.Enq (limit e) ∷ []) (cond b (deliveries.Data (limit e) Zero f ∷ []) (cond c (deliveries.Data (limit e) One f ∷ []) []))) e.secondary
    go true b c d x = refl
    go false true c d x = data_is e Zero f
    go false false true d x = data_is e One f
    go false false false true x = apart e (step_of e.settings.attempt_limit e.primary (primary.ack false (get_or f 0 0 - 0x30)))
    go false false false false true = apart e (step_of e.settings.attempt_limit e.primary (primary.ack true (get_or f 0 0 - 0x30)))
    go false false false false false = apart e (step_of e.settings.attempt_limit e.primary primary.reset)

-- one call after another
after_both : (cs ds : List deliveries.Call) (s : secondary.Station) → deliveries.after_all (cs ++ ds) s ≡ deliveries.after_all ds (deliveries.after_all cs s)
after_both [] ds s = refl
after_both (k ∷ cs) ds s = after_both cs ds (deliveries.after k s)

module _ (c : ℕ) (check : List ℕ → List ℕ) where
  one : (k : Call) (e : End) → (after c check k e).secondary ≡ deliveries.after_all (asked c check k e) e.secondary
  one (Submit m) e = apart e (step_of e.settings.attempt_limit e.primary (primary.submission m))
  one (Arrive b) e = arrived e (reading c check b)
  one Expire e = apart e (step_of e.settings.attempt_limit e.primary primary.timeout)
  one (Take n) e = refl
  one (Give line buffer) e = refl
  one Collect e = refl
  one (Set f) e = set_apart e (change e f)

  every : (ks : List Call) (e : End) → (after_all c check ks e).secondary ≡ deliveries.after_all (asked_all c check ks e) e.secondary
  every [] e = refl
  every (k ∷ ks) e =
      every ks (after c check k e)
      ∙ ap (deliveries.after_all (asked_all c check ks (after c check k e))) (one k e)
      ∙ sym (after_both (asked c check k e) (asked_all c check ks (after c check k e)) e.secondary)

  pub in_order : (e : End) → deliveries.LeaveInOrder e.secondary → LeaveInOrder c check e
  in_order e law ks =
      ap (λ (s : secondary.Station). deliveries.given_all [] (asked_all c check ks e) e.secondary ++ s.held) (every ks e) ∙ law (asked_all c check ks e)

  pub stays_out : (line buffer : ℕ) (e : End) → deliveries.StaysOut line buffer e.secondary → StaysOut c check line buffer e
  stays_out line buffer e law ks spares =
      let there = law (asked_all c check ks e) spares in (
        λ size h. ap (secondary.take_answer size) (every ks e) ∙ there.0 size h,
        ap (secondary.give_answer line buffer) (every ks e) ∙ there.1,
      )
