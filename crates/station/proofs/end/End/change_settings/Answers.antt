use Rattle.std.proofs.Common.{◌≡◌, ◌≤◌, IfOk, IfErr, Ok, Err, Result, sym, refl, subst, arith}
use Rattle.std.proofs.lemmas.Result.{on_err_weaker}
use Rattle.packet.specs.declared.refusal.Refusal.{Refusal}
use Rattle.packet.specs.Refusals.{Answer, refused, gave}
use Rattle.settings.specs.declared.values.Settings.{Settings}
use Rattle.settings.specs.Frame.{settings_after, InRange}
use Rattle.station.specs.End.{End, change, set_by, with_settings}
use Rattle.station.specs.Models.{model}
use Rattle.station.proofs.Same.{same_end}
use Rattle.station.proofs.end.End.change_settings.Goals as goal

-- the settings of an end changed
set_is : (x : Answer Settings) (e : End) → with_settings (settings_after x e.settings) e ≡ set_by x e
set_is (refused n) e = refl
set_is (gave t) e = refl

-- a frame that is taken has an attempt limit in range
still_limited : (r : Result (Unit {0}) Refusal) (s s' : Settings) → s.attempt_limit ≤ 255 → IfOk r (λ _. InRange s') → IfErr r (λ _. s' ≡ s) → s'.attempt_limit ≤ 255
still_limited (Ok x) s s' l taken kept = omega (arith, taken.attempts_high)
still_limited (Err x) s s' l taken kept = subst (λ (t : Settings). t.attempt_limit ≤ 255) (sym kept) l

pub invariant_of-self : goal.invariant_of-self
invariant_of-self g c =
    let s = c.args.self.now in
    let w = c.change.ensures in
    record { sendable = s.sendable; limited = still_limited c.change.result s.settings _ s.limited w.ranges w.unchanged }

pub returns-clause-unchanged : goal.returns-clause-unchanged
returns-clause-unchanged g c = on_err_weaker c.change.result (λ h. same_end _ _ refl h refl refl) c.change.ensures.unchanged

pub returns-clause-after : goal.returns-clause-after
returns-clause-after g c =
    let e = model c.args.self.now in
    rw (c.change.ensures.after, c.awaiting-awaiting.ensures, c.held-held.ensures) (set_is (change e c.args.frame.now) e)
