-- What a taken frame tells. Assumes nothing.
use Rattle.std.proofs.Common.{◌≡◌, ℕ, ◌/◌, ◌%◌, ◌<◌, ◌≤◌, Bool, true, false, not, ◌&&◌, eqb, List, length, get_or, IfOk, Ok, Err, Result, refl, subst, arith}
use Rattle.std.proofs.lemmas.List.FromFn.{fill_by_all}
use Rattle.std.proofs.lemmas.Bool.Decides.{nat_tests}
use Rattle.packet.specs.Letters.{between}
use Rattle.packet.specs.declared.refusal.Refusal.{Refusal}
use Rattle.packet.specs.Refusals.{answer}
use Rattle.packet.proofs.Judging.{Passed, passed}
use Rattle.settings.specs.declared.values.Settings.{Settings}
use Rattle.settings.specs.Frame.{word, settings_in, frame_rules, settings_of, InRange, frame_of}

is : (a b : ℕ) → not (eqb a b) ≡ false → a ≡ b
is a b e = grind (arith, nat_tests)

in_between : (a b n : ℕ) → not (between a b n) ≡ false → (a ≤ n) × (n ≤ b)
in_between a b n e = (grind (arith, nat_tests), grind (arith, nat_tests))

both : (x y : Bool) → not (x && y) ≡ false → (not x ≡ false) × (not y ≡ false)
both true true e = (refl, refl)
both true false e = (refl, e)
both false y e = (e, grind arith)

-- the nine bytes of a frame that passes, with its facts
module _ (f : List ℕ) (p : Passed (frame_rules f)) where
  pub passed_range : InRange (settings_in f)
  passed_range =
      let periods = both (between 10 6000 (word f 3)) (between 10 6000 (word f 5)) p.1.1.1.0 in
      let enq = in_between 10 6000 (word f 3) periods.0 in
      let dat = in_between 10 6000 (word f 5) periods.1 in
      let attempts = in_between 1 20 (get_or f 7 0) p.1.1.1.1.0 in
      let receive = in_between 1 8 (get_or f 8 0) p.1.1.1.1.1.0 in
      record { enq_low = enq.0; enq_high = enq.1; data_low = dat.0; data_high = dat.1; attempts_low = attempts.0; attempts_high = attempts.1; receive_low = receive.0; receive_high = receive.1 }

  pub passed_frame : ((k : ℕ) → get_or f k 0 < 256) → f ≡ frame_of (settings_in f)
  passed_frame byte =
      let nine = fill_by_all (λ k. get_or f k 0) f 9 0 (is (length f) 9 p.0) (λ k h. refl) in
      let version : get_or f 0 0 ≡ 1 = is (get_or f 0 0) 1 p.1.0 in
      let long = is (word f 1) 6 p.1.1.0 in
      let l1 : get_or f 1 0 ≡ 0 = omega arith in
      let l0 : get_or f 2 0 ≡ 6 = omega arith in
      let e1 : get_or f 3 0 ≡ word f 3 / 256 = omega (arith, byte 4) in
      let e0 : get_or f 4 0 ≡ word f 3 % 256 = omega (arith, byte 4) in
      let d1 : get_or f 5 0 ≡ word f 5 / 256 = omega (arith, byte 6) in
      let d0 : get_or f 6 0 ≡ word f 5 % 256 = omega (arith, byte 6) in
      cc

-- what holds of the values of every frame that passes holds of what a frame gives
module _ (f : List ℕ) (P : Settings → Type 0) (here : Passed (frame_rules f) → P (settings_in f)) where
  pub taken : (r : Result Settings Refusal) → answer (λ s. s) r ≡ settings_of f → IfOk r P
  taken (Ok s) e = let q = passed (frame_rules f) (settings_in f) s e in subst P q.1 (here q.0)
  taken (Err x) e = tt
