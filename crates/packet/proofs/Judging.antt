-- A list of rules, rule by rule and part by part. Assumes nothing.
use Rattle.std.proofs.Common.{◌≡◌, ℕ, Bool, true, false, cond, List, [], ◌∷◌, ◌++◌, sym, refl, ap, ◌∙◌, arith}
use Rattle.packet.specs.Refusals.{refused, gave, Rule, ◌⇒◌, judged}

-- no rule refuses
abbrev pub Passed : List Rule → Type 0
Passed [] = Unit {0}
Passed (r ∷ rs) = (r.0 ≡ false) × Passed rs

pub never : {A B : Type 0} (n : ℕ) (x : A) → refused n ≡ gave x → B
never n x e = let z : ◌≡◌ {A = ℕ} 0 1 = cc in absurd (omega arith)

-- the front of the rules is passed
pub past : {A : Type 0} (rs ss : List Rule) (x : A) → Passed rs → judged (rs ++ ss) x ≡ judged ss x
past [] ss x p = refl
past (r ∷ rs) ss x p = ap (λ (t : Bool). cond t (refused r.1) (judged (rs ++ ss) x)) p.0 ∙ past rs ss x p.1

pub all_past : {A : Type 0} (rs : List Rule) (x : A) → Passed rs → judged rs x ≡ gave x
all_past [] x p = refl
all_past (r ∷ rs) x p = ap (λ (t : Bool). cond t (refused r.1) (judged rs x)) p.0 ∙ all_past rs x p.1

-- the first rule refuses
pub stopped : {A : Type 0} (t : Bool) (n : ℕ) (rs : List Rule) (x : A) → t ≡ true → judged (t ⇒ n ∷ rs) x ≡ refused n
stopped t n rs x e = ap (λ (u : Bool). cond u (refused n) (judged rs x)) e

-- the front of the rules refuses, whatever it would give
pub front_refuses : {A B : Type 0} (rs ss : List Rule) (x : A) (y : B) (n : ℕ) → refused n ≡ judged rs y → judged (rs ++ ss) x ≡ refused n
front_refuses [] ss x y n e = never n y e
front_refuses ((true, m) ∷ rs) ss x y n e = cc
front_refuses ((false, m) ∷ rs) ss x y n e = front_refuses rs ss x y n e

-- a value is given only where every rule is passed
pub passed : {A : Type 0} (rs : List Rule) (x y : A) → gave y ≡ judged rs x → Passed rs × (x ≡ y)
passed [] x y e = (tt, cc)
passed ((true, m) ∷ rs) x y e = never m y (sym e)
passed ((false, m) ∷ rs) x y e = let p = passed rs x y e in ((refl, p.0), p.1)
