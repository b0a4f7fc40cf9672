-- The answers to a line, and to one line after another. Assumes nothing.
use Rattle.std.proofs.Common.{◌≡◌, ◌⊎◌, ℕ, List, [], ◌∷◌, ◌++◌, true, Some, None, Ok, Err, Option, refl, sym, ap, subst, ◌∙◌, inl, inr}
use Rattle.std.proofs.KnownBytes.{Appends-nil, Appends-trans}
use Rattle.std.specs.Io.KnownBytes.{Appends, Keeps}
use Rattle.answers.specs.Asked.{said, left_by}
use Rattle.answers.specs.Lines.{out_of_memory}
use Rattle.bench.specs.Runs.{Bench, answered, carried_out}
use Rattle.workbench.specs.Answers.{Answered, Written, Stepped}
use Rattle.workbench.specs.declared.lines.TooLong.{TooLong}
use Rattle.workbench.specs.Lines.{request_of, Taken}

-- lines that ask for the same have the same answers
answered-same : (w v : Bench) (line next bytes : List ℕ) → request_of line ≡ request_of next → Answered w line bytes v → Answered w next bytes v
answered-same w v line next bytes same =
    subst (λ r. ((bytes ≡ said (answered w) r) × (v ≡ left_by carried_out r w)) ⊎ ((bytes ≡ out_of_memory) × ((v ≡ w) ⊎ (v ≡ left_by carried_out r w)))) same

-- a line was taken and answered
pub stepped-answered : (w v : Bench) (script line bytes : List ℕ) (left old new : Option (List ℕ)) → Taken script (Some (Ok tt)) line left
    → Answered w line bytes v → Appends old new bytes → Stepped true w script left old new v
stepped-answered w v script line bytes left old new taken answer wrote =
    (taken.0, taken.1, bytes, taken.2, taken.3, answered-same w v line taken.0 bytes taken.4 answer, wrote)

-- there was no memory for a line
pub stepped-passed : (e : TooLong) (w : Bench) (script line bytes : List ℕ) (left old new : Option (List ℕ)) → Taken script (Some (Err e)) line left
    → bytes ≡ out_of_memory → Appends old new bytes → Stepped true w script left old new w
stepped-passed e w script line bytes left old new taken is wrote =
    (taken.0, taken.1, bytes, taken.2, taken.3, inr (is, inl refl), wrote)

pub written-none : (w v : Bench) (old new : Option (List ℕ)) → new ≡ old → v ≡ w → Written w [] old new v
written-none w v old new same e = ([], (refl, e), subst (λ o. Appends old o []) (sym same) (Appends-nil old))

-- what is kept is kept at first
appends-kept : (old mid new : Option (List ℕ)) (bytes : List ℕ) → Keeps old mid → Appends mid new bytes → Appends old new bytes
appends-kept None mid new bytes k a = tt
appends-kept (Some xs) None new bytes k a = absurd k
appends-kept (Some xs) (Some ys) None bytes k a = absurd a
appends-kept (Some xs) (Some ys) (Some zs) bytes k a = a ∙ ap (λ l. l ++ bytes) k

pub written-kept : (w v : Bench) (lines : List (List ℕ)) (old mid new : Option (List ℕ)) → Keeps old mid → Written w lines mid new v → Written w lines old new v
written-kept w v lines old mid new k more = (more.0, more.1, appends-kept old mid new more.0 k more.2)

-- one line, and then those after it
pub written-more : (w u v : Bench) (line bytes : List ℕ) (rest : List (List ℕ)) (old mid new : Option (List ℕ)) → Answered w line bytes u → Appends old mid bytes
    → Written u rest mid new v → Written w (line ∷ rest) old new v
written-more w u v line bytes rest old mid new answer wrote more =
    (bytes ++ more.0, (bytes, more.0, u, refl, answer, more.1), Appends-trans old mid new bytes more.0 wrote more.2)
