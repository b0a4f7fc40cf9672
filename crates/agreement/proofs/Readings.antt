-- From bursts under way to the commands and answers that can be read among them.
use Rattle.std.proofs.Common.{◌≡◌, ℕ, Bool, true, false, cond, ◌||◌, eqb, ◌⊎◌, List, [], ◌∷◌, ◌++◌, length, get_or, Some, None, Option, sym, refl, ap, ◌∙◌, subst, inl, inr}
use Rattle.std.specs.Option.{option_map}
use Rattle.std.proofs.lemmas.Bool.{not-false}
use Rattle.std.proofs.lemmas.List.{append_assoc, append-nil}
use Rattle.packet.specs.Checks.{Each, Altered}
use Rattle.packet.specs.Format.{Parts, parts, packet, reading, start_rules, field_rules, end_rules, field_of, parts_of}
use Rattle.packet.specs.Letters.{known}
use Rattle.packet.specs.Numbers.{is_one}
use Rattle.packet.specs.Refusals.{Answer, refused, gave}
use Rattle.packet.specs.declared.number.Number.TheVariants.{Zero, One}
use Rattle.packet.proofs.Alterations.{altered_refused}
use Rattle.packet.proofs.Judging.{passed}
use Rattle.packet.proofs.Roundtrip.{Accepted, makes, reads_back, letter_same}
use Rattle.primary.specs.Station.{Command, ENQ, DATA}
use Rattle.secondary.specs.declared.reply.Answer.{Answer as Response}
use Rattle.secondary.specs.declared.reply.Answer.TheVariants.{Reset, Ack}
use Rattle.medium.specs.declared.offer.Offer.{Offer}
use Rattle.medium.specs.declared.offer.Offer.TheVariants.{Whole, Spoilt}
use Rattle.medium.specs.Bursts as medium
use Rattle.medium.specs.Letters as letters
use Rattle.medium.specs.Offered.{Offered}
use Rattle.station.specs.End.{command_parts, answer_parts}
use Rattle.agreement.specs.Line.{Burst}
use Rattle.agreement.specs.Calls.{burst_of, Offers}
use Rattle.agreement.proofs.Channel.{Reply, Empty, Went, not_sent, lost, through, never}

-- what a burst that was read holds
abbrev pub commands_in : Answer Parts → List Command
commands_in (refused n) = []
commands_in (gave (parts l p f)) = cond (eqb l 0x45) (ENQ ∷ []) (cond (eqb l 0x30) (DATA false f ∷ []) (cond (eqb l 0x31) (DATA true f ∷ []) []))

abbrev pub replies_in : Answer Parts → List Reply
replies_in (refused n) = []
replies_in (gave (parts l p f)) =
    cond (eqb l 0x45) [] (cond (eqb l 0x30) [] (cond (eqb l 0x31) [] (cond (eqb l 0x41) (Some false ∷ []) (cond (eqb l 0x42) (Some true ∷ []) (None ∷ [])))))

-- what was sent can be sent
abbrev pub Fits : Option (ℕ × List ℕ) → Type 0
Fits None = Unit {0}
Fits (Some p) = Accepted p.0 p.1

abbrev pub as_list : {X : Type 0} → Option X → List X
as_list None = []
as_list (Some x) = x ∷ []

-- what a packet sent holds of one kind
abbrev pub new : {X : Type 0} → (Answer Parts → List X) → Option (ℕ × List ℕ) → List X
new f None = []
new f (Some p) = f (gave (parts p.0 2 p.1))

pub or_parts : (a b : Bool) → (a || b) ≡ false → (a ≡ false) × (b ≡ false)
or_parts true b h = never h
or_parts false b h = (refl, h)

went : {X : Type 0} (q : Option X) (x y : List X) → (y ≡ x) ⊎ (y ≡ x ++ as_list q) → Went q x y
went None x y (inl e) = subst (Went None x) (sym e) not_sent
went None x y (inr e) = subst (Went None x) (sym (e ∙ append-nil x)) not_sent
went (Some q) x y (inl e) = subst (Went (Some q) x) (sym e) lost
went (Some q) x y (inr e) = subst (Went (Some q) x) (sym e) through

-- by a kind with c check bytes
module _ (c : ℕ) (check : List ℕ → List ℕ) where
  -- what is read of one kind among bursts
  module _ {X : Type 0} (f : Answer Parts → List X) where
    abbrev pub found : List Burst → List X
    found [] = []
    found (b ∷ bs) = f (reading c check b) ++ found bs

    found_last : (bs : List Burst) (b : Burst) → found (bs ++ b ∷ []) ≡ found bs ++ f (reading c check b)
    found_last [] b = append-nil (f (reading c check b))
    found_last (x ∷ bs) b = ap (λ (y : List X). f (reading c check x) ++ y) (found_last bs b) ∙ sym (append_assoc (f (reading c check x)) (found bs) (f (reading c check b)))

  -- a burst that is read has a letter as its second byte
  pub read_letter : (b : Burst) (l p : ℕ) (f : List ℕ) → gave (parts l p f) ≡ reading c check b → (get_or b 1 0 ≡ l) × (known l ≡ true)
  read_letter b l p f e =
      let all = passed (start_rules c b ++ (field_rules (get_or b 1 0) (field_of c b) ++ end_rules c check b)) (parts_of c b) (parts l p f) e in
      let same = letter_same all.1 in
      (same, ap known (sym same) ∙ not-false _ all.0.1.1.0)

  -- where no letter of a kind is under way, nothing of that kind can be read
  no_command : (b : Burst) (r : Answer Parts) (ps : List Command) → r ≡ reading c check b → letters.command (get_or b 1 0) ≡ false → Empty ps → Empty (commands_in r ++ ps)
  no_command b (refused n) ps e h z = z
  no_command b (gave (parts l p f)) ps e h z = go (eqb l 0x45) (eqb l 0x30) (eqb l 0x31) (ap letters.command (sym (read_letter b l p f e).0) ∙ h)
    where
      go : (a d g : Bool) → (a || (d || g)) ≡ false → Empty (cond a (ENQ ∷ []) (cond d (DATA false f ∷ []) (cond g (DATA true f ∷ []) [])) ++ ps)
      go true d g q = never q
      go false true g q = never q
      go false false true q = never q
      go false false false q = z

  no_reply : (b : Burst) (r : Answer Parts) (rs : List Reply) → r ≡ reading c check b → letters.answer (get_or b 1 0) ≡ false → Empty rs → Empty (replies_in r ++ rs)
  no_reply b (refused n) rs e h z = z
  no_reply b (gave (parts l p f)) rs e h z0 =
      let at = read_letter b l p f e in
      go (eqb l 0x45) (eqb l 0x30) (eqb l 0x31) (eqb l 0x41) (eqb l 0x42) (eqb l 0x52) at.1 (ap letters.answer (sym at.0) ∙ h)
    where
      go : (a d g x y z : Bool) → ((d || g) || ((x || y) || (a || z))) ≡ true → ((x || y) || z) ≡ false
          → Empty (cond a [] (cond d [] (cond g [] (cond x (Some false ∷ []) (cond y (Some true ∷ []) (None ∷ []))))) ++ rs)
      go true d g x y z k q = z0
      go false true g x y z k q = z0
      go false false true x y z k q = z0
      go false false false true y z k q = never q
      go false false false false true z k q = never q
      go false false false false false z k q = never (sym k ∙ q)

  pub no_commands : (w : List Burst) → medium.some_letter letters.command w ≡ false → Empty (found commands_in w)
  no_commands [] h = tt
  no_commands (b ∷ w) h = let q = or_parts _ _ h in no_command b (reading c check b) (found commands_in w) refl q.0 (no_commands w q.1)

  pub no_replies : (w : List Burst) → medium.some_letter letters.answer w ≡ false → Empty (found replies_in w)
  no_replies [] h = tt
  no_replies (b ∷ w) h = let q = or_parts _ _ h in no_reply b (reading c check b) (found replies_in w) refl q.0 (no_replies w q.1)

  -- with those of the kind's facts that are used
  module _ (sized : (xs : List ℕ) → length (check xs) ≡ c) (tells : (xs ys : List ℕ) → Each 0 0x7f xs → Each 0 0x7f ys → Altered xs ys → check xs ≡ check ys → ⊥) where
    altered_wrong : (l : ℕ) (f b : List ℕ) → Accepted l f → medium.Altered (packet check l f) b → (n : ℕ) × (reading c check b ≡ refused n)
    altered_wrong l f b a x =
        altered_refused c check sized tells b (reading c check b) refl l f (packet check l f) (makes c check sized l f (packet check l f) a refl)
        (x.place, x.byte, x.inside, x.is, λ e. x.differs (sym e))

    module _ {X : Type 0} (f : Answer Parts → List X) (silent : (n : ℕ) → f (refused n) ≡ []) where
      -- a packet that is offered arrives whole or cannot be read
      came : (w w' : List Burst) (p : ℕ × List ℕ) (o : Offer) → Accepted p.0 p.1 → Offered w (packet check p.0 p.1) o w' → (found f w' ≡ found f w) ⊎ (found f w' ≡ found f w ++ new f (Some p))
      came w w' p Whole a (t, e) = inr (ap (found f) e ∙ found_last f w (packet check p.0 p.1) ∙ ap (λ (r : Answer Parts). found f w ++ f r) (reads_back c check sized p.0 p.1 a))
      came w w' p Spoilt a (inl e) = inl (ap (found f) e)
      came w w' p Spoilt a (inr (t, (b, (x, e)))) =
          let wrong = altered_wrong p.0 p.1 b a x in
          inl (ap (found f) e ∙ found_last f w b ∙ ap (λ (r : Answer Parts). found f w ++ f r) wrong.1 ∙ ap (λ (y : List X). found f w ++ y) (silent wrong.0) ∙ append-nil (found f w))

      pub offers_found : (s : Option (ℕ × List ℕ)) (o : Option Offer) (w w' : List Burst) (q : Option X) → Fits s → new f s ≡ as_list q → Offers w (burst_of check s) o w' → Went q (found f w) (found f w')
      offers_found None None w w' q a e x = went q (found f w) (found f w') (inl (ap (found f) x))
      offers_found None (Some o) w w' q a e x = absurd x
      offers_found (Some p) None w w' q a e x = absurd x
      offers_found (Some p) (Some o) w w' q a e x =
          went q (found f w) (found f w') (subst (λ (y : List X). (found f w' ≡ found f w) ⊎ (found f w' ≡ found f w ++ y)) e (came w w' p o a x))

-- a command and an answer that are sent
pub command_new : (q : Option Command) → new commands_in (option_map command_parts q) ≡ as_list q
command_new None = refl
command_new (Some ENQ) = refl
command_new (Some (DATA false m)) = refl
command_new (Some (DATA true m)) = refl

pub command_quiet : (q : Option Command) → new replies_in (option_map command_parts q) ≡ []
command_quiet None = refl
command_quiet (Some ENQ) = refl
command_quiet (Some (DATA false m)) = refl
command_quiet (Some (DATA true m)) = refl

abbrev pub reply_of : Response → Reply
reply_of Reset = None
reply_of (Ack n k) = Some (is_one n)

pub response_new : (r : Option Response) → new replies_in (answer_parts r) ≡ as_list (option_map reply_of r)
response_new None = refl
response_new (Some Reset) = refl
response_new (Some (Ack Zero k)) = refl
response_new (Some (Ack One k)) = refl

pub response_quiet : (r : Option Response) → new commands_in (answer_parts r) ≡ []
response_quiet None = refl
response_quiet (Some Reset) = refl
response_quiet (Some (Ack Zero k)) = refl
response_quiet (Some (Ack One k)) = refl
