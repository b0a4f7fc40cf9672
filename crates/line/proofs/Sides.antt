-- From what a call did at one side to what it did on the line.
use Rattle.std.proofs.Common.{◌≡◌, ℕ, List, length, None, Option, sym, refl, ap, ◌∙◌, subst}
use Rattle.packet.specs.Checks.{Each, Altered}
use Rattle.packet.specs.declared.checks.Check as check
use Rattle.packet.specs.Refusals.{Answer, refused, gave}
use Rattle.medium.specs.declared.Medium as medium
use Rattle.medium.specs.declared.offer.Offer.{Offer}
use Rattle.station.specs.declared.end.End as code
use Rattle.station.specs.End.{written_over}
use Rattle.agreement.specs.declared.sides.Side.{Side}
use Rattle.agreement.specs.declared.sides.Side.TheVariants.{West, East}
use Rattle.agreement.specs.Line.{side_answer}
use Rattle.agreement.specs.Calls.{Call, Said, TurnAt, Step}
use Rattle.agreement.proofs.Clauses.{keeps}
use Rattle.line.specs.declared.opened.Line as lines
use Rattle.line.specs.Called.{Performed, sent_at, front_at, Stand, stand, seen_over, Called}
use Rattle.line.specs.Media.{Exactly}

module _ {K E W : Type 0} (k : check.Ghosts K) (e : medium.Ghosts E) (w : medium.Ghosts W) (sized : (xs : List ℕ) → length (k.meaning xs) ≡ k.LEN)
    (tells : (xs ys : List ℕ) → Each 0 0x7f xs → Each 0 0x7f ys → Altered xs ys → k.meaning xs ≡ k.meaning ys → ⊥) (n : ℕ) (call : Call) (a : Answer Said) (offer : Option Offer) (old new : Stand K E W k) where
  -- at the side that the number names
  called_at : (s : Answer Side) → s ≡ side_answer n → TurnAt k.LEN k.meaning s call (seen_over e w old) a offer (seen_over e w new)
      → new.place ≡ written_over (front_at k.LEN k.meaning s call (seen_over e w old)) old.place → ((m : ℕ) → a ≡ refused m → new.line ≡ old.line)
      → Exactly e w s call (sent_at k.LEN k.meaning s call (seen_over e w old)) offer old.eastward new.eastward old.westward new.westward → Called k e w n call a offer old new
  called_at s is t p u x =
      let step : Step k.LEN k.meaning (seen_over e w old) n call a offer (seen_over e w new) = subst (λ (y : Answer Side). TurnAt k.LEN k.meaning y call (seen_over e w old) a offer (seen_over e w new)) is t in
      record {
        step = step;
        placed = subst (λ (y : Answer Side). new.place ≡ written_over (front_at k.LEN k.meaning y call (seen_over e w old)) old.place) is p;
        unchanged = u;
        exact = subst (λ (y : Answer Side). Exactly e w y call (sent_at k.LEN k.meaning y call (seen_over e w old)) offer old.eastward new.eastward old.westward new.westward) is x;
        keeps = keeps k.LEN k.meaning sized tells n call a offer (seen_over e w old) (seen_over e w new) step;
      }

  pub refused_at : (m : ℕ) → refused m ≡ side_answer n → a ≡ refused m → offer ≡ None → new ≡ old → Called k e w n call a offer old new
  refused_at m is p q same =
      called_at (refused m) is (record { answer = p; offer = q; same = ap (seen_over e w) same }) (ap (λ (s : Stand K E W k). s.place) same) (λ j r. ap (λ (s : Stand K E W k). s.line) same)
      (ap (λ (s : Stand K E W k). s.eastward) same, ap (λ (s : Stand K E W k). s.westward) same)

module _ {K E W : Type 0} (k : check.Ghosts K) (e : medium.Ghosts E) (w : medium.Ghosts W) (sized : (xs : List ℕ) → length (k.meaning xs) ≡ k.LEN)
    (tells : (xs ys : List ℕ) → Each 0 0x7f xs → Each 0 0x7f ys → Altered xs ys → k.meaning xs ≡ k.meaning ys → ⊥) (n : ℕ) (call : Call) (a : Answer Said) (offer : Option Offer)
    (l : lines.Line K k) (m : code.End K k) (x x' : E) (y y' : W) (p p' : List ℕ) (s : Side) (is : gave s ≡ side_answer n) where
  pub west_called : s ≡ West → Performed k e w call a offer l.west m x x' y y' p p' → Called k e w n call a offer (stand l x y p) (stand (record { west = m; east = l.east }) x' y' p')
  west_called q d =
      called_at k e w sized tells n call a offer (stand l x y p) (stand (record { west = m; east = l.east }) x' y' p') (gave West) (ap gave (sym q) ∙ is)
      (record { answer = d.does.answer; near = d.does.next; far = refl; out = d.does.offered; into = d.left }) d.does.placed
      (λ j r. ap (λ (z : code.End K k). record { west = z; east = l.east }) (d.does.unchanged j r)) (d.does.once, d.taken)

  pub east_called : s ≡ East → Performed k w e call a offer l.east m y y' x x' p p' → Called k e w n call a offer (stand l x y p) (stand (record { west = l.west; east = m }) x' y' p')
  east_called q d =
      called_at k e w sized tells n call a offer (stand l x y p) (stand (record { west = l.west; east = m }) x' y' p') (gave East) (ap gave (sym q) ∙ is)
      (record { answer = d.does.answer; near = d.does.next; far = refl; out = d.does.offered; into = d.left }) d.does.placed
      (λ j r. ap (λ (z : code.End K k). record { west = l.west; east = z }) (d.does.unchanged j r)) (d.taken, d.does.once)
