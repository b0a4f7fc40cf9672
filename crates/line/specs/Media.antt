-- What becomes of a medium that is offered what was sent, and of one from which a burst is taken.
use Rattle.std.specs.Prelude.{◌≡◌, List, [], ◌∷◌, Some, None, Option}
use Rattle.packet.specs.Refusals.{Answer, refused, gave}
use Rattle.medium.specs.declared.Medium as medium
use Rattle.medium.specs.declared.offer.Offer.{Offer}
use Rattle.agreement.specs.declared.sides.Side.{Side}
use Rattle.agreement.specs.declared.sides.Side.TheVariants.{West, East}
use Rattle.agreement.specs.Line.{Burst}
use Rattle.agreement.specs.Calls.{Call, Submit, Arrive, Expire, ReadOut, Collect, Set}

-- exactly one offer of the burst, as the medium's own definition says; where nothing is sent the medium is as it was
abbrev pub OfferedOnce : {M : Type 0} → medium.Ghosts M → Option Burst → Option Offer → M → M → Type 0
OfferedOnce g None None m m' = m' ≡ m
OfferedOnce g None (Some o) m m' = ⊥
OfferedOnce g (Some b) None m m' = ⊥
OfferedOnce g (Some b) (Some o) m m' = g.offers m b o m'

-- exactly one take, as the medium's own definition says; where nothing is under way the medium is as it was
abbrev pub TakenOnce : {M : Type 0} → medium.Ghosts M → List Burst → M → M → Type 0
TakenOnce g [] m m' = m' ≡ m
TakenOnce g (b ∷ bs) m m' = g.takes m m'

-- what a call leaves of the side's incoming medium: only an arrival takes
abbrev pub Incoming : {M : Type 0} → medium.Ghosts M → Call → M → M → Type 0
Incoming g (Submit x) m m' = m' ≡ m
Incoming g Arrive m m' = TakenOnce g (g.bursts m) m m'
Incoming g Expire m m' = m' ≡ m
Incoming g (ReadOut n) m m' = m' ≡ m
Incoming g Collect m m' = m' ≡ m
Incoming g (Set f) m m' = m' ≡ m

-- The media eastward and westward after a call at a side that sends the burst b, if it sends one.
abbrev pub Exactly : {E W : Type 0} → medium.Ghosts E → medium.Ghosts W → Answer Side → Call → Option Burst → Option Offer → E → E → W → W → Type 0
Exactly e w (refused n) k b o x x' y y' = (x' ≡ x) × (y' ≡ y)
Exactly e w (gave West) k b o x x' y y' = OfferedOnce e b o x x' × Incoming w k y y'
Exactly e w (gave East) k b o x x' y y' = Incoming e k x x' × OfferedOnce w b o y y'
