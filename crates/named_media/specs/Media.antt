-- A medium of any kind, and that of a name, and what each call makes of them. Assumes nothing.
use Rattle.std.specs.Prelude.{ℕ, ◌+◌, ◌%◌, ◌^◌, min, Bool, false, cond, not, ◌&&◌, List, [], ◌∷◌, ◌++◌, length, drop, Some, None, Option, nat_le, nat_lt}
use Rattle.std.specs.Option.{option_map, unwrap_or}
use Rattle.medium.specs.declared.offer.Offer.{Offer}
use Rattle.medium.specs.Bursts.{carried, first}
use Rattle.medium.specs.Offered.{whole_if}
use Rattle.medium_script.specs.declared.spec.Base.{Base}
use Rattle.medium_script.specs.declared.spec.Base.TheVariants.{Queue, Packed, Noisy}
use Rattle.medium_script.specs.declared.spec.Spec.{Spec}
use Rattle.noise.specs.Noisy.{sent}
use Rattle.noise.specs.Patterns.{low, turned}
use Rattle.packing.specs.Rowed.{packed}

-- A medium that is made: its kind with its places, and the pattern of a noisy one as it stands now; its pattern of loss
-- as it stands now, 0 where it loses nothing; how many offers a noisy one counted; the bursts under way, oldest first.
pub record Carrier : Type 0 where
  pub base : Base
  pub loss : ℕ
  pub offers : ℕ
  pub bursts : List (List ℕ)

-- memory: the places for a queue, the bytes for a packed medium and the places for a noisy one
pub record Memory : Type 0 where
  pub for_queue : ℕ
  pub for_packed : ℕ
  pub for_noisy : ℕ

-- a name: its medium, and its memory
pub record Named : Type 0 where
  pub carrier : Option Carrier
  pub memory : Memory

abbrev pub carrier_of : Base → ℕ → ℕ → List (List ℕ) → Carrier
carrier_of base p k bs = record { base = base; loss = p; offers = k; bursts = bs }

abbrev pub memory_of : ℕ → ℕ → ℕ → Memory
memory_of q p n = record { for_queue = q; for_packed = p; for_noisy = n }

abbrev pub named_by : Option Carrier → Memory → Named
named_by c m = record { carrier = c; memory = m }

abbrev pub with_carrier : Option Carrier → Named → Named
with_carrier c n = named_by c n.memory

-- the bursts under way, where a medium is made
abbrev pub under_way : Named → Option (List (List ℕ))
under_way n = option_map (λ c. c.bursts) n.carrier

-- in as many places as are asked for and there are
abbrev pub fresh : Base → Memory → Base
fresh (Queue k) m = Queue (min m.for_queue (min k 4096))
fresh (Packed k) m = Packed (min m.for_packed (min k 65536))
fresh (Noisy k p) m = Noisy (min m.for_noisy (min k 4096)) p

-- a medium begun anew, empty
abbrev pub begun : Spec → Memory → Carrier
begun s m = carrier_of (fresh s.base m) (unwrap_or s.loss 0) 0 []

-- make
abbrev pub made_by : Spec → Named → Named
made_by s n = with_carrier (Some (begun s n.memory)) n

-- there is room for b behind the bursts bs
abbrev pub has_room : Base → List (List ℕ) → List ℕ → Bool
has_room (Queue k) bs b = nat_lt (length bs) k
has_room (Packed k) bs b = nat_le (length (packed bs) + (2 + length b)) k
has_room (Noisy k p) bs b = nat_lt (length bs) k

-- noise hits the next burst
abbrev pub hits : Base → Bool
hits (Queue k) = false
hits (Packed k) = false
hits (Noisy k p) = low p

-- the burst as it goes under way after n offers
abbrev pub as_sent : Base → ℕ → List ℕ → List ℕ
as_sent (Queue k) n b = b
as_sent (Packed k) n b = b
as_sent (Noisy k p) n b = sent p n b

abbrev pub after_offer : Base → Base
after_offer (Queue k) = Queue k
after_offer (Packed k) = Packed k
after_offer (Noisy k p) = Noisy k (turned p)

abbrev pub counted : Base → ℕ → ℕ
counted (Queue k) n = n
counted (Packed k) n = n
counted (Noisy k p) n = (n + 1) % 2 ^ 32

-- offer of a burst of 1 to 104 bytes that no loss hits
abbrev pub reached : ℕ → Carrier → List ℕ → Carrier
reached p c b =
    carrier_of (after_offer c.base) p (counted c.base c.offers)
    (cond (has_room c.base c.bursts b) (c.bursts ++ as_sent c.base c.offers b ∷ []) c.bursts)

-- a lost burst turns the pattern of loss alone; one of 0 or over 104 bytes does nothing
abbrev pub offered : List ℕ → Carrier → Carrier
offered b c =
    cond (carried b)
    (cond (low c.loss) (carrier_of c.base (turned c.loss) c.offers c.bursts) (reached (turned c.loss) c b))
    c

abbrev pub goes_whole : List ℕ → Carrier → Bool
goes_whole b c = carried b && (not (low c.loss) && (not (hits c.base) && has_room c.base c.bursts b))

abbrev pub offer_answer : List ℕ → Named → Option Offer
offer_answer b n = option_map (λ c. whole_if (goes_whole b c)) n.carrier

abbrev pub offered_to : List ℕ → Named → Named
offered_to b n = with_carrier (option_map (offered b) n.carrier) n

-- take
abbrev pub taken : Carrier → Carrier
taken c = carrier_of c.base c.loss c.offers (drop 1 c.bursts)

abbrev pub taken_from : Named → Named
taken_from n = with_carrier (option_map taken n.carrier) n

-- a place that the oldest burst was taken to
abbrev pub taken_to : Option (List (List ℕ)) → List ℕ → List ℕ
taken_to None p = p
taken_to (Some bs) p = first bs ++ drop (length (first bs)) p
