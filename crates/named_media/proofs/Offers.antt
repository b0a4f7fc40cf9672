-- The three kinds of media, each in the words of a medium of any kind. Assumes nothing.
use Rattle.std.proofs.Common.{◌≡◌, ℕ, ◌+◌, ◌%◌, ◌^◌, min, Bool, true, cond, not, ◌&&◌, leb, List, [], ◌∷◌, ◌++◌, length, drop, sym, refl, ap, ◌∙◌, arith, length-drop, MutBor}
use Rattle.ring.specs.Ring as ring
use Rattle.ring.specs.declared.Ring.{Ring}
use Rattle.medium.specs.declared.offer.Offer.{Offer}
use Rattle.medium.specs.declared.queue.QueueMedium.{QueueMedium}
use Rattle.medium.specs.Bursts.{carried}
use Rattle.medium.specs.Offered.{whole_if}
use Rattle.medium.specs.Queue as queue
use Rattle.medium_script.specs.declared.spec.Base.TheVariants as base
use Rattle.noise.specs.Lossy.{Passes}
use Rattle.noise.specs.Noisy.{Sends, sent}
use Rattle.noise.specs.Patterns.{low, turned}
use Rattle.noise.specs.declared.noisy.NoisyMedium.{NoisyMedium}
use Rattle.packing.specs.Packed as packed
use Rattle.packing.specs.Rowed.{packed as row_of}
use Rattle.packing.specs.declared.packed.PackedMedium.{PackedMedium}
use Rattle.named_media.specs.Chosen.{a_queue, a_packed, a_noisy}
use Rattle.named_media.proofs.Layers.{Reached, Does, layered}

-- all memory is the places and what lies beyond them
memory_parts : {X : Type 0} (xs : List X) (n : ℕ) → length xs ≡ min (length xs) n + length (drop n xs)
memory_parts xs n = simp length-drop (omega arith)

pub same_memory : {X : Type 0} (r s : Ring X) → ring.InPlace r s → length (ring.memory s) ≡ length (ring.memory r)
same_memory r s k = memory_parts (ring.memory s) s.span.limit ∙ (λ i. k.places i + length (k.beyond i)) ∙ sym (memory_parts (ring.memory r) r.span.limit)

-- a ring over xs with up to n places
pub memory_lent : {X : Type 0} (xs : List X) (n : ℕ) (r : Ring X) → ring.Over xs n r → length (ring.memory r) ≡ length xs
memory_lent xs n r o = memory_parts (ring.memory r) r.span.limit ∙ (λ i. o.places i + length (o.beyond i)) ∙ sym (memory_parts xs n)

-- a burst that is carried
when_carried : {A : Type 0} (c : Bool) (f : Bool → A) (x : A) → c ≡ true → x ≡ f c → x ≡ f true
when_carried c f x e h = h ∙ ap f e

queue_reached : (m m' : QueueMedium) (b : List ℕ) (r : Offer) → carried b ≡ true → queue.TakesIn m b r m' → Reached (base.Queue (queue.places m)) (base.Queue (queue.places m')) 0 0 (queue.queued m) (queue.queued m') (length (queue.memory m)) (length (queue.memory m')) b r
queue_reached m m' b r e t =
    record {
      answer = when_carried (carried b) (λ c. whole_if (c && queue.free m)) r e t.answer;
      base = ap base.Queue t.kept.places;
      offers = refl;
      bursts = when_carried (carried b) (λ c. cond (c && queue.free m) (queue.queued m ++ b ∷ []) (queue.queued m)) _ e t.bursts;
      size = same_memory _ _ t.kept;
    }

pub queue_offered : (m m' : QueueMedium) (p p' : ℕ) (b : List ℕ) (r : Offer) → Passes queue.TakesIn m p b r m' p' → Does (a_queue m p) (a_queue m' p') (length (queue.memory m)) (length (queue.memory m')) b r
queue_offered = layered queue.TakesIn (λ m. base.Queue (queue.places m)) (λ m. 0) queue.queued (λ m. length (queue.memory m)) queue_reached

-- the bytes of a packed medium are those of its bursts
packed_reached : (m m' : PackedMedium) (b : List ℕ) (r : Offer) → carried b ≡ true → packed.PacksIn m b r m' → Reached (base.Packed (ring.places m.ring)) (base.Packed (ring.places m'.ring)) 0 0 (packed.carries m) (packed.carries m') (length (ring.memory m.ring)) (length (ring.memory m'.ring)) b r
packed_reached m m' b r e t =
    let fits : packed.fits m b ≡ leb (length (row_of (packed.carries m)) + (2 + length b)) (ring.places m.ring) = ap (λ bs. leb (length bs + (2 + length b)) (ring.places m.ring)) (sym m.packs) in
    record {
      answer = when_carried (carried b) (λ c. whole_if (c && packed.fits m b)) r e t.answer ∙ ap whole_if fits;
      base = ap base.Packed t.kept.places;
      offers = refl;
      bursts = when_carried (carried b) (λ c. cond (c && packed.fits m b) (packed.carries m ++ b ∷ []) (packed.carries m)) _ e t.bursts ∙ ap (λ f. cond f (packed.carries m ++ b ∷ []) (packed.carries m)) fits;
      size = same_memory _ _ t.kept;
    }

noisy_reached : (m m' : NoisyMedium) (b : List ℕ) (r : Offer) → carried b ≡ true → Sends m b r m' → Reached (base.Noisy (queue.places m.queue) m.pattern.bits) (base.Noisy (queue.places m'.queue) m'.pattern.bits) m.offers m'.offers (queue.queued m.queue) (queue.queued m'.queue) (length (queue.memory m.queue)) (length (queue.memory m'.queue)) b r
noisy_reached m m' b r e t =
    record {
      answer = when_carried (carried b) (λ c. whole_if (c && (not (low m.pattern.bits) && queue.free m.queue))) r e t.answer;
      base = (λ i. base.Noisy (t.kept.places i) (when_carried (carried b) (λ c. cond c (turned m.pattern.bits) m.pattern.bits) _ e t.pattern i));
      offers = when_carried (carried b) (λ c. cond c ((m.offers + 1) % 2 ^ 32) m.offers) _ e t.offers;
      bursts = when_carried (carried b) (λ c. cond (c && queue.free m.queue) (queue.queued m.queue ++ sent m.pattern.bits m.offers b ∷ []) (queue.queued m.queue)) _ e t.bursts;
      size = same_memory _ _ t.kept;
    }

pub packed_offered : (m m' : MutBor PackedMedium) (p p' : ℕ) (b : List ℕ) (r : Offer) → Passes (λ m b r n. packed.PacksIn m.now b r n.now × (n.ghost_name ≡ m.ghost_name)) m p b r m' p' → Does (a_packed m.now p) (a_packed m'.now p') (length (ring.memory m.now.ring)) (length (ring.memory m'.now.ring)) b r
packed_offered = layered (λ m b r n. packed.PacksIn m.now b r n.now × (n.ghost_name ≡ m.ghost_name)) (λ m. base.Packed (ring.places m.now.ring)) (λ m. 0) (λ m. packed.carries m.now) (λ m. length (ring.memory m.now.ring)) (λ m m' b r e t. packed_reached m.now m'.now b r e t.0)

pub noisy_offered : (m m' : NoisyMedium) (p p' : ℕ) (b : List ℕ) (r : Offer) → Passes Sends m p b r m' p' → Does (a_noisy m p) (a_noisy m' p') (length (queue.memory m.queue)) (length (queue.memory m'.queue)) b r
noisy_offered = layered Sends (λ m. base.Noisy (queue.places m.queue) m.pattern.bits) (λ m. m.offers) (λ m. queue.queued m.queue) (λ m. length (queue.memory m.queue)) noisy_reached
