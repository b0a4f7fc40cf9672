use Rattle.std.proofs.Common.{◌≡◌, ◌<◌, length, get_or, sym, ap, ◌∙◌, arith, rules}
use Rattle.std.proofs.lemmas.List.{get_or_default}
use Rattle.buffer.specs.Buffers.{contents}
use Rattle.buffer.specs.declared.Buffer.{Buffer}
use Rattle.buffer.proofs.Bounds.{length_contents, copied_whole}
use Rattle.buffer.proofs.Turns.{first_of}
use Rattle.secondary.specs.Buffers.{blank, oldest_of}
use Rattle.secondary.proofs.deliveries.Deliveries.copy_oldest.Goals as goal

pub returns : goal.returns
returns c =
    let t = c.args.self.now in
    let long : length t.buffers ≡ 8 = search rules in
    let at = t.place in
    let within : t.oldest < length t.buffers = omega arith in
    let b = get_or t.buffers t.oldest c.index-self-self.result in
    let oldest = ap (λ (x : Buffer 96). contents x) (get_or_default t.buffers t.oldest c.index-self-self.result blank within) ∙ sym (ap oldest_of (first_of contents blank t.buffers t.oldest at long t.held c.requires.1)) in
    let fits = length_contents b in
    let whole = copied_whole (contents b) c.args.place.now _ c.copy_to.result (omega arith) c.copy_to.ensures.value c.copy_to.ensures.copied in
    record { value = whole.0 ∙ ap length oldest; copied = cc }
