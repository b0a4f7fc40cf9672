use Rattle.std.proofs.Common.{◌≡◌, sym, ◌∙◌, rules}
use Rattle.packet.specs.Format.{reading}
use Rattle.packet.specs.Refusals.{refused}
use Rattle.packet.proofs.Readings.{begun, end_at, way_field, way_end, way_check, way_out}
use Rattle.packet.proofs.reader.take_apart.Goals as goal

pub returns-in_err-accept : goal.returns-in_err-accept
returns-in_err-accept g c =
    let long = sym c.if-not-length_fits.ensures in
    let begin = begun g.K.Check.LEN _ g.K.Check.meaning c.args.burst.now _ c.LEN.ensures long c.if-first-ne-STX.false c.in_ok-letter.ensures in
    let refuses : refused _ ≡ reading g.K.Check.LEN g.K.Check.meaning c.args.burst.now = way_field _ _ _ _ _ begin _ c.in_err-accept.ensures in
    search rules

pub returns-then-rest-end-ne-ETX : goal.returns-then-rest-end-ne-ETX
returns-then-rest-end-ne-ETX g c =
    let long = sym c.if-not-length_fits.ensures in
    let begin = begun g.K.Check.LEN _ g.K.Check.meaning c.args.burst.now _ c.LEN.ensures long c.if-first-ne-STX.false c.in_ok-letter.ensures in
    let end = end_at g.K.Check.LEN _ c.args.burst.now c.LEN.ensures long in
    way_end _ _ _ _ _ begin _ c.in_ok-accept.ensures (λ h. c.if-rest-end-ne-ETX.true (end ∙ h))

pub returns-then-not-check_stands : goal.returns-then-not-check_stands
returns-then-not-check_stands g c =
    let long = sym c.if-not-length_fits.ensures in
    let begin = begun g.K.Check.LEN _ g.K.Check.meaning c.args.burst.now _ c.LEN.ensures long c.if-first-ne-STX.false c.in_ok-letter.ensures in
    let end = end_at g.K.Check.LEN _ c.args.burst.now c.LEN.ensures long in
    way_check _ _ _ _ _ begin _ c.in_ok-accept.ensures (sym end ∙ c.if-rest-end-ne-ETX.false) c.if-not-check_stands.ensures

pub returns : goal.returns
returns g c =
    let long = sym c.if-not-length_fits.ensures in
    let begin = begun g.K.Check.LEN _ g.K.Check.meaning c.args.burst.now _ c.LEN.ensures long c.if-first-ne-STX.false c.in_ok-letter.ensures in
    let end = end_at g.K.Check.LEN _ c.args.burst.now c.LEN.ensures long in
    way_out _ _ _ _ _ begin _ c.in_ok-accept.ensures (sym end ∙ c.if-rest-end-ne-ETX.false) c.if-not-check_stands.ensures
