use Rattle.std.proofs.Common.{rules, [], length, refl, ◌∙◌}
use Rattle.secondary.specs.Buffers.{oldest_of}
use Rattle.secondary.specs.Station.{take_rules}
use Rattle.station.specs.Models.{model}
use Rattle.line.proofs.Reports.{given_is, message_placed, message_told}
use Rattle.line.proofs.at_side.read_out.Goals as goal

pub unwrap-requires : goal.unwrap-requires
unwrap-requires g c = given_is c.give_back.result (c.give_back.ensures.value ∙ (c.in_ok-length.ensures.out [] tt).1)

pub returns-in_err-length-clause-call : goal.returns-in_err-length-clause-call
returns-in_err-length-clause-call g c =
    let e = model c.args.end.now in
    record {
      does = record {
        answer = search rules;
        next = search rules;
        unchanged = λ n r. search rules;
        placed = c.take.ensures.copied ∙ message_placed (take_rules (length c.args.place.now) e.secondary) (oldest_of e.secondary.held) c.args.place.now;
        offered = refl;
        once = refl;
      };
      left = refl;
      taken = refl;
    }

pub returns-clause-call : goal.returns-clause-call
returns-clause-call g c =
    let e = model c.args.end.now in
    record {
      does = record {
        answer = message_told (take_rules (length c.args.place.now) e.secondary) (oldest_of e.secondary.held) c.args.place.now c.take.new.place _ _ c.in_ok-length.ensures.value refl c.take.ensures.copied;
        next = search rules;
        unchanged = λ n r. search rules;
        placed = c.take.ensures.copied ∙ message_placed (take_rules (length c.args.place.now) e.secondary) (oldest_of e.secondary.held) c.args.place.now;
        offered = refl;
        once = refl;
      };
      left = refl;
      taken = refl;
    }
