use Rattle.std.proofs.Common.{rules, refl}
use Rattle.station.specs.End.{change}
use Rattle.station.specs.Models.{model}
use Rattle.line.proofs.Reports.{set_is}
use Rattle.line.proofs.at_side.change_settings.Goals as goal

pub returns : goal.returns
returns g c =
    record {
      does = record {
        answer = set_is c.change_settings.result (change (model c.args.end.now) c.args.frame.now) c.change_settings.ensures.value;
        next = c.change_settings.ensures.after;
        unchanged = λ n r. search rules;
        placed = refl;
        offered = refl;
        once = refl;
      };
      left = refl;
      taken = refl;
    }
