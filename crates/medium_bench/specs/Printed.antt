-- What is printed for a medium command. Assumes nothing.
use Rattle.std.specs.Prelude.{ℕ, List, ◌++◌, length, Some, None, codes, decimal, Option}
use Rattle.std.specs.Option.{option_map}
use Rattle.medium.specs.Bursts.{first}
use Rattle.medium.specs.Offered.{name_of}
use Rattle.medium.specs.declared.offer.Offer.{Offer}
use Rattle.medium_script.specs.Calls.{Call, make, offer, take, count, holds, Command}
use Rattle.medium_script.specs.declared.call.Name.{Name}
use Rattle.medium_script.specs.declared.call.Name.TheVariants.{M, N}
use Rattle.script_words.specs.declared.fault.Fault.TheVariants.{NoMedium}
use Rattle.answers.specs.Lines.{end, burst_line, wrong}
use Rattle.named_media.specs.Holding.{holding, holds_text}
use Rattle.named_media.specs.declared.holds.Holds.{Holds}
use Rattle.named_media.specs.Media.{Named, under_way, offer_answer}

abbrev pub offer_line : Offer → List ℕ
offer_line o = name_of o ++ end

abbrev pub holds_line : Holds → List ℕ
holds_line h = holds_text h ++ end

-- what is printed of a medium, unless it is not made
abbrev pub if_made : {A : Type 0} → Option A → (A → List ℕ) → List ℕ
if_made None line = wrong NoMedium
if_made (Some x) line = line x

-- the same, where the answer is printed as `text` says
abbrev pub said : {A : Type 0} → (A → Option (List ℕ)) → Option A → Option (List ℕ)
said text None = Some (wrong NoMedium)
said text (Some x) = option_map (λ t. t ++ end) (text x)

abbrev pub call_line : Named → Call → List ℕ
call_line n (make s) = codes "made" ++ end
call_line n (offer b) = if_made (offer_answer b n) offer_line
call_line n take = if_made (under_way n) λ bs. burst_line (first bs)
call_line n count = if_made (under_way n) λ bs. decimal (length bs) ++ end
call_line n holds = if_made (under_way n) λ bs. holds_line (holding bs)

abbrev pub named : Name → Named × Named → Named
named M w = w.0
named N w = w.1

abbrev pub printed : Named × Named → Command → List ℕ
printed w command = call_line (named command.name w) command.call
