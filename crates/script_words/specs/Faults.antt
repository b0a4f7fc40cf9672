-- What is printed of a line that is not carried out. Assumes nothing.
use Rattle.std.specs.Prelude.{ℕ, List, codes}
use Rattle.script_words.specs.declared.fault.Fault.{Fault}
use Rattle.script_words.specs.declared.fault.Fault.TheVariants.{UnknownCommand, TooFewWords, Kind, Letter, Bytes, Size, EndName, Line, MediumName, Spec, Side, TooManyWords, NoEnd, NoSlip, SlipKept, NoMedium, NoLine}

abbrev pub text : Fault → List ℕ
text UnknownCommand = codes "unknown command"
text TooFewWords = codes "too few words"
text Kind = codes "KIND is sum or xor"
text Letter = codes "LETTER is one byte in hexadecimal"
text Bytes = codes "BYTES are pairs of hexadecimal digits"
text Size = codes "SIZE is a decimal number"
text EndName = codes "NAME is a or b"
text Line = codes "LINE is a number from 0 to 255"
text MediumName = codes "NAME is m or n"
text Spec = codes "SPEC is queue:PLACES, packed:BYTES or noisy:PLACES:PATTERN, or one of these after lossy:PATTERN/"
text Side = codes "a side is west, east or a number from 0 to 255"
text TooManyWords = codes "too many words"
text NoEnd = codes "no end of that name is open"
text NoSlip = codes "no slip is kept"
text SlipKept = codes "a slip is kept"
text NoMedium = codes "no medium of that name is made"
text NoLine = codes "no line is open"
