-- What is printed for a packet call. Assumes nothing.
use Rattle.std.specs.Prelude.{ℕ, List, ◌∷◌, ◌++◌, length, codes, decimal}
use Rattle.notation.specs.Hex.{hex}
use Rattle.packet.specs.Format.{Parts, parts, packet, reading, writing}
use Rattle.packet.specs.Refusals.{Answer, refused, gave}
use Rattle.answers.specs.Checks.{check}
use Rattle.answers.specs.Lines.{end, refusal, burst_line}
use Rattle.packet_script.specs.Calls.{Call, read, write}

-- `letter=E place=2 length=0 field=-`
abbrev pub read_line : Answer Parts → List ℕ
read_line (refused n) = refusal n
read_line (gave (parts l p f)) =
    codes "letter=" ++ (l ∷ codes " place=" ++ (decimal p ++ (codes " length=" ++ (decimal (length f) ++ (codes " field=" ++ (hex f ++ end))))))

-- the packet as it lies in its place, or why there is none
abbrev pub write_line : Answer ℕ → List ℕ → List ℕ
write_line (refused n) p = refusal n
write_line (gave n) p = burst_line p

abbrev pub printed : Call → List ℕ
printed (read k b) = read_line (reading 1 (check k) b)
printed (write k l f n) = write_line (writing 1 l f n) (packet (check k) l f)
