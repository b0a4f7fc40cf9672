-- Check bytes in a row. Assumes nothing.
use Rattle.std.specs.Prelude.{ℕ, zero, suc, List, ◌++◌}
use Rattle.std.proofs.Common.{arith}
use Rattle.packet.specs.Checks.{Each, sum_check, xor_check}
use Rattle.packet.specs.Folds.{xor_marked}
use Rattle.packet.specs.Ranges.{each_append}
use Rattle.packet_tests.specs.Kinds.{five_check}

pub sum_marked : (xs : List ℕ) → Each 0x80 0xff (sum_check xs)
sum_marked xs zero lt = (omega arith, omega arith)
sum_marked xs (suc k) lt = absurd (omega arith)

pub five_marked : (xs : List ℕ) → Each 0x80 0xff (five_check xs)
five_marked xs =
    each_append 0x80 0xff (sum_check xs) (xor_check xs ++ (xor_check xs ++ (sum_check xs ++ sum_check xs))) (sum_marked xs)
    (each_append 0x80 0xff (xor_check xs) (xor_check xs ++ (sum_check xs ++ sum_check xs)) (xor_marked xs)
    (each_append 0x80 0xff (xor_check xs) (sum_check xs ++ sum_check xs) (xor_marked xs) (each_append 0x80 0xff (sum_check xs) (sum_check xs) (sum_marked xs) (sum_marked xs))))
