-- Settings in print. Assumes nothing.
use Rattle.std.specs.Prelude.{ℕ, List, ◌++◌, codes, decimal}
use Rattle.settings.specs.declared.values.Settings.{Settings}

-- `enq=200 data=300 M=3 R=8`
abbrev pub text : Settings → List ℕ
text s =
    codes "enq=" ++ (decimal s.enq_period ++ (codes " data=" ++ (decimal s.data_period ++ (codes " M=" ++ (decimal s.attempt_limit ++ (codes " R=" ++ decimal s.receive_limit))))))
