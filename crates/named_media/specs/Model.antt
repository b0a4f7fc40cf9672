-- What the code's names stand for. Assumes nothing.
use Rattle.std.specs.Prelude.{cond, Some, None}
use Rattle.named_media.specs.Chosen.{carrier, memory}
use Rattle.named_media.specs.Media.{Named, named_by}
use Rattle.named_media.specs.declared.media.NamedMedium.{NamedMedium}
use Rattle.named_media.specs.declared.media.Media.{Media}

abbrev pub model : NamedMedium → Named
model n = named_by (cond n.is_made (Some (carrier n.medium)) None) (memory n.medium)

-- the media of the names m and n
abbrev pub models : Media → Named × Named
models w = (model w.m, model w.n)
