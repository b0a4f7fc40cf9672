-- What the reader's packet stands for. Assumes nothing.
use Rattle.packet.specs.declared.reader.Packet.{Packet}
use Rattle.packet.specs.Bytes.{byte_of}
use Rattle.packet.specs.Format.{Parts, parts}

abbrev pub told : Packet → Parts
told p = parts (byte_of p.letter) p.place p.field.now
