-- What the code's calls stand for. Assumes nothing.
use Rattle.script_words.specs.Told.{bytes_of}
use Rattle.packet_script.specs.Calls.{Call, read, write}
use Rattle.packet_script.specs.declared.call.PacketCall.{PacketCall}
use Rattle.packet_script.specs.declared.call.PacketCall.TheVariants.{Read, Write}

abbrev pub call_of : PacketCall → Call
call_of (Read kind burst) = read kind (bytes_of burst)
call_of (Write kind letter field size) = write kind letter (bytes_of field) size
