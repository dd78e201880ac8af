-- How many failures the adapters over the system have counted, and what a stream writes to.
use Rattle.std.specs.Prelude.{ℕ}
use Rattle.kid_outer.specs.declared.files.Files.{Files}
use Rattle.kid_outer.specs.declared.standard.Stream.{Stream}

abbrev pub files_faults : {R File Dir : Type 0} → Files R File Dir → ℕ
files_faults files = files.faults

abbrev pub stream_faults : {W : Type 0} → Stream W → ℕ
stream_faults stream = stream.faults

abbrev pub stream_writer : {W : Type 0} → Stream W → W
stream_writer stream = stream.stream
