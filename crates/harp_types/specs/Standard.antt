-- A source over a reader and a sink over a writer: what is under them, and how many of their calls
-- have failed.
use Rattle.std.specs.Prelude.{ℕ}
use Rattle.harp_types.specs.declared.standard.ReaderSource.{ReaderSource}
use Rattle.harp_types.specs.declared.standard.WriterSink.{WriterSink}

abbrev pub read_faults : {R : Type 0} → ReaderSource R → ℕ
read_faults source = source.faults

abbrev pub write_faults : {W : Type 0} → WriterSink W → ℕ
write_faults sink = sink.faults

abbrev pub reader_of : {R : Type 0} → ReaderSource R → R
reader_of source = source.reader

abbrev pub writer_of : {W : Type 0} → WriterSink W → W
writer_of sink = sink.writer
