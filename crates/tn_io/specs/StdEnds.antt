-- What contracts see of a source over a reader of std and of a sink over a writer.
use Rattle.std.specs.Prelude.{ℕ}
use Rattle.tn_io.specs.declared.standard.StdSource.{StdSource}
use Rattle.tn_io.specs.declared.standard.StdSink.{StdSink}

-- the reader that a source reads
abbrev pub reader_of : {R : Type 0} → StdSource R → R
reader_of source = source.inner

-- how often a source's reader has failed
abbrev pub read_faults : {R : Type 0} → StdSource R → ℕ
read_faults source = source.faults

-- the writer that a sink writes to
abbrev pub writer_of : {W : Type 0} → StdSink W → W
writer_of sink = sink.inner

-- how often a sink's writer has failed
abbrev pub write_faults : {W : Type 0} → StdSink W → ℕ
write_faults sink = sink.faults
