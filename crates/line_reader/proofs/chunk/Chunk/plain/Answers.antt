use Rattle.std.proofs.Common.{arith}
use Rattle.line_reader.proofs.ChunkLemmas.{plain_front}
use Rattle.line_reader.proofs.chunk.Chunk.plain.Goals as goal

pub returns-clause-feedless : goal.returns-clause-feedless
returns-clause-feedless c = plain_front _ c.memchr.result c.min.result c.memchr.ensures (omega arith)
