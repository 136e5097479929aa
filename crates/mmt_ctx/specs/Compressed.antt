-- A packet as it stands, without where it lies in memory.
use Rattle.mmt_ctx.specs.declared.reading.Compressed.{Compressed}
use Rattle.mmt_ctx.specs.Spelling.{Value}

abbrev pub view : Compressed → Value
view p = record { context = p.context; number = p.number; header = p.header; payload = p.payload.now }
