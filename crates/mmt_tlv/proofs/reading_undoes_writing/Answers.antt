use Rattle.std.proofs.Common.{refl, sym}
use Rattle.mmt_tlv.specs.Reading.{packet_of}
use Rattle.mmt_tlv.proofs.Readings.{read_whole, used_is}
use Rattle.mmt_tlv.proofs.reading_undoes_writing.Goals as goal

pub returns-clause-read_back : goal.returns-clause-read_back
returns-clause-read_back c = λ packet rest answer fits read. read_whole answer _ read packet rest fits refl

pub returns-clause-written_back : goal.returns-clause-written_back
returns-clause-written_back c = λ tlv used bytes (fits, within, e). (sym e, sym (used_is (packet_of tlv) used bytes within e))
