use Rattle.mmt_tlv.proofs.CutLemmas.{frames_whole, frames_cut}
use Rattle.mmt_tlv.proofs.stream.end_of.Goals as goal

pub returns-in-Whole : goal.returns-in-Whole
returns-in-Whole c = λ stream spans cut. frames_whole stream c.args.cutter.now spans cut c.in-Whole.ensures

pub returns-in-Cut : goal.returns-in-Cut
returns-in-Cut c = λ stream spans cut. frames_cut stream c.args.cutter.now spans c.in-Cut.place cut c.in-Cut.ensures
