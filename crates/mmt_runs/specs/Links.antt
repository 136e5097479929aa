-- What a packet is to a run, as a value.
use Rattle.mmt_model.specs.Units.{Link as Model_link}
use Rattle.mmt_runs.specs.declared.links.Link.{Link}
use Rattle.mmt_runs.specs.declared.links.Link.TheVariants as links

-- what a packet is to a run, with the bytes of its part (ISO/IEC 23008-1, the fragmentation indicator)
abbrev pub view_link : Link → Model_link
view_link (links.Inner bytes) = Model_link.Inner bytes.now
view_link (links.End bytes) = Model_link.End bytes.now
view_link links.Break = Model_link.Break
