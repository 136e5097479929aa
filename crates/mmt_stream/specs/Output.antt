-- What goes out of a port, as `mmt_io` says it.
pub use Rattle.mmt_io.specs.Output.{Output, nothing, followed, output_of, IsPrefix, IsPrefixOf, IsPrefixOf as IsStartOf, NoRead}
