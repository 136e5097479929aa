-- What a gateway has gathered for the port, as output.
use Rattle.mmt_io.specs.Output.{Output}
use Rattle.mmt_gateway.specs.declared.gathered.Gathered.{Gathered}

abbrev pub of_gathered : Gathered → Output
of_gathered g = record { written = g.out.items; noted = g.notes.items }
