-- Flows of a plan, in the form of the command line (this project's rules).
use Rattle.std.specs.Prelude.{ℕ, ◌^◌, Bool, ◌&&◌, not, ◌==◌, nat_lt, List, take, drop, Option, Some, None, option_and_then, Result, if◌then◌else◌}
use Rattle.std.specs.Str.{bytes_eq}
use Rattle.std.specs.Str.Parse.{digits_value}
use Rattle.serde_json.specs.Data.{Data}
use Rattle.serde_json.specs.Find.{as_str}
use Rattle.mmt_command.specs.Flows.{flow_text}
use Rattle.mmt_model.specs.declared.programmes.Flow.{Flow}
use Rattle.mmt_plan.specs.Members.{right_member}
use Rattle.mmt_plan.specs.declared.ends.Refusal.{Refusal}
use Rattle.mmt_plan.specs.declared.spots.Spot.{Spot}

-- the only flow whose text this can be: its address in 32 hexadecimal digits, a byte, and its port in decimal digits
abbrev pub flow_from : List ℕ → Flow
flow_from text = record { address = digits_value 16 (take 32 text); port = digits_value 10 (drop 33 text) }

-- the address has 128 bits, and the port is 1 to 65,535 and not that of NTP (RFC 5905)
abbrev pub is_in_range : Flow → Bool
is_in_range f = nat_lt f.address (2 ^ 128) && (nat_lt 0 f.port && nat_lt f.port (2 ^ 16) && not (f.port == 123))

-- the flow that a text is
unfoldable pub flow_in : List ℕ → Option Flow
flow_in text = if is_in_range (flow_from text) && bytes_eq text (flow_text (flow_from text)) then Some (flow_from text) else None

-- the flow that a value is
abbrev pub as_flow : Data → Option Flow
as_flow d = option_and_then flow_in (as_str d)

-- a member that is a flow
unfoldable pub flow_at : Spot → ℕ → List ℕ → Data → Result Flow Refusal
flow_at = right_member as_flow
