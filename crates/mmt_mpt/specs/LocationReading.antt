-- Reading a location from left to right, up to the first refusal.
use Rattle.std.specs.Prelude.{ℕ, ◌+◌, ◌-◌, ◌*◌, ◌/◌, ◌%◌, ◌==◌, List, length, Result, Ok, if◌then◌else◌}
use Rattle.std.specs.Int.{Width, w8, w16, w32, w128, byte_len}
use Rattle.mmt_base.specs.declared.refused.Refused.{Refused}
use Rattle.mmt_fields.specs.Reading.{◌>>=◌, number_at, bytes_at, refuse}
use Rattle.mmt_mpt.specs.declared.location.LocationWhy.{LocationWhy}
use Rattle.mmt_mpt.specs.declared.location.LocationWhy.TheVariants as why
use Rattle.mmt_mpt.specs.Location.{FlowValue, StreamValue, FlowStreamValue, LocationValue, IsHere, InIp4, InIp6, InStream, InIp6Stream, AtUrl, location_bytes}

-- a flow with addresses of a width, field by field (ARIB STD-B60)
unfoldable pub flow_at : Width → ℕ → List ℕ → Result (FlowValue × List ℕ) (Refused LocationWhy)
flow_at w at bytes = do
  source ← number_at w bytes at why.Short
  destination ← number_at w source.1 (at + byte_len w) why.Short
  port ← number_at w16 destination.1 (at + 2 * byte_len w) why.Short
  packet_id ← number_at w16 port.1 (at + 2 * byte_len w + 2) why.Short
  Ok (record { source = source.0; destination = destination.0; port = port.0; packet_id = packet_id.0 }, packet_id.1)

-- a stream of a network, field by field (ARIB STD-B60)
unfoldable pub stream_at : ℕ → List ℕ → Result (StreamValue × List ℕ) (Refused LocationWhy)
stream_at at bytes = do
  network ← number_at w16 bytes at why.Short
  stream ← number_at w16 network.1 (at + 2) why.Short
  pid ← number_at w16 stream.1 (at + 4) why.Short
  Ok (record { network = network.0; stream = stream.0; reserved = pid.0 / 8192; pid = pid.0 % 8192 }, pid.1)

-- a stream of an IPv6 flow, field by field (ARIB STD-B60)
unfoldable pub flow_stream_at : ℕ → List ℕ → Result (FlowStreamValue × List ℕ) (Refused LocationWhy)
flow_stream_at at bytes = do
  source ← number_at w128 bytes at why.Short
  destination ← number_at w128 source.1 (at + 16) why.Short
  port ← number_at w16 destination.1 (at + 32) why.Short
  pid ← number_at w16 port.1 (at + 34) why.Short
  Ok (record { source = source.0; destination = destination.0; port = port.0; reserved = pid.0 / 8192; pid = pid.0 % 8192 }, pid.1)

-- a text after its length (ARIB STD-B60)
unfoldable pub url_at : ℕ → List ℕ → Result (List ℕ × List ℕ) (Refused LocationWhy)
url_at at bytes = do
  len ← number_at w8 bytes at why.Short
  text ← bytes_at len.0 len.1 (at + 1) why.Short
  Ok (text.0, text.1)

-- a packet id (ARIB STD-B60)
unfoldable pub here_at : ℕ → List ℕ → Result (ℕ × List ℕ) (Refused LocationWhy)
here_at at bytes = number_at w16 bytes at why.Short

-- what was read as one type of location
abbrev pub tagged : {A : Type 0} → (A → LocationValue) → Result (A × List ℕ) (Refused LocationWhy) → Result (LocationValue × List ℕ) (Refused LocationWhy)
tagged f r = r >>= λ x. Ok (f x.0, x.1)

-- what follows a type; a type above 5 is refused at its place (ARIB STD-B60, location_type)
unfoldable pub location_by : ℕ → ℕ → List ℕ → Result (LocationValue × List ℕ) (Refused LocationWhy)
location_by kind at bytes =
    if kind == 0 then tagged IsHere (here_at (at + 1) bytes) else (
    if kind == 1 then tagged InIp4 (flow_at w32 (at + 1) bytes) else (
    if kind == 2 then tagged InIp6 (flow_at w128 (at + 1) bytes) else (
    if kind == 3 then tagged InStream (stream_at (at + 1) bytes) else (
    if kind == 4 then tagged InIp6Stream (flow_stream_at (at + 1) bytes) else (
    if kind == 5 then tagged AtUrl (url_at (at + 1) bytes) else refuse at (why.Kind kind))))))

-- a location, and the bytes after it (ARIB STD-B60, MMT_general_location_info)
unfoldable pub location_at : ℕ → List ℕ → Result (LocationValue × List ℕ) (Refused LocationWhy)
location_at at bytes = do
  kind ← number_at w8 bytes at why.Short
  location_by kind.0 at kind.1

-- the location with which the bytes begin, and how many bytes it has
unfoldable pub location_of : List ℕ → Result (LocationValue × ℕ) (Refused LocationWhy)
location_of bytes = location_at 0 bytes >>= λ x. Ok (x.0, length bytes - length x.1)

-- a location read with the number of its bytes
abbrev pub read_as : LocationValue → Result (LocationValue × ℕ) (Refused LocationWhy)
read_as v = Ok (v, length (location_bytes v))
