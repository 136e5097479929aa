-- Locations (ARIB STD-B60, MMT_general_location_info), and their one spelling.
use Rattle.std.specs.Prelude.{ℕ, ◌+◌, ◌*◌, ◌^◌, ◌<◌, List, ◌++◌, length}
use Rattle.std.specs.Int.{Width, w8, w16, w32, w128}
use Rattle.mmt_fields.specs.Reading.{big_endian}

-- an IP flow and a packet id in it (ARIB STD-B60)
pub record FlowValue : Type 0 where
  pub source : ℕ
  pub destination : ℕ
  pub port : ℕ
  pub packet_id : ℕ

-- a transport stream of a network and a PID in it (ARIB STD-B60)
pub record StreamValue : Type 0 where
  pub network : ℕ
  pub stream : ℕ
  pub reserved : ℕ
  pub pid : ℕ

-- a transport stream of an IPv6 flow and a PID in it (ARIB STD-B60)
pub record FlowStreamValue : Type 0 where
  pub source : ℕ
  pub destination : ℕ
  pub port : ℕ
  pub reserved : ℕ
  pub pid : ℕ

-- a location of one of the six types (ARIB STD-B60, location_type)
pub data LocationValue : Type 0 where
  IsHere : (packet_id : ℕ) → LocationValue
  InIp4 : FlowValue → LocationValue
  InIp6 : FlowValue → LocationValue
  InStream : StreamValue → LocationValue
  InIp6Stream : FlowStreamValue → LocationValue
  AtUrl : (text : List ℕ) → LocationValue

-- the number of a type (ARIB STD-B60, location_type)
abbrev pub type_of : LocationValue → ℕ
type_of (IsHere id) = 0
type_of (InIp4 f) = 1
type_of (InIp6 f) = 2
type_of (InStream s) = 3
type_of (InIp6Stream s) = 4
type_of (AtUrl text) = 5

-- two addresses of a width, a port and a packet id (ARIB STD-B60)
unfoldable pub flow_bytes : Width → FlowValue → List ℕ
flow_bytes w f = big_endian w f.source ++ (big_endian w f.destination ++ (big_endian w16 f.port ++ big_endian w16 f.packet_id))

-- three reserved bits and a PID of 13 bits (ARIB STD-B60)
abbrev pub pid_field : ℕ → ℕ → ℕ
pid_field reserved pid = reserved * 2 ^ 13 + pid

-- a network id, a transport stream id and a PID (ARIB STD-B60)
unfoldable pub stream_bytes : StreamValue → List ℕ
stream_bytes s = big_endian w16 s.network ++ (big_endian w16 s.stream ++ big_endian w16 (pid_field s.reserved s.pid))

-- two IPv6 addresses, a port and a PID (ARIB STD-B60)
unfoldable pub flow_stream_bytes : FlowStreamValue → List ℕ
flow_stream_bytes s = big_endian w128 s.source ++ (big_endian w128 s.destination ++ (big_endian w16 s.port ++ big_endian w16 (pid_field s.reserved s.pid)))

-- a text after its length (ARIB STD-B60)
unfoldable pub url_bytes : List ℕ → List ℕ
url_bytes text = big_endian w8 (length text) ++ text

-- the bytes after the type (ARIB STD-B60)
abbrev pub after_type : LocationValue → List ℕ
after_type (IsHere id) = big_endian w16 id
after_type (InIp4 f) = flow_bytes w32 f
after_type (InIp6 f) = flow_bytes w128 f
after_type (InStream s) = stream_bytes s
after_type (InIp6Stream s) = flow_stream_bytes s
after_type (AtUrl text) = url_bytes text

-- a location's bytes: the type and what it asks for (ARIB STD-B60, MMT_general_location_info)
unfoldable pub location_bytes : LocationValue → List ℕ
location_bytes v = big_endian w8 (type_of v) ++ after_type v

-- ---- what has a spelling

-- each field of a flow fits its bits
pub record FlowFits (limit : ℕ) (f : FlowValue) : Type 0 where
  pub source : f.source < limit
  pub destination : f.destination < limit
  pub port : f.port < 2 ^ 16
  pub packet_id : f.packet_id < 2 ^ 16

-- each field of a stream fits its bits
pub record StreamFits (s : StreamValue) : Type 0 where
  pub network : s.network < 2 ^ 16
  pub stream : s.stream < 2 ^ 16
  pub reserved : s.reserved < 8
  pub pid : s.pid < 8192

-- each field of a stream in a flow fits its bits
pub record FlowStreamFits (s : FlowStreamValue) : Type 0 where
  pub source : s.source < 2 ^ 128
  pub destination : s.destination < 2 ^ 128
  pub port : s.port < 2 ^ 16
  pub reserved : s.reserved < 8
  pub pid : s.pid < 8192

-- the locations that have a spelling: each field fits its bits
abbrev pub LocationFits : LocationValue → Type 0
LocationFits (IsHere id) = id < 2 ^ 16
LocationFits (InIp4 f) = FlowFits (2 ^ 32) f
LocationFits (InIp6 f) = FlowFits (2 ^ 128) f
LocationFits (InStream s) = StreamFits s
LocationFits (InIp6Stream s) = FlowStreamFits s
LocationFits (AtUrl text) = length text < 2 ^ 8

-- what the types of a location's fields do not say of it: reserved bits below 8, a PID below 8,192, a text of at most 255 bytes
abbrev pub CanSpell : LocationValue → Type 0
CanSpell (IsHere id) = Unit {0}
CanSpell (InIp4 f) = Unit {0}
CanSpell (InIp6 f) = Unit {0}
CanSpell (InStream s) = (s.reserved < 8) × (s.pid < 8192)
CanSpell (InIp6Stream s) = (s.reserved < 8) × (s.pid < 8192)
CanSpell (AtUrl text) = length text < 2 ^ 8
