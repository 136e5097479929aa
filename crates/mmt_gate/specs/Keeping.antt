-- What a shrinker keeps: the headers that have a context, and the squeezer of each.
use Rattle.std.specs.Prelude.{◌≡◌, ℕ, ◌+◌, ◌<◌, ◌≤◌, ◌%◌, List, [], ◌∷◌, map, count_by, length, All}
use Rattle.mmt_ip.specs.declared.packet.Ip6Header.{Ip6Header}
use Rattle.mmt_ctx.specs.Squeezing.{Squeezing as Squeezer, IsAtCall}
use Rattle.mmt_gate.specs.Flows.{Options, same, with_context}
use Rattle.mmt_gate.specs.declared.flow.Flow.{Flow}

-- a header as what it is looked up by
abbrev pub flow_of : Ip6Header → Flow
flow_of h = record {
  traffic_class = h.traffic_class;
  flow_label = h.flow_label;
  hop_limit = h.hop_limit;
  source = h.source;
  destination = h.destination;
  source_port = h.source_port;
  destination_port = h.destination_port;
}

-- a shrinker: its options, the headers that have a context, and their squeezers
pub record Shrinking : Type 0 where
  pub options : Options
  pub flows : List Flow
  pub squeezers : List Squeezer

-- the squeezer of a header in a context, where N packets of it are among the headers
abbrev pub squeezer_after : Options → List Ip6Header → ℕ → Ip6Header → Squeezer
squeezer_after s hs context h = record {
  context = context;
  full_every = s.full_every;
  header = h;
  number = count_by (same h) hs % 16;
  since = count_by (same h) hs % s.full_every;
}

-- the squeezers of headers from a context on
abbrev pub squeezers_after : Options → List Ip6Header → ℕ → List Ip6Header → List Squeezer
squeezers_after s hs context [] = []
squeezers_after s hs context (h ∷ known) = squeezer_after s hs context h ∷ squeezers_after s hs (context + 1) known

-- these headers have a context, and these headers were squeezed
pub record Knows (known hs : List Ip6Header) (s : Shrinking) : Type 0 where
  pub flows : s.flows ≡ map flow_of known
  pub squeezers : s.squeezers ≡ squeezers_after s.options hs s.options.context known

-- the headers of these packets were squeezed
abbrev pub HasSqueezed : List Ip6Header → Shrinking → Type 0
HasSqueezed hs s = Knows (with_context s.options hs) hs s

-- What always holds of a shrinker: its options are within their ranges, each header that has a context has a squeezer, and each
-- squeezer is before some call.
pub record IsSound (s : Shrinking) : Type 0 where
  pub context : s.options.context < 4096
  pub full_every : 1 ≤ s.options.full_every
  pub pairs : length s.flows ≡ length s.squeezers
  pub calls : All (λ q. (call : ℕ) × IsAtCall call q) s.squeezers
