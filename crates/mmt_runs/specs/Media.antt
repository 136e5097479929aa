-- The payload of a kept MPU packet.
use Rattle.std.specs.Prelude.{ℕ, List, Option, Some, None}
use Rattle.mmt_packet.specs.declared.packet.Kind.{Kind}
use Rattle.mmt_packet.specs.declared.packet.Kind.TheVariants as kinds
use Rattle.mmt_pool.specs.Holding.{Kept}

-- the bytes, where the packet is an MPU packet (ISO/IEC 23008-1, the type of an MMTP packet)
abbrev pub if_media : Kind → List ℕ → Option (List ℕ)
if_media kinds.Mpu bytes = Some bytes
if_media kinds.Generic bytes = None
if_media kinds.Signalling bytes = None

-- the payload of the packet, where there is one and it is an MPU packet (ISO/IEC 23008-1, the type of an MMTP packet)
abbrev pub media_at : Option Kept → Option (List ℕ)
media_at None = None
media_at (Some p) = if_media p.kind p.payload
