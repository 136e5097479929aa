-- What a pool holds: the receiver's buffer, after the hypothetical receiver buffer model of ISO/IEC 23008-1.
use Rattle.std.specs.Prelude.{◌≡◌, ℕ, ◌+◌, ◌<◌, ◌≤◌, ◌^◌, Bool, true, false, ◌&&◌, ◌||◌, nat_lt, ◌==◌, List, [], ◌∷◌, length, take, drop, Option, Some, None, if◌then◌else◌, option_map, IsSomeAnd, ⊤}
use Rattle.std.specs.List.{sum_by, list_any, AllByRecursion}
use Rattle.mmt_base.specs.Ticks.{is_after, plus}
use Rattle.mmt_packet.specs.declared.packet.Kind.{Kind}
use Rattle.mmt_packet.specs.declared.packet.Kind.TheVariants as kinds

-- a kept packet: packet id, packet sequence number, timestamp in ticks, kind and payload bytes (ISO/IEC 23008-1, the MMTP packet)
pub record Kept : Type 0 where
  pub packet_id : ℕ
  pub number : ℕ
  pub time : ℕ
  pub kind : Kind
  pub payload : List ℕ

-- a pool: its packets in the order of packet id, then number, how many payload bytes it may hold, and the most that it has held (this project's rule)
pub record Holding : Type 0 where
  pub kept : List Kept
  pub bound : ℕ
  pub peak : ℕ

-- the payload length in bytes (this project's rule: headers do not count)
abbrev pub size_of : Kept → ℕ
size_of p = length p.payload

-- the sum of the payload lengths in bytes (this project's rule)
abbrev pub held : List Kept → ℕ
held kept = sum_by size_of kept

-- the packet has this packet id and number (ISO/IEC 23008-1, the packet sequence number)
unfoldable pub is_at : ℕ → ℕ → Kept → Bool
is_at id number p = (p.packet_id == id) && (p.number == number)

-- the order of packet id, then number (this project's rule)
unfoldable pub is_before : Kept → Kept → Bool
is_before p q = nat_lt p.packet_id q.packet_id || ((p.packet_id == q.packet_id) && nat_lt p.number q.number)

-- each packet stands before all that follow it, so no two have the same packet id and number (this project's rule)
unfoldable pub IsInOrder : List Kept → Type 0
IsInOrder [] = ⊤
IsInOrder (p ∷ ps) = AllByRecursion (λ q. is_before p q ≡ true) ps × IsInOrder ps

-- the packet's timestamp plus the window is after the clock (this project's rule, after the hypothetical receiver buffer model of ISO/IEC 23008-1)
unfoldable pub is_in_window : ℕ → ℕ → Kept → Bool
is_in_window clock window p = is_after (plus p.time window) clock

-- MPU packets and signalling packets may be kept (this project's rule)
abbrev pub is_kept_kind : Kind → Bool
is_kept_kind kinds.Mpu = true
is_kept_kind kinds.Generic = false
is_kept_kind kinds.Signalling = true

-- the kept packet of this packet id and number, if there is one (this project's rule)
abbrev pub packet_at : List Kept → ℕ → ℕ → Option Kept
packet_at [] id number = None
packet_at (p ∷ ps) id number = if is_at id number p then Some p else packet_at ps id number

-- its payload bytes (this project's rule)
abbrev pub payload_at : List Kept → ℕ → ℕ → Option (List ℕ)
payload_at kept id number = option_map (λ p. p.payload) (packet_at kept id number)

-- its kind (this project's rule)
abbrev pub kind_at : List Kept → ℕ → ℕ → Option Kind
kind_at kept id number = option_map (λ p. p.kind) (packet_at kept id number)

-- the packet is kept, and `count` bytes from there on lie in its payload (this project's rule)
abbrev pub HasPart : List Kept → ℕ → ℕ → ℕ → ℕ → Type 0
HasPart kept id number from count = IsSomeAnd (payload_at kept id number) (λ bytes. from + count ≤ length bytes)

-- `count` bytes of its payload from there on (this project's rule)
abbrev pub part_at : List Kept → ℕ → ℕ → ℕ → ℕ → Option (List ℕ)
part_at kept id number from count = option_map (λ bytes. take count (drop from bytes)) (payload_at kept id number)

-- the packets without the one of this packet id and number (this project's rule)
abbrev pub without : List Kept → ℕ → ℕ → List Kept
without [] id number = []
without (p ∷ ps) id number = if is_at id number p then ps else p ∷ without ps id number

-- the payload stands in these bytes from there on (this project's rule)
pub record LiesAt (bytes : List ℕ) (from : ℕ) (payload : List ℕ) : Type 0 where
  pub fits : from + length payload ≤ length bytes
  pub same : take (length payload) (drop from bytes) ≡ payload

-- the packet has a kind that may be kept, a number of 32 bits, and fewer than 2^31 bytes of payload (ISO/IEC 23008-1, the packet sequence number; the kinds and the length are this project's rule)
pub record IsKeepable (p : Kept) : Type 0 where
  pub kind : is_kept_kind p.kind ≡ true
  pub number : p.number < 2 ^ 32
  pub short : length p.payload < 2 ^ 31

-- no kept packet has the packet's id and number, and there is room for its payload (this project's rule)
pub record HasRoom (h : Holding) (p : Kept) : Type 0 where
  pub absent : list_any (is_at p.packet_id p.number) h.kept ≡ false
  pub room : held h.kept + length p.payload ≤ h.bound

-- what is true of every pool: it holds no more than its peak and its bound, in order, packets that may be kept (this project's rule)
pub record IsSound (h : Holding) : Type 0 where
  pub within_peak : held h.kept ≤ h.peak
  pub within_bound : h.peak ≤ h.bound
  pub in_order : IsInOrder h.kept
  pub keepable : AllByRecursion IsKeepable h.kept
