-- The clock, lateness and the kept packets. A history is a list of heard packets, the newest first.
use Rattle.std.specs.Prelude.{ℕ, ◌+◌, max, Bool, true, false, not, ◌&&◌, ◌||◌, nat_lt, ◌==◌, List, [], ◌∷◌, if◌then◌else◌}
use Rattle.std.specs.List.{filter, sum_by, list_any}
use Rattle.mmt_base.specs.Ticks.{advance, is_after, plus}
use Rattle.mmt_model.specs.Packets.{Heard}
use Rattle.mmt_model.specs.Sorted.{insert_by}
use Rattle.mmt_model.specs.declared.programmes.Params.{Params}

-- the clock begins at a timestamp, and goes to that of each heard packet that is after it (this project's rule)
unfoldable pub clock : ℕ → List Heard → ℕ
clock start [] = start
clock start (h ∷ older) = advance (clock start older) h.time

-- a packet is in time where the clock is not after its timestamp plus the delay (this project's rule, after the hypothetical receiver buffer model of ISO/IEC 23008-1)
unfoldable pub is_in_time : Params → ℕ → Heard → Bool
is_in_time r now h = not (is_after now (plus h.time r.delay))

-- a packet is in the window where its timestamp plus the window is after the clock (this project's rule, after the HRBM of ISO/IEC 23008-1)
unfoldable pub is_in_window : Params → ℕ → Heard → Bool
is_in_window r now h = is_after (plus h.time r.window) now

-- two packets are one where packet id and number agree (ISO/IEC 23008-1, the packet sequence number)
unfoldable pub is_repeat : Heard → Heard → Bool
is_repeat h p = (p.packet_id == h.packet_id) && (p.number == h.number)

-- the order in which packets are kept: packet ids, then numbers (this project's rule)
unfoldable pub is_kept_before : Heard → Heard → Bool
is_kept_before p q = nat_lt p.packet_id q.packet_id || ((p.packet_id == q.packet_id) && nat_lt p.number q.number)

-- what becomes of a heard packet: it is not opened, or late, or a repeat, or there is no room for it, or it is stored
pub data Outcome : Type 0 where
  Unopened : Outcome
  Late : Outcome
  Repeat : Outcome
  Full : Outcome
  Stored : Outcome

-- the packet is stored
abbrev pub is_stored : Outcome → Bool
is_stored Outcome.Stored = true
is_stored Outcome.Unopened = false
is_stored Outcome.Late = false
is_stored Outcome.Repeat = false
is_stored Outcome.Full = false

-- the packet came too late
abbrev pub is_late : Outcome → Bool
is_late Outcome.Late = true
is_late Outcome.Unopened = false
is_late Outcome.Repeat = false
is_late Outcome.Full = false
is_late Outcome.Stored = false

-- the packet is kept already
abbrev pub is_repeated : Outcome → Bool
is_repeated Outcome.Repeat = true
is_repeated Outcome.Unopened = false
is_repeated Outcome.Late = false
is_repeated Outcome.Full = false
is_repeated Outcome.Stored = false

-- there is no room for the packet
abbrev pub is_full : Outcome → Bool
is_full Outcome.Full = true
is_full Outcome.Unopened = false
is_full Outcome.Late = false
is_full Outcome.Repeat = false
is_full Outcome.Stored = false

-- what becomes of a packet at this clock, where `rest` is still kept: the first of the four cases that fits, and else it is stored (this project's rule, after the HRBM of ISO/IEC 23008-1)
unfoldable pub outcome : Params → ℕ → List Heard → Heard → Outcome
outcome r now rest h =
    if not h.is_opened then Outcome.Unopened
    else (if not (is_in_time r now h) then Outcome.Late
    else (if list_any (is_repeat h) rest then Outcome.Repeat
    else (if nat_lt r.bound (sum_by (λ p. p.length) rest + h.length) then Outcome.Full
    else Outcome.Stored)))

-- the kept packets after a packet: with it in its place where it is stored, and else as they were
unfoldable pub kept_after : Outcome → List Heard → Heard → List Heard
kept_after Outcome.Unopened rest h = rest
kept_after Outcome.Late rest h = rest
kept_after Outcome.Repeat rest h = rest
kept_after Outcome.Full rest h = rest
kept_after Outcome.Stored rest h = insert_by is_kept_before h rest

-- those of the kept packets that are still in the window
unfoldable pub still_kept : Params → ℕ → List Heard → List Heard
still_kept r now kept = filter (is_in_window r now) kept

-- the kept packets after a history (this project's rule, after the HRBM of ISO/IEC 23008-1)
unfoldable pub kept : Params → ℕ → List Heard → List Heard
kept r start [] = []
kept r start (h ∷ older) =
    let now = clock start (h ∷ older) in
    let rest = still_kept r now (kept r start older) in
    kept_after (outcome r now rest h) rest h

-- the payload bytes of packets
abbrev pub bytes_of : List Heard → ℕ
bytes_of packets = sum_by (λ p. p.length) packets

-- the greatest sum of kept payload bytes so far, and 0 before the first packet (this project's rule)
unfoldable pub peak : Params → ℕ → List Heard → ℕ
peak r start [] = 0
peak r start (h ∷ older) = max (peak r start older) (bytes_of (kept r start (h ∷ older)))
