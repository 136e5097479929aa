-- Ticks of 1/65536 second, and the 32-bit timestamps that wrap round: the timestamp of an MMTP packet is
-- the middle 32 bits of a 64-bit NTP time (ISO/IEC 23008-1, the MMTP packet header).
use Rattle.std.specs.Prelude.{ℕ, ◌+◌, ◌-◌, ◌/◌, ◌%◌, ◌^◌, Bool, ◌&&◌, nat_lt, nat_le, if◌then◌else◌}

-- the timestamp of a whole number of ticks: its value modulo 2^32
unfoldable pub low : ℕ → ℕ
low t = t % 2 ^ 32

-- (a - b) modulo 2^32
unfoldable pub ahead_of : ℕ → ℕ → ℕ
ahead_of a b = (a + (2 ^ 32 - b)) % 2 ^ 32

-- a is after b: at least one tick ahead, and less than 2^31
unfoldable pub is_after : ℕ → ℕ → Bool
is_after a b = nat_le 1 (ahead_of a b) && nat_lt (ahead_of a b) (2 ^ 31)

-- a plus some ticks, modulo 2^32
unfoldable pub plus : ℕ → ℕ → ℕ
plus a ticks = (a + ticks) % 2 ^ 32

-- d is passed on the way of the clock from c0 to c1
unfoldable pub is_passed : ℕ → ℕ → ℕ → Bool
is_passed d c0 c1 = nat_le 1 (ahead_of d c0) && nat_le (ahead_of d c0) (ahead_of c1 c0)

-- the clock once it has heard a timestamp: it never goes back
unfoldable pub advance : ℕ → ℕ → ℕ
advance clock heard = if is_after heard clock then heard else clock

-- the first tick at or after an NTP time, which counts units of 2^-32 second: the time divided by 65536, rounded up
unfoldable pub due_of : ℕ → ℕ
due_of time = (time + 65535) / 65536
