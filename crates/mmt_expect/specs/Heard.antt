-- Which packets have their headers in full.
use Rattle.std.specs.Prelude.{ℕ, ◌%◌, Bool, ◌||◌, ◌==◌}

-- a packet is heard by itself: no header is compressed, or its own is there in full (ARIB STD-B32 Part 3, header compression)
abbrev pub is_heard : ℕ → ℕ → Bool
is_heard full_every place = (full_every == 0) || (place % full_every == 0)
