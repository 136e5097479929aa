-- The rest of a run, found from packet to packet.
use Rattle.std.specs.Prelude.{◌≡◌, ◌≤◌, ℕ, List, length, Option, Some, None}
use Rattle.mmt_model.specs.Packets.{Heard, Payload}
use Rattle.mmt_model.specs.Units.{Link, rest_of_run, joined}
use Rattle.mmt_runs.specs.declared.following.Extent.{Extent}
use Rattle.mmt_runs.specs.Lending.{parts_from}

-- so many packets and bytes are the rest of a run, or there is no such rest (ISO/IEC 23008-1, the fragmentation indicator)
abbrev pub Follows : (Payload → Link) → List Heard → ℕ → ℕ → ℕ → Option Extent → Type 0
Follows link kept id most number None = rest_of_run link kept id most number ≡ None
Follows link kept id most number (Some e) =
    (rest_of_run link kept id most number ≡ Some (parts_from link kept id e.count number))
    × (e.length ≡ length (joined (parts_from link kept id e.count number)))
    × (e.count ≤ most)
