-- The live entries: the MPUs that tables have named.
use Rattle.std.specs.Prelude.{ℕ, Bool, not, ◌&&◌, nat_lt, ◌==◌, List, [], ◌∷◌, ◌++◌, length, max, if◌then◌else◌}
use Rattle.std.specs.List.{filter, list_any, fold}
use Rattle.mmt_base.specs.Ticks.{due_of, is_after, is_passed, low}
use Rattle.mmt_model.specs.Keeping.{Outcome, clock, kept, outcome, still_kept}
use Rattle.mmt_model.specs.Packets.{Heard}
use Rattle.mmt_model.specs.declared.programmes.Params.{Params}

-- the name of an MPU: its packet id, its number, its time and the times of its access units, in units of 2^-32 second (ARIB STD-B60, the MPU timestamp descriptors)
pub record Entry : Type 0 where
  pub packet_id : ℕ
  pub mpu : ℕ
  pub time : ℕ
  pub aus : List ℕ

-- the due tick of the greatest time of an entry (this project's rule)
unfoldable pub last_due : Entry → ℕ
last_due e = due_of (fold max e.time e.aus)

-- two entries are of the same MPU
unfoldable pub is_of_same_mpu : Entry → Entry → Bool
is_of_same_mpu e f = (f.packet_id == e.packet_id) && (f.mpu == e.mpu)

-- an entry is added where its last due tick is after the clock, its MPU has none, and fewer than 1,024 live (this project's rule)
unfoldable pub learn_one : ℕ → List Entry → Entry → List Entry
learn_one now entries e =
    if is_after (low (last_due e)) now && (not (list_any (is_of_same_mpu e) entries) && nat_lt (length entries) 1024)
    then entries ++ e ∷ []
    else entries

-- several entries, one after another
unfoldable pub learn : ℕ → List Entry → List Entry → List Entry
learn now entries [] = entries
learn now entries (e ∷ es) = learn now (learn_one now entries e) es

-- an entry is forgotten once the clock passes its last due tick (this project's rule)
unfoldable pub forget : ℕ → ℕ → List Entry → List Entry
forget before now entries = filter (λ e. not (is_passed (low (last_due e)) before now)) entries

-- the names in a packet's messages count where the packet was stored
unfoldable pub names_if_stored : Outcome → List Entry → List Entry
names_if_stored Outcome.Unopened names = []
names_if_stored Outcome.Late names = []
names_if_stored Outcome.Repeat names = []
names_if_stored Outcome.Full names = []
names_if_stored Outcome.Stored names = names

-- the live entries after a history, where `names_by kept h` are the names in the messages of the stored packet h (this project's rule)
unfoldable pub entries : (List Heard → Heard → List Entry) → Params → ℕ → List Heard → List Entry
entries names_by r start [] = []
entries names_by r start (h ∷ older) =
    let before = clock start older in
    let now = clock start (h ∷ older) in
    let names = names_by (kept r start (h ∷ older)) h in
    learn now (forget before now (entries names_by r start older)) (names_if_stored (outcome r now (still_kept r now (kept r start older)) h) names)
