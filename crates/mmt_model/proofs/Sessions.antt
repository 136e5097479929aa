-- A packet more behind older ones: what the definitions give for it. Lists of packets have the newest first.
use Rattle.std.proofs.Common.{◌≡◌, max, List, [], ◌∷◌, ◌++◌, refl}
use Rattle.mmt_base.specs.Ticks.{advance}
use Rattle.mmt_model.specs.declared.programmes.Params.{Params}
use Rattle.mmt_model.specs.Packets.{Heard}
use Rattle.mmt_model.specs.Keeping.{clock, kept, kept_after, peak, bytes_of}
use Rattle.mmt_model.specs.Entries.{Entry, entries, forget, learn, names_if_stored}
use Rattle.mmt_model.specs.Handing.{Reading, due_units, handed, out}
use Rattle.mmt_model.specs.Sessions.{start_of, clock_of, before_of, rest_at, outcome_at}

-- ---- where a session begins

-- what is kept does not hang on when the clock begins before the first packet
pub same_kept : (r : Params) (h : Heard) (older : List Heard) → kept r (start_of (h ∷ older)) older ≡ kept r (start_of older) older
unfolding kept
same_kept r h [] = refl
same_kept r h (g ∷ older) = refl

pub same_peak : (r : Params) (h : Heard) (older : List Heard) → peak r (start_of (h ∷ older)) older ≡ peak r (start_of older) older
unfolding peak
same_peak r h [] = refl
same_peak r h (g ∷ older) = refl

pub same_entries : (names_by : List Heard → Heard → List Entry) (r : Params) (h : Heard) (older : List Heard) → entries names_by r (start_of (h ∷ older)) older ≡ entries names_by r (start_of older) older
unfolding entries
same_entries names_by r h [] = refl
same_entries names_by r h (g ∷ older) = refl

pub same_out : (g : Reading) (r : Params) (h : Heard) (older : List Heard) → out g r (start_of (h ∷ older)) older ≡ out g r (start_of older) older
unfolding out
same_out g r h [] = refl
same_out g r h (f ∷ older) = refl

-- the clock before a packet is that after the older ones, where there are some, and else its timestamp
pub before_later : (h g : Heard) (older : List Heard) → before_of h (g ∷ older) ≡ clock_of (g ∷ older)
before_later h g older = refl

pub before_first : (h : Heard) → before_of h [] ≡ h.time
unfolding clock
before_first h = refl

pub clock_next : (h : Heard) (older : List Heard) → clock_of (h ∷ older) ≡ advance (before_of h older) h.time
unfolding clock
clock_next h older = refl

-- ---- a packet more

pub kept_next : (r : Params) (h : Heard) (older : List Heard)
    → kept r (start_of (h ∷ older)) (h ∷ older) ≡ kept_after (outcome_at r h older) (rest_at r h older) h
unfolding kept
kept_next r h older = rw (same_kept r h older) refl

pub peak_next : (r : Params) (h : Heard) (older : List Heard)
    → peak r (start_of (h ∷ older)) (h ∷ older) ≡ max (peak r (start_of older) older) (bytes_of (kept r (start_of (h ∷ older)) (h ∷ older)))
unfolding peak
peak_next r h older = rw (same_peak r h older) refl

-- which entries live at a packet before it names any, by those that lived before it
abbrev pub live_at : (List Heard → Heard → List Entry) → Params → Heard → List Heard → List Entry
live_at names_by r h older = forget (before_of h older) (clock_of (h ∷ older)) (entries names_by r (start_of older) older)

pub entries_next : (names_by : List Heard → Heard → List Entry) (r : Params) (h : Heard) (older : List Heard)
    → entries names_by r (start_of (h ∷ older)) (h ∷ older)
    ≡ learn (clock_of (h ∷ older)) (live_at names_by r h older)
    (names_if_stored (outcome_at r h older) (names_by (kept r (start_of (h ∷ older)) (h ∷ older)) h))
unfolding entries
entries_next names_by r h older = rw (same_entries names_by r h older) (rw (same_kept r h older) refl)

pub handed_is : (g : Reading) (r : Params) (h : Heard) (older : List Heard)
    → handed g r (start_of (h ∷ older)) h older ≡ due_units g.sample_base (entries g.names_by r (start_of older) older) (g.units (kept r (start_of older) older)) (before_of h older) (clock_of (h ∷ older))
unfolding handed
handed_is g r h older = rw (same_entries g.names_by r h older) (rw (same_kept r h older) refl)

pub out_next : (g : Reading) (r : Params) (h : Heard) (older : List Heard)
    → out g r (start_of (h ∷ older)) (h ∷ older) ≡ out g r (start_of older) older ++ handed g r (start_of (h ∷ older)) h older
unfolding out
out_next g r h older = rw (same_out g r h older) refl
