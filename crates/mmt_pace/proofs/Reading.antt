-- What stands at a place of a cast at other ticks.
use Rattle.std.proofs.Common.{◌≡◌, ℕ, ◌+◌, ◌<◌, ◌==◌, ◌&&◌, suc, zero, cond, List, [], ◌∷◌, map, length, get_or, arith, refl, ap, ap₂, ◌∙◌}
use Rattle.std.proofs.lemmas.List.{length-map}
use Rattle.mmt_cast.proofs.Listing.{at-map_from_0, length-map_from}
use Rattle.mmt_cast.specs.Placing.{map_from}
use Rattle.mmt_model.specs.Carrying.{Contents, copy_place, entry_of_unit, mpu_of, mpu_place, no_sent_mpu, no_sent_unit, no_table_copy, sent_mpu, sent_unit, table_copy}
use Rattle.mmt_model.specs.declared.casts.Cast.{Cast}
use Rattle.mmt_model.specs.declared.casts.Sent.{Sent}
use Rattle.mmt_model.specs.declared.casts.SentMpu.{SentMpu}
use Rattle.mmt_model.specs.declared.casts.SentUnit.{SentUnit}
use Rattle.mmt_model.specs.declared.casts.TableCopy.{TableCopy}
use Rattle.mmt_pace.proofs.Moved.{sorted_at}
use Rattle.mmt_pace.specs.Recast.{copy_in_packets, mpu_named_by, recast, retimed, unit_in_packets}

at-map : {X Y : Type 0} (f : X → Y) (xs : List X) (i : ℕ) (d : X) (e : Y) → i < length xs → get_or (map f xs) i e ≡ f (get_or xs i d)
at-map f [] i d e l = absurd (omega arith)
at-map f (x ∷ xs) zero d e l = refl
at-map f (x ∷ xs) (suc i) d e l = at-map f xs i d e (omega arith)

pub packets-are : (ticks : ℕ → ℕ) (cast : Cast) → (recast ticks cast).packets ≡ sorted_at ticks cast.packets
unfolding recast
packets-are ticks cast = refl

pub units-many : (ticks : ℕ → ℕ) (cast : Cast) → length (recast ticks cast).units ≡ length cast.units
unfolding recast
units-many ticks cast = length-map_from (unit_in_packets (retimed ticks cast.packets)) 0 cast.units

pub mpus-many : (ticks : ℕ → ℕ) (cast : Cast) → length (recast ticks cast).mpus ≡ length cast.mpus
unfolding recast
mpus-many ticks cast = length-map_from (mpu_named_by (map (copy_in_packets (retimed ticks cast.packets)) cast.copies)) 0 cast.mpus

pub copies-many : (ticks : ℕ → ℕ) (cast : Cast) → length (recast ticks cast).copies ≡ length cast.copies
unfolding recast
copies-many ticks cast = length-map cast.copies (copy_in_packets (retimed ticks cast.packets))

pub unit-is : (ticks : ℕ → ℕ) (cast : Cast) (u : ℕ) → u < length cast.units → sent_unit (recast ticks cast) u ≡ unit_in_packets (retimed ticks cast.packets) u (sent_unit cast u)
unfolding recast sent_unit
unit-is ticks cast u l = at-map_from_0 (unit_in_packets (retimed ticks cast.packets)) cast.units u no_sent_unit no_sent_unit l

pub mpu-is : (ticks : ℕ → ℕ) (cast : Cast) (m : ℕ) → m < length cast.mpus → sent_mpu (recast ticks cast) m ≡ mpu_named_by (recast ticks cast).copies m (sent_mpu cast m)
unfolding recast sent_mpu
mpu-is ticks cast m l = at-map_from_0 (mpu_named_by (map (copy_in_packets (retimed ticks cast.packets)) cast.copies)) cast.mpus m no_sent_mpu no_sent_mpu l

pub copy-is : (ticks : ℕ → ℕ) (cast : Cast) (c : ℕ) → c < length cast.copies → table_copy (recast ticks cast) c ≡ copy_in_packets (retimed ticks cast.packets) (table_copy cast c)
unfolding recast table_copy
copy-is ticks cast c l = at-map (copy_in_packets (retimed ticks cast.packets)) cast.copies c no_table_copy no_table_copy l

same-copies : (packets : List Sent) (cs : List TableCopy) (s : ℕ) → copy_place (map (copy_in_packets packets) cs) s ≡ copy_place cs s
unfolding copy_place copy_in_packets
same-copies packets [] s = refl
same-copies packets (c ∷ cs) s = ap (λ k. cond (c.signal == s) 0 (suc k)) (same-copies packets cs s)

pub copy-places : (ticks : ℕ → ℕ) (cast : Cast) (s : ℕ) → copy_place (recast ticks cast).copies s ≡ copy_place cast.copies s
unfolding recast
copy-places ticks cast s = same-copies (retimed ticks cast.packets) cast.copies s

same-mpus : (copies : List TableCopy) (n a b : ℕ) (ms : List SentMpu) → mpu_place (map_from (mpu_named_by copies) n ms) a b ≡ mpu_place ms a b
unfolding mpu_place map_from mpu_named_by
same-mpus copies n a b [] = refl
same-mpus copies n a b (m ∷ ms) = ap (λ k. cond ((m.asset == a) && (m.mpu == b)) 0 (suc k)) (same-mpus copies (n + 1) a b ms)

pub mpu-places : (ticks : ℕ → ℕ) (cast : Cast) (a b : ℕ) → mpu_place (recast ticks cast).mpus a b ≡ mpu_place cast.mpus a b
unfolding recast
mpu-places ticks cast a b = same-mpus (map (copy_in_packets (retimed ticks cast.packets)) cast.copies) 0 a b cast.mpus

-- a unit's MPU and its entry stay
pub mpu-of-is : (ticks : ℕ → ℕ) (cast : Cast) (u : ℕ) → u < length cast.units → mpu_of (recast ticks cast) u ≡ mpu_of cast u
unfolding mpu_of unit_in_packets
mpu-of-is ticks cast u l =
    ap₂ (mpu_place (recast ticks cast).mpus) (ap (λ (s : SentUnit). s.asset) (unit-is ticks cast u l)) (ap (λ (s : SentUnit). s.mpu) (unit-is ticks cast u l))
    ∙ mpu-places ticks cast (sent_unit cast u).asset (sent_unit cast u).mpu

pub entry-is : (ticks : ℕ → ℕ) (cast : Cast) (contents : Contents) (u : ℕ) → u < length cast.units → entry_of_unit (recast ticks cast) contents u ≡ entry_of_unit cast contents u
unfolding entry_of_unit
entry-is ticks cast contents u l = ap contents.entry (mpu-of-is ticks cast u l)

-- the numbers of a unit's packets stay, and so do those of a copy's
pub unit-number : (ticks : ℕ → ℕ) (cast : Cast) (u : ℕ) → u < length cast.units → (sent_unit (recast ticks cast) u).first_number ≡ (sent_unit cast u).first_number
unfolding unit_in_packets
unit-number ticks cast u l = ap (λ (s : SentUnit). s.first_number) (unit-is ticks cast u l)

pub unit-count : (ticks : ℕ → ℕ) (cast : Cast) (u : ℕ) → u < length cast.units → (sent_unit (recast ticks cast) u).count ≡ (sent_unit cast u).count
unfolding unit_in_packets
unit-count ticks cast u l = ap (λ (s : SentUnit). s.count) (unit-is ticks cast u l)

pub copy-number : (ticks : ℕ → ℕ) (cast : Cast) (c : ℕ) → c < length cast.copies → (table_copy (recast ticks cast) c).first_number ≡ (table_copy cast c).first_number
unfolding copy_in_packets
copy-number ticks cast c l = ap (λ (s : TableCopy). s.first_number) (copy-is ticks cast c l)

pub copy-count : (ticks : ℕ → ℕ) (cast : Cast) (c : ℕ) → c < length cast.copies → (table_copy (recast ticks cast) c).count ≡ (table_copy cast c).count
unfolding copy_in_packets
copy-count ticks cast c l = ap (λ (s : TableCopy). s.count) (copy-is ticks cast c l)

pub copy-signal : (ticks : ℕ → ℕ) (cast : Cast) (c : ℕ) → c < length cast.copies → (table_copy (recast ticks cast) c).signal ≡ (table_copy cast c).signal
unfolding copy_in_packets
copy-signal ticks cast c l = ap (λ (s : TableCopy). s.signal) (copy-is ticks cast c l)

pub copy-names : (ticks : ℕ → ℕ) (cast : Cast) (c : ℕ) → c < length cast.copies → (table_copy (recast ticks cast) c).names ≡ (table_copy cast c).names
unfolding copy_in_packets
copy-names ticks cast c l = ap (λ (s : TableCopy). s.names) (copy-is ticks cast c l)
