-- The files that are made from a number have all bytes of their units.
use Rattle.std.proofs.Common.{◌≡◌, ℕ, ◌+◌, ◌*◌, ◌<◌, ◌≤◌, true, List, length, take, drop, arith, refl, ap, subst, ◌∙◌, length-drop, length-take}
use Rattle.std.specs.List.{AllByRecursion}
use Rattle.mmt_cast.proofs.Listing.{each-at}
use Rattle.mmt_cast.specs.Placing.{PlacedUnit, all_units}
use Rattle.mmt_cast.specs.Right.{no_placed_unit, unit_at, unit_bytes}
use Rattle.mmt_delivery.proofs.Carried.{length-range}
use Rattle.mmt_desk.specs.Numbers.{files_made, list_made, made_tried}
use Rattle.mmt_io.specs.Shelf.{file_in}
use Rattle.mmt_made.proofs.MadeTimes.{each-unit}
use Rattle.mmt_made.specs.Generator.{byte_at, file_bytes, made_file, made_programme}
use Rattle.mmt_model.specs.declared.programmes.Programme.{Programme}
use Rattle.mmt_send.specs.Files.{IsUnitShort, files_on}
use Rattle.mmt_send.specs.Held.{AreWhole}
use Rattle.mmt_trial.specs.Trials.{TrialEnds, tried}
use Rattle.mmt_trial.specs.declared.trying.TrialEnd.{TrialEnd}
use Rattle.mmt_trial.specs.declared.trying.TrialEnd.TheVariants as ends
use Rattle.mmt_trial.specs.declared.trying.Tried.{Tried}

file-long : (n a size : ℕ) → length (file_bytes n a size) ≡ size
unfolding file_bytes
file-long n a size = length-range (byte_at n a) size

video-file : (n : ℕ) → files_made n 0 ≡ file_bytes n 0 10800000
unfolding made_programme
video-file n = refl

audio-file : (n : ℕ) → files_made n 1 ≡ file_bytes n 1 288000
unfolding made_programme
audio-file n = refl

item-file : (n : ℕ) → files_made n 2 ≡ file_bytes n 2 5000
unfolding made_programme
item-file n = refl

-- a file of N bytes has those of a unit that ends with it or before
unit-held : (size from len : ℕ) (bytes : List ℕ) → length bytes ≡ size → from + len ≤ size → len ≤ length (take len (drop from bytes))
unit-held size from len bytes is within = omega (arith, is, within, length-take len (drop from bytes), length-drop from bytes)

abbrev IsHeld : ℕ → PlacedUnit → Type 0
IsHeld n x = x.value.length ≤ length (unit_bytes (files_made n) x)

all-held : (n : ℕ) → AllByRecursion (IsHeld n) (all_units made_programme)
unfolding unit_bytes
all-held n =
    each-unit (IsHeld n)
    (λ k l. unit-held 10800000 (3000 * k) 3000 (files_made n 0) (ap length (video-file n) ∙ file-long n 0 10800000) (omega (arith, l)))
    (λ k l. unit-held 288000 (300 * k) 300 (files_made n 1) (ap length (audio-file n) ∙ file-long n 1 288000) (omega (arith, l)))
    (unit-held 5000 0 5000 (files_made n 2) (ap length (item-file n) ∙ file-long n 2 5000) (omega arith))

held-at : (n u : ℕ) → u < length (all_units made_programme) → IsHeld n (unit_at made_programme u)
unfolding unit_at
held-at n u l = each-at (IsHeld n) (all_units made_programme) u no_placed_unit (all-held n) l

-- no unit is short
pub are-whole : (n : ℕ) → AreWhole made_programme (files_made n)
are-whole n unit size held s = omega (arith, held-at n unit s.known, s.len, s.got, s.short)

-- ---- a trial of the made programme, of these files

same-files : (programme : Programme) (files : List (List ℕ × List ℕ)) (n : ℕ) → programme ≡ made_programme → ((name : List ℕ) → file_in files name ≡ made_file n name) → files_on (file_in files) programme ≡ files_made n
same-files programme files n made same = λ i. files_on (λ (name : List ℕ). same name i) (made i)

-- its numbers are those of the number
pub tried-is : (programme : Programme) (files : List (List ℕ × List ℕ)) (list : List ℕ) (n : ℕ) (t : Tried) → programme ≡ made_programme → ((name : List ℕ) → file_in files name ≡ made_file n name) → list ≡ list_made n
    → t ≡ tried programme (files_on (file_in files) programme) list → t ≡ made_tried n
tried-is programme files list n t made same listed is = is ∙ (λ i. tried (made i) (same-files programme files n made same i) (listed i))

-- and no unit of it is short
pub none-short : (programme : Programme) (files : List (List ℕ × List ℕ)) (n : ℕ) (end : TrialEnd) (before now unit size held : ℕ) → programme ≡ made_programme → ((name : List ℕ) → file_in files name ≡ made_file n name)
    → end ≡ ends.UnitShort unit size held → TrialEnds programme true (file_in files) before now end → ⊥
none-short programme files n end before now unit size held made same is cause =
    let short : IsUnitShort programme (files_on (file_in files) programme) unit size held = subst (λ (e : TrialEnd). TrialEnds programme true (file_in files) before now e) is cause refl in
    are-whole n unit size held (subst (λ (fs : ℕ → List ℕ). IsUnitShort made_programme fs unit size held) (same-files programme files n made same) (subst (λ (p : Programme). IsUnitShort p (files_on (file_in files) programme) unit size held) made short))
