-- The packets of a unit's parts are one media unit.
use Rattle.std.proofs.Common.{◌≡◌, ℕ, ◌+◌, ◌*◌, ◌^◌, ◌<◌, ◌≤◌, ◌==◌, ◌&&◌, zero, suc, Bool, true, false, List, [], ◌∷◌, ◌++◌, map, length, arith, refl, ap, ap₂, ◌∙◌, ⊎_elim, ◌⊎◌, inl, inr, Some, if◌then◌else◌}
use Rattle.std.specs.List.{flat_map}
use Rattle.std.proofs.lemmas.Bool.{and_from, and_right, cases_eq, cases_lt, eq-eqb, ne_eqb}
use Rattle.std.proofs.lemmas.List.{length-map}
use Rattle.mmt_frag.proofs.PartsJoined.{joined-parts, length-numbers, one-part, parts-enough, parts-some}
use Rattle.mmt_frag.specs.Cuts.{part_bytes, parts}
use Rattle.mmt_frag.proofs.Gapless.{first-role, later-role, several-role, whole-role}
use Rattle.mmt_frag.specs.Fragments.{part_role}
use Rattle.mmt_frag.specs.Laws.{PartsAreOneUnit, heard_part}
use Rattle.mmt_model.specs.Carrying.{numbers}
use Rattle.mmt_model.specs.Packets.{DataUnit, Heard, Payload}
use Rattle.mmt_model.specs.Units.{Link, MediaUnit, after_link, joined, joined_unit, link_at, media_link, next_number, packet_at, rest_of_run, same_flag, unit_from, units_by, units_of, whole_units}
use Rattle.mmt_model.specs.declared.keys.Part.{Part}
use Rattle.mmt_model.specs.declared.keys.Part.TheVariants as part

-- the packets of a unit
abbrev H : (ℕ → ℕ) → (ℕ → ℕ) → ℕ → ℕ → Bool → ℕ → DataUnit → ℕ → ℕ → ℕ → Heard
H time size i c timed mpu d limit n k = heard_part time size i c timed mpu d limit n k

-- the part with a number is found
found : (f : ℕ → Heard) (i c : ℕ) → ((k : ℕ) → (f k).packet_id ≡ i) → ((k : ℕ) → (f k).number ≡ c + k) → (j n k : ℕ) → j ≤ k → k < j + n → packet_at (map f (numbers j n)) i (c + k) ≡ Some (f k)
unfolding packet_at numbers
found f i c ids ns j zero k a b = absurd (omega arith)
found f i c ids ns j (suc n) k a b =
    ⊎_elim
    (λ (e : j ≡ k). ap (λ (t : Bool). if t then Some (f j) else packet_at (map f (numbers (j + 1) n)) i (c + k)) (and_from ((f j).packet_id == i) ((f j).number == c + k) (eq-eqb (f j).packet_id i (ids j)) (eq-eqb (f j).number (c + k) (omega (arith, ns j, e)))) ∙ ap (λ (m : ℕ). Some (f m)) e)
    (λ (ne : j ≡ k → ⊥).
    ap (λ (t : Bool). if t then Some (f j) else packet_at (map f (numbers (j + 1) n)) i (c + k)) (and_right ((f j).packet_id == i) ((f j).number == c + k) (ne_eqb (f j).number (c + k) (λ e. ne (omega (arith, ns j, e)))))
    ∙ found f i c ids ns (j + 1) n k (sooner j k a ne) (omega arith))
    (cases_eq j k)
  where
    sooner : (j k : ℕ) → j ≤ k → (j ≡ k → ⊥) → j + 1 ≤ k
    sooner j k a ne = ⊎_elim (λ (lt : j < k). omega arith) (λ (ge : k ≤ j). absurd (ne (omega arith))) (cases_lt j k)

-- a part is linked to those before it
same-self : (b : Bool) → same_flag b b ≡ true
same-self true = refl
same-self false = refl

linked : (timed : Bool) (mpu : ℕ) → (same_flag timed timed && (mpu == mpu)) ≡ true
linked timed mpu = and_from (same_flag timed timed) (mpu == mpu) (same-self timed) (eq-eqb mpu mpu refl)

-- the role of a later part
last-is : (k n : ℕ) → 1 < n → 0 < k → k + 1 ≡ n → part_role k n ≡ part.Last
last-is k n more some e = several-role k n more ∙ (later-role k n some ∙ ap (λ (t : Bool). if t then part.Last else part.Middle) (eq-eqb (k + 1) n e))

middle-is : (k n : ℕ) → 1 < n → 0 < k → k + 1 < n → part_role k n ≡ part.Middle
middle-is k n more some l = several-role k n more ∙ (later-role k n some ∙ ap (λ (t : Bool). if t then part.Last else part.Middle) (ne_eqb (k + 1) n (λ e. omega (arith, e))))

first-is : (n : ℕ) → 1 < n → part_role 0 n ≡ part.First
first-is n more = several-role 0 n more ∙ first-role n

-- what a later part is to a run
end-link : (timed : Bool) (mpu : ℕ) (p : Part) (d : DataUnit) → p ≡ part.Last → media_link timed mpu (Payload.Media p timed mpu (d ∷ [])) ≡ Link.End d.bytes
unfolding media_link
end-link timed mpu p d e =
    ap (λ q. media_link timed mpu (Payload.Media q timed mpu (d ∷ []))) e
    ∙ ap (λ (t : Bool). if t then Link.End d.bytes else Link.Break) (linked timed mpu)

inner-link : (timed : Bool) (mpu : ℕ) (p : Part) (d : DataUnit) → p ≡ part.Middle → media_link timed mpu (Payload.Media p timed mpu (d ∷ [])) ≡ Link.Inner d.bytes
unfolding media_link
inner-link timed mpu p d e =
    ap (λ q. media_link timed mpu (Payload.Media q timed mpu (d ∷ []))) e
    ∙ ap (λ (t : Bool). if t then Link.Inner d.bytes else Link.Break) (linked timed mpu)

next-is : (n : ℕ) → n + 1 < 2 ^ 32 → next_number n ≡ n + 1
unfolding next_number
next-is n l = omega arith

-- the run from a later part on: the bytes of the parts from it to the last
run : (time size : ℕ → ℕ) (i c : ℕ) (timed : Bool) (mpu : ℕ) (d : DataUnit) (limit n : ℕ) → 1 < n → c + n ≤ 2 ^ 32 → (m most k : ℕ) → 0 < k → k + suc m ≡ n → suc m ≤ most
    → rest_of_run (media_link timed mpu) (map (H time size i c timed mpu d limit n) (numbers 0 n)) i most (c + k) ≡ Some (map (λ j. part_bytes limit j d.bytes) (numbers k (suc m)))
unfolding rest_of_run link_at after_link numbers
run time size i c timed mpu d limit n more fits m zero k some e b = absurd (omega arith)
run time size i c timed mpu d limit n more fits zero (suc most) k some e b =
    let kept : List Heard = map (H time size i c timed mpu d limit n) (numbers 0 n) in
    let at = found (H time size i c timed mpu d limit n) i c (λ j. refl) (λ j. refl) 0 n k (omega arith) (omega (arith, e)) in
    let link = ap (link_at (media_link timed mpu)) at ∙ end-link timed mpu (part_role k n) (record { key = d.key; priority = d.priority; dependency = d.dependency; bytes = part_bytes limit k d.bytes }) (last-is k n more some (omega (arith, e))) in
    ap (λ l. after_link l (rest_of_run (media_link timed mpu) kept i most (next_number (c + k)))) link
run time size i c timed mpu d limit n more fits (suc m) (suc most) k some e b =
    let kept : List Heard = map (H time size i c timed mpu d limit n) (numbers 0 n) in
    let at = found (H time size i c timed mpu d limit n) i c (λ j. refl) (λ j. refl) 0 n k (omega arith) (omega (arith, e)) in
    let link = ap (link_at (media_link timed mpu)) at ∙ inner-link timed mpu (part_role k n) (record { key = d.key; priority = d.priority; dependency = d.dependency; bytes = part_bytes limit k d.bytes }) (middle-is k n more some (omega (arith, e))) in
    let s : c + k + 1 ≡ c + (k + 1) = omega arith in
    let next : next_number (c + k) ≡ c + (k + 1) = next-is (c + k) (omega (arith, e, fits)) ∙ s in
    ap₂ (λ l r. after_link l r) link
    (ap (rest_of_run (media_link timed mpu) kept i most) next ∙ run time size i c timed mpu d limit n more fits m most (k + 1) (omega arith) (omega (arith, e)) (omega (arith, b)))

-- the bytes of the first part and of the others
start : (limit : ℕ) (bytes : List ℕ) (m : ℕ) → joined (part_bytes limit 0 bytes ∷ map (λ j. part_bytes limit j bytes) (numbers 1 m)) ≡ joined (map (λ j. part_bytes limit j bytes) (numbers 0 (suc m)))
unfolding numbers
start limit bytes m = refl

role-of : (j m n : ℕ) → 1 < n → 0 < j → j + suc m ≡ n → (part_role j n ≡ part.Middle) ⊎ (part_role j n ≡ part.Last)
role-of j zero n more some e = inr (last-is j n more some (omega (arith, e)))
role-of j (suc m) n more some e = inl (middle-is j n more some (omega (arith, e)))

begins-none : (kept : List Heard) (h : Heard) (timed : Bool) (mpu : ℕ) (d : DataUnit) (p : Part) → (p ≡ part.Middle) ⊎ (p ≡ part.Last) → units_by kept h (Payload.Media p timed mpu (d ∷ [])) ≡ []
unfolding units_by
begins-none kept h timed mpu d p (inl e) = ap (λ q. units_by kept h (Payload.Media q timed mpu (d ∷ []))) e
begins-none kept h timed mpu d p (inr e) = ap (λ q. units_by kept h (Payload.Media q timed mpu (d ∷ []))) e

-- no unit begins in a later part
none-begins : (kept : List Heard) (time size : ℕ → ℕ) (i c : ℕ) (timed : Bool) (mpu : ℕ) (d : DataUnit) (limit n : ℕ) → 1 < n → (m j : ℕ) → 0 < j → j + m ≡ n
    → flat_map (λ p. units_by kept p p.payload) (map (H time size i c timed mpu d limit n) (numbers j m)) ≡ []
unfolding numbers units_by
none-begins kept time size i c timed mpu d limit n more zero j some e = refl
none-begins kept time size i c timed mpu d limit n more (suc m) j some e =
    ap₂ (λ (a b : List MediaUnit). a ++ b) (begins-none kept (H time size i c timed mpu d limit n j) timed mpu (record { key = d.key; priority = d.priority; dependency = d.dependency; bytes = part_bytes limit j d.bytes }) (part_role j n) (role-of j m n more some e))
    (none-begins kept time size i c timed mpu d limit n more m (j + 1) (omega arith) (omega (arith, e)))

-- the unit that parts are
abbrev unit : ℕ → ℕ → ℕ → DataUnit → List ℕ → MediaUnit
unit i c mpu d bytes = record { packet_id = i; mpu = mpu; key = d.key; priority = d.priority; dependency = d.dependency; number = c; place = 0; bytes = bytes }

unit-of : (time size : ℕ → ℕ) (i c : ℕ) (timed : Bool) (mpu : ℕ) (d : DataUnit) (limit n : ℕ) → 1 ≤ n → c + n ≤ 2 ^ 32 → length d.bytes ≤ n * limit
    → units_of (map (H time size i c timed mpu d limit n) (numbers 0 n)) ≡ unit i c mpu d d.bytes ∷ []
unfolding units_of units_by whole_units unit_from numbers joined_unit
unit-of time size i c timed mpu d limit zero some fits all = absurd (omega arith)
unit-of time size i c timed mpu d limit (suc zero) some fits all =
    let h : Heard = H time size i c timed mpu d limit 1 0 in
    let p : DataUnit = record { key = d.key; priority = d.priority; dependency = d.dependency; bytes = part_bytes limit 0 d.bytes } in
    let z : c + 0 ≡ c = omega arith in
    ap (λ q. units_by (h ∷ []) h (Payload.Media q timed mpu (p ∷ [])) ++ []) (whole-role 0 1 refl)
    ∙ ap₂ (λ k b. unit i k mpu d b ∷ []) z (one-part limit d.bytes (omega (arith, all)))
unit-of time size i c timed mpu d limit (suc (suc m)) some fits all =
    let n : ℕ = suc (suc m) in
    let more : 1 < n = omega arith in
    let f : ℕ → Heard = H time size i c timed mpu d limit n in
    let kept : List Heard = map f (numbers 0 n) in
    let p : DataUnit = record { key = d.key; priority = d.priority; dependency = d.dependency; bytes = part_bytes limit 0 d.bytes } in
    let z : c + 0 ≡ c = omega arith in
    let s : c + 0 + 1 ≡ c + 1 = omega arith in
    let most : length kept ≡ n = length-map (numbers 0 n) f ∙ length-numbers 0 n in
    let next : next_number (c + 0) ≡ c + 1 = next-is (c + 0) (omega (arith, fits)) ∙ s in
    let rest = ap₂ (λ (l k : ℕ). rest_of_run (media_link timed mpu) kept i l k) most next ∙ run time size i c timed mpu d limit n more fits m n 1 (omega arith) (omega arith) (omega arith) in
    let whole : joined (part_bytes limit 0 d.bytes ∷ map (λ j. part_bytes limit j d.bytes) (numbers 1 (suc m))) ≡ d.bytes = start limit d.bytes (suc m) ∙ joined-parts limit d.bytes n all in
    ap₂ (λ (a b : List MediaUnit). a ++ b)
    (ap (λ q. units_by kept (f 0) (Payload.Media q timed mpu (p ∷ []))) (first-is n more) ∙ (ap (joined_unit (f 0) mpu p) rest ∙ ap₂ (λ k b. unit i k mpu d b ∷ []) z whole))
    (none-begins kept time size i c timed mpu d limit n more (suc m) 1 (omega arith) (omega arith))

pub one-unit : PartsAreOneUnit
one-unit time size i c timed mpu d limit some long fits =
    unit-of time size i c timed mpu d limit (parts (length d.bytes) limit) (parts-some (length d.bytes) limit some long) fits (parts-enough (length d.bytes) limit some)
