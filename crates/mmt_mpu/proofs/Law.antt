-- What is read as a payload was spelled so, and what is spelled so is read.
use Rattle.std.proofs.Common.{◌≡◌, ℕ, zero, suc, ◌+◌, ◌-◌, ◌*◌, ◌/◌, ◌%◌, ◌^◌, ◌<◌, ◌≤◌, Bool, true, false, ◌&&◌, ◌||◌, eqb, leb, List, [], ◌∷◌, ◌++◌, length, Option, Some, None, Result, Ok, Err, refl, sym, ap, subst, ◌∙◌, append_assoc, arith, eq-eqb}
use Rattle.std.specs.List.{flat_map}
use Rattle.std.specs.Int.{w8, w16, w32, from_bool}
use Rattle.std.proofs.lemmas.Bool.{eqb-true, leb-true, le-leb, and_parts, and_from, or_left, or_right}
use Rattle.std.proofs.lemmas.List.{length-append, append-nil}
use Rattle.std.proofs.lemmas.List.Concat.{flat_map-cons}
use Rattle.mmt_base.specs.declared.refused.Refused.{Refused}
use Rattle.mmt_fields.specs.Reading.{◌>>=◌, big_endian}
use Rattle.mmt_fields.proofs.Flags.{bit_below, bit_is, is_bit}
use Rattle.mmt_fields.proofs.Codec.{IsBytes, IsBytes-rest, bind_ok, ok_is, Stage, Field, Format, Always, field, field_of, checked, checked_rest, made, last, spelled}
use Rattle.mmt_fields.proofs.Numbers.{u8_field, u16_field, u32_field, bytes_field, length_big_endian}
use Rattle.mmt_model.specs.declared.keys.UnitKey.{UnitKey}
use Rattle.mmt_model.specs.declared.keys.UnitKey.TheVariants.{Timed, Item}
use Rattle.mmt_model.specs.declared.keys.Part.{Part}
use Rattle.mmt_model.specs.Parts.{part_number, part_of, IsWholeIf}
use Rattle.mmt_model.proofs.Parts.{part_below, part_again, number_again}
use Rattle.mmt_mpu.specs.declared.types.MpuHead.{MpuHead}
use Rattle.mmt_mpu.specs.declared.types.MpuWhy.{MpuWhy}
use Rattle.mmt_mpu.specs.declared.types.MpuWhy.TheVariants as why
use Rattle.mmt_mpu.specs.Spelling.{UnitHead, UnitValue, movie_fragment_of, sample_of, offset_of, item_of, head_length, head_bytes, lone_bytes, unit_bytes, units_bytes, flags, inner_length, spelling, KeyFits, HeadFits, UnitFits, end_of, UnitsFit, LoneFits, AreUnits, Fits}
use Rattle.mmt_mpu.specs.Reading.{head_at, unit_at, lone_at, Walk, go_on, walk, all_units, unless_stopped, units_of, payload_of}
use Rattle.mmt_mpu.proofs.Walk.{HeadRest, UnitRest, unit_shorter, step, ended}

-- ---- a unit's header

timed_a : (k : UnitKey) → KeyFits true k → movie_fragment_of k < 2 ^ 32
timed_a (Timed a b c) f = f.0
timed_a (Item i) f = absurd f

timed_b : (k : UnitKey) → KeyFits true k → sample_of k < 2 ^ 32
timed_b (Timed a b c) f = f.1
timed_b (Item i) f = absurd f

timed_c : (k : UnitKey) → KeyFits true k → offset_of k < 2 ^ 32
timed_c (Timed a b c) f = f.2
timed_c (Item i) f = absurd f

timed_key : (k : UnitKey) (a b c : ℕ) → KeyFits true k → movie_fragment_of k ≡ a → sample_of k ≡ b → offset_of k ≡ c → Timed a b c ≡ k
timed_key (Timed x y z) a b c f p q r = rw (← p, ← q, ← r) refl
timed_key (Item i) a b c f p q r = absurd f

item_i : (k : UnitKey) → KeyFits false k → item_of k < 2 ^ 32
item_i (Timed a b c) f = absurd f
item_i (Item i) f = f

item_key : (k : UnitKey) (i : ℕ) → KeyFits false k → item_of k ≡ i → Item i ≡ k
item_key (Timed x y z) i f p = absurd f
item_key (Item j) i f p = rw (← p) refl

timed_stage : (at : ℕ) → Stage {V = HeadRest} (λ p. HeadFits true p.0) Always Always (head_at true at)
    (λ p. big_endian w32 (movie_fragment_of p.0.key) ++ (big_endian w32 (sample_of p.0.key) ++ (big_endian w32 (offset_of p.0.key) ++ (big_endian w8 p.0.priority ++ (big_endian w8 p.0.dependency ++ p.1)))))
unfolding head_at
timed_stage at =
    field _ (λ p. movie_fragment_of p.0.key) (u32_field at why.Short) (λ v c f. timed_a v.0.key f.key) (λ a a_lt.
    field _ (λ p. sample_of p.0.key) (u32_field (at + 4) why.Short) (λ v c f. timed_b v.0.key f.key) (λ b b_lt.
    field _ (λ p. offset_of p.0.key) (u32_field (at + 8) why.Short) (λ v c f. timed_c v.0.key f.key) (λ c c_lt.
    field _ (λ p. p.0.priority) (u8_field (at + 12) why.Short) (λ v c f. f.ranks.0) (λ p p_lt.
    field _ (λ p. p.0.dependency) (u8_field (at + 13) why.Short) (λ v c f. f.ranks.1) (λ d d_lt.
    made (λ p. p.1) (λ rest. (record { key = Timed a b c; priority = p; dependency = d }, rest))
    (λ rest are known. (refl, (refl, (refl, (refl, (refl, (refl, tt))))), record { key = (a_lt, b_lt, c_lt); ranks = (p_lt, d_lt) }))
    (λ v w f. let key : Timed a b c ≡ v.0.key = timed_key v.0.key a b c f.key w.1.1.1.1.0 w.1.1.1.0 w.1.1.0 in rw (key, ← w.1.0, ← w.0) refl))))))

no_ranks : (h : UnitHead) → h.priority ≡ 0 → h.dependency ≡ 0 → ◌≡◌ {A = UnitHead} (record { key = h.key; priority = 0; dependency = 0 }) h
no_ranks h p d = ap (λ (n : ℕ). record { key = h.key; priority = n; dependency = 0 }) (sym p) ∙ ap (λ (n : ℕ). record { key = h.key; priority = h.priority; dependency = n }) (sym d)

item_stage : (at : ℕ) → Stage {V = HeadRest} (λ p. HeadFits false p.0) Always Always (head_at false at) (λ p. big_endian w32 (item_of p.0.key) ++ p.1)
unfolding head_at
item_stage at =
    field _ (λ p. item_of p.0.key) (u32_field at why.Short) (λ v c f. item_i v.0.key f.key) (λ i i_lt.
    made (λ p. p.1) (λ rest. (record { key = Item i; priority = 0; dependency = 0 }, rest))
    (λ rest are known. (refl, (refl, tt), record { key = i_lt; ranks = (refl, refl) }))
    (λ v w f. let key : Item i ≡ v.0.key = item_key v.0.key i f.key w.0 in rw key (ap (λ (h : UnitHead). (h, v.1)) (no_ranks v.0 f.ranks.0 f.ranks.1))))

head_field : (timed : Bool) (at : ℕ) → Field (head_at timed at) (head_bytes timed) (HeadFits timed)
unfolding head_bytes
head_field true at = field_of (head_bytes true) (timed_stage at) (λ v. simp append_assoc)
head_field false at = field_of (head_bytes false) (item_stage at) (λ v. refl)

pub head_long : (timed : Bool) (h : UnitHead) → length (head_bytes timed h) ≡ head_length timed
unfolding head_bytes
head_long true h = simp (length-append, length_big_endian) refl
head_long false h = length_big_endian w32 (item_of h.key)

-- ---- a unit after its length

unit_stage : (timed : Bool) (at : ℕ) → Stage {V = UnitRest} (λ p. UnitFits timed at p.0) Always Always (unit_at timed at)
    (λ p. big_endian w16 (head_length timed + length p.0.bytes) ++ (head_bytes timed p.0.head ++ (p.0.bytes ++ p.1)))
unfolding unit_at
unit_stage timed at =
    field _ (λ p. head_length timed + length p.0.bytes) (u16_field at why.Short) (λ v c f. f.len) (λ len len_lt.
    checked_rest (λ rest. leb (head_length timed) len && leb len (length rest)) at why.Overrun _
    (λ v c f. let is_len : head_length timed + length v.0.bytes ≡ len = c.0 in
    simp (length-append, head_long) (and_from (leb (head_length timed) len) (leb len (head_length timed + (length v.0.bytes + length v.1))) (le-leb _ _ (omega arith)) (le-leb _ _ (omega arith)))) (
    field _ (λ p. p.0.head) (head_field timed (at + 2)) (λ v c f. f.head) (λ head head_fits.
    field _ (λ p. p.0.bytes) (bytes_field (len - head_length timed) (at + 2 + head_length timed) why.Short)
    (λ v c f. let is_len : head_length timed + length v.0.bytes ≡ len = c.1.0 in omega arith) (λ body body_len.
    made (λ p. p.1) (λ rest. (record { head = head; from = at + 2 + head_length timed; bytes = body }, rest))
    (λ rest are known.
    let least : head_length timed ≤ len = leb-true _ _ (and_parts (leb (head_length timed) len) (leb len (length (head_bytes timed head ++ (body ++ rest)))) known.0).0 in
    let is_len : head_length timed + length body ≡ len = omega arith in
    (refl, (refl, (refl, (is_len, tt))), record { head = head_fits; from = refl; len = rw is_len len_lt }))
    (λ v c f. rw (← c.0, ← c.1.0, ← f.from) refl)))))

unit_field : (timed : Bool) (at : ℕ) → Field (unit_at timed at) (unit_bytes timed) (UnitFits timed at)
unfolding unit_bytes
unit_field timed at = field_of (unit_bytes timed) (unit_stage timed at) (λ v. simp append_assoc)

-- ---- units up to the end

abbrev Found : Bool → ℕ → List ℕ → Walk → Type 0
Found timed at bytes w = (bytes ≡ flat_map (unit_bytes timed) w.units) × UnitsFit timed at w.units

found_after : (timed : Bool) (at : ℕ) (bytes : List ℕ) (r : Result UnitRest (Refused MpuWhy)) (f : UnitRest → Walk) → IsBytes bytes → unit_at timed at bytes ≡ r
    → ((u : UnitRest) → r ≡ Ok u → IsBytes u.1 → (f u).stop ≡ None → Found timed (end_of u.0) u.1 (f u))
    → (go_on r f).stop ≡ None → Found timed at bytes (go_on r f)
found_after timed at bytes (Ok u) f are e later stop =
    let here = unit_field timed at in
    let h = here.takes bytes u.0 u.1 are e in
    let l = later u refl (IsBytes-rest (unit_bytes timed u.0) u.1 (subst IsBytes h.0 are)) stop in
    (h.0 ∙ ap (λ (rest : List ℕ). unit_bytes timed u.0 ++ rest) l.0 ∙ sym (flat_map-cons (unit_bytes timed) u.0 (f u).units), (h.1, l.1))
found_after timed at bytes (Err d) f are e later stop = absurd cc

found : (n : ℕ) (timed : Bool) (at : ℕ) (bytes : List ℕ) → length bytes ≤ n → IsBytes bytes → (walk n timed at bytes).stop ≡ None → Found timed at bytes (walk n timed at bytes)
unfolding walk
found zero timed at [] le are stop = (refl, tt)
found zero timed at (b ∷ bytes) le are stop = absurd (omega arith)
found (suc n) timed at [] le are stop = (refl, tt)
found (suc n) timed at (b ∷ bytes) le are stop =
    found_after timed at (b ∷ bytes) (unit_at timed at (b ∷ bytes)) (λ u. walk n timed (end_of u.0) u.1) are refl
    (λ u e rest_are stop.
    let short = unit_shorter timed at (b ∷ bytes) u e in
    found n timed (end_of u.0) u.1 (omega arith) rest_are stop) stop

unit_some : (timed : Bool) (u : UnitValue) (rest : List ℕ) → 0 < length (unit_bytes timed u ++ rest)
unfolding unit_bytes
unit_some timed u rest = simp (length-append, length_big_endian) (omega arith)

all_again : (timed : Bool) (at : ℕ) (us : List UnitValue) → UnitsFit timed at us → all_units timed at (flat_map (unit_bytes timed) us) ≡ record { units = us; stop = None }
all_again timed at [] fits = ended timed at [] refl
all_again timed at (u ∷ us) fits =
    let rest = flat_map (unit_bytes timed) us in
    let here = unit_field timed at in
    let one = step timed at (unit_bytes timed u ++ rest) u rest (unit_some timed u rest) (here.again u rest fits.0) in
    let later = all_again timed (end_of u) us fits.1 in
    ap (all_units timed at) (flat_map-cons (unit_bytes timed) u us) ∙ one ∙ ap (λ (w : Walk). go_on (Ok (u, rest)) (λ _. w)) later

unless_none : {A : Type 0} (o : Option (Refused MpuWhy)) (x y : A) → unless_stopped o x ≡ Ok y → (o ≡ None) × (x ≡ y)
unless_none None x y e = (refl, cc)
unless_none (Some d) x y e = absurd cc

many_format : (timed : Bool) → Format (AreUnits true timed) (units_of true timed) (units_bytes true timed)
unfolding units_of units_bytes
many_format timed = record {
  takes = λ bytes v are known e.
      let u = unless_none (all_units timed 8 bytes).stop (all_units timed 8 bytes).units v e in
      let f = found (length bytes) timed 8 bytes (omega arith) are u.0 in
      subst (λ (us : List UnitValue). (bytes ≡ flat_map (unit_bytes timed) us) × Always us × UnitsFit timed 8 us) u.1 (f.0, tt, f.1);
  again = λ v c fits. rw (all_again timed 8 v fits) refl;
}

-- ---- one unit that takes the rest

abbrev OneFits : Bool → UnitValue → Type 0
OneFits timed u = HeadFits timed u.head × (u.from ≡ 8 + head_length timed)

lone_format : (timed : Bool) → Format (OneFits timed) (lone_at timed 8) (lone_bytes timed)
unfolding lone_at lone_bytes
lone_format timed =
    checked_rest (λ rest. leb (head_length timed) (length rest)) 8 why.Short _ (λ v c f. le-leb _ _ (simp (length-append, head_long) (omega arith))) (
    field _ (λ u. u.head) (head_field timed 8) (λ v c f. f.0) (λ head head_fits.
    made (λ u. u.bytes) (λ rest. record { head = head; from = 8 + head_length timed; bytes = rest })
    (λ rest are known. (refl, (refl, tt), (head_fits, refl)))
    (λ v c f. rw (← c.0, ← f.1) refl)))

one_format : (timed : Bool) → Format (AreUnits false timed) (units_of false timed) (units_bytes false timed)
unfolding units_of units_bytes
one_format timed = record {
  takes = λ bytes v are known e.
      let here = lone_format timed in
      let b = bind_ok (lone_at timed 8 bytes) (λ u. Ok (u ∷ [])) v e in
      let h = here.takes bytes b.0 are tt b.1 in
      subst (λ (us : List UnitValue). (bytes ≡ flat_map (lone_bytes timed) us) × Always us × LoneFits timed us) (ok_is (b.0 ∷ []) v b.2) (h.0 ∙ sym (append-nil (lone_bytes timed b.0)) ∙ sym (flat_map-cons (lone_bytes timed) b.0 []), tt, h.2);
  again = λ v c fits. alone timed v fits;
}
  where
    alone : (timed : Bool) (us : List UnitValue) → LoneFits timed us → (lone_at timed 8 (flat_map (lone_bytes timed) us) >>= λ u. Ok (u ∷ [])) ≡ Ok us
    alone timed [] fits = absurd fits
    alone timed (u ∷ []) fits =
        let here = lone_format timed in
        let same : flat_map (lone_bytes timed) (u ∷ []) ≡ lone_bytes timed u = flat_map-cons (lone_bytes timed) u [] ∙ append-nil (lone_bytes timed u) in
        rw (same, here.again u tt fits) refl
    alone timed (u ∷ w ∷ us) fits = absurd fits

units_format : (aggregated timed : Bool) → Format (AreUnits aggregated timed) (units_of aggregated timed) (units_bytes aggregated timed)
units_format true timed = many_format timed
units_format false timed = one_format timed

-- ---- the flags

flags_timed : (h : MpuHead) → eqb (flags h / 8 % 2) 1 ≡ h.timed
flags_timed h = is_bit h.timed _ (omega (arith, bit_below h.timed, bit_below h.aggregated, part_below h.part))

flags_aggregated : (h : MpuHead) → eqb (flags h % 2) 1 ≡ h.aggregated
flags_aggregated h = is_bit h.aggregated _ (omega (arith, bit_below h.timed, bit_below h.aggregated, part_below h.part))

flags_part : (h : MpuHead) → part_of (flags h / 2 % 4) ≡ h.part
flags_part h = let e : flags h / 2 % 4 ≡ part_number h.part = omega (arith, bit_below h.timed, bit_below h.aggregated, part_below h.part) in rw e (part_again h.part)

flags_type : (h : MpuHead) → flags h / 16 ≡ 2
flags_type h = omega (arith, bit_below h.timed, bit_below h.aggregated, part_below h.part)

whole_right : (h : MpuHead) → IsWholeIf h.aggregated h.part → (eqb (flags h % 2) 0 || eqb (flags h / 2 % 4) 0) ≡ true
whole_right h f = of h.aggregated h.part h.timed (flags h) refl f
  where
    of : (a : Bool) (p : Part) (t : Bool) (n : ℕ) → n ≡ 32 + 8 * from_bool t + 2 * part_number p + from_bool a → IsWholeIf a p → (eqb (n % 2) 0 || eqb (n / 2 % 4) 0) ≡ true
    of false p t n e f = or_left (eqb (n % 2) 0) (eqb (n / 2 % 4) 0) (eq-eqb _ _ (omega (arith, bit_below t, part_below p)))
    of true p t n e f = let z : part_number p ≡ 0 = ap part_number f in or_right (eqb (n % 2) 0) (eqb (n / 2 % 4) 0) (eq-eqb _ _ (omega (arith, bit_below t)))

whole_back : (a : ℕ) → (eqb (a % 2) 0 || eqb (a / 2 % 4) 0) ≡ true → IsWholeIf (eqb (a % 2) 1) (part_of (a / 2 % 4))
whole_back a e = of (a % 2) (a / 2 % 4) (omega arith) e
  where
    of : (m n : ℕ) → m < 2 → (eqb m 0 || eqb n 0) ≡ true → IsWholeIf (eqb m 1) (part_of n)
    of zero n lt e = tt
    of (suc zero) n lt e = ap part_of (eqb-true n 0 e)
    of (suc (suc m)) n lt e = absurd (omega arith)

flags_again : (a : ℕ) → a / 16 ≡ 2 → 32 + 8 * from_bool (eqb (a / 8 % 2) 1) + 2 * part_number (part_of (a / 2 % 4)) + from_bool (eqb (a % 2) 1) ≡ a
flags_again a e = rw (bit_is (a / 8 % 2) (omega arith), bit_is (a % 2) (omega arith), number_again (a / 2 % 4) (omega arith)) (omega arith)

-- ---- the payload

pub payload_format : Format Fits payload_of spelling
unfolding payload_of spelling
payload_format =
    field _ inner_length (u16_field 0 why.Short) (λ v c f. f.len) (λ len len_lt.
    checked_rest (λ rest. eqb (length rest) len) 0 why.Length _ (λ v c f. let is_len : inner_length v ≡ len = c.0 in eq-eqb _ _ (simp (length-append, length_big_endian) (omega arith))) (
    field _ (λ v. flags v.head) (u8_field 2 why.Short) (λ v c f. omega (arith, bit_below v.head.timed, bit_below v.head.aggregated, part_below v.head.part)) (λ a a_lt.
    checked (leb 2 (a / 16)) 2 (why.Metadata (a / 16)) _ (λ v c f. rw (← c.0, flags_type v.head) refl) (λ least.
    checked (leb (a / 16) 2) 2 (why.FragmentType (a / 16)) _ (λ v c f. rw (← c.0, flags_type v.head) refl) (λ most.
    checked (eqb (a % 2) 0 || eqb (a / 2 % 4) 0) 2 why.AggregatedPart _ (λ v c f. rw (← c.0) (whole_right v.head f.part)) (λ whole.
    field _ (λ v. v.head.counter) (u8_field 3 why.Short) (λ v c f. f.counter) (λ counter counter_lt.
    field _ (λ v. v.head.mpu) (u32_field 4 why.Short) (λ v c f. f.mpu) (λ mpu mpu_lt.
    spelled (λ v. units_bytes (eqb (a % 2) 1) (eqb (a / 8 % 2) 1) v.units) (λ v c f. rw (← c.1.1.0, flags_aggregated v.head, flags_timed v.head) refl) (
    last (λ found. record { head = record { timed = eqb (a / 8 % 2) 1; part = part_of (a / 2 % 4); aggregated = eqb (a % 2) 1; counter = counter; mpu = mpu }; units = found }) (λ v. v.units)
    (units_format (eqb (a % 2) 1) (eqb (a / 8 % 2) 1))
    (λ v c f. rw (← c.1.1.0, flags_aggregated v.head, flags_timed v.head) f.units)
    (λ x fits known.
    let two : a / 16 ≡ 2 = omega (arith, leb-true _ _ least, leb-true _ _ most) in
    let long = eqb-true _ _ known.0 in
    let is_len : 6 + length (units_bytes (eqb (a % 2) 1) (eqb (a / 8 % 2) 1) x) ≡ len = omega (arith, simp (length-append, length_big_endian) at long) in
    (refl, (refl, (refl, (flags_again a two, (is_len, tt)))), record { counter = counter_lt; mpu = mpu_lt; part = whole_back a whole; len = rw is_len len_lt; units = fits }))
    (λ v c f.
    let timed : eqb (a / 8 % 2) 1 ≡ v.head.timed = rw (← c.1.1.0) (flags_timed v.head) in
    let aggregated : eqb (a % 2) 1 ≡ v.head.aggregated = rw (← c.1.1.0) (flags_aggregated v.head) in
    let part : part_of (a / 2 % 4) ≡ v.head.part = rw (← c.1.1.0) (flags_part v.head) in
    rw (timed, aggregated, part, ← c.0, ← c.1.0) refl))))))))))
