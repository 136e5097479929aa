-- What is read as a location was spelled so, and what is spelled so is read.
use Rattle.std.proofs.Common.{◌≡◌, ℕ, ◌+◌, ◌-◌, ◌*◌, ◌/◌, ◌%◌, ◌^◌, ◌<◌, ◌≤◌, true, false, eqb, List, ◌++◌, length, take, Result, Ok, Err, refl, sym, ap, subst, ◌∙◌, append_assoc, arith, eq-eqb}
use Rattle.std.specs.Prelude.{IfOk}
use Rattle.std.specs.Int.{Width, w8, w16, w32, w128, byte_len}
use Rattle.std.proofs.lemmas.Bool.{eqb-true}
use Rattle.std.proofs.lemmas.List.{length-append, take_at}
use Rattle.mmt_base.specs.declared.refused.Refused.{Refused}
use Rattle.mmt_fields.specs.Reading.{◌>>=◌, big_endian, Gives}
use Rattle.mmt_fields.proofs.Codec.{IsBytes, bind_ok, ok_is, Stage, Field, Always, field, field_of, made}
use Rattle.mmt_fields.proofs.Numbers.{IsWide, wide32, wide128, number_field, u8_field, u16_field, u128_field, bytes_field}
use Rattle.mmt_lists.proofs.Variants.{chosen}
use Rattle.mmt_mpt.specs.declared.location.LocationWhy.{LocationWhy}
use Rattle.mmt_mpt.specs.declared.location.LocationWhy.TheVariants as why
use Rattle.mmt_mpt.specs.Location.{FlowValue, StreamValue, FlowStreamValue, LocationValue, IsHere, InIp4, InIp6, InStream, InIp6Stream, AtUrl, type_of, flow_bytes, pid_field, stream_bytes, flow_stream_bytes, url_bytes, after_type, location_bytes, FlowFits, StreamFits, FlowStreamFits, LocationFits, CanSpell}
use Rattle.mmt_mpt.specs.LocationReading.{flow_at, stream_at, flow_stream_at, url_at, here_at, tagged, location_by, location_at, location_of, read_as}

-- ---- what follows a type

here_field : (at : ℕ) → Field (here_at at) (big_endian w16) (λ n. n < 2 ^ 16)
unfolding here_at
here_field at = u16_field at why.Short

abbrev FlowRest : Type 0
FlowRest = FlowValue × List ℕ

flow_stage : (w : Width) (limit : ℕ) → IsWide w limit → (at : ℕ) → Stage {V = FlowRest} (λ p. FlowFits limit p.0) Always Always (flow_at w at) (λ p. big_endian w p.0.source ++ (big_endian w p.0.destination ++ (big_endian w16 p.0.port ++ (big_endian w16 p.0.packet_id ++ p.1))))
unfolding flow_at
flow_stage w limit wide at =
    field _ (λ p. p.0.source) (number_field w limit wide at why.Short) (λ v c f. f.source) (λ source source_lt.
    field _ (λ p. p.0.destination) (number_field w limit wide (at + byte_len w) why.Short) (λ v c f. f.destination) (λ destination destination_lt.
    field _ (λ p. p.0.port) (u16_field (at + 2 * byte_len w) why.Short) (λ v c f. f.port) (λ port port_lt.
    field _ (λ p. p.0.packet_id) (u16_field (at + 2 * byte_len w + 2) why.Short) (λ v c f. f.packet_id) (λ id id_lt.
    made (λ p. p.1) (λ rest. (record { source = source; destination = destination; port = port; packet_id = id }, rest))
    (λ rest are known. (refl, (refl, (refl, (refl, (refl, tt)))), record { source = source_lt; destination = destination_lt; port = port_lt; packet_id = id_lt }))
    (λ v c f. rw (← c.0, ← c.1.0, ← c.1.1.0, ← c.1.1.1.0) refl)))))

flow_field : (w : Width) (limit : ℕ) → IsWide w limit → (at : ℕ) → Field (flow_at w at) (flow_bytes w) (FlowFits limit)
unfolding flow_bytes
flow_field w limit wide at = field_of (flow_bytes w) (flow_stage w limit wide at) (λ v. simp append_assoc)

abbrev StreamRest : Type 0
StreamRest = StreamValue × List ℕ

stream_stage : (at : ℕ) → Stage {V = StreamRest} (λ p. StreamFits p.0) Always Always (stream_at at) (λ p. big_endian w16 p.0.network ++ (big_endian w16 p.0.stream ++ (big_endian w16 (pid_field p.0.reserved p.0.pid) ++ p.1)))
unfolding stream_at
stream_stage at =
    field _ (λ p. p.0.network) (u16_field at why.Short) (λ v c f. f.network) (λ network network_lt.
    field _ (λ p. p.0.stream) (u16_field (at + 2) why.Short) (λ v c f. f.stream) (λ stream stream_lt.
    field _ (λ p. pid_field p.0.reserved p.0.pid) (u16_field (at + 4) why.Short) (λ v c f. omega (arith, f.reserved, f.pid)) (λ pid pid_lt.
    made (λ p. p.1) (λ rest. (record { network = network; stream = stream; reserved = pid / 8192; pid = pid % 8192 }, rest))
    (λ rest are known. (refl, (omega arith, (refl, (refl, tt))), record { network = network_lt; stream = stream_lt; reserved = omega arith; pid = omega arith }))
    (λ v c f.
    let is : pid_field v.0.reserved v.0.pid ≡ pid = c.0 in
    let reserved : pid / 8192 ≡ v.0.reserved = omega (arith, f.pid) in
    let low : pid % 8192 ≡ v.0.pid = omega (arith, f.pid) in
    rw (reserved, low, ← c.1.0, ← c.1.1.0) refl))))

stream_field : (at : ℕ) → Field (stream_at at) stream_bytes StreamFits
unfolding stream_bytes
stream_field at = field_of stream_bytes (stream_stage at) (λ v. simp append_assoc)

abbrev FlowStreamRest : Type 0
FlowStreamRest = FlowStreamValue × List ℕ

flow_stream_stage : (at : ℕ) → Stage {V = FlowStreamRest} (λ p. FlowStreamFits p.0) Always Always (flow_stream_at at) (λ p. big_endian w128 p.0.source ++ (big_endian w128 p.0.destination ++ (big_endian w16 p.0.port ++ (big_endian w16 (pid_field p.0.reserved p.0.pid) ++ p.1))))
unfolding flow_stream_at
flow_stream_stage at =
    field _ (λ p. p.0.source) (u128_field at why.Short) (λ v c f. f.source) (λ source source_lt.
    field _ (λ p. p.0.destination) (u128_field (at + 16) why.Short) (λ v c f. f.destination) (λ destination destination_lt.
    field _ (λ p. p.0.port) (u16_field (at + 32) why.Short) (λ v c f. f.port) (λ port port_lt.
    field _ (λ p. pid_field p.0.reserved p.0.pid) (u16_field (at + 34) why.Short) (λ v c f. omega (arith, f.reserved, f.pid)) (λ pid pid_lt.
    made (λ p. p.1) (λ rest. (record { source = source; destination = destination; port = port; reserved = pid / 8192; pid = pid % 8192 }, rest))
    (λ rest are known. (refl, (omega arith, (refl, (refl, (refl, tt)))), record { source = source_lt; destination = destination_lt; port = port_lt; reserved = omega arith; pid = omega arith }))
    (λ v c f.
    let is : pid_field v.0.reserved v.0.pid ≡ pid = c.0 in
    let reserved : pid / 8192 ≡ v.0.reserved = omega (arith, f.pid) in
    let low : pid % 8192 ≡ v.0.pid = omega (arith, f.pid) in
    rw (reserved, low, ← c.1.0, ← c.1.1.0, ← c.1.1.1.0) refl)))))

flow_stream_field : (at : ℕ) → Field (flow_stream_at at) flow_stream_bytes FlowStreamFits
unfolding flow_stream_bytes
flow_stream_field at = field_of flow_stream_bytes (flow_stream_stage at) (λ v. simp append_assoc)

abbrev BytesRest : Type 0
BytesRest = List ℕ × List ℕ

url_stage : (at : ℕ) → Stage {V = BytesRest} (λ p. length p.0 < 2 ^ 8) Always Always (url_at at) (λ p. big_endian w8 (length p.0) ++ (p.0 ++ p.1))
unfolding url_at
url_stage at =
    field _ (λ p. length p.0) (u8_field at why.Short) (λ v c f. f) (λ len len_lt.
    field _ (λ p. p.0) (bytes_field len (at + 1) why.Short) (λ v c f. c.0) (λ text text_len.
    made (λ p. p.1) (λ rest. (text, rest)) (λ rest are known. (refl, (refl, (text_len, tt)), rw text_len len_lt)) (λ v c f. rw (← c.0) refl)))

url_field : (at : ℕ) → Field (url_at at) url_bytes (λ text. length text < 2 ^ 8)
unfolding url_bytes
url_field at = field_of url_bytes (url_stage at) (λ v. simp append_assoc)

-- ---- one of the six types

abbrev Rest : Type 0
Rest = LocationValue × List ℕ

abbrev HasType : ℕ → Rest → Type 0
HasType kind p = (type_of p.0 ≡ kind) × Always p

typed : {A : Type 0} {r : List ℕ → Result (A × List ℕ) (Refused LocationWhy)} {s : A → List ℕ} {F : A → Type 0} {B : List ℕ → Type 0} (kind : ℕ) (f : A → LocationValue)
    → Field r s F
    → ((v : LocationValue) → type_of v ≡ kind → LocationFits v → (x : A) × (f x ≡ v) × F x)
    → ((x : A) → F x → (s x ≡ after_type (f x)) × (type_of (f x) ≡ kind) × LocationFits (f x))
    → Stage {V = Rest} (λ p. LocationFits p.0) (HasType kind) B (λ bytes. tagged f (r bytes)) (λ p. after_type p.0 ++ p.1)
typed {A} {r} {s} {F} {B} kind f here back there = record {
  takes = λ bytes v are known e.
      let b = bind_ok (r bytes) (λ x. Ok (f x.0, x.1)) v e in
      let h = here.takes bytes b.0.0 b.0.1 are b.1 in
      let m = there b.0.0 h.1 in
      subst (λ (p : Rest). (bytes ≡ after_type p.0 ++ p.1) × HasType kind p × LocationFits p.0) (ok_is (f b.0.0, b.0.1) v b.2) (h.0 ∙ ap (λ (x : List ℕ). x ++ b.0.1) m.0, (m.1, tt), m.2);
  again = λ v c fits.
      let x = back v.0 c.0 fits in
      let same : after_type v.0 ++ v.1 ≡ s x.0 ++ v.1 = ap (λ (l : LocationValue). after_type l ++ v.1) (sym x.1) ∙ ap (λ (y : List ℕ). y ++ v.1) (sym (there x.0 x.2).0) in
      ap (λ (bytes : List ℕ). tagged f (r bytes)) same ∙ rw (here.again x.0 v.1 x.2) (ap (λ (l : LocationValue). Ok (l, v.1)) x.1);
}

as_here : (kind : ℕ) → kind ≡ 0 → (v : LocationValue) → type_of v ≡ kind → LocationFits v → (x : ℕ) × (IsHere x ≡ v) × (x < 2 ^ 16)
as_here kind z (IsHere x) c f = (x, refl, f)
as_here kind z (InIp4 x) c f = absurd (omega arith)
as_here kind z (InIp6 x) c f = absurd (omega arith)
as_here kind z (InStream x) c f = absurd (omega arith)
as_here kind z (InIp6Stream x) c f = absurd (omega arith)
as_here kind z (AtUrl x) c f = absurd (omega arith)

as_ip4 : (kind : ℕ) → kind ≡ 1 → (v : LocationValue) → type_of v ≡ kind → LocationFits v → (x : FlowValue) × (InIp4 x ≡ v) × FlowFits (2 ^ 32) x
as_ip4 kind z (IsHere x) c f = absurd (omega arith)
as_ip4 kind z (InIp4 x) c f = (x, refl, f)
as_ip4 kind z (InIp6 x) c f = absurd (omega arith)
as_ip4 kind z (InStream x) c f = absurd (omega arith)
as_ip4 kind z (InIp6Stream x) c f = absurd (omega arith)
as_ip4 kind z (AtUrl x) c f = absurd (omega arith)

as_ip6 : (kind : ℕ) → kind ≡ 2 → (v : LocationValue) → type_of v ≡ kind → LocationFits v → (x : FlowValue) × (InIp6 x ≡ v) × FlowFits (2 ^ 128) x
as_ip6 kind z (IsHere x) c f = absurd (omega arith)
as_ip6 kind z (InIp4 x) c f = absurd (omega arith)
as_ip6 kind z (InIp6 x) c f = (x, refl, f)
as_ip6 kind z (InStream x) c f = absurd (omega arith)
as_ip6 kind z (InIp6Stream x) c f = absurd (omega arith)
as_ip6 kind z (AtUrl x) c f = absurd (omega arith)

as_stream : (kind : ℕ) → kind ≡ 3 → (v : LocationValue) → type_of v ≡ kind → LocationFits v → (x : StreamValue) × (InStream x ≡ v) × StreamFits x
as_stream kind z (IsHere x) c f = absurd (omega arith)
as_stream kind z (InIp4 x) c f = absurd (omega arith)
as_stream kind z (InIp6 x) c f = absurd (omega arith)
as_stream kind z (InStream x) c f = (x, refl, f)
as_stream kind z (InIp6Stream x) c f = absurd (omega arith)
as_stream kind z (AtUrl x) c f = absurd (omega arith)

as_ip6_stream : (kind : ℕ) → kind ≡ 4 → (v : LocationValue) → type_of v ≡ kind → LocationFits v → (x : FlowStreamValue) × (InIp6Stream x ≡ v) × FlowStreamFits x
as_ip6_stream kind z (IsHere x) c f = absurd (omega arith)
as_ip6_stream kind z (InIp4 x) c f = absurd (omega arith)
as_ip6_stream kind z (InIp6 x) c f = absurd (omega arith)
as_ip6_stream kind z (InStream x) c f = absurd (omega arith)
as_ip6_stream kind z (InIp6Stream x) c f = (x, refl, f)
as_ip6_stream kind z (AtUrl x) c f = absurd (omega arith)

as_url : (kind : ℕ) → kind ≡ 5 → (v : LocationValue) → type_of v ≡ kind → LocationFits v → (x : List ℕ) × (AtUrl x ≡ v) × (length x < 2 ^ 8)
as_url kind z (IsHere x) c f = absurd (omega arith)
as_url kind z (InIp4 x) c f = absurd (omega arith)
as_url kind z (InIp6 x) c f = absurd (omega arith)
as_url kind z (InStream x) c f = absurd (omega arith)
as_url kind z (InIp6Stream x) c f = absurd (omega arith)
as_url kind z (AtUrl x) c f = (x, refl, f)

type_below : (v : LocationValue) → type_of v < 6
type_below (IsHere x) = omega arith
type_below (InIp4 x) = omega arith
type_below (InIp6 x) = omega arith
type_below (InStream x) = omega arith
type_below (InIp6Stream x) = omega arith
type_below (AtUrl x) = omega arith

not_same : (m n : ℕ) → eqb m n ≡ false → m ≡ n → ⊥
not_same m n e same = absurd (let t : eqb m n ≡ true = eq-eqb _ _ same in cc)

no_other : (kind t : ℕ) → t < 6 → t ≡ kind → eqb kind 0 ≡ false → eqb kind 1 ≡ false → eqb kind 2 ≡ false → eqb kind 3 ≡ false → eqb kind 4 ≡ false → eqb kind 5 ≡ false → ⊥
no_other kind t lt is a b c d e f =
    let n0 = not_same kind 0 a in
    let n1 = not_same kind 1 b in
    let n2 = not_same kind 2 c in
    let n3 = not_same kind 3 d in
    let n4 = not_same kind 4 e in
    let n5 = not_same kind 5 f in
    omega (arith, n0, n1, n2, n3, n4, n5)

by_stage : (kind : ℕ) (at : ℕ) → Stage {V = Rest} (λ p. LocationFits p.0) (HasType kind) (λ rest. Always (big_endian w8 kind ++ rest)) (location_by kind at) (λ p. after_type p.0 ++ p.1)
unfolding location_by
by_stage kind at =
    chosen (eqb kind 0) (λ is. let z : kind ≡ 0 = eqb-true _ _ is in typed kind IsHere (here_field (at + 1)) (as_here kind z) (λ x f. (refl, sym z, f))) (λ n0.
    chosen (eqb kind 1) (λ is. let z : kind ≡ 1 = eqb-true _ _ is in typed kind InIp4 (flow_field w32 (2 ^ 32) wide32 (at + 1)) (as_ip4 kind z) (λ x f. (refl, sym z, f))) (λ n1.
    chosen (eqb kind 2) (λ is. let z : kind ≡ 2 = eqb-true _ _ is in typed kind InIp6 (flow_field w128 (2 ^ 128) wide128 (at + 1)) (as_ip6 kind z) (λ x f. (refl, sym z, f))) (λ n2.
    chosen (eqb kind 3) (λ is. let z : kind ≡ 3 = eqb-true _ _ is in typed kind InStream (stream_field (at + 1)) (as_stream kind z) (λ x f. (refl, sym z, f))) (λ n3.
    chosen (eqb kind 4) (λ is. let z : kind ≡ 4 = eqb-true _ _ is in typed kind InIp6Stream (flow_stream_field (at + 1)) (as_ip6_stream kind z) (λ x f. (refl, sym z, f))) (λ n4.
    chosen (eqb kind 5) (λ is. let z : kind ≡ 5 = eqb-true _ _ is in typed kind AtUrl (url_field (at + 1)) (as_url kind z) (λ x f. (refl, sym z, f))) (λ n5.
    record {
      takes = λ bytes v are known e. absurd cc;
      again = λ v c f. absurd (no_other kind (type_of v.0) (type_below v.0) c.0 n0 n1 n2 n3 n4 n5);
    }))))))

location_stage : (at : ℕ) → Stage {V = Rest} (λ p. LocationFits p.0) Always Always (location_at at) (λ p. big_endian w8 (type_of p.0) ++ (after_type p.0 ++ p.1))
unfolding location_at
location_stage at = field _ (λ p. type_of p.0) (u8_field at why.Short) (λ v c f. omega (arith, type_below v.0)) (λ kind kind_lt. by_stage kind at)

pub location_field : (at : ℕ) → Field (location_at at) location_bytes LocationFits
unfolding location_bytes
location_field at = field_of location_bytes (location_stage at) (λ v. simp append_assoc)

-- ---- the location with which bytes begin

pub first_found : {X : Type 0} (view : X → LocationValue × ℕ) (bytes : List ℕ) (r : Result X (Refused LocationWhy)) → IsBytes bytes → Gives view r (location_of bytes)
    → IfOk r (λ x. LocationFits (view x).0 × (take (view x).1 bytes ≡ location_bytes (view x).0) × ((view x).1 ≤ length bytes))
unfolding location_of
first_found view bytes (Ok x) are given =
    let b = bind_ok (location_at 0 bytes) (λ y. Ok (y.0, length bytes - length y.1)) (view x) given in
    let here = location_field 0 in
    let h = here.takes bytes b.0.0 b.0.1 are b.1 in
    let long : length bytes ≡ length (location_bytes b.0.0) + length b.0.1 = ap length h.0 ∙ length-append (location_bytes b.0.0) b.0.1 in
    let size : length bytes - length b.0.1 ≡ length (location_bytes b.0.0) = omega arith in
    let front : take (length bytes - length b.0.1) bytes ≡ location_bytes b.0.0 =
    ap (λ (n : ℕ). take n bytes) size ∙ ap (take (length (location_bytes b.0.0))) h.0 ∙ take_at (location_bytes b.0.0) b.0.1 (length (location_bytes b.0.0)) refl in
    subst (λ (p : LocationValue × ℕ). LocationFits p.0 × (take p.1 bytes ≡ location_bytes p.0) × (p.1 ≤ length bytes)) (ok_is (b.0.0, length bytes - length b.0.1) (view x) b.2) (h.1, front, omega arith)
first_found view bytes (Err e) are given = tt

pub first_only : {X : Type 0} (view : X → LocationValue × ℕ) (bytes : List ℕ) (r : Result X (Refused LocationWhy)) → Gives view r (location_of bytes)
    → (v : LocationValue) (rest : List ℕ) → LocationFits v → bytes ≡ location_bytes v ++ rest → Gives view r (read_as v)
unfolding location_of
first_only view bytes r given v rest fits e =
    let here = location_field 0 in
    let found : location_at 0 bytes ≡ Ok (v, rest) = ap (location_at 0) e ∙ here.again v rest fits in
    let long : length bytes ≡ length (location_bytes v) + length rest = ap length e ∙ length-append (location_bytes v) rest in
    let size : length bytes - length rest ≡ length (location_bytes v) = omega arith in
    let is : (location_at 0 bytes >>= λ y. Ok (y.0, length bytes - length y.1)) ≡ read_as v = rw (found, size) refl in
    subst (λ (x : Result (LocationValue × ℕ) (Refused LocationWhy)). Gives view r x) is given

-- what has a spelling can be written
pub fits_can : (v : LocationValue) → LocationFits v → CanSpell v
fits_can (IsHere id) f = tt
fits_can (InIp4 x) f = tt
fits_can (InIp6 x) f = tt
fits_can (InStream x) f = (f.reserved, f.pid)
fits_can (InIp6Stream x) f = (f.reserved, f.pid)
fits_can (AtUrl text) f = f
