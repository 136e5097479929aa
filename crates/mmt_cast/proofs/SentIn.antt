-- The sending of a unit and of a table.
use Rattle.std.proofs.Common.{◌≡◌, ℕ, ◌+◌, ◌*◌, ◌<◌, ◌≤◌, Bool, true, false, ◌==◌, ◌&&◌, inl, cond, nat_le, nat_lt, List, ◌∷◌, ◌++◌, length, arith, refl, ap, sym, ◌∙◌, subst, true≢false}
use Rattle.std.specs.List.{AllByRecursion, count_by}
use Rattle.std.proofs.lemmas.Bool.{and_from, and_parts, eq-eqb, eqb-true, leb-true, ltb-true}
use Rattle.mmt_cast.proofs.Covering.{IsSplit, covers_table, covers_unit, others, splits, table-at_most_once, unit-at_most_once, unit-once}
use Rattle.mmt_cast.proofs.Listing.{each-in, in-right}
use Rattle.mmt_cast.proofs.Numbering.{before, piece}
use Rattle.mmt_cast.proofs.Own.{Agrees, own-packets}
use Rattle.mmt_frag.proofs.PartsJoined.{parts-enough, parts-some}
use Rattle.mmt_cast.proofs.Reading.{placed-unit}
use Rattle.mmt_cast.proofs.Rightness.{IsRightSending, right-sendings}
use Rattle.mmt_cast.specs.Casting.{has_table, has_unit, span_of, span_of_table, span_of_unit}
use Rattle.mmt_frag.specs.Cuts.{parts}
use Rattle.mmt_cast.specs.Placing.{PlacedMpu, PlacedUnit, all_units}
use Rattle.mmt_cast.specs.Right.{IsRight, mpu_at, unit_at}
use Rattle.mmt_cast.specs.Sending.{Sending, carried, id_of, packet_count, sendings}
use Rattle.mmt_model.specs.Carrying.{has_part}
use Rattle.mmt_model.specs.declared.casts.Carries.TheVariants as carries
use Rattle.mmt_model.specs.declared.programmes.Programme.{Programme}

pub agree-units : (programme : Programme) (u : ℕ) → Agrees programme (has_unit u) (covers_unit u)
unfolding has_unit carried
agree-units programme u (Sending.Parameters s at) k = refl
agree-units programme u (Sending.Table s at bytes) k = go (parts bytes programme.limit == 1)
  where
    go : (t : Bool) → has_unit u (cond t (carries.Table s) (carries.TablePart s k)) ≡ false
    go true = refl
    go false = refl
agree-units programme u (Sending.Alone v x) k = go (parts x.value.length programme.limit == 1)
  where
    go : (t : Bool) → has_unit u (cond t (carries.Whole v) (carries.Fragment v k)) ≡ (v == u)
    go true = refl
    go false = refl
agree-units programme u (Sending.Group f c x bytes) k = refl

pub agree-tables : (programme : Programme) (s : ℕ) → Agrees programme (has_table s) (covers_table s)
unfolding has_table carried
agree-tables programme s (Sending.Parameters t at) k = refl
agree-tables programme s (Sending.Table t at bytes) k = go (parts bytes programme.limit == 1)
  where
    go : (b : Bool) → has_table s (cond b (carries.Table t) (carries.TablePart t k)) ≡ (t == s)
    go true = refl
    go false = refl
agree-tables programme s (Sending.Alone v x) k = go (parts x.value.length programme.limit == 1)
  where
    go : (b : Bool) → has_table s (cond b (carries.Whole v) (carries.Fragment v k)) ≡ false
    go true = refl
    go false = refl
agree-tables programme s (Sending.Group f c x bytes) k = refl

-- where a sending is of a unit, that is all that is sent of it
pub unit-span : (programme : Programme) (u : ℕ) (a b : List Sending) (x : Sending) → sendings programme ≡ a ++ x ∷ b → covers_unit u x ≡ true → span_of_unit programme u ≡ span_of (piece programme x (before programme a x))
unfolding span_of_unit
unit-span programme u a b x e t =
    let o = others (covers_unit u) a b x (subst (λ l. count_by (covers_unit u) l ≤ 1) e (unit-at_most_once programme u)) t in
    ap span_of (own-packets programme (has_unit u) (covers_unit u) (agree-units programme u) a b x e t o.0 o.1)

pub table-span : (programme : Programme) (s : ℕ) (a b : List Sending) (x : Sending) → sendings programme ≡ a ++ x ∷ b → covers_table s x ≡ true → span_of_table programme s ≡ span_of (piece programme x (before programme a x))
unfolding span_of_table
table-span programme s a b x e t =
    let o = others (covers_table s) a b x (subst (λ l. count_by (covers_table s) l ≤ 1) e (table-at_most_once programme s)) t in
    ap span_of (own-packets programme (has_table s) (covers_table s) (agree-tables programme s) a b x e t o.0 o.1)

pub right-sending : (programme : Programme) (a b : List Sending) (x : Sending) → sendings programme ≡ a ++ x ∷ b → IsRightSending programme x
right-sending programme a b x e = each-in (IsRightSending programme) x (a ++ x ∷ b) (subst (AllByRecursion (IsRightSending programme)) e (right-sendings programme)) (in-right x a (x ∷ b) (inl refl))

-- the units of one MPU have one packet id
pub one-mpu : (programme : Programme) (u v : ℕ) → u < length (all_units programme) → v < length (all_units programme) → (unit_at programme u).mpu_place ≡ (unit_at programme v).mpu_place → (unit_at programme u).in_mpu ≡ (unit_at programme v).in_mpu
one-mpu programme u v lu lv e = sym (placed-unit programme u lu).1 ∙ (ap (mpu_at programme) e ∙ (placed-unit programme v lv).1)

-- the packet id of a sending of a unit is that of the unit, it has a packet, each of its packets carries a part, and they are enough
pub record IsOfUnit (programme : Programme) (x : Sending) (u : ℕ) : Type 0 where
  pub id : id_of x ≡ (unit_at programme u).in_mpu.in_asset.packet_id
  pub some : 1 ≤ packet_count programme x
  pub part : (k : ℕ) → k < packet_count programme x → has_part u k (carried programme x k) ≡ true
  pub enough : (unit_at programme u).value.length ≤ packet_count programme x * programme.limit

pub of-unit : (programme : Programme) (right : IsRight programme) (u : ℕ) → u < length (all_units programme) → (x : Sending) → IsRightSending programme x → covers_unit u x ≡ true → IsOfUnit programme x u
unfolding id_of packet_count has_part carried
of-unit programme right u l (Sending.Parameters s at) is t = absurd (true≢false (sym t))
of-unit programme right u l (Sending.Table s at bytes) is t = absurd (true≢false (sym t))
of-unit programme right u l (Sending.Alone v y) is t =
    let same : v ≡ u = eqb-true v u t in
    let at : unit_at programme u ≡ y = ap (unit_at programme) (sym same) ∙ is.1 in
    let long : (unit_at programme u).value.length ≡ y.value.length = ap (λ (z : PlacedUnit). z.value.length) at in
    record {
      id = ap (λ (z : PlacedUnit). z.in_mpu.in_asset.packet_id) (sym at);
      some = parts-some y.value.length programme.limit (omega (arith, right.limit)) (omega (arith, long, right.some u l));
      part = λ k below. go k (parts y.value.length programme.limit) below (parts y.value.length programme.limit == 1) refl;
      enough = omega (arith, long, parts-enough y.value.length programme.limit (omega (arith, right.limit)));
    }
  where
    go : (k n : ℕ) → k < n → (b : Bool) → (n == 1) ≡ b → has_part u k (cond b (carries.Whole v) (carries.Fragment v k)) ≡ true
    go k n below true e = and_from (v == u) (k == 0) t (eq-eqb k 0 (omega (arith, eqb-true n 1 e)))
    go k n below false e = and_from (v == u) (k == k) t (eq-eqb k k refl)
of-unit programme right u l (Sending.Group f c y bytes) is t =
    let p = and_parts (nat_le f u) (nat_lt u (f + c)) t in
    let joined = is.3 u (leb-true f u p.0) (ltb-true u (f + c) p.1) in
    let first : (unit_at programme f).mpu_place ≡ y.mpu_place = ap (λ (z : PlacedUnit). z.mpu_place) is.2 in
    let one = one-mpu programme u f l (omega (arith, is.0, is.1)) (joined.0 ∙ sym first) in
    record {
      id = ap (λ (z : PlacedUnit). z.in_mpu.in_asset.packet_id) (sym is.2) ∙ ap (λ (m : PlacedMpu). m.in_asset.packet_id) (sym one);
      some = omega arith;
      part = λ k below. and_from (nat_le f u && nat_lt u (f + c)) (k == 0) t (eq-eqb k 0 (omega arith));
      enough = omega (arith, joined.1);
    }

-- a unit and its sending
pub record IsSentIn (programme : Programme) (u : ℕ) : Type 0 where
  pub front : List Sending
  pub sending : Sending
  pub back : List Sending
  pub is : sendings programme ≡ front ++ sending ∷ back
  pub covers : covers_unit u sending ≡ true
  pub of : IsOfUnit programme sending u
  pub span : span_of_unit programme u ≡ span_of (piece programme sending (before programme front sending))

-- where a sending is of a unit, it is the unit's
abbrev pub sent-at : (programme : Programme) (right : IsRight programme) (u : ℕ) → u < length (all_units programme) → (a b : List Sending) (x : Sending) → sendings programme ≡ a ++ x ∷ b → covers_unit u x ≡ true → IsSentIn programme u
sent-at programme right u l a b x e t =
    record {
      front = a;
      sending = x;
      back = b;
      is = e;
      covers = t;
      of = of-unit programme right u l x (right-sending programme a b x e) t;
      span = unit-span programme u a b x e t;
    }

pub sent-in : (programme : Programme) (right : IsRight programme) (u : ℕ) → u < length (all_units programme) → IsSentIn programme u
sent-in programme right u l =
    let s : IsSplit (covers_unit u) (sendings programme) = splits (covers_unit u) (sendings programme) (omega (arith, unit-once programme u l)) in
    sent-at programme right u l s.front s.back s.item s.is s.passes
