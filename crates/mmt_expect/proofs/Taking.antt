-- What the walks over packets and table copies keep.
use Rattle.std.proofs.Common.{◌≡◌, ℕ, ◌+◌, ◌<◌, Bool, false, cond, ◌&&◌, ◌==◌, nat_le, nat_lt, min, max, List, length, get_or, arith, refl, ap, ap₂, sym, ◌∙◌, add-one}
use Rattle.std.proofs.lemmas.Bool.Decides.{nat_tests}
use Rattle.mmt_expect.proofs.Greatest.{greatest-more, greatest-none}
use Rattle.mmt_expect.proofs.LeastNamed.{named-more, named-none}
use Rattle.mmt_expect.specs.Latest.{AreUpTo, IsRaised, IsTaken, greatest}
use Rattle.mmt_expect.specs.Named.{AreNamedBy, IsLowered, least_named}
use Rattle.mmt_expect.specs.Reaches.{never}
use Rattle.mmt_model.specs.Carrying.{no_table_copy}
use Rattle.mmt_model.specs.Counts.{member}
use Rattle.mmt_model.specs.Survival.{no_packet}
use Rattle.mmt_model.specs.declared.casts.Carries.{Carries}
use Rattle.mmt_model.specs.declared.casts.Sent.{Sent}
use Rattle.mmt_model.specs.declared.casts.TableCopy.{TableCopy}

-- ---- packets

one-place : (v u : ℕ) → (nat_le v u && nat_lt u (v + 1)) ≡ (v == u)
one-place v u = grind (arith, nat_tests)

-- one number was raised
pub taken-one : (test : ℕ → Carries → Bool) (packet : Carries) (v g : ℕ) (old new : List ℕ) → ((u : ℕ) → test u packet ≡ (v == u)) → IsRaised old new v 1 g → IsTaken test packet g old new
taken-one test packet v g old new same raised =
    record { long = raised.long; each = λ u l. raised.each u l ∙ ap (λ b. cond b (max (get_or old u 0) g) (get_or old u 0)) (one-place v u ∙ sym (same u)) }

-- those of a group were
pub taken-group : (test : ℕ → Carries → Bool) (packet : Carries) (f c g : ℕ) (old new : List ℕ) → ((u : ℕ) → test u packet ≡ (nat_le f u && nat_lt u (f + c))) → IsRaised old new f c g → IsTaken test packet g old new
taken-group test packet f c g old new same raised =
    record { long = raised.long; each = λ u l. raised.each u l ∙ ap (λ b. cond b (max (get_or old u 0) g) (get_or old u 0)) (sym (same u)) }

-- none was
pub taken-none : (test : ℕ → Carries → Bool) (packet : Carries) (g : ℕ) (xs : List ℕ) → ((u : ℕ) → test u packet ≡ false) → IsTaken test packet g xs xs
taken-none test packet g xs none = record { long = refl; each = λ u l. sym (ap (λ b. cond b (max (get_or xs u 0) g) (get_or xs u 0)) (none u)) }

pub up-to-none : (test : ℕ → Carries → Bool) (packets : List Sent) (reaches xs : List ℕ) → ((u : ℕ) → u < length xs → get_or xs u 0 ≡ 0) → AreUpTo test packets reaches 0 (length xs) xs
up-to-none test packets reaches xs none = record { long = refl; each = λ u l. none u l ∙ sym (greatest-none (test u) packets reaches) }

pub up-to-next : (test : ℕ → Carries → Bool) (packets : List Sent) (reaches : List ℕ) (i many g : ℕ) (packet : Carries) (old new : List ℕ) → packet ≡ (get_or packets i no_packet).carries → g ≡ get_or reaches i 0
    → AreUpTo test packets reaches i many old → IsTaken test packet g old new → AreUpTo test packets reaches (i + 1) many new
up-to-next test packets reaches i many g packet old new is here before taken =
    record {
      long = taken.long ∙ before.long;
      each = λ u l.
          taken.each u (omega (arith, l, before.long))
          ∙ (ap₂ (λ p x. cond (test u p) (max (get_or old u 0) x) (get_or old u 0)) is here
          ∙ (ap (λ x. cond (test u (get_or packets i no_packet).carries) (max x (get_or reaches i 0)) x) (before.each u l)
          ∙ (sym (greatest-more (test u) packets reaches i) ∙ ap (greatest (test u) packets reaches) (sym (add-one i)))));
    }

-- ---- table copies

pub named-by-none : (copies : List TableCopy) (signals xs : List ℕ) → ((m : ℕ) → m < length xs → get_or xs m 0 ≡ never) → AreNamedBy copies signals 0 (length xs) xs
named-by-none copies signals xs none = record { long = refl; each = λ m l. none m l ∙ sym (named-none copies signals m) }

pub named-by-next : (copies : List TableCopy) (signals : List ℕ) (i mpus g : ℕ) (copy : TableCopy) (names old new : List ℕ) → copy ≡ get_or copies i no_table_copy → names ≡ copy.names → g ≡ get_or signals copy.signal 0
    → AreNamedBy copies signals i mpus old → IsLowered old new names g → AreNamedBy copies signals (i + 1) mpus new
named-by-next copies signals i mpus g copy names old new is listed here before lowered =
    record {
      long = lowered.long ∙ before.long;
      each = λ m l.
          lowered.each m (omega (arith, l, before.long))
          ∙ (ap₂ (λ ns x. cond (member m ns) (min (get_or old m 0) x) (get_or old m 0)) (listed ∙ ap (λ (c : TableCopy). c.names) is) (here ∙ ap (λ (c : TableCopy). get_or signals c.signal 0) is)
          ∙ (ap (λ x. cond (member m (get_or copies i no_table_copy).names) (min x (get_or signals (get_or copies i no_table_copy).signal 0)) x) (before.each m l)
          ∙ (sym (named-more copies signals m i) ∙ ap (least_named copies signals m) (sym (add-one i)))));
    }
