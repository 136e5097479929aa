-- Rule A8 by two units, rules A5, A7 and A9 item by item.
use Rattle.std.proofs.Common.{◌≡◌, ℕ, ◌+◌, ◌-◌, ◌<◌, ◌≤◌, zero, suc, Bool, true, false, not, ◌||◌, ◌&&◌, nat_le, nat_lt, cond, List, [], ◌∷◌, ◌++◌, length, get_or, take, drop, arith, refl, ap, ap₂, sym, ◌∙◌, Option, Some, None, is_some}
use Rattle.std.specs.List.{count_by}
use Rattle.std.proofs.lemmas.Bool.{le-leb, true≢false}
use Rattle.std.proofs.lemmas.List.{drop_all, drop_more, take-append-drop, take_all, take_more}
use Rattle.std.proofs.lemmas.List.Sums.{count_by-le-length, count_by_more_no, count_by_more_yes}
use Rattle.mmt_admit.specs.Calm.{live_between}
use Rattle.mmt_admit.specs.Faults.{as_fault}
use Rattle.mmt_admit.specs.declared.answers.NotAdmitted.{NotAdmitted}
use Rattle.mmt_model.specs.Admission.{Fault, fault_of_key, fault_of_live, first_among, first_below, first_parameters, has_parameters, is_named_by, is_of_one_mpu, live_at, or_else, sample_or_item, unless}
use Rattle.mmt_model.specs.Carrying.{no_sent_mpu, sent_mpu, sent_unit, table_copy}
use Rattle.mmt_model.specs.Handing.{key_numbers, precedes}
use Rattle.mmt_model.specs.Survival.{no_packet}
use Rattle.mmt_model.specs.declared.casts.Cast.{Cast}
use Rattle.mmt_model.specs.declared.casts.Sent.{Sent}
use Rattle.mmt_model.specs.declared.casts.SentMpu.{SentMpu}
use Rattle.mmt_model.specs.declared.casts.SentUnit.{SentUnit}

-- ---- rule A8

pub key-first : (cast : Cast) (u : ℕ) → u ≡ 0 → None ≡ fault_of_key cast u
unfolding fault_of_key
key-first cast zero e = refl
key-first cast (suc u) e = absurd (omega arith)

pub key-later : (cast : Cast) (u : ℕ) (before unit : SentUnit) → 0 < u → before ≡ sent_unit cast (u - 1) → unit ≡ sent_unit cast u
    → unless (not (is_of_one_mpu before unit) || precedes (key_numbers before.key) (key_numbers unit.key)) 8 u (sample_or_item unit.key) (sample_or_item before.key) ≡ fault_of_key cast u
unfolding fault_of_key
key-later cast zero before unit l eb eu = absurd (omega arith)
key-later cast (suc u) before unit l eb eu =
    let s : suc u - 1 ≡ u = omega arith in
    let b : before ≡ sent_unit cast u = eb ∙ ap (sent_unit cast) s in
    ap₂ (λ (x y : SentUnit). unless (not (is_of_one_mpu x y) || precedes (key_numbers x.key) (key_numbers y.key)) 8 (suc u) (sample_or_item y.key) (sample_or_item x.key)) b eu

-- ---- the first fault among several places

among-append : (f : ℕ → Option Fault) (xs ys : List ℕ) → first_among f xs ≡ None → first_among f (xs ++ ys) ≡ first_among f ys
unfolding first_among
among-append f [] ys e = refl
among-append f (x ∷ xs) ys e = ap (λ a. or_else a (first_among f (xs ++ ys))) (first_none (f x) (first_among f xs) e) ∙ among-append f xs ys (later_none (f x) (first_among f xs) e)
  where
    first_none : (a b : Option Fault) → or_else a b ≡ None → a ≡ None
    first_none None b e = refl
    first_none (Some r) b e = absurd cc

    later_none : (a b : Option Fault) → or_else a b ≡ None → b ≡ None
    later_none None b e = e
    later_none (Some r) b e = absurd cc

pub among-begins : (f : ℕ → Option Fault) (ms : List ℕ) → first_among f (take 0 ms) ≡ None
unfolding first_among
among-begins f ms = refl

pub among-passed : (f : ℕ → Option Fault) (ms : List ℕ) (i : ℕ) (o : Option NotAdmitted) → first_among f (take i ms) ≡ None → as_fault o ≡ f (get_or ms i 0) → false ≡ is_some o → i < length ms → first_among f (take (i + 1) ms) ≡ None
unfolding first_among
among-passed f ms i None before is fails l =
    ap (first_among f) (take_more ms i 0 l) ∙ (among-append f (take i ms) (get_or ms i 0 ∷ []) before ∙ ap (λ a. or_else a None) (sym is))
among-passed f ms i (Some r) before is fails l = absurd (true≢false (sym fails))

pub among-found : (f : ℕ → Option Fault) (ms : List ℕ) (i : ℕ) (o : Option NotAdmitted) → first_among f (take i ms) ≡ None → as_fault o ≡ f (get_or ms i 0) → true ≡ is_some o → i < length ms → as_fault o ≡ first_among f ms
unfolding first_among
among-found f ms i None before is some l = absurd (true≢false some)
among-found f ms i (Some r) before is some l =
    let split : ms ≡ take i ms ++ (get_or ms i 0 ∷ drop (i + 1) ms) = sym (take-append-drop i ms) ∙ ap (λ t. take i ms ++ t) (drop_more ms i 0 l) in
    sym (ap (first_among f) split ∙ (among-append f (take i ms) (get_or ms i 0 ∷ drop (i + 1) ms) before ∙ ap (λ a. or_else a (first_among f (drop (i + 1) ms))) (sym is)))

pub among-ends : (f : ℕ → Option Fault) (ms : List ℕ) (i : ℕ) → length ms ≤ i → first_among f (take i ms) ≡ None → None ≡ first_among f ms
among-ends f ms i l e = sym (sym (ap (first_among f) (take_all i ms l)) ∙ e)

-- ---- how many MPUs are live

pub live_of : (low high m : ℕ) → List SentMpu → ℕ
live_of low high m mpus = count_by (λ (x : SentMpu). is_named_by high x.named_from && nat_lt low x.last.0) (take m mpus)

pub live-begins : (low high : ℕ) (mpus : List SentMpu) → live_of low high 0 mpus ≡ 0
unfolding live_of
live-begins low high mpus = refl

pub live-yes : (cast : Cast) (low high m : ℕ) → m < length cast.mpus → (is_named_by high (sent_mpu cast m).named_from && nat_lt low (sent_mpu cast m).last.0) ≡ true → live_of low high (m + 1) cast.mpus ≡ live_of low high m cast.mpus + 1
unfolding live_of sent_mpu
live-yes cast low high m l t = count_by_more_yes (λ (x : SentMpu). is_named_by high x.named_from && nat_lt low x.last.0) cast.mpus m no_sent_mpu l t

pub live-no : (cast : Cast) (low high m : ℕ) → m < length cast.mpus → (is_named_by high (sent_mpu cast m).named_from && nat_lt low (sent_mpu cast m).last.0) ≡ false → live_of low high (m + 1) cast.mpus ≡ live_of low high m cast.mpus
unfolding live_of sent_mpu
live-no cast low high m l t = count_by_more_no (λ (x : SentMpu). is_named_by high x.named_from && nat_lt low x.last.0) cast.mpus m no_sent_mpu l t

pub live-ends : (low high m : ℕ) (mpus : List SentMpu) → length mpus ≤ m → live_of low high m mpus ≡ live_between mpus low high
unfolding live_of live_between
live-ends low high m mpus l = ap (count_by (λ (x : SentMpu). is_named_by high x.named_from && nat_lt low x.last.0)) (take_all m mpus l)

-- where there are no more than 1,024 MPUs, no more are live
pub few-live : (cast : Cast) (n : ℕ) → length cast.mpus ≤ 1024 → first_below (fault_of_live cast) n ≡ None
unfolding first_below fault_of_live live_at
few-live cast zero few = refl
few-live cast (suc n) few =
    let within : nat_le (count_by (λ (x : SentMpu). is_named_by (table_copy cast n).last.0 x.named_from && nat_lt (table_copy cast n).last.0 x.last.0) cast.mpus) 1024 ≡ true =
    le-leb _ 1024 (omega (arith, few, count_by-le-length (λ (x : SentMpu). is_named_by (table_copy cast n).last.0 x.named_from && nat_lt (table_copy cast n).last.0 x.last.0) cast.mpus)) in
    ap₂ or_else (few-live cast n few) (ap (λ b. unless b 7 n (live_at cast.mpus (table_copy cast n).last.0) 1024) within)

-- ---- the first buffer message

pub first-begins : (packets : List Sent) → first_parameters packets ≡ 0 + first_parameters (drop 0 packets)
first-begins packets = omega arith

pub first-goes_on : (packets : List Sent) (n : ℕ) → n < length packets → has_parameters (get_or packets n no_packet).carries ≡ false → first_parameters (drop n packets) ≡ suc (first_parameters (drop (n + 1) packets))
unfolding first_parameters
first-goes_on packets n l t = ap first_parameters (drop_more packets n no_packet l) ∙ ap (λ (b : Bool). cond b 0 (suc (first_parameters (drop (n + 1) packets)))) t

pub first-here : (packets : List Sent) (n : ℕ) → n < length packets → has_parameters (get_or packets n no_packet).carries ≡ true → first_parameters (drop n packets) ≡ 0
unfolding first_parameters
first-here packets n l t = ap first_parameters (drop_more packets n no_packet l) ∙ ap (λ (b : Bool). cond b 0 (suc (first_parameters (drop (n + 1) packets)))) t

pub first-ends : (packets : List Sent) (n : ℕ) → length packets ≤ n → first_parameters (drop n packets) ≡ 0
unfolding first_parameters
first-ends packets n l = ap first_parameters (drop_all n packets l)
