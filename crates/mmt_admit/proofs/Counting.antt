-- Counts of packet ids so far, and rule 3 by them.
use Rattle.std.proofs.Common.{◌≡◌, ℕ, ◌+◌, ◌<◌, ◌≤◌, ◌==◌, List, length, get_or, set, take, replicate, arith, ap, ap₂, sym, ◌∙◌, ⊎_elim}
use Rattle.std.specs.List.{count_by}
use Rattle.std.proofs.lemmas.Bool.{cases_eq, eq-eqb, ne_eqb}
use Rattle.std.proofs.lemmas.List.{get_or-set_other, get_or-set_same, length-replicate, length-set, length-take, get_or-replicate}
use Rattle.std.proofs.lemmas.List.Sums.{count_by-le-length, count_by_more_no, count_by_more_yes}
use Rattle.mmt_model.specs.Admission.{count_before, fault_of_number, unless}
use Rattle.mmt_model.specs.Survival.{no_packet}
use Rattle.mmt_model.specs.declared.casts.Sent.{Sent}

-- how many of the first n packets have a packet id
unfoldable pub count_of : ℕ → ℕ → List Sent → ℕ
count_of i n packets = count_by (λ (p : Sent). p.packet_id == i) (take n packets)

-- a table has the count of each packet id among the first n packets
pub record AreCounts (counts : List ℕ) (n : ℕ) (packets : List Sent) : Type 0 where
  pub all : length counts ≡ 65536
  pub each : (i : ℕ) → i < 65536 → get_or counts i 0 ≡ count_of i n packets

pub counts-begin : (packets : List Sent) → AreCounts (replicate 65536 0) 0 packets
unfolding count_of
counts-begin packets = record { all = length-replicate {A = ℕ} 65536 0; each = λ i l. get_or-replicate 65536 i 0 0 l }

pub counts-go_on : (counts : List ℕ) (n id : ℕ) (packets : List Sent) → AreCounts counts n packets → n < length packets → id < 65536 → id ≡ (get_or packets n no_packet).packet_id
    → AreCounts (set counts id (get_or counts id 0 + 1)) (n + 1) packets
unfolding count_of
counts-go_on counts n id packets are l lid e =
    record {
      all = length-set counts id (get_or counts id 0 + 1) ∙ are.all;
      each = λ i li.
          ⊎_elim
          (λ (same : i ≡ id).
          ap (λ j. get_or (set counts id (get_or counts id 0 + 1)) j 0) same
          ∙ (get_or-set_same counts id (get_or counts id 0 + 1) 0 (omega (arith, lid, are.all))
          ∙ (ap (λ c. c + 1) (are.each id lid)
          ∙ (sym (count_by_more_yes (λ (p : Sent). p.packet_id == id) packets n no_packet l (eq-eqb (get_or packets n no_packet).packet_id id (sym e)))
          ∙ ap (λ j. count_by (λ (p : Sent). p.packet_id == j) (take (n + 1) packets)) (sym same)))))
          (λ (ne : i ≡ id → ⊥).
          get_or-set_other counts id i (get_or counts id 0 + 1) 0 ne
          ∙ (are.each i li ∙ sym (count_by_more_no (λ (p : Sent). p.packet_id == i) packets n no_packet l (ne_eqb (get_or packets n no_packet).packet_id i (λ s. ne (sym (e ∙ s)))))))
          (cases_eq i id);
    }

pub count-short : (i n : ℕ) (packets : List Sent) → count_of i n packets ≤ n
unfolding count_of
count-short i n packets = omega (arith, count_by-le-length (λ (p : Sent). p.packet_id == i) (take n packets), length-take n packets)

pub number-at : (packets : List Sent) (n id number count : ℕ) → id ≡ (get_or packets n no_packet).packet_id → number ≡ (get_or packets n no_packet).number → count ≡ count_of id n packets
    → unless (number == count) 3 n number count ≡ fault_of_number packets n
unfolding count_of fault_of_number count_before
number-at packets n id number count ei en ec =
    ap₂ (λ a b. unless (a == b) 3 n a b) en (ec ∙ ap (λ i. count_by (λ (p : Sent). p.packet_id == i) (take n packets)) ei)

pub counts-small : (counts : List ℕ) (n id : ℕ) (packets : List Sent) → AreCounts counts n packets → id < 65536 → get_or counts id 0 ≤ n
counts-small counts n id packets are l = omega (arith, are.each id l, count-short id n packets)
