-- A run that is followed from packet to packet.
use Rattle.std.proofs.Common.{◌≡◌, ℕ, suc, ◌+◌, ◌-◌, ◌%◌, ◌^◌, ◌<◌, ◌≤◌, List, length, Some, None, refl, ap, sym, ◌∙◌, arith}
use Rattle.std.proofs.Math.Nat.{mod-add-mod}
use Rattle.mmt_model.specs.Packets.{Heard, Payload}
use Rattle.mmt_model.specs.Units.{Link, link_at, packet_at, next_number, rest_of_run, joined}
use Rattle.mmt_runs.specs.Lending.{parts_from, link_bytes}
use Rattle.mmt_runs.proofs.Linking.{run_none, run_break, run_end, run_inner_none, run_inner_some}
use Rattle.mmt_runs.proofs.Held.{joined_length}

-- how many bytes so many packets have from this number on
abbrev pub bytes_from : (Payload → Link) → List Heard → ℕ → ℕ → ℕ → ℕ
bytes_from link kept id k number = length (joined (parts_from link kept id k number))

-- the packets from `first` on are followed up to this number, so many with so many bytes modulo 2^32
pub record Followed (link : Payload → Link) (kept : List Heard) (id most first count number sum : ℕ) : Type 0 where
  pub whole : (k : ℕ) → rest_of_run link kept id (most - count) number ≡ Some (parts_from link kept id k number) → rest_of_run link kept id most first ≡ Some (parts_from link kept id (count + k) first)
  pub broken : rest_of_run link kept id (most - count) number ≡ None → rest_of_run link kept id most first ≡ None
  pub sums : (k : ℕ) → (sum + bytes_from link kept id k number) % 2 ^ 32 ≡ bytes_from link kept id (count + k) first % 2 ^ 32

pub begun : (link : Payload → Link) (kept : List Heard) (id most first : ℕ) → Followed link kept id most first 0 first 0
begun link kept id most first =
    record {
      whole = λ k e. ap (λ m. rest_of_run link kept id m first) (omega arith) ∙ (e ∙ ap (λ n. Some (parts_from link kept id n first)) (omega arith));
      broken = λ e. ap (λ m. rest_of_run link kept id m first) (omega arith) ∙ e;
      sums = λ k.
          let none : 0 + bytes_from link kept id k first ≡ bytes_from link kept id k first = omega arith in
          let same : k ≡ 0 + k = omega arith in
          ap (λ n. n % 2 ^ 32) none ∙ ap (λ n. bytes_from link kept id n first % 2 ^ 32) same;
    }

bytes_step : (link : Payload → Link) (kept : List Heard) (id k number : ℕ) (b : List ℕ) → link_bytes (link_at link (packet_at kept id number)) ≡ b → bytes_from link kept id (suc k) number ≡ length b + bytes_from link kept id k (next_number number)
unfolding parts_from
bytes_step link kept id k number b e = rw e (joined_length b (parts_from link kept id k (next_number number)))

no_bytes : (link : Payload → Link) (kept : List Heard) (id number : ℕ) → bytes_from link kept id 0 number ≡ 0
unfolding parts_from
no_bytes link kept id number = refl

pub gone_on : (link : Payload → Link) (kept : List Heard) (id most first count number sum : ℕ) (b : List ℕ) → count < most → link_at link (packet_at kept id number) ≡ Link.Inner b
    → Followed link kept id most first count number sum → Followed link kept id most first (count + 1) (next_number number) ((sum + length b) % 2 ^ 32)
gone_on link kept id most first count number sum b l is f =
    let fewer : (m : ℕ) → (most - (count + 1) ≡ m) → most - count - 1 ≡ m = λ m e. omega (arith, e, l) in
    let at : most - (count + 1) ≡ most - count - 1 = omega (arith, l) in
    let some : most - count ≡ 0 → ⊥ = λ e. omega (arith, e, l) in
    record {
      whole = λ k e. f.whole (suc k) (run_inner_some link kept id number (most - count) k b some is (ap (λ m. rest_of_run link kept id m (next_number number)) (sym at) ∙ e)) ∙ ap (λ n. Some (parts_from link kept id n first)) (omega arith);
      broken = λ e. f.broken (run_inner_none link kept id number (most - count) b some is (ap (λ m. rest_of_run link kept id m (next_number number)) (sym at) ∙ e));
      sums = λ k.
          mod-add-mod (sum + length b) (2 ^ 32) (bytes_from link kept id k (next_number number))
          ∙ (ap (λ n. n % 2 ^ 32) (omega (arith, bytes_step link kept id k number b (ap link_bytes is)))
          ∙ (f.sums (suc k) ∙ ap (λ n. bytes_from link kept id n first % 2 ^ 32) (omega arith)));
    }

pub ended : (link : Payload → Link) (kept : List Heard) (id most first count number sum : ℕ) (b : List ℕ) → count < most → link_at link (packet_at kept id number) ≡ Link.End b
    → Followed link kept id most first count number sum
    → (rest_of_run link kept id most first ≡ Some (parts_from link kept id (count + 1) first)) × ((sum + length b) % 2 ^ 32 ≡ bytes_from link kept id (count + 1) first % 2 ^ 32)
ended link kept id most first count number sum b l is f = (
  f.whole 1 (run_end link kept id number (most - count) b (λ e. omega (arith, e, l)) is),
  ap (λ n. n % 2 ^ 32) (omega (arith, bytes_step link kept id 0 number b (ap link_bytes is), no_bytes link kept id (next_number number))) ∙ f.sums 1,
)

pub broken_off : (link : Payload → Link) (kept : List Heard) (id most first count number sum : ℕ) → count < most → link_at link (packet_at kept id number) ≡ Link.Break
    → Followed link kept id most first count number sum → rest_of_run link kept id most first ≡ None
broken_off link kept id most first count number sum l is f = f.broken (run_break link kept id number (most - count) (λ e. omega (arith, e, l)) is)

pub too_long : (link : Payload → Link) (kept : List Heard) (id most first count number sum : ℕ) → most ≤ count
    → Followed link kept id most first count number sum → rest_of_run link kept id most first ≡ None
too_long link kept id most first count number sum l f = f.broken (run_none link kept id number (most - count) (omega (arith, l)))

-- a sum below 2^32 is not changed by going round
pub not_round : (n s h : ℕ) → n ≡ s % 2 ^ 32 → s ≤ h → h < 2 ^ 32 → n ≡ s
not_round n s h e l b = omega (arith, e, l, b)
