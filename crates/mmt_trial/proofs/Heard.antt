-- What a receiver was given of a recording.
use Rattle.std.proofs.Common.{◌≡◌, ◌≢◌, ℕ, ◌+◌, ◌<◌, ◌≤◌, List, [], ◌∷◌, ◌++◌, length, map, take, get_or, Option, Some, None, refl, ap, ap₂, sym, ◌∙◌, subst, arith}
use Rattle.std.specs.List.{All, AllByRecursion}
use Rattle.std.proofs.lemmas.List.{take_more, take_all, append-nil, get_or-map}
use Rattle.std.proofs.lemmas.List.Elements.{recursion_from_All}
use Rattle.std.proofs.lemmas.List.Sums.{sum_by-cons}
use Rattle.std.specs.Prelude.{slice_get}
use Rattle.std.specs.Option.{unwrap_or}
use Rattle.std.proofs.lemmas.Option.{get_or_from_slice_get, unwrap_or-slice_get}
use Rattle.mmt_cast.proofs.Listing.{each-at}
use Rattle.mmt_io.specs.History.Event.{Out}
use Rattle.mmt_delivery.proofs.Carried.{get-map, length-map}
use Rattle.mmt_model.proofs.Newest.{newest_more}
use Rattle.mmt_model.specs.Delivery.{newest_first, onto}
use Rattle.mmt_recv.specs.Receiving.{Stands}
use Rattle.mmt_take.specs.Taking.{bytes_of, placed}
use Rattle.mmt_tlv.specs.Cutting.{IsPacket}
use Rattle.mmt_tlv.specs.Framing.{Fits, Packet, spelling}
use Rattle.mmt_trial.specs.Given.{AreGiven, WasGiven}

-- a whole packet has at most 65,539 bytes
pub packet-short : (bytes : List ℕ) → IsPacket bytes → length bytes ≤ 65539
packet-short bytes p = let fits : Fits p.0 = p.1 in let same : length bytes ≡ length (spelling p.0) = ap (λ (b : List ℕ). length b) p.2 in omega (arith, fits.length, same)

abbrev no_tlv : Packet
no_tlv = record { kind = 0; body = [] }

pub placed-more : (packets : List Packet) (packet : Packet) → placed (packet ∷ packets) ≡ record { place = bytes_of packets; packet = packet } ∷ placed packets
unfolding placed
placed-more packets packet = refl

pub bytes-more : (packets : List Packet) (packet : Packet) → bytes_of (packet ∷ packets) ≡ bytes_of packets + length (spelling packet)
bytes-more packets packet = omega (arith, sum_by-cons (λ (q : Packet). length (spelling q)) packet packets)

pub placed-none : placed (newest_first []) ≡ []
unfolding newest_first onto placed
placed-none = refl

pub bytes-none : bytes_of (newest_first []) ≡ 0
unfolding newest_first onto
bytes-none = refl

pub given-long : (pieces : List (List ℕ)) (list : List ℕ) (packets : List Packet) → AreGiven pieces list packets → length list ≡ length packets
given-long pieces list packets g =
    sym (length-map (λ n. get_or pieces n []) list) ∙ (ap (λ (xs : List (List ℕ)). length xs) g ∙ length-map spelling packets)

-- the packet at a place of the list, and what was given with it
pub record IsNext (pieces : List (List ℕ)) (list : List ℕ) (packets : List Packet) (i place : ℕ) : Type 0 where
  pub packet : Packet
  pub fits : Fits packet
  pub bytes : get_or pieces place [] ≡ spelling packet
  pub newest : newest_first (take (i + 1) packets) ≡ packet ∷ newest_first (take i packets)

pub next-given : (pieces : List (List ℕ)) (list : List ℕ) (packets : List Packet) (i place : ℕ) → i < length list → place ≡ get_or list i 0 → All Fits packets → AreGiven pieces list packets → IsNext pieces list packets i place
next-given pieces list packets i place l is fit g =
    let long : i < length packets = omega (arith, given-long pieces list packets g, l) in
    record {
      packet = get_or packets i no_tlv;
      fits = each-at Fits packets i no_tlv (recursion_from_All Fits packets fit) long;
      bytes = ap (λ n. get_or pieces n []) is ∙ (sym (get-map (λ n. get_or pieces n []) list i 0 [] l) ∙ (ap (λ (xs : List (List ℕ)). get_or xs i []) g ∙ get-map spelling packets i no_tlv [] long));
      newest = ap newest_first (take_more packets i no_tlv long) ∙ newest_more (take i packets) (get_or packets i no_tlv);
    }

pub all-given : (packets : List Packet) (i : ℕ) → length packets ≤ i → take i packets ≡ packets
all-given packets i le = take_all i packets le

-- ---- the piece at a place

pub piece-there : (pieces : List (List ℕ)) (place : ℕ) (bytes : List ℕ) → Some bytes ≡ slice_get pieces place → get_or pieces place [] ≡ bytes
piece-there pieces place bytes e = get_or_from_slice_get pieces place bytes [] (sym e)

pub piece-absent : (pieces : List (List ℕ)) (place : ℕ) → None ≡ slice_get pieces place → get_or pieces place [] ≡ []
piece-absent pieces place e = sym (unwrap_or-slice_get pieces place []) ∙ ap (λ (o : Option (List ℕ)). unwrap_or o []) (sym e)

pub no-packet : (packet : Packet) → [] ≡ spelling packet → ⊥
no-packet packet e = omega (arith, ap (λ (b : List ℕ). length b) e)

pub only : (bytes : List ℕ) (packet : Packet) → bytes ≡ spelling packet → bytes ≡ spelling packet ++ []
only bytes packet e = e ∙ sym (append-nil (spelling packet))

-- ---- what a port recorded

pub recorded : (pieces : List (List ℕ)) (packets : List Packet) → map Out pieces ≡ map (λ p. Out (spelling p)) packets → pieces ≡ map spelling packets
recorded [] [] e = refl
recorded [] (p ∷ packets) e = absurd cc
recorded (x ∷ pieces) [] e = absurd cc
recorded (x ∷ pieces) (p ∷ packets) e =
    let first : x ≡ spelling p = cc in
    let later : map Out pieces ≡ map (λ (q : Packet). Out (spelling q)) packets = cc in
    ap₂ (λ y ys. y ∷ ys) first (recorded pieces packets later)
