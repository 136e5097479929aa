-- What has been written after N packets of a stream.
use Rattle.std.proofs.Common.{◌≡◌, ◌⊎◌, inl, inr, ℕ, zero, suc, ◌+◌, ◌-◌, ◌<◌, ◌≤◌, Bool, IsTrue, List, [], ◌∷◌, ◌++◌, length, Option, Result, Ok, Err, OnErr, arith, refl, sym, ap, subst, ◌∙◌, append_assoc}
use Rattle.std.proofs.lemmas.List.{append-nil, map-append}
use Rattle.mmt_io.specs.History.{Event}
use Rattle.mmt_io.specs.History.Event.{In, Note, Out}
use Rattle.mmt_model.specs.Carrying.{numbers}
use Rattle.mmt_model.specs.declared.casts.Cast.{Cast}
use Rattle.mmt_model.specs.declared.programmes.Programme.{Programme}
use Rattle.mmt_plan.specs.Plan.{Stays}
use Rattle.mmt_plan.proofs.Fronts.{rose_since}
use Rattle.mmt_plan.proofs.Passes.{before}
use Rattle.mmt_sent.specs.Stream.{packet_sent, stream, stream_of}
use Rattle.mmt_tlv.specs.Framing.{Packet as Tlv, spelling}
use Rattle.mmt_send.specs.Files.{HasCause, IsUnitShort, files_on}
use Rattle.mmt_send.specs.Writes.{AddsFront, EndsFor, HasBegun, IsFrontOf, IsUnread, pieces}
use Rattle.mmt_send.specs.declared.ends.SendEnd.{SendEnd}
use Rattle.mmt_send.specs.declared.ends.SendEnd.TheVariants as ends

-- ---- lists of places

numbers-split : (f a b : ℕ) → numbers f (a + b) ≡ numbers f a ++ numbers (f + a) b
unfolding numbers
numbers-split f zero b = let z : 0 + b ≡ b = omega arith in let s : f ≡ f + 0 = omega arith in ap (numbers f) z ∙ ap (λ (n : ℕ). numbers n b) s
numbers-split f (suc a) b =
    let e : suc a + b ≡ suc (a + b) = omega arith in
    let s : f + 1 + a ≡ f + suc a = omega arith in
    ap (numbers f) e ∙ ap (λ (ns : List ℕ). f ∷ ns) (numbers-split (f + 1) a b ∙ ap (λ (n : ℕ). numbers (f + 1) a ++ numbers n b) s)

of-append : (programme : Programme) (cast : Cast) (files : ℕ → List ℕ) (xs ys : List ℕ) → stream_of programme cast files (xs ++ ys) ≡ stream_of programme cast files xs ++ stream_of programme cast files ys
unfolding stream_of
of-append programme cast files xs ys = map-append (packet_sent programme cast files) xs ys

pieces-append : (xs ys : List Tlv) → pieces (xs ++ ys) ≡ pieces xs ++ pieces ys
pieces-append xs ys = map-append (λ (p : Tlv). Out (spelling p)) xs ys

-- the packets before a place, that at the place, and those after it
stream-at : (programme : Programme) (cast : Cast) (files : ℕ → List ℕ) (k : ℕ) → k < length cast.packets
    → stream programme cast files ≡ stream_of programme cast files (numbers 0 k) ++ packet_sent programme cast files k ∷ stream_of programme cast files (numbers (k + 1) (length cast.packets - k - 1))
unfolding stream stream_of numbers
stream-at programme cast files k l =
    let n : ℕ = length cast.packets in
    let e : n ≡ k + suc (n - k - 1) = omega arith in
    let z : 0 + k ≡ k = omega arith in
    ap (λ (m : ℕ). stream_of programme cast files (numbers 0 m)) e ∙ ap (stream_of programme cast files) (numbers-split 0 k (suc (n - k - 1))) ∙ of-append programme cast files (numbers 0 k) (numbers (0 + k) (suc (n - k - 1)))
    ∙ ap (λ (m : ℕ). stream_of programme cast files (numbers 0 k) ++ stream_of programme cast files (numbers m (suc (n - k - 1)))) z

one-more : (programme : Programme) (cast : Cast) (files : ℕ → List ℕ) (k : ℕ) → stream_of programme cast files (numbers 0 (k + 1)) ≡ stream_of programme cast files (numbers 0 k) ++ packet_sent programme cast files k ∷ []
unfolding stream_of numbers
one-more programme cast files k =
    let z : 0 + k ≡ k = omega arith in
    ap (stream_of programme cast files) (numbers-split 0 k 1) ∙ of-append programme cast files (numbers 0 k) (numbers (0 + k) 1) ∙ ap (λ (m : ℕ). stream_of programme cast files (numbers 0 k) ++ packet_sent programme cast files m ∷ []) z

-- ---- histories

-- N packets of the stream have been written
abbrev pub HasSent : Programme → Cast → (ℕ → List ℕ) → ℕ → List Event → List Event → Type 0
HasSent programme cast files k old now = now ≡ old ++ pieces (stream_of programme cast files (numbers 0 k))

pub sent-none : (programme : Programme) (cast : Cast) (files : ℕ → List ℕ) (old : List Event) → HasSent programme cast files 0 old old
unfolding stream_of numbers
sent-none programme cast files old = sym (append-nil old)

pub sent-more : (programme : Programme) (cast : Cast) (files : ℕ → List ℕ) (k : ℕ) (old now new : List Event) → HasSent programme cast files k old now → new ≡ now ++ pieces (packet_sent programme cast files k ∷ []) → HasSent programme cast files (k + 1) old new
sent-more programme cast files k old now new so_far e =
    let sent : List Tlv = stream_of programme cast files (numbers 0 k) in
    let next : List Tlv = packet_sent programme cast files k ∷ [] in
    e ∙ ap (λ (h : List Event). h ++ pieces next) so_far ∙ append_assoc old (pieces sent) (pieces next) ∙ ap (λ (h : List Event). old ++ h) (sym (pieces-append sent next))
    ∙ ap (λ (ps : List Tlv). old ++ pieces ps) (sym (one-more programme cast files k))

pub sent-all : (programme : Programme) (cast : Cast) (files : ℕ → List ℕ) (k : ℕ) (old now : List Event) → k ≡ length cast.packets → HasSent programme cast files k old now → now ≡ old ++ pieces (stream programme cast files)
unfolding stream
sent-all programme cast files k old now e so_far = so_far ∙ ap (λ (n : ℕ). old ++ pieces (stream_of programme cast files (numbers 0 n))) e

front-of : (last : List Event) (p : Tlv) (rest : List Tlv) → IsFrontOf last (p ∷ []) → IsFrontOf last (p ∷ rest)
front-of [] p rest f = tt
front-of (Out bytes ∷ []) p rest f = f
front-of (Out bytes ∷ x ∷ xs) p rest f = f
front-of (In bytes ∷ xs) p rest f = f
front-of (Note bytes ∷ xs) p rest f = f

pub has-begun : (programme : Programme) (cast : Cast) (files : ℕ → List ℕ) (k : ℕ) (old now new : List Event) → k < length cast.packets → HasSent programme cast files k old now → AddsFront now new (packet_sent programme cast files k ∷ [])
    → HasBegun old new (stream programme cast files)
has-begun programme cast files k old now new l so_far adds = record {
  sent = stream_of programme cast files (numbers 0 k);
  left = packet_sent programme cast files k ∷ stream_of programme cast files (numbers (k + 1) (length cast.packets - k - 1));
  last = adds.last;
  all = stream-at programme cast files k l;
  history = adds.history ∙ ap (λ (h : List Event). h ++ adds.last) so_far ∙ append_assoc old (pieces (stream_of programme cast files (numbers 0 k))) adds.last;
  front = front-of adds.last (packet_sent programme cast files k) _ adds.front;
}

pub none-begun : (packets : List Tlv) (h : List Event) → HasBegun h h packets
none-begun packets h = record { sent = []; left = packets; last = []; all = refl; history = sym (append-nil h); front = tt }

pub on-err : {T E : Type 0} (P : Type 0) (r : Result T E) → P → OnErr r P
on-err P (Ok x) p = tt
on-err P (Err e) p = p

-- what a failed write adds
pub adds-front : (p : Tlv) (bytes : List ℕ) (old new : List Event) → bytes ≡ spelling p → (new ≡ old) ⊎ ((part rest : List ℕ) × (bytes ≡ part ++ rest) × (new ≡ old ++ Out part ∷ [])) → AddsFront old new (p ∷ [])
adds-front p bytes old new e (inl same) = record { last = []; history = same ∙ sym (append-nil old); front = tt }
adds-front p bytes old new e (inr some) = record { last = Out some.0 ∷ []; history = some.3; front = (some.1, sym e ∙ some.2) }

pub no-front : (packets : List Tlv) (h now : List Event) → now ≡ h → AddsFront h now packets
no-front packets h now e = record { last = []; history = e ∙ sym (append-nil h); front = tt }

-- ---- causes

pub ends-for : (programme : Programme) (tells : Bool) (file : List ℕ → Option (List ℕ)) (m n : ℕ) (writes : ℕ × ℕ) (e : SendEnd) → HasCause programme tells file m n e → EndsFor programme tells file (m, n) writes e
ends-for programme tells file m n writes ends.ReadFault h = h
ends-for programme tells file m n writes (ends.UnitShort u l g) h = h
ends-for programme tells file m n writes ends.WriteFault h = absurd h
ends-for programme tells file m n writes ends.OutOfMemory h = tt

pub ends-later : {a b : Bool} {f g : List ℕ → Option (List ℕ)} (programme : Programme) (m n o k l w : ℕ) (e : SendEnd) → Stays a b f g m n → k ≤ l → EndsFor programme b g (n, o) (l, w) e → EndsFor programme a f (m, o) (k, w) e
ends-later programme m n o k l w ends.ReadFault s le h = rose_since m n o s.later h
ends-later programme m n o k l w (ends.UnitShort u size held) s le h = before (λ (file : List ℕ → Option (List ℕ)). IsUnitShort programme (files_on file programme) u size held) s h
ends-later programme m n o k l w ends.WriteFault s le h = rose_since k l w le h
ends-later programme m n o k l w ends.OutOfMemory s le h = tt

pub unread-on : {a b c : Bool} {f g h : List ℕ} {m n o k l w : ℕ} → IsUnread a b f g m n k l → IsUnread b c g h n o l w → IsUnread a c f h m o k w
unread-on {a} {b} x y = record {
  tells = y.tells ∙ x.tells;
  left = λ t. y.left (subst (λ v. IsTrue v) (sym x.tells) t) ∙ x.left t;
  reads = y.reads ∙ x.reads;
  writes = let i = x.writes in let j = y.writes in omega arith;
}

-- what a port tells now it told before
pub told-before : (a b : Bool) → b ≡ a → IsTrue a → IsTrue b
told-before a b e t = subst (λ v. IsTrue v) (sym e) t
