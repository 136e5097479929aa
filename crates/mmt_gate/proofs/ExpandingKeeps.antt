-- Expanding keeps the datagrams that fit a plain packet.
use Rattle.std.proofs.Common.{◌≡◌, ℕ, Bool, true, false, cond, eqb, leb, List, [], ◌∷◌, length, Option, Some, None, Result, Ok, Err, refl, sym, ap, ap₂, subst, ◌∙◌}
use Rattle.std.specs.Prelude.{map, IfSome}
use Rattle.std.specs.List.{AllByRecursion, cons_option, filter}
use Rattle.std.proofs.lemmas.Bool.{le-leb, leb-true}
use Rattle.mmt_base.specs.declared.refused.Refused.{Refused}
use Rattle.mmt_fields.proofs.Codec.{IsBytes}
use Rattle.mmt_tlv.specs.Framing.{Packet}
use Rattle.mmt_ip.specs.declared.packet.Ip6Header.{Ip6Header}
use Rattle.mmt_ip.specs.declared.packet.IpWhy.{IpWhy}
use Rattle.mmt_ip.specs.Spelling.{HeaderFits, Value as Plain}
use Rattle.mmt_ip.specs.Reading.{packet_of as plain_of}
use Rattle.mmt_ctx.specs.declared.packet.CtxWhy.{CtxWhy}
use Rattle.mmt_ctx.specs.Spelling.{Value as Compressed}
use Rattle.mmt_ctx.specs.Reading.{packet_of as compressed_of}
use Rattle.mmt_ctx.specs.Headers.{Header as Opened, opened, opened_after, last_header, carried_by, first_of}
use Rattle.mmt_hear.specs.Hearing.{is_compressed, compressed_bodies}
use Rattle.mmt_gate.specs.declared.expander.ExpandEnd.{ExpandEnd}
use Rattle.mmt_gate.specs.declared.expander.ExpandEnd.TheVariants as end
use Rattle.mmt_gate.specs.Image.{given, image_after}
use Rattle.mmt_gate.specs.Datagrams.{Datagram, in_plain, in_opened, datagram_of, datagrams_after}
use Rattle.mmt_gate.specs.Expanding.{plain_packet, expanded_opened, expanded}
use Rattle.mmt_gate.specs.Promises.{IsWhole, is_short, ExpandingKeepsDatagrams}
use Rattle.mmt_gate.proofs.Tables.{value_fits, opened_by_fits}
use Rattle.mmt_gate.proofs.Datagrams.{in_turn, are_bytes, plain_has, compressed_has, other_has, plain_read, plain_again}

abbrev kept : Option Datagram → Option Datagram
kept (Some d) = cond (is_short d) (Some d) None
kept None = None

filter_cons : (x : Option Datagram) (xs : List Datagram) → filter is_short (cons_option x xs) ≡ cons_option (kept x) (filter is_short xs)
filter_cons None xs = refl
filter_cons (Some d) xs = by (is_short d)
  where
    by : (b : Bool) → cond b (d ∷ filter is_short xs) (filter is_short xs) ≡ cons_option (cond b (Some d) None) (filter is_short xs)
    by true = refl
    by false = refl

-- ---- the header of an opened packet fits

first_fits : (x y : Option Ip6Header) → IfSome x HeaderFits → IfSome y HeaderFits → IfSome (first_of x y) HeaderFits
first_fits (Some h) y f g = f
first_fits None y f g = g

carried_fits : (context : ℕ) (body : List ℕ) → IsBytes body → IfSome (carried_by context (compressed_of body)) HeaderFits
carried_fits context body are = by (compressed_of body) refl
  where
    of_value : (v : Compressed) (b : Bool) → IfSome v.header HeaderFits → IfSome (cond b v.header None) HeaderFits
    of_value v true f = f
    of_value v false f = tt

    by : (r : Result Compressed (Refused CtxWhy)) → compressed_of body ≡ r → IfSome (carried_by context r) HeaderFits
    by (Ok v) is = let f = value_fits body v are is in of_value v (eqb v.context context) f.header
    by (Err e) is = tt

last_fits : (bodies : List (List ℕ)) (context : ℕ) → AllByRecursion IsBytes bodies → IfSome (last_header bodies context) HeaderFits
last_fits [] context all = tt
last_fits (body ∷ bodies) context all = first_fits (carried_by context (compressed_of body)) (last_header bodies context) (carried_fits context body all.0) (last_fits bodies context all.1)

bodies_are : (packets : List Packet) → AllByRecursion IsWhole packets → AllByRecursion IsBytes (compressed_bodies packets)
bodies_are [] all = tt
bodies_are (p ∷ packets) all = by (is_compressed p) (bodies_are packets all.1)
  where
    by : (b : Bool) → AllByRecursion IsBytes (compressed_bodies packets) → AllByRecursion IsBytes (map (λ (q : Packet). q.body) (cond b (p ∷ filter is_compressed packets) (filter is_compressed packets)))
    by true rest = let w : IsWhole p = all.0 in (are_bytes p.body w.bytes, rest)
    by false rest = rest

pub header_fits : (earlier : List Packet) (p : Packet) (v : Opened) → AllByRecursion IsWhole earlier → IsWhole p → opened_after (compressed_bodies earlier) p.body ≡ Ok v → HeaderFits v.header
header_fits earlier p v all whole is = by (compressed_of p.body) refl
  where
    headers : ℕ → Option Ip6Header
    headers = last_header (compressed_bodies earlier)

    by : (r : Result Compressed (Refused CtxWhy)) → compressed_of p.body ≡ r → HeaderFits v.header
    by (Ok c) e =
        let f = value_fits p.body c (are_bytes p.body whole.bytes) e in
        opened_by_fits headers c c.header v f.header (λ context. last_fits (compressed_bodies earlier) context (bodies_are earlier all)) (subst (λ (r : Result Compressed (Refused CtxWhy)). opened headers r ≡ Ok v) e is)
    by (Err x) e = absurd (let bad : opened headers (Err x) ≡ Ok v = subst (λ (r : Result Compressed (Refused CtxWhy)). opened headers r ≡ Ok v) e is in cc)

-- ---- one packet

-- what a packet becomes has its datagram, where that is short, and none is left out that is short
abbrev Becomes : List Packet → List Packet → Packet → Result Packet ExpandEnd → Type 0
Becomes outs earlier p (Ok q) = datagram_of outs q ≡ kept (datagram_of earlier p)
Becomes outs earlier p (Err e) = kept (datagram_of earlier p) ≡ None

short_kept : (p : Packet) → IsWhole p → kept (in_plain (plain_of p.body)) ≡ in_plain (plain_of p.body)
short_kept p whole = by (plain_of p.body) refl
  where
    by : (r : Result Plain (Refused IpWhy)) → plain_of p.body ≡ r → kept (in_plain r) ≡ in_plain r
    by (Ok v) is = let f = plain_read p v whole is in rw (le-leb (length v.payload) 65487 f.1) refl
    by (Err e) is = refl

opened_becomes : (outs earlier : List Packet) (p : Packet) (o : Result Opened (Refused CtxWhy)) → ((v : Opened) → o ≡ Ok v → HeaderFits v.header) → datagram_of earlier p ≡ in_opened o → Becomes outs earlier p (expanded_opened o)
opened_becomes outs earlier p (Ok v) fits has = by (leb (length v.payload) 65487) refl
  where
    of_short : leb (length v.payload) 65487 ≡ true → datagram_of outs (plain_packet v) ≡ kept (in_opened (Ok v))
    of_short short =
        plain_has outs (plain_packet v) refl
        ∙ (ap in_plain (plain_again (record { header = v.header; summed = true; payload = v.payload }) (fits v refl) (leb-true (length v.payload) 65487 short)) ∙ rw short refl)

    by : (b : Bool) → leb (length v.payload) 65487 ≡ b → Becomes outs earlier p (cond b (Ok (plain_packet v)) (Err (end.TooLong (length v.payload))))
    by true short = of_short short ∙ sym (ap kept has)
    by false long = ap kept has ∙ rw long refl
opened_becomes outs earlier p (Err e) fits has = ap kept has

step : (outs earlier : List Packet) (p : Packet) → AllByRecursion IsWhole earlier → IsWhole p → Becomes outs earlier p (expanded earlier p)
unfolding expanded
step outs earlier p all whole = by (eqb p.kind 3) refl
  where
    other : (b : Bool) → eqb p.kind 2 ≡ b → eqb p.kind 3 ≡ false → datagram_of outs p ≡ kept (datagram_of earlier p)
    other true two three = plain_has outs p two ∙ (sym (short_kept p whole) ∙ sym (ap kept (plain_has earlier p two)))
    other false two three = other_has outs p two three ∙ sym (ap kept (other_has earlier p two three))

    by : (b : Bool) → eqb p.kind 3 ≡ b → Becomes outs earlier p (cond b (expanded_opened (opened_after (compressed_bodies earlier) p.body)) (Ok p))
    by true three = opened_becomes outs earlier p (opened_after (compressed_bodies earlier) p.body) (λ v is. header_fits earlier p v all whole is) (compressed_has earlier p three)
    by false three = other (eqb p.kind 2) refl three

-- ---- the whole stream

go : (outs earlier : List Packet) (p : Packet) (rest : List Packet) (later : List Datagram) (r : Result Packet ExpandEnd) → Becomes outs earlier p r
    → ((others : List Packet) → datagrams_after others rest ≡ later) → datagrams_after outs (cons_option (given r) rest) ≡ cons_option (kept (datagram_of earlier p)) later
unfolding datagrams_after
go outs earlier p rest later (Ok q) becomes same = ap₂ (λ (x : Option Datagram) (xs : List Datagram). cons_option x xs) becomes (same (q ∷ outs))
go outs earlier p rest later (Err e) becomes same = same outs ∙ sym (ap (λ (x : Option Datagram). cons_option x later) becomes)

all_kept : (outs earlier packets : List Packet) → AllByRecursion IsWhole earlier → AllByRecursion IsWhole packets
    → datagrams_after outs (image_after expanded earlier packets) ≡ filter is_short (datagrams_after earlier packets)
unfolding image_after datagrams_after
all_kept outs earlier [] before whole = refl
all_kept outs earlier (p ∷ packets) before whole =
    go outs earlier p (image_after expanded (p ∷ earlier) packets) (filter is_short (datagrams_after (p ∷ earlier) packets)) (expanded earlier p)
    (step outs earlier p before whole.0) (λ others. all_kept others (p ∷ earlier) packets (whole.0, before) whole.1)
    ∙ sym (filter_cons (datagram_of earlier p) (datagrams_after (p ∷ earlier) packets))

pub expanding_keeps : ExpandingKeepsDatagrams
expanding_keeps packets whole = all_kept [] [] packets tt (in_turn IsWhole packets whole)
