-- Squeezing keeps the datagrams of plain packets.
use Rattle.std.proofs.Common.{◌≡◌, ◌≢◌, ◌⊎◌, inl, inr, ℕ, ◌+◌, ◌-◌, ◌<◌, ◌≤◌, ◌%◌, Bool, true, false, cond, eqb, List, [], ◌∷◌, ◌++◌, length, Option, Some, None, Result, Ok, Err, refl, sym, ap, ap₂, subst, ◌∙◌, arith, eq-eqb}
use Rattle.std.specs.Prelude.{⊤, IfSome, count_by}
use Rattle.std.specs.List.{AllByRecursion, cons_option, filter}
use Rattle.std.proofs.lemmas.Bool.{eqb-true, ne_eqb, cases_lt}
use Rattle.std.proofs.lemmas.List.{length-take}
use Rattle.mmt_base.specs.declared.refused.Refused.{Refused}
use Rattle.mmt_tlv.specs.Framing.{Packet}
use Rattle.mmt_ip.specs.declared.packet.Ip6Header.{Ip6Header}
use Rattle.mmt_ip.specs.declared.packet.IpWhy.{IpWhy}
use Rattle.mmt_ip.specs.Spelling.{HeaderFits, Value as Plain}
use Rattle.mmt_ip.specs.Reading.{packet_of as plain_of}
use Rattle.mmt_ctx.specs.declared.packet.CtxWhy.{CtxWhy}
use Rattle.mmt_ctx.specs.Spelling.{Value as Compressed, spelling as compressed_spelling}
use Rattle.mmt_ctx.specs.Reading.{packet_of as compressed_of}
use Rattle.mmt_ctx.specs.Headers.{last_header, carried_by, first_of}
use Rattle.mmt_ctx.specs.Squeezing.{Squeezing as Squeezer, IsReadBack, packet_at}
use Rattle.mmt_ctx.proofs.Law.{packet_format}
use Rattle.mmt_ctx.proofs.ReadBack.{squeezed_is_read_back}
use Rattle.mmt_hear.specs.Hearing.{compressed_bodies}
use Rattle.mmt_gate.specs.declared.shrinker.ShrinkEnd.{ShrinkEnd}
use Rattle.mmt_gate.specs.declared.shrinker.ShrinkEnd.TheVariants as end
use Rattle.mmt_gate.specs.Image.{given, image_after}
use Rattle.mmt_gate.specs.Datagrams.{Datagram, in_plain, in_opened, datagram_of, datagrams_after}
use Rattle.mmt_gate.specs.Flows.{Options, same, distinct, header_read, header_of, headers, with_context, place_among}
use Rattle.mmt_gate.specs.Shrinking.{squeezer_at, squeezed_as, squeezed_at, squeezed_plain, squeezed}
use Rattle.mmt_gate.specs.Promises.{IsWhole, is_plain, SqueezingKeepsDatagrams}
use Rattle.mmt_gate.proofs.Datagrams.{in_turn, plain_has, compressed_has, other_has, plain_read}
use Rattle.mmt_gate.proofs.Flows.{same_is, same_self, next_place, place, position_is, some_is, placed, unplaced, place_last}
use Rattle.mmt_gate.proofs.Placing.{none_first}
use Rattle.mmt_gate.proofs.Squeezers.{known_old, known_new, known_full}

-- ---- the headers that a reader of the output has

-- these headers are those of the contexts from one on
abbrev Carries : (ℕ → Option Ip6Header) → ℕ → List Ip6Header → Type 0
Carries table context [] = ⊤
Carries table context (h ∷ known) = (table context ≡ Some h) × Carries table (context + 1) known

carries_there : (table : ℕ → Option Ip6Header) (context : ℕ) (known : List Ip6Header) (h : Ip6Header) (i : ℕ) → place (same h) known ≡ Some i → Carries table context known → table (context + i) ≡ Some h
carries_there table context [] h i at has = absurd cc
carries_there table context (k ∷ known) h i at has = by (same h k) (place (same h) known) (λ j s. carries_there table (context + 1) known h j s has.1) refl at
  where
    by : (b : Bool) (p : Option ℕ) → ((j : ℕ) → p ≡ Some j → table (context + 1 + j) ≡ Some h) → same h k ≡ b → cond b (Some 0) (next_place p) ≡ Some i → table (context + i) ≡ Some h
    by true p later t s =
        let is : context + i ≡ context = omega (arith, some_is 0 i s) in
        ap table is ∙ (has.0 ∙ ap Some (sym (same_is h k t)))
    by false (Some j) later t s =
        let is : context + i ≡ context + 1 + j = omega (arith, some_is (j + 1) i s) in
        ap table is ∙ later j refl
    by false None later t s = absurd cc

-- a table with the same headers below some context
carries_same : (old new : ℕ → Option Ip6Header) (context end : ℕ) (known : List Ip6Header) → context + length known ≤ end → ((y : ℕ) → y < end → new y ≡ old y) → Carries old context known → Carries new context known
carries_same old new context end [] le agree has = tt
carries_same old new context end (h ∷ known) le agree has = (agree context (omega (arith, le)) ∙ has.0, carries_same old new (context + 1) end known (omega (arith, le)) agree has.1)

carries_push : (table : ℕ → Option Ip6Header) (context : ℕ) (known : List Ip6Header) (h : Ip6Header) → Carries table context known → table (context + length known) ≡ Some h → Carries table context (known ++ h ∷ [])
carries_push table context [] h has last =
    let is : context ≡ context + 0 = omega arith in
    (ap table is ∙ last, tt)
carries_push table context (k ∷ known) h has last =
    let is : context + 1 + length known ≡ context + length (k ∷ known) = omega arith in
    (has.0, carries_push table (context + 1) known h has.1 (ap table is ∙ last))

-- a context that has its own header again
agree_everywhere : (old new : ℕ → Option Ip6Header) (x : ℕ) (h : Ip6Header) → old x ≡ Some h → new x ≡ Some h → ((y : ℕ) → y ≢ x → new y ≡ old y) → (y : ℕ) → new y ≡ old y
agree_everywhere old new x h before after others y = by (eqb y x) refl
  where
    by : (b : Bool) → eqb y x ≡ b → new y ≡ old y
    by true e = let is : y ≡ x = eqb-true y x e in ap new is ∙ (after ∙ (sym before ∙ sym (ap old is)))
    by false e = others y (λ is. let bad : eqb y x ≡ true = eq-eqb y x is in cc)

abbrev table_of : List Packet → ℕ → Option Ip6Header
table_of outs context = last_header (compressed_bodies outs) context

-- ---- a squeezed packet

carried_fits : (full : Bool) (h : Ip6Header) → HeaderFits h → IfSome (cond full (Some h) None) HeaderFits
carried_fits true h fits = fits
carried_fits false h fits = tt

-- it changes the header of no other context
elsewhere : (call : ℕ) (s : Squeezer) (payload : List ℕ) (earlier : List (List ℕ)) (y : ℕ) → s.context < 4096 → HeaderFits s.header → y ≢ s.context
    → last_header (compressed_spelling (packet_at call s payload) ∷ earlier) y ≡ last_header earlier y
elsewhere call s payload earlier y below fits other =
    let v : Compressed = packet_at call s payload in
    let read : compressed_of (compressed_spelling v) ≡ Ok v = packet_format.again v tt (record { context = below; number = omega arith; header = carried_fits (eqb (call % s.full_every) 0) s.header fits }) in
    ap (λ (r : Result Compressed (Refused CtxWhy)). first_of (carried_by y r) (last_header earlier y)) read ∙ rw (ne_eqb s.context y (λ e. other (sym e))) refl

-- it has its datagram, where the header is known or comes with it
written : (o : Options) (outs : List Packet) (call i : ℕ) (h : Ip6Header) (payload : List ℕ) → o.context + i < 4096 → HeaderFits h → (table_of outs (o.context + i) ≡ Some h) ⊎ (call % o.full_every ≡ 0)
    → (datagram_of outs (squeezed_as o call i h payload) ≡ Some (record { header = h; payload = payload }))
    × (table_of (squeezed_as o call i h payload ∷ outs) (o.context + i) ≡ Some h)
    × ((y : ℕ) → y ≢ o.context + i → table_of (squeezed_as o call i h payload ∷ outs) y ≡ table_of outs y)
written o outs call i h payload below fits known =
    let back : IsReadBack call (squeezer_at o i h) payload (compressed_bodies outs) = squeezed_is_read_back call (squeezer_at o i h) payload (compressed_bodies outs) below fits known in (
      compressed_has outs (squeezed_as o call i h payload) refl ∙ ap in_opened back.opened,
      back.last,
      λ y other. elsewhere call (squeezer_at o i h) payload (compressed_bodies outs) y below fits other,
    )

-- ---- one plain packet

-- a packet after others has this datagram, and after it the headers that have a context are known
abbrev Keeps : Options → List Packet → List Ip6Header → Plain → Packet → Type 0
Keeps o outs hs v q = (datagram_of outs q ≡ Some (record { header = v.header; payload = v.payload })) × Carries (table_of (q ∷ outs)) o.context (with_context o (v.header ∷ hs))

zero_mod : (k : ℕ) → 0 % k ≡ 0
zero_mod k = grind arith

-- its header has a context
of_old : (o : Options) (outs : List Packet) (hs : List Ip6Header) (p : Packet) (v : Plain) (i : ℕ) → HeaderFits v.header → Carries (table_of outs) o.context (with_context o hs) → place (same v.header) (with_context o hs) ≡ Some i
    → Keeps o outs hs v (squeezed_plain o hs p (Ok v))
of_old o outs hs p v i fits has at =
    let h : Ip6Header = v.header in
    let known : List Ip6Header = with_context o hs in
    let call : ℕ = count_by (same h) hs in
    let q : Packet = squeezed_as o call i h v.payload in
    let stays : with_context o (h ∷ hs) ≡ known = known_old o hs h i at in
    let there : place_among h (with_context o (h ∷ hs)) ≡ Some i = ap (λ (k : List Ip6Header). place_among h k) stays ∙ (position_is (same h) known ∙ at) in
    let in_place = placed (same h) known i at in
    let below : o.context + i < 4096 = omega (arith, in_place.0, length-take (4096 - o.context) (distinct hs)) in
    let before : table_of outs (o.context + i) ≡ Some h = carries_there (table_of outs) o.context known h i at has in
    let w = written o outs call i h v.payload below fits (inl before) in
    let all : Carries (table_of (q ∷ outs)) o.context known =
    carries_same (table_of outs) (table_of (q ∷ outs)) o.context (o.context + length known) known (omega arith) (λ y lt. agree_everywhere (table_of outs) (table_of (q ∷ outs)) (o.context + i) h before w.1 w.2 y) has in
    let keeps : Keeps o outs hs v q = (w.0, subst (λ (k : List Ip6Header). Carries (table_of (q ∷ outs)) o.context k) (sym stays) all) in
    subst (λ (x : Option ℕ). Keeps o outs hs v (squeezed_at o call p v x)) (sym there) keeps

-- its header gets one
of_new : (o : Options) (outs : List Packet) (hs : List Ip6Header) (p : Packet) (v : Plain) → HeaderFits v.header → Carries (table_of outs) o.context (with_context o hs) → place (same v.header) (with_context o hs) ≡ None
    → length (with_context o hs) < 4096 - o.context → Keeps o outs hs v (squeezed_plain o hs p (Ok v))
of_new o outs hs p v fits has at lt =
    let h : Ip6Header = v.header in
    let known : List Ip6Header = with_context o hs in
    let call : ℕ = count_by (same h) hs in
    let i : ℕ = length known in
    let q : Packet = squeezed_as o call i h v.payload in
    let grown = known_new o hs h at lt in
    let there : place_among h (with_context o (h ∷ hs)) ≡ Some i = ap (λ (k : List Ip6Header). place_among h k) grown.0 ∙ (position_is (same h) (known ++ h ∷ []) ∙ place_last (same h) known h (unplaced (same h) known at) (same_self h)) in
    let below : o.context + i < 4096 = omega (arith, lt) in
    let first : call % o.full_every ≡ 0 = ap (λ (n : ℕ). n % o.full_every) grown.1 ∙ zero_mod o.full_every in
    let w = written o outs call i h v.payload below fits (inr first) in
    let olds : Carries (table_of (q ∷ outs)) o.context known = carries_same (table_of outs) (table_of (q ∷ outs)) o.context (o.context + i) known (omega arith) (λ y less. w.2 y (λ e. omega (arith, e, less))) has in
    let all : Carries (table_of (q ∷ outs)) o.context (known ++ h ∷ []) = carries_push (table_of (q ∷ outs)) o.context known h olds w.1 in
    let keeps : Keeps o outs hs v q = (w.0, subst (λ (k : List Ip6Header). Carries (table_of (q ∷ outs)) o.context k) (sym grown.0) all) in
    subst (λ (x : Option ℕ). Keeps o outs hs v (squeezed_at o call p v x)) (sym there) keeps

-- a packet of another type leaves the headers as they are
bodies_stay : (outs : List Packet) (p : Packet) → eqb p.kind 3 ≡ false → compressed_bodies (p ∷ outs) ≡ compressed_bodies outs
bodies_stay outs p three = rw three refl

carries_stay : (o : Options) (outs : List Packet) (p : Packet) (known : List Ip6Header) → eqb p.kind 3 ≡ false → Carries (table_of outs) o.context known → Carries (table_of (p ∷ outs)) o.context known
carries_stay o outs p known three has = subst (λ (bodies : List (List ℕ)). Carries (last_header bodies) o.context known) (sym (bodies_stay outs p three)) has

not_three : (p : Packet) → eqb p.kind 2 ≡ true → eqb p.kind 3 ≡ false
not_three p two = let is : p.kind ≡ 2 = eqb-true p.kind 2 two in ne_eqb p.kind 3 (λ three. omega (arith, is, three))

-- its header gets none
of_full : (o : Options) (outs : List Packet) (hs : List Ip6Header) (p : Packet) (v : Plain) → eqb p.kind 2 ≡ true → plain_of p.body ≡ Ok v → Carries (table_of outs) o.context (with_context o hs) → place (same v.header) (with_context o hs) ≡ None
    → 4096 - o.context ≤ length (with_context o hs) → Keeps o outs hs v (squeezed_plain o hs p (Ok v))
of_full o outs hs p v two is has at le =
    let h : Ip6Header = v.header in
    let known : List Ip6Header = with_context o hs in
    let stays : with_context o (h ∷ hs) ≡ known = known_full o hs h at le in
    let there : place_among h (with_context o (h ∷ hs)) ≡ None = ap (λ (k : List Ip6Header). place_among h k) stays ∙ (position_is (same h) known ∙ at) in
    let keeps : Keeps o outs hs v p = (
      plain_has outs p two ∙ ap in_plain is,
      subst (λ (k : List Ip6Header). Carries (table_of (p ∷ outs)) o.context k) (sym stays) (carries_stay o outs p known (not_three p two) has),
    ) in
    subst (λ (x : Option ℕ). Keeps o outs hs v (squeezed_at o (count_by (same h) hs) p v x)) (sym there) keeps

of_plain : (o : Options) (outs : List Packet) (hs : List Ip6Header) (p : Packet) (v : Plain) → IsWhole p → eqb p.kind 2 ≡ true → plain_of p.body ≡ Ok v → Carries (table_of outs) o.context (with_context o hs)
    → Keeps o outs hs v (squeezed_plain o hs p (Ok v))
of_plain o outs hs p v whole two is has = by (place (same v.header) (with_context o hs)) refl
  where
    fits : HeaderFits v.header
    fits = let f = plain_read p v whole is in let g = f.0 in g.header

    by : (x : Option ℕ) → place (same v.header) (with_context o hs) ≡ x → Keeps o outs hs v (squeezed_plain o hs p (Ok v))
    by (Some i) at = of_old o outs hs p v i fits has at
    by None at =
        elim (cases_lt (length (with_context o hs)) (4096 - o.context)) [
          | inl lt ↦ of_new o outs hs p v fits has at lt
          | inr le ↦ of_full o outs hs p v two is has at le
        ]

-- what a packet of type 2 becomes has its datagram
step : (o : Options) (outs : List Packet) (hs : List Ip6Header) (p : Packet) → IsWhole p → eqb p.kind 2 ≡ true → Carries (table_of outs) o.context (with_context o hs)
    → (datagram_of outs (squeezed_plain o hs p (plain_of p.body)) ≡ in_plain (plain_of p.body))
    × Carries (table_of (squeezed_plain o hs p (plain_of p.body) ∷ outs)) o.context (with_context o (cons_option (header_read (plain_of p.body)) hs))
step o outs hs p whole two has = by (plain_of p.body) refl
  where
    by : (r : Result Plain (Refused IpWhy)) → plain_of p.body ≡ r
        → (datagram_of outs (squeezed_plain o hs p r) ≡ in_plain r) × Carries (table_of (squeezed_plain o hs p r ∷ outs)) o.context (with_context o (cons_option (header_read r) hs))
    by (Ok v) is = of_plain o outs hs p v whole two is has
    by (Err e) is = (plain_has outs p two ∙ ap in_plain is, carries_stay o outs p (with_context o hs) (not_three p two) has)

-- ---- the whole stream

two_is : (o : Options) (earlier : List Packet) (p : Packet) → eqb p.kind 2 ≡ true → squeezed o earlier p ≡ Ok (squeezed_plain o (headers earlier) p (plain_of p.body))
unfolding squeezed
two_is o earlier p two = rw two refl

three_is : (o : Options) (earlier : List Packet) (p : Packet) → eqb p.kind 2 ≡ false → eqb p.kind 3 ≡ true → squeezed o earlier p ≡ Err end.Squeezed
unfolding squeezed
three_is o earlier p two three = rw (two, three) refl

other_is : (o : Options) (earlier : List Packet) (p : Packet) → eqb p.kind 2 ≡ false → eqb p.kind 3 ≡ false → squeezed o earlier p ≡ Ok p
unfolding squeezed
other_is o earlier p two three = rw (two, three) refl

two_headers : (earlier : List Packet) (p : Packet) → eqb p.kind 2 ≡ true → headers (p ∷ earlier) ≡ cons_option (header_read (plain_of p.body)) (headers earlier)
unfolding headers header_of
two_headers earlier p two = rw two refl

other_headers : (earlier : List Packet) (p : Packet) → eqb p.kind 2 ≡ false → headers (p ∷ earlier) ≡ headers earlier
unfolding headers header_of
other_headers earlier p two = rw two refl

-- the packets after this one have the same datagrams on both sides, whatever came before them
abbrev Later : Options → List Packet → List Packet → List Packet → Type 0
Later o seen rest kept = (outs others : List Packet) → Carries (table_of outs) o.context (with_context o (headers seen)) → datagrams_after outs rest ≡ datagrams_after others kept

go : (o : Options) (outs earlier others : List Packet) (p : Packet) (rest kept : List Packet) → IsWhole p → Carries (table_of outs) o.context (with_context o (headers earlier)) → Later o (p ∷ earlier) rest kept
    → datagrams_after outs (cons_option (given (squeezed o earlier p)) rest) ≡ datagrams_after others (cond (is_plain p) (p ∷ kept) kept)
unfolding datagrams_after
go o outs earlier others p rest kept whole has later = by (eqb p.kind 2) (eqb p.kind 3) refl refl
  where
    becomes : (r : Result Packet ShrinkEnd) → squeezed o earlier p ≡ r → datagrams_after outs (cons_option (given (squeezed o earlier p)) rest) ≡ datagrams_after outs (cons_option (given r) rest)
    becomes r is = ap (λ (x : Result Packet ShrinkEnd). datagrams_after outs (cons_option (given x) rest)) is

    stays : eqb p.kind 2 ≡ false → (x : List Packet) → Carries (table_of x) o.context (with_context o (headers earlier)) → Carries (table_of x) o.context (with_context o (headers (p ∷ earlier)))
    stays two x all = subst (λ (hs : List Ip6Header). Carries (table_of x) o.context (with_context o hs)) (sym (other_headers earlier p two)) all

    by : (b c : Bool) → eqb p.kind 2 ≡ b → eqb p.kind 3 ≡ c → datagrams_after outs (cons_option (given (squeezed o earlier p)) rest) ≡ datagrams_after others (cond b (p ∷ kept) kept)
    by true c two three =
        let q : Packet = squeezed_plain o (headers earlier) p (plain_of p.body) in
        let s = step o outs (headers earlier) p whole two has in
        let all : Carries (table_of (q ∷ outs)) o.context (with_context o (headers (p ∷ earlier))) = subst (λ (hs : List Ip6Header). Carries (table_of (q ∷ outs)) o.context (with_context o hs)) (sym (two_headers earlier p two)) s.1 in
        becomes (Ok q) (two_is o earlier p two)
        ∙ ap₂ (λ (x : Option Datagram) (xs : List Datagram). cons_option x xs) (s.0 ∙ sym (plain_has others p two)) (later (q ∷ outs) (p ∷ others) all)
    by false true two three = becomes (Err end.Squeezed) (three_is o earlier p two three) ∙ later outs others (stays two outs has)
    by false false two three =
        becomes (Ok p) (other_is o earlier p two three)
        ∙ (ap (λ (x : Option Datagram). cons_option x (datagrams_after (p ∷ outs) rest)) (other_has outs p two three)
        ∙ later (p ∷ outs) others (stays two (p ∷ outs) (carries_stay o outs p (with_context o (headers earlier)) three has)))

all_kept : (o : Options) (outs earlier others packets : List Packet) → Carries (table_of outs) o.context (with_context o (headers earlier)) → AllByRecursion IsWhole packets
    → datagrams_after outs (image_after (squeezed o) earlier packets) ≡ datagrams_after others (filter is_plain packets)
unfolding image_after datagrams_after
all_kept o outs earlier others [] has whole = refl
all_kept o outs earlier others (p ∷ packets) has whole =
    go o outs earlier others p (image_after (squeezed o) (p ∷ earlier) packets) (filter is_plain packets) whole.0 has (λ more less all. all_kept o more (p ∷ earlier) less packets all whole.1)

pub squeezing_keeps : SqueezingKeepsDatagrams
unfolding headers
squeezing_keeps o packets whole = all_kept o [] [] [] packets (subst (λ (known : List Ip6Header). Carries (table_of []) o.context known) (sym (none_first o)) tt) (in_turn IsWhole packets whole)
