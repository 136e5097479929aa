-- The place of a header's squeezer.
use Rattle.std.proofs.Common.{◌≡◌, ℕ, zero, suc, ◌+◌, ◌-◌, ◌<◌, ◌≤◌, ◌%◌, Bool, false, cond, eqb, List, [], ◌∷◌, ◌++◌, length, take, set, get_or, Option, Some, None, refl, sym, ap, ap₂, subst, ◌∙◌, arith}
use Rattle.std.specs.Prelude.{map, count_by, All, ◌&&◌, Result, Ok, Err, OnOk}
use Rattle.std.specs.List.{list_any, position}
use Rattle.mmt_ip.specs.declared.packet.Ip6Header.{Ip6Header}
use Rattle.mmt_ctx.specs.Squeezing.{Squeezing as Squeezer, IsAtCall}
use Rattle.mmt_gate.specs.declared.flow.Flow.{Flow}
use Rattle.mmt_gate.specs.Flows.{Options, same, distinct, with_context, place_among}
use Rattle.mmt_gate.specs.Keeping.{flow_of, Shrinking, squeezer_after, squeezers_after, Knows, HasSqueezed}
use Rattle.mmt_gate.proofs.Flows.{same_self, place, position_is, place_map, unplaced, place_last}
use Rattle.mmt_gate.proofs.Squeezers.{length_squeezers, squeezers_last, known_old, known_new, known_full, squeezer_there, squeezers_next, squeezers_other, none_known_twice}
use Rattle.std.proofs.lemmas.List.{length-append, map-append}
use Rattle.std.proofs.lemmas.List.Sums.{sum_by-cons}

take_none : (n : ℕ) → take {A = Ip6Header} n [] ≡ []
take_none zero = refl
take_none (suc n) = refl

pub none_first : (o : Options) → with_context o [] ≡ []
unfolding distinct
none_first o = take_none (4096 - o.context)

pub begun : (s : Shrinking) → s.flows ≡ [] → s.squeezers ≡ [] → HasSqueezed [] s
begun s flows squeezers = record {
  flows = flows ∙ sym (ap (λ (k : List Ip6Header). map flow_of k) (none_first s.options));
  squeezers = squeezers ∙ sym (ap (λ (k : List Ip6Header). squeezers_after s.options [] s.options.context k) (none_first s.options));
}

-- the place of a header in the table
in_table : (s : Shrinking) (hs known : List Ip6Header) (h : Ip6Header) (q : Flow → Bool) → ((g : Ip6Header) → q (flow_of g) ≡ same h g) → Knows known hs s → position q s.flows ≡ place (same h) known
in_table s hs known h q agree knows = ap (λ (f : List Flow). position q f) knows.flows ∙ (position_is q (map flow_of known) ∙ place_map flow_of (same h) q agree known)

as_many : (s : Shrinking) (hs known : List Ip6Header) → Knows known hs s → length s.squeezers ≡ length known
as_many s hs known knows = ap (λ (q : List Squeezer). length q) knows.squeezers ∙ length_squeezers s.options hs s.options.context known

-- it is there
pub place_found : (s : Shrinking) (hs : List Ip6Header) (h : Ip6Header) (q : Flow → Bool) → ((g : Ip6Header) → q (flow_of g) ≡ same h g) → (i : ℕ) → HasSqueezed hs s → Some i ≡ position q s.flows
    → Knows (with_context s.options (h ∷ hs)) hs s × (Some i ≡ place_among h (with_context s.options (h ∷ hs)))
place_found s hs h q agree i has at =
    let there : place (same h) (with_context s.options hs) ≡ Some i = sym (at ∙ in_table s hs (with_context s.options hs) h q agree has) in
    let stays : with_context s.options (h ∷ hs) ≡ with_context s.options hs = known_old s.options hs h i there in (
      subst (λ (k : List Ip6Header). Knows k hs s) (sym stays) has,
      sym (ap (λ (k : List Ip6Header). place_among h k) stays ∙ (position_is (same h) (with_context s.options hs) ∙ there)),
    )

-- it is not there, and no context is left
pub place_full : (s : Shrinking) (hs : List Ip6Header) (h : Ip6Header) (q : Flow → Bool) → ((g : Ip6Header) → q (flow_of g) ≡ same h g) → HasSqueezed hs s → None ≡ position q s.flows → 4096 ≤ s.options.context + length s.squeezers
    → Knows (with_context s.options (h ∷ hs)) hs s × (None ≡ place_among h (with_context s.options (h ∷ hs)))
place_full s hs h q agree has at full =
    let there : place (same h) (with_context s.options hs) ≡ None = sym (at ∙ in_table s hs (with_context s.options hs) h q agree has) in
    let stays : with_context s.options (h ∷ hs) ≡ with_context s.options hs = known_full s.options hs h there (omega (arith, as_many s hs (with_context s.options hs) has, full)) in (
      subst (λ (k : List Ip6Header). Knows k hs s) (sym stays) has,
      sym (ap (λ (k : List Ip6Header). place_among h k) stays ∙ (position_is (same h) (with_context s.options hs) ∙ there)),
    )

-- it is not there, and gets the next context
pub place_new : (s t : Shrinking) (hs : List Ip6Header) (h : Ip6Header) (q : Flow → Bool) → ((g : Ip6Header) → q (flow_of g) ≡ same h g) → HasSqueezed hs s → None ≡ position q s.flows → s.options.context + length s.squeezers < 4096
    → (f : Flow) → f ≡ flow_of h → t.options ≡ s.options → t.flows ≡ (cond (list_any q s.flows) s.flows (s.flows ++ f ∷ []))
    → t.squeezers ≡ s.squeezers ++ (record { context = s.options.context + length s.squeezers; full_every = s.options.full_every; header = h; number = 0; since = 0 }) ∷ []
    → Knows (with_context s.options (h ∷ hs)) hs t × (Some (length s.squeezers) ≡ place_among h (with_context s.options (h ∷ hs)))
place_new s t hs h q agree has at room f f_is options flows squeezers =
    let known : List Ip6Header = with_context s.options hs in
    let there : place (same h) known ≡ None = sym (at ∙ in_table s hs known h q agree has) in
    let many : length s.squeezers ≡ length known = as_many s hs known has in
    let grown = known_new s.options hs h there (omega (arith, many, room)) in
    let absent : list_any q s.flows ≡ false = unplaced q s.flows (sym (at ∙ position_is q s.flows)) in
    let made : squeezer_after s.options hs (s.options.context + length known) h ≡ record { context = s.options.context + length s.squeezers; full_every = s.options.full_every; header = h; number = 0; since = 0 } = made_is s.options hs h (length known) (length s.squeezers) grown.1 (sym many) in (
      subst (λ (k : List Ip6Header). Knows k hs t) (sym grown.0) (record {
        flows = flows ∙ (ap₂ (λ (b : Bool) (x : Flow). cond b s.flows (s.flows ++ x ∷ [])) absent f_is ∙ (ap (λ (f : List Flow). f ++ flow_of h ∷ []) has.flows ∙ sym (map-append flow_of known (h ∷ []))));
        squeezers = squeezers ∙ (ap (λ (x : List Squeezer). x ++ (record { context = s.options.context + length s.squeezers; full_every = s.options.full_every; header = h; number = 0; since = 0 }) ∷ []) has.squeezers
            ∙ (ap (λ (x : Squeezer). squeezers_after s.options hs s.options.context known ++ x ∷ []) (sym made) ∙ (sym (squeezers_last s.options hs s.options.context known h)
            ∙ ap (λ (o : Options). squeezers_after o hs o.context (known ++ h ∷ [])) (sym options))));
      }),
      sym (ap (λ (k : List Ip6Header). place_among h k) grown.0 ∙ (position_is (same h) (known ++ h ∷ []) ∙ (place_last (same h) known h (unplaced (same h) known there) (same_self h) ∙ ap Some (sym many)))),
    )
  where
    made_is : (o : Options) (hs : List Ip6Header) (h : Ip6Header) (n m : ℕ) → count_by (same h) hs ≡ 0 → n ≡ m → squeezer_after o hs (o.context + n) h ≡ record { context = o.context + m; full_every = o.full_every; header = h; number = 0; since = 0 }
    made_is o hs h n m zero_is e = rw (e, zero_is) (ap (λ (x : ℕ). record { context = o.context + m; full_every = o.full_every; header = h; number = 0; since = x }) (zero_mod o.full_every))
      where
        zero_mod : (k : ℕ) → 0 % k ≡ 0
        zero_mod k = grind arith

pub none_at_all : {X : Type 0} (P : X → Type 0) (xs : List X) → xs ≡ [] → All P xs
none_at_all {X} P xs none = λ k d lt. absurd (omega (arith, lt, ap (λ (x : List X). length x) none))

-- this is the place of a header, from one state to the next
abbrev pub Found : Ip6Header → List Ip6Header → Option ℕ → Shrinking → Shrinking → Type 0
Found h hs p s t = Knows (with_context s.options (h ∷ hs)) hs t × (p ≡ place_among h (with_context s.options (h ∷ hs)))

-- the table compares headers by all their fields
pub agrees : (f : Flow) (h g : Ip6Header) → f ≡ flow_of h
    → (eqb f.traffic_class g.traffic_class && (eqb f.flow_label g.flow_label && (eqb f.hop_limit g.hop_limit && (eqb f.source g.source && (eqb f.destination g.destination && (eqb f.source_port g.source_port && eqb f.destination_port g.destination_port)))))) ≡ same h g
unfolding same
agrees f h g is = ap (λ (x : Flow). eqb x.traffic_class g.traffic_class && (eqb x.flow_label g.flow_label && (eqb x.hop_limit g.hop_limit && (eqb x.source g.source && (eqb x.destination g.destination && (eqb x.source_port g.source_port && eqb x.destination_port g.destination_port)))))) is

-- one more of both
pub pairs_new : (s : Shrinking) (q : Flow → Bool) (f : Flow) (m : Squeezer) (flows : List Flow) (squeezers : List Squeezer) → length s.flows ≡ length s.squeezers → None ≡ position q s.flows
    → flows ≡ cond (list_any q s.flows) s.flows (s.flows ++ f ∷ []) → squeezers ≡ s.squeezers ++ m ∷ [] → length flows ≡ length squeezers
pairs_new s q f m flows squeezers same_length at flows_is squeezers_is =
    let absent : list_any q s.flows ≡ false = unplaced q s.flows (sym (at ∙ position_is q s.flows)) in
    let grown : flows ≡ s.flows ++ f ∷ [] = flows_is ∙ ap (λ (b : Bool). cond b s.flows (s.flows ++ f ∷ [])) absent in
    ap (λ (x : List Flow). length x) grown
    ∙ (length-append s.flows (f ∷ []) ∙ (ap (λ (n : ℕ). n + 1) same_length ∙ (sym (length-append s.squeezers (m ∷ [])) ∙ sym (ap (λ (x : List Squeezer). length x) squeezers_is))))

-- a squeezer that N packets came through is at that call
at_count : (o : Options) (hs : List Ip6Header) (context : ℕ) (h : Ip6Header) (q : Squeezer) → q ≡ squeezer_after o hs context h → IsAtCall (count_by (same h) hs) q
at_count o hs context h q is = subst (λ (x : Squeezer). IsAtCall (count_by (same h) hs) x) (sym is) (record { number = refl; since = refl })

counted_next : (hs : List Ip6Header) (h : Ip6Header) → count_by (same h) hs + 1 ≡ count_by (same h) (h ∷ hs)
counted_next hs h =
    let unit : ℕ = 1 in
    let none : ℕ = 0 in
    let one : cond (same h h) unit none ≡ unit = ap (λ (b : Bool). cond b unit none) (same_self h) in
    omega (arith, sum_by-cons (λ (x : Ip6Header). cond (same h x) 1 0) h hs, one)

made_of : (r : Squeezer) (context full_every number since : ℕ) (h : Ip6Header) → r.context ≡ context → r.full_every ≡ full_every → r.header ≡ h → r.number ≡ number → r.since ≡ since
    → r ≡ record { context = context; full_every = full_every; header = h; number = number; since = since }
made_of r context full_every number since h a b c d e = λ n. record { context = a n; full_every = b n; header = c n; number = d n; since = e n }

-- the squeezer at the place of a header
pub squeezer_is : (s : Shrinking) (hs : List Ip6Header) (h : Ip6Header) (i : ℕ) (q : Squeezer) → Knows (with_context s.options (h ∷ hs)) hs s → Some i ≡ place_among h (with_context s.options (h ∷ hs)) → q ≡ get_or s.squeezers i q
    → q ≡ squeezer_after s.options hs (s.options.context + i) h
squeezer_is s hs h i q knows at is =
    is ∙ (ap (λ (x : List Squeezer). get_or x i q) knows.squeezers
    ∙ squeezer_there s.options hs s.options.context (with_context s.options (h ∷ hs)) h i q (sym (at ∙ position_is (same h) (with_context s.options (h ∷ hs)))))

pub calls_at : (s : Shrinking) (hs : List Ip6Header) (h : Ip6Header) (i : ℕ) (q : Squeezer) → Knows (with_context s.options (h ∷ hs)) hs s → Some i ≡ place_among h (with_context s.options (h ∷ hs)) → q ≡ get_or s.squeezers i q
    → IsAtCall (count_by (same h) hs) q
calls_at s hs h i q knows at is = at_count s.options hs (s.options.context + i) h q (squeezer_is s hs h i q knows at is)

-- its next call makes it the squeezer after one packet more
pub next_after : (s t : Shrinking) (hs : List Ip6Header) (h : Ip6Header) (i : ℕ) (q r : Squeezer) → Knows (with_context s.options (h ∷ hs)) hs s → Some i ≡ place_among h (with_context s.options (h ∷ hs)) → q ≡ get_or s.squeezers i q
    → t.options ≡ s.options → t.flows ≡ s.flows → t.squeezers ≡ set s.squeezers i r → ((call : ℕ) → IsAtCall call q → IsAtCall (call + 1) r)
    → (r.context ≡ q.context) × (r.full_every ≡ q.full_every) × (r.header ≡ q.header) → HasSqueezed (h ∷ hs) t
next_after s t hs h i q r knows at is options flows squeezers goes kept =
    let known : List Ip6Header = with_context s.options (h ∷ hs) in
    let old : q ≡ squeezer_after s.options hs (s.options.context + i) h = squeezer_is s hs h i q knows at is in
    let call = goes (count_by (same h) hs) (calls_at s hs h i q knows at is) in
    let count : count_by (same h) hs + 1 ≡ count_by (same h) (h ∷ hs) = counted_next hs h in
    let every : r.full_every ≡ s.options.full_every = kept.1 ∙ ap (λ (x : Squeezer). x.full_every) old in
    let made : r ≡ squeezer_after s.options (h ∷ hs) (s.options.context + i) h =
    made_of r (s.options.context + i) s.options.full_every (count_by (same h) (h ∷ hs) % 16) (count_by (same h) (h ∷ hs) % s.options.full_every) h
    (kept.0 ∙ ap (λ (x : Squeezer). x.context) old) every (kept.2 ∙ ap (λ (x : Squeezer). x.header) old)
    (call.number ∙ ap (λ (n : ℕ). n % 16) count)
    (call.since ∙ (ap (λ (n : ℕ). (count_by (same h) hs + 1) % n) every ∙ ap (λ (n : ℕ). n % s.options.full_every) count)) in
    let there : place (same h) known ≡ Some i = sym (at ∙ position_is (same h) known) in
    let all : t.squeezers ≡ squeezers_after s.options (h ∷ hs) s.options.context known =
    squeezers ∙ (ap₂ (λ (x : List Squeezer) (y : Squeezer). set x i y) knows.squeezers made
    ∙ squeezers_next s.options hs s.options.context known h i (none_known_twice s.options (h ∷ hs)) there) in
    subst (λ (o : Options). Knows (with_context o (h ∷ hs)) (h ∷ hs) t) (sym options) (record {
      flows = flows ∙ knows.flows;
      squeezers = all ∙ ap (λ (o : Options). squeezers_after o (h ∷ hs) o.context known) (sym options);
    })

-- no context is left for a header: nothing changes
pub none_next : (s t : Shrinking) (hs : List Ip6Header) (h : Ip6Header) → t.options ≡ s.options → Knows (with_context s.options (h ∷ hs)) hs t → None ≡ place_among h (with_context s.options (h ∷ hs)) → HasSqueezed (h ∷ hs) t
none_next s t hs h options knows at =
    let known : List Ip6Header = with_context s.options (h ∷ hs) in
    let absent : list_any (same h) known ≡ false = unplaced (same h) known (sym (at ∙ position_is (same h) known)) in
    subst (λ (o : Options). Knows (with_context o (h ∷ hs)) (h ∷ hs) t) (sym options) (record {
      flows = knows.flows;
      squeezers = knows.squeezers ∙ sym (squeezers_other t.options hs t.options.context known h absent);
    })

pub on_ok : {T E : Type 0} (r : Result T E) (P : Type 0) → P → OnOk r P
on_ok (Ok x) P holds = holds
on_ok (Err e) P holds = tt
