-- The named units, from the spans of the kept packets.
use Rattle.std.proofs.Common.{◌≡◌, ℕ, true, false, List, [], ◌∷◌, ◌++◌, map, length, refl, ap, sym, ◌∙◌, arith, append_assoc, Option, Some, None}
use Rattle.std.specs.List.{flat_map}
use Rattle.std.proofs.lemmas.Bool.Decides.{nat_tests}
use Rattle.std.proofs.lemmas.Bool.{eq-eqb}
use Rattle.mmt_model.specs.Packets.{Heard}
use Rattle.mmt_model.specs.Handing.{Presentation, named_units, due_units}
use Rattle.mmt_model.specs.Units.{units_of, units_by}
use Rattle.mmt_times.specs.Known.{Known}
use Rattle.mmt_pool.specs.declared.types.Span.{Span}
use Rattle.mmt_pool.specs.Holding.{Kept, is_at, IsInOrder}
use Rattle.mmt_pool.specs.Holding.{packet_at as kept_at, is_before as stands_before}
use Rattle.mmt_pool.specs.Doing.{span_of}
use Rattle.mmt_runs.specs.declared.order.UnitOrder.{UnitOrder}
use Rattle.mmt_runs.specs.Reading.{heard}
use Rattle.mmt_runs.specs.Choosing.{named_at}
use Rattle.mmt_runs.specs.Seeking.{named_of}
use Rattle.mmt_runs.proofs.Rising.{Each, Rising, order_rising}

flat_append : {A B : Type 0} (f : A → List B) (xs ys : List A) → flat_map f (xs ++ ys) ≡ flat_map f xs ++ flat_map f ys
flat_append f [] ys = refl
flat_append f (x ∷ xs) ys = ap (λ l. f x ++ l) (flat_append f xs ys) ∙ sym (append_assoc (f x) (flat_map f xs) (flat_map f ys))

not_at : (p q : Kept) → stands_before p q ≡ true → is_at q.packet_id q.number p ≡ false
unfolding stands_before is_at
not_at p q e = grind (arith, nat_tests)

at_itself : (p : Kept) → is_at p.packet_id p.number p ≡ true
unfolding is_at
at_itself p = rw (eq-eqb p.packet_id p.packet_id refl, eq-eqb p.number p.number refl) refl

each_later : (p : Kept) (all ps : List Kept) → Each (λ q. stands_before p q ≡ true) ps → Each (λ q. kept_at all q.packet_id q.number ≡ Some q) ps → Each (λ q. kept_at (p ∷ all) q.packet_id q.number ≡ Some q) ps
each_later p all [] h k = tt
each_later p all (q ∷ ps) h k = (rw (not_at p q h.0) k.0, each_later p all ps h.1 k.1)

each_itself : (kept : List Kept) → Rising stands_before kept → Each (λ p. kept_at kept p.packet_id p.number ≡ Some p) kept
each_itself [] r = tt
each_itself (p ∷ ps) r = (rw (at_itself p) refl, each_later p ps ps r.0 (each_itself ps r.1))

named_each : (known : Known) (all : List Heard) (kept ps : List Kept) → Each (λ p. kept_at kept p.packet_id p.number ≡ Some p) ps
    → flat_map (λ s. named_at known all (kept_at kept s.packet_id s.number)) (map span_of ps) ≡ named_units known.sample_base known.entries (flat_map (λ h. units_by all h h.payload) (map heard ps))
unfolding named_at named_units
named_each known all kept [] h = refl
named_each known all kept (p ∷ ps) h =
    rw h.0 (ap (λ l. named_units known.sample_base known.entries (units_by all (heard p) (heard p).payload) ++ l) (named_each known all kept ps h.1) ∙ sym (flat_append _ (units_by all (heard p) (heard p).payload) (flat_map (λ h. units_by all h h.payload) (map heard ps))))

-- the named units that begin in the packets one after another are all named units
pub named_kept : (known : Known) (kept : List Kept) → IsInOrder kept → flat_map (λ s. named_of known kept s) (map span_of kept) ≡ named_units known.sample_base known.entries (units_of (map heard kept))
unfolding units_of
named_kept known kept order = named_each known (map heard kept) kept kept (each_itself kept (order_rising kept order))
