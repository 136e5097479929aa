-- The parts of a paced cast, put together.
use Rattle.std.proofs.Common.{◌≡◌, ℕ, List, map, length, ap, sym, ◌∙◌, subst, Option}
use Rattle.mmt_base.specs.declared.ticks.LongTick.{LongTick}
use Rattle.mmt_cast.specs.Casting.{has_unit, is_sent_before}
use Rattle.mmt_cast.specs.Placing.{map_from}
use Rattle.mmt_casting.specs.Named.{AreNamed}
use Rattle.mmt_model.specs.Carrying.{table_copy}
use Rattle.mmt_model.specs.Sorted.{sort_by}
use Rattle.mmt_model.specs.declared.casts.Cast.{Cast}
use Rattle.mmt_model.specs.declared.casts.Sent.{Sent}
use Rattle.mmt_model.specs.declared.casts.SentMpu.{SentMpu}
use Rattle.mmt_model.specs.declared.casts.SentUnit.{SentUnit}
use Rattle.mmt_model.specs.declared.casts.TableCopy.{TableCopy}
use Rattle.mmt_pace.specs.Recast.{copy_in_packets, mpu_named_by, paced_by, recast, retimed, ticks_of, unit_in_packets}
use Rattle.mmt_pace.specs.Spanned.{AreCopySpans, AreSpans, has_thing}
use Rattle.mmt_pace.specs.declared.spans.Span.{Span}
use Rattle.mmt_pace.specs.declared.spans.Things.TheVariants as things
use Rattle.mmt_slots.specs.declared.row.Slots.{Slots}

pub units-done : (moved packets : List Sent) (cast : Cast) (us : List SentUnit) (spans ss : List (Option Span)) (units : List SentUnit) → us ≡ cast.units → ss ≡ spans → packets ≡ moved
    → AreSpans (length cast.units) has_unit packets spans → ((ps : List Sent) → AreSpans (length us) has_unit ps ss → units ≡ map_from (unit_in_packets ps) 0 us) → units ≡ map_from (unit_in_packets moved) 0 cast.units
units-done moved packets cast us spans ss units eu es ep are done =
    done moved (subst (λ (xs : List SentUnit). AreSpans (length xs) has_unit moved ss) (sym eu) (subst (λ (xs : List (Option Span)). AreSpans (length cast.units) has_unit moved xs) (sym es) (subst (λ (ps : List Sent). AreSpans (length cast.units) has_unit ps spans) ep are)))
    ∙ ap (map_from (unit_in_packets moved) 0) eu

pub copies-done : (moved packets : List Sent) (cast : Cast) (cs : List TableCopy) (spans ss : List (Option Span)) (copies : List TableCopy) → cs ≡ cast.copies → ss ≡ spans → packets ≡ moved
    → AreSpans (length cast.copies) (has_thing cast things.Copies) packets spans → ((ps : List Sent) → AreCopySpans cs ps ss → copies ≡ map (copy_in_packets ps) cs) → copies ≡ map (copy_in_packets moved) cast.copies
unfolding table_copy
copies-done moved packets cast cs spans ss copies ec es ep are done =
    done moved (subst (λ (xs : List TableCopy). AreCopySpans xs moved ss) (sym ec) (subst (λ (xs : List (Option Span)). AreCopySpans cast.copies moved xs) (sym es) (subst (λ (ps : List Sent). AreCopySpans cast.copies ps spans) ep are)))
    ∙ ap (map (copy_in_packets moved)) ec

pub mpus-done : (cast : Cast) (count : ℕ) (copies all : List TableCopy) (ms : List SentMpu) (named ns : List (Option LongTick)) (mpus : List SentMpu) → count ≡ length cast.mpus → copies ≡ all → ms ≡ cast.mpus → ns ≡ named
    → AreNamed count copies named → ((cs : List TableCopy) → AreNamed (length ms) cs ns → mpus ≡ map_from (mpu_named_by cs) 0 ms) → mpus ≡ map_from (mpu_named_by all) 0 cast.mpus
mpus-done cast count copies all ms named ns mpus en ec em es are done =
    done all (subst (λ (xs : List SentMpu). AreNamed (length xs) all ns) (sym em) (subst (λ (xs : List (Option LongTick)). AreNamed (length cast.mpus) all xs) (sym es) (subst (λ (cs : List TableCopy). AreNamed (length cast.mpus) cs named) ec (subst (λ n. AreNamed n copies named) en are))))
    ∙ ap (map_from (mpu_named_by all) 0) em

-- a cast by its parts
abbrev made_of : Cast → List Sent → List SentUnit → List SentMpu → List TableCopy → Cast
made_of cast packets units mpus copies = record { params = cast.params; packets = packets; units = units; mpus = mpus; copies = copies }

pub put-together : (slots : Slots) (given : List ℕ) (cast : Cast) (packets : List Sent) (units : List SentUnit) (mpus : List SentMpu) (copies : List TableCopy)
    → packets ≡ sort_by is_sent_before (retimed (ticks_of slots given) cast.packets) → units ≡ map_from (unit_in_packets (retimed (ticks_of slots given) cast.packets)) 0 cast.units
    → mpus ≡ map_from (mpu_named_by (map (copy_in_packets (retimed (ticks_of slots given) cast.packets)) cast.copies)) 0 cast.mpus → copies ≡ map (copy_in_packets (retimed (ticks_of slots given) cast.packets)) cast.copies
    → record { params = cast.params; packets = packets; units = units; mpus = mpus; copies = copies } ≡ paced_by slots given cast
unfolding paced_by recast
put-together slots given cast packets units mpus copies ep eu em ec =
    let moved : List Sent = retimed (ticks_of slots given) cast.packets in
    ap (λ (ps : List Sent). made_of cast ps units mpus copies) ep
    ∙ (ap (λ (us : List SentUnit). made_of cast (sort_by is_sent_before moved) us mpus copies) eu
    ∙ (ap (λ (ms : List SentMpu). made_of cast (sort_by is_sent_before moved) (map_from (unit_in_packets moved) 0 cast.units) ms copies) em
    ∙ ap (λ (cs : List TableCopy). made_of cast (sort_by is_sent_before moved) (map_from (unit_in_packets moved) 0 cast.units) (map_from (mpu_named_by (map (copy_in_packets moved) cast.copies)) 0 cast.mpus) cs) ec))
