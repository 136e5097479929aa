-- The cast of a right programme may be paced.
use Rattle.std.proofs.Common.{◌≡◌, ℕ, ◌+◌, ◌<◌, suc, Bool, true, false, ◌==◌, cond, List, [], ◌∷◌, map, length, get_or, arith, refl}
use Rattle.std.specs.List.{AllByRecursion}
use Rattle.mmt_admit.specs.Faults.{CopyFits}
use Rattle.mmt_cast.proofs.Copies.{table-copied}
use Rattle.mmt_cast.proofs.Found.{each-sent}
use Rattle.mmt_cast.proofs.FromRight.{right-programmes-fit}
use Rattle.mmt_cast.proofs.Readable.{readable}
use Rattle.mmt_cast.proofs.Reading.{length-units}
use Rattle.mmt_cast.proofs.Rightness.{IsRightSending}
use Rattle.mmt_cast.proofs.SentIn.{right-sending}
use Rattle.mmt_cast.specs.Casting.{cast_of, copies_as_sent, copy_as_sent, with_number}
use Rattle.mmt_cast.specs.Placing.{flat_map_from}
use Rattle.mmt_cast.specs.Sending.{Sending, carried, packet_of}
use Rattle.mmt_casting.specs.Named.{NamesPlaces}
use Rattle.mmt_frag.specs.Cuts.{parts}
use Rattle.mmt_model.specs.Carrying.{copy_place, no_table_copy, table_copy}
use Rattle.mmt_model.specs.declared.casts.Carries.TheVariants as carries
use Rattle.mmt_model.specs.declared.casts.Cast.{Cast}
use Rattle.mmt_model.specs.declared.casts.Sent.{Sent}
use Rattle.mmt_model.specs.declared.casts.TableCopy.{TableCopy}
use Rattle.mmt_model.specs.declared.programmes.Programme.{Programme}
use Rattle.mmt_model.specs.declared.programmes.Signal.{Signal}
use Rattle.mmt_model.specs.declared.programmes.Signal.TheVariants as signals
use Rattle.mmt_pace.specs.Asked.{AreListed, CanBePaced, CastsCanBePaced, IsCarriedBy}
use Rattle.mmt_pace.specs.Recast.{copy_in_packets}

copies-are : (programme : Programme) → (cast_of programme).copies ≡ copies_as_sent programme
unfolding cast_of
copies-are programme = refl

table-carried : (programme : Programme) (s : ℕ) → copy_place (copies_as_sent programme) s < length (copies_as_sent programme) → copy_place (cast_of programme).copies s < length (cast_of programme).copies
unfolding cast_of
table-carried programme s l = l

carried-by : (programme : Programme) (x : Sending) (k : ℕ) → IsRightSending programme x → IsCarriedBy (cast_of programme) (carried programme x k)
unfolding carried
carried-by programme (Sending.Parameters s at) k is = tt
carried-by programme (Sending.Table s at bytes) k is = go (parts bytes programme.limit == 1) (table-carried programme s (table-copied programme s (record { 0 = at }) is.1 is.0 is.2).0)
  where
    go : (t : Bool) → copy_place (cast_of programme).copies s < length (cast_of programme).copies → IsCarriedBy (cast_of programme) (cond t (carries.Table s) (carries.TablePart s k))
    go true l = l
    go false l = l
carried-by programme (Sending.Alone u x) k is = go (parts x.value.length programme.limit == 1) (omega (arith, is.0, length-units programme))
  where
    go : (t : Bool) → u < length (cast_of programme).units → IsCarriedBy (cast_of programme) (cond t (carries.Whole u) (carries.Fragment u k))
    go true l = l
    go false l = l
carried-by programme (Sending.Group f c x bytes) k is = (omega (arith, is.0), omega (arith, is.1, length-units programme))

all-carried : (programme : Programme) → AllByRecursion (λ (p : Sent). IsCarriedBy (cast_of programme) p.carries) (cast_of programme).packets
unfolding with_number packet_of
all-carried programme = each-sent programme (λ (p : Sent). IsCarriedBy (cast_of programme) p.carries) (λ a b x k e below. carried-by programme x k (right-sending programme a b x e))

after-from : (programme : Programme) (n m : ℕ) (xs : List Signal) → n < m → AllByRecursion (λ (y : TableCopy). n < y.signal) (flat_map_from (copy_as_sent programme) m xs)
unfolding flat_map_from copy_as_sent
after-from programme n m [] l = tt
after-from programme n m (signals.Parameters at ∷ xs) l = after-from programme n (m + 1) xs (omega arith)
after-from programme n m (signals.Table at names ∷ xs) l = (l, after-from programme n (m + 1) xs (omega arith))

listed-from : (programme : Programme) (n : ℕ) (xs : List Signal) → AreListed (flat_map_from (copy_as_sent programme) n xs)
unfolding flat_map_from copy_as_sent
listed-from programme n [] = tt
listed-from programme n (signals.Parameters at ∷ xs) = listed-from programme (n + 1) xs
listed-from programme n (signals.Table at names ∷ xs) = (after-from programme n (n + 1) xs (omega arith), listed-from programme (n + 1) xs)

all-listed : (programme : Programme) → AreListed (cast_of programme).copies
unfolding cast_of copies_as_sent
all-listed programme = listed-from programme 0 programme.signals

pub casts-can-be-paced : CastsCanBePaced
casts-can-be-paced programme right none =
    record {
      readable = readable programme (right-programmes-fit.right programme right) (right-programmes-fit.ticks programme right) none;
      carried = all-carried programme;
      listed = all-listed programme;
    }

-- ---- what the copies name

each-named : (mpus : ℕ) (packets : List Sent) (cs : List TableCopy) → ((c : ℕ) → c < length cs → CopyFits mpus (get_or cs c no_table_copy)) → AllByRecursion (NamesPlaces mpus) (map (copy_in_packets packets) cs)
unfolding copy_in_packets
each-named mpus packets [] h = tt
each-named mpus packets (c ∷ cs) h = (by-recursion (λ m. m < mpus) c.names (h 0 (omega arith)).2, each-named mpus packets cs (λ j l. h (suc j) (omega arith)))
  where
    by-recursion : (P : ℕ → Type 0) (ns : List ℕ) → ((k : ℕ) (d : ℕ) → k < length ns → P (get_or ns k d)) → AllByRecursion P ns
    by-recursion P [] all = tt
    by-recursion P (n ∷ ns) all = (all 0 n (omega arith), by-recursion P ns (λ k d l. all (suc k) d (omega arith)))

pub copies-named : (cast : Cast) (packets : List Sent) → CanBePaced cast → AllByRecursion (NamesPlaces (length cast.mpus)) (map (copy_in_packets packets) cast.copies)
unfolding table_copy
copies-named cast packets can = each-named (length cast.mpus) packets cast.copies (λ c l. can.readable.copies c l)
