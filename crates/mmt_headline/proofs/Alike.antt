-- What the packets of each cast of a programme carry: the same, whatever their ticks.
use Rattle.std.proofs.Common.{◌≡◌, ℕ, [], ◌∷◌, refl, ap}
use Rattle.mmt_cast.specs.Casting.{cast_of}
use Rattle.mmt_model.specs.Carrying.{Contents, copy_place, entry_of_unit, numbers, part_of_unit, payload_carried, role, sent_unit, table_copy}
use Rattle.mmt_model.specs.Entries.{Entry}
use Rattle.mmt_model.specs.Packets.{Payload}
use Rattle.mmt_model.specs.declared.casts.Carries.{Carries}
use Rattle.mmt_model.specs.declared.casts.Carries.TheVariants as carries
use Rattle.mmt_model.specs.declared.casts.Cast.{Cast}
use Rattle.mmt_model.specs.declared.keys.Part.TheVariants as parts
use Rattle.mmt_model.specs.declared.programmes.Programme.{Programme}
use Rattle.mmt_pace.proofs.Alike.{alike, entry-alike, parts-alike}
use Rattle.mmt_pace.specs.Recast.{IsItsCast}
use Rattle.mmt_sent.specs.Payloads.{Message, Units, Written, left, written}

pub written-alike : (programme : Programme) (cast : Cast) (contents : Contents) → IsItsCast programme cast → (c : Carries) → written cast contents c ≡ written (cast_of programme) contents c
unfolding written
written-alike programme cast contents its (carries.Whole u) = rw (entry-alike programme cast contents its u) refl
written-alike programme cast contents its (carries.Fragment u k) = rw (entry-alike programme cast contents its u, ((alike programme cast its).unit u).count) refl
written-alike programme cast contents its (carries.Group f n) = rw (entry-alike programme cast contents its f) refl
written-alike programme cast contents its (carries.Parameters s) = refl
written-alike programme cast contents its (carries.Table s) = refl
written-alike programme cast contents its (carries.TablePart s k) = ap (λ (n : ℕ). Message (role k n) (left k n) (contents.message_part s k)) (parts-alike programme cast its s)

pub carried-alike : (programme : Programme) (cast : Cast) (contents : Contents) → IsItsCast programme cast → (c : Carries) → payload_carried cast contents c ≡ payload_carried (cast_of programme) contents c
unfolding payload_carried
carried-alike programme cast contents its (carries.Whole u) = rw (entry-alike programme cast contents its u) refl
carried-alike programme cast contents its (carries.Fragment u k) = rw (entry-alike programme cast contents its u, ((alike programme cast its).unit u).count) refl
carried-alike programme cast contents its (carries.Group f n) = rw (entry-alike programme cast contents its f) refl
carried-alike programme cast contents its (carries.Parameters s) = refl
carried-alike programme cast contents its (carries.Table s) = refl
carried-alike programme cast contents its (carries.TablePart s k) = ap (λ (n : ℕ). Payload.Signalling (role k n) (contents.message_part s k ∷ [])) (parts-alike programme cast its s)
