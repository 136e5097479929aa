-- What the calls of `take` put out.
use Rattle.std.proofs.Common.{◌≡◌, ◌⊎◌, ℕ, List, [], ◌∷◌, ◌++◌, length, ap, sym, subst, ◌∙◌, refl}
use Rattle.mmt_io.specs.History.{Event}
use Rattle.mmt_io.specs.History.Event.{Note}
use Rattle.mmt_model.specs.Delivery.{newest_first}
use Rattle.mmt_tlv.specs.Framing.{Packet, joined}
use Rattle.mmt_io.specs.Output.{nothing, followed, only_written, only_noted, Puts, PutsPrefix}
use Rattle.mmt_stream.specs.Consuming.{Emits, EmitsStart}
use Rattle.mmt_output.proofs.Putting.{emits, emits_start, puts_both, puts_and_start, puts_noted, start_noted, start_of_part}
use Rattle.mmt_tune.specs.declared.config.Config.{Config}
use Rattle.mmt_recv.specs.Receiving.{received, more, summary_of}
use Rattle.mmt_take.specs.Taking.{placed, last_records, line_of, at_last}
use Rattle.mmt_take.specs.TakingGrows.{received_next}
use Rattle.mmt_take.proofs.Places.{newest_bytes}

at_place : (config : Config) (place : ℕ) (packets : List Packet) (packet : Packet) → place ≡ length (joined packets)
    → followed (received config (placed (newest_first packets))) (more config (placed (newest_first packets)) (record { place = place; packet = packet }))
    ≡ received config (placed (newest_first (packets ++ packet ∷ [])))
at_place config place packets packet at =
    ap (λ n. followed (received config (placed (newest_first packets))) (more config (placed (newest_first packets)) (record { place = n; packet = packet }))) (at ∙ sym (newest_bytes packets))
    ∙ received_next config packets packet

-- a packet more went out
pub pushes : (config : Config) (place : ℕ) (packets : List Packet) (packet : Packet) (old new : List Event) → place ≡ length (joined packets)
    → Puts old new (more config (placed (newest_first packets)) (record { place = place; packet = packet }))
    → Emits old new nothing nothing (received config (placed (newest_first packets))) (received config (placed (newest_first (packets ++ packet ∷ []))))
pushes config place packets packet old new at p = emits old new _ (more config (placed (newest_first packets)) (record { place = place; packet = packet })) _ (at_place config place packets packet at) p

-- a prefix of it went out
pub pushes_start : (config : Config) (place : ℕ) (packets : List Packet) (packet : Packet) (old new : List Event) → place ≡ length (joined packets)
    → PutsPrefix old new (more config (placed (newest_first packets)) (record { place = place; packet = packet }))
    → EmitsStart old new nothing (received config (placed (newest_first packets))) (received config (placed (newest_first (packets ++ packet ∷ []))))
pushes_start config place packets packet old new at p = emits_start old new _ (more config (placed (newest_first packets)) (record { place = place; packet = packet })) _ (at_place config place packets packet at) p

-- what goes out at the end
pub finishes : (config : Config) (packets : List Packet) (old mid new : List Event) (bytes : List ℕ) → Puts old mid (only_written (last_records config (placed (newest_first packets))))
    → bytes ≡ line_of (summary_of config (placed (newest_first packets))) → new ≡ mid ++ Note bytes ∷ []
    → Emits old new nothing nothing (received config (placed (newest_first packets))) (followed (received config (placed (newest_first packets))) (at_last config (placed (newest_first packets))))
finishes config packets old mid new bytes p line sent =
    emits old new _ (at_last config (placed (newest_first packets))) _ refl
    (puts_both old mid new _ (only_noted (line_of (summary_of config (placed (newest_first packets))))) p
    (subst (λ b. Puts mid new (only_noted b)) line (puts_noted mid new bytes sent)))

-- a prefix of it went out, with all records before the note
pub finishes_start : (config : Config) (packets : List Packet) (old mid new : List Event) (bytes : List ℕ) → Puts old mid (only_written (last_records config (placed (newest_first packets))))
    → bytes ≡ line_of (summary_of config (placed (newest_first packets)))
    → (new ≡ mid) ⊎ ((part rest : List ℕ) × (bytes ≡ part ++ rest) × (new ≡ mid ++ Note part ∷ []))
    → EmitsStart old new nothing (received config (placed (newest_first packets))) (followed (received config (placed (newest_first packets))) (at_last config (placed (newest_first packets))))
finishes_start config packets old mid new bytes p line sent =
    emits_start old new _ (at_last config (placed (newest_first packets))) _ refl
    (puts_and_start old mid new _ (only_noted (line_of (summary_of config (placed (newest_first packets))))) p
    (subst (λ b. PutsPrefix mid new (only_noted b)) line (start_noted mid new bytes sent)))

-- a prefix of the records went out
pub finishes_part : (config : Config) (packets : List Packet) (old new : List Event) → PutsPrefix old new (only_written (last_records config (placed (newest_first packets))))
    → EmitsStart old new nothing (received config (placed (newest_first packets))) (followed (received config (placed (newest_first packets))) (at_last config (placed (newest_first packets))))
finishes_part config packets old new p =
    emits_start old new _ (at_last config (placed (newest_first packets))) _ refl (start_of_part old new _ _ p)
